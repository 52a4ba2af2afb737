-- What reading the tokens of a file as a document or as a script file answers.
use Rattle.std.specs.Prelude.{◌≡◌, List, [], ◌∷◌, ◌++◌, Option, Some, None, MatchOption, Result, Ok, Err}
use Rattle.qml_base.specs.declared.numbers.Place.{Place}
use Rattle.qml_syntax.specs.declared.token.Token.{Token}
use Rattle.js_machine.specs.declared.fault.ParseFault.{ParseFault}
use Rattle.js_machine.specs.declared.fault.ParseFault.TheVariants as fault
use Rattle.qml_syntax.specs.ReadsDocument.{ReadsDocument, ReadsScript}
use Rattle.qml_syntax.specs.Depth.{deep_whole}
use Rattle.qml_machine.specs.DocumentMachine.{Entry, a_document, a_script, FileTree, whole_of, of_document, of_script, run, start_of}

abbrev pub ReadsText : Entry → FileTree → List Token → List Token → Type 0
ReadsText a_document (of_document d) a rest = ReadsDocument d a rest
ReadsText a_script (of_script s) a rest = ReadsScript s a rest
ReadsText _ _ a rest = ⊥

-- the tokens are a front of some list that a tree reads
abbrev pub IsReadPrefix : Entry → List Token → Type 0
IsReadPrefix y front = (more : List Token) × (w : FileTree) × ReadsText y w (front ++ more) []

-- the front is a read prefix, and no longer front is one
pub record Parts (y : Entry) (tokens front rest : List Token) : Type 0 where
  pub split : tokens ≡ front ++ rest
  pub goes_on : IsReadPrefix y front
  pub ends : (t : Token) (more : List Token) → rest ≡ t ∷ more → IsReadPrefix y (front ++ t ∷ []) → ⊥

abbrev pub IsTreeOf : Entry → List Token → Option FileTree → Type 0
IsTreeOf y front answer = MatchOption answer ((w : FileTree) → ReadsText y w front [] → ⊥) (λ w. ReadsText y w front [])

pub record IsAnswer (y : Entry) (tokens : List Token) (answer : Option FileTree) (rest : List Token) : Type 0 where
  pub front : List Token
  pub parts : Parts y tokens front rest
  pub tree : IsTreeOf y front answer

-- ---- all tokens of a file before its end

abbrev pub deep_text : FileTree → Option Place
deep_text w = deep_whole (whole_of w)

-- the tree that reads all of them before the end e, or the first token with which no read prefix goes on, or the first node that is too deep
abbrev pub TellsText : {T : Type 0} → (T → FileTree → Type 0) → Entry → List Token → Token → Result T ParseFault → Type 0
TellsText Shows y before e (Ok answer) = (w : FileTree) × Shows answer w × ReadsText y w before [] × (deep_text w ≡ None)
TellsText Shows y before e (Err (fault.Syntax place)) = ((w : FileTree) → ReadsText y w before [] → ⊥) × ((front : List Token) × (t : Token) × (more : List Token) × Parts y (before ++ e ∷ []) front (t ∷ more) × (t.place ≡ place))
TellsText Shows y before e (Err (fault.TooDeep place)) = (w : FileTree) × ReadsText y w before [] × (deep_text w ≡ Some place)
TellsText Shows y before e (Err fault.NoMemory) = Unit {0}

abbrev pub IsSame : FileTree → FileTree → Type 0
IsSame v w = v ≡ w

-- ---- the answer that the machine computes

abbrev pub by_depth : Option Place → FileTree → Result FileTree ParseFault
by_depth None w = Ok w
by_depth (Some place) w = Err (fault.TooDeep place)

abbrev pub by_tree : Option FileTree → Token → List Token → Result FileTree ParseFault
by_tree (Some w) t [] = by_depth (deep_text w) w
by_tree _ t more = Err (fault.Syntax t.place)

abbrev pub by_rest : Option FileTree → List Token → Result FileTree ParseFault
by_rest o [] = Err fault.NoMemory
by_rest o (t ∷ more) = by_tree o t more

abbrev pub parse_of : Entry → List Token → Result FileTree ParseFault
parse_of y tokens = by_rest (run tokens (start_of y)).tree (run tokens (start_of y)).rest

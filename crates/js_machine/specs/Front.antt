-- What reading at a place among the tokens of a file answers. The last token is the file's end.
use Rattle.std.specs.Prelude.{◌≡◌, ℕ, ◌-◌, ◌≤◌, ◌<◌, List, [], ◌∷◌, ◌++◌, length, take, drop, Option, Some, None, Result, Ok, Err}
use Rattle.qml_base.specs.declared.numbers.Place.{Place}
use Rattle.qml_syntax.specs.declared.token.TokenKind.TheVariants as k
use Rattle.qml_syntax.specs.declared.token.Token.{Token}
pub use Rattle.qml_syntax.specs.Depth.{deep_whole}
use Rattle.js_machine.specs.declared.fault.ParseFault.{ParseFault}
use Rattle.js_machine.specs.declared.fault.ParseFault.TheVariants as fault
use Rattle.js_machine.specs.Machine.{Entry, Whole, Outcome, go, start_of}
use Rattle.js_machine.specs.Answer.{ReadsWhole, IsReadPrefix}

-- the tokens of a file: the last is its end
abbrev pub AreWhole : List Token → Type 0
AreWhole tokens = (before : List Token) × (e : Token) × (tokens ≡ before ++ e ∷ []) × (e.what ≡ k.End)

-- the tokens from a place up to m are the longest front of them that some tree goes on with
pub record IsLongestFront (y : Entry) (tokens : List Token) (from m : ℕ) (front : List Token) : Type 0 where
  pub behind : from ≤ m
  pub inside : m < length tokens
  pub is_front : front ≡ take (m - from) (drop from tokens)
  pub goes_on : IsReadPrefix y front
  pub ends : (t : Token) (more : List Token) → drop m tokens ≡ t ∷ more → IsReadPrefix y (front ++ t ∷ []) → ⊥

-- the tree of this front, in a form that shows it, and where it ends, or why there is none
abbrev pub TellsFront : {T : Type 0} → (T → Whole → Type 0) → Entry → List Token → List Token → ℕ → Result (T × ℕ) ParseFault → Type 0
TellsFront Shows y tokens front m (Ok answer) = (answer.1 ≡ m) × (w : Whole) × Shows answer.0 w × ReadsWhole y w front [] × (deep_whole w ≡ None)
TellsFront Shows y tokens front m (Err (fault.Syntax place)) = ((w : Whole) → ReadsWhole y w front [] → ⊥) × ((t : Token) (more : List Token) → drop m tokens ≡ t ∷ more → t.place ≡ place)
TellsFront Shows y tokens front m (Err (fault.TooDeep place)) = (w : Whole) × ReadsWhole y w front [] × (deep_whole w ≡ Some place)
TellsFront Shows y tokens front m (Err fault.NoMemory) = Unit {0}

pub record FrontAnswer {T : Type 0} (Shows : T → Whole → Type 0) (y : Entry) (tokens : List Token) (from : ℕ) (answer : Result (T × ℕ) ParseFault) : Type 0 where
  pub m : ℕ
  pub front : List Token
  pub longest : IsLongestFront y tokens from m front
  pub tells : TellsFront Shows y tokens front m answer

-- the tree itself
abbrev pub IsSame : Whole → Whole → Type 0
IsSame v w = v ≡ w

-- ---- the answer that the machine computes

abbrev pub by_depth : Option Place → Whole → ℕ → Result (Whole × ℕ) ParseFault
by_depth None w m = Ok (w, m)
by_depth (Some place) w m = Err (fault.TooDeep place)

abbrev pub by_rest : List Token → Result (Whole × ℕ) ParseFault
by_rest [] = Err fault.NoMemory
by_rest (t ∷ more) = Err (fault.Syntax t.place)

abbrev pub by_tree : Option Whole → List Token → ℕ → Result (Whole × ℕ) ParseFault
by_tree None rest m = by_rest rest
by_tree (Some w) rest m = by_depth (deep_whole w) w m

abbrev pub by_outcome : ℕ → Outcome → Result (Whole × ℕ) ParseFault
by_outcome n out = by_tree out.tree out.rest (n - length out.rest)

abbrev pub parse_of : Entry → List Token → ℕ → Result (Whole × ℕ) ParseFault
parse_of y tokens from = by_outcome (length tokens) (go (drop from tokens) (start_of y))

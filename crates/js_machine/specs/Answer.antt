-- What reading at the front of some tokens answers.
use Rattle.std.specs.Prelude.{◌≡◌, List, [], ◌∷◌, ◌++◌, Option, MatchOption}
use Rattle.qml_syntax.specs.declared.token.Token.{Token}
use Rattle.qml_syntax.specs.Reads.{Reads, ReadsStmt, ReadsStmts}
use Rattle.js_machine.specs.Machine.{Entry, an_expression, a_statement, a_body, Whole, whole_expr, whole_stmt, whole_body}
use Rattle.std.specs.Prelude.{false}

-- what the tree of an entry reads; a statement and a body stand in no loop
abbrev pub ReadsWhole : Entry → Whole → List Token → List Token → Type 0
ReadsWhole an_expression (whole_expr e) a rest = Reads e a rest
ReadsWhole a_statement (whole_stmt s) a rest = ReadsStmt false s a rest
ReadsWhole a_body (whole_body ss) a rest = ReadsStmts false ss a rest
ReadsWhole _ _ a rest = ⊥

-- the tokens are a front of some list that a tree reads
abbrev pub IsReadPrefix : Entry → List Token → Type 0
IsReadPrefix y front = (more : List Token) × (w : Whole) × ReadsWhole y w (front ++ more) []

-- the front is a read prefix, and no longer front is one
pub record Parts (y : Entry) (tokens front rest : List Token) : Type 0 where
  pub split : tokens ≡ front ++ rest
  pub goes_on : IsReadPrefix y front
  pub ends : (t : Token) (more : List Token) → rest ≡ t ∷ more → IsReadPrefix y (front ++ t ∷ []) → ⊥

-- the tree that reads the front, or none where no tree does
abbrev pub IsTreeOf : Entry → List Token → Option Whole → Type 0
IsTreeOf y front answer = MatchOption answer ((w : Whole) → ReadsWhole y w front [] → ⊥) (λ w. ReadsWhole y w front [])

pub record IsAnswer (y : Entry) (tokens : List Token) (answer : Option Whole) (rest : List Token) : Type 0 where
  pub front : List Token
  pub parts : Parts y tokens front rest
  pub tree : IsTreeOf y front answer

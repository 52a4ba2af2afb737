-- The bodies of a unit, as they stand in its tree.
use Rattle.std.specs.Borrow.{Bor}
use Rattle.std.specs.Prelude.{◌≡◌, ℕ, Bool as 𝔹, true, false, List, [], ◌∷◌, ◌++◌, map, slice_get, Option, Some, None, IfSome, Result, Ok, Err}
use Rattle.std.specs.declared.vec.Vec.{Vec}
use Rattle.std.specs.declared.alloc.Global.{Global}
use Rattle.qml_base.specs.declared.numbers.Place.{Place}
use Rattle.qml_syntax.specs.declared.node.Node.{Node}
use Rattle.qml_syntax.specs.declared.node.Node.TheVariants as node
use Rattle.qml_syntax.specs.Tree.{Units, Stmt, Stmts, no_stmts, Function, binding, Whole, whole_body}
use Rattle.qml_syntax.specs.Nodes.{Item, of_stmt, of_step, of_body, of_function, of_par, Table, top_stmt, top_function}
use Rattle.js_locals.specs.Laid.{Laid, laid, name_of, stmts_in}
use Rattle.js_locals.specs.Gathering.{row_from}
use Rattle.js_locals.specs.Texts.{StandsAs}
use Rattle.unit_rows.specs.Texts.{function_of, text_of}
use Rattle.unit_rows.specs.Rows.{Body, of_statement, of_function as of_a_function, of_statements}
use Rattle.unit_rows.specs.declared.body.BodyRow.{BodyRow}
use Rattle.unit_rows.specs.declared.body.BodyRow.TheVariants as row
use Rattle.unit_rows.specs.declared.bodies.BodiesFault.{BodiesFault}
use Rattle.unit_rows.specs.declared.bodies.BodiesFault.TheVariants as fault
use Rattle.unit_rows.specs.declared.parts.Places.{Places}

-- it holds of each
abbrev pub Each : {A : Type 0} → (A → Type 0) → List A → Type 0
Each P [] = Unit {0}
Each P (x ∷ rest) = P x × Each P rest

-- a unit's tree, its bodies as rows, and the places of its `Qt.binding`s with the bodies of their functions
pub record UnitTexts : Type 0 where
  pub tree : Table
  pub rows : List BodyRow
  pub bindings : List (Place × ℕ)

abbrev pub statements_in : Item → Stmts
statements_in (of_body ss) = ss
statements_in (of_step (binding p ss)) = ss
statements_in _ = no_stmts

-- the body that a row names
abbrev pub body_in : Laid → BodyRow → Body
body_in c (row.Statement at names) = of_statement (top_stmt (c.item at ∷ [])) names
body_in c (row.Function at) = of_a_function (top_function (c.item at ∷ []))
body_in c (row.Statements at) = of_statements (statements_in (c.item at))

-- a part of the row's sort stands where it says
abbrev pub IsThere : Laid → BodyRow → Type 0
IsThere c (row.Statement at names) = (d : Stmt) × (c.item at ≡ of_stmt d)
IsThere c (row.Function at) = (f : Function) × (c.item at ≡ of_function f)
IsThere c (row.Statements at) = (ss : Stmts) × StandsAs (whole_body ss) (c.item at)

-- where a body is evaluated from, where the names of its parameters stand, and the part behind which a function's statements are
pub record IsPlaced (c : Laid) (b : Body) (text : ℕ) (parameters : List ℕ) (statements : Option ℕ) : Type 0 where
  pub begins : StandsAs (text_of b) (c.item text)
  pub names : map (name_of c) parameters ≡ (function_of b).parameters
  pub behind : IfSome statements (λ mark. stmts_in (c.rest mark) ≡ (function_of b).statements)

abbrev pub ArePlaces : Laid → Body → Places → Type 0
ArePlaces c b p = IsPlaced c b p.text p.parameters.items p.statements

-- each of these rows has its places
abbrev pub HavePlaces : Laid → List BodyRow → List Places → Type 0
HavePlaces c [] [] = Unit {0}
HavePlaces c (r ∷ rows) (p ∷ places) = ArePlaces c (body_in c r) p × HavePlaces c rows places
HavePlaces c _ _ = ⊥

-- what is answered where the places of a body of a sort are looked for, and what where those of a row are
abbrev pub AreOfStatement : Laid → ℕ → Result Places BodiesFault → Type 0
AreOfStatement c at (Ok p) = ((d : Stmt) × (c.item at ≡ of_stmt d)) × ((names : List Units) → ArePlaces c (body_in c (row.Statement at names)) p)
AreOfStatement c at (Err fault.NotThere) = (d : Stmt) → c.item at ≡ of_stmt d → ⊥
AreOfStatement c at (Err fault.NoMemory) = Unit {0}

abbrev pub AreOfAFunction : Laid → ℕ → Result Places BodiesFault → Type 0
AreOfAFunction c at (Ok p) = ((f : Function) × (c.item at ≡ of_function f)) × ArePlaces c (body_in c (row.Function at)) p
AreOfAFunction c at (Err fault.NotThere) = (f : Function) → c.item at ≡ of_function f → ⊥
AreOfAFunction c at (Err fault.NoMemory) = Unit {0}

abbrev pub AreOfStatements : Laid → ℕ → Result Places BodiesFault → Type 0
AreOfStatements c at (Ok p) = ((ss : Stmts) × StandsAs (whole_body ss) (c.item at)) × ArePlaces c (body_in c (row.Statements at)) p
AreOfStatements c at (Err fault.NotThere) = (ss : Stmts) → StandsAs (whole_body ss) (c.item at) → ⊥
AreOfStatements c at (Err fault.NoMemory) = Unit {0}

abbrev pub AreFound : Laid → BodyRow → Result Places BodiesFault → Type 0
AreFound c r (Ok p) = IsThere c r × ArePlaces c (body_in c r) p
AreFound c r (Err fault.NotThere) = IsThere c r → ⊥
AreFound c r (Err fault.NoMemory) = Unit {0}

abbrev pub ArePlaced : Laid → List BodyRow → Result (Vec Places Global) BodiesFault → Type 0
ArePlaced c rows (Ok places) = HavePlaces c rows places.items × Each (IsThere c) rows
ArePlaced c rows (Err fault.NotThere) = Each (IsThere c) rows → ⊥
ArePlaced c rows (Err fault.NoMemory) = Unit {0}

-- some rows are placed, others are left
pub record Placing (c : Laid) (all : List BodyRow) (places : List Places) (left : List BodyRow) : Type 0 where
  pub done : List BodyRow
  pub rows : done ++ left ≡ all
  pub placed : HavePlaces c done places
  pub all_there : Each (IsThere c) left → Each (IsThere c) all
  pub left_there : Each (IsThere c) all → Each (IsThere c) left

-- the body of a number with its places, or none
abbrev pub IsBodyOf : Laid → List BodyRow → ℕ → Option (Bor Places) → Type 0
IsBodyOf c rows at None = slice_get rows at ≡ None
IsBodyOf c rows at (Some p) = (r : BodyRow) × (slice_get rows at ≡ Some r) × ArePlaces c (body_in c r) p.now

abbrev pub IsMade : Table → List BodyRow → List (Place × ℕ) → Result UnitTexts BodiesFault → Type 0
IsMade t rows bindings (Ok texts) = (texts ≡ record { tree = t; rows = rows; bindings = bindings }) × Each (IsThere (laid t)) rows
IsMade t rows bindings (Err fault.NotThere) = Each (IsThere (laid t)) rows → ⊥
IsMade t rows bindings (Err fault.NoMemory) = Unit {0}

-- ---- parameters

-- the names of the parameters in front of a row of parts, and the parts behind them
abbrev pub names_before : List Item → List Units
names_before (of_par n q ∷ is) = n ∷ names_before is
names_before _ = []

abbrev pub behind_names : List Item → List Item
behind_names (of_par n q ∷ is) = behind_names is
behind_names is = is

-- a parameter's name stands in front of the other parts of a row, or none does
abbrev pub TakesName : Laid → ℕ → Option ℕ → Type 0
TakesName c at (Some p) = (names_before (c.item at ∷ c.rest at) ≡ name_of c p ∷ names_before (c.rest at)) × (behind_names (c.item at ∷ c.rest at) ≡ behind_names (c.rest at))
TakesName c at None = (names_before (c.item at ∷ c.rest at) ≡ []) × (behind_names (c.item at ∷ c.rest at) ≡ c.item at ∷ c.rest at)

-- ---- nodes

abbrev pub is_parameter_node : Node → 𝔹
is_parameter_node node.Parameter = true
is_parameter_node _ = false

abbrev pub is_function_node : Node → 𝔹
is_function_node (node.Function p) = true
is_function_node _ = false

-- a node behind whose first part statements stand
abbrev pub holds_statements : Node → 𝔹
holds_statements node.Body = true
holds_statements (node.Binding p) = true
holds_statements _ = false

-- ---- what stands at a place

abbrev pub HoldsStatement : Item → 𝔹 → Type 0
HoldsStatement i true = (d : Stmt) × (i ≡ of_stmt d)
HoldsStatement i false = (d : Stmt) → i ≡ of_stmt d → ⊥

-- the part behind which statements stand, where the part at a place has some
abbrev pub AreStatementsAt : Laid → ℕ → Option ℕ → Type 0
AreStatementsAt c at None = (ss : Stmts) → StandsAs (whole_body ss) (c.item at) → ⊥
AreStatementsAt c at (Some mark) = StandsAs (whole_body (stmts_in (c.rest mark))) (c.item at)

pub record AreOfFunction (c : Laid) (at : ℕ) (p : Places) : Type 0 where
  pub are : (f : Function) → c.item at ≡ of_function f → ArePlaces c (of_a_function f) p

abbrev pub IsFunctionAt : Laid → ℕ → Option Places → Type 0
IsFunctionAt c at None = (f : Function) → c.item at ≡ of_function f → ⊥
IsFunctionAt c at (Some p) = ((f : Function) × (c.item at ≡ of_function f)) × AreOfFunction c at p

-- names that were found behind a mark, and the parts that are left
pub record Naming (c : Laid) (mark : ℕ) (names : List ℕ) (part : Option ℕ) : Type 0 where
  pub found : map (name_of c) names ++ names_before (row_from c part) ≡ names_before (c.rest mark)
  pub last : behind_names (row_from c part) ≡ behind_names (c.rest mark)

abbrev pub AreNamesBehind : Laid → ℕ → List ℕ → Option ℕ → Type 0
AreNamesBehind c mark names part = (map (name_of c) names ≡ names_before (c.rest mark)) × (row_from c part ≡ behind_names (c.rest mark))

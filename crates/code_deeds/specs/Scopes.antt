-- Blocks, loops and functions that are entered. Entries have the innermost in front, tasks the next one.
use Rattle.std.specs.Prelude.{◌≡◌, ℕ, Bool, false, not, List, [], ◌∷◌, ◌++◌, map, Option, Some, None}
use Rattle.qml_base.specs.declared.numbers.Place.{Place}
use Rattle.qml_syntax.specs.declared.node.Node.{Node}
use Rattle.qml_syntax.specs.declared.node.Node.TheVariants as node
use Rattle.qml_syntax.specs.Tree.{Units, Stmts}
use Rattle.qml_syntax.specs.Nodes.{Item, Table, top_first}
use Rattle.qml_syntax.specs.Opened.{parts_of}
use Rattle.qml_syntax.specs.Places.{part_at, places_of, behind}
use Rattle.js_meaning.specs.Locals.{is_var}
use Rattle.js_locals.specs.Laid.{laid, name_of, stmts_in}
use Rattle.code_deeds.specs.declared.around.Entry.{Entry}
use Rattle.code_deeds.specs.declared.around.Entry.TheVariants as entry
use Rattle.code_deeds.specs.declared.form.Form.{Form}
use Rattle.code_deeds.specs.declared.form.Form.TheVariants as form
use Rattle.code_deeds.specs.declared.form.StepForm.{StepForm}
use Rattle.code_deeds.specs.declared.form.StepForm.TheVariants as step
use Rattle.code_deeds.specs.declared.tasks.Task.{Task}
use Rattle.code_deeds.specs.declared.tasks.Task.TheVariants as task
use Rattle.code_deeds.specs.Forms.{node_at}
use Rattle.code_deeds.specs.Deeds as d

abbrev pub name_entry : ℕ → Entry
name_entry p = entry.Name p

abbrev pub name_entries : List ℕ → List Entry
name_entries ps = map name_entry ps

-- the names at places
abbrev pub names_at : Table → List ℕ → List Units
names_at t ps = map (name_of (laid t)) ps

abbrev pub behind_first : List Item → List Item
behind_first [] = []
behind_first (i ∷ is) = is

-- the statements behind the mark of a node
abbrev pub stmts_at : Table → ℕ → Stmts
stmts_at t p = stmts_in (behind_first (parts_of (part_at t p)))

abbrev pub AreLets : Table → ℕ → List ℕ → Type 0
AreLets t p names = names_at t names ≡ d.lets_in (stmts_at t p)

abbrev pub AreVars : Table → ℕ → List ℕ → Type 0
AreVars t p names = names_at t names ≡ d.vars_in (stmts_at t p)

-- ---- the beginning of a `for`

abbrev pub declares_lets : Node → Bool
declares_lets (node.FirstDeclare p k) = not (is_var k)
declares_lets _ = false

abbrev pub AreFirstLets : Table → ℕ → List ℕ → Type 0
AreFirstLets t p names = names_at t names ≡ d.lets_of_first (top_first (part_at t p ∷ []))

abbrev pub FirstLetsAt : Table → List ℕ → List ℕ → Type 0
FirstLetsAt t [] names = ⊥
FirstLetsAt t (p ∷ ps) names = AreFirstLets t p names

abbrev pub AreForLets : Table → ℕ → List ℕ → Type 0
AreForLets t p names = FirstLetsAt t (places_of t p) names

-- ---- entering

pub record EntersBlock (names : List ℕ) (old new : List Entry) (tasks more : List Task) : Type 0 where
  pub entries : new ≡ name_entries names ++ entry.Block ∷ old
  pub left : more ≡ task.Leave ∷ tasks

pub record EntersWith (Named : List ℕ → Type 0) (old new : List Entry) (tasks more : List Task) : Type 0 where
  pub names : List ℕ
  pub told : Named names
  pub entered : EntersBlock names old new tasks more

abbrev Stays : List Entry → List Entry → List Task → List Task → Type 0
Stays old new tasks more = (new ≡ old) × (more ≡ tasks)

abbrev pub Enters : Table → ℕ → Form → List Entry → List Entry → List Task → List Task → Type 0
Enters t p form.Block old new tasks more = EntersWith (AreLets t p) old new tasks more
Enters t p form.For old new tasks more = EntersWith (AreForLets t p) old new tasks more
Enters t p form.Name old new tasks more = Stays old new tasks more
Enters t p (form.ChangesFirst q) old new tasks more = Stays old new tasks more
Enters t p (form.ChangesLast q) old new tasks more = Stays old new tasks more
Enters t p form.Steps old new tasks more = Stays old new tasks more
Enters t p form.Assign old new tasks more = Stays old new tasks more
Enters t p form.Parts old new tasks more = Stays old new tasks more
Enters t p form.Other old new tasks more = Stays old new tasks more

-- the names of a body stand around it
pub record HasBody (t : Table) (p : ℕ) (old new : List Entry) : Type 0 where
  pub lets : List ℕ
  pub vars : List ℕ
  pub are_lets : AreLets t p lets
  pub are_vars : AreVars t p vars
  pub entries : new ≡ name_entries lets ++ (name_entries vars ++ old)

pub record EntersFunction (t : Table) (p : ℕ) (bound : Option Place) (old new : List Entry) (tasks more : List Task) : Type 0 where
  pub body : HasBody t p (entry.Function bound ∷ old) new
  pub left : more ≡ task.Leave ∷ tasks

abbrev pub EntersStep : Table → ℕ → Option Place → StepForm → List Entry → List Entry → List Task → List Task → Type 0
EntersStep t p bound (step.Binding q) old new tasks more = EntersFunction t p bound old new tasks more
EntersStep t p bound step.Element old new tasks more = Stays old new tasks more
EntersStep t p bound (step.Call q) old new tasks more = Stays old new tasks more
EntersStep t p bound step.Other old new tasks more = Stays old new tasks more

-- ---- the names of a whole

abbrev pub first_place : List ℕ → Option ℕ
first_place [] = None
first_place (p ∷ ps) = Some p

abbrev pub parameter_in : Node → List ℕ → Option ℕ
parameter_in node.Parameter ps = first_place ps
parameter_in _ ps = None

-- the place of a parameter's name
abbrev pub parameter_at : Table → ℕ → Option ℕ
parameter_at t p = parameter_in (node_at t p) (places_of t p)

abbrev pub entry_of : Option ℕ → List Entry
entry_of None = []
entry_of (Some p) = entry.Name p ∷ []

abbrev pub parameter_entry : Table → ℕ → List Entry
parameter_entry t p = entry_of (parameter_at t p)

abbrev pub parameter_entries : Table → List ℕ → List Entry
parameter_entries t [] = []
parameter_entries t (p ∷ ps) = parameter_entry t p ++ parameter_entries t ps

-- the statement at a place and those behind it
abbrev pub stmts_from : Table → ℕ → Stmts
stmts_from t p = stmts_in (part_at t p ∷ map (part_at t) (behind t p))

abbrev pub AreLetsFrom : Table → ℕ → List ℕ → Type 0
AreLetsFrom t p names = names_at t names ≡ d.lets_in (stmts_from t p)

abbrev pub AreVarsFrom : Table → ℕ → List ℕ → Type 0
AreVarsFrom t p names = names_at t names ≡ d.vars_in (stmts_from t p)

pub record HasSingle (t : Table) (p : ℕ) (old new : List Entry) : Type 0 where
  pub lets : List ℕ
  pub vars : List ℕ
  pub are_lets : AreLetsFrom t p lets
  pub are_vars : AreVarsFrom t p vars
  pub entries : new ≡ name_entries lets ++ (name_entries vars ++ old)

-- the last of the parts of a function is its body, and the names of the others and those of the body stand around it
pub record HasFunction (t : Table) (parts : List ℕ) (body : ℕ) (old new : List Entry) : Type 0 where
  pub before : List ℕ
  pub between : List Entry
  pub split : parts ≡ before ++ body ∷ []
  pub parameters : between ≡ parameter_entries t before ++ old
  pub named : HasBody t body between new

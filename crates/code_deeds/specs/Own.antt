-- What is done at a node itself, by the nodes around it. The entries have the innermost in front.
use Rattle.std.specs.Prelude.{ℕ, Bool, true, false, ◌&&◌, not, if◌then◌else◌, List, [], ◌∷◌, reverse, codes, Option, Some, None}
use Rattle.std.specs.Str.{bytes_eq}
use Rattle.qml_base.specs.declared.numbers.Place.{Place}
use Rattle.qml_syntax.specs.declared.node.Node.{Node}
use Rattle.qml_syntax.specs.declared.node.Node.TheVariants as node
use Rattle.qml_syntax.specs.Nodes.{Table}
use Rattle.js_locals.specs.Laid.{laid, name_of, is_name}
use Rattle.code_deeds.specs.declared.around.Entry.{Entry}
use Rattle.code_deeds.specs.declared.around.Start.{Start}
use Rattle.code_deeds.specs.declared.doing.Doing.{Doing}
use Rattle.code_deeds.specs.declared.doing.Doing.TheVariants as doing
use Rattle.code_deeds.specs.declared.form.Form.{Form}
use Rattle.code_deeds.specs.declared.form.Form.TheVariants as form
use Rattle.code_deeds.specs.declared.form.StepForm.{StepForm}
use Rattle.code_deeds.specs.declared.form.StepForm.TheVariants as step
use Rattle.code_deeds.specs.declared.tasks.Callee.{Callee}
use Rattle.code_deeds.specs.declared.tasks.Callee.TheVariants as callee
use Rattle.code_deeds.specs.Around as a
use Rattle.code_deeds.specs.Forms.{node_at}

-- ---- values that begin with `Qt.binding`

abbrev pub qt_in : Node → Option Place
qt_in (node.Name n p) = if bytes_eq n (codes "Qt") then Some p else None
qt_in _ = None

abbrev pub binding_in : Node → Bool
binding_in (node.Member m p) = bytes_eq m (codes "binding")
binding_in _ = false

abbrev pub bound_by : Table → ℕ → ℕ → Option Place
bound_by t e i = if binding_in (node_at t i) then qt_in (node_at t e) else None

abbrev bound_behind : Table → ℕ → List ℕ → Option Place
bound_behind t e [] = None
bound_behind t e (i ∷ is) = bound_by t e i

abbrev pub bound : Table → List ℕ → Option Place
bound t [] = None
bound t (e ∷ is) = bound_behind t e is

abbrev pub is_call : Node → Bool
is_call (node.Call p) = true
is_call (node.Binding p) = true
is_call _ = false

abbrev pub no_more : List ℕ → Bool
no_more [] = true
no_more (p ∷ ps) = false

abbrev pub ends_call : Table → List ℕ → Bool
ends_call t [] = true
ends_call t (i ∷ is) = no_more is && is_call (node_at t i)

abbrev short_behind : Table → List ℕ → Bool
short_behind t [] = true
short_behind t (i ∷ is) = ends_call t is

abbrev pub is_short : Table → List ℕ → Bool
is_short t [] = true
is_short t (e ∷ is) = short_behind t is

-- ---- names and targets

abbrev pub is_local_at : Table → Start → List Entry → ℕ → Bool
is_local_at t st es p = is_name (node_at t p) && a.is_local (laid t) st.given.items (name_of (laid t) p) es

abbrev pub is_misplaced : Table → Start → List Entry → ℕ → Bool
is_misplaced t st es p =
    if a.is_local (laid t) st.given.items (name_of (laid t) p) es
    then false
    else a.is_around (laid t) st.given.items (name_of (laid t) p) es

abbrev pub name_by : Bool → Option Place → List Doing
name_by misplaced None = []
name_by misplaced (Some q) = if misplaced then doing.Misbinds q ∷ [] else []

abbrev pub name_doings : Table → Start → List Entry → ℕ → List Doing
name_doings t st es p = name_by (is_misplaced t st es p) (a.inside es)

abbrev pub write_doings : Table → Start → List Entry → ℕ → Place → List Doing
write_doings t st es p q =
    if a.is_pure st.pure es then if is_local_at t st es p then [] else doing.Effect q ∷ [] else []

abbrev pub first_doings : Table → Start → List Entry → List ℕ → Place → List Doing
first_doings t st es [] q = []
first_doings t st es (p ∷ ps) q = write_doings t st es p q

abbrev pub bound_doings : Bool → Option Place → List Doing
bound_doings fine None = []
bound_doings fine (Some q) = if fine then [] else doing.Misbinds q ∷ []

abbrev pub steps_doings : Table → Start → Bool → List ℕ → List Doing
steps_doings t st right ps = bound_doings (right && is_short t ps && not st.in_script) (bound t ps)

abbrev pub own_doings : Table → Start → List Entry → Bool → ℕ → Form → List ℕ → List Doing
own_doings t st es right at form.Name ps = name_doings t st es at
own_doings t st es right at (form.ChangesFirst q) ps = first_doings t st es ps q
own_doings t st es right at (form.ChangesLast q) ps = first_doings t st es (reverse ps) q
own_doings t st es right at form.Steps ps = steps_doings t st right ps
own_doings t st es right at _ ps = []

-- ---- calls

abbrev pub place_of_name : Node → Place
place_of_name (node.Name n p) = p
place_of_name (node.Member m p) = p
place_of_name _ = record { line = 0; column = 0 }

abbrev pub name_call : Table → Start → List Entry → ℕ → Place → Doing
name_call t st es p q =
    if a.is_local (laid t) st.given.items (name_of (laid t) p) es then doing.Effect q else doing.CallsName p

abbrev pub member_call : Table → Start → List Entry → ℕ → ℕ → Doing
member_call t st es p m =
    if a.is_local (laid t) st.given.items (name_of (laid t) p) es then doing.CallsMember m else doing.CallsOf p m

abbrev pub call_doing : Table → Start → List Entry → Callee → Place → Doing
call_doing t st es (callee.Name p) bracket = name_call t st es p (place_of_name (node_at t p))
call_doing t st es (callee.OfName p m) bracket = member_call t st es p m
call_doing t st es (callee.Member m) bracket = doing.CallsMember m
call_doing t st es callee.Value bracket = doing.Effect bracket

abbrev pub pure_call : Table → Start → List Entry → Callee → Place → List Doing
pure_call t st es k bracket = if a.is_pure st.pure es then call_doing t st es k bracket ∷ [] else []

abbrev pub step_doings : Table → Start → List Entry → Callee → StepForm → List Doing
step_doings t st es k (step.Call q) = pure_call t st es k q
step_doings t st es k (step.Binding q) = pure_call t st es k q
step_doings t st es k step.Element = []
step_doings t st es k step.Other = []

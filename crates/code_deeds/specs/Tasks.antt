-- What is still to be gone through, the next one in front.
use Rattle.std.specs.Prelude.{ℕ, Bool, true, false, ◌&&◌, not, List, [], ◌∷◌, ◌++◌, map, reverse, Option}
use Rattle.qml_base.specs.declared.numbers.Place.{Place}
use Rattle.qml_syntax.specs.declared.operators.Assignment.TheVariants.{Plain}
use Rattle.qml_syntax.specs.declared.node.Node.{Node}
use Rattle.qml_syntax.specs.declared.node.Node.TheVariants as node
use Rattle.qml_syntax.specs.Nodes.{Table}
use Rattle.qml_syntax.specs.Places.{places_of}
use Rattle.code_deeds.specs.declared.around.Entry.{Entry}
use Rattle.code_deeds.specs.declared.around.Start.{Start}
use Rattle.code_deeds.specs.declared.form.Form.{Form}
use Rattle.code_deeds.specs.declared.form.Form.TheVariants as form
use Rattle.code_deeds.specs.declared.form.StepForm.{StepForm}
use Rattle.code_deeds.specs.declared.form.StepForm.TheVariants as step
use Rattle.code_deeds.specs.declared.tasks.Callee.{Callee}
use Rattle.code_deeds.specs.declared.tasks.Callee.TheVariants as callee
use Rattle.code_deeds.specs.declared.tasks.Task.{Task}
use Rattle.code_deeds.specs.declared.tasks.Task.TheVariants as task
use Rattle.code_deeds.specs.Forms.{node_at}
use Rattle.code_deeds.specs.Own.{bound, is_local_at}

abbrev pub part_task : ℕ → Task
part_task p = task.Part p false

abbrev pub part_tasks : List ℕ → List Task
part_tasks ps = map part_task ps

-- ---- assignments

abbrev pub is_plain_target : Node → Bool
is_plain_target (node.Target f Plain q) = true
is_plain_target _ = false

abbrev pub first_not_local : Table → Start → List Entry → List ℕ → Bool
first_not_local t st es [] = false
first_not_local t st es (p ∷ ps) = not (is_local_at t st es p)

abbrev pub is_right : Table → Start → List Entry → ℕ → Bool
is_right t st es p = is_plain_target (node_at t p) && first_not_local t st es (places_of t p)

-- behind targets of which the last stands in front
abbrev pub right_of : Table → Start → List Entry → List ℕ → Bool
right_of t st es [] = false
right_of t st es (p ∷ ps) = is_right t st es p

-- the value stands in front
abbrev pub assigned_tasks : Table → Start → List Entry → List ℕ → List Task
assigned_tasks t st es [] = []
assigned_tasks t st es (v ∷ back) = part_tasks (reverse back) ++ task.Part v (right_of t st es back) ∷ []

-- ---- values with steps

abbrev pub callee_by : ℕ → Node → Callee
callee_by p (node.Name n q) = callee.Name p
callee_by p _ = callee.Value

abbrev pub member_behind : Callee → ℕ → Callee
member_behind (callee.Name p) m = callee.OfName p m
member_behind _ m = callee.Member m

abbrev pub callee_behind : Callee → ℕ → Node → Callee
callee_behind k p (node.Member m q) = member_behind k p
callee_behind k p _ = callee.Value

abbrev pub step_tasks : Table → Option Place → Callee → List ℕ → List Task
step_tasks t b k [] = []
step_tasks t b k (p ∷ ps) = task.Step p k b ∷ step_tasks t b (callee_behind k p (node_at t p)) ps

abbrev pub steps_tasks : Table → List ℕ → List Task
steps_tasks t [] = []
steps_tasks t (e ∷ is) = part_task e ∷ step_tasks t (bound t (e ∷ is)) (callee_by e (node_at t e)) is

-- ---- the parts of a node and of a step

abbrev pub inside_tasks : Table → Start → List Entry → Form → List ℕ → List Task
inside_tasks t st es form.Steps ps = steps_tasks t ps
inside_tasks t st es form.Assign ps = assigned_tasks t st es (reverse ps)
inside_tasks t st es (form.ChangesFirst q) ps = part_tasks ps
inside_tasks t st es (form.ChangesLast q) ps = part_tasks ps
inside_tasks t st es form.Block ps = part_tasks ps
inside_tasks t st es form.For ps = part_tasks ps
inside_tasks t st es form.Parts ps = part_tasks ps
inside_tasks t st es form.Name ps = []
inside_tasks t st es form.Other ps = []

abbrev pub step_inside : StepForm → List ℕ → List Task
step_inside step.Element ps = part_tasks ps
step_inside (step.Call q) ps = part_tasks ps
step_inside (step.Binding q) ps = part_tasks ps
step_inside step.Other ps = []

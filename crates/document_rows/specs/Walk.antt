-- The tasks of going through a tree, one after another, the next one last.
use Rattle.std.specs.Prelude.{◌≡◌, ℕ, Bool, true, false, if◌then◌else◌, List, [], ◌∷◌, ◌++◌, map, reverse, length, Some, None}
use Rattle.qml_syntax.specs.declared.node.Node.{Node}
use Rattle.qml_syntax.specs.declared.node.Node.TheVariants as node
use Rattle.qml_syntax.specs.Nodes.{Table}
use Rattle.qml_syntax.specs.Opened.{node_of}
use Rattle.qml_syntax.specs.Places.{part_at, places_of}
use Rattle.document_rows.specs.declared.kind.Kind.{Kind}
use Rattle.document_rows.specs.declared.kind.Kind.TheVariants as kind
use Rattle.document_rows.specs.declared.rows.DocumentRows.{DocumentRows}
use Rattle.document_rows.specs.declared.walk.Task.{Task}
use Rattle.document_rows.specs.declared.walk.Task.TheVariants as task
use Rattle.document_rows.specs.declared.walk.Parts.{Parts}
use Rattle.document_rows.specs.declared.walk.Parts.TheVariants as parts

abbrev pub kind_of : Node → Kind
kind_of node.Mark = kind.Mark
kind_of node.Semi = kind.Semi
kind_of node.Group = kind.Group
kind_of (node.Property p d) = kind.Holder
kind_of node.Given = kind.Holder
kind_of node.Child = kind.Holder
kind_of node.Object = kind.Object
kind_of (node.ObjectList p) = kind.Objects
kind_of _ = kind.Other

abbrev pub kind_at : Table → ℕ → Kind
kind_at t p = kind_of (node_of (part_at t p))

abbrev pub is_mark : Kind → Bool
is_mark kind.Mark = true
is_mark _ = false

abbrev pub head_or : ℕ → List ℕ → ℕ
head_or p [] = p
head_or p (q ∷ qs) = q

abbrev pub without_semi : Kind → ℕ → List ℕ → ℕ
without_semi kind.Semi p qs = head_or p qs
without_semi _ p qs = p

abbrev pub member_place : Table → ℕ → ℕ
member_place t p = without_semi (kind_at t p) p (places_of t p)

-- those before the first mark
abbrev pub until_mark : Table → List ℕ → List ℕ
until_mark t [] = []
until_mark t (p ∷ ps) = if is_mark (kind_at t p) then [] else p ∷ until_mark t ps

abbrev pub task_of : Table → Parts → ℕ → Task
task_of t (parts.Members o around) p = task.Member (member_place t p) o around
task_of t (parts.Objects row) p = task.Object (record { node = p; row = Some row })

-- the tasks of the places behind the mark, the last place first
abbrev pub place_tasks : Table → Parts → List ℕ → List Task
place_tasks t what ps = map (task_of t what) (until_mark t (reverse ps))

-- those of the parts of a node
abbrev pub part_tasks : Table → Parts → ℕ → List Task
part_tasks t what p = place_tasks t what (places_of t p)

abbrev pub value_tasks_by : Table → ℕ → ℕ → Kind → List Task
value_tasks_by t row p kind.Object = task.Object (record { node = p; row = Some row }) ∷ []
value_tasks_by t row p kind.Objects = part_tasks t (parts.Objects row) p
value_tasks_by t row p _ = []

abbrev pub value_tasks : Table → ℕ → ℕ → List Task
value_tasks t row p = value_tasks_by t row p (kind_at t p)

-- of the last of these places, which stands in front
abbrev pub held_tasks : Table → ℕ → List ℕ → List Task
held_tasks t row [] = []
held_tasks t row (p ∷ ps) = value_tasks t row p

abbrev pub inside_tasks_by : Table → ℕ → ℕ → ℕ → Kind → List Task
inside_tasks_by t o row p kind.Group = part_tasks t (parts.Members o (Some row)) p
inside_tasks_by t o row p kind.Holder = held_tasks t row (reverse (places_of t p))
inside_tasks_by t o row p _ = []

abbrev pub inside_tasks : Table → ℕ → ℕ → ℕ → List Task
inside_tasks t o row p = inside_tasks_by t o row p (kind_at t p)

-- what a task adds to the rows and to the tasks
abbrev pub Steps : Table → Task → DocumentRows → DocumentRows → List Task → List Task → Type 0
Steps t (task.Object r) rows after tasks more =
    (after.objects.items ≡ rows.objects.items ++ r ∷ []) ×
    (after.members.items ≡ rows.members.items) ×
    (more ≡ tasks ++ part_tasks t (parts.Members (length rows.objects.items) None) r.node)
Steps t (task.Member p o around) rows after tasks more =
    (after.objects.items ≡ rows.objects.items) ×
    (after.members.items ≡
    rows.members.items ++ record { node = p; object = o; group = around; first = length rows.objects.items } ∷ []) ×
    (more ≡ tasks ++ inside_tasks t o (length rows.members.items) p)

-- Where in a table the nodes of a part begin.
use Rattle.std.specs.Prelude.{◌≡◌, ℕ, ◌+◌, ◌<◌, ◌≤◌, List, [], ◌∷◌, length, reverse, slice_index}
use Rattle.qml_syntax.specs.declared.node.Node.{Node}
use Rattle.qml_syntax.specs.declared.node.Node.TheVariants as node
use Rattle.qml_syntax.specs.Nodes.{Item, mark, of_expr, of_step, of_stmt, of_key, of_sign, of_link, of_choice, of_target, of_var, of_first, of_maybe, of_body, Parts, Table, below, parts_in, of_name, of_dot, of_file, of_qualifier, of_import, of_kind, of_par_name, of_par, of_signal_par, of_function, of_member, of_object, of_objects, of_document, of_script}
use Rattle.qml_syntax.specs.Listed.{listed, listed_step, listed_stmt, listed_first, listed_maybe, listed_stmts, listed_par_kind, listed_qualifier, listed_import, listed_function, listed_member, listed_semi, listed_object, listed_objects, listed_imports, listed_functions, listed_kind}
use Rattle.qml_syntax.specs.Opened.{first}
use Rattle.qml_syntax.specs.Tree.{document, script}

-- the nodes of a part on top of those before
abbrev pub listed_item : Item → Table → Table
listed_item mark s = node.Mark ∷ s
listed_item (of_expr e) s = listed e s
listed_item (of_step i) s = listed_step i s
listed_item (of_stmt d) s = listed_stmt d s
listed_item (of_key q n p) s = node.Key q n p ∷ s
listed_item (of_sign f g p) s = node.Sign f g p ∷ s
listed_item (of_link f op p d) s = node.Link f op p ∷ listed d s
listed_item (of_choice f c e) s = node.Choice f ∷ listed e (listed c s)
listed_item (of_target f t g p) s = node.Target f g p ∷ listed t s
listed_item (of_var n p) s = node.Var n p ∷ s
listed_item (of_first i) s = listed_first i s
listed_item (of_maybe e) s = listed_maybe e s
listed_item (of_body ss) s = node.Body ∷ listed_stmts ss (node.Mark ∷ s)
listed_item (of_name n p) s = node.First n p ∷ s
listed_item (of_dot n) s = node.Dot n ∷ s
listed_item (of_file n p) s = node.File n p ∷ s
listed_item (of_qualifier q) s = listed_qualifier q s
listed_item (of_import i) s = listed_import i s
listed_item (of_kind q) s = listed_par_kind q s
listed_item (of_par_name n) s = node.ParameterName n ∷ s
listed_item (of_par n q) s = node.Parameter ∷ listed_par_kind q (node.ParameterName n ∷ s)
listed_item (of_signal_par q n) s = node.SignalParameter n ∷ listed_kind q s
listed_item (of_function f) s = listed_function f s
listed_item (of_member x b) s = listed_semi b (listed_member x s)
listed_item (of_object o) s = listed_object o s
listed_item (of_objects p os) s = node.ObjectList p ∷ listed_objects os (node.Mark ∷ s)
listed_item (of_document (document is o)) s = node.Document ∷ listed_object o (listed_imports is (node.Mark ∷ s))
listed_item (of_script (script b fs)) s = node.Script b ∷ listed_functions fs (node.Mark ∷ s)

-- how many nodes a part has
abbrev pub nodes_of : Item → ℕ
nodes_of i = length (listed_item i [])

-- the nodes of parts, the latest in front
abbrev pub listed_parts : Parts → Table
listed_parts [] = []
listed_parts (i ∷ s) = listed_item i (listed_parts s)

-- the parts that the first nodes leave, this many
abbrev pub standing : Table → ℕ → Parts
standing t k = parts_in (first k t)

-- how many nodes stand before those of the part whose node stands behind this many others
abbrev pub start_at : Table → ℕ → ℕ
start_at t k = length (listed_parts (below (standing t (k + 1))))

-- whether the first nodes, however many, are those of the parts that they leave
abbrev pub AllWhole : Table → Type 0
AllWhole [] = Unit {0}
AllWhole (x ∷ xs) = (listed_parts (parts_in (x ∷ xs)) ≡ x ∷ xs) × AllWhole xs

-- nodes in their order, and where the parts of the first of them start
pub record Started (nodes : List Node) (starts : List ℕ) : Type 0 where
  pub whole : AllWhole (reverse nodes)
  pub few : length starts ≤ length nodes
  pub right : (k : ℕ) → k < length starts → slice_index starts k ≡ start_at (reverse nodes) k

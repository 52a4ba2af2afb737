-- Adding an instance is what the machine does.
use Rattle.std.proofs.Common.{◌≡◌, ◌∙◌, ap, sym, refl, ℕ, suc, ◌+◌, List, [], ◌∷◌, ◌++◌, append_assoc, map, length, Option}
use Rattle.std.proofs.lemmas.List.{append-nil, length-map}
use Rattle.qml_base.specs.declared.numbers.ObjNo.{ObjNo}
use Rattle.qml_types.specs.declared.kind.TypeRef.{TypeRef}
use Rattle.trace_print.specs.declared.entry.Entry.{Entry}
use Rattle.tree_model.specs.declared.cells.Object.{Object}
use Rattle.tree_model.specs.declared.cells.Cell.{Cell}
use Rattle.tree_model.specs.Settling.{Tree}
use Rattle.property_store.specs.Stores.{new_cells}
use Rattle.qml_scope.specs.declared.shape.Shape.{Shape}
use Rattle.qml_scope.specs.Shapes.{Known}
use Rattle.instance_plans.specs.Numbers.{object_no}
use Rattle.instance_plans.specs.declared.planned.Planned.{Planned}
use Rattle.instance_plans.specs.Cells.{MadeObject}
use Rattle.instance_plans.specs.Plans.{Instance}
use Rattle.instance_plans.specs.Shaped.{shape_made}
use Rattle.instance_plans.specs.Treed.{cell_made}
use Rattle.instance_contents.specs.Making.{looks_of}
use Rattle.live_tree.specs.Live.{Live}
use Rattle.machine_model.specs.State.{Machine}
use Rattle.machine_model.specs.Acts.{goes, each}
use Rattle.machine_model.specs.Making.{object_made, objects_made, cells_made, types_made, numbered_from, made_entry, tell_made, with_instance}
use Rattle.machine_making.specs.Adding.{objects_added, cells_added, types_added, made_told}
use Rattle.machine_making.specs.Makes.{machine_with, IsTheMachines}

pub objects_same : (origin : Option ObjNo) (n : ℕ) (xs : List MadeObject) → objects_added origin n (map looks_of xs) ≡ objects_made origin n xs
objects_same origin n [] = refl
objects_same origin n (x ∷ xs) = ap (λ rest. object_made origin n x ∷ rest) (objects_same origin (suc n) xs)

pub cells_same : (n : ℕ) (xs : List MadeObject) → cells_added n (map looks_of xs) ≡ cells_made n xs
cells_same n [] = refl
cells_same n (x ∷ xs) = ap (λ rest. new_cells (object_no n) 0 (map cell_made x.cells) ++ rest) (cells_same (suc n) xs)

pub types_same : (n : ℕ) (xs : List MadeObject) → types_added n (map looks_of xs) ≡ types_made n xs
types_same n [] = refl
types_same n (x ∷ xs) = ap (λ rest. (object_no n, x.types) ∷ rest) (types_same (suc n) xs)

pub told_same : (n : ℕ) (xs : List MadeObject) (m : Machine) → each tell_made (numbered_from n xs) m ≡ goes tt (record m { trace = m.trace ++ made_told n (map looks_of xs) })
told_same n [] m = ap (λ ts. goes tt (record m { trace = ts })) (sym (append-nil m.trace))
told_same n (x ∷ xs) m =
    told_same (suc n) xs (record m { trace = m.trace ++ made_entry (object_no n, x) ∷ [] })
    ∙ ap (λ ts. goes tt (record m { trace = ts })) (append_assoc m.trace (made_entry (object_no n, x) ∷ []) (made_told (suc n) (map looks_of xs)))

pub tree_is : (t : Tree) (os : List Object) (cs : List Cell) → t.objects ≡ os → t.cells ≡ cs → record { objects = os; cells = cs } ≡ t
tree_is t os cs e f = ap (λ xs. record { objects = xs; cells = cs }) (sym e) ∙ ap (λ xs. record { objects = t.objects; cells = xs }) (sym f)

pub known_is : (k : Known) (ss : List Shape) (ts : List (ObjNo × List TypeRef)) → k.instances ≡ ss → k.told ≡ ts → record { instances = ss; told = ts } ≡ k
known_is k ss ts e f = ap (λ xs. record { instances = xs; told = ts }) (sym e) ∙ ap (λ xs. record { instances = k.instances; told = xs }) (sym f)

pub with_all : (m : Machine) (planned : List Planned) (new : Live) (longer : List Entry) (t : Tree) (n : ℕ) (k : Known) (ts : List Entry) → t ≡ new.tree → n ≡ new.given → k ≡ new.known → ts ≡ longer
    → record m { tree = t; given = n; known = k; written = m.written ++ planned; trace = ts } ≡ machine_with m planned new longer
with_all m planned new longer t n k ts e f g h =
    ap (λ x. record m { tree = x; given = n; known = k; written = m.written ++ planned; trace = ts }) e
    ∙ ap (λ x. record m { tree = new.tree; given = x; known = k; written = m.written ++ planned; trace = ts }) f
    ∙ ap (λ x. record m { tree = new.tree; given = new.given; known = x; written = m.written ++ planned; trace = ts }) g
    ∙ ap (λ x. record m { tree = new.tree; given = new.given; known = new.known; written = m.written ++ planned; trace = x }) h

pub makes : (origin : Option ObjNo) (planned : List Planned) (i : Instance) (m : Machine) (old new : Live) (told longer : List Entry) (before starts : List ObjNo) → IsTheMachines origin planned i m old new told longer before starts
makes origin planned i m old new told longer before starts s a t =
    told_same (suc m.given) i.objects (with_instance origin planned i m)
    ∙ ap (goes tt) (with_all m planned new longer _ _ _ _
    (tree_is new.tree _ _
    (a.objects ∙ ap (λ (x : Tree). x.objects ++ objects_added origin (suc old.given) (map looks_of i.objects)) (sym s.tree) ∙ ap (λ n. m.tree.objects ++ objects_added origin (suc n) (map looks_of i.objects)) (sym s.given) ∙ ap (λ xs. m.tree.objects ++ xs) (objects_same origin (suc m.given) i.objects))
    (a.cells ∙ ap (λ (x : Tree). x.cells ++ cells_added (suc old.given) (map looks_of i.objects)) (sym s.tree) ∙ ap (λ n. m.tree.cells ++ cells_added (suc n) (map looks_of i.objects)) (sym s.given) ∙ ap (λ xs. m.tree.cells ++ xs) (cells_same (suc m.given) i.objects)))
    (ap (λ n. m.given + n) (sym (length-map i.objects looks_of)) ∙ ap (λ n. n + length (map looks_of i.objects)) s.given ∙ sym a.given)
    (known_is new.known _ _
    (a.instances ∙ ap (λ (k : Known). k.instances ++ map shape_made i.names) (sym s.known))
    (a.told ∙ ap (λ (k : Known). k.told ++ types_added (suc old.given) (map looks_of i.objects)) (sym s.known) ∙ ap (λ n. m.known.told ++ types_added (suc n) (map looks_of i.objects)) (sym s.given) ∙ ap (λ xs. m.known.told ++ xs) (types_same (suc m.given) i.objects)))
    (ap (λ ts. ts ++ made_told (suc m.given) (map looks_of i.objects)) s.trace_so ∙ ap (λ n. told ++ made_told (suc n) (map looks_of i.objects)) s.given ∙ sym t.trace))

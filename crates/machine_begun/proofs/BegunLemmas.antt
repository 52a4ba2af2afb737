-- The machine before the opening is the definition's.
use Rattle.std.proofs.Common.{◌≡◌, ◌∙◌, ap, sym, refl, ℕ, suc, ◌+◌, ◌<◌, List, [], ◌∷◌, ◌++◌, append_assoc, drop, length, get_or, add-one}
use Rattle.std.proofs.Math.Seq.{drop-cons}
use Rattle.qml_base.specs.declared.numbers.ObjNo.{ObjNo}
use Rattle.qml_types.specs.declared.kind.TypeRef.{TypeRef}
use Rattle.qml_scope.specs.declared.shape.Shape.{Shape}
use Rattle.tree_model.specs.Settling.{Tree}
use Rattle.tree_model.specs.declared.cells.Object.{Object}
use Rattle.tree_model.specs.declared.cells.Cell.{Cell}
use Rattle.qml_scope.specs.Shapes.{Known}
use Rattle.unit_rows.specs.declared.unit.Unit.{Unit}
use Rattle.unit_rows.specs.Seen.{rows_seen, all_seen}
use Rattle.instance_plans.specs.NamesMade.{names_of_unit}
use Rattle.instance_plans.specs.Shaped.{shape_made}
use Rattle.live_tree.specs.Live.{Live}
use Rattle.machine_model.specs.State.{Machine}
use Rattle.machine_model.specs.Runs.{begun, shapes_from}
use Rattle.machine_state.specs.declared.state.State.{State}
use Rattle.machine_state.specs.Keeping.{machine_of}
use Rattle.machine_making.proofs.MakesLemmas.{tree_is, known_is}
use Rattle.machine_begun.specs.Begun.{shapes_of, IsEmpty}

-- one unit more
pub units_more : (units : List Unit) (k : ℕ) (u : Unit) (before mid : List Shape) (x : Shape) → u ≡ get_or units k u → k < length units
    → mid ≡ before ++ x ∷ [] → x ≡ shape_made (names_of_unit k (rows_seen u))
    → mid ++ shapes_of (k + 1) (drop (k + 1) units) ≡ before ++ shapes_of k (drop k units)
units_more units k u before mid x is less e f =
    ap (λ ss. ss ++ shapes_of (k + 1) (drop (k + 1) units)) e
    ∙ append_assoc before (x ∷ []) (shapes_of (k + 1) (drop (k + 1) units))
    ∙ ap (λ s. before ++ s ∷ shapes_of (k + 1) (drop (k + 1) units)) f
    ∙ ap (λ m. before ++ shape_made (names_of_unit k (rows_seen u)) ∷ shapes_of m (drop m units)) (add-one k)
    ∙ ap (λ v. before ++ shape_made (names_of_unit k (rows_seen v)) ∷ shapes_of (suc k) (drop (suc k) units)) is
    ∙ ap (λ us. before ++ shapes_of k us) (sym (drop-cons units k u less))

pub is_begun : (units : List Unit) (s : State) → s.units.now ≡ units → IsEmpty units s.tree → s.written.items ≡ [] → s.time ≡ 0 → s.turns ≡ 0 → s.trace.items ≡ [] → s.answered ≡ 0
    → machine_of s ≡ begun (all_seen units)
is_begun units s same h written time turns trace answered =
    let b = begun (all_seen units) in
    let tree : s.tree.tree ≡ b.tree = sym (tree_is s.tree.tree [] [] h.objects h.cells) in
    let known : s.tree.known ≡ b.known = sym (known_is s.tree.known (shapes_of 0 units) [] h.instances h.told) in
    ap (λ us. record { units = all_seen us; tree = s.tree.tree; given = s.tree.given; known = s.tree.known; written = s.written.items; time = s.time; turns = s.turns; trace = s.trace.items; answered = s.answered }) same
    ∙ ap (λ t. record { units = b.units; tree = t; given = s.tree.given; known = s.tree.known; written = s.written.items; time = s.time; turns = s.turns; trace = s.trace.items; answered = s.answered }) tree
    ∙ ap (λ n. record { units = b.units; tree = b.tree; given = n; known = s.tree.known; written = s.written.items; time = s.time; turns = s.turns; trace = s.trace.items; answered = s.answered }) h.given
    ∙ ap (λ k. record { units = b.units; tree = b.tree; given = 0; known = k; written = s.written.items; time = s.time; turns = s.turns; trace = s.trace.items; answered = s.answered }) known
    ∙ ap (λ w. record { units = b.units; tree = b.tree; given = 0; known = b.known; written = w; time = s.time; turns = s.turns; trace = s.trace.items; answered = s.answered }) written
    ∙ ap (λ n. record { units = b.units; tree = b.tree; given = 0; known = b.known; written = []; time = n; turns = s.turns; trace = s.trace.items; answered = s.answered }) time
    ∙ ap (λ n. record { units = b.units; tree = b.tree; given = 0; known = b.known; written = []; time = 0; turns = n; trace = s.trace.items; answered = s.answered }) turns
    ∙ ap (λ es. record { units = b.units; tree = b.tree; given = 0; known = b.known; written = []; time = 0; turns = 0; trace = es; answered = s.answered }) trace
    ∙ ap (λ n. record { units = b.units; tree = b.tree; given = 0; known = b.known; written = []; time = 0; turns = 0; trace = []; answered = n }) answered

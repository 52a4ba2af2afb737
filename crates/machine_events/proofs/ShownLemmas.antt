-- What `print` shows, cell after cell.
use Rattle.std.proofs.Common.{◌≡◌, ◌∙◌, ap, sym, refl, arith, ℕ, suc, ◌+◌, ◌<◌, length, drop, slice_index_or, List, [], ◌∷◌, ◌++◌, append_assoc, append-nil, Option, Some, None, map}
use Rattle.std.specs.List.{filter_map, cons_option}
use Rattle.std.proofs.Math.Seq.{drop-cons}
use Rattle.qml_base.specs.declared.numbers.CellNo.{CellNo}
use Rattle.qml_value.specs.declared.value.Value.{Value, Undefined}
use Rattle.tree_model.specs.declared.cells.Cell.{Cell}
use Rattle.tree_model.specs.Settling.{place_of, held_at}
use Rattle.evaluation.specs.Evaluating.{is}
use Rattle.trace_print.specs.declared.entry.Entry.{Entry}
use Rattle.qml_scope.specs.Shapes.{Known}
use Rattle.live_tree.specs.Live.{Live, HasCell, held_in}
use Rattle.tree_model.specs.Settling as settling
use Rattle.std.specs.Prelude.{slice_get}
use Rattle.machine_model.specs.State.{Machine}
use Rattle.machine_model.specs.Acts.{goes, then_go, each, tell}
use Rattle.machine_model.specs.Showing.{print_entry, cells_shown, show_all}
use Rattle.machine_steps.specs.Telling.{onto}
use Rattle.machine_steps.proofs.WriteLemmas.{read_is, nothing_read}
use Rattle.machine_events.specs.Shown.{cell_told, cells_told, holding}

-- ---- one cell

pub is_held : (live : Live) (c : CellNo) (v : Value) → HasCell live.tree c
    → ((cell : Cell) → slice_get live.tree.cells (place_of live.tree.cells c) ≡ Some cell → v ≡ cell.held) → holding live c ≡ Some (is v)
is_held live c v here h = ap (λ w. Some (is w)) (sym (read_is live.tree c v here h))

pub holds_nothing : (live : Live) (c : CellNo) (v : Value) → (HasCell live.tree c → ⊥) → v ≡ Undefined → holding live c ≡ Some (is v)
holds_nothing live c v none e = ap (λ w. Some (is w)) (sym (e ∙ nothing_read live.tree c none))

-- ---- all cells

onto_front : (o : Option Entry) (rest : List Entry) → onto o [] ++ rest ≡ onto o rest
onto_front None rest = refl
onto_front (Some e) rest = refl

pub cell_pushed : (known : Known) (o : Option Entry) (now new : List Entry) (x : CellNo × Value) (rest : List (CellNo × Value)) (all : List Entry)
    → o ≡ cell_told known (x.0) (x.1) → new ≡ now ++ onto o [] → now ++ cells_told known (x ∷ rest) ≡ all → new ++ cells_told known rest ≡ all
cell_pushed known o now new x rest all is_told pushed h =
    ap (λ es. es ++ cells_told known rest) pushed
    ∙ append_assoc now (onto o []) (cells_told known rest)
    ∙ ap (λ es. now ++ es) (onto_front o (cells_told known rest) ∙ ap (λ p. onto p (cells_told known rest)) is_told)
    ∙ h

cons_onto : (o : Option Entry) (rest : List Entry) → cons_option o rest ≡ onto o rest
cons_onto None rest = refl
cons_onto (Some e) rest = refl

shown_so : (known : Known) (cells : List Cell) → filter_map (print_entry known) cells ≡ cells_told known (held_in cells)
shown_so known [] = refl
shown_so known (cell ∷ cells) = cons_onto (print_entry known cell) (filter_map (print_entry known) cells) ∙ ap (onto (print_entry known cell)) (shown_so known cells)

each_told : (es : List Entry) (m : Machine) → each tell es m ≡ goes tt (record m { trace = m.trace ++ es })
each_told [] m = ap (λ es. goes tt (record m { trace = es })) (sym (append-nil m.trace))
each_told (e ∷ es) m =
    each_told es (record m { trace = m.trace ++ e ∷ [] }) ∙ ap (λ all. goes tt (record m { trace = all })) (append_assoc m.trace (e ∷ []) es)

pub all_shown : (m : Machine) (new : List Entry) → new ≡ m.trace ++ cells_told m.known (held_in m.tree.cells) → show_all m ≡ goes tt (record m { trace = new })
all_shown m new h =
    each_told (cells_shown m) m ∙ ap (λ es. goes tt (record m { trace = es })) (ap (λ es. m.trace ++ es) (shown_so m.known m.tree.cells) ∙ sym h)

-- the cell of a place stands in front of those behind it
pub cell_in_front : (cells : List Cell) (k : ℕ) (cell : Cell) → k < length cells → cell ≡ slice_index_or cells k cell → drop k cells ≡ cell ∷ drop (k + 1) cells
cell_in_front cells k cell h e =
    let n : suc k ≡ k + 1 = grind (arith) in
    drop-cons cells k cell h ∙ ap (λ (z : Cell). z ∷ drop (suc k) cells) (sym e) ∙ ap (λ (z : ℕ). cell ∷ drop z cells) n

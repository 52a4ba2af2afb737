-- A content for a cell that isn't there, and what is left of contents.
use Rattle.std.proofs.Common.{◌≡◌, ◌∙◌, ap, sym, refl, ℕ, suc, zero, ◌<◌, List, [], ◌∷◌, ◌++◌, length, reverse, slice_get, arith}
use Rattle.std.proofs.lemmas.List.{reverse-append}
use Rattle.std.specs.declared.option.Option.TheVariants.{None}
use Rattle.qml_base.specs.declared.numbers.CellNo.{CellNo}
use Rattle.tree_model.specs.declared.cells.Cell.{Cell}
use Rattle.tree_model.specs.declared.cells.Content.{Content}
use Rattle.tree_model.specs.Settling.{with_cells, place_of}
use Rattle.trace_print.specs.declared.entry.Entry.{Entry}
use Rattle.live_tree.specs.Live.{Live, HasCell}
use Rattle.machine_model.specs.State.{Machine}
use Rattle.machine_model.specs.Acts.{goes, then_go, each}
use Rattle.machine_model.specs.Emission.{put, with_put, cells_with}

none_above : (cells : List Cell) (i : ℕ) → (i < length cells → ⊥) → slice_get cells i ≡ None
none_above [] i h = refl
none_above (x ∷ xs) zero h = absurd (h (omega arith))
none_above (x ∷ xs) (suc i) h = none_above xs i (λ l. h (omega arith))

pub not_there : (m : Machine) (c : CellNo) (content : Content) → (HasCell m.tree c → ⊥) → put (c, content) m ≡ goes tt m
not_there m c content h =
    ap (λ o. goes tt (record m { tree = with_cells m.tree (cells_with m.tree.cells c content o) })) (none_above m.tree.cells (place_of m.tree.cells c) h)

-- the numbers that were given and the names are as they were
pub same_machine : (m : Machine) (live : Live) (told : List Entry) → live.given ≡ m.given → live.known ≡ m.known
    → record m { tree = live.tree; trace = told } ≡ record m { tree = live.tree; given = live.given; known = live.known; trace = told }
same_machine m live told given known =
    ap (λ g. record m { tree = live.tree; given = g; trace = told }) (sym given) ∙ ap (λ k. record m { tree = live.tree; given = live.given; known = k; trace = told }) (sym known)

pub put_there : (m : Machine) (live : Live) (c : CellNo) (content : Content) → with_put c content m ≡ record m { tree = live.tree } → live.given ≡ m.given → live.known ≡ m.known
    → put (c, content) m ≡ goes tt (record m { tree = live.tree; given = live.given; known = live.known })
put_there m live c content e given known = ap (goes tt) (e ∙ same_machine m live m.trace given known)

-- one more is put
pub one_put : (m n : Machine) (x : CellNo × Content) (rest : List (CellNo × Content)) → put x m ≡ goes tt n → each put (x ∷ rest) m ≡ each put rest n
one_put m n x rest e = ap (λ r. then_go r (λ _. each put rest)) e

pub next_left : (xs rest : List (CellNo × Content)) (x : CellNo × Content) → xs ≡ rest ++ x ∷ [] → reverse xs ≡ x ∷ reverse rest
next_left xs rest x e = ap reverse e ∙ reverse-append rest (x ∷ [])

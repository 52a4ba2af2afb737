-- The names that a document of an object's type declares are seen from the instance of that document.
use Rattle.std.proofs.Common.{◌≡◌, ◌∙◌, ap, sym, ℕ, ◌+◌, ◌<◌, Bool, List, ◌++◌, length, drop, get_or, add-one, drop-cons, Option, Some}
use Rattle.instance_names.specs.Names.{Pairs, each_put}
use Rattle.instance_names.proofs.TypeLemmas.{each_append}
use Rattle.instance_plans.specs.declared.planned.PlannedInstance.{PlannedInstance}
use Rattle.instance_plans.specs.Numbers.{row_at, planned_instance}
use Rattle.instance_contents.specs.declared.tables.Tables.{Tables}
use Rattle.instance_contents.specs.Tables.{rows_in}
use Rattle.instance_shapes.specs.declared.told.Viewer.{Viewer}
use Rattle.instance_shapes.specs.Told.{instance_in, of_document, pairs_by_rows, pairs_of_row, pairs_of_document, pairs_of_documents}

abbrev inner : Viewer → Option ℕ → ℕ → Viewer
inner v place u = record { place = place; unit = u; number = v.number; cells = v.cells }

pub as_document : (t : Tables) (v : Viewer) (place : Option ℕ) (u : ℕ) (aliases : Bool) → instance_in t (inner v place u) ≡ planned_instance t.instances.items u v.number
    → pairs_of_row t (inner v place u) 0 aliases ≡ pairs_of_document t v aliases u
as_document t v place u aliases e = ap (λ s. pairs_by_rows t s (of_document v u) aliases (row_at (rows_in t) u 0).names) e

pub documents_more : (t : Tables) (v : Viewer) (aliases : Bool) (us : List ℕ) (i : ℕ) (before after : Pairs) → i < length us
    → after ≡ each_put before (pairs_of_document t v aliases (get_or us i 0))
    → each_put after (pairs_of_documents t v aliases (drop (i + 1) us)) ≡ each_put before (pairs_of_documents t v aliases (drop i us))
documents_more t v aliases us i before after less e =
    let u = get_or us i 0 in
    ap (λ ns. each_put ns (pairs_of_documents t v aliases (drop (i + 1) us))) e
    ∙ sym (each_append before (pairs_of_document t v aliases u) (pairs_of_documents t v aliases (drop (i + 1) us)))
    ∙ ap (λ m. each_put before (pairs_of_document t v aliases u ++ pairs_of_documents t v aliases (drop m us))) (add-one i)
    ∙ ap (λ xs. each_put before (pairs_of_documents t v aliases xs)) (sym (drop-cons us i 0 less))

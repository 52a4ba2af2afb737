use Rattle.std.proofs.Common.{◌≡◌, ◌∙◌, ap, sym, refl, ◌+◌, ◌<◌, ◌≤◌, Some, slice_get, length, true, false, arith}
use Rattle.std.proofs.lemmas.Option.{slice_get_read, slice_get_within}
use Rattle.tree_model.specs.Settling.{same_cell}
use Rattle.property_store.specs.Lying.{place_by}
use Rattle.property_store.proofs.PlaceLemmas.{found, not_found, same_is, same_self}
use Rattle.property_store.proofs.places.find.Goals as goal

pub returns-then-eq : goal.returns-then-eq
returns-then-eq c =
    let h = c.in-Some.ensures.lookup in
    let e : place_by c.args.starts.now c.args.c ≡ c.start.result + c.args.c.place = ap (λ n. n + c.args.c.place) (sym c.start.ensures) in
    let there = slice_get_read c.args.cells.now (length c.args.cells.now) (c.start.result + c.args.c.place) c.in-Some.cell.now refl h.3.0 h.1 in
    let is = same_is c.in-Some.cell.now.no c.args.c (sym c.if-eq.ensures) in
    sym e ∙ found c.args.starts.now c.args.cells.now c.args.c c.in-Some.cell.now c.requires (ap (slice_get c.args.cells.now) e ∙ there) is

pub returns-else-eq : goal.returns-else-eq
returns-else-eq c =
    let h = c.in-Some.ensures.lookup in
    let e : place_by c.args.starts.now c.args.c ≡ c.start.result + c.args.c.place = ap (λ n. n + c.args.c.place) (sym c.start.ensures) in
    let there = slice_get_read c.args.cells.now (length c.args.cells.now) (c.start.result + c.args.c.place) c.in-Some.cell.now refl h.3.0 h.1 in
    not_found c.args.starts.now c.args.cells.now c.args.c c.requires (λ other at is.
    let both : Some other ≡ Some c.in-Some.cell.now = sym at ∙ ap (slice_get c.args.cells.now) e ∙ there in
    let same : other ≡ c.in-Some.cell.now = cc in
    let yes : same_cell c.in-Some.cell.now.no c.args.c ≡ true = rw (← same, is) (same_self c.args.c) in
    let no : false ≡ true = c.if-eq.ensures ∙ yes in
    cc)

pub returns-in_default : goal.returns-in_default
returns-in_default c =
    let h = c.in_default.ensures.lookup in
    let past : length c.args.cells.now ≤ c.start.result + c.args.c.place = h.3 in
    let e : place_by c.args.starts.now c.args.c ≡ c.start.result + c.args.c.place = ap (λ n. n + c.args.c.place) (sym c.start.ensures) in
    not_found c.args.starts.now c.args.cells.now c.args.c c.requires (λ other at is.
    let inside : place_by c.args.starts.now c.args.c < length c.args.cells.now = slice_get_within c.args.cells.now (place_by c.args.starts.now c.args.c) other at in
    absurd (omega arith))

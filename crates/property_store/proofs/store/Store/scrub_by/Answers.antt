use Rattle.std.proofs.Common.{◌≡◌, ◌∙◌, ap, sym, subst, refl, inl, map, length, vec_len, arith}
use Rattle.tree_model.specs.Settling.{AllSpared}
use Rattle.tree_model.specs.Removing.{scrubbed_cell, cells_left}
use Rattle.property_store.specs.Lying.{IsPlaced, AllBelow, numbers_of}
use Rattle.property_store.proofs.KeptLemmas.{seam, seam_numbers, kept_numbers, map_numbers}
use Rattle.property_store.proofs.DropLemmas.{order_left, below_left, length_left}
use Rattle.property_store.proofs.ScrubLemmas.{all_left}
use Rattle.property_store.proofs.store.Store.scrub_by.Goals as goal

pub place_all-requires-clause-ordered : goal.place_all-requires-clause-ordered
place_all-requires-clause-ordered c = rw (c.as_slice.ensures.value, c.drop_cells.ensures) (order_left c.args.gone.now 0 0 0 0 c.self.inside.cells.items (inl (refl, refl)) c.self.invariant.0.ordered)

pub place_all-requires-clause-below : goal.place_all-requires-clause-below
place_all-requires-clause-below c = rw (c.as_slice.ensures.value, c.drop_cells.ensures, c.as_mut_slice.ensures.value) (below_left c.args.gone.now (length c.self.inside.starts.items) c.self.inside.cells.items c.self.invariant.0.below)

pub place_all-requires-clause-few : goal.place_all-requires-clause-few
place_all-requires-clause-few c =
    let fewer = length_left c.args.gone.now c.self.inside.cells.items in
    let is : length c.as_slice.result.now ≡ length (cells_left c.args.gone.now c.self.inside.cells.items) = ap length (c.as_slice.ensures.value ∙ c.drop_cells.ensures) in
    let long : vec_len c.self.inside.cells ≡ length c.self.inside.cells.items = c.self.inside.cells.ok.0 in
    let few = c.self.invariant.1 in
    omega arith

pub scrub_cells-requires : goal.scrub_cells-requires
scrub_cells-requires c = rw (c.as_mut_slice-2.ensures.value, c.drop_cells.ensures) (record { left = all_left c.args.gone.now c.self.inside.cells.items (subst AllSpared (sym c.self.view_is) c.requires.spared) })

pub invariant_of-self : goal.invariant_of-self
invariant_of-self c =
    let old = c.self.inside in
    let gone = c.args.gone.now in
    let left = cells_left gone old.cells.items in
    let every : length c.place_all.new.starts ≡ old.starts.len = omega arith in
    let starts = seam_numbers c.place_all.new.starts old.starts.items old.starts.len every in
    let all : length c.scrub_cells.new.cells ≡ c.drop_cells.new.cells.len = omega arith in
    let back = seam c.scrub_cells.new.cells c.drop_cells.new.cells.items c.drop_cells.new.cells.len all in
    let new : c.scrub_cells.new.cells ≡ map (scrubbed_cell gone) left = c.scrub_cells.ensures ∙ ap (map (scrubbed_cell gone)) (c.as_mut_slice-2.ensures.value ∙ c.drop_cells.ensures) in
    let same : numbers_of c.scrub_cells.new.cells ≡ numbers_of left = ap numbers_of new ∙ map_numbers (scrubbed_cell gone) (λ cell. refl) left in
    let placed : IsPlaced c.place_all.new.starts left = subst (IsPlaced c.place_all.new.starts) (c.as_slice.ensures.value ∙ c.drop_cells.ensures) c.place_all.ensures in
    let long : length old.starts.items ≡ length c.place_all.new.starts = sym old.starts.ok.0 ∙ sym every in
    let fewer = length_left gone old.cells.items in
    let is : length c.drop_cells.new.cells.items ≡ length left = ap length c.drop_cells.ensures in
    let was : vec_len old.cells ≡ length old.cells.items = old.cells.ok.0 in
    let now : vec_len c.drop_cells.new.cells ≡ length c.drop_cells.new.cells.items = c.drop_cells.new.cells.ok.0 in
    let few = c.self.invariant.1 in (
      rw (starts, back) (kept_numbers c.place_all.new.starts left c.scrub_cells.new.cells same (record {
        placed = placed;
        ordered = order_left gone 0 0 0 0 old.cells.items (inl (refl, refl)) c.self.invariant.0.ordered;
        below = subst (λ n. AllBelow n (numbers_of left)) long (below_left gone (length old.starts.items) old.cells.items c.self.invariant.0.below);
      })),
      omega arith,
    )

use Rattle.std.proofs.Common.{◌≡◌, ◌∙◌, ap, refl, map, length, arith}
use Rattle.property_store.specs.Lying.{numbers_of}
use Rattle.property_store.specs.Stores.{without_note}
use Rattle.property_store.proofs.KeptLemmas.{seam, kept_numbers, map_numbers}
use Rattle.property_store.proofs.store.Store.clear_scrubbed.Goals as goal

pub invariant_of-self : goal.invariant_of-self
invariant_of-self c =
    let old = c.self.inside in
    let all : length c.clear_notes.new.cells ≡ old.cells.len = omega arith in
    let back = seam c.clear_notes.new.cells old.cells.items old.cells.len all in
    let new = c.clear_notes.ensures ∙ ap (map without_note) c.as_mut_slice.ensures.value in
    (rw back (kept_numbers old.starts.items old.cells.items c.clear_notes.new.cells (ap numbers_of new ∙ map_numbers without_note (λ cell. refl) old.cells.items) c.self.invariant.0), c.self.invariant.1)

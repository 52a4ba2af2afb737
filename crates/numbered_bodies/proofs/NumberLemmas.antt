-- Row after row, and object after object.
use Rattle.std.proofs.Common.{◌≡◌, ◌∙◌, ap, sym, subst, refl, ℕ, suc, ◌+◌, ◌<◌, ◌≤◌, Bool, true, false, List, [], ◌∷◌, ◌++◌, length, get_or, drop, add-one, drop-cons}
use Rattle.std.proofs.lemmas.List.{append_assoc, append-nil, drop_all}
use Rattle.object_members.specs.ByObject.{Numbers as ObjectNumbers}
use Rattle.numbered_bodies.specs.declared.numbering.NumberedRow.{NumberedRow}
use Rattle.numbered_bodies.specs.NumberedRows.{OwnRows, with_body, numbered_behind, bodies_with, IsAdded, Numbers, AreNumbered}

pub body_added : (has : ℕ → Bool) (k : ℕ) (b : Bool) (old new : List NumberedRow) (before after : List ℕ) →
    new ≡ old ++ record { row = k; body = length before } ∷ [] → b ≡ has k → b ≡ true → after ≡ before ++ k ∷ [] → IsAdded has k old new before after
body_added has k b old new before after n e h a = record { row = n; bodies = a ∙ ap (λ z. with_body z k before) (sym h ∙ e) }

pub no_body_added : (has : ℕ → Bool) (k : ℕ) (b : Bool) (old new : List NumberedRow) (before : List ℕ) →
    new ≡ old ++ record { row = k; body = length before } ∷ [] → b ≡ has k → b ≡ false → IsAdded has k old new before before
no_body_added has k b old new before n e h = record { row = n; bodies = ap (λ z. with_body z k before) (sym h ∙ e) }

-- ---- the rows of an object

-- of all numbers some are left, where these rows are numbered
pub record GoesOn (has : ℕ → Bool) (all left : List ℕ) (own : List NumberedRow) (before now : List ℕ) : Type 0 where
  pub rows : own ++ numbered_behind has now left ≡ numbered_behind has before all
  pub bodies : bodies_with has now left ≡ bodies_with has before all

pub goes_on : (has : ℕ → Bool) (all : List ℕ) (i k d : ℕ) (old new : List NumberedRow) (before now after : List ℕ) → i < length all → k ≡ get_or all i d →
    IsAdded has k old new now after → GoesOn has all (drop i all) old before now → GoesOn has all (drop (i + 1) all) new before after
goes_on has all i k d old new before now after h e a g =
    let split : drop i all ≡ k ∷ drop (i + 1) all = drop-cons all i d h ∙ ap (λ z. z ∷ drop (suc i) all) (sym e) ∙ ap (λ z. k ∷ drop z all) (sym (add-one i)) in
    record {
      rows =
          ap (λ z. z ++ numbered_behind has after (drop (i + 1) all)) a.row
          ∙ append_assoc old (record { row = k; body = length now } ∷ []) (numbered_behind has after (drop (i + 1) all))
          ∙ ap (λ z. old ++ (record { row = k; body = length now } ∷ numbered_behind has z (drop (i + 1) all))) a.bodies
          ∙ ap (λ z. old ++ numbered_behind has now z) (sym split) ∙ g.rows;
      bodies = ap (λ z. bodies_with has z (drop (i + 1) all)) a.bodies ∙ ap (λ z. bodies_with has now z) (sym split) ∙ g.bodies;
    }

pub ends : (has : ℕ → Bool) (all : List ℕ) (i : ℕ) (own : List NumberedRow) (before now : List ℕ) → length all ≤ i → GoesOn has all (drop i all) own before now →
    Numbers has all own before now
ends has all i own before now h g = record {
  rows = sym (append-nil own) ∙ ap (λ z. own ++ numbered_behind has now z) (sym (drop_all i all h)) ∙ g.rows;
  bodies = ap (λ z. bodies_with has now z) (sym (drop_all i all h)) ∙ g.bodies;
}

-- ---- the objects

abbrev pub ObjectsGoOn : (ℕ → Bool) → List ObjectNumbers → List ObjectNumbers → List OwnRows → List ℕ → Type 0
ObjectsGoOn has lists left objects bodies =
    (more : List OwnRows) (all : List ℕ) → AreNumbered has bodies left more all → AreNumbered has [] lists (objects ++ more) all

pub object_goes_on : (has : ℕ → Bool) (lists : List ObjectNumbers) (i : ℕ) (ks d : ObjectNumbers) (own : OwnRows) (old new : List OwnRows) (before after : List ℕ) →
    i < length lists → ks ≡ get_or lists i d → Numbers has ks.items own.items before after → new ≡ old ++ own ∷ [] →
    ObjectsGoOn has lists (drop i lists) old before → ObjectsGoOn has lists (drop (i + 1) lists) new after
object_goes_on has lists i ks d own old new before after h e n a g more all later =
    let split : drop i lists ≡ ks ∷ drop (i + 1) lists = drop-cons lists i d h ∙ ap (λ z. z ∷ drop (suc i) lists) (sym e) ∙ ap (λ z. ks ∷ drop z lists) (sym (add-one i)) in
    let first : AreNumbered has before (ks ∷ drop (i + 1) lists) (own ∷ more) all =
    (n.rows, subst (λ z. AreNumbered has z (drop (i + 1) lists) more all) n.bodies later) in
    subst (λ z. AreNumbered has [] lists z all) (sym (ap (λ z. z ++ more) a ∙ append_assoc old (own ∷ []) more))
    (g (own ∷ more) all (subst (λ z. AreNumbered has before z (own ∷ more) all) (sym split) first))

pub objects_end : (has : ℕ → Bool) (lists : List ObjectNumbers) (i : ℕ) (objects : List OwnRows) (bodies : List ℕ) → length lists ≤ i →
    ObjectsGoOn has lists (drop i lists) objects bodies → AreNumbered has [] lists objects bodies
objects_end has lists i objects bodies h g =
    subst (λ z. AreNumbered has [] lists z bodies) (append-nil objects)
    (g [] bodies (subst (λ z. AreNumbered has bodies z [] bodies) (sym (drop_all i lists h)) refl))

-- One cell scrubbed, and what is noted.
use Rattle.std.proofs.Common.{◌≡◌, ◌∙◌, ◌⊎◌, inl, inr, ap, sym, refl, ℕ, zero, suc, ◌+◌, add-one, ◌<◌, nat_eq, Bool, true, false, List, [], ◌∷◌, length, drop, slice_get, slice_set, if◌then◌else◌, rules, arith}
use Rattle.std.specs.declared.option.Option.{Option}
use Rattle.std.specs.declared.option.Option.TheVariants.{None, Some}
use Rattle.qml_base.specs.declared.numbers.ObjNo.{ObjNo}
use Rattle.qml_base.specs.declared.numbers.CellNo.{CellNo}
use Rattle.qml_value.specs.declared.value.Value.{Value}
use Rattle.qml_value.specs.Scrubbing.{is_among, scrubbed}
use Rattle.tree_model.specs.declared.cells.Cell.{Cell}
use Rattle.tree_model.specs.declared.cells.Content.{Content}
use Rattle.tree_model.specs.declared.cells.Content.TheVariants.{Plain, Bound}
use Rattle.tree_model.specs.Settling.{spare_of, IsSpared, AllSpared}
use Rattle.tree_model.specs.Removing.{content_left, cells_left}
use Rattle.property_store.specs.Stores.{NoneNoted}
use Rattle.property_store.specs.Spares.{content_after, spare_after, AllLeft}
use Rattle.property_store.proofs.KeptLemmas.{split}

nat_eq_is : (m n : ℕ) → nat_eq m n ≡ true → m ≡ n
nat_eq_is m n e = search rules

-- a content whose author is gone becomes what the cell holds, since its spare is that
module _ (gone : List ObjNo) (c : CellNo) (held : Value) (left : is_among gone c.object ≡ false) where
  both : (content : Content) (spare : Option Value) → spare ≡ spare_of c content held → (content_after gone content spare ≡ content_left gone content held) × (spare_after gone content spare ≡ spare_of c (content_left gone content held) (scrubbed gone held))
  both (Plain v) spare e = (refl, refl)
  both (Bound b) spare e = by_author (nat_eq b.author.0 c.object.0) refl (is_among gone b.author) refl
    where
      by_author : (own : Bool) → nat_eq b.author.0 c.object.0 ≡ own → (among : Bool) → is_among gone b.author ≡ among → (content_after gone (Bound b) spare ≡ content_left gone (Bound b) held) × (spare_after gone (Bound b) spare ≡ spare_of c (content_left gone (Bound b) held) (scrubbed gone held))
      by_author true own true among =
          let number : b.author.0 ≡ c.object.0 = nat_eq_is b.author.0 c.object.0 own in
          let same : b.author ≡ c.object = ap (λ n. record { 0 = n }) number in
          let no : true ≡ false = sym among ∙ ap (is_among gone) same ∙ left in
          absurd (cc)
      by_author true own false among =
          let none : spare ≡ None = e ∙ ap (λ (b : Bool). if b then None else Some held) own in
          rw (among, own, none) (refl, refl)
      by_author false own true among =
          let some : spare ≡ Some held = e ∙ ap (λ (b : Bool). if b then None else Some held) own in
          rw (among, some) (refl, refl)
      by_author false own false among =
          let some : spare ≡ Some held = e ∙ ap (λ (b : Bool). if b then None else Some held) own in
          rw (among, own, some) (refl, refl)

  pub content_is : (content : Content) (spare : Option Value) → spare ≡ spare_of c content held → content_after gone content spare ≡ content_left gone content held
  content_is content spare e = (both content spare e).0

  pub spare_is : (content : Content) (spare : Option Value) → spare ≡ spare_of c content held → spare_after gone content spare ≡ spare_of c (content_left gone content held) (scrubbed gone held)
  spare_is content spare e = (both content spare e).1

pub left_first : (gone : List ObjNo) (cells : List Cell) (i : ℕ) (cell : Cell) → slice_get cells i ≡ Some cell → AllLeft gone (drop i cells) → IsSpared cell × (is_among gone cell.no.object ≡ false)
left_first gone [] i cell at all = let no : None ≡ Some cell = at in cc
left_first gone (x ∷ xs) zero cell at all = let same : x ≡ cell = cc in rw (← same) all.0
left_first gone (x ∷ xs) (suc i) cell at all = left_first gone xs i cell at all

pub left_later : (gone : List ObjNo) (cells : List Cell) (i : ℕ) (new : Cell) → i < length cells → AllLeft gone (drop i cells) → AllLeft gone (drop (i + 1) (slice_set cells i new))
left_later gone [] i new h all = absurd (omega arith)
left_later gone (x ∷ xs) zero new h all = all.1
left_later gone (x ∷ xs) (suc i) new h all = rw add-one (rw add-one at (left_later gone xs i new (omega arith) all))

pub all_left : (gone : List ObjNo) (cells : List Cell) → AllSpared cells → AllLeft gone (cells_left gone cells)
all_left gone [] all = tt
all_left gone (x ∷ xs) all = by_object (is_among gone x.no.object) refl (all_left gone xs all.1)
  where
    by_object : (b : Bool) → is_among gone x.no.object ≡ b → AllLeft gone (cells_left gone xs) → AllLeft gone (if b then cells_left gone xs else x ∷ cells_left gone xs)
    by_object true is later = later
    by_object false is later = ((all.0, is), later)

pub none_noted_more : (cells : List Cell) (from i : ℕ) (x : Cell) → NoneNoted cells from i → slice_get cells i ≡ Some x → x.noted ≡ false → NoneNoted cells from (i + 1)
none_noted_more cells from i x none at is j cell low high there = by_place (split j i high)
  where
    by_place : (j < i) ⊎ (j ≡ i) → cell.noted ≡ false
    by_place (inl less) = none j cell low less there
    by_place (inr same) =
        let both : Some cell ≡ Some x = sym there ∙ ap (slice_get cells) same ∙ at in
        let one : cell ≡ x = cc in
        ap (λ (k : Cell). k.noted) one ∙ is

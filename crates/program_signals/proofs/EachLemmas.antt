-- Document after document.
use Rattle.std.proofs.Common.{◌≡◌, ◌∙◌, ap, sym, subst, refl, ℕ, zero, suc, ◌+◌, ◌<◌, ◌≤◌, arith, List, [], ◌∷◌, ◌++◌, length, get_or, drop, add-one, drop-cons, Option, Some, None, is_some}
use Rattle.std.specs.Prelude.{slice_get}
use Rattle.std.proofs.lemmas.Bool.{false≢true}
use Rattle.std.proofs.lemmas.List.{append_assoc, append-nil, drop_all}
use Rattle.program_tables.specs.declared.names.UnitNames.{UnitNames}
use Rattle.document_tables.specs.declared.program.DocumentTable.{DocumentTable}
use Rattle.declared_signals.specs.declared.declaring.UnitSignals.{UnitSignals}
use Rattle.program_signals.specs.Made.{SignalsOf, AreSignals}

-- whatever signals those that are left have, they have all, behind what was made
abbrev pub GoesOn : List UnitNames → ℕ → List DocumentTable → List DocumentTable → List UnitSignals → Type 0
GoesOn us u left all made = (more : List UnitSignals) → AreSignals us u left more → AreSignals us 0 all (made ++ more)

pub goes_begin : (us : List UnitNames) (all : List DocumentTable) → GoesOn us 0 all all []
goes_begin us all more h = h

pub goes_on : (us : List UnitNames) (i : ℕ) (all : List DocumentTable) (x d : DocumentTable) (y : UnitSignals) (old new : List UnitSignals) → i < length all → x ≡ get_or all i d →
    SignalsOf us i x y → new ≡ old ++ y ∷ [] → GoesOn us i (drop i all) all old → GoesOn us (i + 1) (drop (i + 1) all) all new
goes_on us i all x d y old new l e s n g more h =
    let split : drop i all ≡ x ∷ drop (suc i) all = drop-cons all i d l ∙ ap (λ z. z ∷ drop (suc i) all) (sym e) in
    let later : AreSignals us (suc i) (drop (suc i) all) more = subst (λ k. AreSignals us k (drop k all) more) (add-one i) h in
    subst (λ z. AreSignals us 0 all z) (sym (ap (λ z. z ++ more) n ∙ append_assoc old (y ∷ []) more))
    (g (y ∷ more) (subst (λ z. AreSignals us i z (y ∷ more)) (sym split) (s, later)))

pub none_left : (us : List UnitNames) (i : ℕ) (all : List DocumentTable) (made : List UnitSignals) → length all ≤ i → GoesOn us i (drop i all) all made → AreSignals us 0 all made
none_left us i all made l g =
    subst (λ z. AreSignals us 0 all z) (append-nil made) (g [] (subst (λ z. AreSignals us i z []) (sym (drop_all i all l)) tt))

-- ---- those of one document

pub record OfDocument (us : List UnitNames) (u : ℕ) (x : DocumentTable) (made : List UnitSignals) (at : ℕ) : Type 0 where
  pub unit : UnitSignals
  pub there : slice_get made at ≡ Some unit
  pub are : SignalsOf us u x unit

none_some : {X Y : Type 0} (x : X) → Path (Option X) None (Some x) → Y
none_some x e = absurd (false≢true (ap is_some e))

pub of_document : (us : List UnitNames) (n : ℕ) (xs : List DocumentTable) (ys : List UnitSignals) → AreSignals us n xs ys → (u : ℕ) (x : DocumentTable) → slice_get xs u ≡ Some x →
    OfDocument us (n + u) x ys u
of_document us n [] ys a u x e = none_some x e
of_document us n (s ∷ xs) [] a u x e = absurd a
of_document us n (s ∷ xs) (y ∷ ys) a zero x e = record {
  unit = y;
  there = refl;
  are = subst (λ k. SignalsOf us k x y) (let i : n ≡ n + 0 = omega arith in i) (subst (λ z. SignalsOf us n z y) (let same : s ≡ x = cc in same) a.0);
}
of_document us n (s ∷ xs) (y ∷ ys) a (suc u) x e =
    let o = of_document us (suc n) xs ys a.1 u x e in
    record { unit = o.unit; there = o.there; are = subst (λ k. SignalsOf us k x o.unit) (let i : suc n + u ≡ n + suc u = omega arith in i) o.are }

pub as_many : (us : List UnitNames) (n : ℕ) (xs : List DocumentTable) (ys : List UnitSignals) → AreSignals us n xs ys → length ys ≡ length xs
as_many us n [] [] a = refl
as_many us n (x ∷ xs) (y ∷ ys) a = ap suc (as_many us (suc n) xs ys a.1)
as_many us n [] (y ∷ ys) a = absurd a
as_many us n (x ∷ xs) [] a = absurd a

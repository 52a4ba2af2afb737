-- Lists that grow row by row.
use Rattle.std.proofs.Common.{◌≡◌, ◌∙◌, ap, sym, subst, refl, ℕ, zero, suc, ◌+◌, ◌<◌, ◌≤◌, arith, Bool, true, false, List, [], ◌∷◌, ◌++◌, length, get_or, set, take, add-one, Some}
use Rattle.std.specs.Prelude.{nat_eq, slice_get, if◌then◌else◌}
use Rattle.std.proofs.lemmas.List.{append-nil, length-take-le, length-append}
use Rattle.std.proofs.lemmas.Bool.Decides.{nat_tests}
use Rattle.std.proofs.Math.Seq.{take-suc}
use Rattle.program_tables.specs.declared.building.UnitRow.{UnitRow}
use Rattle.object_members.specs.ByObject.{Numbers, numbers_from, numbers_of, AreFrom, AreByObject, IsPut}

abbrev if_own : Bool → ℕ → List ℕ
if_own true n = n ∷ []
if_own false n = []

more_here : (b c : Bool) (n k l : ℕ) (rest before : List ℕ) → l ≡ k → rest ≡ before ++ if_own c k →
    (if b then n ∷ rest else rest) ≡ (if b then n ∷ before else before) ++ if_own c l
more_here true c n k l rest before e h = ap (λ z. n ∷ z) (h ∙ ap (λ z. before ++ if_own c z) (sym e))
more_here false c n k l rest before e h = h ∙ ap (λ z. before ++ if_own c z) (sym e)

alone : (b : Bool) (n k : ℕ) → k ≡ n → (if b then n ∷ [] else []) ≡ [] ++ if_own b k
alone true n k e = ap (λ z. z ∷ []) (sym e)
alone false n k e = refl

one_more : (o n : ℕ) (rows : List UnitRow) (r : UnitRow) →
    numbers_from o n (rows ++ r ∷ []) ≡ numbers_from o n rows ++ if_own (nat_eq r.row.object o) (n + length rows)
one_more o n [] r = alone (nat_eq r.row.object o) n (n + 0) (omega arith)
one_more o n (x ∷ rest) r =
    more_here (nat_eq x.row.object o) (nat_eq r.row.object o) n (suc n + length rest) (n + suc (length rest)) (numbers_from o (suc n) (rest ++ r ∷ []))
    (numbers_from o (suc n) rest) (omega arith) (one_more o (suc n) rest r)

own_more : (o : ℕ) (rows : List UnitRow) (r : UnitRow) → nat_eq r.row.object o ≡ true → numbers_of o (rows ++ r ∷ []) ≡ numbers_of o rows ++ length rows ∷ []
own_more o rows r e =
    one_more o 0 rows r ∙ ap (λ b. numbers_of o rows ++ if_own b (0 + length rows)) e ∙ ap (λ k. numbers_of o rows ++ k ∷ []) (omega arith)

none_more : (o : ℕ) (rows : List UnitRow) (r : UnitRow) → nat_eq r.row.object o ≡ false → numbers_of o (rows ++ r ∷ []) ≡ numbers_of o rows
none_more o rows r e =
    one_more o 0 rows r ∙ ap (λ b. numbers_of o rows ++ if_own b (0 + length rows)) e ∙ append-nil (numbers_of o rows)

others : (o : ℕ) (rows : List UnitRow) (r : UnitRow) (lists : List Numbers) → r.row.object < o → AreFrom o rows lists → AreFrom o (rows ++ r ∷ []) lists
others o rows r [] less h = tt
others o rows r (x ∷ xs) less h =
    let other : nat_eq r.row.object o ≡ false = grind (arith, nat_tests) in
    (h.0 ∙ sym (none_more o rows r other), others (suc o) rows r xs (omega (arith, less)) h.1)

put_from : (o at : ℕ) (rows : List UnitRow) (r : UnitRow) (old new : List Numbers) → r.row.object ≡ o + at → IsPut at (length rows) old new → AreFrom o rows old →
    AreFrom o (rows ++ r ∷ []) new
put_from o at rows r [] [] e p h = tt
put_from o zero rows r (x ∷ xs) (y ∷ ys) e p h =
    let own : nat_eq r.row.object o ≡ true = grind (arith, nat_tests) in (
      p.0 ∙ ap (λ z. z ++ length rows ∷ []) h.0 ∙ sym (own_more o rows r own),
      subst (λ z. AreFrom (suc o) (rows ++ r ∷ []) z) (sym p.1) (others (suc o) rows r xs (omega (arith, e)) h.1),
    )
put_from o (suc at) rows r (x ∷ xs) (y ∷ ys) e p h =
    let other : nat_eq r.row.object o ≡ false = grind (arith, nat_tests) in
    (ap (λ v. v.items) p.0 ∙ h.0 ∙ sym (none_more o rows r other), put_from (suc o) at rows r xs ys (omega (arith, e)) p.1 h.1)
put_from o at rows r [] (y ∷ ys) e p h = absurd p
put_from o at rows r (x ∷ xs) [] e p h = absurd p

-- ---- as the code does it

pub put_here : (at number : ℕ) (d later : Numbers) (old : List Numbers) → at < length old → later.items ≡ (get_or old at d).items ++ number ∷ [] →
    IsPut at number old (set old at later)
put_here at number d later [] h e = absurd (omega (arith, h))
put_here zero number d later (x ∷ xs) h e = (e, refl)
put_here (suc at) number d later (x ∷ xs) h e = (refl, put_here at number d later xs (omega (arith, h)) e)

pub put_nowhere : (at number : ℕ) (old : List Numbers) → length old ≤ at → IsPut at number old old
put_nowhere at number [] h = tt
put_nowhere zero number (x ∷ xs) h = absurd (omega (arith, h))
put_nowhere (suc at) number (x ∷ xs) h = (refl, put_nowhere at number xs (omega (arith, h)))

put_long : (at number : ℕ) (old new : List Numbers) → IsPut at number old new → length new ≡ length old
put_long at number [] [] p = refl
put_long zero number (x ∷ xs) (y ∷ ys) p = ap (λ z. suc (length z)) p.1
put_long (suc at) number (x ∷ xs) (y ∷ ys) p = ap suc (put_long at number xs ys p.1)
put_long at number [] (y ∷ ys) p = absurd p
put_long at number (x ∷ xs) [] p = absurd p

pub row_listed : (count number : ℕ) (rows : List UnitRow) (d : UnitRow) (old new : List Numbers) → number < length rows →
    AreByObject count (take number rows) old → IsPut (get_or rows number d).row.object number old new → AreByObject count (take (number + 1) rows) new
row_listed count number rows d old new h a p =
    let front : length (take number rows) ≡ number = length-take-le number rows (omega (arith, h)) in
    let put : IsPut (get_or rows number d).row.object (length (take number rows)) old new =
    subst (λ k. IsPut (get_or rows number d).row.object k old new) (sym front) p in
    record {
      long = put_long (get_or rows number d).row.object number old new p ∙ a.long;
      are = subst (λ z. AreFrom 0 z new) (sym (ap (λ k. take k rows) (add-one number) ∙ take-suc rows number d h))
          (put_from 0 (get_or rows number d).row.object (take number rows) (get_or rows number d) old new (omega arith) put a.are);
    }

empty_more : (o : ℕ) (lists : List Numbers) (v : Numbers) → v.items ≡ [] → AreFrom o [] lists → AreFrom o [] (lists ++ v ∷ [])
empty_more o [] v e h = (e, tt)
empty_more o (x ∷ xs) v e h = (h.0, empty_more (suc o) xs v e h.1)

pub more_empty : (n : ℕ) (old new : List Numbers) (v : Numbers) → AreByObject n [] old → v.items ≡ [] → new ≡ old ++ v ∷ [] → AreByObject (n + 1) [] new
more_empty n old new v a e h = record {
  long = ap length h ∙ length-append old (v ∷ []) ∙ ap (λ k. k + 1) a.long;
  are = subst (λ z. AreFrom 0 [] z) (sym h) (empty_more 0 old v e a.are);
}

-- ---- for those who ask for an object's list

from_list : (o at : ℕ) (rows : List UnitRow) (lists : List Numbers) (own : Numbers) → AreFrom o rows lists → slice_get lists at ≡ Some own →
    own.items ≡ numbers_of (o + at) rows
from_list o zero rows [] own h e = absurd (cc)
from_list o (suc at) rows [] own h e = absurd (cc)
from_list o zero rows (x ∷ xs) own h e = ap (λ (v : Numbers). v.items) (let same : own ≡ x = cc in same) ∙ h.0 ∙ ap (λ k. numbers_of k rows) (omega arith)
from_list o (suc at) rows (x ∷ xs) own h e = from_list (suc o) at rows xs own h.1 e ∙ ap (λ k. numbers_of k rows) (omega arith)

-- the list of an object
pub list_of : (count o : ℕ) (rows : List UnitRow) (lists : List Numbers) (own : Numbers) → AreByObject count rows lists → slice_get lists o ≡ Some own →
    own.items ≡ numbers_of o rows
list_of count o rows lists own a e = from_list 0 o rows lists own a.are e ∙ ap (λ k. numbers_of k rows) (omega arith)

-- Fields and their names.
use Rattle.std.proofs.Common.{◌≡◌, ◌≢◌, ◌∙◌, ◌⊎◌, ◌↔◌, inl, inr, ap, refl, map, sym, subst, ℕ, suc, zero, List, [], ◌∷◌, ◌++◌, ◌<◌, ◌+◌, length, take, get_or, arith, slice_set}
use Rattle.std.proofs.lemmas.List.{take_more}
use Rattle.qml_value.specs.declared.value.Value.{Value}
use Rattle.qml_value.specs.declared.value.Field.{Field}
use Rattle.qml_value.specs.Naming.{Lacks, HasDistinctNames, StandsUnder, Puts, IsFirstNamed}

pub lacks-push : (xs : List Field) (y : Field) (name : List ℕ) → Lacks xs name → y.name ≢ name → Lacks (xs ++ y ∷ []) name
lacks-push [] y name l ne = (ne, tt)
lacks-push (x ∷ xs) y name l ne = (l.0, lacks-push xs y name l.1 ne)

pub puts-set : (fields : List Field) (name : List ℕ) (value : Value) (at : ℕ) → IsFirstNamed fields name at
    → Puts name value fields (slice_set fields at (record { name = name; value = value }))
puts-set [] name value at first = absurd (let w : at < 0 = first.within in omega arith)
puts-set (field ∷ rest) name value zero first =
    subst (λ n. Puts name value (record { name = n; value = field.value } ∷ rest) (record { name = name; value = value } ∷ rest)) (sym (first.named field)) Puts.here
puts-set (field ∷ rest) name value (suc at) first =
    Puts.behind (first.before.0) (puts-set rest name value at (record { within = (let w : suc at < length (field ∷ rest) = first.within in omega arith); named = first.named; before = first.before.1 }))

pub puts-push : (fields : List Field) (name : List ℕ) (value : Value) → Lacks fields name
    → Puts name value fields (fields ++ record { name = name; value = value } ∷ [])
puts-push [] name value l = Puts.last
puts-push (field ∷ rest) name value l = Puts.behind l.0 (puts-push rest name value l.1)

pub stands-at : (fields : List Field) (name : List ℕ) (at : ℕ) (d : Field) → IsFirstNamed fields name at
    → StandsUnder name ((get_or fields at d).value) fields
stands-at [] name at d first = absurd (let w : at < 0 = first.within in omega arith)
stands-at (field ∷ rest) name zero d first =
    subst (λ n. StandsUnder n field.value (field ∷ rest)) (first.named field) StandsUnder.here
stands-at (field ∷ rest) name (suc at) d first =
    StandsUnder.behind (first.before.0) (stands-at rest name at d (record { within = (let w : suc at < length (field ∷ rest) = first.within in omega arith); named = first.named; before = first.before.1 }))

lacks-put : (name : List ℕ) (value : Value) (old new : List Field) (other : List ℕ) → Puts name value old new → name ≢ other → Lacks old other → Lacks new other
lacks-put name value old new other Puts.last ne l = (ne, tt)
lacks-put name value old new other Puts.here ne l = (ne, l.1)
lacks-put name value old new other (Puts.behind {rest = rest} {new = after} differs puts) ne l = (l.0, lacks-put name value rest after other puts ne l.1)

pub distinct-put : (name : List ℕ) (value : Value) (old new : List Field) → Puts name value old new → HasDistinctNames old → HasDistinctNames new
distinct-put name value old new Puts.last h = (tt, tt)
distinct-put name value old new Puts.here h = h
distinct-put name value old new (Puts.behind {other = field} {rest = rest} {new = after} differs puts) h =
    (lacks-put name value rest after field.name puts (λ e. differs (sym e)) h.0, distinct-put name value rest after puts h.1)

pub lacks-more : (fields : List Field) (name : List ℕ) (at : ℕ) (y : Field) → Lacks (take at fields) name → at < length fields → y ≡ get_or fields at y → y.name ≢ name
    → Lacks (take (at + 1) fields) name
lacks-more fields name at y l within is ne =
    rw (take_more fields at y within) (rw (← is) (lacks-push (take at fields) y name l ne))

pub found-put : (name : List ℕ) (value : Value) (old new : List Field) → Puts name value old new → StandsUnder name value new
found-put name value old new Puts.last = StandsUnder.here
found-put name value old new Puts.here = StandsUnder.here
found-put name value old new (Puts.behind {rest = rest} {new = after} differs puts) = StandsUnder.behind differs (found-put name value rest after puts)

-- the value under a name, by recursion over the fields
abbrev Under : List Field → List ℕ → Value → Type 0
Under [] name value = ⊥
Under (field ∷ rest) name value = ((field.name ≡ name) × (field.value ≡ value)) ⊎ ((field.name ≢ name) × Under rest name value)

to-under : (name : List ℕ) (value : Value) (fields : List Field) → StandsUnder name value fields → Under fields name value
to-under name value fields StandsUnder.here = inl (refl, refl)
to-under name value fields (StandsUnder.behind {rest = rest} differs stands) = inr (differs, to-under name value rest stands)

from-under : (name : List ℕ) (value : Value) (fields : List Field) → Under fields name value → StandsUnder name value fields
from-under name value [] u = absurd u
from-under name value (field ∷ rest) (inl both) =
    subst (λ n. StandsUnder n value (field ∷ rest)) both.0 (subst (λ v. StandsUnder field.name v (field ∷ rest)) both.1 StandsUnder.here)
from-under name value (field ∷ rest) (inr both) = StandsUnder.behind both.0 (from-under name value rest both.1)

one-under : (name : List ℕ) (a b : Value) (fields : List Field) → Under fields name a → Under fields name b → a ≡ b
one-under name a b [] u w = absurd u
one-under name a b (field ∷ rest) (inl u) (inl w) = sym u.1 ∙ w.1
one-under name a b (field ∷ rest) (inl u) (inr w) = absurd (w.0 u.0)
one-under name a b (field ∷ rest) (inr u) (inl w) = absurd (u.0 w.0)
one-under name a b (field ∷ rest) (inr u) (inr w) = one-under name a b rest u.1 w.1

pub one-stands : (name : List ℕ) (a b : Value) (fields : List Field) → StandsUnder name a fields → StandsUnder name b fields → a ≡ b
one-stands name a b fields s t = one-under name a b fields (to-under name a fields s) (to-under name b fields t)

others-to : (name : List ℕ) (value : Value) (other : List ℕ) (stood : Value) (old new : List Field) → Puts name value old new → other ≢ name → Under old other stood → Under new other stood
others-to name value other stood old new Puts.last ne u = absurd u
others-to name value other stood old new Puts.here ne (inl u) = absurd (ne (sym u.0))
others-to name value other stood old new Puts.here ne (inr u) = inr u
others-to name value other stood old new (Puts.behind differs puts) ne (inl u) = inl u
others-to name value other stood old new (Puts.behind {rest = rest} {new = after} differs puts) ne (inr u) = inr (u.0, others-to name value other stood rest after puts ne u.1)

others-from : (name : List ℕ) (value : Value) (other : List ℕ) (stood : Value) (old new : List Field) → Puts name value old new → other ≢ name → Under new other stood → Under old other stood
others-from name value other stood old new Puts.last ne (inl u) = absurd (ne (sym u.0))
others-from name value other stood old new Puts.last ne (inr u) = u.1
others-from name value other stood old new Puts.here ne (inl u) = absurd (ne (sym u.0))
others-from name value other stood old new Puts.here ne (inr u) = inr u
others-from name value other stood old new (Puts.behind differs puts) ne (inl u) = inl u
others-from name value other stood old new (Puts.behind {rest = rest} {new = after} differs puts) ne (inr u) = inr (u.0, others-from name value other stood rest after puts ne u.1)

pub others-put : (name other : List ℕ) (value stood : Value) (old new : List Field) → Puts name value old new → other ≢ name → StandsUnder other stood old ↔ StandsUnder other stood new
others-put name other value stood old new puts ne = (
  (λ s. from-under other stood new (others-to name value other stood old new puts ne (to-under other stood old s))),
  (λ s. from-under other stood old (others-from name value other stood old new puts ne (to-under other stood new s))),
)

pub names-put : (name : List ℕ) (value : Value) (old new : List Field) → Puts name value old new
    → (map (λ (field : Field). field.name) new ≡ map (λ (field : Field). field.name) old) ⊎ (Lacks old name × (map (λ (field : Field). field.name) new ≡ map (λ (field : Field). field.name) old ++ name ∷ []))
names-put name value old new Puts.last = inr (tt, refl)
names-put name value old new Puts.here = inl refl
names-put name value old new (Puts.behind {other = field} {rest = rest} {new = after} differs puts) =
    elim (names-put name value rest after puts) [ inl e ↦ inl (ap (λ names. field.name ∷ names) e) | inr both ↦ inr ((differs, both.0), ap (λ names. field.name ∷ names) both.1) ]

-- What the members of a document give, in the order of writing and object after object.
use Rattle.std.proofs.Common.{◌≡◌, ◌∙◌, ap, sym, refl, ℕ, zero, suc, ◌+◌, ◌<◌, arith, Bool, true, false, nat_eq, if◌then◌else◌, List, [], ◌∷◌, ◌++◌, flat_map}
use Rattle.std.specs.Prelude.{slice_get}
use Rattle.std.specs.Option.{unwrap_or}
use Rattle.std.proofs.lemmas.Bool.Decides.{nat_tests}
use Rattle.std.proofs.lemmas.List.{append-nil}
use Rattle.std.proofs.lemmas.Grind.{flat_map-append}
use Rattle.program_names.specs.Written.{WrittenObject, WrittenMember, OwnedMember, row}
use Rattle.program_names.specs.Loaded.{Program, unit_at, no_object}
use Rattle.document_rows.specs.WrittenObjects.{members_of_object}
use Rattle.load_faults.specs.Faults.{Faults, first_from, objects_from, each_member}
use Rattle.written_order.specs.InOrder.{HasMembers, ToldAlike, faults_written}
use Rattle.written_order.proofs.KeyLemmas.{told, of_key, Apart, alike}

abbrev pub AllOwned : {X : Type 0} → (X → ℕ) → ℕ → List X → Type 0
AllOwned key o [] = Unit {0}
AllOwned key o (x ∷ xs) = (key x ≡ o) × AllOwned key o xs

-- what a member of an object gives has the object's number as key
abbrev pub Owned : {X : Type 0} → (X → ℕ) → (ℕ → WrittenMember → List X) → Type 0
Owned key g = (o : ℕ) (m : WrittenMember) → AllOwned key o (g o m)

abbrev pub by_object : {X : Type 0} → (ℕ → WrittenMember → List X) → ℕ → List WrittenObject → List X
by_object g o [] = []
by_object g o (w ∷ ws) = flat_map (g o) w.members ++ by_object g (suc o) ws

abbrev pub by_rows : {X : Type 0} → (ℕ → WrittenMember → List X) → List OwnedMember → List X
by_rows g rows = flat_map (λ (r : OwnedMember). g r.object r.member) rows

-- ---- those of a key

same_number : (a k : ℕ) → a ≡ k → nat_eq a k ≡ true
same_number a k h = grind (arith, nat_tests)

is_number : (a k : ℕ) → nat_eq a k ≡ true → a ≡ k
is_number a k h = grind (arith, nat_tests)

both_keys : {X : Type 0} (key : X → ℕ) (k : ℕ) (xs ys : List X) → of_key key k (xs ++ ys) ≡ of_key key k xs ++ of_key key k ys
both_keys key k [] ys = refl
both_keys {X} key k (x ∷ xs) ys = by_test (both_keys key k xs ys) (nat_eq (key x) k)
  where
    by_test : of_key key k (xs ++ ys) ≡ of_key key k xs ++ of_key key k ys → (b : Bool)
        → (if b then x ∷ of_key key k (xs ++ ys) else of_key key k (xs ++ ys)) ≡ (if b then x ∷ of_key key k xs else of_key key k xs) ++ of_key key k ys
    by_test rest true = ap (λ zs. x ∷ zs) rest
    by_test rest false = rest

all_own : {X : Type 0} (key : X → ℕ) (k : ℕ) (xs : List X) → AllOwned key k xs → of_key key k xs ≡ xs
all_own key k [] h = refl
all_own key k (x ∷ xs) h =
    ap (λ b. if b then x ∷ of_key key k xs else of_key key k xs) (same_number (key x) k h.0) ∙ ap (λ zs. x ∷ zs) (all_own key k xs h.1)

none_own : {X : Type 0} (key : X → ℕ) (o k : ℕ) (xs : List X) → AllOwned key o xs → nat_eq o k ≡ false → of_key key k xs ≡ []
none_own key o k [] h e = refl
none_own key o k (x ∷ xs) h e =
    ap (λ b. if b then x ∷ of_key key k xs else of_key key k xs) (ap (λ a. nat_eq a k) h.0 ∙ e) ∙ none_own key o k xs h.1 e

owned_both : {X : Type 0} (key : X → ℕ) (o : ℕ) (xs ys : List X) → AllOwned key o xs → AllOwned key o ys → AllOwned key o (xs ++ ys)
owned_both key o [] ys h g = g
owned_both key o (x ∷ xs) ys h g = (h.0, owned_both key o xs ys h.1 g)

owned_members : {X : Type 0} (key : X → ℕ) (g : ℕ → WrittenMember → List X) → Owned key g → (o : ℕ) (ms : List WrittenMember) → AllOwned key o (flat_map (g o) ms)
owned_members key g own o [] = tt
owned_members key g own o (m ∷ ms) = owned_both key o (g o m) (flat_map (g o) ms) (own o m) (owned_members key g own o ms)

rows_key : {X : Type 0} (key : X → ℕ) (g : ℕ → WrittenMember → List X) → Owned key g → (k : ℕ) (rows : List OwnedMember)
    → of_key key k (by_rows g rows) ≡ flat_map (g k) (members_of_object k rows)
rows_key key g own k [] = refl
rows_key {X} key g own k (r ∷ rs) =
    both_keys key k (g r.object r.member) (by_rows g rs) ∙ ap (λ zs. of_key key k (g r.object r.member) ++ zs) (rows_key key g own k rs) ∙
    by_test (nat_eq r.object k) refl
  where
    by_test : (b : Bool) → nat_eq r.object k ≡ b
        → of_key key k (g r.object r.member) ++ flat_map (g k) (members_of_object k rs) ≡ flat_map (g k) ((if b then r.member ∷ [] else []) ++ members_of_object k rs)
    by_test true e =
        ap (λ o. of_key key k (g o r.member) ++ flat_map (g k) (members_of_object k rs)) (is_number r.object k e) ∙
        ap (λ zs. zs ++ flat_map (g k) (members_of_object k rs)) (all_own key k (g k r.member) (own k r.member))
    by_test false e = ap (λ zs. zs ++ flat_map (g k) (members_of_object k rs)) (none_own key r.object k (g r.object r.member) (own r.object r.member) e)

before : (o k : ℕ) → k < o → nat_eq o k ≡ false
before o k h = grind (arith, nat_tests)

up : (o k : ℕ) → k < o → k < suc o
up o k h = omega arith

none_later : {X : Type 0} (key : X → ℕ) (g : ℕ → WrittenMember → List X) → Owned key g → (k o : ℕ) (ws : List WrittenObject) → k < o → of_key key k (by_object g o ws) ≡ []
none_later key g own k o [] h = refl
none_later key g own k o (w ∷ ws) h =
    both_keys key k (flat_map (g o) w.members) (by_object g (suc o) ws) ∙
    ap (λ zs. zs ++ of_key key k (by_object g (suc o) ws)) (none_own key o k (flat_map (g o) w.members) (owned_members key g own o w.members) (before o k h)) ∙
    none_later key g own k (suc o) ws (up o k h)

here : (o k : ℕ) → k ≡ o + 0 → o ≡ k
here o k e = omega arith

now_before : (o k : ℕ) → k ≡ o + 0 → k < suc o
now_before o k e = omega arith

further : (o k j : ℕ) → k ≡ o + suc j → k ≡ suc o + j
further o k j e = omega arith

not_here : (o k j : ℕ) → k ≡ o + suc j → nat_eq o k ≡ false
not_here o k j e = grind (arith, nat_tests)

abbrev members_in : List WrittenObject → ℕ → List WrittenMember
members_in ws j = (unwrap_or (slice_get ws j) no_object).members

objects_key : {X : Type 0} (key : X → ℕ) (g : ℕ → WrittenMember → List X) → Owned key g → (k o j : ℕ) (ws : List WrittenObject) → k ≡ o + j
    → of_key key k (by_object g o ws) ≡ flat_map (g k) (members_in ws j)
objects_key key g own k o j [] e = refl
objects_key key g own k o zero (w ∷ ws) e =
    both_keys key k (flat_map (g o) w.members) (by_object g (suc o) ws) ∙
    ap (λ zs. of_key key k (flat_map (g o) w.members) ++ zs) (none_later key g own k (suc o) ws (now_before o k e)) ∙
    append-nil (of_key key k (flat_map (g o) w.members)) ∙ ap (λ i. of_key key k (flat_map (g i) w.members)) (here o k e) ∙
    all_own key k (flat_map (g k) w.members) (owned_members key g own k w.members)
objects_key key g own k o (suc j) (w ∷ ws) e =
    both_keys key k (flat_map (g o) w.members) (by_object g (suc o) ws) ∙
    ap (λ zs. zs ++ of_key key k (by_object g (suc o) ws)) (none_own key o k (flat_map (g o) w.members) (owned_members key g own o w.members) (not_here o k j e)) ∙
    objects_key key g own k (suc o) j ws (further o k j e)

from_none : (k : ℕ) → k ≡ 0 + k
from_none k = omega arith

-- what they tell in both orders
pub in_both_orders : {X : Type 0} (key : X → ℕ) (f : List X → X → Faults) → Apart key f → (g : ℕ → WrittenMember → List X) → Owned key g → (p : Program) (d : ℕ) → HasMembers p d
    → ToldAlike (told f [] (by_rows g (unit_at p d).rows)) (told f [] (by_object g 0 (unit_at p d).objects))
in_both_orders key f s g own p d h kept =
    alike key f s (by_rows g (unit_at p d).rows) (by_object g 0 (unit_at p d).objects)
    (λ k.
    rows_key key g own k (unit_at p d).rows ∙ ap (flat_map (g k)) (sym (h k)) ∙
    sym (objects_key key g own k 0 k (unit_at p d).objects (from_none k)))
    kept

-- ---- members that tell by themselves

abbrev one_row : ℕ → WrittenMember → List OwnedMember
one_row o m = row o m ∷ []

abbrev number : OwnedMember → ℕ
number r = r.object

abbrev by_itself : (ℕ → WrittenMember → Faults) → List OwnedMember → OwnedMember → Faults
by_itself f seen r = f r.object r.member

own_rows : Owned number one_row
own_rows o m = (refl, tt)

apart : (f : ℕ → WrittenMember → Faults) → Apart number (by_itself f)
apart f x y latest seen e = refl

told_flat : (f : ℕ → WrittenMember → Faults) (seen rows : List OwnedMember) → told (by_itself f) seen rows ≡ flat_map (λ (r : OwnedMember). f r.object r.member) rows
told_flat f seen [] = refl
told_flat f seen (r ∷ rs) = ap (λ t. f r.object r.member ++ t) (told_flat f (r ∷ seen) rs)

same_rows : (f : ℕ → WrittenMember → Faults) (rows : List OwnedMember) → flat_map (λ (r : OwnedMember). f r.object r.member) (by_rows one_row rows) ≡ flat_map (λ (r : OwnedMember). f r.object r.member) rows
same_rows f [] = refl
same_rows f (r ∷ rs) = ap (λ t. f r.object r.member ++ t) (same_rows f rs)

of_object : (f : ℕ → WrittenMember → Faults) (o : ℕ) (ms : List WrittenMember) → flat_map (λ (r : OwnedMember). f r.object r.member) (flat_map (one_row o) ms) ≡ flat_map (f o) ms
of_object f o [] = refl
of_object f o (m ∷ ms) = ap (λ t. f o m ++ t) (of_object f o ms)

of_objects : (f : ℕ → WrittenMember → Faults) (o : ℕ) (ws : List WrittenObject)
    → flat_map (λ (r : OwnedMember). f r.object r.member) (by_object one_row o ws) ≡ objects_from o ws (λ o w. flat_map (f o) w.members)
of_objects f o [] = refl
of_objects f o (w ∷ ws) =
    flat_map-append (λ (r : OwnedMember). f r.object r.member) (flat_map (one_row o) w.members) (by_object one_row (suc o) ws) ∙
    ap (λ t. t ++ flat_map (λ (r : OwnedMember). f r.object r.member) (by_object one_row (suc o) ws)) (of_object f o w.members) ∙
    ap (λ t. flat_map (f o) w.members ++ t) (of_objects f (suc o) ws)

pub members_alike : (p : Program) (d : ℕ) (f : ℕ → WrittenMember → Faults) → HasMembers p d → ToldAlike (faults_written p d f) (each_member p d f)
members_alike p d f h kept =
    ap (first_from kept) (sym (told_flat f [] (by_rows one_row (unit_at p d).rows) ∙ same_rows f (unit_at p d).rows)) ∙
    in_both_orders number (by_itself f) (apart f) one_row own_rows p d h kept ∙
    ap (first_from kept) (told_flat f [] (by_object one_row 0 (unit_at p d).objects) ∙ of_objects f 0 (unit_at p d).objects)

-- The rows with their numbers are the members with those of their bodies.
use Rattle.std.proofs.Common.{◌≡◌, ◌∙◌, ap, sym, subst, refl, ℕ, zero, suc, ◌+◌, ◌<◌, arith, Bool, true, false, cond, List, [], ◌∷◌, ◌++◌, length, map, Some}
use Rattle.std.specs.Prelude.{nat_eq, slice_get, ◌||◌, if◌then◌else◌}
use Rattle.std.specs.Option.{option_map, unwrap_or}
use Rattle.std.specs.List.{cons_option, filter, filter_map}
use Rattle.std.proofs.lemmas.List.{append_assoc, append-nil, map-append, length-append}
use Rattle.std.proofs.lemmas.List.Elements.{filter-append}
use Rattle.std.proofs.lemmas.Bool.Decides.{nat_tests}
use Rattle.qml_syntax.specs.Tree.{Units}
use Rattle.qml_syntax.specs.Nodes.{Table}
use Rattle.program_names.specs.Written.{WrittenObject, OwnedMember, row}
use Rattle.program_names.specs.Loaded.{Program, unit_at, no_object}
use Rattle.document_rows.specs.WholePaths.{path_at}
use Rattle.document_rows.specs.WrittenObjects.{kept, members_of_object}
use Rattle.document_members.specs.Members.{added_by}
use Rattle.program_tables.specs.declared.building.UnitRow.{UnitRow}
use Rattle.program_tables.specs.declared.names.UnitNames.{UnitNames}
use Rattle.program_tables.specs.Building.{is_group, is_inside}
use Rattle.program_tables.specs.RowsSay.{RowsSay}
use Rattle.program_tables.proofs.GroupLemmas.{is_filled, inside_alike, filled_by}
use Rattle.document_tables.specs.Groups.{insides}
use Rattle.document_tables.specs.Tables.{Tells}
use Rattle.unit_rows.specs.Bodies.{NumberedMember, body_of_row, numbered_from, rows_by_object, of_object}
use Rattle.object_members.specs.ByObject.{Numbers as ObjectNumbers, numbers_from, AreFrom, AreByObject}
use Rattle.numbered_bodies.specs.declared.numbering.NumberedRow.{NumberedRow}
use Rattle.numbered_bodies.specs.NumberedRows.{OwnRows, has_body, row_has_body, with_body, numbered_behind, bodies_with, AreNumbered, numbered_member, NumberBodies}
use Rattle.numbered_bodies.proofs.BodyLemmas.{count, body_counted}

-- ---- rows and members, one by one

-- of each row its object, and whether it has a body
abbrev pub Alike : Program → ℕ → Table → List UnitRow → List Bool → List OwnedMember → Type 0
Alike p d t [] bs [] = Unit {0}
Alike p d t (r ∷ rs) (b ∷ bs) (w ∷ ws) =
    (r.row.object ≡ w.object) × (length (body_of_row p d w) ≡ count (has_body t b r.member)) × Alike p d t rs bs ws
Alike p d t _ _ _ = ⊥

pub alike : (p : Program) (d : ℕ) (t : Table) (grouping : List Bool) (paths : List (List Units)) (rows : List UnitRow) (ws : List OwnedMember) →
    RowsSay p d t paths rows ws → grouping ≡ map is_filled paths → Alike p d t rows (insides grouping rows) ws
alike p d t grouping paths [] [] s e = tt
alike p d t grouping paths [] (w ∷ ws) s e = absurd s
alike p d t grouping paths (r ∷ rs) [] s e = absurd s
alike p d t grouping paths (r ∷ rs) (w ∷ ws) s e =
    let before = path_at paths r.row.group in
    let here : is_inside grouping r.row.group ≡ is_filled before = ap (λ b. is_inside b r.row.group) e ∙ inside_alike paths r.row.group in (
      s.0.object,
      sym (ap (λ x. length (body_of_row p d (row w.object x))) s.0.member) ∙ body_counted p d w.object t before r.row.first r.member
          ∙ ap (λ b. count (has_body t b r.member)) (sym here),
      alike p d t (grouping ++ (is_inside grouping r.row.group || is_group r.member) ∷ []) (paths ++ (before ++ added_by r.member) ∷ []) rs ws s.1
          (ap (λ bs. bs ++ (is_inside grouping r.row.group || is_group r.member) ∷ []) e
          ∙ ap (λ b. map is_filled paths ++ b ∷ []) (ap (λ b. b || is_group r.member) here ∙ sym (filled_by before r.member))
          ∙ sym (map-append is_filled paths ((before ++ added_by r.member) ∷ []))),
    )

-- the member of a number has a body where its row has one
pub counted_at : (p : Program) (d : ℕ) (t : Table) (rs : List UnitRow) (bs : List Bool) (ws : List OwnedMember) (k : ℕ) (w : OwnedMember) →
    Alike p d t rs bs ws → slice_get ws k ≡ Some w → length (body_of_row p d w) ≡ count (row_has_body t rs bs k)
counted_at p d t [] bs [] k w a e = absurd (cc)
counted_at p d t (r ∷ rs) (b ∷ bs) (v ∷ ws) zero w a e = ap (λ x. length (body_of_row p d x)) (let same : w ≡ v = cc in same) ∙ a.1
counted_at p d t (r ∷ rs) (b ∷ bs) (v ∷ ws) (suc k) w a e = counted_at p d t rs bs ws k w a.2 e
counted_at p d t [] bs (v ∷ ws) k w a e = absurd a
counted_at p d t (r ∷ rs) [] ws k w a e = absurd a
counted_at p d t (r ∷ rs) (b ∷ bs) [] k w a e = absurd a

-- ---- the members of one object

abbrev pub own : ℕ → List OwnedMember → List OwnedMember
own o ws = filter (λ (w : OwnedMember). nat_eq w.object o) ws

-- members have a body where this says so of their numbers
abbrev Counts : Program → ℕ → (ℕ → Bool) → List OwnedMember → Type 0
Counts p d has all = (k : ℕ) (w : OwnedMember) → slice_get all k ≡ Some w → length (body_of_row p d w) ≡ count (has k)

abbrev pub SameObjects : List UnitRow → List OwnedMember → Type 0
SameObjects [] [] = Unit {0}
SameObjects (r ∷ rs) (w ∷ ws) = (r.row.object ≡ w.object) × SameObjects rs ws
SameObjects _ _ = ⊥

pub same_objects : (p : Program) (d : ℕ) (t : Table) (rs : List UnitRow) (bs : List Bool) (ws : List OwnedMember) → Alike p d t rs bs ws → SameObjects rs ws
same_objects p d t [] bs [] a = tt
same_objects p d t (r ∷ rs) (b ∷ bs) (w ∷ ws) a = (a.0, same_objects p d t rs bs ws a.2)
same_objects p d t [] bs (w ∷ ws) a = absurd a
same_objects p d t (r ∷ rs) [] ws a = absurd a
same_objects p d t (r ∷ rs) (b ∷ bs) [] a = absurd a

pub at_front : (front ws : List OwnedMember) (w : OwnedMember) → slice_get (front ++ w ∷ ws) (length front) ≡ Some w
at_front [] ws w = refl
at_front (x ∷ front) ws w = at_front front ws w

longer : (b : Bool) (k n m : ℕ) (bodies : List ℕ) → m ≡ count b → length (with_body b k bodies) ≡ length bodies + m
longer true k n m bodies e = length-append bodies (k ∷ []) ∙ ap (λ z. length bodies + z) (sym e)
longer false k n m bodies e = let none : m ≡ 0 = e in omega (arith, none)

abbrev pub chosen : {A : Type 0} → Bool → A → List A → List A
chosen true x xs = x ∷ xs
chosen false x xs = xs

pub if_chosen : {A : Type 0} (b : Bool) (x : A) (xs : List A) → (if b then x ∷ xs else xs) ≡ chosen b x xs
if_chosen true x xs = refl
if_chosen false x xs = refl

pub cond_chosen : {A : Type 0} (b : Bool) (x : A) (xs : List A) → cond b (x ∷ xs) xs ≡ chosen b x xs
cond_chosen true x xs = refl
cond_chosen false x xs = refl

abbrev seen_in : List OwnedMember → List NumberedRow → List NumberedMember
seen_in all rows = filter_map (numbered_member all) rows

-- a row of the object, or of another
row_own : (p : Program) (d : ℕ) (has : ℕ → Bool) (b : Bool) (all rest : List OwnedMember) (w : OwnedMember) (n : ℕ) (numbers bodies : List ℕ) →
    slice_get all n ≡ Some w → length (body_of_row p d w) ≡ count (has n) →
    ((now : List ℕ) → seen_in all (numbered_behind has now numbers) ≡ numbered_from p d (length now) rest) →
    seen_in all (numbered_behind has bodies (chosen b n numbers)) ≡ numbered_from p d (length bodies) (chosen b w rest)
row_own p d has true all rest w n numbers bodies e c later =
    ap (λ z. cons_option (option_map (λ (x : OwnedMember). record { object = x.object; member = x.member; body = length bodies }) z)
    (seen_in all (numbered_behind has (with_body (has n) n bodies) numbers))) e
    ∙ ap (λ z. record { object = w.object; member = w.member; body = length bodies } ∷ z)
    (later (with_body (has n) n bodies) ∙ ap (λ z. numbered_from p d z rest) (longer (has n) n 0 (length (body_of_row p d w)) bodies c))
row_own p d has false all rest w n numbers bodies e c later = later bodies

numbered_own : (p : Program) (d : ℕ) (has : ℕ → Bool) (o n : ℕ) (all front : List OwnedMember) (rs : List UnitRow) (ws : List OwnedMember) (bodies : List ℕ) →
    SameObjects rs ws → n ≡ length front → all ≡ front ++ ws → Counts p d has all →
    seen_in all (numbered_behind has bodies (numbers_from o n rs)) ≡ numbered_from p d (length bodies) (own o ws)
numbered_own p d has o n all front [] [] bodies s e a c = refl
numbered_own p d has o n all front (r ∷ rs) (w ∷ ws) bodies s e a c =
    let there : slice_get all n ≡ Some w = ap (λ z. slice_get all z) e ∙ ap (λ z. slice_get z (length front)) a ∙ at_front front ws w in
    let later : (now : List ℕ) → seen_in all (numbered_behind has now (numbers_from o (suc n) rs)) ≡ numbered_from p d (length now) (own o ws) =
    λ now. numbered_own p d has o (suc n) all (front ++ w ∷ []) rs ws now s.1
    (ap suc e ∙ omega arith ∙ sym (length-append front (w ∷ []))) (a ∙ sym (append_assoc front (w ∷ []) ws)) c in
    ap (λ z. seen_in all (numbered_behind has bodies z)) (if_chosen (nat_eq r.row.object o) n (numbers_from o (suc n) rs))
    ∙ ap (λ z. seen_in all (numbered_behind has bodies (chosen (nat_eq z o) n (numbers_from o (suc n) rs)))) s.0
    ∙ row_own p d has (nat_eq w.object o) all (own o ws) w n (numbers_from o (suc n) rs) bodies there (c n w there) later
    ∙ ap (λ z. numbered_from p d (length bodies) z) (sym (cond_chosen (nat_eq w.object o) w (own o ws)))
numbered_own p d has o n all front [] (w ∷ ws) bodies s e a c = absurd s
numbered_own p d has o n all front (r ∷ rs) [] bodies s e a c = absurd s

-- how many bodies some members have
abbrev total : Program → ℕ → List OwnedMember → ℕ
total p d [] = 0
total p d (w ∷ ws) = length (body_of_row p d w) + total p d ws

count_own : (p : Program) (d : ℕ) (has : ℕ → Bool) (b : Bool) (rest : List OwnedMember) (w : OwnedMember) (n : ℕ) (numbers bodies : List ℕ) →
    length (body_of_row p d w) ≡ count (has n) →
    ((now : List ℕ) → length (bodies_with has now numbers) ≡ length now + total p d rest) →
    length (bodies_with has bodies (chosen b n numbers)) ≡ length bodies + total p d (chosen b w rest)
count_own p d has true rest w n numbers bodies c later =
    let first = longer (has n) n 0 (length (body_of_row p d w)) bodies c in
    let all = later (with_body (has n) n bodies) in
    omega (arith, first, all)
count_own p d has false rest w n numbers bodies c later = later bodies

bodies_own : (p : Program) (d : ℕ) (has : ℕ → Bool) (o n : ℕ) (all front : List OwnedMember) (rs : List UnitRow) (ws : List OwnedMember) (bodies : List ℕ) →
    SameObjects rs ws → n ≡ length front → all ≡ front ++ ws → Counts p d has all →
    length (bodies_with has bodies (numbers_from o n rs)) ≡ length bodies + total p d (own o ws)
bodies_own p d has o n all front [] [] bodies s e a c = omega arith
bodies_own p d has o n all front (r ∷ rs) (w ∷ ws) bodies s e a c =
    let there : slice_get all n ≡ Some w = ap (λ z. slice_get all z) e ∙ ap (λ z. slice_get z (length front)) a ∙ at_front front ws w in
    let later : (now : List ℕ) → length (bodies_with has now (numbers_from o (suc n) rs)) ≡ length now + total p d (own o ws) =
    λ now. bodies_own p d has o (suc n) all (front ++ w ∷ []) rs ws now s.1
    (ap suc e ∙ omega arith ∙ sym (length-append front (w ∷ []))) (a ∙ sym (append_assoc front (w ∷ []) ws)) c in
    ap (λ z. length (bodies_with has bodies z)) (if_chosen (nat_eq r.row.object o) n (numbers_from o (suc n) rs))
    ∙ ap (λ z. length (bodies_with has bodies (chosen (nat_eq z o) n (numbers_from o (suc n) rs)))) s.0
    ∙ count_own p d has (nat_eq w.object o) (own o ws) w n (numbers_from o (suc n) rs) bodies (c n w there) later
    ∙ ap (λ z. length bodies + total p d z) (sym (cond_chosen (nat_eq w.object o) w (own o ws)))
bodies_own p d has o n all front [] (w ∷ ws) bodies s e a c = absurd s
bodies_own p d has o n all front (r ∷ rs) [] bodies s e a c = absurd s

-- ---- object after object

numbered_append : (p : Program) (d m : ℕ) (xs ys : List OwnedMember) → numbered_from p d m (xs ++ ys) ≡ numbered_from p d m xs ++ numbered_from p d (m + total p d xs) ys
numbered_append p d m [] ys = ap (λ k. numbered_from p d k ys) (omega arith)
numbered_append p d m (x ∷ xs) ys =
    ap (λ z. record { object = x.object; member = x.member; body = m } ∷ z)
    (numbered_append p d (m + length (body_of_row p d x)) xs ys
    ∙ ap (λ k. numbered_from p d (m + length (body_of_row p d x)) xs ++ numbered_from p d k ys) (omega arith))

-- the members of so many objects from one on
abbrev pub owned : ℕ → ℕ → List OwnedMember → List OwnedMember
owned o zero ws = []
owned o (suc n) ws = own o ws ++ owned (suc o) n ws

row_same : (o : ℕ) (b : Bool) (w : OwnedMember) (rest : List OwnedMember) → nat_eq w.object o ≡ b →
    map (row o) ((if b then w.member ∷ [] else []) ++ []) ++ rest ≡ cond b (w ∷ rest) rest
row_same o true w rest e = let same : w.object ≡ o = grind (arith, nat_tests) in ap (λ z. row z w.member ∷ rest) (sym same)
row_same o false w rest e = refl

own_members : (o : ℕ) (ws : List OwnedMember) → map (row o) (members_of_object o ws) ≡ own o ws
own_members o [] = refl
own_members o (w ∷ ws) =
    map-append (row o) (kept o w) (members_of_object o ws)
    ∙ ap (λ z. map (row o) (kept o w) ++ z) (own_members o ws)
    ∙ ap (λ z. map (row o) z ++ own o ws) (sym (append-nil (kept o w)))
    ∙ row_same o (nat_eq w.object o) w (own o ws) refl

abbrev pub HaveMembers : ℕ → List WrittenObject → List OwnedMember → Type 0
HaveMembers o os ws = (j : ℕ) (x : WrittenObject) → slice_get os j ≡ Some x → x.members ≡ members_of_object (o + j) ws

pub rows_owned : (o : ℕ) (os : List WrittenObject) (ws : List OwnedMember) → HaveMembers o os ws → rows_by_object o os ≡ owned o (length os) ws
rows_owned o [] ws h = refl
rows_owned o (x ∷ os) ws h =
    ap (λ z. map (row o) z ++ rows_by_object (suc o) os) (h 0 x refl ∙ ap (λ k. members_of_object k ws) (omega arith))
    ∙ ap (λ z. z ++ rows_by_object (suc o) os) (own_members o ws)
    ∙ ap (λ z. own o ws ++ z) (rows_owned (suc o) os ws (λ j y e. h (suc j) y e ∙ ap (λ k. members_of_object k ws) (omega arith)))

-- all are of an object, and none of another
abbrev OfObjects : (ℕ → Type 0) → List OwnedMember → Type 0
OfObjects P [] = Unit {0}
OfObjects P (w ∷ ws) = P w.object × OfObjects P ws

own_first : (o : ℕ) (b : Bool) (w : OwnedMember) (rest : List OwnedMember) → nat_eq w.object o ≡ b → OfObjects (λ k. nat_eq k o ≡ true) rest →
    OfObjects (λ k. nat_eq k o ≡ true) (cond b (w ∷ rest) rest)
own_first o true w rest e h = (e, h)
own_first o false w rest e h = h

own_are : (o : ℕ) (ws : List OwnedMember) → OfObjects (λ k. nat_eq k o ≡ true) (own o ws)
own_are o [] = tt
own_are o (w ∷ ws) = own_first o (nat_eq w.object o) w (own o ws) refl (own_are o ws)

weaker : (P Q : ℕ → Type 0) (ws : List OwnedMember) → ((k : ℕ) → P k → Q k) → OfObjects P ws → OfObjects Q ws
weaker P Q [] f h = tt
weaker P Q (w ∷ ws) f h = (f w.object h.0, weaker P Q ws f h.1)

both : (P : ℕ → Type 0) (xs ys : List OwnedMember) → OfObjects P xs → OfObjects P ys → OfObjects P (xs ++ ys)
both P [] ys h k = k
both P (x ∷ xs) ys h k = (h.0, both P xs ys h.1 k)

owned_are : (o n q : ℕ) (ws : List OwnedMember) → q < o → OfObjects (λ k. nat_eq k q ≡ false) (owned o n ws)
owned_are o zero q ws h = tt
owned_are o (suc n) q ws h =
    both (λ k. nat_eq k q ≡ false) (own o ws) (owned (suc o) n ws)
    (weaker (λ k. nat_eq k o ≡ true) (λ k. nat_eq k q ≡ false) (own o ws) (λ k e. grind (arith, nat_tests)) (own_are o ws))
    (owned_are (suc o) n q ws (omega (arith, h)))

keeps_all : (p : Program) (d m o : ℕ) (ws : List OwnedMember) → OfObjects (λ k. nat_eq k o ≡ true) ws → of_object o (numbered_from p d m ws) ≡ numbered_from p d m ws
keeps_all p d m o [] h = refl
keeps_all p d m o (w ∷ ws) h =
    ap (λ b. cond b (record { object = w.object; member = w.member; body = m } ∷ of_object o (numbered_from p d (m + length (body_of_row p d w)) ws))
    (of_object o (numbered_from p d (m + length (body_of_row p d w)) ws))) h.0
    ∙ ap (λ z. record { object = w.object; member = w.member; body = m } ∷ z) (keeps_all p d (m + length (body_of_row p d w)) o ws h.1)

keeps_none : (p : Program) (d m o : ℕ) (ws : List OwnedMember) → OfObjects (λ k. nat_eq k o ≡ false) ws → of_object o (numbered_from p d m ws) ≡ []
keeps_none p d m o [] h = refl
keeps_none p d m o (w ∷ ws) h =
    ap (λ b. cond b (record { object = w.object; member = w.member; body = m } ∷ of_object o (numbered_from p d (m + length (body_of_row p d w)) ws))
    (of_object o (numbered_from p d (m + length (body_of_row p d w)) ws))) h.0
    ∙ keeps_none p d (m + length (body_of_row p d w)) o ws h.1

of_first : (p : Program) (d m o n : ℕ) (ws : List OwnedMember) → of_object o (numbered_from p d m (owned o (suc n) ws)) ≡ numbered_from p d m (own o ws)
of_first p d m o n ws =
    ap (of_object o) (numbered_append p d m (own o ws) (owned (suc o) n ws))
    ∙ filter-append (λ (r : NumberedMember). nat_eq r.object o) (numbered_from p d m (own o ws)) (numbered_from p d (m + total p d (own o ws)) (owned (suc o) n ws))
    ∙ ap (λ z. of_object o (numbered_from p d m (own o ws)) ++ z)
    (keeps_none p d (m + total p d (own o ws)) o (owned (suc o) n ws) (owned_are (suc o) n o ws (omega arith)))
    ∙ append-nil (of_object o (numbered_from p d m (own o ws)))
    ∙ keeps_all p d m o (own o ws) (own_are o ws)

of_later : (p : Program) (d m o q n : ℕ) (ws : List OwnedMember) → o < q →
    of_object q (numbered_from p d m (owned o (suc n) ws)) ≡ of_object q (numbered_from p d (m + total p d (own o ws)) (owned (suc o) n ws))
of_later p d m o q n ws h =
    ap (of_object q) (numbered_append p d m (own o ws) (owned (suc o) n ws))
    ∙ filter-append (λ (r : NumberedMember). nat_eq r.object q) (numbered_from p d m (own o ws)) (numbered_from p d (m + total p d (own o ws)) (owned (suc o) n ws))
    ∙ ap (λ z. z ++ of_object q (numbered_from p d (m + total p d (own o ws)) (owned (suc o) n ws)))
    (keeps_none p d m q (own o ws) (weaker (λ k. nat_eq k o ≡ true) (λ k. nat_eq k q ≡ false) (own o ws) (λ k e. grind (arith, nat_tests)) (own_are o ws)))

objects_numbered : (p : Program) (d : ℕ) (has : ℕ → Bool) (o j : ℕ) (rs : List UnitRow) (ws : List OwnedMember) (lists : List ObjectNumbers) (objects : List OwnRows)
    (bodies all : List ℕ) (x : OwnRows) → SameObjects rs ws → Counts p d has ws → AreFrom o rs lists → AreNumbered has bodies lists objects all →
    slice_get objects j ≡ Some x →
    seen_in ws x.items ≡ of_object (o + j) (numbered_from p d (length bodies) (owned o (length lists) ws))
objects_numbered p d has o zero rs ws (ks ∷ lists) (y ∷ objects) bodies all x s c l a e =
    ap (λ z. seen_in ws z) (ap (λ (v : OwnRows). v.items) (let same : x ≡ y = cc in same) ∙ a.0 ∙ ap (λ z. numbered_behind has bodies z) l.0)
    ∙ numbered_own p d has o 0 ws [] rs ws bodies s refl refl c
    ∙ sym (of_first p d (length bodies) o (length lists) ws)
    ∙ ap (λ k. of_object k (numbered_from p d (length bodies) (owned o (suc (length lists)) ws))) (omega arith)
objects_numbered p d has o (suc j) rs ws (ks ∷ lists) (y ∷ objects) bodies all x s c l a e =
    objects_numbered p d has (suc o) j rs ws lists objects (bodies_with has bodies ks.items) all x s c l.1 a.1 e
    ∙ ap (λ k. of_object k (numbered_from p d (length (bodies_with has bodies ks.items)) (owned (suc o) (length lists) ws))) (omega arith)
    ∙ ap (λ k. of_object (o + suc j) (numbered_from p d k (owned (suc o) (length lists) ws)))
    (ap (λ z. length (bodies_with has bodies z)) l.0 ∙ bodies_own p d has o 0 ws [] rs ws bodies s refl refl c)
    ∙ sym (of_later p d (length bodies) o (o + suc j) (length lists) ws (omega arith))
objects_numbered p d has o zero rs ws [] [] bodies all x s c l a e = absurd (cc)
objects_numbered p d has o (suc j) rs ws [] [] bodies all x s c l a e = absurd (cc)
objects_numbered p d has o j rs ws [] (y ∷ objects) bodies all x s c l a e = absurd a
objects_numbered p d has o j rs ws (ks ∷ lists) [] bodies all x s c l a e = absurd a

pub bodies_numbered : (p : Program) (d : ℕ) (t : Table) (names : UnitNames) (rows : List UnitRow) (inside : List Bool) (lists : List ObjectNumbers)
    (objects : List OwnRows) (bodies : List ℕ) → Tells p d t names rows inside → AreByObject (length (unit_at p d).objects) rows lists →
    AreNumbered (row_has_body t rows inside) [] lists objects bodies → NumberBodies p d objects
bodies_numbered p d t names rows inside lists objects bodies h l a o x e =
    let ws = (unit_at p d).rows in
    let says : RowsSay p d t [] rows ws = subst (λ z. RowsSay p d z [] rows ws) h.tree (subst (λ z. RowsSay p d h.unit.tree [] z ws) h.made h.unit.says) in
    let same : Alike p d t rows inside ws = subst (λ z. Alike p d t rows z ws) (sym h.groups) (alike p d t [] [] rows ws says refl) in
    objects_numbered p d (row_has_body t rows inside) 0 o rows ws lists objects [] bodies x (same_objects p d t rows inside ws same)
    (λ k w g. counted_at p d t rows inside ws k w same g) l.are a e
    ∙ ap (λ k. of_object k (numbered_from p d 0 (owned 0 (length lists) ws))) (omega arith)
    ∙ ap (λ n. of_object o (numbered_from p d 0 (owned 0 n ws))) l.long
    ∙ ap (λ z. of_object o (numbered_from p d 0 z))
    (sym (rows_owned 0 (unit_at p d).objects ws (λ j y g. sym (ap (λ z. (unwrap_or z no_object).members) g) ∙ h.unit.members j ∙ ap (λ k. members_of_object k ws) (omega arith))))

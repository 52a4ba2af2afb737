-- The bodies of rows are those of the members that these say, object by object.
use Rattle.std.proofs.Common.{◌≡◌, ◌∙◌, ap, sym, subst, refl, ℕ, zero, suc, ◌+◌, ◌<◌, arith, Bool, true, false, List, [], ◌∷◌, ◌++◌, length, map, Some}
use Rattle.std.specs.Prelude.{nat_eq, slice_get, ◌||◌, if◌then◌else◌, is_some}
use Rattle.std.specs.Option.{option_and_then, unwrap_or}
use Rattle.std.specs.List.{flat_map}
use Rattle.std.proofs.lemmas.List.{append_assoc, append-nil, map-append, length-append}
use Rattle.std.proofs.lemmas.Bool.{eqb-true}
use Rattle.qml_syntax.specs.Tree.{Units}
use Rattle.qml_syntax.specs.Nodes.{Table}
use Rattle.js_locals.specs.Laid.{laid}
use Rattle.program_names.specs.Written.{OwnedMember, row}
use Rattle.program_names.specs.Loaded.{Program, unit_at, no_object}
use Rattle.document_rows.specs.WholePaths.{path_at}
use Rattle.document_rows.specs.WrittenObjects.{members_of_object}
use Rattle.document_members.specs.Members.{added_by}
use Rattle.program_tables.specs.declared.building.UnitRow.{UnitRow}
use Rattle.program_tables.specs.declared.names.UnitNames.{UnitNames}
use Rattle.program_tables.specs.Building.{is_group, is_inside}
use Rattle.program_tables.specs.RowsSay.{RowsSay}
use Rattle.program_tables.specs.Stands.{Stands, is_there}
use Rattle.program_tables.proofs.GroupLemmas.{is_filled, inside_alike, filled_by}
use Rattle.document_tables.specs.declared.program.DocumentTable.{DocumentTable}
use Rattle.document_tables.specs.Groups.{insides}
use Rattle.document_tables.specs.Tables.{Tells}
use Rattle.unit_rows.specs.Rows.{Body, of_function}
use Rattle.unit_rows.specs.declared.body.BodyRow.{BodyRow}
use Rattle.unit_rows.specs.Bodies.{body_of_row, rows_by_object, written_bodies}
use Rattle.unit_rows.specs.Placed.{body_in}
use Rattle.object_members.specs.ByObject.{Numbers as ObjectNumbers, numbers_from, AreFrom, AreByObject}
use Rattle.numbered_bodies.specs.NumberedRows.{OwnRows, has_body, row_has_body, with_body, bodies_with, AreNumbered}
use Rattle.numbered_bodies.proofs.ProgramLemmas.{Alike, alike, SameObjects, same_objects, at_front, own, owned, rows_owned, chosen, if_chosen, cond_chosen}
use Rattle.declared_signals.specs.declared.declaring.UnitSignals.{UnitSignals}
use Rattle.handled_signals.specs.Meant.{SignalsTold}
use Rattle.handled_signals.proofs.FoundLemmas.{flat_append}
use Rattle.written_bodies.specs.BodyRows.{body_at, one_or_none, bodies_at}
use Rattle.written_bodies.proofs.MemberLemmas.{meant_there, bodies_kept, body_made}

-- ---- rows one by one, of the object o

-- the body of a row that has one, as it is meant
abbrev meant_if : Program → List UnitNames → List DocumentTable → List UnitSignals → ℕ → Table → Bool → UnitRow → List Body
meant_if p us ds ss u t inside r = if has_body t inside r.member then bodies_kept p us ds ss u r.row.object t inside r.member else []

abbrev Bodied : Program → List UnitNames → List DocumentTable → List UnitSignals → ℕ → ℕ → Table → List UnitRow → List Bool → List OwnedMember → Type 0
Bodied p us ds ss u o t [] bs [] = Unit {0}
Bodied p us ds ss u o t (r ∷ rs) (b ∷ bs) (w ∷ ws) =
    (nat_eq w.object o ≡ true → meant_if p us ds ss u t b r ≡ body_of_row p u w) × Bodied p us ds ss u o t rs bs ws
Bodied p us ds ss u o t _ _ _ = ⊥

bodied : (p : Program) (us : List UnitNames) (ds : List DocumentTable) (ss : List UnitSignals) → Stands p us → SignalsTold p us ds ss → (u o : ℕ) → is_there us u o ≡ true →
    (t : Table) (grouping : List Bool) (paths : List (List Units)) (rows : List UnitRow) (ws : List OwnedMember) →
    RowsSay p u t paths rows ws → grouping ≡ map is_filled paths → Bodied p us ds ss u o t rows (insides grouping rows) ws
bodied p us ds ss s told u o l t grouping paths [] [] says e = tt
bodied p us ds ss s told u o l t grouping paths [] (w ∷ ws) says e = absurd says
bodied p us ds ss s told u o l t grouping paths (r ∷ rs) [] says e = absurd says
bodied p us ds ss s told u o l t grouping paths (r ∷ rs) (w ∷ ws) says e =
    let before = path_at paths r.row.group in
    let here : is_inside grouping r.row.group ≡ is_filled before = ap (λ b. is_inside b r.row.group) e ∙ inside_alike paths r.row.group in (
      (λ same.
          let is : w.object ≡ o = eqb-true w.object o same in
          ap (λ b. meant_if p us ds ss u t b r) here
          ∙ ap (λ k. if has_body t (is_filled before) r.member then bodies_kept p us ds ss u k t (is_filled before) r.member else []) (says.0.object ∙ is)
          ∙ body_made p us ds ss u o t (meant_there p us ds ss s told u o l) before r.row.first r.member
          ∙ ap (λ x. body_of_row p u (row o x)) says.0.member ∙ ap (λ k. body_of_row p u (row k w.member)) (sym is)),
      bodied p us ds ss s told u o l t (grouping ++ (is_inside grouping r.row.group || is_group r.member) ∷ []) (paths ++ (before ++ added_by r.member) ∷ []) rs ws says.1
          (ap (λ bs. bs ++ (is_inside grouping r.row.group || is_group r.member) ∷ []) e
          ∙ ap (λ b. map is_filled paths ++ b ∷ []) (ap (λ b. b || is_group r.member) here ∙ sym (filled_by before r.member))
          ∙ sym (map-append is_filled paths ((before ++ added_by r.member) ∷ []))),
    )

-- of the row of a number, if it has a body
abbrev meant_at : Program → List UnitNames → List DocumentTable → List UnitSignals → ℕ → Table → List UnitRow → List Bool → ℕ → List Body
meant_at p us ds ss u t rows inside k = map (body_in (laid t)) (one_or_none (body_at us ds ss u rows inside k))

abbrev Means : Program → ℕ → ℕ → (ℕ → Bool) → (ℕ → List Body) → List OwnedMember → Type 0
Means p u o has f all = (k : ℕ) (w : OwnedMember) → slice_get all k ≡ Some w → nat_eq w.object o ≡ true → (if has k then f k else []) ≡ body_of_row p u w

means_at : (p : Program) (us : List UnitNames) (ds : List DocumentTable) (ss : List UnitSignals) (u o : ℕ) (t : Table) (rs : List UnitRow) (bs : List Bool) (ws : List OwnedMember) →
    Bodied p us ds ss u o t rs bs ws → Means p u o (row_has_body t rs bs) (meant_at p us ds ss u t rs bs) ws
means_at p us ds ss u o t [] bs [] a k w e same = absurd (cc)
means_at p us ds ss u o t (r ∷ rs) (b ∷ bs) (v ∷ ws) a zero w e same =
    let is : v ≡ w = cc in a.0 (ap (λ (x : OwnedMember). nat_eq x.object o) is ∙ same) ∙ ap (body_of_row p u) is
means_at p us ds ss u o t (r ∷ rs) (b ∷ bs) (v ∷ ws) a (suc k) w e same = means_at p us ds ss u o t rs bs ws a.1 k w e same
means_at p us ds ss u o t [] bs (v ∷ ws) a k w e same = absurd a
means_at p us ds ss u o t (r ∷ rs) [] ws a k w e same = absurd a
means_at p us ds ss u o t (r ∷ rs) (b ∷ bs) [] a k w e same = absurd a

-- ---- the rows of one object

-- what those that have a body come to
abbrev kept_of : (ℕ → Bool) → (ℕ → List Body) → List ℕ → List Body
kept_of has f numbers = flat_map (λ k. if has k then f k else []) numbers

one_with : (has : ℕ → Bool) (f : ℕ → List Body) (b : Bool) (k : ℕ) (bodies : List ℕ) → flat_map f (with_body b k bodies) ≡ flat_map f bodies ++ (if b then f k else [])
one_with has f true k bodies = flat_append f bodies (k ∷ []) ∙ ap (λ z. flat_map f bodies ++ z) (append-nil (f k))
one_with has f false k bodies = sym (append-nil (flat_map f bodies))

all_with : (has : ℕ → Bool) (f : ℕ → List Body) (bodies numbers : List ℕ) → flat_map f (bodies_with has bodies numbers) ≡ flat_map f bodies ++ kept_of has f numbers
all_with has f bodies [] = sym (append-nil (flat_map f bodies))
all_with has f bodies (k ∷ ks) =
    all_with has f (with_body (has k) k bodies) ks ∙ ap (λ z. z ++ kept_of has f ks) (one_with has f (has k) k bodies)
    ∙ append_assoc (flat_map f bodies) (if has k then f k else []) (kept_of has f ks)

one_own : (p : Program) (u o : ℕ) (has : ℕ → Bool) (f : ℕ → List Body) (b : Bool) (w : OwnedMember) (rest : List OwnedMember) (n : ℕ) (numbers : List ℕ) →
    (b ≡ true → (if has n then f n else []) ≡ body_of_row p u w) → kept_of has f numbers ≡ flat_map (body_of_row p u) rest →
    kept_of has f (chosen b n numbers) ≡ flat_map (body_of_row p u) (chosen b w rest)
one_own p u o has f true w rest n numbers here later = ap (λ z. z ++ kept_of has f numbers) (here refl) ∙ ap (λ z. body_of_row p u w ++ z) later
one_own p u o has f false w rest n numbers here later = later

more_by_one : (a : ℕ) → suc a ≡ a + 1
more_by_one a = omega arith

kept_own : (p : Program) (u o : ℕ) (has : ℕ → Bool) (f : ℕ → List Body) (n : ℕ) (all front : List OwnedMember) (rs : List UnitRow) (ws : List OwnedMember) →
    SameObjects rs ws → n ≡ length front → all ≡ front ++ ws → Means p u o has f all → kept_of has f (numbers_from o n rs) ≡ flat_map (body_of_row p u) (own o ws)
kept_own p u o has f n all front [] [] s e a c = refl
kept_own p u o has f n all front (r ∷ rs) (w ∷ ws) s e a c =
    let there : slice_get all n ≡ Some w = ap (λ z. slice_get all z) e ∙ ap (λ z. slice_get z (length front)) a ∙ at_front front ws w in
    let later : kept_of has f (numbers_from o (suc n) rs) ≡ flat_map (body_of_row p u) (own o ws) =
    kept_own p u o has f (suc n) all (front ++ w ∷ []) rs ws s.1
    (ap suc e ∙ more_by_one (length front) ∙ sym (length-append front (w ∷ []))) (a ∙ sym (append_assoc front (w ∷ []) ws)) c in
    ap (kept_of has f) (if_chosen (nat_eq r.row.object o) n (numbers_from o (suc n) rs))
    ∙ ap (λ z. kept_of has f (chosen (nat_eq z o) n (numbers_from o (suc n) rs))) s.0
    ∙ one_own p u o has f (nat_eq w.object o) w (own o ws) n (numbers_from o (suc n) rs) (c n w there) later
    ∙ ap (flat_map (body_of_row p u)) (sym (cond_chosen (nat_eq w.object o) w (own o ws)))
kept_own p u o has f n all front [] (w ∷ ws) s e a c = absurd s
kept_own p u o has f n all front (r ∷ rs) [] s e a c = absurd s

-- ---- object after object

objects_kept : (p : Program) (u o : ℕ) (has : ℕ → Bool) (f : ℕ → List Body) (rs : List UnitRow) (ws : List OwnedMember) (lists : List ObjectNumbers) (objects : List OwnRows) (bodies all : List ℕ) →
    SameObjects rs ws → ((j : ℕ) → j < length lists → Means p u (o + j) has f ws) → AreFrom o rs lists → AreNumbered has bodies lists objects all →
    flat_map f all ≡ flat_map f bodies ++ flat_map (body_of_row p u) (owned o (length lists) ws)
objects_kept p u o has f rs ws [] [] bodies all s m l a = ap (flat_map f) a ∙ sym (append-nil (flat_map f bodies))
objects_kept p u o has f rs ws (ks ∷ lists) (y ∷ objects) bodies all s m l a =
    let first : Means p u o has f ws = subst (λ k. Means p u k has f ws) (let q : o + 0 ≡ o = omega arith in q) (m 0 (omega arith)) in
    objects_kept p u (suc o) has f rs ws lists objects (bodies_with has bodies ks.items) all s
    (λ j h. subst (λ k. Means p u k has f ws) (let q : o + suc j ≡ suc o + j = omega arith in q) (m (suc j) (omega (arith, h)))) l.1 a.1
    ∙ ap (λ z. z ++ flat_map (body_of_row p u) (owned (suc o) (length lists) ws))
    (all_with has f bodies ks.items ∙ ap (λ z. flat_map f bodies ++ z)
    (ap (kept_of has f) l.0 ∙ kept_own p u o has f 0 ws [] rs ws s refl refl first))
    ∙ append_assoc (flat_map f bodies) (flat_map (body_of_row p u) (own o ws)) (flat_map (body_of_row p u) (owned (suc o) (length lists) ws))
    ∙ ap (λ z. flat_map f bodies ++ z) (sym (flat_append (body_of_row p u) (own o ws) (owned (suc o) (length lists) ws)))
objects_kept p u o has f rs ws [] (y ∷ objects) bodies all s m l a = absurd a
objects_kept p u o has f rs ws (ks ∷ lists) [] bodies all s m l a = absurd a

-- ---- all of it

mapped : {A : Type 0} (g : BodyRow → Body) (f : A → List BodyRow) (xs : List A) → map g (flat_map f xs) ≡ flat_map (λ x. map g (f x)) xs
mapped g f [] = refl
mapped g f (x ∷ xs) = map-append g (f x) (flat_map f xs) ∙ ap (λ z. map g (f x) ++ z) (mapped g f xs)

got : {X : Type 0} (xs : List X) (o : ℕ) → o < length xs → is_some (slice_get xs o) ≡ true
got [] o h = absurd (omega (arith, h))
got (x ∷ xs) zero h = refl
got (x ∷ xs) (suc o) h = got xs o (omega (arith, h))

pub bodies_written : (p : Program) (us : List UnitNames) (ds : List DocumentTable) (ss : List UnitSignals) → Stands p us → SignalsTold p us ds ss → (u : ℕ) (t : Table) (names : UnitNames)
    (rows : List UnitRow) (inside : List Bool) (lists : List ObjectNumbers) (objects : List OwnRows) (numbers : List ℕ) → slice_get us u ≡ Some names → Tells p u t names rows inside →
    AreByObject (length (unit_at p u).objects) rows lists → AreNumbered (row_has_body t rows inside) [] lists objects numbers → (unit_at p u).functions ≡ [] →
    map (body_in (laid t)) (bodies_at us ds ss u rows inside numbers) ≡ written_bodies p u
bodies_written p us ds ss s told u t names rows inside lists objects numbers n h l a none =
    let ws = (unit_at p u).rows in
    let says : RowsSay p u t [] rows ws = subst (λ z. RowsSay p u z [] rows ws) h.tree (subst (λ z. RowsSay p u h.unit.tree [] z ws) h.made h.unit.says) in
    let same : Alike p u t rows (insides [] rows) ws = alike p u t [] [] rows ws says refl in
    let means : (j : ℕ) → j < length lists → Means p u (0 + j) (row_has_body t rows inside) (meant_at p us ds ss u t rows inside) ws =
    λ j g. let there : is_there us u (0 + j) ≡ true =
    ap (λ z. is_some (option_and_then (λ (unit : UnitNames). slice_get unit.objects.items (0 + j)) z)) n ∙ got names.objects.items (0 + j) (h.there (0 + j) (let q : 0 + j < length (unit_at p u).objects = (let k = l.long in omega (arith, g, k)) in q)) in
    means_at p us ds ss u (0 + j) t rows inside ws
    (subst (λ z. Bodied p us ds ss u (0 + j) t rows z ws) (sym h.groups) (bodied p us ds ss s told u (0 + j) there t [] [] rows ws says refl)) in
    mapped (body_in (laid t)) (λ k. one_or_none (body_at us ds ss u rows inside k)) numbers
    ∙ objects_kept p u 0 (row_has_body t rows inside) (meant_at p us ds ss u t rows inside) rows ws lists objects [] numbers
    (same_objects p u t rows (insides [] rows) ws same) means l.are a
    ∙ ap (λ k. flat_map (body_of_row p u) (owned 0 k ws)) l.long
    ∙ ap (flat_map (body_of_row p u))
    (sym (rows_owned 0 (unit_at p u).objects ws (λ j y g. sym (ap (λ z. (unwrap_or z no_object).members) g) ∙ h.unit.members j ∙ ap (λ k. members_of_object k ws) (let q : j ≡ 0 + j = omega arith in q))))
    ∙ sym (append-nil (flat_map (body_of_row p u) (rows_by_object 0 (unit_at p u).objects)))
    ∙ ap (λ z. flat_map (body_of_row p u) (rows_by_object 0 (unit_at p u).objects) ++ map of_function z) (sym none)

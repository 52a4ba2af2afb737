-- The components that are made of rows are those of the program.
use Rattle.std.proofs.Common.{◌≡◌, ◌∙◌, ap, sym, refl, subst, inl, inr, ℕ, zero, suc, ◌+◌, ◌<◌, ◌≤◌, arith, Bool, true, false, List, [], ◌∷◌, ◌++◌, length, map, Option, Some, None, is_some}
use Rattle.std.specs.Prelude.{slice_get, ◌⊎◌}
use Rattle.std.specs.Option.{option_map, option_and_then, unwrap_or}
use Rattle.std.specs.declared.alloc.Global.{Global}
use Rattle.std.specs.declared.vec.Vec.{Vec}
use Rattle.std.proofs.lemmas.Bool.{false≢true}
use Rattle.std.proofs.lemmas.List.{length-append}
use Rattle.qml_syntax.specs.Tree.{Units}
use Rattle.qml_syntax.specs.Nodes.{Table}
use Rattle.program_names.specs.Written.{WrittenAs, as_root, as_child, as_value, OwnedMember}
use Rattle.program_names.specs.Reading.{File, Source}
use Rattle.program_names.specs.Loaded.{Program, unit_at, unit_of, object_at}
use Rattle.program_names.specs.Components.{IsRoot, Roots, is_root_at, owner, root_of}
use Rattle.program_names.specs.ComponentRoots.{roots_of}
use Rattle.document_rows.specs.declared.rows.ObjectRow.{ObjectRow}
use Rattle.document_members.specs.declared.member.Member.{Member}
use Rattle.document_members.specs.declared.member.Member.TheVariants as m
use Rattle.program_tables.specs.declared.names.UnitNames.{UnitNames}
use Rattle.program_tables.specs.declared.building.UnitRow.{UnitRow}
use Rattle.program_tables.specs.RowsSay.{RowsSay}
use Rattle.program_tables.specs.Stands.{Stands}
use Rattle.alias_tables.specs.Roots.{begins_at, root_at, root_by, roots_after, begins}
use Rattle.alias_tables.specs.Ids.{no_ids, ids_added}
use Rattle.alias_tables.proofs.RootLemmas.{roots_as_meant}
use Rattle.path_ends.specs.declared.aliases.UnitIds.{UnitIds}
use Rattle.path_ends.specs.Known.{SaysIds}
use Rattle.component_roots.specs.Decided.{OwnersAreLower}
use Rattle.component_roots.specs.Deciding.{by_path, by_member, by_row, decision, decisions, SaysRole, ObjectSays, ObjectsSay, AreDecisions}
use Rattle.component_roots.proofs.RoundLemmas.{decided_at_last, known_at_last, unknown_outside}
use Rattle.component_roots.proofs.OwnerLemmas.{lower_owners}
use Rattle.component_roots.proofs.DecidingLemmas.{all_decided, decision_there}
use Rattle.document_components.specs.Made.{owner_in, owner_of, owners_of, IsMade, Decided, AreIds}

-- ---- the code

pub are_made : (rows : List UnitRow) (objects : List ObjectRow) (begins : List Bool) (made : UnitIds) (owners : List (Option ℕ)) → owners ≡ owners_of rows objects
    → made.roots.items ≡ roots_after begins [] 0 owners → made.ids.items ≡ ids_added made.roots.items [] rows (map no_ids made.roots.items) → IsMade rows objects begins made
are_made rows objects begins made owners o r i = record { roots = r ∙ ap (roots_after begins [] 0) o; ids = i }

pub of_decisions : (us : List UnitNames) (d : ℕ) (rows : List UnitRow) (objects : List ObjectRow) (made : UnitIds) (found : Option (Vec Bool Global)) (begins : Vec Bool Global)
    → AreDecisions found (decisions us d rows 0 objects) → found ≡ Some begins → IsMade rows objects begins.items made → Decided us d rows objects made
of_decisions us d rows objects made found begins a e i =
    record { begins = begins; decide = subst (λ x. AreDecisions x (decisions us d rows 0 objects)) e a; is_made = i }

-- ---- owners

abbrev owner_by : WrittenAs → Option ℕ
owner_by as_root = None
owner_by (as_child w) = Some w
owner_by (as_value w path) = Some w

pub none_some : {A : Type 0} {X : Type 0} (x : A) → Path (Option A) None (Some x) → X
none_some x e = absurd (false≢true (ap is_some e))

member_owner : (us : List UnitNames) (d o w : ℕ) (g : Option ℕ) (x : Member) (c : Bool) (role : WrittenAs) → by_member us d o w g x ≡ Some c → SaysRole role w g x → owner_by role ≡ Some w
member_owner us d o w g (m.Property q a k n at (Some v)) c role i r = ap owner_by r
member_owner us d o w g (m.Property q a k n at None) c role i r = none_some c i
member_owner us d o w None (m.Given path value) c role i r = ap owner_by r
member_owner us d o w (Some k) (m.Given path value) c role i r = none_some c (sym (no_path path.rest.items) ∙ i)
  where
    no_path : (rest : List Units) → by_path us d o w (Some k) path.first rest ≡ None
    no_path [] = refl
    no_path (n ∷ rest) = refl
member_owner us d o w g (m.Child x) c role i r = ap owner_by r
member_owner us d o w g (m.Id q n at) c role i r = none_some c i
member_owner us d o w g (m.Alias q a n at target) c role i r = none_some c i
member_owner us d o w g (m.Signal q n at names) c role i r = none_some c i
member_owner us d o w g (m.Method q f n at) c role i r = none_some c i
member_owner us d o w g (m.Group path) c role i r = none_some c i

pub object_owner : (p : Program) (us : List UnitNames) (d o : ℕ) (rows : List UnitRow) (row : Option ℕ) (c : Bool) → ObjectSays p us d rows o row → decision us d o rows row ≡ Some c → owner_in rows row ≡ owner p d o
object_owner p us d o rows None c s i = sym (ap owner_by s)
object_owner p us d o rows (Some k) c s i = by_there (slice_get rows k) refl i
  where
    by_there : (x : Option UnitRow) → slice_get rows k ≡ x → option_and_then (by_row us d o) x ≡ Some c → option_map (λ (r : UnitRow). r.row.object) x ≡ owner p d o
    by_there None e i = none_some c i
    by_there (Some r) e i = sym (member_owner us d o r.row.object r.row.group r.member c (object_at p d o).role i (s r e).0)

mapped_there : {A B : Type 0} (f : A → B) (xs : List A) (k : ℕ) (y : B) → slice_get (map f xs) k ≡ Some y → (x : A) × (slice_get xs k ≡ Some x) × (y ≡ f x)
mapped_there f [] k y e = none_some y e
mapped_there f (x ∷ xs) zero y e = (x, refl, sym (ap (λ v. unwrap_or v y) e))
mapped_there f (x ∷ xs) (suc k) y e = mapped_there f xs k y e

pub map_long : {A B : Type 0} (f : A → B) (xs : List A) → length (map f xs) ≡ length xs
map_long f [] = refl
map_long f (x ∷ xs) = ap suc (map_long f xs)

-- ---- roots

abbrev around : {A : Type 0} → A → (ℕ → A) → Option ℕ → A
around last go_on None = last
around last go_on (Some w) = go_on w

abbrev is_true : IsRoot → Bool
is_true (Some b) = b
is_true None = false

abbrev pub root_within : ℕ → Program → Roots → ℕ → ℕ → ℕ
root_within zero p roots d o = 0
root_within (suc n) p roots d o = elim (is_true (is_root_at roots d o)) [ true ↦ o | false ↦ around o (λ w. root_within n p roots d w) (owner p d o) ]

root_so : (p : Program) (roots : Roots) (d o : ℕ) → root_of p roots d o ≡ root_within (length (unit_at p d).objects) p roots d o
root_so p roots d o = refl

pub root_low : (p : Program) (roots : Roots) (d : ℕ) → OwnersAreLower p d → (n o : ℕ) → root_within n p roots d o ≤ o
root_low p roots d lower zero o = omega arith
root_low p roots d lower (suc n) o = by_begin (is_true (is_root_at roots d o)) (by_owner (owner p d o) refl (λ w. root_low p roots d lower n w))
  where
    itself : (o : ℕ) → o ≤ o
    itself o = omega arith

    further : (r w o : ℕ) → r ≤ w → w < o → r ≤ o
    further r w o h g = omega arith

    by_owner : (x : Option ℕ) → owner p d o ≡ x → ((w : ℕ) → root_within n p roots d w ≤ w) → around o (λ w. root_within n p roots d w) x ≤ o
    by_owner None e h = itself o
    by_owner (Some w) e h = further (root_within n p roots d w) w o (h w) (lower o w e)

    by_begin : (c : Bool) → around o (λ w. root_within n p roots d w) (owner p d o) ≤ o → elim c [ true ↦ o | false ↦ around o (λ w. root_within n p roots d w) (owner p d o) ] ≤ o
    by_begin true h = itself o
    by_begin false h = h

pub roots_long : (known : List Bool) (done : List ℕ) (o : ℕ) (ws : List (Option ℕ)) → length (roots_after known done o ws) ≡ length done + length ws
roots_long known done o [] = no_more (length done)
  where
    no_more : (n : ℕ) → n ≡ n + 0
    no_more n = omega arith
roots_long known done o (w ∷ ws) =
    roots_long known (done ++ root_by known done o w ∷ []) (suc o) ws ∙ ap (λ n. n + length ws) (length-append done (root_by known done o w ∷ [])) ∙ one_on (length done) (length ws)
  where
    one_on : (a c : ℕ) → (a + 1) + c ≡ a + suc c
    one_on a c = omega arith

-- ---- which begin

decisions_long : (us : List UnitNames) (d : ℕ) (rows : List UnitRow) (n : ℕ) (objects : List ObjectRow) → length (decisions us d rows n objects) ≡ length objects
decisions_long us d rows n [] = refl
decisions_long us d rows n (x ∷ objects) = ap suc (decisions_long us d rows (suc n) objects)

pub none_outside : {A : Type 0} (xs : List A) (k : ℕ) → length xs ≤ k → Path (Option A) (slice_get xs k) None
none_outside [] k h = refl
none_outside (x ∷ xs) zero h = absurd (omega arith)
none_outside (x ∷ xs) (suc k) h = let less : length xs ≤ k = omega arith in none_outside xs k less

pub less_or_not : (a c : ℕ) → (a < c) ⊎ (c ≤ a)
less_or_not a zero = inr (omega arith)
less_or_not zero (suc c) = inl (omega arith)
less_or_not (suc a) (suc c) = up (less_or_not a c)
  where
    up : (a < c) ⊎ (c ≤ a) → (suc a < suc c) ⊎ (suc c ≤ suc a)
    up (inl h) = inl (omega arith)
    up (inr h) = inr (omega arith)

abbrev is_known_root : IsRoot → Bool
is_known_root (Some b) = b
is_known_root None = false

pub in_list : {A : Type 0} (xs : List A) (k : ℕ) → k < length xs → (x : A) × (slice_get xs k ≡ Some x)
in_list [] k h = absurd (omega arith)
in_list (x ∷ xs) zero h = (x, refl)
in_list (x ∷ xs) (suc k) h = let less : k < length xs = omega arith in in_list xs k less

pub there_less : {A : Type 0} (xs : List A) (k : ℕ) (x : A) → slice_get xs k ≡ Some x → k < length xs
there_less [] k x e = none_some x e
there_less (y ∷ xs) zero x e = omega arith
there_less (y ∷ xs) (suc k) x e = let less : k < length xs = there_less xs k x e in omega arith

module _ (p : Program) (us : List UnitNames) (d : ℕ) (made : UnitIds) (rows : List UnitRow) (objects : List ObjectRow) (file : File) (source : Source)
    (stands : Stands p us) (same : unit_at p d ≡ unit_of file source) (written : ObjectsSay p us d rows objects) (are : Decided us d rows objects made) where
  abbrev N : ℕ
  N = length (unit_at p d).objects

  lower : OwnersAreLower p d
  lower = lower_owners p d file source same

  abbrev decided : ℕ → Bool
  decided o = unwrap_or (slice_get are.begins.items o) false

  begins_long : length are.begins.items ≡ N
  begins_long = sym (map_long Some are.begins.items) ∙ ap length are.decide ∙ decisions_long us d rows 0 objects ∙ written.long

  begins_alike : (o : ℕ) → begins_at are.begins.items o ≡ begins (roots_of p) d o
  begins_alike o = by_place (less_or_not o N)
    where
      by_place : (o < N) ⊎ (N ≤ o) → begins_at are.begins.items o ≡ begins (roots_of p) d o
      by_place (inl h) = sym (ap is_known_root (decided_at_last p d decided lower (all_decided p us d rows objects are.begins stands written are.decide) o h))
      by_place (inr h) =
          ap (λ x. unwrap_or x false) (none_outside are.begins.items o (subst (λ n. n ≤ o) (sym begins_long) h)) ∙ sym (ap is_known_root (unknown_outside p d o h))

  from_none : (k : ℕ) → 0 + k ≡ k
  from_none k = omega arith

  owners_alike : (o : ℕ) (w : Option ℕ) → slice_get (owners_of rows objects) o ≡ Some w → w ≡ owner p d o
  owners_alike o w i =
      let x = mapped_there (owner_of rows) objects o w i in
      x.2 ∙
      object_owner p us d o rows x.0.row (unwrap_or (slice_get are.begins.items o) false) (written.says o x.0 x.1)
      (ap (λ j. decision us d j rows x.0.row) (sym (from_none o)) ∙ decision_there us d 0 rows objects are.begins.items are.decide o x.0 x.1)

  owners_many : length (owners_of rows objects) ≡ N
  owners_many = map_long (owner_of rows) objects ∙ written.long

  roots_many : length made.roots.items ≡ N
  roots_many = ap length are.is_made.roots ∙ roots_long are.begins.items [] 0 (owners_of rows objects) ∙ from_none (length (owners_of rows objects)) ∙ owners_many

  root_told : (o : ℕ) → o < N → root_at made.roots.items o ≡ root_of p (roots_of p) d o
  root_told o h =
      ap (λ xs. root_at xs o) are.is_made.roots ∙
      ap (λ x. unwrap_or x 0)
      (roots_as_meant p (roots_of p) d (owners_of rows objects) are.begins.items owners_many owners_alike lower begins_alike o (subst (λ n. o < n) (sym owners_many) h))

  root_in_range : (o : ℕ) → o < N → root_at made.roots.items o < length made.roots.items
  root_in_range o h =
      subst (λ r. r < length made.roots.items) (sym (root_told o h))
      (below (root_of p (roots_of p) d o) o (length made.roots.items) (root_low p (roots_of p) d lower N o) (subst (λ n. o < n) (sym roots_many) h))
    where
      below : (r o n : ℕ) → r ≤ o → o < n → r < n
      below r o n h g = omega arith

  pub says_ids_of : (ids : List UnitIds) (unit : UnitNames) (t : Table) → RowsSay p d t [] rows (unit_at p d).rows → length objects ≡ length unit.objects.items
      → ((k : ℕ) (w : OwnedMember) → slice_get (unit_at p d).rows k ≡ Some w → w.object < N) → slice_get ids d ≡ Some made → SaysIds p (roots_of p) us ids d unit
  says_ids_of ids unit t says long range kept = record {
    tree = t;
    rows = rows;
    says = says;
    own = made;
    kept = kept;
    made = are.is_made.ids;
    knows = λ k w i. (root_told w.object (range k w i), known_at_last p d lower w.object (range k w i));
    long = roots_many ∙ sym written.long ∙ long;
    told_roots = λ o h. (root_told o (subst (λ n. o < n) roots_many h), root_in_range o (subst (λ n. o < n) roots_many h));
    there = λ k w i. written.there w.object (range k w i);
  }

pub says_ids : (p : Program) (us : List UnitNames) (ids : List UnitIds) (d : ℕ) (unit : UnitNames) (made : UnitIds) (t : Table) (rows : List UnitRow) (objects : List ObjectRow) (file : File) (source : Source)
    → Stands p us → unit_at p d ≡ unit_of file source → RowsSay p d t [] rows (unit_at p d).rows → ObjectsSay p us d rows objects → length objects ≡ length unit.objects.items
    → ((k : ℕ) (w : OwnedMember) → slice_get (unit_at p d).rows k ≡ Some w → w.object < length (unit_at p d).objects)
    → slice_get ids d ≡ Some made → AreIds us d rows objects (Some made) → SaysIds p (roots_of p) us ids d unit
says_ids p us ids d unit made t rows objects file source stands same says written long range kept are =
    says_ids_of p us d made rows objects file source stands same written are ids unit t says long range kept

-- What the rows of a document say of an object that has members.
use Rattle.std.proofs.Common.{◌≡◌, ◌∙◌, ap, sym, refl, subst, ℕ, zero, suc, ◌+◌, ◌<◌, ◌≤◌, arith, false, List, [], ◌∷◌, ◌++◌, length, map, Option, Some, None, is_some}
use Rattle.std.specs.Prelude.{slice_get}
use Rattle.std.specs.Option.{option_map, option_and_then, unwrap_or}
use Rattle.std.proofs.lemmas.Bool.{false≢true}
use Rattle.qml_syntax.specs.Tree.{Units}
use Rattle.qml_syntax.specs.Nodes.{Table}
use Rattle.program_names.specs.Written.{OwnedMember}
use Rattle.program_names.specs.Reading.{File, Source}
use Rattle.program_names.specs.Loaded.{Program, unit_at, unit_of}
use Rattle.program_names.specs.Components.{owner, root_of}
use Rattle.program_names.specs.ComponentRoots.{roots_of}
use Rattle.document_rows.specs.declared.rows.ObjectRow.{ObjectRow}
use Rattle.document_rows.specs.WholePaths.{path_at}
use Rattle.document_members.specs.Members.{added_by}
use Rattle.program_tables.specs.declared.building.UnitRow.{UnitRow}
use Rattle.program_tables.specs.declared.names.UnitNames.{UnitNames}
use Rattle.program_tables.specs.RowsSay.{RowsSay}
use Rattle.alias_tables.specs.Roots.{root_at}
use Rattle.alias_tables.specs.Ids.{id_found, KnowsRoots}
use Rattle.path_ends.specs.declared.aliases.UnitIds.{UnitIds}
use Rattle.path_ends.specs.Said.{id_seen}
use Rattle.path_ends.specs.Known.{IdsTold}
use Rattle.component_roots.specs.Deciding.{decision, ObjectsSay}
use Rattle.component_roots.proofs.OwnerLemmas.{lower_owners}
use Rattle.component_roots.proofs.DecidingLemmas.{decision_there}
use Rattle.document_components.specs.Made.{owner_in, owner_of, owners_of, Decided}
use Rattle.document_components.proofs.MadeLemmas.{none_some, map_long, in_list, object_owner, root_low}
use Rattle.target_tables.specs.Seen.{HasRow, SaysObject, SaysObjects}

-- ---- rows of owners

row_said : (p : Program) (d : ℕ) (t : Table) (paths : List (List Units)) (rows : List UnitRow) (ws : List OwnedMember) → RowsSay p d t paths rows ws → (j : ℕ) (u : UnitRow) → slice_get rows j ≡ Some u
    → (v : OwnedMember) × (slice_get ws j ≡ Some v) × (v.object ≡ u.row.object)
row_said p d t paths [] ws s j u e = absurd (false≢true (ap is_some e))
row_said p d t paths (r ∷ rows) [] s j u e = absurd s
row_said p d t paths (r ∷ rows) (w ∷ ws) s zero u e = (w, refl, sym s.0.object ∙ ap (λ (v : Option UnitRow). (unwrap_or v u).row.object) e)
row_said p d t paths (r ∷ rows) (w ∷ ws) s (suc j) u e = row_said p d t (paths ++ (path_at paths r.row.group ++ added_by r.member) ∷ []) rows ws s.1 j u e

from_none : (k : ℕ) → 0 + k ≡ k
from_none k = omega arith

below : (r o n : ℕ) → r ≤ o → o < n → r < n
below r o n h g = omega arith

mapped_at : {A B : Type 0} (f : A → B) (b : B) (xs : List A) (k : ℕ) (x : A) → slice_get xs k ≡ Some x → unwrap_or (slice_get (map f xs) k) b ≡ f x
mapped_at f b [] k x e = none_some x e
mapped_at f b (y ∷ xs) zero x e = ap (λ v. f (unwrap_or v x)) e
mapped_at f b (y ∷ xs) (suc k) x e = mapped_at f b xs k x e

module _ (p : Program) (us : List UnitNames) (ids : List UnitIds) (d : ℕ) (own : UnitIds) (t : Table) (rows : List UnitRow) (objects : List ObjectRow) (file : File) (source : Source)
    (same : unit_at p d ≡ unit_of file source) (says : RowsSay p d t [] rows (unit_at p d).rows) (written : ObjectsSay p us d rows objects)
    (range : (k : ℕ) (w : OwnedMember) → slice_get (unit_at p d).rows k ≡ Some w → w.object < length (unit_at p d).objects)
    (told : IdsTold p (roots_of p) us ids) (kept : slice_get ids d ≡ Some own) (knows : KnowsRoots p (roots_of p) d own.roots.items) (are : Decided us d rows objects own) where
  abbrev N : ℕ
  N = length (unit_at p d).objects

  abbrev Owners : List (Option ℕ)
  Owners = owners_of rows objects

  root_less : (o : ℕ) → o < N → root_of p (roots_of p) d o < N
  root_less o h = below (root_of p (roots_of p) d o) o N (root_low p (roots_of p) d (lower_owners p d file source same) N o) h

  row_at : (o : ℕ) → o < N → (x : ObjectRow) × (slice_get objects o ≡ Some x)
  row_at o h = in_list objects o (subst (λ n. o < n) (sym written.long) h)

  owner_told : (o : ℕ) (x : ObjectRow) → slice_get objects o ≡ Some x → owner_in rows x.row ≡ owner p d o
  owner_told o x e =
      object_owner p us d o rows x.row (unwrap_or (slice_get are.begins.items o) false) (written.says o x e)
      (ap (λ j. decision us d j rows x.row) (sym (from_none o)) ∙ decision_there us d 0 rows objects are.begins.items are.decide o x e)

  owner_row : (o w : ℕ) (x : ObjectRow) → slice_get objects o ≡ Some x → owner p d o ≡ Some w → HasRow p d w
  owner_row o w x e i = by_row_of x.row (owner_told o x e ∙ i)
    where
      by_there : (j : ℕ) (u : Option UnitRow) → slice_get rows j ≡ u → option_map (λ (r : UnitRow). r.row.object) u ≡ Some w → HasRow p d w
      by_there j None g h = none_some w h
      by_there j (Some u) g h =
          let v = row_said p d t [] rows (unit_at p d).rows says j u g in (j, v.0, v.1, v.2 ∙ ap (λ y. unwrap_or y w) h)

      by_row_of : (row : Option ℕ) → owner_in rows row ≡ Some w → HasRow p d w
      by_row_of None h = none_some w h
      by_row_of (Some j) h = by_there j (slice_get rows j) refl h

  object_says : (o : ℕ) → HasRow p d o → SaysObject p (roots_of p) us own Owners d o
  object_says o h =
      let less : o < N = subst (λ k. k < N) h.3 (range h.0 h.1 h.2) in
      let root = root_of p (roots_of p) d o in
      let low : root < N = root_less o less in
      let x = row_at root low in
      record {
        there = written.there o less;
        long = map_long (owner_of rows) objects ∙ written.long;
        root = subst (λ k. root_at own.roots.items k ≡ root_of p (roots_of p) d k) h.3 (knows h.0 h.1 h.2).0;
        root_there = written.there root low;
        around = mapped_at (owner_of rows) None objects root x.0 x.1 ∙ owner_told root x.0 x.1;
        around_there = λ w e. owner_row root w x.0 x.1 e;
        found = λ word. sym (seen_so o word) ∙ (told d o word (written.there o less)).0;
        found_there = λ word k e. (told d o word (written.there o less)).1 k (seen_so o word ∙ e);
      }
    where
      seen_so : (o : ℕ) (word : Units) → id_seen ids d o word ≡ id_found own.ids.items (root_at own.roots.items o) word
      seen_so o word = ap (option_and_then (λ (u : UnitIds). id_found u.ids.items (root_at u.roots.items o) word)) kept

  pub objects_said : SaysObjects p (roots_of p) us own Owners d
  objects_said = record { covers = covers (map_long (owner_of rows) objects ∙ written.long); each = object_says }
    where
      covers : length Owners ≡ N → N ≤ length Owners
      covers e = omega arith

-- What is found is what the program has.
use Rattle.std.proofs.Common.{◌≡◌, ◌∙◌, ap, sym, refl, subst, ℕ, zero, suc, ◌+◌, Bool, true, false, ◌&&◌, if◌then◌else◌, List, [], ◌∷◌, ◌++◌, map, length, Option, Some, None, is_some}
use Rattle.std.specs.Prelude.{slice_get}
use Rattle.std.specs.Str.{bytes_eq}
use Rattle.std.specs.Option.{option_map, option_or, option_and_then, unwrap_or}
use Rattle.std.proofs.lemmas.Bool.{false≢true}
use Rattle.std.proofs.lemmas.Slice.Eq.{bytes_eq-Decides}
use Rattle.name_table.specs.Named.{under}
use Rattle.qml_base.specs.declared.numbers.Place.{Place}
use Rattle.qml_syntax.specs.Tree.{Units, Function, function, no_pars, Document, document, Object, object, Members, no_members, a_member, Member, id, property, bare, alias, signal, method, given, group, child, Value, value_object, value_list, value_stmt, Objects, last_object, an_object, script, no_stmts}
use Rattle.qml_types.specs.declared.kind.TypeNo.TheVariants as no
use Rattle.qml_types.specs.declared.kind.TypeRef.{TypeRef}
use Rattle.qml_types.specs.declared.kind.TypeRef.TheVariants.{Builtin, Document as OfDocument}
use Rattle.program_names.specs.Names.{is_handler_name}
use Rattle.program_names.specs.Written.{WrittenObject, WrittenMember, an_id, a_property, an_alias, a_signal, a_function, a_value, a_group, a_child, a_stray, WrittenAs, as_root, as_child, as_value, outside_group, member_from, members_from, members_in, count_member, count_object, objects_of, objects_of_members, objects_of_member, objects_of_value, objects_of_list}
use Rattle.program_names.specs.Reading.{File, Source, Sources, no_file, too_large, unread, is_document, is_script}
use Rattle.program_names.specs.Loaded.{Unit as AUnit, Program, unit_of, unit_at, object_at, program_of, no_object, no_unit}
use Rattle.program_names.specs.Layers.{NameMeaning, a_cell, a_signal_of, a_function_of, a_method, an_alias_of, the_children, is_type, meaning, meaning_in, names_of_members, own_names}
use Rattle.program_names.specs.Components.{Roots, owner, root_of, enclosing, id_in}
use Rattle.load_faults.specs.NamesInCode.{NameInCode, finds_id, finds_function, finds_method, finds_member, name_of_function, found_as_member, member_found, is_handler_function, found_outwards}
use Rattle.document_rows.specs.declared.rows.ObjectRow.{ObjectRow}
use Rattle.program_tables.specs.declared.built_in.BuiltInName.{BuiltInName}
use Rattle.program_tables.specs.declared.built_in.BuiltInName.TheVariants as b
use Rattle.program_tables.specs.declared.names.Declared.{Declared}
use Rattle.program_tables.specs.declared.names.Declared.TheVariants as d
use Rattle.program_tables.specs.declared.names.Meaning.{Meaning}
use Rattle.program_tables.specs.declared.names.Meaning.TheVariants as m
use Rattle.program_tables.specs.declared.names.ObjectNames.{ObjectNames}
use Rattle.program_tables.specs.declared.names.UnitNames.{UnitNames}
use Rattle.program_tables.specs.declared.building.UnitRow.{UnitRow}
use Rattle.program_tables.specs.BuiltIn.{built_in, built_in_meaning}
use Rattle.program_tables.specs.Walk.{object_in, meaning_of, raised, cells_by_type, cells_at, found_by_type, found_by, found_at}
use Rattle.program_tables.specs.Stands as stands
use Rattle.program_tables.specs.Stands.{Stands, is_there, member_at, function_in}
use Rattle.program_tables.proofs.MeaningLemmas.{found_as_meant}
use Rattle.program_tables.proofs.TypeLemmas.{types_as_meant}
use Rattle.alias_tables.specs.Roots.{root_at}
use Rattle.alias_tables.specs.Ids.{id_found}
use Rattle.path_ends.specs.declared.aliases.UnitIds.{UnitIds}
use Rattle.path_ends.specs.declared.aliases.UnitAliases.{UnitAliases}
use Rattle.path_ends.specs.Said.{id_seen}
use Rattle.path_ends.specs.Known.{Tells}
use Rattle.names_in_code.specs.declared.found.Found.{Found}
use Rattle.names_in_code.specs.declared.found.Found.TheVariants as f
use Rattle.names_in_code.specs.Outwards.{is_connections, function_seen, built_in_seen, seen, member_seen, found_here, owner_at, outwards}
use Rattle.names_in_code.specs.Meant.{meant, IsUnderItsName, AreUnderTheirNames, FunctionsStand, SaysOwners}

-- ---- a function of an object has the name under which it is found

abbrev is_function : Option NameMeaning → Bool
is_function (Some (a_function_of d o g)) = true
is_function _ = false

abbrev function_of : Option NameMeaning → Function
function_of (Some (a_function_of d o g)) = g
function_of _ = function (record { line = 0; column = 0 }) [] (record { line = 0; column = 0 }) no_pars None no_stmts

passed : (t : Bool) (x : NameMeaning) (rest : Option NameMeaning) (e u : ℕ) (g : Function) → is_function (Some x) ≡ false
    → (if t then Some x else rest) ≡ Some (a_function_of e u g) → rest ≡ Some (a_function_of e u g)
passed true x rest e u g not_one h = absurd (false≢true (sym not_one ∙ ap is_function h))
passed false x rest e u g not_one h = h

own_function : (p : Program) (d o place : ℕ) (ms : List WrittenMember) (n : Units) (e u : ℕ) (g : Function) → AreUnderTheirNames ms
    → meaning_in (names_of_members p d o place ms) n ≡ Some (a_function_of e u g) → name_of_function g ≡ n
own_function p d o place [] n e u g all h = absurd (false≢true (ap is_some h))
own_function p d o place (a_property q a k x at v ∷ ms) n e u g all h =
    own_function p d o (place + 1) ms n e u g all.1 (passed _ (a_signal_of []) _ e u g refl (passed _ (a_cell place _ _) _ e u g refl h))
own_function p d o place (an_alias q t x at target r ∷ ms) n e u g all h =
    own_function p d o (place + 0) ms n e u g all.1 (passed _ (an_alias_of d o target) _ e u g refl h)
own_function p d o place (a_signal q x at names ∷ ms) n e u g all h =
    own_function p d o (place + 0) ms n e u g all.1 (passed _ (a_signal_of names) _ e u g refl h)
own_function p d o place (a_function q x name at ∷ ms) n e u g all h = by_name (bytes_eq name n) refl h (own_function p d o (place + 0) ms n e u g all.1)
  where
    by_name : (t : Bool) → bytes_eq name n ≡ t → (if t then Some (a_function_of d o x) else meaning_in (names_of_members p d o (place + 0) ms) n) ≡ Some (a_function_of e u g)
        → (meaning_in (names_of_members p d o (place + 0) ms) n ≡ Some (a_function_of e u g) → name_of_function g ≡ n) → name_of_function g ≡ n
    by_name true same k rest = ap (λ y. name_of_function (function_of y)) (sym k) ∙ all.0 ∙ (bytes_eq-Decides name n).0 same
    by_name false same k rest = rest k
own_function p d o place (an_id q x at ∷ ms) n e u g all h = own_function p d o (place + 0) ms n e u g all.1 h
own_function p d o place (a_value at path v ∷ ms) n e u g all h = own_function p d o (place + 0) ms n e u g all.1 h
own_function p d o place (a_group at path ∷ ms) n e u g all h = own_function p d o (place + 0) ms n e u g all.1 h
own_function p d o place (a_child at k ∷ ms) n e u g all h = own_function p d o (place + 0) ms n e u g all.1 h
own_function p d o place (a_stray at ∷ ms) n e u g all h = own_function p d o (place + 0) ms n e u g all.1 h

-- ---- all that is found has what all that is declared has, and what all of built-in types has

abbrev Of : (Meaning → Type 0) → Option Meaning → Type 0
Of P None = Unit {0}
Of P (Some x) = P x

module _ (P : Meaning → Type 0) (us : List UnitNames) (n : Units) (built : (x : BuiltInName) → P (m.BuiltIn x)) (up : (k : ℕ) (x : Meaning) → P x → P (raised k x))
    (own : (u o : ℕ) (x : ObjectNames) (y : Declared) → object_in us u o ≡ Some x → under x.names n ≡ Some y → P (meaning_of u o y)) where
  of_built : (x : Option BuiltInName) → Of P (option_map m.BuiltIn x)
  of_built None = tt
  of_built (Some x) = built x

  of_either : (x y : Option Meaning) → Of P x → Of P y → Of P (option_or x y)
  of_either None y h g = g
  of_either (Some x) y h g = h

  of_raised : (k : ℕ) (x : Option Meaning) → Of P x → Of P (option_map (raised k) x)
  of_raised k None h = tt
  of_raised k (Some x) h = up k x h

  of_own : (u o : ℕ) (x : ObjectNames) → object_in us u o ≡ Some x → (y : Option Declared) → under x.names n ≡ y → Of P (option_map (meaning_of u o) y)
  of_own u o x i None e = tt
  of_own u o x i (Some y) e = own u o x y i e

  of_layer : (k u o : ℕ) → ((e : ℕ) → Of P (found_at k us e 0 n)) → Of P (found_at (suc k) us u o n)
  of_layer k u o deeper = by_object (object_in us u o) refl
    where
      by_type : (t : TypeRef) → Of P (found_by_type (λ e. found_at k us e 0 n) n t)
      by_type (Builtin t) = of_built (built_in t n)
      by_type (OfDocument e) = deeper e.0

      by_object : (x : Option ObjectNames) → object_in us u o ≡ x → Of P (found_by (λ e. found_at k us e 0 n) (λ e. cells_at k us e 0) u o n x)
      by_object None i = of_built (built_in no.QtObject n)
      by_object (Some x) i =
          of_either (found_by_type (λ e. found_at k us e 0 n) n x.base)
          (option_map (raised (cells_by_type (λ e. cells_at k us e 0) x.base)) (option_map (meaning_of u o) (under x.names n))) (by_type x.base)
          (of_raised (cells_by_type (λ e. cells_at k us e 0) x.base) (option_map (meaning_of u o) (under x.names n)) (of_own u o x i (under x.names n) refl))

  pub of_found : (k u o : ℕ) → Of P (found_at k us u o n)
  of_found zero u o = tt
  of_found (suc k) u o = of_layer k u o (λ e. of_found k e 0)

-- ---- members

module _ (p : Program) (us : List UnitNames) (s : Stands p us) (fit : FunctionsStand p) where
  abbrev Agrees : Units → Meaning → Type 0
  Agrees n x = option_map (meant p) (seen us n x) ≡ found_as_member p (stands.meant p x)

  of_built_in : (n : Units) (x : BuiltInName) → Agrees n (m.BuiltIn x)
  of_built_in n (b.Cell place k a) = refl
  of_built_in n b.Changed = refl
  of_built_in n (b.Signal t i) = refl
  of_built_in n b.Method = refl
  of_built_in n b.Children = refl

  of_up : (n : Units) (k : ℕ) (x : Meaning) → Agrees n x → Agrees n (raised k x)
  of_up n k (m.Cell place kind a) h = refl
  of_up n k (m.BuiltIn x) h = h
  of_up n k m.Changed h = h
  of_up n k (m.Signal u row) h = h
  of_up n k (m.Function u o row) h = h
  of_up n k (m.Alias u o row) h = h

  by_kind : (t c : Bool) (u o row : ℕ) → t ≡ c → meant p (if t then f.Member else f.Function u o row) ≡ (if c then finds_member else finds_function u o (function_in (member_at p u row)))
  by_kind true c u o row e = ap (λ (x : Bool). if x then finds_member else finds_function u o (function_in (member_at p u row))) e
  by_kind false c u o row e = ap (λ (x : Bool). if x then finds_member else finds_function u o (function_in (member_at p u row))) e

  of_function : (n : Units) (u o row : ℕ) (x : ObjectNames) → object_in us u o ≡ Some x → under x.names n ≡ Some (d.Function row) → Agrees n (m.Function u o row)
  of_function n u o row x i e =
      let g : Function = function_in (member_at p u row) in
      let own : meaning_in (own_names p u o) n ≡ Some (a_function_of u o g) = sym (s.names u o x i n) ∙ ap (λ y. option_map (stands.meant p) (option_map (meaning_of u o) y)) e in
      let named : name_of_function g ≡ n = own_function p u o 0 (object_at p u o).members n u o g (fit u o) own in
      let there : is_there us u o ≡ true = ap is_some i in
      let aims : is_connections us u o ≡ is_type p u o no.Connections = types_as_meant p us s u o there (Builtin no.Connections) in
      ap Some (by_kind (is_connections us u o && is_handler_name n) (is_handler_function p u o g) u o row
      (ap (λ t. t && is_handler_name n) aims ∙ ap (λ y. is_type p u o no.Connections && is_handler_name y) (sym named)))

  of_declared : (n : Units) (u o : ℕ) (x : ObjectNames) (y : Declared) → object_in us u o ≡ Some x → under x.names n ≡ Some y → Agrees n (meaning_of u o y)
  of_declared n u o x (d.Cell place k a) i e = refl
  of_declared n u o x d.Changed i e = refl
  of_declared n u o x (d.Signal row) i e = refl
  of_declared n u o x (d.Function row) i e = of_function n u o row x i e
  of_declared n u o x (d.Alias row) i e = refl

  each_agrees : (n : Units) (x : Option Meaning) → Of (Agrees n) x → option_map (meant p) (option_and_then (seen us n) x) ≡ option_and_then (found_as_member p) (option_map (stands.meant p) x)
  each_agrees n None h = refl
  each_agrees n (Some x) h = h

  pub members_as_meant : (u o : ℕ) → is_there us u o ≡ true → (n : Units) → option_map (meant p) (member_seen us u o n) ≡ member_found p u o n
  members_as_meant u o there n =
      each_agrees n (found_at (length us + 1) us u o n) (of_found (Agrees n) us n (of_built_in n) (of_up n) (of_declared n) (length us + 1) u o) ∙
      ap (option_and_then (found_as_member p)) (found_as_meant p us s u o there n)

-- ---- components outwards

map_or : (p : Program) (x y : Option Found) → option_map (meant p) (option_or x y) ≡ option_or (option_map (meant p) x) (option_map (meant p) y)
map_or p None y = refl
map_or p (Some x) y = refl

or_or : (x y z : Option NameInCode) → option_or (option_or x y) z ≡ option_or x (option_or y z)
or_or None y z = refl
or_or (Some x) y z = refl

ids_meant : (p : Program) (x : Option ℕ) → option_map (meant p) (option_map f.Id x) ≡ option_map finds_id x
ids_meant p None = refl
ids_meant p (Some o) = refl

module _ (p : Program) (roots : Roots) (us : List UnitNames) (ids : List UnitIds) (aliases : List UnitAliases) (tells : Tells p roots us ids aliases) (fit : FunctionsStand p)
    (e : ℕ) (own : UnitIds) (objects : List ObjectRow) (rows : List UnitRow) (kept : slice_get ids e ≡ Some own) (says : SaysOwners p roots us e own objects rows) where
  id_meant : (o : ℕ) → is_there us e o ≡ true → (n : Units) → id_found own.ids.items (root_at own.roots.items o) n ≡ id_in p roots e (root_of p roots e o) n
  id_meant o there n =
      ap (option_and_then (λ (u : UnitIds). id_found u.ids.items (root_at u.roots.items o) n)) (sym kept) ∙ (tells.told_ids e o n there).0

  here_meant : (scope : Option Found) (o : ℕ) → is_there us e o ≡ true → (n : Units)
      → option_map (meant p) (found_here us own e scope o n) ≡
      option_or (option_map finds_id (id_in p roots e (root_of p roots e o) n)) (option_or (option_map (meant p) scope) (member_found p e (root_of p roots e o) n))
  here_meant scope o there n =
      let root : root_at own.roots.items o ≡ root_of p roots e o = (says.same_roots o there).0 in
      let inside : is_there us e (root_of p roots e o) ≡ true = (says.same_roots o there).1 in
      map_or p (option_map f.Id (id_found own.ids.items (root_at own.roots.items o) n)) (option_or scope (member_seen us e (root_at own.roots.items o) n)) ∙
      ap (λ x. option_or x (option_map (meant p) (option_or scope (member_seen us e (root_at own.roots.items o) n)))) (ids_meant p (id_found own.ids.items (root_at own.roots.items o) n) ∙ ap (option_map finds_id) (id_meant o there n)) ∙
      ap (option_or (option_map finds_id (id_in p roots e (root_of p roots e o) n)))
      (map_or p scope (member_seen us e (root_at own.roots.items o) n) ∙
      ap (λ r. option_or (option_map (meant p) scope) (option_map (meant p) (member_seen us e r n))) root ∙
      ap (option_or (option_map (meant p) scope)) (members_as_meant p us tells.stands fit e (root_of p roots e o) inside n))

  abbrev behind : ℕ → Units → Option ℕ → Option Found
  behind k n x = option_and_then (λ w. outwards k us own objects rows e None w n) x

  abbrev out : ℕ → Units → Option ℕ → Option NameInCode
  out k n x = option_and_then (λ r. found_outwards k p roots e None r n) x

  abbrev inner : Option Found → ℕ → Units → Option NameInCode
  inner scope o n =
      option_or (option_map finds_id (id_in p roots e (root_of p roots e o) n)) (option_or (option_map (meant p) scope) (member_found p e (root_of p roots e o) n))

  abbrev OutwardsMeant : ℕ → Type 0
  OutwardsMeant k = (scope : Option Found) (o : ℕ) → is_there us e o ≡ true → (n : Units)
      → option_map (meant p) (outwards k us own objects rows e scope o n) ≡ found_outwards k p roots e (option_map (meant p) scope) (root_of p roots e o) n

  by_owner : (k : ℕ) → OutwardsMeant k → (o : ℕ) (n : Units) (x : Option ℕ) → owner p e (root_of p roots e o) ≡ x → is_there us e (root_of p roots e o) ≡ true
      → option_map (meant p) (behind k n x) ≡ out k n (option_map (λ w. root_of p roots e w) x)
  by_owner k lower o n None i inside = refl
  by_owner k lower o n (Some w) i inside = lower None w (says.owners_there (root_of p roots e o) w inside i) n

  one_out : (k : ℕ) → OutwardsMeant k → (scope : Option Found) (o : ℕ) → is_there us e o ≡ true → (n : Units) → (root : ℕ) → root_at own.roots.items o ≡ root → root ≡ root_of p roots e o
      → option_map (meant p) (behind k n (owner_at objects rows root)) ≡ out k n (enclosing p roots e (root_of p roots e o))
  one_out k lower scope o there n root i h =
      let inside : is_there us e (root_of p roots e o) ≡ true = (says.same_roots o there).1 in
      ap (λ r. option_map (meant p) (behind k n (owner_at objects rows r))) h ∙
      ap (λ x. option_map (meant p) (behind k n x)) (says.same_owners (root_of p roots e o) inside) ∙
      by_owner k lower o n (owner p e (root_of p roots e o)) refl inside

  pub outwards_meant : (k : ℕ) → OutwardsMeant k
  outwards_meant zero scope o there n = refl
  outwards_meant (suc k) scope o there n =
      map_or p (found_here us own e scope o n) (behind k n (owner_at objects rows (root_at own.roots.items o))) ∙
      ap (λ x. option_or x (option_map (meant p) (behind k n (owner_at objects rows (root_at own.roots.items o))))) (here_meant scope o there n) ∙
      ap (option_or (inner scope o n)) (one_out k (outwards_meant k) scope o there n (root_at own.roots.items o) refl (says.same_roots o there).0) ∙
      or_or (option_map finds_id (id_in p roots e (root_of p roots e o) n)) (option_or (option_map (meant p) scope) (member_found p e (root_of p roots e o) n)) (out k n (enclosing p roots e (root_of p roots e o))) ∙
      ap (option_or (option_map finds_id (id_in p roots e (root_of p roots e o) n))) (or_or (option_map (meant p) scope) (member_found p e (root_of p roots e o) n) (out k n (enclosing p roots e (root_of p roots e o))))

-- ---- functions of what is read stand under their names

outside : (before : List Units) (q : Place) (x : WrittenMember) → IsUnderItsName x → IsUnderItsName (outside_group before q x)
outside [] q x h = h
outside (n ∷ ns) q x h = tt

one_member : (before : List Units) (k : ℕ) (x : Member) → IsUnderItsName (member_from before k x)
one_member before k (id q n at c) = outside before q (an_id q n at) tt
one_member before k (property q a kind n at v) = outside before at _ tt
one_member before k (bare q a kind n at c) = outside before at _ tt
one_member before k (alias q t n at first r ns c) = outside before at _ tt
one_member before k (signal q n at ps c) = outside before at _ tt
one_member before k (method (function q n at ps kind ss)) = outside before at (a_function q (function q n at ps kind ss) n at) refl
one_member before k (given n q ns v) = tt
one_member before k (group n q ns ms) = tt
one_member before k (child x) = outside before _ _ tt

both : (xs ys : List WrittenMember) → AreUnderTheirNames xs → AreUnderTheirNames ys → AreUnderTheirNames (xs ++ ys)
both [] ys h g = g
both (x ∷ xs) ys h g = (h.0, both xs ys h.1 g)

mutual
  all_members : (before : List Units) (k : ℕ) (ms : Members) → AreUnderTheirNames (members_from before k ms)
  all_members before k no_members = tt
  all_members before k (a_member x t ms) =
      (one_member before k x, both (members_in before k x) (members_from before (k + count_member x) ms) (inner_members before k x) (all_members before (k + count_member x) ms))

  inner_members : (before : List Units) (k : ℕ) (x : Member) → AreUnderTheirNames (members_in before k x)
  inner_members before k (group n q ns ms) = all_members (before ++ n ∷ ns) k ms
  inner_members before k (id q n at c) = tt
  inner_members before k (property q a kind n at v) = tt
  inner_members before k (bare q a kind n at c) = tt
  inner_members before k (alias q t n at first r ns c) = tt
  inner_members before k (signal q n at ps c) = tt
  inner_members before k (method g) = tt
  inner_members before k (given n q ns v) = tt
  inner_members before k (child x) = tt

abbrev All : List WrittenObject → Type 0
All [] = Unit {0}
All (w ∷ ws) = AreUnderTheirNames w.members × All ws

all_both : (xs ys : List WrittenObject) → All xs → All ys → All (xs ++ ys)
all_both [] ys h g = g
all_both (x ∷ xs) ys h g = (h.0, all_both xs ys h.1 g)

mutual
  of_object : (role : WrittenAs) (k : ℕ) (x : Object) → All (objects_of role k x)
  of_object role k (object t ms) = (all_members [] (suc k) ms, of_members k [] (suc k) ms)

  of_members : (w : ℕ) (before : List Units) (k : ℕ) (ms : Members) → All (objects_of_members w before k ms)
  of_members w before k no_members = tt
  of_members w before k (a_member x t ms) =
      all_both (objects_of_member w before k x) (objects_of_members w before (k + count_member x) ms) (of_member w before k x) (of_members w before (k + count_member x) ms)

  of_member : (w : ℕ) (before : List Units) (k : ℕ) (x : Member) → All (objects_of_member w before k x)
  of_member w before k (id q n at c) = tt
  of_member w before k (property q a kind n at v) = of_value (as_value w (n ∷ [])) k v
  of_member w before k (bare q a kind n at c) = tt
  of_member w before k (alias q t n at first r ns c) = tt
  of_member w before k (signal q n at ps c) = tt
  of_member w before k (method g) = tt
  of_member w before k (given n q ns v) = of_value (as_value w (before ++ n ∷ ns)) k v
  of_member w before k (group n q ns ms) = of_members w (before ++ n ∷ ns) k ms
  of_member w before k (child x) = of_object (as_child w) k x

  of_value : (role : WrittenAs) (k : ℕ) (v : Value) → All (objects_of_value role k v)
  of_value role k (value_object x) = of_object role k x
  of_value role k (value_list q xs) = of_list role k xs
  of_value role k (value_stmt s) = tt

  of_list : (role : WrittenAs) (k : ℕ) (xs : Objects) → All (objects_of_list role k xs)
  of_list role k (last_object x) = of_object role k x
  of_list role k (an_object x xs) = all_both (objects_of role k x) (objects_of_list role (k + count_object x) xs) (of_object role k x) (of_list role (k + count_object x) xs)

of_source : (file : File) (source : Source) → All (unit_of file source).objects
of_source file no_file = tt
of_source file too_large = tt
of_source file (unread at why) = tt
of_source file (is_document (document imports root)) = of_object as_root 0 root
of_source file (is_script (script library functions)) = tt

object_there : (ws : List WrittenObject) (o : ℕ) → All ws → AreUnderTheirNames (unwrap_or (slice_get ws o) no_object).members
object_there [] o all = tt
object_there (w ∷ ws) zero all = all.0
object_there (w ∷ ws) (suc o) all = object_there ws o all.1

unit_there : (sources : Sources) (files : List File) (d : ℕ) → All (unwrap_or (slice_get (program_of sources files) d) no_unit).objects
unit_there sources [] d = tt
unit_there sources (file ∷ files) zero = of_source file (sources file)
unit_there sources (file ∷ files) (suc d) = unit_there sources files d

pub functions_stand : (sources : Sources) (files : List File) → FunctionsStand (program_of sources files)
functions_stand sources files d o = object_there (unit_at (program_of sources files) d).objects o (unit_there sources files d)

-- Names in tables and in lists.
use Rattle.std.proofs.Common.{◌≡◌, ◌∙◌, ap, sym, refl, ℕ, arith, Bool, true, false, List, [], ◌∷◌, ◌++◌, map, Option, Some, None, is_some}
use Rattle.std.specs.Option.{option_map, option_or}
use Rattle.std.specs.Prelude.{if◌then◌else◌, nat_eq, ◌&&◌}
use Rattle.std.specs.List.{flat_map}
use Rattle.std.specs.Str.{bytes_eq}
use Rattle.std.proofs.lemmas.Bool.{false≢true}
use Rattle.std.proofs.lemmas.Slice.Eq.{bytes_eq-Decides}
use Rattle.std.proofs.lemmas.Bool.Decides.{nat_tests}
use Rattle.name_table.specs.Named.{under, put}
use Rattle.qml_syntax.specs.Tree.{Units}
use Rattle.qml_types.specs.declared.kind.TypeNo.{TypeNo}
use Rattle.qml_types.specs.declared.kind.TypeNo.TheVariants as no
use Rattle.qml_types.specs.Table.{lineage}
use Rattle.program_names.specs.Layers.{Named, NameMeaning, names_of_type, meaning_in}
use Rattle.program_tables.specs.Putting.{put_all}
use Rattle.program_tables.specs.BuiltIn.{Entry, own_entries, table_of, built_in, built_in_meaning}

-- ---- the first of a name

same_either_way : (a b : ℕ) → nat_eq a b ≡ nat_eq b a
same_either_way a b = grind (arith, nat_tests)

pub eq_either_way : (a b : List ℕ) → bytes_eq a b ≡ bytes_eq b a
eq_either_way [] [] = refl
eq_either_way [] (y ∷ ys) = refl
eq_either_way (x ∷ xs) [] = refl
eq_either_way (x ∷ xs) (y ∷ ys) = ap (λ b. b && bytes_eq xs ys) (same_either_way x y) ∙ ap (λ b. nat_eq y x && b) (eq_either_way xs ys)

same_text : (a b : List ℕ) → bytes_eq a b ≡ true → a ≡ b
same_text a b h = (bytes_eq-Decides a b).0 h

module _ {V : Type 0} where
  or_none : (x : Option V) → option_or x None ≡ x
  or_none None = refl
  or_none (Some x) = refl

  pub or_assoc : (a b c : Option V) → option_or (option_or a b) c ≡ option_or a (option_or b c)
  or_assoc (Some a) b c = refl
  or_assoc None b c = refl

  under_last : (names : List (List ℕ × V)) (n : List ℕ) (v : V) (name : List ℕ) → under (names ++ (n, v) ∷ []) name ≡ option_or (under names name) (if bytes_eq name n then Some v else None)
  under_last [] n v name = refl
  under_last (r ∷ names) n v name = cases (under_last names n v name) (bytes_eq name r.0)
    where
      cases : under (names ++ (n, v) ∷ []) name ≡ option_or (under names name) (if bytes_eq name n then Some v else None) → (b : Bool) → (if b then Some r.1 else under (names ++ (n, v) ∷ []) name) ≡ option_or (if b then Some r.1 else under names name) (if bytes_eq name n then Some v else None)
      cases h true = refl
      cases h false = h

  found_again : (names : List (List ℕ × V)) (n name : List ℕ) (v : V) → is_some (under names n) ≡ true → under names name ≡ option_or (under names name) (if bytes_eq name n then Some v else None)
  found_again names n name v h = cases (under names name) (bytes_eq name n) refl refl
    where
      cases : (x : Option V) (b : Bool) → under names name ≡ x → bytes_eq name n ≡ b → x ≡ option_or x (if b then Some v else None)
      cases (Some y) b e g = refl
      cases None false e g = refl
      cases None true e g = absurd (false≢true (sym (ap is_some e) ∙ ap (λ m. is_some (under names m)) (same_text name n g) ∙ h))

  pub under_put : (names : List (List ℕ × V)) (n : List ℕ) (v : V) (name : List ℕ) → under (put names n v) name ≡ option_or (under names name) (if bytes_eq name n then Some v else None)
  under_put names n v name = cases (is_some (under names n)) refl
    where
      cases : (b : Bool) → is_some (under names n) ≡ b → under (if b then names else names ++ (n, v) ∷ []) name ≡ option_or (under names name) (if bytes_eq name n then Some v else None)
      cases true h = found_again names n name v h
      cases false h = under_last names n v name

  -- what is put is found where it is the first
  pub under_all : (names es : List (List ℕ × V)) (name : List ℕ) → under (put_all names es) name ≡ option_or (under names name) (under es name)
  under_all names [] name = sym (or_none (under names name))
  under_all names (e ∷ es) name =
      under_all (put names e.0 e.1) es name ∙ ap (λ x. option_or x (under es name)) (under_put names e.0 e.1 name) ∙
      or_assoc (under names name) (if bytes_eq name e.0 then Some e.1 else None) (under es name) ∙ ap (λ x. option_or (under names name) x) (front (bytes_eq name e.0))
    where
      front : (b : Bool) → option_or (if b then Some e.1 else None) (under es name) ≡ (if b then Some e.1 else under es name)
      front true = refl
      front false = refl

-- ---- names of a list

abbrev pub told : Named → Units × NameMeaning
told n = (n.name, n.what)

pub in_list : (ns : List Named) (name : Units) → meaning_in ns name ≡ under (map told ns) name
in_list [] name = refl
in_list (n ∷ ns) name =
    ap (λ b. if b then Some n.what else meaning_in ns name) (eq_either_way n.name name) ∙ ap (λ x. if bytes_eq name n.name then Some n.what else x) (in_list ns name)

pub in_both : (a b : List Named) (name : Units) → meaning_in (a ++ b) name ≡ option_or (meaning_in a name) (meaning_in b name)
in_both [] b name = refl
in_both (n ∷ a) b name = cases (in_both a b name) (bytes_eq n.name name)
  where
    cases : meaning_in (a ++ b) name ≡ option_or (meaning_in a name) (meaning_in b name) → (t : Bool) → (if t then Some n.what else meaning_in (a ++ b) name) ≡ option_or (if t then Some n.what else meaning_in a name) (meaning_in b name)
    cases h true = refl
    cases h false = h

pub mapped : {V W : Type 0} (f : V → W) (es : List (List ℕ × V)) (name : List ℕ) → option_map f (under es name) ≡ under (map (λ e. (e.0, f e.1)) es) name
mapped f [] name = refl
mapped f (e ∷ es) name = cases (mapped f es name) (bytes_eq name e.0)
  where
    cases : option_map f (under es name) ≡ under (map (λ e. (e.0, f e.1)) es) name → (t : Bool) → option_map f (if t then Some e.1 else under es name) ≡ (if t then Some (f e.1) else under (map (λ e. (e.0, f e.1)) es) name)
    cases h true = refl
    cases h false = h

-- ---- built-in types

abbrev meant_entry : Entry → Units × NameMeaning
meant_entry e = (e.0, built_in_meaning e.1)

type_told : (t : TypeNo) → map meant_entry (flat_map own_entries (lineage t)) ≡ map told (flat_map names_of_type (lineage t))
type_told no.QtObject = refl
type_told no.Component = refl
type_told no.Item = refl
type_told no.Timer = refl
type_told no.Connections = refl
type_told no.Binding = refl
type_told no.State = refl
type_told no.PropertyChanges = refl
type_told no.ListModel = refl
type_told no.ListElement = refl
type_told no.Repeater = refl
type_told no.Loader = refl
type_told no.Host = refl

table_is : (t : TypeNo) → table_of t ≡ put_all [] (flat_map own_entries (lineage t))
unfolding table_of
table_is t = refl

pub built_in_means : (t : TypeNo) (name : Units) → option_map built_in_meaning (built_in t name) ≡ meaning_in (flat_map names_of_type (lineage t)) name
built_in_means t name =
    ap (λ es. option_map built_in_meaning (under es name)) (table_is t) ∙ ap (option_map built_in_meaning) (under_all [] (flat_map own_entries (lineage t)) name) ∙
    mapped built_in_meaning (flat_map own_entries (lineage t)) name ∙ ap (λ es. under es name) (type_told t) ∙ sym (in_list (flat_map names_of_type (lineage t)) name)

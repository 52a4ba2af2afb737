-- Going through the layers of an object from its own text down.
use Rattle.std.proofs.Common.{◌≡◌, ◌∙◌, ap, sym, refl, ℕ, zero, suc, ◌+◌, ◌-◌, ◌<◌, ◌≤◌, arith, List, length, Option, Some, None}
use Rattle.std.specs.Option.{option_map, option_or}
use Rattle.name_table.specs.Named.{under}
use Rattle.qml_syntax.specs.Tree.{Units}
use Rattle.qml_base.specs.declared.numbers.UnitNo.{UnitNo}
use Rattle.qml_types.specs.declared.kind.TypeNo.{TypeNo}
use Rattle.qml_types.specs.declared.kind.TypeNo.TheVariants as no
use Rattle.qml_types.specs.declared.kind.TypeRef.TheVariants.{Builtin, Document as OfDocument}
use Rattle.qml_types.specs.Table.{cells_of}
use Rattle.program_tables.specs.declared.names.Meaning.{Meaning}
use Rattle.program_tables.specs.declared.names.Meaning.TheVariants as m
use Rattle.program_tables.specs.declared.names.ObjectNames.{ObjectNames}
use Rattle.program_tables.specs.declared.names.UnitNames.{UnitNames}
use Rattle.program_tables.specs.BuiltIn.{built_in}
use Rattle.program_tables.specs.Walk.{object_in, meaning_of, raised, with_type, with_own, cells_by_type, cells_by, cells_at, found_by_type, found_by, found_at}

-- what is found below, else what was found so far
abbrev pub joined : ℕ → List UnitNames → ℕ → ℕ → Units → Option Meaning → Option Meaning
joined f us u o name found = option_or (found_at f us u o name) (option_map (raised (cells_at f us u o)) found)

or_none : (x : Option Meaning) → option_or x None ≡ x
or_none None = refl
or_none (Some x) = refl

pub nothing_yet : (f : ℕ) (us : List UnitNames) (u o : ℕ) (name : Units) → joined f us u o name None ≡ found_at f us u o name
nothing_yet f us u o name = or_none (found_at f us u o name)

further : (place c k : ℕ) → place + (c + k) ≡ (place + k) + c
further place c k = omega arith

raised_twice : (c k : ℕ) (x : Meaning) → raised (c + k) x ≡ raised c (raised k x)
raised_twice c k (m.Cell place kind a) = ap (λ p. m.Cell p kind a) (further place c k)
raised_twice c k _ = refl

at_once : (place : ℕ) → place + 0 ≡ place
at_once place = omega arith

not_raised : (x : Meaning) → raised 0 x ≡ x
not_raised (m.Cell place kind a) = ap (λ p. m.Cell p kind a) (at_once place)
not_raised _ = refl

combined : (below own found : Option Meaning) (c k : ℕ)
    → option_or (option_or below (option_map (raised c) own)) (option_map (raised (c + k)) found) ≡ option_or below (option_map (raised c) (option_or own (option_map (raised k) found)))
combined (Some b) own found c k = refl
combined None (Some w) found c k = refl
combined None None None c k = refl
combined None None (Some x) c k = ap Some (raised_twice c k x)

opened : (f : ℕ) (us : List UnitNames) (u o : ℕ) (name : Units) (found : Option Meaning) (x : Option ObjectNames) → object_in us u o ≡ x
    → joined (suc f) us u o name found ≡
    option_or (found_by (λ e. found_at f us e 0 name) (λ e. cells_at f us e 0) u o name x) (option_map (raised (cells_by (λ e. cells_at f us e 0) x)) found)
opened f us u o name found x e =
    ap (λ y. option_or (found_by (λ e. found_at f us e 0 name) (λ e. cells_at f us e 0) u o name y) (option_map (raised (cells_by (λ e. cells_at f us e 0) y)) found)) e

at_document : (f : ℕ) (us : List UnitNames) (u o : ℕ) (name : Units) (x : ObjectNames) (e : UnitNo) (found : Option Meaning) → object_in us u o ≡ Some x → x.base ≡ OfDocument e
    → joined (suc f) us u o name found ≡ joined f us e.0 0 name (with_own x u o name found)
at_document f us u o name x e found h b =
    opened f us u o name found (Some x) h ∙
    ap (λ t. option_or (option_or (found_by_type (λ e. found_at f us e 0 name) name t) (option_map (raised (cells_by_type (λ e. cells_at f us e 0) t)) (option_map (meaning_of u o) (under x.names name))))
    (option_map (raised (cells_by_type (λ e. cells_at f us e 0) t + x.cells)) found)) b ∙
    combined (found_at f us e.0 0 name) (option_map (meaning_of u o) (under x.names name)) found (cells_at f us e.0 0) x.cells

at_built_in : (f : ℕ) (us : List UnitNames) (u o : ℕ) (name : Units) (x : ObjectNames) (t : TypeNo) (found : Option Meaning) → object_in us u o ≡ Some x → x.base ≡ Builtin t
    → joined (suc f) us u o name found ≡ with_type t name (with_own x u o name found)
at_built_in f us u o name x t found h b =
    opened f us u o name found (Some x) h ∙
    ap (λ t. option_or (option_or (found_by_type (λ e. found_at f us e 0 name) name t) (option_map (raised (cells_by_type (λ e. cells_at f us e 0) t)) (option_map (meaning_of u o) (under x.names name))))
    (option_map (raised (cells_by_type (λ e. cells_at f us e 0) t + x.cells)) found)) b ∙
    combined (option_map m.BuiltIn (built_in t name)) (option_map (meaning_of u o) (under x.names name)) found (length (cells_of t)) x.cells

one_less : (f : ℕ) → suc f - 1 ≡ f
one_less f = omega arith

pub goes_down : (k : ℕ) (us : List UnitNames) (u o : ℕ) (name : Units) (x : ObjectNames) (e : UnitNo) (found after all : Option Meaning) → 0 < k → Some x ≡ object_in us u o → x.base ≡ OfDocument e
    → after ≡ with_own x u o name found → joined k us u o name found ≡ all → joined (k - 1) us e.0 0 name after ≡ all
goes_down zero us u o name x e found after all h i b a l = absurd (omega arith)
goes_down (suc f) us u o name x e found after all h i b a l =
    ap (λ j. joined j us e.0 0 name after) (one_less f) ∙ ap (joined f us e.0 0 name) a ∙ sym (at_document f us u o name x e found (sym i) b) ∙ l

pub ends_below : (k : ℕ) (us : List UnitNames) (u o : ℕ) (name : Units) (x : ObjectNames) (t : TypeNo) (found after result all : Option Meaning) → 0 < k → Some x ≡ object_in us u o → x.base ≡ Builtin t
    → after ≡ with_own x u o name found → result ≡ with_type t name after → joined k us u o name found ≡ all → result ≡ all
ends_below zero us u o name x t found after result all h i b a r l = absurd (omega arith)
ends_below (suc f) us u o name x t found after result all h i b a r l =
    r ∙ ap (with_type t name) a ∙ sym (at_built_in f us u o name x t found (sym i) b) ∙ l

pub ends_without : (k : ℕ) (us : List UnitNames) (u o : ℕ) (name : Units) (found result all : Option Meaning) → 0 < k → Path (Option ObjectNames) None (object_in us u o)
    → result ≡ with_type no.QtObject name found → joined k us u o name found ≡ all → result ≡ all
ends_without zero us u o name found result all h i r l = absurd (omega arith)
ends_without (suc f) us u o name found result all h i r l = r ∙ sym (opened f us u o name found None (sym i)) ∙ l

map_not_raised : (found : Option Meaning) → option_map (raised 0) found ≡ found
map_not_raised None = refl
map_not_raised (Some x) = ap Some (not_raised x)

pub ends_at_last : (k : ℕ) (us : List UnitNames) (u o : ℕ) (name : Units) (found all : Option Meaning) → k ≤ 0 → joined k us u o name found ≡ all → found ≡ all
ends_at_last zero us u o name found all h l = sym (map_not_raised found) ∙ l
ends_at_last (suc k) us u o name found all h l = absurd (omega arith)

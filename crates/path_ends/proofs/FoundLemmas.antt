-- An alias that is found is declared by an object of the tables.
use Rattle.std.proofs.Common.{◌≡◌, refl, subst, ℕ, zero, suc, List, Option, Some, None}
use Rattle.std.specs.Option.{option_map, option_or}
use Rattle.qml_syntax.specs.Tree.{Units}
use Rattle.name_table.specs.Named.{under}
use Rattle.qml_types.specs.declared.kind.TypeNo.TheVariants as no
use Rattle.qml_types.specs.declared.kind.TypeRef.{TypeRef}
use Rattle.qml_types.specs.declared.kind.TypeRef.TheVariants.{Builtin, Document as OfDocument}
use Rattle.program_tables.specs.declared.built_in.BuiltInName.{BuiltInName}
use Rattle.program_tables.specs.declared.names.Declared.{Declared}
use Rattle.program_tables.specs.declared.names.Declared.TheVariants as d
use Rattle.program_tables.specs.declared.names.Meaning.{Meaning}
use Rattle.program_tables.specs.declared.names.Meaning.TheVariants as m
use Rattle.program_tables.specs.declared.names.ObjectNames.{ObjectNames}
use Rattle.program_tables.specs.declared.names.UnitNames.{UnitNames}
use Rattle.program_tables.specs.BuiltIn.{built_in}
use Rattle.program_tables.specs.Walk.{object_in, meaning_of, raised, cells_by_type, cells_at, found_by_type, found_by, found_at}

-- the object and the name that declare the alias of a row
pub record Declares (us : List UnitNames) (e o row : ℕ) : Type 0 where
  pub entry : ObjectNames
  pub name : Units
  pub object : object_in us e o ≡ Some entry
  pub alias : under entry.names name ≡ Some (d.Alias row)

abbrev IsAlias : List UnitNames → Option Meaning → Type 0
IsAlias us (Some (m.Alias e o row)) = Declares us e o row
IsAlias us _ = Unit {0}

of_type : (us : List UnitNames) (x : Option BuiltInName) → IsAlias us (option_map m.BuiltIn x)
of_type us None = tt
of_type us (Some x) = tt

of_both : (us : List UnitNames) (a c : Option Meaning) → IsAlias us a → IsAlias us c → IsAlias us (option_or a c)
of_both us None c h g = g
of_both us (Some x) c h g = h

of_raised : (us : List UnitNames) (n : ℕ) (x : Option Meaning) → IsAlias us x → IsAlias us (option_map (raised n) x)
of_raised us n None h = tt
of_raised us n (Some (m.Cell place k a)) h = tt
of_raised us n (Some (m.BuiltIn x)) h = h
of_raised us n (Some m.Changed) h = h
of_raised us n (Some (m.Signal e row)) h = h
of_raised us n (Some (m.Function e o row)) h = h
of_raised us n (Some (m.Alias e o row)) h = h

of_object : (us : List UnitNames) (u o : ℕ) (name : Units) (x : ObjectNames) → object_in us u o ≡ Some x → (y : Option Declared) → under x.names name ≡ y → IsAlias us (option_map (meaning_of u o) y)
of_object us u o name x i None e = tt
of_object us u o name x i (Some (d.Cell place k a)) e = tt
of_object us u o name x i (Some d.Changed) e = tt
of_object us u o name x i (Some (d.Signal row)) e = tt
of_object us u o name x i (Some (d.Function row)) e = tt
of_object us u o name x i (Some (d.Alias row)) e = record { entry = x; name = name; object = i; alias = e }

-- what is found in an object, where this is so of what is found below
one_layer : (us : List UnitNames) (f u o : ℕ) (name : Units) → ((e : ℕ) → IsAlias us (found_at f us e 0 name)) → IsAlias us (found_at (suc f) us u o name)
one_layer us f u o name deeper = by_object (object_in us u o) refl
  where
    by_type : (t : TypeRef) → IsAlias us (found_by_type (λ e. found_at f us e 0 name) name t)
    by_type (Builtin t) = of_type us (built_in t name)
    by_type (OfDocument e) = deeper e.0

    by_object : (x : Option ObjectNames) → object_in us u o ≡ x → IsAlias us (found_by (λ e. found_at f us e 0 name) (λ e. cells_at f us e 0) u o name x)
    by_object None i = of_type us (built_in no.QtObject name)
    by_object (Some x) i =
        of_both us (found_by_type (λ e. found_at f us e 0 name) name x.base)
        (option_map (raised (cells_by_type (λ e. cells_at f us e 0) x.base)) (option_map (meaning_of u o) (under x.names name))) (by_type x.base)
        (of_raised us (cells_by_type (λ e. cells_at f us e 0) x.base) (option_map (meaning_of u o) (under x.names name)) (of_object us u o name x i (under x.names name) refl))

found_declared : (us : List UnitNames) (f u o : ℕ) (name : Units) → IsAlias us (found_at f us u o name)
found_declared us zero u o name = tt
found_declared us (suc f) u o name = one_layer us f u o name (λ e. found_declared us f e 0 name)

pub alias_declared : (us : List UnitNames) (f u o e p row : ℕ) (name : Units) → found_at f us u o name ≡ Some (m.Alias e p row) → Declares us e p row
alias_declared us f u o e p row name i = subst (IsAlias us) i (found_declared us f u o name)

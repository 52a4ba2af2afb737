-- Where an alias is found, an object of the tables declares it.
use Rattle.std.proofs.Common.{◌≡◌, refl, subst, ℕ, zero, suc, List, Option, Some, None}
use Rattle.std.specs.Option.{option_map, option_or}
use Rattle.qml_syntax.specs.Tree.{Units}
use Rattle.name_table.specs.Named.{under}
use Rattle.qml_types.specs.declared.kind.TypeNo.TheVariants as no
use Rattle.qml_types.specs.declared.kind.TypeRef.{TypeRef}
use Rattle.qml_types.specs.declared.kind.TypeRef.TheVariants.{Builtin, Document as OfDocument}
use Rattle.program_tables.specs.declared.built_in.BuiltInName.{BuiltInName}
use Rattle.program_tables.specs.declared.names.Declared.{Declared}
use Rattle.program_tables.specs.declared.names.Declared.TheVariants as d
use Rattle.program_tables.specs.declared.names.Meaning.{Meaning}
use Rattle.program_tables.specs.declared.names.Meaning.TheVariants as m
use Rattle.program_tables.specs.declared.names.ObjectNames.{ObjectNames}
use Rattle.program_tables.specs.declared.names.UnitNames.{UnitNames}
use Rattle.program_tables.specs.BuiltIn.{built_in}
use Rattle.program_tables.specs.Walk.{object_in, meaning_of, raised, cells_by_type, cells_at, found_by_type, found_by, found_at}

-- what holds of each alias that an object declares
module _ (us : List UnitNames) (P : ℕ → ℕ → Type 0) (each : (u o : ℕ) (x : ObjectNames) (name : Units) (row : ℕ) → object_in us u o ≡ Some x → under x.names name ≡ Some (d.Alias row) → P u row) where
  abbrev pub Holds : Option Meaning → Type 0
  Holds (Some (m.Alias u o row)) = P u row
  Holds _ = Unit {0}

  of_type : (x : Option BuiltInName) → Holds (option_map m.BuiltIn x)
  of_type None = tt
  of_type (Some x) = tt

  of_both : (a c : Option Meaning) → Holds a → Holds c → Holds (option_or a c)
  of_both None c h g = g
  of_both (Some x) c h g = h

  of_raised : (n : ℕ) (x : Option Meaning) → Holds x → Holds (option_map (raised n) x)
  of_raised n None h = tt
  of_raised n (Some (m.Cell place k a)) h = tt
  of_raised n (Some (m.BuiltIn x)) h = h
  of_raised n (Some m.Changed) h = h
  of_raised n (Some (m.Signal e row)) h = h
  of_raised n (Some (m.Function e o row)) h = h
  of_raised n (Some (m.Alias e o row)) h = h

  of_object : (u o : ℕ) (name : Units) (x : ObjectNames) → object_in us u o ≡ Some x → (y : Option Declared) → under x.names name ≡ y → Holds (option_map (meaning_of u o) y)
  of_object u o name x i None e = tt
  of_object u o name x i (Some (d.Cell place k a)) e = tt
  of_object u o name x i (Some d.Changed) e = tt
  of_object u o name x i (Some (d.Signal row)) e = tt
  of_object u o name x i (Some (d.Function row)) e = tt
  of_object u o name x i (Some (d.Alias row)) e = each u o x name row i e

  pub found_holds : (f u o : ℕ) (name : Units) → Holds (found_at f us u o name)
  found_holds zero u o name = tt
  found_holds (suc f) u o name = by_object (λ e. found_holds f e 0 name) (object_in us u o) refl
    where
      by_type : ((e : ℕ) → Holds (found_at f us e 0 name)) → (t : TypeRef) → Holds (found_by_type (λ e. found_at f us e 0 name) name t)
      by_type deeper (Builtin t) = of_type (built_in t name)
      by_type deeper (OfDocument e) = deeper e.0

      by_object : ((e : ℕ) → Holds (found_at f us e 0 name)) → (x : Option ObjectNames) → object_in us u o ≡ x → Holds (found_by (λ e. found_at f us e 0 name) (λ e. cells_at f us e 0) u o name x)
      by_object deeper None i = of_type (built_in no.QtObject name)
      by_object deeper (Some x) i =
          of_both (found_by_type (λ e. found_at f us e 0 name) name x.base)
          (option_map (raised (cells_by_type (λ e. cells_at f us e 0) x.base)) (option_map (meaning_of u o) (under x.names name))) (by_type deeper x.base)
          (of_raised (cells_by_type (λ e. cells_at f us e 0) x.base) (option_map (meaning_of u o) (under x.names name)) (of_object u o name x i (under x.names name) refl))

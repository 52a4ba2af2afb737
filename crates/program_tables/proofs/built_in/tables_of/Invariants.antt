use Rattle.std.proofs.Common.{◌≡◌, take, map}
use Rattle.program_tables.specs.BuiltIn.{table_of}
use Rattle.program_tables.proofs.built_in.tables_of.Given as goal

abbrev pub invariant-types : goal.invariant-types
invariant-types l = l.tables.items ≡ map table_of (take l.type_no-index l.types)

use Rattle.std.proofs.Common.{◌≡◌, ◌++◌, drop, map}
use Rattle.document_imports.specs.Imports.{row_values}
use Rattle.type_uses.specs.Uses.{uses_of}
use Rattle.unit_cycles.specs.Uses.{use_of}
use Rattle.program_types.specs.UsesNamed.{uses_named}
use Rattle.program_types.proofs.uses.uses_in_rows.Given as goal

-- the uses so far, and those of what is left, are all
abbrev pub invariant-written : goal.invariant-written
invariant-written l =
    map use_of l.uses.items ++ uses_named l.program l.here (row_values l.rows) (uses_of (drop l.u-index l.written)) ≡
    uses_named l.program l.here (row_values l.rows) (uses_of l.written)

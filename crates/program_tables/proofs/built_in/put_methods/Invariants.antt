use Rattle.std.proofs.Common.{◌≡◌, drop, map}
use Rattle.program_tables.specs.Putting.{put_all}
use Rattle.program_tables.specs.BuiltIn.{method_entry}
use Rattle.program_tables.proofs.built_in.put_methods.Given as goal

abbrev pub invariant-methods : goal.invariant-methods
invariant-methods l = put_all l.names (map method_entry (drop l.method-index l.methods)) ≡ put_all l.fn.names (map method_entry l.methods)

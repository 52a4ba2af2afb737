use Rattle.std.proofs.Common.{◌≡◌, drop, map}
use Rattle.instance_names.specs.Names.{each_put, pair_of_method}
use Rattle.instance_names.proofs.builtin.put_methods.Given as goal

abbrev pub invariant-methods : goal.invariant-methods
invariant-methods l = each_put l.names (map (pair_of_method l.number l.cells) (drop l.method-index l.methods)) ≡ each_put l.initial.names (map (pair_of_method l.number l.cells) l.methods)

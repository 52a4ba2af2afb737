use Rattle.std.proofs.Common.{◌≡◌, drop}
use Rattle.std.specs.List.{flat_map}
use Rattle.instance_names.specs.Names.{each_put, pairs_of_base}
use Rattle.instance_names.proofs.builtin.put_builtin.Given as goal

abbrev pub invariant-bases : goal.invariant-bases
invariant-bases l = each_put l.names (flat_map (pairs_of_base l.number l.cells) (drop l.base-index l.bases)) ≡ each_put l.initial.names (flat_map (pairs_of_base l.number l.cells) l.bases)

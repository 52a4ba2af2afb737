use Rattle.std.proofs.Common.{◌∙◌, ◌+◌, ◌<◌, ap, sym, drop, length, arith}
use Rattle.pair_table.specs.Pairs.{each_put}
use Rattle.instance_contents.specs.Sources.{sources_of_instance, sources_from}
use Rattle.instance_contents.proofs.LookLemmas.{item_at, sources_more}
use Rattle.instance_contents.proofs.given.give_instances.Goals as goal

pub instances-preserved : goal.instances-preserved
instances-preserved c =
    let t = c.args.tables.now in
    let xs = c.args.instances.now in
    let s = c.index-instances-k.result in
    let k = c.instances.k in
    let less : k < length xs = omega (arith, c.instances-test.true) in
    sources_more t k s (drop (k + 1) xs) c.instances.table c.give_objects.new.table (c.in_ok-give_objects.ensures ∙ ap (λ os. each_put c.instances.table (sources_of_instance t k s os)) c.as_slice.ensures)
    ∙ ap (λ ss. each_put c.instances.table (sources_from t k ss)) (sym (item_at k xs s c.index-instances-k.is less))
    ∙ c.instances.invariant

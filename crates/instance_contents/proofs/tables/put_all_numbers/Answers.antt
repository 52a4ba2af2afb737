use Rattle.std.proofs.Common.{◌∙◌, ◌+◌, ◌<◌, ap, sym, drop, length, arith}
use Rattle.pair_table.specs.Pairs.{each_put}
use Rattle.instance_contents.specs.Filling.{numbers_of, numbers_from}
use Rattle.instance_contents.proofs.LookLemmas.{item_at, numbers_more}
use Rattle.instance_contents.proofs.tables.put_all_numbers.Goals as goal

pub instances-preserved : goal.instances-preserved
instances-preserved c =
    let xs = c.args.instances.now in
    let s = c.index-instances-k.result in
    let k = c.instances.k in
    let less : k < length xs = omega (arith, c.instances-test.true) in
    numbers_more k s (drop (k + 1) xs) c.instances.numbers c.put_numbers.new.numbers (c.in_ok-put_numbers.ensures ∙ ap (λ os. each_put c.instances.numbers (numbers_of k os)) c.as_slice.ensures)
    ∙ ap (λ ss. each_put c.instances.numbers (numbers_from k ss)) (sym (item_at k xs s c.index-instances-k.is less))
    ∙ c.instances.invariant

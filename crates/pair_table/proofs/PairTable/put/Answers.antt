use Rattle.std.proofs.Common.{◌≡◌, ◌∙◌, ap, sym, false}
use Rattle.std.specs.Option.{is_some}
use Rattle.indexmap.specs.IndexMap.{insert_entry}
use Rattle.pair_table.specs.Pairs.{same_pair, under}
use Rattle.pair_table.proofs.TableLemmas.{put_told}
use Rattle.pair_table.proofs.PairTable.put.Goals as goal

pub returns-clause-added : goal.returns-clause-added
returns-clause-added V c =
    let gone : is_some (under c.args.self.now c.args.pair) ≡ false = sym (ap is_some c.find.ensures) ∙ sym c.is_some.ensures ∙ c.if-is_some.false in
    put_told c.args.self.now c.insert.new.self.entries c.args.pair c.args.value
    (c.in-Ok.ensures.entries ∙ ap (λ es. insert_entry same_pair es c.args.pair c.args.value) c.self.view_is) gone

use Rattle.std.proofs.Common.{◌∙◌, sym}
use Rattle.name_table.proofs.TableLemmas.{put_told}
use Rattle.name_table.proofs.NameTable.put.Goals as goal

pub returns-clause-added : goal.returns-clause-added
returns-clause-added V c =
    put_told c.self.inside.entries.entries c.insert.new.self.entries c.in-Ok.units c.args.self.now c.args.name.now c.args.value c.find.result
    c.self.view_is (c.in-Ok.ensures.items ∙ c.units.ensures) c.in-Ok-insert.ensures.entries c.find.ensures (sym c.is_some.ensures ∙ c.if-is_some.false)

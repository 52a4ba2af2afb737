use Rattle.name_table.proofs.TableLemmas.{found_in, not_found_in}
use Rattle.name_table.proofs.NameTable.find.Goals as goal

pub returns-in-Some : goal.returns-in-Some
returns-in-Some V c = found_in c.self.inside.entries.entries c.args.self.now c.args.name.now c.units.result.now c.in-Some.found.now c.self.view_is c.units.ensures c.in-Some.ensures.value

pub returns-in-None : goal.returns-in-None
returns-in-None V c = not_found_in c.self.inside.entries.entries c.args.self.now c.args.name.now c.units.result.now c.self.view_is c.units.ensures c.in-None.ensures.value

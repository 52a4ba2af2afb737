use Rattle.std.proofs.Common.{◌∙◌, arith}
use Rattle.qml_value.proofs.NamingLemmas.{distinct-put}
use Rattle.qml_value.proofs.BuilderLemmas.{puts-told}
use Rattle.qml_value.proofs.builder.FieldsBuilder.put.Goals as goal

pub returns-in_ok-insert-in-Ok-clause-put : goal.returns-in_ok-insert-in-Ok-clause-put
returns-in_ok-insert-in-Ok-clause-put c = (
  puts-told c.self.inside.entries.entries c.insert.new.self.entries c.in-Ok.units c.args.name.now c.args.value c.args.self.now
      (c.in-Ok.ensures.items ∙ c.units.ensures) c.self.view_is c.in_ok-insert-in-Ok.ensures.entries,
  omega arith,
)

pub returns-in_ok-insert-in-Ok-clause-distinct : goal.returns-in_ok-insert-in-Ok-clause-distinct
returns-in_ok-insert-in-Ok-clause-distinct c =
    distinct-put c.args.name.now c.args.value c.args.self.now _
    (puts-told c.self.inside.entries.entries c.insert.new.self.entries c.in-Ok.units c.args.name.now c.args.value c.args.self.now
    (c.in-Ok.ensures.items ∙ c.units.ensures) c.self.view_is c.in_ok-insert-in-Ok.ensures.entries)

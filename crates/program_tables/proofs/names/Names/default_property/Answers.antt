use Rattle.std.proofs.Common.{◌∙◌, ap}
use Rattle.program_tables.specs.Walk.{object_in}
use Rattle.program_tables.proofs.DefaultLemmas.{ends_below}
use Rattle.program_tables.proofs.names.Names.default_property.Goals as goal

pub returns-in-Builtin : goal.returns-in-Builtin
returns-in-Builtin c =
    ends_below c.layers.left c.args.self.now.units.items c.layers.document c.layers.object c.in-Some.entry.now c.in-Builtin.type_no c.built_in_default.result _
    c.layers-test.true (c.in-Some.ensures ∙ ap (λ us. object_in us c.layers.document c.layers.object) c.deref.ensures.value)
    c.in_default-default.is c.in-Builtin.is c.built_in_default.ensures c.layers.invariant

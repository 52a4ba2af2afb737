use Rattle.std.proofs.Common.{◌∙◌, ap}
use Rattle.program_tables.specs.Walk.{object_in}
use Rattle.program_tables.proofs.WalkLemmas.{goes_down, ends_below}
use Rattle.program_tables.proofs.names.Names.meaning.Goals as goal

pub returns-in-Builtin : goal.returns-in-Builtin
returns-in-Builtin c =
    ends_below c.layers.left c.args.self.now.units.items c.layers.document c.layers.object c.args.name.now c.in-Some.entry.now c.in-Builtin.type_no
    c.layers.found c.in_ok-found.found c.in_ok-all-in-Builtin.all _ c.layers-test.true
    (c.in-Some.ensures ∙ ap (λ us. object_in us c.layers.document c.layers.object) c.deref.ensures.value)
    c.in-Builtin.is c.in_ok-found.ensures c.in_ok-all-in-Builtin.ensures c.layers.invariant

pub layers-preserved : goal.layers-preserved
layers-preserved c =
    goes_down c.layers.left c.args.self.now.units.items c.layers.document c.layers.object c.args.name.now c.in-Some.entry.now c.in-Document.unit
    c.layers.found c.in_ok-found.found _ c.layers-test.true
    (c.in-Some.ensures ∙ ap (λ us. object_in us c.layers.document c.layers.object) c.deref.ensures.value)
    c.in-Document.is c.in_ok-found.ensures c.layers.invariant

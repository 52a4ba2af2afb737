use Rattle.std.proofs.Common.{◌∙◌, ap}
use Rattle.program_tables.specs.Types.{base_in}
use Rattle.handled_signals.proofs.LayerLemmas.{goes_down, ends_built_in}
use Rattle.handled_signals.proofs.layers.object_layers.Goals as goal

pub returns-in-Builtin : goal.returns-in-Builtin
returns-in-Builtin c =
    ends_built_in c.layers.left c.args.names.now.units.items c.layers.document c.layers.object c.layers.objects.items c.push.new.self c.base_at.result c.in-Builtin.type_no _
    c.layers-test.true c.in_ok-push.ensures.items (c.base_at.ensures ∙ ap (λ z. base_in z c.layers.document c.layers.object) c.deref.ensures.value) c.in-Builtin.is c.layers.invariant

pub layers-preserved : goal.layers-preserved
layers-preserved c =
    goes_down c.layers.left c.args.names.now.units.items c.layers.document c.layers.object c.layers.objects.items c.push.new.self.items c.base_at.result c.in-Document.unit _
    c.layers-test.true c.in_ok-push.ensures.items (c.base_at.ensures ∙ ap (λ z. base_in z c.layers.document c.layers.object) c.deref.ensures.value) c.in-Document.is c.layers.invariant

use Rattle.std.proofs.Common.{◌∙◌, ap, sym}
use Rattle.program_names.specs.Layers.{same_ref}
use Rattle.program_tables.specs.Types.{base_in}
use Rattle.program_tables.proofs.TypeLemmas.{goes_to_base, ends_built_in}
use Rattle.program_tables.proofs.names.Names.is_a.Goals as goal

pub returns-in-Builtin : goal.returns-in-Builtin
returns-in-Builtin c =
    ends_built_in c.types.left c.args.self.now.units.items c.args.wanted c.types.base c.in-Builtin.type_no c.stands_on.result _ c.in-Builtin.is c.stands_on.ensures c.types.invariant

pub types-preserved : goal.types-preserved
types-preserved c =
    goes_to_base c.types.left c.args.self.now.units.items c.args.wanted c.types.base c.base_at-base-in-Document.result c.in-Document.unit _ c.types-test.true c.in-Document.is
    (sym c.if-same_ref.false ∙ c.same_ref.ensures ∙ ap (same_ref c.args.wanted) (sym c.in-Document.is))
    (c.base_at-base-in-Document.ensures ∙ ap (λ us. base_in us c.in-Document.unit.0 0) c.deref-in-Document.ensures.value) c.types.invariant

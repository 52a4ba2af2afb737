use Rattle.std.proofs.Common.{◌∙◌, ap}
use Rattle.name_table.specs.Named.{under}
use Rattle.program_tables.proofs.PutLemmas.{table_got}
use Rattle.program_tables.proofs.built_in.BuiltInNames.find.Goals as goal

pub returns-in-Some : goal.returns-in-Some
returns-in-Some c =
    c.find.ensures ∙
    ap (λ t. under t c.args.name.now)
    (table_got c.args.type_no c.index_of.result c.as_slice.result.now c.in-Some.table.now (c.as_slice.ensures.value ∙ c.self.invariant) c.index_of.ensures c.in-Some.ensures.lookup.1)

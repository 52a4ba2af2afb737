use Rattle.std.proofs.Common.{◌∙◌, ap}
use Rattle.name_table.specs.Named.{put}
use Rattle.program_tables.specs.declared.built_in.BuiltInName.TheVariants as b
use Rattle.program_tables.proofs.PutLemmas.{methods_go_on}
use Rattle.program_tables.proofs.built_in.put_methods.Goals as goal

pub methods-preserved : goal.methods-preserved
methods-preserved c =
    methods_go_on c.args.methods.now c.methods.method-index _ c.methods.names c.put.new.self _ c.methods-test.true
    (c.in_ok-put.ensures.added ∙ ap (λ n. put c.methods.names n b.Method) (c.in_ok-name.ensures ∙ c.name.ensures)) c.methods.invariant

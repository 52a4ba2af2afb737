use Rattle.std.proofs.Common.{◌∙◌, ap}
use Rattle.name_table.specs.Named.{put}
use Rattle.program_tables.specs.declared.built_in.BuiltInName.TheVariants as b
use Rattle.program_tables.proofs.PutLemmas.{signals_go_on}
use Rattle.program_tables.proofs.built_in.put_signals.Goals as goal

pub signals-preserved : goal.signals-preserved
signals-preserved c =
    signals_go_on c.args.type_no c.args.signals.now c.signals.index _ c.signals.names c.put.new.self _ c.signals-test.true
    (c.in_ok-put.ensures.added ∙ ap (λ n. put c.signals.names n (b.Signal c.args.type_no c.signals.index)) c.in_ok-name.ensures) c.signals.invariant

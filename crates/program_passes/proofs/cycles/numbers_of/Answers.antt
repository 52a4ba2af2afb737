use Rattle.std.proofs.Common.{◌∙◌, ap, sym, ◌++◌}
use Rattle.std.specs.Option.{option_to_list}
use Rattle.read_order.specs.Order.{file_of}
use Rattle.program_passes.specs.Passed.{numbers_in}
use Rattle.program_passes.proofs.LoopLemmas.{numbers_step}
use Rattle.program_passes.proofs.cycles.numbers_of.Goals as goal

pub files-preserved : goal.files-preserved
files-preserved c =
    numbers_step c.args.program.now c.files.numbers.items c.push_number.new.numbers.items c.files.at (file_of c.in-Some.file.now) (numbers_in c.args.program.now c.args.program.now) (sym c.in-Some.ensures)
    (c.in_ok-push_number.ensures ∙ ap (λ n. c.files.numbers.items ++ option_to_list n) c.number.ensures) c.files.invariant

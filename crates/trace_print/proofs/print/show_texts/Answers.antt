use Rattle.std.proofs.Common.{◌≡◌, take, codes, arith}
use Rattle.std.proofs.lemmas.Grind.{common_steps}
use Rattle.trace_print.proofs.JoinLemmas.{joined_texts}
use Rattle.trace_print.proofs.print.show_texts.Goals as goal

pub returns : goal.returns
returns c =
    let whole : take c.rest.text-index c.in-Some.rest.now ≡ c.in-Some.rest.now = grind (arith, common_steps) in
    joined_texts (codes " ") c.in-Some.first.now c.in-Some.rest.now c.args.texts.now c.args.out.now c.append.new.self c.rest.out
    (grind (arith, common_steps)) (grind (arith, common_steps)) (rw whole at c.rest.invariant)

use Rattle.std.proofs.Common.{rules}
use Rattle.program_reading.proofs.KnownLemmas.{found_copy}
use Rattle.program_reading.proofs.known.find.Goals as goal

pub returns-in_ok-clone-in-Some-clause-known : goal.returns-in_ok-clone-in-Some-clause-known
returns-in_ok-clone-in-Some-clause-known c =
    found_copy c.args.entries.now.entries c.args.file.now c.in-Some.content.now c.in_ok-clone-in-Some.field-0 c.in-Some.ensures.value (search (c.in_ok-clone-in-Some.ensures.cases, rules))

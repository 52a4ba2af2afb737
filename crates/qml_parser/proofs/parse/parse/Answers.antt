use Rattle.std.proofs.Common.{◌≡◌, ◌+◌, true, length}
use Rattle.qml_parser.specs.Answer.{entry_of}
use Rattle.qml_parser.proofs.Answers.{listing, reads_all, refuses, not_both}
use Rattle.qml_parser.proofs.parse.parse.Goals as goal
use Rattle.qml_parser.proofs.parse.parse.Goals.{else-found-via-then-found+else-count-tokens, else-found-via-else-found}

pub judged-requires : goal.judged-requires
judged-requires c = listing (entry_of c.args.is_script) c.args.tokens.now c.in-Ok.found c.in-Ok.nodes c.in-Ok.count c.if-found.true c.in-Ok.ensures

pub returns-then-count-tokens : goal.returns-then-count-tokens
returns-then-count-tokens c before e q w = reads_all (entry_of c.args.is_script) c.args.tokens.now c.in-Ok.found c.in-Ok.nodes c.in-Ok.count c.judged.result c.if-found.true c.if-count-tokens.true c.in-Ok.ensures c.judged.ensures

pub returns-else-found : goal.returns-else-found
returns-else-found c before e q w =
    let not_all : c.in-Ok.found ≡ true → c.in-Ok.count + 1 ≡ length c.args.tokens.now → ⊥ = elim c.else-found.branch [ else-found-via-then-found+else-count-tokens x ↦ λ f l. x.if-count-tokens.false l | else-found-via-else-found x ↦ λ f l. not_both c.in-Ok.found x.if-found.false f ] in
    refuses (entry_of c.args.is_script) c.args.tokens.now c.in-Ok.found c.in-Ok.nodes c.in-Ok.count c.place_at.result not_all c.in-Ok.ensures c.place_at.ensures before e q w

use Rattle.js_parser.specs.Parse.{entry_of, Lists}
use Rattle.js_parser.proofs.Parses.{listing, answers_tree, answers_syntax, no_memory}
use Rattle.js_parser.proofs.parse.parse.Goals as goal

pub judged-requires : goal.judged-requires
judged-requires c = listing (entry_of c.args.reading) c.split_at.result.1.now c.in-Ok.found c.in-Ok.nodes c.in-Ok.count c.if-found.true c.in-Ok.ensures.0

pub returns-in-Err-clause-answer : goal.returns-in-Err-clause-answer
returns-in-Err-clause-answer c = no_memory Lists (entry_of c.args.reading) c.args.tokens.now c.args.from

pub returns-then-found-clause-answer : goal.returns-then-found-clause-answer
returns-then-found-clause-answer c = answers_tree (entry_of c.args.reading) c.args.tokens.now c.args.from c.split_at.result.1.now c.in-Ok.found c.in-Ok.nodes c.in-Ok.count c.judged.result c.if-found.true c.split_at.ensures.back c.in-Ok.ensures.0 c.judged.ensures

pub returns-else-found-clause-answer : goal.returns-else-found-clause-answer
returns-else-found-clause-answer c = answers_syntax (entry_of c.args.reading) c.args.tokens.now c.args.from c.split_at.result.1.now c.in-Ok.found c.in-Ok.nodes c.in-Ok.count c.place_at.result c.if-found.false c.split_at.ensures.back c.in-Ok.ensures.0 c.place_at.ensures

use Rattle.level_tests.proofs.BracketLemmas.{known}
use Rattle.level_tests.proofs.walk.opens_bracket.Goals as goal

pub returns-in-Some : goal.returns-in-Some
returns-in-Some c =
    let m = rw c.in-Some.is at c.in_ok-opened.ensures.opened in
    known c.args.tree.now c.args.at c.open.new.parts.items c.clear.new.self.items (m.0) c.in-Some.node.now c.is_bracket_node.result c.clear.ensures.items (m.1) c.is_bracket_node.ensures (m.2)

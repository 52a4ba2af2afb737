use Rattle.std.proofs.Common.{sym, ◌∙◌}
use Rattle.first_form.proofs.CutLemmas.{no_mark, found_at, found_pieces, nowhere, nowhere_pieces}
use Rattle.first_form.proofs.pieces.cut_at.Goals as goal

pub returns-then-contains-clause-exact : goal.returns-then-contains-clause-exact
returns-then-contains-clause-exact c = found_at c.args.marks.now c.args.bytes.now c.loop-i.i c.loop-i.invariant c.loop-i-test.true (sym c.contains.ensures.value ∙ c.if-contains.true)

pub returns-then-contains-clause-pieces : goal.returns-then-contains-clause-pieces
returns-then-contains-clause-pieces c = found_pieces c.args.marks.now c.args.bytes.now c.loop-i.i c.loop-i.invariant c.loop-i-test.true (sym c.contains.ensures.value ∙ c.if-contains.true)

pub loop-i-preserved : goal.loop-i-preserved
loop-i-preserved c = no_mark c.args.marks.now c.args.bytes.now c.loop-i.i c.loop-i-test.true (sym c.contains.ensures.value ∙ c.if-contains.false) ∙ c.loop-i.invariant

pub returns-clause-exact : goal.returns-clause-exact
returns-clause-exact c = nowhere c.args.marks.now c.args.bytes.now c.loop-i.i c.loop-i.invariant c.loop-i-test.false

pub returns-clause-pieces : goal.returns-clause-pieces
returns-clause-pieces c = nowhere_pieces c.args.marks.now c.args.bytes.now c.loop-i.i c.loop-i.invariant c.loop-i-test.false

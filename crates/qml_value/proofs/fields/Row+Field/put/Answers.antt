use Rattle.std.proofs.Common.{arith}
use Rattle.qml_value.proofs.NamingLemmas.{puts-set, puts-push, distinct-put}
use Rattle.qml_value.proofs.fields.Row+Field.put.Goals as goal

pub returns-in-Some-clause-put : goal.returns-in-Some-clause-put
returns-in-Some-clause-put c =
    (rw c.set.ensures (puts-set c.args.self.now c.args.name c.args.value c.in-Some.at (rw (c.parts.ensures) at c.in-Some.ensures)), omega arith)

pub returns-in-Some-clause-distinct : goal.returns-in-Some-clause-distinct
returns-in-Some-clause-distinct c =
    distinct-put c.args.name c.args.value c.args.self.now c.set.new.self (rw c.set.ensures (puts-set c.args.self.now c.args.name c.args.value c.in-Some.at (rw (c.parts.ensures) at c.in-Some.ensures)))

pub returns-in_ok-push-in-None-clause-put : goal.returns-in_ok-push-in-None-clause-put
returns-in_ok-push-in-None-clause-put c =
    (rw c.in_ok-push-in-None.ensures.ok (puts-push c.args.self.now c.args.name c.args.value (rw (c.parts.ensures) at c.in-None.ensures)), omega arith)

pub returns-in_ok-push-in-None-clause-distinct : goal.returns-in_ok-push-in-None-clause-distinct
returns-in_ok-push-in-None-clause-distinct c =
    distinct-put c.args.name c.args.value c.args.self.now c.push.new.self
    (rw c.in_ok-push-in-None.ensures.ok (puts-push c.args.self.now c.args.name c.args.value (rw (c.parts.ensures) at c.in-None.ensures)))

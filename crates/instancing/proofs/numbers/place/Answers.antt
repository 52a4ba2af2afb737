use Rattle.std.proofs.Common.{◌≡◌, ◌∙◌, ◌+◌, ◌++◌, ◌∷◌, [], ap, rules, length, arith}
use Rattle.std.proofs.lemmas.Result.{on_ok_weaker}
use Rattle.unit_rows.specs.Seen.{all_seen}
use Rattle.instancing.specs.Stack.{plan_of}
use Rattle.instancing.specs.Frames.{opens, open_of}
use Rattle.instancing.proofs.StackLemmas.{placed_now}
use Rattle.instancing.proofs.numbers.place.Goals as goal

pub returns-clause-ok : goal.returns-clause-ok
returns-clause-ok c =
    let rows = all_seen c.args.units.now in
    let first = c.args.work.now.first in
    let objects = c.args.work.now.objects.items in
    let instances = c.args.work.now.instances.items in
    let more : c.push.new.self.items ≡ objects ++ c.planned-object.result ∷ [] = search rules in
    let long : c.len.result ≡ length objects = omega (arith, c.len.ensures, c.args.work.now.objects.ok) in
    on_ok_weaker c.enter_unless.result (λ e. e ∙ placed_now rows (opens c.args.work.now.frames.items) (opens c.put_back.new.frames.items) (open_of c.args.frame) c.args.o (first + c.len.result) first objects c.push.new.self.items instances c.planned-object.result c.type_at-of_type.result c.in_ok-put_back.ensures more c.planned-object.ensures c.type_at-of_type.ensures (ap (λ n. first + n) long)) (c.enter_unless.ensures (plan_of first c.push.new.self.items instances))

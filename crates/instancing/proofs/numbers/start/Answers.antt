use Rattle.std.proofs.Common.{◌≡◌, ◌∙◌, ◌+◌, ap, refl, false, List, [], ◌∷◌, length, rules}
use Rattle.instance_plans.specs.declared.planned.Planned.{Planned}
use Rattle.unit_rows.specs.Seen.{all_seen}
use Rattle.instancing.specs.Stack.{resumed, begun, plan_of}
use Rattle.instancing.specs.Frames.{opens}
use Rattle.instancing.proofs.StackLemmas.{started}
use Rattle.instancing.proofs.numbers.start.Goals as goal

pub returns-clause-planned : goal.returns-clause-planned
returns-clause-planned c =
    let rows = all_seen c.args.units.now in
    let depth = length c.args.units.now + 1 in
    let first = c.args.first in
    let x : Planned = record { number = first; unit = c.args.unit; object = c.args.object; is_around = false; owner = c.args.owner } in
    let objects : c.push.new.self.items ≡ x ∷ [] = search rules in
    let frames = opens c.enter.new.frames.items in
    let begins : opens c.begin.new.frames.items ≡ begun rows c.args.unit c.args.object first c.args.enclosing depth ∷ [] =
    c.in_ok-begin.ensures ∙ ap (λ fs. begun rows c.args.unit c.args.object first c.args.enclosing depth ∷ opens fs) c.new-frames.ensures.items in
    ap (λ xs. resumed rows frames (plan_of first xs c.new.result.items)) objects
    ∙ ap (λ ys. resumed rows frames (plan_of first (x ∷ []) ys)) c.new.ensures.items
    ∙ c.in_ok-enter.ensures (plan_of first (x ∷ []) [])
    ∙ started c.args.units.now c.args.unit c.args.object first depth c.args.enclosing c.args.owner c.type_at.result (opens c.begin.new.frames.items) refl c.type_at.ensures begins

use Rattle.std.proofs.Common.{◌∙◌, ap, length, [], ◌∷◌, ◌++◌}
use Rattle.name_groups.proofs.GroupLemmas.{first_if_put}
use Rattle.name_groups.proofs.add_first.Goals as goal

pub returns-clause-added : goal.returns-clause-added
returns-clause-added g c =
    first_if_put c.put.result (length c.as_slice-at.result.now) c.args.name.now c.args.value c.args.places.now c.put.new.self c.args.groups.now.items c.push-2.new.self.items
    c.push.new.self (c.in_ok-push.ensures.items ∙ ap (λ z. z ++ c.args.value ∷ []) c.new-group.ensures.items) c.in_ok-push-2.ensures.items (ap length c.as_slice-at.ensures.value) c.put.ensures.added

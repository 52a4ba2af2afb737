use Rattle.std.proofs.Common.{◌≡◌, subst}
use Rattle.std.specs.Prelude.{IfOk}
use Rattle.type_uses.specs.Uses.{uses_of}
use Rattle.type_uses.proofs.MergeLemmas.{all_uses}
use Rattle.type_uses.proofs.uses.type_uses.Goals as goal

pub returns : goal.returns
returns c imports root e =
    subst (λ us. IfOk c.uses_of_rows.result (λ uses. uses_of uses.items ≡ us))
    (all_uses c.args.tree.now c.args.rows.now.objects.items c.args.rows.now.members.items imports root c.requires e) c.uses_of_rows.ensures

use Rattle.std.proofs.Common.{◌∙◌, ap, sym, refl, subst, Some, Option, ℕ}
use Rattle.js_locals.specs.Laid.{laid}
use Rattle.unit_rows.specs.Placed.{AreNamesBehind}
use Rattle.unit_rows.proofs.PartLemmas.{function_placed}
use Rattle.unit_rows.proofs.parts.function_parts.Goals as goal

pub returns : goal.returns
returns c =
    function_placed (laid c.args.tree.now) c.args.at c.in-Some.name c.in-Some-next_part.mark c.in-Some-behind.kind c.in-Some-next_part-2.text c.in-Some-first_part.statements c.in_ok-parameters.parameters.items _
    (c.in-Some.ensures) (c.in-Some-next_part.ensures)
    (subst (λ (o : Option ℕ). AreNamesBehind (laid c.args.tree.now) c.in-Some-next_part.mark c.in_ok-parameters.parameters.items o) c.in-Some-behind.is c.in_ok-parameters.ensures)
    (c.in-Some-next_part-2.ensures) (c.in-Some-first_part.ensures) refl refl refl

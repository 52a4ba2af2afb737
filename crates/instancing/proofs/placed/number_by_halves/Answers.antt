use Rattle.std.proofs.Common.{◌≡◌, ◌∷◌, ◌++◌, ◌<◌, ap, sym, ◌∙◌, arith}
use Rattle.instance_plans.specs.Numbers.{number_in}
use Rattle.instancing.specs.Ascending.{Ascends}
use Rattle.instancing.proofs.AscendingLemmas.{ascends-front, ascends-behind, among-front, among-behind, among-here}
use Rattle.instancing.proofs.placed.number_by_halves.Goals as goal

pub returns-then-at-o : goal.returns-then-at-o
returns-then-at-o c =
    let whole : Ascends (c.in-Some.front.now ++ (c.in-Some.at ∷ c.in-Some.behind.now)) = rw (c.in-Some.ensures) at c.halves.invariant.ascends in
    sym (among-here c.in-Some.front.now c.in-Some.at c.in-Some.behind.now c.args.o whole c.if-at-o.true) ∙ ap (λ xs. number_in xs c.args.o) (sym c.in-Some.ensures) ∙ c.halves.invariant.found

pub halves-preserved-then-o-at : goal.halves-preserved-then-o-at
halves-preserved-then-o-at c =
    let whole : Ascends (c.in-Some.front.now ++ (c.in-Some.at ∷ c.in-Some.behind.now)) = rw (c.in-Some.ensures) at c.halves.invariant.ascends in
    record {
      ascends = ascends-front c.in-Some.front.now c.in-Some.at c.in-Some.behind.now whole;
      found = sym (among-front c.in-Some.front.now c.in-Some.at c.in-Some.behind.now c.args.o whole c.if-o-at.true) ∙ ap (λ xs. number_in xs c.args.o) (sym c.in-Some.ensures) ∙ c.halves.invariant.found;
    }

pub halves-preserved : goal.halves-preserved
halves-preserved c =
    let whole : Ascends (c.in-Some.front.now ++ (c.in-Some.at ∷ c.in-Some.behind.now)) = rw (c.in-Some.ensures) at c.halves.invariant.ascends in
    let above : c.in-Some.at.0 < c.args.o = omega (arith, c.if-at-o.false, c.if-o-at.false) in
    record {
      ascends = ascends-behind c.in-Some.front.now c.in-Some.at c.in-Some.behind.now whole;
      found = sym (among-behind c.in-Some.front.now c.in-Some.at c.in-Some.behind.now c.args.o whole above) ∙ ap (λ xs. number_in xs c.args.o) (sym c.in-Some.ensures) ∙ c.halves.invariant.found;
    }

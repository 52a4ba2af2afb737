use Rattle.std.proofs.Common.{◌∷◌, ◌++◌, ap, sym, ◌∙◌}
use Rattle.qml_value.specs.Scrubbing.{is_among, Ascends}
use Rattle.qml_value.proofs.GoneLemmas.{ascends-front, ascends-behind, among-front, among-behind, among-here, strictly}
use Rattle.qml_value.proofs.gone.is_one_by_halves.Goals as goal

pub returns-then-eq : goal.returns-then-eq
returns-then-eq c =
    sym (among-here c.in-Some.front.now c.in-Some.other c.in-Some.behind.now c.args.number (sym c.eq.ensures ∙ c.if-eq.true)) ∙ ap (λ xs. is_among xs c.args.number) (sym c.in-Some.ensures) ∙ c.halves.invariant.found

pub halves-preserved-then-number-other : goal.halves-preserved-then-number-other
halves-preserved-then-number-other c =
    let whole : Ascends (c.in-Some.front.now ++ (c.in-Some.other ∷ c.in-Some.behind.now)) = rw (c.in-Some.ensures) at c.halves.invariant.ascends in
    record {
      ascends = ascends-front c.in-Some.front.now c.in-Some.other c.in-Some.behind.now whole;
      found = sym (among-front c.in-Some.front.now c.in-Some.other c.in-Some.behind.now c.args.number whole c.if-number-other.true) ∙ ap (λ xs. is_among xs c.args.number) (sym c.in-Some.ensures) ∙ c.halves.invariant.found;
    }

pub halves-preserved : goal.halves-preserved
halves-preserved c =
    let whole : Ascends (c.in-Some.front.now ++ (c.in-Some.other ∷ c.in-Some.behind.now)) = rw (c.in-Some.ensures) at c.halves.invariant.ascends in
    record {
      ascends = ascends-behind c.in-Some.front.now c.in-Some.other c.in-Some.behind.now whole;
      found = sym (among-behind c.in-Some.front.now c.in-Some.other c.in-Some.behind.now c.args.number whole (strictly _ _ (sym c.eq.ensures ∙ c.if-eq.false) c.if-number-other.false)) ∙ ap (λ xs. is_among xs c.args.number) (sym c.in-Some.ensures) ∙ c.halves.invariant.found;
    }

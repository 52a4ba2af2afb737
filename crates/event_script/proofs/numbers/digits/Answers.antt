use Rattle.std.proofs.Common.{rules, ◌∙◌, ◌+◌, ◌*◌}
use Rattle.std.specs.Str.{chars}
use Rattle.event_script.proofs.NumberLemmas.{digit_on, all_on}
use Rattle.event_script.proofs.numbers.digits.Goals as goal

pub loop-first-preserved : goal.loop-first-preserved
loop-first-preserved c =
    let known = c.loop-first.invariant in (
      search rules,
      (
        10 * known.1.0 + c.in_ok-digit.digit,
        c.with_digit-value.ensures known.1.0 known.1.1,
        known.1.2 ∙ digit_on (chars c.loop-first.rest.now) (chars c.in-Some.behind.now) c.in-Some.first known.1.0 c.in_ok-digit.digit c.in-Some.ensures.value c.in_ok-digit.ensures.value.1,
      ),
      known.2 ∙ all_on (chars c.loop-first.rest.now) (chars c.in-Some.behind.now) c.in-Some.first c.in-Some.ensures.value c.in_ok-digit.ensures.value.0,
    )

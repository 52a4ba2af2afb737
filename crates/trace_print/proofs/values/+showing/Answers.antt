use Rattle.std.proofs.Common.{◌≡◌, take, codes, arith}
use Rattle.std.proofs.lemmas.Grind.{common_steps}
use Rattle.trace_print.specs.Shown.{shown, shown_field}
use Rattle.trace_print.proofs.JoinLemmas.{joined}
use Rattle.trace_print.proofs.ShownLemmas.{shown-list, shown-fields}
use Rattle.trace_print.proofs.values.+showing.Goals as goal

pub show_all_fields-returns : goal.show_all_fields-returns
show_all_fields-returns t c =
    let whole : take c.rest.field-index c.in-Some.rest.now ≡ c.in-Some.rest.now = grind (arith, common_steps) in
    joined (codes ", ") shown_field c.in-Some.first.now c.in-Some.rest.now c.args.fields.now c.args.out.now c.show_field.new.out c.rest.out
    (grind (arith, common_steps)) (grind (arith, common_steps)) (rw whole at c.rest.invariant)

pub show_value-returns-in-List : goal.show_value-returns-in-List
show_value-returns-in-List t c = rw (c.in-List.is, shown-list, ← c.parts.ensures) c.show_list.ensures

pub show_value-returns-in-Fields : goal.show_value-returns-in-Fields
show_value-returns-in-Fields t c = rw (c.in-Fields.is, shown-fields, ← c.parts-in-Fields.ensures) c.show_fields.ensures

pub show_values-returns : goal.show_values-returns
show_values-returns t c =
    let whole : take c.rest.value-index c.in-Some.rest.now ≡ c.in-Some.rest.now = grind (arith, common_steps) in
    joined (codes ", ") shown c.in-Some.first.now c.in-Some.rest.now c.args.values.now c.args.out.now c.show_value.new.out c.rest.out
    (grind (arith, common_steps)) (grind (arith, common_steps)) (rw whole at c.rest.invariant)

use Rattle.std.proofs.Common.{◌≡◌, ◌++◌, codes, take}
use Rattle.std.specs.List.{flat_map}
use Rattle.trace_print.specs.Shown.{shown, shown_field}
use Rattle.trace_print.proofs.values.+showing.Given as goal

abbrev pub invariant-show_all_fields-rest : goal.invariant-show_all_fields-rest
invariant-show_all_fields-rest l = l.out ≡ l.initial.out ++ flat_map (λ field. codes ", " ++ shown_field field) (take l.field-index l.rest)

abbrev pub invariant-show_values-rest : goal.invariant-show_values-rest
invariant-show_values-rest l = l.out ≡ l.initial.out ++ flat_map (λ value. codes ", " ++ shown value) (take l.value-index l.rest)

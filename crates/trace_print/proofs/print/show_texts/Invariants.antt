use Rattle.std.proofs.Common.{◌≡◌, ◌++◌, codes, take}
use Rattle.std.specs.List.{flat_map}
use Rattle.trace_print.proofs.print.show_texts.Given as goal

abbrev pub invariant-rest : goal.invariant-rest
invariant-rest l = l.out ≡ l.initial.out ++ flat_map (λ text. codes " " ++ text) (take l.text-index l.rest)

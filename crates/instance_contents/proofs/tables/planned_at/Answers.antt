use Rattle.std.proofs.Common.{◌≡◌, ◌∙◌, ◌+◌, ◌-◌, ap, sym, arith}
use Rattle.std.specs.List.{slice_get}
use Rattle.instance_contents.proofs.PlaceLemmas.{none_before, at_place}
use Rattle.instance_contents.proofs.tables.planned_at.Goals as goal

pub returns-then-number-tables : goal.returns-then-number-tables
returns-then-number-tables c = sym (none_before c.args.tables.now.first c.args.number c.args.tables.now.objects.items c.requires.numbered c.if-number-tables.true)

pub returns : goal.returns
returns c =
    let there : c.args.number ≡ c.args.tables.now.first + (c.args.number - c.args.tables.now.first) = omega (arith, c.if-number-tables.false) in
    c.object_at.ensures ∙ ap (λ xs. slice_get xs (c.args.number - c.args.tables.now.first)) c.as_slice.ensures.value ∙ sym (at_place c.args.tables.now.first c.args.number (c.args.number - c.args.tables.now.first) c.args.tables.now.objects.items c.requires.numbered there)

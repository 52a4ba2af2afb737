use Rattle.qml_syntax.specs.Places.{behind}
use Rattle.value_reading.proofs.TokenLemmas.{own_told, part_told, none_told}
use Rattle.value_reading.proofs.descending.step.Goals as goal

pub returns-in-Some : goal.returns-in-Some
returns-in-Some c lists = own_told c.args.tree.now c.args.at c.own_at.result c.in-Some.place c.own_at.ensures c.in-Some.is

pub returns-in-Some-first : goal.returns-in-Some-first
returns-in-Some-first c lists =
    part_told c.args.tree.now c.args.at c.in-Some-first.part (behind c.args.tree.now c.in-Some-first.part) c.own_at.result lists c.own_at.ensures c.in-None.is c.in-Some-first.ensures

pub returns-in-None-first : goal.returns-in-None-first
returns-in-None-first c lists = none_told c.args.tree.now c.args.at c.own_at.result lists c.own_at.ensures c.in-None.is c.in-None-first.ensures

use Rattle.std.proofs.Common.{sym}
use Rattle.event_script.proofs.VerbLemmas.{spells, spells_none}
use Rattle.event_script.specs.declared.kinds.Verb.TheVariants as verb
use Rattle.event_script.proofs.kinds.find_verb.Goals as goal

pub returns-then-eq : goal.returns-then-eq
returns-then-eq c = spells c.args.word.now verb.Do (sym c.if-eq.ensures)

pub returns-then-eq-2 : goal.returns-then-eq-2
returns-then-eq-2 c = spells c.args.word.now verb.Print (sym c.if-eq-2.ensures)

pub returns-then-eq-3 : goal.returns-then-eq-3
returns-then-eq-3 c = spells c.args.word.now verb.Advance (sym c.if-eq-3.ensures)

pub returns-then-eq-4 : goal.returns-then-eq-4
returns-then-eq-4 c = spells c.args.word.now verb.Tick (sym c.if-eq-4.ensures)

pub returns : goal.returns
returns c = spells_none c.args.word.now c.utf8.word (sym c.if-eq.ensures) (sym c.if-eq-2.ensures) (sym c.if-eq-3.ensures) (sym c.if-eq-4.ensures)

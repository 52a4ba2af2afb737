use Rattle.std.proofs.Common.{◌∙◌, ap, [], arith}
use Rattle.pair_table.specs.Pairs.{each_put}
use Rattle.instance_contents.specs.Filling.{roots_from, numbers_from}
use Rattle.instance_contents.proofs.TableLemmas.{roots_stand, numbers_stand}
use Rattle.instance_contents.proofs.tables.tables_of.Goals as goal

pub returns-clause-stands : goal.returns-clause-stands
returns-clause-stands c = record {
  few = omega (arith, c.len.ensures, c.if-len.false, c.reverse.new.self.ok);
  numbered = c.requires;
  roots = roots_stand c.reverse.new.self.items c.in_ok-roots.roots (c.in_ok-roots.ensures ∙ ap (λ ss. each_put [] (roots_from 0 ss)) c.as_slice.ensures.value);
  numbers = numbers_stand c.reverse.new.self.items c.in_ok-numbers.numbers (c.in_ok-numbers.ensures ∙ ap (λ ss. each_put [] (numbers_from 0 ss)) c.as_slice-2.ensures.value);
}

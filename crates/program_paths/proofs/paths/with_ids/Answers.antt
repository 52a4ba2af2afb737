use Rattle.std.proofs.Common.{subst, refl}
use Rattle.path_ends.specs.Known.{KnowsAll}
use Rattle.program_paths.proofs.paths.with_ids.Goals as goal

pub returns : goal.returns
returns c =
    let us = c.args.names.now.units.items in
    let ends = c.in_ok-ends.ends.items in
    record {
      same = refl;
      told = c.in_ok-aliases.ensures;
      known = subst (λ ids. KnowsAll us ids c.in_ok-aliases.aliases.items ends) c.deref.ensures.value
          (subst (λ all. KnowsAll us c.deref.result.now all ends) c.deref-2.ensures.value c.in_ok-ends.ensures);
    }

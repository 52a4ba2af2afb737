use Rattle.std.proofs.Common.{◌≡◌, ◌∙◌, [], ◌∷◌, ◌++◌, ◌+◌, sym, subst, drop}
use Rattle.read_order.specs.Order.{file_of}
use Rattle.program_passes.specs.UsesOfUnits.{uses_of_files, rows_in}
use Rattle.program_passes.proofs.LoopLemmas.{pushed, rows_step}
use Rattle.program_passes.proofs.uses.uses_of_all.Goals as goal
use Rattle.type_search.proofs.KeepsLemmas.{keeps_on}

pub returns-then-is_err-clause-real : goal.returns-then-is_err-clause-real
returns-then-is_err-clause-real g c = keeps_on c.files.invariant.real c.in-Ok.ensures.real

pub returns-in-Err-clause-real : goal.returns-in-Err-clause-real
returns-in-Err-clause-real g c = keeps_on c.files.invariant.real c.in-Err.ensures.real

pub files-preserved : goal.files-preserved
files-preserved g c = record {
  whole = λ sources h.
      subst (λ rs. rows_in rs ++ uses_of_files c.args.program.now sources (drop (c.files.at + 1) c.args.program.now) ≡ uses_of_files c.args.program.now sources c.args.program.now)
      (sym (pushed c.push.result c.push.new.self.items (c.files.rows.items ++ c.in-Ok.uses ∷ []) c.files.rows.items (sym c.is_err.ensures.value ∙ c.if-is_err.false) c.push.ensures.items))
      (rows_step c.args.program.now sources c.files.rows.items c.in-Ok.uses c.files.at (file_of c.in-Some.file.now) (uses_of_files c.args.program.now sources c.args.program.now)
      (sym c.in-Some.ensures) (c.in-Ok.ensures.told sources h) (c.files.invariant.whole sources (c.in-Ok.ensures.steady sources h)));
  knows = λ sources h. c.files.invariant.knows sources (c.in-Ok.ensures.steady sources h);
  real = keeps_on c.files.invariant.real c.in-Ok.ensures.real;
  count = c.in-Ok.ensures.cause.0 ∙ c.files.invariant.count;
  names = c.in-Ok.ensures.cause.1 ∙ c.files.invariant.names;
}

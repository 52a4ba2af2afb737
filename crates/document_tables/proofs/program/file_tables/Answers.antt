use Rattle.std.proofs.Common.{◌∙◌, ◌≤◌, sym, subst}
use Rattle.read_order.specs.Order.{file_of}
use Rattle.document_tables.proofs.ProgramLemmas.{pushed, tables_step, tables_end}
use Rattle.document_tables.proofs.program.file_tables.Goals as goal
use Rattle.type_search.proofs.KeepsLemmas.{keeps_on}

pub returns-then-is_err-clause-steady : goal.returns-then-is_err-clause-steady
returns-then-is_err-clause-steady g c = λ sources h. c.files.invariant.knows sources (c.in-Ok.ensures.steady sources h)

pub returns-then-is_err-clause-real : goal.returns-then-is_err-clause-real
returns-then-is_err-clause-real g c = keeps_on c.files.invariant.real c.in-Ok.ensures.real

pub returns-in-Err-clause-real : goal.returns-in-Err-clause-real
returns-in-Err-clause-real g c = keeps_on c.files.invariant.real c.in-Err.ensures.real

pub files-preserved : goal.files-preserved
files-preserved g c = record {
  whole = λ sources h.
      tables_step c.args.program.now sources c.files.units.items c.push_table.new.units.items c.files.documents.items c.push_table.new.documents.items c.files.at (file_of c.in-Some.file.now)
      c.in-Ok.made.0 c.in-Ok.made.1 (sym c.in-Some.ensures) (c.in-Ok.ensures.told sources h)
      (pushed c.push_table.result _ c.push_table.ensures (sym c.is_err.ensures.value ∙ c.if-is_err.false)).0
      (pushed c.push_table.result _ c.push_table.ensures (sym c.is_err.ensures.value ∙ c.if-is_err.false)).1
      (c.files.invariant.whole sources (c.in-Ok.ensures.steady sources h));
  knows = λ sources h. c.files.invariant.knows sources (c.in-Ok.ensures.steady sources h);
  real = keeps_on c.files.invariant.real c.in-Ok.ensures.real;
  count = c.in-Ok.ensures.cause.0 ∙ c.files.invariant.count;
  names = c.in-Ok.ensures.cause.1 ∙ c.files.invariant.names;
}

pub returns-clause-told : goal.returns-clause-told
returns-clause-told g c = λ sources h.
    tables_end c.args.program.now sources c.files.units.items c.files.documents.items c.files.at
    (subst (λ n. n ≤ c.files.at) c.len-at-end.ensures c.files-test.false) (c.files.invariant.whole sources h)

use Rattle.std.proofs.Common.{◌∙◌, ap, sym}
use Rattle.std.specs.Prelude.{option_map}
use Rattle.program_names.specs.Reading.{read_by}
use Rattle.read_order.specs.Order.{file_of, files_of, read_of}
use Rattle.read_order.proofs.OrderLemmas.{ends, ends_refused, stands_next, ok_of}
use Rattle.read_order.proofs.read_all.Goals as goal

pub returns-in-Ok-None-clause-told : goal.returns-in-Ok-None-clause-told
returns-in-Ok-None-clause-told g c sources a =
    ends (read_by sources) (file_of c.args.root) (files_of c.files.order.keys) c.files.at (c.files.invariant.stands sources a)
    (sym c.in-Ok-None.ensures ∙ ap (option_map file_of) c.in-Ok-None.field-0-is)

pub returns-in-Ok-Refused-clause-told : goal.returns-in-Ok-Refused-clause-told
returns-in-Ok-Refused-clause-told g c sources a =
    ends_refused (read_by sources) (file_of c.args.root) (files_of c.files.order.keys) c.files.at (file_of c.in-Ok-Some.file) c.in-Ok-Refused.fault
    (c.files.invariant.stands sources (c.in-Ok-Refused.ensures.steady sources a))
    (sym c.in-Ok-Some.ensures ∙ ap (option_map file_of) c.in-Ok-Some.field-0-is)
    (sym (c.in-Ok-Refused.ensures.told sources a) ∙ ap read_of c.in-Ok-Refused.field-0-is)

pub files-preserved : goal.files-preserved
files-preserved g c = record {
  stands = λ sources a.
      stands_next (read_by sources) (file_of c.args.root) (files_of c.files.order.keys) (files_of c.put_all_in.new.files.keys) c.files.at (file_of c.in-Ok-Some.file)
      (files_of c.in-Ok-Mentioning.mentions.items) (c.files.invariant.stands sources (c.in-Ok-Mentioning.ensures.steady sources a))
      (sym c.in-Ok-Some.ensures ∙ ap (option_map file_of) c.in-Ok-Some.field-0-is)
      (sym (c.in-Ok-Mentioning.ensures.told sources a) ∙ ap read_of c.in-Ok-Mentioning.field-0-is)
      (ok_of c.put_all_in.result _ c.put_all_in.ensures (sym c.is_err-in-Ok-Mentioning.ensures.value ∙ c.if-is_err-2.false));
  knows = λ sources a. c.files.invariant.knows sources (c.in-Ok-Mentioning.ensures.steady sources a);
  real = record {
    told = c.in-Ok-Mentioning.ensures.real.told ∙ c.files.invariant.real.told;
    allowed = λ folder e sources of before.
        c.in-Ok-Mentioning.ensures.real.allowed folder (e ∙ sym c.files.invariant.real.told) sources of (c.files.invariant.real.allowed folder e sources of before);
  };
  count = c.in-Ok-Mentioning.ensures.cause.0 ∙ c.files.invariant.count;
  names = c.in-Ok-Mentioning.ensures.cause.1 ∙ c.files.invariant.names;
}

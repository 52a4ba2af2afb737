use Rattle.std.proofs.Common.{◌≡◌, List, [], subst}
use Rattle.js_locals.specs.Laid.{laid}
use Rattle.js_fields.specs.declared.entries.Entry.{Entry}
use Rattle.js_frames.specs.Standing.{standing}
use Rattle.js_frames.specs.Moves.{FieldsFrom}
use Rattle.js_steps.proofs.fields.fields_begun.Goals as goal

pub returns : goal.returns
returns c =
    let e : c.new-none.result ≡ [] = cc in (
      c.in-Some.mark,
      c.in-Some.ensures,
      subst (λ (es : List Entry). FieldsFrom (laid c.args.tree.now) es c.in-Some.mark (standing c.args.machine.now) (standing c.fields_from.new.machine) c.in_ok-next.next) e c.in_ok-next.ensures,
    )

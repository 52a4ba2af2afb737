use Rattle.std.proofs.Common.{sym, ◌∙◌, arith, ap, ◌∷◌}
use Rattle.event_script.specs.Lines.{lines_of}
use Rattle.event_script.proofs.LineLemmas.{byte_in_line, line_found, one_line}
use Rattle.event_script.proofs.lines.split_line.Goals as goal

pub bytes-preserved : goal.bytes-preserved
bytes-preserved c = c.bytes.invariant ∙ sym (byte_in_line c.args.bytes.now c.bytes.i c.bytes-test.true (sym c.ends_line.ensures ∙ c.if-ends_line.false))

pub returns-clause-lines : goal.returns-clause-lines
returns-clause-lines c = one_line c.args.bytes.now c.bytes.i (omega (arith, c.bytes-test.false)) c.bytes.invariant

pub returns-then-ends_line-clause-lines : goal.returns-then-ends_line-clause-lines
returns-then-ends_line-clause-lines c =
    line_found c.args.bytes.now c.line_at.result.1.now c.bytes.i c.line_at.ensures.lines c.bytes.invariant ∙ ap (λ z. z ∷ lines_of c.line_at.result.1.now) (sym c.line_at.ensures.front)

use Rattle.std.proofs.Common.{sym, ◌∙◌, rules}
use Rattle.std.specs.Str.{chars}
use Rattle.qml_lexer.specs.Texts.{body}
use Rattle.qml_lexer.proofs.TextLemmas.{no_escape, one_escape, one_other}
use Rattle.qml_lexer.proofs.texts.body.Goals as goal

pub returns-in_default-escape : goal.returns-in_default-escape
returns-in_default-escape c =
    no_escape c.args.quote (body c.args.quote (chars c.args.text.now)) c.loop-first.units (chars c.loop-first.rest.now) c.in-Some.first (chars c.in-Some.behind.now)
    c.loop-first.invariant.1 c.requires c.in-Some.ensures.value c.if-first-eq92.true c.in_default-escape.ensures.value

pub loop-first-preserved-then-first-eq92 : goal.loop-first-preserved-then-first-eq92
loop-first-preserved-then-first-eq92 c = (
  search rules,
  one_escape c.args.quote (body c.args.quote (chars c.args.text.now)) c.loop-first.units c.push_unit.new.self (chars c.loop-first.rest.now) c.in-Some.first c.in-Some-escape.unit
      (chars c.in-Some.behind.now) (chars c.in-Some-escape.after.now) c.loop-first.invariant.1 c.requires c.in-Some.ensures.value c.if-first-eq92.true c.in-Some-escape.ensures.value
      c.in_ok-push_unit.ensures.ok,
)

pub loop-first-preserved : goal.loop-first-preserved
loop-first-preserved c = (
  search rules,
  one_other c.args.quote (body c.args.quote (chars c.args.text.now)) c.loop-first.units c.push_char.new.self (chars c.loop-first.rest.now) c.in-Some.first (chars c.in-Some.behind.now)
      c.loop-first.invariant.1 c.in-Some.ensures.value c.if-first-quote.false (sym c.is_line_end.ensures ∙ c.if-is_line_end.false) c.if-first-eq92.false c.in_ok-push_char.ensures.ok,
)

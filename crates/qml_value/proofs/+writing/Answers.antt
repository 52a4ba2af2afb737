use Rattle.std.proofs.Common.{◌≡◌, take, map, codes, arith}
use Rattle.qml_text.specs.Parts.{join_of}
use Rattle.qml_value.specs.Texts.{element_text, next_element_text}
use Rattle.qml_value.proofs.TextLemmas.{text-list, elements-written, elements-heavy, part-failed}
use Rattle.std.proofs.lemmas.Grind.{common_steps}
use Rattle.qml_value.proofs.+writing.Goals as goal

pub value::Value::write_text-returns-in-List : goal.value::Value::write_text-returns-in-List
value::Value::write_text-returns-in-List t c = rw (c.in-List.is, text-list, ← c.parts.ensures) c.write_elements.ensures

pub text::write_elements-returns-in_err-write_next_element : goal.text::write_elements-returns-in_err-write_next_element
text::write_elements-returns-in_err-write_next_element t c =
    part-failed c.args.text.now (next_element_text c.value-item.result) c.rest.text (join_of (codes ",") (map element_text c.args.values.now)) c.write_next_element.new.text
    c.in_err-write_next_element.field-0.0 c.from_residual-in_err-write_next_element.result c.from_residual-in_err-write_next_element.ensures
    (λ heavy. elements-heavy c.in-Some.first.now c.in-Some.rest.now c.args.values.now c.args.text.now c.write_element.new.text c.rest.text c.rest.value-index
    c.value-item.result (grind (arith, common_steps)) (grind (arith, common_steps)) c.rest.invariant.0 c.rest-test.true c.value-item.is heavy)
    c.in_err-write_next_element.ensures

pub text::write_elements-returns : goal.text::write_elements-returns
text::write_elements-returns t c =
    let whole : take c.rest.value-index c.in-Some.rest.now ≡ c.in-Some.rest.now = grind (arith, common_steps) in (
      elements-written c.in-Some.first.now c.in-Some.rest.now c.args.values.now c.args.text.now c.write_element.new.text c.rest.text
          (grind (arith, common_steps)) (grind (arith, common_steps)) (rw whole at c.rest.invariant.0),
      c.rest.invariant.1,
    )

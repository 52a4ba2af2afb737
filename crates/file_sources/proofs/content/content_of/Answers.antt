use Rattle.std.proofs.Common.{◌≡◌, true, false, length, arith}
use Rattle.std.specs.Prelude.{nat_lt}
use Rattle.std.proofs.lemmas.Bool.Decides.{nat_tests}
use Rattle.file_sources.proofs.ContentLemmas.{whole_content}
use Rattle.file_sources.proofs.content.content_of.Goals as goal

pub returns-then-is_script : goal.returns-then-is_script
returns-then-is_script c =
    let few : nat_lt 4194304 (length c.args.bytes.now) ≡ false = grind (arith, nat_tests) in
    whole_content c.args.is_script true c.args.bytes.now c.in-Ok.tokens.items c.deref.result.now c.script_of.result c.if-is_script.true few c.in-Ok.ensures.answer
    c.deref.ensures.value c.script_of.ensures

pub returns-in-Ok : goal.returns-in-Ok
returns-in-Ok c =
    let few : nat_lt 4194304 (length c.args.bytes.now) ≡ false = grind (arith, nat_tests) in
    whole_content c.args.is_script false c.args.bytes.now c.in-Ok.tokens.items c.deref-else-is_script.result.now c.document_of.result c.if-is_script.false few
    c.in-Ok.ensures.answer c.deref-else-is_script.ensures.value c.document_of.ensures

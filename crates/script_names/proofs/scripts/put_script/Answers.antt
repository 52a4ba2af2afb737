use Rattle.std.proofs.Common.{◌∙◌, sym}
use Rattle.document_imports.specs.Imports.{row_value}
use Rattle.script_names.proofs.ScriptLemmas.{one_put}
use Rattle.script_names.proofs.scripts.put_script.Goals as goal

pub returns-in_ok-put-in-Some-2 : goal.returns-in_ok-put-in-Some-2
returns-in_ok-put-in-Some-2 c =
    one_put c.args.files.now (row_value c.args.import.now) c.args.names.now c.put.new.self c.in-Some.qualifier c.in-Some-2.number
    c.in-Some.is (sym c.in-Some-2.is ∙ c.in_ok-number.ensures) c.in_ok-put-in-Some-2.ensures.added

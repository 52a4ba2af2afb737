use Rattle.std.proofs.Common.{rules}
use Rattle.script_names.proofs.ScriptLemmas.{one_more}
use Rattle.script_names.proofs.scripts.script_names.Goals as goal

pub imports-preserved : goal.imports-preserved
imports-preserved c =
    one_more c.args.files.now c.args.imports.now c.imports.left.now c.in-Some.front.now c.in-Some.last.now c.imports.names c.put_script.new.names
    c.imports.invariant (search (c.in-Some.ensures.cases, rules)) c.in_ok-put_script.ensures

use Rattle.std.proofs.Common.{sym}
use Rattle.tree_settling.proofs.ConvertLemmas.{converts_ok, converts_bad}
use Rattle.tree_settling.proofs.evaluate.convert_value.Goals as goal

pub returns-in-Ok : goal.returns-in-Ok
returns-in-Ok g c =
    let answered = rw (c.types_named.ensures, c.in-Ok.is) at c.convert.ensures in
    sym (converts_ok (g.N.Lookup.types c.args.lookup.now) c.args.kind.now c.args.v c.in-Ok.w answered)

pub returns-in-Err-BadKind : goal.returns-in-Err-BadKind
returns-in-Err-BadKind g c =
    let answered = rw (c.types_named.ensures, c.in-Err-BadKind.is, c.in-Err-BadKind.field-0-is) at c.convert.ensures in
    sym (converts_bad (g.N.Lookup.types c.args.lookup.now) c.args.kind.now c.args.v c.in-Err-BadKind.field-0-0 answered)

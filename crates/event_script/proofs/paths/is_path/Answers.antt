use Rattle.event_script.proofs.PathLemmas.{starts, goes_on, smaller}
use Rattle.event_script.proofs.paths.is_path.Goals as goal

pub names-init : goal.names-init
names-init c =
    (c.behind_name-left.utf8, starts c.args.text.now c.front_name.result.now c.behind_name-left.result.now (c.is_name.ensures.yes c.if-not-is_name.false) c.front_name.ensures c.behind_name-left.ensures)

pub names-smaller : goal.names-smaller
names-smaller c = smaller c.names.left.now c.in-Some.rest.now c.behind_name-left-in-Some.result.now _ c.in-Some.ensures.value c.behind_name-left-in-Some.ensures

pub names-preserved : goal.names-preserved
names-preserved c = (
  c.behind_name-left-in-Some.utf8,
  goes_on c.args.text.now c.names.left.now c.in-Some.rest.now c.front_name-in-Some.result.now c.behind_name-left-in-Some.result.now _ c.in-Some.ensures.value c.names.invariant.1
      (c.is_name-in-Some.ensures.yes c.if-not-is_name-2.false) c.front_name-in-Some.ensures c.behind_name-left-in-Some.ensures,
)

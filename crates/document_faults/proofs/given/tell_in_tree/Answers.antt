use Rattle.std.proofs.Common.{sym, subst}
use Rattle.program_names.specs.Loaded.{unit_at}
use Rattle.program_names.specs.ComponentRoots.{roots_of}
use Rattle.property_faults.specs.Given.{AllGiven}
use Rattle.document_faults.proofs.given.tell_in_tree.Goals as goal

pub returns : goal.returns
returns c p x h are made e same =
    c.tell_members.ensures p x h e same
    (subst (λ gs. AllGiven p (roots_of p) c.args.document gs (unit_at p c.args.document).rows) (sym c.deref.ensures.value) (c.in_ok-given.ensures p x h are made e))

use Rattle.std.proofs.Common.{sym, ◌∙◌, ap, List}
use Rattle.first_form.specs.declared.members.Member.{Member}
use Rattle.first_form.specs.Document.{names_of}
use Rattle.first_form.specs.Names.{cell_of}
use Rattle.first_form.proofs.MapLemmas.{cell_of-entries}
use Rattle.first_form.proofs.members.Program.cell.Goals as goal

pub returns-in-Some : goal.returns-in-Some
returns-in-Some c =
    sym c.in-Some.is ∙ c.get_index_of.ensures.index ∙ cell_of-entries c.self.inside.members.entries c.args.name.now
    ∙ ap (λ (members : List Member). cell_of (names_of members) c.args.name.now) c.self.view_is

pub returns-in-None : goal.returns-in-None
returns-in-None c =
    sym c.in-None.is ∙ c.get_index_of.ensures.index ∙ cell_of-entries c.self.inside.members.entries c.args.name.now
    ∙ ap (λ (members : List Member). cell_of (names_of members) c.args.name.now) c.self.view_is

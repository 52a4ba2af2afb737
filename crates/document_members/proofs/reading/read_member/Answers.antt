use Rattle.std.proofs.Common.{◌∙◌, ap, ◌++◌}
use Rattle.qml_syntax.specs.Places.{places_of}
use Rattle.document_members.proofs.ReadLemmas.{reads}
use Rattle.document_members.proofs.reading.read_member.Goals as goal

pub returns : goal.returns
returns c =
    reads c.args.tree.now c.args.at c.open.new.parts.items c.form_at-form.result c.in_ok-member.member c.root-root.ensures.listing
    (c.in_ok-_node.ensures.exact ∙ ap (λ ps. ps ++ places_of c.args.tree.now c.args.at) c.clear.ensures.items) c.form_at-form.ensures c.in_ok-member.ensures

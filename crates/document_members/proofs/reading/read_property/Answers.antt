use Rattle.document_members.proofs.ReadLemmas.{property_says}
use Rattle.document_members.proofs.reading.read_property.Goals as goal

pub returns : goal.returns
returns c =
    property_says c.args.tree.now c.args.parts.now.items c.pop_place-value.new.parts.items c.pop_name.new.parts.items c.pop_place-kind.new.parts.items c.args.place c.args.adjective
    c.pop_place-value.result c.pop_place-kind.result c.in_ok-name.name c.pop_place-value.ensures c.in_ok-name.ensures c.pop_place-kind.ensures

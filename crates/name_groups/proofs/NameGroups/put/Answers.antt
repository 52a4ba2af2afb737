use Rattle.std.proofs.Common.{◌∙◌, sym}
use Rattle.name_groups.proofs.GroupLemmas.{apart_if_first, put_if_added, put_if_first}
use Rattle.name_groups.proofs.NameGroups.put.Goals as goal

pub invariant_of-self-in-None : goal.invariant_of-self-in-None
invariant_of-self-in-None g c =
    apart_if_first c.add_first.result c.args.name.now c.args.value c.self.inside.places c.add_first.new.places c.self.inside.groups.items c.add_first.new.groups.items
    c.self.invariant (sym c.find-place.ensures ∙ c.in-None.is) c.add_first.ensures.added c.add_first.ensures.kept

pub returns-in-Some : goal.returns-in-Some
returns-in-Some g c =
    put_if_added c.add.result c.in-Some.at c.args.name.now c.args.value c.self.inside.places c.self.inside.groups.items c.add.new.groups.items c.args.self.now
    c.self.invariant (sym c.find-place.ensures ∙ c.in-Some.is) c.self.view_is c.add.ensures.added

pub returns-in-None : goal.returns-in-None
returns-in-None g c =
    put_if_first c.add_first.result c.args.name.now c.args.value c.self.inside.places c.add_first.new.places c.self.inside.groups.items c.add_first.new.groups.items c.args.self.now
    c.self.invariant (sym c.find-place.ensures ∙ c.in-None.is) c.self.view_is c.add_first.ensures.added

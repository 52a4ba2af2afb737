use Rattle.std.proofs.Common.{◌∙◌, ap, sym, subst, Some, ◌<◌, if◌then◌else◌, map, [], ◌∷◌, ◌++◌}
use Rattle.qml_scope.specs.Shapes.{Stored, same_object, types_among, ToldUpTo, told_pair}
use Rattle.qml_scope.proofs.ShapeLemmas.{types_updated, on_ok_there, told_last}
use Rattle.qml_scope.proofs.shapes.Shapes.tell_in_room.Goals as goal

pub returns-clause-told : goal.returns-clause-told
returns-clause-told c =
    let there = on_ok_there c.insert.result (c.insert.ensures.succeeds (subst (λ (k : Stored). 0 < k.room) (sym c.self.view_is) c.requires)) c.insert.ensures.updates in (
      ap (λ (k : Stored). k.known.instances) c.self.view_is,
      λ p. types_updated c.self.inside.told.entries c.insert.new.self.entries c.args.o (Some c.args.types) there.0 p ∙ ap (λ (k : Stored). if same_object c.args.o p then c.args.types.items else types_among k.known.told p) c.self.view_is,
    )

pub returns-clause-last : goal.returns-clause-last
returns-clause-last c =
    let there = on_ok_there c.insert.result (c.insert.ensures.succeeds (subst (λ (k : Stored). 0 < k.room) (sym c.self.view_is) c.requires)) c.insert.ensures.entries in
    λ n up above. ap (map told_pair) there
    ∙ told_last n c.self.inside.told.entries c.args.o c.args.types (subst (λ (k : Stored). ToldUpTo n k.known.told) (sym c.self.view_is) up) above
    ∙ ap (λ (k : Stored). k.known.told ++ (c.args.o, c.args.types.items) ∷ []) c.self.view_is

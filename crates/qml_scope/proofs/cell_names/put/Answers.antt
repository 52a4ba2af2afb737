use Rattle.std.proofs.Common.{◌≡◌, ◌∙◌, sym, ap, is_some, false}
use Rattle.qml_scope.specs.CellNames.{place_told}
use Rattle.qml_scope.proofs.ShapeLemmas.{on_ok_there}
use Rattle.qml_scope.proofs.CellNameLemmas.{put_new}
use Rattle.qml_scope.proofs.cell_names.put.Goals as goal

pub returns : goal.returns
returns c = λ t.
    let gone : is_some (place_told c.args.places.now.entries c.args.c) ≡ false = ap is_some (sym c.place_of.ensures) ∙ sym c.is_some.ensures ∙ c.if-is_some.false in
    let there = on_ok_there c.insert.result (sym c.is_ok.ensures.value ∙ t) c.insert.ensures.updates in
    put_new c.args.places.now.entries c.insert.new.self.entries c.args.c c.args.p gone (λ q. there.0 (q.object, q.place))

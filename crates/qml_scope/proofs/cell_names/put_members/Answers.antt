use Rattle.std.proofs.Common.{◌≡◌, ◌<◌, ◌+◌, ◌∙◌, ap, sym, refl, not, take, add-one, length, slice_get, Some, Bool, true, cond, nat_eq, if◌then◌else◌, arith}
use Rattle.std.proofs.lemmas.Option.{slice_get_read}
use Rattle.std.specs.declared.option.Option.TheVariants.{None}
use Rattle.qml_base.specs.declared.numbers.ObjNo.{ObjNo}
use Rattle.qml_base.specs.declared.numbers.CellNo.{CellNo}
use Rattle.qml_scope.specs.Shapes.{stands_among}
use Rattle.qml_scope.specs.CellNames.{member_place, own_name_place}
use Rattle.qml_scope.proofs.CellNameLemmas.{more_both, stands_next, cond_or, first_next}
use Rattle.qml_scope.proofs.cell_names.put_members.Goals as goal

pub loop-j-preserved : goal.loop-j-preserved
loop-j-preserved c =
    let es = c.args.members.now in
    let j = c.loop-j.j in
    let e = c.index-members-j.result in
    let inside : j < length es = omega arith in
    let at : slice_get es j ≡ Some e = slice_get_read es (length es) j e refl inside c.index-members-j.is in
    let first : c.in-Ok.first ≡ not (stands_among (take j es) e.object) = c.in-Ok.ensures.added ∙ ap not (c.loop-j.invariant.seen e.object) in
    record {
      told = more_both c.args.places.now.entries c.loop-j.places.entries c.put_first.new.places.entries
          (λ q. member_place c.args.n 0 q (take j es))
          (λ q. if c.in-Ok.first then own_name_place c.args.n j q e else None)
          (λ q. member_place c.args.n 0 q (take (j + 1) es))
          (λ (q : CellNo). first_next c.args.n j q es e c.in-Ok.first at first)
          c.loop-j.invariant.told (c.put_first.ensures c.if-not-put_first.false);
      seen = λ (o : ObjNo). c.in-Ok.ensures.updates.0 o ∙ ap (λ (b : Bool). cond (nat_eq e.object.0 o.0) true b) (c.loop-j.invariant.seen o) ∙ cond_or (nat_eq e.object.0 o.0) (stands_among (take j es) o) ∙ sym (stands_next es j e o at) ∙ ap (λ n. stands_among (take n es) o) (sym (add-one j));
    }

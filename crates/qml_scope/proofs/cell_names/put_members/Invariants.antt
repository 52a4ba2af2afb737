use Rattle.std.proofs.Common.{◌≡◌, take, nat_eq}
use Rattle.qml_base.specs.declared.numbers.ObjNo.{ObjNo}
use Rattle.indexmap.specs.IndexSet.{contains}
use Rattle.qml_scope.specs.Shapes.{stands_among}
use Rattle.qml_scope.specs.CellNames.{TellsMore, member_place}
use Rattle.qml_scope.proofs.cell_names.put_members.Given as goal

abbrev pub invariant-loop-j : goal.invariant-loop-j
invariant-loop-j l = record {
  told : TellsMore l.initial.places.entries l.places.entries (λ c. member_place l.n 0 c (take l.j l.members));
  seen : (o : ObjNo) → contains (λ (a b : ObjNo). nat_eq a.0 b.0) l.seen o ≡ stands_among (take l.j l.members) o;
}

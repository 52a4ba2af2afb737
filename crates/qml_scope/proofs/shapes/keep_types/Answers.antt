use Rattle.std.proofs.Common.{◌∙◌, ap, rules, map, subst, sym, not}
use Rattle.std.specs.declared.alloc.Global.{Global}
use Rattle.std.specs.declared.vec.Vec.{Vec}
use Rattle.qml_base.specs.declared.numbers.ObjNo.{ObjNo}
use Rattle.qml_types.specs.declared.kind.TypeRef.{TypeRef}
use Rattle.qml_value.specs.Scrubbing.{is_among}
use Rattle.indexmap.proofs.CallerLemmas.{filter-RetainsPairs}
use Rattle.qml_scope.specs.Shapes.{told_pair, types_among, ToldUpTo}
use Rattle.qml_scope.proofs.ShapeLemmas.{types_left, left_up_to}
use Rattle.qml_scope.proofs.shapes.keep_types.Goals as goal

pub returns-clause-types : goal.returns-clause-types
returns-clause-types c = λ p. ap (λ es. types_among (map told_pair es) p) (filter-RetainsPairs _ _ _ (λ k v b w g call. search rules) _ _ c.retain.ensures.filtered) ∙ types_left c.args.gone.now c.args.told.now.entries p

pub returns-clause-kept : goal.returns-clause-kept
returns-clause-kept c = λ n up. subst (λ es. ToldUpTo n (map told_pair es)) (sym (filter-RetainsPairs _ _ _ (λ k v b w g call. search rules) _ _ c.retain.ensures.filtered)) (left_up_to n (λ (e : ObjNo × Vec TypeRef Global). not (is_among c.args.gone.now e.0)) c.args.told.now.entries up)

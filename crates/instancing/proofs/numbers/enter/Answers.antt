use Rattle.std.proofs.Common.{◌≡◌, ◌∙◌, ◌-◌, suc, arith}
use Rattle.unit_rows.specs.Seen.{all_seen}
use Rattle.instancing.specs.Frames.{opens}
use Rattle.instancing.proofs.StackLemmas.{entered, not_deep, at_builtin}
use Rattle.instancing.proofs.numbers.enter.Goals as goal

pub documents-preserved : goal.documents-preserved
documents-preserved c =
    let deep : suc (c.documents.depth - 1) ≡ c.documents.depth = omega arith in
    λ plan. entered (all_seen c.args.units.now) (opens c.documents.frames.items) (opens c.begin.new.frames.items) (c.documents.depth - 1) c.in-Document.document.0 c.args.number c.documents.depth c.documents.of_type c.type_at-of_type.result plan c.in_ok-begin.ensures c.type_at-of_type.ensures deep c.in-Document.is ∙ c.documents.invariant plan

pub returns : goal.returns
returns c =
    let none : c.documents.depth ≡ 0 = omega arith in
    λ plan. not_deep (all_seen c.args.units.now) (opens c.documents.frames.items) c.documents.depth c.args.number c.documents.of_type plan none ∙ c.documents.invariant plan

pub returns-in_default : goal.returns-in_default
returns-in_default c = λ plan. at_builtin (all_seen c.args.units.now) (opens c.documents.frames.items) c.documents.depth c.args.number c.documents.of_type c.in_default.field-0 plan c.in_default.is ∙ c.documents.invariant plan

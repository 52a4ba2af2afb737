use Rattle.std.proofs.Common.{◌≡◌, ℕ, ◌≤◌, get_or, ◌∙◌, ap, length, reverse, arith}
use Rattle.qml_syntax.specs.Nodes.{Table}
use Rattle.qml_syntax.specs.Starts.{standing}
use Rattle.qml_syntax.specs.Taken.{taking_of, left}
use Rattle.qml_syntax.proofs.PositionLemmas.{next_is}
use Rattle.qml_syntax.proofs.spans.Spans.next_start.Goals as goal

pub returns : goal.returns
returns c =
    let t : Table = reverse c.args.self.now.nodes.items in
    let n : ℕ = length c.args.self.now.starts.items in
    let e : c.len-at.result ≡ n = c.len-at.ensures ∙ c.args.self.now.starts.ok.0 in
    let g : c.index.result.now ≡ get_or c.args.self.now.nodes.items n c.index.result.now = c.index.ensures ∙ ap (λ (v : ℕ). get_or c.args.self.now.nodes.items v c.index.result.now) e in
    let l : c.back_over.result ≤ n = omega (arith, c.back_over.ensures.back) in
    let f : standing t c.back_over.result ≡ left (taking_of c.index.result.now) (standing t n) = c.back_over.ensures.parts ∙ ap (λ z. left z (standing t c.len-at.result)) c.taken_by.ensures ∙ ap (λ (v : ℕ). left (taking_of c.index.result.now) (standing t v)) e in
    next_is c.args.self.now.nodes.items n c.back_over.result c.index.result.now c.requires.started.whole c.requires.more g f l

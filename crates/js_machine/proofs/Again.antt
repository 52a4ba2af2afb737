-- Closing some of what is open, or ending some statements, leaves the whole as it was.
use Rattle.std.proofs.Common.{◌≡◌, ℕ, Bool, true, false, not, ◌||◌, [], ◌∷◌, refl, sym, ap, ◌∙◌, arith, inl, inr}
use Rattle.std.specs.Prelude.{◌==◌, nat_lt, if◌then◌else◌}
use Rattle.std.proofs.lemmas.Bool.{lt-ltb}
use Rattle.qml_syntax.specs.declared.node.Node.TheVariants as node
use Rattle.qml_syntax.specs.Levels.{level, is_bump}
use Rattle.qml_syntax.specs.Nodes.{Table}
use Rattle.js_machine.specs.declared.open.Frame.TheVariants as f
use Rattle.js_machine.specs.Moves.{Open, Closed, closed, close_at, is_over}
use Rattle.js_machine.specs.Kept.{closed_again, over_again}
use Rattle.js_machine.proofs.Tokens.{two_le_level, true_or_false}

pub closed_stays : (i : ℕ) (fs : Open) (s : Table) (t : ℕ) (b : Bool) → closed_again (close_at i fs s t b) ≡ close_at 0 fs s t b
closed_stays i (f.Sign first h p ∷ fs) s t b =
    let P : ℕ → Bool → Closed = λ j v. if v then close_at j fs (node.Signed first h p ∷ s) 13 false else closed s (f.Sign first h p ∷ fs) t b in
    elim (true_or_false (not (is_bump h) || b)) [
      | inl c ↦ ap (λ (v : Bool). closed_again (P i v)) c ∙ closed_stays i fs (node.Signed first h p ∷ s) 13 false ∙ sym (ap (P 0) c)
      | inr c ↦ ap (λ (v : Bool). closed_again (P i v)) c
    ]
closed_stays i (f.Chain first op p ∷ fs) s t b =
    let P : ℕ → Bool → Closed = λ j v. if v then close_at j fs (node.Chain first op p ∷ s) (level op) false else closed s (f.Chain first op p ∷ fs) t b in
    let above : nat_lt 0 (level op) ≡ true = lt-ltb 0 (level op) (omega (arith, two_le_level op)) in
    elim (true_or_false (nat_lt i (level op))) [
      | inl c ↦ ap (λ (v : Bool). closed_again (P i v)) c ∙ closed_stays i fs (node.Chain first op p ∷ s) (level op) false ∙ sym (ap (P 0) above)
      | inr c ↦ ap (λ (v : Bool). closed_again (P i v)) c
    ]
closed_stays i (f.Else ∷ fs) s t b =
    let P : ℕ → Bool → Closed = λ j v. if v then close_at j fs (node.Choose ∷ s) 1 false else closed s (f.Else ∷ fs) t b in
    elim (true_or_false (i == 0)) [
      | inl c ↦ ap (λ (v : Bool). closed_again (P i v)) c ∙ closed_stays i fs (node.Choose ∷ s) 1 false
      | inr c ↦ ap (λ (v : Bool). closed_again (P i v)) c
    ]
closed_stays i (f.Assign ∷ fs) s t b =
    let P : ℕ → Bool → Closed = λ j v. if v then close_at j fs (node.Assign ∷ s) 0 false else closed s (f.Assign ∷ fs) t b in
    elim (true_or_false (i == 0)) [
      | inl c ↦ ap (λ (v : Bool). closed_again (P i v)) c ∙ closed_stays i fs (node.Assign ∷ s) 0 false
      | inr c ↦ ap (λ (v : Bool). closed_again (P i v)) c
    ]
closed_stays i [] s t b = refl
closed_stays i (_ ∷ fs) s t b = refl

pub over_stays : (fs : Open) (s : Table) → over_again (is_over fs s) ≡ is_over fs s
over_stays (f.When p ∷ fs) s = over_stays fs (node.When p ∷ s)
over_stays (f.Either p ∷ fs) s = over_stays fs (node.Either p ∷ s)
over_stays (f.Loop p ∷ fs) s = over_stays fs (node.While p ∷ s)
over_stays (f.For p ∷ fs) s = over_stays fs (node.For p ∷ s)
over_stays [] s = refl
over_stays (_ ∷ fs) s = refl

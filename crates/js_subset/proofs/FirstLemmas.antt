-- The first moves of a text, and those behind them.
use Rattle.std.proofs.Common.{◌≡◌, ℕ, subst, sym}
use Rattle.qml_base.specs.declared.numbers.ExprNo.{ExprNo}
use Rattle.qml_syntax.specs.Nodes.{Table}
use Rattle.js_meaning.specs.Eval.{Code}
use Rattle.js_frames.specs.declared.frames.Here.{Here}
use Rattle.js_frames.specs.declared.frames.Next.{Next}
use Rattle.js_frames.specs.declared.frames.Next.TheVariants as next
use Rattle.js_locals.specs.Laid.{laid}
use Rattle.js_frames.specs.Standing.{Standing}
use Rattle.js_frames.specs.Meant.{World}
use Rattle.js_frames.specs.Stepping.{Goes}
use Rattle.js_frames.proofs.CallLemmas.{within_at}
use Rattle.js_frames.proofs.EndLemmas.{goes_on}
use Rattle.js_progress.specs.Moving.{MovesAt}

pub goes_within : (w : World) (code : Code) (tables : ExprNo → Table) (h : Here) (t : Table) (old : Standing) (z : Next) (new : Standing) (y : Next)
    → t ≡ tables h.text → MovesAt w (laid t) h.home old z new y → Goes w code tables h h old z new y
goes_within w code tables h t old z new y e g = within_at w code tables h t old z new y e g.keeps

pub goes_further : (w : World) (code : Code) (tables : ExprNo → Table) (h g : Here) (at : ℕ) (old : Standing) (z : Next) (mid : Standing) (x : Next) (new : Standing) (y : Next)
    → z ≡ next.Begin at → Goes w code tables h h old (next.Begin at) mid x → Goes w code tables h g mid x new y → Goes w code tables h g old z new y
goes_further w code tables h g at old z mid x new y e a b =
    let P : Next → Type 0 = λ n. Goes w code tables h g old n new y in
    subst P (sym e) (goes_on w code tables h h g old (next.Begin at) mid x new y a b)

pub goes_first : (w : World) (code : Code) (tables : ExprNo → Table) (h : Here) (at : ℕ) (old : Standing) (z : Next) (new : Standing) (y : Next)
    → z ≡ next.Begin at → Goes w code tables h h old (next.Begin at) new y → Goes w code tables h h old z new y
goes_first w code tables h at old z new y e a =
    let P : Next → Type 0 = λ n. Goes w code tables h h old n new y in
    subst P (sym e) a

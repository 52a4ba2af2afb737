-- What a chain of two operands that show numbers is as a whole text.
use Rattle.std.proofs.Common.{◌≡◌, ℕ, List, [], Option, refl, sym, subst}
use Rattle.qml_base.specs.declared.numbers.CellNo.{CellNo}
use Rattle.qml_base.specs.declared.numbers.ExprNo.{ExprNo}
use Rattle.qml_base.specs.declared.names.Home.{Home}
use Rattle.qml_syntax.specs.Nodes.{Table}
use Rattle.qml_syntax.specs.Tree.{Whole}
use Rattle.qml_syntax.specs.Places.{part_at}
use Rattle.qml_value.specs.declared.value.Value.{Value}
use Rattle.evaluation.specs.declared.came.Evaluated.{Evaluated}
use Rattle.evaluation.specs.declared.came.Evaluated.TheVariants as answer
use Rattle.evaluation.specs.Hearing.{Heard, heard, Answers}
use Rattle.js_meaning.specs.Eval.{Code, asks_whole}
use Rattle.js_locals.specs.Laid.{laid}
use Rattle.js_locals.specs.Texts.{StandsAs}
use Rattle.js_frames.specs.declared.frames.Here.{Here}
use Rattle.js_frames.specs.declared.frames.Next.{Next}
use Rattle.js_frames.specs.declared.frames.Next.TheVariants as next
use Rattle.js_frames.specs.Standing.{Standing}
use Rattle.js_frames.specs.Meant.{World}
use Rattle.js_frames.specs.Stepping.{Goes, Starts, EndsAs}
use Rattle.js_frames.proofs.CallLemmas.{within_at}
use Rattle.js_frames.proofs.EndLemmas.{goes_on, ends_here, ends_as, evaluates}
use Rattle.js_direct.specs.Showing.{WholeShows, Notes, noted}
use Rattle.js_direct.proofs.DirectLemmas.{at_first, behind_whole, whole_moves}
use Rattle.js_subset.proofs.FirstLemmas.{goes_within}

-- its evaluation ends with the value, behind the cells that are read
whole_ends : (w : World) (code : Code) (tables : ExprNo → Table) (h : Here) (t : Table) (at : ℕ) (k l : Option CellNo) (v : Value) (rs : List CellNo)
    → t ≡ tables h.text → WholeShows w (laid t) h.home [] at k l v → EndsAs w code tables h [] (next.Begin at) rs (noted l (noted k rs)) (answer.Value v)
whole_ends w code tables h t at k l v rs e s =
    let mid : Standing = behind_whole k l rs [] in
    let first : Goes w code tables h h (at_first rs []) (next.Begin at) mid (next.Back v) =
    goes_within w code tables h t (at_first rs []) (next.Begin at) mid (next.Back v) e (whole_moves w (laid t) h.home at k l v rs [] s) in
    let last : Goes w code tables h h mid (next.Back v) mid (next.Ended (answer.Value v)) =
    within_at w code tables h t mid (next.Back v) mid (next.Ended (answer.Value v)) e (ends_here w (laid t) h.home v mid refl) in
    ends_as w code tables h h [] (next.Begin at) rs mid (next.Ended (answer.Value v)) (answer.Value v)
    (goes_on w code tables h h h (at_first rs []) (next.Begin at) mid (next.Back v) mid (next.Ended (answer.Value v)) first last) refl

-- the answer is the value behind these cells, or that there was no memory
answers_by : (heard_in : Heard) (k l : Option CellNo) (v : Value) (rs new : List CellNo) (o : Evaluated)
    → Answers heard_in rs (noted l (noted k rs)) (answer.Value v) → (o ≡ answer.Value v) × (new ≡ noted l (noted k rs)) → Answers heard_in rs new o
answers_by heard_in k l v rs new o a n =
    subst (λ (u : Evaluated). Answers heard_in rs new u) (sym n.0) (subst (λ (r : List CellNo). Answers heard_in rs r (answer.Value v)) (sym n.1) a)

answers_noted : (heard_in : Heard) (k l : Option CellNo) (v : Value) (rs new : List CellNo) (o : Evaluated)
    → Answers heard_in rs (noted l (noted k rs)) (answer.Value v) → Notes k l v rs new o → Answers heard_in rs new o
answers_noted heard_in k l v rs new (answer.Value u) a n = answers_by heard_in k l v rs new (answer.Value u) a n
answers_noted heard_in k l v rs new (answer.Threw q) a n = answers_by heard_in k l v rs new (answer.Threw q) a n
answers_noted heard_in k l v rs new answer.Loop a n = answers_by heard_in k l v rs new answer.Loop a n
answers_noted heard_in k l v rs new answer.Past a n = answers_by heard_in k l v rs new answer.Past a n
answers_noted heard_in k l v rs new (answer.Need q) a n = answers_by heard_in k l v rs new (answer.Need q) a n
answers_noted heard_in k l v rs new answer.NoMemory a n = tt

pub whole_evaluates : (w : World) (code : Code) (tables : ExprNo → Table) (home : Home) (text : ExprNo) (t : Table) (place at : ℕ) (k l : Option CellNo) (v : Value)
    (rs new : List CellNo) (o : Evaluated) (whole : Whole)
    → t ≡ tables text → StandsAs whole (part_at (tables text) place) → Starts (laid t) place [] (next.Begin at) → WholeShows w (laid t) home [] at k l v → Notes k l v rs new o
    → Answers (heard w.names w.view (asks_whole code home text whole)) rs new o
whole_evaluates w code tables home text t place at k l v rs new o whole e p begun s n =
    let h : Here = record { home = home; text = text; calls = 100 } in
    answers_noted (heard w.names w.view (asks_whole code home text whole)) k l v rs new o
    (evaluates w code tables h t place [] (next.Begin at) rs (noted l (noted k rs)) (answer.Value v) whole e p refl begun (whole_ends w code tables h t at k l v rs e s)) n

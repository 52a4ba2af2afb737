-- The machine from its start to its end.
use Rattle.std.proofs.Common.{◌≡◌, ◌∙◌, ap, sym, subst, refl, ℕ, List, [], ◌∷◌, ◌++◌}
use Rattle.qml_base.specs.declared.numbers.CellNo.{CellNo}
use Rattle.qml_base.specs.declared.numbers.ExprNo.{ExprNo}
use Rattle.qml_base.specs.declared.names.Home.{Home}
use Rattle.qml_syntax.specs.declared.literal.Declaration.{Declaration}
use Rattle.qml_syntax.specs.declared.operators.Prefix.{Prefix}
use Rattle.qml_syntax.specs.Nodes.{Table}
use Rattle.qml_syntax.specs.Tree.{Whole}
use Rattle.qml_syntax.specs.Places.{part_at}
use Rattle.qml_syntax.specs.Opened.{node_of}
use Rattle.js_locals.specs.Texts.{StandsAs}
use Rattle.qml_value.specs.declared.value.Value.{Value}
use Rattle.evaluation.specs.declared.came.Came.TheVariants as came
use Rattle.evaluation.specs.declared.came.Evaluated.{Evaluated}
use Rattle.evaluation.specs.declared.came.Evaluated.TheVariants as answer
use Rattle.evaluation.specs.Hearing.{Heard, heard, Answers}
use Rattle.evaluation.specs.Ask.{Ask}
use Rattle.js_meaning.specs.Eval.{Code, asks_whole}
use Rattle.js_frames.specs.declared.frames.Frame.{Frame}
use Rattle.js_frames.specs.declared.frames.Here.{Here}
use Rattle.js_frames.specs.declared.frames.Before.{Before}
use Rattle.js_frames.specs.declared.frames.Callee.{Callee}
use Rattle.js_frames.specs.declared.frames.Next.{Next}
use Rattle.js_frames.specs.declared.frames.Next.TheVariants as next
use Rattle.js_locals.specs.declared.locals.Local.{Local}
use Rattle.js_locals.specs.Laid.{Laid, laid}
use Rattle.js_frames.specs.Standing.{Standing, with_frame}
use Rattle.js_frames.specs.Telling.{Telling, comes, needs, Told, finished}
use Rattle.js_frames.specs.Meant.{quiet, World, told, hears, after, outcome_of}
use Rattle.js_frames.specs.Moves.{BeginsCounted, Resumes, Steps, Args}
use Rattle.js_frames.specs.Moves as m
use Rattle.js_frames.specs.declared.frames.Spot.{Spot}
use Rattle.js_frames.specs.Spots.{TargetsAt, SpotAt, FoundFor, Assigns}
use Rattle.js_frames.proofs.SpotLemmas.{targets_on, spot_at_on, found_for_on, assigns_on}
use Rattle.js_frames.specs.Statements.{RunsAt, Rests, Declares, Takes}
use Rattle.js_frames.specs.Stepping.{GoesAt, where_of, Goes, IsOutcome, Starts, Ends, EndsAs}
use Rattle.js_frames.proofs.TellingLemmas.{told_to_its_end}
use Rattle.js_frames.proofs.ToldLemmas.{stopped}
use Rattle.js_frames.proofs.BeginLemmas.{begun_on}
use Rattle.js_frames.proofs.StepLemmas.{resumed_on, steps_on, signs_on}
use Rattle.js_frames.proofs.ArgumentLemmas.{args_on}
use Rattle.js_frames.proofs.StatementLemmas.{runs_on, rests_on, declares_on, takes_on}

pub begun_at : (w : World) (c : Laid) (h : Home) (at : ℕ) (old new : Standing) (y : Next) → BeginsCounted w c h at old new y → GoesAt w c h old (next.Begin at) new y
begun_at w c h at old new y b = λ x e. begun_on w c x at old new y (subst (λ (z : Home). BeginsCounted w c z at old new y) (sym e) b)

pub steps_at : (w : World) (c : Laid) (h : Home) (b : Before) (p : ℕ) (old new : Standing) (y : Next) → Steps w c h b p old new y → GoesAt w c h old (next.Step b p) new y
steps_at w c h b p old new y s = λ x e. steps_on w c x b p old new y (subst (λ (z : Home). Steps w c z b p old new y) (sym e) s)

pub signs_at : (w : World) (c : Laid) (h : Home) (g : Prefix) (p : ℕ) (old new : Standing) (y : Next) → m.Signs w c h g (node_of (c.item p)) p old new y → GoesAt w c h old (next.Signs g p) new y
signs_at w c h g p old new y s = λ x e. signs_on w c x g p old new y (subst (λ (z : Home). m.Signs w c z g (node_of (c.item p)) p old new y) (sym e) s)

pub args_at : (w : World) (c : Laid) (h : Home) (f : Callee) (q : ℕ) (old new : Standing) (y : Next) → Args w c f q old new y → GoesAt w c h old (next.Args f q) new y
args_at w c h f q old new y s = λ x e. args_on w c x f q old new y s

pub runs_at : (w : World) (c : Laid) (h : Home) (at : ℕ) (old new : Standing) (y : Next) → RunsAt c at old new y → GoesAt w c h old (next.Run at) new y
runs_at w c h at old new y s = λ x e. runs_on w c x at old new y s

pub rests_at : (w : World) (c : Laid) (h : Home) (p : ℕ) (old new : Standing) (y : Next) → Rests c p old new y → GoesAt w c h old (next.Rest p) new y
rests_at w c h p old new y s = λ x e. rests_on w c x p old new y s

pub vars_at : (w : World) (c : Laid) (h : Home) (k : Declaration) (p : ℕ) (old new : Standing) (y : Next) → Declares c k p old new y → GoesAt w c h old (next.Vars k p) new y
vars_at w c h k p old new y s = λ x e. declares_on w c x k p old new y s

pub targets_at : (w : World) (c : Laid) (h : Home) (at : ℕ) (old new : Standing) (y : Next) → TargetsAt c at old new y → GoesAt w c h old (next.Targets at) new y
targets_at w c h at old new y s = λ x e. targets_on w c x at old new y s

pub spot_at : (w : World) (c : Laid) (h : Home) (at : ℕ) (old new : Standing) (y : Next) → SpotAt w c h at old new y → GoesAt w c h old (next.Spot at) new y
spot_at w c h at old new y s = λ x e. spot_at_on w c x at old new y (subst (λ (z : Home). SpotAt w c z at old new y) (sym e) s)

pub found_for : (w : World) (c : Laid) (h : Home) (f : Frame) (there : Spot) (old new : Standing) (y : Next) → FoundFor w c h f there old new y → GoesAt w c h (with_frame f old) (next.Found there) new y
found_for w c h f there old new y s = λ x e. found_for_on w c x f there old new y (subst (λ (z : Home). FoundFor w c z f there old new y) (sym e) s)

pub assigns_at : (w : World) (c : Laid) (h : Home) (f : Frame) (v : Value) (old new : Standing) (y : Next) → Assigns c f v old new y → GoesAt w c h (with_frame f old) (next.Back v) new y
assigns_at w c h f v old new y s = λ x e. assigns_on w c x f v old new y s

-- a move that takes the latest frame
pub with_latest : (w : World) (c : Laid) (h : Home) (f : Frame) (fs : List Frame) (old rest : Standing) (z : Next) (new : Standing) (y : Next)
    → old.frames ≡ f ∷ fs → rest ≡ record { frames = fs; reads = old.reads; left = old.left; locals = old.locals } → GoesAt w c h (with_frame f rest) z new y → GoesAt w c h old z new y
with_latest w c h f fs old rest z new y e r g =
    subst (λ (gs : List Frame). GoesAt w c h (record { frames = gs; reads = old.reads; left = old.left; locals = old.locals }) z new y) (sym e)
    (subst (λ (m : Standing). GoesAt w c h (with_frame f m) z new y) r g)

pub stays_at : (w : World) (c : Laid) (h : Home) (old : Standing) (y : Next) → GoesAt w c h old y old y
stays_at w c h old y = λ x e. refl

-- a move by what is next, where this is known by another name
pub of_next : (w : World) (c : Laid) (h : Home) (old new : Standing) (z x y : Next) → z ≡ x → GoesAt w c h old x new y → GoesAt w c h old z new y
of_next w c h old new z x y e g = let P : Next → Type 0 = λ n. GoesAt w c h old n new y in subst P (sym e) g

pub resumes_at : (w : World) (c : Laid) (h : Home) (f : Frame) (v : Value) (old new : Standing) (y : Next) → Resumes w c f v old new y → GoesAt w c h (with_frame f old) (next.Back v) new y
resumes_at w c h f v old new y s = λ x e. resumed_on w c x f v old new y s

pub takes_at : (w : World) (c : Laid) (h : Home) (f : Frame) (v : Value) (old new : Standing) (y : Next) → Takes c f v old new y → GoesAt w c h (with_frame f old) (next.Back v) new y
takes_at w c h f v old new y s = λ x e. takes_on w c x f v old new y s

pub ends_here : (w : World) (c : Laid) (h : Home) (v : Value) (old : Standing) → old.frames ≡ [] → GoesAt w c h old (next.Back v) old (next.Ended (answer.Value v))
ends_here w c h v old e = λ x i.
    stopped old.reads (comes (came.Value v))
    ∙ ap (λ fs. told w c x (record { frames = fs; reads = old.reads; left = old.left; locals = old.locals }) (next.Back v)) (sym e)

pub goes_on : (w : World) (code : Code) (tables : ExprNo → Table) (h g k : Here) (old : Standing) (z : Next) (mid : Standing) (y : Next) (new : Standing) (v : Next)
    → Goes w code tables h g old z mid y → Goes w code tables g k mid y new v → Goes w code tables h k old z new v
goes_on w code tables h g k old z mid y new v a b = record { same = λ o. b.same o ∙ a.same o }

pub goes_nowhere : (w : World) (code : Code) (tables : ExprNo → Table) (h : Here) (old : Standing) (z : Next) → Goes w code tables h h old z old z
goes_nowhere w code tables h old z = record { same = λ o. refl }

-- ---- what is answered

pub answered : (h : Told) (old new : List CellNo) (o : Evaluated) → record { outcome = outcome_of o; reads = new } ≡ after old h → Ends h old new o
answered h old new (answer.Value v) e = (sym (ap (λ z. z.outcome) e), ap (λ z. z.reads) e)
answered h old new (answer.Threw q) e = (sym (ap (λ z. z.outcome) e), ap (λ z. z.reads) e)
answered h old new answer.Loop e = (sym (ap (λ z. z.outcome) e), ap (λ z. z.reads) e)
answered h old new answer.Past e = (sym (ap (λ z. z.outcome) e), ap (λ z. z.reads) e)
answered h old new (answer.Need q) e = (sym (ap (λ z. z.outcome) e), ap (λ z. z.reads) e)
answered h old new answer.NoMemory e = tt

abbrev begun_with : List CellNo → List Local → Standing
begun_with rs ls = record { frames = []; reads = rs; left = 100000; locals = ls }

ends_by : (w : World) (code : Code) (tables : ExprNo → Table) (h g : Here) (ls : List Local) (z : Next) (rs : List CellNo) (new : Standing) (o : Evaluated)
    → Goes w code tables h g (begun_with rs ls) z new (next.Ended o) → EndsAs w code tables h ls z rs new.reads o
ends_by w code tables h g ls z rs new o b = record { ends = λ a d e. answered d rs new.reads o (b.same a ∙ e) }

pub no_answer : (w : World) (code : Code) (tables : ExprNo → Table) (h : Here) (ls : List Local) (z : Next) (rs new : List CellNo) → EndsAs w code tables h ls z rs new answer.NoMemory
no_answer w code tables h ls z rs new = record { ends = λ a d e. tt }

pub ends_as : (w : World) (code : Code) (tables : ExprNo → Table) (h g : Here) (ls : List Local) (z : Next) (rs : List CellNo) (new : Standing) (y : Next) (o : Evaluated)
    → Goes w code tables h g (begun_with rs ls) z new y → IsOutcome y o → EndsAs w code tables h ls z rs new.reads o
ends_as w code tables h g ls z rs new y (answer.Value v) b k = ends_by w code tables h g ls z rs new (answer.Value v) (subst (λ (u : Next). Goes w code tables h g (begun_with rs ls) z new u) k b)
ends_as w code tables h g ls z rs new y (answer.Threw q) b k = ends_by w code tables h g ls z rs new (answer.Threw q) (subst (λ (u : Next). Goes w code tables h g (begun_with rs ls) z new u) k b)
ends_as w code tables h g ls z rs new y answer.Loop b k = ends_by w code tables h g ls z rs new answer.Loop (subst (λ (u : Next). Goes w code tables h g (begun_with rs ls) z new u) k b)
ends_as w code tables h g ls z rs new y answer.Past b k = ends_by w code tables h g ls z rs new answer.Past (subst (λ (u : Next). Goes w code tables h g (begun_with rs ls) z new u) k b)
ends_as w code tables h g ls z rs new y (answer.Need q) b k = ends_by w code tables h g ls z rs new (answer.Need q) (subst (λ (u : Next). Goes w code tables h g (begun_with rs ls) z new u) k b)
ends_as w code tables h g ls z rs new y answer.NoMemory b k = no_answer w code tables h ls z rs new.reads

-- what is heard, by what is told
heard_by : (w : World) (t : Told) (h : Heard) (old new : List CellNo) (o : Evaluated) → h ≡ finished w.names w.view t.reads t.outcome → Ends t old new o → Answers h old new o
heard_by w t h old new (answer.Value v) e d = let k : h ≡ finished w.names w.view t.reads (comes (came.Value v)) = e ∙ ap (finished w.names w.view t.reads) d.0 in (ap (λ z. z.outcome) k, d.1 ∙ ap (λ z. old ++ z.reads) (sym k))
heard_by w t h old new (answer.Threw q) e d = let k : h ≡ finished w.names w.view t.reads (comes (came.Threw q)) = e ∙ ap (finished w.names w.view t.reads) d.0 in (ap (λ z. z.outcome) k, d.1 ∙ ap (λ z. old ++ z.reads) (sym k))
heard_by w t h old new answer.Loop e d = let k : h ≡ finished w.names w.view t.reads (comes came.Loop) = e ∙ ap (finished w.names w.view t.reads) d.0 in (ap (λ z. z.outcome) k, d.1 ∙ ap (λ z. old ++ z.reads) (sym k))
heard_by w t h old new answer.Past e d = let k : h ≡ finished w.names w.view t.reads (comes came.Past) = e ∙ ap (finished w.names w.view t.reads) d.0 in (ap (λ z. z.outcome) k, d.1 ∙ ap (λ z. old ++ z.reads) (sym k))
heard_by w t h old new (answer.Need q) e d = let k : h ≡ finished w.names w.view t.reads (needs q) = e ∙ ap (finished w.names w.view t.reads) d.0 in (ap (λ z. z.outcome) k, d.1 ∙ ap (λ z. old ++ z.reads) (sym k))
heard_by w t h old new answer.NoMemory e d = tt

-- a whole evaluation
pub evaluates : (w : World) (code : Code) (tables : ExprNo → Table) (h : Here) (t : Table) (at : ℕ) (ls : List Local) (z : Next) (rs new : List CellNo) (o : Evaluated) (whole : Whole)
    → t ≡ tables h.text → StandsAs whole (part_at (tables h.text) at) → h.calls ≡ 100 → Starts (laid t) at ls z → EndsAs w code tables h ls z rs new o
    → Answers (heard w.names w.view (asks_whole code h.home h.text whole)) rs new o
evaluates w code tables h t at ls z rs new o whole e p n s d =
    let ask : Ask = asks_whole code h.home h.text whole in
    heard_by w (hears w ask) (heard w.names w.view ask) rs new o (told_to_its_end w.names w.view ask)
    (d.ends h.home.author (hears w ask) ((subst (λ (u : Table). Starts (laid u) at ls z) e s).told_as w rs (where_of code tables (quiet h.home.author) h) whole p n refl))

-- Several moves in one: what operands show takes the place of what they would be as nodes that are begun.
use Rattle.std.proofs.Common.{◌≡◌, ◌∙◌, ap, sym, refl, subst, inl, inr, ◌⊎◌, ℕ, ◌+◌, ◌-◌, ◌<◌, ◌≤◌, ℤ, arith, Bool as 𝔹, true, false, List, [], ◌∷◌, Option, Some, None}
use Rattle.qml_base.specs.declared.numbers.CellNo.{CellNo}
use Rattle.qml_base.specs.declared.numbers.ExprNo.{ExprNo}
use Rattle.qml_base.specs.declared.names.Found.{Found}
use Rattle.qml_base.specs.declared.names.Home.{Home}
use Rattle.qml_syntax.specs.Tree.{Links, no_links, a_link}
use Rattle.qml_syntax.specs.declared.operators.Operator.{Operator}
use Rattle.qml_syntax.specs.declared.node.Node.{Node}
use Rattle.qml_syntax.specs.declared.node.Node.TheVariants as node
use Rattle.qml_syntax.specs.Opened.{node_of}
use Rattle.qml_value.specs.declared.value.Value.{Value, Num, Bool}
use Rattle.evaluation.specs.declared.came.Ended.{Ended}
use Rattle.js_meaning.specs.declared.rounding.Rounding.{Rounding}
use Rattle.js_meaning.specs.Operate.{counts, operate}
use Rattle.js_meaning.specs.Looking.{decides}
use Rattle.js_meaning.specs.Locals.{Held, local}
use Rattle.js_meaning.specs.Eval.{if_no_link, operate_by}
use Rattle.js_locals.specs.declared.locals.Local.{Local}
use Rattle.js_locals.specs.Laid.{IsOperand, Laid, is_chain, links_in}
use Rattle.js_locals.specs.Scopes.{scopes_of}
use Rattle.js_frames.specs.declared.frames.Frame.{Frame}
use Rattle.js_frames.specs.declared.frames.Frame.TheVariants as frame
use Rattle.js_frames.specs.declared.frames.Next.{Next}
use Rattle.js_frames.specs.declared.frames.Next.TheVariants as next
use Rattle.js_frames.specs.declared.frames.To.TheVariants as to
use Rattle.js_frames.specs.Standing.{Standing, with_frame, with_read, without_node}
use Rattle.js_frames.specs.Meant.{World}
use Rattle.js_frames.specs.Moves.{FirstPart, next_of, arrive_seen, local_next, OrElse, FoundGives, NameGives, Begins, BeginsChain, BeginsChoice, BeginsCounted, LinkOn, ChooseOn}
use Rattle.js_progress.specs.Work.{Falls, work}
use Rattle.js_progress.specs.Moving.{MovesAt}
use Rattle.js_progress.proofs.MovingLemmas.{begun_at, resumes_at}
use Rattle.js_direct.specs.declared.shown.Shown.{Shown}
use Rattle.js_direct.specs.declared.shown.Shown.TheVariants as shows
use Rattle.js_direct.specs.Showing.{IfShown, IsShown, NameShows, Shows, Operates, Combines, ChainShows, WholeShows, passed, Joins, is_choose}

-- ---- one move behind another

falls_on : (c : Laid) (t : ExprNo → Laid) (a : Standing) (z : Next) (b : Standing) (y : Next) (d : Standing) (u : Next)
    → Falls c t a z b y → Falls c t b y d u → Falls c t a z d u
falls_on c t a z b y d u f g =
    let n : b.left ≤ a.left = f.nodes in
    let m : d.left ≤ b.left = g.nodes in
    record {
      nodes = omega (arith, n, m);
      less = elim f.less [
        | inl l ↦ inl (omega (arith, l, m))
        | inr l ↦ elim g.less [ inl k ↦ inl (omega (arith, k, n)) | inr k ↦ inr (omega (arith, l, k)) ]
      ];
    }

pub then_moves : (w : World) (c : Laid) (h : Home) (a : Standing) (z : Next) (b : Standing) (y : Next) (d : Standing) (u : Next)
    → MovesAt w c h a z b y → MovesAt w c h b y d u → MovesAt w c h a z d u
then_moves w c h a z b y d u f g = record { keeps = λ x e. g.keeps x e ∙ f.keeps x e; falls = λ t. falls_on c t a z b y d u (f.falls t) (g.falls t) }

-- a node that a move comes to is begun
pub then_begun : (w : World) (c : Laid) (h : Home) (a : Standing) (z : Next) (b : Standing) (y : Next) (at : ℕ) (d : Standing) (u : Next)
    → y ≡ next.Begin at → MovesAt w c h a z b y → MovesAt w c h b (next.Begin at) d u → MovesAt w c h a z d u
then_begun w c h a z b y at d u e f g = then_moves w c h a z b (next.Begin at) d u (subst (λ (n : Next). MovesAt w c h a z b n) e f) g

-- ---- what is shown

shown_by : (P : Value → Type 0) (s : Shown) (v : Value) → IfShown s P → IsShown s v → P v
shown_by P (shows.Number z) v p e = subst P (sym e) p
shown_by P (shows.Truth b) v p e = subst P (sym e) p
shown_by P shows.Other v p e = absurd e

pub shown_is : (w : World) (c : Laid) (h : Home) (ls : List Local) (n : Node) (s : Shown) (k : Option CellNo) (v : Value)
    → IfShown s (λ u. Shows w c h ls n k u) → IsShown s v → Shows w c h ls n k v
shown_is w c h ls n s k v p e = shown_by (λ u. Shows w c h ls n k u) s v p e

pub combines : (w : World) (c : Laid) (h : Home) (ls : List Local) (o : Operator) (n m : Node) (s t u : Shown) (x y : ℤ) (k l : Option CellNo) (v : Value)
    → s ≡ shows.Number x → t ≡ shows.Number y
    → IfShown s (λ a. Shows w c h ls n k a) → IfShown t (λ a. Shows w c h ls m l a) → IfShown u (λ a. Operates o (Num x) (Num y) a) → IsShown u v
    → Combines w c h ls o n m k l v
combines w c h ls o n m s t u x y k l v es et ps pt pu eu = (
  Num x,
  Num y,
  subst (λ (z : Shown). IfShown z (λ a. Shows w c h ls n k a)) es ps,
  subst (λ (z : Shown). IfShown z (λ a. Shows w c h ls m l a)) et pt,
  shown_by (λ a. Operates o (Num x) (Num y) a) u v pu eu,
)

-- ---- an operand that is begun

name_shown : (w : World) (c : Laid) (h : Home) (n : List ℕ) (k : Option CellNo) (v : Value) (old : Standing)
    → NameShows w c h old.locals n k v → NameGives w c h to.Back n (without_node old) (passed k old) (next.Back v)
name_shown w c h n None v old s =
    let R : Type 0 = FoundGives w to.Back n (w.names.resolve h n) (without_node old) (passed None old) (next.Back v) in
    subst (λ (z : Option Held). OrElse (local_next to.Back z) R (without_node old) (passed None old) (next.Back v)) (sym s.1) (refl, refl)
name_shown w c h n (Some cell) v old s =
    let R : Found → Type 0 = λ f. FoundGives w to.Back n f (without_node old) (passed (Some cell) old) (next.Back v) in
    let r : R (w.names.resolve h n) = subst R (sym s.1) (refl, ap (λ z. arrive_seen to.Back cell z) (sym s.2)) in
    subst (λ (z : Option Held). OrElse (local_next to.Back z) (R (w.names.resolve h n)) (without_node old) (passed (Some cell) old) (next.Back v)) (sym s.0) r

node_shown : (w : World) (c : Laid) (h : Home) (n : Node) (at : ℕ) (k : Option CellNo) (v : Value) (old : Standing)
    → Shows w c h old.locals n k v → Begins w c h n at (without_node old) (passed k old) (next.Back v)
node_shown w c h (node.Name n p) at k v old s = name_shown w c h n k v old s
node_shown w c h (node.Number m p) at None v old s = (refl, ap (λ e. next_of e) (sym s))
node_shown w c h (node.Number m p) at (Some cell) v old s = absurd s
node_shown w c h (node.Literal l p) at None v old s = (refl, ap (λ e. next.Back e) (sym s))
node_shown w c h (node.Literal l p) at (Some cell) v old s = absurd s
node_shown w c h _ at k v old s = absurd s

shown_begins : (w : World) (c : Laid) (h : Home) (at : ℕ) (k : Option CellNo) (v : Value) (old : Standing)
    → Shows w c h old.locals (node_of (c.item at)) k v → 0 < old.left → MovesAt w c h old (next.Begin at) (passed k old) (next.Back v)
shown_begins w c h at k v old s l = begun_at w c h at old (passed k old) (next.Back v) (inr (l, node_shown w c h (node_of (c.item at)) at k v old s))

pub plain_moves : (w : World) (c : Laid) (h : Home) (at : ℕ) (n : Node) (k : Option CellNo) (v : Value) (old new : Standing) (y : Next)
    → n ≡ node_of (c.item at) → Shows w c h old.locals n k v → 0 < old.left → (new ≡ passed k old) × (y ≡ next.Back v)
    → MovesAt w c h old (next.Begin at) new y
plain_moves w c h at n k v old new y e s l g =
    let m : MovesAt w c h old (next.Begin at) (passed k old) (next.Back v) = shown_begins w c h at k v old (subst (λ (i : Node). Shows w c h old.locals i k v) e s) l in
    subst (λ (i : Standing). MovesAt w c h old (next.Begin at) i y) (sym g.0) (subst (λ (z : Next). MovesAt w c h old (next.Begin at) (passed k old) z) (sym g.1) m)

-- ---- chains

chain_begins : (w : World) (c : Laid) (h : Home) (n : Node) (at : ℕ) (old new : Standing) (y : Next)
    → is_chain n ≡ true → BeginsChain c None at old new y → Begins w c h n at old new y
chain_begins w c h (node.Chain f o p) at old new y e b = b
chain_begins w c h _ at old new y e b = absurd (cc)

not_rounded : (ls : Links) → if_no_link ls None ≡ None
not_rounded no_links = refl
not_rounded (a_link o p d ls) = refl

-- the state of a chain that is begun, behind its first two operands
abbrev behind_pair : Option CellNo → Option CellNo → Standing → Standing
behind_pair k l old = passed l (passed k (without_node old))

pair_on : (w : World) (c : Laid) (h : Home) (at s : ℕ) (k l : Option CellNo) (v : Value) (old : Standing)
    → is_chain (node_of (c.item at)) ≡ true → ChainShows w c h old.locals at s k l v → 2 < old.left
    → MovesAt w c h old (next.Begin at) (with_frame (frame.Chain None at s) (behind_pair k l old)) (next.Back v)
pair_on w c h at s k l v old e g n =
    let q : ℕ = g.0 in
    let o : Operator = g.1 in
    let r : ℕ = g.2 in
    let a : Value = (g.6).0 in
    let b : Value = (g.6).1 in
    let m0 : Standing = without_node old in
    let m1 : Standing = passed k m0 in
    let m2 : Standing = passed l m1 in
    let C : Frame = frame.Chain None at q in
    let R : Frame = frame.Right None o a at s in
    let D : Frame = frame.Chain None at s in
    let begun : MovesAt w c h old (next.Begin at) (with_frame C m0) (next.Begin q) =
    begun_at w c h at old (with_frame C m0) (next.Begin q) (inr (omega (arith, n), chain_begins w c h (node_of (c.item at)) at m0 (with_frame C m0) (next.Begin q) e (q, g.3, (refl, refl)))) in
    let left : MovesAt w c h (with_frame C m0) (next.Begin q) (with_frame C m1) (next.Back a) = shown_begins w c h q k a (with_frame C m0) (g.6).2 (omega (arith, n)) in
    let linked : LinkOn None at s o r a (decides o a) m1 (with_frame R m1) (next.Begin r) = subst (λ (z : 𝔹). LinkOn None at s o r a z m1 (with_frame R m1) (next.Begin r)) (sym ((g.6).4).0) (refl, refl) in
    let on : MovesAt w c h (with_frame C m1) (next.Back a) (with_frame R m1) (next.Begin r) = resumes_at w c h C a m1 (with_frame R m1) (next.Begin r) (inr (s, g.4, (o, r, g.5, linked))) in
    let right : MovesAt w c h (with_frame R m1) (next.Begin r) (with_frame R m2) (next.Back b) = shown_begins w c h r l b (with_frame R m1) (g.6).3 (omega (arith, n)) in
    let by : next.Back v ≡ next_of (operate_by (if_no_link (links_in (node_of (c.item at)) (c.rest s)) None) o a b) =
    ap (λ z. next_of z) (sym ((g.6).4).1) ∙ ap (λ z. next_of (operate_by z o a b)) (sym (not_rounded (links_in (node_of (c.item at)) (c.rest s)))) in
    let done : MovesAt w c h (with_frame R m2) (next.Back b) (with_frame D m2) (next.Back v) = resumes_at w c h R b m2 (with_frame D m2) (next.Back v) (refl, by) in
    then_moves w c h old (next.Begin at) (with_frame C m0) (next.Begin q) (with_frame D m2) (next.Back v) begun
    (then_moves w c h (with_frame C m0) (next.Begin q) (with_frame C m1) (next.Back a) (with_frame D m2) (next.Back v) left
    (then_moves w c h (with_frame C m1) (next.Back a) (with_frame R m1) (next.Begin r) (with_frame D m2) (next.Back v) on
    (then_moves w c h (with_frame R m1) (next.Begin r) (with_frame R m2) (next.Back b) (with_frame D m2) (next.Back v) right done)))

pub pair_moves : (w : World) (c : Laid) (h : Home) (at s : ℕ) (k l : Option CellNo) (v : Value) (old new : Standing) (y : Next)
    → is_chain (node_of (c.item at)) ≡ true → ChainShows w c h old.locals at s k l v → 2 < old.left
    → Joins c at s v (passed l (passed k (without_node old))) new y → MovesAt w c h old (next.Begin at) new y
pair_moves w c h at s k l v old new y e g n j =
    let m : Standing = behind_pair k l old in
    let D : Frame = frame.Chain None at s in
    let f : MovesAt w c h old (next.Begin at) (with_frame D m) (next.Back v) = pair_on w c h at s k l v old e g n in
    elim j [
      | inl i ↦
          (let last : MovesAt w c h (with_frame D m) (next.Back v) m (next.Back v) = resumes_at w c h D v m m (next.Back v) (inl (i.0, (refl, refl))) in
          let all : MovesAt w c h old (next.Begin at) m (next.Back v) = then_moves w c h old (next.Begin at) (with_frame D m) (next.Back v) m (next.Back v) f last in
          subst (λ (u : Standing). MovesAt w c h old (next.Begin at) u y) (sym i.1) (subst (λ (z : Next). MovesAt w c h old (next.Begin at) m z) (sym i.2) all))
      | inr i ↦ subst (λ (u : Standing). MovesAt w c h old (next.Begin at) u y) (sym i.0) (subst (λ (z : Next). MovesAt w c h old (next.Begin at) (with_frame D m) z) (sym i.1) f)
    ]

-- ---- chains of two operands alone

-- what stands where a text begins, and behind a chain of two operands
abbrev pub at_first : List CellNo → List Local → Standing
at_first rs ls = record { frames = []; reads = rs; left = 100000; locals = ls }

abbrev pub behind_whole : Option CellNo → Option CellNo → List CellNo → List Local → Standing
behind_whole k l rs ls = passed l (passed k (without_node (at_first rs ls)))

pub whole_moves : (w : World) (c : Laid) (h : Home) (at : ℕ) (k l : Option CellNo) (v : Value) (rs : List CellNo) (ls : List Local)
    → WholeShows w c h ls at k l v → MovesAt w c h (at_first rs ls) (next.Begin at) (behind_whole k l rs ls) (next.Back v)
whole_moves w c h at k l v rs ls s =
    pair_moves w c h at s.0 k l v (at_first rs ls) (behind_whole k l rs ls) (next.Back v) s.1 s.2 (omega arith) (inl (s.3, refl, refl))

-- ---- choices

choose_begins : (w : World) (c : Laid) (h : Home) (n : Node) (at : ℕ) (old new : Standing) (y : Next)
    → is_choose n ≡ true → BeginsChoice c at old new y → Begins w c h n at old new y
choose_begins w c h node.Choose at old new y e b = b
choose_begins w c h _ at old new y e b = absurd (cc)

pub choice_moves : (w : World) (c : Laid) (h : Home) (at q t : ℕ) (n : Node) (k : Option CellNo) (v : Value) (old new : Standing) (y : Next)
    → is_choose (node_of (c.item at)) ≡ true → FirstPart c at q → FirstPart c q t → n ≡ node_of (c.item t) → Shows w c h old.locals n k v → 1 < old.left
    → ChooseOn c q t (counts v) (passed k (without_node old)) new y → MovesAt w c h old (next.Begin at) new y
choice_moves w c h at q t n k v old new y e f g i s l o =
    let m0 : Standing = without_node old in
    let m1 : Standing = passed k m0 in
    let C : Frame = frame.Choose q t in
    let begun : MovesAt w c h old (next.Begin at) (with_frame C m0) (next.Begin t) =
    begun_at w c h at old (with_frame C m0) (next.Begin t) (inr (omega (arith, l), choose_begins w c h (node_of (c.item at)) at m0 (with_frame C m0) (next.Begin t) e (q, t, f, g, (refl, refl)))) in
    let test : MovesAt w c h (with_frame C m0) (next.Begin t) (with_frame C m1) (next.Back v) =
    shown_begins w c h t k v (with_frame C m0) (subst (λ (j : Node). Shows w c h old.locals j k v) i s) (omega (arith, l)) in
    let on : MovesAt w c h (with_frame C m1) (next.Back v) new y = resumes_at w c h C v m1 new y o in
    then_moves w c h old (next.Begin at) (with_frame C m0) (next.Begin t) new y begun
    (then_moves w c h (with_frame C m0) (next.Begin t) (with_frame C m1) (next.Back v) new y test on)

-- ---- behind a value

pub then_back : (w : World) (c : Laid) (h : Home) (a : Standing) (z : Next) (b : Standing) (y : Next) (v : Value) (d : Standing) (u : Next)
    → y ≡ next.Back v → MovesAt w c h a z b y → MovesAt w c h b (next.Back v) d u → MovesAt w c h a z d u
then_back w c h a z b y v d u e f g = then_moves w c h a z b (next.Back v) d u (subst (λ (n : Next). MovesAt w c h a z b n) e f) g

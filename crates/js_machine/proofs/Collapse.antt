-- What may come behind an expression ends it: open parts close as the whole that they give.
use Rattle.std.proofs.Common.{◌≡◌, ℕ, ◌≤◌, ◌<◌, Bool, true, false, not, ◌||◌, List, [], ◌∷◌, Option, Some, refl, sym, ap, ◌∙◌, arith, suc, subst, inl, inr, ◌⊎◌, eq-eqb}
use Rattle.std.specs.Prelude.{◌==◌, if◌then◌else◌}
use Rattle.std.proofs.lemmas.Bool.{lt-ltb}
use Rattle.qml_base.specs.declared.numbers.Place.{Place}
use Rattle.qml_syntax.specs.declared.token.TokenKind.{TokenKind}
use Rattle.qml_syntax.specs.declared.token.Token.{Token}
use Rattle.qml_syntax.specs.declared.operators.Operator.{Operator}
use Rattle.qml_syntax.specs.declared.operators.Prefix.{Prefix}
use Rattle.qml_syntax.specs.declared.operators.Assignment.{Assignment}
use Rattle.qml_syntax.specs.Tree.{Expr, name, number, text, literal, paren, list, fields, steps, bumped, signed, chain, choose, assign, Step, Steps, no_steps, a_step, Signs, no_signs, a_sign, Links, no_links, a_link, Choices, no_choices, a_choice, Targets, no_targets, a_target}
use Rattle.qml_syntax.specs.Levels.{level, tightness, is_target, is_bump, is_open, last_open}
use Rattle.qml_syntax.specs.Ends.{last_of}
use Rattle.js_machine.specs.Frames.{Sign, Link, Choice, Target, stepped, steps_onto, signed_onto, chain_onto, choose_onto, assign_onto, Frame, in_sign, in_chain, in_else, in_assign, Frames, State, have}
use Rattle.js_machine.specs.Machine.{Role, joins, updates, bumps, question, dot, calls, indexes, colon, closes, shuts, comma, semicolon, brace, other, role_of, ends_line, Held, closed_at, with_operator, with_question, with_colon, with_paren, with_bracket, with_comma, with_semi, with_brace, with_end, on_role, on_have, step, finish, held_whole, go}
use Rattle.js_machine.proofs.Tokens.{two_le_level, level_le_twelve, Stays, ends_no}

-- ---- steps of the whole reading

pub then_go : (s : State) (t : Token) (a : List Token) (next : State) → step s t ≡ Some next → go (t ∷ a) s ≡ go a next
then_go s t a next h = rw h refl

pub same_go : (s s' : State) (rest : List Token) → finish s ≡ finish s' → ((x : Token) (xs : List Token) → rest ≡ x ∷ xs → step s x ≡ step s' x) → go rest s ≡ go rest s'
same_go s s' [] f h = ap (λ e. record { tree = e; rest = [] }) f
same_go s s' (x ∷ xs) f h = rw (f, h x xs refl) refl

-- ---- what may come behind a tree of this tightness, whose end a call may follow or not

abbrev pub EndsAt : ℕ → Role → Type 0
EndsAt n (joins op) = suc (level op) ≤ n
EndsAt n (updates h) = 15 ≤ n
EndsAt n (bumps i) = 15 ≤ n
EndsAt n question = 2 ≤ n
EndsAt n dot = 16 ≤ n
EndsAt n calls = 16 ≤ n
EndsAt n indexes = 16 ≤ n
EndsAt n _ = Unit {0}

abbrev pub EndsBy : ℕ → Bool → Token → Type 0
EndsBy n ready t = (ends_line (last_of ready) t ≡ true) ⊎ EndsAt n (role_of t.what)

abbrev pub Ends : List Token → ℕ → Bool → Type 0
Ends [] n ready = Unit {0}
Ends (t ∷ ts) n ready = EndsBy n ready t

more_at : (m n : ℕ) (r : Role) → m ≤ n → EndsAt m r → EndsAt n r
more_at m n (joins op) h e = omega arith
more_at m n (updates i) h e = omega arith
more_at m n (bumps i) h e = omega arith
more_at m n question h e = omega arith
more_at m n dot h e = omega arith
more_at m n calls h e = omega arith
more_at m n indexes h e = omega arith
more_at m n _ h e = tt

pub more_ends : (rest : List Token) (m n : ℕ) (ready : Bool) → m ≤ n → Ends rest m ready → Ends rest n ready
more_ends [] m n ready h e = tt
more_ends (t ∷ ts) m n ready h (inl e) = inl e
more_ends (t ∷ ts) m n ready h (inr e) = inr (more_at m n (role_of t.what) h e)

-- behind a tree looser than all operators nothing distinguishes
loose_at : (n : ℕ) (r : Role) → EndsAt 1 r → EndsAt n r
loose_at n (joins op) e = absurd (omega (arith, two_le_level op))
loose_at n (updates i) e = absurd (omega arith)
loose_at n (bumps i) e = absurd (omega arith)
loose_at n question e = absurd (omega arith)
loose_at n dot e = absurd (omega arith)
loose_at n calls e = absurd (omega arith)
loose_at n indexes e = absurd (omega arith)
loose_at n _ e = tt

pub loose_ends : (rest : List Token) (m n : ℕ) (ready : Bool) → m ≤ 1 → Ends rest m ready → Ends rest n ready
loose_ends [] m n ready h e = tt
loose_ends (t ∷ ts) m n ready h (inl e) = inl e
loose_ends (t ∷ ts) m n ready h (inr e) = inr (loose_at n (role_of t.what) (more_at m 1 (role_of t.what) h e))

pub ends_kind : (t : Token) (x : TokenKind) (r : Role) (n : ℕ) (ready : Bool) → t.what ≡ x → role_of x ≡ r → EndsAt n r → EndsBy n ready t
ends_kind t x r n ready q s e = let P : Role → Type 0 = λ z. EndsAt n z in inr (subst P (sym (ap role_of q ∙ s)) e)

ends_head : (x : Token) (xs rest : List Token) (n : ℕ) (ready : Bool) → rest ≡ x ∷ xs → Ends rest n ready → EndsBy n ready x
ends_head x xs rest n ready q h = let P : List Token → Type 0 = λ z. Ends z n ready in subst P q h

-- ---- one token behind an expression

pub have_role : (e : Expr) (ss : List Step) (fs : Frames) (t : Token) (r : Role) → ends_line (last_of (is_open (stepped e ss))) t ≡ false → role_of t.what ≡ r → step (have e ss fs) t ≡ on_role e ss fs t r
have_role e ss fs t r x q =
    let P : Bool → Option State = λ v. if v then with_end (closed_at fs 0 (stepped e ss)) t else on_role e ss fs t (role_of t.what) in
    ap P x ∙ ap (on_role e ss fs t) q

pub have_step : (e : Expr) (ss : List Step) (fs : Frames) (t : Token) (x : TokenKind) (r : Role) → t.what ≡ x → Stays x → role_of x ≡ r → step (have e ss fs) t ≡ on_role e ss fs t r
have_step e ss fs t x r q stays s = have_role e ss fs t r (ends_no (last_of (is_open (stepped e ss))) t x q (stays (is_open (stepped e ss)))) (ap role_of q ∙ s)

-- ---- a frame that closes as a whole

pick : (v : Bool) (a a' b b' : Option State) (E : Type 0) → (v ≡ true) ⊎ E → a ≡ a' → (E → b ≡ b') → (if v then a else b) ≡ (if v then a' else b')
pick true a a' b b' E c p q = p
pick false a a' b b' E (inl h) p q = cc
pick false a a' b b' E (inr e) p q = q e

pub Closing : Frame → Expr → Expr → ℕ → Type 0
Closing f e whole n = (fs : Frames) (l : ℕ) → l < n → closed_at (f ∷ fs) l e ≡ closed_at fs l whole

role_same : (f : Frame) (e whole : Expr) (n : ℕ) → Closing f e whole n → 1 ≤ n → n ≤ 13 → (fs : Frames) (t : Token) (r : Role) → EndsAt n r → on_role e [] (f ∷ fs) t r ≡ on_role whole [] fs t r
unfolding Closing
role_same f e whole n c one top fs t (joins op) h = ap (with_operator op t.place) (c fs (level op) (omega arith))
role_same f e whole n c one top fs t (updates i) h = absurd (omega arith)
role_same f e whole n c one top fs t (bumps i) h = absurd (omega arith)
role_same f e whole n c one top fs t question h = ap with_question (c fs 1 (omega arith))
role_same f e whole n c one top fs t dot h = absurd (omega arith)
role_same f e whole n c one top fs t calls h = absurd (omega arith)
role_same f e whole n c one top fs t indexes h = absurd (omega arith)
role_same f e whole n c one top fs t colon h = ap with_colon (c fs 0 (omega arith))
role_same f e whole n c one top fs t closes h = ap with_paren (c fs 0 (omega arith))
role_same f e whole n c one top fs t shuts h = ap with_bracket (c fs 0 (omega arith))
role_same f e whole n c one top fs t comma h = ap with_comma (c fs 0 (omega arith))
role_same f e whole n c one top fs t semicolon h = ap with_semi (c fs 0 (omega arith))
role_same f e whole n c one top fs t brace h = ap (λ (z : Held). with_brace z t) (c fs 0 (omega arith))
role_same f e whole n c one top fs t other h = refl

have_same : (f : Frame) (e whole : Expr) (n : ℕ) → Closing f e whole n → 1 ≤ n → n ≤ 13 → is_open e ≡ is_open whole → (fs : Frames) (t : Token) → EndsBy n (is_open e) t → on_have e [] (f ∷ fs) t ≡ on_have whole [] fs t
unfolding Closing
have_same f e whole n c one top same fs t h =
    let x = pick (ends_line (last_of (is_open e)) t) (with_end (closed_at (f ∷ fs) 0 e) t) (with_end (closed_at fs 0 whole) t) (on_role e [] (f ∷ fs) t (role_of t.what)) (on_role whole [] fs t (role_of t.what)) (EndsAt n (role_of t.what)) h (ap (λ (z : Held). with_end z t) (c fs 0 (omega arith))) (λ g. role_same f e whole n c one top fs t (role_of t.what) g) in
    x ∙ ap (λ (v : Bool). if ends_line (last_of v) t then with_end (closed_at fs 0 whole) t else on_role whole [] fs t (role_of t.what)) same

pub collapse : (f : Frame) (e whole : Expr) (n : ℕ) → Closing f e whole n → 1 ≤ n → n ≤ 13 → is_open e ≡ is_open whole → (fs : Frames) (rest : List Token) → Ends rest n (is_open e) → go rest (have e [] (f ∷ fs)) ≡ go rest (have whole [] fs)
unfolding Closing
collapse f e whole n c one top same fs rest h = same_go _ _ rest (ap held_whole (c fs 0 (omega arith))) (λ x xs q. have_same f e whole n c one top same fs x (ends_head x xs rest n (is_open e) q h))

-- ---- the four frames

pub open_signed : (back : List Sign) (h : Prefix) (p : Place) (ss : Signs) (e : Expr) → is_open (signed_onto back h p ss e) ≡ is_open e
open_signed [] h p ss e = refl
open_signed (s ∷ back) h p ss e = open_signed back s.0 s.1 (a_sign h p ss) e

pub open_chain : (a : Expr) (back : List Link) (op : Operator) (p : Place) (d : Expr) (ls : Links) → is_open (chain_onto a back op p d ls) ≡ last_open (is_open d) ls
open_chain a [] op p d ls = refl
open_chain a (l ∷ back) op p d ls = open_chain a back l.0 l.1 l.2 (a_link op p d ls)

pub open_choose : (back : List Choice) (c e : Expr) (cs : Choices) (d : Expr) → is_open (choose_onto back c e cs d) ≡ is_open d
open_choose [] c e cs d = refl
open_choose (x ∷ back) c e cs d = open_choose back x.0 x.1 (a_choice c e cs) d

pub open_assign : (back : List Target) (t : Expr) (h : Assignment) (p : Place) (ts : Targets) (v : Expr) → is_open (assign_onto back t h p ts v) ≡ is_open v
open_assign [] t h p ts v = refl
open_assign (x ∷ back) t h p ts v = open_assign back x.0 x.1 x.2 (a_target t h p ts) v

pub collapse_sign : (back : List Sign) (h : Prefix) (p : Place) (e : Expr) (fs : Frames) (rest : List Token) → (not (is_bump h) || is_target e) ≡ true → Ends rest 13 (is_open e) → go rest (have e [] (in_sign back h p ∷ fs)) ≡ go rest (have (signed_onto back h p no_signs e) [] fs)
unfolding Closing
collapse_sign back h p e fs rest fit x = collapse (in_sign back h p) e (signed_onto back h p no_signs e) 13 (λ gs l g. rw fit refl) (omega arith) (omega arith) (sym (open_signed back h p no_signs e)) fs rest x

pub collapse_chain : (a : Expr) (back : List Link) (op : Operator) (p : Place) (e : Expr) (fs : Frames) (rest : List Token) → Ends rest (level op) (is_open e) → go rest (have e [] (in_chain a back op p ∷ fs)) ≡ go rest (have (chain_onto a back op p e no_links) [] fs)
unfolding Closing
collapse_chain a back op p e fs rest x = collapse (in_chain a back op p) e (chain_onto a back op p e no_links) (level op) (λ gs l g. rw (lt-ltb l (level op) g) refl) (omega (arith, two_le_level op)) (omega (arith, level_le_twelve op)) (sym (open_chain a back op p e no_links)) fs rest x

below_one : (l : ℕ) → l < 1 → (l == 0) ≡ true
below_one l h = eq-eqb l 0 (omega arith)

pub collapse_else : (back : List Choice) (c d e : Expr) (fs : Frames) (rest : List Token) → Ends rest 1 (is_open e) → go rest (have e [] (in_else back c d ∷ fs)) ≡ go rest (have (choose_onto back c d no_choices e) [] fs)
unfolding Closing
collapse_else back c d e fs rest x = collapse (in_else back c d) e (choose_onto back c d no_choices e) 1 (λ gs l g. rw (below_one l g) refl) (omega arith) (omega arith) (sym (open_choose back c d no_choices e)) fs rest x

pub collapse_assign : (back : List Target) (t : Expr) (h : Assignment) (p : Place) (e : Expr) (fs : Frames) (rest : List Token) → Ends rest 0 (is_open e) → go rest (have e [] (in_assign back t h p ∷ fs)) ≡ go rest (have (assign_onto back t h p no_targets e) [] fs)
unfolding Closing
collapse_assign back t h p e fs rest x = collapse (in_assign back t h p) e (assign_onto back t h p no_targets e) 1 (λ gs l g. rw (below_one l g) refl) (omega arith) (omega arith) (sym (open_assign back t h p no_targets e)) fs rest (loose_ends rest 0 1 (is_open e) (omega arith) x)

-- ---- an expression with steps

steps_tight : (e : Expr) (s : Step) (back : List Step) (ss : Steps) → tightness (steps_onto e s back ss) ≡ 15
steps_tight e s [] ss = refl
steps_tight e s (t ∷ back) ss = steps_tight e t back (a_step s ss)

open_steps : (e : Expr) (s : Step) (back : List Step) (ss : Steps) → is_open (steps_onto e s back ss) ≡ true
open_steps e s [] ss = refl
open_steps e s (t ∷ back) ss = open_steps e t back (a_step s ss)

open_primary : (e : Expr) → tightness e ≡ 16 → is_open e ≡ true
open_primary (name n p) h = refl
open_primary (number n p) h = refl
open_primary (text n p) h = refl
open_primary (literal n p) h = refl
open_primary (paren p e) h = refl
open_primary (list p es c) h = refl
open_primary (fields p fs c) h = refl
open_primary (steps e s ss) h = absurd (omega arith)
open_primary (bumped e i p) h = absurd (omega arith)
open_primary (signed g p ss e) h = absurd (omega arith)
open_primary (chain e op p d ls) h = absurd (omega (arith, level_le_twelve op))
open_primary (choose c e cs d) h = absurd (omega arith)
open_primary (assign t g p ts v) h = absurd (omega arith)

pub open_stepped : (e : Expr) (ss : List Step) → tightness e ≡ 16 → is_open (stepped e ss) ≡ true
open_stepped e [] h = open_primary e h
open_stepped e (s ∷ back) h = open_steps e s back no_steps

pub stepped_tight : (e : Expr) (s : Step) (back : List Step) → tightness (stepped e (s ∷ back)) ≡ 15
stepped_tight e s back = steps_tight e s back no_steps

stepped_role : (e : Expr) (ss : List Step) (fs : Frames) (t : Token) (r : Role) → EndsAt 15 r → on_role e ss fs t r ≡ on_role (stepped e ss) [] fs t r
stepped_role e ss fs t dot h = absurd (omega arith)
stepped_role e ss fs t calls h = absurd (omega arith)
stepped_role e ss fs t indexes h = absurd (omega arith)
stepped_role e ss fs t _ h = refl

pub collapse_steps : (e : Expr) (ss : List Step) (fs : Frames) (rest : List Token) → Ends rest 15 (is_open (stepped e ss)) → go rest (have e ss fs) ≡ go rest (have (stepped e ss) [] fs)
collapse_steps e ss fs rest h = same_go _ _ rest refl (λ x xs q. pick (ends_line (last_of (is_open (stepped e ss))) x) (with_end (closed_at fs 0 (stepped e ss)) x) (with_end (closed_at fs 0 (stepped e ss)) x) (on_role e ss fs x (role_of x.what)) (on_role (stepped e ss) [] fs x (role_of x.what)) (EndsAt 15 (role_of x.what)) (ends_head x xs rest 15 (is_open (stepped e ss)) q h) refl (λ g. stepped_role e ss fs x (role_of x.what) g))

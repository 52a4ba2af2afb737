-- Which trees the innermost frame takes, and how an expression goes on there.
use Rattle.std.proofs.Common.{◌≡◌, ℕ, ◌≤◌, Bool, true, false, not, ◌&&◌, ◌||◌, List, [], ◌∷◌, Some, None, refl, ap, ◌∙◌, arith, le-leb, eq-eqb}
use Rattle.std.specs.Prelude.{nat_le, nat_lt, ◌==◌, if◌then◌else◌}
use Rattle.std.proofs.lemmas.Bool.{leb-true, ne_eqb, le-ltb}
use Rattle.qml_base.specs.declared.numbers.Place.{Place}
use Rattle.qml_syntax.specs.declared.token.TokenKind.TheVariants as k
use Rattle.qml_syntax.specs.declared.mark.Mark.{Mark}
use Rattle.qml_syntax.specs.declared.token.Token.{Token}
use Rattle.qml_syntax.specs.declared.operators.Operator.{Operator}
use Rattle.qml_syntax.specs.declared.operators.Prefix.{Prefix}
use Rattle.qml_syntax.specs.declared.operators.Prefix.TheVariants as g
use Rattle.qml_syntax.specs.declared.operators.Assignment.{Assignment}
use Rattle.qml_syntax.specs.declared.literal.Literal.{Literal}
use Rattle.qml_syntax.specs.declared.literal.Literal.TheVariants as x
use Rattle.qml_syntax.specs.declared.literal.Declaration.{Declaration}
use Rattle.qml_syntax.specs.declared.literal.Declaration.TheVariants as v
use Rattle.qml_syntax.specs.Spelling.{prefix_kind, literal_word, declaration_word, key_kind}
use Rattle.qml_syntax.specs.Tree.{Units, Expr, name, literal, steps}
use Rattle.qml_syntax.specs.Levels.{level, operand, tightness, is_target, is_bump}
use Rattle.js_machine.specs.Frames.{Sign, Link, Field, in_body, in_header, in_sign, in_chain, in_then, in_else, in_assign, in_field, Frames, State, need, have, at_name, expects}
use Rattle.qml_syntax.specs.declared.mark.Mark.TheVariants as m
use Rattle.js_machine.specs.Machine.{takes, held, closed_at, begins_chain, with_operator, with_update, with_question, on_sign, on_need, on_key, on_begin, on_first, is_mark, go}
use Rattle.js_machine.proofs.Tokens.{two_le_level, level_le_twelve, above_level, operand_le_thirteen, both}
use Rattle.js_machine.proofs.Collapse.{then_go}

-- ---- what a frame takes

bump_at_most : (b : Bool) → (if b then 15 else 14) ≤ 15
bump_at_most true = omega arith
bump_at_most false = omega arith

pub bump_at_least : (b : Bool) → 14 ≤ (if b then 15 else 14)
bump_at_least true = omega arith
bump_at_least false = omega arith

pub takes_up : (fs : Frames) (i n : ℕ) → takes fs i ≡ true → i ≤ n → 2 ≤ n → takes fs n ≡ true
takes_up (in_sign back h p ∷ fs) i n t u w = let a : (if is_bump h then 15 else 14) ≤ i = leb-true (if is_bump h then 15 else 14) i t in le-leb (if is_bump h then 15 else 14) n (omega arith)
takes_up (in_chain a back op p ∷ fs) i n t u w = let b : operand op ≤ i = leb-true (operand op) i t in le-leb (operand op) n (omega arith)
takes_up (in_else back c e ∷ fs) i n t u w = ap not (ne_eqb n 1 (λ q. omega arith))
takes_up (in_assign back t h p ∷ fs) i n s u w = le-leb 1 n (omega arith)
takes_up _ i n t u w = t

-- where a primary may stand, so may one with steps, and a prefix but behind another
pub takes_steps : (fs : Frames) → takes fs 16 ≡ true → takes fs 15 ≡ true
takes_steps (in_sign back h p ∷ fs) t = le-leb (if is_bump h then 15 else 14) 15 (bump_at_most (is_bump h))
takes_steps (in_chain a back op p ∷ fs) t = le-leb (operand op) 15 (omega (arith, operand_le_thirteen op))
takes_steps (in_else back c e ∷ fs) t = refl
takes_steps (in_assign back c h p ∷ fs) t = refl
takes_steps _ t = t

pub sign_takes : (h : Prefix) (n : ℕ) (target : Bool) → 14 ≤ n → (target ≡ true → 15 ≤ n) → (not (is_bump h) || target) ≡ true → nat_le (if is_bump h then 15 else 14) n ≡ true
sign_takes h n target a b q = by (is_bump h) q
  where
    by : (c : Bool) → (not c || target) ≡ true → nat_le (if c then 15 else 14) n ≡ true
    by true q = le-leb 15 n (b q)
    by false q = le-leb 14 n a

pub target_tight : (e : Expr) → is_target e ≡ true → 15 ≤ tightness e
target_tight (name n p) h = omega arith
target_tight (steps e s ss) h = omega arith
target_tight _ h = cc

-- ---- an operator begins a chain of its own

stays_at : (fs : Frames) (op : Operator) (e : Expr) → takes fs (level op) ≡ true → closed_at fs (level op) e ≡ held e fs
stays_at (in_sign back h p ∷ fs) op e t = let a : (if is_bump h then 15 else 14) ≤ level op = leb-true (if is_bump h then 15 else 14) (level op) t in absurd (omega (arith, level_le_twelve op, bump_at_least (is_bump h)))
stays_at (in_chain a back h p ∷ fs) op e t =
    let b : operand h ≤ level op = leb-true (operand h) (level op) t in
    let c : nat_lt (level op) (level h) ≡ false = le-ltb (level op) (level h) (omega (arith, above_level h)) in
    rw c refl
stays_at (in_else back c d ∷ fs) op e t = let b : (level op == 0) ≡ false = ne_eqb (level op) 0 (λ q. omega (arith, two_le_level op)) in rw b refl
stays_at (in_assign back c h p ∷ fs) op e t = let b : (level op == 0) ≡ false = ne_eqb (level op) 0 (λ q. omega (arith, two_le_level op)) in rw b refl
stays_at _ op e t = refl

new_chain : (fs : Frames) (op : Operator) (p : Place) (e : Expr) → takes fs (level op) ≡ true → with_operator op p (held e fs) ≡ begins_chain op p e fs
new_chain (in_chain a back h q ∷ fs) op p e t =
    let b : operand h ≤ level op = leb-true (operand h) (level op) t in
    let c : (level h == level op) ≡ false = ne_eqb (level h) (level op) (λ w. omega (arith, above_level h)) in
    rw c refl
new_chain _ op p e t = refl

pub then_operator : (fs : Frames) (op : Operator) (p : Place) (e : Expr) → takes fs (level op) ≡ true → operand op ≤ tightness e → with_operator op p (closed_at fs (level op) e) ≡ Some (need (in_chain e [] op p ∷ fs))
then_operator fs op p e t h =
    let both_hold = both (nat_le (operand op) (tightness e)) (takes fs (level op)) (le-leb (operand op) (tightness e) h) t in
    ap (with_operator op p) (stays_at fs op e t) ∙ new_chain fs op p e t ∙ ap (λ (b : Bool). if b then Some (need (in_chain e [] op p ∷ fs)) else None) both_hold

-- .. or goes on with the chain of its level
pub more_chain : (a : Expr) (back : List Link) (h : Operator) (q : Place) (fs : Frames) (op : Operator) (p : Place) (e : Expr) → level h ≡ level op → with_operator op p (closed_at (in_chain a back h q ∷ fs) (level op) e) ≡ Some (need (in_chain a ((h, q, e) ∷ back) op p ∷ fs))
more_chain a back h q fs op p e s =
    let c : nat_lt (level op) (level h) ≡ false = le-ltb (level op) (level h) (omega arith) in
    let d : (level h == level op) ≡ true = eq-eqb (level h) (level op) s in
    rw (c, d) refl

-- ---- `?`

stays_at_one : (fs : Frames) (e : Expr) → takes fs 1 ≡ true → closed_at fs 1 e ≡ held e fs
stays_at_one (in_sign back h p ∷ fs) e t = let a : (if is_bump h then 15 else 14) ≤ 1 = leb-true (if is_bump h then 15 else 14) 1 t in absurd (omega (arith, bump_at_least (is_bump h)))
stays_at_one (in_chain a back h p ∷ fs) e t = let b : operand h ≤ 1 = leb-true (operand h) 1 t in absurd (omega (arith, above_level h, two_le_level h))
stays_at_one (in_else back c d ∷ fs) e t = cc
stays_at_one (in_assign back c h p ∷ fs) e t = refl
stays_at_one _ e t = refl

new_choice : (fs : Frames) (e : Expr) → takes fs 1 ≡ true → with_question (held e fs) ≡ (if nat_le 2 (tightness e) && takes fs 1 then Some (need (in_then [] e ∷ fs)) else None)
new_choice (in_else back c d ∷ fs) e t = cc
new_choice _ e t = refl

pub then_question : (fs : Frames) (e : Expr) → takes fs 1 ≡ true → 2 ≤ tightness e → with_question (closed_at fs 1 e) ≡ Some (need (in_then [] e ∷ fs))
then_question fs e t h =
    let both_hold = both (nat_le 2 (tightness e)) (takes fs 1) (le-leb 2 (tightness e) h) t in
    ap with_question (stays_at_one fs e t) ∙ new_choice fs e t ∙ ap (λ (b : Bool). if b then Some (need (in_then [] e ∷ fs)) else None) both_hold

-- ---- `=`

new_target : (fs : Frames) (h : Assignment) (p : Place) (e : Expr) → takes fs 0 ≡ true → with_update h p e fs ≡ (if is_target e && takes fs 0 then Some (need (in_assign [] e h p ∷ fs)) else None)
new_target (in_assign back c i q ∷ fs) h p e t = cc
new_target _ h p e t = refl

pub then_update : (fs : Frames) (h : Assignment) (p : Place) (e : Expr) → takes fs 0 ≡ true → is_target e ≡ true → with_update h p e fs ≡ Some (need (in_assign [] e h p ∷ fs))
then_update fs h p e t q = new_target fs h p e t ∙ ap (λ (b : Bool). if b then Some (need (in_assign [] e h p ∷ fs)) else None) (both (is_target e) (takes fs 0) q t)

-- ---- prefixes and words

pub then_sign : (fs : Frames) (h : Prefix) (p : Place) → takes fs 13 ≡ true → on_sign h p fs ≡ Some (need (in_sign [] h p ∷ fs))
then_sign (in_sign back i q ∷ fs) h p t = let a : (if is_bump i then 15 else 14) ≤ 13 = leb-true (if is_bump i then 15 else 14) 13 t in absurd (omega (arith, bump_at_least (is_bump i)))
then_sign _ h p t = refl

pub need_sign : (fs : Frames) (p : Place) (h : Prefix) → on_need fs p (prefix_kind h) ≡ on_sign h p fs
need_sign fs p g.Not = refl
need_sign fs p _ = refl

pub need_literal : (fs : Frames) (p : Place) (f : Literal) → on_need fs p (k.Word (literal_word f)) ≡ Some (have (literal f p) [] fs)
need_literal fs p x.True = refl
need_literal fs p _ = refl

pub key_step : (p : Place) (back : List Field) (fs : Frames) (q : Place) (b : Bool) (n : Units) → on_key p back fs q (key_kind b n) ≡ Some (expects m.Colon (need (in_field p back b n q ∷ fs)))
key_step p back fs q true n = refl
key_step p back fs q false n = refl

pub begin_declaration : (fs : Frames) (p : Place) (d : Declaration) → on_begin fs p (k.Word (declaration_word d)) ≡ Some (at_name in_body p d [] fs)
begin_declaration fs p v.Var = refl
begin_declaration fs p _ = refl

pub first_declaration : (p : Place) (fs : Frames) (q : Place) (d : Declaration) → on_first p fs q (k.Word (declaration_word d)) ≡ Some (at_name (in_header p) q d [] fs)
first_declaration p fs q v.Var = refl
first_declaration p fs q _ = refl

-- ---- a mark that must come

pub expect_go : (x : Mark) (next : State) (t : Token) (a : List Token) → t.what ≡ k.Mark x → is_mark x (k.Mark x) ≡ true → go (t ∷ a) (expects x next) ≡ go a next
expect_go x next t a q h = then_go (expects x next) t a next (ap (λ (b : Bool). if b then Some next else None) (ap (is_mark x) q ∙ h))

pub takes_sign : (fs : Frames) → takes fs 16 ≡ true → ((back : List Sign) (h : Prefix) (p : Place) (gs : Frames) → fs ≡ in_sign back h p ∷ gs → ⊥) → takes fs 13 ≡ true
takes_sign (in_sign back h p ∷ fs) t n = absurd (n back h p fs refl)
takes_sign (in_chain a back op p ∷ fs) t n = le-leb (operand op) 13 (omega (arith, operand_le_thirteen op))
takes_sign (in_else back c e ∷ fs) t n = refl
takes_sign (in_assign back c h p ∷ fs) t n = refl
takes_sign _ t n = t

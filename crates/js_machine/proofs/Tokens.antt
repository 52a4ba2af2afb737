-- What single tokens are to the machine, and facts of the levels.
use Rattle.std.proofs.Common.{◌≡◌, ◌≤◌, Bool, true, false, not, ◌&&◌, ◌||◌, refl, sym, ap, ◌∙◌, arith, suc, subst, inl, inr, ◌⊎◌}
use Rattle.qml_syntax.specs.declared.token.TokenKind.{TokenKind}
use Rattle.qml_syntax.specs.declared.token.TokenKind.TheVariants as k
use Rattle.qml_syntax.specs.declared.mark.Mark.{Mark}
use Rattle.qml_syntax.specs.declared.mark.Mark.TheVariants as m
use Rattle.qml_syntax.specs.declared.word.Word.TheVariants as w
use Rattle.qml_syntax.specs.declared.token.Token.{Token}
use Rattle.qml_syntax.specs.declared.operators.Operator.{Operator}
use Rattle.qml_syntax.specs.declared.operators.Operator.TheVariants as o
use Rattle.qml_syntax.specs.declared.operators.Assignment.{Assignment}
use Rattle.qml_syntax.specs.declared.operators.Assignment.TheVariants as u
use Rattle.qml_syntax.specs.declared.operators.Postfix.{Postfix}
use Rattle.qml_syntax.specs.declared.operators.Postfix.TheVariants as b
use Rattle.qml_syntax.specs.Spelling.{operator_mark, assignment_mark, postfix_mark}
use Rattle.qml_syntax.specs.Levels.{level, operand}
use Rattle.qml_syntax.specs.Ends.{Last, last_of, goes_on}
use Rattle.js_machine.specs.Machine.{Role, joins, updates, bumps, question, dot, calls, indexes, colon, closes, shuts, comma, semicolon, brace, other, role_of, role_of_mark, is_brace, is_semi, is_else, ends_line}

-- ---- tests

pub and_false : (a : Bool) → (a && false) ≡ false
and_false true = refl
and_false false = refl

pub both : (a b : Bool) → a ≡ true → b ≡ true → (a && b) ≡ true
both a b p q = rw (p, q) refl

pub both_true : (a b : Bool) → (a && b) ≡ true → (a ≡ true) × (b ≡ true)
both_true true true h = (refl, refl)
both_true true false h = cc
both_true false b h = cc

pub not_true : (a : Bool) → not a ≡ true → a ≡ false
not_true true h = cc
not_true false h = refl

pub either_true : (a b : Bool) → (a || b) ≡ true → (a ≡ true) ⊎ (b ≡ true)
either_true true b h = inl refl
either_true false b h = inr h

pub or_left : (a b : Bool) → a ≡ true → (a || b) ≡ true
or_left a b h = rw h refl

pub or_right : (a b : Bool) → b ≡ true → (a || b) ≡ true
or_right true b h = refl
or_right false b h = h

pub true_or_false : (a : Bool) → (a ≡ true) ⊎ (a ≡ false)
true_or_false true = inl refl
true_or_false false = inr refl

-- ---- levels

pub two_le_level : (op : Operator) → 2 ≤ level op
two_le_level o.Coalesce = omega arith
two_le_level _ = omega arith

pub level_le_twelve : (op : Operator) → level op ≤ 12
level_le_twelve o.Coalesce = omega arith
level_le_twelve _ = omega arith

pub above_level : (op : Operator) → suc (level op) ≤ operand op
above_level o.Coalesce = omega arith
above_level _ = omega arith

pub operand_le_thirteen : (op : Operator) → operand op ≤ 13
operand_le_thirteen o.Coalesce = omega arith
operand_le_thirteen _ = omega arith

-- ---- what tokens are behind an expression

pub operator_role : (op : Operator) → role_of (k.Mark (operator_mark op)) ≡ joins op
operator_role o.Coalesce = refl
operator_role _ = refl

pub assignment_role : (h : Assignment) → role_of (k.Mark (assignment_mark h)) ≡ updates h
assignment_role u.Plain = refl
assignment_role _ = refl

pub postfix_role : (i : Postfix) → role_of (k.Mark (postfix_mark i)) ≡ bumps i
postfix_role b.Increment = refl
postfix_role b.Decrement = refl

-- the token of a role
abbrev pub KindFits : TokenKind → Role → Type 0
KindFits x (joins op) = x ≡ k.Mark (operator_mark op)
KindFits x (updates h) = x ≡ k.Mark (assignment_mark h)
KindFits x (bumps i) = x ≡ k.Mark (postfix_mark i)
KindFits x question = x ≡ k.Mark m.Question
KindFits x dot = x ≡ k.Mark m.Dot
KindFits x calls = x ≡ k.Mark m.LeftParen
KindFits x indexes = x ≡ k.Mark m.LeftBracket
KindFits x colon = x ≡ k.Mark m.Colon
KindFits x closes = x ≡ k.Mark m.RightParen
KindFits x shuts = x ≡ k.Mark m.RightBracket
KindFits x comma = x ≡ k.Mark m.Comma
KindFits x semicolon = x ≡ k.Mark m.Semicolon
KindFits x brace = x ≡ k.Mark m.RightBrace
KindFits x other = Unit {0}

mark_fits : (x : Mark) → KindFits (k.Mark x) (role_of_mark x)
mark_fits m.LeftBrace = tt
mark_fits m.Not = tt
mark_fits m.BitNot = tt
mark_fits m.Arrow = tt
mark_fits _ = refl

kind_fits : (x : TokenKind) → KindFits x (role_of x)
kind_fits (k.Mark x) = mark_fits x
kind_fits _ = tt

pub role_fits : (x : TokenKind) (r : Role) → role_of x ≡ r → KindFits x r
role_fits x r h = let P : Role → Type 0 = λ z. KindFits x z in subst P h (kind_fits x)

-- ---- a token that a line end can't end a statement before

abbrev pub Stays : TokenKind → Type 0
Stays x = (c : Bool) → goes_on (last_of c) x ≡ true

pub operator_stays : (op : Operator) → Stays (k.Mark (operator_mark op))
operator_stays o.Coalesce true = refl
operator_stays o.Coalesce false = refl
operator_stays _ true = refl
operator_stays _ false = refl

pub assignment_stays : (h : Assignment) → Stays (k.Mark (assignment_mark h))
assignment_stays u.Plain true = refl
assignment_stays u.Plain false = refl
assignment_stays _ true = refl
assignment_stays _ false = refl

pub question_stays : Stays (k.Mark m.Question)
question_stays true = refl
question_stays false = refl

pub dot_stays : Stays (k.Mark m.Dot)
dot_stays true = refl
dot_stays false = refl

pub colon_stays : Stays (k.Mark m.Colon)
colon_stays true = refl
colon_stays false = refl

pub paren_stays : Stays (k.Mark m.RightParen)
paren_stays true = refl
paren_stays false = refl

pub bracket_stays : Stays (k.Mark m.RightBracket)
bracket_stays true = refl
bracket_stays false = refl

pub comma_stays : Stays (k.Mark m.Comma)
comma_stays true = refl
comma_stays false = refl

pub semi_stays : Stays (k.Mark m.Semicolon)
semi_stays true = refl
semi_stays false = refl

pub brace_stays : Stays (k.Mark m.RightBrace)
brace_stays true = refl
brace_stays false = refl

pub ends_no : (l : Last) (t : Token) (x : TokenKind) → t.what ≡ x → goes_on l x ≡ true → ends_line l t ≡ false
ends_no l t x q h = ap (λ (v : Bool). t.after_line && not v) (ap (goes_on l) q ∙ h) ∙ and_false t.after_line

pub ends_not_on_line : (l : Last) (t : Token) → t.after_line ≡ false → ends_line l t ≡ false
ends_not_on_line l t h = ap (λ (v : Bool). v && not (goes_on l t.what)) h

pub ends_yes : (l : Last) (t : Token) → t.after_line ≡ true → goes_on l t.what ≡ false → ends_line l t ≡ true
ends_yes l t h q = both t.after_line (not (goes_on l t.what)) h (ap not q)

pub ends_tell : (l : Last) (t : Token) → ends_line l t ≡ true → (t.after_line ≡ true) × (goes_on l t.what ≡ false)
ends_tell l t h = let d = both_true t.after_line (not (goes_on l t.what)) h in (d.0, not_true (goes_on l t.what) d.1)

-- ---- tests of kinds

pub brace_is : (x : TokenKind) → is_brace x ≡ true → x ≡ k.Mark m.RightBrace
brace_is (k.Mark m.RightBrace) h = refl
brace_is _ h = cc

pub semi_is : (x : TokenKind) → is_semi x ≡ true → x ≡ k.Mark m.Semicolon
semi_is (k.Mark m.Semicolon) h = refl
semi_is _ h = cc

pub else_is : (x : TokenKind) → is_else x ≡ true → x ≡ k.Word w.Else
else_is (k.Word w.Else) h = refl
else_is _ h = cc

pub else_not : (x : TokenKind) → (x ≡ k.Word w.Else → ⊥) → is_else x ≡ false
else_not (k.Word w.Else) h = absurd (h refl)
else_not _ h = refl

pub is_not_else : (x : TokenKind) → is_else x ≡ false → x ≡ k.Word w.Else → ⊥
is_not_else x h q = let e : is_else (k.Word w.Else) ≡ false = ap is_else (sym q) ∙ h in cc

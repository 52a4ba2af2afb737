-- What an expression begins with, and the states that such a token leaves for an expression.
use Rattle.std.proofs.Common.{◌≡◌, Bool, false, ◌||◌, List, [], ◌∷◌, Option, None, refl, sym, ap, ◌∙◌, subst}
use Rattle.qml_base.specs.declared.numbers.Place.{Place}
use Rattle.qml_syntax.specs.declared.token.TokenKind.{TokenKind}
use Rattle.qml_syntax.specs.declared.token.TokenKind.TheVariants as k
use Rattle.qml_syntax.specs.declared.mark.Mark.TheVariants as m
use Rattle.qml_syntax.specs.declared.word.Word.TheVariants as w
use Rattle.qml_syntax.specs.declared.token.Token.{Token}
use Rattle.qml_syntax.specs.declared.operators.Prefix.{Prefix}
use Rattle.qml_syntax.specs.declared.operators.Prefix.TheVariants as g
use Rattle.qml_syntax.specs.declared.literal.Literal.{Literal}
use Rattle.qml_syntax.specs.declared.literal.Literal.TheVariants as x
use Rattle.qml_syntax.specs.Spelling.{prefix_kind, literal_word}
use Rattle.qml_syntax.specs.Tree.{Expr, Maybe, nothing, First, give}
use Rattle.qml_syntax.specs.Ends.{One, a_token, Lacks, OnLine}
use Rattle.qml_syntax.specs.Reads.{Reads, r_name, r_number, r_text, r_literal, r_paren, r_list, r_fields, r_steps, r_bumped, r_signed, r_chain, r_choose, r_assign}
use Rattle.js_machine.specs.Frames.{Frames, State, need, begin, at_give, at_first, at_test, at_next, in_expr, in_give, in_first, in_test, in_next}
use Rattle.js_machine.specs.Machine.{Whole, Outcome, go_on, go, finish, on_need, on_begin, on_first, on_test, on_next, on_alone, ends_alone, is_brace, is_semi}

abbrev pub StartKind : TokenKind → Type 0
StartKind (k.Name n) = Unit {0}
StartKind (k.Number n) = Unit {0}
StartKind (k.Text n) = Unit {0}
StartKind (k.Word w.True) = Unit {0}
StartKind (k.Word w.False) = Unit {0}
StartKind (k.Word w.Null) = Unit {0}
StartKind (k.Word w.TypeOf) = Unit {0}
StartKind (k.Mark m.LeftParen) = Unit {0}
StartKind (k.Mark m.LeftBracket) = Unit {0}
StartKind (k.Mark m.LeftBrace) = Unit {0}
StartKind (k.Mark m.Not) = Unit {0}
StartKind (k.Mark m.Minus) = Unit {0}
StartKind (k.Mark m.Plus) = Unit {0}
StartKind (k.Mark m.BitNot) = Unit {0}
StartKind (k.Mark m.Increment) = Unit {0}
StartKind (k.Mark m.Decrement) = Unit {0}
StartKind _ = ⊥

abbrev pub Starts : List Token → Type 0
Starts [] = ⊥
Starts (t ∷ ts) = StartKind t.what

start_kind : {x y : TokenKind} → x ≡ y → StartKind y → StartKind x
start_kind q h = let P : TokenKind → Type 0 = λ x. StartKind x in subst P (sym q) h

start_one : {x : TokenKind} {p : Place} {a rest : List Token} → One x p a rest → StartKind x → Starts a
start_one (a_token q) h = start_kind q h

start_literal : (f : Literal) → StartKind (k.Word (literal_word f))
start_literal x.True = tt
start_literal _ = tt

start_prefix : (h : Prefix) → StartKind (prefix_kind h)
start_prefix g.Not = tt
start_prefix _ = tt

pub starts : {e : Expr} {a rest : List Token} → Reads e a rest → Starts a
starts (r_name h) = start_one h tt
starts (r_number h) = start_one h tt
starts (r_text h) = start_one h tt
starts (r_literal {f = f} h) = start_one h (start_literal f)
starts (r_paren h r s) = start_one h tt
starts (r_list h r s u) = start_one h tt
starts (r_fields h r s u) = start_one h tt
starts (r_steps r h s u) = starts r
starts (r_bumped r h s u) = starts r
starts (r_signed {g = g} h s r u v) = start_one h (start_prefix g)
starts (r_chain r h s u v l) = starts r
starts (r_choose r h s u v c d e) = starts r
starts (r_assign r h s u v c) = starts r

begin_kind : (fs : Frames) (q : Place) (x : TokenKind) (f g : Option Whole) (ts : List Token) (run : State → Outcome) → StartKind x → (x ≡ k.Mark m.LeftBrace → ⊥) → go_on (on_begin fs q x) f ts run ≡ go_on (on_need (in_expr ∷ fs) q x) g ts run
begin_kind fs q (k.Name n) f g ts run h z = refl
begin_kind fs q (k.Number n) f g ts run h z = refl
begin_kind fs q (k.Text n) f g ts run h z = refl
begin_kind fs q (k.Word w.True) f g ts run h z = refl
begin_kind fs q (k.Word w.False) f g ts run h z = refl
begin_kind fs q (k.Word w.Null) f g ts run h z = refl
begin_kind fs q (k.Word w.TypeOf) f g ts run h z = refl
begin_kind fs q (k.Mark m.LeftParen) f g ts run h z = refl
begin_kind fs q (k.Mark m.LeftBracket) f g ts run h z = refl
begin_kind fs q (k.Mark m.LeftBrace) f g ts run h z = absurd (z refl)
begin_kind fs q (k.Mark m.Not) f g ts run h z = refl
begin_kind fs q (k.Mark m.Minus) f g ts run h z = refl
begin_kind fs q (k.Mark m.Plus) f g ts run h z = refl
begin_kind fs q (k.Mark m.BitNot) f g ts run h z = refl
begin_kind fs q (k.Mark m.Increment) f g ts run h z = refl
begin_kind fs q (k.Mark m.Decrement) f g ts run h z = refl
begin_kind fs q _ f g ts run h z = absurd h

first_kind : (p : Place) (fs : Frames) (q : Place) (x : TokenKind) (f g : Option Whole) (ts : List Token) (run : State → Outcome) → StartKind x → go_on (on_first p fs q x) f ts run ≡ go_on (on_need (in_first p ∷ fs) q x) g ts run
first_kind p fs q (k.Name n) f g ts run h = refl
first_kind p fs q (k.Number n) f g ts run h = refl
first_kind p fs q (k.Text n) f g ts run h = refl
first_kind p fs q (k.Word w.True) f g ts run h = refl
first_kind p fs q (k.Word w.False) f g ts run h = refl
first_kind p fs q (k.Word w.Null) f g ts run h = refl
first_kind p fs q (k.Word w.TypeOf) f g ts run h = refl
first_kind p fs q (k.Mark m.LeftParen) f g ts run h = refl
first_kind p fs q (k.Mark m.LeftBracket) f g ts run h = refl
first_kind p fs q (k.Mark m.LeftBrace) f g ts run h = refl
first_kind p fs q (k.Mark m.Not) f g ts run h = refl
first_kind p fs q (k.Mark m.Minus) f g ts run h = refl
first_kind p fs q (k.Mark m.Plus) f g ts run h = refl
first_kind p fs q (k.Mark m.BitNot) f g ts run h = refl
first_kind p fs q (k.Mark m.Increment) f g ts run h = refl
first_kind p fs q (k.Mark m.Decrement) f g ts run h = refl
first_kind p fs q _ f g ts run h = absurd h

test_kind : (p : Place) (i : First) (fs : Frames) (q : Place) (x : TokenKind) (f g : Option Whole) (ts : List Token) (run : State → Outcome) → StartKind x → go_on (on_test p i fs q x) f ts run ≡ go_on (on_need (in_test p i ∷ fs) q x) g ts run
test_kind p i fs q (k.Name n) f g ts run h = refl
test_kind p i fs q (k.Number n) f g ts run h = refl
test_kind p i fs q (k.Text n) f g ts run h = refl
test_kind p i fs q (k.Word w.True) f g ts run h = refl
test_kind p i fs q (k.Word w.False) f g ts run h = refl
test_kind p i fs q (k.Word w.Null) f g ts run h = refl
test_kind p i fs q (k.Word w.TypeOf) f g ts run h = refl
test_kind p i fs q (k.Mark m.LeftParen) f g ts run h = refl
test_kind p i fs q (k.Mark m.LeftBracket) f g ts run h = refl
test_kind p i fs q (k.Mark m.LeftBrace) f g ts run h = refl
test_kind p i fs q (k.Mark m.Not) f g ts run h = refl
test_kind p i fs q (k.Mark m.Minus) f g ts run h = refl
test_kind p i fs q (k.Mark m.Plus) f g ts run h = refl
test_kind p i fs q (k.Mark m.BitNot) f g ts run h = refl
test_kind p i fs q (k.Mark m.Increment) f g ts run h = refl
test_kind p i fs q (k.Mark m.Decrement) f g ts run h = refl
test_kind p i fs q _ f g ts run h = absurd h

next_kind : (p : Place) (i : First) (e : Maybe) (fs : Frames) (q : Place) (x : TokenKind) (f g : Option Whole) (ts : List Token) (run : State → Outcome) → StartKind x → go_on (on_next p i e fs q x) f ts run ≡ go_on (on_need (in_next p i e ∷ fs) q x) g ts run
next_kind p i e fs q (k.Name n) f g ts run h = refl
next_kind p i e fs q (k.Number n) f g ts run h = refl
next_kind p i e fs q (k.Text n) f g ts run h = refl
next_kind p i e fs q (k.Word w.True) f g ts run h = refl
next_kind p i e fs q (k.Word w.False) f g ts run h = refl
next_kind p i e fs q (k.Word w.Null) f g ts run h = refl
next_kind p i e fs q (k.Word w.TypeOf) f g ts run h = refl
next_kind p i e fs q (k.Mark m.LeftParen) f g ts run h = refl
next_kind p i e fs q (k.Mark m.LeftBracket) f g ts run h = refl
next_kind p i e fs q (k.Mark m.LeftBrace) f g ts run h = refl
next_kind p i e fs q (k.Mark m.Not) f g ts run h = refl
next_kind p i e fs q (k.Mark m.Minus) f g ts run h = refl
next_kind p i e fs q (k.Mark m.Plus) f g ts run h = refl
next_kind p i e fs q (k.Mark m.BitNot) f g ts run h = refl
next_kind p i e fs q (k.Mark m.Increment) f g ts run h = refl
next_kind p i e fs q (k.Mark m.Decrement) f g ts run h = refl
next_kind p i e fs q _ f g ts run h = absurd h

pub begins : (a : List Token) (fs : Frames) → Starts a → Lacks (k.Mark m.LeftBrace) a → go a (begin fs) ≡ go a (need (in_expr ∷ fs))
begins [] fs h n = absurd h
begins (t ∷ ts) fs h n = begin_kind fs t.place t.what (finish (begin fs)) None (t ∷ ts) (λ next. go ts next) h n

pub firsts : (a : List Token) (p : Place) (fs : Frames) → Starts a → go a (at_first p fs) ≡ go a (need (in_first p ∷ fs))
firsts [] p fs h = absurd h
firsts (t ∷ ts) p fs h = first_kind p fs t.place t.what None None (t ∷ ts) (λ next. go ts next) h

pub tests : (a : List Token) (p : Place) (i : First) (fs : Frames) → Starts a → go a (at_test p i fs) ≡ go a (need (in_test p i ∷ fs))
tests [] p i fs h = absurd h
tests (t ∷ ts) p i fs h = test_kind p i fs t.place t.what None None (t ∷ ts) (λ next. go ts next) h

pub nexts : (a : List Token) (p : Place) (i : First) (e : Maybe) (fs : Frames) → Starts a → go a (at_next p i e fs) ≡ go a (need (in_next p i e ∷ fs))
nexts [] p i e fs h = absurd h
nexts (t ∷ ts) p i e fs h = next_kind p i e fs t.place t.what None None (t ∷ ts) (λ next. go ts next) h

-- behind `return`
no_brace : (x : TokenKind) → StartKind x → is_brace x ≡ false
no_brace (k.Name n) h = refl
no_brace (k.Number n) h = refl
no_brace (k.Text n) h = refl
no_brace (k.Word w.True) h = refl
no_brace (k.Word w.False) h = refl
no_brace (k.Word w.Null) h = refl
no_brace (k.Word w.TypeOf) h = refl
no_brace (k.Mark m.LeftParen) h = refl
no_brace (k.Mark m.LeftBracket) h = refl
no_brace (k.Mark m.LeftBrace) h = refl
no_brace (k.Mark m.Not) h = refl
no_brace (k.Mark m.Minus) h = refl
no_brace (k.Mark m.Plus) h = refl
no_brace (k.Mark m.BitNot) h = refl
no_brace (k.Mark m.Increment) h = refl
no_brace (k.Mark m.Decrement) h = refl
no_brace _ h = absurd h

no_semi : (x : TokenKind) → StartKind x → is_semi x ≡ false
no_semi (k.Name n) h = refl
no_semi (k.Number n) h = refl
no_semi (k.Text n) h = refl
no_semi (k.Word w.True) h = refl
no_semi (k.Word w.False) h = refl
no_semi (k.Word w.Null) h = refl
no_semi (k.Word w.TypeOf) h = refl
no_semi (k.Mark m.LeftParen) h = refl
no_semi (k.Mark m.LeftBracket) h = refl
no_semi (k.Mark m.LeftBrace) h = refl
no_semi (k.Mark m.Not) h = refl
no_semi (k.Mark m.Minus) h = refl
no_semi (k.Mark m.Plus) h = refl
no_semi (k.Mark m.BitNot) h = refl
no_semi (k.Mark m.Increment) h = refl
no_semi (k.Mark m.Decrement) h = refl
no_semi _ h = absurd h

give_kind : (fs : Frames) (p q : Place) (x : TokenKind) (f g : Option Whole) (ts : List Token) (run : State → Outcome) → StartKind x → go_on (on_need (in_give p ∷ fs) q x) f ts run ≡ go_on (on_need (in_give p ∷ fs) q x) g ts run
give_kind fs p q (k.Name n) f g ts run h = refl
give_kind fs p q (k.Number n) f g ts run h = refl
give_kind fs p q (k.Text n) f g ts run h = refl
give_kind fs p q (k.Word w.True) f g ts run h = refl
give_kind fs p q (k.Word w.False) f g ts run h = refl
give_kind fs p q (k.Word w.Null) f g ts run h = refl
give_kind fs p q (k.Word w.TypeOf) f g ts run h = refl
give_kind fs p q (k.Mark m.LeftParen) f g ts run h = refl
give_kind fs p q (k.Mark m.LeftBracket) f g ts run h = refl
give_kind fs p q (k.Mark m.LeftBrace) f g ts run h = refl
give_kind fs p q (k.Mark m.Not) f g ts run h = refl
give_kind fs p q (k.Mark m.Minus) f g ts run h = refl
give_kind fs p q (k.Mark m.Plus) f g ts run h = refl
give_kind fs p q (k.Mark m.BitNot) f g ts run h = refl
give_kind fs p q (k.Mark m.Increment) f g ts run h = refl
give_kind fs p q (k.Mark m.Decrement) f g ts run h = refl
give_kind fs p q _ f g ts run h = absurd h

give_test : (fs : Frames) (p : Place) (t : Token) (a : Option State) → StartKind t.what → t.after_line ≡ false → on_alone (give p nothing) fs t a ≡ a
give_test fs p t a h line =
    let one : ends_alone t ≡ false = ap (λ (v : Bool). v || t.after_line) (no_brace t.what h) ∙ line in
    rw (one, no_semi t.what h) refl

pub gives : (a : List Token) (p : Place) (fs : Frames) → Starts a → OnLine a → go a (at_give p fs) ≡ go a (need (in_give p ∷ fs))
gives [] p fs h s = absurd h
gives (t ∷ ts) p fs h s = ap (λ (z : Option State). go_on z (finish (at_give p fs)) (t ∷ ts) (λ next. go ts next)) (give_test fs p t (on_need (in_give p ∷ fs) t.place t.what) h s) ∙ give_kind fs p t.place t.what (finish (at_give p fs)) None (t ∷ ts) (λ next. go ts next) h

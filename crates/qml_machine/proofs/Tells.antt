-- What the tests of single tokens tell.
use Rattle.std.proofs.Common.{◌≡◌, Bool, true, false, not, ◌&&◌, List, ◌∷◌, Option, Some, None, refl, ap, subst, inl, inr, ◌⊎◌, codes}
use Rattle.std.specs.Prelude.{if◌then◌else◌}
use Rattle.std.specs.Str.{bytes_eq}
use Rattle.std.proofs.lemmas.Slice.Eq.{bytes_eq-Decides}
use Rattle.qml_syntax.specs.declared.token.TokenKind.{TokenKind}
use Rattle.qml_syntax.specs.declared.token.TokenKind.TheVariants as k
use Rattle.qml_syntax.specs.declared.mark.Mark.TheVariants as m
use Rattle.qml_syntax.specs.declared.token.Token.{Token}
use Rattle.qml_syntax.specs.Tree.{Units}
use Rattle.qml_syntax.specs.Ends.{Sees, seen, One, a_token}
use Rattle.js_machine.specs.Machine.{is_brace, is_semi}
use Rattle.js_machine.proofs.Tokens.{either_true, both_true, not_true}
use Rattle.qml_syntax.specs.Words.{Tail, continues, MayStop, is_as}
use Rattle.qml_machine.specs.Open.{Reading}
use Rattle.qml_machine.specs.DocumentMachine.{stops, on_end, on_name, on_mark, word_of, is_left_brace, is_colon, is_left_paren, is_greater, is_dot}
use Rattle.qml_machine.specs.declared.state.FirstWord.{FirstWord}
use Rattle.qml_machine.specs.declared.state.FirstWord.TheVariants as word

pub some_reading : {x z : Reading} → Some x ≡ Some z → x ≡ z
some_reading h = cc

pub same_name : (a b : Units) → bytes_eq a b ≡ true → a ≡ b
same_name a b h = (bytes_eq-Decides a b).0 h

pub name_same : (a b : Units) → a ≡ b → bytes_eq a b ≡ true
name_same a b h = (bytes_eq-Decides a b).1 h

pub kind_seen : (t : Token) (rest : List Token) (x : TokenKind) → t.what ≡ x → Sees x (t ∷ rest) rest
kind_seen t rest x q = seen q

pub kind_one : (t : Token) (rest : List Token) (x : TokenKind) → t.what ≡ x → One x t.place (t ∷ rest) rest
kind_one t rest x q = a_token q

pub name_tells : (x : TokenKind) (f : Units → Option Reading) (next : Reading) → on_name x f ≡ Some next → (n : Units) × (x ≡ k.Name n) × (f n ≡ Some next)
name_tells (k.Name n) f next h = (n, refl, h)
name_tells _ f next h = cc

pub mark_tells : (b : Bool) (x next : Reading) → on_mark b x ≡ Some next → (b ≡ true) × (x ≡ next)
mark_tells true x next h = (refl, cc)
mark_tells false x next h = cc

pub if_tells : (b : Bool) (x : Option Reading) (next : Reading) → (if b then x else None) ≡ Some next → (b ≡ true) × (x ≡ Some next)
if_tells true x next h = (refl, h)
if_tells false x next h = cc

pub either_tells : (b : Bool) (x z : Option Reading) (next : Reading) → (if b then x else z) ≡ Some next → ((b ≡ true) × (x ≡ Some next)) ⊎ ((b ≡ false) × (z ≡ Some next))
either_tells true x z next h = inl (refl, h)
either_tells false x z next h = inr (refl, h)

pub brace_tells : (x : TokenKind) → is_brace x ≡ true → x ≡ k.Mark m.RightBrace
brace_tells (k.Mark m.RightBrace) h = refl
brace_tells _ h = cc

pub semi_tells : (x : TokenKind) → is_semi x ≡ true → x ≡ k.Mark m.Semicolon
semi_tells (k.Mark m.Semicolon) h = refl
semi_tells _ h = cc

pub left_brace_tells : (x : TokenKind) → is_left_brace x ≡ true → x ≡ k.Mark m.LeftBrace
left_brace_tells (k.Mark m.LeftBrace) h = refl
left_brace_tells _ h = cc

pub colon_tells : (x : TokenKind) → is_colon x ≡ true → x ≡ k.Mark m.Colon
colon_tells (k.Mark m.Colon) h = refl
colon_tells _ h = cc

pub paren_tells : (x : TokenKind) → is_left_paren x ≡ true → x ≡ k.Mark m.LeftParen
paren_tells (k.Mark m.LeftParen) h = refl
paren_tells _ h = cc

pub greater_tells : (x : TokenKind) → is_greater x ≡ true → x ≡ k.Mark m.Greater
greater_tells (k.Mark m.Greater) h = refl
greater_tells _ h = cc

pub dot_tells : (x : TokenKind) → is_dot x ≡ true → x ≡ k.Mark m.Dot
dot_tells (k.Mark m.Dot) h = refl
dot_tells _ h = cc

pub as_tells : (x : TokenKind) → is_as x ≡ true → x ≡ k.Name (codes "as")
as_tells (k.Name n) h = ap (λ z. k.Name z) (same_name n (codes "as") h)
as_tells _ h = cc

-- ---- words

abbrev pub WordIs : Units → FirstWord → Type 0
WordIs n word.Property = n ≡ codes "property"
WordIs n word.ReadOnly = n ≡ codes "readonly"
WordIs n word.Signal = n ≡ codes "signal"
WordIs n word.Other = Unit {0}

by_tests : (n : Units) (a b c : Bool) → bytes_eq n (codes "property") ≡ a → bytes_eq n (codes "readonly") ≡ b → bytes_eq n (codes "signal") ≡ c → WordIs n (if a then word.Property else (if b then word.ReadOnly else (if c then word.Signal else word.Other)))
by_tests n true b c h i j = same_name n (codes "property") h
by_tests n false true c h i j = same_name n (codes "readonly") i
by_tests n false false true h i j = same_name n (codes "signal") j
by_tests n false false false h i j = tt

pub word_tells : (n : Units) (x : FirstWord) → word_of n ≡ x → WordIs n x
word_tells n x q = let P : FirstWord → Type 0 = λ z. WordIs n z in subst P q (by_tests n (bytes_eq n (codes "property")) (bytes_eq n (codes "readonly")) (bytes_eq n (codes "signal")) refl refl refl)

-- ---- ends

pub stops_tells : (l : Tail) (t : Token) (rest : List Token) → stops l t ≡ true → MayStop l (t ∷ rest)
stops_tells l t rest h = elim (either_true (is_brace t.what) (t.after_line && not (continues l t.what)) h) [
  | inl q ↦ inl (brace_tells t.what q)
  | inr q ↦ let b = both_true t.after_line (not (continues l t.what)) q in inr (b.0, not_true (continues l t.what) b.1)
]

pub end_tells : (l : Tail) (t : Token) (by_semi : Reading) (by_auto : Option Reading) (next : Reading) → on_end l t by_semi by_auto ≡ Some next → ((t.what ≡ k.Mark m.Semicolon) × (by_semi ≡ next)) ⊎ ((stops l t ≡ true) × (by_auto ≡ Some next))
end_tells l t by_semi by_auto next h = elim (either_tells (is_semi t.what) (Some by_semi) (if stops l t then by_auto else None) next h) [
  | inl q ↦ inl (semi_tells t.what q.0, some_reading q.1)
  | inr q ↦ inr (if_tells (stops l t) by_auto next q.1)
]

-- The byte order mark.
use Rattle.std.proofs.Common.{◌≡◌, ◌≢◌, ℕ, Bool, true, false, List, [], ◌++◌, drop, refl, sym, ap, ◌∙◌, nat_eq, if◌then◌else◌}
use Rattle.std.specs.Char.{encode_utf8}
use Rattle.std.specs.List.{starts_with}
use Rattle.std.specs.Str.{IsUtf8, chars, encode_utf8_all}
use Rattle.std.proofs.lemmas.Str.{encode_same, encodes-chars}
use Rattle.std.proofs.lemmas.Bool.Decides.{Decides-eqb}
use Rattle.std.proofs.lemmas.Slice.Eq.{starts_is}
use Rattle.qml_lexer.specs.Places.{body_of, byte_order_mark}

marked : encode_utf8 65279 ≡ byte_order_mark
unfolding encode_utf8
marked = refl

-- behind the mark
pub behind_mark : (text behind : List ℕ) (c : ℕ) → text ≡ encode_utf8 c ++ behind → c ≡ 65279 → behind ≡ body_of text
behind_mark text behind c e h = sym (ap body_of (e ∙ ap (λ z. encode_utf8 z ++ behind) h ∙ ap (λ z. z ++ behind) marked))

chosen : (text : List ℕ) (v : Bool) → v ≡ false → text ≡ (if v then drop 3 text else text)
chosen text true h = cc
chosen text false h = refl

-- a text that begins with another character is its own body
pub no_mark : (text behind : List ℕ) (c : ℕ) → text ≡ encode_utf8 c ++ behind → c ≢ 65279 → text ≡ body_of text
no_mark text behind c e n = by (starts_with nat_eq text byte_order_mark) refl
  where
    by : (v : Bool) → v ≡ starts_with nat_eq text byte_order_mark → text ≡ body_of text
    by true h = absurd (n (sym (encode_same 65279 c (drop 3 text) behind (ap (λ z. z ++ drop 3 text) marked ∙ sym ((starts_is Decides-eqb text byte_order_mark true h).0 refl) ∙ e)).0))
    by false h = chosen text (starts_with nat_eq text byte_order_mark) (sym h)

pub empty_body : (text : List ℕ) → IsUtf8 text → chars text ≡ [] → text ≡ body_of text
empty_body text u e =
    let empty : text ≡ [] = sym (encodes-chars text u) ∙ ap encode_utf8_all e in
    empty ∙ sym (ap body_of empty)

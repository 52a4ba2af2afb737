-- At most one token list reads given bytes, none where they are refused, and they are refused in one way.
use Rattle.std.proofs.Common.{◌≡◌, ℕ, ◌+◌, ◌-◌, inl, inr, true, false, List, [], ◌∷◌, ◌++◌, length, Result, Ok, Err, refl, sym, ap, ◌∙◌, subst, arith, length-append}
use Rattle.std.specs.Prelude.{Vec}
use Rattle.std.specs.declared.alloc.Global.{Global}
use Rattle.std.specs.Char.{is_digit}
use Rattle.std.specs.Str.{IsUtf8}
use Rattle.std.proofs.lemmas.Str.{utf8_valid_len-IsValidUpTo}
use Rattle.qml_base.specs.declared.numbers.Place.{Place}
use Rattle.qml_syntax.specs.declared.token.TokenKind.{TokenKind}
use Rattle.qml_syntax.specs.declared.token.Token.{Token}
use Rattle.qml_lexer.specs.declared.fault.LexCause.{LexCause}
use Rattle.qml_lexer.specs.declared.fault.LexCause.TheVariants as cause
use Rattle.qml_lexer.specs.declared.fault.LexFault.{LexFault}
use Rattle.qml_lexer.specs.declared.fault.LexFault.TheVariants as fault
use Rattle.qml_lexer.specs.Items.{Item}
use Rattle.qml_lexer.specs.Items as item
use Rattle.qml_lexer.specs.Causes.{HasCause, HasWrongEscape}
use Rattle.qml_lexer.specs.Characters.{begins, is_quote}
use Rattle.qml_lexer.specs.Front.{front}
use Rattle.qml_lexer.specs.Lex.{Takes, Tokens, at_end, over_gap, over_token, Sticks, here, later, bytes_of, token_at, IsLexed, IsRefused, IsAnswer, IsUnread}
use Rattle.qml_lexer.specs.Places.{body_of, mark_len, place_at}
use Rattle.qml_lexer.specs.Spells.{begins_comment, Fits, IsToken}
use Rattle.qml_lexer.specs.Turns.{IsBodyAnswer}
use Rattle.qml_lexer.proofs.CharacterLemmas.{never, digit_alone}
use Rattle.qml_lexer.proofs.FrontLemmas.{fit_read, takes_front, front_takes}
use Rattle.qml_lexer.proofs.PairLemmas.{ok_parts}

-- two ways to take something off one front are one
record Same (w v : List ℕ) (taken other : Item) (rest more : List ℕ) : Type 0 where
  pub taken_is : taken ≡ other
  pub rest_is : rest ≡ more
  pub front_is : w ≡ v

same_head : (a b c d : List ℕ) → a ++ b ≡ c ++ d → length a ≡ length c → a ≡ c
same_head [] b [] d e l = refl
same_head [] b (x ∷ c) d e l = cc
same_head (x ∷ a) b [] d e l = cc
same_head (x ∷ a) b (y ∷ c) d e l =
    let first : x ≡ y = cc in
    let others : a ++ b ≡ c ++ d = cc in
    let same : length a ≡ length c = omega arith in
    ap (λ z. z ∷ a) first ∙ ap (λ z. y ∷ z) (same_head a b c d others same)

same_taken : (xs w v rest more : List ℕ) (taken other : Item) → xs ≡ w ++ rest → Takes w taken rest → xs ≡ v ++ more → Takes v other more → Same w v taken other rest more
same_taken xs w v rest more taken other e t d s =
    let parts = ok_parts (front xs) (taken, rest) (other, more) (ap front e ∙ takes_front w rest taken t) (ap front d ∙ takes_front v more other s) in
    record {
      taken_is = parts.0;
      rest_is = parts.1;
      front_is = same_head w rest v more (sym e ∙ d) (omega (arith, ap length parts.1, ap length e, ap length d, length-append w rest, length-append v more));
    }

taken_some : (w rest : List ℕ) (taken : Item) → Takes w taken rest → [] ≡ w ++ rest → ⊥
taken_some w rest taken t e =
    let c = front_takes (w ++ rest) rest taken (takes_front w rest taken t) in
    absurd (omega (arith, ap length e, ap length c.1, length-append c.0 rest, c.2))

gap_or_token : (what : TokenKind) → item.Gap ≡ item.Token what → ⊥
gap_or_token what e = cc

token_kind : (a b : TokenKind) → item.Token a ≡ item.Token b → a ≡ b
token_kind a b e = cc

pub one_list : {bytes : List ℕ} {end at : ℕ} {xs : List ℕ} {ts us : List Token} → Tokens bytes end at xs ts → Tokens bytes end at xs us → ts ≡ us
one_list at_end at_end = refl
one_list at_end (over_gap w more e t l) = absurd (taken_some w more item.Gap t e)
one_list at_end (over_token w more what e t l) = absurd (taken_some w more (item.Token what) t e)
one_list (over_gap w more e t l) at_end = absurd (taken_some w more item.Gap t e)
one_list (over_token w more what e t l) at_end = absurd (taken_some w more (item.Token what) t e)
one_list {bytes} {end} {at} {xs} {ts} {us} (over_gap w more e t l) (over_gap v rest d s m) =
    let same = same_taken xs w v more rest item.Gap item.Gap e t d s in
    let P : List ℕ → Type 0 = λ z. Tokens bytes end (at + bytes_of z) rest us in
    let Q : List ℕ → Type 0 = λ z. Tokens bytes end (at + bytes_of w) z us in
    one_list l (subst Q (sym same.rest_is) (subst P (sym same.front_is) m))
one_list {xs = xs} (over_gap w more e t l) (over_token v rest what d s m) = absurd (gap_or_token what (same_taken xs w v more rest item.Gap (item.Token what) e t d s).taken_is)
one_list {xs = xs} (over_token w more what e t l) (over_gap v rest d s m) = absurd (gap_or_token what (sym (same_taken xs w v more rest (item.Token what) item.Gap e t d s).taken_is))
one_list {bytes} {end} {at} {xs} (over_token {ts = ts} w more what e t l) (over_token {ts = us} v rest other d s m) =
    let same = same_taken xs w v more rest (item.Token what) (item.Token other) e t d s in
    let kind : what ≡ other = token_kind what other same.taken_is in
    let P : List ℕ → Type 0 = λ z. Tokens bytes (at + bytes_of z) (at + bytes_of z) rest us in
    let Q : List ℕ → Type 0 = λ z. Tokens bytes (at + bytes_of w) (at + bytes_of w) z us in
    ap (λ z. token_at bytes end at z ∷ ts) kind ∙ ap (λ z. token_at bytes end at other ∷ z) (one_list l (subst Q (sym same.rest_is) (subst P (sym same.front_is) m)))

pub not_both : {bytes : List ℕ} {end at stop : ℕ} {xs : List ℕ} {ts : List Token} {c : LexCause} → Tokens bytes end at xs ts → Sticks at xs stop c → ⊥
not_both at_end (here s) = s.some refl
not_both at_end (later w more taken e t s) = taken_some w more taken t e
not_both (over_gap w more e t l) (here s) = s.unread w more item.Gap e t
not_both (over_token w more what e t l) (here s) = s.unread w more (item.Token what) e t
not_both {at = at} {stop = stop} {xs = xs} {c = c} (over_gap w more e t l) (later v rest taken d u s) =
    let same = same_taken xs w v more rest item.Gap taken e t d u in
    let P : List ℕ → Type 0 = λ z. Sticks (at + bytes_of z) rest stop c in
    let Q : List ℕ → Type 0 = λ z. Sticks (at + bytes_of w) z stop c in
    not_both l (subst Q (sym same.rest_is) (subst P (sym same.front_is) s))
not_both {at = at} {stop = stop} {xs = xs} {c = c} (over_token w more what e t l) (later v rest taken d u s) =
    let same = same_taken xs w v more rest (item.Token what) taken e t d u in
    let P : List ℕ → Type 0 = λ z. Sticks (at + bytes_of z) rest stop c in
    let Q : List ℕ → Type 0 = λ z. Sticks (at + bytes_of w) z stop c in
    not_both l (subst Q (sym same.rest_is) (subst P (sym same.front_is) s))

pub one_lexed : (bytes : List ℕ) (ts us : List Token) → IsLexed bytes ts → IsLexed bytes us → ts ≡ us
one_lexed bytes ts us l m = one_list l.1 m.1

pub not_lexed : (bytes : List ℕ) (ts : List Token) (place : Place) (c : LexCause) → IsLexed bytes ts → IsRefused bytes place c → ⊥
not_lexed bytes ts place c l (inl r) = r.1 l.0
not_lexed bytes ts place c l (inr r) = not_both l.1 r.2

-- what the lexer answers, from what it answers for the text behind a mark
answer_of : (bytes : List ℕ) (r : Result (Vec Token Global) LexFault) → IsUtf8 bytes → IsBodyAnswer (body_of bytes) r → IsAnswer bytes r
answer_of bytes (Ok ts) u a = (u, a)
answer_of bytes (Err (fault.Bad place c)) u a = inr (a.0, u, a.1, a.2)
answer_of bytes (Err fault.NoMemory) u a = tt

unread_of : (bytes : List ℕ) (r : Result (Vec Token Global) LexFault) → IsAnswer bytes r → IsUnread bytes r
unread_of bytes (Ok ts) a = tt
unread_of bytes (Err (fault.Bad place c)) a = λ ts l. not_lexed bytes ts place c l a
unread_of bytes (Err fault.NoMemory) a = tt

pub body_unread : (bytes text body : List ℕ) (r : Result (Vec Token Global) LexFault) → IsUtf8 bytes → text ≡ bytes → body ≡ body_of text → IsBodyAnswer body r → IsUnread bytes r
body_unread bytes text body r u t b a =
    let P : List ℕ → Type 0 = λ z. IsBodyAnswer z r in
    unread_of bytes r (answer_of bytes r u (subst P (b ∙ ap body_of t) a))

-- ---- one refusal

no_digit_slash : (xs rest : List ℕ) → begins (λ x. is_digit x 10) xs ≡ true → xs ≡ 47 ∷ 42 ∷ rest → ⊥
no_digit_slash xs rest h e = never (begins (λ x. is_digit x 10) xs) h (ap (begins (λ x. is_digit x 10)) e)

no_digit_quote : (xs : List ℕ) (q : ℕ) (rest : List ℕ) → begins (λ x. is_digit x 10) xs ≡ true → xs ≡ q ∷ rest → is_quote q ≡ true → ⊥
no_digit_quote xs q rest h e g = never (is_quote q) g (digit_alone q (sym (ap (begins (λ x. is_digit x 10)) e) ∙ h)).2

no_slash_quote : (xs : List ℕ) (q : ℕ) (rest more : List ℕ) → xs ≡ 47 ∷ 42 ∷ more → xs ≡ q ∷ rest → is_quote q ≡ true → ⊥
no_slash_quote xs q rest more d e g = never (begins is_quote xs) (ap (begins is_quote) e ∙ g) (ap (begins is_quote) d)

wrong_and_not : (xs : List ℕ) (q p : ℕ) (rest more : List ℕ) → xs ≡ q ∷ rest → xs ≡ p ∷ more → HasWrongEscape rest → ¬ (HasWrongEscape more) → ⊥
wrong_and_not xs q p rest more e d w n =
    let same : rest ≡ more = (let both : q ∷ rest ≡ p ∷ more = sym e ∙ d in cc) in
    n (let P : List ℕ → Type 0 = λ z. HasWrongEscape z in subst P same w)

one_cause : (xs : List ℕ) (c d : LexCause) → HasCause xs c → HasCause xs d → c ≡ d
one_cause xs cause.NotUtf8 d h g = absurd h
one_cause xs cause.Number cause.NotUtf8 h g = absurd g
one_cause xs cause.Number cause.Number h g = refl
one_cause xs cause.Number cause.OpenComment h g = absurd (no_digit_slash xs g.0 h g.1)
one_cause xs cause.Number cause.Escape h g = absurd (no_digit_quote xs g.0 g.1 h g.2 g.3)
one_cause xs cause.Number cause.OpenText h g = absurd (no_digit_quote xs g.0 g.1 h g.2 g.3)
one_cause xs cause.Number cause.Character h g = absurd (never (begins (λ x. is_digit x 10) xs) h g.0)
one_cause xs cause.OpenComment cause.NotUtf8 h g = absurd g
one_cause xs cause.OpenComment cause.Number h g = absurd (no_digit_slash xs h.0 g h.1)
one_cause xs cause.OpenComment cause.OpenComment h g = refl
one_cause xs cause.OpenComment cause.Escape h g = absurd (no_slash_quote xs g.0 g.1 h.0 h.1 g.2 g.3)
one_cause xs cause.OpenComment cause.OpenText h g = absurd (no_slash_quote xs g.0 g.1 h.0 h.1 g.2 g.3)
one_cause xs cause.OpenComment cause.Character h g = absurd (g.2 h)
one_cause xs cause.Escape cause.NotUtf8 h g = absurd g
one_cause xs cause.Escape cause.Number h g = absurd (no_digit_quote xs h.0 h.1 g h.2 h.3)
one_cause xs cause.Escape cause.OpenComment h g = absurd (no_slash_quote xs h.0 h.1 g.0 g.1 h.2 h.3)
one_cause xs cause.Escape cause.Escape h g = refl
one_cause xs cause.Escape cause.OpenText h g = absurd (wrong_and_not xs h.0 g.0 h.1 g.1 h.2 g.2 h.4 g.4)
one_cause xs cause.Escape cause.Character h g = absurd (never (begins is_quote xs) (ap (begins is_quote) h.2 ∙ h.3) g.1)
one_cause xs cause.OpenText cause.NotUtf8 h g = absurd g
one_cause xs cause.OpenText cause.Number h g = absurd (no_digit_quote xs h.0 h.1 g h.2 h.3)
one_cause xs cause.OpenText cause.OpenComment h g = absurd (no_slash_quote xs h.0 h.1 g.0 g.1 h.2 h.3)
one_cause xs cause.OpenText cause.Escape h g = absurd (wrong_and_not xs g.0 h.0 g.1 h.1 g.2 h.2 g.4 h.4)
one_cause xs cause.OpenText cause.OpenText h g = refl
one_cause xs cause.OpenText cause.Character h g = absurd (never (begins is_quote xs) (ap (begins is_quote) h.2 ∙ h.3) g.1)
one_cause xs cause.Character cause.NotUtf8 h g = absurd g
one_cause xs cause.Character cause.Number h g = absurd (never (begins (λ x. is_digit x 10) xs) g h.0)
one_cause xs cause.Character cause.OpenComment h g = absurd (h.2 g)
one_cause xs cause.Character cause.Escape h g = absurd (never (begins is_quote xs) (ap (begins is_quote) g.2 ∙ g.3) h.1)
one_cause xs cause.Character cause.OpenText h g = absurd (never (begins is_quote xs) (ap (begins is_quote) g.2 ∙ g.3) h.1)
one_cause xs cause.Character cause.Character h g = refl

one_stick : {at stop other : ℕ} {xs : List ℕ} {c d : LexCause} → Sticks at xs stop c → Sticks at xs other d → (stop ≡ other) × (c ≡ d)
one_stick {xs = xs} {c = c} {d = d} (here s) (here t) = (refl, one_cause xs c d s.because t.because)
one_stick (here s) (later w more taken e t l) = absurd (s.unread w more taken e t)
one_stick (later w more taken e t l) (here s) = absurd (s.unread w more taken e t)
one_stick {at = at} {other = other} {xs = xs} {d = d} (later w more taken e t l) (later v rest thing f s m) =
    let same = same_taken xs w v more rest taken thing e t f s in
    let P : List ℕ → Type 0 = λ z. Sticks (at + bytes_of z) rest other d in
    let Q : List ℕ → Type 0 = λ z. Sticks (at + bytes_of w) z other d in
    one_stick l (subst Q (sym same.rest_is) (subst P (sym same.front_is) m))

pub one_refused : (bytes : List ℕ) (place other : Place) (c d : LexCause) → IsRefused bytes place c → IsRefused bytes other d → (place ≡ other) × (c ≡ d)
one_refused bytes place other c d (inl r) (inl s) =
    let at : r.0 ≡ s.0 = sym (utf8_valid_len-IsValidUpTo bytes r.0 r.2) ∙ utf8_valid_len-IsValidUpTo bytes s.0 s.2 in
    (r.3 ∙ ap (λ z. place_at (body_of bytes) (z - mark_len bytes)) at ∙ sym s.3, r.4 ∙ sym s.4)
one_refused bytes place other c d (inl r) (inr s) = absurd (r.1 s.1)
one_refused bytes place other c d (inr r) (inl s) = absurd (s.1 r.1)
one_refused bytes place other c d (inr r) (inr s) =
    let same = one_stick r.2 s.2 in
    (r.3 ∙ ap (place_at (body_of bytes)) same.0 ∙ sym s.3, same.1)

-- where something can be a token and no comment begins, a token is taken, and none that can be one is longer
pub longest_taken : (v more : List ℕ) (other : TokenKind) → Fits v other more → begins_comment (v ++ more) ≡ false
    → (w : List ℕ) × (rest : List ℕ) × (what : TokenKind) × (v ++ more ≡ w ++ rest) × IsToken w what rest
longest_taken v more other f n =
    let r = fit_read v more other f.spells f.before n in
    let t = front_takes (v ++ more) r.rest (item.Token r.what) r.reads in
    (t.0, r.rest, r.what, t.1, t.3)

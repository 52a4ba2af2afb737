-- How reading goes on.
use Rattle.std.proofs.Common.{◌≡◌, ℕ, ◌+◌, ◌<◌, List, [], ◌∷◌, ◌++◌, length, Ok, Err, refl, sym, ap, ◌∙◌, arith, subst, append_assoc, length-append}
use Rattle.std.specs.Str.{IsUtf8, chars, encode_utf8_all}
use Rattle.std.proofs.lemmas.Str.{length-le-encodes, encodes-chars, chars-nil}
use Rattle.qml_syntax.specs.declared.token.TokenKind.{TokenKind}
use Rattle.qml_syntax.specs.declared.token.TokenKind.TheVariants.{End}
use Rattle.qml_syntax.specs.declared.token.Token.{Token}
use Rattle.qml_lexer.specs.declared.fault.LexCause.{LexCause}
use Rattle.qml_lexer.specs.Items.{Item}
use Rattle.qml_lexer.specs.Items as item
use Rattle.qml_lexer.specs.declared.lexer.Cursor.{Cursor}
use Rattle.qml_lexer.specs.Front.{front}
use Rattle.qml_lexer.specs.Lex.{Takes, Tokens, at_end, over_gap, over_token, Sticks, here, later, bytes_of, token_at, spot, IsAt}
use Rattle.qml_lexer.specs.declared.found.Piece.{Piece}
use Rattle.qml_lexer.specs.declared.found.Piece.TheVariants as piece
use Rattle.qml_lexer.specs.declared.found.Spot.{Spot}
use Rattle.qml_lexer.specs.Reading.{token_on, PutsPiece}
use Rattle.qml_lexer.specs.Turns.{Leads}
use Rattle.qml_lexer.proofs.FrontLemmas.{front_takes, front_stuck}
use Rattle.qml_lexer.proofs.Utf8Lemmas.{split_bytes}

-- what was taken off the front, in characters and in bytes
pub record Taken (rest behind : List ℕ) (taken : Item) : Type 0 where
  pub w : List ℕ
  pub cut : chars rest ≡ w ++ chars behind
  pub takes : Takes w taken (chars behind)
  pub bytes : length rest ≡ bytes_of w + length behind
  pub some : 0 < bytes_of w

pub taken_off : (rest behind : List ℕ) (taken : Item) → IsUtf8 rest → IsUtf8 behind → front (chars rest) ≡ Ok (taken, chars behind) → Taken rest behind taken
taken_off rest behind taken u v e =
    let t = front_takes (chars rest) (chars behind) taken e in
    record {
      w = t.0;
      cut = t.1;
      takes = t.3;
      bytes = omega (arith, length-append (encode_utf8_all t.0) behind, ap length (split_bytes rest behind t.0 u v t.1));
      some = omega (arith, t.2, length-le-encodes t.0);
    }

pub begun : (body : List ℕ) (cursor : Cursor) → cursor.at ≡ 0 → cursor.token_end ≡ 0 → Leads body cursor (chars body) []
begun body cursor a e = record {
  tokens = λ ts h. let P : ℕ → Type 0 = λ z. Tokens body z 0 (chars body) ts in subst P e (let Q : ℕ → Type 0 = λ z. Tokens body cursor.token_end z (chars body) ts in subst Q a h);
  sticks = λ stop c h. let P : ℕ → Type 0 = λ z. Sticks z (chars body) stop c in subst P a h;
}

pub gap_turn : (body : List ℕ) (cursor next : Cursor) (xs w more : List ℕ) (taken : Item) (found : List Token) → xs ≡ w ++ more → Takes w taken more
    → taken ≡ item.Gap → next.at ≡ cursor.at + bytes_of w → next.token_end ≡ cursor.token_end → Leads body cursor xs found → Leads body next more found
gap_turn body cursor next xs w more taken found e k g a n l = let t : Takes w item.Gap more = (let P : Item → Type 0 = λ z. Takes w z more in subst P g k) in record {
  tokens = λ ts h. l.tokens ts (over_gap w more e t (let P : ℕ → Type 0 = λ z. Tokens body z (cursor.at + bytes_of w) more ts in subst P n (let Q : ℕ → Type 0 = λ z. Tokens body next.token_end z more ts in subst Q a h)));
  sticks = λ stop c h. l.sticks stop c (later w more item.Gap e t (let P : ℕ → Type 0 = λ z. Sticks z more stop c in subst P a h));
}

pub token_is : (body : List ℕ) (cursor : Cursor) (what : TokenKind) → IsAt body cursor → token_on (spot cursor) what ≡ token_at body cursor.token_end cursor.at what
token_is body cursor what a = rw (a.number, a.start) refl

pub token_turn : (body : List ℕ) (cursor next : Cursor) (xs w more : List ℕ) (taken : Item) (what : TokenKind) (found new : List Token) (t : Token) → xs ≡ w ++ more → Takes w taken more
    → taken ≡ item.Token what → next.at ≡ cursor.at + bytes_of w → next.token_end ≡ cursor.at + bytes_of w → t ≡ token_at body cursor.token_end cursor.at what → new ≡ found ++ t ∷ []
    → Leads body cursor xs found → Leads body next more new
token_turn body cursor next xs w more taken what found new t e j g a n i m l = let k : Takes w (item.Token what) more = (let P : Item → Type 0 = λ z. Takes w z more in subst P g j) in record {
  tokens = λ ts h. rw (m, append_assoc, i) (l.tokens (token_at body cursor.token_end cursor.at what ∷ ts)
      (over_token w more what e k (let P : ℕ → Type 0 = λ z. Tokens body z (cursor.at + bytes_of w) more ts in subst P n (let Q : ℕ → Type 0 = λ z. Tokens body next.token_end z more ts in subst Q a h))));
  sticks = λ stop c h. l.sticks stop c (later w more (item.Token what) e k (let P : ℕ → Type 0 = λ z. Sticks z more stop c in subst P a h));
}

-- where the last token ends behind a piece
abbrev pub Ends : Piece → Cursor → Cursor → Type 0
Ends piece.Gap cursor next = next.token_end ≡ cursor.token_end
Ends piece.Token cursor next = next.token_end ≡ next.at

pub shorter : (sp : Spot) (p : Piece) (old new : List Token) (rest behind : List ℕ) → IsUtf8 rest → IsUtf8 behind → PutsPiece sp old new p (chars behind) (front (chars rest))
    → length behind < length rest
shorter sp piece.Gap old new rest behind u v h = let t = taken_off rest behind item.Gap u v h.0 in omega (arith, t.bytes, t.some)
shorter sp piece.Token old new rest behind u v h = let t = taken_off rest behind (item.Token h.0) u v h.1 in omega (arith, t.bytes, t.some)

pub leads_on : (body : List ℕ) (cursor next : Cursor) (sp : Spot) (p : Piece) (old new : List Token) (rest behind : List ℕ) → IsUtf8 rest → IsUtf8 behind
    → PutsPiece sp old new p (chars behind) (front (chars rest)) → sp ≡ spot cursor → IsAt body cursor → cursor.at + length rest ≡ length body → next.at + length behind ≡ length body
    → Ends p cursor next → Leads body cursor (chars rest) old → Leads body next (chars behind) new
leads_on body cursor next sp piece.Gap old new rest behind u v h e i a b n l =
    let t = taken_off rest behind item.Gap u v h.0 in
    rw (h.1) (gap_turn body cursor next (chars rest) t.w (chars behind) item.Gap old t.cut t.takes refl (omega (arith, t.bytes)) n l)
leads_on body cursor next sp piece.Token old new rest behind u v h e i a b n l =
    let t = taken_off rest behind (item.Token h.0) u v h.1 in
    token_turn body cursor next (chars rest) t.w (chars behind) (item.Token h.0) h.0 old new (token_on sp h.0) t.cut t.takes refl (omega (arith, t.bytes)) (omega (arith, t.bytes, n))
    (ap (λ z. token_on z h.0) e ∙ token_is body cursor h.0 i) h.2 l

some_chars : (rest : List ℕ) → IsUtf8 rest → 0 < length rest → 0 < length (chars rest)
some_chars rest u l = by (chars rest) (encodes-chars rest u)
  where
    by : (cs : List ℕ) → encode_utf8_all cs ≡ rest → 0 < length cs
    by [] e = absurd (omega (arith, ap length e))
    by (c ∷ cs) e = omega arith

pub stuck : (at : ℕ) (rest : List ℕ) (c : LexCause) → IsUtf8 rest → 0 < length rest → front (chars rest) ≡ Err c → Sticks at (chars rest) at c
stuck at rest c u l e = here (front_stuck (chars rest) c (some_chars rest u l) e)

pub ended : (body rest : List ℕ) (cursor : Cursor) (found new : List Token) (t : Token) → Leads body cursor (chars rest) found → length rest ≡ 0 → IsAt body cursor
    → t ≡ token_on (spot cursor) End → new ≡ found ++ t ∷ [] → Tokens body 0 0 (chars body) new
ended body [] cursor found new t l z a i m = rw (m, i, token_is body cursor End a) (l.tokens (token_at body cursor.token_end cursor.at End ∷ []) (at_start refl))
  where
    at_start : chars [] ≡ chars [] → Tokens body cursor.token_end cursor.at (chars []) (token_at body cursor.token_end cursor.at End ∷ [])
    at_start e = let P : List ℕ → Type 0 = λ z. Tokens body cursor.token_end cursor.at z (token_at body cursor.token_end cursor.at End ∷ []) in subst P (sym chars-nil) at_end
ended body (x ∷ rest) cursor found new t l z a i m = absurd (omega arith)

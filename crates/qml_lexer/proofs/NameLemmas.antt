-- Names and reserved words.
use Rattle.std.proofs.Common.{◌≡◌, ◌≢◌, ℕ, ◌<◌, Bool, true, false, List, [], ◌∷◌, ◌++◌, length, Option, Some, None, Ok, refl, sym, ap, ◌∙◌, arith, subst, append-nil, if◌then◌else◌}
use Rattle.std.specs.List.{list_all}
use Rattle.std.specs.Char.{is_ascii_lowercase, is_ascii_alphabetic}
use Rattle.std.specs.Prelude.{nat_lt}
use Rattle.std.specs.Str.{bytes_eq}
use Rattle.std.proofs.lemmas.Bool.Decides.{nat_tests}
use Rattle.std.specs.Cmp.Lexicographic.{same_text}
use Rattle.std.specs.Str.{IsUtf8, chars, encode_utf8_all}
use Rattle.std.proofs.lemmas.Str.{encodes-chars, encode_ascii, encodes_same}
use Rattle.qml_syntax.specs.declared.word.Word.{Word}
use Rattle.qml_syntax.specs.declared.token.TokenKind.{TokenKind}
use Rattle.qml_lexer.specs.Names.{reserved_words, word_among, word_or, kind_of, name, word_spelling}
use Rattle.qml_lexer.specs.Characters.{is_part, run, behind}
use Rattle.qml_text.specs.Utf.{encode_utf16_all}
use Rattle.qml_syntax.specs.declared.token.TokenKind.TheVariants as kind
use Rattle.qml_lexer.specs.Characters.{is_start}
use Rattle.qml_lexer.specs.Spells.{is_identifier, IsName, a_name, a_word, Fits}
use Rattle.unicode_ident.proofs.IdentLemmas.{is_xid_start-ascii}
use Rattle.unicode_ident.specs.Ident.{is_xid_start}
use Rattle.qml_lexer.proofs.CharacterLemmas.{start_part}
use Rattle.qml_lexer.proofs.NumberLemmas.{AtLeast, Cut}
use Rattle.qml_lexer.proofs.PairLemmas.{ok_parts}
use Rattle.qml_lexer.proofs.RunLemmas.{and_true, and_both, run_passes, run_over, behind_over, behind_short, run_none}
use Rattle.qml_lexer.proofs.TableLemmas.{word_letters, word_length, word_found}
use Rattle.qml_lexer.proofs.Utf8Lemmas.{run-behind}

pub kind_is : (bytes : List ℕ) (o : Option Word) → IsUtf8 bytes → o ≡ word_among reserved_words bytes → word_or o (chars bytes) ≡ kind_of (chars bytes)
unfolding kind_of
kind_is bytes o u e = ap (λ z. word_or z (chars bytes)) (e ∙ ap (word_among reserved_words) (sym (encodes-chars bytes u)))

pub name_is : (xs spelt rest : List ℕ) → spelt ≡ run is_part xs → rest ≡ behind is_part xs → name xs ≡ Ok (kind_of spelt, rest)
unfolding name
name_is xs spelt rest s e = rw (s, e) refl

-- ---- words

lower_small : (x : ℕ) → is_ascii_lowercase x ≡ true → x < 128
lower_small x h = grind (arith, nat_tests)

lower_start : (x : ℕ) → is_ascii_lowercase x ≡ true → is_start x ≡ true
lower_start x h =
    let letter : is_ascii_alphabetic x ≡ true = grind (arith, nat_tests) in
    let start : is_xid_start x ≡ true = is_xid_start-ascii x (lower_small x h) ∙ letter in
    rw start refl

lower_parts : (xs : List ℕ) → list_all is_ascii_lowercase xs ≡ true → list_all is_part xs ≡ true
lower_parts [] h = refl
lower_parts (x ∷ xs) h =
    let t = and_true (is_ascii_lowercase x) (list_all is_ascii_lowercase xs) h in
    and_both (is_part x) (list_all is_part xs) (start_part x (lower_start x t.0)) (lower_parts xs t.1)

lower_identifier : (xs : List ℕ) → list_all is_ascii_lowercase xs ≡ true → nat_lt 0 (length xs) ≡ true → is_identifier xs ≡ true
lower_identifier [] h l = cc
lower_identifier (x ∷ xs) h l =
    let t = and_true (is_ascii_lowercase x) (list_all is_ascii_lowercase xs) h in
    and_both (is_start x) (list_all is_part xs) (lower_start x t.0) (lower_parts xs t.1)

pub lower_encodes : (xs : List ℕ) → list_all is_ascii_lowercase xs ≡ true → encode_utf8_all xs ≡ xs
lower_encodes [] h = refl
lower_encodes (x ∷ xs) h =
    let t = and_true (is_ascii_lowercase x) (list_all is_ascii_lowercase xs) h in
    let one = encode_ascii x (lower_small x t.0) in
    rw one (ap (λ ys. x ∷ ys) (lower_encodes xs t.1))

pub word_encodes : (w : Word) → encode_utf8_all (word_spelling w) ≡ word_spelling w
word_encodes w = lower_encodes (word_spelling w) (word_letters w)

pub word_identifier : (w : Word) → is_identifier (word_spelling w) ≡ true
word_identifier w = lower_identifier (word_spelling w) (word_letters w) (word_length w)

pub same_bytes : (xs ys : List ℕ) → bytes_eq xs ys ≡ true → xs ≡ ys
same_bytes xs ys h = same_text xs ys (sym h)

-- characters with the bytes of a word are the word
spelled : (w : List ℕ) (k : Word) → word_spelling k ≡ encode_utf8_all w → w ≡ word_spelling k
spelled w k h = encodes_same w (word_spelling k) (sym h ∙ sym (word_encodes k))

not_among : (ws : List Word) (w : List ℕ) → ((k : Word) → w ≢ word_spelling k) → word_among ws (encode_utf8_all w) ≡ None
not_among [] w n = refl
not_among (k ∷ ws) w n = by (not_among ws w n) (bytes_eq (word_spelling k) (encode_utf8_all w)) refl
  where
    by : word_among ws (encode_utf8_all w) ≡ None → (v : Bool) → bytes_eq (word_spelling k) (encode_utf8_all w) ≡ v → (if v then Some k else word_among ws (encode_utf8_all w)) ≡ None
    by r true e = absurd (n k (spelled w k (same_bytes (word_spelling k) (encode_utf8_all w) e)))
    by r false e = r

among_is : (ws : List Word) (w : List ℕ) (k : Word) → word_among ws (encode_utf8_all w) ≡ Some k → w ≡ word_spelling k
among_is [] w k h = cc
among_is (j ∷ ws) w k h = by (among_is ws w k) (bytes_eq (word_spelling j) (encode_utf8_all w)) refl h
  where
    by : (word_among ws (encode_utf8_all w) ≡ Some k → w ≡ word_spelling k) → (v : Bool) → bytes_eq (word_spelling j) (encode_utf8_all w) ≡ v
        → (if v then Some j else word_among ws (encode_utf8_all w)) ≡ Some k → w ≡ word_spelling k
    by r true e g = let same : j ≡ k = cc in spelled w j (same_bytes (word_spelling j) (encode_utf8_all w) e) ∙ ap word_spelling same
    by r false e g = r g

kind_of_name : (w : List ℕ) → ((k : Word) → w ≢ word_spelling k) → kind_of w ≡ kind.Name (encode_utf16_all w)
unfolding kind_of
kind_of_name w n = ap (λ o. word_or o w) (not_among reserved_words w n)

kind_of_word : (w : List ℕ) (k : Word) → w ≡ word_spelling k → kind_of w ≡ kind.Word k
unfolding kind_of
kind_of_word w k e = ap (λ o. word_or o w) (ap (λ z. word_among reserved_words (encode_utf8_all z)) e ∙ ap (word_among reserved_words) (word_encodes k) ∙ word_found k)

-- ---- an identifier is read, and what is read is one

identifier_parts : (w : List ℕ) → is_identifier w ≡ true → list_all is_part w ≡ true
identifier_parts [] h = cc
identifier_parts (x ∷ w) h =
    let t = and_true (is_start x) (list_all is_part w) h in
    and_both (is_part x) (list_all is_part w) (start_part x t.0) t.1

pub identifier_read : (w more : List ℕ) (other : TokenKind) → is_identifier w ≡ true → kind_of w ≡ other → AtLeast (name (w ++ more)) more other
unfolding name
identifier_read w more other h k =
    let parts = identifier_parts w h in
    let over = behind_over is_part w more parts in
    record {
      what = kind_of (run is_part (w ++ more));
      rest = behind is_part (w ++ more);
      reads = refl;
      short = omega (arith, ap length over, behind_short is_part more);
      same = λ l. ap kind_of (run_over is_part w more parts ∙ ap (λ z. w ++ z) (run_none is_part more (sym (ap length over) ∙ l)) ∙ append-nil w) ∙ k;
    }

pub name_read : (w more : List ℕ) → is_identifier w ≡ true → ((k : Word) → w ≢ word_spelling k) → AtLeast (name (w ++ more)) more (kind.Name (encode_utf16_all w))
name_read w more h n = identifier_read w more (kind.Name (encode_utf16_all w)) h (kind_of_name w n)

pub word_read : (w more : List ℕ) (k : Word) → w ≡ word_spelling k → AtLeast (name (w ++ more)) more (kind.Word k)
word_read w more k e = identifier_read w more (kind.Word k) (ap is_identifier e ∙ word_identifier k) (kind_of_word w k e)

spells_it : (w rest : List ℕ) → is_identifier w ≡ true → Fits w (kind_of w) rest
spells_it w rest h = by (word_among reserved_words (encode_utf8_all w)) refl
  where
    by : (o : Option Word) → word_among reserved_words (encode_utf8_all w) ≡ o → Fits w (kind_of w) rest
    by None e =
        let free : (k : Word) → w ≢ word_spelling k = λ k s. let some = ap (λ z. word_among reserved_words (encode_utf8_all z)) s ∙ ap (word_among reserved_words) (word_encodes k) ∙ word_found k in cc in
        let P : TokenKind → Type 0 = λ z. Fits w z rest in
        subst P (sym (kind_of_name w free)) (record { spells = a_name h free; before = tt })
    by (Some k) e =
        let is = among_is reserved_words w k e in
        let P : TokenKind → Type 0 = λ z. Fits w z rest in
        subst P (sym (kind_of_word w k is)) (record { spells = a_word k is; before = tt })

run_identifier : (x : ℕ) (xs : List ℕ) → is_start x ≡ true → is_identifier (run is_part (x ∷ xs)) ≡ true
run_identifier x xs h =
    let part : is_part x ≡ true = start_part x h in
    rw part (and_both (is_start x) (list_all is_part (run is_part xs)) h (run_passes is_part xs))

pub name_cut : (x : ℕ) (xs rest : List ℕ) (what : TokenKind) → is_start x ≡ true → name (x ∷ xs) ≡ Ok (what, rest) → Cut (x ∷ xs) rest what
unfolding name
name_cut x xs rest what h e =
    let parts = ok_parts (name (x ∷ xs)) (kind_of (run is_part (x ∷ xs)), behind is_part (x ∷ xs)) (what, rest) refl e in
    let P : TokenKind → Type 0 = λ z. Fits (run is_part (x ∷ xs)) z rest in
    record {
      w = run is_part (x ∷ xs);
      cut = sym (run-behind is_part (x ∷ xs)) ∙ ap (λ z. run is_part (x ∷ xs) ++ z) parts.1;
      fits = subst P parts.0 (spells_it (run is_part (x ∷ xs)) rest (run_identifier x xs h));
    }

-- ---- a text that is a name

pub names_it : (bytes : List ℕ) → IsUtf8 bytes → is_identifier (chars bytes) ≡ true → word_among reserved_words bytes ≡ None → IsName (chars bytes)
names_it bytes u h none = (h, free)
  where
    free : (k : Word) → chars bytes ≢ word_spelling k
    free k s =
        let some : word_among reserved_words (encode_utf8_all (chars bytes)) ≡ Some k = ap (λ z. word_among reserved_words (encode_utf8_all z)) s ∙ ap (word_among reserved_words) (word_encodes k) ∙ word_found k in
        let same : word_among reserved_words (encode_utf8_all (chars bytes)) ≡ None = ap (word_among reserved_words) (encodes-chars bytes u) ∙ none in
        cc

pub names_nothing : (bytes : List ℕ) (k : Word) → IsUtf8 bytes → word_among reserved_words bytes ≡ Some k → IsName (chars bytes) → ⊥
names_nothing bytes k u some n = n.1 k (among_is reserved_words (chars bytes) k (ap (word_among reserved_words) (encodes-chars bytes u) ∙ some))

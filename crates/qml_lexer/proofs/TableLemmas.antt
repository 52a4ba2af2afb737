-- The tables of marks and reserved words.
use Rattle.std.proofs.Common.{◌≡◌, ℕ, zero, suc, ◌<◌, ◌≤◌, Bool, true, false, not, ◌&&◌, ◌||◌, List, [], ◌∷◌, ◌++◌, length, Option, Some, None, is_some, refl, sym, ap, ◌∙◌, arith, if◌then◌else◌, length-append}
use Rattle.std.proofs.lemmas.Bool.Decides.{nat_tests}
use Rattle.std.specs.Prelude.{◌==◌, nat_lt}
use Rattle.std.specs.List.{list_all}
use Rattle.std.specs.Char.{is_digit, is_ascii_lowercase}
use Rattle.qml_syntax.specs.declared.mark.Mark.{Mark}
use Rattle.qml_syntax.specs.declared.mark.Mark.TheVariants as mark
use Rattle.qml_syntax.specs.declared.word.Word.{Word}
use Rattle.qml_syntax.specs.declared.word.Word.TheVariants as word
use Rattle.qml_lexer.specs.declared.marks.TheConstants.{MARKS}
use Rattle.qml_lexer.specs.Names.{reserved_words, word_spelling, word_among}
use Rattle.unicode_ident.proofs.Computing.{unicode_ident}
use Rattle.qml_lexer.specs.Characters.{is_blank, is_quote, is_start}
use Rattle.qml_lexer.specs.Marks.{mark_spelling, behind_all, found_or, first_of}
use Rattle.qml_lexer.proofs.PairLemmas.{some_parts}
use Rattle.qml_lexer.proofs.RunLemmas.{and_true, negated}
use Rattle.qml_lexer.proofs.CharacterLemmas.{same_number}

-- ---- marks

abbrev pub nth : List Mark → ℕ → Option Mark
nth [] n = None
nth (m ∷ ms) zero = Some m
nth (m ∷ ms) (suc n) = nth ms n

place_of : Mark → ℕ
place_of mark.Colon = 0
place_of mark.Dot = 1
place_of mark.LeftParen = 2
place_of mark.RightParen = 3
place_of mark.LeftBrace = 4
place_of mark.RightBrace = 5
place_of mark.Semicolon = 6
place_of mark.Comma = 7
place_of mark.LeftBracket = 8
place_of mark.RightBracket = 9
place_of mark.BitNot = 10
place_of mark.Decrement = 11
place_of mark.MinusAssign = 12
place_of mark.Minus = 13
place_of mark.Increment = 14
place_of mark.PlusAssign = 15
place_of mark.Plus = 16
place_of mark.StarAssign = 17
place_of mark.Star = 18
place_of mark.SlashAssign = 19
place_of mark.Slash = 20
place_of mark.StrictEqual = 21
place_of mark.Equal = 22
place_of mark.Arrow = 23
place_of mark.Assign = 24
place_of mark.ShiftLeftAssign = 25
place_of mark.LessEqual = 26
place_of mark.ShiftLeft = 27
place_of mark.Less = 28
place_of mark.ShiftRightUnsignedAssign = 29
place_of mark.ShiftRightUnsigned = 30
place_of mark.ShiftRightAssign = 31
place_of mark.GreaterEqual = 32
place_of mark.ShiftRight = 33
place_of mark.Greater = 34
place_of mark.StrictNotEqual = 35
place_of mark.NotEqual = 36
place_of mark.Not = 37
place_of mark.And = 38
place_of mark.BitAndAssign = 39
place_of mark.BitAnd = 40
place_of mark.Or = 41
place_of mark.BitOrAssign = 42
place_of mark.BitOr = 43
place_of mark.Coalesce = 44
place_of mark.Question = 45
place_of mark.PercentAssign = 46
place_of mark.Percent = 47
place_of mark.BitXorAssign = 48
place_of mark.BitXor = 49

at_place : (m : Mark) → nth MARKS (place_of m) ≡ Some m
unfolding place_of
at_place mark.LeftBrace = refl
at_place _ = refl

-- the spelling of one mark begins that of the other
abbrev is_front : Mark → Mark → Bool
is_front a b = is_some (behind_all (mark_spelling b) (mark_spelling a))

-- no mark stands behind one that begins it
abbrev in_order : List Mark → Bool
in_order [] = true
in_order (m ∷ ms) = list_all (λ k. not (is_front m k)) ms && in_order ms

marks_in_order : in_order MARKS ≡ true
marks_in_order = refl

pub cut_all : (xs ss rest : List ℕ) → behind_all xs ss ≡ Some rest → xs ≡ ss ++ rest
cut_all xs [] rest h = cc
cut_all [] (s ∷ ss) rest h = cc
cut_all (x ∷ xs) (s ∷ ss) rest h = by (cut_all xs ss rest) (x == s) refl h
  where
    by : (behind_all xs ss ≡ Some rest → xs ≡ ss ++ rest) → (v : Bool) → (x == s) ≡ v → (if v then behind_all xs ss else None) ≡ Some rest → x ∷ xs ≡ s ∷ (ss ++ rest)
    by r true e g = let same : x ≡ s = same_number x s e in ap (λ y. y ∷ xs) same ∙ ap (λ ys. s ∷ ys) (r g)
    by r false e g = cc

itself : (x : ℕ) → (x == x) ≡ true
itself x = grind (arith, nat_tests)

pub all_cut : (ss rest : List ℕ) → behind_all (ss ++ rest) ss ≡ Some rest
all_cut [] rest = refl
all_cut (s ∷ ss) rest = let met : (s == s) ≡ true = itself s in rw met (all_cut ss rest)

-- of two spellings that stand at one front, the one that doesn't begin the other is longer
longer : (xs ss ts rest more : List ℕ) → behind_all xs ss ≡ Some rest → behind_all xs ts ≡ Some more → is_some (behind_all ts ss) ≡ false → length rest < length more
longer xs [] ts rest more h g f = cc
longer [] (s ∷ ss) ts rest more h g f = cc
longer (x ∷ xs) (s ∷ ss) [] rest more h g f =
    let whole : x ∷ xs ≡ more = cc in
    let cut = cut_all (x ∷ xs) (s ∷ ss) rest h in
    omega (arith, ap length whole, ap length cut, length-append (s ∷ ss) rest)
longer (x ∷ xs) (s ∷ ss) (t ∷ ts) rest more h g f = by (longer xs ss ts rest more) (x == s) refl h (x == t) refl g
  where
    by : (behind_all xs ss ≡ Some rest → behind_all xs ts ≡ Some more → is_some (behind_all ts ss) ≡ false → length rest < length more)
        → (v : Bool) → (x == s) ≡ v → (if v then behind_all xs ss else None) ≡ Some rest → (w : Bool) → (x == t) ≡ w → (if w then behind_all xs ts else None) ≡ Some more → length rest < length more
    by r true e i true d j =
        let met : (t == s) ≡ true = ap (λ z. z == s) (sym (same_number x t d) ∙ same_number x s e) ∙ itself s in
        r i j (rw met at f)
    by r true e i false d j = cc
    by r false e i w d j = cc

-- the mark that is found where a mark stands: at least as long
pub record Found (ms : List Mark) (m : Mark) (xs more : List ℕ) : Type 0 where
  pub mark : Mark
  pub rest : List ℕ
  pub found : first_of ms xs ≡ Some (mark, rest)
  pub short : length rest ≤ length more
  pub same : length rest ≡ length more → mark ≡ m

-- a mark further behind isn't begun by the first
not_begun : (k : Mark) (ms : List Mark) (n : ℕ) (m : Mark) → nth ms n ≡ Some m → list_all (λ j. not (is_front k j)) ms ≡ true → is_front k m ≡ false
not_begun k [] n m i h = cc
not_begun k (j ∷ ms) zero m i h =
    let same : j ≡ m = cc in
    let first : not (is_front k j) ≡ true = (and_true (not (is_front k j)) (list_all (λ z. not (is_front k z)) ms) h).0 in
    let here : not (is_front k m) ≡ true = ap (λ z. not (is_front k z)) (sym same) ∙ first in
    negated (is_front k m) here
not_begun k (j ∷ ms) (suc n) m i h = not_begun k ms n m i (and_true (not (is_front k j)) (list_all (λ z. not (is_front k z)) ms) h).1

found_in : (ms : List Mark) (n : ℕ) (m : Mark) (xs more : List ℕ) → nth ms n ≡ Some m → in_order ms ≡ true → behind_all xs (mark_spelling m) ≡ Some more → Found ms m xs more
found_in [] n m xs more i o h = cc
found_in (k ∷ ms) zero m xs more i o h =
    let same : k ≡ m = cc in
    record {
      mark = m;
      rest = more;
      found = ap (λ z. found_or z (behind_all xs (mark_spelling z)) (first_of ms xs)) same ∙ ap (λ z. found_or m z (first_of ms xs)) h;
      short = omega arith;
      same = λ e. refl;
    }
found_in (k ∷ ms) (suc n) m xs more i o h =
    let both = and_true (list_all (λ j. not (is_front k j)) ms) (in_order ms) o in
    by (found_in ms n m xs more i both.1 h) both.0 (behind_all xs (mark_spelling k)) refl
  where
    by : Found ms m xs more → list_all (λ j. not (is_front k j)) ms ≡ true → (r : Option (List ℕ)) → behind_all xs (mark_spelling k) ≡ r → Found (k ∷ ms) m xs more
    by f a None e = record {
      mark = f.mark;
      rest = f.rest;
      found = ap (λ z. found_or k z (first_of ms xs)) e ∙ f.found;
      short = f.short;
      same = f.same;
    }
    by f a (Some r) e =
        let less : length r < length more = longer xs (mark_spelling k) (mark_spelling m) r more e h (not_begun k ms n m i a) in
        record {
          mark = k;
          rest = r;
          found = ap (λ z. found_or k z (first_of ms xs)) e;
          short = omega arith;
          same = λ g. absurd (omega arith);
        }

pub mark_found : (m : Mark) (rest : List ℕ) → Found MARKS m (mark_spelling m ++ rest) rest
mark_found m rest = found_in MARKS (place_of m) m (mark_spelling m ++ rest) rest (at_place m) marks_in_order (all_cut (mark_spelling m) rest)

-- what is found stands there
pub found_cut : (ms : List Mark) (m : Mark) (xs rest : List ℕ) → first_of ms xs ≡ Some (m, rest) → xs ≡ mark_spelling m ++ rest
found_cut [] m xs rest h = cc
found_cut (k ∷ ms) m xs rest h = by (found_cut ms m xs rest) (behind_all xs (mark_spelling k)) refl h
  where
    by : (first_of ms xs ≡ Some (m, rest) → xs ≡ mark_spelling m ++ rest) → (o : Option (List ℕ)) → behind_all xs (mark_spelling k) ≡ o → found_or k o (first_of ms xs) ≡ Some (m, rest) → xs ≡ mark_spelling m ++ rest
    by f None e g = f g
    by f (Some r) e g =
        let parts = some_parts (k, r) (m, rest) g in
        cut_all xs (mark_spelling k) r e ∙ ap (λ z. mark_spelling z ++ r) parts.0 ∙ ap (λ z. mark_spelling m ++ z) parts.1

-- no mark begins as another token does
abbrev pub begins_mark : List ℕ → Bool
begins_mark [] = false
begins_mark (x ∷ xs) = not (((is_blank x || is_quote x) || is_digit x 10) || is_start x)

pub mark_begins : (m : Mark) → begins_mark (mark_spelling m) ≡ true
unfolding unicode_ident
mark_begins mark.LeftBrace = refl
mark_begins _ = refl

-- ---- words

pub word_letters : (w : Word) → list_all is_ascii_lowercase (word_spelling w) ≡ true
word_letters word.Break = refl
word_letters _ = refl

pub word_length : (w : Word) → nat_lt 0 (length (word_spelling w)) ≡ true
word_length word.Break = refl
word_length _ = refl

pub word_found : (w : Word) → word_among reserved_words (word_spelling w) ≡ Some w
word_found word.Break = refl
word_found _ = refl

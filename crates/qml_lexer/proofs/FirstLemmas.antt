-- Marks and reserved words by what they begin with.
use Rattle.std.proofs.Common.{◌≡◌, ◌≢◌, ℕ, false, List, [], ◌∷◌, refl, arith}
use Rattle.std.specs.Prelude.{nat_eq}
use Rattle.std.proofs.lemmas.Bool.Decides.{nat_tests}
use Rattle.qml_syntax.specs.declared.mark.Mark.TheVariants as mark
use Rattle.qml_syntax.specs.declared.word.Word.TheVariants as word
use Rattle.qml_lexer.specs.declared.marks.TheConstants.{MARKS, MARKS_FROM_LESS, MARKS_FROM_GREATER}
use Rattle.qml_lexer.specs.Names.{reserved_words, word_among}
use Rattle.qml_lexer.specs.Marks.{first_of}

-- ---- marks

pub from_colon : (x : ℕ) (xs : List ℕ) → x ≡ 58 → first_of (mark.Colon ∷ []) (x ∷ xs) ≡ first_of MARKS (x ∷ xs)
from_colon x xs e = rw e refl

pub from_dot : (x : ℕ) (xs : List ℕ) → x ≡ 46 → first_of (mark.Dot ∷ []) (x ∷ xs) ≡ first_of MARKS (x ∷ xs)
from_dot x xs e = rw e refl

pub from_left_paren : (x : ℕ) (xs : List ℕ) → x ≡ 40 → first_of (mark.LeftParen ∷ []) (x ∷ xs) ≡ first_of MARKS (x ∷ xs)
from_left_paren x xs e = rw e refl

pub from_right_paren : (x : ℕ) (xs : List ℕ) → x ≡ 41 → first_of (mark.RightParen ∷ []) (x ∷ xs) ≡ first_of MARKS (x ∷ xs)
from_right_paren x xs e = rw e refl

pub from_left_brace : (x : ℕ) (xs : List ℕ) → x ≡ 123 → first_of (mark.LeftBrace ∷ []) (x ∷ xs) ≡ first_of MARKS (x ∷ xs)
from_left_brace x xs e = rw e refl

pub from_right_brace : (x : ℕ) (xs : List ℕ) → x ≡ 125 → first_of (mark.RightBrace ∷ []) (x ∷ xs) ≡ first_of MARKS (x ∷ xs)
from_right_brace x xs e = rw e refl

pub from_semicolon : (x : ℕ) (xs : List ℕ) → x ≡ 59 → first_of (mark.Semicolon ∷ []) (x ∷ xs) ≡ first_of MARKS (x ∷ xs)
from_semicolon x xs e = rw e refl

pub from_comma : (x : ℕ) (xs : List ℕ) → x ≡ 44 → first_of (mark.Comma ∷ []) (x ∷ xs) ≡ first_of MARKS (x ∷ xs)
from_comma x xs e = rw e refl

pub from_left_bracket : (x : ℕ) (xs : List ℕ) → x ≡ 91 → first_of (mark.LeftBracket ∷ []) (x ∷ xs) ≡ first_of MARKS (x ∷ xs)
from_left_bracket x xs e = rw e refl

pub from_right_bracket : (x : ℕ) (xs : List ℕ) → x ≡ 93 → first_of (mark.RightBracket ∷ []) (x ∷ xs) ≡ first_of MARKS (x ∷ xs)
from_right_bracket x xs e = rw e refl

pub from_bit_not : (x : ℕ) (xs : List ℕ) → x ≡ 126 → first_of (mark.BitNot ∷ []) (x ∷ xs) ≡ first_of MARKS (x ∷ xs)
from_bit_not x xs e = rw e refl

pub from_minus : (x : ℕ) (xs : List ℕ) → x ≡ 45 → first_of (mark.Decrement ∷ mark.MinusAssign ∷ mark.Minus ∷ []) (x ∷ xs) ≡ first_of MARKS (x ∷ xs)
from_minus x xs e = rw e refl

pub from_plus : (x : ℕ) (xs : List ℕ) → x ≡ 43 → first_of (mark.Increment ∷ mark.PlusAssign ∷ mark.Plus ∷ []) (x ∷ xs) ≡ first_of MARKS (x ∷ xs)
from_plus x xs e = rw e refl

pub from_star : (x : ℕ) (xs : List ℕ) → x ≡ 42 → first_of (mark.StarAssign ∷ mark.Star ∷ []) (x ∷ xs) ≡ first_of MARKS (x ∷ xs)
from_star x xs e = rw e refl

pub from_slash : (x : ℕ) (xs : List ℕ) → x ≡ 47 → first_of (mark.SlashAssign ∷ mark.Slash ∷ []) (x ∷ xs) ≡ first_of MARKS (x ∷ xs)
from_slash x xs e = rw e refl

pub from_assign : (x : ℕ) (xs : List ℕ) → x ≡ 61 → first_of (mark.StrictEqual ∷ mark.Equal ∷ mark.Arrow ∷ mark.Assign ∷ []) (x ∷ xs) ≡ first_of MARKS (x ∷ xs)
from_assign x xs e = rw e refl

pub from_less : (x : ℕ) (xs : List ℕ) → x ≡ 60 → first_of MARKS_FROM_LESS (x ∷ xs) ≡ first_of MARKS (x ∷ xs)
from_less x xs e = rw e refl

pub from_greater : (x : ℕ) (xs : List ℕ) → x ≡ 62 → first_of MARKS_FROM_GREATER (x ∷ xs) ≡ first_of MARKS (x ∷ xs)
from_greater x xs e = rw e refl

pub from_not : (x : ℕ) (xs : List ℕ) → x ≡ 33 → first_of (mark.StrictNotEqual ∷ mark.NotEqual ∷ mark.Not ∷ []) (x ∷ xs) ≡ first_of MARKS (x ∷ xs)
from_not x xs e = rw e refl

pub from_bit_and : (x : ℕ) (xs : List ℕ) → x ≡ 38 → first_of (mark.And ∷ mark.BitAndAssign ∷ mark.BitAnd ∷ []) (x ∷ xs) ≡ first_of MARKS (x ∷ xs)
from_bit_and x xs e = rw e refl

pub from_bit_or : (x : ℕ) (xs : List ℕ) → x ≡ 124 → first_of (mark.Or ∷ mark.BitOrAssign ∷ mark.BitOr ∷ []) (x ∷ xs) ≡ first_of MARKS (x ∷ xs)
from_bit_or x xs e = rw e refl

pub from_question : (x : ℕ) (xs : List ℕ) → x ≡ 63 → first_of (mark.Coalesce ∷ mark.Question ∷ []) (x ∷ xs) ≡ first_of MARKS (x ∷ xs)
from_question x xs e = rw e refl

pub from_percent : (x : ℕ) (xs : List ℕ) → x ≡ 37 → first_of (mark.PercentAssign ∷ mark.Percent ∷ []) (x ∷ xs) ≡ first_of MARKS (x ∷ xs)
from_percent x xs e = rw e refl

pub from_bit_xor : (x : ℕ) (xs : List ℕ) → x ≡ 94 → first_of (mark.BitXorAssign ∷ mark.BitXor ∷ []) (x ∷ xs) ≡ first_of MARKS (x ∷ xs)
from_bit_xor x xs e = rw e refl

pub ruleset marks_by_first = (from_colon, from_dot, from_left_paren, from_right_paren, from_left_brace, from_right_brace, from_semicolon, from_comma, from_left_bracket, from_right_bracket, from_bit_not, from_minus, from_plus, from_star, from_slash, from_assign, from_less, from_greater, from_not, from_bit_and, from_bit_or, from_question, from_percent, from_bit_xor)

-- ---- reserved words

pub from_b : (b : ℕ) (bytes : List ℕ) → b ≡ 98 → word_among (word.Break ∷ []) (b ∷ bytes) ≡ word_among reserved_words (b ∷ bytes)
from_b b bytes e = rw e refl

pub from_c : (b : ℕ) (bytes : List ℕ) → b ≡ 99 → word_among (word.Case ∷ word.Catch ∷ word.Class ∷ word.Const ∷ word.Continue ∷ []) (b ∷ bytes) ≡ word_among reserved_words (b ∷ bytes)
from_c b bytes e = rw e refl

pub from_d : (b : ℕ) (bytes : List ℕ) → b ≡ 100 → word_among (word.Debugger ∷ word.Default ∷ word.Delete ∷ word.Do ∷ []) (b ∷ bytes) ≡ word_among reserved_words (b ∷ bytes)
from_d b bytes e = rw e refl

pub from_e : (b : ℕ) (bytes : List ℕ) → b ≡ 101 → word_among (word.Else ∷ word.Enum ∷ word.Export ∷ word.Extends ∷ []) (b ∷ bytes) ≡ word_among reserved_words (b ∷ bytes)
from_e b bytes e = rw e refl

pub from_f : (b : ℕ) (bytes : List ℕ) → b ≡ 102 → word_among (word.False ∷ word.Finally ∷ word.For ∷ word.Function ∷ []) (b ∷ bytes) ≡ word_among reserved_words (b ∷ bytes)
from_f b bytes e = rw e refl

pub from_i : (b : ℕ) (bytes : List ℕ) → b ≡ 105 → word_among (word.If ∷ word.Import ∷ word.In ∷ word.InstanceOf ∷ []) (b ∷ bytes) ≡ word_among reserved_words (b ∷ bytes)
from_i b bytes e = rw e refl

pub from_l : (b : ℕ) (bytes : List ℕ) → b ≡ 108 → word_among (word.Let ∷ []) (b ∷ bytes) ≡ word_among reserved_words (b ∷ bytes)
from_l b bytes e = rw e refl

pub from_n : (b : ℕ) (bytes : List ℕ) → b ≡ 110 → word_among (word.New ∷ word.Null ∷ []) (b ∷ bytes) ≡ word_among reserved_words (b ∷ bytes)
from_n b bytes e = rw e refl

pub from_r : (b : ℕ) (bytes : List ℕ) → b ≡ 114 → word_among (word.Return ∷ []) (b ∷ bytes) ≡ word_among reserved_words (b ∷ bytes)
from_r b bytes e = rw e refl

pub from_s : (b : ℕ) (bytes : List ℕ) → b ≡ 115 → word_among (word.Super ∷ word.Switch ∷ []) (b ∷ bytes) ≡ word_among reserved_words (b ∷ bytes)
from_s b bytes e = rw e refl

pub from_t : (b : ℕ) (bytes : List ℕ) → b ≡ 116 → word_among (word.This ∷ word.Throw ∷ word.True ∷ word.Try ∷ word.TypeOf ∷ []) (b ∷ bytes) ≡ word_among reserved_words (b ∷ bytes)
from_t b bytes e = rw e refl

pub from_v : (b : ℕ) (bytes : List ℕ) → b ≡ 118 → word_among (word.Var ∷ word.Void ∷ []) (b ∷ bytes) ≡ word_among reserved_words (b ∷ bytes)
from_v b bytes e = rw e refl

pub from_w : (b : ℕ) (bytes : List ℕ) → b ≡ 119 → word_among (word.While ∷ word.With ∷ []) (b ∷ bytes) ≡ word_among reserved_words (b ∷ bytes)
from_w b bytes e = rw e refl

pub from_y : (b : ℕ) (bytes : List ℕ) → b ≡ 121 → word_among (word.Yield ∷ []) (b ∷ bytes) ≡ word_among reserved_words (b ∷ bytes)
from_y b bytes e = rw e refl

other_byte : (k b : ℕ) → b ≢ k → nat_eq k b ≡ false
other_byte k b n = grind (arith, nat_tests)

pub from_another : (b : ℕ) (bytes : List ℕ) → b ≢ 98 → b ≢ 99 → b ≢ 100 → b ≢ 101 → b ≢ 102 → b ≢ 105 → b ≢ 108 → b ≢ 110 → b ≢ 114 → b ≢ 115 → b ≢ 116 → b ≢ 118 → b ≢ 119 → b ≢ 121 → word_among [] (b ∷ bytes) ≡ word_among reserved_words (b ∷ bytes)
from_another b bytes n_b n_c n_d n_e n_f n_i n_l n_n n_r n_s n_t n_v n_w n_y = rw (other_byte 98 b n_b, other_byte 99 b n_c, other_byte 100 b n_d, other_byte 101 b n_e, other_byte 102 b n_f, other_byte 105 b n_i, other_byte 108 b n_l, other_byte 110 b n_n, other_byte 114 b n_r, other_byte 115 b n_s, other_byte 116 b n_t, other_byte 118 b n_v, other_byte 119 b n_w, other_byte 121 b n_y) refl

pub ruleset words_by_first = (from_b, from_c, from_d, from_e, from_f, from_i, from_l, from_n, from_r, from_s, from_t, from_v, from_w, from_y, from_another)

-- Blanks and words.
use Rattle.std.proofs.Common.{◌≡◌, ◌≢◌, ℕ, ◌-◌, ◌<◌, ◌≤◌, Bool, true, false, not, ◌&&◌, List, [], ◌∷◌, ◌++◌, length, length-append, take, refl, sym, ap, ◌∙◌, arith, if◌then◌else◌}
use Rattle.std.specs.List.{list_all}
use Rattle.std.specs.Str.{chars, IsUtf8, encode_utf8_all}
use Rattle.std.specs.Str.{IsCharBoundary}
use Rattle.std.proofs.lemmas.Str.{encodes-chars, chars_from_encodes, IsUtf8-take}
use Rattle.qml_lexer.proofs.Utf8Lemmas.{split_bytes, cut_run, boundary_at, front_of_seam}
use Rattle.qml_lexer.specs.Characters.{is_blank, run, behind}
use Rattle.qml_lexer.proofs.RunLemmas.{behind_short}
use Rattle.event_script.specs.Lines.{end_blanks, without_end, is_ink}

-- what isn't all blank has its last blanks behind its first word
pub behind_a_word : (xs : List ℕ) → end_blanks xs ≡ end_blanks (behind is_ink xs)
behind_a_word [] = refl
behind_a_word (x ∷ xs) = by (behind_a_word xs) (is_blank x) refl
  where
    by : end_blanks xs ≡ end_blanks (behind is_ink xs) → (v : Bool) → is_blank x ≡ v
        → (if v && list_all is_blank xs then x ∷ xs else end_blanks xs) ≡ end_blanks (if not v then behind is_ink xs else x ∷ xs)
    by r true h = rw h refl
    by r false h = r

blanks_alone : (xs : List ℕ) → behind is_blank xs ≡ [] → list_all is_blank xs ≡ true
blanks_alone [] h = refl
blanks_alone (x ∷ xs) h = by (blanks_alone xs) (is_blank x) h
  where
    by : (behind is_blank xs ≡ [] → list_all is_blank xs ≡ true) → (v : Bool) → (if v then behind is_blank xs else x ∷ xs) ≡ [] → (v && list_all is_blank xs) ≡ true
    by r true h = r h
    by r false h = cc

something_else : (xs : List ℕ) → behind is_blank xs ≢ [] → list_all is_blank xs ≡ false
something_else [] h = absurd (h refl)
something_else (x ∷ xs) h = by (something_else xs) (is_blank x) h
  where
    by : (behind is_blank xs ≢ [] → list_all is_blank xs ≡ false) → (v : Bool) → (if v then behind is_blank xs else x ∷ xs) ≢ [] → (v && list_all is_blank xs) ≡ false
    by r true h = r h
    by r false h = refl

-- blanks at the front with nothing behind them are those at the end
pub all_at_the_end : (xs : List ℕ) → behind is_blank xs ≡ [] → end_blanks xs ≡ xs
all_at_the_end [] h = refl
all_at_the_end (x ∷ xs) h = let all = blanks_alone (x ∷ xs) h in rw all refl

-- where something stands behind them, those at the end stand behind that
pub none_at_the_end : (xs : List ℕ) → behind is_blank xs ≢ [] → end_blanks xs ≡ end_blanks (behind is_blank xs)
none_at_the_end [] h = refl
none_at_the_end (x ∷ xs) h = by (none_at_the_end xs) (is_blank x) refl h
  where
    by : (behind is_blank xs ≢ [] → end_blanks xs ≡ end_blanks (behind is_blank xs)) → (v : Bool) → is_blank x ≡ v → (if v then behind is_blank xs else x ∷ xs) ≢ []
        → (if v && list_all is_blank xs then x ∷ xs else end_blanks xs) ≡ end_blanks (if v then behind is_blank xs else x ∷ xs)
    by r true e h = let other : list_all is_blank xs ≡ false = something_else xs h in rw other (r h)
    by r false e h = rw e refl

-- a word and the blanks behind it are some characters
pub goes_down : (xs : List ℕ) → xs ≢ [] → length (behind is_blank (behind is_ink xs)) < length xs
goes_down [] h = absurd (h refl)
goes_down (x ∷ xs) h = by (is_blank x) refl
  where
    by : (v : Bool) → is_blank x ≡ v → length (behind is_blank (if not v then behind is_ink xs else x ∷ xs)) < length (x ∷ xs)
    by true e = rw e (omega (arith, behind_short is_blank xs))
    by false e = omega (arith, behind_short is_blank (behind is_ink xs), behind_short is_ink xs)

pub word_skipped : (xs blanks : List ℕ) → blanks ≡ behind is_ink xs → end_blanks xs ≡ end_blanks blanks
word_skipped xs blanks e = behind_a_word xs ∙ ap end_blanks (sym e)

-- the blanks at the end, and what stands before them
pub end_joins : (xs : List ℕ) → without_end xs ++ end_blanks xs ≡ xs
end_joins [] = refl
end_joins (x ∷ xs) = by (end_joins xs) (list_all is_blank (x ∷ xs))
  where
    by : without_end xs ++ end_blanks xs ≡ xs → (v : Bool) → (if v then [] else x ∷ without_end xs) ++ (if v then x ∷ xs else end_blanks xs) ≡ x ∷ xs
    by r true = refl
    by r false = ap (λ z. x ∷ z) r

-- ---- the same of texts

pub some_chars : (bytes : List ℕ) → IsUtf8 bytes → (length bytes ≡ 0 → ⊥) → chars bytes ≢ []
some_chars bytes u h e = h (ap length (sym (encodes-chars bytes u) ∙ ap encode_utf8_all e))

pub no_chars : (bytes : List ℕ) → length bytes ≡ 0 → chars bytes ≡ []
unfolding chars
no_chars [] e = refl
no_chars (x ∷ bytes) e = cc

pub rest_smaller : (rest blanks next : List ℕ) → IsUtf8 rest → (length rest ≡ 0 → ⊥) → chars blanks ≡ behind is_ink (chars rest) → chars next ≡ behind is_blank (chars blanks)
    → length (chars next) < length (chars rest)
rest_smaller rest blanks next u h b n =
    let same : chars next ≡ behind is_blank (behind is_ink (chars rest)) = n ∙ ap (behind is_blank) b in
    omega (arith, ap length same, goes_down (chars rest) (some_chars rest u h))

pub words_go_on : (text blanks rest next : List ℕ) → IsUtf8 rest → (length rest ≡ 0 → ⊥) → end_blanks (chars text) ≡ end_blanks (chars blanks) → chars rest ≡ behind is_blank (chars blanks)
    → chars next ≡ behind is_ink (chars rest) → end_blanks (chars text) ≡ end_blanks (chars next)
words_go_on text blanks rest next u h known r n =
    known ∙ none_at_the_end (chars blanks) (λ e. some_chars rest u h (r ∙ e)) ∙ ap end_blanks (sym r) ∙ word_skipped (chars rest) (chars next) n

pub words_end : (text blanks rest : List ℕ) → IsUtf8 rest → length rest ≡ 0 → end_blanks (chars text) ≡ end_blanks (chars blanks) → chars rest ≡ behind is_blank (chars blanks)
    → chars blanks ≡ end_blanks (chars text)
words_end text blanks rest u h known r = sym (known ∙ all_at_the_end (chars blanks) (sym r ∙ no_chars rest h))

-- a text is what stands before its last blanks, and then these
pub end_cut : (text blanks : List ℕ) → IsUtf8 text → IsUtf8 blanks → chars blanks ≡ end_blanks (chars text) → text ≡ encode_utf8_all (without_end (chars text)) ++ blanks
end_cut text blanks u v e = split_bytes text blanks (without_end (chars text)) u v (sym (end_joins (chars text)) ∙ ap (λ z. without_end (chars text) ++ z) (sym e))

pub end_short : (text blanks : List ℕ) → IsUtf8 text → IsUtf8 blanks → chars blanks ≡ end_blanks (chars text) → length blanks ≤ length text
end_short text blanks u v e = omega (arith, length-append (encode_utf8_all (without_end (chars text))) blanks, ap length (end_cut text blanks u v e))

pub end_boundary : (text blanks : List ℕ) → IsUtf8 text → IsUtf8 blanks → chars blanks ≡ end_blanks (chars text) → IsCharBoundary text (length text - length blanks)
end_boundary text blanks u v e = boundary_at text (encode_utf8_all (without_end (chars text))) blanks v (end_cut text blanks u v e)

pub front_is : (text blanks : List ℕ) → IsUtf8 text → IsUtf8 blanks → chars blanks ≡ end_blanks (chars text) → chars (take (length text - length blanks) text) ≡ without_end (chars text)
front_is text blanks u v e =
    let whole = end_cut text blanks u v e in
    sym (chars_from_encodes (without_end (chars text)) (take (length text - length blanks) text)
    (IsUtf8-take text (length text - length blanks) u (end_boundary text blanks u v e))
    (sym (front_of_seam text (encode_utf8_all (without_end (chars text))) blanks whole)))

pub run_short : (p : ℕ → Bool) (text rest : List ℕ) → IsUtf8 text → IsUtf8 rest → chars rest ≡ behind p (chars text) → length rest ≤ length text
run_short p text rest u v e = omega (arith, length-append (encode_utf8_all (run p (chars text))) rest, ap length (cut_run p text rest u v e))

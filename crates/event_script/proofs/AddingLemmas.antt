-- What adding a line comes to.
use Rattle.std.proofs.Common.{◌≡◌, ℕ, ◌⊎◌, inl, inr, Bool, true, false, List, [], ◌∷◌, ◌++◌, length, refl, sym, subst}
use Rattle.std.specs.Prelude.{◌==◌}
use Rattle.std.specs.Str.{IsUtf8, chars}
use Rattle.qml_lexer.specs.Characters.{begins}
use Rattle.event_script.specs.Lines.{trimmed, word_of, rest_of}
use Rattle.event_script.specs.Script.{Asks, IsSkipped}
use Rattle.event_script.specs.declared.script.LineKind.{LineKind}
use Rattle.event_script.proofs.WordLemmas.{no_chars, some_chars}
use Rattle.qml_text.specs.Utf.{encode_utf16_all}
use Rattle.event_script.specs.Adding.{AddsText, blank, asks_for, asks_nothing, Adds, left_out, added_line, bad}
use Rattle.event_script.specs.declared.script.Line.{Line}

pub comment : (n : ℕ) (line : List ℕ) (lines : List Line) → IsUtf8 line → begins (λ x. x == 35) (chars line) ≡ true → Adds n line lines lines true
comment n line lines u h = left_out (record { utf8 = u; skipped = inl h })

pub no_text : (n : ℕ) (line : List ℕ) (old new : List Line) → (IsUtf8 line → ⊥) → Adds n line old new false
no_text n line old new h = bad (record { no_skip = λ s. h s.utf8; asks_nothing = λ kind text t. h t.utf8 })

pub line_by_text : (n : ℕ) (line : List ℕ) (old new : List Line) (good : Bool) → IsUtf8 line → begins (λ x. x == 35) (chars line) ≡ false
    → AddsText n (trimmed (chars line)) old new good → Adds n line old new good
line_by_text n line old _ _ u c (blank e) = left_out (record { utf8 = u; skipped = inr e })
line_by_text n line old _ _ u c (asks_for kind some a) = added_line (record { utf8 = u; no_comment = c; some = some; asks_for = a; is_text = refl })
line_by_text n line old new _ u c (asks_nothing some a) = bad (record { no_skip = none; asks_nothing = λ kind text t. a kind t.asks_for })
  where
    by : (begins (λ x. x == 35) (chars line) ≡ true) ⊎ (trimmed (chars line) ≡ []) → ⊥
    by (inl h) = let no : begins (λ x. x == 35) (chars line) ≡ false = c in cc
    by (inr h) = some h

    none : IsSkipped line → ⊥
    none s = by s.skipped

-- ---- a line without its outer blanks, as bytes

pub blank_text : (n : ℕ) (text : List ℕ) (lines : List Line) → length text ≡ 0 → AddsText n (chars text) lines lines true
blank_text n text lines e = blank (no_chars text e)

pub asking_text : (n : ℕ) (text word rest : List ℕ) (old : List Line) (kind : LineKind) → IsUtf8 text → (length text ≡ 0 → ⊥) → chars word ≡ word_of (chars text) → chars rest ≡ rest_of (chars text)
    → Asks (chars word) (chars rest) kind → AddsText n (chars text) old (old ++ record { number = n; what = kind; text = encode_utf16_all (chars text) } ∷ []) true
asking_text n text word rest old kind u some w r a =
    let P : List ℕ → Type 0 = λ z. Asks z (rest_of (chars text)) kind in
    let Q : List ℕ → Type 0 = λ z. Asks (chars word) z kind in
    asks_for kind (some_chars text u some) (subst P w (subst Q r a))

pub idle_text : (n : ℕ) (text word rest : List ℕ) (old new : List Line) → IsUtf8 text → (length text ≡ 0 → ⊥) → chars word ≡ word_of (chars text) → chars rest ≡ rest_of (chars text)
    → ((kind : LineKind) → Asks (chars word) (chars rest) kind → ⊥) → AddsText n (chars text) old new false
idle_text n text word rest old new u some w r none =
    let P : LineKind → List ℕ → Type 0 = λ kind z. Asks z (rest_of (chars text)) kind in
    let Q : LineKind → List ℕ → Type 0 = λ kind z. Asks (chars word) z kind in
    asks_nothing (some_chars text u some) (λ kind a. none kind (subst (Q kind) (sym r) (subst (P kind) (sym w) a)))

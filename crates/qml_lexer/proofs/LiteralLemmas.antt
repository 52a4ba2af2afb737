-- Texts and their spellings.
use Rattle.std.proofs.Common.{◌≡◌, ◌≢◌, ℕ, zero, suc, ◌+◌, ◌*◌, ◌<◌, ◌≤◌, ◌⊎◌, inl, inr, Bool, true, false, ◌&&◌, List, [], ◌∷◌, ◌++◌, length, Option, Some, None, Ok, Err, refl, sym, ap, ◌∙◌, subst, arith, if◌then◌else◌, append_assoc, length-append}
use Rattle.std.proofs.lemmas.Bool.Decides.{nat_tests}
use Rattle.std.specs.Prelude.{◌==◌}
use Rattle.std.specs.Char.{digit_value}
use Rattle.std.specs.Char.Escape.{encode_utf16}
use Rattle.qml_lexer.specs.declared.fault.LexCause.{LexCause}
use Rattle.qml_lexer.specs.declared.fault.LexCause.TheVariants as cause
use Rattle.qml_lexer.specs.Characters.{is_line_end}
use Rattle.qml_lexer.specs.Texts.{ReadsText, two_digits, four_digits, with_rest, escape, simple_escape, with_units, is_hex, body}
use Rattle.qml_lexer.specs.Spells.{IsEscape, simple, two_digits as two, four_digits as four, Says, nothing, plain, escaped}
use Rattle.qml_lexer.specs.Causes.{NoEscape, HasWrongEscape, here, behind_plain, behind_escape as behind_good}
use Rattle.qml_lexer.proofs.PairLemmas.{some_parts, ok_parts}
use Rattle.qml_lexer.proofs.CharacterLemmas.{different, same_number}
use Rattle.qml_lexer.proofs.TextLemmas.{two_short, two_value, four_of, four_short, four_value, four_unit, at_backslash, at_other, behind_escape}

-- ---- escapes

simple_read : (x u : ℕ) (rest : List ℕ) → simple_escape x ≡ Some u → escape (x ∷ rest) ≡ Some (u, rest)
unfolding escape
simple_read x u rest h = by (x == 120) refl (x == 117) refl
  where
    by : (v : Bool) → (x == 120) ≡ v → (w : Bool) → (x == 117) ≡ w → (if v then two_digits rest else (if w then four_digits rest else with_rest rest (simple_escape x))) ≡ Some (u, rest)
    by true e w d = let none : None ≡ Some u = sym (ap simple_escape (same_number x 120 e)) ∙ h in cc
    by false e true d = let none : None ≡ Some u = sym (ap simple_escape (same_number x 117 d)) ∙ h in cc
    by false e false d = ap (with_rest rest) h

pub escape_read : (e rest : List ℕ) (u : ℕ) → IsEscape e u → escape (e ++ rest) ≡ Some (u, rest)
unfolding escape
escape_read _ rest _ (simple {x} {u} h) = simple_read x u rest h
escape_read _ rest _ (two {a} {b} h g) = two_value a b rest ∙ rw (h, g) refl
escape_read _ rest _ (four {a} {b} {c} {d} h g i j) = four_value a b c d rest ∙ rw (h, g, i, j) refl

abbrev unit_and : ℕ → List ℕ → Option (ℕ × List ℕ)
unit_and u rest = Some (u, rest)

-- what an escape is cut off
pub record Escaped (xs rest : List ℕ) (u : ℕ) : Type 0 where
  pub e : List ℕ
  pub cut : xs ≡ e ++ rest
  pub is : IsEscape e u

two_cut : (xs rest : List ℕ) (u : ℕ) → two_digits xs ≡ Some (u, rest) → Escaped (120 ∷ xs) rest u
two_cut [] rest u h = cc
two_cut (a ∷ []) rest u h = let none = two_short a in cc
two_cut (a ∷ b ∷ xs) rest u h = by (is_hex a) refl (is_hex b) refl (sym (two_value a b xs) ∙ h)
  where
    by : (v : Bool) → is_hex a ≡ v → (w : Bool) → is_hex b ≡ w → (if v && w then unit_and (16 * digit_value a + digit_value b) xs else None) ≡ Some (u, rest) → Escaped (120 ∷ a ∷ b ∷ xs) rest u
    by true e true d g =
        let parts = some_parts (16 * digit_value a + digit_value b, xs) (u, rest) g in
        let P : ℕ → Type 0 = λ z. IsEscape (120 ∷ a ∷ b ∷ []) z in
        record { e = 120 ∷ a ∷ b ∷ []; cut = ap (λ z. 120 ∷ a ∷ b ∷ z) parts.1; is = subst P parts.0 (two e d) }
    by true e false d g = cc
    by false e w d g = cc

four_cut : (xs rest : List ℕ) (u : ℕ) → four_digits xs ≡ Some (u, rest) → Escaped (117 ∷ xs) rest u
four_cut [] rest u h = cc
four_cut (a ∷ []) rest u h = let none = four_of (two_digits (a ∷ [])) (two_short a) in cc
four_cut (a ∷ b ∷ []) rest u h = let none = four_short a b [] refl in cc
four_cut (a ∷ b ∷ c ∷ []) rest u h = let none = four_short a b (c ∷ []) (two_short c) in cc
four_cut (a ∷ b ∷ c ∷ d ∷ xs) rest u h = by (is_hex a) refl (is_hex b) refl (is_hex c) refl (is_hex d) refl (sym (four_value a b c d xs) ∙ h)
  where
    by : (v : Bool) → is_hex a ≡ v → (w : Bool) → is_hex b ≡ w → (y : Bool) → is_hex c ≡ y → (z : Bool) → is_hex d ≡ z
        → (if (v && w) && (y && z) then unit_and (four_unit a b c d) xs else None) ≡ Some (u, rest) → Escaped (117 ∷ a ∷ b ∷ c ∷ d ∷ xs) rest u
    by true e true f true i true j g =
        let parts = some_parts (four_unit a b c d, xs) (u, rest) g in
        let P : ℕ → Type 0 = λ z. IsEscape (117 ∷ a ∷ b ∷ c ∷ d ∷ []) z in
        record { e = 117 ∷ a ∷ b ∷ c ∷ d ∷ []; cut = ap (λ z. 117 ∷ a ∷ b ∷ c ∷ d ∷ z) parts.1; is = subst P parts.0 (four e f i j) }
    by true e true f true i false j g = cc
    by true e true f false i z j g = cc
    by true e false f y i z j g = cc
    by false e w f y i z j g = cc

simple_cut : (x : ℕ) (xs rest : List ℕ) (u : ℕ) → with_rest xs (simple_escape x) ≡ Some (u, rest) → Escaped (x ∷ xs) rest u
simple_cut x xs rest u h = by (simple_escape x) refl h
  where
    by : (o : Option ℕ) → simple_escape x ≡ o → with_rest xs o ≡ Some (u, rest) → Escaped (x ∷ xs) rest u
    by None e g = cc
    by (Some y) e g =
        let parts = some_parts (y, xs) (u, rest) g in
        let P : ℕ → Type 0 = λ z. IsEscape (x ∷ []) z in
        record { e = x ∷ []; cut = ap (λ z. x ∷ z) parts.1; is = subst P parts.0 (simple e) }

pub escape_cut : (xs rest : List ℕ) (u : ℕ) → escape xs ≡ Some (u, rest) → Escaped xs rest u
unfolding escape
escape_cut [] rest u h = cc
escape_cut (x ∷ xs) rest u h = by (x == 120) refl (x == 117) refl h
  where
    by : (v : Bool) → (x == 120) ≡ v → (w : Bool) → (x == 117) ≡ w → (if v then two_digits xs else (if w then four_digits xs else with_rest xs (simple_escape x))) ≡ Some (u, rest) → Escaped (x ∷ xs) rest u
    by true e w d g = let P : ℕ → Type 0 = λ z. Escaped (z ∷ xs) rest u in subst P (sym (same_number x 120 e)) (two_cut xs rest u g)
    by false e true d g = let P : ℕ → Type 0 = λ z. Escaped (z ∷ xs) rest u in subst P (sym (same_number x 117 d)) (four_cut xs rest u g)
    by false e false d g = simple_cut x xs rest u g

pub no_escape_is : (xs : List ℕ) → escape xs ≡ None → NoEscape xs
no_escape_is xs h = λ e rest u i c. let read = ap escape c ∙ escape_read e rest u i in cc

escape_some : (e rest : List ℕ) (u : ℕ) → IsEscape e u → 0 < length e
escape_some _ rest _ (simple h) = omega arith
escape_some _ rest _ (two h g) = omega arith
escape_some _ rest _ (four h g i j) = omega arith

-- ---- a text that is spelled is read

pub says_read : (q : ℕ) (w units rest : List ℕ) → q ≢ 92 → Says q w units → body q (w ++ q ∷ rest) ≡ Ok (units, rest)
says_read q _ _ rest n nothing = closed
  where
    itself : (q == q) ≡ true
    itself = grind (arith, nat_tests)

    closed : body q (q ∷ rest) ≡ Ok ([], rest)
    closed = rw itself refl
says_read q _ _ rest n (plain {x} {w} {units} a b l s) = at_other q x (w ++ q ∷ rest) a l b ∙ ap (with_units (encode_utf16 x)) (says_read q w units rest n s)
says_read q _ _ rest n (escaped {u} {e} {w} {units} i s) =
    at_backslash q ((e ++ w) ++ q ∷ rest) n
    ∙ ap (behind_escape q) (ap escape (append_assoc e w (q ∷ rest)) ∙ escape_read e (w ++ q ∷ rest) u i)
    ∙ ap (with_units (u ∷ [])) (says_read q w units rest n s)

-- ---- what is read is spelled

-- how the characters behind a quote are read
pub data View (q : ℕ) : List ℕ → ReadsText → Type 0 where
  v_end : View q [] (Err cause.OpenText)
  v_close : (x : ℕ) (xs : List ℕ) → x ≡ q → View q (x ∷ xs) (Ok ([], xs))
  v_line : (x : ℕ) (xs : List ℕ) → is_line_end x ≡ true → View q (x ∷ xs) (Err cause.OpenText)
  v_wrong : (x : ℕ) (xs : List ℕ) → x ≡ 92 → NoEscape xs → View q (x ∷ xs) (Err cause.Escape)
  v_plain : (x : ℕ) (xs : List ℕ) (r : ReadsText) → x ≢ q → x ≢ 92 → is_line_end x ≡ false → View q xs r → View q (x ∷ xs) (with_units (encode_utf16 x) r)
  v_escaped : (x u : ℕ) (e xs rest : List ℕ) (r : ReadsText) → x ≡ 92 → IsEscape e u → xs ≡ e ++ rest → View q rest r → View q (x ∷ xs) (with_units (u ∷ []) r)

pub view : (n q : ℕ) (xs : List ℕ) → q ≢ 92 → length xs ≤ n → View q xs (body q xs)
view n q [] z l = v_end
view zero q (x ∷ xs) z l = absurd (omega arith)
view (suc n) q (x ∷ xs) z l = by (λ ys m. view n q ys z m) (x == q) refl (is_line_end x) refl (x == 92) refl
  where
    shorter : (rest : List ℕ) (u : ℕ) → Escaped xs rest u → length rest ≤ n
    shorter rest u s = omega (arith, ap length s.cut, length-append s.e rest)

    slashed : ((ys : List ℕ) → length ys ≤ n → View q ys (body q ys)) → x ≡ 92 → (x == q) ≡ false → View q (x ∷ xs) (body q (x ∷ xs))
    slashed r e f = at (escape xs) refl
      where
        is : body q (x ∷ xs) ≡ behind_escape q (escape xs)
        is = ap (λ y. body q (y ∷ xs)) e ∙ at_backslash q xs z

        at : (o : Option (ℕ × List ℕ)) → escape xs ≡ o → View q (x ∷ xs) (body q (x ∷ xs))
        at None d = let P : ReadsText → Type 0 = λ y. View q (x ∷ xs) y in subst P (sym (is ∙ ap (behind_escape q) d)) (v_wrong x xs e (no_escape_is xs d))
        at (Some p) d =
            let s = escape_cut xs p.1 p.0 d in
            let P : ReadsText → Type 0 = λ y. View q (x ∷ xs) y in
            subst P (sym (is ∙ ap (behind_escape q) d)) (v_escaped x p.0 s.e xs p.1 (body q p.1) e s.is s.cut (r p.1 (shorter p.1 p.0 s)))

    by : ((ys : List ℕ) → length ys ≤ n → View q ys (body q ys)) → (v : Bool) → (x == q) ≡ v → (w : Bool) → is_line_end x ≡ w → (y : Bool) → (x == 92) ≡ y → View q (x ∷ xs) (body q (x ∷ xs))
    by r true e w d y f = rw e (v_close x xs (same_number x q e))
    by r false e true d y f = rw (e, d) (v_line x xs d)
    by r false e false d true f = slashed r (same_number x 92 f) e
    by r false e false d false f = rw (e, d, f) (v_plain x xs (body q xs) (different x q e) (different x 92 f) d (r xs (omega arith)))

pub view_of : (q : ℕ) (xs : List ℕ) → q ≢ 92 → View q xs (body q xs)
view_of q xs n = view (length xs) q xs n (omega arith)

-- an answer with units before it
record WithOk (front : List ℕ) (r : ReadsText) (p : List ℕ × List ℕ) : Type 0 where
  pub inner : List ℕ × List ℕ
  pub was : r ≡ Ok inner
  pub units : p.0 ≡ front ++ inner.0
  pub rest : inner.1 ≡ p.1

with_ok : (front : List ℕ) (r : ReadsText) (p : List ℕ × List ℕ) → with_units front r ≡ Ok p → WithOk front r p
with_ok front (Ok i) p h =
    let answer : ReadsText = Ok (front ++ i.0, i.1) in
    let parts = ok_parts answer (front ++ i.0, i.1) p refl h in
    record { inner = i; was = refl; units = sym parts.0; rest = parts.1 }
with_ok front (Err e) p h = cc

with_err : (front : List ℕ) (r : ReadsText) (c : LexCause) → with_units front r ≡ Err c → r ≡ Err c
with_err front (Ok i) c h = cc
with_err front (Err e) c h = h

-- the text that is cut off
pub record TextCut (q : ℕ) (xs : List ℕ) (p : List ℕ × List ℕ) : Type 0 where
  pub inside : List ℕ
  pub cut : xs ≡ inside ++ q ∷ p.1
  pub says : Says q inside p.0

pub text_cut : {q : ℕ} {xs : List ℕ} {r : ReadsText} → View q xs r → (p : List ℕ × List ℕ) → r ≡ Ok p → TextCut q xs p
text_cut v_end p h = cc
text_cut {q} (v_close x xs e) p h =
    let answer : ReadsText = Ok ([], xs) in
    let parts = ok_parts answer ([], xs) p refl h in
    let P : List ℕ → Type 0 = λ z. Says q [] z in
    record { inside = []; cut = ap (λ z. z ∷ xs) e ∙ ap (λ z. q ∷ z) parts.1; says = subst P parts.0 nothing }
text_cut (v_line x xs e) p h = cc
text_cut (v_wrong x xs e n) p h = cc
text_cut {q} (v_plain x xs r n b l v) p h =
    let w = with_ok (encode_utf16 x) r p h in
    let t = text_cut v w.inner w.was in
    let P : List ℕ → Type 0 = λ z. Says q (x ∷ t.inside) z in
    record {
      inside = x ∷ t.inside;
      cut = ap (λ z. x ∷ z) (t.cut ∙ ap (λ z. t.inside ++ q ∷ z) w.rest);
      says = subst P (sym w.units) (plain n b l t.says);
    }
text_cut {q} (v_escaped x u e xs rest r s i c v) p h =
    let w = with_ok (u ∷ []) r p h in
    let t = text_cut v w.inner w.was in
    let P : List ℕ → Type 0 = λ z. Says q (92 ∷ (e ++ t.inside)) z in
    record {
      inside = 92 ∷ (e ++ t.inside);
      cut = ap (λ z. z ∷ xs) s ∙ ap (λ z. 92 ∷ z) (c ∙ ap (λ z. e ++ z) (t.cut ∙ ap (λ z. t.inside ++ q ∷ z) w.rest) ∙ sym (append_assoc e t.inside (q ∷ p.1)));
      says = subst P (sym w.units) (escaped i t.says);
    }

-- why a text isn't read
pub text_stuck : {q : ℕ} {xs : List ℕ} {r : ReadsText} → View q xs r → (c : LexCause) → r ≡ Err c → (c ≡ cause.OpenText) ⊎ ((c ≡ cause.Escape) × HasWrongEscape xs)
text_stuck v_end c h = inl (let same : c ≡ cause.OpenText = cc in same)
text_stuck (v_close x xs e) c h = cc
text_stuck (v_line x xs e) c h = inl (let same : c ≡ cause.OpenText = cc in same)
text_stuck (v_wrong x xs e n) c h = inr (let same : c ≡ cause.Escape = cc in same, let P : ℕ → Type 0 = λ z. HasWrongEscape (z ∷ xs) in subst P (sym e) (here n))
text_stuck (v_plain x xs r n b l v) c h = by (text_stuck v c (with_err (encode_utf16 x) r c h))
  where
    by : (c ≡ cause.OpenText) ⊎ ((c ≡ cause.Escape) × HasWrongEscape xs) → (c ≡ cause.OpenText) ⊎ ((c ≡ cause.Escape) × HasWrongEscape (x ∷ xs))
    by (inl e) = inl e
    by (inr p) = inr (p.0, behind_plain b l p.1)
text_stuck (v_escaped x u e xs rest r s i k v) c h = by (text_stuck v c (with_err (u ∷ []) r c h))
  where
    by : (c ≡ cause.OpenText) ⊎ ((c ≡ cause.Escape) × HasWrongEscape rest) → (c ≡ cause.OpenText) ⊎ ((c ≡ cause.Escape) × HasWrongEscape (x ∷ xs))
    by (inl d) = inl d
    by (inr p) = inr (p.0, (let P : ℕ → Type 0 = λ z. HasWrongEscape (z ∷ xs) in subst P (sym s) (behind_good u e rest i k p.1)))

pub never_open : (q : ℕ) (xs : List ℕ) → q ≢ 92 → HasWrongEscape xs → body q xs ≡ Err cause.OpenText → ⊥
never_open q _ z (here {xs} n) h = by (escape xs) refl
  where
    is : behind_escape q (escape xs) ≡ Err cause.OpenText
    is = sym (at_backslash q xs z) ∙ h

    by : (o : Option (ℕ × List ℕ)) → escape xs ≡ o → ⊥
    by None e = let wrong : ReadsText = Err cause.Escape in let unclosed : ReadsText = Err cause.OpenText in let no : wrong ≡ unclosed = sym (ap (behind_escape q) e) ∙ is in cc
    by (Some p) e = let s = escape_cut xs p.1 p.0 e in n s.e p.1 p.0 s.is s.cut
never_open q _ z (behind_plain {x} {xs} b l w) h = by (never_open q xs z w) (x == q) refl
  where
    by : (body q xs ≡ Err cause.OpenText → ⊥) → (v : Bool) → (x == q) ≡ v → ⊥
    by r true e = let closed : body q (x ∷ xs) ≡ Ok ([], xs) = (rw e refl) in cc
    by r false e = r (with_err (encode_utf16 x) (body q xs) cause.OpenText (sym (at_other q x xs (different x q e) l b) ∙ h))
never_open q _ z (behind_good {xs} u e rest i c w) h =
    never_open q rest z w (with_err (u ∷ []) (body q rest) cause.OpenText (sym (at_backslash q xs z ∙ ap (behind_escape q) (ap escape c ∙ escape_read e rest u i)) ∙ h))

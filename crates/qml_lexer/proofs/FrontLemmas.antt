-- What the front of a text is cut into.
use Rattle.std.proofs.Common.{◌≡◌, ◌≢◌, ℕ, ◌<◌, ◌≤◌, ◌⊎◌, inl, inr, Bool, true, false, ◌||◌, List, [], ◌∷◌, ◌++◌, length, Option, Some, None, Ok, Err, refl, sym, ap, ◌∙◌, subst, arith, if◌then◌else◌, append_assoc, length-append}
use Rattle.std.specs.Prelude.{◌==◌, nat_lt}
use Rattle.std.specs.List.{list_all}
use Rattle.std.specs.Char.{is_digit}
use Rattle.qml_text.specs.Utf.{encode_utf16_all}
use Rattle.qml_syntax.specs.declared.mark.Mark.{Mark}
use Rattle.qml_syntax.specs.declared.token.TokenKind.{TokenKind}
use Rattle.qml_syntax.specs.declared.token.TokenKind.TheVariants as kind
use Rattle.qml_lexer.specs.declared.fault.LexCause.{LexCause}
use Rattle.qml_lexer.specs.declared.fault.LexCause.TheVariants as cause
use Rattle.qml_lexer.specs.Items.{Item}
use Rattle.qml_lexer.specs.Items as item
use Rattle.qml_lexer.specs.declared.marks.TheConstants.{MARKS}
use Rattle.qml_lexer.specs.Characters.{run, behind, is_blank, is_in_line, is_part, is_quote, is_start}
use Rattle.qml_lexer.specs.Causes.{BeginsBlock, HasCause, HasWrongEscape}
use Rattle.qml_lexer.specs.Front.{ReadsItem, behind_comment, closed, front, marked, named, numbered, of_kind, of_mark, of_text, quoted, slash}
use Rattle.qml_lexer.specs.Gaps.{IsGap, some_blanks, a_line_comment, a_block_comment}
use Rattle.qml_lexer.specs.Lex.{Takes, IsStuck}
use Rattle.qml_lexer.specs.Marks.{mark, mark_spelling, first_of}
use Rattle.qml_lexer.specs.Names.{name}
use Rattle.qml_lexer.specs.Numbers.{ReadsKind, number}
use Rattle.qml_lexer.specs.Spells.{Says, value_of, begins_comment, is_identifier, are_digits, Spells, a_name, a_word, a_decimal, a_hexadecimal, a_version, a_text, a_mark, MayStandBefore, Fits}
use Rattle.qml_lexer.specs.Texts.{ReadsText, body}
use Rattle.qml_lexer.proofs.CharacterLemmas.{same_number, never, start_alone, start_no_digit, digit_alone, quote_alone}
use Rattle.qml_lexer.proofs.GapLemmas.{block_cut, block_read}
use Rattle.qml_lexer.proofs.LiteralLemmas.{says_read, view_of, text_cut, text_stuck, never_open}
use Rattle.qml_lexer.proofs.NameLemmas.{name_read, word_read, word_identifier, name_cut}
use Rattle.qml_lexer.proofs.NumberLemmas.{AtLeast, Cut, decimal_read, hexadecimal_read, version_read, number_cut, number_stuck}
use Rattle.qml_lexer.proofs.PairLemmas.{ok_parts}
use Rattle.qml_lexer.proofs.RunLemmas.{and_both, and_true, run_passes, behind_stops, behind_over, behind_stopped, negated}
use Rattle.qml_lexer.proofs.TableLemmas.{begins_mark, mark_begins, mark_found, found_cut, word_length}
use Rattle.qml_lexer.proofs.Utf8Lemmas.{run-behind}

-- ---- by what begins there

pub no_comment_at : (x : ℕ) (xs : List ℕ) → (x == 47) ≡ false → begins_comment (x ∷ xs) ≡ false
no_comment_at x [] h = refl
no_comment_at x (y ∷ xs) h = rw h refl

-- what stands at the front, by what begins there
data Case (x : ℕ) (xs : List ℕ) : ReadsItem → Type 0 where
  c_blank : is_blank x ≡ true → Case x xs (Ok (item.Gap, behind is_blank xs))
  c_line : (ys : List ℕ) → x ≡ 47 → xs ≡ 47 ∷ ys → Case x xs (Ok (item.Gap, behind is_in_line xs))
  c_block : (ys : List ℕ) → x ≡ 47 → xs ≡ 42 ∷ ys → Case x xs (closed (behind_comment false ys))
  c_mark : begins_comment (x ∷ xs) ≡ false → is_digit x 10 ≡ false → is_quote x ≡ false → Case x xs (of_mark (mark (x ∷ xs)))
  c_text : begins_comment (x ∷ xs) ≡ false → is_quote x ≡ true → Case x xs (of_text (body x xs))
  c_number : begins_comment (x ∷ xs) ≡ false → is_digit x 10 ≡ true → Case x xs (of_kind (number (x ∷ xs)))
  c_name : begins_comment (x ∷ xs) ≡ false → is_start x ≡ true → Case x xs (of_kind (name (x ∷ xs)))

slash_case : (xs : List ℕ) → Case 47 xs (slash xs)
unfolding slash marked
slash_case [] = c_mark refl refl refl
slash_case (y ∷ ys) = by (y == 47) refl (y == 42) refl
  where
    by : (v : Bool) → (y == 47) ≡ v → (w : Bool) → (y == 42) ≡ w
        → Case 47 (y ∷ ys) (if v then Ok (item.Gap, behind is_in_line (y ∷ ys)) else (if w then closed (behind_comment false ys) else marked (47 ∷ y ∷ ys)))
    by true e w d = c_line ys refl (ap (λ z. z ∷ ys) (same_number y 47 e))
    by false e true d = c_block ys refl (ap (λ z. z ∷ ys) (same_number y 42 d))
    by false e false d = c_mark (rw (e, d) refl) refl refl

front_case : (x : ℕ) (xs : List ℕ) → Case x xs (front (x ∷ xs))
unfolding front quoted named numbered marked
front_case x xs = by (is_blank x) refl (x == 47) refl (is_quote x) refl (is_digit x 10) refl (is_start x) refl
  where
    by : (a : Bool) → is_blank x ≡ a → (b : Bool) → (x == 47) ≡ b → (c : Bool) → is_quote x ≡ c → (d : Bool) → is_digit x 10 ≡ d → (e : Bool) → is_start x ≡ e
        → Case x xs (if a then Ok (item.Gap, behind is_blank xs) else (if b then slash xs else (if c then quoted x xs else (if d then numbered (x ∷ xs) else (if e then named (x ∷ xs) else marked (x ∷ xs))))))
    by true h b i c j d k e l = c_blank h
    by false h true i c j d k e l = let P : ℕ → Type 0 = λ z. Case z xs (slash xs) in subst P (sym (same_number x 47 i)) (slash_case xs)
    by false h false i true j d k e l = c_text (no_comment_at x xs i) j
    by false h false i false j true k e l = c_number (no_comment_at x xs i) k
    by false h false i false j false k true l = c_name (no_comment_at x xs i) l
    by false h false i false j false k false l = c_mark (no_comment_at x xs i) k j

-- ---- a spelling is read

-- the front where a token of a kind can stand before `more`: a token at least as long
pub record FrontRead (xs more : List ℕ) (other : TokenKind) : Type 0 where
  pub what : TokenKind
  pub rest : List ℕ
  pub reads : front xs ≡ Ok (item.Token what, rest)
  pub short : length rest ≤ length more
  pub same : length rest ≡ length more → what ≡ other

read_as : (xs more : List ℕ) (other : TokenKind) (r : ReadsKind) → front xs ≡ of_kind r → AtLeast r more other → FrontRead xs more other
read_as xs more other r e a = record { what = a.what; rest = a.rest; reads = e ∙ ap of_kind a.reads; short = a.short; same = a.same }

at_name : (x : ℕ) (xs : List ℕ) → is_start x ≡ true → front (x ∷ xs) ≡ of_kind (name (x ∷ xs))
unfolding front named
at_name x xs h =
    let alone = start_alone x h in
    let no_digit = start_no_digit x h in
    rw (alone.0, alone.1, alone.2, no_digit, h) refl

at_number : (x : ℕ) (xs : List ℕ) → is_digit x 10 ≡ true → front (x ∷ xs) ≡ of_kind (number (x ∷ xs))
unfolding front numbered
at_number x xs h =
    let alone = digit_alone x h in
    rw (alone.0, alone.1, alone.2, h) refl

at_text : (x : ℕ) (xs : List ℕ) → is_quote x ≡ true → front (x ∷ xs) ≡ of_text (body x xs)
unfolding front quoted
at_text x xs h =
    let alone = quote_alone x h in
    rw (alone.0, alone.1, h) refl

slash_is_mark : (xs : List ℕ) → begins_comment (47 ∷ xs) ≡ false → slash xs ≡ of_mark (mark (47 ∷ xs))
unfolding slash marked
slash_is_mark [] h = refl
slash_is_mark (y ∷ xs) h = by (y == 47) refl (y == 42) refl h
  where
    by : (v : Bool) → (y == 47) ≡ v → (w : Bool) → (y == 42) ≡ w → (v || w) ≡ false
        → (if y == 47 then Ok (item.Gap, behind is_in_line (y ∷ xs)) else (if y == 42 then closed (behind_comment false xs) else marked (47 ∷ y ∷ xs))) ≡ of_mark (mark (47 ∷ y ∷ xs))
    by true e w d g = cc
    by false e true d g = cc
    by false e false d g = rw (e, d) refl

at_mark : (x : ℕ) (xs : List ℕ) → is_blank x ≡ false → is_quote x ≡ false → is_digit x 10 ≡ false → is_start x ≡ false → begins_comment (x ∷ xs) ≡ false
    → front (x ∷ xs) ≡ of_mark (mark (x ∷ xs))
unfolding front marked
at_mark x xs b q d s c = by (x == 47) refl
  where
    by : (v : Bool) → (x == 47) ≡ v → front (x ∷ xs) ≡ of_mark (mark (x ∷ xs))
    by true e =
        let same : x ≡ 47 = same_number x 47 e in
        let read : slash xs ≡ of_mark (mark (47 ∷ xs)) = slash_is_mark xs (ap (λ z. begins_comment (z ∷ xs)) (sym same) ∙ c) in
        rw (b, e) (read ∙ ap (λ z. of_mark (mark (z ∷ xs))) (sym same))
    by false e = rw (b, e, q, d, s) refl

no_or : (a b : Bool) → (a || b) ≡ false → (a ≡ false) × (b ≡ false)
no_or true b h = absurd (never true refl h)
no_or false b h = (refl, h)

mark_read : (m : Mark) (w more : List ℕ) → w ≡ mark_spelling m → begins_comment (w ++ more) ≡ false → FrontRead (w ++ more) more (kind.Mark m)
unfolding mark
mark_read m [] more e c = absurd (never (begins_mark (mark_spelling m)) (mark_begins m) (sym (ap begins_mark e)))
mark_read m (x ∷ w) more e c =
    let tests = no_or ((is_blank x || is_quote x) || is_digit x 10) (is_start x) (negated (((is_blank x || is_quote x) || is_digit x 10) || is_start x) (ap begins_mark e ∙ mark_begins m)) in
    let others = no_or (is_blank x || is_quote x) (is_digit x 10) tests.0 in
    let first = no_or (is_blank x) (is_quote x) others.0 in
    let f = mark_found m more in
    record {
      what = kind.Mark f.mark;
      rest = f.rest;
      reads = at_mark x (w ++ more) first.0 first.1 others.1 tests.1 c ∙ ap of_mark (ap (λ z. first_of MARKS (z ++ more)) e ∙ f.found);
      short = f.short;
      same = λ l. ap kind.Mark (f.same l);
    }

no_slash : (q : ℕ) → is_quote q ≡ true → q ≢ 92
no_slash q h = λ e. never (is_quote q) h (ap is_quote e)

text_read : (q : ℕ) (inside units w more : List ℕ) → w ≡ q ∷ (inside ++ q ∷ []) → is_quote q ≡ true → Says q inside units → FrontRead (w ++ more) more (kind.Text units)
text_read q inside units w more e h s = record {
  what = kind.Text units;
  rest = more;
  reads = ap (λ z. front (z ++ more)) e ∙ at_text q ((inside ++ q ∷ []) ++ more) h
      ∙ ap of_text (ap (body q) (append_assoc inside (q ∷ []) more) ∙ says_read q inside units more (no_slash q h) s);
  short = omega arith;
  same = λ l. refl;
}

identifier_front : (w more : List ℕ) (other : TokenKind) → is_identifier w ≡ true → AtLeast (name (w ++ more)) more other → FrontRead (w ++ more) more other
identifier_front [] more other h a = absurd (never false h refl)
identifier_front (x ∷ w) more other h a = read_as (x ∷ (w ++ more)) more other (name (x ∷ (w ++ more))) (at_name x (w ++ more) (and_true (is_start x) (list_all is_part w) h).0) a

digits_front : (w more : List ℕ) (other : TokenKind) → are_digits 10 w ≡ true → (rest : List ℕ) → AtLeast (number (w ++ rest)) more other → FrontRead (w ++ rest) more other
digits_front [] more other h rest a = absurd (never false h refl)
digits_front (x ∷ w) more other h rest a =
    read_as (x ∷ (w ++ rest)) more other (number (x ∷ (w ++ rest))) (at_number x (w ++ rest) (and_true (is_digit x 10) (list_all (λ y. is_digit y 10) w) h).0) a

abbrev ReadAt : List ℕ → TokenKind → List ℕ → Type 0
ReadAt more other xs = FrontRead xs more other

pub fit_read : (w more : List ℕ) (other : TokenKind) → Spells w other → MayStandBefore other more → begins_comment (w ++ more) ≡ false → FrontRead (w ++ more) more other
fit_read w more _ (a_name h n) b c = identifier_front w more (kind.Name (encode_utf16_all w)) h (name_read w more h n)
fit_read w more _ (a_word k e) b c = identifier_front w more (kind.Word k) (ap is_identifier e ∙ word_identifier k) (word_read w more k e)
fit_read w more _ (a_decimal d z l) b c = digits_front w more (kind.Number (value_of 10 w)) d more (decimal_read w more d z l b)
fit_read w more _ (a_hexadecimal x ds e h d l) b c =
    subst (ReadAt more (kind.Number (value_of 16 ds))) (ap (λ z. z ++ more) (sym e))
    (read_as (48 ∷ x ∷ (ds ++ more)) more (kind.Number (value_of 16 ds)) (number (48 ∷ x ∷ (ds ++ more))) (at_number 48 (x ∷ (ds ++ more)) refl) (hexadecimal_read x ds more h d l b))
fit_read w more _ (a_version ws ps e h p) b c =
    subst (ReadAt more kind.Version) (sym (append_assoc ws (46 ∷ ps) more) ∙ ap (λ z. z ++ more) (sym e))
    (digits_front ws more kind.Version h (46 ∷ (ps ++ more)) (version_read ws ps more h p))
fit_read w more _ (a_text {units = units} q inside e h s) b c = text_read q inside units w more e h s
fit_read w more _ (a_mark m e) b c = mark_read m w more e c

-- ---- what is read is a gap or a spelling

spelled_some : (w : List ℕ) (what : TokenKind) → Spells w what → 0 < length w
spelled_some [] _ (a_name h n) = absurd (never false h refl)
spelled_some [] _ (a_word k e) = absurd (never false (sym (ap (λ z. nat_lt 0 (length z)) (sym e)) ∙ ap (λ z. z) (word_length k)) refl)
spelled_some [] _ (a_decimal d z l) = absurd (never false d refl)
spelled_some [] _ (a_hexadecimal x ds e h d l) = cc
spelled_some [] _ (a_version ws ps e h p) = absurd (omega (arith, ap length e, length-append ws (46 ∷ ps)))
spelled_some [] _ (a_text q inside e h s) = cc
spelled_some [] _ (a_mark m e) = absurd (never (begins_mark (mark_spelling m)) (mark_begins m) (sym (ap begins_mark e)))
spelled_some (x ∷ w) what s = omega arith

-- the half of what it means to be taken
abbrev Stands : List ℕ → Item → List ℕ → Type 0
Stands w item.Gap rest = IsGap w rest
Stands w (item.Token what) rest = Fits w what rest × (begins_comment (w ++ rest) ≡ false)

record ItemCut (xs : List ℕ) (taken : Item) (rest : List ℕ) : Type 0 where
  pub w : List ℕ
  pub cut : xs ≡ w ++ rest
  pub some : 0 < length w
  pub stands : Stands w taken rest

as_item : (xs : List ℕ) (a b : Item) (r s : List ℕ) → a ≡ b → r ≡ s → ItemCut xs a r → ItemCut xs b s
as_item xs a b r s e d c =
    let P : Item → Type 0 = λ z. ItemCut xs z r in
    let Q : List ℕ → Type 0 = λ z. ItemCut xs b z in
    subst Q d (subst P e c)

-- an answer as a reader gives it
abbrev item_answer : Item → List ℕ → ReadsItem
item_answer i rest = Ok (i, rest)

given : (xs : List ℕ) (i taken : Item) (r rest : List ℕ) → item_answer i r ≡ Ok (taken, rest) → ItemCut xs i r → ItemCut xs taken rest
given xs i taken r rest e c = let parts = ok_parts (item_answer i r) (i, r) (taken, rest) refl e in as_item xs i taken r rest parts.0 parts.1 c

token_cut : (xs rest : List ℕ) (what : TokenKind) → begins_comment xs ≡ false → Cut xs rest what → ItemCut xs (item.Token what) rest
token_cut xs rest what n c = record {
  w = c.w;
  cut = c.cut;
  some = spelled_some c.w what c.fits.spells;
  stands = (c.fits, ap begins_comment (sym c.cut) ∙ n);
}

of_kind_cut : (xs : List ℕ) (r : ReadsKind) (taken : Item) (rest : List ℕ) → begins_comment xs ≡ false → ((what : TokenKind) (more : List ℕ) → r ≡ Ok (what, more) → Cut xs more what)
    → of_kind r ≡ Ok (taken, rest) → ItemCut xs taken rest
of_kind_cut xs (Ok p) taken rest n c e = given xs (item.Token p.0) taken p.1 rest e (token_cut xs p.1 p.0 n (c p.0 p.1 refl))
of_kind_cut xs (Err d) taken rest n c e = cc

line_cut : (ys : List ℕ) → ItemCut (47 ∷ 47 ∷ ys) item.Gap (behind is_in_line (47 ∷ ys))
line_cut ys = record {
  w = 47 ∷ 47 ∷ run is_in_line ys;
  cut = ap (λ z. 47 ∷ 47 ∷ z) (sym (run-behind is_in_line ys));
  some = omega arith;
  stands = a_line_comment (run_passes is_in_line ys) (behind_stops is_in_line ys);
}

block_item : (ys rest : List ℕ) (taken : Item) (o : Option (List ℕ)) → behind_comment false ys ≡ o → closed o ≡ Ok (taken, rest) → ItemCut (47 ∷ 42 ∷ ys) taken rest
block_item ys rest taken None e h = cc
block_item ys rest taken (Some r) e h =
    let b = block_cut ys r e in
    given (47 ∷ 42 ∷ ys) item.Gap taken r rest h (record { w = 47 ∷ 42 ∷ b.0; cut = ap (λ z. 47 ∷ 42 ∷ z) b.1; some = omega arith; stands = a_block_comment b.2 })

mark_item : (xs rest : List ℕ) (taken : Item) (o : Option (Mark × List ℕ)) → begins_comment xs ≡ false → first_of MARKS xs ≡ o → of_mark o ≡ Ok (taken, rest) → ItemCut xs taken rest
mark_item xs rest taken None n e h = cc
mark_item xs rest taken (Some p) n e h =
    given xs (item.Token (kind.Mark p.0)) taken p.1 rest h
    (token_cut xs p.1 (kind.Mark p.0) n (record { w = mark_spelling p.0; cut = found_cut MARKS p.0 xs p.1 e; fits = record { spells = a_mark p.0 refl; before = tt } }))

text_item : (q : ℕ) (xs rest : List ℕ) (taken : Item) (r : ReadsText) → is_quote q ≡ true → begins_comment (q ∷ xs) ≡ false → body q xs ≡ r → of_text r ≡ Ok (taken, rest) → ItemCut (q ∷ xs) taken rest
text_item q xs rest taken (Err c) h n e g = cc
text_item q xs rest taken (Ok p) h n e g =
    let t = text_cut (view_of q xs (no_slash q h)) p e in
    given (q ∷ xs) (item.Token (kind.Text p.0)) taken p.1 rest g
    (token_cut (q ∷ xs) p.1 (kind.Text p.0) n (record {
      w = q ∷ (t.inside ++ q ∷ []);
      cut = ap (λ z. q ∷ z) (t.cut ∙ sym (append_assoc t.inside (q ∷ []) p.1));
      fits = record { spells = a_text q t.inside refl h t.says; before = tt };
    }))

case_cut : {x : ℕ} {xs : List ℕ} {r : ReadsItem} → Case x xs r → (taken : Item) (rest : List ℕ) → r ≡ Ok (taken, rest) → ItemCut (x ∷ xs) taken rest
unfolding mark
case_cut {x} {xs} (c_blank h) taken rest e =
    given (x ∷ xs) item.Gap taken (behind is_blank xs) rest e (record {
      w = x ∷ run is_blank xs;
      cut = ap (λ z. x ∷ z) (sym (run-behind is_blank xs));
      some = omega arith;
      stands = some_blanks (and_both (is_blank x) (list_all is_blank (run is_blank xs)) h (run_passes is_blank xs)) (behind_stops is_blank xs);
    })
case_cut {x} {xs} (c_line ys h g) taken rest e =
    let same : x ∷ xs ≡ 47 ∷ 47 ∷ ys = ap (λ z. z ∷ xs) h ∙ ap (λ z. 47 ∷ z) g in
    let P : List ℕ → Type 0 = λ z. ItemCut z item.Gap (behind is_in_line xs) in
    let Q : List ℕ → Type 0 = λ z. ItemCut (47 ∷ 47 ∷ ys) item.Gap (behind is_in_line z) in
    given (x ∷ xs) item.Gap taken (behind is_in_line xs) rest e (subst P (sym same) (subst Q (sym g) (line_cut ys)))
case_cut {x} {xs} (c_block ys h g) taken rest e =
    let P : List ℕ → Type 0 = λ z. ItemCut z taken rest in
    subst P (sym (ap (λ z. z ∷ xs) h ∙ ap (λ z. 47 ∷ z) g)) (block_item ys rest taken (behind_comment false ys) refl e)
case_cut {x} {xs} (c_mark n d q) taken rest e = mark_item (x ∷ xs) rest taken (first_of MARKS (x ∷ xs)) n refl e
case_cut {x} {xs} (c_text n q) taken rest e = text_item x xs rest taken (body x xs) q n refl e
case_cut {x} {xs} (c_number n d) taken rest e = of_kind_cut (x ∷ xs) (number (x ∷ xs)) taken rest n (λ what more g. number_cut x xs more what d g) e
case_cut {x} {xs} (c_name n h) taken rest e = of_kind_cut (x ∷ xs) (name (x ∷ xs)) taken rest n (λ what more g. name_cut x xs more what h g) e

item_cut : (xs rest : List ℕ) (taken : Item) → front xs ≡ Ok (taken, rest) → ItemCut xs taken rest
unfolding front
item_cut [] rest taken e = cc
item_cut (x ∷ xs) rest taken e = case_cut (front_case x xs) taken rest e

-- ---- both ways

-- what is read is at least as long as whatever fits
longest_read : (xs w rest : List ℕ) (what : TokenKind) → front xs ≡ Ok (item.Token what, rest) → xs ≡ w ++ rest → begins_comment (w ++ rest) ≡ false
    → (v more : List ℕ) (other : TokenKind) → w ++ rest ≡ v ++ more → Fits v other more → length v ≤ length w
longest_read xs w rest what e c n v more other d f =
    let r = fit_read v more other f.spells f.before (ap begins_comment (sym d) ∙ n) in
    let parts = ok_parts (front xs) (item.Token what, rest) (item.Token r.what, r.rest) e (ap front (c ∙ d) ∙ r.reads) in
    omega (arith, r.short, ap length parts.1, ap length d, length-append w rest, length-append v more)

full : (xs rest : List ℕ) (taken : Item) → front xs ≡ Ok (taken, rest) → (c : ItemCut xs taken rest) → Takes c.w taken rest
full xs rest item.Gap e c = c.stands
full xs rest (item.Token what) e c = record {
  fits = c.stands.0;
  no_comment = c.stands.1;
  longest = longest_read xs c.w rest what e c.cut c.stands.1;
}

pub front_takes : (xs rest : List ℕ) (taken : Item) → front xs ≡ Ok (taken, rest) → (w : List ℕ) × (xs ≡ w ++ rest) × (0 < length w) × Takes w taken rest
front_takes xs rest taken e = let c = item_cut xs rest taken e in (c.w, c.cut, c.some, full xs rest taken e c)

gap_read : (w rest : List ℕ) → IsGap w rest → front (w ++ rest) ≡ Ok (item.Gap, rest)
unfolding front slash
gap_read _ rest (some_blanks {x} {more} h s) =
    let t = and_true (is_blank x) (list_all is_blank more) h in
    let first : is_blank x ≡ true = t.0 in
    rw first (ap (λ z. item_answer item.Gap z) (behind_over is_blank more rest t.1 ∙ behind_stopped is_blank rest s))
gap_read _ rest (a_line_comment {inside} h s) = ap (λ z. item_answer item.Gap z) (behind_over is_in_line inside rest h ∙ behind_stopped is_in_line rest s)
gap_read _ rest (a_block_comment {inside} c) = ap closed (block_read inside rest c)

pub same_tail : (a b c d : List ℕ) → a ++ b ≡ c ++ d → length b ≡ length d → b ≡ d
same_tail [] b [] d e l = e
same_tail [] b (x ∷ c) d e l = absurd (omega (arith, ap length e, length-append (x ∷ c) d))
same_tail (x ∷ a) b [] d e l = absurd (omega (arith, ap length e, length-append (x ∷ a) b))
same_tail (x ∷ a) b (y ∷ c) d e l = same_tail a b c d (let rest : a ++ b ≡ c ++ d = cc in rest) l

pub takes_front : (w rest : List ℕ) (taken : Item) → Takes w taken rest → front (w ++ rest) ≡ Ok (taken, rest)
takes_front w rest item.Gap t = gap_read w rest t
takes_front w rest (item.Token what) t =
    let r = fit_read w rest what t.fits.spells t.fits.before t.no_comment in
    let c = item_cut (w ++ rest) r.rest (item.Token r.what) r.reads in
    let short : length c.w ≤ length w = t.longest c.w r.rest r.what c.cut c.stands.0 in
    let same : length r.rest ≡ length rest = omega (arith, r.short, short, ap length c.cut, length-append w rest, length-append c.w r.rest) in
    let tail : r.rest ≡ rest = sym (same_tail w rest c.w r.rest c.cut (sym same)) in
    r.reads ∙ ap (λ z. item_answer (item.Token z) r.rest) (r.same same) ∙ ap (λ z. item_answer (item.Token what) z) tail

-- ---- what isn't read

unread : (xs : List ℕ) (c : LexCause) → front xs ≡ Err c → (w rest : List ℕ) (taken : Item) → xs ≡ w ++ rest → ¬ (Takes w taken rest)
unread xs c e w rest taken d t =
    let refused : ReadsItem = Err c in
    let no : refused ≡ item_answer taken rest = sym e ∙ ap front d ∙ takes_front w rest taken t in
    cc

as_cause : (xs : List ℕ) (c d : LexCause) → c ≡ d → HasCause xs d → HasCause xs c
as_cause xs c d e h = let P : LexCause → Type 0 = λ z. HasCause xs z in subst P (sym e) h

kind_fault : (r : ReadsKind) (c : LexCause) → of_kind r ≡ Err c → r ≡ Err c
kind_fault (Ok p) c e = cc
kind_fault (Err d) c e = let same : d ≡ c = cc in ap (λ z. Err z) same

text_fault : (r : ReadsText) (c : LexCause) → of_text r ≡ Err c → r ≡ Err c
text_fault (Ok p) c e = cc
text_fault (Err d) c e = let same : d ≡ c = cc in ap (λ z. Err z) same

no_block : (x : ℕ) (xs : List ℕ) → begins_comment (x ∷ xs) ≡ false → ¬ (BeginsBlock (x ∷ xs))
no_block x xs n b = never (begins_comment (x ∷ xs)) (ap begins_comment b.1) n

name_given : (xs : List ℕ) (c : LexCause) → name xs ≡ Err c → ⊥
unfolding name
name_given xs c e = cc

case_cause : {x : ℕ} {xs : List ℕ} {r : ReadsItem} → Case x xs r → (c : LexCause) → r ≡ Err c → HasCause (x ∷ xs) c
case_cause (c_blank h) c e = cc
case_cause (c_line ys h g) c e = cc
case_cause {x} {xs} (c_block ys h g) c e = by (behind_comment false ys) e
  where
    by : (o : Option (List ℕ)) → closed o ≡ Err c → HasCause (x ∷ xs) c
    by None d = let same : c ≡ cause.OpenComment = cc in as_cause (x ∷ xs) c cause.OpenComment same (ys, ap (λ z. z ∷ xs) h ∙ ap (λ z. 47 ∷ z) g)
    by (Some rest) d = cc
case_cause {x} {xs} (c_mark n d q) c e = by (mark (x ∷ xs)) e
  where
    by : (o : Option (Mark × List ℕ)) → of_mark o ≡ Err c → HasCause (x ∷ xs) c
    by None g = let same : c ≡ cause.Character = cc in as_cause (x ∷ xs) c cause.Character same (d, q, no_block x xs n)
    by (Some p) g = cc
case_cause {x} {xs} (c_text n q) c e = by (text_stuck (view_of x xs (no_slash x q)) c stuck)
  where
    stuck : body x xs ≡ Err c
    stuck = text_fault (body x xs) c e

    by : (c ≡ cause.OpenText) ⊎ ((c ≡ cause.Escape) × HasWrongEscape xs) → HasCause (x ∷ xs) c
    by (inl d) = as_cause (x ∷ xs) c cause.OpenText d (x, xs, refl, q, λ w. never_open x xs (no_slash x q) w (stuck ∙ ap (λ z. Err z) d))
    by (inr p) = as_cause (x ∷ xs) c cause.Escape p.0 (x, xs, refl, q, p.1)
case_cause {x} {xs} (c_number n d) c e = as_cause (x ∷ xs) c cause.Number (number_stuck (x ∷ xs) c (kind_fault (number (x ∷ xs)) c e)) d
case_cause {x} {xs} (c_name n h) c e = absurd (name_given (x ∷ xs) c (kind_fault (name (x ∷ xs)) c e))

pub front_stuck : (xs : List ℕ) (c : LexCause) → 0 < length xs → front xs ≡ Err c → IsStuck xs c
front_stuck [] c l e = absurd (omega arith)
front_stuck (x ∷ xs) c l e = record {
  some = λ h. absurd (omega (arith, ap length h));
  unread = unread (x ∷ xs) c e;
  because = case_cause (front_case x xs) c e;
}

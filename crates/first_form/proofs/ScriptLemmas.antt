-- A script is read exactly where it is spelled, and its first bad line is the one that is told.
use Rattle.std.proofs.Common.{◌≡◌, ◌∙◌, ap, sym, refl, subst, ℕ, suc, ◌+◌, ◌-◌, ◌≤◌, ◌<◌, ◌==◌, ◌||◌, arith, nat_le, nat_eq, Bool, true, false, inl, inr, ℤ, pos, neg_ℤ, List, [], ◌∷◌, ◌++◌, length, take, append_assoc, None, Some, if◌then◌else◌, codes, true≢false}
use Rattle.std.specs.declared.option.Option.{Option}
use Rattle.std.specs.declared.result.Result.{Result}
use Rattle.std.specs.declared.result.Result.TheVariants.{Ok, Err}
use Rattle.std.specs.Option.{option_map}
use Rattle.std.specs.Char.{is_ascii_digit}
use Rattle.std.specs.List.{ends_with}
use Rattle.std.specs.Str.{all_ascii_digits}
use Rattle.std.proofs.lemmas.Bool.Decides.{nat_tests}
use Rattle.qml_model.specs.declared.text.Deed.{Deed}
use Rattle.qml_model.specs.declared.text.Deed.TheVariants.{Do, Print}
use Rattle.qml_model.specs.declared.text.ScriptLine.{ScriptLine}
use Rattle.first_form.specs.Blanks.{◌>>=◌, without_return, after_front}
use Rattle.first_form.specs.Names.{cell_of}
use Rattle.first_form.specs.Numbers.{number_of}
use Rattle.first_form.specs.Pieces.{Cut, cut_of, Pieces, last, piece, pieces_of}
use Rattle.first_form.specs.Script.{signed_of, assigned_in, done_by, printed_by, deed_of, is_skipped, onto_lines, with_deed, with_line, script_from, script_of}
use Rattle.first_form.specs.ScriptForm.{Lacks, IsEnded, AreLines, IsSigned, Asks, AsksAll, IsScript, IsFirstBad}
use Rattle.first_form.specs.Values.{first_of}
use Rattle.first_form.proofs.DocumentLemmas.{after_front_found, after_front_only, ends_return, without_return-other, without_return-return}
use Rattle.first_form.proofs.FormLemmas.{is_equal, equal_is, not_equal, other_is}
use Rattle.first_form.proofs.MarkLemmas.{one_mark, Clean, Clean-append, cut_found, cut_of-mark, joined, AreCut, joined-pieces_of, pieces_are_cut, pieces_of-mark, pieces_of-clean}
use Rattle.first_form.proofs.NameLemmas.{cell_found, cell_only, and_left}
use Rattle.first_form.proofs.NumberLemmas.{number_found, number_only, number_digits}
use Rattle.first_form.proofs.ValueLemmas.{bind_some, map_some}

clean_lacks : (m : ℕ) (bs : List ℕ) → Clean (m ∷ []) bs → Lacks m bs
clean_lacks m [] h = tt
clean_lacks m (b ∷ bs) h = ((λ e. true≢false (sym (ap (λ t. t || false) (is_equal m b (sym e))) ∙ h.0)), clean_lacks m bs h.1)

lacks_clean : (m : ℕ) (bs : List ℕ) → Lacks m bs → Clean (m ∷ []) bs
lacks_clean m [] h = tt
lacks_clean m (b ∷ bs) h = (ap (λ t. t || false) (not_equal m b (λ e. h.0 (sym e))), lacks_clean m bs h.1)

lacks_front : (m : ℕ) (a b : List ℕ) → Lacks m (a ++ b) → Lacks m a
lacks_front m [] b h = tt
lacks_front m (x ∷ a) b h = (h.0, lacks_front m a b h.1)

-- ---- lines
abbrev pub texts_of : Pieces → List (List ℕ)
texts_of (last line) = line ∷ []
texts_of (piece line mark rest) = without_return line ∷ texts_of rest

ended_by : (line : List ℕ) → Lacks 10 line → IsEnded (without_return line) (line ++ 10 ∷ [])
ended_by line lacks = by (ends_with nat_eq line (13 ∷ [])) refl
  where
    by : (t : Bool) → ends_with nat_eq line (13 ∷ []) ≡ t → IsEnded (without_return line) (line ++ 10 ∷ [])
    by true f =
        let whole : line ≡ take (length line - 1) line ++ 13 ∷ [] = (ends_return line).0 f in
        let alone : without_return line ≡ take (length line - 1) line = ap (λ t. if t then take (length line - 1) line else line) f in
        subst (λ (w : List ℕ). IsEnded w (line ++ 10 ∷ [])) (sym alone) (
          lacks_front 10 (take (length line - 1) line) (13 ∷ []) (subst (Lacks 10) whole lacks),
          inl (ap (λ (w : List ℕ). w ++ 10 ∷ []) whole ∙ append_assoc (take (length line - 1) line) (13 ∷ []) (10 ∷ [])),
        )
    by false f =
        let alone : without_return line ≡ line = ap (λ t. if t then take (length line - 1) line else line) f in
        subst (λ (w : List ℕ). IsEnded w (line ++ 10 ∷ [])) (sym alone)
        (lacks, inr (refl, λ (front, e). true≢false (sym ((ends_return line).1 front e) ∙ f)))

longer : (line ended rest : List ℕ) (lines : List (List ℕ)) → IsEnded line ended → AreLines lines rest → AreLines (line ∷ lines) (ended ++ rest)
longer line ended rest [] is are = absurd are
longer line ended rest (next ∷ lines) is are = (ended, rest, refl, is, are)

texts_are_lines : (ps : Pieces) → AreCut (10 ∷ []) ps → AreLines (texts_of ps) (joined ps)
texts_are_lines (last line) clean = (refl, clean_lacks 10 line clean)
texts_are_lines (piece line mark rest) (marked, clean, cut) =
    subst (AreLines (without_return line ∷ texts_of rest)) (append_assoc line (10 ∷ []) (joined rest) ∙ ap (λ k. line ++ k ∷ joined rest) (sym (one_mark 10 mark marked)))
    (longer (without_return line) (line ++ 10 ∷ []) (joined rest) (texts_of rest) (ended_by line (clean_lacks 10 line clean)) (texts_are_lines rest cut))

lines_found : (bytes : List ℕ) → AreLines (texts_of (pieces_of (10 ∷ []) bytes)) bytes
lines_found bytes = subst (AreLines (texts_of (pieces_of (10 ∷ []) bytes))) (joined-pieces_of (10 ∷ []) bytes) (texts_are_lines (pieces_of (10 ∷ []) bytes) (pieces_are_cut (10 ∷ []) bytes))

lines_only : (lines : List (List ℕ)) (bytes : List ℕ) → AreLines lines bytes → texts_of (pieces_of (10 ∷ []) bytes) ≡ lines
lines_only [] bytes are = absurd are
lines_only (line ∷ []) bytes (is, lacks) = ap (λ (xs : List ℕ). texts_of (pieces_of (10 ∷ []) xs)) is ∙ ap texts_of (pieces_of-clean (10 ∷ []) line (lacks_clean 10 line lacks))
lines_only (line ∷ next ∷ lines) bytes (ended, rest, spelled, (lacks, inl e), are) =
    ap (λ (xs : List ℕ). texts_of (pieces_of (10 ∷ []) xs))
    (spelled ∙ ap (λ (xs : List ℕ). xs ++ rest) e ∙ append_assoc line (13 ∷ 10 ∷ []) rest ∙ sym (append_assoc line (13 ∷ []) (10 ∷ rest)))
    ∙ ap texts_of (pieces_of-mark (10 ∷ []) (line ++ 13 ∷ []) 10 rest (Clean-append (10 ∷ []) line (13 ∷ []) (lacks_clean 10 line lacks) (refl, tt)) refl)
    ∙ ap (λ (w : List ℕ). w ∷ texts_of (pieces_of (10 ∷ []) rest)) (without_return-return line) ∙ ap (λ (ws : List (List ℕ)). line ∷ ws) (lines_only (next ∷ lines) rest are)
lines_only (line ∷ next ∷ lines) bytes (ended, rest, spelled, (lacks, inr (e, alone)), are) =
    ap (λ (xs : List ℕ). texts_of (pieces_of (10 ∷ []) xs)) (spelled ∙ ap (λ (xs : List ℕ). xs ++ rest) e ∙ append_assoc line (10 ∷ []) rest)
    ∙ ap texts_of (pieces_of-mark (10 ∷ []) line 10 rest (lacks_clean 10 line lacks) refl)
    ∙ ap (λ (w : List ℕ). w ∷ texts_of (pieces_of (10 ∷ []) rest)) (without_return-other line (λ front f. alone (front, f))) ∙ ap (λ (ws : List (List ℕ)). line ∷ ws) (lines_only (next ∷ lines) rest are)

-- ---- what a line asks for
digit_is_no_minus : (b : ℕ) → is_ascii_digit b ≡ true → (b == 45) ≡ false
digit_is_no_minus b e = not_equal b 45 (λ same. true≢false (sym e ∙ ap is_ascii_digit same))

signed_found : (bytes : List ℕ) (z : ℤ) → signed_of bytes ≡ Some z → IsSigned z bytes
signed_found [] z e = absurd (cc)
signed_found (b ∷ bs) z e = by (b == 45) refl
  where
    by : (t : Bool) → (b == 45) ≡ t → IsSigned z (b ∷ bs)
    by true f =
        let (n, read, is) = map_some (number_of bs) (λ n. neg_ℤ (pos n)) z (sym (ap (λ t. if t then option_map (λ n. neg_ℤ (pos n)) (number_of bs) else option_map pos (number_of (b ∷ bs))) f) ∙ e) in
        inr (n, sym is, bs, ap (λ k. k ∷ bs) (equal_is b 45 f), number_found n bs read)
    by false f =
        let (n, read, is) = map_some (number_of (b ∷ bs)) pos z (sym (ap (λ t. if t then option_map (λ n. neg_ℤ (pos n)) (number_of bs) else option_map pos (number_of (b ∷ bs))) f) ∙ e) in
        inl (n, sym is, number_found n (b ∷ bs) read)

nothing_read : number_of [] ≡ None
unfolding number_of
nothing_read = refl

positive : (bytes : List ℕ) (n : ℕ) → number_of bytes ≡ Some n → signed_of bytes ≡ Some (pos n)
positive [] n read = absurd (cc nothing_read)
positive (b ∷ bs) n read =
    ap (λ t. if t then option_map (λ n. neg_ℤ (pos n)) (number_of bs) else option_map pos (number_of (b ∷ bs))) (digit_is_no_minus b (and_left (is_ascii_digit b) (all_ascii_digits bs) (number_digits n (b ∷ bs) read)))
    ∙ ap (option_map pos) read

signed_only : (bytes : List ℕ) (z : ℤ) → IsSigned z bytes → signed_of bytes ≡ Some z
signed_only bytes z (inl (n, is, at)) = positive bytes n (number_only n bytes at) ∙ ap Some (sym is)
signed_only bytes z (inr (n, is, rest, spelled, at)) = ap signed_of spelled ∙ ap (option_map (λ n. neg_ℤ (pos n))) (number_only n rest at) ∙ ap Some (sym is)

printed_found : (names : List (List ℕ)) (line : List ℕ) (deed : Deed) → printed_by names line ≡ Some deed → Asks names deed line
printed_found names line deed e =
    let (name, front, found) = bind_some (after_front (codes "print ") line) (λ name. option_map Print (cell_of names name)) deed e in
    let (c, cell, is) = map_some (cell_of names name) Print deed found in
    subst (λ (d : Deed). Asks names d line) is (name, after_front_found (codes "print ") line name front, cell_found names name c cell)

abbrev number_for : ℕ → List ℕ → Option Deed
number_for cell number = option_map (Do cell) (signed_of number)

done_found : (names : List (List ℕ)) (line : List ℕ) (deed : Deed) → done_by names line ≡ Some deed → Asks names deed line
done_found names line deed e =
    let (rest, front, assigned) = bind_some (after_front (codes "do ") line) (assigned_in names) deed e in
    let (c, cut, then_cell) = bind_some (cut_of (32 ∷ []) rest) (λ c. cell_of names c.before >>= λ cell. after_front (codes "= ") c.after >>= number_for cell) deed assigned in
    let (cell, named, then_sign) = bind_some (cell_of names c.before) (λ cell. after_front (codes "= ") c.after >>= number_for cell) deed then_cell in
    let (number, sign, then_number) = bind_some (after_front (codes "= ") c.after) (number_for cell) deed then_sign in
    let (z, read, is) = map_some (signed_of number) (Do cell) deed then_number in
    let (spelled, mark, clean) = cut_found (32 ∷ []) rest c cut in
    let whole : line ≡ codes "do " ++ (c.before ++ (codes " = " ++ number)) =
    after_front_found (codes "do ") line rest front ∙ ap (λ (xs : List ℕ). codes "do " ++ xs) (spelled ∙ ap (λ k. c.before ++ k ∷ c.after) (one_mark 32 c.mark mark) ∙ ap (λ (xs : List ℕ). c.before ++ 32 ∷ xs) (after_front_found (codes "= ") c.after number sign)) in
    subst (λ (d : Deed). Asks names d line) is (c.before, number, whole, clean_lacks 32 c.before clean, cell_found names c.before cell named, signed_found number z read)

deed_found : (names : List (List ℕ)) (line : List ℕ) (deed : Deed) → deed_of names line ≡ Some deed → Asks names deed line
unfolding deed_of
deed_found names line deed e = by (printed_by names line) refl e
  where
    by : (o : Option Deed) → printed_by names line ≡ o → first_of o (done_by names line) ≡ Some deed → Asks names deed line
    by (Some d) f e = printed_found names line deed (f ∙ e)
    by None f e = done_found names line deed e

abbrev first_byte : List ℕ → ℕ
first_byte [] = 0
first_byte (b ∷ bs) = b

not_both : (rest name : List ℕ) → codes "do " ++ rest ≡ codes "print " ++ name → ⊥
not_both rest name e = let first : 100 ≡ 112 = ap first_byte e in other_is 100 112 refl first

not_printed : (names : List (List ℕ)) (rest : List ℕ) → printed_by names (codes "do " ++ rest) ≡ None
not_printed names rest = by (after_front (codes "print ") (codes "do " ++ rest)) refl
  where
    by : (o : Option (List ℕ)) → after_front (codes "print ") (codes "do " ++ rest) ≡ o → (o >>= λ name. option_map Print (cell_of names name)) ≡ None
    by None f = refl
    by (Some name) f = absurd (not_both rest name (after_front_found (codes "print ") (codes "do " ++ rest) name f))

deed_only : (names : List (List ℕ)) (line : List ℕ) (deed : Deed) → Asks names deed line → deed_of names line ≡ Some deed
unfolding deed_of
deed_only names line (Print c) (name, spelled, cell) =
    ap (λ (xs : List ℕ). first_of (printed_by names xs) (done_by names xs)) spelled
    ∙ ap (λ (o : Option (List ℕ)). first_of (o >>= λ name. option_map Print (cell_of names name)) (done_by names (codes "print " ++ name))) (after_front_only (codes "print ") name)
    ∙ ap (λ (o : Option ℕ). first_of (option_map Print o) (done_by names (codes "print " ++ name))) (cell_only names name c cell)
deed_only names line (Do c z) (name, number, spelled, lacks, cell, signed) =
    let rest : List ℕ = name ++ (codes " = " ++ number) in
    ap (λ (xs : List ℕ). first_of (printed_by names xs) (done_by names xs)) spelled
    ∙ ap (λ (o : Option Deed). first_of o (done_by names (codes "do " ++ rest))) (not_printed names rest)
    ∙ ap (λ (o : Option (List ℕ)). o >>= assigned_in names) (after_front_only (codes "do ") rest)
    ∙ ap (λ (o : Option Cut). o >>= λ c. cell_of names c.before >>= λ cell. after_front (codes "= ") c.after >>= number_for cell) (cut_of-mark (32 ∷ []) name 32 (codes "= " ++ number) (lacks_clean 32 name lacks) refl)
    ∙ ap (λ (o : Option ℕ). o >>= λ cell. after_front (codes "= ") (codes "= " ++ number) >>= number_for cell) (cell_only names name c cell)
    ∙ ap (λ (o : Option (List ℕ)). o >>= number_for c) (after_front_only (codes "= ") number)
    ∙ ap (option_map (Do c)) (signed_only number z signed)

-- ---- all lines
abbrev pub read_from : List (List ℕ) → ℕ → List (List ℕ) → Result (List ScriptLine) ℕ
read_from names n [] = Ok []
read_from names n (line ∷ lines) = with_line names n line (read_from names (suc n) lines)

pub script_from-texts : (names : List (List ℕ)) (n : ℕ) (ps : Pieces) → script_from names n ps ≡ read_from names n (texts_of ps)
script_from-texts names n (last line) = refl
script_from-texts names n (piece line mark rest) = ap (with_line names n (without_return line)) (script_from-texts names (suc n) rest)

at_skipped : (names : List (List ℕ)) (n : ℕ) (line : List ℕ) (rest : Result (List ScriptLine) ℕ) → is_skipped line ≡ true → with_line names n line rest ≡ rest
at_skipped names n line rest e = ap (λ t. if t then rest else with_deed (deed_of names line) n line rest) e

at_deed : (names : List (List ℕ)) (n : ℕ) (line : List ℕ) (rest : Result (List ScriptLine) ℕ) (o : Option Deed) → is_skipped line ≡ false → deed_of names line ≡ o → with_line names n line rest ≡ with_deed o n line rest
at_deed names n line rest o e f = ap (λ t. if t then rest else with_deed (deed_of names line) n line rest) e ∙ ap (λ d. with_deed d n line rest) f

onto_ok : (line : List ℕ) (deed : Deed) (rest : Result (List ScriptLine) ℕ) (read : List ScriptLine) → onto_lines line deed rest ≡ Ok read → (more : List ScriptLine) × (rest ≡ Ok more) × (read ≡ record { shown = line; deed = deed } ∷ more)
onto_ok line deed (Ok lines) read e = (lines, refl, cc)
onto_ok line deed (Err bad) read e = absurd (cc)

onto_err : (line : List ℕ) (deed : Deed) (rest : Result (List ScriptLine) ℕ) (n : ℕ) → onto_lines line deed rest ≡ Err n → rest ≡ Err n
onto_err line deed (Ok lines) n e = absurd (cc)
onto_err line deed (Err bad) n e = e

pub ok_found : (names : List (List ℕ)) (lines : List (List ℕ)) (n : ℕ) (read : List ScriptLine) → read_from names n lines ≡ Ok read → AsksAll names read lines
ok_found names [] n read e = cc
ok_found names (line ∷ lines) n read e = by (is_skipped line) (deed_of names line) refl refl (ok_found names lines (suc n))
  where
    by : (t : Bool) (o : Option Deed) → is_skipped line ≡ t → deed_of names line ≡ o → ((more : List ScriptLine) → read_from names (suc n) lines ≡ Ok more → AsksAll names more lines) → AsksAll names read (line ∷ lines)
    by true o f g rest = inl (f, rest read (sym (at_skipped names n line (read_from names (suc n) lines) f) ∙ e))
    by false None f g rest = absurd (cc (at_deed names n line (read_from names (suc n) lines) None f g))
    by false (Some deed) f g rest =
        let (more, is, same) = onto_ok line deed (read_from names (suc n) lines) read (sym (at_deed names n line (read_from names (suc n) lines) (Some deed) f g) ∙ e) in
        inr (f, deed, more, same, deed_found names line deed g, rest more is)

ok_only : (names : List (List ℕ)) (lines : List (List ℕ)) (n : ℕ) (read : List ScriptLine) → AsksAll names read lines → read_from names n lines ≡ Ok read
ok_only names [] n read is = ap Ok (sym is)
ok_only names (line ∷ lines) n read (inl (f, rest)) = at_skipped names n line (read_from names (suc n) lines) f ∙ ok_only names lines (suc n) read rest
ok_only names (line ∷ lines) n read (inr (f, deed, more, same, asks, rest)) =
    at_deed names n line (read_from names (suc n) lines) (Some deed) f (deed_only names line deed asks)
    ∙ ap (onto_lines line deed) (ok_only names lines (suc n) more rest) ∙ ap Ok (sym same)

-- ---- the first bad line
record Bad (names : List (List ℕ)) (lines : List (List ℕ)) (n k : ℕ) : Type 0 where
  before : List (List ℕ)
  bad : List ℕ
  after : List (List ℕ)
  read : List ScriptLine
  lines_are : lines ≡ before ++ bad ∷ after
  asked : AsksAll names read before
  counted : k ≡ length before + n
  looked_at : is_skipped bad ≡ false
  asks_nothing : (deed : Deed) → Asks names deed bad → ⊥

bad_later : (names : List (List ℕ)) (line : List ℕ) (lines : List (List ℕ)) (n k : ℕ) (later : Bad names lines (suc n) k) (read : List ScriptLine) → AsksAll names read (line ∷ later.before) → Bad names (line ∷ lines) n k
bad_later names line lines n k later read asked = record {
  before = line ∷ later.before;
  bad = later.bad;
  after = later.after;
  read = read;
  lines_are = ap (λ (ls : List (List ℕ)). line ∷ ls) later.lines_are;
  asked = asked;
  counted = (let e = later.counted in omega arith);
  looked_at = later.looked_at;
  asks_nothing = later.asks_nothing;
}

err_found : (names : List (List ℕ)) (lines : List (List ℕ)) (n k : ℕ) → read_from names n lines ≡ Err k → Bad names lines n k
err_found names [] n k e = absurd (cc)
err_found names (line ∷ lines) n k e = by (is_skipped line) (deed_of names line) refl refl (err_found names lines (suc n) k)
  where
    by : (t : Bool) (o : Option Deed) → is_skipped line ≡ t → deed_of names line ≡ o → (read_from names (suc n) lines ≡ Err k → Bad names lines (suc n) k) → Bad names (line ∷ lines) n k
    by true o f g rest =
        let later = rest (sym (at_skipped names n line (read_from names (suc n) lines) f) ∙ e) in
        bad_later names line lines n k later later.read (inl (f, later.asked))
    by false None f g rest =
        let at : n ≡ k = let told : Err n ≡ Err k = sym (at_deed names n line (read_from names (suc n) lines) None f g) ∙ e in cc in
        record {
          before = [];
          bad = line;
          after = lines;
          read = [];
          lines_are = refl;
          asked = refl;
          counted = omega arith;
          looked_at = f;
          asks_nothing = λ deed asks. cc (deed_only names line deed asks);
        }
    by false (Some deed) f g rest =
        let later = rest (onto_err line deed (read_from names (suc n) lines) k (sym (at_deed names n line (read_from names (suc n) lines) (Some deed) f g) ∙ e)) in
        bad_later names line lines n k later (record { shown = line; deed = deed } ∷ later.read) (inr (f, deed, later.read, refl, deed_found names line deed g, later.asked))

none_asked : (names : List (List ℕ)) (bad : List ℕ) → ((deed : Deed) → Asks names deed bad → ⊥) → deed_of names bad ≡ None
none_asked names bad nothing = by (deed_of names bad) refl
  where
    by : (o : Option Deed) → deed_of names bad ≡ o → deed_of names bad ≡ None
    by None f = f
    by (Some deed) f = absurd (nothing deed (deed_found names bad deed f))

err_only : (names : List (List ℕ)) (before : List (List ℕ)) (bad : List ℕ) (after : List (List ℕ)) (read : List ScriptLine) (n : ℕ) → AsksAll names read before → is_skipped bad ≡ false → ((deed : Deed) → Asks names deed bad → ⊥)
    → read_from names n (before ++ bad ∷ after) ≡ Err (length before + n)
err_only names [] bad after read n asked f nothing = at_deed names n bad (read_from names (suc n) after) None f (none_asked names bad nothing) ∙ ap Err (omega arith)
err_only names (line ∷ before) bad after read n (inl (g, asked)) f nothing =
    at_skipped names n line (read_from names (suc n) (before ++ bad ∷ after)) g ∙ err_only names before bad after read (suc n) asked f nothing ∙ ap Err (omega arith)
err_only names (line ∷ before) bad after read n (inr (g, deed, more, same, asks, asked)) f nothing =
    at_deed names n line (read_from names (suc n) (before ++ bad ∷ after)) (Some deed) g (deed_only names line deed asks)
    ∙ ap (onto_lines line deed) (err_only names before bad after more (suc n) asked f nothing) ∙ ap Err (omega arith)

-- ---- scripts
abbrev read_all : List (List ℕ) → List ℕ → Result (List ScriptLine) ℕ
read_all names bytes = script_from names 1 (pieces_of (10 ∷ []) bytes)

by_texts : (names : List (List ℕ)) (bytes : List ℕ) → read_all names bytes ≡ read_from names 1 (texts_of (pieces_of (10 ∷ []) bytes))
by_texts names bytes = script_from-texts names 1 (pieces_of (10 ∷ []) bytes)

few_is : (bytes : List ℕ) → length bytes ≤ 4194304 → nat_le (length bytes) 4194304 ≡ true
few_is bytes h = grind (arith, nat_tests)

few_from : (bytes : List ℕ) → nat_le (length bytes) 4194304 ≡ true → length bytes ≤ 4194304
few_from bytes h = grind (arith, nat_tests)

many_from : (bytes : List ℕ) → nat_le (length bytes) 4194304 ≡ false → 4194304 < length bytes
many_from bytes h = grind (arith, nat_tests)

many_is : (bytes : List ℕ) → 4194304 < length bytes → nat_le (length bytes) 4194304 ≡ false
many_is bytes h = grind (arith, nat_tests)

pub script_found : (names : List (List ℕ)) (bytes : List ℕ) (read : List ScriptLine) → script_of names bytes ≡ Ok read → IsScript names read bytes
unfolding script_of
script_found names bytes read e = by (nat_le (length bytes) 4194304) refl
  where
    by : (t : Bool) → nat_le (length bytes) 4194304 ≡ t → IsScript names read bytes
    by true f = (
      few_from bytes f,
      texts_of (pieces_of (10 ∷ []) bytes),
      lines_found bytes,
      ok_found names (texts_of (pieces_of (10 ∷ []) bytes)) 1 read (sym (ap (λ t. if t then read_all names bytes else Err 0) f ∙ by_texts names bytes) ∙ e),
    )
    by false f = absurd (cc (ap (λ t. if t then read_all names bytes else Err 0) f))

pub script_only : (names : List (List ℕ)) (bytes : List ℕ) (read : List ScriptLine) → IsScript names read bytes → script_of names bytes ≡ Ok read
unfolding script_of
script_only names bytes read (few, lines, are, asks) =
    ap (λ t. if t then read_all names bytes else Err 0) (few_is bytes few) ∙ by_texts names bytes
    ∙ ap (read_from names 1) (lines_only lines bytes are) ∙ ok_only names lines 1 read asks

pub bad_found : (names : List (List ℕ)) (bytes : List ℕ) (n : ℕ) → script_of names bytes ≡ Err n → IsFirstBad names n bytes
unfolding script_of
bad_found names bytes n e = by (nat_le (length bytes) 4194304) refl
  where
    by : (t : Bool) → nat_le (length bytes) 4194304 ≡ t → IsFirstBad names n bytes
    by true f =
        let bad = err_found names (texts_of (pieces_of (10 ∷ []) bytes)) 1 n (sym (ap (λ t. if t then read_all names bytes else Err 0) f ∙ by_texts names bytes) ∙ e) in
        inr (few_from bytes f, bad.before, bad.bad, bad.after, bad.read, subst (λ (ls : List (List ℕ)). AreLines ls bytes) bad.lines_are (lines_found bytes), bad.asked, bad.counted, bad.looked_at, bad.asks_nothing)
    by false f =
        let told : Err 0 ≡ Err n = sym (ap (λ t. if t then read_all names bytes else Err 0) f) ∙ e in
        inl (cc, many_from bytes f)

pub bad_only : (names : List (List ℕ)) (bytes : List ℕ) (n : ℕ) → IsFirstBad names n bytes → script_of names bytes ≡ Err n
unfolding script_of
bad_only names bytes n (inl (is, many)) = ap (λ t. if t then read_all names bytes else Err 0) (many_is bytes many) ∙ ap Err (sym is)
bad_only names bytes n (inr (few, before, bad, after, read, are, asked, counted, looked_at, nothing)) =
    ap (λ t. if t then read_all names bytes else Err 0) (few_is bytes few) ∙ by_texts names bytes
    ∙ ap (read_from names 1) (lines_only (before ++ bad ∷ after) bytes are) ∙ err_only names before bad after read 1 asked looked_at nothing ∙ ap Err (sym counted)

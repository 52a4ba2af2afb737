-- Lines, and what reading them one after another comes to.
use Rattle.std.proofs.Common.{◌≡◌, ℕ, zero, suc, ◌+◌, ◌<◌, ◌≤◌, Bool, true, false, ◌&&◌, ◌||◌, List, [], ◌∷◌, ◌++◌, length, take, drop, get_or, refl, sym, ap, ◌∙◌, arith, subst, append_assoc, append-nil, if◌then◌else◌}
use Rattle.std.specs.Prelude.{◌==◌}
use Rattle.std.proofs.lemmas.List.{drop_more, take_more}
use Rattle.qml_lexer.specs.Characters.{begins}
use Rattle.event_script.specs.Lines.{onto, ends_line, lines_of}
use Rattle.event_script.specs.Script.{Say, at_end, left_out as say_left_out, said_line, FirstBad, here, behind_skipped, behind_told}
use Rattle.event_script.specs.Adding.{Adds, left_out, added_line, bad, Left}
use Rattle.event_script.specs.declared.script.Line.{Line}

-- ---- the end of a line

pub return_and_feed : (rest : List ℕ) → lines_of (13 ∷ 10 ∷ rest) ≡ [] ∷ lines_of rest
return_and_feed rest = refl

feed : ℕ → Bool
feed x = x == 10

another : (b : ℕ) (rest : List ℕ) (v : Bool) → ends_line b ≡ true → v ≡ false
    → (if v then lines_of rest else if ends_line b then [] ∷ lines_of rest else onto b (lines_of rest)) ≡ [] ∷ lines_of rest
another b rest true e h = cc
another b rest false e h = rw e refl

pub another_end : (b : ℕ) (rest : List ℕ) → ends_line b ≡ true → ((b == 13) && begins (λ x. x == 10) rest) ≡ false → lines_of (b ∷ rest) ≡ [] ∷ lines_of rest
another_end b rest e h = another b rest ((b == 13) && begins (λ x. x == 10) rest) e h

-- ---- lines and their fronts

abbrev pub ahead : List ℕ → List (List ℕ) → List (List ℕ)
ahead [] lines = lines
ahead (b ∷ front) lines = onto b (ahead front lines)

pub ahead_one : (front : List ℕ) (b : ℕ) (lines : List (List ℕ)) → ahead (front ++ b ∷ []) lines ≡ ahead front (onto b lines)
ahead_one [] b lines = refl
ahead_one (x ∷ front) b lines = ap (onto x) (ahead_one front b lines)

pub ahead_line : (front : List ℕ) (lines : List (List ℕ)) → ahead front ([] ∷ lines) ≡ front ∷ lines
ahead_line [] lines = refl
ahead_line (x ∷ front) lines = ap (onto x) (ahead_line front lines)

no_return : (b : ℕ) (v : Bool) → ((b == 10) || (b == 13)) ≡ false → ((b == 13) && v) ≡ false
no_return b v h = by (b == 10) (b == 13) h
  where
    by : (p q : Bool) → (p || q) ≡ false → (q && v) ≡ false
    by true q h = cc
    by false true h = cc
    by false false h = refl

no_end : (b : ℕ) (rest : List ℕ) (v : Bool) → v ≡ false → ends_line b ≡ false
    → (if v then lines_of rest else if ends_line b then [] ∷ lines_of rest else onto b (lines_of rest)) ≡ onto b (lines_of rest)
no_end b rest true e h = cc
no_end b rest false e h = rw h refl

pub in_line : (b : ℕ) (rest : List ℕ) → ends_line b ≡ false → lines_of (b ∷ rest) ≡ onto b (lines_of rest)
in_line b rest h = no_end b rest ((b == 13) && begins (λ x. x == 10) rest) (no_return b (begins (λ x. x == 10) rest) h) h

pub byte_in_line : (bytes : List ℕ) (i : ℕ) → i < length bytes → ends_line (get_or bytes i 0) ≡ false
    → ahead (take (i + 1) bytes) (lines_of (drop (i + 1) bytes)) ≡ ahead (take i bytes) (lines_of (drop i bytes))
byte_in_line bytes i h e =
    ap (λ (front : List ℕ). ahead front (lines_of (drop (i + 1) bytes))) (take_more bytes i 0 h)
    ∙ ahead_one (take i bytes) (get_or bytes i 0) (lines_of (drop (i + 1) bytes))
    ∙ ap (ahead (take i bytes)) (sym (in_line (get_or bytes i 0) (drop (i + 1) bytes) e) ∙ ap lines_of (sym (drop_more bytes i 0 h)))

pub line_found : (bytes rest : List ℕ) (i : ℕ) → lines_of (drop i bytes) ≡ [] ∷ lines_of rest
    → lines_of bytes ≡ ahead (take i bytes) (lines_of (drop i bytes)) → lines_of bytes ≡ take i bytes ∷ lines_of rest
line_found bytes rest i e known = known ∙ ap (ahead (take i bytes)) e ∙ ahead_line (take i bytes) (lines_of rest)

take_past : (i : ℕ) (bytes : List ℕ) → length bytes ≤ i → take i bytes ≡ bytes
take_past zero [] h = refl
take_past (suc i) [] h = refl
take_past zero (x ∷ bytes) h = absurd (omega (arith, h))
take_past (suc i) (x ∷ bytes) h = ap (λ z. x ∷ z) (take_past i bytes (omega (arith, h)))

drop_past : (i : ℕ) (bytes : List ℕ) → length bytes ≤ i → drop i bytes ≡ []
drop_past zero [] h = refl
drop_past (suc i) [] h = refl
drop_past zero (x ∷ bytes) h = absurd (omega (arith, h))
drop_past (suc i) (x ∷ bytes) h = drop_past i bytes (omega (arith, h))

pub one_line : (bytes : List ℕ) (i : ℕ) → length bytes ≤ i → lines_of bytes ≡ ahead (take i bytes) (lines_of (drop i bytes)) → lines_of bytes ≡ bytes ∷ []
one_line bytes i h known =
    known ∙ ap (λ z. ahead (take i bytes) (lines_of z)) (drop_past i bytes h) ∙ ahead_line (take i bytes) [] ∙ ap (λ z. z ∷ []) (take_past i bytes h)

-- ---- one line after another

pub starts : (all : List (List ℕ)) → Left all 1 all []
starts all = record { say = λ more h. h; fail = λ n h. h }

pub goes_on : (all : List (List ℕ)) (n : ℕ) (line : List ℕ) (left : List (List ℕ)) (old new : List Line) → Left all n (line ∷ left) old → Adds n line old new true → Left all (n + 1) left new
goes_on all n line left old new l (left_out s) = record { say = λ more h. l.say more (say_left_out s h); fail = λ number h. l.fail number (behind_skipped s h) }
goes_on all n line left old new l (added_line t) = record {
  say = λ more h. let P : List Line → Type 0 = λ z. Say 1 all z in subst P (sym (append_assoc old _ more)) (l.say _ (said_line t h));
  fail = λ number h. l.fail number (behind_told t h);
}

pub fails : (all : List (List ℕ)) (n : ℕ) (line : List ℕ) (left : List (List ℕ)) (old new : List Line) → Left all n (line ∷ left) old → Adds n line old new false → FirstBad 1 all n
fails all n line left old new l (bad b) = l.fail n (here b)

pub says_all : (all : List (List ℕ)) (n : ℕ) (line : List ℕ) (old new : List Line) → Left all n (line ∷ []) old → Adds n line old new true → Say 1 all new
says_all all n line old new l a =
    let P : List Line → Type 0 = λ z. Say 1 all z in
    subst P (append-nil new) ((goes_on all n line [] old new l a).say [] at_end)

pub goes_on_at : (all : List (List ℕ)) (rest line behind : List ℕ) (n : ℕ) (old new : List Line) → lines_of rest ≡ line ∷ lines_of behind → Left all n (lines_of rest) old → Adds n line old new true
    → Left all (n + 1) (lines_of behind) new
goes_on_at all rest line behind n old new e l a = let P : List (List ℕ) → Type 0 = λ z. Left all n z old in goes_on all n line (lines_of behind) old new (subst P e l) a

pub fails_at : (all : List (List ℕ)) (rest line behind : List ℕ) (n : ℕ) (old new : List Line) → lines_of rest ≡ line ∷ lines_of behind → Left all n (lines_of rest) old → Adds n line old new false
    → FirstBad 1 all n
fails_at all rest line behind n old new e l a = let P : List (List ℕ) → Type 0 = λ z. Left all n z old in fails all n line (lines_of behind) old new (subst P e l) a

pub says_all_at : (all : List (List ℕ)) (rest : List ℕ) (n : ℕ) (old new : List Line) → lines_of rest ≡ rest ∷ [] → Left all n (lines_of rest) old → Adds n rest old new true → Say 1 all new
says_all_at all rest n old new e l a = let P : List (List ℕ) → Type 0 = λ z. Left all n z old in says_all all n rest old new (subst P e l) a

pub fails_last : (all : List (List ℕ)) (rest : List ℕ) (n : ℕ) (old new : List Line) → lines_of rest ≡ rest ∷ [] → Left all n (lines_of rest) old → Adds n rest old new false → FirstBad 1 all n
fails_last all rest n old new e l a = let P : List (List ℕ) → Type 0 = λ z. Left all n z old in fails all n rest [] old new (subst P e l) a

-- Names joined by dots.
use Rattle.std.proofs.Common.{◌≡◌, ℕ, ◌<◌, Bool, true, false, not, List, [], ◌∷◌, ◌++◌, length, refl, sym, ap, ◌∙◌, arith, subst, append-nil}
use Rattle.std.specs.Prelude.{◌==◌}
use Rattle.std.specs.Str.{chars}
use Rattle.std.specs.List.{list_all}
use Rattle.std.proofs.lemmas.Bool.Decides.{nat_tests}
use Rattle.qml_lexer.specs.Characters.{is_start, is_part, begins, run}
use Rattle.qml_lexer.specs.Characters.{behind as after}
use Rattle.qml_lexer.specs.Spells.{is_identifier, IsName}
use Rattle.qml_lexer.proofs.CharacterLemmas.{start_part, ascii_part}
use Rattle.qml_lexer.proofs.RunLemmas.{and_true, and_both, run_over, behind_over, behind_stops, behind_short}
use Rattle.qml_lexer.proofs.Utf8Lemmas.{run-behind}
use Rattle.event_script.specs.Script.{IsPath, one, joined, is_no_dot}

-- what a path goes on with behind its first name
abbrev pub Tail : List ℕ → Type 0
Tail [] = Unit {0}
Tail (dot ∷ path) = IsPath path

part_no_dot : (x : ℕ) → is_part x ≡ true → is_no_dot x ≡ true
part_no_dot x h = by (x == 46) refl
  where
    by : (v : Bool) → (x == 46) ≡ v → not v ≡ true
    by true e = let dot : x ≡ 46 = grind (arith, nat_tests, e) in let no : is_part 46 ≡ true = subst (λ z. is_part z ≡ true) dot h in let never : is_part 46 ≡ false = ascii_part 46 (omega arith) in cc
    by false e = refl

parts_no_dot : (w : List ℕ) → list_all is_part w ≡ true → list_all is_no_dot w ≡ true
parts_no_dot [] h = refl
parts_no_dot (x ∷ w) h = let t = and_true (is_part x) (list_all is_part w) h in and_both (is_no_dot x) (list_all is_no_dot w) (part_no_dot x t.0) (parts_no_dot w t.1)

name_no_dot : (w : List ℕ) → is_identifier w ≡ true → list_all is_no_dot w ≡ true
name_no_dot [] h = cc
name_no_dot (x ∷ w) h = let t = and_true (is_start x) (list_all is_part w) h in and_both (is_no_dot x) (list_all is_no_dot w) (part_no_dot x (start_part x t.0)) (parts_no_dot w t.1)

one_run : (w : List ℕ) → list_all is_no_dot w ≡ true → (run is_no_dot w ≡ w) × (after is_no_dot w ≡ [])
one_run w h = (
  ap (run is_no_dot) (sym (append-nil w)) ∙ run_over is_no_dot w [] h ∙ append-nil w,
  ap (after is_no_dot) (sym (append-nil w)) ∙ behind_over is_no_dot w [] h,
)

joined_run : (w path : List ℕ) → list_all is_no_dot w ≡ true → (run is_no_dot (w ++ 46 ∷ path) ≡ w) × (after is_no_dot (w ++ 46 ∷ path) ≡ 46 ∷ path)
joined_run w path h = (run_over is_no_dot w (46 ∷ path) h ∙ append-nil w, behind_over is_no_dot w (46 ∷ path) h)

-- a path is a name at its front, and what goes on behind it
path_parts : (xs : List ℕ) → IsPath xs → IsName (run is_no_dot xs) × Tail (after is_no_dot xs)
path_parts xs (one n) = let r = one_run xs (name_no_dot xs n.0) in (subst IsName (sym r.0) n, subst Tail (sym r.1) tt)
path_parts _ (joined n p) = let r = joined_run _ _ (name_no_dot _ n.0) in (subst IsName (sym r.0) n, subst Tail (sym r.1) p)

dot_first : (d : ℕ) (rest : List ℕ) → begins is_no_dot (d ∷ rest) ≡ false → d ≡ 46
dot_first d rest h = grind (arith, nat_tests, h)

parts_path : (w tail : List ℕ) → IsName w → begins is_no_dot tail ≡ false → Tail tail → IsPath (w ++ tail)
parts_path w [] n b t = subst IsPath (sym (append-nil w)) (one n)
parts_path w (d ∷ path) n b t = let P : ℕ → Type 0 = λ z. IsPath (w ++ z ∷ path) in subst P (sym (dot_first d path b)) (joined n t)

pub no_name : (xs : List ℕ) → (IsName (run is_no_dot xs) → ⊥) → IsPath xs → ⊥
no_name xs n p = n (path_parts xs p).0

pub tail_of_path : (xs : List ℕ) → IsPath xs → Tail (after is_no_dot xs)
tail_of_path xs p = (path_parts xs p).1

pub path_of_tail : (xs : List ℕ) → IsName (run is_no_dot xs) → Tail (after is_no_dot xs) → IsPath xs
path_of_tail xs n t = subst IsPath (run-behind is_no_dot xs) (parts_path (run is_no_dot xs) (after is_no_dot xs) n (behind_stops is_no_dot xs) t)

-- ---- the same of texts

abbrev pub Goes : List ℕ → List ℕ → Type 0
Goes text behind = (Tail (chars behind) → IsPath (chars text)) × (IsPath (chars text) → Tail (chars behind))

pub starts : (text name behind : List ℕ) → IsName (chars name) → chars name ≡ run is_no_dot (chars text) → chars behind ≡ after is_no_dot (chars text) → Goes text behind
starts text name behind n front rest = (
  λ t. path_of_tail (chars text) (subst IsName front n) (subst Tail rest t),
  λ p. subst Tail (sym rest) (tail_of_path (chars text) p),
)

pub goes_on : (text behind rest name more : List ℕ) (dot : ℕ) → chars behind ≡ dot ∷ chars rest → Goes text behind → IsName (chars name)
    → chars name ≡ run is_no_dot (chars rest) → chars more ≡ after is_no_dot (chars rest) → Goes text more
goes_on text behind rest name more dot first g n front back =
    let r = starts rest name more n front back in
    (λ t. g.0 (subst Tail (sym first) (r.0 t)), λ p. r.1 (subst Tail first (g.1 p)))

pub smaller : (behind rest more : List ℕ) (dot : ℕ) → chars behind ≡ dot ∷ chars rest → chars more ≡ after is_no_dot (chars rest) → length (chars more) < length (chars behind)
smaller behind rest more dot first back = omega (arith, ap length first, ap length back, behind_short is_no_dot (chars rest))

-- Segments as the code goes through them are those of paths.
use Rattle.std.proofs.Common.{◌≡◌, ◌∙◌, ap, sym, refl, ℕ, suc, ◌-◌, arith, Bool, true, false, not, ◌&&◌, if◌then◌else◌, nat_eq, ◌==◌, List, [], ◌∷◌, ◌++◌, length, take, drop, Option, Some, None}
use Rattle.std.specs.List.{flat_map, list_all, IsLastAndRest}
use Rattle.std.specs.Str.{bytes_eq}
use Rattle.std.proofs.lemmas.Bool.Decides.{nat_tests}
use Rattle.std.proofs.lemmas.Bool.{false≢true}
use Rattle.std.proofs.lemmas.List.{append-nil, take_all}
use Rattle.std.specs.Prelude.{codes}
use Rattle.program_names.specs.Paths.{Path, segments, joined, is_absolute, resolved, directory_of, joined_to}
use Rattle.file_paths.specs.Segments.{resolved_from}

pub resolved_is : (path : Path) → resolved path ≡ (if is_absolute path then 47 ∷ resolved_from true (segments (drop 1 path)) else resolved_from false (segments path))
resolved_is path = refl

-- ---- the first segment

-- a front before the first of some segments
abbrev pub onto_first : Path → List Path → List Path
onto_first front [] = front ∷ []
onto_first front (s ∷ ss) = (front ++ s) ∷ ss

abbrev put : Bool → ℕ → List Path → List Path
put true c ss = [] ∷ ss
put false c [] = (c ∷ []) ∷ []
put false c (s ∷ ss) = (c ∷ s) ∷ ss

segments_step : (c : ℕ) (rest : Path) → segments (c ∷ rest) ≡ put (nat_eq c 47) c (segments rest)
segments_step c rest = refl

append_assoc : (a b c : Path) → (a ++ b) ++ c ≡ a ++ (b ++ c)
append_assoc [] b c = refl
append_assoc (x ∷ a) b c = ap (λ (p : Path). x ∷ p) (append_assoc a b c)

moved : (front : Path) (c : ℕ) (ss : List Path) → onto_first front (put false c ss) ≡ onto_first (front ++ c ∷ []) ss
moved front c [] = refl
moved front c (s ∷ ss) = ap (λ (p : Path). p ∷ ss) (sym (append_assoc front (c ∷ []) s))

pub one_further : (front : Path) (c : ℕ) (rest : Path) → nat_eq c 47 ≡ false → onto_first front (segments (c ∷ rest)) ≡ onto_first (front ++ c ∷ []) (segments rest)
one_further front c rest e = ap (λ b. onto_first front (put b c (segments rest))) e ∙ moved front c (segments rest)

pub at_slash : (front : Path) (c : ℕ) (rest : Path) → nat_eq c 47 ≡ true → onto_first front (segments (c ∷ rest)) ≡ front ∷ segments rest
at_slash front c rest e = ap (λ b. onto_first front (put b c (segments rest))) e ∙ ap (λ (p : Path). p ∷ segments rest) (append-nil front)

pub at_end : (front : Path) → onto_first front (segments []) ≡ front ∷ []
at_end front = ap (λ (p : Path). p ∷ []) (append-nil front)

some_segment : (ss : List Path) (c : ℕ) (b : Bool) → (s : Path) × (more : List Path) × (put b c ss ≡ s ∷ more)
some_segment ss c true = ([], ss, refl)
some_segment [] c false = (c ∷ [], [], refl)
some_segment (s ∷ ss) c false = (c ∷ s, ss, refl)

pub first_of : (path : Path) → (s : Path) × (more : List Path) × (segments path ≡ s ∷ more)
first_of [] = ([], [], refl)
first_of (c ∷ rest) = some_segment (segments rest) c (nat_eq c 47)

pub onto_nothing : (path : Path) → onto_first [] (segments path) ≡ segments path
onto_nothing path = let f : (s : Path) × (more : List Path) × (segments path ≡ s ∷ more) = first_of path in ap (onto_first []) f.2 ∙ sym f.2

-- ---- what is left to enter

abbrev pub left : Option Path → ℕ
left None = 0
left (Some path) = suc (length path)

-- ---- joining

abbrev pub behind_slashes : List Path → Path
behind_slashes parts = flat_map (λ p. codes "/" ++ p) parts

-- ---- the directory

abbrev pub has_no_slash : Path → Bool
has_no_slash path = list_all (λ c. not (nat_eq c 47)) path

pub record Tail (path rest : Path) : Type 0 where
  pub behind : Path
  pub whole : path ≡ rest ++ behind
  pub bare : has_no_slash behind ≡ true

both : (a b : Bool) → a && b ≡ true → (a ≡ true) × (b ≡ true)
both true b e = (refl, e)
both false b e = absurd (false≢true e)

negated : (b : Bool) → not b ≡ true → b ≡ false
negated true e = absurd (false≢true e)
negated false e = refl

alone : (path : Path) → has_no_slash path ≡ true → segments path ≡ path ∷ []
alone [] e = refl
alone (c ∷ rest) e =
    let h : (not (nat_eq c 47) ≡ true) × (has_no_slash rest ≡ true) = both (not (nat_eq c 47)) (has_no_slash rest) e in
    ap (λ b. put b c (segments rest)) (negated (nat_eq c 47) h.0) ∙ ap (put false c) (alone rest h.1)

put_before : (b : Bool) (c : ℕ) (s : Path) (ss more : List Path) → put b c ((s ∷ ss) ++ more) ≡ put b c (s ∷ ss) ++ more
put_before true c s ss more = refl
put_before false c s ss more = refl

cut_at_last : (front behind : Path) → segments (front ++ (47 ∷ behind)) ≡ segments front ++ segments behind
cut_at_last [] behind = refl
cut_at_last (c ∷ front) behind =
    let f : (s : Path) × (more : List Path) × (segments front ≡ s ∷ more) = first_of front in
    ap (put (nat_eq c 47) c) (cut_at_last front behind) ∙ ap (λ (ss : List Path). put (nat_eq c 47) c (ss ++ segments behind)) f.2 ∙
    put_before (nat_eq c 47) c f.0 f.1 (segments behind) ∙ ap (λ (ss : List Path). put (nat_eq c 47) c ss ++ segments behind) (sym f.2)

abbrev but_last : List Path → List Path
but_last [] = []
but_last (s ∷ []) = []
but_last (s ∷ next ∷ rest) = s ∷ but_last (next ∷ rest)

front_of : (ss : List Path) (s : Path) → but_last (ss ++ s ∷ []) ≡ ss
front_of [] s = refl
front_of (x ∷ []) s = refl
front_of (x ∷ y ∷ ss) s = ap (λ (ps : List Path). x ∷ ps) (front_of (y ∷ ss) s)

is_slash : (c : ℕ) → nat_eq c 47 ≡ true → c ≡ 47
is_slash c e = grind (arith, e)

rejoined_by : (c : ℕ) (rest s : Path) (more : List Path) (b : Bool) → nat_eq c 47 ≡ b → segments rest ≡ s ∷ more → joined (s ∷ more) ≡ rest → joined (put b c (s ∷ more)) ≡ c ∷ rest
rejoined_by c rest s more true e f r = ap (λ (p : Path). 47 ∷ p) r ∙ ap (λ n. n ∷ rest) (sym (is_slash c e))
rejoined_by c rest s more false e f r = ap (λ (p : Path). c ∷ p) r

pub rejoined : (path : Path) → joined (segments path) ≡ path
rejoined [] = refl
rejoined (c ∷ rest) =
    let f : (s : Path) × (more : List Path) × (segments rest ≡ s ∷ more) = first_of rest in
    ap (λ ss. joined (put (nat_eq c 47) c ss)) f.2 ∙ rejoined_by c rest f.0 f.1 (nat_eq c 47) refl f.2 (ap joined (sym f.2) ∙ rejoined rest)

abbrev is_nothing : Path → Bool
is_nothing [] = true
is_nothing (c ∷ rest) = false

abbrev by_front : Path → Path → Path
by_front path front = if is_nothing front && is_absolute path then codes "/" else front

directory_is : (path : Path) → directory_of path ≡ by_front path (joined (but_last (segments path)))
directory_is path = refl

abbrev if_nothing : Path → Path
if_nothing [] = codes "/"
if_nothing (c ∷ rest) = c ∷ rest

decided : (front behind : Path) → by_front (front ++ (47 ∷ behind)) front ≡ if_nothing front
decided [] behind = refl
decided (c ∷ front) behind = refl

pub directory_at_slash : (front behind : Path) → has_no_slash behind ≡ true → directory_of (front ++ (47 ∷ behind)) ≡ if_nothing front
directory_at_slash front behind e =
    directory_is (front ++ (47 ∷ behind)) ∙
    ap (by_front (front ++ (47 ∷ behind)))
    (ap joined (ap but_last (cut_at_last front behind ∙ ap (λ (ss : List Path). segments front ++ ss) (alone behind e)) ∙ front_of (segments front) behind) ∙ rejoined front) ∙
    decided front behind

relative : (path : Path) → has_no_slash path ≡ true → is_absolute path ≡ false
relative [] e = refl
relative (c ∷ rest) e = negated (nat_eq c 47) (both (not (nat_eq c 47)) (has_no_slash rest) e).0

pub directory_of_name : (path : Path) → has_no_slash path ≡ true → directory_of path ≡ []
directory_of_name path e =
    directory_is path ∙ ap (by_front path) (ap (λ ss. joined (but_last ss)) (alone path e)) ∙ ap (λ (b : Bool). if b then codes "/" else []) (relative path e)

-- ---- the code

if_eq : (n : ℕ) (b : Bool) → nat_eq n 0 ≡ b → b ≡ true → n ≡ 0
if_eq n b e f = grind (arith, nat_tests, e ∙ f)

is_empty : (front : Path) → (length front == 0) ≡ true → if_nothing front ≡ codes "/"
is_empty [] e = refl
is_empty (c ∷ front) e = absurd (grind (arith, nat_tests, e))

not_empty : (front : Path) → (length front == 0) ≡ false → if_nothing front ≡ front
not_empty [] e = absurd (grind (arith, nat_tests, e))
not_empty (c ∷ front) e = refl

cut_there : (path rest front : Path) (c : ℕ) (t : Tail path rest) → IsLastAndRest rest c front → c ≡ 47 → directory_of path ≡ if_nothing front
cut_there path rest front c t last e =
    ap directory_of (t.whole ∙ ap (λ (r : Path). r ++ t.behind) (last.0 ∙ ap (λ n. front ++ n ∷ []) e) ∙ append_assoc front (47 ∷ []) t.behind) ∙
    directory_at_slash front t.behind t.bare

pub directory_under_root : (path rest front : Path) (c : ℕ) → Tail path rest → IsLastAndRest rest c front → c ≡ 47 → (length front == 0) ≡ true → directory_of path ≡ 47 ∷ []
directory_under_root path rest front c t last e n = cut_there path rest front c t last e ∙ is_empty front n

pub directory_in_front : (path rest front : Path) (c : ℕ) → Tail path rest → IsLastAndRest rest c front → c ≡ 47 → (length front == 0) ≡ false → directory_of path ≡ front
directory_in_front path rest front c t last e n = cut_there path rest front c t last e ∙ not_empty front n

nothing_left : (rest : Path) → length rest ≡ 0 → rest ≡ []
nothing_left [] e = refl
nothing_left (c ∷ rest) e = absurd (omega arith)

pub directory_at_end : (path rest : Path) → Tail path rest → length rest ≡ 0 → rest ≡ directory_of path
directory_at_end path rest t e =
    nothing_left rest e ∙
    sym (ap directory_of (t.whole ∙ ap (λ (r : Path). r ++ t.behind) (nothing_left rest e)) ∙ directory_of_name t.behind t.bare)

absolute : (path : Path) → is_absolute path ≡ true → resolved path ≡ 47 ∷ resolved_from true (segments (drop 1 path))
absolute path e = resolved_is path ∙ ap (λ (b : Bool). if b then 47 ∷ resolved_from true (segments (drop 1 path)) else resolved_from false (segments path)) e

behind_first : (path : Path) → take (length path - 1) (drop 1 path) ≡ drop 1 path
behind_first [] = refl
behind_first (c ∷ rest) = take_all (length (c ∷ rest) - 1) rest (omega arith)

pub resolved_absolute : (path : Path) → is_absolute path ≡ true → resolved path ≡ 47 ∷ resolved_from true (segments (take (length path - 1) (drop 1 path)))
resolved_absolute path e = absolute path e ∙ ap (λ (p : Path). 47 ∷ resolved_from true (segments p)) (sym (behind_first path))

-- what stands before the slash
abbrev pub stem : Path → Path
stem from = if bytes_eq from (codes "/") then [] else from

by_root : (b : Bool) (from path : Path) → resolved ((if b then [] else from) ++ (47 ∷ path)) ≡ (if b then resolved (47 ∷ path) else resolved (from ++ (47 ∷ path)))
by_root true from path = refl
by_root false from path = refl

joined_by : Bool → Bool → Path → Path → Path
joined_by absolute nothing from path =
    if absolute then resolved path
    else (if nothing then resolved path
    else (if bytes_eq from (codes "/") then resolved (47 ∷ path)
    else resolved (from ++ (47 ∷ path))))

nothing_or : (from : Path) → (length from == 0) ≡ false → is_nothing from ≡ false
nothing_or [] e = absurd (grind (arith, nat_tests, e))
nothing_or (c ∷ from) e = refl

pub resolved_behind : (from path : Path) → is_absolute path ≡ false → (length from == 0) ≡ false → resolved (stem from ++ (47 ∷ path)) ≡ joined_to from path
unfolding joined_by
resolved_behind from path e f =
    by_root (bytes_eq from (codes "/")) from path ∙ sym (ap (λ b. joined_by b (is_nothing from) from path) e ∙ ap (λ b. joined_by false b from path) (nothing_or from f))

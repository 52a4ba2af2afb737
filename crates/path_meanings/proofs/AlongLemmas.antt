-- Going along names.
use Rattle.std.proofs.Common.{◌≡◌, ◌∙◌, ap, sym, refl, ℕ, zero, suc, ◌+◌, ◌<◌, ◌≤◌, Bool, List, [], ◌∷◌, ◌++◌, length, get_or, drop, add-one, drop-cons}
use Rattle.std.proofs.lemmas.List.{drop_all}
use Rattle.qml_syntax.specs.Tree.{Units}
use Rattle.program_names.specs.Names.{last_name, front_names, last_of, front_of}
use Rattle.program_tables.specs.declared.names.UnitNames.{UnitNames}
use Rattle.path_ends.specs.declared.aliases.UnitEnds.{UnitEnds}
use Rattle.handler_names.specs.declared.declared.UnitHandlers.{UnitHandlers}
use Rattle.path_meanings.specs.declared.reached.Reached.{Reached}
use Rattle.path_meanings.specs.declared.meanings.PathMeaning.{PathMeaning}
use Rattle.path_meanings.specs.Reached.{onward, along}
use Rattle.path_meanings.specs.Meanings.{at_last, meant_along}

pub goes_on : (us : List UnitNames) (known : List UnitEnds) (path : List Units) (i : ℕ) (d : Units) (x next all : Reached) → i < length path
    → next ≡ onward us known x (get_or path i d) → along us known x (drop i path) ≡ all → along us known next (drop (i + 1) path) ≡ all
goes_on us known path i d x next all h n l =
    ap (λ k. along us known next (drop k path)) (add-one i) ∙
    ap (λ y. along us known y (drop (suc i) path)) n ∙
    ap (along us known x) (sym (drop-cons path i d h)) ∙ l

pub meant_on : (us : List UnitNames) (hs : List UnitHandlers) (known : List UnitEnds) (own : Bool) (rest : List Units) (i : ℕ) (d name : Units) (x next : Reached) (all : PathMeaning) → i < length rest
    → next ≡ onward us known x name → meant_along us hs known own x name (drop i rest) ≡ all → meant_along us hs known own next (get_or rest i d) (drop (i + 1) rest) ≡ all
meant_on us hs known own rest i d name x next all h n l =
    ap (λ k. meant_along us hs known own next (get_or rest i d) (drop k rest)) (add-one i) ∙
    ap (λ y. meant_along us hs known own y (get_or rest i d) (drop (suc i) rest)) n ∙
    ap (meant_along us hs known own x name) (sym (drop-cons rest i d h)) ∙ l

pub meant_last : (us : List UnitNames) (hs : List UnitHandlers) (known : List UnitEnds) (own : Bool) (rest : List Units) (i : ℕ) (name : Units) (x : Reached) (result all : PathMeaning) → length rest ≤ i
    → result ≡ at_last us hs known own x name → meant_along us hs known own x name (drop i rest) ≡ all → result ≡ all
meant_last us hs known own rest i name x result all h r l = r ∙ ap (meant_along us hs known own x name) (sym (drop_all i rest h)) ∙ l

-- ---- names and those before them

pub along_both : (us : List UnitNames) (known : List UnitEnds) (x : Reached) (a b : List Units) → along us known x (a ++ b) ≡ along us known (along us known x a) b
along_both us known x [] b = refl
along_both us known x (n ∷ a) b = along_both us known (onward us known x n) a b

pub meant_so : (us : List UnitNames) (hs : List UnitHandlers) (known : List UnitEnds) (own : Bool) (x : Reached) (name : Units) (rest : List Units)
    → meant_along us hs known own x name rest ≡ at_last us hs known own (along us known x (front_names name rest)) (last_name name rest)
meant_so us hs known own x name [] = refl
meant_so us hs known own x name (next ∷ rest) = meant_so us hs known own (onward us known x name) next rest

front_behind : (b : Units) (before : List Units) (name : Units) (rest : List Units) → front_names b (before ++ name ∷ rest) ≡ b ∷ (before ++ front_names name rest)
front_behind b [] name rest = refl
front_behind b (c ∷ before) name rest = ap (λ xs. b ∷ xs) (front_behind c before name rest)

pub front_both : (before : List Units) (name : Units) (rest : List Units) → front_of (before ++ name ∷ rest) ≡ before ++ front_names name rest
front_both [] name rest = refl
front_both (b ∷ before) name rest = front_behind b before name rest

last_behind : (b : Units) (before : List Units) (name : Units) (rest : List Units) → last_name b (before ++ name ∷ rest) ≡ last_name name rest
last_behind b [] name rest = refl
last_behind b (c ∷ before) name rest = last_behind c before name rest

pub last_both : (before : List Units) (name : Units) (rest : List Units) → last_of (before ++ name ∷ rest) ≡ last_name name rest
last_both [] name rest = refl
last_both (b ∷ before) name rest = last_behind b before name rest

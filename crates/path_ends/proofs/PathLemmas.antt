-- Going along a path.
use Rattle.std.proofs.Common.{◌≡◌, ◌∙◌, ap, sym, refl, ℕ, suc, ◌+◌, ◌<◌, Bool, true, false, List, length, get_or, drop, add-one, drop-cons}
use Rattle.std.specs.Prelude.{◌&&◌}
use Rattle.std.proofs.lemmas.Bool.{false≢true}
use Rattle.qml_syntax.specs.Tree.{Units}
use Rattle.program_names.specs.PathMeanings.{PathEnd}
use Rattle.program_tables.specs.declared.names.UnitNames.{UnitNames}
use Rattle.path_ends.specs.declared.aliases.UnitEnds.{UnitEnds}
use Rattle.path_ends.specs.Ends.{followed, walked, one_falls, falls}

pub goes_on : (us : List UnitNames) (known : List UnitEnds) (path : List Units) (i : ℕ) (d : Units) (x next all : PathEnd) → i < length path
    → next ≡ followed us known x (get_or path i d) → walked us known x (drop i path) ≡ all → walked us known next (drop (i + 1) path) ≡ all
goes_on us known path i d x next all h n l =
    ap (λ k. walked us known next (drop k path)) (add-one i) ∙
    ap (λ y. walked us known y (drop (suc i) path)) n ∙
    ap (walked us known x) (sym (drop-cons path i d h)) ∙ l

and_true : (a b : Bool) → a ≡ true → (a && b) ≡ b
and_true true b e = refl
and_true false b e = absurd (false≢true e)

pub falls_on : (us : List UnitNames) (known : List UnitEnds) (limit : ℕ) (path : List Units) (i : ℕ) (d : Units) (x next : PathEnd) (b all : Bool) → i < length path
    → b ≡ one_falls us known limit x (get_or path i d) → b ≡ true → next ≡ followed us known x (get_or path i d)
    → falls us known limit x (drop i path) ≡ all → falls us known limit next (drop (i + 1) path) ≡ all
falls_on us known limit path i d x next b all h o t n l =
    ap (λ k. falls us known limit next (drop k path)) (add-one i) ∙
    ap (λ y. falls us known limit y (drop (suc i) path)) n ∙
    sym (and_true (one_falls us known limit x (get_or path i d)) (falls us known limit (followed us known x (get_or path i d)) (drop (suc i) path)) (sym o ∙ t)) ∙
    ap (falls us known limit x) (sym (drop-cons path i d h)) ∙ l

and_false : (a b : Bool) → a ≡ false → false ≡ (a && b)
and_false false b e = refl
and_false true b e = absurd (false≢true (sym e))

pub stays_high : (us : List UnitNames) (known : List UnitEnds) (limit : ℕ) (path : List Units) (i : ℕ) (d : Units) (x : PathEnd) (b all : Bool) → i < length path
    → b ≡ one_falls us known limit x (get_or path i d) → b ≡ false → falls us known limit x (drop i path) ≡ all → false ≡ all
stays_high us known limit path i d x b all h o f l =
    and_false (one_falls us known limit x (get_or path i d)) (falls us known limit (followed us known x (get_or path i d)) (drop (suc i) path)) (sym o ∙ f) ∙
    ap (falls us known limit x) (sym (drop-cons path i d h)) ∙ l

-- No module has a name with a character past 127.
use Rattle.std.proofs.Common.{◌≡◌, ◌∙◌, ap, sym, refl, ℕ, Bool, true, false, ◌&&◌, ◌||◌, List, [], ◌∷◌}
use Rattle.std.specs.Bool.{Decides}
use Rattle.std.specs.Str.{bytes_eq}
use Rattle.std.proofs.lemmas.Bool.{false≢true}
use Rattle.std.proofs.lemmas.Slice.Eq.{bytes_eq-Decides}
use Rattle.qml_types.specs.Table.{Offered, is_offering, offers}
use Rattle.file_paths.specs.Ascii.{is_ascii}

differs : (a name : List ℕ) → is_ascii a ≡ true → is_ascii name ≡ false → bytes_eq a name ≡ false
differs a name e f = by_test (bytes_eq a name) (bytes_eq-Decides a name)
  where
    by_test : (b : Bool) → Decides b (a ≡ name) → b ≡ false
    by_test true d = absurd (false≢true (sym f ∙ ap is_ascii (sym (d.0 refl)) ∙ e))
    by_test false d = refl

abbrev all_ascii : List Offered → Bool
all_ascii [] = true
all_ascii (row ∷ rows) = is_ascii row.from && all_ascii rows

both : (a b : Bool) → a && b ≡ true → (a ≡ true) × (b ≡ true)
both true b e = (refl, e)
both false b e = absurd (false≢true e)

no_module : (rows : List Offered) (from : List ℕ) → all_ascii rows ≡ true → is_ascii from ≡ false → is_offering rows from ≡ false
no_module [] from e f = refl
no_module (row ∷ rows) from e f =
    let h : (is_ascii row.from ≡ true) × (all_ascii rows ≡ true) = both (is_ascii row.from) (all_ascii rows) e in
    ap (λ b. b || is_offering rows from) (differs row.from from h.0 f) ∙ no_module rows from h.1 f

pub not_offered : (from : List ℕ) → is_ascii from ≡ false → false ≡ is_offering offers from
not_offered from e = sym (no_module offers from refl e)

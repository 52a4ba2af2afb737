-- Names with a character past 127 are those of no basic kind.
use Rattle.std.proofs.Common.{◌≡◌, ◌∙◌, ap, sym, refl, ℕ, Bool, true, false, ◌&&◌, if◌then◌else◌, List, [], ◌∷◌, Option, Some, None, is_some}
use Rattle.std.specs.Prelude.{codes}
use Rattle.std.specs.Bool.{Decides}
use Rattle.std.specs.Str.{bytes_eq}
use Rattle.std.proofs.lemmas.Bool.{false≢true}
use Rattle.std.proofs.lemmas.Slice.Eq.{bytes_eq-Decides}
use Rattle.qml_types.specs.declared.kind.PropKind.{PropKind}
use Rattle.qml_types.specs.declared.kind.PropKind.TheVariants as kind
use Rattle.qml_types.specs.Kinds.{found_kind, basic_kind}
use Rattle.file_paths.specs.Ascii.{is_ascii}

differs : (a name : List ℕ) → is_ascii a ≡ true → is_ascii name ≡ false → bytes_eq a name ≡ false
differs a name e f = by_test (bytes_eq a name) (bytes_eq-Decides a name)
  where
    by_test : (b : Bool) → Decides b (a ≡ name) → b ≡ false
    by_test true d = absurd (false≢true (sym f ∙ ap is_ascii (sym (d.0 refl)) ∙ e))
    by_test false d = refl

abbrev all_ascii : List (List ℕ × PropKind) → Bool
all_ascii [] = true
all_ascii (row ∷ rows) = is_ascii row.0 && all_ascii rows

both : (a b : Bool) → a && b ≡ true → (a ≡ true) × (b ≡ true)
both true b e = (refl, e)
both false b e = absurd (false≢true e)

not_there : (rows : List (List ℕ × PropKind)) (name : List ℕ) → all_ascii rows ≡ true → is_ascii name ≡ false → found_kind rows name ≡ None
not_there [] name e f = refl
not_there (row ∷ rows) name e f =
    let h : (is_ascii row.0 ≡ true) × (all_ascii rows ≡ true) = both (is_ascii row.0) (all_ascii rows) e in
    ap (λ (b : Bool). if b then Some row.1 else found_kind rows name) (differs row.0 name h.0 f) ∙ not_there rows name h.1 f

abbrev basic_kinds : List (List ℕ × PropKind)
basic_kinds =
    (codes "int", kind.Int) ∷
    (codes "real", kind.Real) ∷
    (codes "double", kind.Double) ∷
    (codes "string", kind.String) ∷
    (codes "url", kind.Url) ∷
    (codes "color", kind.Color) ∷
    (codes "bool", kind.Bool) ∷
    (codes "var", kind.Var) ∷
    (codes "variant", kind.Variant) ∷ []

pub none_of_basic_kinds : (name : List ℕ) → is_ascii name ≡ false → Path (Option PropKind) None (basic_kind name)
none_of_basic_kinds name e = sym (not_there basic_kinds name refl e)

pub no_basic_kind : (name : List ℕ) → is_ascii name ≡ false → false ≡ is_some (basic_kind name)
no_basic_kind name e = ap is_some (none_of_basic_kinds name e)

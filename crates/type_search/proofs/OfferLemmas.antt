-- No module and no type has a name with a character past 127.
use Rattle.std.proofs.Common.{◌≡◌, ◌∙◌, ap, sym, refl, ℕ, Bool, true, false, ◌&&◌, cond, List, [], ◌∷◌, Some, None}
use Rattle.std.specs.Bool.{Decides}
use Rattle.std.specs.Prelude.{find}
use Rattle.std.specs.Option.{option_map}
use Rattle.std.specs.Str.{bytes_eq}
use Rattle.std.proofs.lemmas.Bool.{false≢true}
use Rattle.std.proofs.lemmas.Slice.Eq.{bytes_eq-Decides}
use Rattle.qml_types.specs.Table.{Offered, offered, offers}
use Rattle.std.specs.declared.alloc.Global.{Global}
use Rattle.std.specs.declared.string.String.{String}
use Rattle.std.specs.String.{string_bytes}
use Rattle.file_paths.specs.Ascii.{is_ascii, SpellsAscii}

differs : (a name : List ℕ) → is_ascii a ≡ true → is_ascii name ≡ false → bytes_eq a name ≡ false
differs a name e f = by_test (bytes_eq a name) (bytes_eq-Decides a name)
  where
    by_test : (b : Bool) → Decides b (a ≡ name) → b ≡ false
    by_test true d = absurd (false≢true (sym f ∙ ap is_ascii (sym (d.0 refl)) ∙ e))
    by_test false d = refl

abbrev all_ascii : List Offered → Bool
all_ascii [] = true
all_ascii (row ∷ rows) = is_ascii row.from && (is_ascii row.name && all_ascii rows)

both : (a b : Bool) → a && b ≡ true → (a ≡ true) × (b ≡ true)
both true b e = (refl, e)
both false b e = absurd (false≢true e)

no_and : (a : Bool) → a && false ≡ false
no_and true = refl
no_and false = refl

no_module : (rows : List Offered) (from name : List ℕ) → all_ascii rows ≡ true → is_ascii from ≡ false → offered rows from name ≡ None
no_module [] from name e f = refl
no_module (row ∷ rows) from name e f =
    let h : (is_ascii row.from ≡ true) × (is_ascii row.name && all_ascii rows ≡ true) = both (is_ascii row.from) (is_ascii row.name && all_ascii rows) e in
    ap (λ (b : Bool). option_map (λ (r : Offered). r.no) (cond (b && bytes_eq row.name name) (Some row) (find (λ r. bytes_eq r.from from && bytes_eq r.name name) rows))) (differs row.from from h.0 f) ∙
    no_module rows from name (both (is_ascii row.name) (all_ascii rows) h.1).1 f

no_name : (rows : List Offered) (from name : List ℕ) → all_ascii rows ≡ true → is_ascii name ≡ false → offered rows from name ≡ None
no_name [] from name e f = refl
no_name (row ∷ rows) from name e f =
    let h : (is_ascii row.from ≡ true) × (is_ascii row.name && all_ascii rows ≡ true) = both (is_ascii row.from) (is_ascii row.name && all_ascii rows) e in
    let k : (is_ascii row.name ≡ true) × (all_ascii rows ≡ true) = both (is_ascii row.name) (all_ascii rows) h.1 in
    ap (λ (b : Bool). option_map (λ (r : Offered). r.no) (cond b (Some row) (find (λ r. bytes_eq r.from from && bytes_eq r.name name) rows)))
    (ap (λ b. bytes_eq row.from from && b) (differs row.name name k.0 f) ∙ no_and (bytes_eq row.from from)) ∙
    no_name rows from name k.1 f

pub none_of_module : (from name : List ℕ) → is_ascii from ≡ false → offered offers from name ≡ None
none_of_module from name e = no_module offers from name refl e

pub none_of_name : (from name : List ℕ) → is_ascii name ≡ false → offered offers from name ≡ None
none_of_name from name e = no_name offers from name refl e

pub named_alike : (from name : List ℕ) (own other : String Global) (a b : List ℕ) → SpellsAscii from (Some own) → SpellsAscii name (Some other) → a ≡ string_bytes own → b ≡ string_bytes other
    → offered offers a b ≡ offered offers from name
named_alike from name own other a b e f g h = ap (λ (x : List ℕ). offered offers x b) (g ∙ e) ∙ ap (offered offers from) (h ∙ f)

-- Types of objects as written.
use Rattle.std.proofs.Common.{◌≡◌, ◌∙◌, ap, sym, refl, ℕ, zero, suc, ◌+◌, ◌-◌, ◌<◌, List, [], ◌∷◌, ◌++◌, length, reverse, append_assoc, arith}
use Rattle.std.proofs.lemmas.List.{reverse-append}
use Rattle.qml_base.specs.declared.numbers.UnitNo.{UnitNo}
use Rattle.qml_types.specs.declared.kind.TypeNo.{TypeNo}
use Rattle.qml_types.specs.declared.kind.TypeNo.TheVariants as no
use Rattle.qml_types.specs.declared.kind.TypeRef.{TypeRef}
use Rattle.qml_types.specs.declared.kind.TypeRef.TheVariants.{Builtin, Document}
use Rattle.unit_rows.specs.declared.unit.Unit.{Unit}
use Rattle.instance_plans.specs.Numbers.{AllRows, row_at, builtin_within, builtin_of, documents_within, documents_of}
use Rattle.unit_rows.specs.Seen.{all_seen}

counted : (units : List Unit) → length (all_seen units) ≡ length units
counted [] = refl
counted (u ∷ us) = ap suc (counted us)

as_many : (units : List Unit) → length units + 1 ≡ suc (length (all_seen units))
as_many units = let same = counted units in omega arith

-- ---- built-in types

pub builtin_begins : (units : List Unit) (t : TypeRef) → builtin_within (length units + 1) (all_seen units) t ≡ builtin_of (all_seen units) t
builtin_begins units t = ap (λ n. builtin_within n (all_seen units) t) (as_many units)

builtin_at_suc : (n left : ℕ) (units : AllRows) (b : TypeNo) → suc n ≡ left → b ≡ builtin_within left units (Builtin b)
builtin_at_suc n left units b e = ap (λ m. builtin_within m units (Builtin b)) e

pub builtin_here : (left : ℕ) (units : AllRows) (b : TypeNo) (t : TypeRef) → 0 < left → t ≡ Builtin b → b ≡ builtin_within left units t
builtin_here left units b t more e = builtin_at_suc (left - 1) left units b (omega arith) ∙ ap (builtin_within left units) (sym e)

pub builtin_next : (left : ℕ) (units : AllRows) (u : UnitNo) (t base : TypeRef) → 0 < left → t ≡ Document u → base ≡ (row_at units u.0 0).of_type → builtin_within (left - 1) units base ≡ builtin_within left units t
builtin_next left units u t base more e same =
    let deep : suc (left - 1) ≡ left = omega arith in
    ap (builtin_within (left - 1) units) same ∙ ap (λ m. builtin_within m units (Document u)) deep ∙ ap (builtin_within left units) (sym e)

pub builtin_gone : (left : ℕ) (units : AllRows) (t : TypeRef) → left ≡ 0 → no.QtObject ≡ builtin_within left units t
builtin_gone left units t none = ap (λ m. builtin_within m units t) (sym none)

-- ---- documents

pub documents_begin : (units : List Unit) (t : TypeRef) → documents_within (length units + 1) (all_seen units) t ≡ documents_of (all_seen units) t
documents_begin units t = ap (λ n. documents_within n (all_seen units) t) (as_many units)

none_builtin : (left : ℕ) (units : AllRows) (b : TypeNo) → documents_within left units (Builtin b) ≡ []
none_builtin zero units b = refl
none_builtin (suc n) units b = refl

pub documents_here : (left : ℕ) (units : AllRows) (b : TypeNo) (t : TypeRef) (rest : List ℕ) → t ≡ Builtin b → rest ≡ documents_within left units t ++ rest
documents_here left units b t rest e = ap (λ ds. ds ++ rest) (sym (none_builtin left units b)) ∙ ap (λ r. documents_within left units r ++ rest) (sym e)

pub documents_gone : (left : ℕ) (units : AllRows) (t : TypeRef) (rest : List ℕ) → left ≡ 0 → rest ≡ documents_within left units t ++ rest
documents_gone left units t rest none = ap (λ m. documents_within m units t ++ rest) (sym none)

pub documents_next : (left : ℕ) (units : AllRows) (u : UnitNo) (t base : TypeRef) (more behind : List ℕ) → 0 < left → t ≡ Document u → base ≡ (row_at units u.0 0).of_type → more ≡ behind ++ u.0 ∷ []
    → documents_within (left - 1) units base ++ reverse more ≡ documents_within left units t ++ reverse behind
documents_next left units u t base more behind some e same longer =
    let deep : suc (left - 1) ≡ left = omega arith in
    ap (λ b. documents_within (left - 1) units b ++ reverse more) same
    ∙ ap (λ ds. documents_within (left - 1) units (row_at units u.0 0).of_type ++ ds) (ap reverse longer ∙ reverse-append behind (u.0 ∷ []))
    ∙ sym (append_assoc (documents_within (left - 1) units (row_at units u.0 0).of_type) (u.0 ∷ []) (reverse behind))
    ∙ ap (λ m. documents_within m units (Document u) ++ reverse behind) deep
    ∙ ap (λ r. documents_within left units r ++ reverse behind) (sym e)

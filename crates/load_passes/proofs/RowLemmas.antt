-- Faults told row after row, and names that are kept in a set.
use Rattle.std.proofs.Common.{◌≡◌, ◌∙◌, ap, sym, refl, subst, ℕ, suc, ◌+◌, arith, Bool, true, false, not, ◌&&◌, ◌||◌, nat_eq, if◌then◌else◌, List, [], ◌∷◌, ◌++◌, map, flat_map, drop, length, Option}
use Rattle.std.specs.Prelude.{◌≤◌, ◌<◌, slice_index_or}
use Rattle.std.specs.List.{list_any}
use Rattle.std.specs.Str.{bytes_eq}
use Rattle.std.specs.declared.alloc.Global.{Global}
use Rattle.std.specs.declared.vec.Vec.{Vec}
use Rattle.std.proofs.Math.ListN.{drop_of_length-le}
use Rattle.std.proofs.Math.Seq.{drop-cons}
use Rattle.std.proofs.lemmas.Slice.Eq.{bytes_eq-Decides}
use Rattle.std.proofs.lemmas.List.Folds.{list_any-append}
use Rattle.std.proofs.lemmas.Bool.{false≢true}
use Rattle.std.proofs.lemmas.Bool.Decides.{nat_tests}
use Rattle.indexmap.specs.IndexSet.{insert_key}
use Rattle.qml_syntax.specs.Tree.{Units}
use Rattle.qml_base.specs.declared.load_cause.LoadCause.{LoadCause}
use Rattle.qml_base.specs.declared.load_cause.LoadCause.TheVariants as cause
use Rattle.program_names.specs.declared.fault.Fault.{Fault}
use Rattle.program_names.specs.Loaded.{Program}
use Rattle.program_names.specs.Components.{Roots, Id}
use Rattle.load_faults.specs.Faults.{Faults, first_from, fault_if}
use Rattle.load_faults.specs.Duplicates.{ids_twice, same_id}
use Rattle.load_faults.proofs.FirstLemmas.{first_from-append, swapped}
use Rattle.load_passes.specs.declared.repeated.NameRow.{NameRow}
use Rattle.load_passes.specs.declared.values.ValueRow.{ValueRow}
use Rattle.load_passes.specs.Rows.{same_name, repeated, id_row, value_faults, read_only, not_literal}

-- ---- row after row, and cause after cause

abbrev pub row_faults : ValueRow → Faults
row_faults r = read_only r ++ not_literal r

abbrev pub each_row : List ValueRow → Faults
each_row rows = flat_map row_faults rows

pub interleaved : (rows : List ValueRow) (kept : Option Fault) → first_from kept (each_row rows) ≡ first_from kept (value_faults rows)
interleaved [] kept = refl
interleaved (r ∷ rest) kept =
    first_from-append kept (row_faults r) (each_row rest) ∙
    ap (λ k. first_from k (each_row rest)) (first_from-append kept (read_only r) (not_literal r)) ∙
    interleaved rest (first_from (first_from kept (read_only r)) (not_literal r)) ∙
    first_from-append (first_from (first_from kept (read_only r)) (not_literal r)) (flat_map read_only rest) (flat_map not_literal rest) ∙
    ap (λ k. first_from k (flat_map not_literal rest)) (swapped (first_from kept (read_only r)) (not_literal r) (flat_map read_only rest)) ∙
    sym (ap (λ k. first_from (first_from k (not_literal r)) (flat_map not_literal rest)) (first_from-append kept (read_only r) (flat_map read_only rest))) ∙
    sym (first_from-append (first_from kept (read_only r ++ flat_map read_only rest)) (not_literal r) (flat_map not_literal rest)) ∙
    sym (first_from-append kept (read_only r ++ flat_map read_only rest) (not_literal r ++ flat_map not_literal rest))

pub one_row : (r : ValueRow) (rest : List ValueRow) (kept : Option Fault) → first_from kept (each_row (r ∷ rest)) ≡ first_from (first_from (first_from kept (read_only r)) (not_literal r)) (each_row rest)
one_row r rest kept = first_from-append kept (row_faults r) (each_row rest) ∙ ap (λ k. first_from k (each_row rest)) (first_from-append kept (read_only r) (not_literal r))

-- where no row is left, all is told
pub all_told : (rows : List ValueRow) (i : ℕ) (kept x : Option Fault) → length rows ≤ i → first_from kept (each_row (drop i rows)) ≡ x → kept ≡ x
all_told rows i kept x past e = subst (λ some. first_from kept (each_row some) ≡ x) (drop_of_length-le rows past) e

-- ---- names in a set

abbrev pub Key : Type 0
Key = Vec ℕ Global × ℕ

abbrev pub same_key : Key → Key → Bool
same_key a b = bytes_eq a.0.items b.0.items && nat_eq a.1 b.1

abbrev holds : List Key → Units → ℕ → Bool
holds keys name owner = list_any (λ (k : Key). bytes_eq name k.0.items && nat_eq owner k.1) keys

abbrev told_of : List NameRow → Units → ℕ → Bool
told_of seen name owner = list_any (λ (r : NameRow). bytes_eq name r.name && nat_eq owner r.owner) seen

-- a name of an owner is in the set exactly where it was seen
abbrev pub Alike : List Key → List NameRow → Type 0
Alike keys seen = (name : Units) (owner : ℕ) → holds keys name owner ≡ told_of seen name owner

pub none_seen : Alike [] []
none_seen name owner = refl

swapped_or : (a b : Bool) → (a || b) ≡ (b || a)
swapped_or true true = refl
swapped_or true false = refl
swapped_or false true = refl
swapped_or false false = refl

or_nothing : (a : Bool) → (a || false) ≡ a
or_nothing true = refl
or_nothing false = refl

both : (a b : Bool) → (a && b) ≡ true → (a ≡ true) × (b ≡ true)
both true b e = (refl, e)
both false b e = absurd (false≢true e)

same_number : (m n : ℕ) → nat_eq m n ≡ true → m ≡ n
same_number m n e = grind (arith, nat_tests)

-- what was seen already
seen_already : (name other : Units) (owner of : ℕ) (seen : List NameRow) (b : Bool) → (bytes_eq name other && nat_eq owner of) ≡ b → told_of seen other of ≡ true
    → told_of seen name owner ≡ (b || told_of seen name owner)
seen_already name other owner of seen true e h =
    let parts : (bytes_eq name other ≡ true) × (nat_eq owner of ≡ true) = both (bytes_eq name other) (nat_eq owner of) e in
    ap (λ n. told_of seen n owner) ((bytes_eq-Decides name other).0 parts.0) ∙ ap (told_of seen other) (same_number owner of parts.1) ∙ h
seen_already name other owner of seen false e h = refl

-- the set after a name was put into it
pub put_alike : (keys : List Key) (seen : List NameRow) (k : Key) (r : NameRow) → Alike keys seen → k.0.items ≡ r.name → k.1 ≡ r.owner → Alike (insert_key same_key keys k) (r ∷ seen)
put_alike keys seen k r alike named owned name owner =
    by_test (list_any (same_key k) keys) refl ∙
    ap (λ n. (bytes_eq name n && nat_eq owner k.1) || told_of seen name owner) named ∙
    ap (λ n. (bytes_eq name r.name && nat_eq owner n) || told_of seen name owner) owned
  where
    by_test : (b : Bool) → list_any (same_key k) keys ≡ b → holds (if b then keys else keys ++ k ∷ []) name owner ≡ ((bytes_eq name k.0.items && nat_eq owner k.1) || told_of seen name owner)
    by_test true e =
        alike name owner ∙
        seen_already name k.0.items owner k.1 seen (bytes_eq name k.0.items && nat_eq owner k.1) refl (sym (alike k.0.items k.1) ∙ e)
    by_test false e =
        list_any-append (λ (j : Key). bytes_eq name j.0.items && nat_eq owner j.1) keys (k ∷ []) ∙
        ap (λ b. holds keys name owner || b) (or_nothing (bytes_eq name k.0.items && nat_eq owner k.1)) ∙
        ap (λ b. b || (bytes_eq name k.0.items && nat_eq owner k.1)) (alike name owner) ∙
        swapped_or (told_of seen name owner) (bytes_eq name k.0.items && nat_eq owner k.1)

-- one row
one_name : (why : LoadCause) (seen : List NameRow) (r : NameRow) (rest : List NameRow) (kept kept' x : Option Fault)
    → kept' ≡ first_from kept (fault_if (list_any (same_name r) seen || r.taken) r.at why) → first_from kept (repeated why seen (r ∷ rest)) ≡ x
    → first_from kept' (repeated why (r ∷ seen) rest) ≡ x
one_name why seen r rest kept kept' x e all =
    ap (λ k. first_from k (repeated why (r ∷ seen) rest)) e ∙
    sym (first_from-append kept (fault_if (list_any (same_name r) seen || r.taken) r.at why) (repeated why (r ∷ seen) rest)) ∙ all

twice_not : (b : Bool) → not (not b) ≡ b
twice_not true = refl
twice_not false = refl

pub next_row : (why : LoadCause) (rows : List NameRow) (i : ℕ) (r : NameRow) (seen : List NameRow) (kept kept' x : Option Fault) (fresh : Bool)
    → i < length rows → r ≡ slice_index_or rows i r → fresh ≡ not (list_any (same_name r) seen) → kept' ≡ first_from kept (fault_if (not fresh || r.taken) r.at why)
    → first_from kept (repeated why seen (drop i rows)) ≡ x → first_from kept' (repeated why (r ∷ seen) (drop (i + 1) rows)) ≡ x
next_row why rows i r seen kept kept' x fresh below is new told all =
    let split : drop i rows ≡ r ∷ drop (suc i) rows = drop-cons rows i r below ∙ ap (λ y. y ∷ drop (suc i) rows) (sym is) in
    let behind : suc i ≡ i + 1 = omega arith in
    let once : kept' ≡ first_from kept (fault_if (list_any (same_name r) seen || r.taken) r.at why) =
    told ∙ ap (λ b. first_from kept (fault_if (b || r.taken) r.at why)) (ap not new ∙ twice_not (list_any (same_name r) seen)) in
    subst (λ j. first_from kept' (repeated why (r ∷ seen) (drop j rows)) ≡ x) behind
    (one_name why seen r (drop (suc i) rows) kept kept' x once (subst (λ some. first_from kept (repeated why seen some) ≡ x) split all))

pub is_new : (keys : List Key) (seen : List NameRow) (k : Key) (r : NameRow) (fresh : Bool) → Alike keys seen → k.0.items ≡ r.name → k.1 ≡ r.owner
    → fresh ≡ not (list_any (same_key k) keys) → fresh ≡ not (list_any (same_name r) seen)
is_new keys seen k r fresh alike named owned told =
    told ∙ ap not (alike k.0.items k.1 ∙ ap (λ n. told_of seen n k.1) named ∙ ap (told_of seen r.name) owned)

pub put_named : (keys after : List Key) (seen : List NameRow) (k : Key) (r : NameRow) → Alike keys seen → k.0.items ≡ r.name → k.1 ≡ r.owner
    → after ≡ insert_key same_key keys k → Alike after (r ∷ seen)
put_named keys after seen k r alike named owned put = subst (λ some. Alike some (r ∷ seen)) (sym put) (put_alike keys seen k r alike named owned)

-- ---- ids

seen_ids : (p : Program) (roots : Roots) (d : ℕ) (i : Id) (seen : List Id) → list_any (same_name (id_row p roots d i)) (map (id_row p roots d) seen) ≡ list_any (same_id p roots d i) seen
seen_ids p roots d i [] = refl
seen_ids p roots d i (j ∷ seen) = ap (λ b. same_id p roots d i j || b) (seen_ids p roots d i seen)

pub ids_alike : (p : Program) (roots : Roots) (d : ℕ) (seen ids : List Id) → repeated cause.DuplicateId (map (id_row p roots d) seen) (map (id_row p roots d) ids) ≡ ids_twice p roots d seen ids
ids_alike p roots d seen [] = refl
ids_alike p roots d seen (i ∷ ids) =
    ap (λ b. fault_if b i.at cause.DuplicateId ++ repeated cause.DuplicateId (map (id_row p roots d) (i ∷ seen)) (map (id_row p roots d) ids))
    (or_nothing (list_any (same_name (id_row p roots d i)) (map (id_row p roots d) seen)) ∙ seen_ids p roots d i seen) ∙
    ap (λ faults. fault_if (list_any (same_id p roots d i) seen) i.at cause.DuplicateId ++ faults) (ids_alike p roots d (i ∷ seen) ids)

-- What the tests say.
use Rattle.std.proofs.Common.{◌≡◌, ◌∙◌, ap, sym, subst, ℕ, zero, suc, ◌+◌, ◌<◌, ◌≤◌, arith, Bool, List, [], ◌∷◌, length, get_or, drop, add-one, drop-cons, Option, Some, is_some}
use Rattle.std.specs.Prelude.{slice_get, IsTrue}
use Rattle.std.specs.Option.{option_map}
use Rattle.std.proofs.lemmas.Bool.{false≢true}
use Rattle.qml_types.specs.declared.kind.PropKind.{PropKind}
use Rattle.qml_types.specs.declared.kind.Access.{Access}
use Rattle.program_names.specs.PathMeanings.{PathEnd as AnEnd, at_cell, at_object}
use Rattle.program_tables.specs.declared.names.UnitNames.{UnitNames}
use Rattle.path_ends.specs.declared.ends.Way.{Way}
use Rattle.path_ends.specs.declared.ends.SeenObject.{SeenObject}
use Rattle.path_ends.specs.declared.ends.PathEnd.{PathEnd}
use Rattle.path_ends.specs.declared.ends.PathEnd.TheVariants as e
use Rattle.path_ends.specs.declared.aliases.Alias.{Alias}
use Rattle.path_ends.specs.declared.aliases.UnitAliases.{UnitAliases}
use Rattle.path_ends.specs.declared.aliases.UnitIds.{UnitIds}
use Rattle.path_ends.specs.declared.aliases.UnitEnds.{UnitEnds}
use Rattle.path_ends.specs.Said.{way_of, seen_of, end_of, joined, alias_in, target_of, count_of, known_end, rank_in, id_seen}
use Rattle.path_ends.specs.Ends.{target_end, falls_from}
use Rattle.path_ends.specs.Known.{Fits, IsThere, is_circle, KnowsAlias, KnowsRow, KnowsRows, KnowsUnits, KnowsAll}
use Rattle.path_ends.proofs.WayLemmas.{a_way}

-- ---- the same end

pub same_ways : (a b : Way) → a.base ≡ b.base → a.hops.items ≡ b.hops.items → way_of a ≡ way_of b
same_ways a b i j = ap (λ n. a_way n a.hops.items) i ∙ ap (a_way b.base) j

pub same_objects : (a b : SeenObject) → a.document ≡ b.document → a.object ≡ b.object → option_map way_of a.holder ≡ option_map way_of b.holder → seen_of a ≡ seen_of b
same_objects a b d o h =
    ap (λ x. record { holder = x; document = a.document; object = a.object }) h ∙
    ap (λ x. record { holder = option_map way_of b.holder; document = x; object = a.object }) d ∙
    ap (λ x. record { holder = option_map way_of b.holder; document = b.document; object = x }) o

pub same_cells : (x : PathEnd) (v w : Way) (p q : ℕ) (k l : PropKind) (a c : Access) → x ≡ e.Cell v p k a → p ≡ q → k ≡ l → a ≡ c → way_of v ≡ way_of w → end_of x ≡ at_cell (way_of w) q l c
same_cells x v w p q k l a c i g h j n =
    ap end_of i ∙ ap (λ y. at_cell y p k a) n ∙ ap (λ y. at_cell (way_of w) y k a) g ∙ ap (λ y. at_cell (way_of w) q y a) h ∙ ap (at_cell (way_of w) q l) j

pub same_ends : (x : PathEnd) (s t : SeenObject) → x ≡ e.Object s → seen_of s ≡ seen_of t → end_of x ≡ at_object (seen_of t)
same_ends x s t i h = ap end_of i ∙ ap at_object h

-- ---- an alias

pub knows_lower : (us : List UnitNames) (ids : List UnitIds) (known : List UnitEnds) (limit d row rank : ℕ) (a : Alias) (x : AnEnd) (lower : Bool) → known_end known d row ≡ x
    → x ≡ target_end us ids known d a.object (target_of a) → Fits d x → IsThere us x → rank ≡ rank_in known d row → rank < limit → length a.rest.items ≤ 3
    → lower ≡ falls_from us known rank d (id_seen ids d a.object a.first) a.rest.items → IsTrue lower → KnowsAlias us ids known limit d row a
knows_lower us ids known limit d row rank a x lower i t f h r l s g b = record {
  same = i ∙ t;
  fits = subst (Fits d) (sym i) f;
  there = subst (IsThere us) (sym i) h;
  low = subst (λ n. n < limit) r l;
  short = s;
  falls = λ c. ap (λ n. falls_from us known n d (id_seen ids d a.object a.first) a.rest.items) (sym r) ∙ sym g ∙ b;
}

pub knows_circle : (us : List UnitNames) (ids : List UnitIds) (known : List UnitEnds) (limit d row rank : ℕ) (a : Alias) (x : AnEnd) (circle : Bool) → known_end known d row ≡ x
    → x ≡ target_end us ids known d a.object (target_of a) → Fits d x → IsThere us x → rank ≡ rank_in known d row → rank < limit → length a.rest.items ≤ 3
    → circle ≡ is_circle x → IsTrue circle → KnowsAlias us ids known limit d row a
knows_circle us ids known limit d row rank a x circle i t f h r l s g b = record {
  same = i ∙ t;
  fits = subst (Fits d) (sym i) f;
  there = subst (IsThere us) (sym i) h;
  low = subst (λ n. n < limit) r l;
  short = s;
  falls = λ c. absurd (false≢true (sym c ∙ ap is_circle i ∙ sym g ∙ b));
}

-- ---- row after row

pub one_more_row : (us : List UnitNames) (ids : List UnitIds) (known : List UnitEnds) (limit d : ℕ) (rows : List (Option Alias)) (i : ℕ) (x : Option Alias) → i < length rows
    → KnowsRow us ids known limit d i (get_or rows i x) → KnowsRows us ids known limit d (i + 1) (drop (i + 1) rows) → KnowsRows us ids known limit d i (drop i rows)
one_more_row us ids known limit d rows i x h k r =
    subst (KnowsRows us ids known limit d i) (sym (drop-cons rows i x h)) (k, subst (λ j. KnowsRows us ids known limit d j (drop j rows)) (add-one i) r)

pub one_more_unit : (us : List UnitNames) (ids : List UnitIds) (known : List UnitEnds) (limit : ℕ) (units : List UnitAliases) (i : ℕ) (x : UnitAliases) → i < length units
    → KnowsRows us ids known limit i 0 (get_or units i x).rows.items → KnowsUnits us ids known limit (i + 1) (drop (i + 1) units) → KnowsUnits us ids known limit i (drop i units)
one_more_unit us ids known limit units i x h k r =
    subst (KnowsUnits us ids known limit i) (sym (drop-cons units i x h)) (k, subst (λ j. KnowsUnits us ids known limit j (drop j units)) (add-one i) r)

-- ---- all aliases

row_known : (us : List UnitNames) (ids : List UnitIds) (known : List UnitEnds) (limit d n : ℕ) (rows : List (Option Alias)) → KnowsRows us ids known limit d n rows
    → (row : ℕ) (a : Alias) → joined (slice_get rows row) ≡ Some a → KnowsAlias us ids known limit d (n + row) a
row_known us ids known limit d n [] k row a i = absurd (false≢true (ap is_some i))
row_known us ids known limit d n (x ∷ rows) k zero a i =
    subst (λ m. KnowsAlias us ids known limit d m a) (no_more n) (subst (KnowsRow us ids known limit d n) i k.0)
  where
    no_more : (n : ℕ) → n ≡ n + 0
    no_more n = omega arith
row_known us ids known limit d n (x ∷ rows) k (suc row) a i =
    subst (λ m. KnowsAlias us ids known limit d m a) (one_on n row) (row_known us ids known limit d (suc n) rows k.1 row a i)
  where
    one_on : (n row : ℕ) → suc n + row ≡ n + suc row
    one_on n row = omega arith

from_none : (k : ℕ) → 0 + k ≡ k
from_none k = omega arith

unit_known : (us : List UnitNames) (ids : List UnitIds) (known : List UnitEnds) (limit n : ℕ) (units : List UnitAliases) → KnowsUnits us ids known limit n units
    → (d row : ℕ) (a : Alias) → alias_in units d row ≡ Some a → KnowsAlias us ids known limit (n + d) row a
unit_known us ids known limit n [] k d row a i = absurd (false≢true (ap is_some i))
unit_known us ids known limit n (u ∷ units) k zero row a i =
    subst (λ m. KnowsAlias us ids known limit m row a) (no_more n)
    (subst (λ m. KnowsAlias us ids known limit n m a) (from_none row) (row_known us ids known limit n 0 u.rows.items k.0 row a i))
  where
    no_more : (n : ℕ) → n ≡ n + 0
    no_more n = omega arith
unit_known us ids known limit n (u ∷ units) k (suc d) row a i =
    subst (λ m. KnowsAlias us ids known limit m row a) (one_on n d) (unit_known us ids known limit (suc n) units k.1 d row a i)
  where
    one_on : (n d : ℕ) → suc n + d ≡ n + suc d
    one_on n d = omega arith

pub knows_all : (us : List UnitNames) (ids : List UnitIds) (aliases : List UnitAliases) (known : List UnitEnds) (limit : ℕ) (holds : Bool) → limit ≡ count_of aliases
    → (IsTrue holds → KnowsUnits us ids known limit 0 aliases) → IsTrue holds → KnowsAll us ids aliases known
knows_all us ids aliases known limit holds l k h d row a i =
    subst (λ n. KnowsAlias us ids known n d row a) l
    (subst (λ m. KnowsAlias us ids known limit m row a) (from_none d) (unit_known us ids known limit 0 aliases (k h) d row a i))

-- ---- hops

pub hop_more : (a b : List (ℕ × ℕ)) (i : ℕ) → i < length a → length a ≡ length b → get_or a i (0, 0) ≡ get_or b i (0, 0) → drop (i + 1) a ≡ drop (i + 1) b → drop i a ≡ drop i b
hop_more a b i h l x r =
    drop-cons a i (0, 0) h ∙ ap (λ y. y ∷ drop (suc i) a) x ∙
    ap (λ ys. get_or b i (0, 0) ∷ ys) (ap (λ k. drop k a) (sym (add-one i)) ∙ r ∙ ap (λ k. drop k b) (add-one i)) ∙
    sym (drop-cons b i (0, 0) (subst (λ n. i < n) l h))

-- Document after document.
use Rattle.std.proofs.Common.{◌≡◌, ◌∙◌, ap, sym, refl, subst, ℕ, zero, suc, ◌+◌, ◌<◌, ◌≤◌, arith, List, [], ◌∷◌, ◌++◌, length, map, get_or, take, drop, add-one, drop-cons, Option, Some, None, is_some}
use Rattle.std.specs.Prelude.{slice_get}
use Rattle.std.specs.Option.{unwrap_or}
use Rattle.std.proofs.lemmas.Bool.{false≢true}
use Rattle.std.proofs.lemmas.List.{append_assoc, append-nil, drop_all, map-append}
use Rattle.document_rows.specs.declared.rows.ObjectRow.{ObjectRow}
use Rattle.program_tables.specs.declared.building.UnitRow.{UnitRow}
use Rattle.document_components.specs.Made.{owner_in, owner_of, owners_of}
use Rattle.document_tables.specs.declared.program.DocumentTable.{DocumentTable}
use Rattle.program_meanings.specs.Made.{each_from}

pub goes_on : {X Y : Type 0} (f : ℕ → DocumentTable → X) (view : Y → X) (xs : List DocumentTable) (i : ℕ) (x : DocumentTable) (y : Y) (found more : List Y) (all : List X) → i < length xs
    → view y ≡ f i (get_or xs i x) → more ≡ found ++ y ∷ [] → map view found ++ each_from f i (drop i xs) ≡ all → map view more ++ each_from f (i + 1) (drop (i + 1) xs) ≡ all
goes_on f view xs i x y found more all h e m l =
    ap (λ zs. map view zs ++ each_from f (i + 1) (drop (i + 1) xs)) m ∙
    ap (λ zs. zs ++ each_from f (i + 1) (drop (i + 1) xs)) (map-append view found (y ∷ [])) ∙
    append_assoc (map view found) (view y ∷ []) (each_from f (i + 1) (drop (i + 1) xs)) ∙
    ap (λ k. map view found ++ view y ∷ each_from f k (drop k xs)) (add-one i) ∙
    ap (λ z. map view found ++ z ∷ each_from f (suc i) (drop (suc i) xs)) e ∙
    ap (λ zs. map view found ++ each_from f i zs) (sym (drop-cons xs i x h)) ∙ l

pub none_left : {X Y : Type 0} (f : ℕ → DocumentTable → X) (view : Y → X) (xs : List DocumentTable) (i : ℕ) (found : List Y) (all : List X) → length xs ≤ i
    → map view found ++ each_from f i (drop i xs) ≡ all → map view found ≡ all
none_left f view xs i found all h l =
    sym (append-nil (map view found)) ∙ ap (λ zs. map view found ++ each_from f i zs) (sym (drop_all i xs h)) ∙ l

taken : (rows : List UnitRow) (objects : List ObjectRow) (i : ℕ) (d : ObjectRow) → i < length objects → owners_of rows (take (suc i) objects) ≡ owners_of rows (take i objects) ++ owner_of rows (get_or objects i d) ∷ []
taken rows [] i d h = absurd (omega arith)
taken rows (x ∷ objects) zero d h = refl
taken rows (x ∷ objects) (suc i) d h = let less : i < length objects = omega arith in ap (λ ts. owner_of rows x ∷ ts) (taken rows objects i d less)

pub one_owner : (rows : List UnitRow) (objects : List ObjectRow) (i : ℕ) (d : ObjectRow) (owners after : List (Option ℕ)) (w : Option ℕ) → i < length objects → owners ≡ owners_of rows (take i objects)
    → w ≡ owner_in rows (get_or objects i d).row → after ≡ owners ++ w ∷ [] → after ≡ owners_of rows (take (i + 1) objects)
one_owner rows objects i d owners after w h o e a =
    a ∙ ap (λ ws. ws ++ w ∷ []) o ∙ ap (λ z. owners_of rows (take i objects) ++ z ∷ []) e ∙ sym (taken rows objects i d h) ∙ ap (λ k. owners_of rows (take k objects)) (sym (add-one i))

-- ---- what is made of one of them

from_there : {X : Type 0} (f : ℕ → DocumentTable → X) (n : ℕ) (xs : List DocumentTable) (d : ℕ) (x : DocumentTable) → slice_get xs d ≡ Some x → slice_get (each_from f n xs) d ≡ Some (f (n + d) x)
from_there f n [] d x e = absurd (false≢true (ap is_some e))
from_there f n (y ∷ xs) zero x e = ap Some (ap (λ k. f k y) (let i : n ≡ n + 0 = omega arith in i) ∙ ap (λ v. f (n + 0) (unwrap_or v x)) e)
from_there f n (y ∷ xs) (suc d) x e = from_there f (suc n) xs d x e ∙ ap (λ k. Some (f k x)) (let i : suc n + d ≡ n + suc d = omega arith in i)

mapped_there : {X Y : Type 0} (view : Y → X) (ys : List Y) (d : ℕ) (z : X) → slice_get (map view ys) d ≡ Some z → (y : Y) × (slice_get ys d ≡ Some y) × (view y ≡ z)
mapped_there view [] d z e = absurd (false≢true (ap is_some e))
mapped_there view (y ∷ ys) zero z e = (y, refl, ap (λ v. unwrap_or v z) e)
mapped_there view (y ∷ ys) (suc d) z e = mapped_there view ys d z e

pub made_there : {X Y : Type 0} (f : ℕ → DocumentTable → X) (view : Y → X) (xs : List DocumentTable) (ys : List Y) (d : ℕ) (x : DocumentTable) → map view ys ≡ each_from f 0 xs → slice_get xs d ≡ Some x
    → (y : Y) × (slice_get ys d ≡ Some y) × (view y ≡ f d x)
made_there f view xs ys d x m e =
    mapped_there view ys d (f d x) (ap (λ zs. slice_get zs d) m ∙ from_there f 0 xs d x e ∙ ap (λ k. Some (f k x)) (let i : 0 + d ≡ d = omega arith in i))

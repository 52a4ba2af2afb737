-- That an object is condemned, by the list of those that are.
use Rattle.std.proofs.Common.{◌≡◌, ◌∙◌, ap, sym, refl, nat_eq, Bool, true, false, ◌&&◌, ◌||◌, List, [], ◌∷◌, if◌then◌else◌}
use Rattle.std.specs.List.{list_any}
use Rattle.std.specs.List.Sorted.{IsPermutation}
use Rattle.std.proofs.lemmas.List.Sorted.{list_any-IsPermutation}
use Rattle.qml_base.specs.declared.numbers.ObjNo.{ObjNo}
use Rattle.tree_model.specs.declared.cells.Object.{Object}
use Rattle.tree_model.specs.Removing.{doomed_of}
use Rattle.signal_dispatch.specs.Hearing.{is_number, is_condemned_one}

one_more : (o n : ObjNo) (c : Bool) (ds : List ObjNo) (rest : Bool) → list_any (is_number o) ds ≡ rest
    → list_any (is_number o) (if c then n ∷ ds else ds) ≡ ((nat_eq n.0 o.0 && c) || rest)
one_more o n true ds rest h = by_test (nat_eq n.0 o.0)
  where
    by_test : (b : Bool) → (b || list_any (is_number o) ds) ≡ ((b && true) || rest)
    by_test true = refl
    by_test false = h
one_more o n false ds rest h = by_test (nat_eq n.0 o.0)
  where
    by_test : (b : Bool) → list_any (is_number o) ds ≡ ((b && false) || rest)
    by_test true = h
    by_test false = h

listed : (o : ObjNo) (xs : List Object) → list_any (is_number o) (doomed_of xs) ≡ list_any (is_condemned_one o) xs
listed o [] = refl
listed o (x ∷ xs) = one_more o x.number x.condemned (doomed_of xs) (list_any (is_condemned_one o) xs) (listed o xs)

pub condemned_is : (xs : List Object) (ds : List ObjNo) (o : ObjNo) (b : Bool) → IsPermutation ds (doomed_of xs)
    → b ≡ list_any (is_number o) ds → b ≡ list_any (is_condemned_one o) xs
condemned_is xs ds o b moved is = is ∙ list_any-IsPermutation (is_number o) ds (doomed_of xs) moved ∙ listed o xs

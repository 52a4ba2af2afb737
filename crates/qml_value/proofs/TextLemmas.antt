-- The text of a list, by the texts of its elements.
use Rattle.std.proofs.Common.{◌≡◌, ◌∙◌, ap, sym, refl, ℕ, List, [], ◌∷◌, ◌+◌, ◌++◌, ◌≤◌, ◌<◌, map, codes, length, take, get_or, append_assoc, length-append, subst, Result, Ok, Err, arith}
use Rattle.std.specs.List.{flat_map}
use Rattle.std.proofs.lemmas.List.Concat.{flat_map-cons}
use Rattle.std.proofs.lemmas.List.Folds.{length-flat_map-take}
use mathlib.Core.Former.{Count}
use Rattle.qml_text.specs.Parts.{join_of}
use Rattle.qml_value.specs.declared.value.Value.{Value, List as list_value, Row_of-Value, end_of-Value, more_of-Value, items-the_row-Value, items_hidden-the_row-Value-0}
use Rattle.qml_value.specs.Texts.{text_of, texts_inside, element_text, next_element_text, Writes}
use Rattle.std.specs.Result.{IsErr, IsErrAnd}
use Rattle.qml_value.specs.declared.text.TextOfFault.{TextOfFault}
use Rattle.qml_value.specs.declared.text.TextOfFault.TheVariants as fault
use Rattle.qml_value.proofs.RowLemmas.{row_of}

texts_inside_are : (n : Count) (row : Row_of-Value n) → texts_inside row ≡ map element_text (items-the_row-Value n row)
texts_inside_are n end_of-Value = refl
texts_inside_are n (more_of-Value value rest) = ap (λ texts. element_text value ∷ texts) (texts_inside_are _ rest)

pub text-list : (xs : List Value) → text_of (list_value xs) ≡ join_of (codes ",") (map element_text xs)
text-list xs =
    let row = row_of (list_value xs) in
    ap (join_of (codes ",")) (texts_inside_are row.0 row.1 ∙ ap (map element_text) (items_hidden-the_row-Value-0 xs))

more_elements : (xs : List Value) → flat_map (λ text. codes "," ++ text) (map element_text xs) ≡ flat_map next_element_text xs
more_elements [] = refl
more_elements (x ∷ xs) =
    rw (flat_map-cons (λ text. codes "," ++ text) (element_text x) (map element_text xs), flat_map-cons next_element_text x xs)
    (ap (λ texts. next_element_text x ++ texts) (more_elements xs))

pub join-elements : (x : Value) (xs : List Value) → join_of (codes ",") (map element_text (x ∷ xs)) ≡ element_text x ++ flat_map next_element_text xs
join-elements x xs = ap (λ texts. element_text x ++ texts) (more_elements xs)

pub elements-written : (x : Value) (xs values : List Value) (before head after : List ℕ) → values ≡ x ∷ xs → head ≡ before ++ element_text x
    → after ≡ head ++ flat_map next_element_text xs → after ≡ before ++ join_of (codes ",") (map element_text values)
elements-written x xs values before head after e h a =
    rw (a, h, e, join-elements x xs) (append_assoc before (element_text x) (flat_map next_element_text xs))

pub elements-heavy : (x : Value) (xs values : List Value) (before head text : List ℕ) (i : ℕ) (y : Value) → values ≡ x ∷ xs → head ≡ before ++ element_text x
    → text ≡ head ++ flat_map next_element_text (take i xs) → i < length xs → y ≡ get_or xs i y
    → 1048576 < 1 + length text + length (next_element_text y)
    → 1048576 < 1 + length before + length (join_of (codes ",") (map element_text values))
elements-heavy x xs values before head text i y e h t within is heavy =
    let all : length (join_of (codes ",") (map element_text values)) ≡ length (element_text x) + length (flat_map next_element_text xs) =
    rw (e, join-elements x xs) (length-append (element_text x) (flat_map next_element_text xs)) in
    let more : length (flat_map next_element_text (take i xs)) + length (next_element_text y) ≤ length (flat_map next_element_text xs) =
    rw is (length-flat_map-take next_element_text xs i y within) in
    let written : length text ≡ length before + length (element_text x) + length (flat_map next_element_text (take i xs)) =
    rw (t, h) (length-append (before ++ element_text x) (flat_map next_element_text (take i xs)) ∙ ap (λ n. n + length (flat_map next_element_text (take i xs))) (length-append before (element_text x))) in
    omega arith

-- what kept a part from being written keeps the whole from it
pub part-failed : (a part b whole c : List ℕ) (e : TextOfFault) (r : Result (Unit {0}) TextOfFault) → IsErr r × IsErrAnd r (λ x. x ≡ e)
    → (1048576 < 1 + length b + length part → 1048576 < 1 + length a + length whole) → Writes b part c (Err e) → Writes a whole c r
part-failed a part b whole c e (Ok done) (is, same) heavier failed = cc
part-failed a part b whole c e (Err fault.Heavy) (is, same) heavier failed = heavier (subst (λ x. Writes b part c (Err x)) (sym same) failed)
part-failed a part b whole c e (Err fault.NoMemory) (is, same) heavier failed = tt

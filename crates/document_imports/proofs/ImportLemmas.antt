-- Rows of nodes are those of imports.
use Rattle.std.proofs.Common.{◌≡◌, ◌∙◌, ap, sym, refl, ℕ, ◌+◌, arith, Bool, true, false, ltb, if◌then◌else◌, List, [], ◌∷◌, ◌++◌, map, length, Option, Some, None, is_some}
use Rattle.std.specs.List.{flat_map}
use Rattle.std.specs.Option.{option_to_list}
use Rattle.std.specs.Prelude.{MatchOption}
use Rattle.std.proofs.lemmas.List.{append-nil}
use Rattle.std.proofs.lemmas.Bool.{false≢true}
use Rattle.std.proofs.lemmas.Bool.Decides.{nat_tests}
use Rattle.qml_syntax.specs.Tree.{Units, Names, Import, import_module, import_text, Object, document, Whole, whole_document}
use Rattle.qml_syntax.specs.Nodes.{Item, mark, of_qualifier, of_import, of_object, of_document, Table}
use Rattle.qml_syntax.specs.Opened.{node_of, parts_of, dots_parts, imports_parts, item_at, root_of, IsListing}
use Rattle.qml_syntax.specs.Listed.{listed_document, listed_whole}
use Rattle.qml_syntax.specs.declared.node.Node.{Node}
use Rattle.qml_syntax.specs.Places.{part_at, places_of, behind}
use Rattle.qml_syntax.proofs.PlacesLemmas.{parts_at_places}
use Rattle.program_names.specs.Paths.{Path}
use Rattle.type_uses.specs.Uses.{node_at, nodes_at, dot_in}
use Rattle.type_uses.proofs.PartLemmas.{node_parts}
use Rattle.document_imports.specs.Imports.{WrittenImport, row, a_module, row_of, module_from, row_by, rows_at, qualifier_in, dotted, from_part}

append_assoc : {A : Type 0} (a b c : List A) → (a ++ b) ++ c ≡ a ++ (b ++ c)
append_assoc [] b c = refl
append_assoc (x ∷ a) b c = ap (λ xs. x ∷ xs) (append_assoc a b c)

-- ---- one import

module_named : (n : Units) (ns : Names) (q : Option Units) → module_from n (map node_of (dots_parts ns (of_qualifier q ∷ []))) ≡ (n ++ flat_map (λ m. 46 ∷ m) ns, q)
module_named n [] None = ap (λ (u : Units). (u, None)) (sym (append-nil n))
module_named n [] (Some q) = ap (λ (u : Units). (u, Some q)) (sym (append-nil n))
module_named n (m ∷ ns) q =
    module_named (n ++ (46 ∷ m)) ns q ∙ ap (λ (u : Units). (u, q)) (append_assoc n (46 ∷ m) (flat_map (λ x. 46 ∷ x) ns))

abbrev row_item : Path → Item → Option WrittenImport
row_item here i = row_by here (node_of i) (map node_of (parts_of i))

one_import : (here : Path) (i : Import) → row_item here (of_import i) ≡ Some (row_of here i)
one_import here (import_module n p ns v q c) = ap (λ (r : Units × Option Units). Some (row p r.1 (a_module r.0))) (module_named n ns q)
one_import here (import_text n p None c) = refl
one_import here (import_text n p (Some q) c) = refl

-- ---- all of them

abbrev rows_items : Path → List Item → List WrittenImport
rows_items here [] = []
rows_items here (i ∷ is) = option_to_list (row_item here i) ++ rows_items here is

by_places : (here : Path) (t : Table) (ps : List ℕ) → IsListing t → rows_at here t ps ≡ rows_items here (map (part_at t) ps)
by_places here t [] lists = refl
by_places here t (p ∷ ps) lists =
    ap (λ xs. option_to_list (row_by here (node_at t p) xs) ++ rows_at here t ps) (node_parts t p lists) ∙
    ap (λ rows. option_to_list (row_item here (part_at t p)) ++ rows) (by_places here t ps lists)

all_imports : (here : Path) (is : List Import) (o : Object) → rows_items here (imports_parts is (of_object o ∷ [])) ≡ map (row_of here) is
all_imports here [] o = refl
all_imports here (i ∷ is) o =
    ap (λ r. option_to_list r ++ rows_items here (imports_parts is (of_object o ∷ []))) (one_import here i) ∙ ap (λ rows. row_of here i ∷ rows) (all_imports here is o)

pub document_rows : (here : Path) (t : Table) (at : ℕ) (is : List Import) (o : Object) → listed_document (document is o) ≡ t → at + 1 ≡ length t
    → ((w : Whole) → listed_whole w ≡ t → item_at t at ≡ root_of w) → rows_at here t (places_of t at) ≡ map (row_of here) is
document_rows here t at is o e last root =
    let w : Whole = whole_document (document is o) in
    let within : ltb at (length t) ≡ true = grind (arith, nat_tests, last) in
    let part : part_at t at ≡ of_document (document is o) = ap (λ (b : Bool). if b then item_at t at else mark) within ∙ root w e in
    by_places here t (places_of t at) (w, e) ∙ ap (rows_items here) (parts_at_places t at (w, e) ∙ ap parts_of part) ∙ all_imports here is o

-- ---- the code

stops : (n : Units) (x : Node) (xs : List Node) (o : Option Units) → dot_in x ≡ o → is_some o ≡ false → (n ++ dotted o, qualifier_in x) ≡ module_from n (x ∷ xs)
stops n x xs None e f =
    ap (λ (u : Units). (u, qualifier_in x)) (append-nil n) ∙
    ap (λ (o : Option Units). elim o [ Some m ↦ module_from (n ++ (46 ∷ m)) xs | None ↦ (n, qualifier_in x) ]) (sym e)
stops n x xs (Some m) e f = absurd (false≢true (sym f))

pub module_ends : (t : Table) (at : ℕ) (n after text : Units) (next : Option ℕ) (all : Units × Option Units) (q : Option Units) (found : Bool)
    → next ≡ Some at → module_from n (nodes_at t (from_part t next)) ≡ all → found ≡ is_some (dot_in (node_at t at)) → found ≡ false
    → after ≡ n ++ dotted (dot_in (node_at t at)) → text ≡ after → q ≡ qualifier_in (node_at t at) → (text, q) ≡ all
module_ends t at n after text next all q found e h is none grown same qualifier =
    ap (λ (u : Units). (u, q)) (same ∙ grown) ∙ ap (λ (r : Option Units). (n ++ dotted (dot_in (node_at t at)), r)) qualifier ∙
    stops n (node_at t at) (nodes_at t (behind t at)) (dot_in (node_at t at)) refl (sym is ∙ none) ∙ ap (λ o. module_from n (nodes_at t (from_part t o))) (sym e) ∙ h

continues : (n : Units) (x : Node) (xs : List Node) (o : Option Units) → dot_in x ≡ o → is_some o ≡ true → module_from (n ++ dotted o) xs ≡ module_from n (x ∷ xs)
continues n x xs None e f = absurd (false≢true f)
continues n x xs (Some m) e f = ap (λ (o : Option Units). elim o [ Some m ↦ module_from (n ++ (46 ∷ m)) xs | None ↦ (n, qualifier_in x) ]) (sym e)

from_next : (t : Table) (at : ℕ) (next : Option ℕ) → MatchOption next (behind t at ≡ []) (λ k. behind t at ≡ k ∷ behind t k) → from_part t next ≡ behind t at
from_next t at None h = sym h
from_next t at (Some k) h = sym h

pub module_goes_on : (t : Table) (at : ℕ) (n after : Units) (next beyond : Option ℕ) (all : Units × Option Units) (found : Bool)
    → next ≡ Some at → module_from n (nodes_at t (from_part t next)) ≡ all → found ≡ is_some (dot_in (node_at t at)) → found ≡ true
    → after ≡ n ++ dotted (dot_in (node_at t at)) → MatchOption beyond (behind t at ≡ []) (λ k. behind t at ≡ k ∷ behind t k)
    → module_from after (nodes_at t (from_part t beyond)) ≡ all
module_goes_on t at n after next beyond all found e h is some grown behind_it =
    ap (λ (u : Units). module_from u (nodes_at t (from_part t beyond))) grown ∙
    ap (λ ps. module_from (n ++ dotted (dot_in (node_at t at))) (nodes_at t ps)) (from_next t at beyond behind_it) ∙
    continues n (node_at t at) (nodes_at t (behind t at)) (dot_in (node_at t at)) refl (sym is ∙ some) ∙
    ap (λ o. module_from n (nodes_at t (from_part t o))) (sym e) ∙ h

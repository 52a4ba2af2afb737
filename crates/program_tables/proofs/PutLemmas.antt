-- Putting names one after another.
use Rattle.std.proofs.Common.{◌≡◌, ◌∙◌, ap, sym, refl, ℕ, suc, ◌+◌, ◌<◌, List, [], ◌∷◌, ◌++◌, length, get_or, drop, map, add-one, drop-cons}
use Rattle.std.specs.List.{flat_map}
use Rattle.std.proofs.lemmas.List.Folds.{flat_map-map}
use Rattle.name_table.specs.Named.{put}
use Rattle.qml_types.specs.declared.cells.Cell.{Cell}
use Rattle.qml_types.specs.declared.members.Signal.{Signal}
use Rattle.qml_types.specs.declared.members.Method.{Method}
use Rattle.qml_types.specs.declared.kind.TypeNo.{TypeNo}
use Rattle.qml_types.specs.declared.kind.TypeNo.TheVariants as no
use Rattle.qml_types.specs.Table.{cell_of, own_cells, lineage}
use Rattle.qml_types.specs.Members.{signal_of, own_signals, own_methods}
use Rattle.program_tables.specs.declared.built_in.BuiltInName.TheVariants as b
use Rattle.program_tables.specs.Putting.{put_all}
use Rattle.program_tables.specs.BuiltIn.{Entry, cell_entries, method_entry, signal_entries, children_entries, own_entries, table_of, all_tables, index_of}

pub put_all-append : {V : Type 0} (names a b : List (List ℕ × V)) → put_all names (a ++ b) ≡ put_all (put_all names a) b
put_all-append names [] b = refl
put_all-append names (e ∷ a) b = put_all-append (put names e.0 e.1) a b

next_drop : {X : Type 0} (xs : List X) (i : ℕ) (d : X) → i < length xs → drop i xs ≡ get_or xs i d ∷ drop (i + 1) xs
next_drop xs i d h = drop-cons xs i d h ∙ ap (λ k. get_or xs i d ∷ drop k xs) (sym (add-one i))

-- what is put of some things one after another
pub goes_on : {X V : Type 0} (f : X → List (List ℕ × V)) (xs : List X) (i : ℕ) (d : X) (now next all : List (List ℕ × V)) → i < length xs
    → next ≡ put_all now (f (get_or xs i d)) → put_all now (flat_map f (drop i xs)) ≡ all → put_all next (flat_map f (drop (i + 1) xs)) ≡ all
goes_on f xs i d now next all h e l =
    ap (λ ns. put_all ns (flat_map f (drop (i + 1) xs))) e ∙ sym (put_all-append now (f (get_or xs i d)) (flat_map f (drop (i + 1) xs))) ∙
    ap (λ ys. put_all now (flat_map f ys)) (sym (next_drop xs i d h)) ∙ l

-- ---- the names of built-in types

pub cells_go_on : (cells : List Cell) (i : ℕ) (d : Cell) (now next all : List Entry) → i < length cells → next ≡ put_all now (cell_entries (cell_of (get_or cells i d)))
    → put_all now (flat_map cell_entries (map cell_of (drop i cells))) ≡ all → put_all next (flat_map cell_entries (map cell_of (drop (i + 1) cells))) ≡ all
cells_go_on cells i d now next all h e l =
    ap (λ ys. put_all next ys) (flat_map-map cell_entries cell_of (drop (i + 1) cells)) ∙
    goes_on (λ c. cell_entries (cell_of c)) cells i d now next all h e (ap (λ ys. put_all now ys) (sym (flat_map-map cell_entries cell_of (drop i cells))) ∙ l)

pub methods_go_on : (methods : List Method) (i : ℕ) (d : Method) (now next all : List Entry) → i < length methods → next ≡ put now (method_entry (get_or methods i d)).0 (method_entry (get_or methods i d)).1
    → put_all now (map method_entry (drop i methods)) ≡ all → put_all next (map method_entry (drop (i + 1) methods)) ≡ all
methods_go_on methods i d now next all h e l =
    ap (λ ns. put_all ns (map method_entry (drop (i + 1) methods))) e ∙ ap (λ ys. put_all now (map method_entry ys)) (sym (next_drop methods i d h)) ∙ l

pub signals_go_on : (t : TypeNo) (signals : List Signal) (i : ℕ) (d : Signal) (now next all : List Entry) → i < length signals
    → next ≡ put now (signal_of (get_or signals i d)).name (b.Signal t i)
    → put_all now (signal_entries t i (map signal_of (drop i signals))) ≡ all → put_all next (signal_entries t (i + 1) (map signal_of (drop (i + 1) signals))) ≡ all
signals_go_on t signals i d now next all h e l =
    ap (λ k. put_all next (signal_entries t k (map signal_of (drop (i + 1) signals)))) (add-one i) ∙
    ap (λ ns. put_all ns (signal_entries t (suc i) (map signal_of (drop (i + 1) signals)))) e ∙
    ap (λ ys. put_all now (signal_entries t i (map signal_of ys))) (sym (next_drop signals i d h)) ∙ l

pub own_put : (t : TypeNo) (old one two three new : List Entry) (cells : List Cell) (methods : List Method) (signals : List Signal)
    → map cell_of cells ≡ own_cells t → methods ≡ own_methods t → map signal_of signals ≡ own_signals t
    → one ≡ put_all old (flat_map cell_entries (map cell_of cells)) → two ≡ put_all one (map method_entry methods) → three ≡ put_all two (signal_entries t 0 (map signal_of signals))
    → new ≡ put_all three (children_entries t) → new ≡ put_all old (own_entries t)
own_put t old one two three new cells methods signals c m s e f g h =
    h ∙ ap (λ ns. put_all ns (children_entries t)) (g ∙ ap (λ xs. put_all two (signal_entries t 0 xs)) s ∙
    ap (λ ns. put_all ns (signal_entries t 0 (own_signals t))) (f ∙ ap (λ xs. put_all one (map method_entry xs)) m ∙
    ap (λ ns. put_all ns (map method_entry (own_methods t))) (e ∙ ap (λ xs. put_all old (flat_map cell_entries xs)) c) ∙
    sym (put_all-append old (flat_map cell_entries (own_cells t)) (map method_entry (own_methods t)))) ∙
    sym (put_all-append old (flat_map cell_entries (own_cells t) ++ map method_entry (own_methods t)) (signal_entries t 0 (own_signals t)))) ∙
    sym (put_all-append old ((flat_map cell_entries (own_cells t) ++ map method_entry (own_methods t)) ++ signal_entries t 0 (own_signals t)) (children_entries t))

pub table_got : (t : TypeNo) (i : ℕ) (tables : List (List Entry)) (x : List Entry) → tables ≡ all_tables → i ≡ index_of t → x ≡ get_or tables i x → x ≡ table_of t
table_got t i tables x e h g = g ∙ ap (λ ts. get_or ts i x) e ∙ ap (λ k. get_or all_tables k x) h ∙ there t x
  where
    there : (t : TypeNo) (x : List Entry) → get_or all_tables (index_of t) x ≡ table_of t
    there no.QtObject x = refl
    there no.Component x = refl
    there no.Item x = refl
    there no.Timer x = refl
    there no.Connections x = refl
    there no.Binding x = refl
    there no.State x = refl
    there no.PropertyChanges x = refl
    there no.ListModel x = refl
    there no.ListElement x = refl
    there no.Repeater x = refl
    there no.Loader x = refl
    there no.Host x = refl

pub table_told : (t : TypeNo) (names : List Entry) → names ≡ put_all [] (flat_map own_entries (lineage t)) → names ≡ table_of t
unfolding table_of
table_told t names e = e

-- What is put in the loops.
use Rattle.std.proofs.Common.{◌≡◌, ◌∙◌, ap, sym, refl, ℕ, ◌+◌, ◌<◌, List, [], ◌∷◌, ◌++◌, length, map, take, get_or, add-one}
use Rattle.std.specs.List.{flat_map}
use Rattle.std.proofs.lemmas.List.{append-nil, append_assoc, map-append}
use Rattle.std.proofs.Math.Seq.{take-suc}
use Rattle.qml_syntax.specs.Tree.{Units}
use Rattle.program_tables.specs.declared.building.UnitRow.{UnitRow}
use Rattle.program_tables.specs.declared.names.UnitNames.{UnitNames}
use Rattle.document_tables.specs.declared.program.DocumentTable.{DocumentTable}
use Rattle.unit_rows.specs.declared.names.NameRow.{NameRow}
use Rattle.declared_signals.specs.declared.declaring.DeclaredSignal.{DeclaredSignal}
use Rattle.declared_signals.specs.declared.declaring.UnitSignals.{UnitSignals}
use Rattle.declared_signals.specs.Told.{Signal, signal_at}
use Rattle.handled_signals.specs.declared.layers.Layers.{Layers}
use Rattle.handled_signals.specs.Layers.{ObjectLayers, AreLayers}
use Rattle.handled_signals.specs.Handled.{signal_with, Found, found_in_type, with_layer, with_layers}

pub flat_append : {A B : Type 0} (f : A → List B) (xs ys : List A) → flat_map f (xs ++ ys) ≡ flat_map f xs ++ flat_map f ys
flat_append f [] ys = refl
flat_append f (x ∷ xs) ys = ap (λ z. f x ++ z) (flat_append f xs ys) ∙ sym (append_assoc (f x) (flat_map f xs) (flat_map f ys))

pub row_put : (h : Units) (at : ℕ) (rows : List NameRow) (d : NameRow) (old new : List Signal) → at < length rows → old ≡ flat_map (signal_with h) (take at rows) →
    new ≡ old ++ signal_with h (get_or rows at d) → new ≡ flat_map (signal_with h) (take (at + 1) rows)
row_put h at rows d old new l o n =
    n ∙ ap (λ z. z ++ signal_with h (get_or rows at d)) o
    ∙ ap (λ z. flat_map (signal_with h) (take at rows) ++ z) (sym (append-nil (signal_with h (get_or rows at d))))
    ∙ sym (flat_append (signal_with h) (take at rows) (get_or rows at d ∷ []))
    ∙ ap (flat_map (signal_with h)) (sym (ap (λ k. take k rows) (add-one at) ∙ take-suc rows at d l))

pub signal_put : (rows : List UnitRow) (cells signals at : ℕ) (xs : List DeclaredSignal) (d : DeclaredSignal) (x : Signal) (first old new : List Signal) → at < length xs →
    old ≡ first ++ map (signal_at rows cells signals) (take at xs) → x ≡ signal_at rows cells signals (get_or xs at d) → new ≡ old ++ x ∷ [] →
    new ≡ first ++ map (signal_at rows cells signals) (take (at + 1) xs)
signal_put rows cells signals at xs d x first old new l o e n =
    n ∙ ap (λ z. z ++ x ∷ []) o ∙ append_assoc first (map (signal_at rows cells signals) (take at xs)) (x ∷ [])
    ∙ ap (λ z. first ++ (map (signal_at rows cells signals) (take at xs) ++ z ∷ [])) e
    ∙ ap (λ z. first ++ z) (sym (map-append (signal_at rows cells signals) (take at xs) (get_or xs at d ∷ []))
    ∙ ap (map (signal_at rows cells signals)) (sym (ap (λ k. take k xs) (add-one at) ∙ take-suc xs at d l)))

-- ---- layer after layer

with_last : (us : List UnitNames) (ds : List DocumentTable) (ss : List UnitSignals) (h : Units) (xs : List (ℕ × ℕ)) (x : ℕ × ℕ) (f : Found) →
    with_layers us ds ss h (xs ++ x ∷ []) f ≡ with_layers us ds ss h xs (with_layer us ds ss h x f)
with_last us ds ss h [] x f = refl
with_last us ds ss h (y ∷ ys) x f = ap (with_layer us ds ss h y) (with_last us ds ss h ys x f)

pub layers_begin : (us : List UnitNames) (ds : List DocumentTable) (ss : List UnitSignals) (h : Units) (made : Layers) (all : ObjectLayers) (f : Found) → AreLayers made all →
    f ≡ found_in_type made.base h → with_layers us ds ss h made.objects.items f ≡ with_layers us ds ss h all.objects (found_in_type all.base h)
layers_begin us ds ss h made all f a e =
    ap (λ z. with_layers us ds ss h z f) a.objects ∙ ap (with_layers us ds ss h all.objects) (e ∙ ap (λ z. found_in_type z h) a.base)

pub layer_added : (us : List UnitNames) (ds : List DocumentTable) (ss : List UnitSignals) (h : Units) (left less : List (ℕ × ℕ)) (x : ℕ × ℕ) (f g all : Found) → left ≡ less ++ x ∷ [] →
    g ≡ with_layer us ds ss h x f → with_layers us ds ss h left f ≡ all → with_layers us ds ss h less g ≡ all
layer_added us ds ss h left less x f g all e n i =
    ap (with_layers us ds ss h less) n ∙ sym (with_last us ds ss h less x f) ∙ ap (λ z. with_layers us ds ss h z f) (sym e) ∙ i

pub layers_end : (us : List UnitNames) (ds : List DocumentTable) (ss : List UnitSignals) (h : Units) (left : List (ℕ × ℕ)) (f all : Found) → left ≡ [] →
    with_layers us ds ss h left f ≡ all → f.list ≡ all.list
layers_end us ds ss h left f all e i = ap (λ (z : Found). z.list) (sym (ap (λ z. with_layers us ds ss h z f) e) ∙ i)

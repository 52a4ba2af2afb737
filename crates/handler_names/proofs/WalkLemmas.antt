-- The walk through the layers of an object.
use Rattle.std.proofs.Common.{◌≡◌, ◌∙◌, ap, sym, refl, ℕ, zero, suc, ◌+◌, ◌-◌, ◌<◌, ◌≤◌, arith, Bool, true, false, List}
use Rattle.std.specs.Prelude.{◌||◌}
use Rattle.qml_base.specs.declared.numbers.UnitNo.{UnitNo}
use Rattle.qml_syntax.specs.Tree.{Units}
use Rattle.qml_types.specs.declared.kind.TypeNo.{TypeNo}
use Rattle.qml_types.specs.declared.kind.TypeRef.{TypeRef}
use Rattle.qml_types.specs.declared.kind.TypeRef.TheVariants.{Builtin, Document as OfDocument}
use Rattle.program_tables.specs.declared.names.UnitNames.{UnitNames}
use Rattle.program_tables.specs.Types.{base_in}
use Rattle.handler_names.specs.declared.declared.UnitHandlers.{UnitHandlers}
use Rattle.handler_names.specs.Handlers.{type_handles, declares, handled_below, handled_at}

one_less : (f : ℕ) → suc f - 1 ≡ f
one_less f = omega arith

-- what is left where the object doesn't declare it
below : (f : ℕ) (us : List UnitNames) (hs : List UnitHandlers) (d o : ℕ) (h : Units) (base : TypeRef) (b : Bool) → b ≡ declares hs d o h → b ≡ false → base ≡ base_in us d o
    → handled_at (suc f) us hs d o h ≡ handled_below (λ e. handled_at f us hs e 0 h) h base
below f us hs d o h base b n e t =
    ap (λ x. x || handled_below (λ e. handled_at f us hs e 0 h) h (base_in us d o)) (sym n ∙ e) ∙ ap (handled_below (λ e. handled_at f us hs e 0 h) h) (sym t)

pub goes_to_base : (k : ℕ) (us : List UnitNames) (hs : List UnitHandlers) (d o : ℕ) (h : Units) (base : TypeRef) (e : UnitNo) (b all : Bool) → 0 < k → b ≡ declares hs d o h → b ≡ false
    → base ≡ base_in us d o → base ≡ OfDocument e → handled_at k us hs d o h ≡ all → handled_at (k - 1) us hs e.0 0 h ≡ all
goes_to_base zero us hs d o h base e b all l n g t u i = absurd (omega arith)
goes_to_base (suc f) us hs d o h base e b all l n g t u i =
    ap (λ j. handled_at j us hs e.0 0 h) (one_less f) ∙ sym (ap (handled_below (λ e. handled_at f us hs e 0 h) h) u) ∙ sym (below f us hs d o h base b n g t) ∙ i

pub declares_it : (k : ℕ) (us : List UnitNames) (hs : List UnitHandlers) (d o : ℕ) (h : Units) (b all : Bool) → 0 < k → b ≡ declares hs d o h → b ≡ true → handled_at k us hs d o h ≡ all → true ≡ all
declares_it zero us hs d o h b all l n g i = absurd (omega arith)
declares_it (suc f) us hs d o h b all l n g i = ap (λ x. x || handled_below (λ e. handled_at f us hs e 0 h) h (base_in us d o)) (sym g ∙ n) ∙ i

pub ends_built_in : (k : ℕ) (us : List UnitNames) (hs : List UnitHandlers) (d o : ℕ) (h : Units) (base : TypeRef) (t : TypeNo) (b result all : Bool) → 0 < k → b ≡ declares hs d o h → b ≡ false
    → base ≡ base_in us d o → base ≡ Builtin t → result ≡ type_handles t h → handled_at k us hs d o h ≡ all → result ≡ all
ends_built_in zero us hs d o h base t b result all l n g s u r i = absurd (omega arith)
ends_built_in (suc f) us hs d o h base t b result all l n g s u r i =
    r ∙ sym (ap (handled_below (λ e. handled_at f us hs e 0 h) h) u) ∙ sym (below f us hs d o h base b n g s) ∙ i

pub ends_unsettled : (k : ℕ) (us : List UnitNames) (hs : List UnitHandlers) (d o : ℕ) (h : Units) (all : Bool) → k ≤ 0 → handled_at k us hs d o h ≡ all → false ≡ all
ends_unsettled zero us hs d o h all l i = i
ends_unsettled (suc k) us hs d o h all l i = absurd (omega arith)

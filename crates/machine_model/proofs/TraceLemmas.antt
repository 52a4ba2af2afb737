-- Turns never rise and the trace only grows, whatever an event does.
use Rattle.std.proofs.Common.{◌≡◌, ◌∙◌, ap, refl, ℕ, suc, ◌-◌, ◌≤◌, List, [], ◌∷◌, ◌++◌, append_assoc, arith}
use Rattle.std.specs.declared.result.Result.{Result}
use Rattle.std.specs.declared.result.Result.TheVariants.{Ok, Err}
use Rattle.qml_base.specs.declared.numbers.ObjNo.{ObjNo}
use Rattle.qml_base.specs.declared.numbers.CellNo.{CellNo}
use Rattle.qml_syntax.specs.Tree.{Units}
use Rattle.tree_model.specs.declared.cells.Content.{Content}
use Rattle.trace_print.specs.declared.entry.Entry.{Entry}
use Rattle.instance_plans.specs.Cells.{MadeObject}
use Rattle.machine_model.specs.Texts.{world_of}
use Rattle.machine_model.specs.State.{Machine}
use Rattle.machine_model.specs.Acts.{Ran, goes, stops, then_go, each}
use Rattle.machine_model.specs.Settling.{Settled, settled_of}
use Rattle.machine_model.specs.Emission as emission
use Rattle.machine_model.specs.Making as making
use Rattle.machine_model.specs.Lines as lines
use Rattle.machine_model.specs.Lines.{Event}
use Rattle.machine_model.specs.Keeping.{After, AtMost, Begins}
use Rattle.machine_model.proofs.KeepLemmas.{Kept, event_done}

-- a fact of the turns and the trace that a spent turn and a further entry keep
module _ (R : ℕ → List Entry → Type 0) (spends : (t : ℕ) (es : List Entry) → R t es → R (t - 1) es) (grows : (t : ℕ) (es : List Entry) (e : Entry) → R t es → R t (es ++ e ∷ [])) where
  abbrev P : Machine → Type 0
  P m = R m.turns m.trace

  settled_by : (m : Machine) (r : Result Settled CellNo) → P m → After P P (emission.with_settled m r)
  settled_by m (Ok s) h = h
  settled_by m (Err c) h = h

  settles_after : (r : Ran (Unit {0})) → After P P r → After P P (then_go r (λ a. emission.settle))
  settles_after (goes a m) h = settled_by m (settled_of (world_of m.units m.known) m.tree) h
  settles_after (stops s m) h = h

  puts : (contents : List (CellNo × Content)) (m : Machine) → P m → After P P (each emission.put contents m)
  puts [] m h = h
  puts ((c, content) ∷ rest) m h = puts rest (emission.with_put c content m) h

  tells : (xs : List (ObjNo × MadeObject)) (m : Machine) → P m → After P P (each making.tell_made xs m)
  tells [] m h = h
  tells (x ∷ rest) m h = tells rest (record m { trace = m.trace ++ making.made_entry x ∷ [] }) (grows m.turns m.trace (making.made_entry x) h)

  pub kept_by : Kept P P
  kept_by = record {
    stopping = λ m h. h;
    telling = λ e m h. grows m.turns m.trace e h;
    spending = λ m h. spends m.turns m.trace h;
    timing = λ t m h. h;
    writing = λ contents m h. settles_after (each emission.put contents m) (puts contents m h);
    adding = λ origin planned i before m h.
        settles_after (making.add_told origin planned i before m)
        (tells (making.numbered_from (suc before) i.objects) (making.with_instance origin planned i m) h);
  }

-- ---- turns

fewer : (most t : ℕ) → t ≤ most → t - 1 ≤ most
fewer most t h = omega arith

pub turns_fall : (root most : ℕ) (shown : Units) (e : Event) (m : Machine) → After (AtMost most) (AtMost most) (lines.event root most shown e m)
turns_fall root most shown e m =
    let most_is : most ≤ most = omega arith in
    (event_done (AtMost most) (AtMost most) (kept_by (λ t es. t ≤ most) (λ t es h. fewer most t h) (λ t es x h. h)) root e).at (lines.begun_event most shown m) most_is

-- ---- the trace

longer : (front es : List Entry) (e : Entry) → (rest : List Entry) × (es ≡ front ++ rest) → (rest : List Entry) × (es ++ e ∷ [] ≡ front ++ rest)
longer front es e (rest, h) = (rest ++ e ∷ [], ap (λ xs. xs ++ e ∷ []) h ∙ append_assoc front rest (e ∷ []))

pub trace_grows : (root most : ℕ) (shown : Units) (e : Event) (m : Machine) → After (Begins m.trace) (Begins m.trace) (lines.event root most shown e m)
trace_grows root most shown e m =
    (event_done (Begins m.trace) (Begins m.trace) (kept_by (λ t es. (rest : List Entry) × (es ≡ m.trace ++ rest)) (λ t es h. h) (λ t es x h. longer m.trace es x h)) root e).at
    (lines.begun_event most shown m) (lines.line_entry shown ∷ [], refl)

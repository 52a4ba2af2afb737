-- What one member adds.
use Rattle.std.proofs.Common.{◌≡◌, ◌∙◌, ap, refl, ℕ, ◌+◌, ◌++◌}
use Rattle.qml_syntax.specs.Tree.{Units}
use Rattle.name_groups.specs.Groups.{Groups, all_under, if_same, IsPut}
use Rattle.program_names.specs.Names.{changed, handler_of}
use Rattle.declared_signals.specs.declared.declaring.DeclaredSignal.{DeclaredSignal}
use Rattle.declared_signals.specs.declared.declaring.DeclaredSignal.TheVariants as d
use Rattle.declared_signals.specs.declared.declaring.ObjectSignals.{ObjectSignals}
use Rattle.declared_signals.specs.Declaring.{AddsChange, AddsSignal}

abbrev Table : Type 0
Table = Groups DeclaredSignal

abbrev entry : Table → ℕ → ℕ → ObjectSignals
entry under cells signals = record { under = under; cells = cells; signals = signals }

pub change_added : (name handler : Units) (under after : Table) (cells more signals : ℕ) → handler ≡ handler_of (changed name) → IsPut handler (d.Change cells) under after →
    more ≡ cells + 1 → AddsChange name (entry under cells signals) (entry after more signals)
change_added name handler under after cells more signals e p c = record {
  put = λ h. p h ∙ ap (λ (z : Units). all_under under h ++ if_same h z (d.Change cells)) e;
  more_cells = c;
  more_signals = refl;
}

pub signal_added : (k : ℕ) (name handler : Units) (under after : Table) (cells signals more : ℕ) → handler ≡ handler_of name → IsPut handler (d.Own signals k) under after →
    more ≡ signals + 1 → AddsSignal k name (entry under cells signals) (entry after cells more)
signal_added k name handler under after cells signals more e p c = record {
  put = λ h. p h ∙ ap (λ (z : Units). all_under under h ++ if_same h z (d.Own signals k)) e;
  more_cells = refl;
  more_signals = c;
}

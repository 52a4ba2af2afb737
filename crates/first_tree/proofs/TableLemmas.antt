-- What a table of outcomes gives.
use Rattle.std.proofs.Common.{◌≡◌, ◌≢◌, ◌∙◌, sym, ℕ, ◌<◌, ◌≤◌, List, length, get_or, slice_set, get_or-set_same, get_or-set_other}
use Rattle.std.proofs.lemmas.List.{get_or_past}
use Rattle.std.proofs.lemmas.Option.{unwrap_or-slice_get}
use Rattle.qml_model.specs.declared.content.Outcome.{Outcome}
use Rattle.qml_model.specs.declared.content.Outcome.TheVariants.{Loop}
use Rattle.first_tree.specs.Sweeps.{read_in}

pub read_is : (table : List Outcome) (c : ℕ) → read_in table c ≡ get_or table c Loop
read_is table c = unwrap_or-slice_get table c Loop

pub read_past : (table : List Outcome) (c : ℕ) → length table ≤ c → read_in table c ≡ Loop
read_past table c h = read_is table c ∙ get_or_past table c Loop h

pub read_set_same : (table : List Outcome) (c : ℕ) (o : Outcome) → c < length table → read_in (slice_set table c o) c ≡ o
read_set_same table c o h = read_is (slice_set table c o) c ∙ get_or-set_same table c o Loop h

pub read_set_other : (table : List Outcome) (c d : ℕ) (o : Outcome) → d ≢ c → read_in (slice_set table c o) d ≡ read_in table d
read_set_other table c d o h = read_is (slice_set table c o) d ∙ get_or-set_other table c d o Loop h ∙ sym (read_is table d)

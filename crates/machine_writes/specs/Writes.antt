-- What is left of a write once it has settled and that is told.
use Rattle.std.specs.Prelude.{ℕ}
use Rattle.tree_settling.specs.declared.settling.Changed.{Changed}
use Rattle.machine_model.specs.Acts.{Done, ◌>>=◌, each}
use Rattle.machine_model.specs.Emission.{Below, settle, emit_change}
use Rattle.machine_model.specs.Making.{older_after}

-- the signals of the changes are emitted
abbrev pub emitted : Below → Changed → Done
emitted below c = each (emit_change below) c.cells.items

-- all cells settle, and that is told but for the changes of new objects
abbrev pub settle_older : Below → ℕ → Done
settle_older below given = settle >>= older_after below given

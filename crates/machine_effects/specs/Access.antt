-- Which of the cells that an object as written declares may be written.
use Rattle.std.specs.Prelude.{ℕ, Bool, true, false, List, [], ◌++◌, Option, Some, None}
use Rattle.std.specs.List.{flat_map}
use Rattle.qml_types.specs.Table.{is_writable}
use Rattle.unit_rows.specs.declared.names.CellRow.{CellRow}
use Rattle.instance_plans.specs.Numbers.{AllRows, row_at, documents_of}
use Rattle.instance_plans.specs.declared.planned.Planned.{Planned}

-- a cell that isn't declared is one that a delegate has from its row
abbrev pub may_write_row : Option CellRow → Bool
may_write_row None = true
may_write_row (Some r) = is_writable r.access

abbrev pub cells_of_root : AllRows → ℕ → List CellRow
cells_of_root units u = (row_at units u 0).cells

-- those of the documents of its type, the lowest first, and then its own
abbrev pub cells_declared : AllRows → Planned → List CellRow
cells_declared units x =
    let r = row_at units x.unit x.object in
    elim x.is_around as (λ _. List CellRow) [
      | true ↦ []
      | false ↦ flat_map (cells_of_root units) (documents_of units r.of_type) ++ r.cells
    ]

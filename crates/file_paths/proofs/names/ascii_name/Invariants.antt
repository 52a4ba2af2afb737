use Rattle.std.proofs.Common.{◌≡◌, ◌++◌, drop}
use Rattle.std.specs.String.{string_bytes}
use Rattle.file_paths.specs.Ascii.{is_ascii}
use Rattle.file_paths.proofs.names.ascii_name.Given as goal

-- what was put and what is left are all, and it goes by what is left
abbrev pub invariant-units : goal.invariant-units
invariant-units l =
    (string_bytes l.name ++ drop l.unit-index l.unit-items ≡ l.unit-items) × (is_ascii (drop l.unit-index l.unit-items) ≡ is_ascii l.unit-items)

-- How many parts are left.
use Rattle.std.proofs.Common.{ℕ, suc, length, Option, Some, None}
use Rattle.qml_syntax.specs.Nodes.{Table}
use Rattle.qml_syntax.specs.Places.{behind}

abbrev pub left : Table → Option ℕ → ℕ
left t None = 0
left t (Some p) = suc (length (behind t p))

-- What is kept of a loaded document or script, so that nothing is searched when it runs: rows that name one another by number.
-- The rows are the types of the code.
use Rattle.std.specs.Prelude.{ℕ, Bool, List, Option}
use Rattle.qml_base.specs.declared.numbers.Place.{Place}
use Rattle.qml_syntax.specs.Tree.{Units, Stmt, Stmts, Function}
pub use Rattle.unit_rows.specs.declared.given.GivenValue.{GivenValue}
pub use Rattle.unit_rows.specs.declared.given.GivenValue.TheVariants.{Literal as a_literal, Body as a_body, Object as an_object, Objects as some_objects, Id as an_id}
pub use Rattle.unit_rows.specs.declared.given.ValueRow.{ValueRow}
pub use Rattle.unit_rows.specs.declared.given.ChangeRow.{ChangeRow}
pub use Rattle.unit_rows.specs.declared.names.SignalRef.{SignalRef}
pub use Rattle.unit_rows.specs.declared.names.SignalRef.TheVariants.{Change as change_of, Own as own_signal, OfTarget as of_target, Completed as on_completed, Destruction as on_destruction}
pub use Rattle.unit_rows.specs.declared.names.HandlerRow.{HandlerRow}
pub use Rattle.unit_rows.specs.declared.names.NameFinds.{NameFinds}
pub use Rattle.unit_rows.specs.declared.names.NameFinds.TheVariants.{Cell as finds_cell, Signal as finds_signal, Function as finds_function, Method as finds_method, Object as finds_object, CellOf as finds_cell_of}
pub use Rattle.unit_rows.specs.declared.names.NameRow.{NameRow}
pub use Rattle.unit_rows.specs.declared.names.CellRow.{CellRow}
pub use Rattle.unit_rows.specs.declared.unit.ObjectRow.{ObjectRow}
pub use Rattle.unit_rows.specs.declared.unit.ComponentRow.{ComponentRow}

pub data Body : Type 0 where
  of_statement : Stmt → List Units → Body  -- with a handler's parameters
  of_function : Function → Body
  of_statements : Stmts → Body  -- of the function of a `Qt.binding`, or of a line of a script

pub record UnitRows : Type 0 where
  pub objects : List ObjectRow
  pub components : List ComponentRow
  pub bodies : List Body
  pub bindings : List (Place × ℕ)  -- the places of the `Qt.binding`s, with the bodies of their functions
  pub scripts : List (Units × ℕ)  -- their qualifiers; the first that is found counts
  pub functions : List (Units × ℕ)  -- those of a script, with their bodies; likewise

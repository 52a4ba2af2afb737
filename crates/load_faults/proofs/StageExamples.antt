-- The stage with which the forms of a document are built, by small documents.
use Rattle.std.specs.Prelude.{◌≡◌, refl, false, [], ◌∷◌, None, codes}
use Rattle.qml_syntax.specs.declared.operators.Assignment.TheVariants as assignment
use Rattle.qml_syntax.specs.Tree.{auto, name, number, text, steps, assign, no_exprs, an_expr, member, call, no_steps, a_step, no_targets, expr, give, no_stmts, a_stmt, just}
use Rattle.qml_syntax.specs.declared.contextual.Adjective.TheVariants as adjective
use Rattle.qml_syntax.specs.declared.contextual.Version.TheVariants as version
use Rattle.qml_syntax.specs.Tree.{import_module, own_type, kind_var, kind_name, no_pars, a_par, function, object, no_members, a_member, id, property, bare, method, given, child, value_object, value_stmt, document}
use Rattle.program_names.specs.Reading.{is_document}
use Rattle.load_faults.proofs.ExampleForms.{at, file, held, sources}
use Rattle.program_names.specs.Loaded.{Program, program_of}
use Rattle.program_names.specs.ComponentRoots.{roots_of}
use Rattle.load_faults.specs.NotYet.{stage_of_program, object_tree, handlers_and_drain, states, timers_and_making, rows_and_loading, hosts}

-- objects and bindings
--   import QtQuick 2.15 ⏎ Item { id: r; property int a: f(1); function f(n) { return n } Item { x: r.a } property
--   Component c: Component { Item {} } }
abbrev program_object_tree_alone : Program
program_object_tree_alone = program_of (sources (held (file false (codes "main.qml")) (is_document (document (import_module (codes "QtQuick") (at 1 8) ([]) version.Full None auto ∷ []) (object (own_type (codes "Item") (at 2 1)) (a_member (id (at 2 8) (codes "r") (at 2 12) auto) false (a_member (property (at 2 15) adjective.Ordinary (kind_name (codes "int") (at 2 24) ([])) (codes "a") (at 2 28) (value_stmt (expr (steps (name (codes "f") (at 2 31)) (call (at 2 32) (an_expr (number 1 (at 2 33)) no_exprs)) no_steps) auto))) false (a_member (method (function (at 2 37) (codes "f") (at 2 46) (a_par (codes "n") None no_pars) None (a_stmt (give (at 2 53) (just (name (codes "n") (at 2 60))) auto) no_stmts))) false (a_member (child (object (own_type (codes "Item") (at 2 64)) (a_member (given (codes "x") (at 2 71) ([]) (value_stmt (expr (steps (name (codes "r") (at 2 74)) (member (codes "a") (at 2 76)) no_steps) auto))) false no_members))) false (a_member (property (at 2 80) adjective.Ordinary (kind_name (codes "Component") (at 2 89) ([])) (codes "c") (at 2 99) (value_object (object (own_type (codes "Component") (at 2 102)) (a_member (child (object (own_type (codes "Item") (at 2 114)) no_members)) false no_members)))) false no_members)))))))) ∷ [])) (file false (codes "main.qml") ∷ [])

object_tree_alone : stage_of_program program_object_tree_alone (roots_of program_object_tree_alone) ≡ object_tree
unfolding lib.Utf8.encode
object_tree_alone = refl

-- a handler
--   import QtQuick 2.15 ⏎ Item { onXChanged: y = 3 }
abbrev program_with_a_handler : Program
program_with_a_handler = program_of (sources (held (file false (codes "main.qml")) (is_document (document (import_module (codes "QtQuick") (at 1 8) ([]) version.Full None auto ∷ []) (object (own_type (codes "Item") (at 2 1)) (a_member (given (codes "onXChanged") (at 2 8) ([]) (value_stmt (expr (assign (name (codes "y") (at 2 20)) assignment.Plain (at 2 22) no_targets (number 3 (at 2 24))) auto))) false no_members)))) ∷ [])) (file false (codes "main.qml") ∷ [])

with_a_handler : stage_of_program program_with_a_handler (roots_of program_with_a_handler) ≡ handlers_and_drain
unfolding lib.Utf8.encode
with_a_handler = refl

-- states
--   import QtQuick 2.15 ⏎ Item { states: State { name: "s" } }
abbrev program_with_states : Program
program_with_states = program_of (sources (held (file false (codes "main.qml")) (is_document (document (import_module (codes "QtQuick") (at 1 8) ([]) version.Full None auto ∷ []) (object (own_type (codes "Item") (at 2 1)) (a_member (given (codes "states") (at 2 8) ([]) (value_object (object (own_type (codes "State") (at 2 16)) (a_member (given (codes "name") (at 2 24) ([]) (value_stmt (expr (text (codes "s") (at 2 30)) auto))) false no_members)))) false no_members)))) ∷ [])) (file false (codes "main.qml") ∷ [])

with_states : stage_of_program program_with_states (roots_of program_with_states) ≡ states
unfolding lib.Utf8.encode
with_states = refl

-- a Timer as a kind
--   import QtQuick 2.15 ⏎ QtObject { property Timer t }
abbrev program_with_a_timer_as_kind : Program
program_with_a_timer_as_kind = program_of (sources (held (file false (codes "main.qml")) (is_document (document (import_module (codes "QtQuick") (at 1 8) ([]) version.Full None auto ∷ []) (object (own_type (codes "QtObject") (at 2 1)) (a_member (bare (at 2 12) adjective.Ordinary (kind_name (codes "Timer") (at 2 21) ([])) (codes "t") (at 2 27) auto) false no_members)))) ∷ [])) (file false (codes "main.qml") ∷ [])

with_a_timer_as_kind : stage_of_program program_with_a_timer_as_kind (roots_of program_with_a_timer_as_kind) ≡ timers_and_making
unfolding lib.Utf8.encode
with_a_timer_as_kind = refl

-- a model
--   import QtQuick 2.15 ⏎ Item { Repeater { model: 3 } }
abbrev program_with_a_model : Program
program_with_a_model = program_of (sources (held (file false (codes "main.qml")) (is_document (document (import_module (codes "QtQuick") (at 1 8) ([]) version.Full None auto ∷ []) (object (own_type (codes "Item") (at 2 1)) (a_member (child (object (own_type (codes "Repeater") (at 2 8)) (a_member (given (codes "model") (at 2 19) ([]) (value_stmt (expr (number 3 (at 2 26)) auto))) false no_members))) false no_members)))) ∷ [])) (file false (codes "main.qml") ∷ [])

with_a_model : stage_of_program program_with_a_model (roots_of program_with_a_model) ≡ rows_and_loading
unfolding lib.Utf8.encode
with_a_model = refl

-- a method by its name that is not called
--   import QtQuick 2.15 ⏎ QtObject { property var a; property var b: a.get }
abbrev program_with_a_method_uncalled : Program
program_with_a_method_uncalled = program_of (sources (held (file false (codes "main.qml")) (is_document (document (import_module (codes "QtQuick") (at 1 8) ([]) version.Full None auto ∷ []) (object (own_type (codes "QtObject") (at 2 1)) (a_member (bare (at 2 12) adjective.Ordinary kind_var (codes "a") (at 2 25) auto) false (a_member (property (at 2 28) adjective.Ordinary kind_var (codes "b") (at 2 41) (value_stmt (expr (steps (name (codes "a") (at 2 44)) (member (codes "get") (at 2 46)) no_steps) auto))) false no_members))))) ∷ [])) (file false (codes "main.qml") ∷ [])

with_a_method_uncalled : stage_of_program program_with_a_method_uncalled (roots_of program_with_a_method_uncalled) ≡ object_tree
unfolding lib.Utf8.encode
with_a_method_uncalled = refl

-- a host call
--   import QtQuick 2.15 ⏎ QtObject { function f(o) { o.call("x") } }
abbrev program_with_a_call_of_a_host : Program
program_with_a_call_of_a_host = program_of (sources (held (file false (codes "main.qml")) (is_document (document (import_module (codes "QtQuick") (at 1 8) ([]) version.Full None auto ∷ []) (object (own_type (codes "QtObject") (at 2 1)) (a_member (method (function (at 2 12) (codes "f") (at 2 21) (a_par (codes "o") None no_pars) None (a_stmt (expr (steps (name (codes "o") (at 2 28)) (member (codes "call") (at 2 30)) (a_step (call (at 2 34) (an_expr (text (codes "x") (at 2 35)) no_exprs)) no_steps)) auto) no_stmts))) false no_members)))) ∷ [])) (file false (codes "main.qml") ∷ [])

with_a_call_of_a_host : stage_of_program program_with_a_call_of_a_host (roots_of program_with_a_call_of_a_host) ≡ hosts
unfolding lib.Utf8.encode
with_a_call_of_a_host = refl

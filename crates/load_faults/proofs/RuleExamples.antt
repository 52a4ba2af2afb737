-- Rules of reading, names and values by small documents.
use Rattle.std.specs.Prelude.{◌≡◌, refl, true, false, [], ◌∷◌, Some, None, codes}
use Rattle.load_faults.proofs.ExampleForms.{at, file, held, sources, told_by, refusal, accepted}
use Rattle.program_names.specs.Reading.{Sources, unread, is_document, is_script}
use Rattle.qml_syntax.specs.Tree.{auto, name, number, text, literal, list, steps, bumped, assign, no_exprs, an_expr, member, no_steps, a_step, no_targets, expr, declare, give, no_stmts, a_stmt, last_var, just, import_module, import_text, own_type, kind_var, kind_name, no_pars, a_par, function, no_signal_pars, object, no_members, a_member, id, property, bare, alias, signal, method, given, child, value_object, value_list, value_stmt, last_object, an_object, document, script, call, block, type_of, group}
use Rattle.qml_base.specs.declared.load_cause.LoadCause.TheVariants as cause
use Rattle.qml_syntax.specs.declared.contextual.Adjective.TheVariants as adjective
use Rattle.qml_syntax.specs.declared.contextual.Version.TheVariants as version
use Rattle.qml_syntax.specs.declared.literal.Declaration.TheVariants as decl
use Rattle.qml_syntax.specs.declared.literal.Literal.TheVariants as lit
use Rattle.qml_syntax.specs.declared.operators.Assignment.TheVariants as assignment
use Rattle.qml_syntax.specs.declared.operators.Postfix.TheVariants as post

-- files are read breadth first: the fault of a file that is mentioned later is told later
--   main.qml: import QtQml 2.15 ⏎ QtObject { property A a: A {} property B b: B {} } ⏎ ; A.qml: import QtQml 2.15 ⏎
--   QtObject { property C c: C {} } ⏎ ; B.qml: import QtQml 2.15 ⏎ QtObject { property Nope n } ⏎ ; C.qml: import
--   QtQml 2.15 ⏎ QtObject { ⏎
files_of_breadth_first : Sources
files_of_breadth_first = sources (
    held (file false (codes "main.qml")) (is_document (document (import_module (codes "QtQml") (at 1 8) ([]) version.Full None auto ∷ []) (object (own_type (codes "QtObject") (at 2 1)) (a_member (property (at 2 23) adjective.Ordinary (kind_name (codes "A") (at 2 21) ([])) (codes "a") (at 2 23) (value_object (object (own_type (codes "A") (at 2 26)) no_members))) false (a_member (property (at 2 42) adjective.Ordinary (kind_name (codes "B") (at 2 40) ([])) (codes "b") (at 2 42) (value_object (object (own_type (codes "B") (at 2 45)) no_members))) false no_members))))) ∷
    held (file false (codes "A.qml")) (is_document (document (import_module (codes "QtQml") (at 1 8) ([]) version.Full None auto ∷ []) (object (own_type (codes "QtObject") (at 2 1)) (a_member (property (at 2 23) adjective.Ordinary (kind_name (codes "C") (at 2 21) ([])) (codes "c") (at 2 23) (value_object (object (own_type (codes "C") (at 2 26)) no_members))) false no_members)))) ∷
    held (file false (codes "B.qml")) (is_document (document (import_module (codes "QtQml") (at 1 8) ([]) version.Full None auto ∷ []) (object (own_type (codes "QtObject") (at 2 1)) (a_member (bare (at 2 26) adjective.Ordinary (kind_name (codes "Nope") (at 2 21) ([])) (codes "n") (at 2 26) auto) false no_members)))) ∷
    held (file false (codes "C.qml")) (unread (at 3 1) cause.Syntax) ∷ [])

breadth_first : told_by files_of_breadth_first (codes "main.qml") ≡ refusal (codes "B.qml") (at 2 21) cause.UnknownType
unfolding files_of_breadth_first lib.Utf8.encode
breadth_first = refl

-- all files are read before the names of one are looked at
--   main.qml: import QtQml 2.15 ⏎ QtObject { nix: 1; property A a: A {} } ⏎ ; A.qml: import QtQml 2.15 ⏎ QtObject {
--   property main2 c } ⏎
files_of_reading_first : Sources
files_of_reading_first = sources (
    held (file false (codes "main.qml")) (is_document (document (import_module (codes "QtQml") (at 1 8) ([]) version.Full None auto ∷ []) (object (own_type (codes "QtObject") (at 2 1)) (a_member (given (codes "nix") (at 2 12) ([]) (value_stmt (expr (number 1 (at 2 17)) auto))) false (a_member (property (at 2 31) adjective.Ordinary (kind_name (codes "A") (at 2 29) ([])) (codes "a") (at 2 31) (value_object (object (own_type (codes "A") (at 2 34)) no_members))) false no_members))))) ∷
    held (file false (codes "A.qml")) (is_document (document (import_module (codes "QtQml") (at 1 8) ([]) version.Full None auto ∷ []) (object (own_type (codes "QtObject") (at 2 1)) (a_member (bare (at 2 27) adjective.Ordinary (kind_name (codes "main2") (at 2 21) ([])) (codes "c") (at 2 27) auto) false no_members)))) ∷ [])

reading_first : told_by files_of_reading_first (codes "main.qml") ≡ refusal (codes "A.qml") (at 2 21) cause.UnknownType
unfolding files_of_reading_first lib.Utf8.encode
reading_first = refl

-- types are looked for from the last import to the first, then beside the document
--   main.qml: import QtQuick 2.15 ⏎ import "a" ⏎ import "b" ⏎ QtObject { property var x: X {} property var y: Y {}
--   property var z: Z {} property var i: Item {} } ⏎ ; X.qml: import QtQml 2.15 ⏎ QtObject { property string from:
--   "own" } ⏎ ; a/X.qml: import QtQml 2.15 ⏎ QtObject { property string from: "a" } ⏎ ; b/X.qml: import QtQml 2.15 ⏎
--   QtObject { property string from: "b" } ⏎ ; a/Y.qml: import QtQml
files_of_last_import_wins : Sources
files_of_last_import_wins = sources (
    held (file false (codes "main.qml")) (is_document (document (import_module (codes "QtQuick") (at 1 8) ([]) version.Full None auto ∷ import_text (codes "a") (at 2 8) None auto ∷ import_text (codes "b") (at 3 8) None auto ∷ []) (object (own_type (codes "QtObject") (at 4 1)) (a_member (property (at 4 25) adjective.Ordinary kind_var (codes "x") (at 4 25) (value_object (object (own_type (codes "X") (at 4 28)) no_members))) false (a_member (property (at 4 46) adjective.Ordinary kind_var (codes "y") (at 4 46) (value_object (object (own_type (codes "Y") (at 4 49)) no_members))) false (a_member (property (at 4 67) adjective.Ordinary kind_var (codes "z") (at 4 67) (value_object (object (own_type (codes "Z") (at 4 70)) no_members))) false (a_member (property (at 4 88) adjective.Ordinary kind_var (codes "i") (at 4 88) (value_object (object (own_type (codes "Item") (at 4 91)) no_members))) false no_members))))))) ∷
    held (file false (codes "X.qml")) (is_document (document (import_module (codes "QtQml") (at 1 8) ([]) version.Full None auto ∷ []) (object (own_type (codes "QtObject") (at 2 1)) (a_member (property (at 2 28) adjective.Ordinary (kind_name (codes "string") (at 2 21) ([])) (codes "from") (at 2 28) (value_stmt (expr (text (codes "own") (at 2 34)) auto))) false no_members)))) ∷
    held (file false (codes "a/X.qml")) (is_document (document (import_module (codes "QtQml") (at 1 8) ([]) version.Full None auto ∷ []) (object (own_type (codes "QtObject") (at 2 1)) (a_member (property (at 2 28) adjective.Ordinary (kind_name (codes "string") (at 2 21) ([])) (codes "from") (at 2 28) (value_stmt (expr (text (codes "a") (at 2 34)) auto))) false no_members)))) ∷
    held (file false (codes "b/X.qml")) (is_document (document (import_module (codes "QtQml") (at 1 8) ([]) version.Full None auto ∷ []) (object (own_type (codes "QtObject") (at 2 1)) (a_member (property (at 2 28) adjective.Ordinary (kind_name (codes "string") (at 2 21) ([])) (codes "from") (at 2 28) (value_stmt (expr (text (codes "b") (at 2 34)) auto))) false no_members)))) ∷
    held (file false (codes "a/Y.qml")) (is_document (document (import_module (codes "QtQml") (at 1 8) ([]) version.Full None auto ∷ []) (object (own_type (codes "QtObject") (at 2 1)) (a_member (property (at 2 28) adjective.Ordinary (kind_name (codes "string") (at 2 21) ([])) (codes "from") (at 2 28) (value_stmt (expr (text (codes "a") (at 2 34)) auto))) false no_members)))) ∷
    held (file false (codes "Z.qml")) (is_document (document (import_module (codes "QtQml") (at 1 8) ([]) version.Full None auto ∷ []) (object (own_type (codes "QtObject") (at 2 1)) (a_member (property (at 2 28) adjective.Ordinary (kind_name (codes "string") (at 2 21) ([])) (codes "from") (at 2 28) (value_stmt (expr (text (codes "own") (at 2 34)) auto))) false no_members)))) ∷
    held (file false (codes "b/Item.qml")) (is_document (document (import_module (codes "QtQml") (at 1 8) ([]) version.Full None auto ∷ []) (object (own_type (codes "QtObject") (at 2 1)) (a_member (property (at 2 28) adjective.Ordinary (kind_name (codes "string") (at 2 21) ([])) (codes "from") (at 2 28) (value_stmt (expr (text (codes "b") (at 2 34)) auto))) false no_members)))) ∷ [])

last_import_wins : told_by files_of_last_import_wins (codes "main.qml") ≡ accepted
unfolding files_of_last_import_wins lib.Utf8.encode
last_import_wins = refl

-- an import with a qualifier is found behind it
--   main.qml: import QtQml 2.15 as Q ⏎ import "a" as A ⏎ Q.QtObject { property var x: A.X {} property Q.QtObject y:
--   x } ⏎ ; a/X.qml: import QtQml 2.15 ⏎ QtObject { } ⏎
files_of_behind_a_qualifier : Sources
files_of_behind_a_qualifier = sources (
    held (file false (codes "main.qml")) (is_document (document (import_module (codes "QtQml") (at 1 8) ([]) version.Full (Some (codes "Q")) auto ∷ import_text (codes "a") (at 2 8) (Some (codes "A")) auto ∷ []) (object (type_of (codes "Q") (at 3 1) (codes "QtObject")) (a_member (property (at 3 27) adjective.Ordinary kind_var (codes "x") (at 3 27) (value_object (object (type_of (codes "A") (at 3 30) (codes "X")) no_members))) false (a_member (property (at 3 57) adjective.Ordinary (kind_name (codes "Q") (at 3 46) ((codes "QtObject") ∷ [])) (codes "y") (at 3 57) (value_stmt (expr (name (codes "x") (at 3 60)) auto))) false no_members))))) ∷
    held (file false (codes "a/X.qml")) (is_document (document (import_module (codes "QtQml") (at 1 8) ([]) version.Full None auto ∷ []) (object (own_type (codes "QtObject") (at 2 1)) no_members))) ∷ [])

behind_a_qualifier : told_by files_of_behind_a_qualifier (codes "main.qml") ≡ accepted
unfolding files_of_behind_a_qualifier lib.Utf8.encode
behind_a_qualifier = refl

-- and only behind it
--   main.qml: import QtQuick 2.15 as Q ⏎ Item {} ⏎
files_of_qualifier_alone : Sources
files_of_qualifier_alone = sources (
    held (file false (codes "main.qml")) (is_document (document (import_module (codes "QtQuick") (at 1 8) ([]) version.Full (Some (codes "Q")) auto ∷ []) (object (own_type (codes "Item") (at 2 1)) no_members))) ∷ [])

qualifier_alone : told_by files_of_qualifier_alone (codes "main.qml") ≡ refusal (codes "main.qml") (at 2 1) cause.UnknownType
unfolding files_of_qualifier_alone lib.Utf8.encode
qualifier_alone = refl

-- `.` and `..` in paths; a `..` stays where nothing stands before it
--   main.qml: import "a/./b/.." as A ⏎ A.X { } ⏎ ; a/X.qml: import QtQml 2.15 ⏎ import "../../up.js" as U ⏎ QtObject
--   { } ⏎
files_of_segments : Sources
files_of_segments = sources (
    held (file false (codes "main.qml")) (is_document (document (import_text (codes "a/./b/..") (at 1 8) (Some (codes "A")) auto ∷ []) (object (type_of (codes "A") (at 2 1) (codes "X")) no_members))) ∷
    held (file false (codes "a/X.qml")) (is_document (document (import_module (codes "QtQml") (at 1 8) ([]) version.Full None auto ∷ import_text (codes "../../up.js") (at 2 8) (Some (codes "U")) auto ∷ []) (object (own_type (codes "QtObject") (at 3 1)) no_members))) ∷ [])

segments : told_by files_of_segments (codes "main.qml") ≡ refusal (codes "../up.js") (at 1 1) cause.Missing
unfolding files_of_segments lib.Utf8.encode
segments = refl

-- the kind of a property is a use of its type
--   A.qml: import QtQml 2.15 ⏎ QtObject { property A a } ⏎ ; main.qml: import QtQml 2.15 ⏎ QtObject { property A a:
--   null } ⏎
files_of_kind_is_a_use : Sources
files_of_kind_is_a_use = sources (
    held (file false (codes "A.qml")) (is_document (document (import_module (codes "QtQml") (at 1 8) ([]) version.Full None auto ∷ []) (object (own_type (codes "QtObject") (at 2 1)) (a_member (bare (at 2 12) adjective.Ordinary (kind_name (codes "A") (at 2 21) ([])) (codes "a") (at 2 23) auto) false no_members)))) ∷
    held (file false (codes "main.qml")) (is_document (document (import_module (codes "QtQml") (at 1 8) ([]) version.Full None auto ∷ []) (object (own_type (codes "QtObject") (at 2 1)) (a_member (property (at 2 12) adjective.Ordinary (kind_name (codes "A") (at 2 21) ([])) (codes "a") (at 2 23) (value_stmt (expr (literal lit.Null (at 2 26)) auto))) false no_members)))) ∷ [])

kind_is_a_use : told_by files_of_kind_is_a_use (codes "main.qml") ≡ refusal (codes "A.qml") (at 2 21) cause.UnitCycle
unfolding files_of_kind_is_a_use lib.Utf8.encode
kind_is_a_use = refl

-- of two scripts with one qualifier the later counts
--   a.js: function f() { return 1 } ⏎ ; b.js: function g() { return 2 } ⏎ ; main.qml: import QtQml 2.15 ⏎ import
--   "a.js" as F ⏎ import "b.js" as F ⏎ QtObject { property int v: F.f() } ⏎
files_of_later_script : Sources
files_of_later_script = sources (
    held (file true (codes "a.js")) (is_script (script false ((function (at 1 1) (codes "f") (at 1 10) no_pars None (a_stmt (give (at 1 16) (just (number 1 (at 1 23))) auto) no_stmts)) ∷ []))) ∷
    held (file true (codes "b.js")) (is_script (script false ((function (at 1 1) (codes "g") (at 1 10) no_pars None (a_stmt (give (at 1 16) (just (number 2 (at 1 23))) auto) no_stmts)) ∷ []))) ∷
    held (file false (codes "main.qml")) (is_document (document (import_module (codes "QtQml") (at 1 8) ([]) version.Full None auto ∷ import_text (codes "a.js") (at 2 8) (Some (codes "F")) auto ∷ import_text (codes "b.js") (at 3 8) (Some (codes "F")) auto ∷ []) (object (own_type (codes "QtObject") (at 4 1)) (a_member (property (at 4 12) adjective.Ordinary (kind_name (codes "int") (at 4 21) ([])) (codes "v") (at 4 25) (value_stmt (expr (steps (name (codes "F") (at 4 28)) (member (codes "f") (at 4 30)) (a_step (call (at 4 31) no_exprs) no_steps)) auto))) false no_members)))) ∷ [])

later_script : told_by files_of_later_script (codes "main.qml") ≡ refusal (codes "main.qml") (at 4 30) cause.SideEffect
unfolding files_of_later_script lib.Utf8.encode
later_script = refl

-- locals, parameters, ids, the scope object, the component's root, globals
--   main.qml: import QtQml 2.15 ⏎ QtObject { id: root; property string a: "root"; property string b: "root";
--   property string c: "root"; property string Math: "root" ⏎   property QtObject o: QtObject { id: b; objectName:
--   "id b"; property string a: "scope"; property var seen: [a, b.objectName, c, Math] ⏎     function f(a, c) { var d
--   = "local"; { let c = "block"; return [a, c, d] } } ⏎     property var g
files_of_order_of_names : Sources
files_of_order_of_names = sources (
    held (file false (codes "main.qml")) (is_document (document (import_module (codes "QtQml") (at 1 8) ([]) version.Full None auto ∷ []) (object (own_type (codes "QtObject") (at 2 1)) (a_member (id (at 2 12) (codes "root") (at 2 16) auto) false (a_member (property (at 2 38) adjective.Ordinary (kind_name (codes "string") (at 2 31) ([])) (codes "a") (at 2 38) (value_stmt (expr (text (codes "root") (at 2 41)) auto))) false (a_member (property (at 2 65) adjective.Ordinary (kind_name (codes "string") (at 2 58) ([])) (codes "b") (at 2 65) (value_stmt (expr (text (codes "root") (at 2 68)) auto))) false (a_member (property (at 2 92) adjective.Ordinary (kind_name (codes "string") (at 2 85) ([])) (codes "c") (at 2 92) (value_stmt (expr (text (codes "root") (at 2 95)) auto))) false (a_member (property (at 2 119) adjective.Ordinary (kind_name (codes "string") (at 2 112) ([])) (codes "Math") (at 2 119) (value_stmt (expr (text (codes "root") (at 2 125)) auto))) false (a_member (property (at 3 21) adjective.Ordinary (kind_name (codes "QtObject") (at 3 12) ([])) (codes "o") (at 3 21) (value_object (object (own_type (codes "QtObject") (at 3 24)) (a_member (id (at 3 35) (codes "b") (at 3 39) auto) false (a_member (given (codes "objectName") (at 3 42) ([]) (value_stmt (expr (text (codes "id b") (at 3 54)) auto))) false (a_member (property (at 3 78) adjective.Ordinary (kind_name (codes "string") (at 3 71) ([])) (codes "a") (at 3 78) (value_stmt (expr (text (codes "scope") (at 3 81)) auto))) false (a_member (property (at 3 103) adjective.Ordinary kind_var (codes "seen") (at 3 103) (value_stmt (expr (list (at 3 109) (an_expr (name (codes "a") (at 3 110)) (an_expr (steps (name (codes "b") (at 3 113)) (member (codes "objectName") (at 3 115)) no_steps) (an_expr (name (codes "c") (at 3 127)) (an_expr (name (codes "Math") (at 3 130)) no_exprs)))) false) auto))) false (a_member (method (function (at 4 5) (codes "f") (at 4 14) (a_par (codes "a") None (a_par (codes "c") None no_pars)) None (a_stmt (declare (at 4 24) decl.Var (last_var (codes "d") (at 4 24) (just (text (codes "local") (at 4 32)))) auto) (a_stmt (block (at 4 41) (a_stmt (declare (at 4 43) decl.Let (last_var (codes "c") (at 4 43) (just (text (codes "block") (at 4 51)))) auto) (a_stmt (give (at 4 60) (just (list (at 4 67) (an_expr (name (codes "a") (at 4 68)) (an_expr (name (codes "c") (at 4 71)) (an_expr (name (codes "d") (at 4 74)) no_exprs))) false)) auto) no_stmts))) no_stmts)))) false (a_member (property (at 5 18) adjective.Ordinary kind_var (codes "g") (at 5 18) (value_stmt (expr (steps (name (codes "f") (at 5 21)) (call (at 5 22) (an_expr (text (codes "parameter") (at 5 23)) (an_expr (number 1 (at 5 36)) no_exprs))) no_steps) auto))) false no_members))))))))) false no_members))))))))) ∷ [])

order_of_names : told_by files_of_order_of_names (codes "main.qml") ≡ accepted
unfolding files_of_order_of_names lib.Utf8.encode
order_of_names = refl

-- a bare `get` is what the name finds, here a function with an effect
--   main.qml: import QtQml 2.15 ⏎ QtObject { property int n; function get(k) { n = k } property var v: get(0) } ⏎
files_of_bare_get : Sources
files_of_bare_get = sources (
    held (file false (codes "main.qml")) (is_document (document (import_module (codes "QtQml") (at 1 8) ([]) version.Full None auto ∷ []) (object (own_type (codes "QtObject") (at 2 1)) (a_member (bare (at 2 12) adjective.Ordinary (kind_name (codes "int") (at 2 21) ([])) (codes "n") (at 2 25) auto) false (a_member (method (function (at 2 28) (codes "get") (at 2 37) (a_par (codes "k") None no_pars) None (a_stmt (expr (assign (name (codes "n") (at 2 46)) assignment.Plain (at 2 48) no_targets (name (codes "k") (at 2 50))) auto) no_stmts))) false (a_member (property (at 2 54) adjective.Ordinary kind_var (codes "v") (at 2 67) (value_stmt (expr (steps (name (codes "get") (at 2 70)) (call (at 2 73) (an_expr (number 0 (at 2 74)) no_exprs)) no_steps) auto))) false no_members)))))) ∷ [])

bare_get : told_by files_of_bare_get (codes "main.qml") ≡ refusal (codes "main.qml") (at 2 70) cause.SideEffect
unfolding files_of_bare_get lib.Utf8.encode
bare_get = refl

-- `onGo` is the handler of `go` and of `Go`
--   main.qml: import QtQml 2.15 ⏎ QtObject { signal go(); signal Go(); onGo: console.log(1) } ⏎
files_of_two_signals : Sources
files_of_two_signals = sources (
    held (file false (codes "main.qml")) (is_document (document (import_module (codes "QtQml") (at 1 8) ([]) version.Full None auto ∷ []) (object (own_type (codes "QtObject") (at 2 1)) (a_member (signal (at 2 12) (codes "go") (at 2 19) (Some no_signal_pars) auto) false (a_member (signal (at 2 25) (codes "Go") (at 2 32) (Some no_signal_pars) auto) false (a_member (given (codes "onGo") (at 2 38) ([]) (value_stmt (expr (steps (name (codes "console") (at 2 44)) (member (codes "log") (at 2 52)) (a_step (call (at 2 55) (an_expr (number 1 (at 2 56)) no_exprs)) no_steps)) auto))) false no_members)))))) ∷ [])

two_signals : told_by files_of_two_signals (codes "main.qml") ≡ accepted
unfolding files_of_two_signals lib.Utf8.encode
two_signals = refl

-- an alias has no signal of changes
--   main.qml: import QtQml 2.15 ⏎ QtObject { id: r; property int p; property alias a: r.p; onAChanged:
--   console.log(1) } ⏎
files_of_alias_without_signal : Sources
files_of_alias_without_signal = sources (
    held (file false (codes "main.qml")) (is_document (document (import_module (codes "QtQml") (at 1 8) ([]) version.Full None auto ∷ []) (object (own_type (codes "QtObject") (at 2 1)) (a_member (id (at 2 12) (codes "r") (at 2 16) auto) false (a_member (bare (at 2 19) adjective.Ordinary (kind_name (codes "int") (at 2 28) ([])) (codes "p") (at 2 32) auto) false (a_member (alias (at 2 35) false (codes "a") (at 2 50) (codes "r") (at 2 53) ((codes "p") ∷ []) auto) false (a_member (given (codes "onAChanged") (at 2 58) ([]) (value_stmt (expr (steps (name (codes "console") (at 2 70)) (member (codes "log") (at 2 78)) (a_step (call (at 2 81) (an_expr (number 1 (at 2 82)) no_exprs)) no_steps)) auto))) false no_members))))))) ∷ [])

alias_without_signal : told_by files_of_alias_without_signal (codes "main.qml") ≡ refusal (codes "main.qml") (at 2 58) cause.UnknownProperty
unfolding files_of_alias_without_signal lib.Utf8.encode
alias_without_signal = refl

-- a value of a group and one in the object itself are two values
--   main.qml: import QtQuick 2.15 ⏎ Item { property alias k: c; k.x: 5; Item { id: c; x: 3 } } ⏎
files_of_group_and_own : Sources
files_of_group_and_own = sources (
    held (file false (codes "main.qml")) (is_document (document (import_module (codes "QtQuick") (at 1 8) ([]) version.Full None auto ∷ []) (object (own_type (codes "Item") (at 2 1)) (a_member (alias (at 2 8) false (codes "k") (at 2 23) (codes "c") (at 2 26) ([]) auto) false (a_member (given (codes "k") (at 2 29) ((codes "x") ∷ []) (value_stmt (expr (number 5 (at 2 34)) auto))) false (a_member (child (object (own_type (codes "Item") (at 2 37)) (a_member (id (at 2 44) (codes "c") (at 2 48) auto) false (a_member (given (codes "x") (at 2 51) ([]) (value_stmt (expr (number 3 (at 2 54)) auto))) false no_members)))) false no_members)))))) ∷ [])

group_and_own : told_by files_of_group_and_own (codes "main.qml") ≡ refusal (codes "main.qml") (at 2 51) cause.DuplicateName
unfolding files_of_group_and_own lib.Utf8.encode
group_and_own = refl

-- in a group stand values alone
--   main.qml: import QtQuick 2.15 ⏎ Item { id: r; property int w: 5; property alias k: c; Item { id: c; property int
--   w: 7 } k { onXChanged: console.log(1) } } ⏎
files_of_handler_in_a_group : Sources
files_of_handler_in_a_group = sources (
    held (file false (codes "main.qml")) (is_document (document (import_module (codes "QtQuick") (at 1 8) ([]) version.Full None auto ∷ []) (object (own_type (codes "Item") (at 2 1)) (a_member (id (at 2 8) (codes "r") (at 2 12) auto) false (a_member (property (at 2 15) adjective.Ordinary (kind_name (codes "int") (at 2 24) ([])) (codes "w") (at 2 28) (value_stmt (expr (number 5 (at 2 31)) auto))) false (a_member (alias (at 2 34) false (codes "k") (at 2 49) (codes "c") (at 2 52) ([]) auto) false (a_member (child (object (own_type (codes "Item") (at 2 55)) (a_member (id (at 2 62) (codes "c") (at 2 66) auto) false (a_member (property (at 2 69) adjective.Ordinary (kind_name (codes "int") (at 2 78) ([])) (codes "w") (at 2 82) (value_stmt (expr (number 7 (at 2 85)) auto))) false no_members)))) false (a_member (group (codes "k") (at 2 89) ([]) (a_member (given (codes "onXChanged") (at 2 93) ([]) (value_stmt (expr (steps (name (codes "console") (at 2 105)) (member (codes "log") (at 2 113)) (a_step (call (at 2 116) (an_expr (number 1 (at 2 117)) no_exprs)) no_steps)) auto))) false no_members)) false no_members)))))))) ∷ [])

handler_in_a_group : told_by files_of_handler_in_a_group (codes "main.qml") ≡ refusal (codes "main.qml") (at 2 93) cause.UnknownProperty
unfolding files_of_handler_in_a_group lib.Utf8.encode
handler_in_a_group = refl

-- the children of an Item are no target of an alias
--   main.qml: import QtQuick 2.15 ⏎ Item { id: r; property alias a: r.data } ⏎
files_of_alias_of_children : Sources
files_of_alias_of_children = sources (
    held (file false (codes "main.qml")) (is_document (document (import_module (codes "QtQuick") (at 1 8) ([]) version.Full None auto ∷ []) (object (own_type (codes "Item") (at 2 1)) (a_member (id (at 2 8) (codes "r") (at 2 12) auto) false (a_member (alias (at 2 15) false (codes "a") (at 2 30) (codes "r") (at 2 33) ((codes "data") ∷ []) auto) false no_members))))) ∷ [])

alias_of_children : told_by files_of_alias_of_children (codes "main.qml") ≡ refusal (codes "main.qml") (at 2 33) cause.BadAlias
unfolding files_of_alias_of_children lib.Utf8.encode
alias_of_children = refl

-- `data` and a child object are two values
--   main.qml: import QtQuick 2.15 ⏎ Item { data: Item {} ⏎ Item {} } ⏎
files_of_children_twice : Sources
files_of_children_twice = sources (
    held (file false (codes "main.qml")) (is_document (document (import_module (codes "QtQuick") (at 1 8) ([]) version.Full None auto ∷ []) (object (own_type (codes "Item") (at 2 1)) (a_member (given (codes "data") (at 2 8) ([]) (value_object (object (own_type (codes "Item") (at 2 14)) no_members))) false (a_member (child (object (own_type (codes "Item") (at 3 1)) no_members)) false no_members))))) ∷ [])

children_twice : told_by files_of_children_twice (codes "main.qml") ≡ refusal (codes "main.qml") (at 3 1) cause.DuplicateName
unfolding files_of_children_twice lib.Utf8.encode
children_twice = refl

-- of two default properties the later takes the children
--   main.qml: import QtQml 2.15 ⏎ QtObject { default property QtObject d; default property var e; QtObject {} } ⏎
files_of_last_default : Sources
files_of_last_default = sources (
    held (file false (codes "main.qml")) (is_document (document (import_module (codes "QtQml") (at 1 8) ([]) version.Full None auto ∷ []) (object (own_type (codes "QtObject") (at 2 1)) (a_member (bare (at 2 12) adjective.Default (kind_name (codes "QtObject") (at 2 29) ([])) (codes "d") (at 2 38) auto) false (a_member (bare (at 2 41) adjective.Default kind_var (codes "e") (at 2 62) auto) false (a_member (child (object (own_type (codes "QtObject") (at 2 65)) no_members)) false no_members)))))) ∷ [])

last_default : told_by files_of_last_default (codes "main.qml") ≡ accepted
unfolding files_of_last_default lib.Utf8.encode
last_default = refl

-- a Component holds one object
--   main.qml: import QtQml 2.15 ⏎ QtObject { property Component k: Component { QtObject {} QtObject {} } } ⏎
files_of_second_held : Sources
files_of_second_held = sources (
    held (file false (codes "main.qml")) (is_document (document (import_module (codes "QtQml") (at 1 8) ([]) version.Full None auto ∷ []) (object (own_type (codes "QtObject") (at 2 1)) (a_member (property (at 2 12) adjective.Ordinary (kind_name (codes "Component") (at 2 21) ([])) (codes "k") (at 2 31) (value_object (object (own_type (codes "Component") (at 2 34)) (a_member (child (object (own_type (codes "QtObject") (at 2 46)) no_members)) false (a_member (child (object (own_type (codes "QtObject") (at 2 58)) no_members)) false no_members))))) false no_members)))) ∷ [])

second_held : told_by files_of_second_held (codes "main.qml") ≡ refusal (codes "main.qml") (at 2 58) cause.DuplicateName
unfolding files_of_second_held lib.Utf8.encode
second_held = refl

-- a State as the root of a document extends a State of the list in which it is used
--   S.qml: import QtQuick 2.15 ⏎ State { name: "s"; extend: "b" } ⏎ ; main.qml: import QtQuick 2.15 ⏎ Item { id: r;
--   property int a; states: [ S {}, State { name: "b"; PropertyChanges { target: r; a: 3 } } ] } ⏎
files_of_extend_of_a_type : Sources
files_of_extend_of_a_type = sources (
    held (file false (codes "S.qml")) (is_document (document (import_module (codes "QtQuick") (at 1 8) ([]) version.Full None auto ∷ []) (object (own_type (codes "State") (at 2 1)) (a_member (given (codes "name") (at 2 9) ([]) (value_stmt (expr (text (codes "s") (at 2 15)) auto))) false (a_member (given (codes "extend") (at 2 20) ([]) (value_stmt (expr (text (codes "b") (at 2 28)) auto))) false no_members))))) ∷
    held (file false (codes "main.qml")) (is_document (document (import_module (codes "QtQuick") (at 1 8) ([]) version.Full None auto ∷ []) (object (own_type (codes "Item") (at 2 1)) (a_member (id (at 2 8) (codes "r") (at 2 12) auto) false (a_member (bare (at 2 15) adjective.Ordinary (kind_name (codes "int") (at 2 24) ([])) (codes "a") (at 2 28) auto) false (a_member (given (codes "states") (at 2 31) ([]) (value_list (at 2 39) (an_object (object (own_type (codes "S") (at 2 41)) no_members) (last_object (object (own_type (codes "State") (at 2 47)) (a_member (given (codes "name") (at 2 55) ([]) (value_stmt (expr (text (codes "b") (at 2 61)) auto))) false (a_member (child (object (own_type (codes "PropertyChanges") (at 2 66)) (a_member (given (codes "target") (at 2 84) ([]) (value_stmt (expr (name (codes "r") (at 2 92)) auto))) false (a_member (given (codes "a") (at 2 95) ([]) (value_stmt (expr (number 3 (at 2 98)) auto))) false no_members)))) false no_members))))))) false no_members)))))) ∷ [])

extend_of_a_type : told_by files_of_extend_of_a_type (codes "main.qml") ≡ accepted
unfolding files_of_extend_of_a_type lib.Utf8.encode
extend_of_a_type = refl

-- a State outside a list extends none
--   main.qml: import QtQuick 2.15 ⏎ Item { property QtObject s: State { name: "a"; extend: "b" } } ⏎
files_of_extend_alone : Sources
files_of_extend_alone = sources (
    held (file false (codes "main.qml")) (is_document (document (import_module (codes "QtQuick") (at 1 8) ([]) version.Full None auto ∷ []) (object (own_type (codes "Item") (at 2 1)) (a_member (property (at 2 8) adjective.Ordinary (kind_name (codes "QtObject") (at 2 17) ([])) (codes "s") (at 2 26) (value_object (object (own_type (codes "State") (at 2 29)) (a_member (given (codes "name") (at 2 37) ([]) (value_stmt (expr (text (codes "a") (at 2 43)) auto))) false (a_member (given (codes "extend") (at 2 48) ([]) (value_stmt (expr (text (codes "b") (at 2 56)) auto))) false no_members))))) false no_members)))) ∷ [])

extend_alone : told_by files_of_extend_alone (codes "main.qml") ≡ refusal (codes "main.qml") (at 2 56) cause.UnknownState
unfolding files_of_extend_alone lib.Utf8.encode
extend_alone = refl

-- a target is found in the enclosing components
--   main.qml: import QtQuick 2.15 ⏎ Item { Item { id: g; property int c } Component { Item { states: State {
--   PropertyChanges { target: g; c: 1 } } } } } ⏎
files_of_target_outside : Sources
files_of_target_outside = sources (
    held (file false (codes "main.qml")) (is_document (document (import_module (codes "QtQuick") (at 1 8) ([]) version.Full None auto ∷ []) (object (own_type (codes "Item") (at 2 1)) (a_member (child (object (own_type (codes "Item") (at 2 8)) (a_member (id (at 2 15) (codes "g") (at 2 19) auto) false (a_member (bare (at 2 22) adjective.Ordinary (kind_name (codes "int") (at 2 31) ([])) (codes "c") (at 2 35) auto) false no_members)))) false (a_member (child (object (own_type (codes "Component") (at 2 39)) (a_member (child (object (own_type (codes "Item") (at 2 51)) (a_member (given (codes "states") (at 2 58) ([]) (value_object (object (own_type (codes "State") (at 2 66)) (a_member (child (object (own_type (codes "PropertyChanges") (at 2 74)) (a_member (given (codes "target") (at 2 92) ([]) (value_stmt (expr (name (codes "g") (at 2 100)) auto))) false (a_member (given (codes "c") (at 2 103) ([]) (value_stmt (expr (number 1 (at 2 106)) auto))) false no_members)))) false no_members)))) false no_members))) false no_members))) false no_members))))) ∷ [])

target_outside : told_by files_of_target_outside (codes "main.qml") ≡ accepted
unfolding files_of_target_outside lib.Utf8.encode
target_outside = refl

-- where no name of a root comes before it
--   main.qml: import QtQuick 2.15 ⏎ Item { Item { id: x; property int c } Component { Item { states: State {
--   PropertyChanges { target: x; c: 1 } } } } } ⏎
files_of_target_hidden : Sources
files_of_target_hidden = sources (
    held (file false (codes "main.qml")) (is_document (document (import_module (codes "QtQuick") (at 1 8) ([]) version.Full None auto ∷ []) (object (own_type (codes "Item") (at 2 1)) (a_member (child (object (own_type (codes "Item") (at 2 8)) (a_member (id (at 2 15) (codes "x") (at 2 19) auto) false (a_member (bare (at 2 22) adjective.Ordinary (kind_name (codes "int") (at 2 31) ([])) (codes "c") (at 2 35) auto) false no_members)))) false (a_member (child (object (own_type (codes "Component") (at 2 39)) (a_member (child (object (own_type (codes "Item") (at 2 51)) (a_member (given (codes "states") (at 2 58) ([]) (value_object (object (own_type (codes "State") (at 2 66)) (a_member (child (object (own_type (codes "PropertyChanges") (at 2 74)) (a_member (given (codes "target") (at 2 92) ([]) (value_stmt (expr (name (codes "x") (at 2 100)) auto))) false (a_member (given (codes "c") (at 2 103) ([]) (value_stmt (expr (number 1 (at 2 106)) auto))) false no_members)))) false no_members)))) false no_members))) false no_members))) false no_members))))) ∷ [])

target_hidden : told_by files_of_target_hidden (codes "main.qml") ≡ refusal (codes "main.qml") (at 2 100) cause.BadTarget
unfolding files_of_target_hidden lib.Utf8.encode
target_hidden = refl

-- a bool takes an object and a list
--   main.qml: import QtQml 2.15 ⏎ QtObject { property bool w: QtObject {} property bool v: [QtObject {}] } ⏎
files_of_objects_as_true : Sources
files_of_objects_as_true = sources (
    held (file false (codes "main.qml")) (is_document (document (import_module (codes "QtQml") (at 1 8) ([]) version.Full None auto ∷ []) (object (own_type (codes "QtObject") (at 2 1)) (a_member (property (at 2 12) adjective.Ordinary (kind_name (codes "bool") (at 2 21) ([])) (codes "w") (at 2 26) (value_object (object (own_type (codes "QtObject") (at 2 29)) no_members))) false (a_member (property (at 2 41) adjective.Ordinary (kind_name (codes "bool") (at 2 50) ([])) (codes "v") (at 2 55) (value_list (at 2 58) (last_object (object (own_type (codes "QtObject") (at 2 59)) no_members)))) false no_members))))) ∷ [])

objects_as_true : told_by files_of_objects_as_true (codes "main.qml") ≡ accepted
unfolding files_of_objects_as_true lib.Utf8.encode
objects_as_true = refl

-- a value for an alias of a whole object
--   A.qml: import QtQml 2.15 ⏎ QtObject { property alias k: c; property QtObject o: QtObject { id: c } } ⏎ ;
--   main.qml: import QtQml 2.15 ⏎ QtObject { property A a: A { k: null } } ⏎
files_of_whole_alias : Sources
files_of_whole_alias = sources (
    held (file false (codes "A.qml")) (is_document (document (import_module (codes "QtQml") (at 1 8) ([]) version.Full None auto ∷ []) (object (own_type (codes "QtObject") (at 2 1)) (a_member (alias (at 2 12) false (codes "k") (at 2 27) (codes "c") (at 2 30) ([]) auto) false (a_member (property (at 2 33) adjective.Ordinary (kind_name (codes "QtObject") (at 2 42) ([])) (codes "o") (at 2 51) (value_object (object (own_type (codes "QtObject") (at 2 54)) (a_member (id (at 2 65) (codes "c") (at 2 69) auto) false no_members)))) false no_members))))) ∷
    held (file false (codes "main.qml")) (is_document (document (import_module (codes "QtQml") (at 1 8) ([]) version.Full None auto ∷ []) (object (own_type (codes "QtObject") (at 2 1)) (a_member (property (at 2 12) adjective.Ordinary (kind_name (codes "A") (at 2 21) ([])) (codes "a") (at 2 23) (value_object (object (own_type (codes "A") (at 2 26)) (a_member (given (codes "k") (at 2 30) ([]) (value_stmt (expr (literal lit.Null (at 2 33)) auto))) false no_members)))) false no_members)))) ∷ [])

whole_alias : told_by files_of_whole_alias (codes "main.qml") ≡ refusal (codes "main.qml") (at 2 30) cause.ReadOnly
unfolding files_of_whole_alias lib.Utf8.encode
whole_alias = refl

-- the functions of a Connections have names all the same
--   main.qml: import QtQml 2.15 ⏎ QtObject { id: r; signal go(); property QtObject c: Connections { target: r;
--   function onGo() {} function onGo() {} } } ⏎
files_of_names_of_handlers : Sources
files_of_names_of_handlers = sources (
    held (file false (codes "main.qml")) (is_document (document (import_module (codes "QtQml") (at 1 8) ([]) version.Full None auto ∷ []) (object (own_type (codes "QtObject") (at 2 1)) (a_member (id (at 2 12) (codes "r") (at 2 16) auto) false (a_member (signal (at 2 19) (codes "go") (at 2 26) (Some no_signal_pars) auto) false (a_member (property (at 2 32) adjective.Ordinary (kind_name (codes "QtObject") (at 2 41) ([])) (codes "c") (at 2 50) (value_object (object (own_type (codes "Connections") (at 2 53)) (a_member (given (codes "target") (at 2 67) ([]) (value_stmt (expr (name (codes "r") (at 2 75)) auto))) false (a_member (method (function (at 2 78) (codes "onGo") (at 2 87) no_pars None no_stmts)) false (a_member (method (function (at 2 97) (codes "onGo") (at 2 106) no_pars None no_stmts)) false no_members)))))) false no_members)))))) ∷ [])

names_of_handlers : told_by files_of_names_of_handlers (codes "main.qml") ≡ refusal (codes "main.qml") (at 2 106) cause.DuplicateName
unfolding files_of_names_of_handlers lib.Utf8.encode
names_of_handlers = refl

-- an object around which a Component is wanted too late
--   import QtQuick 2.15 ⏎ Item { id: r; property alias a: inner.delegate; a: Item { Repeater { id: inner } } }
files_of_too_late : Sources
files_of_too_late = sources (held (file false (codes "main.qml")) (is_document (document (import_module (codes "QtQuick") (at 1 8) ([]) version.Full None auto ∷ []) (object (own_type (codes "Item") (at 2 1)) (a_member (id (at 2 8) (codes "r") (at 2 12) auto) false (a_member (alias (at 2 15) false (codes "a") (at 2 30) (codes "inner") (at 2 33) ((codes "delegate") ∷ []) auto) false (a_member (given (codes "a") (at 2 49) ([]) (value_object (object (own_type (codes "Item") (at 2 52)) (a_member (child (object (own_type (codes "Repeater") (at 2 59)) (a_member (id (at 2 70) (codes "inner") (at 2 74) auto) false no_members))) false no_members)))) false no_members)))))) ∷ [])

too_late : told_by files_of_too_late (codes "main.qml") ≡ refusal (codes "main.qml") (at 2 52) cause.BadKind
unfolding files_of_too_late lib.Utf8.encode
too_late = refl

-- two aliases of one cell
--   import QtQuick 2.15 ⏎ Item { id: r; a: 1; b: 2; property alias a: r.x; property alias b: r.x }
files_of_two_aliases : Sources
files_of_two_aliases = sources (held (file false (codes "main.qml")) (is_document (document (import_module (codes "QtQuick") (at 1 8) ([]) version.Full None auto ∷ []) (object (own_type (codes "Item") (at 2 1)) (a_member (id (at 2 8) (codes "r") (at 2 12) auto) false (a_member (given (codes "a") (at 2 15) ([]) (value_stmt (expr (number 1 (at 2 18)) auto))) false (a_member (given (codes "b") (at 2 21) ([]) (value_stmt (expr (number 2 (at 2 24)) auto))) false (a_member (alias (at 2 27) false (codes "a") (at 2 42) (codes "r") (at 2 45) ((codes "x") ∷ []) auto) false (a_member (alias (at 2 50) false (codes "b") (at 2 65) (codes "r") (at 2 68) ((codes "x") ∷ []) auto) false no_members)))))))) ∷ [])

two_aliases : told_by files_of_two_aliases (codes "main.qml") ≡ refusal (codes "main.qml") (at 2 21) cause.DuplicateName
unfolding files_of_two_aliases lib.Utf8.encode
two_aliases = refl

-- a value through an alias in a circle
--   import QtQuick 2.15 ⏎ QtObject { id: r; a: 5; property alias a: r.b; property alias b: r.a }
files_of_in_a_circle : Sources
files_of_in_a_circle = sources (held (file false (codes "main.qml")) (is_document (document (import_module (codes "QtQuick") (at 1 8) ([]) version.Full None auto ∷ []) (object (own_type (codes "QtObject") (at 2 1)) (a_member (id (at 2 12) (codes "r") (at 2 16) auto) false (a_member (given (codes "a") (at 2 19) ([]) (value_stmt (expr (number 5 (at 2 22)) auto))) false (a_member (alias (at 2 25) false (codes "a") (at 2 40) (codes "r") (at 2 43) ((codes "b") ∷ []) auto) false (a_member (alias (at 2 48) false (codes "b") (at 2 63) (codes "r") (at 2 66) ((codes "a") ∷ []) auto) false no_members))))))) ∷ [])

in_a_circle : told_by files_of_in_a_circle (codes "main.qml") ≡ refusal (codes "main.qml") (at 2 19) cause.UnknownProperty
unfolding files_of_in_a_circle lib.Utf8.encode
in_a_circle = refl

-- a local may be assigned in a binding
--   import QtQuick 2.15 ⏎ QtObject { property var a: { var x = 1; x = 2; x++; return x } }
files_of_assigned_local : Sources
files_of_assigned_local = sources (held (file false (codes "main.qml")) (is_document (document (import_module (codes "QtQuick") (at 1 8) ([]) version.Full None auto ∷ []) (object (own_type (codes "QtObject") (at 2 1)) (a_member (property (at 2 12) adjective.Ordinary kind_var (codes "a") (at 2 25) (value_stmt (block (at 2 28) (a_stmt (declare (at 2 30) decl.Var (last_var (codes "x") (at 2 30) (just (number 1 (at 2 38)))) auto) (a_stmt (expr (assign (name (codes "x") (at 2 41)) assignment.Plain (at 2 43) no_targets (number 2 (at 2 45))) auto) (a_stmt (expr (bumped (name (codes "x") (at 2 48)) post.Increment (at 2 49)) auto) (a_stmt (give (at 2 53) (just (name (codes "x") (at 2 60))) auto) no_stmts))))))) false no_members)))) ∷ [])

assigned_local : told_by files_of_assigned_local (codes "main.qml") ≡ accepted
unfolding files_of_assigned_local lib.Utf8.encode
assigned_local = refl

-- a function of a Connections whose name is a handler's is none in expressions
--   main.qml: import QtQml 2.15 ⏎ Connections { id: c; target: null; function onX() { return 1 } property int v:
--   c.onX() }
files_of_handler_is_no_function : Sources
files_of_handler_is_no_function = sources (
    held (file false (codes "main.qml")) (is_document (document (import_module (codes "QtQml") (at 1 8) ([]) version.Full None auto ∷ []) (object (own_type (codes "Connections") (at 2 1)) (a_member (id (at 2 15) (codes "c") (at 2 19) auto) false (a_member (given (codes "target") (at 2 22) ([]) (value_stmt (expr (literal lit.Null (at 2 30)) auto))) false (a_member (method (function (at 2 36) (codes "onX") (at 2 45) no_pars None (a_stmt (give (at 2 53) (just (number 1 (at 2 60))) auto) no_stmts))) false (a_member (property (at 2 64) adjective.Ordinary (kind_name (codes "int") (at 2 73) ([])) (codes "v") (at 2 77) (value_stmt (expr (steps (name (codes "c") (at 2 80)) (member (codes "onX") (at 2 82)) (a_step (call (at 2 85) no_exprs) no_steps)) auto))) false no_members))))))) ∷ [])

handler_is_no_function : told_by files_of_handler_is_no_function (codes "main.qml") ≡ refusal (codes "main.qml") (at 2 82) cause.SideEffect
unfolding files_of_handler_is_no_function lib.Utf8.encode
handler_is_no_function = refl

-- a child for a default alias of a whole object
--   main.qml: import QtQuick 2.15 ⏎ Item { default property alias d: k; property Item p: Item { id: k } QtObject { }
--   }
files_of_child_of_a_whole_alias : Sources
files_of_child_of_a_whole_alias = sources (
    held (file false (codes "main.qml")) (is_document (document (import_module (codes "QtQuick") (at 1 8) ([]) version.Full None auto ∷ []) (object (own_type (codes "Item") (at 2 1)) (a_member (alias (at 2 8) true (codes "d") (at 2 31) (codes "k") (at 2 34) ([]) auto) false (a_member (property (at 2 37) adjective.Ordinary (kind_name (codes "Item") (at 2 46) ([])) (codes "p") (at 2 51) (value_object (object (own_type (codes "Item") (at 2 54)) (a_member (id (at 2 61) (codes "k") (at 2 65) auto) false no_members)))) false (a_member (child (object (own_type (codes "QtObject") (at 2 69)) no_members)) false no_members)))))) ∷ [])

child_of_a_whole_alias : told_by files_of_child_of_a_whole_alias (codes "main.qml") ≡ refusal (codes "main.qml") (at 2 69) cause.ReadOnly
unfolding files_of_child_of_a_whole_alias lib.Utf8.encode
child_of_a_whole_alias = refl

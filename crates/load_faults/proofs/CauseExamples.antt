-- Each cause of a load fault by small documents; more than 100,000 objects have none that is small.
use Rattle.std.specs.Prelude.{◌≡◌, refl, true, false, [], ◌∷◌, Some, None, codes}
use Rattle.load_faults.proofs.ExampleForms.{at, file, held, sources, told_by, refusal, accepted}
use Rattle.program_names.specs.Reading.{Sources, unread, is_document, is_script}
use Rattle.qml_syntax.specs.Tree.{auto, name, number, text, literal, list, steps, bumped, chain, assign, no_exprs, an_expr, member, binding, no_steps, a_step, no_links, no_targets, expr, declare, give, no_stmts, a_stmt, last_var, just, import_module, import_text, own_type, kind_var, kind_name, kind_list, no_pars, a_par, function, no_signal_pars, object, no_members, a_member, id, property, bare, alias, signal, method, given, child, value_object, value_list, value_stmt, last_object, an_object, document, script, call}
use Rattle.qml_base.specs.declared.load_cause.LoadCause.TheVariants as cause
use Rattle.qml_syntax.specs.declared.contextual.Adjective.TheVariants as adjective
use Rattle.qml_syntax.specs.declared.contextual.Version.TheVariants as version
use Rattle.qml_syntax.specs.declared.literal.Declaration.TheVariants as decl
use Rattle.qml_syntax.specs.declared.literal.Literal.TheVariants as lit
use Rattle.qml_syntax.specs.declared.operators.Assignment.TheVariants as assignment
use Rattle.qml_syntax.specs.declared.operators.Operator.TheVariants as operator
use Rattle.qml_syntax.specs.declared.operators.Postfix.TheVariants as post

-- a root that is no file
--   main.qml:
files_of_missing_root : Sources
files_of_missing_root = sources (
    held (file false (codes "main.qml")) (unread (at 1 1) cause.Syntax) ∷ [])

missing_root : told_by files_of_missing_root (codes "no.qml") ≡ refusal (codes "no.qml") (at 1 1) cause.Missing
unfolding files_of_missing_root lib.Utf8.encode
missing_root = refl

-- a module that isn't there stands before the types
--   main.qml: import QtQml 2.15 ⏎ import QtNope 1.0 ⏎ Nope { } ⏎
files_of_unknown_module : Sources
files_of_unknown_module = sources (
    held (file false (codes "main.qml")) (is_document (document (import_module (codes "QtQml") (at 1 8) ([]) version.Full None auto ∷ import_module (codes "QtNope") (at 2 8) ([]) version.Full None auto ∷ []) (object (own_type (codes "Nope") (at 3 1)) no_members))) ∷ [])

unknown_module : told_by files_of_unknown_module (codes "main.qml") ≡ refusal (codes "main.qml") (at 2 8) cause.UnknownModule
unfolding files_of_unknown_module lib.Utf8.encode
unknown_module = refl

-- a type of a module that isn't imported
--   main.qml: import QtQml 2.15 ⏎ QtObject { property var a: Item {} } ⏎
files_of_unknown_type : Sources
files_of_unknown_type = sources (
    held (file false (codes "main.qml")) (is_document (document (import_module (codes "QtQml") (at 1 8) ([]) version.Full None auto ∷ []) (object (own_type (codes "QtObject") (at 2 1)) (a_member (property (at 2 25) adjective.Ordinary kind_var (codes "a") (at 2 25) (value_object (object (own_type (codes "Item") (at 2 28)) no_members))) false no_members)))) ∷ [])

unknown_type : told_by files_of_unknown_type (codes "main.qml") ≡ refusal (codes "main.qml") (at 2 28) cause.UnknownType
unfolding files_of_unknown_type lib.Utf8.encode
unknown_type = refl

-- the first use from which the using document is reached
--   main.qml: import QtQml 2.15 ⏎ QtObject { property A a: A {} } ⏎ ; A.qml: import QtQml 2.15 ⏎ QtObject { property
--   Component k: Component { B {} } } ⏎ ; B.qml: import QtQml 2.15 ⏎ QtObject { property var a: A {} } ⏎
files_of_unit_cycle : Sources
files_of_unit_cycle = sources (
    held (file false (codes "main.qml")) (is_document (document (import_module (codes "QtQml") (at 1 8) ([]) version.Full None auto ∷ []) (object (own_type (codes "QtObject") (at 2 1)) (a_member (property (at 2 23) adjective.Ordinary (kind_name (codes "A") (at 2 21) ([])) (codes "a") (at 2 23) (value_object (object (own_type (codes "A") (at 2 26)) no_members))) false no_members)))) ∷
    held (file false (codes "A.qml")) (is_document (document (import_module (codes "QtQml") (at 1 8) ([]) version.Full None auto ∷ []) (object (own_type (codes "QtObject") (at 2 1)) (a_member (property (at 2 31) adjective.Ordinary (kind_name (codes "Component") (at 2 21) ([])) (codes "k") (at 2 31) (value_object (object (own_type (codes "Component") (at 2 34)) (a_member (child (object (own_type (codes "B") (at 2 46)) no_members)) false no_members)))) false no_members)))) ∷
    held (file false (codes "B.qml")) (is_document (document (import_module (codes "QtQml") (at 1 8) ([]) version.Full None auto ∷ []) (object (own_type (codes "QtObject") (at 2 1)) (a_member (property (at 2 25) adjective.Ordinary kind_var (codes "a") (at 2 25) (value_object (object (own_type (codes "A") (at 2 28)) no_members))) false no_members)))) ∷ [])

unit_cycle : told_by files_of_unit_cycle (codes "main.qml") ≡ refusal (codes "A.qml") (at 2 46) cause.UnitCycle
unfolding files_of_unit_cycle lib.Utf8.encode
unit_cycle = refl

-- an id twice in a component, not in another one
--   main.qml: import QtQml 2.15 ⏎ QtObject { id: a; property Component k: Component { QtObject { id: a; property var
--   o: QtObject { id: b } } } property var b: QtObject { id: b } ⏎   property var c: QtObject { id: a } } ⏎
files_of_id_twice : Sources
files_of_id_twice = sources (
    held (file false (codes "main.qml")) (is_document (document (import_module (codes "QtQml") (at 1 8) ([]) version.Full None auto ∷ []) (object (own_type (codes "QtObject") (at 2 1)) (a_member (id (at 2 12) (codes "a") (at 2 16) auto) false (a_member (property (at 2 38) adjective.Ordinary (kind_name (codes "Component") (at 2 28) ([])) (codes "k") (at 2 38) (value_object (object (own_type (codes "Component") (at 2 41)) (a_member (child (object (own_type (codes "QtObject") (at 2 53)) (a_member (id (at 2 64) (codes "a") (at 2 68) auto) false (a_member (property (at 2 84) adjective.Ordinary kind_var (codes "o") (at 2 84) (value_object (object (own_type (codes "QtObject") (at 2 87)) (a_member (id (at 2 98) (codes "b") (at 2 102) auto) false no_members)))) false no_members)))) false no_members)))) false (a_member (property (at 2 123) adjective.Ordinary kind_var (codes "b") (at 2 123) (value_object (object (own_type (codes "QtObject") (at 2 126)) (a_member (id (at 2 137) (codes "b") (at 2 141) auto) false no_members)))) false (a_member (property (at 3 16) adjective.Ordinary kind_var (codes "c") (at 3 16) (value_object (object (own_type (codes "QtObject") (at 3 19)) (a_member (id (at 3 30) (codes "a") (at 3 34) auto) false no_members)))) false no_members))))))) ∷ [])

id_twice : told_by files_of_id_twice (codes "main.qml") ≡ refusal (codes "main.qml") (at 3 34) cause.DuplicateId
unfolding files_of_id_twice lib.Utf8.encode
id_twice = refl

-- a name that the type has
--   main.qml: import QtQml 2.15 ⏎ QtObject { property int objectName } ⏎
files_of_name_of_the_type : Sources
files_of_name_of_the_type = sources (
    held (file false (codes "main.qml")) (is_document (document (import_module (codes "QtQml") (at 1 8) ([]) version.Full None auto ∷ []) (object (own_type (codes "QtObject") (at 2 1)) (a_member (bare (at 2 25) adjective.Ordinary (kind_name (codes "int") (at 2 21) ([])) (codes "objectName") (at 2 25) auto) false no_members)))) ∷ [])

name_of_the_type : told_by files_of_name_of_the_type (codes "main.qml") ≡ refusal (codes "main.qml") (at 2 25) cause.DuplicateName
unfolding files_of_name_of_the_type lib.Utf8.encode
name_of_the_type = refl

-- the name of the signal of a property's changes
--   main.qml: import QtQml 2.15 ⏎ QtObject { property int a; signal aChanged() } ⏎
files_of_name_of_a_change : Sources
files_of_name_of_a_change = sources (
    held (file false (codes "main.qml")) (is_document (document (import_module (codes "QtQml") (at 1 8) ([]) version.Full None auto ∷ []) (object (own_type (codes "QtObject") (at 2 1)) (a_member (bare (at 2 25) adjective.Ordinary (kind_name (codes "int") (at 2 21) ([])) (codes "a") (at 2 25) auto) false (a_member (signal (at 2 35) (codes "aChanged") (at 2 35) (Some no_signal_pars) auto) false no_members))))) ∷ [])

name_of_a_change : told_by files_of_name_of_a_change (codes "main.qml") ≡ refusal (codes "main.qml") (at 2 35) cause.DuplicateName
unfolding files_of_name_of_a_change lib.Utf8.encode
name_of_a_change = refl

-- a second value, at the first token of its path
--   main.qml: import QtQml 2.15 ⏎ QtObject { property int a: 1; objectName: "x"; a: 2 } ⏎
files_of_second_value : Sources
files_of_second_value = sources (
    held (file false (codes "main.qml")) (is_document (document (import_module (codes "QtQml") (at 1 8) ([]) version.Full None auto ∷ []) (object (own_type (codes "QtObject") (at 2 1)) (a_member (property (at 2 25) adjective.Ordinary (kind_name (codes "int") (at 2 21) ([])) (codes "a") (at 2 25) (value_stmt (expr (number 1 (at 2 28)) auto))) false (a_member (given (codes "objectName") (at 2 31) ([]) (value_stmt (expr (text (codes "x") (at 2 43)) auto))) false (a_member (given (codes "a") (at 2 48) ([]) (value_stmt (expr (number 2 (at 2 51)) auto))) false no_members)))))) ∷ [])

second_value : told_by files_of_second_value (codes "main.qml") ≡ refusal (codes "main.qml") (at 2 48) cause.DuplicateName
unfolding files_of_second_value lib.Utf8.encode
second_value = refl

-- a second value that is a child object, at its type's name
--   main.qml: import QtQuick 2.15 ⏎ Repeater { delegate: Item {} Item {} } ⏎
files_of_second_value_as_child : Sources
files_of_second_value_as_child = sources (
    held (file false (codes "main.qml")) (is_document (document (import_module (codes "QtQuick") (at 1 8) ([]) version.Full None auto ∷ []) (object (own_type (codes "Repeater") (at 2 1)) (a_member (given (codes "delegate") (at 2 12) ([]) (value_object (object (own_type (codes "Item") (at 2 22)) no_members))) false (a_member (child (object (own_type (codes "Item") (at 2 30)) no_members)) false no_members))))) ∷ [])

second_value_as_child : told_by files_of_second_value_as_child (codes "main.qml") ≡ refusal (codes "main.qml") (at 2 30) cause.DuplicateName
unfolding files_of_second_value_as_child lib.Utf8.encode
second_value_as_child = refl

-- a second id of one object, at the word
--   main.qml: import QtQml 2.15 ⏎ QtObject { id: a; id: b } ⏎
files_of_second_id : Sources
files_of_second_id = sources (
    held (file false (codes "main.qml")) (is_document (document (import_module (codes "QtQml") (at 1 8) ([]) version.Full None auto ∷ []) (object (own_type (codes "QtObject") (at 2 1)) (a_member (id (at 2 12) (codes "a") (at 2 16) auto) false (a_member (id (at 2 19) (codes "b") (at 2 23) auto) false no_members))))) ∷ [])

second_id : told_by files_of_second_id (codes "main.qml") ≡ refusal (codes "main.qml") (at 2 19) cause.DuplicateName
unfolding files_of_second_id lib.Utf8.encode
second_id = refl

-- a handler of no signal
--   main.qml: import QtQml 2.15 ⏎ QtObject { onNix: 1 } ⏎
files_of_unknown_handler : Sources
files_of_unknown_handler = sources (
    held (file false (codes "main.qml")) (is_document (document (import_module (codes "QtQml") (at 1 8) ([]) version.Full None auto ∷ []) (object (own_type (codes "QtObject") (at 2 1)) (a_member (given (codes "onNix") (at 2 12) ([]) (value_stmt (expr (number 1 (at 2 19)) auto))) false no_members)))) ∷ [])

unknown_handler : told_by files_of_unknown_handler (codes "main.qml") ≡ refusal (codes "main.qml") (at 2 12) cause.UnknownProperty
unfolding files_of_unknown_handler lib.Utf8.encode
unknown_handler = refl

-- a child of an object that takes none
--   main.qml: import QtQml 2.15 ⏎ Timer { QtObject {} } ⏎
files_of_no_default_property : Sources
files_of_no_default_property = sources (
    held (file false (codes "main.qml")) (is_document (document (import_module (codes "QtQml") (at 1 8) ([]) version.Full None auto ∷ []) (object (own_type (codes "Timer") (at 2 1)) (a_member (child (object (own_type (codes "QtObject") (at 2 9)) no_members)) false no_members)))) ∷ [])

no_default_property : told_by files_of_no_default_property (codes "main.qml") ≡ refusal (codes "main.qml") (at 2 9) cause.UnknownProperty
unfolding files_of_no_default_property lib.Utf8.encode
no_default_property = refl

-- a group under a name that is no alias of a whole object
--   main.qml: import QtQml 2.15 ⏎ QtObject { property QtObject o; o.objectName: "x" } ⏎
files_of_group_of_no_object : Sources
files_of_group_of_no_object = sources (
    held (file false (codes "main.qml")) (is_document (document (import_module (codes "QtQml") (at 1 8) ([]) version.Full None auto ∷ []) (object (own_type (codes "QtObject") (at 2 1)) (a_member (bare (at 2 30) adjective.Ordinary (kind_name (codes "QtObject") (at 2 21) ([])) (codes "o") (at 2 30) auto) false (a_member (given (codes "o") (at 2 33) ((codes "objectName") ∷ []) (value_stmt (expr (text (codes "x") (at 2 47)) auto))) false no_members))))) ∷ [])

group_of_no_object : told_by files_of_group_of_no_object (codes "main.qml") ≡ refusal (codes "main.qml") (at 2 33) cause.UnknownProperty
unfolding files_of_group_of_no_object lib.Utf8.encode
group_of_no_object = refl

-- a value for what the engine alone writes
--   main.qml: import QtQuick 2.15 ⏎ Item { parent: null } ⏎
files_of_readonly_of_the_engine : Sources
files_of_readonly_of_the_engine = sources (
    held (file false (codes "main.qml")) (is_document (document (import_module (codes "QtQuick") (at 1 8) ([]) version.Full None auto ∷ []) (object (own_type (codes "Item") (at 2 1)) (a_member (given (codes "parent") (at 2 8) ([]) (value_stmt (expr (literal lit.Null (at 2 16)) auto))) false no_members)))) ∷ [])

readonly_of_the_engine : told_by files_of_readonly_of_the_engine (codes "main.qml") ≡ refusal (codes "main.qml") (at 2 8) cause.ReadOnly
unfolding files_of_readonly_of_the_engine lib.Utf8.encode
readonly_of_the_engine = refl

-- a value for a readonly property of a type's document
--   main.qml: import QtQml 2.15 ⏎ A { a: 2 } ⏎ ; A.qml: import QtQml 2.15 ⏎ QtObject { readonly property int a: 1 }
--   ⏎
files_of_readonly_of_a_type : Sources
files_of_readonly_of_a_type = sources (
    held (file false (codes "main.qml")) (is_document (document (import_module (codes "QtQml") (at 1 8) ([]) version.Full None auto ∷ []) (object (own_type (codes "A") (at 2 1)) (a_member (given (codes "a") (at 2 5) ([]) (value_stmt (expr (number 2 (at 2 8)) auto))) false no_members)))) ∷
    held (file false (codes "A.qml")) (is_document (document (import_module (codes "QtQml") (at 1 8) ([]) version.Full None auto ∷ []) (object (own_type (codes "QtObject") (at 2 1)) (a_member (property (at 2 34) adjective.ReadOnly (kind_name (codes "int") (at 2 30) ([])) (codes "a") (at 2 34) (value_stmt (expr (number 1 (at 2 37)) auto))) false no_members)))) ∷ [])

readonly_of_a_type : told_by files_of_readonly_of_a_type (codes "main.qml") ≡ refusal (codes "main.qml") (at 2 5) cause.ReadOnly
unfolding files_of_readonly_of_a_type lib.Utf8.encode
readonly_of_a_type = refl

-- a literal property may be given over the type's literal
--   main.qml: import QtQuick 2.15 ⏎ Item { states: A { name: "mine" } } ⏎ ; A.qml: import QtQuick 2.15 ⏎ State {
--   name: "theirs" } ⏎
files_of_literal_again : Sources
files_of_literal_again = sources (
    held (file false (codes "main.qml")) (is_document (document (import_module (codes "QtQuick") (at 1 8) ([]) version.Full None auto ∷ []) (object (own_type (codes "Item") (at 2 1)) (a_member (given (codes "states") (at 2 8) ([]) (value_object (object (own_type (codes "A") (at 2 16)) (a_member (given (codes "name") (at 2 20) ([]) (value_stmt (expr (text (codes "mine") (at 2 26)) auto))) false no_members)))) false no_members)))) ∷
    held (file false (codes "A.qml")) (is_document (document (import_module (codes "QtQuick") (at 1 8) ([]) version.Full None auto ∷ []) (object (own_type (codes "State") (at 2 1)) (a_member (given (codes "name") (at 2 9) ([]) (value_stmt (expr (text (codes "theirs") (at 2 15)) auto))) false no_members)))) ∷ [])

literal_again : told_by files_of_literal_again (codes "main.qml") ≡ accepted
unfolding files_of_literal_again lib.Utf8.encode
literal_again = refl

-- a literal is asked for
--   main.qml: import QtQuick 2.15 ⏎ Item { states: State { name: "a" + 1 } } ⏎
files_of_literal_wanted : Sources
files_of_literal_wanted = sources (
    held (file false (codes "main.qml")) (is_document (document (import_module (codes "QtQuick") (at 1 8) ([]) version.Full None auto ∷ []) (object (own_type (codes "Item") (at 2 1)) (a_member (given (codes "states") (at 2 8) ([]) (value_object (object (own_type (codes "State") (at 2 16)) (a_member (given (codes "name") (at 2 24) ([]) (value_stmt (expr (chain (text (codes "a") (at 2 30)) operator.Plus (at 2 30) (number 1 (at 2 36)) no_links) auto))) false no_members)))) false no_members)))) ∷ [])

literal_wanted : told_by files_of_literal_wanted (codes "main.qml") ≡ refusal (codes "main.qml") (at 2 30) cause.NotLiteral
unfolding files_of_literal_wanted lib.Utf8.encode
literal_wanted = refl

-- the value of a role that is no literal
--   main.qml: import QtQml.Models 2.15 ⏎ ListModel { ListElement { a: 1; b: [1] } } ⏎
files_of_literal_wanted_in_a_row : Sources
files_of_literal_wanted_in_a_row = sources (
    held (file false (codes "main.qml")) (is_document (document (import_module (codes "QtQml") (at 1 8) ((codes "Models") ∷ []) version.Full None auto ∷ []) (object (own_type (codes "ListModel") (at 2 1)) (a_member (child (object (own_type (codes "ListElement") (at 2 13)) (a_member (given (codes "a") (at 2 27) ([]) (value_stmt (expr (number 1 (at 2 30)) auto))) false (a_member (given (codes "b") (at 2 33) ([]) (value_stmt (expr (list (at 2 36) (an_expr (number 1 (at 2 37)) no_exprs) false) auto))) false no_members)))) false no_members)))) ∷ [])

literal_wanted_in_a_row : told_by files_of_literal_wanted_in_a_row (codes "main.qml") ≡ refusal (codes "main.qml") (at 2 36) cause.NotLiteral
unfolding files_of_literal_wanted_in_a_row lib.Utf8.encode
literal_wanted_in_a_row = refl

-- a literal of a kind that has no conversion; a text takes a number, a bool takes null
--   main.qml: import QtQml 2.15 ⏎ QtObject { property string s: 1; property bool b: null; property int i: true } ⏎
files_of_bad_literal : Sources
files_of_bad_literal = sources (
    held (file false (codes "main.qml")) (is_document (document (import_module (codes "QtQml") (at 1 8) ([]) version.Full None auto ∷ []) (object (own_type (codes "QtObject") (at 2 1)) (a_member (property (at 2 28) adjective.Ordinary (kind_name (codes "string") (at 2 21) ([])) (codes "s") (at 2 28) (value_stmt (expr (number 1 (at 2 31)) auto))) false (a_member (property (at 2 48) adjective.Ordinary (kind_name (codes "bool") (at 2 43) ([])) (codes "b") (at 2 48) (value_stmt (expr (literal lit.Null (at 2 51)) auto))) false (a_member (property (at 2 70) adjective.Ordinary (kind_name (codes "int") (at 2 66) ([])) (codes "i") (at 2 70) (value_stmt (expr (literal lit.True (at 2 73)) auto))) false no_members)))))) ∷ [])

bad_literal : told_by files_of_bad_literal (codes "main.qml") ≡ refusal (codes "main.qml") (at 2 73) cause.BadKind
unfolding files_of_bad_literal lib.Utf8.encode
bad_literal = refl

-- an object of a type that the list doesn't take, at that object
--   main.qml: import QtQuick 2.15 ⏎ Item { property list<Item> l: [ Item {}, Repeater {}, QtObject {} ] } ⏎
files_of_bad_object : Sources
files_of_bad_object = sources (
    held (file false (codes "main.qml")) (is_document (document (import_module (codes "QtQuick") (at 1 8) ([]) version.Full None auto ∷ []) (object (own_type (codes "Item") (at 2 1)) (a_member (property (at 2 28) adjective.Ordinary (kind_list (codes "Item") (at 2 22)) (codes "l") (at 2 28) (value_list (at 2 31) (an_object (object (own_type (codes "Item") (at 2 33)) no_members) (an_object (object (own_type (codes "Repeater") (at 2 42)) no_members) (last_object (object (own_type (codes "QtObject") (at 2 55)) no_members)))))) false no_members)))) ∷ [])

bad_object : told_by files_of_bad_object (codes "main.qml") ≡ refusal (codes "main.qml") (at 2 55) cause.BadKind
unfolding files_of_bad_object lib.Utf8.encode
bad_object = refl

-- a role of another kind than its first value has; null has the kind of objects
--   main.qml: import QtQml.Models 2.15 ⏎ ListModel { ListElement { a: 1; n: null } ListElement { n: null; a: "1" } }
--   ⏎
files_of_bad_role : Sources
files_of_bad_role = sources (
    held (file false (codes "main.qml")) (is_document (document (import_module (codes "QtQml") (at 1 8) ((codes "Models") ∷ []) version.Full None auto ∷ []) (object (own_type (codes "ListModel") (at 2 1)) (a_member (child (object (own_type (codes "ListElement") (at 2 13)) (a_member (given (codes "a") (at 2 27) ([]) (value_stmt (expr (number 1 (at 2 30)) auto))) false (a_member (given (codes "n") (at 2 33) ([]) (value_stmt (expr (literal lit.Null (at 2 36)) auto))) false no_members)))) false (a_member (child (object (own_type (codes "ListElement") (at 2 43)) (a_member (given (codes "n") (at 2 57) ([]) (value_stmt (expr (literal lit.Null (at 2 60)) auto))) false (a_member (given (codes "a") (at 2 66) ([]) (value_stmt (expr (text (codes "1") (at 2 69)) auto))) false no_members)))) false no_members))))) ∷ [])

bad_role : told_by files_of_bad_role (codes "main.qml") ≡ refusal (codes "main.qml") (at 2 69) cause.BadKind
unfolding files_of_bad_role lib.Utf8.encode
bad_role = refl

-- an object for a handler
--   main.qml: import QtQml 2.15 ⏎ QtObject { signal go(); onGo: QtObject {} } ⏎
files_of_object_for_a_handler : Sources
files_of_object_for_a_handler = sources (
    held (file false (codes "main.qml")) (is_document (document (import_module (codes "QtQml") (at 1 8) ([]) version.Full None auto ∷ []) (object (own_type (codes "QtObject") (at 2 1)) (a_member (signal (at 2 12) (codes "go") (at 2 19) (Some no_signal_pars) auto) false (a_member (given (codes "onGo") (at 2 25) ([]) (value_object (object (own_type (codes "QtObject") (at 2 31)) no_members))) false no_members))))) ∷ [])

object_for_a_handler : told_by files_of_object_for_a_handler (codes "main.qml") ≡ refusal (codes "main.qml") (at 2 31) cause.BadKind
unfolding files_of_object_for_a_handler lib.Utf8.encode
object_for_a_handler = refl

-- a ListElement in an Item
--   main.qml: import QtQuick 2.15 ⏎ Item { ListElement {} } ⏎
files_of_element_elsewhere : Sources
files_of_element_elsewhere = sources (
    held (file false (codes "main.qml")) (is_document (document (import_module (codes "QtQuick") (at 1 8) ([]) version.Full None auto ∷ []) (object (own_type (codes "Item") (at 2 1)) (a_member (child (object (own_type (codes "ListElement") (at 2 8)) no_members)) false no_members)))) ∷ [])

element_elsewhere : told_by files_of_element_elsewhere (codes "main.qml") ≡ refusal (codes "main.qml") (at 2 8) cause.BadKind
unfolding files_of_element_elsewhere lib.Utf8.encode
element_elsewhere = refl

-- an alias of a signal
--   main.qml: import QtQml 2.15 ⏎ QtObject { id: root; signal go(); property alias a: root.objectName; property
--   alias b: root.go } ⏎
files_of_bad_alias : Sources
files_of_bad_alias = sources (
    held (file false (codes "main.qml")) (is_document (document (import_module (codes "QtQml") (at 1 8) ([]) version.Full None auto ∷ []) (object (own_type (codes "QtObject") (at 2 1)) (a_member (id (at 2 12) (codes "root") (at 2 16) auto) false (a_member (signal (at 2 29) (codes "go") (at 2 29) (Some no_signal_pars) auto) false (a_member (alias (at 2 50) false (codes "a") (at 2 50) (codes "root") (at 2 53) ((codes "objectName") ∷ []) auto) false (a_member (alias (at 2 85) false (codes "b") (at 2 85) (codes "root") (at 2 88) ((codes "go") ∷ []) auto) false no_members))))))) ∷ [])

bad_alias : told_by files_of_bad_alias (codes "main.qml") ≡ refusal (codes "main.qml") (at 2 88) cause.BadAlias
unfolding files_of_bad_alias lib.Utf8.encode
bad_alias = refl

-- aliases that name one another, at the name of the first; the one that leads there is none of them
--   main.qml: import QtQml 2.15 ⏎ QtObject { id: root; property alias c: root.a; property alias a: root.b; property
--   alias b: root.a } ⏎
files_of_alias_cycle : Sources
files_of_alias_cycle = sources (
    held (file false (codes "main.qml")) (is_document (document (import_module (codes "QtQml") (at 1 8) ([]) version.Full None auto ∷ []) (object (own_type (codes "QtObject") (at 2 1)) (a_member (id (at 2 12) (codes "root") (at 2 16) auto) false (a_member (alias (at 2 37) false (codes "c") (at 2 37) (codes "root") (at 2 40) ((codes "a") ∷ []) auto) false (a_member (alias (at 2 63) false (codes "a") (at 2 63) (codes "root") (at 2 66) ((codes "b") ∷ []) auto) false (a_member (alias (at 2 89) false (codes "b") (at 2 89) (codes "root") (at 2 92) ((codes "a") ∷ []) auto) false no_members))))))) ∷ [])

alias_cycle : told_by files_of_alias_cycle (codes "main.qml") ≡ refusal (codes "main.qml") (at 2 63) cause.AliasCycle
unfolding files_of_alias_cycle lib.Utf8.encode
alias_cycle = refl

-- a PropertyChanges without a target, at its type's name
--   main.qml: import QtQuick 2.15 ⏎ Item { states: State { PropertyChanges { x: 1 } } } ⏎
files_of_no_target : Sources
files_of_no_target = sources (
    held (file false (codes "main.qml")) (is_document (document (import_module (codes "QtQuick") (at 1 8) ([]) version.Full None auto ∷ []) (object (own_type (codes "Item") (at 2 1)) (a_member (given (codes "states") (at 2 8) ([]) (value_object (object (own_type (codes "State") (at 2 16)) (a_member (child (object (own_type (codes "PropertyChanges") (at 2 24)) (a_member (given (codes "x") (at 2 42) ([]) (value_stmt (expr (number 1 (at 2 45)) auto))) false no_members))) false no_members)))) false no_members)))) ∷ [])

no_target : told_by files_of_no_target (codes "main.qml") ≡ refusal (codes "main.qml") (at 2 24) cause.BadTarget
unfolding files_of_no_target lib.Utf8.encode
no_target = refl

-- a target that is no id
--   main.qml: import QtQuick 2.15 ⏎ Item { id: root; property Item p; states: State { PropertyChanges { target: p;
--   x: 1 } } } ⏎
files_of_target_no_id : Sources
files_of_target_no_id = sources (
    held (file false (codes "main.qml")) (is_document (document (import_module (codes "QtQuick") (at 1 8) ([]) version.Full None auto ∷ []) (object (own_type (codes "Item") (at 2 1)) (a_member (id (at 2 8) (codes "root") (at 2 12) auto) false (a_member (bare (at 2 32) adjective.Ordinary (kind_name (codes "Item") (at 2 27) ([])) (codes "p") (at 2 32) auto) false (a_member (given (codes "states") (at 2 35) ([]) (value_object (object (own_type (codes "State") (at 2 43)) (a_member (child (object (own_type (codes "PropertyChanges") (at 2 51)) (a_member (given (codes "target") (at 2 69) ([]) (value_stmt (expr (name (codes "p") (at 2 77)) auto))) false (a_member (given (codes "x") (at 2 80) ([]) (value_stmt (expr (number 1 (at 2 83)) auto))) false no_members)))) false no_members)))) false no_members)))))) ∷ [])

target_no_id : told_by files_of_target_no_id (codes "main.qml") ≡ refusal (codes "main.qml") (at 2 77) cause.BadTarget
unfolding files_of_target_no_id lib.Utf8.encode
target_no_id = refl

-- an `extend` that names no State of the list; an empty one names none and is none
--   main.qml: import QtQuick 2.15 ⏎ Item { states: [ State { name: "a"; extend: "" }, State { name: "b"; extend: "c"
--   } ] } ⏎
files_of_unknown_state : Sources
files_of_unknown_state = sources (
    held (file false (codes "main.qml")) (is_document (document (import_module (codes "QtQuick") (at 1 8) ([]) version.Full None auto ∷ []) (object (own_type (codes "Item") (at 2 1)) (a_member (given (codes "states") (at 2 8) ([]) (value_list (at 2 16) (an_object (object (own_type (codes "State") (at 2 18)) (a_member (given (codes "name") (at 2 26) ([]) (value_stmt (expr (text (codes "a") (at 2 32)) auto))) false (a_member (given (codes "extend") (at 2 37) ([]) (value_stmt (expr (text [] (at 2 45)) auto))) false no_members))) (last_object (object (own_type (codes "State") (at 2 51)) (a_member (given (codes "name") (at 2 59) ([]) (value_stmt (expr (text (codes "b") (at 2 65)) auto))) false (a_member (given (codes "extend") (at 2 70) ([]) (value_stmt (expr (text (codes "c") (at 2 78)) auto))) false no_members))))))) false no_members)))) ∷ [])

unknown_state : told_by files_of_unknown_state (codes "main.qml") ≡ refusal (codes "main.qml") (at 2 78) cause.UnknownState
unfolding files_of_unknown_state lib.Utf8.encode
unknown_state = refl

-- a State that extends itself through another one; the first of a name counts
--   main.qml: import QtQuick 2.15 ⏎ Item { states: [ State { name: "x"; extend: "a" }, State { name: "a"; extend:
--   "b" }, State { name: "b"; extend: "a" }, State { name: "a" } ] } ⏎
files_of_extend_cycle : Sources
files_of_extend_cycle = sources (
    held (file false (codes "main.qml")) (is_document (document (import_module (codes "QtQuick") (at 1 8) ([]) version.Full None auto ∷ []) (object (own_type (codes "Item") (at 2 1)) (a_member (given (codes "states") (at 2 8) ([]) (value_list (at 2 16) (an_object (object (own_type (codes "State") (at 2 18)) (a_member (given (codes "name") (at 2 26) ([]) (value_stmt (expr (text (codes "x") (at 2 32)) auto))) false (a_member (given (codes "extend") (at 2 37) ([]) (value_stmt (expr (text (codes "a") (at 2 45)) auto))) false no_members))) (an_object (object (own_type (codes "State") (at 2 52)) (a_member (given (codes "name") (at 2 60) ([]) (value_stmt (expr (text (codes "a") (at 2 66)) auto))) false (a_member (given (codes "extend") (at 2 71) ([]) (value_stmt (expr (text (codes "b") (at 2 79)) auto))) false no_members))) (an_object (object (own_type (codes "State") (at 2 86)) (a_member (given (codes "name") (at 2 94) ([]) (value_stmt (expr (text (codes "b") (at 2 100)) auto))) false (a_member (given (codes "extend") (at 2 105) ([]) (value_stmt (expr (text (codes "a") (at 2 113)) auto))) false no_members))) (last_object (object (own_type (codes "State") (at 2 120)) (a_member (given (codes "name") (at 2 128) ([]) (value_stmt (expr (text (codes "a") (at 2 134)) auto))) false no_members)))))))) false no_members)))) ∷ [])

extend_cycle : told_by files_of_extend_cycle (codes "main.qml") ≡ refusal (codes "main.qml") (at 2 79) cause.ExtendCycle
unfolding files_of_extend_cycle lib.Utf8.encode
extend_cycle = refl

-- a `Qt.binding` for a local
--   main.qml: import QtQml 2.15 ⏎ QtObject { property int a; function f() { var x = Qt.binding(function() { return 1
--   }) } } ⏎
files_of_binding_for_a_local : Sources
files_of_binding_for_a_local = sources (
    held (file false (codes "main.qml")) (is_document (document (import_module (codes "QtQml") (at 1 8) ([]) version.Full None auto ∷ []) (object (own_type (codes "QtObject") (at 2 1)) (a_member (bare (at 2 25) adjective.Ordinary (kind_name (codes "int") (at 2 21) ([])) (codes "a") (at 2 25) auto) false (a_member (method (function (at 2 28) (codes "f") (at 2 37) no_pars None (a_stmt (declare (at 2 43) decl.Var (last_var (codes "x") (at 2 43) (just (steps (name (codes "Qt") (at 2 51)) (member (codes "binding") (at 2 54)) (a_step (binding (at 2 61) (a_stmt (give (at 2 75) (just (number 1 (at 2 82))) auto) no_stmts)) no_steps)))) auto) no_stmts))) false no_members))))) ∷ [])

binding_for_a_local : told_by files_of_binding_for_a_local (codes "main.qml") ≡ refusal (codes "main.qml") (at 2 51) cause.BadBinding
unfolding files_of_binding_for_a_local lib.Utf8.encode
binding_for_a_local = refl

-- a `Qt.binding` whose function names a parameter around it
--   main.qml: import QtQml 2.15 ⏎ QtObject { property int a; function f(p) { a = Qt.binding(function() { var p = 1;
--   return p }); a = Qt.binding(function() { return p }) } } ⏎
files_of_binding_names_a_parameter : Sources
files_of_binding_names_a_parameter = sources (
    held (file false (codes "main.qml")) (is_document (document (import_module (codes "QtQml") (at 1 8) ([]) version.Full None auto ∷ []) (object (own_type (codes "QtObject") (at 2 1)) (a_member (bare (at 2 25) adjective.Ordinary (kind_name (codes "int") (at 2 21) ([])) (codes "a") (at 2 25) auto) false (a_member (method (function (at 2 28) (codes "f") (at 2 37) (a_par (codes "p") None no_pars) None (a_stmt (expr (assign (name (codes "a") (at 2 44)) assignment.Plain (at 2 46) no_targets (steps (name (codes "Qt") (at 2 48)) (member (codes "binding") (at 2 51)) (a_step (binding (at 2 58) (a_stmt (declare (at 2 72) decl.Var (last_var (codes "p") (at 2 72) (just (number 1 (at 2 80)))) auto) (a_stmt (give (at 2 83) (just (name (codes "p") (at 2 90))) auto) no_stmts))) no_steps))) auto) (a_stmt (expr (assign (name (codes "a") (at 2 96)) assignment.Plain (at 2 98) no_targets (steps (name (codes "Qt") (at 2 100)) (member (codes "binding") (at 2 103)) (a_step (binding (at 2 110) (a_stmt (give (at 2 124) (just (name (codes "p") (at 2 131))) auto) no_stmts)) no_steps))) auto) no_stmts)))) false no_members))))) ∷ [])

binding_names_a_parameter : told_by files_of_binding_names_a_parameter (codes "main.qml") ≡ refusal (codes "main.qml") (at 2 100) cause.BadBinding
unfolding files_of_binding_names_a_parameter lib.Utf8.encode
binding_names_a_parameter = refl

-- a `Qt.binding` in an imported script
--   main.qml: import QtQml 2.15 ⏎ import "f.js" as F ⏎ QtObject { } ⏎ ; f.js: function f(o) { o.x =
--   Qt.binding(function() { return 1 }) } ⏎
files_of_binding_in_a_script : Sources
files_of_binding_in_a_script = sources (
    held (file false (codes "main.qml")) (is_document (document (import_module (codes "QtQml") (at 1 8) ([]) version.Full None auto ∷ import_text (codes "f.js") (at 2 8) (Some (codes "F")) auto ∷ []) (object (own_type (codes "QtObject") (at 3 1)) no_members))) ∷
    held (file true (codes "f.js")) (is_script (script false ((function (at 1 1) (codes "f") (at 1 10) (a_par (codes "o") None no_pars) None (a_stmt (expr (assign (steps (name (codes "o") (at 1 17)) (member (codes "x") (at 1 19)) no_steps) assignment.Plain (at 1 21) no_targets (steps (name (codes "Qt") (at 1 23)) (member (codes "binding") (at 1 26)) (a_step (binding (at 1 33) (a_stmt (give (at 1 47) (just (number 1 (at 1 54))) auto) no_stmts)) no_steps))) auto) no_stmts)) ∷ []))) ∷ [])

binding_in_a_script : told_by files_of_binding_in_a_script (codes "main.qml") ≡ refusal (codes "f.js") (at 1 23) cause.BadBinding
unfolding files_of_binding_in_a_script lib.Utf8.encode
binding_in_a_script = refl

-- an effect in the function of a `Qt.binding`
--   main.qml: import QtQml 2.15 ⏎ QtObject { property int a; function f() { a = Qt.binding(function() { return a++
--   }) } } ⏎
files_of_effect_in_a_binding : Sources
files_of_effect_in_a_binding = sources (
    held (file false (codes "main.qml")) (is_document (document (import_module (codes "QtQml") (at 1 8) ([]) version.Full None auto ∷ []) (object (own_type (codes "QtObject") (at 2 1)) (a_member (bare (at 2 25) adjective.Ordinary (kind_name (codes "int") (at 2 21) ([])) (codes "a") (at 2 25) auto) false (a_member (method (function (at 2 28) (codes "f") (at 2 37) no_pars None (a_stmt (expr (assign (name (codes "a") (at 2 43)) assignment.Plain (at 2 45) no_targets (steps (name (codes "Qt") (at 2 47)) (member (codes "binding") (at 2 50)) (a_step (binding (at 2 57) (a_stmt (give (at 2 71) (just (bumped (name (codes "a") (at 2 78)) post.Increment (at 2 79))) auto) no_stmts)) no_steps))) auto) no_stmts))) false no_members))))) ∷ [])

effect_in_a_binding : told_by files_of_effect_in_a_binding (codes "main.qml") ≡ refusal (codes "main.qml") (at 2 79) cause.SideEffect
unfolding files_of_effect_in_a_binding lib.Utf8.encode
effect_in_a_binding = refl

-- a binding whose function comes to an effect through another one
--   import QtQuick 2.15 ⏎ QtObject { property int y; function f() { return g() } function g() { y = 1 } property int
--   a: f() }
files_of_effect_through_functions : Sources
files_of_effect_through_functions = sources (held (file false (codes "main.qml")) (is_document (document (import_module (codes "QtQuick") (at 1 8) ([]) version.Full None auto ∷ []) (object (own_type (codes "QtObject") (at 2 1)) (a_member (bare (at 2 12) adjective.Ordinary (kind_name (codes "int") (at 2 21) ([])) (codes "y") (at 2 25) auto) false (a_member (method (function (at 2 28) (codes "f") (at 2 37) no_pars None (a_stmt (give (at 2 43) (just (steps (name (codes "g") (at 2 50)) (call (at 2 51) no_exprs) no_steps)) auto) no_stmts))) false (a_member (method (function (at 2 56) (codes "g") (at 2 65) no_pars None (a_stmt (expr (assign (name (codes "y") (at 2 71)) assignment.Plain (at 2 73) no_targets (number 1 (at 2 75))) auto) no_stmts))) false (a_member (property (at 2 79) adjective.Ordinary (kind_name (codes "int") (at 2 88) ([])) (codes "a") (at 2 92) (value_stmt (expr (steps (name (codes "f") (at 2 95)) (call (at 2 96) no_exprs) no_steps) auto))) false no_members))))))) ∷ [])

effect_through_functions : told_by files_of_effect_through_functions (codes "main.qml") ≡ refusal (codes "main.qml") (at 2 95) cause.SideEffect
unfolding files_of_effect_through_functions lib.Utf8.encode
effect_through_functions = refl

-- functions that call one another and have no effect are pure
--   import QtQuick 2.15 ⏎ QtObject { function f(n) { return g(n) } function g(n) { return f(n) } property int a:
--   f(1) }
files_of_pure_circle : Sources
files_of_pure_circle = sources (held (file false (codes "main.qml")) (is_document (document (import_module (codes "QtQuick") (at 1 8) ([]) version.Full None auto ∷ []) (object (own_type (codes "QtObject") (at 2 1)) (a_member (method (function (at 2 12) (codes "f") (at 2 21) (a_par (codes "n") None no_pars) None (a_stmt (give (at 2 28) (just (steps (name (codes "g") (at 2 35)) (call (at 2 36) (an_expr (name (codes "n") (at 2 37)) no_exprs)) no_steps)) auto) no_stmts))) false (a_member (method (function (at 2 42) (codes "g") (at 2 51) (a_par (codes "n") None no_pars) None (a_stmt (give (at 2 58) (just (steps (name (codes "f") (at 2 65)) (call (at 2 66) (an_expr (name (codes "n") (at 2 67)) no_exprs)) no_steps)) auto) no_stmts))) false (a_member (property (at 2 72) adjective.Ordinary (kind_name (codes "int") (at 2 81) ([])) (codes "a") (at 2 85) (value_stmt (expr (steps (name (codes "f") (at 2 88)) (call (at 2 89) (an_expr (number 1 (at 2 90)) no_exprs)) no_steps) auto))) false no_members)))))) ∷ [])

pure_circle : told_by files_of_pure_circle (codes "main.qml") ≡ accepted
unfolding files_of_pure_circle lib.Utf8.encode
pure_circle = refl

-- of several faults that with the least place
--   main.qml: import QtQml 2.15 ⏎ QtObject { property int a: a = 1 ⏎   nix: 2 ⏎   property int a: 3 } ⏎
files_of_least_place : Sources
files_of_least_place = sources (
    held (file false (codes "main.qml")) (is_document (document (import_module (codes "QtQml") (at 1 8) ([]) version.Full None auto ∷ []) (object (own_type (codes "QtObject") (at 2 1)) (a_member (property (at 2 25) adjective.Ordinary (kind_name (codes "int") (at 2 21) ([])) (codes "a") (at 2 25) (value_stmt (expr (assign (name (codes "a") (at 2 28)) assignment.Plain (at 2 30) no_targets (number 1 (at 2 32))) auto))) false (a_member (given (codes "nix") (at 3 3) ([]) (value_stmt (expr (number 2 (at 3 8)) auto))) false (a_member (property (at 4 16) adjective.Ordinary (kind_name (codes "int") (at 4 12) ([])) (codes "a") (at 4 16) (value_stmt (expr (number 3 (at 4 19)) auto))) false no_members)))))) ∷ [])

least_place : told_by files_of_least_place (codes "main.qml") ≡ refusal (codes "main.qml") (at 2 30) cause.SideEffect
unfolding files_of_least_place lib.Utf8.encode
least_place = refl

-- of two causes at one place the first of their order
--   main.qml: import QtQml 2.15 ⏎ QtObject { readonly property int a: 1; a: 2 } ⏎
files_of_first_cause : Sources
files_of_first_cause = sources (
    held (file false (codes "main.qml")) (is_document (document (import_module (codes "QtQml") (at 1 8) ([]) version.Full None auto ∷ []) (object (own_type (codes "QtObject") (at 2 1)) (a_member (property (at 2 34) adjective.ReadOnly (kind_name (codes "int") (at 2 30) ([])) (codes "a") (at 2 34) (value_stmt (expr (number 1 (at 2 37)) auto))) false (a_member (given (codes "a") (at 2 40) ([]) (value_stmt (expr (number 2 (at 2 43)) auto))) false no_members))))) ∷ [])

first_cause : told_by files_of_first_cause (codes "main.qml") ≡ refusal (codes "main.qml") (at 2 40) cause.DuplicateName
unfolding files_of_first_cause lib.Utf8.encode
first_cause = refl

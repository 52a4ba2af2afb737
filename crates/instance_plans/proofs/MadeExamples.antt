-- What is made of small documents: the objects in order, with what each cell contains and holds at first.
use Rattle.std.specs.Prelude.{◌≡◌, refl, ℕ, pos, neg_ℤ, true, false, [], ◌∷◌, Some, None, codes}
use Rattle.std.specs.Fmt.{digits}
use Rattle.qml_base.specs.declared.numbers.ObjNo.{ObjNo}
use Rattle.qml_syntax.specs.declared.contextual.Adjective.TheVariants as adjective
use Rattle.qml_syntax.specs.declared.contextual.Version.TheVariants as version
use Rattle.qml_syntax.specs.declared.operators.Operator.TheVariants as operator
use Rattle.qml_syntax.specs.declared.operators.Prefix.TheVariants as prefix
use Rattle.qml_syntax.specs.declared.operators.Assignment.TheVariants as assignment
use Rattle.qml_syntax.specs.declared.literal.Literal.TheVariants as lit
use Rattle.qml_syntax.specs.Tree.{auto, name, number, text, literal, steps, signed, chain, assign, member, no_steps, no_signs, no_links, no_targets, expr, no_stmts, a_stmt, import_module, own_type, kind_var, kind_name, kind_list, no_pars, function, object, no_members, a_member, id, property, bare, alias, method, given, child, value_object, value_list, value_stmt, last_object, an_object, document}
use Rattle.qml_value.specs.declared.value.Value.{Undefined, Null, Bool as Truth, Num, Text, Object as AnObject, Component as AComponent}
use Rattle.qml_types.specs.declared.kind.TypeRef.{TypeRef}
use Rattle.qml_types.specs.declared.kind.TypeRef.TheVariants.{Builtin, Document}
use Rattle.qml_types.specs.declared.kind.TypeNo.TheVariants as no
use Rattle.program_names.specs.Reading.{is_document}
use Rattle.program_names.specs.Loaded.{Program, program_of}
use Rattle.instance_plans.specs.Contents.{by_visible, by_enabled}
use Rattle.instance_plans.proofs.MadeForms.{at, file, held, sources, value, list, text_in, rule, made, told}

abbrev o : ℕ → ObjNo
o n = record { 0 = n }

abbrev of_document : ℕ → TypeRef
of_document n = Document (record { 0 = n })

-- an object
--   main.qml: import QtQuick 2.15 ⏎ QtObject {}
program_of_an_object_alone : Program
program_of_an_object_alone = program_of (sources (
    held (file false (codes "main.qml")) (is_document (document (import_module (codes "QtQuick") (at 1 8) ([]) version.Full None auto ∷ []) (object (own_type (codes "QtObject") (at 2 1)) no_members))) ∷ [])) (file false (codes "main.qml") ∷ [])

an_object_alone : told (program_of_an_object_alone) ≡
    made None (codes "QtObject") (Builtin no.QtObject ∷ []) false 0 (
    (value (Text []), value (Text [])) ∷ []) ∷ []
unfolding program_of_an_object_alone lib.Utf8.encode digits
an_object_alone = refl

-- children, and what is given
--   main.qml: import QtQuick 2.15 ⏎ Item { id: r; x: 4; property int a: -2; property string t: 5; property bool b:
--   "0"; visible: false; Item { width: r.a; enabled: r.b } QtObject { objectName: "q" } }
program_of_children_and_values : Program
program_of_children_and_values = program_of (sources (
    held (file false (codes "main.qml")) (is_document (document (import_module (codes "QtQuick") (at 1 8) ([]) version.Full None auto ∷ []) (object (own_type (codes "Item") (at 2 1)) (a_member (id (at 2 8) (codes "r") (at 2 12) auto) false (a_member (given (codes "x") (at 2 15) ([]) (value_stmt (expr (number 4 (at 2 18)) auto))) false (a_member (property (at 2 21) adjective.Ordinary (kind_name (codes "int") (at 2 30) ([])) (codes "a") (at 2 34) (value_stmt (expr (signed prefix.Minus (at 2 37) no_signs (number 2 (at 2 38))) auto))) false (a_member (property (at 2 41) adjective.Ordinary (kind_name (codes "string") (at 2 50) ([])) (codes "t") (at 2 57) (value_stmt (expr (number 5 (at 2 60)) auto))) false (a_member (property (at 2 63) adjective.Ordinary (kind_name (codes "bool") (at 2 72) ([])) (codes "b") (at 2 77) (value_stmt (expr (text (codes "0") (at 2 80)) auto))) false (a_member (given (codes "visible") (at 2 85) ([]) (value_stmt (expr (literal lit.False (at 2 94)) auto))) false (a_member (child (object (own_type (codes "Item") (at 2 101)) (a_member (given (codes "width") (at 2 108) ([]) (value_stmt (expr (steps (name (codes "r") (at 2 115)) (member (codes "a") (at 2 117)) no_steps) auto))) false (a_member (given (codes "enabled") (at 2 120) ([]) (value_stmt (expr (steps (name (codes "r") (at 2 129)) (member (codes "b") (at 2 131)) no_steps) auto))) false no_members)))) false (a_member (child (object (own_type (codes "QtObject") (at 2 135)) (a_member (given (codes "objectName") (at 2 146) ([]) (value_stmt (expr (text (codes "q") (at 2 158)) auto))) false no_members))) false no_members))))))))))) ∷ [])) (file false (codes "main.qml") ∷ [])

children_and_values : told (program_of_children_and_values) ≡
    made None (codes "Item") (Builtin no.Item ∷ Builtin no.QtObject ∷ []) false 0 (
    (value (Text []), value (Text [])) ∷ (value (Num (pos 4)), value (Num (pos 0))) ∷ (value (Num (pos 0)), value (Num (pos 0))) ∷ (value (Num (pos 0)), value (Num (pos 0))) ∷ (value (Num (pos 0)), value (Num (pos 0))) ∷ (value (Num (pos 0)), value (Num (pos 0))) ∷ (value (Truth false), value (Truth true)) ∷ (rule by_visible 1, value (Truth false)) ∷ (value (Truth true), value (Truth true)) ∷ (rule by_enabled 1, value (Truth false)) ∷ (value (Text []), value (Text [])) ∷ (list ([]), list ([])) ∷ (value Null, value Null) ∷ (value (Num (neg_ℤ (pos 2))), value (Num (pos 0))) ∷ (value (Text (codes "5")), value (Text [])) ∷ (value (Truth true), value (Truth false)) ∷ []) ∷
    made (Some 1) (codes "Item") (Builtin no.Item ∷ Builtin no.QtObject ∷ []) false 0 (
    (value (Text []), value (Text [])) ∷ (value (Num (pos 0)), value (Num (pos 0))) ∷ (value (Num (pos 0)), value (Num (pos 0))) ∷ (value (Num (pos 0)), value (Num (pos 0))) ∷ (text_in 0 2 2, value (Num (pos 0))) ∷ (value (Num (pos 0)), value (Num (pos 0))) ∷ (value (Truth true), value (Truth true)) ∷ (rule by_visible 2, value (Truth false)) ∷ (text_in 0 2 2, value (Truth true)) ∷ (rule by_enabled 2, value (Truth false)) ∷ (value (Text []), value (Text [])) ∷ (list ([]), list ([])) ∷ (value (AnObject (o 1)), value Null) ∷ []) ∷
    made (Some 1) (codes "QtObject") (Builtin no.QtObject ∷ []) false 0 (
    (value (Text (codes "q")), value (Text [])) ∷ []) ∷ []
unfolding program_of_children_and_values lib.Utf8.encode digits
children_and_values = refl

-- what a type writes stands before what is written at its place of use
--   main.qml: import QtQuick 2.15 ⏎ Item { T { id: t; Item { x: 1 } w: 6 } Item { y: 2 } }
--   T.qml: import QtQuick 2.15 ⏎ U { property int w: 7; Item { x: 3 } }
--   U.qml: import QtQuick 2.15 ⏎ Item { property int v: 8; property QtObject q: QtObject {} Item { x: v } }
program_of_what_types_write_first : Program
program_of_what_types_write_first = program_of (sources (
    held (file false (codes "main.qml")) (is_document (document (import_module (codes "QtQuick") (at 1 8) ([]) version.Full None auto ∷ []) (object (own_type (codes "Item") (at 2 1)) (a_member (child (object (own_type (codes "T") (at 2 8)) (a_member (id (at 2 12) (codes "t") (at 2 16) auto) false (a_member (child (object (own_type (codes "Item") (at 2 19)) (a_member (given (codes "x") (at 2 26) ([]) (value_stmt (expr (number 1 (at 2 29)) auto))) false no_members))) false (a_member (given (codes "w") (at 2 33) ([]) (value_stmt (expr (number 6 (at 2 36)) auto))) false no_members))))) false (a_member (child (object (own_type (codes "Item") (at 2 40)) (a_member (given (codes "y") (at 2 47) ([]) (value_stmt (expr (number 2 (at 2 50)) auto))) false no_members))) false no_members))))) ∷
    held (file false (codes "T.qml")) (is_document (document (import_module (codes "QtQuick") (at 1 8) ([]) version.Full None auto ∷ []) (object (own_type (codes "U") (at 2 1)) (a_member (property (at 2 5) adjective.Ordinary (kind_name (codes "int") (at 2 14) ([])) (codes "w") (at 2 18) (value_stmt (expr (number 7 (at 2 21)) auto))) false (a_member (child (object (own_type (codes "Item") (at 2 24)) (a_member (given (codes "x") (at 2 31) ([]) (value_stmt (expr (number 3 (at 2 34)) auto))) false no_members))) false no_members))))) ∷
    held (file false (codes "U.qml")) (is_document (document (import_module (codes "QtQuick") (at 1 8) ([]) version.Full None auto ∷ []) (object (own_type (codes "Item") (at 2 1)) (a_member (property (at 2 8) adjective.Ordinary (kind_name (codes "int") (at 2 17) ([])) (codes "v") (at 2 21) (value_stmt (expr (number 8 (at 2 24)) auto))) false (a_member (property (at 2 27) adjective.Ordinary (kind_name (codes "QtObject") (at 2 36) ([])) (codes "q") (at 2 45) (value_object (object (own_type (codes "QtObject") (at 2 48)) no_members))) false (a_member (child (object (own_type (codes "Item") (at 2 60)) (a_member (given (codes "x") (at 2 67) ([]) (value_stmt (expr (name (codes "v") (at 2 70)) auto))) false no_members))) false no_members)))))) ∷ [])) (file false (codes "main.qml") ∷ file false (codes "T.qml") ∷ file false (codes "U.qml") ∷ [])

what_types_write_first : told (program_of_what_types_write_first) ≡
    made None (codes "Item") (Builtin no.Item ∷ Builtin no.QtObject ∷ []) false 0 (
    (value (Text []), value (Text [])) ∷ (value (Num (pos 0)), value (Num (pos 0))) ∷ (value (Num (pos 0)), value (Num (pos 0))) ∷ (value (Num (pos 0)), value (Num (pos 0))) ∷ (value (Num (pos 0)), value (Num (pos 0))) ∷ (value (Num (pos 0)), value (Num (pos 0))) ∷ (value (Truth true), value (Truth true)) ∷ (rule by_visible 1, value (Truth false)) ∷ (value (Truth true), value (Truth true)) ∷ (rule by_enabled 1, value (Truth false)) ∷ (value (Text []), value (Text [])) ∷ (list ([]), list ([])) ∷ (value Null, value Null) ∷ []) ∷
    made (Some 1) (codes "T") (of_document 1 ∷ of_document 2 ∷ Builtin no.Item ∷ Builtin no.QtObject ∷ []) false 0 (
    (value (Text []), value (Text [])) ∷ (value (Num (pos 0)), value (Num (pos 0))) ∷ (value (Num (pos 0)), value (Num (pos 0))) ∷ (value (Num (pos 0)), value (Num (pos 0))) ∷ (value (Num (pos 0)), value (Num (pos 0))) ∷ (value (Num (pos 0)), value (Num (pos 0))) ∷ (value (Truth true), value (Truth true)) ∷ (rule by_visible 2, value (Truth false)) ∷ (value (Truth true), value (Truth true)) ∷ (rule by_enabled 2, value (Truth false)) ∷ (value (Text []), value (Text [])) ∷ (list ([]), list ([])) ∷ (value (AnObject (o 1)), value Null) ∷ (value (Num (pos 8)), value (Num (pos 0))) ∷ (value (AnObject (o 3)), value Null) ∷ (value (Num (pos 6)), value (Num (pos 0))) ∷ []) ∷
    made (Some 2) (codes "QtObject") (Builtin no.QtObject ∷ []) false 0 (
    (value (Text []), value (Text [])) ∷ []) ∷
    made (Some 2) (codes "Item") (Builtin no.Item ∷ Builtin no.QtObject ∷ []) false 0 (
    (value (Text []), value (Text [])) ∷ (text_in 2 4 4, value (Num (pos 0))) ∷ (value (Num (pos 0)), value (Num (pos 0))) ∷ (value (Num (pos 0)), value (Num (pos 0))) ∷ (value (Num (pos 0)), value (Num (pos 0))) ∷ (value (Num (pos 0)), value (Num (pos 0))) ∷ (value (Truth true), value (Truth true)) ∷ (rule by_visible 4, value (Truth false)) ∷ (value (Truth true), value (Truth true)) ∷ (rule by_enabled 4, value (Truth false)) ∷ (value (Text []), value (Text [])) ∷ (list ([]), list ([])) ∷ (value (AnObject (o 2)), value Null) ∷ []) ∷
    made (Some 2) (codes "Item") (Builtin no.Item ∷ Builtin no.QtObject ∷ []) false 0 (
    (value (Text []), value (Text [])) ∷ (value (Num (pos 3)), value (Num (pos 0))) ∷ (value (Num (pos 0)), value (Num (pos 0))) ∷ (value (Num (pos 0)), value (Num (pos 0))) ∷ (value (Num (pos 0)), value (Num (pos 0))) ∷ (value (Num (pos 0)), value (Num (pos 0))) ∷ (value (Truth true), value (Truth true)) ∷ (rule by_visible 5, value (Truth false)) ∷ (value (Truth true), value (Truth true)) ∷ (rule by_enabled 5, value (Truth false)) ∷ (value (Text []), value (Text [])) ∷ (list ([]), list ([])) ∷ (value (AnObject (o 2)), value Null) ∷ []) ∷
    made (Some 2) (codes "Item") (Builtin no.Item ∷ Builtin no.QtObject ∷ []) false 0 (
    (value (Text []), value (Text [])) ∷ (value (Num (pos 1)), value (Num (pos 0))) ∷ (value (Num (pos 0)), value (Num (pos 0))) ∷ (value (Num (pos 0)), value (Num (pos 0))) ∷ (value (Num (pos 0)), value (Num (pos 0))) ∷ (value (Num (pos 0)), value (Num (pos 0))) ∷ (value (Truth true), value (Truth true)) ∷ (rule by_visible 6, value (Truth false)) ∷ (value (Truth true), value (Truth true)) ∷ (rule by_enabled 6, value (Truth false)) ∷ (value (Text []), value (Text [])) ∷ (list ([]), list ([])) ∷ (value (AnObject (o 2)), value Null) ∷ []) ∷
    made (Some 1) (codes "Item") (Builtin no.Item ∷ Builtin no.QtObject ∷ []) false 0 (
    (value (Text []), value (Text [])) ∷ (value (Num (pos 0)), value (Num (pos 0))) ∷ (value (Num (pos 2)), value (Num (pos 0))) ∷ (value (Num (pos 0)), value (Num (pos 0))) ∷ (value (Num (pos 0)), value (Num (pos 0))) ∷ (value (Num (pos 0)), value (Num (pos 0))) ∷ (value (Truth true), value (Truth true)) ∷ (rule by_visible 7, value (Truth false)) ∷ (value (Truth true), value (Truth true)) ∷ (rule by_enabled 7, value (Truth false)) ∷ (value (Text []), value (Text [])) ∷ (list ([]), list ([])) ∷ (value (AnObject (o 1)), value Null) ∷ []) ∷ []
unfolding program_of_what_types_write_first lib.Utf8.encode digits
what_types_write_first = refl

-- values through aliases, of the document and of types
--   main.qml: import QtQuick 2.15 ⏎ Item { id: r; a: 5; property alias a: k.v; property alias whole: t; whole.inner:
--   9; T { id: t; deep: r.x } QtObject { id: k; property int v } }
--   T.qml: import QtQuick 2.15 ⏎ Item { property alias inner: i.v; property alias deep: i.w; QtObject { id: i;
--   property int v: 1; property int w: 2 } }
program_of_values_through_aliases : Program
program_of_values_through_aliases = program_of (sources (
    held (file false (codes "main.qml")) (is_document (document (import_module (codes "QtQuick") (at 1 8) ([]) version.Full None auto ∷ []) (object (own_type (codes "Item") (at 2 1)) (a_member (id (at 2 8) (codes "r") (at 2 12) auto) false (a_member (given (codes "a") (at 2 15) ([]) (value_stmt (expr (number 5 (at 2 18)) auto))) false (a_member (alias (at 2 21) false (codes "a") (at 2 36) (codes "k") (at 2 39) ((codes "v") ∷ []) auto) false (a_member (alias (at 2 44) false (codes "whole") (at 2 59) (codes "t") (at 2 66) ([]) auto) false (a_member (given (codes "whole") (at 2 69) ((codes "inner") ∷ []) (value_stmt (expr (number 9 (at 2 82)) auto))) false (a_member (child (object (own_type (codes "T") (at 2 85)) (a_member (id (at 2 89) (codes "t") (at 2 93) auto) false (a_member (given (codes "deep") (at 2 96) ([]) (value_stmt (expr (steps (name (codes "r") (at 2 102)) (member (codes "x") (at 2 104)) no_steps) auto))) false no_members)))) false (a_member (child (object (own_type (codes "QtObject") (at 2 108)) (a_member (id (at 2 119) (codes "k") (at 2 123) auto) false (a_member (bare (at 2 126) adjective.Ordinary (kind_name (codes "int") (at 2 135) ([])) (codes "v") (at 2 139) auto) false no_members)))) false no_members)))))))))) ∷
    held (file false (codes "T.qml")) (is_document (document (import_module (codes "QtQuick") (at 1 8) ([]) version.Full None auto ∷ []) (object (own_type (codes "Item") (at 2 1)) (a_member (alias (at 2 8) false (codes "inner") (at 2 23) (codes "i") (at 2 30) ((codes "v") ∷ []) auto) false (a_member (alias (at 2 35) false (codes "deep") (at 2 50) (codes "i") (at 2 56) ((codes "w") ∷ []) auto) false (a_member (child (object (own_type (codes "QtObject") (at 2 61)) (a_member (id (at 2 72) (codes "i") (at 2 76) auto) false (a_member (property (at 2 79) adjective.Ordinary (kind_name (codes "int") (at 2 88) ([])) (codes "v") (at 2 92) (value_stmt (expr (number 1 (at 2 95)) auto))) false (a_member (property (at 2 98) adjective.Ordinary (kind_name (codes "int") (at 2 107) ([])) (codes "w") (at 2 111) (value_stmt (expr (number 2 (at 2 114)) auto))) false no_members))))) false no_members)))))) ∷ [])) (file false (codes "main.qml") ∷ file false (codes "T.qml") ∷ [])

values_through_aliases : told (program_of_values_through_aliases) ≡
    made None (codes "Item") (Builtin no.Item ∷ Builtin no.QtObject ∷ []) false 0 (
    (value (Text []), value (Text [])) ∷ (value (Num (pos 0)), value (Num (pos 0))) ∷ (value (Num (pos 0)), value (Num (pos 0))) ∷ (value (Num (pos 0)), value (Num (pos 0))) ∷ (value (Num (pos 0)), value (Num (pos 0))) ∷ (value (Num (pos 0)), value (Num (pos 0))) ∷ (value (Truth true), value (Truth true)) ∷ (rule by_visible 1, value (Truth false)) ∷ (value (Truth true), value (Truth true)) ∷ (rule by_enabled 1, value (Truth false)) ∷ (value (Text []), value (Text [])) ∷ (list ([]), list ([])) ∷ (value Null, value Null) ∷ []) ∷
    made (Some 1) (codes "T") (of_document 1 ∷ Builtin no.Item ∷ Builtin no.QtObject ∷ []) false 0 (
    (value (Text []), value (Text [])) ∷ (value (Num (pos 0)), value (Num (pos 0))) ∷ (value (Num (pos 0)), value (Num (pos 0))) ∷ (value (Num (pos 0)), value (Num (pos 0))) ∷ (value (Num (pos 0)), value (Num (pos 0))) ∷ (value (Num (pos 0)), value (Num (pos 0))) ∷ (value (Truth true), value (Truth true)) ∷ (rule by_visible 2, value (Truth false)) ∷ (value (Truth true), value (Truth true)) ∷ (rule by_enabled 2, value (Truth false)) ∷ (value (Text []), value (Text [])) ∷ (list ([]), list ([])) ∷ (value (AnObject (o 1)), value Null) ∷ []) ∷
    made (Some 2) (codes "QtObject") (Builtin no.QtObject ∷ []) false 0 (
    (value (Text []), value (Text [])) ∷ (value (Num (pos 9)), value (Num (pos 0))) ∷ (text_in 0 2 3, value (Num (pos 0))) ∷ []) ∷
    made (Some 1) (codes "QtObject") (Builtin no.QtObject ∷ []) false 0 (
    (value (Text []), value (Text [])) ∷ (value (Num (pos 5)), value (Num (pos 0))) ∷ []) ∷ []
unfolding program_of_values_through_aliases lib.Utf8.encode digits
values_through_aliases = refl

-- Components: written, made around an object, in a type
--   main.qml: import QtQuick 2.15 ⏎ Item { property Component c: Component { Item { Item {} } } property Component
--   d: Item { id: inner; Item {} } Component { id: e; QtObject {} } C { id: f } }
--   C.qml: import QtQuick 2.15 ⏎ Component { Item {} }
program_of_components : Program
program_of_components = program_of (sources (
    held (file false (codes "main.qml")) (is_document (document (import_module (codes "QtQuick") (at 1 8) ([]) version.Full None auto ∷ []) (object (own_type (codes "Item") (at 2 1)) (a_member (property (at 2 8) adjective.Ordinary (kind_name (codes "Component") (at 2 17) ([])) (codes "c") (at 2 27) (value_object (object (own_type (codes "Component") (at 2 30)) (a_member (child (object (own_type (codes "Item") (at 2 42)) (a_member (child (object (own_type (codes "Item") (at 2 49)) no_members)) false no_members))) false no_members)))) false (a_member (property (at 2 61) adjective.Ordinary (kind_name (codes "Component") (at 2 70) ([])) (codes "d") (at 2 80) (value_object (object (own_type (codes "Item") (at 2 83)) (a_member (id (at 2 90) (codes "inner") (at 2 94) auto) false (a_member (child (object (own_type (codes "Item") (at 2 101)) no_members)) false no_members))))) false (a_member (child (object (own_type (codes "Component") (at 2 111)) (a_member (id (at 2 123) (codes "e") (at 2 127) auto) false (a_member (child (object (own_type (codes "QtObject") (at 2 130)) no_members)) false no_members)))) false (a_member (child (object (own_type (codes "C") (at 2 144)) (a_member (id (at 2 148) (codes "f") (at 2 152) auto) false no_members))) false no_members))))))) ∷
    held (file false (codes "C.qml")) (is_document (document (import_module (codes "QtQuick") (at 1 8) ([]) version.Full None auto ∷ []) (object (own_type (codes "Component") (at 2 1)) (a_member (child (object (own_type (codes "Item") (at 2 13)) no_members)) false no_members)))) ∷ [])) (file false (codes "main.qml") ∷ file false (codes "C.qml") ∷ [])

components : told (program_of_components) ≡
    made None (codes "Item") (Builtin no.Item ∷ Builtin no.QtObject ∷ []) false 0 (
    (value (Text []), value (Text [])) ∷ (value (Num (pos 0)), value (Num (pos 0))) ∷ (value (Num (pos 0)), value (Num (pos 0))) ∷ (value (Num (pos 0)), value (Num (pos 0))) ∷ (value (Num (pos 0)), value (Num (pos 0))) ∷ (value (Num (pos 0)), value (Num (pos 0))) ∷ (value (Truth true), value (Truth true)) ∷ (rule by_visible 1, value (Truth false)) ∷ (value (Truth true), value (Truth true)) ∷ (rule by_enabled 1, value (Truth false)) ∷ (value (Text []), value (Text [])) ∷ (list ([]), list ([])) ∷ (value Null, value Null) ∷ (value (AComponent (o 2)), value Null) ∷ (value (AComponent (o 3)), value Null) ∷ []) ∷
    made (Some 1) (codes "Component") (Builtin no.Component ∷ Builtin no.QtObject ∷ []) false 0 (
    (value (Text []), value (Text [])) ∷ []) ∷
    made (Some 1) (codes "Component") (Builtin no.Component ∷ Builtin no.QtObject ∷ []) false 0 (
    (value (Text []), value (Text [])) ∷ []) ∷
    made (Some 1) (codes "Component") (Builtin no.Component ∷ Builtin no.QtObject ∷ []) false 0 (
    (value (Text []), value (Text [])) ∷ []) ∷
    made (Some 1) (codes "C") (of_document 1 ∷ Builtin no.Component ∷ Builtin no.QtObject ∷ []) false 0 (
    (value (Text []), value (Text [])) ∷ []) ∷ []
unfolding program_of_components lib.Utf8.encode digits
components = refl

-- lists, objects for var and bool, default properties
--   main.qml: import QtQuick 2.15 ⏎ Item { property list<QtObject> l: [QtObject {}, Item {}] property var v:
--   [QtObject {}, QtObject {}] property bool b: QtObject {} property var w: Item {} D { QtObject {} QtObject {} } E
--   { QtObject {} } }
--   D.qml: import QtQuick 2.15 ⏎ Item { default property list<QtObject> kept }
--   E.qml: import QtQuick 2.15 ⏎ Item { default property QtObject one }
program_of_lists_and_defaults : Program
program_of_lists_and_defaults = program_of (sources (
    held (file false (codes "main.qml")) (is_document (document (import_module (codes "QtQuick") (at 1 8) ([]) version.Full None auto ∷ []) (object (own_type (codes "Item") (at 2 1)) (a_member (property (at 2 8) adjective.Ordinary (kind_list (codes "QtObject") (at 2 22)) (codes "l") (at 2 32) (value_list (at 2 35) (an_object (object (own_type (codes "QtObject") (at 2 36)) no_members) (last_object (object (own_type (codes "Item") (at 2 49)) no_members))))) false (a_member (property (at 2 58) adjective.Ordinary kind_var (codes "v") (at 2 71) (value_list (at 2 74) (an_object (object (own_type (codes "QtObject") (at 2 75)) no_members) (last_object (object (own_type (codes "QtObject") (at 2 88)) no_members))))) false (a_member (property (at 2 101) adjective.Ordinary (kind_name (codes "bool") (at 2 110) ([])) (codes "b") (at 2 115) (value_object (object (own_type (codes "QtObject") (at 2 118)) no_members))) false (a_member (property (at 2 130) adjective.Ordinary kind_var (codes "w") (at 2 143) (value_object (object (own_type (codes "Item") (at 2 146)) no_members))) false (a_member (child (object (own_type (codes "D") (at 2 154)) (a_member (child (object (own_type (codes "QtObject") (at 2 158)) no_members)) false (a_member (child (object (own_type (codes "QtObject") (at 2 170)) no_members)) false no_members)))) false (a_member (child (object (own_type (codes "E") (at 2 184)) (a_member (child (object (own_type (codes "QtObject") (at 2 188)) no_members)) false no_members))) false no_members))))))))) ∷
    held (file false (codes "D.qml")) (is_document (document (import_module (codes "QtQuick") (at 1 8) ([]) version.Full None auto ∷ []) (object (own_type (codes "Item") (at 2 1)) (a_member (bare (at 2 8) adjective.Default (kind_list (codes "QtObject") (at 2 30)) (codes "kept") (at 2 40) auto) false no_members)))) ∷
    held (file false (codes "E.qml")) (is_document (document (import_module (codes "QtQuick") (at 1 8) ([]) version.Full None auto ∷ []) (object (own_type (codes "Item") (at 2 1)) (a_member (bare (at 2 8) adjective.Default (kind_name (codes "QtObject") (at 2 25) ([])) (codes "one") (at 2 34) auto) false no_members)))) ∷ [])) (file false (codes "main.qml") ∷ file false (codes "D.qml") ∷ file false (codes "E.qml") ∷ [])

lists_and_defaults : told (program_of_lists_and_defaults) ≡
    made None (codes "Item") (Builtin no.Item ∷ Builtin no.QtObject ∷ []) false 0 (
    (value (Text []), value (Text [])) ∷ (value (Num (pos 0)), value (Num (pos 0))) ∷ (value (Num (pos 0)), value (Num (pos 0))) ∷ (value (Num (pos 0)), value (Num (pos 0))) ∷ (value (Num (pos 0)), value (Num (pos 0))) ∷ (value (Num (pos 0)), value (Num (pos 0))) ∷ (value (Truth true), value (Truth true)) ∷ (rule by_visible 1, value (Truth false)) ∷ (value (Truth true), value (Truth true)) ∷ (rule by_enabled 1, value (Truth false)) ∷ (value (Text []), value (Text [])) ∷ (list ([]), list ([])) ∷ (value Null, value Null) ∷ (list ((AnObject (o 2)) ∷ (AnObject (o 3)) ∷ []), list ([])) ∷ (list ((AnObject (o 4)) ∷ (AnObject (o 5)) ∷ []), value Undefined) ∷ (value (Truth true), value (Truth false)) ∷ (value (AnObject (o 7)), value Undefined) ∷ []) ∷
    made (Some 1) (codes "QtObject") (Builtin no.QtObject ∷ []) false 0 (
    (value (Text []), value (Text [])) ∷ []) ∷
    made (Some 1) (codes "Item") (Builtin no.Item ∷ Builtin no.QtObject ∷ []) false 0 (
    (value (Text []), value (Text [])) ∷ (value (Num (pos 0)), value (Num (pos 0))) ∷ (value (Num (pos 0)), value (Num (pos 0))) ∷ (value (Num (pos 0)), value (Num (pos 0))) ∷ (value (Num (pos 0)), value (Num (pos 0))) ∷ (value (Num (pos 0)), value (Num (pos 0))) ∷ (value (Truth true), value (Truth true)) ∷ (rule by_visible 3, value (Truth false)) ∷ (value (Truth true), value (Truth true)) ∷ (rule by_enabled 3, value (Truth false)) ∷ (value (Text []), value (Text [])) ∷ (list ([]), list ([])) ∷ (value Null, value Null) ∷ []) ∷
    made (Some 1) (codes "QtObject") (Builtin no.QtObject ∷ []) false 0 (
    (value (Text []), value (Text [])) ∷ []) ∷
    made (Some 1) (codes "QtObject") (Builtin no.QtObject ∷ []) false 0 (
    (value (Text []), value (Text [])) ∷ []) ∷
    made (Some 1) (codes "QtObject") (Builtin no.QtObject ∷ []) false 0 (
    (value (Text []), value (Text [])) ∷ []) ∷
    made (Some 1) (codes "Item") (Builtin no.Item ∷ Builtin no.QtObject ∷ []) false 0 (
    (value (Text []), value (Text [])) ∷ (value (Num (pos 0)), value (Num (pos 0))) ∷ (value (Num (pos 0)), value (Num (pos 0))) ∷ (value (Num (pos 0)), value (Num (pos 0))) ∷ (value (Num (pos 0)), value (Num (pos 0))) ∷ (value (Num (pos 0)), value (Num (pos 0))) ∷ (value (Truth true), value (Truth true)) ∷ (rule by_visible 7, value (Truth false)) ∷ (value (Truth true), value (Truth true)) ∷ (rule by_enabled 7, value (Truth false)) ∷ (value (Text []), value (Text [])) ∷ (list ([]), list ([])) ∷ (value Null, value Null) ∷ []) ∷
    made (Some 1) (codes "D") (of_document 1 ∷ Builtin no.Item ∷ Builtin no.QtObject ∷ []) false 0 (
    (value (Text []), value (Text [])) ∷ (value (Num (pos 0)), value (Num (pos 0))) ∷ (value (Num (pos 0)), value (Num (pos 0))) ∷ (value (Num (pos 0)), value (Num (pos 0))) ∷ (value (Num (pos 0)), value (Num (pos 0))) ∷ (value (Num (pos 0)), value (Num (pos 0))) ∷ (value (Truth true), value (Truth true)) ∷ (rule by_visible 8, value (Truth false)) ∷ (value (Truth true), value (Truth true)) ∷ (rule by_enabled 8, value (Truth false)) ∷ (value (Text []), value (Text [])) ∷ (list ([]), list ([])) ∷ (value (AnObject (o 1)), value Null) ∷ (list ((AnObject (o 9)) ∷ (AnObject (o 10)) ∷ []), list ([])) ∷ []) ∷
    made (Some 8) (codes "QtObject") (Builtin no.QtObject ∷ []) false 0 (
    (value (Text []), value (Text [])) ∷ []) ∷
    made (Some 8) (codes "QtObject") (Builtin no.QtObject ∷ []) false 0 (
    (value (Text []), value (Text [])) ∷ []) ∷
    made (Some 1) (codes "E") (of_document 2 ∷ Builtin no.Item ∷ Builtin no.QtObject ∷ []) false 0 (
    (value (Text []), value (Text [])) ∷ (value (Num (pos 0)), value (Num (pos 0))) ∷ (value (Num (pos 0)), value (Num (pos 0))) ∷ (value (Num (pos 0)), value (Num (pos 0))) ∷ (value (Num (pos 0)), value (Num (pos 0))) ∷ (value (Num (pos 0)), value (Num (pos 0))) ∷ (value (Truth true), value (Truth true)) ∷ (rule by_visible 11, value (Truth false)) ∷ (value (Truth true), value (Truth true)) ∷ (rule by_enabled 11, value (Truth false)) ∷ (value (Text []), value (Text [])) ∷ (list ([]), list ([])) ∷ (value (AnObject (o 1)), value Null) ∷ (value (AnObject (o 12)), value Null) ∷ []) ∷
    made (Some 11) (codes "QtObject") (Builtin no.QtObject ∷ []) false 0 (
    (value (Text []), value (Text [])) ∷ []) ∷ []
unfolding program_of_lists_and_defaults lib.Utf8.encode digits
lists_and_defaults = refl

-- States, their names, and targets
--   main.qml: import QtQuick 2.15 ⏎ Item { id: r; property int v: 1; states: [State { name: "a"; PropertyChanges {
--   target: r; v: 2 } }, State { when: r.v > 3; PropertyChanges { target: k; x: r.v; explicit: true } }, State {
--   extend: "a" }] Item { id: k } }
program_of_states : Program
program_of_states = program_of (sources (
    held (file false (codes "main.qml")) (is_document (document (import_module (codes "QtQuick") (at 1 8) ([]) version.Full None auto ∷ []) (object (own_type (codes "Item") (at 2 1)) (a_member (id (at 2 8) (codes "r") (at 2 12) auto) false (a_member (property (at 2 15) adjective.Ordinary (kind_name (codes "int") (at 2 24) ([])) (codes "v") (at 2 28) (value_stmt (expr (number 1 (at 2 31)) auto))) false (a_member (given (codes "states") (at 2 34) ([]) (value_list (at 2 42) (an_object (object (own_type (codes "State") (at 2 43)) (a_member (given (codes "name") (at 2 51) ([]) (value_stmt (expr (text (codes "a") (at 2 57)) auto))) false (a_member (child (object (own_type (codes "PropertyChanges") (at 2 62)) (a_member (given (codes "target") (at 2 80) ([]) (value_stmt (expr (name (codes "r") (at 2 88)) auto))) false (a_member (given (codes "v") (at 2 91) ([]) (value_stmt (expr (number 2 (at 2 94)) auto))) false no_members)))) false no_members))) (an_object (object (own_type (codes "State") (at 2 101)) (a_member (given (codes "when") (at 2 109) ([]) (value_stmt (expr (chain (steps (name (codes "r") (at 2 115)) (member (codes "v") (at 2 117)) no_steps) operator.Plus (at 2 115) (number 3 (at 2 121)) no_links) auto))) false (a_member (child (object (own_type (codes "PropertyChanges") (at 2 124)) (a_member (given (codes "target") (at 2 142) ([]) (value_stmt (expr (name (codes "k") (at 2 150)) auto))) false (a_member (given (codes "x") (at 2 153) ([]) (value_stmt (expr (steps (name (codes "r") (at 2 156)) (member (codes "v") (at 2 158)) no_steps) auto))) false (a_member (given (codes "explicit") (at 2 161) ([]) (value_stmt (expr (literal lit.True (at 2 171)) auto))) false no_members))))) false no_members))) (last_object (object (own_type (codes "State") (at 2 181)) (a_member (given (codes "extend") (at 2 189) ([]) (value_stmt (expr (text (codes "a") (at 2 197)) auto))) false no_members))))))) false (a_member (child (object (own_type (codes "Item") (at 2 204)) (a_member (id (at 2 211) (codes "k") (at 2 215) auto) false no_members))) false no_members))))))) ∷ [])) (file false (codes "main.qml") ∷ [])

states : told (program_of_states) ≡
    made None (codes "Item") (Builtin no.Item ∷ Builtin no.QtObject ∷ []) true 0 (
    (value (Text []), value (Text [])) ∷ (value (Num (pos 0)), value (Num (pos 0))) ∷ (value (Num (pos 0)), value (Num (pos 0))) ∷ (value (Num (pos 0)), value (Num (pos 0))) ∷ (value (Num (pos 0)), value (Num (pos 0))) ∷ (value (Num (pos 0)), value (Num (pos 0))) ∷ (value (Truth true), value (Truth true)) ∷ (rule by_visible 1, value (Truth false)) ∷ (value (Truth true), value (Truth true)) ∷ (rule by_enabled 1, value (Truth false)) ∷ (value (Text []), value (Text [])) ∷ (list ((AnObject (o 2)) ∷ (AnObject (o 4)) ∷ (AnObject (o 6)) ∷ []), list ([])) ∷ (value Null, value Null) ∷ (value (Num (pos 1)), value (Num (pos 0))) ∷ []) ∷
    made (Some 1) (codes "State") (Builtin no.State ∷ Builtin no.QtObject ∷ []) false 0 (
    (value (Text []), value (Text [])) ∷ (value (Text (codes "a")), value (Text [])) ∷ (value (Truth false), value (Truth false)) ∷ (value (Text []), value (Text [])) ∷ (list ((AnObject (o 3)) ∷ []), list ([])) ∷ []) ∷
    made (Some 2) (codes "PropertyChanges") (Builtin no.PropertyChanges ∷ Builtin no.QtObject ∷ []) false 0 (
    (value (Text []), value (Text [])) ∷ (value (AnObject (o 1)), value Null) ∷ (value (Truth false), value (Truth false)) ∷ (value (Truth true), value (Truth true)) ∷ []) ∷
    made (Some 1) (codes "State") (Builtin no.State ∷ Builtin no.QtObject ∷ []) false 0 (
    (value (Text []), value (Text [])) ∷ (value (Text (codes "anonymousState1")), value (Text [])) ∷ (text_in 0 4 4, value (Truth false)) ∷ (value (Text []), value (Text [])) ∷ (list ((AnObject (o 5)) ∷ []), list ([])) ∷ []) ∷
    made (Some 4) (codes "PropertyChanges") (Builtin no.PropertyChanges ∷ Builtin no.QtObject ∷ []) false 0 (
    (value (Text []), value (Text [])) ∷ (value (AnObject (o 7)), value Null) ∷ (value (Truth true), value (Truth false)) ∷ (value (Truth true), value (Truth true)) ∷ []) ∷
    made (Some 1) (codes "State") (Builtin no.State ∷ Builtin no.QtObject ∷ []) false 0 (
    (value (Text []), value (Text [])) ∷ (value (Text (codes "anonymousState2")), value (Text [])) ∷ (value (Truth false), value (Truth false)) ∷ (value (Text (codes "a")), value (Text [])) ∷ (list ([]), list ([])) ∷ []) ∷
    made (Some 1) (codes "Item") (Builtin no.Item ∷ Builtin no.QtObject ∷ []) false 0 (
    (value (Text []), value (Text [])) ∷ (value (Num (pos 0)), value (Num (pos 0))) ∷ (value (Num (pos 0)), value (Num (pos 0))) ∷ (value (Num (pos 0)), value (Num (pos 0))) ∷ (value (Num (pos 0)), value (Num (pos 0))) ∷ (value (Num (pos 0)), value (Num (pos 0))) ∷ (value (Truth true), value (Truth true)) ∷ (rule by_visible 7, value (Truth false)) ∷ (value (Truth true), value (Truth true)) ∷ (rule by_enabled 7, value (Truth false)) ∷ (value (Text []), value (Text [])) ∷ (list ([]), list ([])) ∷ (value (AnObject (o 1)), value Null) ∷ []) ∷ []
unfolding program_of_states lib.Utf8.encode digits
states = refl

-- Connections, Binding, Timer, Host
--   main.qml: import QtQuick 2.15 ⏎ import QmlRun 1.0 ⏎ Item { id: r; Connections { onXChanged: r.y = 1; function
--   onYChanged() { r.y = 2 } Component.onCompleted: r.y = 3 } property QtObject s: Connections { target: null }
--   Binding { target: r; property: "x"; value: r.y; when: false } Timer { interval: r.y; running: true; property int
--   z: 4; property int v: 5 } Host { key: "clamp" } Component.onDestruction: r.y = 4 }
program_of_elements_with_starts : Program
program_of_elements_with_starts = program_of (sources (
    held (file false (codes "main.qml")) (is_document (document (import_module (codes "QtQuick") (at 1 8) ([]) version.Full None auto ∷ import_module (codes "QmlRun") (at 2 8) ([]) version.Full None auto ∷ []) (object (own_type (codes "Item") (at 3 1)) (a_member (id (at 3 8) (codes "r") (at 3 12) auto) false (a_member (child (object (own_type (codes "Connections") (at 3 15)) (a_member (given (codes "onXChanged") (at 3 29) ([]) (value_stmt (expr (assign (steps (name (codes "r") (at 3 41)) (member (codes "y") (at 3 43)) no_steps) assignment.Plain (at 3 45) no_targets (number 1 (at 3 47))) auto))) false (a_member (method (function (at 3 50) (codes "onYChanged") (at 3 59) no_pars None (a_stmt (expr (assign (steps (name (codes "r") (at 3 74)) (member (codes "y") (at 3 76)) no_steps) assignment.Plain (at 3 78) no_targets (number 2 (at 3 80))) auto) no_stmts))) false (a_member (given (codes "Component") (at 3 84) ((codes "onCompleted") ∷ []) (value_stmt (expr (assign (steps (name (codes "r") (at 3 107)) (member (codes "y") (at 3 109)) no_steps) assignment.Plain (at 3 111) no_targets (number 3 (at 3 113))) auto))) false no_members))))) false (a_member (property (at 3 117) adjective.Ordinary (kind_name (codes "QtObject") (at 3 126) ([])) (codes "s") (at 3 135) (value_object (object (own_type (codes "Connections") (at 3 138)) (a_member (given (codes "target") (at 3 152) ([]) (value_stmt (expr (literal lit.Null (at 3 160)) auto))) false no_members)))) false (a_member (child (object (own_type (codes "Binding") (at 3 167)) (a_member (given (codes "target") (at 3 177) ([]) (value_stmt (expr (name (codes "r") (at 3 185)) auto))) false (a_member (given (codes "property") (at 3 188) ([]) (value_stmt (expr (text (codes "x") (at 3 198)) auto))) false (a_member (given (codes "value") (at 3 203) ([]) (value_stmt (expr (steps (name (codes "r") (at 3 210)) (member (codes "y") (at 3 212)) no_steps) auto))) false (a_member (given (codes "when") (at 3 215) ([]) (value_stmt (expr (literal lit.False (at 3 221)) auto))) false no_members)))))) false (a_member (child (object (own_type (codes "Timer") (at 3 229)) (a_member (given (codes "interval") (at 3 237) ([]) (value_stmt (expr (steps (name (codes "r") (at 3 247)) (member (codes "y") (at 3 249)) no_steps) auto))) false (a_member (given (codes "running") (at 3 252) ([]) (value_stmt (expr (literal lit.True (at 3 261)) auto))) false (a_member (property (at 3 267) adjective.Ordinary (kind_name (codes "int") (at 3 276) ([])) (codes "z") (at 3 280) (value_stmt (expr (number 4 (at 3 283)) auto))) false (a_member (property (at 3 286) adjective.Ordinary (kind_name (codes "int") (at 3 295) ([])) (codes "v") (at 3 299) (value_stmt (expr (number 5 (at 3 302)) auto))) false no_members)))))) false (a_member (child (object (own_type (codes "Host") (at 3 306)) (a_member (given (codes "key") (at 3 313) ([]) (value_stmt (expr (text (codes "clamp") (at 3 318)) auto))) false no_members))) false (a_member (given (codes "Component") (at 3 328) ((codes "onDestruction") ∷ []) (value_stmt (expr (assign (steps (name (codes "r") (at 3 353)) (member (codes "y") (at 3 355)) no_steps) assignment.Plain (at 3 357) no_targets (number 4 (at 3 359))) auto))) false no_members)))))))))) ∷ [])) (file false (codes "main.qml") ∷ [])

elements_with_starts : told (program_of_elements_with_starts) ≡
    made None (codes "Item") (Builtin no.Item ∷ Builtin no.QtObject ∷ []) false 1 (
    (value (Text []), value (Text [])) ∷ (value (Num (pos 0)), value (Num (pos 0))) ∷ (value (Num (pos 0)), value (Num (pos 0))) ∷ (value (Num (pos 0)), value (Num (pos 0))) ∷ (value (Num (pos 0)), value (Num (pos 0))) ∷ (value (Num (pos 0)), value (Num (pos 0))) ∷ (value (Truth true), value (Truth true)) ∷ (rule by_visible 1, value (Truth false)) ∷ (value (Truth true), value (Truth true)) ∷ (rule by_enabled 1, value (Truth false)) ∷ (value (Text []), value (Text [])) ∷ (list ([]), list ([])) ∷ (value Null, value Null) ∷ (value (AnObject (o 3)), value Null) ∷ []) ∷
    made (Some 1) (codes "Connections") (Builtin no.Connections ∷ Builtin no.QtObject ∷ []) true 1 (
    (value (Text []), value (Text [])) ∷ (value (AnObject (o 1)), value (AnObject (o 1))) ∷ (value (Truth true), value (Truth true)) ∷ (value (Truth false), value (Truth false)) ∷ []) ∷
    made (Some 1) (codes "Connections") (Builtin no.Connections ∷ Builtin no.QtObject ∷ []) true 0 (
    (value (Text []), value (Text [])) ∷ (value Null, value (AnObject (o 1))) ∷ (value (Truth true), value (Truth true)) ∷ (value (Truth false), value (Truth false)) ∷ []) ∷
    made (Some 1) (codes "Binding") (Builtin no.Binding ∷ Builtin no.QtObject ∷ []) true 0 (
    (value (Text []), value (Text [])) ∷ (text_in 0 4 4, value Null) ∷ (value (Text (codes "x")), value (Text [])) ∷ (text_in 0 4 4, value Undefined) ∷ (value (Truth false), value (Truth true)) ∷ (value (Text (codes "RestoreBinding")), value (Text (codes "RestoreBinding"))) ∷ []) ∷
    made (Some 1) (codes "Timer") (Builtin no.Timer ∷ Builtin no.QtObject ∷ []) true 0 (
    (value (Text []), value (Text [])) ∷ (text_in 0 5 5, value (Num (pos 1000))) ∷ (value (Truth false), value (Truth false)) ∷ (value (Truth true), value (Truth false)) ∷ (value (Truth false), value (Truth false)) ∷ (value (Num (pos 4)), value (Num (pos 0))) ∷ (value (Num (pos 5)), value (Num (pos 0))) ∷ []) ∷
    made (Some 1) (codes "Host") (Builtin no.Host ∷ Builtin no.QtObject ∷ []) true 0 (
    (value (Text []), value (Text [])) ∷ (value (Text (codes "clamp")), value (Text [])) ∷ []) ∷ []
unfolding program_of_elements_with_starts lib.Utf8.encode digits
elements_with_starts = refl

-- changes behind an alias of a type
--   main.qml: import QtQuick 2.15 ⏎ Item { id: r; T { id: t } states: State { name: "s"; PropertyChanges { target:
--   t; inner.x: r.x; inner.visible: false } } }
--   T.qml: import QtQuick 2.15 ⏎ Item { property alias inner: i; Item { id: i } }
program_of_changes_behind_an_alias : Program
program_of_changes_behind_an_alias = program_of (sources (
    held (file false (codes "main.qml")) (is_document (document (import_module (codes "QtQuick") (at 1 8) ([]) version.Full None auto ∷ []) (object (own_type (codes "Item") (at 2 1)) (a_member (id (at 2 8) (codes "r") (at 2 12) auto) false (a_member (child (object (own_type (codes "T") (at 2 15)) (a_member (id (at 2 19) (codes "t") (at 2 23) auto) false no_members))) false (a_member (given (codes "states") (at 2 27) ([]) (value_object (object (own_type (codes "State") (at 2 35)) (a_member (given (codes "name") (at 2 43) ([]) (value_stmt (expr (text (codes "s") (at 2 49)) auto))) false (a_member (child (object (own_type (codes "PropertyChanges") (at 2 54)) (a_member (given (codes "target") (at 2 72) ([]) (value_stmt (expr (name (codes "t") (at 2 80)) auto))) false (a_member (given (codes "inner") (at 2 83) ((codes "x") ∷ []) (value_stmt (expr (steps (name (codes "r") (at 2 92)) (member (codes "x") (at 2 94)) no_steps) auto))) false (a_member (given (codes "inner") (at 2 97) ((codes "visible") ∷ []) (value_stmt (expr (literal lit.False (at 2 112)) auto))) false no_members))))) false no_members))))) false no_members)))))) ∷
    held (file false (codes "T.qml")) (is_document (document (import_module (codes "QtQuick") (at 1 8) ([]) version.Full None auto ∷ []) (object (own_type (codes "Item") (at 2 1)) (a_member (alias (at 2 8) false (codes "inner") (at 2 23) (codes "i") (at 2 30) ([]) auto) false (a_member (child (object (own_type (codes "Item") (at 2 33)) (a_member (id (at 2 40) (codes "i") (at 2 44) auto) false no_members))) false no_members))))) ∷ [])) (file false (codes "main.qml") ∷ file false (codes "T.qml") ∷ [])

changes_behind_an_alias : told (program_of_changes_behind_an_alias) ≡
    made None (codes "Item") (Builtin no.Item ∷ Builtin no.QtObject ∷ []) true 0 (
    (value (Text []), value (Text [])) ∷ (value (Num (pos 0)), value (Num (pos 0))) ∷ (value (Num (pos 0)), value (Num (pos 0))) ∷ (value (Num (pos 0)), value (Num (pos 0))) ∷ (value (Num (pos 0)), value (Num (pos 0))) ∷ (value (Num (pos 0)), value (Num (pos 0))) ∷ (value (Truth true), value (Truth true)) ∷ (rule by_visible 1, value (Truth false)) ∷ (value (Truth true), value (Truth true)) ∷ (rule by_enabled 1, value (Truth false)) ∷ (value (Text []), value (Text [])) ∷ (list ((AnObject (o 4)) ∷ []), list ([])) ∷ (value Null, value Null) ∷ []) ∷
    made (Some 1) (codes "T") (of_document 1 ∷ Builtin no.Item ∷ Builtin no.QtObject ∷ []) false 0 (
    (value (Text []), value (Text [])) ∷ (value (Num (pos 0)), value (Num (pos 0))) ∷ (value (Num (pos 0)), value (Num (pos 0))) ∷ (value (Num (pos 0)), value (Num (pos 0))) ∷ (value (Num (pos 0)), value (Num (pos 0))) ∷ (value (Num (pos 0)), value (Num (pos 0))) ∷ (value (Truth true), value (Truth true)) ∷ (rule by_visible 2, value (Truth false)) ∷ (value (Truth true), value (Truth true)) ∷ (rule by_enabled 2, value (Truth false)) ∷ (value (Text []), value (Text [])) ∷ (list ([]), list ([])) ∷ (value (AnObject (o 1)), value Null) ∷ []) ∷
    made (Some 2) (codes "Item") (Builtin no.Item ∷ Builtin no.QtObject ∷ []) false 0 (
    (value (Text []), value (Text [])) ∷ (value (Num (pos 0)), value (Num (pos 0))) ∷ (value (Num (pos 0)), value (Num (pos 0))) ∷ (value (Num (pos 0)), value (Num (pos 0))) ∷ (value (Num (pos 0)), value (Num (pos 0))) ∷ (value (Num (pos 0)), value (Num (pos 0))) ∷ (value (Truth true), value (Truth true)) ∷ (rule by_visible 3, value (Truth false)) ∷ (value (Truth true), value (Truth true)) ∷ (rule by_enabled 3, value (Truth false)) ∷ (value (Text []), value (Text [])) ∷ (list ([]), list ([])) ∷ (value (AnObject (o 2)), value Null) ∷ []) ∷
    made (Some 1) (codes "State") (Builtin no.State ∷ Builtin no.QtObject ∷ []) false 0 (
    (value (Text []), value (Text [])) ∷ (value (Text (codes "s")), value (Text [])) ∷ (value (Truth false), value (Truth false)) ∷ (value (Text []), value (Text [])) ∷ (list ((AnObject (o 5)) ∷ []), list ([])) ∷ []) ∷
    made (Some 4) (codes "PropertyChanges") (Builtin no.PropertyChanges ∷ Builtin no.QtObject ∷ []) false 0 (
    (value (Text []), value (Text [])) ∷ (value (AnObject (o 2)), value Null) ∷ (value (Truth false), value (Truth false)) ∷ (value (Truth true), value (Truth true)) ∷ []) ∷ []
unfolding program_of_changes_behind_an_alias lib.Utf8.encode digits
changes_behind_an_alias = refl

-- what a document gives through an alias goes before what a type gives, also where the type is used behind it
--   main.qml: import QtQuick 2.15 ⏎ Item { Item { property alias b: t.x; b: 7 } T { id: t } }
--   T.qml: import QtQuick 2.15 ⏎ Item { x: 3 }
program_of_outer_documents_count : Program
program_of_outer_documents_count = program_of (sources (
    held (file false (codes "main.qml")) (is_document (document (import_module (codes "QtQuick") (at 1 8) ([]) version.Full None auto ∷ []) (object (own_type (codes "Item") (at 2 1)) (a_member (child (object (own_type (codes "Item") (at 2 8)) (a_member (alias (at 2 15) false (codes "b") (at 2 30) (codes "t") (at 2 33) ((codes "x") ∷ []) auto) false (a_member (given (codes "b") (at 2 38) ([]) (value_stmt (expr (number 7 (at 2 41)) auto))) false no_members)))) false (a_member (child (object (own_type (codes "T") (at 2 45)) (a_member (id (at 2 49) (codes "t") (at 2 53) auto) false no_members))) false no_members))))) ∷
    held (file false (codes "T.qml")) (is_document (document (import_module (codes "QtQuick") (at 1 8) ([]) version.Full None auto ∷ []) (object (own_type (codes "Item") (at 2 1)) (a_member (given (codes "x") (at 2 8) ([]) (value_stmt (expr (number 3 (at 2 11)) auto))) false no_members)))) ∷ [])) (file false (codes "main.qml") ∷ file false (codes "T.qml") ∷ [])

outer_documents_count : told (program_of_outer_documents_count) ≡
    made None (codes "Item") (Builtin no.Item ∷ Builtin no.QtObject ∷ []) false 0 (
    (value (Text []), value (Text [])) ∷ (value (Num (pos 0)), value (Num (pos 0))) ∷ (value (Num (pos 0)), value (Num (pos 0))) ∷ (value (Num (pos 0)), value (Num (pos 0))) ∷ (value (Num (pos 0)), value (Num (pos 0))) ∷ (value (Num (pos 0)), value (Num (pos 0))) ∷ (value (Truth true), value (Truth true)) ∷ (rule by_visible 1, value (Truth false)) ∷ (value (Truth true), value (Truth true)) ∷ (rule by_enabled 1, value (Truth false)) ∷ (value (Text []), value (Text [])) ∷ (list ([]), list ([])) ∷ (value Null, value Null) ∷ []) ∷
    made (Some 1) (codes "Item") (Builtin no.Item ∷ Builtin no.QtObject ∷ []) false 0 (
    (value (Text []), value (Text [])) ∷ (value (Num (pos 0)), value (Num (pos 0))) ∷ (value (Num (pos 0)), value (Num (pos 0))) ∷ (value (Num (pos 0)), value (Num (pos 0))) ∷ (value (Num (pos 0)), value (Num (pos 0))) ∷ (value (Num (pos 0)), value (Num (pos 0))) ∷ (value (Truth true), value (Truth true)) ∷ (rule by_visible 2, value (Truth false)) ∷ (value (Truth true), value (Truth true)) ∷ (rule by_enabled 2, value (Truth false)) ∷ (value (Text []), value (Text [])) ∷ (list ([]), list ([])) ∷ (value (AnObject (o 1)), value Null) ∷ []) ∷
    made (Some 1) (codes "T") (of_document 1 ∷ Builtin no.Item ∷ Builtin no.QtObject ∷ []) false 0 (
    (value (Text []), value (Text [])) ∷ (value (Num (pos 7)), value (Num (pos 0))) ∷ (value (Num (pos 0)), value (Num (pos 0))) ∷ (value (Num (pos 0)), value (Num (pos 0))) ∷ (value (Num (pos 0)), value (Num (pos 0))) ∷ (value (Num (pos 0)), value (Num (pos 0))) ∷ (value (Truth true), value (Truth true)) ∷ (rule by_visible 3, value (Truth false)) ∷ (value (Truth true), value (Truth true)) ∷ (rule by_enabled 3, value (Truth false)) ∷ (value (Text []), value (Text [])) ∷ (list ([]), list ([])) ∷ (value (AnObject (o 1)), value Null) ∷ []) ∷ []
unfolding program_of_outer_documents_count lib.Utf8.encode digits
outer_documents_count = refl

-- a State from a type, and a list that is replaced
--   main.qml: import QtQuick 2.15 ⏎ L { states: [S { name: "n" }, S {}, State {}] }
--   L.qml: import QtQuick 2.15 ⏎ Item { states: [State {}, State { name: "k" }] }
--   S.qml: import QtQuick 2.15 ⏎ State { when: false;  }
-- ---- the name under which a cell was declared is never an alias's; hidden cells have none
-- ---- handed fields, over the Component of example 7 (`Item { id: k; x: r.n; .. }`) and the document of example 4
-- the first bad one is told, an alias of a whole object is readonly
-- a bad field is told before too many objects
program_of_a_list_that_is_replaced : Program
program_of_a_list_that_is_replaced = program_of (sources (
    held (file false (codes "main.qml")) (is_document (document (import_module (codes "QtQuick") (at 1 8) ([]) version.Full None auto ∷ []) (object (own_type (codes "L") (at 2 1)) (a_member (given (codes "states") (at 2 5) ([]) (value_list (at 2 13) (an_object (object (own_type (codes "S") (at 2 14)) (a_member (given (codes "name") (at 2 18) ([]) (value_stmt (expr (text (codes "n") (at 2 24)) auto))) false no_members)) (an_object (object (own_type (codes "S") (at 2 31)) no_members) (last_object (object (own_type (codes "State") (at 2 37)) no_members)))))) false no_members)))) ∷
    held (file false (codes "L.qml")) (is_document (document (import_module (codes "QtQuick") (at 1 8) ([]) version.Full None auto ∷ []) (object (own_type (codes "Item") (at 2 1)) (a_member (given (codes "states") (at 2 8) ([]) (value_list (at 2 16) (an_object (object (own_type (codes "State") (at 2 17)) no_members) (last_object (object (own_type (codes "State") (at 2 27)) (a_member (given (codes "name") (at 2 35) ([]) (value_stmt (expr (text (codes "k") (at 2 41)) auto))) false no_members)))))) false no_members)))) ∷
    held (file false (codes "S.qml")) (is_document (document (import_module (codes "QtQuick") (at 1 8) ([]) version.Full None auto ∷ []) (object (own_type (codes "State") (at 2 1)) (a_member (given (codes "when") (at 2 9) ([]) (value_stmt (expr (literal lit.False (at 2 15)) auto))) false no_members)))) ∷ [])) (file false (codes "main.qml") ∷ file false (codes "L.qml") ∷ file false (codes "S.qml") ∷ [])

a_list_that_is_replaced : told (program_of_a_list_that_is_replaced) ≡
    made None (codes "L") (of_document 1 ∷ Builtin no.Item ∷ Builtin no.QtObject ∷ []) true 0 (
    (value (Text []), value (Text [])) ∷ (value (Num (pos 0)), value (Num (pos 0))) ∷ (value (Num (pos 0)), value (Num (pos 0))) ∷ (value (Num (pos 0)), value (Num (pos 0))) ∷ (value (Num (pos 0)), value (Num (pos 0))) ∷ (value (Num (pos 0)), value (Num (pos 0))) ∷ (value (Truth true), value (Truth true)) ∷ (rule by_visible 1, value (Truth false)) ∷ (value (Truth true), value (Truth true)) ∷ (rule by_enabled 1, value (Truth false)) ∷ (value (Text []), value (Text [])) ∷ (list ((AnObject (o 4)) ∷ (AnObject (o 5)) ∷ (AnObject (o 6)) ∷ []), list ([])) ∷ (value Null, value Null) ∷ []) ∷
    made (Some 1) (codes "State") (Builtin no.State ∷ Builtin no.QtObject ∷ []) false 0 (
    (value (Text []), value (Text [])) ∷ (value (Text []), value (Text [])) ∷ (value (Truth false), value (Truth false)) ∷ (value (Text []), value (Text [])) ∷ (list ([]), list ([])) ∷ []) ∷
    made (Some 1) (codes "State") (Builtin no.State ∷ Builtin no.QtObject ∷ []) false 0 (
    (value (Text []), value (Text [])) ∷ (value (Text (codes "k")), value (Text [])) ∷ (value (Truth false), value (Truth false)) ∷ (value (Text []), value (Text [])) ∷ (list ([]), list ([])) ∷ []) ∷
    made (Some 1) (codes "S") (of_document 2 ∷ Builtin no.State ∷ Builtin no.QtObject ∷ []) false 0 (
    (value (Text []), value (Text [])) ∷ (value (Text (codes "n")), value (Text [])) ∷ (value (Truth false), value (Truth false)) ∷ (value (Text []), value (Text [])) ∷ (list ([]), list ([])) ∷ []) ∷
    made (Some 1) (codes "S") (of_document 2 ∷ Builtin no.State ∷ Builtin no.QtObject ∷ []) false 0 (
    (value (Text []), value (Text [])) ∷ (value (Text (codes "anonymousState1")), value (Text [])) ∷ (value (Truth false), value (Truth false)) ∷ (value (Text []), value (Text [])) ∷ (list ([]), list ([])) ∷ []) ∷
    made (Some 1) (codes "State") (Builtin no.State ∷ Builtin no.QtObject ∷ []) false 0 (
    (value (Text []), value (Text [])) ∷ (value (Text (codes "anonymousState2")), value (Text [])) ∷ (value (Truth false), value (Truth false)) ∷ (value (Text []), value (Text [])) ∷ (list ([]), list ([])) ∷ []) ∷ []
unfolding program_of_a_list_that_is_replaced lib.Utf8.encode digits
a_list_that_is_replaced = refl

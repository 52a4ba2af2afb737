-- The decided cases of evaluation, computed from the definition.
use Rattle.std.specs.Fmt.{digits}
use Rattle.std.proofs.Common.{◌≡◌, ℕ, pos, negsuc, List, [], ◌∷◌, true, false, ◌||◌, nat_eq, if◌then◌else◌, Some, None, codes, refl}
use Rattle.qml_base.specs.declared.numbers.Place.{Place}
use Rattle.qml_base.specs.declared.numbers.ObjNo.{ObjNo}
use Rattle.qml_syntax.specs.declared.operators.Operator.TheVariants as op
use Rattle.qml_syntax.specs.declared.operators.Prefix.TheVariants as prefix
use Rattle.qml_syntax.specs.declared.operators.Postfix.TheVariants as postfix
use Rattle.qml_syntax.specs.declared.literal.Literal.TheVariants as lit
use Rattle.qml_syntax.specs.declared.literal.Declaration.TheVariants as keep
use Rattle.qml_syntax.specs.declared.operators.Assignment.TheVariants as update
use Rattle.qml_syntax.specs.Tree.{auto, Expr, name, number, text, literal, paren, list, fields, bumped, steps, signed, chain, assign, no_exprs, an_expr, no_fields, a_field, member, element, call, binding, no_steps, a_step, no_signs, a_sign, no_links, a_link, no_targets, a_target, empty, expr, block, declare, when, while, give, Stmts, no_stmts, a_stmt, last_var, nothing, just}
use Rattle.qml_value.specs.declared.value.Value.{Value, Undefined, Null, Bool, Num, Text, Object}
use Rattle.qml_base.specs.declared.numbers.CellNo.{CellNo}
use Rattle.qml_base.specs.declared.numbers.ExprNo.{ExprNo}
use Rattle.qml_base.specs.declared.names.Home.{Home}
use Rattle.qml_base.specs.declared.names.Found.{Found}
use Rattle.qml_base.specs.declared.names.Found.TheVariants as found
use Rattle.evaluation.specs.declared.effect.Effect.{Effect}
use Rattle.evaluation.specs.declared.effect.Effect.TheVariants as effect
use Rattle.qml_base.specs.declared.cause.Cause.{Cause}
use Rattle.qml_base.specs.declared.cause.Cause.TheVariants as cause
use Rattle.evaluation.specs.declared.came.Ended.{Ended}
use Rattle.evaluation.specs.declared.came.Ended.TheVariants as by
use Rattle.js_meaning.specs.Operate.{same_units}
use Rattle.js_meaning.specs.Rows.{list_value, fields_value}
use Rattle.evaluation.specs.Ask.{Ask, ended, reads, finds, has, by_id, condemned, does, Names}
use Rattle.evaluation.specs.Evaluating.{Seen, is, evaluated}
use Rattle.evaluation.specs.declared.came.Came.{Came}
use Rattle.evaluation.specs.declared.came.Came.TheVariants as came
use Rattle.js_meaning.specs.Eval.{Function, Code, around, begins, gives_back, run_all, asks, begun_body}

abbrev here : Place
here = record { line = 1; column = 1 }

abbrev no : ℕ → ObjNo
no n = record { 0 = n }

abbrev cell : ℕ → ℕ → CellNo
cell o n = record { object = no o; place = n }

abbrev home : Home
home = record { unit = record { 0 = 0 }; scope = no 1; author = no 1 }

abbrev text_at : ℕ → ExprNo
text_at n = record { unit = record { 0 = 0 }; at = n }

abbrev looked_up : List ℕ → List (List ℕ × Found) → Found
looked_up n [] = found.Nothing
looked_up n (e ∷ es) = if same_units n e.0 then e.1 else looked_up n es

abbrev globals : List (List ℕ × Found)
globals =
    (codes "undefined", found.Global) ∷ (codes "Math", found.Global) ∷ (codes "Qt", found.Global) ∷ (codes "console", found.Global)
    ∷ (codes "String", found.Global) ∷ (codes "Loader", found.Global) ∷ (codes "Binding", found.Global) ∷ []

-- r is the id of the object 1, c that of the Component 2, k an alias of the object 3, F a script, f a function of it
abbrev own_names : List (List ℕ × Found)
own_names =
    (codes "a", found.Cell (cell 1 0)) ∷ (codes "n", found.Cell (cell 1 1)) ∷ (codes "v", found.Cell (cell 1 2)) ∷ (codes "w", found.Cell (cell 1 3))
    ∷ (codes "z", found.Cell (cell 1 4)) ∷ (codes "s", found.Cell (cell 1 5)) ∷ (codes "h", found.Cell (cell 1 6))
    ∷ (codes "r", found.Object (no 1)) ∷ (codes "c", found.Component (no 2)) ∷ (codes "k", found.Object (no 3))
    ∷ (codes "go", found.Signal (no 1) 0) ∷ (codes "g", found.Body (text_at 7) (no 1)) ∷ (codes "destroy", found.Method (no 1) None)
    ∷ (codes "get", found.Method (no 1) (Some (cell 1 21))) ∷ (codes "F", found.Script (record { 0 = 9 })) ∷ globals

abbrev script_names : List (List ℕ × Found)
script_names = (codes "f", found.Body (text_at 7) (no 0)) ∷ globals

abbrev member_names : ObjNo → List (List ℕ × Found)
member_names o =
    (codes "p", found.Cell (record { object = o; place = 0 })) ∷ (codes "g", found.Body (text_at 7) o) ∷ (codes "go", found.Signal o 0)
    ∷ (codes "destroy", found.Method o None) ∷ (codes "createObject", found.Method o None) ∷ (codes "itemAt", found.Method o (Some (record { object = o; place = 20 })))
    ∷ (codes "k", found.Object (no 3)) ∷ []

abbrev names : Names
names = record {
  resolve = λ h n. if nat_eq h.unit.0 9 then looked_up n script_names else looked_up n own_names;
  member = λ o n. looked_up n (member_names o);
  is_id = λ h n. same_units n (codes "r") || same_units n (codes "c");
}

-- a and n hold 5, v {x: 2}, w [1], z null, s "abc", h the condemned object 8
abbrev held_at : ℕ → Value
held_at n =
    if nat_eq n 0 || nat_eq n 1 then Num (pos 5)
    else if nat_eq n 2 then fields_value (record { name = codes "x"; value = Num (pos 2) } ∷ [])
    else if nat_eq n 3 then list_value (Num (pos 1) ∷ [])
    else if nat_eq n 4 then Null
    else if nat_eq n 5 then Text (codes "abc")
    else if nat_eq n 6 then Object (no 8)
    else if nat_eq n 20 then list_value (Object (no 5) ∷ [])
    else if nat_eq n 21 then list_value (list_value (Num (pos 7) ∷ fields_value (record { name = codes "a"; value = Num (pos 1) } ∷ []) ∷ []) ∷ [])
    else Undefined

abbrev held : CellNo → Value
held c = held_at c.place

abbrev reading : CellNo → Seen
reading c = is (held c)

-- function g(x) { return x + 1 }
abbrev adds : Function
adds = record { parameters = codes "x" ∷ []; statements = a_stmt (give here (just (chain (name (codes "x") here) op.Plus here (number 1 here) no_links)) auto) no_stmts }

abbrev code : Code
code = record { function = λ e. adds; bound = λ e p. text_at 8 }

abbrev gave : Value → Came
gave = came.Value

abbrev threw : Cause → Came
threw = came.Threw

abbrev outcome : Expr → Came
outcome e = (evaluated names reading (asks code home (text_at 0) e)).came

abbrev reads_of : Expr → List CellNo
reads_of e = (evaluated names reading (asks code home (text_at 0) e)).reads

-- a body with its effects, each of which comes to Undefined; the object 8 is condemned
abbrev played_on : Ask → List Effect × Ended
played_on (ended o) = ([], o)
played_on (reads c go) = played_on (go (held c))
played_on (finds h n go) = played_on (go (names.resolve h n))
played_on (has o n go) = played_on (go (names.member o n))
played_on (by_id h n go) = played_on (go (names.is_id h n))
played_on (condemned o go) = played_on (go (nat_eq o.0 8))
played_on (does e left go) = let r : List Effect × Ended = played_on (go Undefined) in (e ∷ r.0, r.1)

abbrev played : Stmts → List Effect × Ended
played ss = played_on (begun_body (record { function = λ e. if nat_eq e.at 0 then record { parameters = []; statements = ss } else adds; bound = λ e p. text_at 8 }) home (text_at 0) [] [])

-- a body over so many nodes
abbrev within : ℕ → Stmts → List Effect × Ended
within n ss = played_on (run_all (around code true (no 1) 100 home (text_at 0)) ss (begins (record { parameters = []; statements = ss }) [] n) gives_back)

-- [1, [2]] === [1, [2]]
same_lists : outcome (chain (list here (an_expr (number 1 here) (an_expr (list here (an_expr (number 2 here) no_exprs) false) no_exprs)) false) op.StrictEqual here (list here (an_expr (number 1 here) (an_expr (list here (an_expr (number 2 here) no_exprs) false) no_exprs)) false) no_links) ≡ gave (Bool true)
same_lists = refl

-- typeof nix
typeof_name : outcome (signed prefix.TypeOf here no_signs (name (codes "nix") here)) ≡ gave (Text (codes "undefined"))
typeof_name = refl

-- typeof (nix)
typeof_brackets : outcome (signed prefix.TypeOf here no_signs (paren here (name (codes "nix") here))) ≡ threw cause.Name
typeof_brackets = refl

-- ({a: 1, b: 2, a: 3})
fields_twice : outcome (paren here (fields here (a_field false (codes "a") here (number 1 here) (a_field false (codes "b") here (number 2 here) (a_field false (codes "a") here (number 3 here) no_fields))) false)) ≡ gave (fields_value (record { name = codes "a"; value = Num (pos 3) } ∷ record { name = codes "b"; value = Num (pos 2) } ∷ []))
fields_twice = refl

-- r["p"]
element_of_object : outcome (steps (name (codes "r") here) (element here (text (codes "p") here)) no_steps) ≡ gave (Num (pos 5))
element_of_object = refl

-- r["p"]
reads_element : reads_of (steps (name (codes "r") here) (element here (text (codes "p") here)) no_steps) ≡ cell 1 0 ∷ []
reads_element = refl

-- ({"1": 5})[1]
number_of_fields : outcome (steps (paren here (fields here (a_field true (codes "1") here (number 5 here) no_fields) false)) (element here (number 1 here)) no_steps) ≡ gave (Num (pos 5))
unfolding digits
number_of_fields = refl

-- "abc"[1]
place_of_text : outcome (steps (text (codes "abc") here) (element here (number 1 here)) no_steps) ≡ gave (Text (codes "b"))
place_of_text = refl

-- z[0]
null_element : outcome (steps (name (codes "z") here) (element here (number 0 here)) no_steps) ≡ threw cause.Null
null_element = refl

-- Math.PI
math_member : outcome (steps (name (codes "Math") here) (member (codes "PI") here) no_steps) ≡ threw cause.Kind
math_member = refl

-- Loader.Foo
enumeration_other : outcome (steps (name (codes "Loader") here) (member (codes "Foo") here) no_steps) ≡ threw cause.Kind
enumeration_other = refl

-- Loader.Ready
enumeration : outcome (steps (name (codes "Loader") here) (member (codes "Ready") here) no_steps) ≡ gave (Text (codes "Ready"))
enumeration = refl

-- r.g
member_function : outcome (steps (name (codes "r") here) (member (codes "g") here) no_steps) ≡ threw cause.Kind
member_function = refl

-- F.f
script_member : outcome (steps (name (codes "F") here) (member (codes "f") here) no_steps) ≡ threw cause.Kind
script_member = refl

-- undefined.x
undefined_member : outcome (steps (name (codes "undefined") here) (member (codes "x") here) no_steps) ≡ threw cause.Null
undefined_member = refl

-- typeof g
typeof_function : outcome (signed prefix.TypeOf here no_signs (name (codes "g") here)) ≡ threw cause.Kind
typeof_function = refl

-- "abc".slice()
slice_absent : outcome (steps (text (codes "abc") here) (member (codes "slice") here) (a_step (call here no_exprs) no_steps)) ≡ gave (Text (codes "abc"))
slice_absent = refl

-- String()
string_absent : outcome (steps (name (codes "String") here) (call here no_exprs) no_steps) ≡ gave (Text [])
string_absent = refl

-- true.toString()
bool_to_string : outcome (steps (literal lit.True here) (member (codes "toString") here) (a_step (call here no_exprs) no_steps)) ≡ threw cause.Call
bool_to_string = refl

-- (12).toString()
number_to_string : outcome (steps (paren here (number 12 here)) (member (codes "toString") here) (a_step (call here no_exprs) no_steps)) ≡ gave (Text (codes "12"))
unfolding digits
number_to_string = refl

-- "abc".charAt("1")
other_kind : outcome (steps (text (codes "abc") here) (member (codes "charAt") here) (a_step (call here (an_expr (text (codes "1") here) no_exprs)) no_steps)) ≡ threw cause.Kind
other_kind = refl

-- "abc".indexOf("", 9)
index_of_empty : outcome (steps (text (codes "abc") here) (member (codes "indexOf") here) (a_step (call here (an_expr (text (codes "") here) (an_expr (number 9 here) no_exprs))) no_steps)) ≡ gave (Num (pos 3))
index_of_empty = refl

-- "abc".indexOf("cb")
index_of_none : outcome (steps (text (codes "abc") here) (member (codes "indexOf") here) (a_step (call here (an_expr (text (codes "cb") here) no_exprs)) no_steps)) ≡ gave (Num (negsuc 0))
index_of_none = refl

-- "abcd".slice(3, 1)
slice_turned : outcome (steps (text (codes "abcd") here) (member (codes "slice") here) (a_step (call here (an_expr (number 3 here) (an_expr (number 1 here) no_exprs))) no_steps)) ≡ gave (Text [])
slice_turned = refl

-- "abcd".substring(3, 1)
substring_turned : outcome (steps (text (codes "abcd") here) (member (codes "substring") here) (a_step (call here (an_expr (number 3 here) (an_expr (number 1 here) no_exprs))) no_steps)) ≡ gave (Text (codes "bc"))
substring_turned = refl

-- "xx".split("x")
split_end : outcome (steps (text (codes "xx") here) (member (codes "split") here) (a_step (call here (an_expr (text (codes "x") here) no_exprs)) no_steps)) ≡ gave (list_value (Text [] ∷ Text [] ∷ Text [] ∷ []))
split_end = refl

-- "".split(",")
split_empty_by : outcome (steps (text (codes "") here) (member (codes "split") here) (a_step (call here (an_expr (text (codes ",") here) no_exprs)) no_steps)) ≡ gave (list_value (Text [] ∷ []))
split_empty_by = refl

-- "a,b,c".split(",", 2)
split_limit : outcome (steps (text (codes "a,b,c") here) (member (codes "split") here) (a_step (call here (an_expr (text (codes ",") here) (an_expr (number 2 here) no_exprs))) no_steps)) ≡ gave (list_value (Text (codes "a") ∷ Text (codes "b") ∷ []))
split_limit = refl

-- [1, 2, 1].indexOf(1, -2)
list_index_from : outcome (steps (list here (an_expr (number 1 here) (an_expr (number 2 here) (an_expr (number 1 here) no_exprs))) false) (member (codes "indexOf") here) (a_step (call here (an_expr (number 1 here) (an_expr (signed prefix.Minus here no_signs (number 2 here)) no_exprs))) no_steps)) ≡ gave (Num (pos 2))
list_index_from = refl

-- [1].includes()
list_includes_absent : outcome (steps (list here (an_expr (number 1 here) no_exprs) false) (member (codes "includes") here) (a_step (call here no_exprs) no_steps)) ≡ gave (Bool false)
list_includes_absent = refl

-- [1].concat([2, [3]], 4)
concat : outcome (steps (list here (an_expr (number 1 here) no_exprs) false) (member (codes "concat") here) (a_step (call here (an_expr (list here (an_expr (number 2 here) (an_expr (list here (an_expr (number 3 here) no_exprs) false) no_exprs)) false) (an_expr (number 4 here) no_exprs))) no_steps)) ≡ gave (list_value (Num (pos 1) ∷ Num (pos 2) ∷ list_value (Num (pos 3) ∷ []) ∷ Num (pos 4) ∷ []))
concat = refl

-- Math.max(3, -2, 7)
greatest : outcome (steps (name (codes "Math") here) (member (codes "max") here) (a_step (call here (an_expr (number 3 here) (an_expr (signed prefix.Minus here no_signs (number 2 here)) (an_expr (number 7 here) no_exprs)))) no_steps)) ≡ gave (Num (pos 7))
greatest = refl

-- Math.min()
least_none : outcome (steps (name (codes "Math") here) (member (codes "min") here) (a_step (call here no_exprs) no_steps)) ≡ threw cause.Kind
least_none = refl

-- r.itemAt(0)
item_at : outcome (steps (name (codes "r") here) (member (codes "itemAt") here) (a_step (call here (an_expr (number 0 here) no_exprs)) no_steps)) ≡ gave (Object (no 5))
item_at = refl

-- r.itemAt(0)
reads_item : reads_of (steps (name (codes "r") here) (member (codes "itemAt") here) (a_step (call here (an_expr (number 0 here) no_exprs)) no_steps)) ≡ cell 1 20 ∷ []
reads_item = refl

-- r.itemAt(1)
item_outside : outcome (steps (name (codes "r") here) (member (codes "itemAt") here) (a_step (call here (an_expr (number 1 here) no_exprs)) no_steps)) ≡ gave (Null)
item_outside = refl

-- get(-1)
row_outside : outcome (steps (name (codes "get") here) (call here (an_expr (signed prefix.Minus here no_signs (number 1 here)) no_exprs)) no_steps) ≡ gave (Undefined)
row_outside = refl

-- Math.floor(1, 7 / 2)
first_argument : outcome (steps (name (codes "Math") here) (member (codes "floor") here) (a_step (call here (an_expr (number 1 here) (an_expr (chain (number 7 here) op.Divide here (number 2 here) no_links) no_exprs))) no_steps)) ≡ threw cause.Inexact
first_argument = refl

-- Math.floor(7 * 3 / 2)
last_operator : outcome (steps (name (codes "Math") here) (member (codes "floor") here) (a_step (call here (an_expr (chain (number 7 here) op.Times here (number 3 here) (a_link op.Divide here (number 2 here) no_links)) no_exprs)) no_steps)) ≡ gave (Num (pos 10))
last_operator = refl

-- Math.floor(7 / 2 * 3)
not_last : outcome (steps (name (codes "Math") here) (member (codes "floor") here) (a_step (call here (an_expr (chain (number 7 here) op.Divide here (number 2 here) (a_link op.Times here (number 3 here) no_links)) no_exprs)) no_steps)) ≡ threw cause.Inexact
not_last = refl

-- r.g(1)
called_by_id : outcome (steps (name (codes "r") here) (member (codes "g") here) (a_step (call here (an_expr (number 1 here) no_exprs)) no_steps)) ≡ gave (Num (pos 2))
called_by_id = refl

-- k.g(1)
by_alias : outcome (steps (name (codes "k") here) (member (codes "g") here) (a_step (call here (an_expr (number 1 here) no_exprs)) no_steps)) ≡ threw cause.Call
by_alias = refl

-- h.g(1)
by_value : outcome (steps (name (codes "h") here) (member (codes "g") here) (a_step (call here (an_expr (number 1 here) no_exprs)) no_steps)) ≡ threw cause.Call
by_value = refl

-- F.f(1)
by_qualifier : outcome (steps (name (codes "F") here) (member (codes "f") here) (a_step (call here (an_expr (number 1 here) no_exprs)) no_steps)) ≡ gave (Num (pos 2))
by_qualifier = refl

-- F.go(1)
qualifier_no_function : outcome (steps (name (codes "F") here) (member (codes "go") here) (a_step (call here (an_expr (number 1 here) no_exprs)) no_steps)) ≡ threw cause.Call
qualifier_no_function = refl

-- c.p
component_member : outcome (steps (name (codes "c") here) (member (codes "p") here) no_steps) ≡ gave (Num (pos 5))
component_member = refl

-- c.g(3)
component_function : outcome (steps (name (codes "c") here) (member (codes "g") here) (a_step (call here (an_expr (number 3 here) no_exprs)) no_steps)) ≡ gave (Num (pos 4))
component_function = refl

-- go()
effect_in_binding : outcome (steps (name (codes "go") here) (call here no_exprs) no_steps) ≡ threw cause.Call
effect_in_binding = refl

-- const c; console.log(c)
const_without_value : played (a_stmt (declare here keep.Const (last_var (codes "c") here nothing) auto) (a_stmt (expr (steps (name (codes "console") here) (member (codes "log") here) (a_step (call here (an_expr (name (codes "c") here) no_exprs)) no_steps)) auto) no_stmts)) ≡ (effect.Call Undefined (codes "log") (Undefined ∷ []) ∷ [], by.Value (Undefined))
const_without_value = refl

-- let y = 1; { console.log(y); let y = 2 }
before_declaration : played (a_stmt (declare here keep.Let (last_var (codes "y") here (just (number 1 here))) auto) (a_stmt (block here (a_stmt (expr (steps (name (codes "console") here) (member (codes "log") here) (a_step (call here (an_expr (name (codes "y") here) no_exprs)) no_steps)) auto) (a_stmt (declare here keep.Let (last_var (codes "y") here (just (number 2 here))) auto) no_stmts))) no_stmts)) ≡ ([], by.Threw cause.Name)
before_declaration = refl

-- let y = 1; { let y = 2; console.log(y) } console.log(y)
let_of_block : played (a_stmt (declare here keep.Let (last_var (codes "y") here (just (number 1 here))) auto) (a_stmt (block here (a_stmt (declare here keep.Let (last_var (codes "y") here (just (number 2 here))) auto) (a_stmt (expr (steps (name (codes "console") here) (member (codes "log") here) (a_step (call here (an_expr (name (codes "y") here) no_exprs)) no_steps)) auto) no_stmts))) (a_stmt (expr (steps (name (codes "console") here) (member (codes "log") here) (a_step (call here (an_expr (name (codes "y") here) no_exprs)) no_steps)) auto) no_stmts))) ≡ (effect.Call Undefined (codes "log") (Num (pos 2) ∷ []) ∷ effect.Call Undefined (codes "log") (Num (pos 1) ∷ []) ∷ [], by.Value (Undefined))
let_of_block = refl

-- let a = 1; let a = 2; console.log(a)
two_declarations : played (a_stmt (declare here keep.Let (last_var (codes "a") here (just (number 1 here))) auto) (a_stmt (declare here keep.Let (last_var (codes "a") here (just (number 2 here))) auto) (a_stmt (expr (steps (name (codes "console") here) (member (codes "log") here) (a_step (call here (an_expr (name (codes "a") here) no_exprs)) no_steps)) auto) no_stmts))) ≡ (effect.Call Undefined (codes "log") (Num (pos 2) ∷ []) ∷ [], by.Value (Undefined))
two_declarations = refl

-- console.log(x); { var x = 1 } console.log(x)
var_of_body : played (a_stmt (expr (steps (name (codes "console") here) (member (codes "log") here) (a_step (call here (an_expr (name (codes "x") here) no_exprs)) no_steps)) auto) (a_stmt (block here (a_stmt (declare here keep.Var (last_var (codes "x") here (just (number 1 here))) auto) no_stmts)) (a_stmt (expr (steps (name (codes "console") here) (member (codes "log") here) (a_step (call here (an_expr (name (codes "x") here) no_exprs)) no_steps)) auto) no_stmts))) ≡ (effect.Call Undefined (codes "log") (Undefined ∷ []) ∷ effect.Call Undefined (codes "log") (Num (pos 1) ∷ []) ∷ [], by.Value (Undefined))
var_of_body = refl

-- { const a = 1; { var a = 2 } }
var_in_block : played (a_stmt (block here (a_stmt (declare here keep.Const (last_var (codes "a") here (just (number 1 here))) auto) (a_stmt (block here (a_stmt (declare here keep.Var (last_var (codes "a") here (just (number 2 here))) auto) no_stmts)) no_stmts))) no_stmts) ≡ ([], by.Threw cause.Readonly)
var_in_block = refl

-- if (typeof b) const b
declaration_of_if : played (a_stmt (when here (signed prefix.TypeOf here no_signs (name (codes "b") here)) (declare here keep.Const (last_var (codes "b") here nothing) auto)) no_stmts) ≡ ([], by.Threw cause.Name)
declaration_of_if = refl

-- w[0] = 1
assign_element : played (a_stmt (expr (assign (steps (name (codes "w") here) (element here (number 0 here)) no_steps) update.Plain here no_targets (number 1 here)) auto) no_stmts) ≡ ([], by.Threw cause.Kind)
assign_element = refl

-- v.x = 1
assign_field : played (a_stmt (expr (assign (steps (name (codes "v") here) (member (codes "x") here) no_steps) update.Plain here no_targets (number 1 here)) auto) no_stmts) ≡ ([], by.Threw cause.Kind)
assign_field = refl

-- r = 1
assign_id : played (a_stmt (expr (assign (name (codes "r") here) update.Plain here no_targets (number 1 here)) auto) no_stmts) ≡ ([], by.Threw cause.Name)
assign_id = refl

-- k = null
assign_alias : played (a_stmt (expr (assign (name (codes "k") here) update.Plain here no_targets (literal lit.Null here)) auto) no_stmts) ≡ ([], by.Threw cause.Readonly)
assign_alias = refl

-- r.k = null
assign_own_alias : played (a_stmt (expr (assign (steps (name (codes "r") here) (member (codes "k") here) no_steps) update.Plain here no_targets (literal lit.Null here)) auto) no_stmts) ≡ ([], by.Threw cause.Readonly)
assign_own_alias = refl

-- r += 1
compound_first : played (a_stmt (expr (assign (name (codes "r") here) update.Plus here no_targets (number 1 here)) auto) no_stmts) ≡ ([], by.Threw cause.Kind)
compound_first = refl

-- r.p = a = 7
assigned_twice : played (a_stmt (expr (assign (steps (name (codes "r") here) (member (codes "p") here) no_steps) update.Plain here (a_target (name (codes "a") here) update.Plain here no_targets) (number 7 here)) auto) no_stmts) ≡ (effect.Write (cell 1 0) (Num (pos 7)) ∷ effect.Write (cell 1 0) (Num (pos 7)) ∷ [], by.Value (Undefined))
assigned_twice = refl

-- r["p"] = 3
assign_object_element : played (a_stmt (expr (assign (steps (name (codes "r") here) (element here (text (codes "p") here)) no_steps) update.Plain here no_targets (number 3 here)) auto) no_stmts) ≡ (effect.Write (cell 1 0) (Num (pos 3)) ∷ [], by.Value (Undefined))
assign_object_element = refl

-- a++; --r.p; return a++
bump : played (a_stmt (expr (bumped (name (codes "a") here) postfix.Increment here) auto) (a_stmt (expr (signed prefix.Decrement here no_signs (steps (name (codes "r") here) (member (codes "p") here) no_steps)) auto) (a_stmt (give here (just (bumped (name (codes "a") here) postfix.Increment here)) auto) no_stmts))) ≡ (effect.Write (cell 1 0) (Num (pos 6)) ∷ effect.Write (cell 1 0) (Num (pos 4)) ∷ effect.Write (cell 1 0) (Num (pos 6)) ∷ [], by.Value (Num (pos 5)))
bump = refl

-- return ++n
bump_back : played (a_stmt (give here (just (signed prefix.Increment here no_signs (name (codes "n") here))) auto) no_stmts) ≡ (effect.Write (cell 1 1) (Num (pos 6)) ∷ [], by.Value (Num (pos 6)))
bump_back = refl

-- return -++n
bump_minus : played (a_stmt (give here (just (signed prefix.Minus here (a_sign prefix.Increment here no_signs) (name (codes "n") here))) auto) no_stmts) ≡ (effect.Write (cell 1 1) (Num (pos 6)) ∷ [], by.Value (Num (negsuc 5)))
bump_minus = refl

-- var i = 1; i++; return i--
bump_local : played (a_stmt (declare here keep.Var (last_var (codes "i") here (just (number 1 here))) auto) (a_stmt (expr (bumped (name (codes "i") here) postfix.Increment here) auto) (a_stmt (give here (just (bumped (name (codes "i") here) postfix.Decrement here)) auto) no_stmts))) ≡ ([], by.Value (Num (pos 2)))
bump_local = refl

-- const i = 1; i++
bump_const : played (a_stmt (declare here keep.Const (last_var (codes "i") here (just (number 1 here))) auto) (a_stmt (expr (bumped (name (codes "i") here) postfix.Increment here) auto) no_stmts)) ≡ ([], by.Threw cause.Readonly)
bump_const = refl

-- nix(console.log("a"))
callee_name : played (a_stmt (expr (steps (name (codes "nix") here) (call here (an_expr (steps (name (codes "console") here) (member (codes "log") here) (a_step (call here (an_expr (text (codes "a") here) no_exprs)) no_steps)) no_exprs)) no_steps) auto) no_stmts) ≡ ([], by.Threw cause.Name)
callee_name = refl

-- h.g(console.log("a"))
gone_after : played (a_stmt (expr (steps (name (codes "h") here) (member (codes "g") here) (a_step (call here (an_expr (steps (name (codes "console") here) (member (codes "log") here) (a_step (call here (an_expr (text (codes "a") here) no_exprs)) no_steps)) no_exprs)) no_steps)) auto) no_stmts) ≡ (effect.Call Undefined (codes "log") (Text (codes "a") ∷ []) ∷ [], by.Threw cause.Gone)
gone_after = refl

-- h.go()
gone_signal : played (a_stmt (expr (steps (name (codes "h") here) (member (codes "go") here) (a_step (call here no_exprs) no_steps)) auto) no_stmts) ≡ ([], by.Threw cause.Gone)
gone_signal = refl

-- c.createObject(r, {p: 1})
method_of_component : played (a_stmt (expr (steps (name (codes "c") here) (member (codes "createObject") here) (a_step (call here (an_expr (name (codes "r") here) (an_expr (fields here (a_field false (codes "p") here (number 1 here) no_fields) false) no_exprs))) no_steps)) auto) no_stmts) ≡ (effect.Call (Object (no 2)) (codes "createObject") (Object (no 1) ∷ fields_value (record { name = codes "p"; value = Num (pos 1) } ∷ []) ∷ []) ∷ [], by.Value (Undefined))
method_of_component = refl

-- a = Qt.binding(5)
qt_binding_argument : played (a_stmt (expr (assign (name (codes "a") here) update.Plain here no_targets (steps (name (codes "Qt") here) (member (codes "binding") here) (a_step (call here (an_expr (number 5 here) no_exprs)) no_steps))) auto) no_stmts) ≡ ([], by.Threw cause.Kind)
qt_binding_argument = refl

-- n = a = Qt.binding(function() { return 5 })
qt_binding_value : played (a_stmt (expr (assign (name (codes "n") here) update.Plain here (a_target (name (codes "a") here) update.Plain here no_targets) (steps (name (codes "Qt") here) (member (codes "binding") here) (a_step (binding here (a_stmt (give here (just (number 5 here)) auto) no_stmts)) no_steps))) auto) no_stmts) ≡ (effect.Rebind (cell 1 0) (text_at 8) home ∷ effect.Write (cell 1 1) (Undefined) ∷ [], by.Value (Undefined))
qt_binding_value = refl

-- r.p = Qt.binding(function() { return 1 })
qt_binding_member : played (a_stmt (expr (assign (steps (name (codes "r") here) (member (codes "p") here) no_steps) update.Plain here no_targets (steps (name (codes "Qt") here) (member (codes "binding") here) (a_step (binding here (a_stmt (give here (just (number 1 here)) auto) no_stmts)) no_steps))) auto) no_stmts) ≡ (effect.Rebind (cell 1 0) (text_at 8) home ∷ [], by.Value (Undefined))
qt_binding_member = refl

-- var Qt = 5; a = Qt.binding(function() { return 1 })
qt_binding_local_qt : played (a_stmt (declare here keep.Var (last_var (codes "Qt") here (just (number 5 here))) auto) (a_stmt (expr (assign (name (codes "a") here) update.Plain here no_targets (steps (name (codes "Qt") here) (member (codes "binding") here) (a_step (binding here (a_stmt (give here (just (number 1 here)) auto) no_stmts)) no_steps))) auto) no_stmts)) ≡ (effect.Rebind (cell 1 0) (text_at 8) home ∷ [], by.Value (Undefined))
qt_binding_local_qt = refl

-- var i = 0; while (i < 2) { i = i + 1 } ;;;;
assignment_nodes_fits : within 28 (a_stmt (declare here keep.Var (last_var (codes "i") here (just (number 0 here))) auto) (a_stmt (while here (chain (name (codes "i") here) op.Less here (number 2 here) no_links) (block here (a_stmt (expr (assign (name (codes "i") here) update.Plain here no_targets (chain (name (codes "i") here) op.Plus here (number 1 here) no_links)) auto) no_stmts))) (a_stmt (empty here) (a_stmt (empty here) (a_stmt (empty here) (a_stmt (empty here) no_stmts)))))) ≡ ([], by.Value Undefined)
assignment_nodes_fits = refl

assignment_nodes_fails : (within 27 (a_stmt (declare here keep.Var (last_var (codes "i") here (just (number 0 here))) auto) (a_stmt (while here (chain (name (codes "i") here) op.Less here (number 2 here) no_links) (block here (a_stmt (expr (assign (name (codes "i") here) update.Plain here no_targets (chain (name (codes "i") here) op.Plus here (number 1 here) no_links)) auto) no_stmts))) (a_stmt (empty here) (a_stmt (empty here) (a_stmt (empty here) (a_stmt (empty here) no_stmts))))))).1 ≡ by.Threw cause.Nodes
assignment_nodes_fails = refl

-- var i = 0; while (i < 2) { i++; g(1) } ;;
call_nodes_fits : within 34 (a_stmt (declare here keep.Var (last_var (codes "i") here (just (number 0 here))) auto) (a_stmt (while here (chain (name (codes "i") here) op.Less here (number 2 here) no_links) (block here (a_stmt (expr (bumped (name (codes "i") here) postfix.Increment here) auto) (a_stmt (expr (steps (name (codes "g") here) (call here (an_expr (number 1 here) no_exprs)) no_steps) auto) no_stmts)))) (a_stmt (empty here) (a_stmt (empty here) no_stmts)))) ≡ ([], by.Value Undefined)
call_nodes_fits = refl

call_nodes_fails : (within 33 (a_stmt (declare here keep.Var (last_var (codes "i") here (just (number 0 here))) auto) (a_stmt (while here (chain (name (codes "i") here) op.Less here (number 2 here) no_links) (block here (a_stmt (expr (bumped (name (codes "i") here) postfix.Increment here) auto) (a_stmt (expr (steps (name (codes "g") here) (call here (an_expr (number 1 here) no_exprs)) no_steps) auto) no_stmts)))) (a_stmt (empty here) (a_stmt (empty here) no_stmts))))).1 ≡ by.Threw cause.Nodes
call_nodes_fails = refl

-- -7 % 3
remainder_sign : outcome (chain (signed prefix.Minus here no_signs (number 7 here)) op.Remainder here (number 3 here) no_links) ≡ gave (Num (negsuc 0))
remainder_sign = refl

-- 6 / 4
inexact : outcome (chain (number 6 here) op.Divide here (number 4 here) no_links) ≡ threw cause.Inexact
inexact = refl

-- -1 >>> 0
unsigned : outcome (chain (signed prefix.Minus here no_signs (number 1 here)) op.ShiftRightUnsigned here (number 0 here) no_links) ≡ gave (Num (pos 4294967295))
unsigned = refl

-- 9007199254740992 + 1
past : outcome (chain (number 9007199254740992 here) op.Plus here (number 1 here) no_links) ≡ came.Past
past = refl

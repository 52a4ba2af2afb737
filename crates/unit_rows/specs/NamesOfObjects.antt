-- The names that objects declare, with what they find, and the handlers that they are written with.
use Rattle.std.specs.Prelude.{ℕ, suc, Bool, true, false, not, ◌&&◌, nat_eq, if◌then◌else◌, List, [], ◌∷◌, ◌++◌, map, length, drop, codes, Option, Some, None}
use Rattle.std.specs.Str.{bytes_eq}
use Rattle.std.specs.Option.{option_map, unwrap_or}
use Rattle.std.specs.List.{filter, filter_map, find}
use Rattle.qml_base.specs.declared.numbers.Place.{Place}
use Rattle.qml_syntax.specs.Tree.{Units}
use Rattle.qml_types.specs.declared.kind.TypeNo.TheVariants as no
use Rattle.program_names.specs.Names.{handler_of, is_handler_name}
use Rattle.program_names.specs.Written.{WrittenMember, a_function, a_value}
use Rattle.program_names.specs.Loaded.{Program}
use Rattle.program_names.specs.Layers.{Named, NameMeaning, a_cell, a_signal_of, a_function_of, a_method, an_alias_of, the_children, names, type_names, is_type}
use Rattle.program_names.specs.Components.{Roots}
use Rattle.program_names.specs.PathMeanings.{way_to, PathEnd, at_cell, at_object, at_nothing, in_circle, end_of_alias}
use Rattle.unit_rows.specs.Rows.{SignalRef, change_of, own_signal, of_target, on_completed, on_destruction, HandlerRow, NameFinds, finds_cell, finds_signal, finds_function, finds_method, finds_object, finds_cell_of, NameRow}
use Rattle.unit_rows.specs.Bodies.{NumberedMember, numbered}

abbrev same_place : Place → Place → Bool
same_place a b = nat_eq a.line b.line && nat_eq a.column b.column

abbrev is_function_at : Place → WrittenMember → Bool
is_function_at at (a_function q f n p) = same_place p at
is_function_at at _ = false

-- the body of the function whose name stands at a place
abbrev body_of_function : Program → ℕ → Place → ℕ
body_of_function p d at =
    unwrap_or (option_map (λ (r : NumberedMember). r.body) (find (λ (r : NumberedMember). is_function_at at r.member) (numbered p d))) 0

abbrev name_row : Units → NameFinds → NameRow
name_row name finds = record { name = name; finds = finds }

abbrev finds_by_end : PathEnd → List NameFinds
finds_by_end (at_cell w place k a) = finds_cell_of w place a ∷ []
finds_by_end (at_object s) = finds_object (way_to s) ∷ []
finds_by_end at_nothing = []
finds_by_end in_circle = []

abbrev Ends : Type 0
Ends = ℕ → ℕ → List Units → PathEnd

-- a signal behind a cell is that of its change, another one is the own signal of a number
abbrev signal_row : Units → ℕ → List Units → Option ℕ → NameRow
signal_row name n parameters (Some place) = name_row name (finds_signal (change_of place) parameters)
signal_row name n parameters None = name_row name (finds_signal (own_signal n) parameters)

abbrev next_signal : ℕ → Option ℕ → ℕ
next_signal n (Some place) = n
next_signal n None = suc n

-- names with what they find; the own signals are numbered from n on, and `cell` is that of the name before
abbrev rows_of_names : (Place → ℕ) → Ends → ℕ → Option ℕ → List Named → List NameRow
rows_of_names body ends n cell [] = []
rows_of_names body ends n cell (x ∷ rest) = elim (x.what) as (λ _. List NameRow) [
  | a_cell place k a ↦ name_row x.name (finds_cell place a) ∷ rows_of_names body ends n (Some place) rest
  | a_signal_of parameters ↦ signal_row x.name n parameters cell ∷ rows_of_names body ends (next_signal n cell) None rest
  | a_function_of d o f ↦ name_row x.name (finds_function (body x.at)) ∷ rows_of_names body ends n None rest
  | a_method ↦ name_row x.name finds_method ∷ rows_of_names body ends n None rest
  | an_alias_of d o target ↦ map (name_row x.name) (finds_by_end (ends d o target)) ++ rows_of_names body ends n None rest
  | the_children ↦ rows_of_names body ends n None rest
]

abbrev no_body : Place → ℕ
no_body at = 0

abbrev no_end : Ends
no_end d o target = at_nothing

-- the names of a built-in type
abbrev pub rows_of_type : List Named → List NameRow
rows_of_type ns = rows_of_names no_body no_end 0 None ns

abbrev is_own : SignalRef → Bool
is_own (own_signal n) = true
is_own _ = false

abbrev is_own_signal : NameRow → Bool
is_own_signal r = elim (r.finds) as (λ _. Bool) [ finds_signal s parameters ↦ is_own s | _ ↦ false ]

-- how many own signals an object's type has
abbrev signals_of_type : Program → ℕ → ℕ → ℕ
signals_of_type p d o = length (filter is_own_signal (rows_of_type (type_names p d o)))

abbrev declared_names : Program → ℕ → ℕ → List Named
declared_names p d o = drop (length (type_names p d o)) (names p d o)

abbrev is_for_target : Program → ℕ → ℕ → Units → Bool
is_for_target p d o n = is_type p d o no.Connections && is_handler_name n

-- a handler of a Connections that is written as a function isn't found as one
abbrev is_found : Program → ℕ → ℕ → Named → Bool
is_found p d o x = elim (x.what) as (λ _. Bool) [ a_function_of e i f ↦ not (is_for_target p d o x.name) | _ ↦ true ]

-- the names that an object declares
abbrev pub own_rows : Program → Roots → ℕ → ℕ → List NameRow
own_rows p roots d o =
    rows_of_names (body_of_function p d) (end_of_alias p roots) (signals_of_type p d o) None (filter (is_found p d o) (declared_names p d o))

-- ---- handlers

-- all names of an object but aliases
abbrev rows_but_aliases : Program → ℕ → ℕ → List NameRow
rows_but_aliases p d o = rows_of_names no_body no_end 0 None (names p d o)

abbrev handler_row : ℕ → SignalRef → HandlerRow
handler_row body s = record { signal = s; body = body }

abbrev signal_under : Units → NameRow → Option SignalRef
signal_under handler r = elim (r.finds) as (λ _. Option SignalRef) [
  | finds_signal s parameters ↦ if bytes_eq (handler_of r.name) handler then Some s else None
  | _ ↦ None
]

abbrev attached_signal : Units → List SignalRef
attached_signal n =
    if bytes_eq n (codes "onCompleted") then on_completed ∷ []
    else (if bytes_eq n (codes "onDestruction") then on_destruction ∷ [] else [])

-- the signals for which a path gives a handler
abbrev signals_handled : Program → ℕ → ℕ → List Units → List SignalRef
signals_handled p d o (n ∷ []) =
    elim (is_for_target p d o n) [ true ↦ of_target n ∷ [] | false ↦ filter_map (signal_under n) (rows_but_aliases p d o) ]
signals_handled p d o (c ∷ n ∷ []) = if bytes_eq c (codes "Component") then attached_signal n else []
signals_handled p d o _ = []

abbrev pub handlers_of : Program → ℕ → NumberedMember → List HandlerRow
handlers_of p d r = elim (r.member) as (λ _. List HandlerRow) [
  | a_value at path v ↦ map (handler_row r.body) (signals_handled p d r.object path)
  | a_function q f n at ↦ if is_for_target p d r.object n then handler_row r.body (of_target n) ∷ [] else []
  | _ ↦ []
]

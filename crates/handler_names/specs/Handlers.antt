-- The names of handlers that an object has: for the signals that it declares, that the documents of its types declare, and that its
-- built-in type has.
use Rattle.std.specs.Prelude.{ℕ, zero, suc, ◌+◌, ◌-◌, Bool, true, false, ◌&&◌, ◌||◌, not, nat_eq, nat_le, if◌then◌else◌, List, [], ◌∷◌, ◌++◌, slice_get, Option, Some, None, is_some}
use Rattle.std.specs.Option.{option_and_then}
use Rattle.name_table.specs.Named.{under, put}
use Rattle.qml_syntax.specs.Tree.{Units}
use Rattle.qml_types.specs.declared.kind.TypeNo.{TypeNo}
use Rattle.qml_types.specs.declared.kind.TypeRef.{TypeRef}
use Rattle.qml_types.specs.declared.kind.TypeRef.TheVariants.{Builtin, Document as OfDocument}
use Rattle.program_names.specs.Names.{is_small_letter, changed, handler_of}
use Rattle.document_members.specs.declared.member.Member.{Member}
use Rattle.document_members.specs.declared.member.Member.TheVariants as m
use Rattle.program_tables.specs.declared.built_in.BuiltInName.{BuiltInName}
use Rattle.program_tables.specs.declared.built_in.BuiltInName.TheVariants as b
use Rattle.program_tables.specs.declared.building.UnitRow.{UnitRow}
use Rattle.program_tables.specs.declared.names.ObjectNames.{ObjectNames}
use Rattle.program_tables.specs.declared.names.UnitNames.{UnitNames}
use Rattle.program_tables.specs.BuiltIn.{built_in}
use Rattle.program_tables.specs.Building.{is_group, is_inside}
use Rattle.program_tables.specs.Types.{base_in}
use Rattle.handler_names.specs.declared.declared.UnitHandlers.{UnitHandlers}

-- ---- built-in types: a handler is for the signal behind `on`, and for the one of which that has the first letter raised

abbrev pub behind_on : Units → Option Units
behind_on (o ∷ n ∷ rest) = if nat_eq o 111 then if nat_eq n 110 then Some rest else None else None
behind_on _ = None

-- whether this is some name with its first letter raised
abbrev pub is_raised : Units → Bool
is_raised [] = true
is_raised (c ∷ rest) = not (is_small_letter c)

abbrev pub is_large_letter : ℕ → Bool
is_large_letter c = nat_le 65 c && nat_le c 90

abbrev pub lowered_letter : ℕ → ℕ
lowered_letter c = if is_large_letter c then c + 32 else c

abbrev pub raised_letter : ℕ → ℕ
raised_letter c = if is_small_letter c then c - 32 else c

-- the name with its first letter lowered where that is one of A to Z
abbrev pub lowered : Units → Units
lowered [] = []
lowered (c ∷ rest) = lowered_letter c ∷ rest

abbrev pub is_signal : Option BuiltInName → Bool
is_signal (Some b.Changed) = true
is_signal (Some (b.Signal t i)) = true
is_signal _ = false

abbrev pub has_signal : TypeNo → Units → Bool
has_signal t name = is_signal (built_in t name)

abbrev pub handles_raised : TypeNo → Units → Bool
handles_raised t rest = is_raised rest && (has_signal t rest || has_signal t (lowered rest))

abbrev pub handles_behind : TypeNo → Option Units → Bool
handles_behind t None = false
handles_behind t (Some rest) = handles_raised t rest

-- whether a name is that of the handler for a signal of a built-in type or of one that it stands on
abbrev pub type_handles : TypeNo → Units → Bool
type_handles t handler = handles_behind t (behind_on handler)

-- ---- what objects declare, row after row

-- the handlers of an object
abbrev pub Handlers : Type 0
Handlers = List (Units × Bool)

abbrev pub no_handlers : ObjectNames → Handlers
no_handlers x = []

-- the signal that a member declares, which isn't in a group
abbrev pub signal_given : Bool → Member → Option Units
signal_given false (m.Property p a k name at v) = Some (changed name)
signal_given false (m.Signal p name at parameters) = Some name
signal_given _ _ = None

abbrev pub handler_put : List Handlers → ℕ → Units → List Handlers
handler_put [] o handler = []
handler_put (x ∷ rest) zero handler = put x handler true ∷ rest
handler_put (x ∷ rest) (suc o) handler = x ∷ handler_put rest o handler

abbrev pub changes_put : List Handlers → ℕ → Units → List Handlers
changes_put tables o name = handler_put tables o (handler_of (changed name))

abbrev pub put_if : List Handlers → ℕ → Option Units → List Handlers
put_if tables o None = tables
put_if tables o (Some signal) = handler_put tables o (handler_of signal)

abbrev pub handler_added : Bool → UnitRow → List Handlers → List Handlers
handler_added inside r tables = put_if tables r.row.object (signal_given inside r.member)

abbrev pub handlers_added : List Bool → List UnitRow → List Handlers → List Handlers
handlers_added grouping [] tables = tables
handlers_added grouping (r ∷ rest) tables =
    let inside = is_inside grouping r.row.group in
    handlers_added (grouping ++ (inside || is_group r.member) ∷ []) rest (handler_added inside r tables)

abbrev pub has_handler : List Handlers → ℕ → Units → Bool
has_handler tables o handler = is_some (option_and_then (λ (x : Handlers). under x handler) (slice_get tables o))

-- ---- layer by layer

-- whether a name is that of the handler for a signal that an object itself declares
abbrev pub declares : List UnitHandlers → ℕ → ℕ → Units → Bool
declares hs d o handler =
    is_some (option_and_then (λ (u : UnitHandlers). option_and_then (λ (x : Handlers). under x handler) (slice_get u.objects.items o)) (slice_get hs d))

abbrev pub handled_below : (ℕ → Bool) → Units → TypeRef → Bool
handled_below deeper handler (Builtin t) = type_handles t handler
handled_below deeper handler (OfDocument e) = deeper e.0

-- in at most so many layers of documents
abbrev pub handled_at : ℕ → List UnitNames → List UnitHandlers → ℕ → ℕ → Units → Bool
handled_at zero us hs d o handler = false
handled_at (suc f) us hs d o handler =
    declares hs d o handler || handled_below (λ e. handled_at f us hs e 0 handler) handler (base_in us d o)

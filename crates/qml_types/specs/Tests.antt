-- What is to be found in the table, and tests of it that a machine computes.
use Rattle.std.specs.Prelude.{◌≡◌, ℕ, suc, ◌&&◌, ◌||◌, not, nat_eq, List, [], ◌∷◌, ◌++◌, map, slice_get, Bool, true, false, Option, Some, None}
use Rattle.std.specs.List.{list_all, Contains}
use Rattle.std.specs.Str.{bytes_eq}
use Rattle.qml_types.specs.declared.kind.TypeNo.{TypeNo}
use Rattle.qml_types.specs.declared.kind.PropKind.{PropKind}
use Rattle.qml_types.specs.declared.kind.PropKind.TheVariants as kind
use Rattle.qml_types.specs.declared.members.Method.{Method}
use Rattle.qml_types.specs.Table.{Offered, TypeCell, cells_of, is_shown}
use Rattle.qml_types.specs.Members.{TypeSignal, signals_of, methods_of, name_of}

-- these numbers count up from this one
abbrev pub counts_up : ℕ → List ℕ → Bool
counts_up n [] = true
counts_up n (m ∷ rest) = nat_eq m n && counts_up (suc n) rest

-- no two of these are the same
abbrev pub all_differ : {X : Type 0} → (X → X → Bool) → List X → Bool
all_differ same [] = true
all_differ same (x ∷ rest) = list_all (λ other. not (same x other)) rest && all_differ same rest

abbrev pub same_offer : Offered → Offered → Bool
same_offer row other = bytes_eq row.from other.from && bytes_eq row.name other.name

-- the names of all that a type has
abbrev pub member_names : TypeNo → List (List ℕ)
member_names type = map (λ cell. cell.name) (cells_of type) ++ map (λ signal. signal.name) (signals_of type) ++ map name_of (methods_of type)

abbrev is_bool : PropKind → Bool
is_bool kind.Bool = true
is_bool _ = false

-- a cell is hidden, of kind bool, given its own values, and shown by the name of this one, which is of that kind too
abbrev holds_for : TypeCell → Option TypeCell → Bool
holds_for cell None = false
holds_for cell (Some other) =
    not (is_shown other.access) && (bytes_eq other.shown_as cell.name && (nat_eq other.goes_to other.place && (is_bool cell.kind && is_bool other.kind)))

-- what is given for the cell goes to itself, or to a hidden one that holds it for this one
abbrev goes_right : List TypeCell → TypeCell → Bool
goes_right cells cell = nat_eq cell.goes_to cell.place || holds_for cell (slice_get cells cell.goes_to)

abbrev pub all_go_right : List TypeCell → Bool
all_go_right cells = list_all (goes_right cells) cells

-- one of these rows offers this type under the name by the module
abbrev pub IsOffered : List Offered → List ℕ → List ℕ → TypeNo → Type 0
IsOffered rows from name type = (row : Offered) × (Contains rows row × (row.from ≡ from) × (row.name ≡ name) × (row.no ≡ type))

-- this is one of these cells, and is shown by the name
abbrev pub IsProperty : List TypeCell → List ℕ → TypeCell → Type 0
IsProperty cells name cell = Contains cells cell × (is_shown cell.access ≡ true) × (cell.name ≡ name)

abbrev pub IsSignal : List TypeSignal → List ℕ → TypeSignal → Type 0
IsSignal signals name signal = Contains signals signal × (signal.name ≡ name)

abbrev pub IsMethod : List Method → List ℕ → Method → Type 0
IsMethod methods name method = Contains methods method × (name_of method ≡ name)

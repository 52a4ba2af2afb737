-- The signals that objects declare, under the names of their handlers.
use Rattle.std.specs.Prelude.{◌≡◌, ℕ, zero, suc, ◌+◌, ◌-◌, Bool as 𝔹, true, false, not, ◌&&◌, ◌||◌, nat_eq, if◌then◌else◌, List, [], ◌∷◌, ◌++◌, length}
use Rattle.qml_syntax.specs.Tree.{Units}
use Rattle.name_groups.specs.Groups.{all_under, if_same}
use Rattle.program_names.specs.Names.{is_small_letter, changed, handler_of}
use Rattle.document_members.specs.declared.member.Member.{Member}
use Rattle.document_members.specs.declared.member.Member.TheVariants as m
use Rattle.program_tables.specs.declared.building.UnitRow.{UnitRow}
use Rattle.program_tables.specs.Building.{is_group, is_inside}
use Rattle.declared_signals.specs.declared.declaring.DeclaredSignal.{DeclaredSignal}
use Rattle.declared_signals.specs.declared.declaring.DeclaredSignal.TheVariants as d
use Rattle.declared_signals.specs.declared.declaring.ObjectSignals.{ObjectSignals}

abbrev pub raised_letter : ℕ → ℕ
raised_letter c = if is_small_letter c then c - 32 else c

-- ---- one member

-- what the member of the row k adds under a handler, where so many cells and other signals are declared before it
abbrev pub signals_of : ℕ → ℕ → ℕ → Units → Member → List DeclaredSignal
signals_of k cells signals h (m.Property p a kind name at v) = if_same h (handler_of (changed name)) (d.Change cells)
signals_of k cells signals h (m.Signal p name at parameters) = if_same h (handler_of name) (d.Own signals k)
signals_of k cells signals h _ = []

abbrev pub cells_more : Member → ℕ
cells_more (m.Property p a kind name at v) = 1
cells_more _ = 0

abbrev pub signals_more : Member → ℕ
signals_more (m.Signal p name at parameters) = 1
signals_more _ = 0

pub record Declares (k : ℕ) (x : Member) (old new : ObjectSignals) : Type 0 where
  pub put : (h : Units) → all_under new.under h ≡ all_under old.under h ++ signals_of k old.cells old.signals h x
  pub more_cells : new.cells ≡ old.cells + cells_more x
  pub more_signals : new.signals ≡ old.signals + signals_more x

pub record AddsChange (name : Units) (old new : ObjectSignals) : Type 0 where
  pub put : (h : Units) → all_under new.under h ≡ all_under old.under h ++ if_same h (handler_of (changed name)) (d.Change old.cells)
  pub more_cells : new.cells ≡ old.cells + 1
  pub more_signals : new.signals ≡ old.signals

pub record AddsSignal (k : ℕ) (name : Units) (old new : ObjectSignals) : Type 0 where
  pub put : (h : Units) → all_under new.under h ≡ all_under old.under h ++ if_same h (handler_of name) (d.Own old.signals k)
  pub more_cells : new.cells ≡ old.cells
  pub more_signals : new.signals ≡ old.signals + 1

-- to those of the object at a place, if there is one
abbrev pub AddedAt : ℕ → ℕ → Member → List ObjectSignals → List ObjectSignals → Type 0
AddedAt at k x [] [] = Unit {0}
AddedAt zero k x (a ∷ xs) (b ∷ ys) = Declares k x a b × (ys ≡ xs)
AddedAt (suc at) k x (a ∷ xs) (b ∷ ys) = (b ≡ a) × AddedAt at k x xs ys
AddedAt at k x [] (b ∷ ys) = ⊥
AddedAt at k x (a ∷ xs) [] = ⊥

abbrev pub RowAdded : 𝔹 → ℕ → UnitRow → List ObjectSignals → List ObjectSignals → Type 0
RowAdded true k r old new = new ≡ old
RowAdded false k r old new = AddedAt r.row.object k r.member old new

-- ---- all rows

abbrev pub grouped_by : List 𝔹 → UnitRow → List 𝔹
grouped_by grouping r = grouping ++ (is_inside grouping r.row.group || is_group r.member) ∷ []

-- whether a row declares something of the object o
abbrev pub is_of : ℕ → List 𝔹 → UnitRow → 𝔹
is_of o grouping r = not (is_inside grouping r.row.group) && nat_eq r.row.object o

-- those of the object o under a handler, in the rows from number k on
abbrev pub declared_from : ℕ → Units → ℕ → ℕ → ℕ → List 𝔹 → List UnitRow → List DeclaredSignal
declared_from o h k cells signals grouping [] = []
declared_from o h k cells signals grouping (r ∷ rest) =
    if is_of o grouping r
    then
    signals_of k cells signals h r.member ++
    declared_from o h (suc k) (cells + cells_more r.member) (signals + signals_more r.member) (grouped_by grouping r) rest
    else declared_from o h (suc k) cells signals (grouped_by grouping r) rest

abbrev pub signals_from : ℕ → ℕ → List 𝔹 → List UnitRow → ℕ
signals_from o signals grouping [] = signals
signals_from o signals grouping (r ∷ rest) =
    if is_of o grouping r
    then signals_from o (signals + signals_more r.member) (grouped_by grouping r) rest
    else signals_from o signals (grouped_by grouping r) rest

-- what is kept of the object o is what these rows declare
pub record IsDeclared (o : ℕ) (rows : List UnitRow) (x : ObjectSignals) : Type 0 where
  pub signals : (h : Units) → all_under x.under h ≡ declared_from o h 0 0 0 [] rows
  pub count : x.signals ≡ signals_from o 0 [] rows

-- objects from the number o on
abbrev pub AreFrom : ℕ → List UnitRow → List ObjectSignals → Type 0
AreFrom o rows [] = Unit {0}
AreFrom o rows (x ∷ xs) = IsDeclared o rows x × AreFrom (suc o) rows xs

pub record AreDeclared (count : ℕ) (rows : List UnitRow) (objects : List ObjectSignals) : Type 0 where
  pub long : length objects ≡ count
  pub are : AreFrom 0 rows objects

-- nothing yet
pub record IsNothing (x : ObjectSignals) : Type 0 where
  pub under : (h : Units) → all_under x.under h ≡ []
  pub cells : x.cells ≡ 0
  pub signals : x.signals ≡ 0

abbrev pub AllNothing : List ObjectSignals → Type 0
AllNothing [] = Unit {0}
AllNothing (x ∷ xs) = IsNothing x × AllNothing xs

pub record AreNothing (count : ℕ) (objects : List ObjectSignals) : Type 0 where
  pub long : length objects ≡ count
  pub nothing : AllNothing objects

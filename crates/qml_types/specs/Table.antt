-- The table of built-in types.
use Rattle.std.specs.Prelude.{ℕ, ◌&&◌, ◌-◌, List, [], ◌∷◌, codes, Bool, true, false, Option}
use Rattle.std.specs.Str.{bytes_eq}
use Rattle.std.specs.List.{flat_map, find, list_any}
use Rattle.std.specs.Option.{option_map}
use Rattle.qml_types.specs.declared.kind.TypeNo.{TypeNo}
use Rattle.qml_types.specs.declared.kind.TypeNo.TheVariants as no
use Rattle.qml_types.specs.declared.kind.TypeRef.TheVariants.{Builtin}
use Rattle.qml_types.specs.declared.kind.PropKind.{PropKind}
use Rattle.qml_types.specs.declared.kind.PropKind.TheVariants as kind
use Rattle.qml_types.specs.declared.kind.Access.{Access}
use Rattle.qml_types.specs.declared.kind.Access.TheVariants.{Writable, Literal, Id, ReadOnly, Hidden}
use Rattle.qml_types.specs.declared.kind.Start.{Start}
use Rattle.qml_types.specs.declared.kind.Start.TheVariants as start
use Rattle.qml_types.specs.declared.offers.Offer.{Offer}
use Rattle.qml_types.specs.declared.cells.Cell.{Cell}

-- a module offers a type under a name
pub record Offered : Type 0 where
  pub from : List ℕ
  pub name : List ℕ
  pub no : TypeNo

abbrev pub offer_of : Offer → Offered
offer_of offer = record { from = offer.0.now; name = offer.1.now; no = offer.2 }

abbrev offer : List ℕ → List ℕ → TypeNo → Offered
offer from name type = record { from = from; name = name; no = type }

abbrev pub offers : List Offered
offers =
    offer (codes "QtQml") (codes "QtObject") no.QtObject ∷
    offer (codes "QtQml") (codes "Component") no.Component ∷
    offer (codes "QtQml") (codes "Timer") no.Timer ∷
    offer (codes "QtQml") (codes "Connections") no.Connections ∷
    offer (codes "QtQml") (codes "Binding") no.Binding ∷
    offer (codes "QtQml.Models") (codes "ListModel") no.ListModel ∷
    offer (codes "QtQml.Models") (codes "ListElement") no.ListElement ∷
    offer (codes "QtQuick") (codes "QtObject") no.QtObject ∷
    offer (codes "QtQuick") (codes "Component") no.Component ∷
    offer (codes "QtQuick") (codes "Timer") no.Timer ∷
    offer (codes "QtQuick") (codes "Connections") no.Connections ∷
    offer (codes "QtQuick") (codes "Binding") no.Binding ∷
    offer (codes "QtQuick") (codes "ListModel") no.ListModel ∷
    offer (codes "QtQuick") (codes "ListElement") no.ListElement ∷
    offer (codes "QtQuick") (codes "Item") no.Item ∷
    offer (codes "QtQuick") (codes "State") no.State ∷
    offer (codes "QtQuick") (codes "PropertyChanges") no.PropertyChanges ∷
    offer (codes "QtQuick") (codes "Repeater") no.Repeater ∷
    offer (codes "QtQuick") (codes "Loader") no.Loader ∷
    offer (codes "QmlRun") (codes "Host") no.Host ∷ []

-- whether one of these offers is of the module
abbrev pub is_offering : List Offered → List ℕ → Bool
is_offering rows from = list_any (λ row. bytes_eq row.from from) rows

-- the type that is offered under a name by a module
abbrev pub offered : List Offered → List ℕ → List ℕ → Option TypeNo
offered rows from name = option_map (λ row. row.no) (find (λ row. bytes_eq row.from from && bytes_eq row.name name) rows)

-- a cell of an object: its place, name, kind, who gives it its values and what it holds at first; the place of the cell to
-- which goes what is given for it, and the name by which the trace shows it
pub record TypeCell : Type 0 where
  pub place : ℕ
  pub name : List ℕ
  pub kind : PropKind
  pub access : Access
  pub start : Start
  pub goes_to : ℕ
  pub shown_as : List ℕ

abbrev pub cell_of : Cell → TypeCell
cell_of cell = record {
  place = cell.place;
  name = cell.name.now;
  kind = cell.kind;
  access = cell.access;
  start = cell.start;
  goes_to = cell.goes_to;
  shown_as = cell.shown_as.now;
}

abbrev cell : ℕ → List ℕ → PropKind → Access → Start → TypeCell
cell place name kind access start = record { place = place; name = name; kind = kind; access = access; start = start; goes_to = place; shown_as = name }

-- a cell that a built-in rule gives its values, and the hidden one before it, which holds what is given for it
abbrev ruled : ℕ → List ℕ → TypeCell
ruled place name = record { place = place; name = name; kind = kind.Bool; access = Writable; start = start.OfKind; goes_to = place - 1; shown_as = name }

abbrev hidden : ℕ → List ℕ → List ℕ → TypeCell
hidden place name shown_as = record { place = place; name = name; kind = kind.Bool; access = Hidden; start = start.True; goes_to = place; shown_as = shown_as }

abbrev object : TypeNo → PropKind
object type = kind.Object (Builtin type)

abbrev list : TypeNo → PropKind
list type = kind.List (Builtin type)

-- a type with those that it stands on, from the lowest on
abbrev pub lineage : TypeNo → List TypeNo
lineage no.QtObject = no.QtObject ∷ []
lineage no.Component = no.QtObject ∷ no.Component ∷ []
lineage no.Item = no.QtObject ∷ no.Item ∷ []
lineage no.Timer = no.QtObject ∷ no.Timer ∷ []
lineage no.Connections = no.QtObject ∷ no.Connections ∷ []
lineage no.Binding = no.QtObject ∷ no.Binding ∷ []
lineage no.State = no.QtObject ∷ no.State ∷ []
lineage no.PropertyChanges = no.QtObject ∷ no.PropertyChanges ∷ []
lineage no.ListModel = no.QtObject ∷ no.ListModel ∷ []
lineage no.ListElement = no.ListElement ∷ []
lineage no.Repeater = no.QtObject ∷ no.Item ∷ no.Repeater ∷ []
lineage no.Loader = no.QtObject ∷ no.Item ∷ no.Loader ∷ []
lineage no.Host = no.QtObject ∷ no.Host ∷ []

-- the cells that a type has beside those of its bases
abbrev pub own_cells : TypeNo → List TypeCell
own_cells no.QtObject =
    cell 0 (codes "objectName") kind.String Writable start.OfKind ∷ []
own_cells no.Component = []
own_cells no.Item =
    cell 1 (codes "x") kind.Int Writable start.OfKind ∷
    cell 2 (codes "y") kind.Int Writable start.OfKind ∷
    cell 3 (codes "z") kind.Int Writable start.OfKind ∷
    cell 4 (codes "width") kind.Int Writable start.OfKind ∷
    cell 5 (codes "height") kind.Int Writable start.OfKind ∷
    hidden 6 (codes "visibleSet") (codes "visible") ∷
    ruled 7 (codes "visible") ∷
    hidden 8 (codes "enabledSet") (codes "enabled") ∷
    ruled 9 (codes "enabled") ∷
    cell 10 (codes "state") kind.String Writable start.OfKind ∷
    cell 11 (codes "states") (list no.State) Writable start.OfKind ∷
    cell 12 (codes "parent") (object no.Item) ReadOnly start.OfKind ∷ []
own_cells no.Timer =
    cell 1 (codes "interval") kind.Int Writable (start.Number 1000) ∷
    cell 2 (codes "repeat") kind.Bool Writable start.OfKind ∷
    cell 3 (codes "running") kind.Bool Writable start.OfKind ∷
    cell 4 (codes "triggeredOnStart") kind.Bool Writable start.OfKind ∷ []
own_cells no.Connections =
    cell 1 (codes "target") (object no.QtObject) Writable start.Owner ∷
    cell 2 (codes "enabled") kind.Bool Writable start.True ∷
    cell 3 (codes "ignoreUnknownSignals") kind.Bool Writable start.OfKind ∷ []
own_cells no.Binding =
    cell 1 (codes "target") (object no.QtObject) Writable start.OfKind ∷
    cell 2 (codes "property") kind.String Literal start.OfKind ∷
    cell 3 (codes "value") kind.Var Writable start.OfKind ∷
    cell 4 (codes "when") kind.Bool Writable start.True ∷
    cell 5 (codes "restoreMode") kind.String Writable start.RestoreBinding ∷ []
own_cells no.State =
    cell 1 (codes "name") kind.String Literal start.OfKind ∷
    cell 2 (codes "when") kind.Bool Writable start.OfKind ∷
    cell 3 (codes "extend") kind.String Literal start.OfKind ∷
    cell 4 (codes "changes") (list no.PropertyChanges) Writable start.OfKind ∷ []
own_cells no.PropertyChanges =
    cell 1 (codes "target") (object no.QtObject) Id start.OfKind ∷
    cell 2 (codes "explicit") kind.Bool Literal start.OfKind ∷
    cell 3 (codes "restoreEntryValues") kind.Bool Literal start.True ∷ []
own_cells no.ListModel =
    cell 1 (codes "count") kind.Int ReadOnly start.OfKind ∷
    cell 2 (codes "rows") kind.Var Hidden start.OfKind ∷ []
own_cells no.ListElement = []
own_cells no.Repeater =
    cell 13 (codes "model") kind.Var Writable start.OfKind ∷
    cell 14 (codes "delegate") kind.Component Writable start.OfKind ∷
    cell 15 (codes "count") kind.Int ReadOnly start.OfKind ∷ []
own_cells no.Loader =
    cell 13 (codes "source") kind.Url Writable start.OfKind ∷
    cell 14 (codes "sourceComponent") kind.Component Writable start.OfKind ∷
    cell 15 (codes "active") kind.Bool Writable start.True ∷
    cell 16 (codes "item") (object no.QtObject) ReadOnly start.OfKind ∷
    cell 17 (codes "status") kind.String ReadOnly start.NotLoaded ∷ []
own_cells no.Host =
    cell 1 (codes "key") kind.String Literal start.OfKind ∷ []

-- all cells of a type, those of its bases first
abbrev pub cells_of : TypeNo → List TypeCell
cells_of type = flat_map own_cells (lineage type)

abbrev pub is_shown : Access → Bool
is_shown Hidden = false
is_shown _ = true

abbrev pub is_writable : Access → Bool
is_writable Writable = true
is_writable _ = false

-- the property of a name: the first cell that is shown by it
abbrev pub found : List TypeCell → List ℕ → Option TypeCell
found cells name = find (λ cell. is_shown cell.access && bytes_eq cell.name name) cells

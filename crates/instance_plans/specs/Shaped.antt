-- The names of an instance as they are known: of two alike the first counts.
use Rattle.std.specs.Prelude.{ℕ, List, [], ◌∷◌, map}
use Rattle.qml_syntax.specs.Tree.{Units}
use Rattle.name_table.specs.Named.{put}
use Rattle.qml_scope.specs.declared.shape.Shape.{Shape}
use Rattle.qml_scope.specs.declared.shape.Entry.{Entry}
use Rattle.instance_plans.specs.NamesMade.{ObjectNames, InstanceNames}

-- names put one after another: one that is there already stays what it was
abbrev pub each_put : {X : Type 0} → List (Units × X) → List (Units × X) → List (Units × X)
each_put names [] = names
each_put names (x ∷ rest) = each_put (put names (x.0) (x.1)) rest

abbrev pub named_once : {X : Type 0} → List (Units × X) → List (Units × X)
named_once names = each_put [] names

abbrev pub entry_made : ObjectNames → Entry
entry_made e = record { object = e.object; names = named_once e.names }

abbrev pub shape_made : InstanceNames → Shape
shape_made s = record {
  unit = s.unit;
  root = s.root;
  enclosing = s.enclosing;
  ids = named_once s.ids;
  names = named_once s.names;
  members = map entry_made s.members;
}

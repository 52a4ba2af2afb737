-- The instances under way, the innermost first, and what comes of them.
use Rattle.std.specs.Prelude.{ℕ, ◌+◌, Bool, not, ◌&&◌, nat_eq, if◌then◌else◌, List, [], ◌∷◌, ◌++◌, reverse, length, Option}
use Rattle.std.specs.List.{filter}
use Rattle.std.specs.Option.{option_and_then}
use Rattle.qml_types.specs.declared.kind.TypeRef.{TypeRef}
use Rattle.instance_plans.specs.Numbers.{AllRows, Plan, Going, row_at, component_at, number_in, inside, inner_within, each_placed, finished}
use Rattle.instance_plans.specs.declared.planned.Planned.{Planned}
use Rattle.instance_plans.specs.declared.planned.PlannedInstance.{PlannedInstance}

-- an instance under way: the numbers that it has given, the objects that are left, and how deep types are gone into below it
pub record Open : Type 0 where
  pub unit : ℕ
  pub component : ℕ
  pub root : ℕ
  pub enclosing : Option ℕ
  pub numbers : List (ℕ × ℕ)
  pub left : List ℕ
  pub depth : ℕ

abbrev pub going : List (ℕ × ℕ) → Plan → Going
going numbers plan = record { numbers = numbers; plan = plan }

-- a plan once the instances under way are finished
abbrev pub resumed : AllRows → List Open → Plan → Plan
resumed units [] plan = plan
resumed units (f ∷ rest) plan =
    resumed units rest (finished f.unit f.component f.root f.enclosing
    (each_placed (λ t n p. inner_within f.depth units t n p) units f.unit f.component (going f.numbers plan) f.left))

-- a plan so far, with the first number, and the instances in the order in which they were finished
abbrev pub plan_of : ℕ → List Planned → List PlannedInstance → Plan
plan_of first objects instances = record { next = first + length objects; objects = objects; instances = reverse instances }

-- the objects of a component but its root
abbrev pub but_root : ℕ → List ℕ → List ℕ
but_root r objects = filter (λ o. not (nat_eq o r)) objects

-- the instance of a component whose root has got a number
abbrev pub begun : AllRows → ℕ → ℕ → ℕ → Option ℕ → ℕ → Open
begun units d r n enclosing depth = record {
  unit = d;
  component = r;
  root = n;
  enclosing = enclosing;
  numbers = (r, n) ∷ [];
  left = but_root r (component_at units d r).standing;
  depth = depth;
}

-- an instance under way of which one object more is left
abbrev pub with_left : ℕ → Open → Open
with_left o f = record {
  unit = f.unit;
  component = f.component;
  root = f.root;
  enclosing = f.enclosing;
  numbers = f.numbers;
  left = o ∷ f.left;
  depth = f.depth;
}

-- an instance under way whose object has got a number
abbrev pub with_number : ℕ → ℕ → Open → Open
with_number o n f = record {
  unit = f.unit;
  component = f.component;
  root = f.root;
  enclosing = f.enclosing;
  numbers = f.numbers ++ (o, n) ∷ [];
  left = f.left;
  depth = f.depth;
}

-- whether a Component is made around an object of an instance, and the object as it is planned
abbrev pub around : AllRows → Open → ℕ → Bool
around units f o = (row_at units f.unit o).is_held && not (nat_eq o f.component)

abbrev pub planned_in : AllRows → Open → ℕ → ℕ → Planned
planned_in units f o n = record {
  number = n;
  unit = f.unit;
  object = o;
  is_around = around units f o;
  owner = option_and_then (number_in f.numbers) (row_at units f.unit o).owner;
}

-- what the documents of a type add
abbrev pub added : AllRows → ℕ → Bool → TypeRef → ℕ → Plan → Plan
added units depth is_around t n plan = inside (λ t n p. inner_within depth units t n p) is_around t n plan

-- an instance under way of which an object more is left, unless it is its root
abbrev pub next_left : ℕ → Open → Open
next_left o f = record {
  unit = f.unit;
  component = f.component;
  root = f.root;
  enclosing = f.enclosing;
  numbers = f.numbers;
  left = if not (nat_eq o f.component) then o ∷ f.left else f.left;
  depth = f.depth;
}

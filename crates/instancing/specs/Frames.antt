-- What the code keeps of the instances under way.
use Rattle.std.specs.Prelude.{ℕ, List, map, reverse}
use Rattle.instance_plans.specs.Numbers.{AllRows, Plan}
use Rattle.instancing.specs.declared.numbers.Frame.{Frame}
use Rattle.instancing.specs.declared.numbers.Work.{Work}
use Rattle.instancing.specs.Stack.{Open, but_root, plan_of, resumed}

abbrev pub open_of : Frame → Open
open_of f = record {
  unit = f.unit;
  component = f.component;
  root = f.root;
  enclosing = f.enclosing;
  numbers = f.numbers;
  left = but_root f.component f.left.now;
  depth = f.depth;
}

-- the innermost first
abbrev pub opens : List Frame → List Open
opens frames = map open_of (reverse frames)

abbrev pub plan_so_far : Work → Plan
plan_so_far w = plan_of w.first w.objects.items w.instances.items

-- what a plan under way comes to
abbrev pub planned_now : AllRows → Work → Plan
planned_now units w = resumed units (opens w.frames.items) (plan_so_far w)

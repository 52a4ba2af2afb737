-- Steps of a plan under way.
use Rattle.std.proofs.Common.{◌≡◌, ◌∙◌, ap, sym, refl, ℕ, zero, suc, ◌+◌, ◌≤◌, Bool, true, false, not, nat_eq, if◌then◌else◌, List, [], ◌∷◌, ◌++◌, map, reverse, length, add-one, arith}
use Rattle.std.proofs.lemmas.List.{reverse-append}
use Rattle.qml_types.specs.declared.kind.TypeRef.{TypeRef}
use Rattle.qml_types.specs.declared.kind.TypeRef.TheVariants.{Builtin, Document}
use Rattle.qml_base.specs.declared.numbers.UnitNo.{UnitNo}
use Rattle.instance_plans.specs.Numbers.{AllRows, Plan, row_at, inner_within, with_planned, planned_from}
use Rattle.instance_plans.specs.declared.planned.Planned.{Planned}
use Rattle.instance_plans.specs.declared.planned.PlannedInstance.{PlannedInstance}
use Rattle.std.specs.declared.option.Option.{Option}
use Rattle.std.specs.declared.option.Option.TheVariants.{None}
use Rattle.unit_rows.specs.declared.unit.Unit.{Unit}
use Rattle.unit_rows.specs.Seen.{all_seen}
use Rattle.instancing.specs.declared.numbers.Frame.{Frame}
use Rattle.instancing.specs.Stack.{Open, resumed, begun, with_left, next_left, with_number, around, planned_in, added, plan_of}
use Rattle.instancing.specs.Frames.{open_of, opens}

-- the innermost instance is the last frame
pub opens_pushed : (fs : List Frame) (f : Frame) → opens (fs ++ f ∷ []) ≡ open_of f ∷ opens fs
opens_pushed fs f = ap (map open_of) (reverse-append fs (f ∷ []))

-- a document's instance is begun: what its type adds comes first
pub begun_is : (units : AllRows) (os : List Open) (k d n : ℕ) (plan : Plan) → resumed units (begun units d 0 n None k ∷ os) (inner_within k units (row_at units d 0).of_type n plan) ≡ resumed units os (inner_within (suc k) units (Document (record { 0 = d })) n plan)
begun_is units os k d n plan = refl

nothing_builtin : (k : ℕ) (units : AllRows) (t : _) (n : ℕ) (plan : Plan) → inner_within k units (Builtin t) n plan ≡ plan
nothing_builtin zero units t n plan = refl
nothing_builtin (suc k) units t n plan = refl

-- an object takes the next number
pub one_placed : (units : AllRows) (os : List Open) (f : Open) (o : ℕ) (plan : Plan) → resumed units (with_left o f ∷ os) plan ≡ resumed units (with_number o plan.next f ∷ os) (added units f.depth (around units f o) (row_at units f.unit o).of_type plan.next (with_planned (planned_in units f o plan.next) plan))
one_placed units os f o plan = refl

longer : (xs : List Planned) (x : Planned) (n : ℕ) → suc (n + length xs) ≡ n + length (xs ++ x ∷ [])
longer [] x n = omega arith
longer (y ∷ ys) x n = let rest = longer ys x n in omega arith

pub planned_more : (first : ℕ) (objects : List Planned) (instances : List PlannedInstance) (x : Planned) → with_planned x (plan_of first objects instances) ≡ plan_of first (objects ++ x ∷ []) instances
planned_more first objects instances x = ap (λ n. record { next = n; objects = objects ++ x ∷ []; instances = reverse instances }) (longer objects x first)

pub finished_more : (first : ℕ) (objects : List Planned) (instances : List PlannedInstance) (s : PlannedInstance) → plan_of first objects (instances ++ s ∷ []) ≡ record { next = first + length objects; objects = objects; instances = s ∷ reverse instances }
finished_more first objects instances s = ap (λ rs. record { next = first + length objects; objects = objects; instances = rs }) (reverse-append instances (s ∷ []))

pub entered : (units : AllRows) (os after : List Open) (k d n depth : ℕ) (t inner : TypeRef) (plan : Plan) → after ≡ begun units d 0 n None k ∷ os → inner ≡ (row_at units d 0).of_type → suc k ≡ depth → t ≡ Document (record { 0 = d }) → resumed units after (inner_within k units inner n plan) ≡ resumed units os (inner_within depth units t n plan)
entered units os after k d n depth t inner plan begins of_it deep is =
    ap (λ fs. resumed units fs (inner_within k units inner n plan)) begins
    ∙ ap (λ t. resumed units (begun units d 0 n None k ∷ os) (inner_within k units t n plan)) of_it
    ∙ begun_is units os k d n plan
    ∙ ap (λ m. resumed units os (inner_within m units (Document (record { 0 = d })) n plan)) deep
    ∙ ap (λ t. resumed units os (inner_within depth units t n plan)) (sym is)

pub not_deep : (units : AllRows) (os : List Open) (depth n : ℕ) (t : TypeRef) (plan : Plan) → depth ≡ 0 → resumed units os plan ≡ resumed units os (inner_within depth units t n plan)
not_deep units os depth n t plan is = ap (λ m. resumed units os (inner_within m units t n plan)) (sym is)

pub placed_now : (units : AllRows) (os frames : List Open) (f : Open) (o n first : ℕ) (objects all : List Planned) (instances : List PlannedInstance) (x : Planned) (t : TypeRef)
    → frames ≡ with_number o n f ∷ os → all ≡ objects ++ x ∷ [] → x ≡ planned_in units f o n → t ≡ (row_at units f.unit o).of_type → n ≡ first + length objects
    → resumed units frames (added units f.depth x.is_around t n (plan_of first all instances)) ≡ resumed units (with_left o f ∷ os) (plan_of first objects instances)
placed_now units os frames f o n first objects all instances x t e1 e2 e3 e4 e5 =
    let base = (row_at units f.unit o).of_type in
    ap (λ fs. resumed units fs (added units f.depth x.is_around t n (plan_of first all instances))) e1
    ∙ ap (λ xs. resumed units (with_number o n f ∷ os) (added units f.depth x.is_around t n (plan_of first xs instances))) e2
    ∙ ap (λ (y : Planned). resumed units (with_number o n f ∷ os) (added units f.depth y.is_around t n (plan_of first (objects ++ y ∷ []) instances))) e3
    ∙ ap (λ t. resumed units (with_number o n f ∷ os) (added units f.depth (around units f o) t n (plan_of first (objects ++ planned_in units f o n ∷ []) instances))) e4
    ∙ ap (λ m. resumed units (with_number o m f ∷ os) (added units f.depth (around units f o) base m (plan_of first (objects ++ planned_in units f o m ∷ []) instances))) e5
    ∙ ap (λ p. resumed units (with_number o (first + length objects) f ∷ os) (added units f.depth (around units f o) base (first + length objects) p)) (sym (planned_more first objects instances (planned_in units f o (first + length objects))))
    ∙ sym (one_placed units os f o (plan_of first objects instances))

pub next_is_left : (o : ℕ) (f : Open) → nat_eq o f.component ≡ false → next_left o f ≡ with_left o f
next_is_left o f other = ap (λ (b : Bool). record { unit = f.unit; component = f.component; root = f.root; enclosing = f.enclosing; numbers = f.numbers; left = if not b then o ∷ f.left else f.left; depth = f.depth }) other

pub next_is_root : (o : ℕ) (f : Open) → nat_eq o f.component ≡ true → next_left o f ≡ f
next_is_root o f is = ap (λ (b : Bool). record { unit = f.unit; component = f.component; root = f.root; enclosing = f.enclosing; numbers = f.numbers; left = if not b then o ∷ f.left else f.left; depth = f.depth }) is

pub at_builtin : (units : AllRows) (os : List Open) (depth n : ℕ) (t : TypeRef) (b : _) (plan : Plan) → t ≡ Builtin b → resumed units os plan ≡ resumed units os (inner_within depth units t n plan)
at_builtin units os depth n t b plan is =
    ap (resumed units os) (sym (nothing_builtin depth units b n plan)) ∙ ap (λ t. resumed units os (inner_within depth units t n plan)) (sym is)

pub counted : (units : List Unit) → length (all_seen units) ≡ length units
counted [] = refl
counted (u ∷ us) = ap suc (counted us)

-- the plan at its beginning
pub started : (all : List Unit) (u r first depth : ℕ) (enclosing owner : Option ℕ) (t : TypeRef) (os : List Open)
    → depth ≡ length all + 1 → t ≡ (row_at (all_seen all) u r).of_type → os ≡ begun (all_seen all) u r first enclosing depth ∷ []
    → resumed (all_seen all) os (inner_within depth (all_seen all) t first (plan_of first (record { number = first; unit = u; object = r; is_around = false; owner = owner } ∷ []) []))
    ≡ planned_from (all_seen all) u r enclosing owner first
started all u r first depth enclosing owner t os deep typed begins =
    let units = all_seen all in
    let x : Planned = record { number = first; unit = u; object = r; is_around = false; owner = owner } in
    let many : depth ≡ suc (length units) = let same = counted all in omega arith in
    let next : first + 1 ≡ suc first = omega arith in
    ap (λ fs. resumed units fs (inner_within depth units t first (plan_of first (x ∷ []) []))) begins
    ∙ ap (λ t. resumed units (begun units u r first enclosing depth ∷ []) (inner_within depth units t first (plan_of first (x ∷ []) []))) typed
    ∙ ap (λ d. resumed units (begun units u r first enclosing d ∷ []) (inner_within d units (row_at units u r).of_type first (plan_of first (x ∷ []) []))) many
    ∙ ap (λ n. resumed units (begun units u r first enclosing (suc (length units)) ∷ []) (inner_within (suc (length units)) units (row_at units u r).of_type first (record { next = n; objects = x ∷ []; instances = [] }))) next

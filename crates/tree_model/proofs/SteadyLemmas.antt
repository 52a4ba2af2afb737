-- The rules of a tree are steady.
use Rattle.std.proofs.Common.{◌≡◌, ◌≢◌, ap, refl, ℕ, suc, zero, ◌≤◌, ◌+◌, Bool, true, false, List, [], ◌∷◌, slice_get, map, count_by, arith, if◌then◌else◌}
use Rattle.std.proofs.lemmas.Grind.{common_steps}
use Rattle.std.specs.declared.option.Option.{Option}
use Rattle.std.specs.declared.option.Option.TheVariants.{None, Some}
use Rattle.qml_base.specs.declared.numbers.ObjNo.{ObjNo}
use Rattle.qml_value.specs.declared.value.Value.{Value}
use Rattle.evaluation.specs.declared.came.Came.{Came}
use Rattle.evaluation.specs.declared.came.Came.TheVariants as came
use Rattle.qml_base.specs.declared.numbers.CellNo.{CellNo}
use Rattle.tree_model.specs.declared.cells.Cell.{Cell}
use Rattle.tree_model.specs.declared.cells.Binding.{Binding}
use Rattle.tree_model.specs.declared.cells.Content.{Content}
use Rattle.tree_model.specs.declared.cells.Content.TheVariants.{Plain, Bound}
use Rattle.qml_types.specs.declared.kind.PropKind.{PropKind}
use Rattle.qml_types.specs.declared.kind.TypeRef.{TypeRef}
use Rattle.tree_model.specs.Systems.{Outcomes, Step, given, ruled, is_ruled, Keeps, IsSteady, AllSteady}
use Rattle.evaluation.specs.Evaluating.{looped, Evaluation, AgreeOn, NoneLoops}
use Rattle.evaluation.proofs.EvaluatingLemmas.{same_where_agreed, goes_on}
use Rattle.tree_model.specs.Rules.{World, ask_of, evaluation, converted}
use Rattle.tree_model.specs.Settling.{Tree, place_of, held_at, seen_of, reading, came_of, content_step, step, steps, is_bound, is_bound_content, is_active}

-- ---- what a cell comes to
seen_keeps : (held : Value) (a b : Came) → (a ≢ came.Loop → b ≡ a) → seen_of held a ≢ looped → seen_of held b ≡ seen_of held a
seen_keeps held (came.Value v) b k h = ap (seen_of held) (k (λ e. cc))
seen_keeps held (came.Threw why) b k h = ap (seen_of held) (k (λ e. cc))
seen_keeps held came.Loop b k h = absurd (h refl)
seen_keeps held came.Past b k h = ap (seen_of held) (k (λ e. cc))

agree_where_none_loops : (cs : List CellNo) (cells : List Cell) (r s : Outcomes) → Keeps r s → NoneLoops cs (reading cells r) → AgreeOn cs (reading cells r) (reading cells s)
agree_where_none_loops [] cells r s keeps h = tt
agree_where_none_loops (c ∷ cs) cells r s keeps h =
    (seen_keeps (held_at cells (place_of cells c)) (r (place_of cells c)) (s (place_of cells c)) (keeps (place_of cells c)) h.0, agree_where_none_loops cs cells r s keeps h.1)

pub not_converted : (types : ObjNo → List TypeRef) (kind : PropKind) (o : Came) → converted types kind o ≢ came.Loop → o ≢ came.Loop
not_converted types kind (came.Value v) h e = let no : came.Value v ≡ came.Loop = e in cc
not_converted types kind (came.Threw why) h e = let no : came.Threw why ≡ came.Loop = e in cc
not_converted types kind came.Loop h e = h refl
not_converted types kind came.Past h e = let no : came.Past ≡ came.Loop = e in cc

pub came_steady : (world : World) (cells : List Cell) (cell : Cell) (binding : Binding) → IsSteady (came_of world cells cell binding)
came_steady world cells cell binding r s keeps h =
    let ask = ask_of world cell.no.object binding.rule in
    let eval = evaluation world cell.no.object binding.rule in
    let goes = not_converted world.types cell.kind (eval (reading cells r)).came h in
    let agree = agree_where_none_loops (eval (reading cells r)).reads cells r s keeps (goes_on world.names (reading cells r) ask goes) in
    ap (λ (e : Evaluation). converted world.types cell.kind e.came) (same_where_agreed world.names (reading cells r) (reading cells s) ask agree)

-- ---- the steps of a tree
pub step_at : (world : World) (tree : Tree) (cells : List Cell) (i : ℕ) → slice_get (map (step world tree) cells) i ≡ elim (slice_get cells i) [ None ↦ None | Some cell ↦ Some (step world tree cell) ]
step_at world tree [] i = refl
step_at world tree (x ∷ xs) zero = refl
step_at world tree (x ∷ xs) (suc i) = step_at world tree xs i

ruled_steady : (world : World) → (tree : Tree) (cell : Cell) (content : Content) (rule : Outcomes → Came) → content_step world tree cell content ≡ ruled rule → IsSteady rule
ruled_steady world tree cell (Plain v) rule e = absurd (cc)
ruled_steady world tree cell (Bound binding) rule e = by_active (is_active tree.objects cell.no binding) e
  where
    by_active : (b : Bool) → (if b then ruled (came_of world tree.cells cell binding) else given cell.held) ≡ ruled rule → IsSteady rule
    by_active true e = let same : came_of world tree.cells cell binding ≡ rule = cc in rw (← same) (came_steady world tree.cells cell binding)
    by_active false e = absurd (cc)

pub all_steady : (world : World) → (tree : Tree) → AllSteady (steps world tree)
all_steady world tree i rule e = by_cell (slice_get tree.cells i) (step_at world tree tree.cells i)
  where
    by_cell : (o : Option Cell) → slice_get (steps world tree) i ≡ elim o [ None ↦ None | Some cell ↦ Some (step world tree cell) ] → IsSteady rule
    by_cell None at = absurd (cc)
    by_cell (Some cell) at = let same : step world tree cell ≡ ruled rule = cc in ruled_steady world tree cell cell.content rule same

-- there are no more rules than bound cells
one_ruled : (world : World) (tree : Tree) (cell : Cell) (content : Content) → (if is_ruled (content_step world tree cell content) then 1 else 0) ≤ (if is_bound_content content then 1 else 0)
one_ruled world tree cell (Plain v) = omega arith
one_ruled world tree cell (Bound binding) = by_active (is_active tree.objects cell.no binding)
  where
    by_active : (b : Bool) → (if is_ruled (if b then ruled (came_of world tree.cells cell binding) else given cell.held) then 1 else 0) ≤ 1
    by_active true = omega arith
    by_active false = omega arith

count_ruled : (x : Step) (xs : List Step) → count_by is_ruled (x ∷ xs) ≡ (if is_ruled x then 1 else 0) + count_by is_ruled xs
count_ruled x xs = grind (arith, common_steps)

count_bound : (x : Cell) (xs : List Cell) → count_by is_bound (x ∷ xs) ≡ (if is_bound x then 1 else 0) + count_by is_bound xs
count_bound x xs = grind (arith, common_steps)

rules_below : (world : World) (tree : Tree) (cells : List Cell) → count_by is_ruled (map (step world tree) cells) ≤ count_by is_bound cells
rules_below world tree [] = omega arith
rules_below world tree (x ∷ xs) =
    omega (arith, count_ruled (step world tree x) (map (step world tree) xs), count_bound x xs, one_ruled world tree x x.content, rules_below world tree xs)

pub few_rules : (world : World) (tree : Tree) → count_by is_ruled (steps world tree) ≤ count_by is_bound tree.cells
few_rules world tree = rules_below world tree tree.cells

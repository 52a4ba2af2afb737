-- Bodies from their beginnings, and behind their effects.
use Rattle.std.proofs.Common.{◌≡◌, ◌∙◌, ap, sym, refl, subst, ℕ, List, [], ◌∷◌, ◌++◌, map, Option}
use Rattle.qml_base.specs.declared.numbers.ExprNo.{ExprNo}
use Rattle.qml_base.specs.declared.numbers.ObjNo.{ObjNo}
use Rattle.qml_base.specs.declared.names.Home.{Home}
use Rattle.qml_syntax.specs.Tree.{Stmts}
use Rattle.qml_syntax.specs.Nodes.{Table}
use Rattle.qml_value.specs.declared.value.Value.{Value}
use Rattle.evaluation.specs.Ask.{Ask}
use Rattle.js_meaning.specs.Locals.{Units, Scope, lets_of, vars_of_all, parameters}
use Rattle.js_meaning.specs.Eval.{Code, run_all, begun_body, gives_back}
use Rattle.js_meaning.specs.Resuming.{Sight, next_action}
use Rattle.js_frames.specs.declared.frames.Here.{Here}
use Rattle.js_frames.specs.declared.frames.Next.{Next}
use Rattle.js_frames.specs.declared.frames.Next.TheVariants as next
use Rattle.js_locals.specs.declared.locals.Local.{Local}
use Rattle.js_locals.specs.Laid.{Laid, laid, name_of, stmts_in}
use Rattle.js_locals.specs.Gathering.{row_from}
use Rattle.js_locals.specs.Scopes.{scopes_of}
use Rattle.js_frames.specs.Standing.{Standing, state_of}
use Rattle.js_frames.specs.Meant.{Where, World, around_at, meant}
use Rattle.js_frames.specs.Stepping.{where_of}
use Rattle.js_frames.proofs.ToldLemmas.{state}
use Rattle.js_acting.specs.declared.waiting.Acted.{Acted}
use Rattle.js_acting.specs.declared.waiting.Behind.{Behind}
use Rattle.js_acting.specs.declared.waiting.Behind.TheVariants as behind
use Rattle.js_acting.specs.declared.waiting.Stopped.{Stopped}
use Rattle.js_acting.specs.Acting.{acting, Sees, action_at}
use Rattle.js_acting.specs.Waiting.{next_behind, standing_of, goes_on, meant_by, HasFewer}
use Rattle.js_acting.specs.Running.{RunsTo, Begun}
use Rattle.js_acting.proofs.ActingLemmas.{told_acts}

pub begins_as : (code : Code) (tables : ExprNo → Table) (e : ExprNo) (names : List Units) (vs : List Value) (t : Table) (mark : ℕ) (p : Option ℕ) (ps : List ℕ) (ls : List Local) (m : Standing) (y : Next)
    → t ≡ tables e → stmts_in ((laid (tables e)).rest mark) ≡ (code.function e).statements → row_from (laid t) p ≡ (laid t).rest mark
    → map (name_of (laid (tables e))) ps ≡ (code.function e).parameters
    → scopes_of (laid t) ls ≡ lets_of (stmts_in (row_from (laid t) p)) ∷ parameters (names ++ map (name_of (laid t)) ps) vs (vars_of_all (stmts_in (row_from (laid t) p)) []) ∷ []
    → m ≡ record { frames = []; reads = []; left = 100000; locals = ls } → y ≡ next.Rest mark → Begun code tables e names vs m y
begins_as code tables e names vs t mark p ps ls m y te se re pe ss me ye =
    let rows : stmts_in (row_from (laid t) p) ≡ (code.function e).statements =
    ap (λ is. stmts_in is) re ∙ ap (λ (u : Table). stmts_in ((laid u).rest mark)) te ∙ se in
    let own : map (name_of (laid t)) ps ≡ (code.function e).parameters = ap (λ (u : Table). map (name_of (laid u)) ps) te ∙ pe in
    record {
      mark = mark;
      locals = ls;
      rest = se;
      scopes =
          ap (λ (u : Table). scopes_of (laid u) ls) (sym te) ∙ ss
          ∙ ap (λ (z : Stmts). lets_of z ∷ parameters (names ++ map (name_of (laid t)) ps) vs (vars_of_all z []) ∷ []) rows
          ∙ ap (λ z. lets_of (code.function e).statements ∷ parameters (names ++ z) vs (vars_of_all (code.function e).statements []) ∷ []) own;
      whole = me;
      first = ye;
    }

-- what the statements ask from these scopes on
abbrev body_asks : Code → (ExprNo → Table) → Home → ExprNo → Stmts → List Scope → Ask
body_asks code tables home e ss xs = run_all (around_at (where_of code tables (acting home.author) (record { home = home; text = e; calls = 100 }))) ss (state xs 100000) gives_back

pub begins_meant : (w : World) (s : Sight) (code : Code) (tables : ExprNo → Table) (home : Home) (e : ExprNo) (names : List Units) (vs : List Value) (m : Standing) (y : Next) (r : Acted)
    → Begun code tables e names vs m y → RunsTo w s code tables home.author (record { home = home; text = e; calls = 100 }) m y r → Sees w s
    → meant_by code tables r ≡ next_action s (begun_body code home e names vs)
begins_meant w s code tables home e names vs m y r b k i =
    let h : Here = record { home = home; text = e; calls = 100 } in
    let c : Laid = laid (tables e) in
    k.meant i
    ∙ ap (λ (n : Standing). action_at w s code tables home.author h n y) b.whole
    ∙ ap (λ (z : Next). action_at w s code tables home.author h (record { frames = []; reads = []; left = 100000; locals = b.locals }) z) b.first
    ∙ told_acts w s i (body_asks code tables home e (stmts_in (c.rest b.mark)) (scopes_of c b.locals))
    ∙ ap (λ (ss : Stmts). next_action s (body_asks code tables home e ss (scopes_of c b.locals))) b.rest
    ∙ ap (λ (xs : List Scope). next_action s (body_asks code tables home e (code.function e).statements xs)) b.scopes

behind_meant : (w : World) (s : Sight) (code : Code) (tables : ExprNo → Table) (author : ObjNo) (h : Here) (m : Standing) (b : Behind) (v : Value) → Sees w s
    → action_at w s code tables author h m (next_behind b v) ≡ next_action s (meant (laid (tables h.text)) (where_of code tables (acting author) h) m (next_behind b v))
behind_meant w s code tables author h m (behind.Step q) v i = told_acts w s i (meant (laid (tables h.text)) (where_of code tables (acting author) h) m (next_behind (behind.Step q) v))
behind_meant w s code tables author h m (behind.Back u) v i = told_acts w s i (meant (laid (tables h.text)) (where_of code tables (acting author) h) m (next_behind (behind.Back u) v))

pub resumes_meant : (w : World) (s : Sight) (code : Code) (tables : ExprNo → Table) (k : Stopped) (v : Value) (y : Next) (r : Acted)
    → y ≡ next_behind k.behind v → RunsTo w s code tables k.author k.here (standing_of k) y r → Sees w s → meant_by code tables r ≡ next_action s (goes_on code tables k v)
resumes_meant w s code tables k v y r e a i =
    a.meant i ∙ ap (λ (z : Next). action_at w s code tables k.author k.here (standing_of k) z) e
    ∙ behind_meant w s code tables k.author k.here (standing_of k) k.behind v i

pub resumes_fewer : (w : World) (s : Sight) (code : Code) (tables : ExprNo → Table) (k : Stopped) (y : Next) (r : Acted)
    → RunsTo w s code tables k.author k.here (standing_of k) y r → HasFewer k.left r
resumes_fewer w s code tables k y r a = a.fewer

-- What is done in expressions and statements, as far as loading tells: effects, calls of functions, and a `Qt.binding`
-- where it can't stand.
use Rattle.std.specs.Prelude.{ℕ, Bool, true, false, ◌&&◌, not, if◌then◌else◌, List, [], ◌∷◌, ◌++◌, Option, Some, None, codes}
use Rattle.std.specs.Str.{bytes_eq}
use Rattle.std.specs.Option.{option_or}
use Rattle.qml_base.specs.declared.numbers.Place.{Place}
use Rattle.qml_syntax.specs.declared.operators.Prefix.{Prefix}
use Rattle.qml_syntax.specs.declared.operators.Prefix.TheVariants.{Increment, Decrement}
use Rattle.qml_syntax.specs.declared.operators.Assignment.{Assignment}
use Rattle.qml_syntax.specs.declared.operators.Assignment.TheVariants.{Plain}
use Rattle.qml_syntax.specs.declared.literal.Declaration.{Declaration}
use Rattle.qml_syntax.specs.declared.literal.Declaration.TheVariants.{Var}
use Rattle.qml_syntax.specs.Tree.{Units, Expr, name, number, text, literal, paren, list, fields, steps, bumped, signed, chain, choose, assign, Exprs, no_exprs, an_expr, Fields, no_fields, a_field, Step, member, element, call, binding, Steps, no_steps, a_step, Signs, no_signs, a_sign, Links, no_links, a_link, Choices, no_choices, a_choice, Targets, no_targets, a_target, Stmt, empty, expr, block, declare, when, either, while, for, give, stop, again, Stmts, no_stmts, a_stmt, Vars, last_var, a_var, Maybe, nothing, just, First, no_first, first_expr, first_declare, Function}
use Rattle.program_names.specs.Names.{is_in}
use Rattle.program_names.specs.Loaded.{unit_at}
use Rattle.load_faults.specs.NamesInCode.{NameInCode, finds_id, finds_function, finds_method, finds_script, finds_global, function_in, member_found, Standpoint, is_in_script, found_in_code}

pub data Deed : Type 0 where
  an_effect : Place → Deed  -- an assignment to what is no local, or a call that isn't known to have no effect
  a_call : Place → ℕ → ℕ → Function → Deed
  misbinds : Place → Deed

abbrev pub reading_methods : List Units
reading_methods =
    codes "charAt" ∷ codes "charCodeAt" ∷ codes "indexOf" ∷ codes "includes" ∷ codes "startsWith" ∷ codes "endsWith" ∷
    codes "slice" ∷ codes "substring" ∷ codes "split" ∷ codes "toString" ∷ codes "concat" ∷ codes "join" ∷
    codes "itemAt" ∷ codes "get" ∷ []

abbrev pub math_methods : List Units
math_methods = codes "floor" ∷ codes "ceil" ∷ codes "trunc" ∷ codes "abs" ∷ codes "min" ∷ codes "max" ∷ []

-- what is called: a name, a member of a name, a member of another value, or another value
pub data Callee : Type 0 where
  called_name : Units → Place → Callee
  called_of_name : Units → Units → Place → Callee
  called_member : Units → Place → Callee
  called_value : Callee

abbrev pub callee_of : Expr → Callee
callee_of (name n q) = called_name n q
callee_of _ = called_value

abbrev pub callee_behind : Callee → Step → Callee
callee_behind (called_name n q) (member m r) = called_of_name n m r
callee_behind _ (member m r) = called_member m r
callee_behind _ _ = called_value

abbrev pub reads : Units → Place → List Deed
reads m at = if is_in m reading_methods then [] else an_effect at ∷ []

abbrev pub call_by_name : NameInCode → Units → Place → List Deed
call_by_name (finds_function d o f) n at = a_call at d o f ∷ []
call_by_name finds_global n at = if bytes_eq n (codes "String") then [] else an_effect at ∷ []
call_by_name finds_method n at = reads n at
call_by_name _ n at = an_effect at ∷ []

abbrev pub call_of_member : Option NameInCode → Units → Place → List Deed
call_of_member (Some (finds_function d o f)) m at = a_call at d o f ∷ []
call_of_member _ m at = reads m at

abbrev pub call_of_script : ℕ → Option Function → Units → Place → List Deed
call_of_script u (Some f) m at = a_call at u 0 f ∷ []
call_of_script u None m at = reads m at

abbrev pub call_of_math : Units → Place → List Deed
call_of_math m at = if is_in m math_methods then [] else an_effect at ∷ []

abbrev pub call_of_global : Units → Units → Place → List Deed
call_of_global n m at = if bytes_eq n (codes "Math") then call_of_math m at else reads m at

abbrev pub call_by_member : Standpoint → NameInCode → Units → Units → Place → List Deed
call_by_member h (finds_id o) n m at = call_of_member (member_found h.program h.document o m) m at
call_by_member h (finds_script u) n m at = call_of_script u (function_in (unit_at h.program u).functions m) m at
call_by_member h finds_global n m at = call_of_global n m at
call_by_member h _ n m at = reads m at

-- a call where there may be no effect; `bracket` is the place of its `(`
abbrev pub call_of : Standpoint → Callee → Place → List Deed
call_of h (called_name n at) bracket =
    if is_in n h.locals then an_effect at ∷ [] else call_by_name (found_in_code h n) n at
call_of h (called_of_name n m at) bracket =
    if is_in n h.locals then reads m at else call_by_member h (found_in_code h n) n m at
call_of h (called_member m at) bracket = reads m at
call_of h called_value bracket = an_effect bracket ∷ []

abbrev pub if_pure : Standpoint → List Deed → List Deed
if_pure h deeds = if h.pure then deeds else []

abbrev pub is_local : Standpoint → Expr → Bool
is_local h (name n q) = is_in n h.locals
is_local h _ = false

abbrev pub writes : Standpoint → Expr → Place → List Deed
writes h e at = if h.pure && not (is_local h e) then an_effect at ∷ [] else []

abbrev pub bumps : Prefix → Bool
bumps Increment = true
bumps Decrement = true
bumps _ = false

-- the last of some signs
abbrev pub last_sign : Prefix → Place → Signs → Prefix × Place
last_sign g q no_signs = (g, q)
last_sign g q (a_sign s r rest) = last_sign s r rest

abbrev pub sign_writes : Standpoint → Expr → Prefix × Place → List Deed
sign_writes h e s = if bumps s.0 then writes h e s.1 else []

abbrev pub is_plain : Assignment → Bool
is_plain Plain = true
is_plain _ = false

-- whether the value of an assignment is assigned to a property by `=`
abbrev pub is_right : Standpoint → Expr → Assignment → Targets → Bool
is_right h t g no_targets = is_plain g && not (is_local h t)
is_right h t g (a_target u k q rest) = is_right h u k rest

-- a name that stands around the function of a `Qt.binding`
abbrev pub name_deed : Standpoint → Units → Option Place → List Deed
name_deed h n None = []
name_deed h n (Some at) = if not (is_in n h.locals) && is_in n h.around then misbinds at ∷ [] else []

abbrev pub is_binding_member : Units → Bool
is_binding_member m = bytes_eq m (codes "binding")

abbrev pub ends_call : Steps → Bool
ends_call no_steps = true
ends_call (a_step (call q es) no_steps) = true
ends_call (a_step (binding q ss) no_steps) = true
ends_call _ = false

-- where a chain begins with `Qt.binding`: the place of `Qt`
abbrev pub binding_at : Expr → Step → Option Place
binding_at (name n q) (member m r) = if bytes_eq n (codes "Qt") && is_binding_member m then Some q else None
binding_at _ _ = None

abbrev pub misbinding : Bool → Option Place → List Deed
misbinding fine None = []
misbinding fine (Some at) = if fine then [] else misbinds at ∷ []

-- ---- names of locals

abbrev pub var_names : Vars → List Units
var_names (last_var n q i) = n ∷ []
var_names (a_var n q i rest) = n ∷ var_names rest

abbrev pub if_var : Bool → Declaration → List Units → List Units
if_var wanted Var names = if wanted then names else []
if_var wanted _ names = if wanted then [] else names

abbrev pub first_names : First → List Units
first_names (first_declare q g vs) = if_var true g (var_names vs)
first_names _ = []

-- the names that `var` declares anywhere in statements
abbrev mutual
  pub vars_of : Stmt → List Units
  vars_of (declare q g vs c) = if_var true g (var_names vs)
  vars_of (block q ss) = vars_in ss
  vars_of (when q e s) = vars_of s
  vars_of (either q e s r) = vars_of s ++ vars_of r
  vars_of (while q e s) = vars_of s
  vars_of (for q i e f s) = first_names i ++ vars_of s
  vars_of (empty q) = []
  vars_of (expr e c) = []
  vars_of (give q e c) = []
  vars_of (stop q c) = []
  vars_of (again q c) = []

  pub vars_in : Stmts → List Units
  vars_in no_stmts = []
  vars_in (a_stmt s ss) = vars_of s ++ vars_in ss

-- the names that `let` and `const` declare in a block, those of a statement behind `if`, `else` or a loop's head too
abbrev pub lets_of : Stmt → List Units
lets_of (declare q g vs c) = if_var false g (var_names vs)
lets_of (when q e s) = lets_of s
lets_of (either q e s r) = lets_of s ++ lets_of r
lets_of (while q e s) = lets_of s
lets_of (for q i e f s) = lets_of s
lets_of _ = []

abbrev pub lets_in : Stmts → List Units
lets_in no_stmts = []
lets_in (a_stmt s ss) = lets_of s ++ lets_in ss

abbrev pub lets_of_first : First → List Units
lets_of_first (first_declare q g vs) = if_var false g (var_names vs)
lets_of_first _ = []

abbrev pub within : Standpoint → List Units → Standpoint
within h names = record h { locals = names ++ h.locals }

abbrev pub in_body : Standpoint → Stmts → Standpoint
in_body h ss = within h (lets_in ss ++ vars_in ss)

-- inside the function of a `Qt.binding`
abbrev pub in_binding : Standpoint → Option Place → Stmts → Standpoint
in_binding h at ss = record h {
  locals = lets_in ss ++ vars_in ss;
  around = h.locals ++ h.around;
  inside = option_or at h.inside;
  pure = true;
}

-- ---- the deeds of code; `right` says that the expression is assigned to a property
abbrev mutual
  pub deeds : Standpoint → Bool → Expr → List Deed
  deeds h right (name n q) = name_deed h n h.inside
  deeds h right (number n q) = []
  deeds h right (text t q) = []
  deeds h right (literal k q) = []
  deeds h right (paren q e) = deeds h false e
  deeds h right (list q es c) = deeds_of_list h es
  deeds h right (fields q fs c) = deeds_of_fields h fs
  deeds h right (steps e s ss) =
      misbinding (right && ends_call ss && not (is_in_script h)) (binding_at e s) ++ deeds h false e ++
      deeds_of_step h (binding_at e s) (callee_of e) s ++
      deeds_of_steps h (binding_at e s) (callee_behind (callee_of e) s) ss
  deeds h right (bumped e g q) = writes h e q ++ deeds h false e
  deeds h right (signed g q ss e) = sign_writes h e (last_sign g q ss) ++ deeds h false e
  deeds h right (chain e o q f ls) = deeds h false e ++ deeds h false f ++ deeds_of_links h ls
  deeds h right (choose c e cs f) = deeds h false c ++ deeds h false e ++ deeds_of_choices h cs ++ deeds h false f
  deeds h right (assign t g q ts v) =
      writes h t q ++ deeds h false t ++ deeds_of_targets h ts ++ deeds h (is_right h t g ts) v

  pub deeds_of_list : Standpoint → Exprs → List Deed
  deeds_of_list h no_exprs = []
  deeds_of_list h (an_expr e es) = deeds h false e ++ deeds_of_list h es

  pub deeds_of_fields : Standpoint → Fields → List Deed
  deeds_of_fields h no_fields = []
  deeds_of_fields h (a_field k n q e fs) = deeds h false e ++ deeds_of_fields h fs

  pub deeds_of_step : Standpoint → Option Place → Callee → Step → List Deed
  deeds_of_step h at callee (member n q) = []
  deeds_of_step h at callee (element q e) = deeds h false e
  deeds_of_step h at callee (call q es) = if_pure h (call_of h callee q) ++ deeds_of_list h es
  deeds_of_step h at callee (binding q ss) = if_pure h (call_of h callee q) ++ deeds_of_stmts (in_binding h at ss) ss

  pub deeds_of_steps : Standpoint → Option Place → Callee → Steps → List Deed
  deeds_of_steps h at callee no_steps = []
  deeds_of_steps h at callee (a_step s ss) =
      deeds_of_step h at callee s ++ deeds_of_steps h at (callee_behind callee s) ss

  pub deeds_of_links : Standpoint → Links → List Deed
  deeds_of_links h no_links = []
  deeds_of_links h (a_link o q e ls) = deeds h false e ++ deeds_of_links h ls

  pub deeds_of_choices : Standpoint → Choices → List Deed
  deeds_of_choices h no_choices = []
  deeds_of_choices h (a_choice c e cs) = deeds h false c ++ deeds h false e ++ deeds_of_choices h cs

  pub deeds_of_targets : Standpoint → Targets → List Deed
  deeds_of_targets h no_targets = []
  deeds_of_targets h (a_target t g q ts) = writes h t q ++ deeds h false t ++ deeds_of_targets h ts

  pub deeds_of_stmt : Standpoint → Stmt → List Deed
  deeds_of_stmt h (empty q) = []
  deeds_of_stmt h (expr e c) = deeds h false e
  deeds_of_stmt h (block q ss) = deeds_of_stmts (within h (lets_in ss)) ss
  deeds_of_stmt h (declare q g vs c) = deeds_of_vars h vs
  deeds_of_stmt h (when q e s) = deeds h false e ++ deeds_of_stmt h s
  deeds_of_stmt h (either q e s r) = deeds h false e ++ deeds_of_stmt h s ++ deeds_of_stmt h r
  deeds_of_stmt h (while q e s) = deeds h false e ++ deeds_of_stmt h s
  deeds_of_stmt h (for q i e f s) =
      deeds_of_first (within h (lets_of_first i)) i ++ deeds_of_maybe (within h (lets_of_first i)) e ++
      deeds_of_maybe (within h (lets_of_first i)) f ++ deeds_of_stmt (within h (lets_of_first i)) s
  deeds_of_stmt h (give q e c) = deeds_of_maybe h e
  deeds_of_stmt h (stop q c) = []
  deeds_of_stmt h (again q c) = []

  pub deeds_of_stmts : Standpoint → Stmts → List Deed
  deeds_of_stmts h no_stmts = []
  deeds_of_stmts h (a_stmt s ss) = deeds_of_stmt h s ++ deeds_of_stmts h ss

  pub deeds_of_vars : Standpoint → Vars → List Deed
  deeds_of_vars h (last_var n q i) = deeds_of_maybe h i
  deeds_of_vars h (a_var n q i vs) = deeds_of_maybe h i ++ deeds_of_vars h vs

  pub deeds_of_maybe : Standpoint → Maybe → List Deed
  deeds_of_maybe h nothing = []
  deeds_of_maybe h (just e) = deeds h false e

  pub deeds_of_first : Standpoint → First → List Deed
  deeds_of_first h no_first = []
  deeds_of_first h (first_expr e) = deeds h false e
  deeds_of_first h (first_declare q g vs) = deeds_of_vars h vs

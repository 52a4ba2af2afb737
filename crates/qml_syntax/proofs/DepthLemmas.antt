-- Where a node stands too deep: the first of the nodes that does.
use Rattle.std.proofs.Common.{◌≡◌, ℕ, ◌+◌, true, false, [], ◌∷◌, ◌++◌, Option, Some, refl, sym, ap, ◌∙◌}
use Rattle.std.specs.Prelude.{nat_lt, if◌then◌else◌}
use Rattle.qml_base.specs.declared.numbers.Place.{Place}
use Rattle.qml_syntax.specs.Tree.{Expr, name, number, text, literal, paren, list, fields, steps, bumped, signed, chain, choose, assign, Exprs, no_exprs, an_expr, Fields, no_fields, a_field, Step, member, element, call, binding, Steps, no_steps, a_step, Links, no_links, a_link, Choices, no_choices, a_choice, Targets, no_targets, a_target, Stmt, empty, expr, block, declare, when, either, while, for, give, stop, again, Stmts, no_stmts, a_stmt, Vars, last_var, a_var, Maybe, nothing, just, First, no_first, first_expr, first_declare}
use Rattle.qml_syntax.specs.Depth.{◌or◌, place_of, deep, deep_exprs, deep_fields, deep_step, deep_steps, deep_links, deep_choices, deep_targets, deep_stmt, deep_stmts, deep_vars, deep_maybe, deep_first}
use Rattle.qml_syntax.specs.Standing.{Nodes, first_deep, nodes, nodes_exprs, nodes_fields, nodes_step, nodes_steps, nodes_links, nodes_choices, nodes_targets, nodes_stmt, nodes_stmts, nodes_vars, nodes_maybe, nodes_first}

first_append : (xs ys : Nodes) → first_deep (xs ++ ys) ≡ (first_deep xs or first_deep ys)
first_append [] ys = refl
first_append (x ∷ xs) ys =
    elim (nat_lt 100 x.depth) as (λ v. (if v then Some x.place else first_deep (xs ++ ys)) ≡ ((if v then Some x.place else first_deep xs) or first_deep ys)) [
      | true ↦ refl
      | false ↦ first_append xs ys
    ]

both_deep : (xs ys : Nodes) {a b : Option Place} → a ≡ first_deep xs → b ≡ first_deep ys → (a or b) ≡ first_deep (xs ++ ys)
both_deep xs ys {a} {b} p q = ap (λ (z : Option Place). z or b) p ∙ ap (λ (z : Option Place). first_deep xs or z) q ∙ sym (first_append xs ys)

mutual
  pub is_deep : (d : ℕ) (x : Expr) → deep d x ≡ first_deep (nodes d x)
  is_deep d (name n p) = refl
  is_deep d (number n p) = refl
  is_deep d (text n p) = refl
  is_deep d (literal f p) = refl
  is_deep d (paren p e) = ap (λ (z : Option Place). if nat_lt 100 d then Some p else z) (is_deep (d + 1) e)
  is_deep d (list p es c) = ap (λ (z : Option Place). if nat_lt 100 d then Some p else z) (is_deep_exprs (d + 1) es)
  is_deep d (fields p fs c) = ap (λ (z : Option Place). if nat_lt 100 d then Some p else z) (is_deep_fields (d + 1) fs)
  is_deep d (steps e s ss) = ap (λ (z : Option Place). if nat_lt 100 d then Some (place_of e) else z) (both_deep (nodes (d + 1) e) (nodes_step (d + 1) s ++ nodes_steps (d + 1) ss) (is_deep (d + 1) e) (both_deep (nodes_step (d + 1) s) (nodes_steps (d + 1) ss) (is_deep_step (d + 1) s) (is_deep_steps (d + 1) ss)))
  is_deep d (bumped e i p) = ap (λ (z : Option Place). if nat_lt 100 d then Some (place_of e) else z) (is_deep (d + 1) e)
  is_deep d (signed g p ss e) = ap (λ (z : Option Place). if nat_lt 100 d then Some p else z) (is_deep (d + 1) e)
  is_deep d (chain e op p f ls) = ap (λ (z : Option Place). if nat_lt 100 d then Some (place_of e) else z) (both_deep (nodes (d + 1) e) (nodes (d + 1) f ++ nodes_links (d + 1) ls) (is_deep (d + 1) e) (both_deep (nodes (d + 1) f) (nodes_links (d + 1) ls) (is_deep (d + 1) f) (is_deep_links (d + 1) ls)))
  is_deep d (choose c e cs f) = ap (λ (z : Option Place). if nat_lt 100 d then Some (place_of c) else z) (both_deep (nodes (d + 1) c) (nodes (d + 1) e ++ (nodes_choices (d + 1) cs ++ nodes (d + 1) f)) (is_deep (d + 1) c) (both_deep (nodes (d + 1) e) (nodes_choices (d + 1) cs ++ nodes (d + 1) f) (is_deep (d + 1) e) (both_deep (nodes_choices (d + 1) cs) (nodes (d + 1) f) (is_deep_choices (d + 1) cs) (is_deep (d + 1) f))))
  is_deep d (assign t g p ts v) = ap (λ (z : Option Place). if nat_lt 100 d then Some (place_of t) else z) (both_deep (nodes (d + 1) t) (nodes_targets (d + 1) ts ++ nodes (d + 1) v) (is_deep (d + 1) t) (both_deep (nodes_targets (d + 1) ts) (nodes (d + 1) v) (is_deep_targets (d + 1) ts) (is_deep (d + 1) v)))

  pub is_deep_exprs : (d : ℕ) (x : Exprs) → deep_exprs d x ≡ first_deep (nodes_exprs d x)
  is_deep_exprs d no_exprs = refl
  is_deep_exprs d (an_expr e es) = both_deep (nodes d e) (nodes_exprs d es) (is_deep d e) (is_deep_exprs d es)

  pub is_deep_fields : (d : ℕ) (x : Fields) → deep_fields d x ≡ first_deep (nodes_fields d x)
  is_deep_fields d no_fields = refl
  is_deep_fields d (a_field q n p e fs) = both_deep (nodes d e) (nodes_fields d fs) (is_deep d e) (is_deep_fields d fs)

  pub is_deep_step : (d : ℕ) (x : Step) → deep_step d x ≡ first_deep (nodes_step d x)
  is_deep_step d (member n p) = refl
  is_deep_step d (element p e) = is_deep d e
  is_deep_step d (call p es) = is_deep_exprs d es
  is_deep_step d (binding p ss) = ap (λ (z : Option Place). if nat_lt 100 d then Some p else z) (is_deep_stmts (d + 1) ss)

  pub is_deep_steps : (d : ℕ) (x : Steps) → deep_steps d x ≡ first_deep (nodes_steps d x)
  is_deep_steps d no_steps = refl
  is_deep_steps d (a_step s ss) = both_deep (nodes_step d s) (nodes_steps d ss) (is_deep_step d s) (is_deep_steps d ss)

  pub is_deep_links : (d : ℕ) (x : Links) → deep_links d x ≡ first_deep (nodes_links d x)
  is_deep_links d no_links = refl
  is_deep_links d (a_link op p e ls) = both_deep (nodes d e) (nodes_links d ls) (is_deep d e) (is_deep_links d ls)

  pub is_deep_choices : (d : ℕ) (x : Choices) → deep_choices d x ≡ first_deep (nodes_choices d x)
  is_deep_choices d no_choices = refl
  is_deep_choices d (a_choice c e cs) = both_deep (nodes d c) (nodes d e ++ nodes_choices d cs) (is_deep d c) (both_deep (nodes d e) (nodes_choices d cs) (is_deep d e) (is_deep_choices d cs))

  pub is_deep_targets : (d : ℕ) (x : Targets) → deep_targets d x ≡ first_deep (nodes_targets d x)
  is_deep_targets d no_targets = refl
  is_deep_targets d (a_target t g p ts) = both_deep (nodes d t) (nodes_targets d ts) (is_deep d t) (is_deep_targets d ts)

  pub is_deep_stmt : (d : ℕ) (x : Stmt) → deep_stmt d x ≡ first_deep (nodes_stmt d x)
  is_deep_stmt d (empty p) = refl
  is_deep_stmt d (expr e c) = is_deep d e
  is_deep_stmt d (block p ss) = ap (λ (z : Option Place). if nat_lt 100 d then Some p else z) (is_deep_stmts (d + 1) ss)
  is_deep_stmt d (declare p q vs c) = ap (λ (z : Option Place). if nat_lt 100 d then Some p else z) (is_deep_vars (d + 1) vs)
  is_deep_stmt d (when p e s) = ap (λ (z : Option Place). if nat_lt 100 d then Some p else z) (both_deep (nodes (d + 1) e) (nodes_stmt (d + 1) s) (is_deep (d + 1) e) (is_deep_stmt (d + 1) s))
  is_deep_stmt d (either p e s r) = ap (λ (z : Option Place). if nat_lt 100 d then Some p else z) (both_deep (nodes (d + 1) e) (nodes_stmt (d + 1) s ++ nodes_stmt (d + 1) r) (is_deep (d + 1) e) (both_deep (nodes_stmt (d + 1) s) (nodes_stmt (d + 1) r) (is_deep_stmt (d + 1) s) (is_deep_stmt (d + 1) r)))
  is_deep_stmt d (while p e s) = ap (λ (z : Option Place). if nat_lt 100 d then Some p else z) (both_deep (nodes (d + 1) e) (nodes_stmt (d + 1) s) (is_deep (d + 1) e) (is_deep_stmt (d + 1) s))
  is_deep_stmt d (for p i e f s) = ap (λ (z : Option Place). if nat_lt 100 d then Some p else z) (both_deep (nodes_first (d + 1) i) (nodes_maybe (d + 1) e ++ (nodes_maybe (d + 1) f ++ nodes_stmt (d + 1) s)) (is_deep_first (d + 1) i) (both_deep (nodes_maybe (d + 1) e) (nodes_maybe (d + 1) f ++ nodes_stmt (d + 1) s) (is_deep_maybe (d + 1) e) (both_deep (nodes_maybe (d + 1) f) (nodes_stmt (d + 1) s) (is_deep_maybe (d + 1) f) (is_deep_stmt (d + 1) s))))
  is_deep_stmt d (give p e c) = ap (λ (z : Option Place). if nat_lt 100 d then Some p else z) (is_deep_maybe (d + 1) e)
  is_deep_stmt d (stop p c) = refl
  is_deep_stmt d (again p c) = refl

  pub is_deep_stmts : (d : ℕ) (x : Stmts) → deep_stmts d x ≡ first_deep (nodes_stmts d x)
  is_deep_stmts d no_stmts = refl
  is_deep_stmts d (a_stmt s ss) = both_deep (nodes_stmt d s) (nodes_stmts d ss) (is_deep_stmt d s) (is_deep_stmts d ss)

  pub is_deep_vars : (d : ℕ) (x : Vars) → deep_vars d x ≡ first_deep (nodes_vars d x)
  is_deep_vars d (last_var n p i) = is_deep_maybe d i
  is_deep_vars d (a_var n p i vs) = both_deep (nodes_maybe d i) (nodes_vars d vs) (is_deep_maybe d i) (is_deep_vars d vs)

  pub is_deep_maybe : (d : ℕ) (x : Maybe) → deep_maybe d x ≡ first_deep (nodes_maybe d x)
  is_deep_maybe d nothing = refl
  is_deep_maybe d (just e) = is_deep d e

  pub is_deep_first : (d : ℕ) (x : First) → deep_first d x ≡ first_deep (nodes_first d x)
  is_deep_first d no_first = refl
  is_deep_first d (first_expr e) = is_deep d e
  is_deep_first d (first_declare p q vs) = ap (λ (z : Option Place). if nat_lt 100 d then Some p else z) (is_deep_vars (d + 1) vs)

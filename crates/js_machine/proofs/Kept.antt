-- The nodes of open frames are those of the trees that they become.
use Rattle.std.proofs.Common.{◌≡◌, ℕ, Bool, true, false, List, [], ◌∷◌, refl, ap, ◌∙◌, eq-eqb}
use Rattle.std.specs.Prelude.{if◌then◌else◌}
use Rattle.std.specs.Str.{bytes_eq}
use Rattle.std.specs.Prelude.{codes}
use Rattle.qml_base.specs.declared.numbers.Place.{Place}
use Rattle.qml_syntax.specs.declared.operators.Operator.{Operator}
use Rattle.qml_syntax.specs.declared.operators.Prefix.{Prefix}
use Rattle.qml_syntax.specs.declared.operators.Assignment.{Assignment}
use Rattle.qml_syntax.specs.Tree.{Units, Expr, name, number, text, literal, paren, list, fields, steps, bumped, signed, chain, choose, assign, Exprs, an_expr, Fields, a_field, Step, member, element, call, binding, Steps, no_steps, a_step, Stmt, Stmts, a_stmt, Signs, no_signs, a_sign, Links, no_links, a_link, Choices, a_choice, Targets, a_target, Vars, a_var}
use Rattle.qml_syntax.specs.Levels.{tightness, is_target, is_open, is_place, ends_in_place, Reached, at_qt, at_binding, elsewhere, beyond, if_binding}
use Rattle.qml_syntax.specs.declared.node.Node.TheVariants as node
use Rattle.qml_syntax.specs.Nodes.{Table, at_mark}
use Rattle.qml_syntax.specs.Listed.{last_sign, listed_signs, listed, listed_exprs, listed_fields, listed_step, listed_steps, listed_links, listed_choices, listed_targets, listed_stmts, listed_vars}
use Rattle.js_machine.specs.declared.open.Have.{Have}
use Rattle.js_machine.specs.declared.open.Reach.{Reach}
use Rattle.js_machine.specs.declared.open.Reach.TheVariants as reach
use Rattle.js_machine.specs.Frames.{Field, Sign, Link, Choice, Target, Var, exprs_onto, fields_onto, vars_onto, stmts_onto, stepped, steps_onto, reached, signed_onto, chain_onto, choose_onto, assign_onto}
use Rattle.js_machine.specs.Tape.{none_yet, exprs_row, steps_row, stmts_row, fields_row, vars_row, signs_row, links_row, choices_row, targets_row, reach_of, have_of}
use Rattle.js_machine.specs.Moves.{of_step_to, member_reach, flushed}
use Rattle.js_machine.proofs.Collapse.{open_stepped, stepped_tight}

pub exprs_listed : (back : List Expr) (more : Exprs) (s : Table) → listed_exprs more (exprs_row back s) ≡ listed_exprs (exprs_onto back more) s
exprs_listed [] more s = refl
exprs_listed (e ∷ back) more s = exprs_listed back (an_expr e more) s

pub stmts_listed : (back : List Stmt) (more : Stmts) (s : Table) → listed_stmts more (stmts_row back s) ≡ listed_stmts (stmts_onto back more) s
stmts_listed [] more s = refl
stmts_listed (d ∷ back) more s = stmts_listed back (a_stmt d more) s

pub fields_listed : (back : List Field) (more : Fields) (s : Table) → listed_fields more (fields_row back s) ≡ listed_fields (fields_onto back more) s
fields_listed [] more s = refl
fields_listed (x ∷ back) more s = fields_listed back (a_field x.0 x.1 x.2 x.3 more) s

pub vars_listed : (back : List Var) (more : Vars) (s : Table) → listed_vars more (vars_row back s) ≡ listed_vars (vars_onto back more) s
vars_listed [] more s = refl
vars_listed (v ∷ back) more s = vars_listed back (a_var v.0 v.1 v.2 more) s

steps_listed : (e : Expr) (i : Step) (back : List Step) (more : Steps) (s : Table) → node.Steps ∷ listed_steps more (listed_step i (steps_row back (listed e s))) ≡ listed (steps_onto e i back more) s
steps_listed e i [] more s = refl
steps_listed e i (j ∷ back) more s = steps_listed e j back (a_step i more) s

pub signs_listed : (back : List Sign) (h : Prefix) (p : Place) (ss : Signs) (e : Expr) (s : Table) → last_sign (none_yet back) h p ss ∷ listed e (listed_signs (none_yet back) h p ss (signs_row back s)) ≡ listed (signed_onto back h p ss e) s
signs_listed [] h p ss e s = refl
signs_listed (x ∷ back) h p ss e s = signs_listed back x.0 x.1 (a_sign h p ss) e s

pub links_listed : (a : Expr) (back : List Link) (op : Operator) (p : Place) (d : Expr) (ls : Links) (s : Table) → listed_links (none_yet back) op p ls (listed d (links_row back (listed a s))) ≡ listed (chain_onto a back op p d ls) s
links_listed a [] op p d ls s = refl
links_listed a (x ∷ back) op p d ls s = links_listed a back x.0 x.1 x.2 (a_link op p d ls) s

pub choices_listed : (x : Choice) (back : List Choice) (cs : Choices) (d : Expr) (s : Table) → node.Choose ∷ listed d (listed_choices cs (choices_row (x ∷ back) s)) ≡ listed (choose_onto back x.0 x.1 cs d) s
choices_listed x [] cs d s = refl
choices_listed x (z ∷ back) cs d s = choices_listed z back (a_choice x.0 x.1 cs) d s

pub targets_listed : (x : Target) (back : List Target) (ts : Targets) (v : Expr) (s : Table) → node.Assign ∷ listed v (listed_targets ts (targets_row (x ∷ back) s)) ≡ listed (assign_onto back x.0 x.1 x.2 ts v) s
targets_listed x [] ts v s = refl
targets_listed x (z ∷ back) ts v s = targets_listed z back (a_target x.0 x.1 x.2 ts) v s

-- ---- no tree ends in a mark

sign_no_mark : (first : Bool) (h : Prefix) (p : Place) (ss : Signs) (s : Table) → at_mark (last_sign first h p ss ∷ s) ≡ false
sign_no_mark first h p no_signs s = refl
sign_no_mark first h p (a_sign g q ss) s = sign_no_mark false g q ss s

links_no_mark : (first : Bool) (op : Operator) (p : Place) (ls : Links) (s : Table) → at_mark (listed_links first op p ls s) ≡ false
links_no_mark first op p no_links s = refl
links_no_mark first op p (a_link o q d ls) s = links_no_mark false o q ls (listed d (node.Link first op p ∷ s))

pub no_mark : (e : Expr) (s : Table) → at_mark (listed e s) ≡ false
no_mark (signed h p ss e) s = sign_no_mark true h p ss (listed e (listed_signs true h p ss s))
no_mark (chain e op p d ls) s = links_no_mark true op p ls (listed d (listed e s))
no_mark (name n p) s = refl
no_mark (number n p) s = refl
no_mark (text n p) s = refl
no_mark (literal x p) s = refl
no_mark (paren p e) s = refl
no_mark (list p es c) s = refl
no_mark (fields p fs c) s = refl
no_mark (steps e i is) s = refl
no_mark (bumped e i p) s = refl
no_mark (choose c e cs d) s = refl
no_mark (assign t g p ts v) s = refl

-- ---- what is known of wholes

pub signed_no_target : (back : List Sign) (h : Prefix) (p : Place) (ss : Signs) (e : Expr) → is_target (signed_onto back h p ss e) ≡ false
signed_no_target [] h p ss e = refl
signed_no_target (x ∷ back) h p ss e = signed_no_target back x.0 x.1 (a_sign h p ss) e

pub chain_no_target : (a : Expr) (back : List Link) (op : Operator) (p : Place) (d : Expr) (ls : Links) → is_target (chain_onto a back op p d ls) ≡ false
chain_no_target a [] op p d ls = refl
chain_no_target a (l ∷ back) op p d ls = chain_no_target a back l.0 l.1 l.2 (a_link op p d ls)

pub choose_no_target : (back : List Choice) (c e : Expr) (cs : Choices) (d : Expr) → is_target (choose_onto back c e cs d) ≡ false
choose_no_target [] c e cs d = refl
choose_no_target (x ∷ back) c e cs d = choose_no_target back x.0 x.1 (a_choice c e cs) d

pub assign_no_target : (back : List Target) (t : Expr) (h : Assignment) (p : Place) (ts : Targets) (v : Expr) → is_target (assign_onto back t h p ts v) ≡ false
assign_no_target [] t h p ts v = refl
assign_no_target (x ∷ back) t h p ts v = assign_no_target back x.0 x.1 x.2 (a_target t h p ts) v

steps_place : (e : Expr) (i : Step) (back : List Step) (ss : Steps) → is_target (steps_onto e i back ss) ≡ ends_in_place i ss
steps_place e i [] ss = refl
steps_place e i (j ∷ back) ss = steps_place e j back (a_step i ss)

stepped_place : (e : Expr) (i : Step) (back : List Step) → is_target (stepped e (i ∷ back)) ≡ is_place i
stepped_place e i back = steps_place e i back no_steps

made : Bool → ℕ → Bool → Bool → Reach → Have
made a t d c r = record { primary = a; stepped = true; tight = t; target = d; callable = c; reach = r }

pub step_known : (e : Expr) (i : Step) (back : List Step) (r : Reach) → tightness e ≡ 16 → reach_of (beyond (reached e back) i) ≡ r → have_of e (i ∷ back) ≡ of_step_to (is_place i) r
unfolding made
step_known e i back r h q =
    let one : have_of e (i ∷ back) ≡ made true (tightness (stepped e (i ∷ back))) (is_target (stepped e (i ∷ back))) (is_open (stepped e (i ∷ back))) (reach_of (reached e (i ∷ back))) = ap (λ (v : Bool). made v (tightness (stepped e (i ∷ back))) (is_target (stepped e (i ∷ back))) (is_open (stepped e (i ∷ back))) (reach_of (reached e (i ∷ back)))) (eq-eqb (tightness e) 16 h) in
    one ∙ ap (λ (v : ℕ). made true v (is_target (stepped e (i ∷ back))) (is_open (stepped e (i ∷ back))) (reach_of (reached e (i ∷ back)))) (stepped_tight e i back) ∙ ap (λ (v : Bool). made true 15 v (is_open (stepped e (i ∷ back))) (reach_of (reached e (i ∷ back)))) (stepped_place e i back) ∙ ap (λ (v : Bool). made true 15 (is_place i) v (reach_of (reached e (i ∷ back)))) (open_stepped e (i ∷ back) h) ∙ ap (λ (v : Reach). made true 15 (is_place i) true v) q

pub call_reach : (r : Reached) (p : Place) (es : Exprs) → reach_of (beyond r (call p es)) ≡ reach.Elsewhere
call_reach at_qt p es = refl
call_reach _ p es = refl

pub element_reach : (r : Reached) (p : Place) (e : Expr) → reach_of (beyond r (element p e)) ≡ reach.Elsewhere
element_reach at_qt p e = refl
element_reach _ p e = refl

pub binding_reach : (r : Reached) (p : Place) (ss : Stmts) → reach_of (beyond r (binding p ss)) ≡ reach.Elsewhere
binding_reach at_qt p ss = refl
binding_reach _ p ss = refl

pub member_reaches : (r : Reached) (n : Units) (p : Place) → reach_of (beyond r (member n p)) ≡ member_reach (reach_of r) n
member_reaches at_qt n p = by (bytes_eq n (codes "binding"))
  where
    by : (c : Bool) → reach_of (if_binding c) ≡ (if c then reach.Binding else reach.Elsewhere)
    by true = refl
    by false = refl
member_reaches at_binding n p = refl
member_reaches elsewhere n p = refl

-- the steps behind an expression become a part of it
pub flush_known : (e : Expr) (ss : List Step) (s : Table) → flushed (have_of e ss) (steps_row ss (listed e s)) ≡ listed (stepped e ss) s
flush_known e [] s = refl
flush_known e (i ∷ ss) s = steps_listed e i ss no_steps s

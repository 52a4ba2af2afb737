-- The last node of an expression is no mark, no step and no declared name.
use Rattle.std.proofs.Common.{◌≡◌, Bool, true, false, ◌∷◌, refl}
use Rattle.qml_base.specs.declared.numbers.Place.{Place}
use Rattle.qml_syntax.specs.declared.operators.Operator.{Operator}
use Rattle.qml_syntax.specs.declared.operators.Prefix.{Prefix}
use Rattle.qml_syntax.specs.declared.node.Node.{Node}
use Rattle.qml_syntax.specs.declared.node.Node.TheVariants as node
use Rattle.qml_syntax.specs.Tree.{Expr, name, number, text, literal, paren, list, fields, steps, bumped, signed, chain, choose, assign, Signs, no_signs, a_sign, Links, no_links, a_link}
use Rattle.qml_syntax.specs.Nodes.{Table, is_mark}
use Rattle.qml_syntax.specs.Listed.{last_sign, listed, listed_choices, listed_exprs, listed_fields, listed_links, listed_signs, listed_step, listed_steps, listed_targets}
use Rattle.qml_syntax.specs.WalkFlat.{is_step, is_var}

pub record Headed (t : Table) : Type 0 where
  pub last : Node
  pub rest : Table
  pub is : t ≡ last ∷ rest
  pub no_mark : is_mark last ≡ false
  pub no_step : is_step last ≡ false
  pub no_var : is_var last ≡ false

a_head : (x : Node) (s : Table) → is_mark x ≡ false → is_step x ≡ false → is_var x ≡ false → Headed (x ∷ s)
a_head x s p q r = record { last = x; rest = s; is = refl; no_mark = p; no_step = q; no_var = r }

chain_head : (ls : Links) (first : Bool) (op : Operator) (p : Place) (t : Table) → Headed (listed_links first op p ls t)
chain_head no_links first op p t = a_head (node.Chain first op p) t refl refl refl
chain_head (a_link o q d ls) first op p t = chain_head ls false o q (listed d (node.Link first op p ∷ t))

sign_head : (ss : Signs) (first : Bool) (g : Prefix) (p : Place) (s : Table) → Headed (last_sign first g p ss ∷ s)
sign_head no_signs first g p s = a_head (node.Signed first g p) s refl refl refl
sign_head (a_sign h q ss) first g p s = sign_head ss false h q s

pub head : (e : Expr) (s : Table) → Headed (listed e s)
head (name n p) s = a_head (node.Name n p) s refl refl refl
head (number n p) s = a_head (node.Number n p) s refl refl refl
head (text n p) s = a_head (node.Text n p) s refl refl refl
head (literal x p) s = a_head (node.Literal x p) s refl refl refl
head (paren p e) s = a_head (node.Paren p) (listed e s) refl refl refl
head (list p es c) s = a_head (node.List p c) (listed_exprs es (node.Mark ∷ s)) refl refl refl
head (fields p fs c) s = a_head (node.Fields p c) (listed_fields fs (node.Mark ∷ s)) refl refl refl
head (steps e i is) s = a_head node.Steps (listed_steps is (listed_step i (listed e s))) refl refl refl
head (bumped e i p) s = a_head (node.Postfix i p) (listed e s) refl refl refl
head (signed g p ss e) s = sign_head ss true g p (listed e (listed_signs true g p ss s))
head (chain e op p d ls) s = chain_head ls true op p (listed d (listed e s))
head (choose c e cs d) s = a_head node.Choose (listed d (listed_choices cs (node.Choice true ∷ listed e (listed c s)))) refl refl refl
head (assign t g p ts v) s = a_head node.Assign (listed v (listed_targets ts (node.Target true g p ∷ listed t s))) refl refl refl

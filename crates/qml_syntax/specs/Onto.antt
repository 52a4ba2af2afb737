-- Parts of trees that are read one after the other, and the whole that they give before what is behind them. In a list
-- of parts the latest stands in front.
use Rattle.std.specs.Prelude.{Bool, Option, List, [], ◌∷◌}
use Rattle.qml_base.specs.declared.numbers.Place.{Place}
use Rattle.qml_syntax.specs.declared.operators.Operator.{Operator}
use Rattle.qml_syntax.specs.declared.operators.Prefix.{Prefix}
use Rattle.qml_syntax.specs.declared.operators.Assignment.{Assignment}
use Rattle.qml_syntax.specs.Tree.{Units, Expr, steps, signed, chain, choose, assign, Exprs, an_expr, Fields, a_field, Step, Steps, no_steps, a_step, Signs, a_sign, Links, a_link, Choices, a_choice, Targets, a_target, Stmt, Stmts, a_stmt, Vars, a_var, Maybe, Kind, Pars, a_par, SignalPars, a_signal_par, Members, a_member, Member, Objects, an_object, Object}
use Rattle.qml_syntax.specs.Levels.{Reached, start, beyond}

abbrev pub Field : Type 0
Field = Bool × Units × Place × Expr

abbrev pub Sign : Type 0
Sign = Prefix × Place

abbrev pub Link : Type 0
Link = Operator × Place × Expr

abbrev pub Choice : Type 0
Choice = Expr × Expr

abbrev pub Target : Type 0
Target = Expr × Assignment × Place

abbrev pub Var : Type 0
Var = Units × Place × Maybe

abbrev pub exprs_onto : List Expr → Exprs → Exprs
exprs_onto [] es = es
exprs_onto (e ∷ back) es = exprs_onto back (an_expr e es)

abbrev pub fields_onto : List Field → Fields → Fields
fields_onto [] fs = fs
fields_onto (f ∷ back) fs = fields_onto back (a_field f.0 f.1 f.2 f.3 fs)

abbrev pub steps_onto : Expr → Step → List Step → Steps → Expr
steps_onto e s [] ss = steps e s ss
steps_onto e s (t ∷ back) ss = steps_onto e t back (a_step s ss)

-- an expression with the steps behind it
abbrev pub stepped : Expr → List Step → Expr
stepped e [] = e
stepped e (s ∷ back) = steps_onto e s back no_steps

-- whether these are `Qt` or `Qt.binding`
abbrev pub reached : Expr → List Step → Reached
reached e [] = start e
reached e (s ∷ back) = beyond (reached e back) s

abbrev pub signed_onto : List Sign → Prefix → Place → Signs → Expr → Expr
signed_onto [] g p ss e = signed g p ss e
signed_onto (s ∷ back) g p ss e = signed_onto back s.0 s.1 (a_sign g p ss) e

abbrev pub chain_onto : Expr → List Link → Operator → Place → Expr → Links → Expr
chain_onto e [] op p d ls = chain e op p d ls
chain_onto e (l ∷ back) op p d ls = chain_onto e back l.0 l.1 l.2 (a_link op p d ls)

abbrev pub choose_onto : List Choice → Expr → Expr → Choices → Expr → Expr
choose_onto [] c e cs d = choose c e cs d
choose_onto (x ∷ back) c e cs d = choose_onto back x.0 x.1 (a_choice c e cs) d

abbrev pub assign_onto : List Target → Expr → Assignment → Place → Targets → Expr → Expr
assign_onto [] t g p ts v = assign t g p ts v
assign_onto (x ∷ back) t g p ts v = assign_onto back x.0 x.1 x.2 (a_target t g p ts) v

abbrev pub vars_onto : List Var → Vars → Vars
vars_onto [] vs = vs
vars_onto (v ∷ back) vs = vars_onto back (a_var v.0 v.1 v.2 vs)

abbrev pub stmts_onto : List Stmt → Stmts → Stmts
stmts_onto [] ss = ss
stmts_onto (s ∷ back) ss = stmts_onto back (a_stmt s ss)

-- ---- of documents and script files

abbrev pub MarkedMember : Type 0
MarkedMember = Member × Bool

abbrev pub Par : Type 0
Par = Units × Option Kind

abbrev pub SignalPar : Type 0
SignalPar = Kind × Units

abbrev pub onto : {A : Type 0} → List A → List A → List A
onto [] tail = tail
onto (x ∷ back) tail = onto back (x ∷ tail)

abbrev pub members_onto : List MarkedMember → Members → Members
members_onto [] tail = tail
members_onto (x ∷ back) tail = members_onto back (a_member x.0 x.1 tail)

abbrev pub objects_onto : List Object → Objects → Objects
objects_onto [] tail = tail
objects_onto (o ∷ back) tail = objects_onto back (an_object o tail)

abbrev pub pars_onto : List Par → Pars → Pars
pars_onto [] tail = tail
pars_onto (x ∷ back) tail = pars_onto back (a_par x.0 x.1 tail)

abbrev pub signal_pars_onto : List SignalPar → SignalPars → SignalPars
signal_pars_onto [] tail = tail
signal_pars_onto (x ∷ back) tail = signal_pars_onto back (a_signal_par x.0 x.1 tail)

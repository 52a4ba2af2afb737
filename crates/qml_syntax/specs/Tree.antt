-- Expressions, statements, documents and script files as trees. A tree keeps its brackets, its statement ends and its
-- places, each of which is that of the first token of what is named beside it. A chain of operators of one level is one
-- node; its first operand stands in front, and lists are in the order of writing. What a form spells in more than one way
-- is kept.
use Rattle.std.specs.Prelude.{ℕ, Bool, List, Option}
use Rattle.qml_base.specs.declared.numbers.Place.{Place}
use Rattle.qml_syntax.specs.declared.operators.Operator.{Operator}
use Rattle.qml_syntax.specs.declared.operators.Prefix.{Prefix}
use Rattle.qml_syntax.specs.declared.operators.Postfix.{Postfix}
use Rattle.qml_syntax.specs.declared.operators.Assignment.{Assignment}
use Rattle.qml_syntax.specs.declared.literal.Literal.{Literal}
use Rattle.qml_syntax.specs.declared.literal.Declaration.{Declaration}
use Rattle.qml_syntax.specs.declared.contextual.Adjective.{Adjective}
use Rattle.qml_syntax.specs.declared.contextual.Version.{Version}

-- a text as the list of its units
abbrev pub Units : Type 0
Units = List ℕ

-- how a statement ends: by a `;` of its own, or without
pub data Close : Type 0 where
  semi : Close
  auto : Close

mutual
  pub data Expr : Type 0 where
    name : Units → Place → Expr
    number : ℕ → Place → Expr
    text : Units → Place → Expr
    literal : Literal → Place → Expr
    paren : Place → Expr → Expr  -- ( e )
    list : Place → Exprs → Bool → Expr  -- [ e, e ], with a comma behind the last or not
    fields : Place → Fields → Bool → Expr  -- { key: e, key: e }, likewise
    steps : Expr → Step → Steps → Expr  -- calls, members and elements
    bumped : Expr → Postfix → Place → Expr  -- e ++
    signed : Prefix → Place → Signs → Expr → Expr  -- ! - e
    chain : Expr → Operator → Place → Expr → Links → Expr  -- e + e - e
    choose : Expr → Expr → Choices → Expr → Expr  -- e ? e : e ? e : e
    assign : Expr → Assignment → Place → Targets → Expr → Expr  -- e = e += e

  pub data Exprs : Type 0 where
    no_exprs : Exprs
    an_expr : Expr → Exprs → Exprs

  pub data Fields : Type 0 where
    no_fields : Fields
    a_field : Bool → Units → Place → Expr → Fields → Fields  -- whether the key is a text

  pub data Step : Type 0 where
    member : Units → Place → Step  -- . name
    element : Place → Expr → Step  -- [ e ]
    call : Place → Exprs → Step  -- ( e, e )
    binding : Place → Stmts → Step  -- ( function ( ) { .. } )

  pub data Steps : Type 0 where
    no_steps : Steps
    a_step : Step → Steps → Steps

  pub data Signs : Type 0 where
    no_signs : Signs
    a_sign : Prefix → Place → Signs → Signs

  pub data Links : Type 0 where
    no_links : Links
    a_link : Operator → Place → Expr → Links → Links

  pub data Choices : Type 0 where
    no_choices : Choices
    a_choice : Expr → Expr → Choices → Choices

  pub data Targets : Type 0 where
    no_targets : Targets
    a_target : Expr → Assignment → Place → Targets → Targets

  pub data Stmt : Type 0 where
    empty : Place → Stmt  -- ;
    expr : Expr → Close → Stmt
    block : Place → Stmts → Stmt  -- { .. }
    declare : Place → Declaration → Vars → Close → Stmt  -- var a = e, b
    when : Place → Expr → Stmt → Stmt  -- if ( e ) s
    either : Place → Expr → Stmt → Stmt → Stmt  -- if ( e ) s else s
    while : Place → Expr → Stmt → Stmt  -- while ( e ) s
    for : Place → First → Maybe → Maybe → Stmt → Stmt  -- for ( .. ; e ; e ) s
    give : Place → Maybe → Close → Stmt  -- return e
    stop : Place → Close → Stmt  -- break
    again : Place → Close → Stmt  -- continue

  pub data Stmts : Type 0 where
    no_stmts : Stmts
    a_stmt : Stmt → Stmts → Stmts

  pub data Vars : Type 0 where
    last_var : Units → Place → Maybe → Vars
    a_var : Units → Place → Maybe → Vars → Vars

  pub data Maybe : Type 0 where
    nothing : Maybe
    just : Expr → Maybe

  -- what a `for` begins with
  pub data First : Type 0 where
    no_first : First
    first_expr : Expr → First
    first_declare : Place → Declaration → Vars → First

-- ---- documents and script files

-- the names behind the first one, each behind a dot
abbrev pub Names : Type 0
Names = List Units

-- ---- imports

-- the qualifier behind `as`, if there is one
pub data Import : Type 0 where
  import_module : Units → Place → Names → Version → Option Units → Close → Import  -- first name (its place), names behind dots
  import_text : Units → Place → Option Units → Close → Import  -- the text (its place)

-- ---- names of types, and kinds

-- the Place is that of the first token: of the qualifier where there is one
pub data TypeName : Type 0 where
  own_type : Units → Place → TypeName  -- X
  type_of : Units → Place → Units → TypeName  -- Q . X

pub data Kind : Type 0 where
  kind_var : Kind
  kind_name : Units → Place → Names → Kind  -- first name (its place), names behind dots
  kind_list : Units → Place → Kind  -- list < name > (the place of the name)

-- ---- functions and signals

-- a parameter's name with its kind, if one is given
pub data Pars : Type 0 where
  no_pars : Pars
  a_par : Units → Option Kind → Pars → Pars

-- places: the word `function`, the name
pub data Function : Type 0 where
  function : Place → Units → Place → Pars → Option Kind → Stmts → Function

pub data SignalPars : Type 0 where
  no_signal_pars : SignalPars
  a_signal_par : Kind → Units → SignalPars → SignalPars

-- ---- objects

mutual
  pub data Object : Type 0 where
    object : TypeName → Members → Object

  -- a member, and whether a `;` stands behind it that isn't its end
  pub data Members : Type 0 where
    no_members : Members
    a_member : Member → Bool → Members → Members

  pub data Member : Type 0 where
    id : Place → Units → Place → Close → Member  -- places: the word `id`, the name
    -- places: the member (`default`, `readonly` or `property`), the name
    property : Place → Adjective → Kind → Units → Place → Value → Member
    bare : Place → Adjective → Kind → Units → Place → Close → Member  -- a property without a value
    -- whether `default` stands before it; places: the member, the name, the first name of the target; then at most two names behind dots
    alias : Place → Bool → Units → Place → Units → Place → Names → Close → Member
    -- places: the word `signal`, the name; brackets with the parameters, or none
    signal : Place → Units → Place → Option SignalPars → Close → Member
    method : Function → Member
    given : Units → Place → Names → Value → Member  -- path : value; the first name (its place), names behind dots
    group : Units → Place → Names → Members → Member  -- path { .. }; likewise
    child : Object → Member

  pub data Value : Type 0 where
    value_object : Object → Value
    value_list : Place → Objects → Value  -- the place of `[`
    value_stmt : Stmt → Value

  -- one or more
  pub data Objects : Type 0 where
    last_object : Object → Objects
    an_object : Object → Objects → Objects

pub data Document : Type 0 where
  document : List Import → Object → Document

-- whether `.pragma library` stands first
pub data Script : Type 0 where
  script : Bool → List Function → Script

-- what is read by itself: an expression, a statement, a list of statements as a body, a document, or a script file
pub data Whole : Type 0 where
  whole_expr : Expr → Whole
  whole_stmt : Stmt → Whole
  whole_body : Stmts → Whole
  whole_document : Document → Whole
  whole_script : Script → Whole

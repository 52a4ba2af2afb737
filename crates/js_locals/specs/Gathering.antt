-- The names that statements declare, gathered row by row: by `var` however deep in their blocks, or else by `let` and
-- `const` for their own block.
use Rattle.std.specs.Prelude.{◌≡◌, ℕ, ◌+◌, ◌<◌, Bool as 𝔹, true, false, not, if◌then◌else◌, List, [], ◌∷◌, length, Option, Some, None}
use Rattle.qml_syntax.specs.declared.literal.Declaration.{Declaration}
use Rattle.qml_syntax.specs.declared.node.Node.{Node}
use Rattle.qml_syntax.specs.declared.node.Node.TheVariants as node
use Rattle.qml_syntax.specs.Tree.{Stmt, empty, expr, block, declare, when, either, while, for, give, stop, again, Stmts, no_stmts, a_stmt}
use Rattle.qml_syntax.specs.Nodes.{Item, of_var, top_stmt, top_first}
use Rattle.qml_syntax.specs.Opened.{node_of}
use Rattle.qml_value.specs.declared.value.Value.{Undefined}
use Rattle.js_meaning.specs.Locals.{Scope, alive, dead, is_var, lets_in, vars_of, vars_of_first}
use Rattle.js_locals.specs.declared.gathering.Inner.{Inner}
use Rattle.js_locals.specs.declared.gathering.Inner.TheVariants as inside
use Rattle.js_locals.specs.Laid.{Laid, stmts_in}
use Rattle.js_locals.specs.Scopes.{fresh_slots}

-- the names of a statement before others
abbrev pub names_of : 𝔹 → Stmt → Scope → Scope
names_of true d rest = vars_of d rest
names_of false d rest = lets_in d rest

abbrev pub names_of_all : 𝔹 → Stmts → Scope → Scope
names_of_all b no_stmts rest = rest
names_of_all b (a_stmt d ss) rest = names_of b d (names_of_all b ss rest)

-- the names that stand in a row
abbrev pub names_in : 𝔹 → List Item → Scope → Scope
names_in b [] rest = rest
names_in true (of_var n p ∷ is) rest = (n, alive true Undefined) ∷ names_in true is rest
names_in false (of_var n p ∷ is) rest = (n, dead) ∷ names_in false is rest
names_in b (i ∷ is) rest = names_in b is rest

-- the parts from one on, if there is one
abbrev pub row_from : Laid → Option ℕ → List Item
row_from c None = []
row_from c (Some p) = c.item p ∷ c.rest p

abbrev pub names_left : Laid → 𝔹 → List ℕ → Scope → Scope
names_left c b [] rest = rest
names_left c b (p ∷ ps) rest = names_of_all b (stmts_in (c.item p ∷ c.rest p)) (names_left c b ps rest)

-- ---- how many statements there are

abbrev mutual
  pub size_of : Stmt → ℕ
  size_of (block p ss) = 1 + size_of_all ss
  size_of (when p e d) = 1 + size_of d
  size_of (either p e d r) = 1 + (size_of d + size_of r)
  size_of (while p e d) = 1 + size_of d
  size_of (for p i e f d) = 1 + size_of d
  size_of _ = 1

  pub size_of_all : Stmts → ℕ
  size_of_all no_stmts = 0
  size_of_all (a_stmt d ss) = size_of d + size_of_all ss

abbrev pub size_left : Laid → List ℕ → ℕ
size_left c [] = 0
size_left c (p ∷ ps) = size_of_all (stmts_in (c.item p ∷ c.rest p)) + size_left c ps

-- ---- what one statement adds: names, and a row inside it

abbrev pub inner_of : Node → Inner
inner_of (node.Block p) = inside.Block
inner_of (node.Declare p k e) = inside.Names k
inner_of (node.When p) = inside.Condition
inner_of (node.Either p) = inside.Condition
inner_of (node.While p) = inside.Condition
inner_of (node.For p) = inside.For
inner_of _ = inside.Nothing

-- whether names that are declared so are asked for
abbrev pub asks_for : 𝔹 → Declaration → 𝔹
asks_for b k = if b then is_var k else not (is_var k)

-- the part at a place is added, if it is a name that is declared
pub record NameAdded (c : Laid) (b : 𝔹) (p : ℕ) (old new : List ℕ) : Type 0 where
  pub added : (is : List Item) (rest : Scope) → fresh_slots c b new (names_in b is rest) ≡ fresh_slots c b old (names_in b (c.item p ∷ is) rest)

-- the names behind a mark are added to these
pub record NamesAdded (c : Laid) (b : 𝔹) (mark : ℕ) (old new : List ℕ) : Type 0 where
  pub added : (rest : Scope) → fresh_slots c b new rest ≡ fresh_slots c b old (names_in b (c.rest mark) rest)

-- the statement at a place adds names, and there is a row of smaller ones inside it
pub record Inside (c : Laid) (b : 𝔹) (at : ℕ) (old new : List ℕ) (p : Option ℕ) : Type 0 where
  pub named : (rest : Scope) → fresh_slots c b new (names_of_all b (stmts_in (row_from c p)) rest) ≡ fresh_slots c b old (names_of b (top_stmt (c.item at ∷ [])) rest)
  pub sized : size_of_all (stmts_in (row_from c p)) < size_of (top_stmt (c.item at ∷ []))

-- so it is where the statement is of this kind: one that adds no names itself, and one that may
pub record HoldsRow (c : Laid) (k : Inner) (b : 𝔹) (at : ℕ) (p : Option ℕ) : Type 0 where
  pub holds : inner_of (node_of (c.item at)) ≡ k → (names : List ℕ) → Inside c b at names names p

pub record HoldsNames (c : Laid) (k : Inner) (b : 𝔹) (at : ℕ) (old new : List ℕ) (p : Option ℕ) : Type 0 where
  pub holds : inner_of (node_of (c.item at)) ≡ k → Inside c b at old new p

-- whether a `for` begins with names that are declared by `var`
abbrev pub is_var_first : Node → 𝔹
is_var_first (node.FirstDeclare p k) = is_var k
is_var_first _ = false

-- the names with which a `for` begins are added, if they are declared by `var`
pub record FirstAdded (c : Laid) (at : ℕ) (old new : List ℕ) : Type 0 where
  pub added : (rest : Scope) → fresh_slots c true new rest ≡ fresh_slots c true old (vars_of_first (top_first (c.item at ∷ [])) rest)

-- rows that are still to be walked, of which the latest begins at a place, become others
pub record Walks (c : Laid) (b : 𝔹) (at : ℕ) (ps qs old new : List ℕ) : Type 0 where
  pub named : (rest : Scope) → fresh_slots c b new (names_left c b qs rest) ≡ fresh_slots c b old (names_left c b (at ∷ ps) rest)
  pub sized : size_left c qs < size_left c (at ∷ ps)

abbrev pub row_onto : Option ℕ → List ℕ → List ℕ
row_onto None ps = ps
row_onto (Some p) ps = p ∷ ps

-- how many parts there are from one on
abbrev pub count_from : Laid → Option ℕ → ℕ
count_from c p = length (row_from c p)

-- these are the names of the row from a part on, where some rows are left
pub record Gathers (c : Laid) (b : 𝔹) (p : Option ℕ) (ps names : List ℕ) : Type 0 where
  pub named : (rest : Scope) → fresh_slots c b names (names_left c b ps rest) ≡ names_of_all b (stmts_in (row_from c p)) rest

-- names behind a mark, where some parts are left
pub record Adding (c : Laid) (b : 𝔹) (mark : ℕ) (p : Option ℕ) (old new : List ℕ) : Type 0 where
  pub added : (rest : Scope) → fresh_slots c b new (names_in b (row_from c p) rest) ≡ fresh_slots c b old (names_in b (c.rest mark) rest)

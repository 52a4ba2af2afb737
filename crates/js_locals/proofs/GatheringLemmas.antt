-- The names that statements declare are gathered row by row.
use Rattle.std.proofs.Common.{◌≡◌, ◌∙◌, ap, sym, refl, subst, ℕ, ◌+◌, ◌-◌, ◌<◌, arith, Bool as 𝔹, true, false, not, cond, if◌then◌else◌, List, [], ◌∷◌, ◌++◌, reverse, length, Option, Some, None, MatchOption}
use Rattle.qml_syntax.specs.declared.literal.Declaration.{Declaration}
use Rattle.qml_syntax.specs.declared.node.Node.{Node}
use Rattle.qml_syntax.specs.declared.node.Node.TheVariants as node
use Rattle.qml_syntax.specs.Tree.{Expr, Stmt, empty, expr, block, declare, when, either, while, for, give, stop, again, Stmts, no_stmts, a_stmt, Vars, last_var, a_var, Maybe, nothing, just, First, no_first, first_expr, first_declare}
use Rattle.qml_syntax.specs.Nodes.{apply, Parts, Item, mark, of_expr, of_stmt, of_var, of_first, of_maybe, top_stmt, top_first}
use Rattle.qml_syntax.specs.Opened.{node_of, parts_of, stmts_parts, vars_parts}
use Rattle.qml_value.specs.declared.value.Value.{Undefined}
use Rattle.js_meaning.specs.Locals.{Scope, alive, dead, is_var, lets_in, lets_of, vars_of, vars_of_all, vars_of_first, slots_of, undefined_of}
use Rattle.js_locals.specs.declared.gathering.Inner.{Inner}
use Rattle.js_locals.specs.declared.gathering.Inner.TheVariants as inside
use Rattle.js_locals.specs.Laid.{Laid, name_of, name_at, stmts_in, is_stmt_node, is_var_node, ForParts}
use Rattle.js_locals.specs.Scopes.{fresh_slots}
use Rattle.js_locals.specs.Gathering.{asks_for, names_of, names_of_all, names_in, row_from, names_left, size_of, size_of_all, size_left, inner_of, NameAdded, NamesAdded, Inside, HoldsRow, HoldsNames, is_var_first, FirstAdded, Walks, row_onto, count_from, Gathers, Adding}
use Rattle.js_locals.proofs.RowLemmas.{first_is, rest_is, stmts_are, stmt_alone_is}
use Rattle.js_locals.proofs.NodeLemmas.{made_of, stmt_item, var_item}

pub row_is : (c : Laid) (m : ℕ) (p : Option ℕ) → MatchOption p (c.rest m ≡ []) (λ q. c.rest m ≡ c.item q ∷ c.rest q) → row_from c p ≡ c.rest m
row_is c m None h = sym h
row_is c m (Some q) h = sym h

-- ---- names in a row

pub fresh_more : (c : Laid) (b : 𝔹) (ps : List ℕ) (p : ℕ) (rest : Scope) → fresh_slots c b (ps ++ p ∷ []) rest ≡ fresh_slots c b ps (fresh_slots c b (p ∷ []) rest)
fresh_more c true [] p rest = refl
fresh_more c false [] p rest = refl
fresh_more c true (q ∷ ps) p rest = ap (λ z. (name_of c q, alive true Undefined) ∷ z) (fresh_more c true ps p rest)
fresh_more c false (q ∷ ps) p rest = ap (λ z. (name_of c q, dead) ∷ z) (fresh_more c false ps p rest)

name_first : (c : Laid) (b : 𝔹) (p : ℕ) (n : List ℕ) (r : _) (is : List Item) (rest : Scope) → c.item p ≡ of_var n r → names_in b (c.item p ∷ is) rest ≡ fresh_slots c b (p ∷ []) (names_in b is rest)
name_first c true p n r is rest h =
    ap (λ i. names_in true (i ∷ is) rest) h ∙ ap (λ z. (z, alive true Undefined) ∷ names_in true is rest) (sym (ap (λ i. name_at (node_of i)) h))
name_first c false p n r is rest h =
    ap (λ i. names_in false (i ∷ is) rest) h ∙ ap (λ z. (z, dead) ∷ names_in false is rest) (sym (ap (λ i. name_at (node_of i)) h))

no_name_first : (b : 𝔹) (i : Item) (is : List Item) (rest : Scope) → is_var_node (node_of i) ≡ false → names_in b (i ∷ is) rest ≡ names_in b is rest
no_name_first b (of_var n r) is rest h = absurd (cc)
no_name_first true _ is rest h = refl
no_name_first false _ is rest h = refl

-- a name at a place is added
pub adds_name : (c : Laid) (b : 𝔹) (p : ℕ) (ps : List ℕ) (n : Node) → n ≡ node_of (c.item p) → is_var_node n ≡ true → NameAdded c b p ps (ps ++ p ∷ [])
adds_name c b p ps n e h =
    let i : (m : List ℕ) × (r : _) × (c.item p ≡ of_var m r) = var_item n (c.item p) e h in
    record { added = λ is rest. fresh_more c b ps p (names_in b is rest) ∙ ap (λ z. fresh_slots c b ps z) (sym (name_first c b p i.0 i.1 is rest i.2)) }

pub adds_no_name : (c : Laid) (b : 𝔹) (p : ℕ) (ps : List ℕ) (n : Node) → n ≡ node_of (c.item p) → is_var_node n ≡ false → NameAdded c b p ps ps
adds_no_name c b p ps n e h =
    record { added = λ is rest. ap (λ z. fresh_slots c b ps z) (sym (no_name_first b (c.item p) is rest (sym (ap (λ z. is_var_node z) e) ∙ h))) }

-- the names behind a mark, one by one
pub adding_first : (c : Laid) (b : 𝔹) (m : ℕ) (p : Option ℕ) (names : List ℕ) → row_from c p ≡ c.rest m → Adding c b m p names names
adding_first c b m p names e = record { added = λ rest. ap (λ is. fresh_slots c b names (names_in b is rest)) e }

pub adding_on : (c : Laid) (b : 𝔹) (m p : ℕ) (q : Option ℕ) (old mid new : List ℕ) → Adding c b m (Some p) old mid → NameAdded c b p mid new → row_from c q ≡ c.rest p → Adding c b m q old new
adding_on c b m p q old mid new a n e =
    record { added = λ rest. ap (λ is. fresh_slots c b new (names_in b is rest)) e ∙ n.added (c.rest p) rest ∙ a.added rest }

pub adding_last : (c : Laid) (b : 𝔹) (m : ℕ) (old new : List ℕ) → Adding c b m None old new → NamesAdded c b m old new
adding_last c b m old new a = record { added = a.added }

pub first_names_are : (c : Laid) (m : ℕ) (old new : List ℕ) → old ≡ [] → NamesAdded c false m old new → fresh_slots c false new [] ≡ names_in false (c.rest m) []
first_names_are c m old new e a = a.added [] ∙ ap (λ ps. fresh_slots c false ps (names_in false (c.rest m) [])) e

names_undefined : (vs : Vars) (rest : Scope) → names_in true (vars_parts vs) rest ≡ undefined_of vs rest
names_undefined (last_var n p nothing) rest = refl
names_undefined (last_var n p (just e)) rest = refl
names_undefined (a_var n p nothing vs) rest = ap (λ z. (n, alive true Undefined) ∷ z) (names_undefined vs rest)
names_undefined (a_var n p (just e) vs) rest = ap (λ z. (n, alive true Undefined) ∷ z) (names_undefined vs rest)

names_slots : (vs : Vars) (rest : Scope) → names_in false (vars_parts vs) rest ≡ slots_of vs rest
names_slots (last_var n p nothing) rest = refl
names_slots (last_var n p (just e)) rest = refl
names_slots (a_var n p nothing vs) rest = ap (λ z. (n, dead) ∷ z) (names_slots vs rest)
names_slots (a_var n p (just e) vs) rest = ap (λ z. (n, dead) ∷ z) (names_slots vs rest)

-- ---- what stands inside a statement

inner_stmt : (n : Node) (k : Inner) → inner_of n ≡ k → (k ≡ inside.Nothing → ⊥) → is_stmt_node n ≡ true
inner_stmt (node.Block p) k h g = refl
inner_stmt (node.Declare p q e) k h g = refl
inner_stmt (node.When p) k h g = refl
inner_stmt (node.Either p) k h g = refl
inner_stmt (node.While p) k h g = refl
inner_stmt (node.For p) k h g = refl
inner_stmt _ k h g = absurd (g (sym h))

stmt_of : (c : Laid) (at : ℕ) (k : Inner) → inner_of (node_of (c.item at)) ≡ k → (k ≡ inside.Nothing → ⊥) → (d : Stmt) × (c.item at ≡ of_stmt d)
stmt_of c at k h g = stmt_item (node_of (c.item at)) (c.item at) refl (inner_stmt (node_of (c.item at)) k h g)

all_names : (ss : Stmts) (rest : Scope) → names_of_all true ss rest ≡ vars_of_all ss rest
all_names no_stmts rest = refl
all_names (a_stmt d ss) rest = ap (λ z. vars_of d z) (all_names ss rest)

all_lets : (ss : Stmts) → names_of_all false ss [] ≡ lets_of ss
all_lets no_stmts = refl
all_lets (a_stmt d ss) = ap (λ z. lets_in d z) (all_lets ss)

-- a statement with a row inside it: the names of the row are its names, and it is one larger
pub record Holds (b : 𝔹) (d : Stmt) (ss : Stmts) : Type 0 where
  pub named : (rest : Scope) → names_of_all b ss rest ≡ names_of b d rest
  pub sized : size_of_all ss < size_of d

holds_inside : (c : Laid) (b : 𝔹) (at : ℕ) (p : Option ℕ) (names : List ℕ) (d : Stmt) → c.item at ≡ of_stmt d → Holds b d (stmts_in (row_from c p)) → Inside c b at names names p
holds_inside c b at p names d e h =
    record {
      named = λ rest. ap (λ z. fresh_slots c b names z) (h.named rest ∙ ap (λ i. names_of b (top_stmt (i ∷ [])) rest) (sym e));
      sized = subst (λ (i : Item). size_of_all (stmts_in (row_from c p)) < size_of (top_stmt (i ∷ []))) (sym e) h.sized;
    }

block_holds : (ss : Stmts) (p : _) → Holds true (block p ss) ss
block_holds ss p = record { named = λ rest. all_names ss rest; sized = omega arith }

block_none : (ss : Stmts) (p : _) → Holds false (block p ss) no_stmts
block_none ss p = record { named = λ rest. refl; sized = omega arith }

when_holds : (b : 𝔹) (p : _) (e : Expr) (d : Stmt) → Holds b (when p e d) (a_stmt d no_stmts)
when_holds true p e d = record { named = λ rest. refl; sized = omega arith }
when_holds false p e d = record { named = λ rest. refl; sized = omega arith }

either_holds : (b : 𝔹) (p : _) (e : Expr) (d r : Stmt) → Holds b (either p e d r) (a_stmt d (a_stmt r no_stmts))
either_holds true p e d r = record { named = λ rest. refl; sized = omega arith }
either_holds false p e d r = record { named = λ rest. refl; sized = omega arith }

while_holds : (b : 𝔹) (p : _) (e : Expr) (d : Stmt) → Holds b (while p e d) (a_stmt d no_stmts)
while_holds true p e d = record { named = λ rest. refl; sized = omega arith }
while_holds false p e d = record { named = λ rest. refl; sized = omega arith }

-- ---- rows by their places

rest_behind : (c : Laid) (at q : ℕ) (i : Item) (is : List Item) (j : Item) → c.item at ≡ i → parts_of i ≡ j ∷ is → parts_of (c.item at) ≡ c.item q ∷ c.rest q → c.rest q ≡ is
rest_behind c at q i is j e k f = rest_is j (c.item q) is (c.rest q) (sym (ap (λ z. parts_of z) e ∙ k) ∙ f)

row_stmts : (c : Laid) (p : Option ℕ) (m : ℕ) (is : List Item) → row_from c p ≡ c.rest m → c.rest m ≡ is → stmts_in (row_from c p) ≡ stmts_in is
row_stmts c p m is e f = ap (λ z. stmts_in z) e ∙ ap (λ z. stmts_in z) f

holds_as : (b : 𝔹) (d : Stmt) (ss rs : Stmts) → rs ≡ ss → Holds b d ss → Holds b d rs
holds_as b d ss rs e h = subst (λ (z : Stmts). Holds b d z) (sym e) h

block_by : (c : Laid) (at q : ℕ) (p : Option ℕ) (names : List ℕ) (d : Stmt) → c.item at ≡ of_stmt d → inner_of (node_of (of_stmt d)) ≡ inside.Block
    → parts_of (c.item at) ≡ c.item q ∷ c.rest q → row_from c p ≡ c.rest q → Inside c true at names names p
block_by c at q p names (block r ss) e g f h =
    holds_inside c true at p names (block r ss) e
    (holds_as true (block r ss) ss (stmts_in (row_from c p))
    (row_stmts c p q (stmts_parts ss) h (rest_behind c at q (of_stmt (block r ss)) (stmts_parts ss) mark e refl f) ∙ stmts_are ss) (block_holds ss r))
block_by c at q p names (empty r) e g f h = absurd (cc)
block_by c at q p names (expr d r) e g f h = absurd (cc)
block_by c at q p names (declare r k vs z) e g f h = absurd (cc)
block_by c at q p names (when r d s) e g f h = absurd (cc)
block_by c at q p names (either r d s t) e g f h = absurd (cc)
block_by c at q p names (while r d s) e g f h = absurd (cc)
block_by c at q p names (for r i d k s) e g f h = absurd (cc)
block_by c at q p names (give r nothing z) e g f h = absurd (cc)
block_by c at q p names (give r (just d) z) e g f h = absurd (cc)
block_by c at q p names (stop r z) e g f h = absurd (cc)
block_by c at q p names (again r z) e g f h = absurd (cc)

pub block_inside : (c : Laid) (at q : ℕ) (p : Option ℕ) → parts_of (c.item at) ≡ c.item q ∷ c.rest q → row_from c p ≡ c.rest q → HoldsRow c inside.Block true at p
block_inside c at q p f h = record {
  holds = λ k names.
      let r : (d : Stmt) × (c.item at ≡ of_stmt d) = stmt_of c at inside.Block k (λ z. cc) in
      block_by c at q p names r.0 r.1 (ap (λ i. inner_of (node_of i)) (sym r.1) ∙ k) f h;
}

shallow_by : (c : Laid) (at : ℕ) (names : List ℕ) (d : Stmt) → c.item at ≡ of_stmt d → inner_of (node_of (of_stmt d)) ≡ inside.Block → Inside c false at names names None
shallow_by c at names (block r ss) e g = holds_inside c false at None names (block r ss) e (block_none ss r)
shallow_by c at names (empty r) e g = absurd (cc)
shallow_by c at names (expr d r) e g = absurd (cc)
shallow_by c at names (declare r k vs z) e g = absurd (cc)
shallow_by c at names (when r d s) e g = absurd (cc)
shallow_by c at names (either r d s t) e g = absurd (cc)
shallow_by c at names (while r d s) e g = absurd (cc)
shallow_by c at names (for r i d k s) e g = absurd (cc)
shallow_by c at names (give r nothing z) e g = absurd (cc)
shallow_by c at names (give r (just d) z) e g = absurd (cc)
shallow_by c at names (stop r z) e g = absurd (cc)
shallow_by c at names (again r z) e g = absurd (cc)

pub shallow_inside : (c : Laid) (at : ℕ) → HoldsRow c inside.Block false at None
shallow_inside c at = record {
  holds = λ k names.
      let r : (d : Stmt) × (c.item at ≡ of_stmt d) = stmt_of c at inside.Block k (λ z. cc) in
      shallow_by c at names r.0 r.1 (ap (λ i. inner_of (node_of i)) (sym r.1) ∙ k);
}

condition_by : (c : Laid) (b : 𝔹) (at q : ℕ) (p : Option ℕ) (names : List ℕ) (d : Stmt) → c.item at ≡ of_stmt d → inner_of (node_of (of_stmt d)) ≡ inside.Condition
    → parts_of (c.item at) ≡ c.item q ∷ c.rest q → row_from c p ≡ c.rest q → Inside c b at names names p
condition_by c b at q p names (when r g s) e k f h =
    holds_inside c b at p names (when r g s) e
    (holds_as b (when r g s) (a_stmt s no_stmts) (stmts_in (row_from c p))
    (row_stmts c p q (of_stmt s ∷ []) h (rest_behind c at q (of_stmt (when r g s)) (of_stmt s ∷ []) (of_expr g) e refl f)) (when_holds b r g s))
condition_by c b at q p names (either r g s t) e k f h =
    holds_inside c b at p names (either r g s t) e
    (holds_as b (either r g s t) (a_stmt s (a_stmt t no_stmts)) (stmts_in (row_from c p))
    (row_stmts c p q (of_stmt s ∷ of_stmt t ∷ []) h (rest_behind c at q (of_stmt (either r g s t)) (of_stmt s ∷ of_stmt t ∷ []) (of_expr g) e refl f)) (either_holds b r g s t))
condition_by c b at q p names (while r g s) e k f h =
    holds_inside c b at p names (while r g s) e
    (holds_as b (while r g s) (a_stmt s no_stmts) (stmts_in (row_from c p))
    (row_stmts c p q (of_stmt s ∷ []) h (rest_behind c at q (of_stmt (while r g s)) (of_stmt s ∷ []) (of_expr g) e refl f)) (while_holds b r g s))
condition_by c b at q p names (block r ss) e k f h = absurd (cc)
condition_by c b at q p names (empty r) e k f h = absurd (cc)
condition_by c b at q p names (expr d r) e k f h = absurd (cc)
condition_by c b at q p names (declare r g vs z) e k f h = absurd (cc)
condition_by c b at q p names (for r i d g s) e k f h = absurd (cc)
condition_by c b at q p names (give r nothing z) e k f h = absurd (cc)
condition_by c b at q p names (give r (just d) z) e k f h = absurd (cc)
condition_by c b at q p names (stop r z) e k f h = absurd (cc)
condition_by c b at q p names (again r z) e k f h = absurd (cc)

pub condition_inside : (c : Laid) (b : 𝔹) (at q : ℕ) (p : Option ℕ) → parts_of (c.item at) ≡ c.item q ∷ c.rest q → row_from c p ≡ c.rest q → HoldsRow c inside.Condition b at p
condition_inside c b at q p f h = record {
  holds = λ k names.
      let r : (d : Stmt) × (c.item at ≡ of_stmt d) = stmt_of c at inside.Condition k (λ z. cc) in
      condition_by c b at q p names r.0 r.1 (ap (λ i. inner_of (node_of i)) (sym r.1) ∙ k) f h;
}

-- ---- declarations

names_skipped : (b v : 𝔹) (r : _) (k : Declaration) (vs : Vars) (z : _) (rest : Scope) → is_var k ≡ v → (v ≡ b → ⊥) → names_of b (declare r k vs z) rest ≡ rest
names_skipped true true r k vs z rest e h = absurd (h refl)
names_skipped false false r k vs z rest e h = absurd (h refl)
names_skipped true false r k vs z rest e h = ap (λ (y : 𝔹). cond y (undefined_of vs rest) rest) e
names_skipped false true r k vs z rest e h = ap (λ (y : 𝔹). cond y rest (slots_of vs rest)) e

names_taken : (b : 𝔹) (r : _) (k : Declaration) (vs : Vars) (z : _) (rest : Scope) → is_var k ≡ b → names_in b (vars_parts vs) rest ≡ names_of b (declare r k vs z) rest
names_taken true r k vs z rest e = names_undefined vs rest ∙ sym (ap (λ (y : 𝔹). cond y (undefined_of vs rest) rest) e)
names_taken false r k vs z rest e = names_slots vs rest ∙ sym (ap (λ (y : 𝔹). cond y rest (slots_of vs rest)) e)

-- the declaration that a node is of
declare_of : (c : Laid) (at : ℕ) (k : Declaration) (d : Stmt) → c.item at ≡ of_stmt d → inner_of (node_of (of_stmt d)) ≡ inside.Names k
    → (r : _) × (vs : Vars) × (z : _) × (c.item at ≡ of_stmt (declare r k vs z))
declare_of c at k (declare r q vs z) e h =
    let g : q ≡ k = cc in
    (r, vs, z, e ∙ ap (λ y. of_stmt (declare r y vs z)) g)
declare_of c at k (block r ss) e h = absurd (cc)
declare_of c at k (empty r) e h = absurd (cc)
declare_of c at k (expr d r) e h = absurd (cc)
declare_of c at k (when r d s) e h = absurd (cc)
declare_of c at k (either r d s t) e h = absurd (cc)
declare_of c at k (while r d s) e h = absurd (cc)
declare_of c at k (for r i d g s) e h = absurd (cc)
declare_of c at k (give r nothing z) e h = absurd (cc)
declare_of c at k (give r (just d) z) e h = absurd (cc)
declare_of c at k (stop r z) e h = absurd (cc)
declare_of c at k (again r z) e h = absurd (cc)

declaration : (c : Laid) (at : ℕ) (k : Declaration) → inner_of (node_of (c.item at)) ≡ inside.Names k → (r : _) × (vs : Vars) × (z : _) × (c.item at ≡ of_stmt (declare r k vs z))
declaration c at k h =
    let r : (d : Stmt) × (c.item at ≡ of_stmt d) = stmt_of c at (inside.Names k) h (λ z. cc) in
    declare_of c at k r.0 r.1 (ap (λ i. inner_of (node_of i)) (sym r.1) ∙ h)

asks_no : (b v : 𝔹) → (if b then v else not v) ≡ false → v ≡ b → ⊥
asks_no true true h e = cc
asks_no true false h e = cc
asks_no false true h e = cc
asks_no false false h e = cc

asks_yes : (b v : 𝔹) → (if b then v else not v) ≡ true → v ≡ b
asks_yes true true h = refl
asks_yes true false h = absurd (cc)
asks_yes false true h = absurd (cc)
asks_yes false false h = refl

pub names_not_asked : (c : Laid) (b : 𝔹) (k : Declaration) (at : ℕ) (names : List ℕ) → asks_for b k ≡ false → HoldsNames c (inside.Names k) b at names names None
names_not_asked c b k at names q = record {
  holds = λ h.
      let g : is_var k ≡ b → ⊥ = asks_no b (is_var k) q in
      let d : (r : _) × (vs : Vars) × (z : _) × (c.item at ≡ of_stmt (declare r k vs z)) = declaration c at k h in
      record {
        named = λ rest. ap (λ y. fresh_slots c b names y) (sym (names_skipped b (is_var k) d.0 k d.1 d.2 rest refl g) ∙ ap (λ i. names_of b (top_stmt (i ∷ [])) rest) (sym d.3));
        sized = subst (λ (i : Item). 0 < size_of (top_stmt (i ∷ []))) (sym d.3) (omega arith);
      };
}

pub names_asked : (c : Laid) (b : 𝔹) (k : Declaration) (at q : ℕ) (old new : List ℕ) → asks_for b k ≡ true → parts_of (c.item at) ≡ c.item q ∷ c.rest q → NamesAdded c b q old new
    → HoldsNames c (inside.Names k) b at old new None
names_asked c b k at q old new m f a = record {
  holds = λ h.
      let g : is_var k ≡ b = asks_yes b (is_var k) m in
      let d : (r : _) × (vs : Vars) × (z : _) × (c.item at ≡ of_stmt (declare r k vs z)) = declaration c at k h in
      let re : c.rest q ≡ vars_parts d.1 = rest_behind c at q (of_stmt (declare d.0 k d.1 d.2)) (vars_parts d.1) mark d.3 refl f in
      record {
        named = λ rest. a.added rest ∙ ap (λ is. fresh_slots c b old (names_in b is rest)) re
            ∙ ap (λ y. fresh_slots c b old y) (names_taken b d.0 k d.1 d.2 rest g ∙ ap (λ i. names_of b (top_stmt (i ∷ [])) rest) (sym d.3));
        sized = subst (λ (i : Item). 0 < size_of (top_stmt (i ∷ []))) (sym d.3) (omega arith);
      };
}

-- ---- a `for`

first_not_var : (i : First) (rest : Scope) → is_var_first (node_of (of_first i)) ≡ false → vars_of_first i rest ≡ rest
first_not_var no_first rest h = refl
first_not_var (first_expr e) rest h = refl
first_not_var (first_declare p k vs) rest h = ap (λ (y : 𝔹). cond y (undefined_of vs rest) rest) h

no_first_item : (i : Item) (rest : Scope) → is_var_first (node_of i) ≡ false → vars_of_first (top_first (i ∷ [])) rest ≡ rest
no_first_item (of_first i) rest h = first_not_var i rest h
no_first_item _ rest h = refl

pub first_not_added : (c : Laid) (at : ℕ) (n : Node) (names : List ℕ) → n ≡ node_of (c.item at) → is_var_first n ≡ false → FirstAdded c at names names
first_not_added c at n names e h = record { added = λ rest. ap (λ y. fresh_slots c true names y) (sym (no_first_item (c.item at) rest (sym (ap (λ z. is_var_first z) e) ∙ h))) }

-- the parts of a `for`
for_of : (c : Laid) (at : ℕ) (d : Stmt) → c.item at ≡ of_stmt d → inner_of (node_of (of_stmt d)) ≡ inside.For → (r : _) × (i : First) × (e : Maybe) × (f : Maybe) × (s : Stmt) × (c.item at ≡ of_stmt (for r i e f s))
for_of c at (for r i e f s) g h = (r, i, e, f, s, g)
for_of c at (declare r q vs z) e h = absurd (cc)
for_of c at (block r ss) e h = absurd (cc)
for_of c at (empty r) e h = absurd (cc)
for_of c at (expr d r) e h = absurd (cc)
for_of c at (when r d s) e h = absurd (cc)
for_of c at (either r d s t) e h = absurd (cc)
for_of c at (while r d s) e h = absurd (cc)
for_of c at (give r nothing z) e h = absurd (cc)
for_of c at (give r (just d) z) e h = absurd (cc)
for_of c at (stop r z) e h = absurd (cc)
for_of c at (again r z) e h = absurd (cc)

for_parts_of : (c : Laid) (at : ℕ) → inner_of (node_of (c.item at)) ≡ inside.For → (r : _) × (i : First) × (e : Maybe) × (f : Maybe) × (s : Stmt) × (c.item at ≡ of_stmt (for r i e f s))
for_parts_of c at h =
    let r : (d : Stmt) × (c.item at ≡ of_stmt d) = stmt_of c at inside.For h (λ z. cc) in
    for_of c at r.0 r.1 (ap (λ i. inner_of (node_of i)) (sym r.1) ∙ h)

abbrev starts_declared : Parts → 𝔹
starts_declared (of_first (first_declare p k vs) ∷ s) = true
starts_declared _ = false

first_heads : (n : Node) (s : Parts) → is_var_first n ≡ true → starts_declared (apply n s) ≡ true
first_heads (node.FirstDeclare p k) s h = refl
first_heads _ s h = absurd (cc)

first_alone : (i : Item) → starts_declared (i ∷ []) ≡ true → (p : _) × (k : Declaration) × (vs : Vars) × (i ≡ of_first (first_declare p k vs))
first_alone (of_first (first_declare p k vs)) h = (p, k, vs, refl)
first_alone (of_first no_first) h = absurd (cc)
first_alone (of_first (first_expr e)) h = absurd (cc)
first_alone _ h = absurd (cc)

first_item : (n : Node) (i : Item) → n ≡ node_of i → is_var_first n ≡ true → (p : _) × (k : Declaration) × (vs : Vars) × (i ≡ of_first (first_declare p k vs))
first_item n i e h = first_alone i (ap (λ z. starts_declared z) (sym (made_of n i e)) ∙ first_heads n (reverse (parts_of i) ++ []) h)

pub first_asked : (c : Laid) (at q : ℕ) (n : Node) (old new : List ℕ) → n ≡ node_of (c.item at) → is_var_first n ≡ true → parts_of (c.item at) ≡ c.item q ∷ c.rest q → NamesAdded c true q old new
    → FirstAdded c at old new
first_asked c at q n old new e h f a = record {
  added = λ rest.
      let i : (p : _) × (k : Declaration) × (vs : Vars) × (c.item at ≡ of_first (first_declare p k vs)) = first_item n (c.item at) e h in
      let v : is_var i.1 ≡ true = sym (ap (λ z. is_var_first z) e ∙ ap (λ j. is_var_first (node_of j)) i.3) ∙ h in
      a.added rest ∙ ap (λ is. fresh_slots c true old (names_in true is rest)) (rest_behind c at q (of_first (first_declare i.0 i.1 i.2)) (vars_parts i.2) mark i.3 refl f)
      ∙ ap (λ y. fresh_slots c true old y)
      (names_undefined i.2 rest ∙ sym (ap (λ (y : 𝔹). cond y (undefined_of i.2 rest) rest) v) ∙ ap (λ j. vars_of_first (top_first (j ∷ [])) rest) (sym i.3));
}

-- where the statement of a `for` stands
for_row : (c : Laid) (at q t u d : ℕ) (p : Option ℕ) (r : _) (i : First) (e f : Maybe) (s : Stmt) → c.item at ≡ of_stmt (for r i e f s)
    → parts_of (c.item at) ≡ c.item q ∷ c.rest q → ForParts c q t u d → row_from c p ≡ c.rest u → stmts_in (row_from c p) ≡ a_stmt s no_stmts
for_row c at q t u d p r i e f s ie fp k h =
    let a : c.rest q ≡ of_maybe e ∷ of_maybe f ∷ of_stmt s ∷ [] = rest_behind c at q (of_stmt (for r i e f s)) (of_maybe e ∷ of_maybe f ∷ of_stmt s ∷ []) (of_first i) ie refl fp in
    let b : c.rest t ≡ of_maybe f ∷ of_stmt s ∷ [] = rest_is (of_maybe e) (c.item t) (of_maybe f ∷ of_stmt s ∷ []) (c.rest t) (sym a ∙ k.0) in
    let g : c.rest u ≡ of_stmt s ∷ [] = rest_is (of_maybe f) (c.item u) (of_stmt s ∷ []) (c.rest u) (sym b ∙ k.1) in
    row_stmts c p u (of_stmt s ∷ []) h g

for_first : (c : Laid) (at q : ℕ) (r : _) (i : First) (e f : Maybe) (s : Stmt) → c.item at ≡ of_stmt (for r i e f s) → parts_of (c.item at) ≡ c.item q ∷ c.rest q → c.item q ≡ of_first i
for_first c at q r i e f s ie fp = first_is (of_first i) (c.item q) (of_maybe e ∷ of_maybe f ∷ of_stmt s ∷ []) (c.rest q) (sym (ap (λ z. parts_of z) ie) ∙ fp)

pub for_inside_deep : (c : Laid) (at q t u d : ℕ) (p : Option ℕ) (old new : List ℕ) → parts_of (c.item at) ≡ c.item q ∷ c.rest q → ForParts c q t u d → row_from c p ≡ c.rest u
    → FirstAdded c q old new → inner_of (node_of (c.item at)) ≡ inside.For → Inside c true at old new p
for_inside_deep c at q t u d p old new fp k h a n =
    let z : (r : _) × (i : First) × (e : Maybe) × (f : Maybe) × (s : Stmt) × (c.item at ≡ of_stmt (for r i e f s)) = for_parts_of c at n in
    let row : stmts_in (row_from c p) ≡ a_stmt z.4 no_stmts = for_row c at q t u d p z.0 z.1 z.2 z.3 z.4 z.5 fp k h in
    let qe : c.item q ≡ of_first z.1 = for_first c at q z.0 z.1 z.2 z.3 z.4 z.5 fp in
    record {
      named = λ rest. ap (λ ss. fresh_slots c true new (names_of_all true ss rest)) row ∙ a.added (vars_of z.4 rest)
          ∙ ap (λ j. fresh_slots c true old (vars_of_first (top_first (j ∷ [])) (vars_of z.4 rest))) qe
          ∙ ap (λ j. fresh_slots c true old (names_of true (top_stmt (j ∷ [])) rest)) (sym z.5);
      sized = subst (λ (ss : Stmts). size_of_all ss < size_of (top_stmt (c.item at ∷ []))) (sym row)
          (subst (λ (j : Item). size_of_all (a_stmt z.4 no_stmts) < size_of (top_stmt (j ∷ []))) (sym z.5) (omega arith));
    }

pub for_inside : (c : Laid) (at q t u d : ℕ) (p : Option ℕ) (names : List ℕ) → parts_of (c.item at) ≡ c.item q ∷ c.rest q → ForParts c q t u d → row_from c p ≡ c.rest u
    → inner_of (node_of (c.item at)) ≡ inside.For → Inside c false at names names p
for_inside c at q t u d p names fp k h n =
    let z : (r : _) × (i : First) × (e : Maybe) × (f : Maybe) × (s : Stmt) × (c.item at ≡ of_stmt (for r i e f s)) = for_parts_of c at n in
    let row : stmts_in (row_from c p) ≡ a_stmt z.4 no_stmts = for_row c at q t u d p z.0 z.1 z.2 z.3 z.4 z.5 fp k h in
    record {
      named = λ rest. ap (λ ss. fresh_slots c false names (names_of_all false ss rest)) row ∙ ap (λ j. fresh_slots c false names (names_of false (top_stmt (j ∷ [])) rest)) (sym z.5);
      sized = subst (λ (ss : Stmts). size_of_all ss < size_of (top_stmt (c.item at ∷ []))) (sym row)
          (subst (λ (j : Item). size_of_all (a_stmt z.4 no_stmts) < size_of (top_stmt (j ∷ []))) (sym z.5) (omega arith));
    }

-- ---- nothing inside

nothing_stmt : (b : 𝔹) (d : Stmt) (rest : Scope) → inner_of (node_of (of_stmt d)) ≡ inside.Nothing → names_of b d rest ≡ rest
nothing_stmt true (empty r) rest h = refl
nothing_stmt false (empty r) rest h = refl
nothing_stmt true (expr d r) rest h = refl
nothing_stmt false (expr d r) rest h = refl
nothing_stmt true (give r d z) rest h = refl
nothing_stmt false (give r d z) rest h = refl
nothing_stmt true (stop r z) rest h = refl
nothing_stmt false (stop r z) rest h = refl
nothing_stmt true (again r z) rest h = refl
nothing_stmt false (again r z) rest h = refl
nothing_stmt b (block r ss) rest h = absurd (cc)
nothing_stmt b (declare r q vs z) rest h = absurd (cc)
nothing_stmt b (when r d s) rest h = absurd (cc)
nothing_stmt b (either r d s t) rest h = absurd (cc)
nothing_stmt b (while r d s) rest h = absurd (cc)
nothing_stmt b (for r i e f s) rest h = absurd (cc)

nothing_item : (b : 𝔹) (i : Item) (rest : Scope) → inner_of (node_of i) ≡ inside.Nothing → names_of b (top_stmt (i ∷ [])) rest ≡ rest
nothing_item b (of_stmt d) rest h = nothing_stmt b d rest h
nothing_item true _ rest h = refl
nothing_item false _ rest h = refl

size_positive : (d : Stmt) → 0 < size_of d
size_positive (empty r) = omega arith
size_positive (expr d r) = omega arith
size_positive (give r d z) = omega arith
size_positive (stop r z) = omega arith
size_positive (again r z) = omega arith
size_positive (block r ss) = omega arith
size_positive (declare r q vs z) = omega arith
size_positive (when r d s) = omega arith
size_positive (either r d s t) = omega arith
size_positive (while r d s) = omega arith
size_positive (for r i e f s) = omega arith

pub nothing_inside : (c : Laid) (b : 𝔹) (at : ℕ) (n : Node) (names : List ℕ) → n ≡ node_of (c.item at) → inner_of n ≡ inside.Nothing → Inside c b at names names None
nothing_inside c b at n names e h =
    record {
      named = λ rest. ap (λ y. fresh_slots c b names y) (sym (nothing_item b (c.item at) rest (sym (ap (λ z. inner_of z) e) ∙ h)));
      sized = size_positive (top_stmt (c.item at ∷ []));
    }

-- ---- rows that are still to be walked

left_onto : (c : Laid) (b : 𝔹) (p : Option ℕ) (ps : List ℕ) (rest : Scope) → names_left c b (row_onto p ps) rest ≡ names_of_all b (stmts_in (row_from c p)) (names_left c b ps rest)
left_onto c b None ps rest = refl
left_onto c b (Some p) ps rest = refl

size_onto : (c : Laid) (p : Option ℕ) (ps : List ℕ) → size_left c (row_onto p ps) ≡ size_of_all (stmts_in (row_from c p)) + size_left c ps
size_onto c None ps = omega arith
size_onto c (Some p) ps = refl

pub walks : (c : Laid) (b : 𝔹) (at : ℕ) (behind inner : Option ℕ) (ps qs rs old new : List ℕ) → row_from c behind ≡ c.rest at → qs ≡ row_onto behind ps → Inside c b at old new inner → rs ≡ row_onto inner qs
    → Walks c b at ps rs old new
walks c b at behind inner ps qs rs old new e f h g =
    let left : (rest : Scope) → names_left c b qs rest ≡ names_of_all b (stmts_in (c.rest at)) (names_left c b ps rest) =
    λ rest. ap (λ z. names_left c b z rest) f ∙ left_onto c b behind ps rest ∙ ap (λ is. names_of_all b (stmts_in is) (names_left c b ps rest)) e in
    let size : size_left c qs ≡ size_of_all (stmts_in (c.rest at)) + size_left c ps = ap (λ z. size_left c z) f ∙ size_onto c behind ps ∙ ap (λ is. size_of_all (stmts_in is) + size_left c ps) e in
    let whole : size_left c rs ≡ size_of_all (stmts_in (row_from c inner)) + size_left c qs = ap (λ z. size_left c z) g ∙ size_onto c inner qs in
    record {
      named = λ rest. ap (λ z. fresh_slots c b new (names_left c b z rest)) g ∙ ap (λ z. fresh_slots c b new z) (left_onto c b inner qs rest)
          ∙ h.named (names_left c b qs rest) ∙ ap (λ z. fresh_slots c b old (names_of b (top_stmt (c.item at ∷ [])) z)) (left rest);
      sized = let less : size_of_all (stmts_in (row_from c inner)) < size_of (top_stmt (c.item at ∷ [])) = h.sized in omega (arith, size, whole, less);
    }

pub var_names_are : (c : Laid) (p : Option ℕ) (names : List ℕ) → Gathers c true p [] names → fresh_slots c true names [] ≡ vars_of_all (stmts_in (row_from c p)) []
var_names_are c p names h = h.named [] ∙ all_names (stmts_in (row_from c p)) []

pub let_names_are : (c : Laid) (p : Option ℕ) (names : List ℕ) → Gathers c false p [] names → fresh_slots c false names [] ≡ lets_of (stmts_in (row_from c p))
let_names_are c p names h = h.named [] ∙ all_lets (stmts_in (row_from c p))

pub gathers_first : (c : Laid) (b : 𝔹) (p : Option ℕ) (ps : List ℕ) → ps ≡ row_onto p [] → Gathers c b p ps []
gathers_first c b p ps e = record { named = λ rest. ap (λ z. names_left c b z rest) e ∙ left_onto c b p [] rest }

pub gathers_on : (c : Laid) (b : 𝔹) (p : Option ℕ) (at : ℕ) (ps qs old new : List ℕ) → Gathers c b p (at ∷ ps) old → Walks c b at ps qs old new → Gathers c b p qs new
gathers_on c b p at ps qs old new g h = record { named = λ rest. h.named rest ∙ g.named rest }

-- ---- as the code finds them

pub block_when : (c : Laid) (b : 𝔹) (at q : ℕ) (p : Option ℕ) → b ≡ true → parts_of (c.item at) ≡ c.item q ∷ c.rest q → row_from c p ≡ c.rest q → HoldsRow c inside.Block b at p
block_when c true at q p e f h = block_inside c at q p f h
block_when c false at q p e f h = absurd (cc)

pub shallow_when : (c : Laid) (b : 𝔹) (at : ℕ) → b ≡ false → HoldsRow c inside.Block b at None
shallow_when c false at e = shallow_inside c at
shallow_when c true at e = absurd (cc)

pub for_when : (c : Laid) (b : 𝔹) (at q t u d : ℕ) (p : Option ℕ) (old new : List ℕ) → b ≡ true → parts_of (c.item at) ≡ c.item q ∷ c.rest q → ForParts c q t u d → row_from c p ≡ c.rest u
    → FirstAdded c q old new → HoldsNames c inside.For b at old new p
for_when c true at q t u d p old new e f k h a = record { holds = λ n. for_inside_deep c at q t u d p old new f k h a n }
for_when c false at q t u d p old new e f k h a = absurd (cc)

pub for_shallow : (c : Laid) (b : 𝔹) (at q t u d : ℕ) (p : Option ℕ) (names : List ℕ) → b ≡ false → parts_of (c.item at) ≡ c.item q ∷ c.rest q → ForParts c q t u d → row_from c p ≡ c.rest u
    → HoldsNames c inside.For b at names names p
for_shallow c false at q t u d p names e f k h = record { holds = λ n. for_inside c at q t u d p names f k h n }
for_shallow c true at q t u d p names e f k h = absurd (cc)

pub inside_if : (c : Laid) (k : Inner) (b : 𝔹) (at : ℕ) (p : Option ℕ) (n : Node) (names : List ℕ) → HoldsRow c k b at p → n ≡ node_of (c.item at) → k ≡ inner_of n → Inside c b at names names p
inside_if c k b at p n names h e g = h.holds (sym (g ∙ ap (λ z. inner_of z) e)) names

pub inside_names_if : (c : Laid) (k : Inner) (b : 𝔹) (at : ℕ) (p : Option ℕ) (n : Node) (old new : List ℕ) → HoldsNames c k b at old new p → n ≡ node_of (c.item at) → k ≡ inner_of n → Inside c b at old new p
inside_names_if c k b at p n old new h e g = h.holds (sym (g ∙ ap (λ z. inner_of z) e))

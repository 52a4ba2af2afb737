-- What is told of a whole text is told of what it begins with.
use Rattle.std.proofs.Common.{◌≡◌, ◌∙◌, ap, sym, refl, subst, ℕ, Bool as 𝔹, true, false, cond, if◌then◌else◌, List, [], ◌∷◌, Option, Some, None, inl, inr}
use Rattle.qml_base.specs.declared.numbers.CellNo.{CellNo}
use Rattle.qml_syntax.specs.declared.node.Node.{Node}
use Rattle.qml_syntax.specs.declared.node.Node.TheVariants as node
use Rattle.qml_syntax.specs.Tree.{Expr, Stmt, empty, expr, block, declare, when, either, while, for, give, stop, again, Stmts, no_stmts, a_stmt, nothing, just, Whole, whole_expr, whole_stmt, whole_body, whole_document, whole_script, script}
use Rattle.qml_syntax.specs.Nodes.{Item, mark, of_expr, of_stmt, of_body, top_expr, top_stmt}
use Rattle.qml_syntax.specs.Opened.{node_of, parts_of, root_of, stmts_parts}
use Rattle.qml_value.specs.declared.value.Value.{Value, Undefined}
use Rattle.evaluation.specs.declared.came.Came.TheVariants as came
use Rattle.evaluation.specs.declared.came.Evaluated.TheVariants as answer
use Rattle.evaluation.specs.Ask.{Ask}
use Rattle.js_meaning.specs.Locals.{State, Scope, lets_of, vars_of_all, parameters}
use Rattle.js_meaning.specs.Eval.{around, eval, run, run_all, asks, asks_all, asks_whole, gives_value, gives_back}
use Rattle.js_frames.specs.declared.frames.Next.TheVariants as next
use Rattle.js_locals.specs.declared.locals.Local.{Local}
use Rattle.js_frames.specs.declared.kinds.Kind.{Kind}
use Rattle.js_frames.specs.declared.kinds.Kind.TheVariants as kind
use Rattle.js_locals.specs.Laid.{Laid, stmts_in, is_expr_node}
use Rattle.js_locals.specs.Scopes.{scopes_of}
use Rattle.js_frames.specs.Telling.{Told, comes}
use Rattle.js_frames.specs.Meant.{Doer, quiet, Where, World, around_at, hears, after, told}
use Rattle.js_locals.specs.Texts.{StandsAs}
use Rattle.js_locals.specs.Gathering.{row_from}
use Rattle.js_frames.specs.Stepping.{Starts, StartsIf, kind_of, other_kind}
use Rattle.js_frames.proofs.ToldLemmas.{state, stopped}
use Rattle.js_locals.proofs.RowLemmas.{first_is, rest_is, stmts_are}
use Rattle.js_locals.proofs.NodeLemmas.{expr_item}
use Rattle.js_frames.proofs.StatementLemmas.{expr_node_is}

-- ---- what a text is

kind_if : (b : 𝔹) (k : Kind) → (if b then kind.Expression else k) ≡ kind.Expression → (k ≡ kind.Expression → ⊥) → b ≡ true
kind_if true k h g = refl
kind_if false k h g = absurd (g h)

other_not : (n : Node) → other_kind n ≡ kind.Expression → ⊥
other_not (node.Expression e) h = cc
other_not node.Body h = cc
other_not (node.Binding p) h = cc
other_not node.Document h = cc
other_not (node.Script b) h = cc
other_not _ h = cc

kind_expr : (n : Node) → kind_of n ≡ kind.Expression → is_expr_node n ≡ true
kind_expr n h = kind_if (is_expr_node n) (other_kind n) h (other_not n)

expr_kind : (e : Expr) → kind_of (node_of (of_expr e)) ≡ kind.Expression
expr_kind e = ap (λ (b : 𝔹). if b then kind.Expression else other_kind (node_of (of_expr e))) (expr_node_is e)

kind_root : (t : Whole) (i : Item) → i ≡ root_of t → kind_of (node_of (root_of t)) ≡ kind_of (node_of i)
kind_root t i e = ap (λ j. kind_of (node_of j)) (sym e)

kind_stands : (t : Whole) (i : Item) → StandsAs t i → kind_of (node_of (root_of t)) ≡ kind_of (node_of i)
kind_stands (whole_body ss) i (inl e) = kind_root (whole_body ss) i e
kind_stands (whole_body ss) i (inr (p, e)) = ap (λ j. kind_of (node_of j)) (sym e)
kind_stands (whole_expr e) i h = kind_root (whole_expr e) i h
kind_stands (whole_stmt d) i h = kind_root (whole_stmt d) i h
kind_stands (whole_document d) i h = kind_root (whole_document d) i h
kind_stands (whole_script d) i h = kind_root (whole_script d) i h

-- the kind of a text that stands at a place
kind_at : (c : Laid) (at : ℕ) (k : Kind) (t : Whole) → StandsAs t (c.item at) → kind_of (node_of (c.item at)) ≡ k → kind_of (node_of (root_of t)) ≡ k
kind_at c at k t e h = kind_stands t (c.item at) e ∙ h

-- what is asked of an expression, begun as any author with any calls
abbrev asked : Where → Doer → ℕ → Expr → Ask
asked x d n e = eval (around x.code d.acts d.body n x.home x.at) e (state [] 100000) gives_value

abbrev asked_all : Where → Doer → ℕ → Stmts → Ask
asked_all x d n ss = run_all (around x.code d.acts d.body n x.home x.at) ss (state (lets_of ss ∷ vars_of_all ss [] ∷ []) 100000) gives_back

abbrev hear : World → List CellNo → Ask → Told
hear w rs ask = after rs (hears w ask)

expr_text : (w : World) (c : Laid) (rs : List CellNo) (x : Where) (p : ℕ) (e : Expr) → c.item p ≡ of_expr e → x.calls ≡ 100 → x.doer ≡ quiet x.home.author
    → told w c x (record { frames = []; reads = rs; left = 100000; locals = [] }) (next.Begin p) ≡ hear w rs (asks x.code x.home x.at e)
expr_text w c rs x p e i n a =
    ap (λ j. hear w rs (asked x x.doer x.calls (top_expr (j ∷ [])))) i
    ∙ ap (λ z. hear w rs (asked x x.doer z e)) n
    ∙ ap (λ z. hear w rs (asked x z 100 e)) a

-- ---- expressions

no_expr_stmt : (d : Stmt) → kind_of (node_of (of_stmt d)) ≡ kind.Expression → ⊥
no_expr_stmt (empty r) h = cc
no_expr_stmt (expr e r) h = cc
no_expr_stmt (block r ss) h = cc
no_expr_stmt (declare r k vs z) h = cc
no_expr_stmt (when r e d) h = cc
no_expr_stmt (either r e d f) h = cc
no_expr_stmt (while r e d) h = cc
no_expr_stmt (for r i e f d) h = cc
no_expr_stmt (give r nothing z) h = cc
no_expr_stmt (give r (just e) z) h = cc
no_expr_stmt (stop r z) h = cc
no_expr_stmt (again r z) h = cc

expression_by : (w : World) (c : Laid) (rs : List CellNo) (x : Where) (at : ℕ) (t : Whole) → StandsAs t (c.item at) → kind_of (node_of (root_of t)) ≡ kind.Expression → x.calls ≡ 100 → x.doer ≡ quiet x.home.author
    → told w c x (record { frames = []; reads = rs; left = 100000; locals = [] }) (next.Begin at) ≡ hear w rs (asks_whole x.code x.home x.at t)
expression_by w c rs x at (whole_expr e) i k n a = expr_text w c rs x at e i n a
expression_by w c rs x at (whole_stmt d) i k n a = absurd (no_expr_stmt d k)
expression_by w c rs x at (whole_body ss) i k n a = absurd (cc)
expression_by w c rs x at (whole_document d) i k n a = absurd (cc)
expression_by w c rs x at (whole_script (script b fs)) i k n a = absurd (cc)

-- a text stands where its node does
pub stands_by_node : (t : Whole) (i : Item) → i ≡ root_of t → StandsAs t i
stands_by_node (whole_body ss) i e = inl e
stands_by_node (whole_expr d) i e = e
stands_by_node (whole_stmt d) i e = e
stands_by_node (whole_document d) i e = e
stands_by_node (whole_script d) i e = e

pub expression_starts : (c : Laid) (at : ℕ) (n : Node) (ls : List Local) → n ≡ node_of (c.item at) → kind_of n ≡ kind.Expression → ls ≡ [] → Starts c at ls (next.Begin at)
expression_starts c at n ls e k z = subst (λ (l : List Local). Starts c at l (next.Begin at)) (sym z)
    (record { told_as = λ w rs x t i m a. expression_by w c rs x at t i (kind_at c at kind.Expression t i (ap (λ v. kind_of v) (sym e) ∙ k)) m a })

-- ---- an expression that is a statement

inside_stmt : (w : World) (c : Laid) (rs : List CellNo) (x : Where) (at q : ℕ) (d : Stmt) → c.item at ≡ of_stmt d → kind_of (node_of (of_stmt d)) ≡ kind.Statement → parts_of (c.item at) ≡ c.item q ∷ c.rest q
    → x.calls ≡ 100 → x.doer ≡ quiet x.home.author
    → told w c x (record { frames = []; reads = rs; left = 100000; locals = [] }) (next.Begin q) ≡ hear w rs (asks_whole x.code x.home x.at (whole_stmt d))
inside_stmt w c rs x at q (expr e r) i k f n a = expr_text w c rs x q e (first_is (of_expr e) (c.item q) [] (c.rest q) (sym (ap (λ j. parts_of j) i) ∙ f)) n a
inside_stmt w c rs x at q (empty r) i k f n a = absurd (cc)
inside_stmt w c rs x at q (block r ss) i k f n a = absurd (cc)
inside_stmt w c rs x at q (declare r g vs z) i k f n a = absurd (cc)
inside_stmt w c rs x at q (when r e d) i k f n a = absurd (cc)
inside_stmt w c rs x at q (either r e d g) i k f n a = absurd (cc)
inside_stmt w c rs x at q (while r e d) i k f n a = absurd (cc)
inside_stmt w c rs x at q (for r g e h d) i k f n a = absurd (cc)
inside_stmt w c rs x at q (give r nothing z) i k f n a = absurd (cc)
inside_stmt w c rs x at q (give r (just e) z) i k f n a = absurd (cc)
inside_stmt w c rs x at q (stop r z) i k f n a = absurd (cc)
inside_stmt w c rs x at q (again r z) i k f n a = absurd (cc)

statement_by : (w : World) (c : Laid) (rs : List CellNo) (x : Where) (at q : ℕ) (t : Whole) → StandsAs t (c.item at) → kind_of (node_of (root_of t)) ≡ kind.Statement → parts_of (c.item at) ≡ c.item q ∷ c.rest q
    → x.calls ≡ 100 → x.doer ≡ quiet x.home.author
    → told w c x (record { frames = []; reads = rs; left = 100000; locals = [] }) (next.Begin q) ≡ hear w rs (asks_whole x.code x.home x.at t)
statement_by w c rs x at q (whole_expr e) i k f n a = absurd (let g : kind.Expression ≡ kind.Statement = sym (expr_kind e) ∙ k in cc)
statement_by w c rs x at q (whole_stmt d) i k f n a = inside_stmt w c rs x at q d i k f n a
statement_by w c rs x at q (whole_body ss) i k f n a = absurd (cc)
statement_by w c rs x at q (whole_document d) i k f n a = absurd (cc)
statement_by w c rs x at q (whole_script (script b fs)) i k f n a = absurd (cc)

pub statement_starts : (c : Laid) (at q : ℕ) (n : Node) (ls : List Local) → n ≡ node_of (c.item at) → kind_of n ≡ kind.Statement → parts_of (c.item at) ≡ c.item q ∷ c.rest q → ls ≡ [] → Starts c at ls (next.Begin q)
statement_starts c at q n ls e k f z = subst (λ (l : List Local). Starts c at l (next.Begin q)) (sym z)
    (record { told_as = λ w rs x t i m a. statement_by w c rs x at q t i (kind_at c at kind.Statement t i (ap (λ v. kind_of v) (sym e) ∙ k)) f m a })

-- ---- statements

abbrev body_scopes : Stmts → List Scope
body_scopes ss = lets_of ss ∷ vars_of_all ss [] ∷ []

stmts_text : (w : World) (rs : List CellNo) (x : Where) (xs : List Scope) (ss rows : Stmts) → rows ≡ ss → xs ≡ body_scopes rows → x.calls ≡ 100 → x.doer ≡ quiet x.home.author
    → hear w rs (run_all (around_at x) rows (state xs 100000) gives_back) ≡ hear w rs (asks_all x.code x.home x.at ss)
stmts_text w rs x xs ss rows e s n a =
    ap (λ z. hear w rs (run_all (around_at x) rows (state z 100000) gives_back)) s
    ∙ ap (λ z. hear w rs (asked_all x x.doer x.calls z)) e
    ∙ ap (λ z. hear w rs (asked_all x x.doer z ss)) n
    ∙ ap (λ z. hear w rs (asked_all x z 100 ss)) a

no_body_stmt : (d : Stmt) → kind_of (node_of (of_stmt d)) ≡ kind.Body → ⊥
no_body_stmt (empty r) h = cc
no_body_stmt (expr e r) h = cc
no_body_stmt (block r ss) h = cc
no_body_stmt (declare r k vs z) h = cc
no_body_stmt (when r e d) h = cc
no_body_stmt (either r e d f) h = cc
no_body_stmt (while r e d) h = cc
no_body_stmt (for r i e f d) h = cc
no_body_stmt (give r nothing z) h = cc
no_body_stmt (give r (just e) z) h = cc
no_body_stmt (stop r z) h = cc
no_body_stmt (again r z) h = cc

body_parts : (ss : Stmts) (i : Item) → StandsAs (whole_body ss) i → parts_of i ≡ mark ∷ stmts_parts ss
body_parts ss i (inl e) = ap parts_of e
body_parts ss i (inr (p, e)) = ap parts_of e

body_by : (w : World) (c : Laid) (rs : List CellNo) (x : Where) (at q : ℕ) (ls : List Local) (t : Whole) → StandsAs t (c.item at) → kind_of (node_of (root_of t)) ≡ kind.Body → parts_of (c.item at) ≡ c.item q ∷ c.rest q
    → scopes_of c ls ≡ body_scopes (stmts_in (c.rest q)) → x.calls ≡ 100 → x.doer ≡ quiet x.home.author
    → told w c x (record { frames = []; reads = rs; left = 100000; locals = ls }) (next.Rest q) ≡ hear w rs (asks_whole x.code x.home x.at t)
body_by w c rs x at q ls (whole_body ss) i k f s n a =
    let parts : mark ∷ stmts_parts ss ≡ c.item q ∷ c.rest q = sym (body_parts ss (c.item at) i) ∙ f in
    let rest : stmts_in (c.rest q) ≡ ss = ap (λ z. stmts_in z) (rest_is mark (c.item q) (stmts_parts ss) (c.rest q) parts) ∙ stmts_are ss in
    stmts_text w rs x (scopes_of c ls) ss (stmts_in (c.rest q)) rest s n a
body_by w c rs x at q ls (whole_expr e) i k f s n a = absurd (let g : kind.Expression ≡ kind.Body = sym (expr_kind e) ∙ k in cc)
body_by w c rs x at q ls (whole_stmt d) i k f s n a = absurd (no_body_stmt d k)
body_by w c rs x at q ls (whole_document d) i k f s n a = absurd (cc)
body_by w c rs x at q ls (whole_script (script b fs)) i k f s n a = absurd (cc)

pub body_starts : (c : Laid) (at q : ℕ) (p : Option ℕ) (ls : List Local) → parts_of (c.item at) ≡ c.item q ∷ c.rest q → row_from c p ≡ c.rest q → scopes_of c ls ≡ body_scopes (stmts_in (row_from c p))
    → StartsIf c kind.Body at ls (next.Rest q)
body_starts c at q p ls f r s = record {
  starts = λ k.
      record { told_as = λ w rs x t i m a. body_by w c rs x at q ls t i (kind_at c at kind.Body t i k) f (s ∙ ap (λ is. body_scopes (stmts_in is)) r) m a };
}

other_stmt : (w : World) (c : Laid) (rs : List CellNo) (x : Where) (at : ℕ) (ls : List Local) (d : Stmt) → c.item at ≡ of_stmt d → kind_of (node_of (of_stmt d)) ≡ kind.Other → c.rest at ≡ []
    → scopes_of c ls ≡ body_scopes (stmts_in (c.item at ∷ c.rest at)) → x.calls ≡ 100 → x.doer ≡ quiet x.home.author
    → told w c x (record { frames = []; reads = rs; left = 100000; locals = ls }) (next.Run at) ≡ hear w rs (asks_all x.code x.home x.at (a_stmt d no_stmts))
other_stmt w c rs x at ls d i k f s n a =
    let rows : stmts_in (c.item at ∷ c.rest at) ≡ a_stmt d no_stmts = ap (λ is. stmts_in (c.item at ∷ is)) f ∙ ap (λ j. stmts_in (j ∷ [])) i in
    ap (λ j. hear w rs (run (around_at x) (top_stmt (j ∷ [])) (state (scopes_of c ls) 100000) gives_back)) i
    ∙ stmts_text w rs x (scopes_of c ls) (a_stmt d no_stmts) (a_stmt d no_stmts) refl (s ∙ ap (λ z. body_scopes z) rows) n a

other_by : (w : World) (c : Laid) (rs : List CellNo) (x : Where) (at : ℕ) (ls : List Local) (t : Whole) → StandsAs t (c.item at) → kind_of (node_of (root_of t)) ≡ kind.Other → c.rest at ≡ []
    → scopes_of c ls ≡ body_scopes (stmts_in (c.item at ∷ c.rest at)) → x.calls ≡ 100 → x.doer ≡ quiet x.home.author
    → told w c x (record { frames = []; reads = rs; left = 100000; locals = ls }) (next.Run at) ≡ hear w rs (asks_whole x.code x.home x.at t)
other_by w c rs x at ls (whole_stmt (expr e r)) i k f s n a = absurd (cc)
other_by w c rs x at ls (whole_stmt (empty r)) i k f s n a = other_stmt w c rs x at ls (empty r) i k f s n a
other_by w c rs x at ls (whole_stmt (block r ss)) i k f s n a = other_stmt w c rs x at ls (block r ss) i k f s n a
other_by w c rs x at ls (whole_stmt (declare r g vs z)) i k f s n a = other_stmt w c rs x at ls (declare r g vs z) i k f s n a
other_by w c rs x at ls (whole_stmt (when r e d)) i k f s n a = other_stmt w c rs x at ls (when r e d) i k f s n a
other_by w c rs x at ls (whole_stmt (either r e d g)) i k f s n a = other_stmt w c rs x at ls (either r e d g) i k f s n a
other_by w c rs x at ls (whole_stmt (while r e d)) i k f s n a = other_stmt w c rs x at ls (while r e d) i k f s n a
other_by w c rs x at ls (whole_stmt (for r g e h d)) i k f s n a = other_stmt w c rs x at ls (for r g e h d) i k f s n a
other_by w c rs x at ls (whole_stmt (give r g z)) i k f s n a = other_stmt w c rs x at ls (give r g z) i k f s n a
other_by w c rs x at ls (whole_stmt (stop r z)) i k f s n a = other_stmt w c rs x at ls (stop r z) i k f s n a
other_by w c rs x at ls (whole_stmt (again r z)) i k f s n a = other_stmt w c rs x at ls (again r z) i k f s n a
other_by w c rs x at ls (whole_expr e) i k f s n a = absurd (let g : kind.Expression ≡ kind.Other = sym (expr_kind e) ∙ k in cc)
other_by w c rs x at ls (whole_body ss) i k f s n a = absurd (cc)
other_by w c rs x at ls (whole_document d) i k f s n a = absurd (cc)
other_by w c rs x at ls (whole_script (script b fs)) i k f s n a = absurd (cc)

pub other_starts : (c : Laid) (at : ℕ) (ls : List Local) → c.rest at ≡ [] → scopes_of c ls ≡ body_scopes (stmts_in (row_from c (Some at)))
    → StartsIf c kind.Other at ls (next.Run at)
other_starts c at ls f s = record { starts = λ k. record { told_as = λ w rs x t i m a. other_by w c rs x at ls t i (kind_at c at kind.Other t i k) f s m a } }

-- ---- documents and script files

no_file_stmt : (d : Stmt) → kind_of (node_of (of_stmt d)) ≡ kind.File → ⊥
no_file_stmt (empty r) h = cc
no_file_stmt (expr e r) h = cc
no_file_stmt (block r ss) h = cc
no_file_stmt (declare r k vs z) h = cc
no_file_stmt (when r e d) h = cc
no_file_stmt (either r e d f) h = cc
no_file_stmt (while r e d) h = cc
no_file_stmt (for r i e f d) h = cc
no_file_stmt (give r nothing z) h = cc
no_file_stmt (give r (just e) z) h = cc
no_file_stmt (stop r z) h = cc
no_file_stmt (again r z) h = cc

file_by : (w : World) (c : Laid) (rs : List CellNo) (x : Where) (ls : List Local) (t : Whole) → kind_of (node_of (root_of t)) ≡ kind.File
    → told w c x (record { frames = []; reads = rs; left = 100000; locals = ls }) (next.Ended (answer.Value Undefined)) ≡ hear w rs (asks_whole x.code x.home x.at t)
file_by w c rs x ls (whole_document d) k = stopped rs (comes (came.Value Undefined))
file_by w c rs x ls (whole_script d) k = stopped rs (comes (came.Value Undefined))
file_by w c rs x ls (whole_expr e) k = absurd (let g : kind.Expression ≡ kind.File = sym (expr_kind e) ∙ k in cc)
file_by w c rs x ls (whole_stmt d) k = absurd (no_file_stmt d k)
file_by w c rs x ls (whole_body ss) k = absurd (cc)

pub file_starts : (c : Laid) (at : ℕ) (n : Node) (ls : List Local) → n ≡ node_of (c.item at) → kind_of n ≡ kind.File → Starts c at ls (next.Ended (answer.Value Undefined))
file_starts c at n ls e k = record { told_as = λ w rs x t i m a. file_by w c rs x ls t (kind_at c at kind.File t i (ap (λ v. kind_of v) (sym e) ∙ k)) }

pub starts_as : (c : Laid) (k : Kind) (at : ℕ) (ls : List Local) (y : _) (n : Node) → StartsIf c k at ls y → n ≡ node_of (c.item at) → k ≡ kind_of n → Starts c at ls y
starts_as c k at ls y n h e g = h.starts (sym (g ∙ ap (λ z. kind_of z) e))

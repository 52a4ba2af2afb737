-- What the code keeps of a state follows the machine.
use Rattle.std.proofs.Common.{◌≡◌, ℕ, Bool, true, false, not, ◌&&◌, List, [], ◌∷◌, Option, Some, None, refl, sym, ap, ◌∙◌, inl, inr}
use Rattle.std.specs.Prelude.{if◌then◌else◌}
use Rattle.qml_base.specs.declared.numbers.Place.{Place}
use Rattle.qml_syntax.specs.declared.token.TokenKind.{TokenKind}
use Rattle.qml_syntax.specs.declared.token.TokenKind.TheVariants as k
use Rattle.qml_syntax.specs.declared.mark.Mark.TheVariants as m
use Rattle.qml_syntax.specs.declared.word.Word.TheVariants as w
use Rattle.qml_syntax.specs.declared.token.Token.{Token}
use Rattle.qml_syntax.specs.declared.operators.Prefix.{Prefix}
use Rattle.qml_syntax.specs.declared.operators.Prefix.TheVariants as g
use Rattle.qml_syntax.specs.declared.node.Node.TheVariants as node
use Rattle.js_machine.specs.declared.open.Frame.TheVariants as f
use Rattle.js_machine.specs.declared.open.Reach.{Reach}
use Rattle.js_machine.specs.declared.open.Reach.TheVariants as reach
use Rattle.js_machine.specs.declared.open.Have.{Have}
use Rattle.js_machine.specs.declared.open.Now.TheVariants as n
use Rattle.qml_syntax.specs.Tree.{Expr, fields, no_exprs, no_fields, Step, call, binding, Links, Stmt, when, either, while, for, no_stmts}
use Rattle.qml_syntax.specs.Levels.{level, tightness, is_bump, is_place, Reached, at_qt, at_binding, elsewhere, beyond}
use Rattle.qml_syntax.specs.Nodes.{Table, at_mark}
use Rattle.qml_syntax.specs.Listed.{listed, listed_step, listed_stmt}
use Rattle.js_machine.specs.Frames.{Frame, Field, in_alone, in_one, fields_onto, reached, chain_onto, stmts_onto, in_list, in_items, in_args, in_element, in_sign, in_chain, in_expr, in_when, in_either, in_loop, in_for, in_block, in_function, Frames, Jump, breaks, continues, State, need, have, at_jump}
use Rattle.js_machine.specs.Machine.{is_else, Entry, takes, looping, Placed, placed, over, on_sign, without_args, ends_items, at_function, on_function, on_need, some_fields_back, on_key, ends_block, on_jump, on_begin, on_placed, on_else, on_did}
use Rattle.js_machine.specs.Tape.{Tape, tape, tape_of, reach_of, is_binding, exprs_row, steps_row, stmts_row, fields_row, frames_code, frames_nodes}
use Rattle.js_machine.specs.Moves.{plain, of_step_to, admits, loops, Over, over_at, is_over, move_sign, move_args, move_items, move_function, move_need, move_key, move_block, move_begin, move_placed, move_else, move_did}
use Rattle.js_machine.proofs.Tokens.{true_or_false}
use Rattle.js_machine.proofs.Left.{Left, l_alone, l_one, l_list, l_paren, l_items, l_field, l_args, l_element, l_sign, l_chain, l_then, l_else, l_assign, l_expr, l_give, l_value, l_if, l_while, l_first, l_test, l_next, l_when, l_either, l_loop, l_for, l_block, l_function, w_body, w_header, chain_tight}
use Rattle.js_machine.proofs.Kept.{no_mark, exprs_listed, stmts_listed, fields_listed, step_known, call_reach, binding_reach}

abbrev pub lifted : Option State → Option Tape
lifted None = None
lifted (Some x) = Some (tape_of x)

pub lift_if : (b : Bool) (x : State) → lifted (if b then Some x else None) ≡ (if b then Some (tape_of x) else None)
lift_if true x = refl
lift_if false x = refl

lift_unless : (b : Bool) (x : State) → lifted (if b then None else Some x) ≡ (if b then None else Some (tape_of x))
lift_unless true x = refl
lift_unless false x = refl

-- ---- what is known of the frames

abbrev pub KnowsFrame : Frame → Frames → Type 0
KnowsFrame in_alone fs = fs ≡ []
KnowsFrame in_one fs = fs ≡ []
KnowsFrame (in_list ss) fs = fs ≡ []
KnowsFrame (in_args e ss p es) fs = tightness e ≡ 16
KnowsFrame (in_element e ss p) fs = tightness e ≡ 16
KnowsFrame (in_function e st p ss) fs = tightness e ≡ 16
KnowsFrame (in_chain a back op p) fs = (d : Expr) (ls : Links) → tightness (chain_onto a back op p d ls) ≡ level op
KnowsFrame _ fs = Unit {0}

abbrev pub Knows : Frames → Type 0
Knows [] = Unit {0}
Knows (x ∷ fs) = KnowsFrame x fs × Knows fs

pub left_knows : {y : Entry} {fs : Frames} {s rest : List Token} → Left y fs s rest → Knows fs
left_knows (l_alone q) = (refl, tt)
left_knows (l_one q) = (refl, tt)
left_knows (l_list q o) = (refl, tt)
left_knows (l_paren l t o) = (tt, left_knows l)
left_knows (l_items l t o e) = (tt, left_knows l)
left_knows (l_field l t o e h c) = (tt, left_knows l)
left_knows (l_args l t rb h o e) = (h, left_knows l)
left_knows (l_element l t rb h o) = (h, left_knows l)
left_knows (l_sign l t o) = (tt, left_knows l)
left_knows (l_chain l t o) = (λ d ls. chain_tight o d ls, left_knows l)
left_knows (l_then l t o) = (tt, left_knows l)
left_knows (l_else l t o r c) = (tt, left_knows l)
left_knows (l_assign l t o) = (tt, left_knows l)
left_knows (l_expr l d c) = (tt, left_knows l)
left_knows (l_give l d o c) = (tt, left_knows l)
left_knows (l_value (w_body l d) o c e h) = (tt, left_knows l)
left_knows (l_value (w_header l d a b) o c e h) = (tt, left_knows l)
left_knows (l_if l d o c) = (tt, left_knows l)
left_knows (l_while l d o c) = (tt, left_knows l)
left_knows (l_first (w_header l d a b)) = (tt, left_knows l)
left_knows (l_test (w_header l d a b) o c) = (tt, left_knows l)
left_knows (l_next (w_header l d a b) o c e h) = (tt, left_knows l)
left_knows (l_when l d o c e h) = (tt, left_knows l)
left_knows (l_either l d o c e h x z) = (tt, left_knows l)
left_knows (l_loop l d o c e h) = (tt, left_knows l)
left_knows (l_for (w_header l d a b) o c e h x z) = (tt, left_knows l)
left_knows (l_block l d o c) = (tt, left_knows l)
left_knows (l_function l t rb h at q1 q2 q3 q4 q5 o) = (h, left_knows l)

pub admits_takes : (fs : Frames) (i : ℕ) → admits (frames_code fs) i ≡ takes fs i
admits_takes [] i = refl
admits_takes (in_sign back h p ∷ fs) i = refl
admits_takes (_ ∷ fs) i = refl

loops_looping : (fs : Frames) → loops (frames_code fs) ≡ looping fs
loops_looping [] = refl
loops_looping (in_when p c ∷ fs) = loops_looping fs
loops_looping (in_either p c d ∷ fs) = loops_looping fs
loops_looping (in_block p ss ∷ fs) = loops_looping fs
loops_looping (_ ∷ fs) = refl

-- ---- an expression with one more step

pub step_follows : (e : Expr) (i : Step) (ss : List Step) (fs : Frames) (r : Reach) → tightness e ≡ 16 → reach_of (beyond (reached e ss) i) ≡ r → Some (tape (listed_step i (steps_row ss (listed e (frames_nodes fs)))) (frames_code fs) (n.Have (of_step_to (is_place i) r))) ≡ lifted (Some (have e (i ∷ ss) fs))
step_follows e i ss fs r h q = ap (λ (z : Have). Some (tape (listed_step i (steps_row ss (listed e (frames_nodes fs)))) (frames_code fs) (n.Have z))) (sym (step_known e i ss r h q))

-- ---- where an expression is to come

sign_follows : (h : Prefix) (p : Place) (fs : Frames) → move_sign h p (frames_code fs) (frames_nodes fs) ≡ lifted (on_sign h p fs)
sign_follows h p (in_sign back i q ∷ fs) = sym (lift_unless (is_bump i) (need (in_sign ((i, q) ∷ back) h p ∷ fs)))
sign_follows h p [] = refl
sign_follows h p (_ ∷ fs) = refl

args_follows : (fs : Frames) → Knows fs → move_args (frames_code fs) (frames_nodes fs) ≡ lifted (without_args fs)
args_follows (in_args e ss p [] ∷ fs) kn = step_follows e (call p no_exprs) ss fs reach.Elsewhere kn.0 (call_reach (reached e ss) p no_exprs)
args_follows (in_args e ss p (d ∷ es) ∷ fs) kn = rw (no_mark d (exprs_row es (node.Mark ∷ steps_row ss (listed e (frames_nodes fs))))) refl
args_follows [] kn = refl
args_follows (_ ∷ fs) kn = refl

items_follows : (fs : Frames) → move_items (frames_code fs) (frames_nodes fs) ≡ lifted (ends_items fs)
items_follows (in_items p [] ∷ fs) = refl
items_follows (in_items p (e ∷ es) ∷ fs) =
    let row = exprs_row (e ∷ es) (node.Mark ∷ frames_nodes fs) in
    rw (no_mark e (exprs_row es (node.Mark ∷ frames_nodes fs))) (ap (λ (z : Table). Some (tape (node.List p true ∷ z) (frames_code fs) (n.Have plain))) (exprs_listed (e ∷ es) no_exprs (node.Mark ∷ frames_nodes fs)))
items_follows [] = refl
items_follows (_ ∷ fs) = refl

at_function_follows : (r : Reached) (e : Expr) (ss : List Step) (p : Place) (fs : Frames) → (if true && is_binding r then Some (tape (node.Mark ∷ steps_row ss (listed e (frames_nodes fs))) (f.Function p ∷ frames_code fs) n.Function) else None) ≡ lifted (at_function r e ss p fs)
at_function_follows at_qt e ss p fs = refl
at_function_follows at_binding e ss p fs = refl
at_function_follows elsewhere e ss p fs = refl

function_follows : (p : Place) (fs : Frames) → move_function p (frames_code fs) (frames_nodes fs) ≡ lifted (on_function p fs)
function_follows p (in_args e ss q [] ∷ fs) = at_function_follows (reached e ss) e ss p fs
function_follows p (in_args e ss q (d ∷ es) ∷ fs) = rw (no_mark d (exprs_row es (node.Mark ∷ steps_row ss (listed e (frames_nodes fs))))) refl
function_follows p [] = refl
function_follows p (_ ∷ fs) = refl

pub need_follows : (fs : Frames) (p : Place) (kind : TokenKind) → Knows fs → move_need (frames_code fs) (frames_nodes fs) p kind ≡ lifted (on_need fs p kind)
need_follows fs p (k.Word w.TypeOf) kn = sign_follows g.TypeOf p fs
need_follows fs p (k.Word w.Function) kn = function_follows p fs
need_follows fs p (k.Mark m.RightParen) kn = args_follows fs kn
need_follows fs p (k.Mark m.RightBracket) kn = items_follows fs
need_follows fs p (k.Mark m.Not) kn = sign_follows g.Not p fs
need_follows fs p (k.Mark m.Minus) kn = sign_follows g.Minus p fs
need_follows fs p (k.Mark m.Plus) kn = sign_follows g.Plus p fs
need_follows fs p (k.Mark m.BitNot) kn = sign_follows g.BitNot p fs
need_follows fs p (k.Mark m.Increment) kn = sign_follows g.Increment p fs
need_follows fs p (k.Mark m.Decrement) kn = sign_follows g.Decrement p fs
need_follows fs p _ kn = refl

fields_follows : (p : Place) (back : List Field) (fs : Frames) → Some (tape (node.Fields p (not (at_mark (fields_row back (node.Mark ∷ frames_nodes fs)))) ∷ (fields_row back (node.Mark ∷ frames_nodes fs))) (frames_code fs) (n.Have plain)) ≡ lifted (Some (have (fields p (fields_onto back no_fields) (some_fields_back back)) [] fs))
fields_follows p [] fs = refl
fields_follows p (x ∷ back) fs = rw (no_mark x.3 (node.Key x.0 x.1 x.2 ∷ fields_row back (node.Mark ∷ frames_nodes fs))) (ap (λ (z : Table). Some (tape (node.Fields p true ∷ z) (frames_code fs) (n.Have plain))) (fields_listed (x ∷ back) no_fields (node.Mark ∷ frames_nodes fs)))

pub key_follows : (p : Place) (back : List Field) (fs : Frames) (q : Place) (kind : TokenKind) → move_key p (frames_code fs) (fields_row back (node.Mark ∷ frames_nodes fs)) q kind ≡ lifted (on_key p back fs q kind)
key_follows p back fs q (k.Mark m.RightBrace) = fields_follows p back fs
key_follows p back fs q _ = refl

-- ---- statements

block_follows : (fs : Frames) → Knows fs → move_block (frames_code fs) (frames_nodes fs) ≡ lifted (ends_block fs)
block_follows (in_block p ss ∷ fs) kn = ap (λ (z : Table). Some (tape (node.Block p ∷ z) (frames_code fs) n.Did)) (stmts_listed ss no_stmts (node.Mark ∷ frames_nodes fs))
block_follows (in_function e st p ss ∷ fs) kn =
    let under = steps_row st (listed e (frames_nodes fs)) in
    let one : Some (tape (node.Binding p ∷ (stmts_row ss (node.Mark ∷ under))) (frames_code fs) (n.BindingClose (of_step_to false reach.Elsewhere))) ≡ Some (tape (listed_step (binding p (stmts_onto ss no_stmts)) under) (frames_code fs) (n.BindingClose (of_step_to false reach.Elsewhere))) = ap (λ (z : Table). Some (tape (node.Binding p ∷ z) (frames_code fs) (n.BindingClose (of_step_to false reach.Elsewhere)))) (stmts_listed ss no_stmts (node.Mark ∷ under)) in
    one ∙ ap (λ (z : Have). Some (tape (listed_step (binding p (stmts_onto ss no_stmts)) under) (frames_code fs) (n.BindingClose z))) (sym (step_known e (binding p (stmts_onto ss no_stmts)) st reach.Elsewhere kn.0 (binding_reach (reached e st) p (stmts_onto ss no_stmts))))
block_follows [] kn = refl
block_follows (_ ∷ fs) kn = refl

jump_follows : (j : Jump) (p : Place) (fs : Frames) → (if loops (frames_code fs) then Some (tape_of (at_jump j p fs)) else None) ≡ lifted (on_jump j p fs)
jump_follows j p fs = ap (λ (v : Bool). if v then Some (tape_of (at_jump j p fs)) else None) (loops_looping fs) ∙ sym (lift_if (looping fs) (at_jump j p fs))

pub begin_follows : (fs : Frames) (p : Place) (kind : TokenKind) → Knows fs → move_begin (frames_code fs) (frames_nodes fs) p kind ≡ lifted (on_begin fs p kind)
begin_follows fs p (k.Mark m.LeftBrace) kn = refl
begin_follows fs p (k.Mark m.RightBrace) kn = block_follows fs kn
begin_follows fs p (k.Mark m.Semicolon) kn = refl
begin_follows fs p (k.Word w.If) kn = refl
begin_follows fs p (k.Word w.While) kn = refl
begin_follows fs p (k.Word w.For) kn = refl
begin_follows fs p (k.Word w.Return) kn = refl
begin_follows fs p (k.Word w.Break) kn = jump_follows breaks p fs
begin_follows fs p (k.Word w.Continue) kn = jump_follows continues p fs
begin_follows fs p (k.Word w.Var) kn = refl
begin_follows fs p (k.Word w.Let) kn = refl
begin_follows fs p (k.Word w.Const) kn = refl
begin_follows fs p kind kn = need_follows (in_expr ∷ fs) p kind (tt, kn)

abbrev pub over_of : Placed → Over
over_of (placed d fs) = over_at (listed_stmt d (frames_nodes fs)) (frames_code fs)

abbrev pub KnowsPlaced : Placed → Type 0
KnowsPlaced (placed d fs) = Knows fs

pub over_follows : (fs : Frames) (d : Stmt) → is_over (frames_code fs) (listed_stmt d (frames_nodes fs)) ≡ over_of (over fs d)
over_follows (in_when p c ∷ fs) d = over_follows fs (when p c d)
over_follows (in_either p c r ∷ fs) d = over_follows fs (either p c r d)
over_follows (in_loop p c ∷ fs) d = over_follows fs (while p c d)
over_follows (in_for p i e x ∷ fs) d = over_follows fs (for p i e x d)
over_follows [] d = refl
over_follows (_ ∷ fs) d = refl

pub over_knows : (fs : Frames) (d : Stmt) → Knows fs → KnowsPlaced (over fs d)
over_knows (in_when p c ∷ fs) d kn = over_knows fs (when p c d) kn.1
over_knows (in_either p c r ∷ fs) d kn = over_knows fs (either p c r d) kn.1
over_knows (in_loop p c ∷ fs) d kn = over_knows fs (while p c d) kn.1
over_knows (in_for p i e x ∷ fs) d kn = over_knows fs (for p i e x d) kn.1
over_knows [] d kn = kn
over_knows (_ ∷ fs) d kn = kn

placed_follows : (x : Placed) (p : Place) (kind : TokenKind) → KnowsPlaced x → move_placed (over_of x) p kind ≡ lifted (on_placed x p kind)
placed_follows (placed d (in_list ss ∷ fs)) p kind kn = begin_follows (in_list (d ∷ ss) ∷ fs) p kind kn
placed_follows (placed d (in_block q ss ∷ fs)) p kind kn = begin_follows (in_block q (d ∷ ss) ∷ fs) p kind kn
placed_follows (placed d (in_function e st q ss ∷ fs)) p kind kn = begin_follows (in_function e st q (d ∷ ss) ∷ fs) p kind kn
placed_follows (placed d []) p kind kn = refl
placed_follows (placed d (_ ∷ fs)) p kind kn = refl

else_follows : (fs : Frames) (d : Stmt) → move_else (frames_code fs) (listed_stmt d (frames_nodes fs)) ≡ lifted (on_else fs d)
else_follows (in_when p c ∷ fs) d = refl
else_follows (in_either p c r ∷ fs) d = else_follows fs (either p c r d)
else_follows (in_loop p c ∷ fs) d = else_follows fs (while p c d)
else_follows (in_for p i e x ∷ fs) d = else_follows fs (for p i e x d)
else_follows [] d = refl
else_follows (_ ∷ fs) d = refl

pub did_follows : (d : Stmt) (fs : Frames) (t : Token) → Knows fs → move_did (frames_code fs) (listed_stmt d (frames_nodes fs)) t ≡ lifted (on_did d fs t)
did_follows d fs t kn =
    let P : Bool → Option Tape = λ v. if v then move_else (frames_code fs) (listed_stmt d (frames_nodes fs)) else move_placed (is_over (frames_code fs) (listed_stmt d (frames_nodes fs))) t.place t.what in
    let Q : Bool → Option State = λ v. if v then on_else fs d else on_placed (over fs d) t.place t.what in
    elim (true_or_false (is_else t.what)) [
      | inl c ↦ ap P c ∙ else_follows fs d ∙ ap lifted (sym (ap Q c))
      | inr c ↦ ap P c ∙ ap (λ (z : Over). move_placed z t.place t.what) (over_follows fs d) ∙ placed_follows (over fs d) t.place t.what (over_knows fs d kn) ∙ ap lifted (sym (ap Q c))
    ]

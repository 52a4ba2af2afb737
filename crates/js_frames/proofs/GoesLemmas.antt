-- Each move changes nothing of what is heard in all.
use Rattle.std.proofs.Common.{◌≡◌, ◌∙◌, ap, sym, refl, inl, inr, ℕ, Bool as 𝔹, true, false, cond, if◌then◌else◌, List, [], ◌∷◌, codes, Option}
use Rattle.qml_base.specs.declared.numbers.CellNo.{CellNo}
use Rattle.qml_base.specs.declared.names.Found.{Found}
use Rattle.qml_base.specs.declared.names.Found.TheVariants as found
use Rattle.qml_base.specs.declared.cause.Cause.TheVariants as cause
use Rattle.qml_syntax.specs.declared.operators.Operator.{Operator}
use Rattle.qml_syntax.specs.declared.node.Node.{Node}
use Rattle.qml_syntax.specs.Tree.{Expr, Links}
use Rattle.qml_syntax.specs.Nodes.{Item, of_key, top_expr}
use Rattle.qml_syntax.specs.Opened.{node_of}
use Rattle.qml_value.specs.declared.value.Value.{Value, Undefined, Null, Bool, Num, Text, List', Fields', Object, Component}
use Rattle.evaluation.specs.Ask.{Ask, finds}
use Rattle.js_meaning.specs.declared.rounding.Rounding.{Rounding}
use Rattle.js_meaning.specs.Operate.{is_nothing, same_units, weighed}
use Rattle.js_meaning.specs.Rows.{list_value, fields_value, put_field, at_place}
use Rattle.js_meaning.specs.Methods.{method_of, math_method, text_from}
use Rattle.js_meaning.specs.Locals.{State}
use Rattle.js_meaning.specs.Going.{Then, Around, throws, given}
use Rattle.js_meaning.specs.Looking.{name_value, found_value, found_member, member_of, element_of, decides, plain_member, at_number}
use Rattle.js_meaning.specs.Calling.{hidden_part}
use Rattle.js_meaning.specs.Eval.{eval, eval_all, eval_fields, linked, if_no_link, operate_by}
use Rattle.js_frames.specs.declared.frames.Frame.TheVariants as frame
use Rattle.js_frames.specs.declared.frames.Next.{Next}
use Rattle.js_frames.specs.declared.frames.Next.TheVariants as next
use Rattle.js_frames.specs.declared.frames.Callee.TheVariants as calls
use Rattle.js_frames.specs.declared.frames.Deed.TheVariants as deed
use Rattle.js_frames.specs.declared.frames.Purpose.{Purpose}
use Rattle.js_frames.specs.declared.frames.Purpose.TheVariants as purpose
use Rattle.js_frames.specs.declared.frames.To.{To}
use Rattle.js_frames.specs.declared.frames.To.TheVariants as to
use Rattle.js_locals.specs.Laid.{Laid, links_in, exprs_in, fields_in, name_at, name_of}
use Rattle.js_locals.proofs.NodeLemmas.{key_item}
use Rattle.js_fields.specs.declared.entries.Entry.{Entry}
use Rattle.js_fields.specs.Entries.{fields_from}
use Rattle.qml_value.specs.declared.value.Field.{Field}
use Rattle.js_frames.specs.Standing.{Standing, with_frame, with_read, state_of}
use Rattle.js_frames.specs.Meant.{aim_in, Where, World, around_at, all_then, then_of, told}
use Rattle.js_frames.specs.Moves.{Turns, threw, next_of, arrive, arrive_ended, no_index, NameGives, FoundGives, MemberGives, MemberOf, ElementOf, PartGives, Finishes, AllFrom, FieldsFrom, LinkOn, ChainOn, RightOn}
use Rattle.js_frames.proofs.ToldLemmas.{on, turned, threw_on, pushed, goal_of, told_threw, told_arrive, arrived, told_ended, told_next, told_if, read_on, part_seen_as, local_on}

-- ---- names, members and elements

pub found_on : (w : World) (c : Laid) (x : Where) (t : To) (n : List ℕ) (f : Found) (old new : Standing) (y : Next)
    → FoundGives w t n f old new y → told w c x new y ≡ on w old (found_value n f (state_of c old) (goal_of c x t old))
found_on w c x t n (found.Cell cell) old new y h = read_on w c x t cell old new y h
found_on w c x t n (found.Object o) old new y h = arrived w c x t (Object o) old new y h
found_on w c x t n (found.Component o) old new y h = arrived w c x t (Component o) old new y h
found_on w c x t n found.Global old new y h =
    turned w c x (if same_units n (codes "undefined") then arrive t Undefined else threw cause.Kind) old new y h
    ∙ told_if w c x old t Undefined cause.Kind (same_units n (codes "undefined"))
found_on w c x t n found.Nothing old new y h = threw_on w c x cause.Name old new y h
found_on w c x t n _ old new y h = threw_on w c x cause.Kind old new y h

-- a name: a local, or else what it finds
pub name_on : (w : World) (c : Laid) (x : Where) (t : To) (n : List ℕ) (old new : Standing) (y : Next)
    → NameGives w c x.home t n old new y → told w c x new y ≡ on w old (name_value (around_at x) n (state_of c old) (goal_of c x t old))
name_on w c x t n old new y h =
    local_on w c x t n old (finds x.home n (λ f. found_value n f (state_of c old) (goal_of c x t old))) (FoundGives w t n (w.names.resolve x.home n) old new y) new y
    (λ r. found_on w c x t n (w.names.resolve x.home n) old new y r) h

pub member_on : (w : World) (c : Laid) (x : Where) (t : To) (f : Found) (old new : Standing) (y : Next)
    → MemberGives w t f old new y → told w c x new y ≡ on w old (found_member f (state_of c old) (goal_of c x t old))
member_on w c x t (found.Cell cell) old new y h = read_on w c x t cell old new y h
member_on w c x t (found.Object o) old new y h = arrived w c x t (Object o) old new y h
member_on w c x t (found.Component o) old new y h = arrived w c x t (Component o) old new y h
member_on w c x t found.Nothing old new y h = arrived w c x t Undefined old new y h
member_on w c x t _ old new y h = threw_on w c x cause.Kind old new y h

pub member_of_on : (w : World) (c : Laid) (x : Where) (t : To) (v : Value) (n : List ℕ) (old new : Standing) (y : Next)
    → MemberOf w t v n old new y → told w c x new y ≡ on w old (member_of v n (state_of c old) (goal_of c x t old))
member_of_on w c x t Undefined n old new y h = threw_on w c x cause.Null old new y h
member_of_on w c x t Null n old new y h = threw_on w c x cause.Null old new y h
member_of_on w c x t (Object o) n old new y h = member_on w c x t (w.names.member o n) old new y h
member_of_on w c x t (Component o) n old new y h = member_on w c x t (w.names.member o n) old new y h
member_of_on w c x t (Bool b) n old new y h = arrived w c x t (plain_member (Bool b) n) old new y h
member_of_on w c x t (Num z) n old new y h = arrived w c x t (plain_member (Num z) n) old new y h
member_of_on w c x t (Text us) n old new y h = arrived w c x t (plain_member (Text us) n) old new y h
member_of_on w c x t (List' m row) n old new y h = arrived w c x t (plain_member (List' m row) n) old new y h
member_of_on w c x t (Fields' m row) n old new y h = arrived w c x t (plain_member (Fields' m row) n) old new y h

told_no_index : (w : World) (c : Laid) (x : Where) (m : Standing) (b : 𝔹) → told w c x m (if b then threw cause.Null else threw cause.Kind) ≡ on w m (if b then throws cause.Null else throws cause.Kind)
told_no_index w c x m true = told_threw w c x m cause.Null
told_no_index w c x m false = told_threw w c x m cause.Kind

told_element : (w : World) (c : Laid) (x : Where) (m : Standing) (t : To) (v : Value) (b : 𝔹)
    → told w c x m (if b then threw cause.Null else arrive t v) ≡ on w m (if b then throws cause.Null else goal_of c x t m v (state_of c m))
told_element w c x m t v true = told_threw w c x m cause.Null
told_element w c x m t v false = told_arrive w c x m t v

no_index_on : (w : World) (c : Laid) (x : Where) (v : Value) (old new : Standing) (y : Next) → Turns (no_index v) old new y
    → told w c x new y ≡ on w old (if is_nothing v then throws cause.Null else throws cause.Kind)
no_index_on w c x v old new y h = turned w c x (no_index v) old new y h ∙ told_no_index w c x old (is_nothing v)

pub element_on : (w : World) (c : Laid) (x : Where) (t : To) (v i : Value) (old new : Standing) (y : Next)
    → ElementOf w t v i old new y → told w c x new y ≡ on w old (element_of v i (state_of c old) (goal_of c x t old))
element_on w c x t v (Text n) old new y h = member_of_on w c x t v n old new y h
element_on w c x t v (Num z) old new y h =
    turned w c x (if is_nothing v then threw cause.Null else arrive t (at_number v z)) old new y h ∙ told_element w c x old t (at_number v z) (is_nothing v)
element_on w c x t v Undefined old new y h = no_index_on w c x v old new y h
element_on w c x t v Null old new y h = no_index_on w c x v old new y h
element_on w c x t v (Bool b) old new y h = no_index_on w c x v old new y h
element_on w c x t v (List' n row) old new y h = no_index_on w c x v old new y h
element_on w c x t v (Fields' n row) old new y h = no_index_on w c x v old new y h
element_on w c x t v (Object o) old new y h = no_index_on w c x v old new y h
element_on w c x t v (Component o) old new y h = no_index_on w c x v old new y h

-- ---- rows

pub part_on : (w : World) (c : Laid) (x : Where) (t : To) (n : List ℕ) (cell : CellNo) (v : Value) (old new : Standing) (y : Next)
    → PartGives w t n cell v old new y → told w c x new y ≡ on w old (hidden_part v cell n (state_of c old) (goal_of c x t old))
part_on w c x t n cell (Num z) old new y h =
    ap (λ m. told w c x m y) h.0 ∙ ap (λ k. told w c x (with_read cell old) k) h.1 ∙ part_seen_as w c x old t n z cell (w.view cell)
part_on w c x t n cell _ old new y h = threw_on w c x cause.Kind old new y h

pub finished_on : (w : World) (c : Laid) (x : Where) (what : Purpose) (vs : List Value) (old new : Standing) (y : Next)
    → Finishes w c what vs old new y → told w c x new y ≡ on w old (all_then c (around_at x) what vs (state_of c old) (aim_in c x old.frames))
finished_on w c x purpose.List vs old new y h = turned w c x (next_of (weighed (list_value vs))) old new y h ∙ told_next w c x old (weighed (list_value vs))
finished_on w c x (purpose.Call (calls.Body e o) q) vs old new y h = turned w c x (next.Enter e o vs q) old new y h
finished_on w c x (purpose.Call (calls.Signal o i) q) vs old new y h = turned w c x (next.Deed (deed.Emit o i vs q)) old new y h
finished_on w c x (purpose.Call (calls.Reading o k p) q) vs old new y h = turned w c x (next.Deed (deed.Read o k p vs q)) old new y h
finished_on w c x (purpose.Call (calls.Doing o p) q) vs old new y h = turned w c x (next.Deed (deed.Do o p vs q)) old new y h
finished_on w c x (purpose.Call (calls.Method v p) q) vs old new y h =
    turned w c x (arrive_ended (to.Step q) (method_of v (name_of c p) vs)) old new y h ∙ told_ended w c x old (to.Step q) (method_of v (name_of c p) vs)
finished_on w c x (purpose.Call (calls.Math p) q) vs old new y h =
    turned w c x (arrive_ended (to.Step q) (math_method (name_of c p) vs)) old new y h ∙ told_ended w c x old (to.Step q) (math_method (name_of c p) vs)
finished_on w c x (purpose.Call calls.Text q) vs old new y h =
    turned w c x (arrive_ended (to.Step q) (text_from vs)) old new y h ∙ told_ended w c x old (to.Step q) (text_from vs)
finished_on w c x (purpose.Call calls.Log q) vs old new y h = turned w c x (next.Deed (deed.Log vs q)) old new y h
finished_on w c x (purpose.Call calls.Binding q) vs old new y h = threw_on w c x cause.Kind old new y h
finished_on w c x (purpose.Call calls.Nothing q) vs old new y h = threw_on w c x cause.Call old new y h

-- the values of a row, from what stands behind a part on
abbrev pub row_then : Laid → Where → Purpose → List Value → List Item → Standing → Ask
row_then c x what vs is m = eval_all (around_at x) (exprs_in is) vs (state_of c m) (λ ws t. all_then c (around_at x) what ws t (aim_in c x m.frames))

pub all_on : (w : World) (c : Laid) (x : Where) (what : Purpose) (vs : List Value) (p : ℕ) (old new : Standing) (y : Next)
    → AllFrom w c what vs p old new y → told w c x new y ≡ on w old (row_then c x what vs (c.rest p) old)
all_on w c x what vs p old new y h = elim h [
  | inl l ↦ finished_on w c x what vs old new y l.1 ∙ ap (λ z. on w old (row_then c x what vs z old)) (sym l.0)
  | inr r ↦ pushed w c x (frame.All what vs r.0) r.0 old new y r.2 ∙ ap (λ z. on w old (row_then c x what vs z old)) (sym r.1)
]

-- fields, from what stands behind a part on
abbrev pub fields_then : Laid → Where → List Field → List Item → Standing → Ask
fields_then c x vs is m = eval_fields (around_at x) (fields_in is) vs (state_of c m) (λ ws t. given (weighed (fields_value ws)) t (then_of c x m.frames))

pub fields_on : (w : World) (c : Laid) (x : Where) (es : List Entry) (p : ℕ) (old new : Standing) (y : Next)
    → FieldsFrom c es p old new y → told w c x new y ≡ on w old (fields_then c x (fields_from c es) (c.rest p) old)
fields_on w c x es p old new y h =
    let vs : List Field = fields_from c es in
    elim h [
      | inl l ↦ turned w c x (next_of (weighed (fields_value vs))) old new y l.1 ∙ told_next w c x old (weighed (fields_value vs))
          ∙ ap (λ z. on w old (fields_then c x vs z old)) (sym l.0)
      | inr r ↦
          (let k : ℕ = r.0 in
          let q : ℕ = (r.2).0 in
          let i : (f : 𝔹) × (n : List ℕ) × (s : _) × (c.item k ≡ of_key f n s) = key_item (node_of (c.item k)) (c.item k) refl (r.2).1 in
          pushed w c x (frame.Field es k q) q old new y (r.2).3
          ∙ ap (λ n. on w old (eval (around_at x) (top_expr (c.item q ∷ [])) (state_of c old) (λ v t. eval_fields (around_at x) (fields_in (c.rest q)) (put_field n v vs) t (λ ws u. given (weighed (fields_value ws)) u (then_of c x old.frames)))))
          (ap (λ j. name_at (node_of j)) i.3)
          ∙ ap (λ j. on w old (fields_then c x vs (j ∷ c.item q ∷ c.rest q) old)) (sym i.3)
          ∙ ap (λ z. on w old (fields_then c x vs (c.item k ∷ z) old)) (sym (r.2).2)
          ∙ ap (λ z. on w old (fields_then c x vs z old)) (sym r.1))
    ]

-- ---- chains

abbrev link_then : Around → Option Rounding → Operator → Expr → Links → Value → State → Then → 𝔹 → Ask
link_then a how o e ls v s k b = cond b (linked a how ls v s k) (eval a e s (λ r t. given (operate_by (if_no_link ls how) o v r) t (λ q u. linked a how ls q u k)))

abbrev links_at : Laid → ℕ → ℕ → Links
links_at c at p = links_in (node_of (c.item at)) (c.rest p)

link_on : (w : World) (c : Laid) (x : Where) (how : Option Rounding) (at q : ℕ) (o : Operator) (r : ℕ) (v : Value) (b : 𝔹) (old new : Standing) (y : Next)
    → LinkOn how at q o r v b old new y
    → told w c x new y ≡ on w old (link_then (around_at x) how o (top_expr (c.item r ∷ [])) (links_at c at q) v (state_of c old) (then_of c x old.frames) b)
link_on w c x how at q o r v true old new y h = ap (λ m. told w c x m y) h.0 ∙ ap (λ z. told w c x (with_frame (frame.Chain how at q) old) z) h.1
link_on w c x how at q o r v false old new y h = pushed w c x (frame.Right how o v at q) r old new y h

pub chain_on : (w : World) (c : Laid) (x : Where) (how : Option Rounding) (at p : ℕ) (v : Value) (old new : Standing) (y : Next)
    → ChainOn c how at p v old new y → told w c x new y ≡ told w c x (with_frame (frame.Chain how at p) old) (next.Back v)
chain_on w c x how at p v old new y h =
    let a : Around = around_at x in
    let k : Then = then_of c x old.frames in
    let n : Node = node_of (c.item at) in
    elim h [
      | inl l ↦ turned w c x (next.Back v) old new y l.1 ∙ ap (λ z. on w old (linked a how (links_in n z) v (state_of c old) k)) (sym l.0)
      | inr r ↦ link_on w c x how at r.0 (r.2).0 (r.2).1 v (decides (r.2).0 v) old new y (r.2).3
          ∙ ap (λ z. on w old (linked a how z v (state_of c old) k)) (sym ((r.2).2).1)
          ∙ ap (λ z. on w old (linked a how (links_in n z) v (state_of c old) k)) (sym r.1)
    ]

pub right_on : (w : World) (c : Laid) (x : Where) (how : Option Rounding) (o : Operator) (l : Value) (at p : ℕ) (v : Value) (old new : Standing) (y : Next)
    → RightOn c how o l at p v old new y → told w c x new y ≡ told w c x (with_frame (frame.Right how o l at p) old) (next.Back v)
right_on w c x how o l at p v old new y h =
    let a : Around = around_at x in
    let m : Standing = with_frame (frame.Chain how at p) old in
    ap (λ z. told w c x z y) h.0 ∙ ap (λ z. told w c x m z) h.1 ∙ told_next w c x m (operate_by (if_no_link (links_at c at p) how) o l v)

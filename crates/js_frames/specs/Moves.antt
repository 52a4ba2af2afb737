-- The moves of the machine: what each node, each frame and each step becomes.
use Rattle.std.specs.Prelude.{◌≡◌, ◌⊎◌, ℕ, ◌<◌, ◌≤◌, ℤ, pos, Bool as 𝔹, true, false, ◌&&◌, if◌then◌else◌, List, [], ◌∷◌, ◌++◌, codes, Option, Some, None}
use Rattle.qml_base.specs.declared.numbers.ObjNo.{ObjNo}
use Rattle.qml_base.specs.declared.numbers.CellNo.{CellNo}
use Rattle.qml_base.specs.declared.numbers.Place.{Place}
use Rattle.qml_base.specs.declared.names.Home.{Home}
use Rattle.qml_base.specs.declared.names.Found.{Found}
use Rattle.qml_base.specs.declared.names.Found.TheVariants as found
use Rattle.qml_base.specs.declared.cause.Cause.{Cause}
use Rattle.qml_base.specs.declared.cause.Cause.TheVariants as cause
use Rattle.qml_syntax.specs.declared.operators.Operator.{Operator}
use Rattle.qml_syntax.specs.declared.operators.Prefix.{Prefix}
use Rattle.qml_syntax.specs.declared.operators.Prefix.TheVariants as prefix
use Rattle.qml_syntax.specs.declared.node.Node.{Node}
use Rattle.qml_syntax.specs.declared.node.Node.TheVariants as node
use Rattle.qml_syntax.specs.Tree.{a_link}
use Rattle.qml_syntax.specs.Nodes.{Item, of_step, top_expr}
use Rattle.qml_syntax.specs.Opened.{node_of, parts_of}
use Rattle.qml_value.specs.declared.value.Value.{Value, Undefined, Null, Num, Text, Object, Component}
use Rattle.evaluation.specs.declared.came.Ended.{Ended}
use Rattle.evaluation.specs.declared.came.Ended.TheVariants as by
use Rattle.evaluation.specs.declared.came.Evaluated.TheVariants as answer
use Rattle.evaluation.specs.Evaluating.{Seen, is, looped, past}
use Rattle.js_meaning.specs.declared.rounding.Rounding.{Rounding}
use Rattle.js_meaning.specs.Operate.{counts, bounded, weighed, operate_prefix, same_units, is_nothing}
use Rattle.js_meaning.specs.Rows.{list_value, fields_value, at_place}
use Rattle.js_meaning.specs.Methods.{method_of, math_method, text_from, part_of_cell}
use Rattle.js_meaning.specs.Locals.{Held, dead, alive, local}
use Rattle.js_meaning.specs.Looking.{added_by, added_by_prefix, decides, literal_value, plain_member, at_number}
use Rattle.js_meaning.specs.Calling.{is_enumerated, is_qt_binding, script_home}
use Rattle.js_meaning.specs.Eval.{if_no_link, operate_by, rounding_of}
use Rattle.js_frames.specs.declared.frames.Frame.{Frame}
use Rattle.js_frames.specs.declared.frames.Frame.TheVariants as frame
use Rattle.js_frames.specs.declared.frames.Next.{Next}
use Rattle.js_frames.specs.declared.frames.Next.TheVariants as next
use Rattle.js_frames.specs.declared.frames.Before.{Before}
use Rattle.js_frames.specs.declared.frames.Before.TheVariants as stands
use Rattle.js_frames.specs.declared.frames.Callee.{Callee}
use Rattle.js_frames.specs.declared.frames.Callee.TheVariants as calls
use Rattle.js_frames.specs.declared.frames.Deed.{Deed}
use Rattle.js_frames.specs.declared.frames.Deed.TheVariants as deed
use Rattle.js_frames.specs.declared.frames.Purpose.{Purpose}
use Rattle.js_frames.specs.declared.frames.Purpose.TheVariants as purpose
use Rattle.js_frames.specs.declared.frames.Spot.TheVariants as spot
use Rattle.js_frames.specs.declared.frames.Gives.{Gives}
use Rattle.js_frames.specs.declared.frames.Gives.TheVariants as gives
use Rattle.qml_syntax.specs.declared.operators.Postfix.{Postfix}
use Rattle.js_frames.specs.declared.frames.To.{To}
use Rattle.js_frames.specs.declared.frames.To.TheVariants as to
use Rattle.js_locals.specs.Laid.{IsOperand, Laid, is_chain, is_choice, is_key, is_name, is_bump, links_in, name_of}
use Rattle.js_locals.specs.Scopes.{scopes_of}
use Rattle.js_fields.specs.declared.entries.Entry.{Entry}
use Rattle.js_fields.specs.Entries.{fields_from}
use Rattle.js_frames.specs.Awaiting.{awaits_spot}
use Rattle.js_frames.specs.Standing.{Standing, with_frame, with_read, without_node}
use Rattle.js_frames.specs.Meant.{World, callee_of}

-- nothing changes but what comes next
abbrev pub Turns : Next → Standing → Standing → Next → Type 0
Turns x old new y = (new ≡ old) × (y ≡ x)

abbrev pub threw : Cause → Next
threw c = next.Ended (answer.Threw c)

-- a part is begun behind a new frame
abbrev pub Pushes : Frame → ℕ → Standing → Standing → Next → Type 0
Pushes f at old new y = (new ≡ with_frame f old) × (y ≡ next.Begin at)

abbrev pub next_of : Ended → Next
next_of (by.Value v) = next.Back v
next_of (by.Threw c) = threw c
next_of by.Past = next.Ended answer.Past

-- where a value that was found goes
abbrev pub arrive : To → Value → Next
arrive to.Back v = next.Back v
arrive (to.Step p) v = next.Step (stands.Value v) p
arrive (to.Member p) v = next.Step (stands.OfValue v p) p
arrive (to.Spot p) v = next.Found (spot.Member v p)
arrive (to.Nothing p) v = next.Args calls.Nothing p

abbrev pub arrive_ended : To → Ended → Next
arrive_ended t (by.Value v) = arrive t v
arrive_ended t (by.Threw c) = threw c
arrive_ended t by.Past = next.Ended answer.Past

abbrev pub arrive_seen : To → CellNo → Option Seen → Next
arrive_seen t c (Some (is v)) = arrive t v
arrive_seen t c (Some looped) = next.Ended answer.Loop
arrive_seen t c (Some past) = next.Ended answer.Past
arrive_seen t c None = next.Ended (answer.Need c)

-- ---- cells, names and members

abbrev pub ReadGives : World → To → CellNo → Standing → Standing → Next → Type 0
ReadGives w t cell old new y = (new ≡ with_read cell old) × (y ≡ arrive_seen t cell (w.view cell))

abbrev pub global_next : To → List ℕ → Next
global_next t n = if same_units n (codes "undefined") then arrive t Undefined else threw cause.Kind

abbrev pub FoundGives : World → To → List ℕ → Found → Standing → Standing → Next → Type 0
FoundGives w t n (found.Cell cell) old new y = ReadGives w t cell old new y
FoundGives w t n (found.Object o) old new y = Turns (arrive t (Object o)) old new y
FoundGives w t n (found.Component o) old new y = Turns (arrive t (Component o)) old new y
FoundGives w t n found.Global old new y = Turns (global_next t n) old new y
FoundGives w t n found.Nothing old new y = Turns (threw cause.Name) old new y
FoundGives w t n f old new y = Turns (threw cause.Kind) old new y

-- what a local gives that is found
abbrev pub local_next : To → Option Held → Option Next
local_next t None = None
local_next t (Some dead) = Some (threw cause.Name)
local_next t (Some (alive w v)) = Some (arrive t v)

abbrev pub local_in : Laid → List ℕ → Standing → Option Held
local_in c n m = local n (scopes_of c m.locals)

-- what a local gives, and where there is none the other
abbrev pub OrElse : Option Next → Type 0 → Standing → Standing → Next → Type 0
OrElse (Some z) R old new y = Turns z old new y
OrElse None R old new y = R

abbrev pub NameGives : World → Laid → Home → To → List ℕ → Standing → Standing → Next → Type 0
NameGives w c x t n old new y = OrElse (local_next t (local_in c n old)) (FoundGives w t n (w.names.resolve x n) old new y) old new y

abbrev pub MemberGives : World → To → Found → Standing → Standing → Next → Type 0
MemberGives w t (found.Cell cell) old new y = ReadGives w t cell old new y
MemberGives w t (found.Object o) old new y = Turns (arrive t (Object o)) old new y
MemberGives w t (found.Component o) old new y = Turns (arrive t (Component o)) old new y
MemberGives w t found.Nothing old new y = Turns (arrive t Undefined) old new y
MemberGives w t f old new y = Turns (threw cause.Kind) old new y

abbrev pub MemberOf : World → To → Value → List ℕ → Standing → Standing → Next → Type 0
MemberOf w t Undefined n old new y = Turns (threw cause.Null) old new y
MemberOf w t Null n old new y = Turns (threw cause.Null) old new y
MemberOf w t (Object o) n old new y = MemberGives w t (w.names.member o n) old new y
MemberOf w t (Component o) n old new y = MemberGives w t (w.names.member o n) old new y
MemberOf w t v n old new y = Turns (arrive t (plain_member v n)) old new y

abbrev pub no_index : Value → Next
no_index v = if is_nothing v then threw cause.Null else threw cause.Kind

abbrev pub ElementOf : World → To → Value → Value → Standing → Standing → Next → Type 0
ElementOf w t v (Text n) old new y = MemberOf w t v n old new y
ElementOf w t v (Num z) old new y = Turns (if is_nothing v then threw cause.Null else arrive t (at_number v z)) old new y
ElementOf w t v i old new y = Turns (no_index v) old new y

-- ---- rows

abbrev pub arrive_part : To → List ℕ → ℤ → CellNo → Option Seen → Next
arrive_part t n z c (Some (is held)) = arrive t (part_of_cell n held z)
arrive_part t n z c (Some looped) = next.Ended answer.Loop
arrive_part t n z c (Some past) = next.Ended answer.Past
arrive_part t n z c None = next.Ended (answer.Need c)

-- what a method gives that reads a hidden cell
abbrev pub PartGives : World → To → List ℕ → CellNo → Value → Standing → Standing → Next → Type 0
PartGives w t n h (Num z) old new y = (new ≡ with_read h old) × (y ≡ arrive_part t n z h (w.view h))
PartGives w t n h v old new y = Turns (threw cause.Kind) old new y

-- what goes by effects, where none is done: what would do one throws
abbrev pub Refuses : World → Laid → Deed → Standing → Standing → Next → Type 0
Refuses w c (deed.Reach e o b q) old new y = Turns (next.Args (if b then calls.Body e o else calls.Nothing) q) old new y
Refuses w c (deed.Emit o i vs q) old new y = Turns (threw cause.Call) old new y
Refuses w c (deed.Read o h p vs q) old new y = PartGives w (to.Step q) (name_of c p) h (at_place vs 0) old new y
Refuses w c (deed.Do o p vs q) old new y = Turns (threw cause.Call) old new y
Refuses w c (deed.Log vs q) old new y = Turns (threw cause.Call) old new y
Refuses w c (deed.Write v) old new y = Turns (threw cause.Call) old new y
Refuses w c (deed.Rebind p) old new y = ((old.left < 3) × Turns (threw cause.Nodes) old new y) ⊎ ((3 ≤ old.left) × Turns (threw cause.Call) old new y)

-- all values of a row are there
abbrev pub Finishes : World → Laid → Purpose → List Value → Standing → Standing → Next → Type 0
Finishes w c purpose.List vs old new y = Turns (next_of (weighed (list_value vs))) old new y
Finishes w c (purpose.Call (calls.Body e o) q) vs old new y = Turns (next.Enter e o vs q) old new y
Finishes w c (purpose.Call (calls.Signal o i) q) vs old new y = Turns (next.Deed (deed.Emit o i vs q)) old new y
Finishes w c (purpose.Call (calls.Reading o h p) q) vs old new y = Turns (next.Deed (deed.Read o h p vs q)) old new y
Finishes w c (purpose.Call (calls.Doing o p) q) vs old new y = Turns (next.Deed (deed.Do o p vs q)) old new y
Finishes w c (purpose.Call (calls.Method v p) q) vs old new y = Turns (arrive_ended (to.Step q) (method_of v (name_of c p) vs)) old new y
Finishes w c (purpose.Call (calls.Math p) q) vs old new y = Turns (arrive_ended (to.Step q) (math_method (name_of c p) vs)) old new y
Finishes w c (purpose.Call calls.Text q) vs old new y = Turns (arrive_ended (to.Step q) (text_from vs)) old new y
Finishes w c (purpose.Call calls.Log q) vs old new y = Turns (next.Deed (deed.Log vs q)) old new y
Finishes w c (purpose.Call calls.Binding q) vs old new y = Turns (threw cause.Kind) old new y
Finishes w c (purpose.Call calls.Nothing q) vs old new y = Turns (threw cause.Call) old new y

-- the parts of a row behind one
abbrev pub AllFrom : World → Laid → Purpose → List Value → ℕ → Standing → Standing → Next → Type 0
AllFrom w c what vs p old new y =
    ((c.rest p ≡ []) × Finishes w c what vs old new y)
    ⊎ ((q : ℕ) × (c.rest p ≡ c.item q ∷ c.rest q) × Pushes (frame.All what vs q) q old new y)

-- the field whose key stands at a place, behind these
abbrev pub FieldBegins : Laid → List Entry → ℕ → Standing → Standing → Next → Type 0
FieldBegins c es k old new y = (q : ℕ) × (is_key (node_of (c.item k)) ≡ true) × (c.rest k ≡ c.item q ∷ c.rest q) × Pushes (frame.Field es k q) q old new y

-- the fields behind a part, behind these
abbrev pub FieldsFrom : Laid → List Entry → ℕ → Standing → Standing → Next → Type 0
FieldsFrom c es p old new y =
    ((c.rest p ≡ []) × Turns (next_of (weighed (fields_value (fields_from c es)))) old new y)
    ⊎ ((k : ℕ) × (c.rest p ≡ c.item k ∷ c.rest k) × FieldBegins c es k old new y)

-- ---- what is begun

-- where a node's first part stands
abbrev pub FirstPart : Laid → ℕ → ℕ → Type 0
FirstPart c at q = parts_of (c.item at) ≡ c.item q ∷ c.rest q

abbrev pub BeginsChain : Laid → Option Rounding → ℕ → Standing → Standing → Next → Type 0
BeginsChain c how at old new y = (q : ℕ) × FirstPart c at q × Pushes (frame.Chain how at q) q old new y

abbrev pub BeginsSigned : Laid → Prefix → ℕ → Standing → Standing → Next → Type 0
BeginsSigned c g at old new y = (q : ℕ) × FirstPart c at q × Turns (next.Signs g q) old new y

-- a node that is begun within a move is counted
abbrev pub Counts : Next → Standing → Standing → Next → Type 0
Counts x old new y = ((old.left ≡ 0) × Turns (threw cause.Nodes) old new y) ⊎ ((0 < old.left) × (new ≡ without_node old) × (y ≡ x))

abbrev pub BeginsSteps : 𝔹 → ℕ → Standing → Standing → Next → Type 0
BeginsSteps true q old new y = Counts (next.Step (stands.Name q) q) old new y
BeginsSteps false q old new y = Pushes (frame.First q) q old new y

abbrev pub BeginsChoice : Laid → ℕ → Standing → Standing → Next → Type 0
BeginsChoice c at old new y = (q : ℕ) × (t : ℕ) × FirstPart c at q × FirstPart c q t × Pushes (frame.Choose q t) t old new y

abbrev pub BeginsMembers : Laid → ℕ → Standing → Standing → Next → Type 0
BeginsMembers c at old new y = (q : ℕ) × FirstPart c at q × (awaits_spot old.frames ≡ false) × BeginsSteps (is_name (node_of (c.item q))) q old new y

-- what is assigned to is begun behind a new frame
abbrev pub Bumps : ℤ → Gives → ℕ → Standing → Standing → Next → Type 0
Bumps z g at old new y = (new ≡ with_frame (frame.Bump z g) old) × (y ≡ next.Spot at)

abbrev pub BeginsPostfix : Laid → Postfix → ℕ → Standing → Standing → Next → Type 0
BeginsPostfix c i at old new y = (q : ℕ) × FirstPart c at q × Bumps (added_by i) gives.Old q old new y

abbrev pub BeginsAssign : Laid → ℕ → Standing → Standing → Next → Type 0
BeginsAssign c at old new y = (q : ℕ) × FirstPart c at q × Turns (next.Targets q) old new y

abbrev pub BeginsList : World → Laid → ℕ → Standing → Standing → Next → Type 0
BeginsList w c at old new y = (q : ℕ) × FirstPart c at q × AllFrom w c purpose.List [] q old new y

abbrev pub BeginsFields : Laid → ℕ → Standing → Standing → Next → Type 0
BeginsFields c at old new y = (q : ℕ) × FirstPart c at q × FieldsFrom c [] q old new y

abbrev pub Begins : World → Laid → Home → Node → ℕ → Standing → Standing → Next → Type 0
Begins w c x (node.Name n p) at old new y = NameGives w c x to.Back n old new y
Begins w c x (node.Number n p) at old new y = Turns (next_of (bounded (pos n))) old new y
Begins w c x (node.Text us p) at old new y = Turns (next_of (weighed (Text us))) old new y
Begins w c x (node.Literal l p) at old new y = Turns (next.Back (literal_value l)) old new y
Begins w c x (node.Paren p) at old new y = (q : ℕ) × FirstPart c at q × Turns (next.Begin q) old new y
Begins w c x (node.List p b) at old new y = BeginsList w c at old new y
Begins w c x (node.Fields p b) at old new y = BeginsFields c at old new y
Begins w c x (node.Chain f o p) at old new y = BeginsChain c None at old new y
Begins w c x node.Choose at old new y = BeginsChoice c at old new y
Begins w c x (node.Signed f g p) at old new y = BeginsSigned c g at old new y
Begins w c x node.Steps at old new y = BeginsMembers c at old new y
Begins w c x (node.Postfix i p) at old new y = BeginsPostfix c i at old new y
Begins w c x node.Assign at old new y = BeginsAssign c at old new y
Begins w c x _ at old new y = ⊥

-- a node counts one when it is begun
abbrev pub BeginsCounted : World → Laid → Home → ℕ → Standing → Standing → Next → Type 0
BeginsCounted w c x at old new y =
    ((old.left ≡ 0) × Turns (threw cause.Nodes) old new y)
    ⊎ ((0 < old.left) × Begins w c x (node_of (c.item at)) at (without_node old) new y)

-- ---- prefixes

abbrev pub typed_found : To → List ℕ → Found → World → Standing → Standing → Next → Type 0
typed_found t n found.Nothing w old new y = Turns (arrive t Undefined) old new y
typed_found t n f w old new y = FoundGives w t n f old new y

-- a name directly behind `typeof`
abbrev pub NameTyped : World → Laid → Home → List ℕ → Standing → Standing → Next → Type 0
NameTyped w c x n old new y = OrElse (local_next to.Back (local_in c n old)) (typed_found to.Back n (w.names.resolve x n) w old new y) old new y

abbrev pub TypedName : World → Laid → Home → List ℕ → Standing → Standing → Next → Type 0
TypedName w c x n old new y =
    ((old.left ≡ 0) × Turns (threw cause.Nodes) old new y)
    ⊎ ((0 < old.left) × NameTyped w c x n (with_frame (frame.Sign prefix.TypeOf) (without_node old)) new y)

abbrev pub OperandSigned : World → Laid → Home → Prefix → Node → ℕ → Standing → Standing → Next → Type 0
OperandSigned w c x prefix.TypeOf (node.Name n p) at old new y = TypedName w c x n old new y
OperandSigned w c x g z at old new y = Pushes (frame.Sign g) at old new y

-- an operand that is given another value first, or a plain one
abbrev pub OperandBegins : World → Laid → Home → Option ℤ → Prefix → Node → ℕ → Standing → Standing → Next → Type 0
OperandBegins w c x (Some v) g z at old new y = Bumps v gives.New at old new y
OperandBegins w c x None g z at old new y = OperandSigned w c x g z at old new y

abbrev pub Signs : World → Laid → Home → Prefix → Node → ℕ → Standing → Standing → Next → Type 0
Signs w c x g (node.Sign f h p) at old new y = (q : ℕ) × (c.rest at ≡ c.item q ∷ c.rest q) × (new ≡ with_frame (frame.Sign h) old) × (y ≡ next.Signs g q)
Signs w c x g z at old new y = OperandBegins w c x (added_by_prefix g) g z at old new y

-- ---- steps

-- the value of what stands before a step
abbrev pub ValueBefore : World → Laid → Home → Before → To → Standing → Standing → Next → Type 0
ValueBefore w c x (stands.Value v) t old new y = Turns (arrive t v) old new y
ValueBefore w c x (stands.Name p) t old new y = NameGives w c x t (name_of c p) old new y
ValueBefore w c x (stands.OfValue v p) t old new y = MemberOf w t v (name_of c p) old new y
ValueBefore w c x (stands.OfNamed v o p q) t old new y = MemberGives w t (w.names.member o (name_of c q)) old new y
ValueBefore w c x (stands.OfScript u p) t old new y = Turns (threw cause.Kind) old new y
ValueBefore w c x (stands.OfGlobal p q) t old new y = Turns (if is_enumerated (name_of c p) (name_of c q) then arrive t (Text (name_of c q)) else threw cause.Kind) old new y
ValueBefore w c x stands.Binding t old new y = Turns (threw cause.Kind) old new y

-- the member of what a name finds
abbrev pub NamedMember : World → Laid → ℕ → ℕ → Found → Standing → Standing → Next → Type 0
NamedMember w c p q (found.Object o) old new y = Turns (next.Step (stands.OfNamed (Object o) o p q) q) old new y
NamedMember w c p q (found.Component o) old new y = Turns (next.Step (stands.OfNamed (Component o) o p q) q) old new y
NamedMember w c p q (found.Script u) old new y = Turns (next.Step (stands.OfScript u q) q) old new y
NamedMember w c p q found.Global old new y =
    Turns (if same_units (name_of c p) (codes "undefined") then next.Step (stands.OfValue Undefined q) q else next.Step (stands.OfGlobal p q) q) old new y
NamedMember w c p q f old new y = FoundGives w (to.Member q) (name_of c p) f old new y

abbrev pub MemberOfName : World → Laid → Home → ℕ → ℕ → 𝔹 → Standing → Standing → Next → Type 0
MemberOfName w c x r q true old new y = Turns (next.Step stands.Binding q) old new y
MemberOfName w c x r q false old new y =
    OrElse (local_next (to.Member q) (local_in c (name_of c r) old)) (NamedMember w c r q (w.names.resolve x (name_of c r)) old new y) old new y

abbrev pub MemberNext : World → Laid → Home → Before → ℕ → ℕ → Standing → Standing → Next → Type 0
MemberNext w c x (stands.Value v) p q old new y = Turns (next.Step (stands.OfValue v q) q) old new y
MemberNext w c x (stands.Name r) p q old new y = MemberOfName w c x r q (is_qt_binding (name_of c r) (name_of c q)) old new y
MemberNext w c x b p q old new y = ValueBefore w c x b (to.Step p) old new y

abbrev pub ElementNext : World → Laid → Home → Before → ℕ → ℕ → Standing → Standing → Next → Type 0
ElementNext w c x (stands.Value v) p q old new y = (r : ℕ) × FirstPart c q r × Pushes (frame.Index v q) r old new y
ElementNext w c x b p q old new y = ValueBefore w c x b (to.Step p) old new y

abbrev pub called_at : Callee → ℕ → Standing → Standing → Next → Type 0
called_at f q old new y = Turns (next.Args f q) old new y

abbrev pub method_called : ObjNo → Option CellNo → ℕ → ℕ → Next
method_called o None p q = next.Args (calls.Doing o p) q
method_called o (Some h) p q = next.Args (calls.Reading o h p) q

-- a name that is called
abbrev pub NamedCallee : World → Laid → ℕ → ℕ → Found → Standing → Standing → Next → Type 0
NamedCallee w c p q (found.Body e o) old new y = called_at (calls.Body e o) q old new y
NamedCallee w c p q (found.Signal o i) old new y = called_at (calls.Signal o i) q old new y
NamedCallee w c p q (found.Method o h) old new y = Turns (method_called o h p q) old new y
NamedCallee w c p q (found.Cell h) old new y = ReadGives w (to.Nothing q) h old new y
NamedCallee w c p q found.Nothing old new y = Turns (threw cause.Name) old new y
NamedCallee w c p q found.Global old new y = called_at (if same_units (name_of c p) (codes "String") then calls.Text else calls.Nothing) q old new y
NamedCallee w c p q f old new y = called_at calls.Nothing q old new y

-- a member that is called; a document's function is only where it may be
abbrev pub MemberCallee : World → 𝔹 → ℕ → ℕ → Found → Standing → Standing → Next → Type 0
MemberCallee w may m q (found.Body e o) old new y = Turns (next.Deed (deed.Reach e o may q)) old new y
MemberCallee w may m q (found.Signal o i) old new y = called_at (calls.Signal o i) q old new y
MemberCallee w may m q (found.Method o h) old new y = Turns (method_called o h m q) old new y
MemberCallee w may m q (found.Cell h) old new y = ReadGives w (to.Nothing q) h old new y
MemberCallee w may m q f old new y = called_at calls.Nothing q old new y

abbrev pub ValueCallee : World → Laid → Value → ℕ → ℕ → Standing → Standing → Next → Type 0
ValueCallee w c Undefined m q old new y = Turns (threw cause.Null) old new y
ValueCallee w c Null m q old new y = Turns (threw cause.Null) old new y
ValueCallee w c (Object o) m q old new y = MemberCallee w false m q (w.names.member o (name_of c m)) old new y
ValueCallee w c (Component o) m q old new y = MemberCallee w false m q (w.names.member o (name_of c m)) old new y
ValueCallee w c v m q old new y = called_at (calls.Method v m) q old new y

abbrev pub script_callee : Found → Callee
script_callee (found.Body e o) = calls.Body e o
script_callee _ = calls.Nothing

abbrev pub global_callee : List ℕ → List ℕ → ℕ → Callee
global_callee m n q =
    if same_units m (codes "Math") then calls.Math q
    else if same_units m (codes "console") && same_units n (codes "log") then calls.Log
    else calls.Nothing

abbrev pub CalleeNext : World → Laid → Home → Before → ℕ → Standing → Standing → Next → Type 0
CalleeNext w c x (stands.Value v) q old new y = called_at calls.Nothing q old new y
CalleeNext w c x (stands.Name p) q old new y =
    OrElse (local_next (to.Nothing q) (local_in c (name_of c p) old)) (NamedCallee w c p q (w.names.resolve x (name_of c p)) old new y) old new y
CalleeNext w c x (stands.OfValue v m) q old new y = ValueCallee w c v m q old new y
CalleeNext w c x (stands.OfNamed v o p m) q old new y = MemberCallee w (w.names.is_id x (name_of c p)) m q (w.names.member o (name_of c m)) old new y
CalleeNext w c x (stands.OfScript u m) q old new y = called_at (script_callee (w.names.resolve (script_home u) (name_of c m))) q old new y
CalleeNext w c x (stands.OfGlobal p m) q old new y = called_at (global_callee (name_of c p) (name_of c m) m) q old new y
CalleeNext w c x stands.Binding q old new y = called_at calls.Binding q old new y

-- the step at the place q, behind the place p
abbrev pub StepNext : World → Laid → Home → Before → ℕ → ℕ → Node → Standing → Standing → Next → Type 0
StepNext w c x b p q (node.Member n r) old new y = MemberNext w c x b p q old new y
StepNext w c x b p q (node.Element r) old new y = ElementNext w c x b p q old new y
StepNext w c x b p q (node.Call r) old new y = CalleeNext w c x b q old new y
StepNext w c x b p q (node.Binding r) old new y = Turns (threw cause.Call) old new y
StepNext w c x b p q _ old new y = ⊥

-- the element at a place, of what stands before, is assigned to
abbrev pub ElementSpot : World → Laid → Home → Before → ℕ → ℕ → Standing → Standing → Next → Type 0
ElementSpot w c x (stands.Value v) p q old new y = (r : ℕ) × FirstPart c q r × Pushes (frame.At v) r old new y
ElementSpot w c x b p q old new y = ValueBefore w c x b (to.Step p) old new y

-- the last step, which is assigned to
abbrev pub SpotNext : World → Laid → Home → Before → ℕ → ℕ → Node → Standing → Standing → Next → Type 0
SpotNext w c x b p q (node.Member n r) old new y = ValueBefore w c x b (to.Spot q) old new y
SpotNext w c x b p q (node.Element r) old new y = ElementSpot w c x b p q old new y
SpotNext w c x b p q (node.Call r) old new y = Turns (threw cause.Kind) old new y
SpotNext w c x b p q (node.Binding r) old new y = Turns (threw cause.Kind) old new y
SpotNext w c x b p q _ old new y = ⊥

-- whether the step before these is the last
abbrev pub ends_steps : List Item → 𝔹
ends_steps (of_step i ∷ js) = false
ends_steps _ = true

-- whether the step at a place is assigned to
abbrev pub is_spot : Laid → ℕ → Standing → 𝔹
is_spot c q old = if awaits_spot old.frames then ends_steps (c.rest q) else false

abbrev pub StepBy : World → Laid → Home → Before → ℕ → ℕ → 𝔹 → Standing → Standing → Next → Type 0
StepBy w c x b p q true old new y = SpotNext w c x b p q (node_of (c.item q)) old new y
StepBy w c x b p q false old new y = StepNext w c x b p q (node_of (c.item q)) old new y

abbrev pub Steps : World → Laid → Home → Before → ℕ → Standing → Standing → Next → Type 0
Steps w c x b p old new y =
    ((c.rest p ≡ []) × (awaits_spot old.frames ≡ false) × ValueBefore w c x b to.Back old new y)
    ⊎ ((q : ℕ) × (c.rest p ≡ c.item q ∷ c.rest q) × StepBy w c x b p q (is_spot c q old) old new y)

-- ---- arguments

-- a first argument that is a chain and rounded directly
abbrev pub RoundedFirst : Laid → Rounding → Callee → ℕ → ℕ → Standing → Standing → Next → Type 0
RoundedFirst c how f q r old new y =
    ((old.left ≡ 0) × Turns (threw cause.Nodes) old new y)
    ⊎ ((0 < old.left) × ((t : ℕ) × FirstPart c r t × Pushes (frame.Chain (Some how) r t) t (with_frame (frame.All (purpose.Call f q) [] r) (without_node old)) new y))

abbrev pub FirstBy : Laid → Option Rounding → 𝔹 → Callee → ℕ → ℕ → Standing → Standing → Next → Type 0
FirstBy c (Some how) true f q r old new y = RoundedFirst c how f q r old new y
FirstBy c _ _ f q r old new y = Pushes (frame.All (purpose.Call f q) [] r) r old new y

abbrev pub Args : World → Laid → Callee → ℕ → Standing → Standing → Next → Type 0
Args w c f q old new y = (m : ℕ) × FirstPart c q m
    × (((c.rest m ≡ []) × Finishes w c (purpose.Call f q) [] old new y)
    ⊎ ((r : ℕ) × (c.rest m ≡ c.item r ∷ c.rest r) × FirstBy c (rounding_of (callee_of c f)) (is_chain (node_of (c.item r))) f q r old new y))

-- ---- what goes on behind a value

abbrev pub LinkOn : Option Rounding → ℕ → ℕ → Operator → ℕ → Value → 𝔹 → Standing → Standing → Next → Type 0
LinkOn how at q o r v true old new y = (new ≡ with_frame (frame.Chain how at q) old) × (y ≡ next.Back v)
LinkOn how at q o r v false old new y = Pushes (frame.Right how o v at q) r old new y

abbrev pub ChainOn : Laid → Option Rounding → ℕ → ℕ → Value → Standing → Standing → Next → Type 0
ChainOn c how at p v old new y =
    ((c.rest p ≡ []) × Turns (next.Back v) old new y)
    ⊎ ((q : ℕ) × (c.rest p ≡ c.item q ∷ c.rest q) × ((o : Operator) × (r : ℕ) × IsOperand c at q o r × LinkOn how at q o r v (decides o v) old new y))

abbrev pub OtherChoice : Laid → 𝔹 → ℕ → Standing → Standing → Next → Type 0
OtherChoice c true r old new y = (t : ℕ) × FirstPart c r t × Pushes (frame.Choose r t) t old new y
OtherChoice c false r old new y = Turns (next.Begin r) old new y

abbrev pub ChooseOn : Laid → ℕ → ℕ → 𝔹 → Standing → Standing → Next → Type 0
ChooseOn c q t true old new y = (m : ℕ) × (c.rest t ≡ c.item m ∷ c.rest m) × Turns (next.Begin m) old new y
ChooseOn c q t false old new y = (r : ℕ) × (c.rest q ≡ c.item r ∷ c.rest r) × OtherChoice c (is_choice (node_of (c.item r))) r old new y

abbrev pub RightOn : Laid → Option Rounding → Operator → Value → ℕ → ℕ → Value → Standing → Standing → Next → Type 0
RightOn c how o l at p v old new y =
    (new ≡ with_frame (frame.Chain how at p) old) × (y ≡ next_of (operate_by (if_no_link (links_in (node_of (c.item at)) (c.rest p)) how) o l v))

abbrev pub Resumes : World → Laid → Frame → Value → Standing → Standing → Next → Type 0
Resumes w c (frame.Chain how at p) v old new y = ChainOn c how at p v old new y
Resumes w c (frame.Right how o l at p) v old new y = RightOn c how o l at p v old new y
Resumes w c (frame.Choose q t) v old new y = ChooseOn c q t (counts v) old new y
Resumes w c (frame.Sign g) v old new y = Turns (next_of (operate_prefix g v)) old new y
Resumes w c (frame.First p) v old new y = Turns (next.Step (stands.Value v) p) old new y
Resumes w c (frame.Index l p) v old new y = ElementOf w (to.Step p) l v old new y
Resumes w c (frame.All what vs p) v old new y = AllFrom w c what (vs ++ v ∷ []) p old new y
Resumes w c (frame.Field es k p) v old new y = FieldsFrom c (es ++ record { name = k; value = v } ∷ []) p old new y
Resumes w c f v old new y = ⊥

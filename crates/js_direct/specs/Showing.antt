-- Operands that show a number or a truth at once, and so need no frame.
use Rattle.std.specs.Prelude.{◌≡◌, ◌⊎◌, ℕ, ◌-◌, pos, Bool as 𝔹, true, false, List, [], ◌∷◌, ◌++◌, Option, Some, None}
use Rattle.qml_base.specs.declared.numbers.CellNo.{CellNo}
use Rattle.qml_base.specs.declared.names.Home.{Home}
use Rattle.qml_base.specs.declared.names.Found.TheVariants as found
use Rattle.qml_syntax.specs.declared.node.Node.{Node}
use Rattle.qml_syntax.specs.declared.node.Node.TheVariants as node
use Rattle.qml_syntax.specs.declared.operators.Operator.{Operator}
use Rattle.qml_syntax.specs.Opened.{node_of}
use Rattle.qml_value.specs.declared.value.Value.{Value, Bool, Num}
use Rattle.evaluation.specs.declared.came.Ended.TheVariants as by
use Rattle.evaluation.specs.Evaluating.{is}
use Rattle.evaluation.specs.declared.came.Evaluated.{Evaluated}
use Rattle.evaluation.specs.declared.came.Evaluated.TheVariants as answer
use Rattle.js_meaning.specs.Operate.{bounded, operate}
use Rattle.js_meaning.specs.Locals.{alive, local}
use Rattle.js_meaning.specs.Looking.{decides, literal_value}
use Rattle.js_locals.specs.declared.locals.Local.{Local}
use Rattle.js_locals.specs.Laid.{IsOperand, Laid, is_chain}
use Rattle.js_locals.specs.Scopes.{scopes_of}
use Rattle.js_frames.specs.declared.frames.Frame.TheVariants as frame
use Rattle.js_frames.specs.declared.frames.Next.{Next}
use Rattle.js_frames.specs.declared.frames.Next.TheVariants as next
use Rattle.js_frames.specs.Standing.{Standing, with_frame}
use Rattle.js_frames.specs.Meant.{World}
use Rattle.js_frames.specs.Moves.{FirstPart}
use Rattle.js_direct.specs.declared.shown.Shown.{Shown}
use Rattle.js_direct.specs.declared.shown.Shown.TheVariants as shows

-- of a number or a truth that is shown this holds; of anything else nothing is said
abbrev pub IfShown : Shown → (Value → Type 0) → Type 0
IfShown (shows.Number z) P = P (Num z)
IfShown (shows.Truth b) P = P (Bool b)
IfShown shows.Other P = Unit {0}

-- what is shown, as a value
abbrev pub IsShown : Shown → Value → Type 0
IsShown (shows.Number z) v = v ≡ Num z
IsShown (shows.Truth b) v = v ≡ Bool b
IsShown shows.Other v = ⊥

-- a name gives this value: as a local, or from the cell that is read
abbrev pub NameShows : World → Laid → Home → List Local → List ℕ → Option CellNo → Value → Type 0
NameShows w c h ls n None v = (b : 𝔹) × (local n (scopes_of c ls) ≡ Some (alive b v))
NameShows w c h ls n (Some cell) v = (local n (scopes_of c ls) ≡ None) × (w.names.resolve h n ≡ found.Cell cell) × (w.view cell ≡ Some (is v))

-- nothing is read
abbrev pub Unread : Option CellNo → Type 0 → Type 0
Unread None P = P
Unread (Some cell) P = ⊥

-- a node gives this value at once
abbrev pub Shows : World → Laid → Home → List Local → Node → Option CellNo → Value → Type 0
Shows w c h ls (node.Name n p) k v = NameShows w c h ls n k v
Shows w c h ls (node.Number m p) k v = Unread k (bounded (pos m) ≡ by.Value v)
Shows w c h ls (node.Literal l p) k v = Unread k (literal_value l ≡ v)
Shows w c h ls n k v = ⊥

-- an operator wants both operands, and has this value of them
abbrev pub Operates : Operator → Value → Value → Value → Type 0
Operates o a b v = (decides o a ≡ false) × (operate o a b ≡ by.Value v)

-- two nodes give values at once, of which an operator has this value
abbrev pub Combines : World → Laid → Home → List Local → Operator → Node → Node → Option CellNo → Option CellNo → Value → Type 0
Combines w c h ls o n m k l v = (a : Value) × (b : Value) × Shows w c h ls n k a × Shows w c h ls m l b × Operates o a b v

-- so do the first two operands of a chain, of which the second stands in the part at the place s
abbrev pub ChainShows : World → Laid → Home → List Local → ℕ → ℕ → Option CellNo → Option CellNo → Value → Type 0
ChainShows w c h ls at s k l v =
    (q : ℕ) × (o : Operator) × (r : ℕ) × FirstPart c at q × (c.rest q ≡ c.item s ∷ c.rest s) × IsOperand c at s o r
    × Combines w c h ls o (node_of (c.item q)) (node_of (c.item r)) k l v

-- a chain of two operands alone gives this value at once
abbrev pub WholeShows : World → Laid → Home → List Local → ℕ → Option CellNo → Option CellNo → Value → Type 0
WholeShows w c h ls at k l v = (s : ℕ) × (is_chain (node_of (c.item at)) ≡ true) × ChainShows w c h ls at s k l v × (c.rest s ≡ [])

abbrev pub noted : Option CellNo → List CellNo → List CellNo
noted None rs = rs
noted (Some cell) rs = rs ++ cell ∷ []

-- what was noted behind a chain of two operands that gives its value at once, or nothing is said where there was no memory
abbrev pub Notes : Option CellNo → Option CellNo → Value → List CellNo → List CellNo → Evaluated → Type 0
Notes k l v old new answer.NoMemory = Unit {0}
Notes k l v old new o = (o ≡ answer.Value v) × (new ≡ noted l (noted k old))

-- a node was begun, and the cell read that it reads
abbrev pub passed : Option CellNo → Standing → Standing
passed k m = record { frames = m.frames; reads = noted k m.reads; left = m.left - 1; locals = m.locals }

-- a value behind the part at a place in a chain is that of the chain, or the chain goes on with it
abbrev pub Joins : Laid → ℕ → ℕ → Value → Standing → Standing → Next → Type 0
Joins c at p v old new y =
    ((c.rest p ≡ []) × (new ≡ old) × (y ≡ next.Back v))
    ⊎ ((new ≡ with_frame (frame.Chain None at p) old) × (y ≡ next.Back v))

-- whether a node is that of a choice with all its parts
abbrev pub is_choose : Node → 𝔹
is_choose node.Choose = true
is_choose _ = false

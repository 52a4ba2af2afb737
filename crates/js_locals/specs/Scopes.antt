-- The scopes of a call in one list: the latest local in front, and behind the locals of each scope what begins it.
use Rattle.std.specs.Prelude.{◌≡◌, ℕ, ◌<◌, Bool as 𝔹, true, false, if◌then◌else◌, List, [], ◌∷◌, ◌++◌, length, take, drop, reverse, Option, Some, None}
use Rattle.qml_value.specs.declared.value.Value.{Value, Undefined}
use Rattle.js_meaning.specs.Operate.{same_units}
use Rattle.js_meaning.specs.Locals.{Held, dead, alive, Slot, Scope, first_or_undefined, others}
use Rattle.js_locals.specs.declared.locals.Writable.{Writable}
use Rattle.js_locals.specs.declared.locals.Writable.TheVariants as writable
use Rattle.js_locals.specs.declared.locals.Local.{Local}
use Rattle.js_locals.specs.declared.locals.Local.TheVariants as own
use Rattle.js_locals.specs.Laid.{Laid, name_of}

-- a local more in the innermost scope
abbrev pub slot_onto : Slot → List Scope → List Scope
slot_onto s [] = (s ∷ []) ∷ []
slot_onto s (x ∷ xs) = (s ∷ x) ∷ xs

abbrev pub scopes_of : Laid → List Local → List Scope
scopes_of c [] = []
scopes_of c (own.Scope ∷ ls) = [] ∷ scopes_of c ls
scopes_of c (own.Dead p ∷ ls) = slot_onto (name_of c p, dead) (scopes_of c ls)
scopes_of c (own.Alive p w v ∷ ls) = slot_onto (name_of c p, alive w v) (scopes_of c ls)
scopes_of c (own.Given n w v ∷ ls) = slot_onto (n, alive w v) (scopes_of c ls)

-- ---- a local by its name

abbrev pub named_by : Laid → List ℕ → Local → 𝔹
named_by c n own.Scope = false
named_by c n (own.Dead p) = same_units n (name_of c p)
named_by c n (own.Alive p w v) = same_units n (name_of c p)
named_by c n (own.Given m w v) = same_units n m

abbrev pub held_of : Local → Option Held
held_of own.Scope = None
held_of (own.Dead p) = Some dead
held_of (own.Alive p w v) = Some (alive w v)
held_of (own.Given n w v) = Some (alive w v)

-- what the local of this name holds, the innermost first
abbrev pub held_by : Laid → List ℕ → List Local → Option Held
held_by c n [] = None
held_by c n (l ∷ ls) = if named_by c n l then held_of l else held_by c n ls

-- a local with another value
abbrev pub given_value : 𝔹 → Value → Local → Local
given_value w v own.Scope = own.Scope
given_value w v (own.Dead p) = own.Alive p w v
given_value w v (own.Alive p u old) = own.Alive p w v
given_value w v (own.Given n u old) = own.Given n w v

-- the locals with another value for the one of this name
abbrev pub put_by : Laid → List ℕ → 𝔹 → Value → List Local → List Local
put_by c n w v [] = []
put_by c n w v (l ∷ ls) = if named_by c n l then given_value w v l ∷ ls else l ∷ put_by c n w v ls

-- the first of these with another value
abbrev pub given_first : 𝔹 → Value → List Local → List Local
given_first w v [] = []
given_first w v (l ∷ ls) = given_value w v l ∷ ls

-- the one at a place with another value
abbrev pub given_at : ℕ → 𝔹 → Value → List Local → List Local
given_at i w v ls = take i ls ++ given_first w v (drop i ls)

abbrev pub given_where : Option ℕ → 𝔹 → Value → List Local → List Local
given_where None w v ls = ls
given_where (Some i) w v ls = given_at i w v ls

abbrev pub within : Option ℕ → List Local → Type 0
within None ls = Unit {0}
within (Some i) ls = i < length ls

-- of locals with the latest last: where another value for a name goes
pub record Placed (c : Laid) (n : List ℕ) (ls : List Local) (o : Option ℕ) : Type 0 where
  pub there : within o ls
  pub put : (w : 𝔹) (v : Value) → put_by c n w v (reverse ls) ≡ reverse (given_where o w v ls)

-- the rest of them, behind those that are left, has none of this name
pub record Unplaced (c : Laid) (n : List ℕ) (ls left : List Local) : Type 0 where
  pub rest : List Local
  pub whole : left ++ rest ≡ ls
  pub put : (w : 𝔹) (v : Value) → put_by c n w v (reverse ls) ≡ reverse rest ++ put_by c n w v (reverse left)

-- ---- scopes that are opened and left

abbrev pub is_scope : Local → 𝔹
is_scope own.Scope = true
is_scope (own.Dead p) = false
is_scope (own.Alive p w v) = false
is_scope (own.Given n w v) = false

-- the locals behind what begins the innermost scope
abbrev pub outer : List Local → List Local
outer [] = []
outer (l ∷ ls) = if is_scope l then ls else outer ls

-- a local that is declared: by `var` it is Undefined at first
abbrev pub fresh : 𝔹 → ℕ → Local
fresh true p = own.Alive p true Undefined
fresh false p = own.Dead p

abbrev pub fresh_onto : 𝔹 → List ℕ → List Local → List Local
fresh_onto b [] ls = ls
fresh_onto b (p ∷ ps) ls = fresh b p ∷ fresh_onto b ps ls

abbrev pub fresh_slots : Laid → 𝔹 → List ℕ → Scope → Scope
fresh_slots c b [] rest = rest
fresh_slots c true (p ∷ ps) rest = (name_of c p, alive true Undefined) ∷ fresh_slots c true ps rest
fresh_slots c false (p ∷ ps) rest = (name_of c p, dead) ∷ fresh_slots c false ps rest

-- the parameters with their arguments
abbrev pub parameters_onto : List ℕ → List Value → List Local → List Local
parameters_onto [] vs ls = ls
parameters_onto (p ∷ ps) vs ls = parameters_onto ps (others vs) (own.Alive p true (first_or_undefined vs) ∷ ls)

-- ---- assignment

-- whether a local may be assigned that holds this
abbrev pub writable_by : Option Held → Writable
writable_by (Some (alive true v)) = writable.Yes
writable_by (Some (alive false v)) = writable.Readonly
writable_by _ = writable.Nothing

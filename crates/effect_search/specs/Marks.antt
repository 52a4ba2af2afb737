-- Functions by their numbers, of which some have an effect of their own, and calls.
use Rattle.std.specs.Prelude.{◌≡◌, ℕ, Bool, true, false, ◌&&◌, ◌||◌, not, if◌then◌else◌, List, [], ◌∷◌, length, slice_get, slice_set, Contains, Some}
use Rattle.std.specs.Option.{unwrap_or}
use Rattle.program_names.specs.Loaded.{Program}
use Rattle.program_names.specs.Components.{Roots}
use Rattle.load_faults.specs.Effects.{Declared}
use Rattle.impure_functions.specs.Functions.{acts, calls_of}
use Rattle.effect_search.specs.declared.search.Call.{Call}

abbrev pub call : ℕ → ℕ → Call
call k j = record { caller = k; callee = j }

-- a function comes to an effect by its own, or by one that it calls
pub data Comes (own : List Bool) (calls : List Call) : ℕ → Type 0 where
  by_itself : (k : ℕ) → slice_get own k ≡ Some true → Comes own calls k
  by_call : (k j : ℕ) (b : Bool) → slice_get own k ≡ Some b → Contains calls (call k j) → Comes own calls j →
      Comes own calls k

-- the marks are those of the functions that come to an effect
pub record AreMarked (own : List Bool) (calls : List Call) (marks : List Bool) : Type 0 where
  pub long : length marks ≡ length own
  pub sound : (k : ℕ) → slice_get marks k ≡ Some true → Comes own calls k
  pub all : (k : ℕ) → Comes own calls k → slice_get marks k ≡ Some true

-- ---- marks that spread

abbrev pub is_marked : List Bool → ℕ → Bool
is_marked marks k = unwrap_or (slice_get marks k) false

abbrev pub is_unmarked : List Bool → ℕ → Bool
is_unmarked marks k = not (unwrap_or (slice_get marks k) true)

abbrev pub spreads : Call → List Bool → Bool
spreads c marks = is_marked marks c.callee && is_unmarked marks c.caller

abbrev pub spread : Call → List Bool → List Bool
spread c marks = if spreads c marks then slice_set marks c.caller true else marks

abbrev pub swept : List Call → List Bool → List Bool
swept [] marks = marks
swept (c ∷ cs) marks = swept cs (spread c marks)

abbrev pub changes : List Call → List Bool → Bool
changes [] marks = false
changes (c ∷ cs) marks = spreads c marks || changes cs (spread c marks)

-- the marks are some of those, and those of the functions with an effect of their own among them
pub record IsSound (own : List Bool) (calls : List Call) (marks : List Bool) : Type 0 where
  pub long : length marks ≡ length own
  pub sound : (k : ℕ) → slice_get marks k ≡ Some true → Comes own calls k
  pub kept : (k : ℕ) → slice_get own k ≡ Some true → slice_get marks k ≡ Some true

pub record StaysSound (calls : List Call) (marks new : List Bool) : Type 0 where
  pub stays : (own : List Bool) → IsSound own calls marks → IsSound own calls new

-- ---- the functions of a program

-- the effects and the calls are those of these functions, each by its place
pub record AreNumbered (p : Program) (roots : Roots) (functions : List Declared) (own : List Bool) (calls : List Call) : Type 0 where
  pub long : length own ≡ length functions
  pub effects : (k : ℕ) (f : Declared) → slice_get functions k ≡ Some f → slice_get own k ≡ Some (acts p roots f)
  pub calls_are : (k j : ℕ) (f g : Declared) → slice_get functions k ≡ Some f → slice_get functions j ≡ Some g →
      Contains calls (call k j) → Contains (calls_of p roots f) g
  pub all_calls : (k : ℕ) (f g : Declared) → slice_get functions k ≡ Some f → Contains (calls_of p roots f) g →
      (j : ℕ) × (slice_get functions j ≡ Some g) × Contains calls (call k j)

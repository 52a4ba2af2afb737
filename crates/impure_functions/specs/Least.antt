-- The impure functions as a least set.
use Rattle.std.specs.Prelude.{◌≡◌, ◌↔◌, ◌≤◌, true, List, length, Contains}
use Rattle.program_names.specs.Loaded.{Program}
use Rattle.program_names.specs.Components.{Roots}
use Rattle.load_faults.specs.Effects.{Declared, is_impure}
use Rattle.impure_functions.specs.Functions.{function_count, acts, calls_of, same_function}

-- a function comes to an effect by its own deeds, or by those of a function that it calls
pub data ComesToEffect (p : Program) (roots : Roots) : Declared → Type 0 where
  by_itself : (f : Declared) → acts p roots f ≡ true → ComesToEffect p roots f
  by_call : (f g : Declared) → Contains (calls_of p roots f) g → ComesToEffect p roots g → ComesToEffect p roots f

-- these functions, no more than the program has, call none but these, and no two of a document stand at one place
pub record AreWhole (p : Program) (roots : Roots) (functions : List Declared) : Type 0 where
  pub few : length functions ≤ function_count p
  pub called : (f g : Declared) → Contains functions f → Contains (calls_of p roots f) g → Contains functions g
  pub apart : (f g : Declared) → Contains functions f → Contains functions g → same_function f g ≡ true → f ≡ g

-- the impure ones of them are those that come to an effect
abbrev pub AreLeast : Program → Roots → List Declared → Type 0
AreLeast p roots functions =
    (f : Declared) → Contains functions f → (is_impure p roots f ≡ true) ↔ ComesToEffect p roots f

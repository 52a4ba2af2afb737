-- Values that are too heavy, and values that aren't.
use Rattle.std.proofs.Common.{◌≡◌, ◌∙◌, ap, sym, subst, inr, ℕ, pos, ◌+◌, ◌-◌, ◌<◌, ◌≤◌, max, nat_le, Bool as 𝔹, true, false, List, [], ◌∷◌, ◌++◌, length, length-append, if◌then◌else◌, Ok, Err, refl, arith}
use Rattle.std.proofs.lemmas.Bool.Decides.{nat_tests}
use Rattle.qml_base.specs.declared.cause.Cause.TheVariants as cause
use Rattle.qml_value.specs.declared.value.Value.{Value, Text, List as smart_list}
use Rattle.qml_value.specs.declared.list.TooDeep.{TooDeep}
use Rattle.qml_value.specs.Weights.{nesting_of, nesting_inside, deepest, IsTooHeavy}
use Rattle.qml_value.specs.Lists.{list_of}
use Rattle.evaluation.specs.declared.came.Ended.TheVariants as by
use Rattle.js_meaning.specs.Operate.{weighed}
use Rattle.js_meaning.specs.Rows.{list_value, row_of}
use Rattle.js_meaning.specs.Methods.{part, from_end}
use Rattle.js_meaning.proofs.SameLemmas.{list_is}

pub heavy_throws : (v : Value) → IsTooHeavy v → by.Threw cause.Size ≡ weighed v
heavy_throws v h = grind (arith, nat_tests)

pub light_stays : (v : Value) → ¬ (IsTooHeavy v) → by.Value v ≡ weighed v
light_stays v h = grind (arith, nat_tests)

pub heavy_text : (us : List ℕ) → 1048576 < 1 + length us → by.Threw cause.Size ≡ weighed (Text us)
heavy_text us h = grind (arith, nat_tests)

pub light_text : (us : List ℕ) → 1 + length us ≤ 1048576 → by.Value (Text us) ≡ weighed (Text us)
light_text us h = grind (arith, nat_tests)

pub heavy_left : (us ws : List ℕ) → 1048576 < 1 + length us → by.Threw cause.Size ≡ weighed (Text (us ++ ws))
heavy_left us ws h = heavy_text (us ++ ws) (rw (length-append us ws) (omega arith))

pub heavy_right : (us ws : List ℕ) → 1048576 < 1 + length ws → by.Threw cause.Size ≡ weighed (Text (us ++ ws))
heavy_right us ws h = heavy_text (us ++ ws) (rw (length-append us ws) (omega arith))

pub length_of : (us ws : List ℕ) → length (us ++ ws) ≡ length us + length ws
length_of us ws = length-append us ws

deepest_is : (vs : List Value) → nesting_inside (row_of vs) ≡ deepest vs
deepest_is [] = refl
deepest_is (v ∷ vs) = ap (λ n. max (nesting_of v) n) (deepest_is vs)

nested : (vs : List Value) → nesting_of (list_value vs) ≡ 1 + deepest vs
nested vs = ap (λ n. 1 + n) (deepest_is vs)

kept_of : (b : 𝔹) (vs xs : List Value) (t : TooDeep) → Ok xs ≡ (if b then Ok vs else Err t) → xs ≡ vs
kept_of true vs xs t h = cc
kept_of false vs xs t h = absurd (cc)

pub list_weighed : (vs xs : List Value) → Ok xs ≡ list_of vs → weighed (smart_list xs) ≡ weighed (list_value vs)
list_weighed vs xs h =
    let e : xs ≡ vs = kept_of (nat_le (1 + deepest vs) 100) vs xs (record {}) h in
    ap (λ z. weighed z) (list_is xs) ∙ ap (λ z. weighed (list_value z)) e

refused_of : (b : 𝔹) (vs : List Value) (t u : TooDeep) → Err u ≡ (if b then Ok vs else Err t) → b ≡ false
refused_of true vs t u h = absurd (cc)
refused_of false vs t u h = refl

above : (n : ℕ) → nat_le n 100 ≡ false → 100 < n
above n h = grind (arith, nat_tests)

pub list_too_deep : (vs : List Value) (t : TooDeep) → Err t ≡ list_of vs → by.Threw cause.Size ≡ weighed (list_value vs)
list_too_deep vs t h =
    let deep : 100 < 1 + deepest vs = above (1 + deepest vs) (refused_of (nat_le (1 + deepest vs) 100) vs (record {}) t h) in
    let nesting : 100 < nesting_of (list_value vs) = subst (λ (n : ℕ). 100 < n) (sym (nested vs)) deep in
    heavy_throws (list_value vs) (inr nesting)

pub no_part : (from to : ℕ) (us : List ℕ) → to ≤ from → [] ≡ part from to us
no_part from to us h = let e : to - from ≡ 0 = omega arith in rw e refl

pub whole_end : (n : ℕ) → from_end n (pos n) ≡ n
whole_end n = omega arith

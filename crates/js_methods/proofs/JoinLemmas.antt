-- Texts with more behind them.
use Rattle.std.proofs.Common.{◌≡◌, ◌∙◌, ap, sym, subst, ℕ, ◌+◌, ◌<◌, ◌≤◌, Bool as 𝔹, true, false, List, [], ◌++◌, length, append_assoc, append-nil, length-append, arith}
use Rattle.js_methods.specs.Adding.{Adds}

-- what is too heavy alone is too heavy behind anything, and before anything
pub heavy_behind : (before more : List ℕ) → 1048576 < 1 + length more → 1048576 < 1 + length (before ++ more)
heavy_behind before more h = rw (length-append before more) (omega arith)

pub heavy_front : (before front more : List ℕ) → 1048576 < 1 + length (before ++ front) → 1048576 < 1 + length (before ++ (front ++ more))
heavy_front before front more h = rw (← append_assoc before front more, length-append (before ++ front) more) (omega arith)

pub nothing_more : (before : List ℕ) → 1 + length before ≤ 1048576 → Adds before [] before true
nothing_more before h = (sym (append-nil before), h)

-- more behind what was added
pub one_behind : (before front between more after : List ℕ) (light : 𝔹) → between ≡ before ++ front → Adds between more after light → Adds before (front ++ more) after light
one_behind before front between more after true e (is, fits) = (is ∙ ap (λ z. z ++ more) e ∙ append_assoc before front more, fits)
one_behind before front between more after false e heavy =
    subst (λ (z : List ℕ). 1048576 < 1 + length z) (ap (λ z. z ++ more) e ∙ append_assoc before front more) heavy

pub heavy_next : (before whole text next rest all : List ℕ) → text ++ (next ++ rest) ≡ whole → 1048576 < 1 + length (text ++ next) → 1048576 < 1 + length whole
heavy_next before whole text next rest all e h = subst (λ (z : List ℕ). 1048576 < 1 + length z) e (heavy_front text next rest h)

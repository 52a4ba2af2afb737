-- What is assigned to, once it is found, by what the code has computed of it.
use Rattle.std.proofs.Common.{◌≡◌, ◌∙◌, ap, sym, subst, ℕ, Bool as 𝔹, true, ◌&&◌, if◌then◌else◌, List, [], ◌∷◌, Option, Some, None}
use Rattle.qml_base.specs.declared.names.Home.{Home}
use Rattle.qml_base.specs.declared.numbers.Place.{Place}
use Rattle.qml_syntax.specs.declared.operators.Operator.{Operator}
use Rattle.qml_syntax.specs.declared.node.Node.{Node}
use Rattle.qml_syntax.specs.Opened.{node_of, parts_of}
use Rattle.js_frames.specs.declared.frames.Frame.TheVariants as frame
use Rattle.js_frames.specs.declared.frames.Gives.{Gives}
use Rattle.js_frames.specs.declared.frames.Next.{Next}
use Rattle.js_frames.specs.declared.frames.Spot.{Spot}
use Rattle.js_locals.specs.Laid.{Laid}
use Rattle.js_frames.specs.Standing.{Standing, with_frame}
use Rattle.js_frames.specs.Meant.{World, bound_of, operator_at}
use Rattle.js_frames.specs.Spots.{FoundFor, FoundBy, SpotGives, BoundAt, is_steps, is_named, is_member, single_function}
use Rattle.js_frames.proofs.BoundLemmas.{steps_bound}

pub found_updated : (w : World) (c : Laid) (h : Home) (q : ℕ) (there copy : Spot) (o : Operator) (old new : Standing) (y : Next)
    → Some o ≡ operator_at c q → copy ≡ there → SpotGives w c h there (with_frame (frame.Updated copy q) old) new y
    → FoundFor w c h (frame.Target q) there old new y
found_updated w c h q there copy o old new y e k s =
    let S : Spot → Type 0 = λ z. SpotGives w c h there (with_frame (frame.Updated z q) old) new y in
    let P : Option Operator → Type 0 = λ z. FoundBy w c h z (bound_of (c.rest q)) there q old new y in
    subst P e (subst S k s)

pub steps_bound_as : (c : Laid) (at q s : ℕ) (n m k : Node) (p o : 𝔹) (b r : Option Place) → k ≡ node_of (c.item at) → is_steps k ≡ true
    → parts_of (c.item at) ≡ c.item q ∷ c.rest q → c.rest q ≡ c.item s ∷ c.rest s
    → n ≡ node_of (c.item q) → m ≡ node_of (c.item s) → b ≡ single_function (c.rest s)
    → p ≡ is_named n → o ≡ is_member m → r ≡ (if p && o then b else None) → BoundAt c at r
steps_bound_as c at q s n m k p o b r ke ks pe re ne me be ep eo er =
    let P : Option Place → Type 0 = λ z. BoundAt c at z in
    subst P (sym (er ∙ ap (λ (z : 𝔹). if z && o then b else None) ep ∙ ap (λ (z : 𝔹). if is_named n && z then b else None) eo)) (steps_bound c at q s n m k b ke ks pe re ne me be)

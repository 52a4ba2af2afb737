-- What a machine hands out at its end or at an effect.
use Rattle.std.specs.Prelude.{◌≡◌, ◌⊎◌, ℕ, ◌<◌, ◌≤◌, ◌-◌, Bool as 𝔹, true, false, List, [], ◌∷◌, codes}
use Rattle.qml_base.specs.declared.numbers.ExprNo.{ExprNo}
use Rattle.qml_base.specs.declared.numbers.ObjNo.{ObjNo}
use Rattle.qml_base.specs.declared.numbers.Place.{Place}
use Rattle.qml_base.specs.declared.cause.Cause.{Cause}
use Rattle.qml_base.specs.declared.cause.Cause.TheVariants as cause
use Rattle.qml_value.specs.declared.value.Value.{Value, Undefined, Object}
use Rattle.evaluation.specs.declared.came.Ended.TheVariants as by
use Rattle.evaluation.specs.declared.came.Evaluated.{Evaluated}
use Rattle.evaluation.specs.declared.came.Evaluated.TheVariants as answer
use Rattle.evaluation.specs.declared.effect.Effect.{Effect}
use Rattle.evaluation.specs.declared.effect.Effect.TheVariants as effect
use Rattle.evaluation.specs.Ask.{Names}
use Rattle.js_meaning.specs.Eval.{Code}
use Rattle.js_meaning.specs.Resuming.{Sight}
use Rattle.js_frames.specs.declared.frames.Deed.{Deed}
use Rattle.js_frames.specs.declared.frames.Deed.TheVariants as deed
use Rattle.js_frames.specs.declared.frames.Frame.{Frame}
use Rattle.js_frames.specs.declared.frames.Frame.TheVariants as frame
use Rattle.js_frames.specs.declared.frames.Here.{Here}
use Rattle.js_frames.specs.declared.frames.Next.{Next}
use Rattle.js_frames.specs.declared.frames.Next.TheVariants as next
use Rattle.js_locals.specs.Laid.{Laid, name_of}
use Rattle.js_frames.specs.Standing.{Standing}
use Rattle.js_frames.specs.Meant.{spot_of}
use Rattle.js_frames.specs.Stepping.{with_frames}
use Rattle.js_acting.specs.declared.waiting.Acted.{Acted}
use Rattle.js_acting.specs.declared.waiting.Acted.TheVariants as acted_as
use Rattle.js_acting.specs.declared.waiting.Behind.{Behind}
use Rattle.js_acting.specs.declared.waiting.Behind.TheVariants as behind
use Rattle.js_acting.specs.declared.waiting.Stopped.{Stopped}
use Rattle.js_acting.specs.declared.target.Target.{Target}
use Rattle.js_acting.specs.declared.target.Target.TheVariants as target
use Rattle.js_acting.specs.Acting.{is_gone}
use Rattle.js_acting.specs.Spots.{spot_target}

abbrev pub Ends : Cause → Acted → Type 0
Ends q r = r ≡ acted_as.End (by.Threw q)

-- an effect counts one
abbrev pub EffectDone : ObjNo → Here → Effect → Behind → Standing → Acted → Type 0
EffectDone author h e b m r =
    ((m.left ≡ 0) × Ends cause.Nodes r)
    ⊎ ((0 < m.left) × (r ≡ acted_as.Effect e (record { author = author; here = h; frames = m.frames; left = m.left - 1; locals = m.locals; behind = b })))

abbrev pub WritesTo : ObjNo → Here → Value → Value → Target → Standing → Acted → Type 0
WritesTo author h v back (target.Cell c) m r = EffectDone author h (effect.Write c v) (behind.Back back) m r
WritesTo author h v back (target.Throws q) m r = Ends q r

abbrev pub RebindsTo : ObjNo → Here → ExprNo → Target → Standing → Acted → Type 0
RebindsTo author h e (target.Cell c) m r = EffectDone author h (effect.Rebind c e h.home) (behind.Back Undefined) m r
RebindsTo author h e (target.Throws q) m r = Ends q r

-- the value is put in the spot of the latest frame
abbrev pub Puts : Sight → Names → Laid → ObjNo → Here → Value → List Frame → Standing → Acted → Type 0
Puts s names c author h v (frame.Assigned o back there ∷ fs) m r = WritesTo author h v back (spot_target s names h.home (spot_of c there)) (with_frames fs m) r
Puts s names c author h v fs m r = ⊥

abbrev with_fewer : List Frame → Standing → Standing
with_fewer fs m = record { frames = fs; reads = m.reads; left = m.left - 3; locals = m.locals }

-- the function of a `Qt.binding` is put there; it counts three more
abbrev pub PutsFunction : Sight → Names → Laid → ObjNo → Here → ExprNo → List Frame → Standing → Acted → Type 0
PutsFunction s names c author h e (frame.Assigned o back there ∷ fs) m r =
    ((m.left < 3) × Ends cause.Nodes r)
    ⊎ ((3 ≤ m.left) × RebindsTo author h e (spot_target s names h.home (spot_of c there)) (with_fewer fs m) r)
PutsFunction s names c author h e fs m r = ⊥

abbrev pub Hands : Sight → Names → Code → Laid → ObjNo → Here → Deed → Standing → Acted → Type 0
Hands s names code c author h (deed.Emit o i vs q) m r =
    ((s.is_condemned o ≡ true) × Ends cause.Gone r) ⊎ ((s.is_condemned o ≡ false) × EffectDone author h (effect.Emit o i vs) (behind.Step q) m r)
Hands s names code c author h (deed.Do o p vs q) m r =
    ((is_gone s author o ≡ true) × Ends cause.Gone r)
    ⊎ ((is_gone s author o ≡ false) × EffectDone author h (effect.Call (Object o) (name_of c p) vs) (behind.Step q) m r)
Hands s names code c author h (deed.Log vs q) m r = EffectDone author h (effect.Call Undefined (codes "log") vs) (behind.Step q) m r
Hands s names code c author h (deed.Write v) m r = Puts s names c author h v m.frames m r
Hands s names code c author h (deed.Rebind p) m r = PutsFunction s names c author h (code.bound h.text p) m.frames m r
Hands s names code c author h d m r = ⊥

abbrev pub EndsBy : Evaluated → Acted → Type 0
EndsBy (answer.Value v) r = r ≡ acted_as.End (by.Value v)
EndsBy (answer.Threw q) r = Ends q r
EndsBy answer.NoMemory r = ⊥
EndsBy o r = r ≡ acted_as.End by.Past

abbrev pub Finishes : Sight → Names → Code → Laid → ObjNo → Here → Next → Standing → Acted → Type 0
Finishes s names code c author h (next.Ended o) m r = EndsBy o r
Finishes s names code c author h (next.Deed d) m r = Hands s names code c author h d m r
Finishes s names code c author h y m r = ⊥

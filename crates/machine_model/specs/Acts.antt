-- Acts: what is done to the machine, one after another, up to a stop.
use Rattle.std.specs.Prelude.{Bool, true, false, List, [], ◌∷◌, ◌++◌, Option, Some, None}
use Rattle.trace_print.specs.declared.entry.Entry.{Entry}
use Rattle.machine_model.specs.State.{Machine, Stop}

pub data Ran (A : Type 0) : Type 0 where
  goes : A → Machine → Ran A
  stops : Stop → Machine → Ran A

abbrev pub Act : Type 0 → Type 0
Act A = Machine → Ran A

abbrev pub Done : Type 0
Done = Act (Unit {0})

abbrev pub then_go : {A B : Type 0} → Ran A → (A → Act B) → Ran B
then_go (goes a m) f = f a m
then_go (stops s m) f = stops s m

infixl 10 ◌>>=◌
abbrev pub ◌>>=◌ : {A B : Type 0} → Act A → (A → Act B) → Act B
(act >>= f) m = then_go (act m) f

infixl 10 ◌>>◌
abbrev pub ◌>>◌ : {A B : Type 0} → Act A → Act B → Act B
(act >> next) m = then_go (act m) (λ _. next)

abbrev pub nothing : Done
nothing m = goes tt m

abbrev pub give : {A : Type 0} → A → Act A
give a m = goes a m

abbrev pub look : {A : Type 0} → (Machine → A) → Act A
look f m = goes (f m) m

abbrev pub turn_into : (Machine → Machine) → Done
turn_into f m = goes tt (f m)

abbrev pub stop_with : {A : Type 0} → Stop → Act A
stop_with s m = stops s m

-- in order, for each
abbrev pub each : {A : Type 0} → (A → Done) → List A → Done
each act [] m = goes tt m
each act (x ∷ xs) m = then_go (act x m) (λ _. each act xs)

abbrev pub by_test : {A : Type 0} → Bool → Act A → Act A → Act A
by_test true act other = act
by_test false act other = other

abbrev pub if_some : {A : Type 0} → Option A → (A → Done) → Done
if_some None act = nothing
if_some (Some a) act = act a

-- a further entry of the trace
abbrev pub tell : Entry → Done
tell e m = goes tt (record m { trace = m.trace ++ e ∷ [] })

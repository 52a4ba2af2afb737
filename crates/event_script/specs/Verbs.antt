-- The words that lines begin with.
use Rattle.std.specs.Prelude.{ℕ, List, codes}
use Rattle.event_script.specs.declared.kinds.Verb.{Verb}
use Rattle.event_script.specs.declared.kinds.Verb.TheVariants as verb

abbrev pub spelling : Verb → List ℕ
spelling verb.Do = codes "do"
spelling verb.Advance = codes "advance"
spelling verb.Tick = codes "tick"
spelling verb.Print = codes "print"

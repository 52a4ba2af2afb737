-- What a move leaves: the next state, or, where no read prefix goes on, what still holds the nodes of the tree that was read.
use Rattle.std.specs.Prelude.{◌≡◌, Option, Some, None}
use Rattle.qml_syntax.specs.Nodes.{Table}
use Rattle.js_machine.specs.declared.moved.Moved.{Moved}
use Rattle.js_machine.specs.declared.moved.Moved.TheVariants as moved
use Rattle.js_machine.specs.declared.moved.Rest.{Rest}
use Rattle.js_machine.specs.declared.moved.Rest.TheVariants as rest
use Rattle.js_machine.specs.declared.open.Now.{Now}
use Rattle.js_machine.specs.Tape.{Tape, tape}
use Rattle.js_machine.specs.Moves.{Open, close_at, is_over}
use Rattle.js_machine.specs.Kept.{closed_whole, over_whole, begun_whole}

abbrev pub rest_whole : Rest → Open → Table → Option Table
rest_whole (rest.Closing tight target) fs s = closed_whole (close_at 0 fs s tight target)
rest_whole rest.Ended fs s = over_whole (is_over fs s)
rest_whole rest.Begun fs s = begun_whole fs s
rest_whole rest.Nothing fs s = None

-- the move that is asked for, the whole that the state before it held, and what is left
abbrev pub Moves : Option Tape → Option Table → Open → Table → Moved → Type 0
Moves next whole fs s (moved.To now) = next ≡ Some (tape s fs now)
Moves next whole fs s (moved.Stuck r) = (next ≡ None) × (whole ≡ rest_whole r fs s)

-- a token that is read, or with which nothing has a tree
abbrev pub awaited : Option Now → Moved
awaited None = moved.Stuck rest.Nothing
awaited (Some now) = moved.To now

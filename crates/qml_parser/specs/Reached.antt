-- Where a token leads, as the code answers it: what has just been read, beside the nodes and frames.
use Rattle.std.specs.Prelude.{◌≡◌, List, Option, Some, None}
use Rattle.qml_syntax.specs.Nodes.{Table}
use Rattle.qml_syntax.specs.Words as words
use Rattle.qml_machine.specs.declared.state.Now.{Now}
use Rattle.qml_machine.specs.DocumentTape.{Frames, Kept, kept, kept_body, kept_value}
use Rattle.qml_machine.specs.DocumentMoves.{begun_value, begun_body}
use Rattle.qml_machine.specs.KeptDocument.{kept_text}
use Rattle.qml_parser.specs.declared.next.Next.{Next}
use Rattle.qml_parser.specs.declared.next.Next.TheVariants as next
use Rattle.qml_parser.specs.declared.next.State.{State}
use Rattle.qml_parser.specs.declared.next.State.TheVariants as at
use Rattle.js_machine.specs.declared.open.Frame as js
use Rattle.js_machine.specs.Tape.{tape}
use Rattle.qml_parser.specs.declared.words.Tail.{Tail}
use Rattle.qml_parser.specs.declared.words.Tail.TheVariants as tail

abbrev pub reached : Table → Frames → Next → Kept
reached s fs (next.To n) = kept s fs n
reached s fs next.Value = kept_value s fs begun_value
reached s fs (next.Block p) = kept_body s fs p begun_body

-- the move that is asked for, and what is left: the next state, or none where no read prefix goes on
abbrev pub Leads : Option Kept → Table → Frames → Option Next → Type 0
Leads move s fs None = move ≡ None
Leads move s fs (Some n) = move ≡ Some (reached s fs n)

-- what stands last in a member or an import
abbrev pub that_tail : Tail → words.Tail
that_tail tail.Whole = words.whole
that_tail tail.Value = words.before_value
that_tail tail.Dot = words.before_dot
that_tail tail.Brackets = words.before_brackets
that_tail tail.Version = words.before_version
that_tail tail.As = words.before_as

-- ---- whole states

abbrev pub kept_in : Table → Frames → Table → List js.Frame → State → Kept
kept_in s fs inner open_ (at.At n) = kept s fs n
kept_in s fs inner open_ (at.Value n) = kept_value s fs (tape inner open_ n)
kept_in s fs inner open_ (at.Body p n) = kept_body s fs p (tape inner open_ n)

-- the move that is asked for, and what is left: the next state, or none where no read prefix goes on; then the nodes are
-- still those of the tree that was read
abbrev pub Goes : Option Kept → Option Table → Table → Frames → Table → List js.Frame → State → Option State → Type 0
Goes move whole s fs inner open_ now None = (move ≡ None) × (whole ≡ kept_text (kept_in s fs inner open_ now))
Goes move whole s fs inner open_ now (Some next) = move ≡ Some (kept_in s fs inner open_ next)

-- what is left of a move: the next state, or none where no read prefix goes on
abbrev pub LeadsIn : Option Kept → Table → Frames → Table → List js.Frame → Option State → Type 0
LeadsIn move s fs inner open_ None = move ≡ None
LeadsIn move s fs inner open_ (Some next) = move ≡ Some (kept_in s fs inner open_ next)

-- what is left of a move outside of values and functions: likewise, and then the nodes are still those of the tree that
-- was read
abbrev pub Leaves : Option Kept → Option Table → Now → Table → Frames → Option Next → Type 0
Leaves move whole now s fs None = (move ≡ None) × (whole ≡ kept_text (kept s fs now))
Leaves move whole now s fs (Some n) = move ≡ Some (reached s fs n)

-- Reading with states as they are kept, and the rows of the tree that they hold where the tokens end.
use Rattle.std.specs.Prelude.{true, false, List, [], ◌∷◌, Option, Some, None, option_map}
use Rattle.qml_syntax.specs.declared.token.Token.{Token}
use Rattle.qml_machine.specs.DocumentMachine.{FileTree, whole_of, Entry, a_document, a_script, Outcome}
use Rattle.qml_syntax.specs.Listed.{listed_whole}
use Rattle.qml_machine.specs.DocumentTape.{Kept, kept}
use Rattle.qml_machine.specs.DocumentMoves.{keep}
use Rattle.qml_machine.specs.declared.state.Frame.TheVariants as frame
use Rattle.qml_machine.specs.declared.state.Now.TheVariants as state
use Rattle.qml_syntax.specs.declared.node.Node.TheVariants as node
use Rattle.qml_syntax.specs.Nodes.{Table}
use Rattle.qml_machine.specs.declared.state.ImportNow.TheVariants as import_now
use Rattle.qml_machine.specs.declared.state.ObjectNow.TheVariants as object_now
use Rattle.qml_machine.specs.declared.state.ScriptNow.TheVariants as script_now

abbrev pub text_on : FileTree → Table
text_on w = listed_whole (whole_of w)

abbrev pub kept_text : Kept → Option Table
kept_text (kept s fs (state.Object object_now.Rooted)) = Some (node.Document ∷ s)
kept_text (kept s fs (state.Script script_now.ScriptBegun)) = Some (node.Script false ∷ s)
kept_text (kept s fs (state.Script script_now.PragmaRead)) = Some (node.Script true ∷ s)
kept_text (kept s (frame.Script b ∷ fs) (state.Script script_now.Functions)) = Some (node.Script b ∷ s)
kept_text _ = None

-- the rows of the tree that is read, or none where no tree reads what is in front of the rest
pub record Ends : Type 0 where
  pub tree : Option Table
  pub rest : List Token

abbrev pub keep_on : Option Kept → Option Table → List Token → (Kept → Ends) → Ends
keep_on None e ts run = record { tree = e; rest = ts }
keep_on (Some next) e ts run = run next

abbrev pub keep_run : List Token → Kept → Ends
keep_run [] x = record { tree = kept_text x; rest = [] }
keep_run (t ∷ ts) x = keep_on (keep x t) (kept_text x) (t ∷ ts) (λ next. keep_run ts next)

abbrev pub keep_start : Entry → Kept
keep_start a_document = kept (node.Mark ∷ []) (frame.Root ∷ []) (state.Import import_now.Imports)
keep_start a_script = kept (node.Mark ∷ []) (frame.Script false ∷ []) (state.Script script_now.ScriptBegun)

abbrev pub ends_of : Outcome → Ends
ends_of out = record { tree = option_map text_on out.tree; rest = out.rest }

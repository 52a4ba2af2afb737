-- Reading with states as they are kept, and the nodes of the tree that they hold where the tokens end.
use Rattle.std.specs.Prelude.{List, [], ◌∷◌, Option, Some, None, option_map}
use Rattle.qml_syntax.specs.declared.token.Token.{Token}
use Rattle.qml_syntax.specs.declared.node.Close.TheVariants as end
use Rattle.qml_syntax.specs.declared.node.Node.TheVariants as node
use Rattle.qml_syntax.specs.Nodes.{Table}
use Rattle.qml_syntax.specs.Listed.{listed_whole}
use Rattle.js_machine.specs.declared.open.Stands.TheVariants as stands
use Rattle.js_machine.specs.declared.open.Frame.TheVariants as f
use Rattle.js_machine.specs.declared.open.Now.TheVariants as n
use Rattle.js_machine.specs.Machine.{Entry, an_expression, a_statement, a_body, Outcome}
use Rattle.js_machine.specs.Tape.{Tape, tape}
use Rattle.js_machine.specs.Moves.{Open, Closed, closed, close_at, Over, over_at, is_over, flushed, move}

abbrev pub over_whole : Over → Option Table
over_whole (over_at s (f.One ∷ fs)) = Some s
over_whole (over_at s (f.List ∷ fs)) = Some (node.Body ∷ s)
over_whole _ = None

abbrev pub closed_whole : Closed → Option Table
closed_whole (closed s (f.Alone ∷ fs) tight target) = Some s
closed_whole (closed s (f.Expression ∷ fs) tight target) = over_whole (is_over fs (node.Expression end.Auto ∷ s))
closed_whole (closed s (f.Give p ∷ fs) tight target) = over_whole (is_over fs (node.GiveValue p end.Auto ∷ s))
closed_whole (closed s (f.Value stands.Body p q ∷ fs) tight target) = over_whole (is_over fs (node.Declare p q end.Auto ∷ s))
closed_whole _ = None

abbrev pub begun_whole : Open → Table → Option Table
begun_whole (f.List ∷ fs) s = Some (node.Body ∷ s)
begun_whole _ s = None

-- the nodes of the tree, where the tokens end
abbrev pub kept_whole : Tape → Option Table
kept_whole (tape s fs (n.Have h)) = closed_whole (close_at 0 fs (flushed h s) h.tight h.target)
kept_whole (tape s fs n.Begin) = begun_whole fs s
kept_whole (tape s fs n.Did) = over_whole (is_over fs s)
kept_whole (tape s fs (n.Give p)) = over_whole (is_over fs (node.Give p end.Auto ∷ s))
kept_whole (tape s fs (n.Break p)) = over_whole (is_over fs (node.Stop p end.Auto ∷ s))
kept_whole (tape s fs (n.Continue p)) = over_whole (is_over fs (node.Again p end.Auto ∷ s))
kept_whole (tape s fs (n.Named stands.Body p q)) = over_whole (is_over fs (node.Declare p q end.Auto ∷ s))
kept_whole _ = None

-- the nodes of the tree that is read, or none where no tree reads what is in front of the rest
pub record Ends : Type 0 where
  pub tree : Option Table
  pub rest : List Token

abbrev pub kept_on : Option Tape → Option Table → List Token → (Tape → Ends) → Ends
kept_on None e ts run = record { tree = e; rest = ts }
kept_on (Some next) e ts run = run next

abbrev pub kept_go : List Token → Tape → Ends
kept_go [] x = record { tree = kept_whole x; rest = [] }
kept_go (t ∷ ts) x = kept_on (move x t) (kept_whole x) (t ∷ ts) (λ next. kept_go ts next)

abbrev pub kept_start : Entry → Tape
kept_start an_expression = tape [] (f.Alone ∷ []) n.Need
kept_start a_statement = tape [] (f.One ∷ []) n.Begin
kept_start a_body = tape (node.Mark ∷ []) (f.List ∷ []) n.Begin

-- what the machine reads, with the tree as its nodes
abbrev pub ends_of : Outcome → Ends
ends_of out = record { tree = option_map listed_whole out.tree; rest = out.rest }

-- ---- what closing all, or ending all statements, makes of what was closed or ended in part

abbrev pub closed_again : Closed → Closed
closed_again (closed s fs tight target) = close_at 0 fs s tight target

abbrev pub over_again : Over → Over
over_again (over_at s fs) = is_over fs s

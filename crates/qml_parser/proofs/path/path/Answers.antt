use Rattle.std.proofs.Common.{◌∙◌, ap}
use Rattle.qml_syntax.specs.declared.token.TokenKind.TheVariants as k
use Rattle.qml_syntax.specs.declared.word.Word.TheVariants as w
use Rattle.qml_machine.specs.DocumentMoves.{keep_path}
use Rattle.qml_parser.proofs.Leading.{leads_as}
use Rattle.qml_parser.proofs.path.path.Goals as goal

pub returns-in-Zero : goal.returns-in-Zero
returns-in-Zero c = leads_as _ _ _ _ _ (ap (λ kind. keep_path c.args.nodes.now c.args.frames.now c.args.found.0 c.args.found.1 c.args.found.2 c.args.found.3 c.args.found.4 c.args.place kind) c.in-Name.is ∙ ap (λ count. keep_path c.args.nodes.now c.args.frames.now c.args.found.0 count c.args.found.2 c.args.found.3 c.args.found.4 c.args.place (k.Name c.in-Name.name)) c.in-Zero.is) (c.path_name.ensures c.args.frames.now)

pub returns-in-Zero-count : goal.returns-in-Zero-count
returns-in-Zero-count c = leads_as _ _ _ _ _ (ap (λ kind. keep_path c.args.nodes.now c.args.frames.now c.args.found.0 c.args.found.1 c.args.found.2 c.args.found.3 c.args.found.4 c.args.place kind) c.in-Word.is ∙ ap (λ word. keep_path c.args.nodes.now c.args.frames.now c.args.found.0 c.args.found.1 c.args.found.2 c.args.found.3 c.args.found.4 c.args.place (k.Word word)) c.in-Var.is ∙ ap (λ count. keep_path c.args.nodes.now c.args.frames.now c.args.found.0 count c.args.found.2 c.args.found.3 c.args.found.4 c.args.place (k.Word w.Var)) c.in-Zero-count.is) (c.path_var.ensures c.args.frames.now)

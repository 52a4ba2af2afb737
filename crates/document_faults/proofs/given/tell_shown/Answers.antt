use Rattle.std.proofs.Common.{◌∙◌, ap, sym}
use Rattle.document_tables.specs.Tables.{tree_in}
use Rattle.document_faults.proofs.GivenLemmas.{no_tree_told}
use Rattle.document_faults.proofs.given.tell_shown.Goals as goal

pub returns-in-Document : goal.returns-in-Document
returns-in-Document c p x h are made e g = c.tell_in_tree.ensures p x h are made e (ap tree_in (sym c.in-Document.is) ∙ ap tree_in g)

pub returns-in-Missing : goal.returns-in-Missing
returns-in-Missing c p x h are made e g = no_tree_told p c.args.tables.now c.args.document x c.args.best.now.fault h e (ap tree_in (sym g ∙ c.in-Missing.is))

pub returns-in-TooLarge : goal.returns-in-TooLarge
returns-in-TooLarge c p x h are made e g = no_tree_told p c.args.tables.now c.args.document x c.args.best.now.fault h e (ap tree_in (sym g ∙ c.in-TooLarge.is))

pub returns-in-Unread : goal.returns-in-Unread
returns-in-Unread c p x h are made e g = no_tree_told p c.args.tables.now c.args.document x c.args.best.now.fault h e (ap tree_in (sym g ∙ c.in-Unread.is))

pub returns-in-Script : goal.returns-in-Script
returns-in-Script c p x h are made e g = no_tree_told p c.args.tables.now c.args.document x c.args.best.now.fault h e (ap tree_in (sym g ∙ c.in-Script.is))

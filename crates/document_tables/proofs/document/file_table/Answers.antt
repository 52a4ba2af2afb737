use Rattle.std.proofs.Common.{ap, subst}
use Rattle.file_sources.specs.Contents.{Shows}
use Rattle.read_order.specs.Order.{file_of}
use Rattle.document_tables.specs.Tables.{tree_in, is_nothing}
use Rattle.document_tables.proofs.TableLemmas.{document_shown, nothing_shown}
use Rattle.document_tables.proofs.document.file_table.Goals as goal

pub returns-in-Document : goal.returns-in-Document
returns-in-Document c =
    document_shown c.document_table.result c.args.program.now (file_of c.args.file.now) c.in-Document.tree c.args.content.now c.in-Document.is c.document_table.ensures

pub returns-in-Missing : goal.returns-in-Missing
returns-in-Missing c =
    nothing_shown c.empty_table.result c.args.program.now (file_of c.args.file.now) c.args.content.now (ap tree_in c.in-Missing.is)
    (λ s h. ap is_nothing (subst (λ x. Shows x s) c.in-Missing.is h)) c.empty_table.ensures

pub returns-in-TooLarge : goal.returns-in-TooLarge
returns-in-TooLarge c =
    nothing_shown c.empty_table-in-TooLarge.result c.args.program.now (file_of c.args.file.now) c.args.content.now (ap tree_in c.in-TooLarge.is)
    (λ s h. ap is_nothing (subst (λ x. Shows x s) c.in-TooLarge.is h)) c.empty_table-in-TooLarge.ensures

pub returns-in-Unread : goal.returns-in-Unread
returns-in-Unread c =
    nothing_shown c.empty_table-in-Unread.result c.args.program.now (file_of c.args.file.now) c.args.content.now (ap tree_in c.in-Unread.is)
    (λ s h. ap is_nothing (subst (λ x. Shows x s) c.in-Unread.is h)) c.empty_table-in-Unread.ensures

pub returns-in-Script : goal.returns-in-Script
returns-in-Script c =
    nothing_shown c.empty_table-in-Script.result c.args.program.now (file_of c.args.file.now) c.args.content.now (ap tree_in c.in-Script.is)
    (λ s h. ap is_nothing (subst (λ x. Shows x s) c.in-Script.is h).2) c.empty_table-in-Script.ensures

use Rattle.std.proofs.Common.{◌∙◌, ap, sym, subst, ◌<◌, length}
use Rattle.name_faults.proofs.PassLemmas.{found_some, found_none}
use Rattle.document_faults.specs.Told.{first_in_document}
use Rattle.document_faults.proofs.order.first_of_program.Goals as goal

pub returns-in-Some : goal.returns-in-Some
returns-in-Some c p h are made =
    found_some (first_in_document p) (length p) c.documents.document c.in-Some.fault _ (subst (λ n. c.documents.document < n) (ap length c.as_slice-documents.ensures.value ∙ h.long) c.documents-test.true)
    (sym (c.in_ok-fault.ensures p h are made) ∙ c.in-Some.is) (c.documents.invariant p h are made)

pub documents-preserved : goal.documents-preserved
documents-preserved c p h are made =
    found_none (first_in_document p) (length p) c.documents.document _ (subst (λ n. c.documents.document < n) (ap length c.as_slice-documents.ensures.value ∙ h.long) c.documents-test.true)
    (sym (c.in_ok-fault.ensures p h are made) ∙ c.in-None.is) (c.documents.invariant p h are made)

-- The machine of documents answers exactly.
use Rattle.std.proofs.Common.{◌≡◌, false, List, [], ◌∷◌, ◌++◌, Option, Some, None, refl, sym, ap, ◌∙◌, subst, append_assoc}
use Rattle.std.proofs.lemmas.List.{append-nil}
use Rattle.qml_syntax.specs.declared.token.Token.{Token}
use Rattle.qml_syntax.specs.Tree.{Document, Script, script}
use Rattle.qml_syntax.specs.ReadsDocument.{ReadsDocument, r_document, im_none, ReadsScript, r_script, no_pragma, a_pragma, fs_none}
use Rattle.qml_machine.specs.Open.{Reading, rooted, script_begun, pragma_read, functions}
use Rattle.qml_machine.specs.DocumentMachine.{Entry, a_document, a_script, FileTree, of_document, of_script, Outcome, read_step, read_finish, read_on, run, start_of}
use Rattle.qml_machine.specs.DocumentAnswer.{ReadsText, IsReadPrefix, IsTreeOf, IsAnswer}
use Rattle.qml_machine.proofs.Backs.{oi_none, imports_closed, functions_closed}
use Rattle.qml_machine.proofs.LeftOpen.{ReadingReads, lo_script}
use Rattle.qml_machine.proofs.StepReads.{step_reads}
use Rattle.qml_machine.proofs.DocumentComplete.{document_run, script_run}
use Rattle.qml_machine.proofs.Shut.{can_shut}

-- ---- where the tokens end, what is read is a tree

some_text : {x z : FileTree} → Some x ≡ Some z → x ≡ z
some_text h = cc

at_entry : (y z : Entry) (x e : FileTree) (s : List Token) → y ≡ z → x ≡ e → ReadsText z x s [] → ReadsText y e s []
at_entry y z x e s q r h = let P : Entry → Type 0 = λ v. ReadsText v x s [] in let Q : FileTree → Type 0 = λ v. ReadsText y v s [] in subst Q r (subst P (sym q) h)

nothing_reads : (s : List Token) → s ≡ [] → ReadsScript (script false []) s []
nothing_reads s q = let P : List Token → Type 0 = λ v. ReadsScript (script false []) v [] in subst P (sym q) (r_script no_pragma fs_none)

finish_reads : (y : Entry) (x : Reading) (s : List Token) (e : FileTree) → ReadingReads y x s [] → read_finish x ≡ Some e → ReadsText y e s []
finish_reads y (rooted is o) s e (a, q, i, r) h = at_entry y a_document _ e s q (some_text h) (r_document (imports_closed i im_none) r)
finish_reads y script_begun s e (q, z) h = at_entry y a_script _ e s q (some_text h) (nothing_reads s z)
finish_reads y pragma_read s e (a, b, q, dot, wd, lib) h = at_entry y a_script _ e s q (some_text h) (r_script (a_pragma dot wd lib tt) fs_none)
finish_reads y (functions b fs) s e (lo_script q pr o) h = at_entry y a_script _ e s q (some_text h) (r_script pr (functions_closed o fs_none))
finish_reads y _ s e r h = cc

-- ---- what a tree reads, the machine reads whole

pub text_run : (y : Entry) (e : FileTree) (s : List Token) → ReadsText y e s [] → run s (start_of y) ≡ record { tree = Some e; rest = [] }
text_run a_document (of_document d) s r = document_run r
text_run a_script (of_script d) s r = script_run r
text_run a_document (of_script d) s r = absurd r
text_run a_script (of_document d) s r = absurd r

-- ---- after the front the machine is in this state

pub record HasRead (y : Entry) (front : List Token) (x : Reading) : Type 0 where
  pub reads : (rest : List Token) → ReadingReads y x (front ++ rest) rest
  pub goes : (rest : List Token) → run (front ++ rest) (start_of y) ≡ run rest x

pub moves : (y : Entry) (front : List Token) (x : Reading) (t : Token) (next : Reading) → HasRead y front x → read_step x t ≡ Some next → HasRead y (front ++ t ∷ []) next
moves y front x t next ran h = record {
  reads = λ rest. rw append_assoc (step_reads y x (front ++ t ∷ rest) rest t next (ran.reads (t ∷ rest)) h);
  goes = λ rest. rw append_assoc (ran.goes (t ∷ rest) ∙ rw h refl);
}

-- ---- every read front goes on to a tree

sound_on : (y : Entry) (front : List Token) (x : Reading) (t : Token) (more : List Token) (e : FileTree) (o : Option Reading) → read_step x t ≡ o → HasRead y front x → ((next : Reading) → HasRead y (front ++ t ∷ []) next → run more next ≡ record { tree = Some e; rest = [] } → ReadsText y e ((front ++ t ∷ []) ++ more) []) → read_on o (read_finish x) (t ∷ more) (λ next. run more next) ≡ record { tree = Some e; rest = [] } → ReadsText y e (front ++ t ∷ more) []
sound_on y front x t more e (Some next) h ran rec q = rw append_assoc at (rec next (moves y front x t next ran h) q)
sound_on y front x t more e None h ran rec q = let r : t ∷ more ≡ [] = ap (λ (o : Outcome). o.rest) q in cc

sound_run : (y : Entry) (more front : List Token) (x : Reading) (e : FileTree) → HasRead y front x → run more x ≡ record { tree = Some e; rest = [] } → ReadsText y e (front ++ more) []
sound_run y [] front x e ran h = finish_reads y x (front ++ []) e (ran.reads []) (ap (λ (o : Outcome). o.tree) h)
sound_run y (t ∷ more) front x e ran h = sound_on y front x t more e (read_step x t) refl ran (λ next r q. sound_run y more (front ++ t ∷ []) next e r q) h

viable : (y : Entry) (front : List Token) (x : Reading) → HasRead y front x → IsReadPrefix y front
viable y front x ran = let c = can_shut y x (front ++ []) [] (ran.reads []) in (c.0, c.1, sound_run y c.0 front x c.1 ran c.2)

-- ---- the answer

tree_of : (y : Entry) (front : List Token) (answer : Option FileTree) → ((e : FileTree) → answer ≡ Some e → ReadsText y e front []) → ((e : FileTree) → ReadsText y e front [] → answer ≡ Some e) → IsTreeOf y front answer
tree_of y front None f g = λ e r. let q : None ≡ Some e = g e r in cc
tree_of y front (Some e) f g = f e refl

answered : (y : Entry) (front : List Token) (x : Reading) (rest : List Token) → HasRead y front x → ((t : Token) (more : List Token) → rest ≡ t ∷ more → read_step x t ≡ None) → IsAnswer y (front ++ rest) (read_finish x) rest
answered y front x rest ran stuck = record {
  front = front;
  parts = record {
    split = refl;
    goes_on = viable y front x ran;
    ends = λ t more q (z, e, r).
        let one : run ((front ++ t ∷ []) ++ z) (start_of y) ≡ record { tree = Some e; rest = [] } = text_run y e ((front ++ t ∷ []) ++ z) r in
        let two : run (front ++ t ∷ z) (start_of y) ≡ record { tree = read_finish x; rest = t ∷ z } = ran.goes (t ∷ z) ∙ rw (stuck t more q) refl in
        let three : run (front ++ t ∷ z) (start_of y) ≡ record { tree = Some e; rest = [] } = rw append_assoc at one in
        let four : t ∷ z ≡ [] = ap (λ (o : Outcome). o.rest) (sym two ∙ three) in
        absurd (cc);
  };
  tree = tree_of y front (read_finish x) (λ e h. finish_reads y x front e (rw append-nil at (ran.reads [])) h)
      (λ e r. ap (λ (o : Outcome). o.tree) (sym (rw append-nil at (ran.goes [])) ∙ text_run y e front r));
}

advanced : (y : Entry) (front : List Token) (x : Reading) (t : Token) (rest : List Token) (o : Option Reading) → read_step x t ≡ o → HasRead y front x → ((next : Reading) → HasRead y (front ++ t ∷ []) next → IsAnswer y ((front ++ t ∷ []) ++ rest) (run rest next).tree (run rest next).rest) → IsAnswer y (front ++ t ∷ rest) (read_on o (read_finish x) (t ∷ rest) (λ next. run rest next)).tree (read_on o (read_finish x) (t ∷ rest) (λ next. run rest next)).rest
advanced y front x t rest None h ran next = answered y front x (t ∷ rest) ran (λ u more q. let e : u ≡ t = cc in rw e h)
advanced y front x t rest (Some z) h ran next = rw append_assoc at (next z (moves y front x t z ran h))

pub answers : (y : Entry) (rest front : List Token) (x : Reading) → HasRead y front x → IsAnswer y (front ++ rest) (run rest x).tree (run rest x).rest
answers y [] front x ran = answered y front x [] ran (λ t more q. cc)
answers y (t ∷ rest) front x ran = advanced y front x t rest (read_step x t) refl ran (λ next r. answers y rest (front ++ t ∷ []) next r)

pub begun : (y : Entry) → HasRead y [] (start_of y)
begun a_document = record { reads = λ rest. (refl, oi_none); goes = λ rest. refl }
begun a_script = record { reads = λ rest. (refl, refl); goes = λ rest. refl }

pub exact : (y : Entry) (tokens : List Token) → IsAnswer y tokens (run tokens (start_of y)).tree (run tokens (start_of y)).rest
exact y tokens = answers y tokens [] (start_of y) (begun y)

-- ---- at most one tree reads given tokens

pub one_text : (y : Entry) (tokens : List Token) (x z : FileTree) → ReadsText y x tokens [] → ReadsText y z tokens [] → x ≡ z
one_text y tokens x z r q = let h : Some x ≡ Some z = ap (λ (o : Outcome). o.tree) (sym (text_run y x tokens r) ∙ text_run y z tokens q) in cc

pub one_document : (tokens : List Token) (d e : Document) → ReadsDocument d tokens [] → ReadsDocument e tokens [] → d ≡ e
one_document tokens d e r q = let h : of_document d ≡ of_document e = one_text a_document tokens (of_document d) (of_document e) r q in cc

pub one_script : (tokens : List Token) (d e : Script) → ReadsScript d tokens [] → ReadsScript e tokens [] → d ≡ e
one_script tokens d e r q = let h : of_script d ≡ of_script e = one_text a_script tokens (of_script d) (of_script e) r q in cc

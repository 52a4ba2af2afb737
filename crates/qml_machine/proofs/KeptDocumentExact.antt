-- States as they are kept end where the machine of documents does, with the rows of its tree.
use Rattle.std.proofs.Common.{◌≡◌, List, [], ◌∷◌, ◌++◌, Option, Some, None, refl, sym, ap, ◌∙◌}
use Rattle.std.specs.Prelude.{option_map}
use Rattle.qml_syntax.specs.declared.token.Token.{Token}
use Rattle.qml_syntax.specs.Tree.{Import, Function}
use Rattle.qml_machine.specs.Open.{onto, Reading, rooted, functions}
use Rattle.qml_machine.specs.DocumentMachine.{Entry, a_document, a_script, read_step, read_finish, read_on, run, start_of}
use Rattle.qml_syntax.specs.Listed.{listed_imports, listed_functions, listed_object}
use Rattle.qml_machine.specs.DocumentTape.{imports_row, functions_row, Kept, kept_of}
use Rattle.qml_machine.specs.KeptDocument.{text_on, kept_text, keep_on, keep_run, keep_start, ends_of}
use Rattle.qml_machine.proofs.KeptFollows.{lifted, keep_follows}
use Rattle.qml_machine.proofs.DocumentExact.{HasRead, moves, begun}
use Rattle.qml_syntax.specs.declared.node.Node.TheVariants as node
use Rattle.qml_syntax.specs.Nodes.{Table}

imports_same : (back is : List Import) (s : Table) → listed_imports (onto back is) s ≡ listed_imports is (imports_row back s)
imports_same [] is s = refl
imports_same (x ∷ back) is s = imports_same back (x ∷ is) s

functions_same : (back fs : List Function) (s : Table) → listed_functions (onto back fs) s ≡ listed_functions fs (functions_row back s)
functions_same [] fs s = refl
functions_same (x ∷ back) fs s = functions_same back (x ∷ fs) s

text_same : (x : Reading) → kept_text (kept_of x) ≡ option_map text_on (read_finish x)
text_same (rooted is o) = ap (λ z. Some (node.Document ∷ listed_object o z)) (sym (imports_same is [] (node.Mark ∷ [])))
text_same (functions b fs) = ap (λ z. Some (node.Script b ∷ z)) (sym (functions_same fs [] (node.Mark ∷ [])))
text_same _ = refl

on_same : (y : Entry) (front ts : List Token) (x : Reading) (t : Token) (o : Option Reading) → read_step x t ≡ o → HasRead y front x → ((next : Reading) → HasRead y (front ++ t ∷ []) next → keep_run ts (kept_of next) ≡ ends_of (run ts next)) → keep_on (lifted o) (option_map text_on (read_finish x)) (t ∷ ts) (λ next. keep_run ts next) ≡ ends_of (read_on o (read_finish x) (t ∷ ts) (λ next. run ts next))
on_same y front ts x t None h ran rec = refl
on_same y front ts x t (Some next) h ran rec = rec next (moves y front x t next ran h)

run_same : (y : Entry) (ts front : List Token) (x : Reading) → HasRead y front x → keep_run ts (kept_of x) ≡ ends_of (run ts x)
run_same y [] front x ran = ap (λ z. record { tree = z; rest = [] }) (text_same x)
run_same y (t ∷ ts) front x ran =
    ap (λ (o : Option Kept). keep_on o (kept_text (kept_of x)) (t ∷ ts) (λ next. keep_run ts next)) (keep_follows y x (front ++ t ∷ ts) ts t (ran.reads (t ∷ ts))) ∙
    ap (λ z. keep_on (lifted (read_step x t)) z (t ∷ ts) (λ next. keep_run ts next)) (text_same x) ∙
    on_same y front ts x t (read_step x t) refl ran (λ next r. run_same y ts (front ++ t ∷ []) next r)

start_same : (y : Entry) → keep_start y ≡ kept_of (start_of y)
start_same a_document = refl
start_same a_script = refl

pub kept_same : (y : Entry) (tokens : List Token) → keep_run tokens (keep_start y) ≡ ends_of (run tokens (start_of y))
kept_same y tokens = ap (keep_run tokens) (start_same y) ∙ run_same y tokens [] (start_of y) (begun y)

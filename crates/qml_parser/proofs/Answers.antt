-- The entries answer as the machine computes.
use Rattle.std.proofs.Common.{◌≡◌, ℕ, ◌+◌, ◌≤◌, Bool, true, false, List, [], ◌∷◌, ◌++◌, length, drop, Option, Some, None, Result, Ok, Err, refl, sym, ap, ◌∙◌, subst, arith}
use Rattle.std.specs.Prelude.{if◌then◌else◌, option_map}
use Rattle.std.proofs.lemmas.List.{length-drop}
use Rattle.qml_base.specs.declared.numbers.Place.{Place}
use Rattle.qml_syntax.specs.declared.token.TokenKind.TheVariants as k
use Rattle.qml_syntax.specs.declared.token.Token.{Token}
use Rattle.qml_syntax.specs.Nodes.{Table}
use Rattle.qml_syntax.specs.Listed.{listed_whole}
use Rattle.qml_syntax.specs.Opened.{IsListing}
use Rattle.js_machine.specs.declared.fault.ParseFault.{ParseFault}
use Rattle.js_machine.specs.declared.fault.ParseFault.TheVariants as fault
use Rattle.qml_machine.specs.DocumentMachine.{Entry, FileTree, whole_of, run, start_of}
use Rattle.qml_machine.specs.DocumentAnswer.{TellsText, IsSame, by_depth, by_rest, parse_of, deep_text}
use Rattle.qml_machine.specs.KeptDocument.{Ends, keep_run, keep_start, text_on}
use Rattle.qml_machine.proofs.KeptDocumentExact.{kept_same}
use Rattle.qml_machine.proofs.DocumentFronts.{text_answer, leaves_some}
use Rattle.qml_parser.specs.Answer.{Lists, Judges, Mirrors}

-- ---- what the machine computes is what is promised

mirrored : (y : Entry) (before : List Token) (e : Token) (p : Result FileTree ParseFault) (r : Result Table ParseFault) → Mirrors p r → TellsText IsSame y before e p → TellsText Lists y before e r
mirrored y before e p (Err fault.NoMemory) h a = tt
mirrored y before e (Ok w) (Ok s) h a = let P : FileTree → Type 0 = λ z. Lists s z in (a.0, subst P a.1 h, a.2, a.3)
mirrored y before e (Err (fault.Syntax p)) (Err (fault.Syntax q)) h a = let P : ParseFault → Type 0 = λ z. TellsText Lists y before e (Err z) in subst P h a
mirrored y before e (Err (fault.TooDeep p)) (Err (fault.TooDeep q)) h a = let P : ParseFault → Type 0 = λ z. TellsText Lists y before e (Err z) in subst P h a
mirrored y before e (Err (fault.Syntax p)) (Err (fault.TooDeep q)) h a = cc
mirrored y before e (Err (fault.TooDeep p)) (Err (fault.Syntax q)) h a = cc
mirrored y before e (Err fault.NoMemory) (Err (fault.Syntax q)) h a = cc
mirrored y before e (Err fault.NoMemory) (Err (fault.TooDeep q)) h a = cc
mirrored y before e (Ok w) (Err (fault.Syntax q)) h a = absurd h
mirrored y before e (Ok w) (Err (fault.TooDeep q)) h a = absurd h
mirrored y before e (Err x) (Ok s) h a = absurd h

pub promised : (y : Entry) (tokens : List Token) (r : Result Table ParseFault) → ((before : List Token) (e : Token) → tokens ≡ before ++ e ∷ [] → e.what ≡ k.End → Mirrors (parse_of y tokens) r) → (before : List Token) (e : Token) → tokens ≡ before ++ e ∷ [] → e.what ≡ k.End → TellsText Lists y before e r
promised y tokens r h before e q w =
    let P : List Token → Type 0 = λ z. Mirrors (parse_of y z) r in
    mirrored y before e (parse_of y (before ++ e ∷ [])) r (subst P q (h before e q w)) (text_answer y before e w)

-- ---- what the tokens leave

abbrev pub Front : Entry → List Token → Bool → Table → ℕ → Type 0
Front y tokens whole s count = (keep_run tokens (keep_start y) ≡ record { tree = if whole then Some s else None; rest = drop count tokens }) × (count ≤ length tokens)

tree_of : (y : Entry) (tokens : List Token) (whole : Bool) (s : Table) (count : ℕ) → Front y tokens whole s count → option_map text_on (run tokens (start_of y)).tree ≡ (if whole then Some s else None)
tree_of y tokens whole s count f = ap (λ (e : Ends). e.tree) (sym (kept_same y tokens) ∙ f.0)

rest_of : (y : Entry) (tokens : List Token) (whole : Bool) (s : Table) (count : ℕ) → Front y tokens whole s count → (run tokens (start_of y)).rest ≡ drop count tokens
rest_of y tokens whole s count f = ap (λ (e : Ends). e.rest) (sym (kept_same y tokens) ∙ f.0)

some_known : (o : Option FileTree) (s : Table) → option_map text_on o ≡ Some s → (w : FileTree) × (o ≡ Some w) × (s ≡ listed_whole (whole_of w))
some_known None s h = cc
some_known (Some w) s h = (w, refl, cc)

pub listing : (y : Entry) (tokens : List Token) (whole : Bool) (s : Table) (count : ℕ) → whole ≡ true → Front y tokens whole s count → IsListing s
listing y tokens true s count h f = let x = some_known (run tokens (start_of y)).tree s (tree_of y tokens true s count f) in (whole_of x.0, sym x.2)
listing y tokens false s count h f = cc

pub silent : (p : Result FileTree ParseFault) → Mirrors p (Err fault.NoMemory)
silent (Ok w) = tt
silent (Err x) = tt

judged_mirrors : (w : FileTree) (s : Table) (r : Result Table ParseFault) → s ≡ listed_whole (whole_of w) → Judges s r → Mirrors (by_depth (deep_text w) w) r
judged_mirrors w s (Ok a) h j = let P : Option Place → Type 0 = λ z. Mirrors (by_depth z w) (Ok a) in subst P (sym (j.1 (whole_of w) h)) (j.0 ∙ h)
judged_mirrors w s (Err (fault.TooDeep p)) h j = let P : Option Place → Type 0 = λ z. Mirrors (by_depth z w) (Err (fault.TooDeep p)) in subst P (sym (j (whole_of w) h)) refl
judged_mirrors w s (Err (fault.Syntax p)) h j = absurd j
judged_mirrors w s (Err fault.NoMemory) h j = silent (by_depth (deep_text w) w)

one_left : (l : List Token) → length l ≡ 1 → (t : Token) × (l ≡ t ∷ [])
one_left [] h = absurd (omega (arith, h))
one_left (t ∷ []) h = (t, refl)
one_left (t ∷ u ∷ more) h = absurd (omega (arith, h))

-- all tokens but the end are read
pub reads_all : (y : Entry) (tokens : List Token) (whole : Bool) (s : Table) (count : ℕ) (r : Result Table ParseFault) → whole ≡ true → count + 1 ≡ length tokens → Front y tokens whole s count → Judges s r → Mirrors (parse_of y tokens) r
reads_all y tokens false s count r w n f j = cc
reads_all y tokens true s count r w n f j =
    let x = some_known (run tokens (start_of y)).tree s (tree_of y tokens true s count f) in
    let l : length (drop count tokens) ≡ 1 = omega (arith, length-drop count tokens, n) in
    let z = one_left (drop count tokens) l in
    let P : Option FileTree → Type 0 = λ o. Mirrors (by_rest o (run tokens (start_of y)).rest) r in
    let Q : List Token → Type 0 = λ v. Mirrors (by_rest (Some x.0) v) r in
    subst P (sym x.1) (subst Q (sym (rest_of y tokens true s count f ∙ z.1)) (judged_mirrors x.0 s r x.2 j))

syntax_mirrors : (o : Option FileTree) (rest : List Token) (place : Place) (whole : Bool) (s : Table) → option_map text_on o ≡ (if whole then Some s else None) → (rest ≡ [] → ⊥) → (whole ≡ true → length rest ≡ 1 → ⊥) → ((t : Token) (more : List Token) → rest ≡ t ∷ more → place ≡ t.place) → Mirrors (by_rest o rest) (Err (fault.Syntax place))
syntax_mirrors o [] place whole s h n z d = absurd (n refl)
syntax_mirrors None (t ∷ more) place whole s h n z d = ap (λ v. fault.Syntax v) (sym (d t more refl))
syntax_mirrors (Some w) (t ∷ []) place true s h n z d = absurd (z refl refl)
syntax_mirrors (Some w) (t ∷ []) place false s h n z d = cc
syntax_mirrors (Some w) (t ∷ u ∷ more) place whole s h n z d = ap (λ v. fault.Syntax v) (sym (d t (u ∷ more) refl))

-- they aren't
pub refuses : (y : Entry) (tokens : List Token) (whole : Bool) (s : Table) (count : ℕ) (place : Place) → (whole ≡ true → count + 1 ≡ length tokens → ⊥) → Front y tokens whole s count → ((t : Token) (more : List Token) → drop count tokens ≡ t ∷ more → place ≡ t.place) → (before : List Token) (e : Token) → tokens ≡ before ++ e ∷ [] → e.what ≡ k.End → Mirrors (parse_of y tokens) (Err (fault.Syntax place))
refuses y tokens whole s count place n f d before e q w =
    let g = rest_of y tokens whole s count f in
    let P : List Token → Type 0 = λ z. (run z (start_of y)).rest ≡ [] → ⊥ in
    let some : (run tokens (start_of y)).rest ≡ [] → ⊥ = subst P (sym q) (leaves_some before e (start_of y) w) in
    syntax_mirrors (run tokens (start_of y)).tree (run tokens (start_of y)).rest place whole s (tree_of y tokens whole s count f) some (λ b l. n b (omega (arith, l, ap length g, length-drop count tokens, f.1))) (λ t more z. d t more (sym g ∙ z))

pub not_both : (b : Bool) → b ≡ false → b ≡ true → ⊥
not_both true h f = cc
not_both false h f = cc

-- A file of given bytes is one source.
use Rattle.std.proofs.Common.{◌≡◌, ◌∙◌, ap, sym, refl, subst, ℕ, Bool, true, false, inl, inr, List, [], ◌∷◌, ◌++◌, drop, Option, Some, None, Result, Ok, Err, is_some}
use Rattle.std.specs.Prelude.{nat_lt, length}
use Rattle.std.specs.Option.{unwrap_or}
use Rattle.std.proofs.lemmas.Bool.{false≢true}
use Rattle.qml_base.specs.declared.numbers.Place.{Place}
use Rattle.qml_base.specs.declared.load_cause.LoadCause.TheVariants as cause
use Rattle.qml_syntax.specs.declared.token.Token.{Token}
use Rattle.qml_lexer.specs.declared.fault.LexCause.{LexCause}
use Rattle.qml_lexer.specs.Lex.{IsLexed, IsRefused}
use Rattle.js_machine.specs.declared.fault.ParseFault.{ParseFault}
use Rattle.js_machine.specs.declared.fault.ParseFault.TheVariants as fault
use Rattle.qml_machine.specs.DocumentMachine.{Entry, a_document, a_script, FileTree, of_document, of_script}
use Rattle.qml_machine.specs.DocumentAnswer.{ReadsText, IsReadPrefix, Parts, TellsText, IsSame, deep_text}
use Rattle.qml_machine.proofs.DocumentExact.{one_document, one_script}
use Rattle.program_names.specs.Reading.{Source, unread}
use Rattle.file_sources.specs.Sources.{entry, source_of_tree, IsSourceBy, IsReadAs, HasTokens, most_bytes, IsOfBytes, IsSource}

one_tree : (y : Entry) (w v : FileTree) (tokens : List Token) → ReadsText y w tokens [] → ReadsText y v tokens [] → w ≡ v
one_tree a_document (of_document d) (of_document e) tokens h k = ap of_document (one_document tokens d e h k)
one_tree a_document (of_document d) (of_script e) tokens h k = absurd k
one_tree a_document (of_script d) v tokens h k = absurd h
one_tree a_script (of_script d) (of_script e) tokens h k = ap of_script (one_script tokens d e h k)
one_tree a_script (of_script d) (of_document e) tokens h k = absurd k
one_tree a_script (of_document d) v tokens h k = absurd h

-- ---- the first token with which nothing goes on

assoc : (a b c : List Token) → (a ++ b) ++ c ≡ a ++ (b ++ c)
assoc [] b c = refl
assoc (x ∷ a) b c = ap (λ (xs : List Token). x ∷ xs) (assoc a b c)

shorter : (y : Entry) (a b : List Token) → IsReadPrefix y (a ++ b) → IsReadPrefix y a
shorter y a b h = (b ++ h.0, h.1, subst (λ ts. ReadsText y h.1 ts []) (assoc a b h.0) h.2)

abbrev head_or : Token → List Token → Token
head_or t [] = t
head_or t (x ∷ xs) = x

one_further : (y : Entry) (done f : List Token) (x : Token) → IsReadPrefix y (done ++ (x ∷ f)) → IsReadPrefix y (done ++ x ∷ [])
one_further y done f x h = shorter y (done ++ x ∷ []) f (subst (IsReadPrefix y) (sym (assoc done (x ∷ []) f)) h)

same_token : (y : Entry) (done f g : List Token) (t u : Token) (more rest : List Token) → f ++ (t ∷ more) ≡ g ++ (u ∷ rest)
    → IsReadPrefix y (done ++ f) → IsReadPrefix y (done ++ g)
    → (IsReadPrefix y (done ++ (f ++ t ∷ [])) → ⊥) → (IsReadPrefix y (done ++ (g ++ u ∷ [])) → ⊥) → t ≡ u
same_token y done [] [] t u more rest e h k a b = ap (head_or t) e
same_token y done [] (x ∷ g) t u more rest e h k a b =
    absurd (a (subst (λ z. IsReadPrefix y (done ++ z ∷ [])) (sym (ap (head_or t) e)) (one_further y done g x k)))
same_token y done (x ∷ f) [] t u more rest e h k a b =
    absurd (b (subst (λ z. IsReadPrefix y (done ++ z ∷ [])) (ap (head_or t) e) (one_further y done f x h)))
same_token y done (x ∷ f) (z ∷ g) t u more rest e h k a b =
    let same : x ≡ z = ap (head_or t) e in
    same_token y (done ++ x ∷ []) f g t u more rest (ap (drop 1) e)
    (subst (IsReadPrefix y) (sym (assoc done (x ∷ []) f)) h)
    (subst (IsReadPrefix y) (sym (assoc done (x ∷ []) g)) (subst (λ w. IsReadPrefix y (done ++ (w ∷ g))) (sym same) k))
    (λ p. a (subst (IsReadPrefix y) (assoc done (x ∷ []) (f ++ t ∷ [])) p))
    (λ p. b (subst (λ w. IsReadPrefix y (done ++ (w ∷ (g ++ u ∷ [])))) same (subst (IsReadPrefix y) (assoc done (x ∷ []) (g ++ u ∷ [])) p)))

same_stop : (y : Entry) (tokens f g : List Token) (t u : Token) (more rest : List Token) → Parts y tokens f (t ∷ more) → Parts y tokens g (u ∷ rest) → t ≡ u
same_stop y tokens f g t u more rest p q =
    same_token y [] f g t u more rest (sym p.split ∙ q.split) p.goes_on q.goes_on (p.ends t more refl) (q.ends u rest refl)

-- ---- the answer

none_some : {A : Type 0} {P : Type 0} (o : Option A) (x : A) → o ≡ None → o ≡ Some x → P
none_some o x e f = absurd (false≢true (sym (ap is_some e) ∙ ap is_some f))

one_answer : (y : Entry) (before : List Token) (e : Token) (a b : Result FileTree ParseFault) (s r : Source)
    → TellsText IsSame y before e a → TellsText IsSame y before e b → IsSourceBy a s → IsSourceBy b r → s ≡ r
one_answer y before e (Ok w) (Ok v) s r h k p q =
    p ∙ ap source_of_tree (h.1 ∙ one_tree y h.0 k.0 before h.2 k.2 ∙ sym k.1) ∙ sym q
one_answer y before e (Ok w) (Err (fault.Syntax at)) s r h k p q = absurd (k.0 h.0 h.2)
one_answer y before e (Ok w) (Err (fault.TooDeep at)) s r h k p q =
    none_some (deep_text h.0) at h.3 (ap deep_text (one_tree y h.0 k.0 before h.2 k.1) ∙ k.2)
one_answer y before e (Ok w) (Err fault.NoMemory) s r h k p q = absurd q
one_answer y before e (Err (fault.Syntax at)) (Ok v) s r h k p q = absurd (h.0 k.0 k.2)
one_answer y before e (Err (fault.Syntax at)) (Err (fault.Syntax of)) s r h k p q =
    p ∙ ap (λ (z : Place). unread z cause.Syntax)
    (sym h.1.4 ∙ ap (λ (t : Token). t.place) (same_stop y (before ++ e ∷ []) h.1.0 k.1.0 h.1.1 k.1.1 h.1.2 k.1.2 h.1.3 k.1.3) ∙ k.1.4) ∙ sym q
one_answer y before e (Err (fault.Syntax at)) (Err (fault.TooDeep of)) s r h k p q = absurd (h.0 k.0 k.1)
one_answer y before e (Err (fault.Syntax at)) (Err fault.NoMemory) s r h k p q = absurd q
one_answer y before e (Err (fault.TooDeep at)) (Ok v) s r h k p q =
    none_some (deep_text k.0) at k.3 (ap deep_text (one_tree y k.0 h.0 before k.2 h.1) ∙ h.2)
one_answer y before e (Err (fault.TooDeep at)) (Err (fault.Syntax of)) s r h k p q = absurd (k.0 h.0 h.1)
one_answer y before e (Err (fault.TooDeep at)) (Err (fault.TooDeep of)) s r h k p q =
    p ∙ ap (λ (z : Place). unread z cause.TooDeep)
    (ap (λ (o : Option Place). unwrap_or o at) (sym h.2 ∙ ap deep_text (one_tree y h.0 k.0 before h.1 k.1) ∙ k.2)) ∙ sym q
one_answer y before e (Err (fault.TooDeep at)) (Err fault.NoMemory) s r h k p q = absurd q
one_answer y before e (Err fault.NoMemory) b s r h k p q = absurd p

-- ---- the bytes

same_last : (a b : List Token) (t u : Token) → a ++ t ∷ [] ≡ b ++ u ∷ [] → (a ≡ b) × (t ≡ u)
same_last [] [] t u e = (refl, ap (head_or t) e)
same_last [] (y ∷ b) t u e = no_rest b u (ap (drop 1) e)
  where
    no_rest : {P : Type 0} (b : List Token) (u : Token) → Path (List Token) [] (b ++ u ∷ []) → P
    no_rest [] u e = absurd (cc)
    no_rest (z ∷ b) u e = absurd (cc)
same_last (x ∷ a) [] t u e = no_rest a t (sym (ap (drop 1) e))
  where
    no_rest : {P : Type 0} (b : List Token) (u : Token) → Path (List Token) [] (b ++ u ∷ []) → P
    no_rest [] u e = absurd (cc)
    no_rest (z ∷ b) u e = absurd (cc)
same_last (x ∷ a) (y ∷ b) t u e =
    let r : (a ≡ b) × (t ≡ u) = same_last a b t u (ap (drop 1) e) in
    (ap (λ (xs : List Token). x ∷ xs) r.0 ∙ ap (λ z. z ∷ b) (ap (head_or x) e), r.1)

-- what is known of the tokens of these bytes
pub record LexedOnce (bytes : List ℕ) : Type 0 where
  pub one : (ts us : List Token) → IsLexed bytes ts → IsLexed bytes us → ts ≡ us
  pub none : (ts : List Token) (p : Place) (c : LexCause) → IsLexed bytes ts → ¬ (IsRefused bytes p c)
  pub once : (p q : Place) (c d : LexCause) → IsRefused bytes p c → IsRefused bytes q d → (p ≡ q) × (c ≡ d)

of_tokens : (k : Bool) (bytes : List ℕ) (s r : Source) → LexedOnce bytes → HasTokens k bytes s → HasTokens k bytes r → s ≡ r
of_tokens k bytes s r laws h j =
    let same : (h.before ≡ j.before) × (h.end ≡ j.end) = same_last h.before j.before h.end j.end (laws.one _ _ h.lexed j.lexed) in
    let read : IsReadAs k j.before j.end s = subst (λ b. IsReadAs k b j.end s) same.0 (subst (λ e. IsReadAs k h.before e s) same.1 h.read) in
    one_answer (entry k) j.before j.end read.answer j.read.answer s r read.tells j.read.tells read.gives j.read.gives

by_size : (b k : Bool) (bytes : List ℕ) (s r : Source) → LexedOnce bytes → IsOfBytes b k bytes s → IsOfBytes b k bytes r → s ≡ r
by_size true k bytes s r laws h j = h ∙ sym j
by_size false k bytes s r laws (inl h) (inl j) =
    h.gives ∙ ap (λ (p : Place). unread p cause.Syntax) (laws.once h.place j.place h.why j.why h.refused j.refused).0 ∙ sym j.gives
by_size false k bytes s r laws (inl h) (inr j) = absurd (laws.none _ h.place h.why j.lexed h.refused)
by_size false k bytes s r laws (inr h) (inl j) = absurd (laws.none _ j.place j.why h.lexed j.refused)
by_size false k bytes s r laws (inr h) (inr j) = of_tokens k bytes s r laws h j

pub one_file : (k : Bool) (bytes : Option (List ℕ)) (s r : Source) → ((xs : List ℕ) → LexedOnce xs) → IsSource k bytes s → IsSource k bytes r → s ≡ r
one_file k None s r laws h j = h ∙ sym j
one_file k (Some bytes) s r laws h j = by_size (nat_lt most_bytes (length bytes)) k bytes s r (laws bytes) h j

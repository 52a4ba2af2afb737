-- Whether a list of statements reads all tokens.
use Rattle.std.proofs.Common.{◌≡◌, ℕ, zero, suc, ◌+◌, ◌-◌, ◌<◌, ◌≤◌, ◌⊎◌, inl, inr, Bool, true, false, List, [], ◌∷◌, ◌++◌, length, take, drop, Some, None, Ok, Err, refl, sym, ap, ◌∙◌, arith, subst, length-append, append_assoc}
use Rattle.std.specs.Prelude.{MatchBool}
use Rattle.qml_base.specs.declared.numbers.Place.{Place}
use Rattle.qml_syntax.specs.declared.token.Token.{Token}
use Rattle.qml_syntax.specs.Nodes.{Table}
use Rattle.qml_syntax.specs.Tree.{whole_body, whole_expr, whole_stmt, whole_document, whole_script}
use Rattle.qml_syntax.specs.Depth.{deep_whole}
use Rattle.js_machine.specs.declared.fault.ParseFault.TheVariants as fault
use Rattle.js_machine.specs.Machine.{a_body, Whole}
use Rattle.js_machine.specs.Answer.{ReadsWhole}
use Rattle.js_machine.specs.Front.{AreWhole, FrontAnswer, IsLongestFront}
use Rattle.js_machine.proofs.Exact.{one_body}
use Rattle.js_parser.specs.Parse.{Lists}
use Rattle.qml_lexer.specs.Lex.{Tokens, at_end, over_gap, over_token, IsLexed}
use Rattle.qml_lexer.proofs.LexLemmas.{one_lexed}
use Rattle.event_script.specs.Script.{IsRead, IsBody}

-- the tokens of bytes end in the end
before_whole : (t : Token) (ts : List Token) → AreWhole ts → AreWhole (t ∷ ts)
before_whole t ts r = (t ∷ r.0, r.1, ap (λ z. t ∷ z) r.2, r.3)

tokens_end : (bytes : List ℕ) (end at : ℕ) (xs : List ℕ) (ts : List Token) → Tokens bytes end at xs ts → AreWhole ts
tokens_end bytes _ _ _ _ at_end = ([], _, refl, refl)
tokens_end bytes _ _ _ _ (over_gap w more e t h) = tokens_end bytes _ _ _ _ h
tokens_end bytes _ _ _ _ (over_token w more what e t h) = before_whole _ _ (tokens_end bytes _ _ _ _ h)

pub lexed_ends : (bytes : List ℕ) (ts : List Token) → IsLexed bytes ts → AreWhole ts
lexed_ends bytes ts l = tokens_end _ _ _ _ _ l.1

take_front : (front rest : List Token) → take (length front) (front ++ rest) ≡ front
take_front [] rest = refl
take_front (x ∷ front) rest = ap (λ ys. x ∷ ys) (take_front front rest)

-- a front that is shorter than some list is followed by a token of it
next_of : (m : ℕ) (before : List Token) (rest : List Token) → m < length before → (t : Token) × (more : List Token) × (drop m (before ++ rest) ≡ t ∷ (more ++ rest)) × (take m (before ++ rest) ++ (t ∷ more) ≡ before)
next_of m [] rest h = absurd (omega (arith, h))
next_of zero (x ∷ before) rest h = (x, before, refl, refl)
next_of (suc m) (x ∷ before) rest h = let r = next_of m before rest (omega (arith, h)) in (r.0, r.1, r.2, ap (λ z. x ∷ z) r.3)

or_not : (m n : ℕ) → (m < n) ⊎ (n ≤ m)
or_not m zero = inr (omega arith)
or_not zero (suc n) = inl (omega arith)
or_not (suc m) (suc n) = by (or_not m n)
  where
    by : (m < n) ⊎ (n ≤ m) → (suc m < suc n) ⊎ (suc n ≤ suc m)
    by (inl h) = inl (omega (arith, h))
    by (inr h) = inr (omega (arith, h))

front_cut : (tokens : List Token) (m : ℕ) (front : List Token) → IsLongestFront a_body tokens 0 m front → front ≡ take m tokens
front_cut tokens m front l = let all : m - 0 ≡ m = omega arith in l.is_front ∙ ap (λ n. take n tokens) all

-- where all but the end can be read, the longest front is all but the end
whole_front : (tokens : List Token) (m : ℕ) (front : List Token) (r : IsRead tokens) → IsLongestFront a_body tokens 0 m front → (m + 1 ≡ length tokens) × (front ≡ r.before)
whole_front tokens m front r l =
    let long : length tokens ≡ length r.before + 1 = ap length r.split ∙ length-append r.before (r.last ∷ []) in
    let short : m ≤ length r.before = omega (arith, l.inside, long) in
    let cut : front ≡ take m (r.before ++ r.last ∷ []) = front_cut tokens m front l ∙ ap (take m) r.split in
    by (or_not m (length r.before)) long short cut
  where
    early : m < length r.before → front ≡ take m (r.before ++ r.last ∷ []) → ⊥
    early s cut =
        let n = next_of m r.before (r.last ∷ []) s in
        let joined : front ++ (n.0 ∷ n.1) ≡ r.before = ap (λ z. z ++ (n.0 ∷ n.1)) cut ∙ n.3 in
        let P : List Token → Type 0 = λ z. ReadsWhole a_body r.body z [] in
        l.ends n.0 (n.1 ++ r.last ∷ []) (ap (drop m) r.split ∙ n.2) (n.1, r.body, subst P (sym (append_assoc front (n.0 ∷ []) n.1 ∙ joined)) r.reads)

    by : (m < length r.before) ⊎ (length r.before ≤ m) → length tokens ≡ length r.before + 1 → m ≤ length r.before → front ≡ take m (r.before ++ r.last ∷ []) → (m + 1 ≡ length tokens) × (front ≡ r.before)
    by (inl s) long short cut = absurd (early s cut)
    by (inr s) long short cut =
        let same : m ≡ length r.before = omega (arith, s, short) in
        (omega (arith, same, long), cut ∙ ap (λ n. take n (r.before ++ r.last ∷ [])) same ∙ take_front r.before (r.last ∷ []))

-- a front that ends one before the end of all tokens is all but the end
all_but_end : (tokens before : List Token) (e : Token) (m : ℕ) → tokens ≡ before ++ e ∷ [] → m + 1 ≡ length tokens → take m tokens ≡ before
all_but_end tokens before e m split long =
    let same : m ≡ length before = omega (arith, long, ap length split, length-append before (e ∷ [])) in
    ap (λ n. take n tokens) same ∙ ap (take (length before)) split ∙ take_front before (e ∷ [])

pub reads_all : (tokens : List Token) (answer : Table × ℕ) → AreWhole tokens → FrontAnswer Lists a_body tokens 0 (Ok answer) → answer.1 + 1 ≡ length tokens → IsRead tokens
reads_all tokens answer w f long =
    let told = f.tells in
    let m : f.m + 1 ≡ length tokens = ap (λ n. n + 1) (sym told.0) ∙ long in
    let front : f.front ≡ w.0 = front_cut tokens f.m f.front f.longest ∙ all_but_end tokens w.0 w.1 f.m w.2 m in
    let P : List Token → Type 0 = λ z. ReadsWhole a_body told.1 z [] in
    record { before = w.0; last = w.1; body = told.1; split = w.2; ends = w.3; reads = subst P front told.3; shallow = told.4 }

pub ends_early : (tokens : List Token) (answer : Table × ℕ) → FrontAnswer Lists a_body tokens 0 (Ok answer) → (answer.1 + 1 ≡ length tokens → ⊥) → IsRead tokens → ⊥
ends_early tokens answer f short r = short (ap (λ n. n + 1) f.tells.0 ∙ (whole_front tokens f.m f.front r f.longest).0)

pub reads_nothing : (tokens : List Token) (place : Place) → FrontAnswer Lists a_body tokens 0 (Err (fault.Syntax place)) → IsRead tokens → ⊥
reads_nothing tokens place f r =
    let P : List Token → Type 0 = λ z. ReadsWhole a_body r.body z [] in
    f.tells.0 r.body (subst P (sym (whole_front tokens f.m f.front r f.longest).1) r.reads)

-- at most one body reads given tokens
same_body : (v w : Whole) (tokens : List Token) → ReadsWhole a_body v tokens [] → ReadsWhole a_body w tokens [] → v ≡ w
same_body (whole_body ss) (whole_body ts) tokens p q = ap whole_body (one_body tokens ss ts p q)
same_body (whole_expr e) w tokens p q = absurd p
same_body (whole_stmt e) w tokens p q = absurd p
same_body (whole_document e) w tokens p q = absurd p
same_body (whole_script e) w tokens p q = absurd p
same_body (whole_body ss) (whole_expr e) tokens p q = absurd q
same_body (whole_body ss) (whole_stmt e) tokens p q = absurd q
same_body (whole_body ss) (whole_document e) tokens p q = absurd q
same_body (whole_body ss) (whole_script e) tokens p q = absurd q

pub too_deep : (tokens : List Token) (place : Place) → FrontAnswer Lists a_body tokens 0 (Err (fault.TooDeep place)) → IsRead tokens → ⊥
too_deep tokens place f r =
    let P : List Token → Type 0 = λ z. ReadsWhole a_body f.tells.0 z [] in
    let read = subst P (whole_front tokens f.m f.front r f.longest).1 f.tells.1 in
    let none : deep_whole f.tells.0 ≡ None = ap deep_whole (same_body f.tells.0 r.body r.before read r.reads) ∙ r.shallow in
    let some : deep_whole f.tells.0 ≡ Some place = f.tells.2 in
    cc

is_no_body : (bytes : List ℕ) (tokens : List Token) → IsLexed bytes tokens → (IsRead tokens → ⊥) → IsBody bytes → ⊥
is_no_body bytes tokens l n b =
    let P : List Token → Type 0 = λ z. IsRead z in
    n (subst P (one_lexed bytes b.tokens tokens b.lexed l) b.read)

pub by_tokens : (bytes : List ℕ) (tokens : List Token) (good : Bool) → IsLexed bytes tokens → MatchBool good (IsRead tokens) (IsRead tokens → ⊥) → MatchBool good (IsBody bytes) (IsBody bytes → ⊥)
by_tokens bytes tokens true l r = record { tokens = tokens; lexed = l; read = r }
by_tokens bytes tokens false l r = is_no_body bytes tokens l r

pub unread : (bytes : List ℕ) → ((ts : List Token) → IsLexed bytes ts → ⊥) → IsBody bytes → ⊥
unread bytes n b = n b.tokens b.lexed

pub whole_some : (tokens : List Token) → AreWhole tokens → 0 < length tokens
whole_some tokens w = omega (arith, ap length w.2, length-append w.0 (w.1 ∷ []))

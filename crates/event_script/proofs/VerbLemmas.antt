-- What words ask for.
use Rattle.std.proofs.Common.{◌≡◌, ◌≢◌, ℕ, true, false, List, [], refl, sym, ap, ◌∙◌, subst}
use Rattle.std.specs.Prelude.{codes}
use Rattle.std.specs.Str.{bytes_eq, IsUtf8, chars, encode_utf8_all}
use Rattle.std.proofs.lemmas.Str.{encodes-chars}
use Rattle.qml_lexer.proofs.NameLemmas.{lower_encodes, same_bytes}
use Rattle.event_script.specs.Script.{IsBody, IsTime, IsPath, Asks}
use Rattle.event_script.specs.Verbs.{spelling}
use Rattle.event_script.specs.declared.kinds.Verb.{Verb}
use Rattle.event_script.specs.declared.kinds.Verb.TheVariants as verb
use Rattle.event_script.specs.declared.script.LineKind.{LineKind}
use Rattle.event_script.specs.declared.script.LineKind.TheVariants as asks

-- ---- words as bytes and as characters

verb_chars : (v : Verb) → chars (spelling v) ≡ spelling v
unfolding chars
verb_chars verb.Do = refl
verb_chars verb.Advance = refl
verb_chars verb.Tick = refl
verb_chars verb.Print = refl

verb_bytes : (v : Verb) → encode_utf8_all (spelling v) ≡ spelling v
verb_bytes verb.Do = lower_encodes _ refl
verb_bytes verb.Advance = lower_encodes _ refl
verb_bytes verb.Tick = lower_encodes _ refl
verb_bytes verb.Print = lower_encodes _ refl

pub spells : (bytes : List ℕ) (v : Verb) → bytes_eq bytes (spelling v) ≡ true → chars bytes ≡ spelling v
spells bytes v e = ap chars (same_bytes bytes (spelling v) e) ∙ verb_chars v

verb_itself : (v : Verb) → bytes_eq (spelling v) (spelling v) ≡ true
verb_itself verb.Do = refl
verb_itself verb.Advance = refl
verb_itself verb.Tick = refl
verb_itself verb.Print = refl

other_bytes : (bytes : List ℕ) (v : Verb) → IsUtf8 bytes → chars bytes ≡ spelling v → bytes ≡ spelling v
other_bytes bytes v u e = sym (encodes-chars bytes u) ∙ ap encode_utf8_all e ∙ verb_bytes v

another_word : (bytes : List ℕ) (v : Verb) → IsUtf8 bytes → bytes_eq bytes (spelling v) ≡ false → chars bytes ≢ spelling v
another_word bytes v u n e =
    let same : bytes_eq bytes (spelling v) ≡ true = ap (λ z. bytes_eq z (spelling v)) (other_bytes bytes v u e) ∙ verb_itself v in
    cc

pub spells_none : (bytes : List ℕ) → IsUtf8 bytes → bytes_eq bytes (spelling verb.Do) ≡ false → bytes_eq bytes (spelling verb.Print) ≡ false → bytes_eq bytes (spelling verb.Advance) ≡ false
    → bytes_eq bytes (spelling verb.Tick) ≡ false → (v : Verb) → chars bytes ≢ spelling v
spells_none bytes u d p a t verb.Do = another_word bytes verb.Do u d
spells_none bytes u d p a t verb.Print = another_word bytes verb.Print u p
spells_none bytes u d p a t verb.Advance = another_word bytes verb.Advance u a
spells_none bytes u d p a t verb.Tick = another_word bytes verb.Tick u t

pub no_verb : (word rest : List ℕ) → ((v : Verb) → word ≢ spelling v) → (kind : LineKind) → Asks word rest kind → ⊥
no_verb word rest n asks.Do a = n verb.Do a.0
no_verb word rest n (asks.Advance m) a = n verb.Advance a.0
no_verb word rest n asks.Tick a = n verb.Tick a.0
no_verb word rest n asks.Print a = n verb.Print a.0
no_verb word rest n asks.PrintPath a = n verb.Print a.0

-- ---- what each word asks for

pub does : (bytes : List ℕ) → IsUtf8 bytes → IsBody bytes → Asks (codes "do") (chars bytes) asks.Do
does bytes u b = (refl, subst IsBody (sym (encodes-chars bytes u)) b)

pub does_nothing : (bytes : List ℕ) → IsUtf8 bytes → (IsBody bytes → ⊥) → (kind : LineKind) → Asks (codes "do") (chars bytes) kind → ⊥
does_nothing bytes u n asks.Do a = n (subst IsBody (encodes-chars bytes u) a.1)
does_nothing bytes u n (asks.Advance m) a = let e : codes "do" ≡ codes "advance" = a.0 in cc
does_nothing bytes u n asks.Tick a = let e : codes "do" ≡ codes "tick" = a.0 in cc
does_nothing bytes u n asks.Print a = let e : codes "do" ≡ codes "print" = a.0 in cc
does_nothing bytes u n asks.PrintPath a = let e : codes "do" ≡ codes "print" = a.0 in cc

pub advances_nothing : (rest : List ℕ) → ((n : ℕ) → IsTime n rest → ⊥) → (kind : LineKind) → Asks (codes "advance") rest kind → ⊥
advances_nothing rest n asks.Do a = let e : codes "advance" ≡ codes "do" = a.0 in cc
advances_nothing rest n (asks.Advance m) a = n m a.1
advances_nothing rest n asks.Tick a = let e : codes "advance" ≡ codes "tick" = a.0 in cc
advances_nothing rest n asks.Print a = let e : codes "advance" ≡ codes "print" = a.0 in cc
advances_nothing rest n asks.PrintPath a = let e : codes "advance" ≡ codes "print" = a.0 in cc

pub ticks_nothing : (rest : List ℕ) → rest ≢ [] → (kind : LineKind) → Asks (codes "tick") rest kind → ⊥
ticks_nothing rest n asks.Do a = let e : codes "tick" ≡ codes "do" = a.0 in cc
ticks_nothing rest n (asks.Advance m) a = let e : codes "tick" ≡ codes "advance" = a.0 in cc
ticks_nothing rest n asks.Tick a = n a.1
ticks_nothing rest n asks.Print a = let e : codes "tick" ≡ codes "print" = a.0 in cc
ticks_nothing rest n asks.PrintPath a = let e : codes "tick" ≡ codes "print" = a.0 in cc

pub prints_nothing : (rest : List ℕ) → rest ≢ [] → (IsPath rest → ⊥) → (kind : LineKind) → Asks (codes "print") rest kind → ⊥
prints_nothing rest n p asks.Do a = let e : codes "print" ≡ codes "do" = a.0 in cc
prints_nothing rest n p (asks.Advance m) a = let e : codes "print" ≡ codes "advance" = a.0 in cc
prints_nothing rest n p asks.Tick a = let e : codes "print" ≡ codes "tick" = a.0 in cc
prints_nothing rest n p asks.Print a = n a.1
prints_nothing rest n p asks.PrintPath a = p a.1

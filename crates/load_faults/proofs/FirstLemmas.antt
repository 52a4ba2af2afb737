-- Lemmas of the first fault: faults may be told in any order.
use Rattle.std.proofs.Common.{◌≡◌, ◌∙◌, ℕ, Bool, true, false, if◌then◌else◌, List, [], ◌∷◌, ◌++◌, Option, None, Some, refl, ap, sym}
use Rattle.std.proofs.lemmas.Bool.{false≢true}
use Rattle.std.specs.Prelude.{slice_index_or, zero, suc, ◌<◌, ◌⊎◌, length, Contains, unwrap_or, is_none}
use Rattle.std.proofs.Common.{inl, inr, arith}
use Rattle.qml_base.specs.declared.load_cause.LoadCause.{LoadCause}
use Rattle.qml_base.specs.declared.load_cause.LoadCause.TheVariants as cause
use Rattle.program_names.specs.declared.fault.Fault.{Fault}
use Rattle.load_faults.specs.Faults.{Faults, first_from, first_of_two, comes_before, rank}
use Rattle.load_faults.proofs.OrderLemmas.{asymmetric, transitive, same_line, same_column, same_rank}

pub first_from-append : (kept : Option Fault) (some others : Faults) → first_from kept (some ++ others) ≡ first_from (first_from kept some) others
first_from-append kept [] others = refl
first_from-append kept (f ∷ rest) others = first_from-append (first_of_two kept f) rest others

causes : List LoadCause
causes =
    cause.Missing ∷ cause.TooMany ∷ cause.Syntax ∷ cause.TooDeep ∷ cause.UnknownModule ∷ cause.UnknownType ∷ cause.UnitCycle ∷
    cause.DuplicateId ∷ cause.DuplicateName ∷ cause.UnknownProperty ∷ cause.ReadOnly ∷ cause.NotLiteral ∷ cause.BadKind ∷
    cause.BadAlias ∷ cause.AliasCycle ∷ cause.BadTarget ∷ cause.UnknownState ∷ cause.ExtendCycle ∷ cause.BadBinding ∷
    cause.SideEffect ∷ cause.NotYet ∷ []

-- the cause of a rank
abbrev cause_at : ℕ → LoadCause
unfolding causes
cause_at n = slice_index_or causes n cause.Missing

cause_of_rank : (c : LoadCause) → cause_at (rank c) ≡ c
unfolding cause_at causes
cause_of_rank cause.Missing = refl
cause_of_rank cause.TooMany = refl
cause_of_rank cause.Syntax = refl
cause_of_rank cause.TooDeep = refl
cause_of_rank cause.UnknownModule = refl
cause_of_rank cause.UnknownType = refl
cause_of_rank cause.UnitCycle = refl
cause_of_rank cause.DuplicateId = refl
cause_of_rank cause.DuplicateName = refl
cause_of_rank cause.UnknownProperty = refl
cause_of_rank cause.ReadOnly = refl
cause_of_rank cause.NotLiteral = refl
cause_of_rank cause.BadKind = refl
cause_of_rank cause.BadAlias = refl
cause_of_rank cause.AliasCycle = refl
cause_of_rank cause.BadTarget = refl
cause_of_rank cause.UnknownState = refl
cause_of_rank cause.ExtendCycle = refl
cause_of_rank cause.BadBinding = refl
cause_of_rank cause.SideEffect = refl
cause_of_rank cause.NotYet = refl

same_cause : (a b : LoadCause) → rank a ≡ rank b → a ≡ b
same_cause a b e = sym (cause_of_rank a) ∙ ap cause_at e ∙ cause_of_rank b

made_alike : (l m c d : ℕ) (j k : LoadCause) → l ≡ m → c ≡ d → j ≡ k → Path Fault (record { at = record { line = l; column = c }; cause = j }) (record { at = record { line = m; column = d }; cause = k })
made_alike l m c d j k p q r = rw (p, q, r) refl

-- of two faults of which none comes before the other there is one alone
pub same_fault : (a b : Fault) → comes_before a b ≡ false → comes_before b a ≡ false → a ≡ b
same_fault a b h k =
    made_alike a.at.line b.at.line a.at.column b.at.column a.cause b.cause
    (same_line a.at.line a.at.column (rank a.cause) b.at.line b.at.column (rank b.cause) h k)
    (same_column a.at.line a.at.column (rank a.cause) b.at.line b.at.column (rank b.cause) h k)
    (same_cause a.cause b.cause (same_rank a.at.line a.at.column (rank a.cause) b.at.line b.at.column (rank b.cause) h k))

comes-asymmetric : (a b : Fault) → comes_before a b ≡ true → comes_before b a ≡ false
comes-asymmetric a b h = asymmetric a.at.line a.at.column (rank a.cause) b.at.line b.at.column (rank b.cause) h

comes-transitive : (a b c : Fault) → comes_before a b ≡ true → comes_before b c ≡ true → comes_before a c ≡ true
comes-transitive a b c h k = transitive a.at.line a.at.column (rank a.cause) b.at.line b.at.column (rank b.cause) c.at.line c.at.column (rank c.cause) h k

absurd_bool : {A : Type 0} → true ≡ false → A
absurd_bool e = absurd (false≢true (sym e))

-- the first of two is the same either way
either_way : (a b : Fault) (x y : Bool) → comes_before b a ≡ x → comes_before a b ≡ y → (if x then Some b else Some a) ≡ (if y then Some a else Some b)
either_way a b true true h k = absurd_bool (sym h ∙ comes-asymmetric a b k)
either_way a b true false h k = refl
either_way a b false true h k = refl
either_way a b false false h k = ap Some (same_fault a b k h)

not_before : (a b k : Fault) (x : Bool) → comes_before b a ≡ x → comes_before a k ≡ true → comes_before b k ≡ false → x ≡ false
not_before a b k true h p q = sym (comes-transitive b a k h p) ∙ q
not_before a b k false h p q = refl

over_kept : (k a b : Fault) (x y : Bool) → comes_before a k ≡ x → comes_before b k ≡ y
    → first_of_two (if x then Some a else Some k) b ≡ first_of_two (if y then Some b else Some k) a
over_kept k a b true true p q = either_way a b (comes_before b a) (comes_before a b) refl refl
over_kept k a b true false p q = rw (p, not_before a b k (comes_before b a) refl p q) refl
over_kept k a b false true p q = rw (q, not_before b a k (comes_before a b) refl q p) refl
over_kept k a b false false p q = rw (p, q) refl

pub commute : (kept : Option Fault) (a b : Fault) → first_of_two (first_of_two kept a) b ≡ first_of_two (first_of_two kept b) a
commute None a b = either_way a b (comes_before b a) (comes_before a b) refl refl
commute (Some k) a b = over_kept k a b (comes_before a k) (comes_before b k) refl refl

pub put_first : (kept : Option Fault) (f : Fault) (rest : Faults) → first_from (first_of_two kept f) rest ≡ first_of_two (first_from kept rest) f
put_first kept f [] = refl
put_first kept f (g ∷ rest) = ap (λ k. first_from k rest) (commute kept f g) ∙ put_first (first_of_two kept g) f rest

pub swapped : (kept : Option Fault) (some others : Faults) → first_from (first_from kept some) others ≡ first_from (first_from kept others) some
swapped kept [] others = refl
swapped kept (f ∷ rest) others =
    swapped (first_of_two kept f) rest others ∙ ap (λ k. first_from k rest) (put_first kept f others)

pub any_order : (kept : Option Fault) (some others : Faults) → first_from kept (some ++ others) ≡ first_from kept (others ++ some)
any_order kept some others = first_from-append kept some others ∙ swapped kept some others ∙ sym (first_from-append kept others some)

-- ---- the first is the least

kept_is : (f x : Fault) → Path (Option Fault) (Some x) (Some f) → x ≡ f
kept_is f x e = ap (λ o. unwrap_or o f) e

least_of_two : (kept : Option Fault) (g f : Fault) → first_of_two kept g ≡ Some f → comes_before g f ≡ false
least_of_two None g f e = rw (sym (kept_is f g e)) (irreflexive (comes_before g g) refl)
  where
    irreflexive : (x : Bool) → comes_before g g ≡ x → comes_before g g ≡ false
    irreflexive true h = comes-asymmetric g g h
    irreflexive false h = h
least_of_two (Some k) g f e = by_test (comes_before g k) refl e
  where
    itself : (x : Bool) → comes_before g g ≡ x → comes_before g g ≡ false
    itself true h = comes-asymmetric g g h
    itself false h = h

    by_test : (x : Bool) → comes_before g k ≡ x → (if x then Some g else Some k) ≡ Some f → comes_before g f ≡ false
    by_test true h q = rw (sym (kept_is f g q)) (itself (comes_before g g) refl)
    by_test false h q = rw (sym (kept_is f k q)) h

pub least : (faults : Faults) (kept : Option Fault) (f g : Fault) (k : ℕ) → first_from kept faults ≡ Some f → k < length faults → slice_index_or faults k g ≡ g → comes_before g f ≡ false
least [] kept f g k e below at = absurd (omega arith)
least (x ∷ rest) kept f g zero e below at = rw (sym at) (least_of_two (first_from kept rest) x f (sym (put_first kept x rest) ∙ e))
least (x ∷ rest) kept f g (suc k) e below at = least rest (first_of_two kept x) f g k e (omega arith) at

among : (faults : Faults) (kept : Option Fault) (f : Fault) → first_from kept faults ≡ Some f → (kept ≡ Some f) ⊎ Contains faults f
among [] kept f e = inl e
among (x ∷ rest) kept f e = by_rest kept (among rest (first_of_two kept x) f e)
  where
    here : x ≡ f → Contains (x ∷ rest) f
    here q = (0, omega arith, q)

    by_test : (k : Fault) (b : Bool) → (if b then Some x else Some k) ≡ Some f → (Some k ≡ Some f) ⊎ Contains (x ∷ rest) f
    by_test k true q = inr (here (kept_is f x q))
    by_test k false q = inl q

    by_rest : (o : Option Fault) → (first_of_two o x ≡ Some f) ⊎ Contains rest f → (o ≡ Some f) ⊎ Contains (x ∷ rest) f
    by_rest o (inr (k, below, at)) = inr (suc k, omega arith, at)
    by_rest None (inl q) = inr (here (kept_is f x q))
    by_rest (Some k) (inl q) = by_test k (comes_before x k) q

pub is_among : (faults : Faults) (f : Fault) → first_from None faults ≡ Some f → Contains faults f
is_among faults f e = by_kept (among faults None f e)
  where
    by_kept : (Path (Option Fault) None (Some f)) ⊎ Contains faults f → Contains faults f
    by_kept (inl q) = absurd_bool (ap is_none q)
    by_kept (inr c) = c

pub is_least : (faults : Faults) (f g : Fault) → first_from None faults ≡ Some f → Contains faults g → comes_before g f ≡ false
is_least faults f g e c = least faults None f g c.0 e c.1 c.2

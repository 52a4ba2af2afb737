-- An evaluation depends only on what it read, and loops by the last cell that it read alone.
use Rattle.std.proofs.Common.{◌≡◌, ◌≢◌, ◌∙◌, ap, sym, refl, false, List, [], ◌∷◌}
use Rattle.qml_base.specs.declared.numbers.CellNo.{CellNo}
use Rattle.qml_base.specs.declared.cause.Cause.TheVariants as cause
use Rattle.qml_value.specs.declared.value.Value.{Value}
use Rattle.evaluation.specs.declared.came.Came.TheVariants as came
use Rattle.evaluation.specs.declared.came.Ended.{Ended}
use Rattle.evaluation.specs.declared.came.Ended.TheVariants as by
use Rattle.evaluation.specs.Ask.{Ask, ended, reads, finds, has, by_id, condemned, does, Names}
use Rattle.evaluation.specs.Evaluating.{Seen, is, looped, past, Reading, came_of, behind, after_reading, evaluated, AgreeOn, NoneLoops, LastLoops}

read_same : (c : CellNo) (n : Names) (go : Value → Ask) (r s : Reading)
    → ((v : Value) → AgreeOn (evaluated n r (go v)).reads r s → evaluated n s (go v) ≡ evaluated n r (go v))
    → (seen : Seen) → r c ≡ seen → AgreeOn (after_reading c (λ v. evaluated n r (go v)) seen).reads r s
    → after_reading c (λ v. evaluated n s (go v)) (s c) ≡ after_reading c (λ v. evaluated n r (go v)) seen
read_same c n go r s later (is v) e agree = rw (agree.0 ∙ e) (ap (behind c) (later v agree.1))
read_same c n go r s later looped e agree = rw (agree.0 ∙ e) refl
read_same c n go r s later past e agree = rw (agree.0 ∙ e) refl

pub same_where_agreed : (n : Names) (r s : Reading) (ask : Ask) → AgreeOn (evaluated n r ask).reads r s → evaluated n s ask ≡ evaluated n r ask
same_where_agreed n r s (ended o) h = refl
same_where_agreed n r s (reads c go) h = read_same c n go r s (λ v a. same_where_agreed n r s (go v) a) (r c) refl h
same_where_agreed n r s (finds h name go) a = same_where_agreed n r s (go (n.resolve h name)) a
same_where_agreed n r s (has o name go) a = same_where_agreed n r s (go (n.member o name)) a
same_where_agreed n r s (by_id h name go) a = same_where_agreed n r s (go (n.is_id h name)) a
same_where_agreed n r s (condemned o go) a = same_where_agreed n r s (go false) a
same_where_agreed n r s (does e left go) h = refl

read_goes_on : (c : CellNo) (n : Names) (go : Value → Ask) (r : Reading)
    → ((v : Value) → (evaluated n r (go v)).came ≢ came.Loop → NoneLoops (evaluated n r (go v)).reads r)
    → (seen : Seen) → r c ≡ seen → (after_reading c (λ v. evaluated n r (go v)) seen).came ≢ came.Loop
    → NoneLoops (after_reading c (λ v. evaluated n r (go v)) seen).reads r
read_goes_on c n go r later (is v) e h = (λ l. let no : is v ≡ looped = sym e ∙ l in cc, later v h)
read_goes_on c n go r later looped e h = absurd (h refl)
read_goes_on c n go r later past e h = (λ l. let no : past ≡ looped = sym e ∙ l in cc, tt)

pub goes_on : (n : Names) (r : Reading) (ask : Ask) → (evaluated n r ask).came ≢ came.Loop → NoneLoops (evaluated n r ask).reads r
goes_on n r (ended o) h = tt
goes_on n r (reads c go) h = read_goes_on c n go r (λ v k. goes_on n r (go v) k) (r c) refl h
goes_on n r (finds h name go) k = goes_on n r (go (n.resolve h name)) k
goes_on n r (has o name go) k = goes_on n r (go (n.member o name)) k
goes_on n r (by_id h name go) k = goes_on n r (go (n.is_id h name)) k
goes_on n r (condemned o go) k = goes_on n r (go false) k
goes_on n r (does e left go) h = tt

-- behind a list that isn't empty, the last is the last of the list
last_behind : (c : CellNo) (cs : List CellNo) (r : Reading) → LastLoops cs r → LastLoops (c ∷ cs) r
last_behind c [] r h = absurd h
last_behind c (d ∷ cs) r h = h

read_looped : (c : CellNo) (n : Names) (go : Value → Ask) (r : Reading)
    → ((v : Value) → (evaluated n r (go v)).came ≡ came.Loop → LastLoops (evaluated n r (go v)).reads r)
    → (seen : Seen) → r c ≡ seen → (after_reading c (λ v. evaluated n r (go v)) seen).came ≡ came.Loop
    → LastLoops (after_reading c (λ v. evaluated n r (go v)) seen).reads r
read_looped c n go r later (is v) e h = last_behind c (evaluated n r (go v)).reads r (later v h)
read_looped c n go r later looped e h = e
read_looped c n go r later past e h = absurd (let no : came.Past ≡ came.Loop = h in cc)

ended_not_looped : (o : Ended) → came_of o ≡ came.Loop → ⊥
ended_not_looped (by.Value v) h = let no : came.Value v ≡ came.Loop = h in cc
ended_not_looped (by.Threw c) h = let no : came.Threw c ≡ came.Loop = h in cc
ended_not_looped by.Past h = let no : came.Past ≡ came.Loop = h in cc

pub looped_last : (n : Names) (r : Reading) (ask : Ask) → (evaluated n r ask).came ≡ came.Loop → LastLoops (evaluated n r ask).reads r
looped_last n r (ended o) h = absurd (ended_not_looped o h)
looped_last n r (reads c go) h = read_looped c n go r (λ v k. looped_last n r (go v) k) (r c) refl h
looped_last n r (finds h name go) k = looped_last n r (go (n.resolve h name)) k
looped_last n r (has o name go) k = looped_last n r (go (n.member o name)) k
looped_last n r (by_id h name go) k = looped_last n r (go (n.is_id h name)) k
looped_last n r (condemned o go) k = looped_last n r (go false) k
looped_last n r (does e left go) h = absurd (let no : came.Threw cause.Call ≡ came.Loop = h in cc)

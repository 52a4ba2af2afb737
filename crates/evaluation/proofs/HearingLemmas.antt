-- What is heard by a view, and by the readings that it stands for.
use Rattle.std.proofs.Common.{◌≡◌, ap, refl, false, List, [], ◌∷◌, Option, Some, None}
use Rattle.qml_base.specs.declared.numbers.CellNo.{CellNo}
use Rattle.qml_value.specs.declared.value.Value.{Value}
use Rattle.evaluation.specs.Ask.{Ask, ended, reads, finds, has, by_id, condemned, does, Names}
use Rattle.evaluation.specs.Evaluating.{Seen, is, looped, past, Reading, Evaluation, behind, after_reading, evaluated}
use Rattle.evaluation.specs.Hearing.{Views, Hearing, comes, needs, noted, by_reading, heard, Completes, in_full, FirstUnready, here, later, Hears}

read_in_full : (c : CellNo) (n : Names) (go : Value → Ask) (r : Reading)
    → ((v : Value) → heard n (λ d. Some (r d)) (go v) ≡ in_full (evaluated n r (go v)))
    → (seen : Seen) → noted c (by_reading (Some seen) c (λ v. heard n (λ d. Some (r d)) (go v))) ≡ in_full (after_reading c (λ v. evaluated n r (go v)) seen)
read_in_full c n go r behind_it (is v) = ap (noted c) (behind_it v)
read_in_full c n go r behind_it looped = refl
read_in_full c n go r behind_it past = refl

pub hears_in_full : (n : Names) (r : Reading) (ask : Ask) → heard n (λ c. Some (r c)) ask ≡ in_full (evaluated n r ask)
hears_in_full n r (ended o) = refl
hears_in_full n r (reads c go) = read_in_full c n go r (λ v. hears_in_full n r (go v)) (r c)
hears_in_full n r (finds h name go) = hears_in_full n r (go (n.resolve h name))
hears_in_full n r (has o name go) = hears_in_full n r (go (n.member o name))
hears_in_full n r (by_id h name go) = hears_in_full n r (go (n.is_id h name))
hears_in_full n r (condemned o go) = hears_in_full n r (go false)
hears_in_full n r (does e left go) = refl

-- a cell that is ready, before what is heard
behind_ready : (view : Views) (c : CellNo) (s : Seen) → view c ≡ Some s → (e : Evaluation) (o : Hearing) (cs : List CellNo)
    → Hears view e (record { outcome = o; reads = cs }) → Hears view (behind c e) (noted c (record { outcome = o; reads = cs }))
behind_ready view c s ready e (comes o) cs k = (ap (noted c) k.0, ((s, ready), k.1))
behind_ready view c s ready e (needs d) cs k = later ready k

-- a cell that isn't ready is the last that is heard
unready_first : (view : Views) (c : CellNo) (go : Value → Evaluation) (seen : Seen) → view c ≡ None → FirstUnready view c (after_reading c go seen).reads (c ∷ [])
unready_first view c go (is v) h = here h
unready_first view c go looped h = here h
unready_first view c go past h = here h

hears_read : (n : Names) (view : Views) (r : Reading) (c : CellNo) (go : Value → Ask)
    → ((v : Value) → Hears view (evaluated n r (go v)) (heard n view (go v)))
    → (seen : Option Seen) → view c ≡ seen → ((s : Seen) → seen ≡ Some s → r c ≡ s)
    → Hears view (after_reading c (λ v. evaluated n r (go v)) (r c)) (noted c (by_reading seen c (λ v. heard n view (go v))))
hears_read n view r c go k (Some (is v)) e full = rw (full (is v) refl) (behind_ready view c (is v) e (evaluated n r (go v)) (heard n view (go v)).outcome (heard n view (go v)).reads (k v))
hears_read n view r c go k (Some looped) e full = rw (full looped refl) (refl, ((looped, e), tt))
hears_read n view r c go k (Some past) e full = rw (full past refl) (refl, ((past, e), tt))
hears_read n view r c go k None e full = unready_first view c (λ v. evaluated n r (go v)) (r c) e

pub hears : (n : Names) (view : Views) (r : Reading) (ask : Ask) → Completes view r → Hears view (evaluated n r ask) (heard n view ask)
hears n view r (ended o) full = (refl, tt)
hears n view r (reads c go) full = hears_read n view r c go (λ v. hears n view r (go v) full) (view c) refl (λ s e. full c s e)
hears n view r (finds h name go) full = hears n view r (go (n.resolve h name)) full
hears n view r (has o name go) full = hears n view r (go (n.member o name)) full
hears n view r (by_id h name go) full = hears n view r (go (n.is_id h name)) full
hears n view r (condemned o go) full = hears n view r (go false) full
hears n view r (does e left go) full = (refl, tt)

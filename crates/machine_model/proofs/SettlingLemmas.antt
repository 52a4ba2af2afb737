-- Settling as a function is what the relations of settling say, and where no cell is past the limit the tree is fresh.
use Rattle.std.proofs.Common.{◌≡◌, ◌≢◌, ◌∙◌, ap, sym, refl, subst, nat_eq, ℕ, suc, zero, ◌<◌, ◌+◌, ◌⊎◌, inl, inr, Bool, true, false, not, ◌||◌, List, [], ◌∷◌, length, slice_get, arith, if◌then◌else◌}
use Rattle.std.specs.declared.option.Option.{Option}
use Rattle.std.specs.declared.option.Option.TheVariants.{None, Some}
use Rattle.std.specs.declared.result.Result.TheVariants.{Ok, Err}
use Rattle.qml_base.specs.declared.numbers.CellNo.{CellNo}
use Rattle.qml_base.specs.declared.cause.Cause.{Cause}
use Rattle.qml_base.specs.declared.cause.Cause.TheVariants as cause
use Rattle.std.proofs.lemmas.Bool.{eqb-true, eq-eqb}
use Rattle.evaluation.specs.declared.came.Came.{Came}
use Rattle.evaluation.specs.declared.came.Came.TheVariants as came
use Rattle.js_meaning.specs.Operate.{same_values}
use Rattle.js_meaning.proofs.SameLemmas.{same_is}
use Rattle.tree_model.specs.declared.cells.Cell.{Cell}
use Rattle.tree_model.specs.declared.cells.Outcome.{Outcome}
use Rattle.tree_model.specs.declared.cells.Outcome.TheVariants as outcome
use Rattle.tree_model.specs.declared.cells.Report.{Report}
use Rattle.tree_model.specs.Systems.{Outcomes}
use Rattle.tree_model.specs.Rules.{World}
use Rattle.tree_model.specs.Settling.{Tree, fresh, settled, with_cells, NonePast, Fresh, IsLowestPast}
use Rattle.tree_model.specs.Telling.{Changes, Reports, none, same, other, told_of, no_report, kept, silent, reported}
use Rattle.tree_model.proofs.SettlingLemmas.{settled_fresh}
use Rattle.machine_model.specs.Settling.{Settled, cause_number, is_changed, changed_of, was_told, report_of, reports_of, same_report, is_past, lowest_past, settled_unless, settled_of}

-- ---- the lowest cell past the limit

past_is : (x : Came) → is_past x ≡ true → x ≡ came.Past
past_is came.Past e = refl
past_is (came.Value v) e = cc
past_is (came.Threw why) e = cc
past_is came.Loop e = cc

is_past_of : (x : Came) → x ≢ came.Past → is_past x ≡ false
is_past_of came.Past f = absurd (f refl)
is_past_of (came.Value v) f = refl
is_past_of (came.Threw why) f = refl
is_past_of came.Loop f = refl

no_past : (x : Came) → is_past x ≡ false → x ≢ came.Past
no_past x e p = let t : true ≡ false = sym (ap is_past p) ∙ e in cc

unless_past : (b : Bool) (c : CellNo) (rest : Option CellNo) → (if b then Some c else rest) ≡ None → (b ≡ false) × (rest ≡ None)
unless_past true c rest e = cc
unless_past false c rest e = (refl, e)

none_from : (read : Outcomes) (i : ℕ) (cells : List Cell) → lowest_past read i cells ≡ None → (j : ℕ) → j < length cells → read (i + j) ≢ came.Past
none_from read i [] e j h = absurd (omega arith)
none_from read i (x ∷ xs) e zero h =
    let at : i + 0 ≡ i = omega arith in
    no_past (read (i + 0)) (ap (λ n. is_past (read n)) at ∙ (unless_past (is_past (read i)) x.no (lowest_past read (suc i) xs) e).0)
none_from read i (x ∷ xs) e (suc j) h =
    let at : suc i + j ≡ i + suc j = omega arith in
    rw (← at) (none_from read (suc i) xs (unless_past (is_past (read i)) x.no (lowest_past read (suc i) xs) e).1 j (omega arith))

pub none_past : (read : Outcomes) (cells : List Cell) → lowest_past read 0 cells ≡ None → NonePast read cells
none_past read cells e j h =
    let at : 0 + j ≡ j = omega arith in
    rw (← at) (none_from read 0 cells e j h)

if_not : {A : Type 0} (b : Bool) (x y : A) → b ≡ false → (if b then x else y) ≡ y
if_not true x y e = cc
if_not false x y e = refl

if_so : {A : Type 0} (b : Bool) (x y : A) → b ≡ true → (if b then x else y) ≡ x
if_so true x y e = refl
if_so false x y e = cc

moved : (read : Outcomes) (i j : ℕ) → i ≡ j → read i ≢ came.Past → read j ≢ came.Past
moved read i j e h = subst (λ n. read n ≢ came.Past) e h

moved_past : (read : Outcomes) (i j : ℕ) → i ≡ j → read i ≡ came.Past → read j ≡ came.Past
moved_past read i j e h = subst (λ n. read n ≡ came.Past) e h

lowest_none : (read : Outcomes) (i : ℕ) (cells : List Cell) → ((j : ℕ) → j < length cells → read (i + j) ≢ came.Past) → lowest_past read i cells ≡ None
lowest_none read i [] h = refl
lowest_none read i (x ∷ xs) h =
    if_not (is_past (read i)) (Some x.no) (lowest_past read (suc i) xs) (is_past_of (read i) (moved read (i + 0) i (omega arith) (h 0 (omega arith)))) ∙
    lowest_none read (suc i) xs (λ j l. moved read (i + suc j) (suc i + j) (omega arith) (h (suc j) (omega arith)))

pub lowest_of_none : (read : Outcomes) (cells : List Cell) → NonePast read cells → lowest_past read 0 cells ≡ None
lowest_of_none read cells h = lowest_none read 0 cells (λ j l. moved read j (0 + j) (omega arith) (h j l))

lowest_some : (read : Outcomes) (i : ℕ) (cells : List Cell) (place : ℕ) (cell : Cell) → slice_get cells place ≡ Some cell → read (i + place) ≡ came.Past → ((j : ℕ) → j < place → read (i + j) ≢ came.Past) → lowest_past read i cells ≡ Some cell.no
lowest_some read i [] place cell there past low = cc
lowest_some read i (x ∷ xs) zero cell there past low =
    let x_is : x ≡ cell = cc in
    let here : read i ≡ came.Past = moved_past read (i + 0) i (omega arith) past in
    if_so (is_past (read i)) (Some x.no) (lowest_past read (suc i) xs) (ap is_past here) ∙ ap (λ y. Some y.no) x_is
lowest_some read i (x ∷ xs) (suc place) cell there past low =
    if_not (is_past (read i)) (Some x.no) (lowest_past read (suc i) xs) (is_past_of (read i) (moved read (i + 0) i (omega arith) (low 0 (omega arith)))) ∙
    lowest_some read (suc i) xs place cell there (moved_past read (i + suc place) (suc i + place) (omega arith) past)
    (λ j l. moved read (i + suc j) (suc i + j) (omega arith) (low (suc j) (omega arith)))

pub lowest_is : (read : Outcomes) (cells : List Cell) (c : CellNo) → IsLowestPast read cells c → lowest_past read 0 cells ≡ Some c
lowest_is read cells c h =
    lowest_some read 0 cells h.place h.cell h.there (moved_past read h.place (0 + h.place) (omega arith) h.is_past)
    (λ j l. moved read j (0 + j) (omega arith) (h.lowest j l)) ∙ ap Some h.named

-- ---- changes

same_held : (b a : Cell) → b.held ≡ a.held → same_values b.held a.held ≡ true
same_held b a e = (same_is b.held a.held).1 e

other_held : (b a : Cell) → b.held ≢ a.held → same_values b.held a.held ≡ false
other_held b a f = elim (same_values b.held a.held) as (λ t. same_values b.held a.held ≡ t → t ≡ false) [
  | true ↦ λ e. absurd (f ((same_is b.held a.held).0 e))
  | false ↦ λ e. refl
] refl

unchanged : (b a : Cell) → b.noted ≡ false → b.held ≡ a.held → is_changed b a ≡ false
unchanged b a quiet e = ap (λ t. t || not (same_values b.held a.held)) quiet ∙ ap not (same_held b a e)

changed : (b a : Cell) → (b.noted ≡ true) ⊎ (b.held ≢ a.held) → is_changed b a ≡ true
changed b a (inl t) = ap (λ t. t || not (same_values b.held a.held)) t
changed b a (inr f) = elim b.noted as (λ t. (t || not (same_values b.held a.held)) ≡ true) [ true ↦ refl | false ↦ ap not (other_held b a f) ]

pub changed_is : (olds news : List Cell) (cs : List CellNo) → Changes olds news cs → changed_of olds news ≡ cs
changed_is [] [] [] none = refl
changed_is [] [] (c ∷ cs) h = elim h [ ]
changed_is [] (a ∷ news) cs h = elim h [ ]
changed_is (b ∷ olds) [] cs h = elim h [ ]
changed_is (b ∷ olds) (a ∷ news) cs (same quiet e rest) =
    if_not (is_changed b a) (a.no ∷ changed_of olds news) (changed_of olds news) (unchanged b a quiet e) ∙ changed_is olds news cs rest
changed_is (b ∷ olds) (a ∷ news) (c ∷ cs) (other {cs = xs} why rest) =
    if_so (is_changed b a) (a.no ∷ changed_of olds news) (changed_of olds news) (changed b a why) ∙ ap (λ rest. a.no ∷ rest) (changed_is olds news xs rest)

-- ---- reports

abbrev cause_by : ℕ → Cause
cause_by n =
    if nat_eq n 0 then cause.Name else if nat_eq n 1 then cause.Null else if nat_eq n 2 then cause.Kind
    else if nat_eq n 3 then cause.Zero else if nat_eq n 4 then cause.Inexact else if nat_eq n 5 then cause.Range
    else if nat_eq n 6 then cause.Size else if nat_eq n 7 then cause.Nodes else if nat_eq n 8 then cause.Depth
    else if nat_eq n 9 then cause.Call else if nat_eq n 10 then cause.Readonly else if nat_eq n 11 then cause.Static
    else if nat_eq n 12 then cause.Gone else if nat_eq n 13 then cause.Host else cause.Nohost

back : (c : Cause) → cause_by (cause_number c) ≡ c
back cause.Name = refl
back cause.Null = refl
back cause.Kind = refl
back cause.Zero = refl
back cause.Inexact = refl
back cause.Range = refl
back cause.Size = refl
back cause.Nodes = refl
back cause.Depth = refl
back cause.Call = refl
back cause.Readonly = refl
back cause.Static = refl
back cause.Gone = refl
back cause.Host = refl
back cause.Nohost = refl

same_cause : (a b : Cause) → nat_eq (cause_number a) (cause_number b) ≡ true → a ≡ b
same_cause a b e =
    let n : cause_number a ≡ cause_number b = eqb-true (cause_number a) (cause_number b) e in
    sym (back a) ∙ ap cause_by n ∙ back b

reports_same : (a b : Option Cause) → same_report a b ≡ true → a ≡ b
reports_same None None e = refl
reports_same None (Some b) e = cc
reports_same (Some a) None e = cc
reports_same (Some a) (Some b) e = ap Some (same_cause a b e)

same_reported : (a : Option Cause) → same_report a a ≡ true
same_reported None = refl
same_reported (Some a) = eq-eqb (cause_number a) (cause_number a) refl

told_once : (cell : Cell) (what : Option (Option Cause)) (rest : List Report) → report_of cell what what rest ≡ rest
told_once cell None rest = refl
told_once cell (Some what) rest = if_so (same_report what what) rest (record { cell = cell.no; cause = what } ∷ rest) (same_reported what)

outcome_told : (o p : Outcome) (what : Option Cause) → told_of o ≡ Some what → told_of p ≡ Some what → o ≡ p
outcome_told outcome.Value p what e f = cc
outcome_told outcome.Past p what e f = cc
outcome_told o outcome.Value what e f = cc
outcome_told o outcome.Past what e f = cc
outcome_told outcome.Loop outcome.Loop what e f = refl
outcome_told outcome.Loop (outcome.Threw w) what e f = cc
outcome_told (outcome.Threw w) outcome.Loop what e f = cc
outcome_told (outcome.Threw v) (outcome.Threw w) what e f = let same : v ≡ w = cc in ap outcome.Threw same

told_before : (what : Option Cause) (before : Option (Option Cause)) → was_told what before ≡ true → before ≡ Some what
told_before what None e = cc
told_before what (Some before) e = ap Some (reports_same before what e)

new_report : (b a : Cell) (what : Option Cause) → b.outcome ≢ a.outcome → told_of a.outcome ≡ Some what → was_told what (told_of b.outcome) ≡ false
new_report b a what f e = elim (was_told what (told_of b.outcome)) as (λ t. was_told what (told_of b.outcome) ≡ t → t ≡ false) [
  | true ↦ λ t. absurd (f (outcome_told b.outcome a.outcome what (told_before what (told_of b.outcome) t) e))
  | false ↦ λ t. refl
] refl

pub reports_is : (olds news : List Cell) (rs : List Report) → Reports olds news rs → reports_of olds news ≡ rs
reports_is [] [] [] no_report = refl
reports_is [] [] (r ∷ rs) h = elim h [ ]
reports_is [] (a ∷ news) rs h = elim h [ ]
reports_is (b ∷ olds) [] rs h = elim h [ ]
reports_is (b ∷ olds) (a ∷ news) rs (kept e rest) =
    ap (λ o. report_of a (told_of o) (told_of a.outcome) (reports_of olds news)) e ∙ told_once a (told_of a.outcome) (reports_of olds news) ∙
    reports_is olds news rs rest
reports_is (b ∷ olds) (a ∷ news) rs (silent e rest) =
    ap (λ t. report_of a (told_of b.outcome) t (reports_of olds news)) e ∙ reports_is olds news rs rest
reports_is (b ∷ olds) (a ∷ news) (r ∷ rs) (reported {rs = xs} {what = what} f e rest) =
    ap (λ t. report_of a (told_of b.outcome) t (reports_of olds news)) e ∙
    if_not (was_told what (told_of b.outcome)) (reports_of olds news) (record { cell = a.no; cause = what } ∷ reports_of olds news) (new_report b a what f e) ∙
    ap (λ rest. record { cell = a.no; cause = what } ∷ rest) (reports_is olds news xs rest)

-- ---- settling

-- what the relations say of a settling is what the function gives
pub settles_so : (world : World) (tree : Tree) (cs : List CellNo) (rs : List Report) → NonePast (fresh world tree) tree.cells →
    Changes tree.cells (settled world tree) cs → Reports tree.cells (settled world tree) rs →
    settled_of world tree ≡ Ok (record { cells = settled world tree; changed = cs; reports = rs })
settles_so world tree cs rs h changes reports =
    ap (λ o. settled_unless o tree.cells (settled world tree)) (lowest_of_none (fresh world tree) tree.cells h) ∙
    ap (λ xs. Ok (record { cells = settled world tree; changed = xs; reports = reports_of tree.cells (settled world tree) })) (changed_is tree.cells (settled world tree) cs changes) ∙
    ap (λ xs. Ok (record { cells = settled world tree; changed = cs; reports = xs })) (reports_is tree.cells (settled world tree) rs reports)

pub stops_so : (world : World) (tree : Tree) (c : CellNo) → IsLowestPast (fresh world tree) tree.cells c → settled_of world tree ≡ Err c
stops_so world tree c h = ap (λ o. settled_unless o tree.cells (settled world tree)) (lowest_is (fresh world tree) tree.cells c h)

settled_none : (o : Option CellNo) (olds news : List Cell) (s : Settled) → settled_unless o olds news ≡ Ok s → (o ≡ None) × (news ≡ s.cells)
settled_none None olds news s e = (refl, cc)
settled_none (Some c) olds news s e = cc

-- a tree that has settled is fresh
pub settled_is_fresh : (world : World) (tree : Tree) (s : Settled) → settled_of world tree ≡ Ok s → Fresh world (with_cells tree s.cells)
settled_is_fresh world tree s e =
    let h = settled_none (lowest_past (fresh world tree) 0 tree.cells) tree.cells (settled world tree) s e in
    subst (λ cells. Fresh world (with_cells tree cells)) h.1 (settled_fresh world tree (none_past (fresh world tree) tree.cells h.0))

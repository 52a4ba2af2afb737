-- Objects whose signals grow row by row.
use Rattle.std.proofs.Common.{◌≡◌, ◌∙◌, ap, sym, subst, refl, ℕ, zero, suc, ◌+◌, ◌<◌, ◌≤◌, arith, Bool, true, false, List, [], ◌∷◌, ◌++◌, length, get_or, set, drop, add-one, drop-cons}
use Rattle.std.specs.Prelude.{nat_eq, not, ◌&&◌, ◌||◌, if◌then◌else◌}
use Rattle.std.proofs.lemmas.Bool.Decides.{nat_tests}
use Rattle.std.proofs.lemmas.List.{append-nil, append_assoc, length-append}
use Rattle.qml_syntax.specs.Tree.{Units}
use Rattle.name_groups.specs.Groups.{Groups, all_under}
use Rattle.document_members.specs.declared.member.Member.{Member}
use Rattle.program_tables.specs.declared.building.UnitRow.{UnitRow}
use Rattle.program_tables.specs.Building.{is_group, is_inside}
use Rattle.declared_signals.specs.declared.declaring.DeclaredSignal.{DeclaredSignal}
use Rattle.declared_signals.specs.declared.declaring.ObjectSignals.{ObjectSignals}
use Rattle.declared_signals.specs.Declaring.{signals_of, cells_more, signals_more, Declares, AddedAt, RowAdded, grouped_by, is_of, declared_from, signals_from, AreFrom, AreDeclared, IsNothing, AllNothing, AreNothing}

-- ---- as the code does it

pub added_here : (at k : ℕ) (x : Member) (d later : ObjectSignals) (old : List ObjectSignals) → at < length old → Declares k x (get_or old at d) later →
    AddedAt at k x old (set old at later)
added_here at k x d later [] h e = absurd (omega (arith, h))
added_here zero k x d later (y ∷ ys) h e = (e, refl)
added_here (suc at) k x d later (y ∷ ys) h e = (refl, added_here at k x d later ys (omega (arith, h)) e)

pub added_nowhere : (at k : ℕ) (x : Member) (old : List ObjectSignals) → length old ≤ at → AddedAt at k x old old
added_nowhere at k x [] h = tt
added_nowhere zero k x (y ∷ ys) h = absurd (omega (arith, h))
added_nowhere (suc at) k x (y ∷ ys) h = (refl, added_nowhere at k x ys (omega (arith, h)))

all_more : (objects : List ObjectSignals) (x : ObjectSignals) → AllNothing objects → IsNothing x → AllNothing (objects ++ x ∷ [])
all_more [] x h n = (n, tt)
all_more (y ∷ ys) x h n = (h.0, all_more ys x h.1 n)

pub one_more_object : (done : ℕ) (old new : List ObjectSignals) (under : Groups DeclaredSignal) → AreNothing done old → ((h : Units) → all_under under h ≡ []) →
    new ≡ old ++ record { under = under; cells = 0; signals = 0 } ∷ [] → AreNothing (done + 1) new
one_more_object done old new under a u e = record {
  long = ap length e ∙ length-append old (record { under = under; cells = 0; signals = 0 } ∷ []) ∙ ap (λ k. k + 1) a.long;
  nothing = subst AllNothing (sym e) (all_more old (record { under = under; cells = 0; signals = 0 }) a.nothing (record { under = u; cells = refl; signals = refl }));
}

-- ---- what is kept, with what is left, is all

pub record GoesOn (o k : ℕ) (grouping : List Bool) (left all : List UnitRow) (x : ObjectSignals) : Type 0 where
  pub signals : (h : Units) → all_under x.under h ++ declared_from o h k x.cells x.signals grouping left ≡ declared_from o h 0 0 0 [] all
  pub count : signals_from o x.signals grouping left ≡ signals_from o 0 [] all

abbrev pub AllGoOn : ℕ → ℕ → List Bool → List UnitRow → List UnitRow → List ObjectSignals → Type 0
AllGoOn o k grouping left all [] = Unit {0}
AllGoOn o k grouping left all (x ∷ xs) = GoesOn o k grouping left all x × AllGoOn (suc o) k grouping left all xs

pub record Declaring (count k : ℕ) (grouping : List Bool) (left all : List UnitRow) (objects : List ObjectSignals) : Type 0 where
  pub long : length objects ≡ count
  pub go_on : AllGoOn 0 k grouping left all objects

-- a row that isn't the object's
abbrev Skips : ℕ → ℕ → List Bool → UnitRow → List UnitRow → ObjectSignals → Type 0
Skips o k grouping r rest x =
    ((h : Units) → declared_from o h k x.cells x.signals grouping (r ∷ rest) ≡ declared_from o h (suc k) x.cells x.signals (grouped_by grouping r) rest) ×
    (signals_from o x.signals grouping (r ∷ rest) ≡ signals_from o x.signals (grouped_by grouping r) rest)

skips : (o k : ℕ) (grouping : List Bool) (r : UnitRow) (rest : List UnitRow) (x : ObjectSignals) → is_of o grouping r ≡ false → Skips o k grouping r rest x
skips o k grouping r rest x e = (
  λ h. ap
      (λ b. if b then signals_of k x.cells x.signals h r.member ++ declared_from o h (suc k) (x.cells + cells_more r.member) (x.signals + signals_more r.member) (grouped_by grouping r) rest
      else declared_from o h (suc k) x.cells x.signals (grouped_by grouping r) rest) e,
  ap
      (λ b. if b then signals_from o (x.signals + signals_more r.member) (grouped_by grouping r) rest
      else signals_from o x.signals (grouped_by grouping r) rest) e,
)

skipped : (o k : ℕ) (grouping : List Bool) (r : UnitRow) (rest all : List UnitRow) (x : ObjectSignals) → is_of o grouping r ≡ false →
    GoesOn o k grouping (r ∷ rest) all x → GoesOn o (suc k) (grouped_by grouping r) rest all x
skipped o k grouping r rest all x e g = record {
  signals = λ h. ap (λ z. all_under x.under h ++ z) (sym ((skips o k grouping r rest x e).0 h)) ∙ g.signals h;
  count = sym (skips o k grouping r rest x e).1 ∙ g.count;
}

all_skipped : (o k : ℕ) (grouping : List Bool) (r : UnitRow) (rest all : List UnitRow) (xs : List ObjectSignals) → ((j : ℕ) → o ≤ j → is_of j grouping r ≡ false) →
    AllGoOn o k grouping (r ∷ rest) all xs → AllGoOn o (suc k) (grouped_by grouping r) rest all xs
all_skipped o k grouping r rest all [] e g = tt
all_skipped o k grouping r rest all (x ∷ xs) e g =
    (skipped o k grouping r rest all x (e o (omega arith)) g.0, all_skipped (suc o) k grouping r rest all xs (λ j l. e j (omega (arith, l))) g.1)

declared_now : (o k : ℕ) (grouping : List Bool) (r : UnitRow) (rest all : List UnitRow) (x y : ObjectSignals) → is_of o grouping r ≡ true → Declares k r.member x y →
    GoesOn o k grouping (r ∷ rest) all x → GoesOn o (suc k) (grouped_by grouping r) rest all y
declared_now o k grouping r rest all x y e n g = record {
  signals = λ h.
      ap (λ z. z ++ declared_from o h (suc k) y.cells y.signals (grouped_by grouping r) rest) (n.put h)
      ∙ append_assoc (all_under x.under h) (signals_of k x.cells x.signals h r.member) (declared_from o h (suc k) y.cells y.signals (grouped_by grouping r) rest)
      ∙ ap (λ z. all_under x.under h ++ (signals_of k x.cells x.signals h r.member ++ declared_from o h (suc k) z y.signals (grouped_by grouping r) rest)) n.more_cells
      ∙ ap (λ z. all_under x.under h ++ (signals_of k x.cells x.signals h r.member ++ declared_from o h (suc k) (x.cells + cells_more r.member) z (grouped_by grouping r) rest)) n.more_signals
      ∙ ap (λ z. all_under x.under h ++ z)
      (sym (ap
      (λ b. if b then signals_of k x.cells x.signals h r.member ++ declared_from o h (suc k) (x.cells + cells_more r.member) (x.signals + signals_more r.member) (grouped_by grouping r) rest
      else declared_from o h (suc k) x.cells x.signals (grouped_by grouping r) rest) e))
      ∙ g.signals h;
  count =
      ap (λ z. signals_from o z (grouped_by grouping r) rest) n.more_signals
      ∙ sym (ap
      (λ b. if b then signals_from o (x.signals + signals_more r.member) (grouped_by grouping r) rest
      else signals_from o x.signals (grouped_by grouping r) rest) e)
      ∙ g.count;
}

none_inside : (b c : Bool) → b ≡ true → (not b && c) ≡ false
none_inside true c e = refl
none_inside false c e = absurd (cc)

outside : (b c d : Bool) → b ≡ false → c ≡ d → (not b && c) ≡ d
outside true c d e h = absurd (cc)
outside false c d e h = h

added_from : (o k at : ℕ) (grouping : List Bool) (r : UnitRow) (rest all : List UnitRow) (xs ys : List ObjectSignals) → r.row.object ≡ o + at →
    is_inside grouping r.row.group ≡ false → AddedAt at k r.member xs ys → AllGoOn o k grouping (r ∷ rest) all xs → AllGoOn o (suc k) (grouped_by grouping r) rest all ys
added_from o k at grouping r rest all [] [] e i h g = tt
added_from o k zero grouping r rest all (x ∷ xs) (y ∷ ys) e i h g =
    let own : nat_eq r.row.object o ≡ true = grind (arith, nat_tests) in (
      declared_now o k grouping r rest all x y (outside (is_inside grouping r.row.group) (nat_eq r.row.object o) true i own) h.0 g.0,
      subst (λ z. AllGoOn (suc o) (suc k) (grouped_by grouping r) rest all z) (sym h.1)
          (all_skipped (suc o) k grouping r rest all xs
          (λ j l. outside (is_inside grouping r.row.group) (nat_eq r.row.object j) false i (let q : nat_eq r.row.object j ≡ false = grind (arith, nat_tests) in q)) g.1),
    )
added_from o k (suc at) grouping r rest all (x ∷ xs) (y ∷ ys) e i h g =
    let other : nat_eq r.row.object o ≡ false = grind (arith, nat_tests) in (
      subst (λ z. GoesOn o (suc k) (grouped_by grouping r) rest all z) (sym h.0)
          (skipped o k grouping r rest all x (outside (is_inside grouping r.row.group) (nat_eq r.row.object o) false i other) g.0),
      added_from (suc o) k at grouping r rest all xs ys (omega (arith, e)) i h.1 g.1,
    )
added_from o k at grouping r rest all [] (y ∷ ys) e i h g = absurd h
added_from o k at grouping r rest all (x ∷ xs) [] e i h g = absurd h

added_long : (at k : ℕ) (x : Member) (old new : List ObjectSignals) → AddedAt at k x old new → length new ≡ length old
added_long at k x [] [] h = refl
added_long zero k x (y ∷ ys) (z ∷ zs) h = ap (λ v. suc (length v)) h.1
added_long (suc at) k x (y ∷ ys) (z ∷ zs) h = ap suc (added_long at k x ys zs h.1)
added_long at k x [] (z ∷ zs) h = absurd h
added_long at k x (y ∷ ys) [] h = absurd h

one_row : (b : Bool) (count k : ℕ) (grouping : List Bool) (r : UnitRow) (rest all : List UnitRow) (old new : List ObjectSignals) → is_inside grouping r.row.group ≡ b →
    RowAdded b k r old new → Declaring count k grouping (r ∷ rest) all old → Declaring count (suc k) (grouped_by grouping r) rest all new
one_row true count k grouping r rest all old new i h g =
    subst (λ z. Declaring count (suc k) (grouped_by grouping r) rest all z) (sym h) (record {
      long = g.long;
      go_on = all_skipped 0 k grouping r rest all old (λ j l. none_inside (is_inside grouping r.row.group) (nat_eq r.row.object j) i) g.go_on;
    })
one_row false count k grouping r rest all old new i h g = record {
  long = added_long r.row.object k r.member old new h ∙ g.long;
  go_on = added_from 0 k r.row.object grouping r rest all old new (omega arith) i h g.go_on;
}

rows_go_on : (count i : ℕ) (rows : List UnitRow) (d : UnitRow) (grouping after : List Bool) (old new : List ObjectSignals) (inside group : Bool) → i < length rows →
    inside ≡ is_inside grouping (get_or rows i d).row.group → group ≡ is_group (get_or rows i d).member → after ≡ grouping ++ (inside || group) ∷ [] →
    RowAdded inside i (get_or rows i d) old new → Declaring count i grouping (drop i rows) rows old → Declaring count (i + 1) after (drop (i + 1) rows) rows new
rows_go_on count i rows d grouping after old new inside group h e g a r n =
    let next : after ≡ grouped_by grouping (get_or rows i d) = a ∙ ap (λ b. grouping ++ (b || group) ∷ []) e ∙ ap (λ b. grouping ++ (is_inside grouping (get_or rows i d).row.group || b) ∷ []) g in
    subst (λ z. Declaring count (i + 1) z (drop (i + 1) rows) rows new) (sym next)
    (subst (λ j. Declaring count j (grouped_by grouping (get_or rows i d)) (drop j rows) rows new) (sym (add-one i))
    (one_row inside count i grouping (get_or rows i d) (drop (suc i) rows) rows old new (sym e) r (subst (λ z. Declaring count i grouping z rows old) (drop-cons rows i d h) n)))

pub rows_step : (count i : ℕ) (rows : List UnitRow) (d r : UnitRow) (grouping after : List Bool) (old new : List ObjectSignals) (inside next : Bool) → i < length rows →
    r ≡ get_or rows i d → inside ≡ is_inside grouping r.row.group → next ≡ (inside || is_group r.member) → after ≡ grouping ++ next ∷ [] → RowAdded inside i r old new →
    Declaring count i grouping (drop i rows) rows old → Declaring count (i + 1) after (drop (i + 1) rows) rows new
rows_step count i rows d r grouping after old new inside next h s e g a n w =
    rows_go_on count i rows d grouping after old new inside (is_group (get_or rows i d).member) h (e ∙ ap (λ (z : UnitRow). is_inside grouping z.row.group) s) refl
    (a ∙ ap (λ z. grouping ++ z ∷ []) (g ∙ ap (λ (z : UnitRow). inside || is_group z.member) s)) (subst (λ z. RowAdded inside i z old new) s n) w

-- ---- the first and the last

nothing_first : (o : ℕ) (rows : List UnitRow) (objects : List ObjectSignals) → AllNothing objects → AllGoOn o 0 [] rows rows objects
nothing_first o rows [] h = tt
nothing_first o rows (x ∷ xs) h = (
  record {
    signals = λ g.
        ap (λ z. z ++ declared_from o g 0 x.cells x.signals [] rows) (h.0.under g)
        ∙ ap (λ z. declared_from o g 0 z x.signals [] rows) h.0.cells ∙ ap (λ z. declared_from o g 0 0 z [] rows) h.0.signals;
    count = ap (λ z. signals_from o z [] rows) h.0.signals;
  },
  nothing_first (suc o) rows xs h.1,
)

pub rows_begin : (count : ℕ) (rows : List UnitRow) (objects : List ObjectSignals) → AreNothing count objects → Declaring count 0 [] rows rows objects
rows_begin count rows objects a = record { long = a.long; go_on = nothing_first 0 rows objects a.nothing }

all_end : (o k : ℕ) (grouping : List Bool) (all : List UnitRow) (objects : List ObjectSignals) → AllGoOn o k grouping [] all objects → AreFrom o all objects
all_end o k grouping all [] h = tt
all_end o k grouping all (x ∷ xs) h = (
  record { signals = λ g. sym (append-nil (all_under x.under g)) ∙ h.0.signals g; count = h.0.count },
  all_end (suc o) k grouping all xs h.1,
)

pub rows_end : (count k : ℕ) (grouping : List Bool) (left all : List UnitRow) (objects : List ObjectSignals) → left ≡ [] → Declaring count k grouping left all objects →
    AreDeclared count all objects
rows_end count k grouping left all objects e h = record {
  long = h.long;
  are = all_end 0 k grouping all objects (subst (λ z. AllGoOn 0 k grouping z all objects) e h.go_on);
}

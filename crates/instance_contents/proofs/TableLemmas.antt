-- That the tables of a plan say what the plan says.
use Rattle.std.proofs.Common.{◌≡◌, ◌≢◌, ◌∙◌, ap, refl, ℕ, zero, suc, ◌+◌, ◌<◌, Bool, true, false, cond, ◌&&◌, nat_eq, List, [], ◌∷◌, drop, Option, Some, None, arith}
use Rattle.std.specs.Option.{option_map, option_or, unwrap_or}
use Rattle.instance_plans.specs.declared.planned.PlannedInstance.{PlannedInstance}
use Rattle.instance_plans.specs.Numbers.{number_in, planned_instance}
use Rattle.pair_table.specs.Pairs.{same_pair, under, each_put}
use Rattle.pair_table.proofs.EachLemmas.{under_append, under_each, or_none}
use Rattle.instance_contents.specs.Filling.{roots_from, numbers_of, numbers_from}
use Rattle.instance_contents.specs.Tables.{no_instance, instance_at_place}
use Rattle.instance_contents.proofs.PlaceLemmas.{same_turned, same_self, others, head_at, tail_at}

mapped_step : {A B : Type 0} (f : A → B) (b : Bool) (x : A) (o : Option A) (p : Option B) → option_map f o ≡ p → option_map f (cond b (Some x) o) ≡ cond b (Some (f x)) p
mapped_step f true x o p e = refl
mapped_step f false x o p e = e

both_turned : (a b c d : ℕ) → (nat_eq a b && nat_eq c d) ≡ (nat_eq b a && nat_eq d c)
both_turned a b c d = ap (λ (x : Bool). x && nat_eq c d) (same_turned a b) ∙ ap (λ (x : Bool). nat_eq b a && x) (same_turned c d)

pub roots_found : (all rest : List PlannedInstance) (k u n : ℕ) → drop k all ≡ rest → option_map (instance_at_place all) (under (roots_from k rest) (u, n)) ≡ planned_instance rest u n
roots_found all [] k u n e = refl
roots_found all (s ∷ rest) k u n e =
    mapped_step (instance_at_place all) (same_pair (u, n) (s.unit, s.root)) k (under (roots_from (suc k) rest) (u, n)) (planned_instance rest u n)
    (roots_found all rest (suc k) u n (tail_at k all rest s e))
    ∙ ap (λ (b : Bool). cond b (Some (instance_at_place all k)) (planned_instance rest u n)) (both_turned u s.unit n s.root)
    ∙ ap (λ (x : PlannedInstance). cond (nat_eq s.unit u && nat_eq s.root n) (Some x) (planned_instance rest u n)) (ap (λ (o : Option PlannedInstance). unwrap_or o no_instance) (head_at k all rest s e))

-- the numbers of one instance, and of another
numbers_here : (k o : ℕ) (objects : List (ℕ × ℕ)) → under (numbers_of k objects) (k, o) ≡ number_in objects o
numbers_here k o [] = refl
numbers_here k o (at ∷ rest) =
    ap (λ (b : Bool). cond (b && nat_eq o at.0) (Some at.1) (under (numbers_of k rest) (k, o))) (same_self k)
    ∙ ap (λ (b : Bool). cond b (Some at.1) (under (numbers_of k rest) (k, o))) (same_turned o at.0)
    ∙ ap (λ (p : Option ℕ). cond (nat_eq at.0 o) (Some at.1) p) (numbers_here k o rest)

numbers_there : (k j o : ℕ) (objects : List (ℕ × ℕ)) → j ≢ k → under (numbers_of k objects) (j, o) ≡ None
numbers_there k j o [] ne = refl
numbers_there k j o (at ∷ rest) ne =
    ap (λ (b : Bool). cond (b && nat_eq o at.0) (Some at.1) (under (numbers_of k rest) (j, o))) (others j k ne) ∙ numbers_there k j o rest ne

none_below : (k j o : ℕ) (rest : List PlannedInstance) → j < k → under (numbers_from k rest) (j, o) ≡ None
none_below k j o [] less = refl
none_below k j o (s ∷ rest) less =
    under_append (numbers_of k s.objects) (numbers_from (suc k) rest) (j, o)
    ∙ ap (λ (p : Option ℕ). option_or p (under (numbers_from (suc k) rest) (j, o))) (numbers_there k j o s.objects (λ e. absurd (omega arith)))
    ∙ none_below (suc k) j o rest (omega arith)

numbers_found : (k i j o : ℕ) (rest : List PlannedInstance) → j ≡ k + i → under (numbers_from k rest) (j, o) ≡ number_in (instance_at_place rest i).objects o
numbers_found k i j o [] e = refl
numbers_found k zero j o (s ∷ rest) e =
    let same : j ≡ k = omega arith in
    under_append (numbers_of k s.objects) (numbers_from (suc k) rest) (j, o)
    ∙ ap (λ (p : Option ℕ). option_or (under (numbers_of k s.objects) (j, o)) p) (none_below (suc k) j o rest (omega arith))
    ∙ or_none (under (numbers_of k s.objects) (j, o))
    ∙ ap (λ m. under (numbers_of k s.objects) (m, o)) same
    ∙ numbers_here k o s.objects
numbers_found k (suc i) j o (s ∷ rest) e =
    under_append (numbers_of k s.objects) (numbers_from (suc k) rest) (j, o)
    ∙ ap (λ (p : Option ℕ). option_or p (under (numbers_from (suc k) rest) (j, o))) (numbers_there k j o s.objects (λ f. absurd (omega arith)))
    ∙ numbers_found (suc k) i j o rest (omega arith)

pub roots_stand : (all : List PlannedInstance) (table : List ((ℕ × ℕ) × ℕ)) → table ≡ each_put [] (roots_from 0 all) → (u n : ℕ) → option_map (instance_at_place all) (under table (u, n)) ≡ planned_instance all u n
roots_stand all table e u n =
    ap (λ (t : List ((ℕ × ℕ) × ℕ)). option_map (instance_at_place all) (under t (u, n))) e
    ∙ ap (option_map (instance_at_place all)) (under_each [] (roots_from 0 all) (u, n))
    ∙ roots_found all all 0 u n refl

pub numbers_stand : (all : List PlannedInstance) (table : List ((ℕ × ℕ) × ℕ)) → table ≡ each_put [] (numbers_from 0 all) → (k o : ℕ) → under table (k, o) ≡ number_in (instance_at_place all k).objects o
numbers_stand all table e k o =
    ap (λ (t : List ((ℕ × ℕ) × ℕ)). under t (k, o)) e
    ∙ under_each [] (numbers_from 0 all) (k, o)
    ∙ numbers_found 0 k k o all (omega arith)

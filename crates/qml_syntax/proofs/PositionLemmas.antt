-- Where parts start in a table.
use Rattle.std.proofs.Common.{◌≡◌, ℕ, zero, suc, ◌+◌, ◌-◌, ◌<◌, ◌≤◌, Bool, true, false, List, [], ◌∷◌, ◌++◌, length, drop, reverse, Some, refl, ap, ◌∙◌, sym, arith, get_or, ◌⊎◌, inl, inr}
use Rattle.std.specs.Prelude.{slice_get, slice_index, if◌then◌else◌}
use Rattle.std.proofs.lemmas.List.{length-drop, drop-drop, drop-append-le, length-append, length-reverse, reverse-append}
use Rattle.std.proofs.lemmas.List.{get_or_default}
use Rattle.std.proofs.lemmas.Option.{slice_get-get_or}
use Rattle.std.proofs.lemmas.List.{get_or_push}
use Rattle.std.proofs.Math.ListN.{get_or-append}
use Rattle.std.proofs.Math.Nat.{eq-or-lt_of_le}
use Rattle.std.proofs.Math.Seq.{drop-append_seam, drop-length, drop-nil}
use Rattle.qml_syntax.specs.declared.node.Node.{Node}
use Rattle.qml_syntax.specs.declared.node.Node.TheVariants as node
use Rattle.qml_syntax.specs.declared.taking.Edge.{Edge}
use Rattle.qml_syntax.specs.Nodes.{Parts, Table, below, parts_in}
use Rattle.qml_syntax.specs.Opened.{first, top, node_of, parts_of}
use Rattle.qml_syntax.specs.Starts.{listed_item, listed_parts, standing, start_at, AllWhole, Started}
use Rattle.qml_syntax.specs.Taken.{taking_of, is_edge, past, left}
use Rattle.qml_syntax.proofs.TakenLemmas.{item_left}
use Rattle.qml_syntax.proofs.MadeLemmas.{stacked}
use Rattle.qml_syntax.proofs.WholeLemmas.{parts_item, whole}
use Rattle.qml_syntax.proofs.OneLevelLemmas.{one_level, over_item}

-- ---- the first nodes of a table

pub length-first : (k : ℕ) (t : Table) → k ≤ length t → length (first k t) ≡ k
length-first k t h = omega (arith, length-drop (length t - k) t)

pub first-first : (j k : ℕ) (t : Table) → j ≤ k → k ≤ length t → first j (first k t) ≡ first j t
first-first j k t h q =
    let e : length (first k t) ≡ k = length-first k t q in
    let f : length t - k + (k - j) ≡ length t - j = omega arith in
    ap (λ (z : ℕ). drop (z - j) (first k t)) e ∙ drop-drop (k - j) (length t - k) t ∙ ap (λ (z : ℕ). drop z t) f

pub first-over : (a s : Table) → first (length s) (a ++ s) ≡ s
first-over a s =
    let e : length (a ++ s) - length s ≡ length a = omega (arith, length-append a s) in
    ap (λ (z : ℕ). drop z (a ++ s)) e ∙ drop-append_seam a s

pub first-zero : (t : Table) → first 0 t ≡ []
first-zero t =
    let e : length t - 0 ≡ length t = omega arith in
    ap (λ (z : ℕ). drop z t) e ∙ drop-length t

pub first-all : (t : Table) → first (length t) t ≡ t
first-all t =
    let e : length t - length t ≡ 0 = omega arith in
    ap (λ (z : ℕ). drop z t) e

-- behind one more node at the bottom
first-under : (k : ℕ) (t : Table) (x : Node) → k ≤ length t → first (k + 1) (t ++ x ∷ []) ≡ first k t ++ x ∷ []
first-under k t x h =
    let e : length (t ++ x ∷ []) - (k + 1) ≡ length t - k = omega (arith, length-append t (x ∷ [])) in
    let g : length t - k ≤ length t = omega arith in
    ap (λ (z : ℕ). drop z (t ++ x ∷ [])) e ∙ drop-append-le (length t - k) t (x ∷ []) g

pub first-more : (nodes : List Node) (k : ℕ) (x : Node) → slice_get nodes k ≡ Some x → k < length nodes → first (k + 1) (reverse nodes) ≡ x ∷ first k (reverse nodes)
first-more [] k x h q = absurd (cc)
first-more (y ∷ nodes) zero x h q =
    let u : Table = reverse nodes in
    let r : reverse (y ∷ nodes) ≡ u ++ y ∷ [] = reverse-append (y ∷ []) nodes in
    let e : y ≡ x = cc in
    ap (λ z. first 1 z) r ∙ first-over u (y ∷ []) ∙ ap (λ z. z ∷ []) e ∙ ap (λ z. x ∷ z) (sym (first-zero (reverse (y ∷ nodes))))
first-more (y ∷ nodes) (suc k) x h q =
    let u : Table = reverse nodes in
    let r : reverse (y ∷ nodes) ≡ u ++ y ∷ [] = reverse-append (y ∷ []) nodes in
    let n : k < length nodes = omega arith in
    let m : length u ≡ length nodes = length-reverse nodes in
    let a : k + 1 ≤ length u = omega arith in
    let b : k ≤ length u = omega arith in
    let i : first (k + 1) u ≡ x ∷ first k u = first-more nodes k x h n in
    let c : suc k + 1 ≡ k + 1 + 1 = omega arith in
    let d : suc k ≡ k + 1 = omega arith in
    let e : first (suc k + 1) (reverse (y ∷ nodes)) ≡ first (k + 1) u ++ y ∷ [] = ap (λ z. first (suc k + 1) z) r ∙ ap (λ (z : ℕ). first z (u ++ y ∷ [])) c ∙ first-under (k + 1) u y a in
    let f : first (suc k) (reverse (y ∷ nodes)) ≡ first k u ++ y ∷ [] = ap (λ z. first (suc k) z) r ∙ ap (λ (z : ℕ). first z (u ++ y ∷ [])) d ∙ first-under k u y b in
    e ∙ ap (λ z. z ++ y ∷ []) i ∙ ap (λ z. x ∷ z) (sym f)

-- ---- parts and their nodes

pub parts_listed : (s : Parts) → parts_in (listed_parts s) ≡ s
parts_listed [] = refl
parts_listed (i ∷ s) = parts_item i (listed_parts s) ∙ ap (λ z. i ∷ z) (parts_listed s)

all_dropped : (n : ℕ) (t : Table) → AllWhole t → AllWhole (drop n t)
all_dropped zero t h = h
all_dropped (suc n) [] h = h
all_dropped (suc n) (x ∷ xs) h = all_dropped n xs h.1

pub standing_whole : (t : Table) (k : ℕ) → AllWhole t → listed_parts (standing t k) ≡ first k t
standing_whole t k h = whole (first k t) (all_dropped (length t - k) t h)

-- so many nodes as stand before
pub standing_size : (t : Table) (k : ℕ) → AllWhole t → k ≤ length t → length (listed_parts (standing t k)) ≡ k
standing_size t k h q = ap length (standing_whole t k h) ∙ length-first k t q

-- the last node is that of the last part, and its parts stand before it
pub level_is : (s : Parts) (x : Node) (xs : Table) → listed_parts s ≡ x ∷ xs → (x ≡ node_of (top s)) × (parts_in xs ≡ stacked (parts_of (top s)) (below s))
level_is [] x xs h = absurd (cc)
level_is (i ∷ s) x xs h =
    let e : node_of i ∷ listed_parts (stacked (parts_of i) s) ≡ x ∷ xs = sym (one_level i s) ∙ h in
    let f : xs ≡ listed_parts (stacked (parts_of i) s) = cc in
    (cc, ap (λ z. parts_in z) f ∙ parts_listed (stacked (parts_of i) s))

-- the nodes before a part
before_part : (s : Parts) (x : Node) (xs : Table) → listed_parts s ≡ x ∷ xs → (first (length (listed_parts (below s))) (x ∷ xs) ≡ listed_parts (below s)) × (length (listed_parts (below s)) ≤ length xs)
before_part [] x xs h = absurd (cc)
before_part (i ∷ s) x xs h =
    let e : x ∷ xs ≡ listed_item i [] ++ listed_parts s = sym h ∙ over_item i [] (listed_parts s) in
    let n : length (listed_item i []) ≡ suc (length (listed_parts (stacked (parts_of i) []))) = ap length (one_level i []) in
    let m : length (x ∷ xs) ≡ length (listed_item i []) + length (listed_parts s) = ap length e ∙ length-append (listed_item i []) (listed_parts s) in
    let f : suc (length xs) ≡ length (listed_item i []) + length (listed_parts s) = m in
    (ap (λ z. first (length (listed_parts s)) z) e ∙ first-over (listed_item i []) (listed_parts s), omega arith)

step_listed : (t : Table) (k : ℕ) (x : Node) → AllWhole t → first (k + 1) t ≡ x ∷ first k t → listed_parts (standing t (k + 1)) ≡ x ∷ first k t
step_listed t k x h e = standing_whole t (k + 1) h ∙ e

-- the node at a place, and the parts before it
pub node_at : (t : Table) (k : ℕ) (x : Node) → AllWhole t → first (k + 1) t ≡ x ∷ first k t → (x ≡ node_of (top (standing t (k + 1)))) × (standing t k ≡ stacked (parts_of (top (standing t (k + 1)))) (below (standing t (k + 1))))
node_at t k x h e = level_is (standing t (k + 1)) x (first k t) (step_listed t k x h e)

-- before the part at a place stand the parts below it
pub start_is : (t : Table) (k : ℕ) (x : Node) → AllWhole t → k < length t → first (k + 1) t ≡ x ∷ first k t → (standing t (length (listed_parts (below (standing t (k + 1))))) ≡ below (standing t (k + 1))) × (length (listed_parts (below (standing t (k + 1)))) ≤ k)
start_is t k x h q e =
    let s : Parts = standing t (k + 1) in
    let w : listed_parts s ≡ x ∷ first k t = step_listed t k x h e in
    let b : (first (length (listed_parts (below s))) (x ∷ first k t) ≡ listed_parts (below s)) × (length (listed_parts (below s)) ≤ length (first k t)) = before_part s x (first k t) w in
    let z : k ≤ length t = omega arith in
    let y : k + 1 ≤ length t = omega arith in
    let n : length (first k t) ≡ k = length-first k t z in
    let b0 : first (length (listed_parts (below s))) (x ∷ first k t) ≡ listed_parts (below s) = b.0 in
    let b1 : length (listed_parts (below s)) ≤ length (first k t) = b.1 in
    let m : length (listed_parts (below s)) ≤ k = omega arith in
    let l : length (listed_parts (below s)) ≤ k + 1 = omega arith in
    let a : first (length (listed_parts (below s))) t ≡ listed_parts (below s) = sym (first-first (length (listed_parts (below s))) (k + 1) t l y) ∙ ap (λ v. first (length (listed_parts (below s))) v) e ∙ b0 in
    (ap (λ v. parts_in v) a ∙ parts_listed (below s), m)

-- ---- with the starts beside the nodes

pub before_is : (nodes : List Node) (starts : List ℕ) (k : ℕ) → Started nodes starts → k < length starts → (standing (reverse nodes) (slice_index starts k) ≡ below (standing (reverse nodes) (k + 1))) × (slice_index starts k ≤ k)
before_is nodes starts k h q =
    let few : length starts ≤ length nodes = h.few in
    let x : Node = get_or nodes k node.Mark in
    let z : k < length nodes = omega arith in
    let r : length (reverse nodes) ≡ length nodes = length-reverse nodes in
    let y : k < length (reverse nodes) = omega arith in
    let e : slice_index starts k ≡ start_at (reverse nodes) k = h.right k q in
    let s : (standing (reverse nodes) (start_at (reverse nodes) k) ≡ below (standing (reverse nodes) (k + 1))) × (start_at (reverse nodes) k ≤ k) = start_is (reverse nodes) k x h.whole y (first-more nodes k x (slice_get-get_or nodes k node.Mark z) z) in
    rw e s

pub before_end : (nodes : List Node) (starts : List ℕ) (end start : ℕ) → Started nodes starts → end ≤ length starts → (end ≡ 0 → ⊥) → start ≡ get_or starts (end - 1) start → (standing (reverse nodes) start ≡ below (standing (reverse nodes) end)) × (start ≤ end - 1)
before_end nodes starts zero start h q z e = absurd (z refl)
before_end nodes starts (suc k) start h q z e =
    let l : k < length starts = omega arith in
    let a : suc k - 1 ≡ k = omega arith in
    let f : start ≡ slice_index starts k = e ∙ ap (λ (v : ℕ). get_or starts v start) a ∙ get_or_default starts k start 0 l in
    let b : (standing (reverse nodes) (slice_index starts k) ≡ below (standing (reverse nodes) (k + 1))) × (slice_index starts k ≤ k) = before_is nodes starts k h l in
    let n : k + 1 ≡ suc k = omega arith in
    let b0 : standing (reverse nodes) (slice_index starts k) ≡ below (standing (reverse nodes) (k + 1)) = b.0 in
    let b1 : slice_index starts k ≤ k = b.1 in
    (ap (λ (v : ℕ). standing (reverse nodes) v) f ∙ b0 ∙ ap (λ (v : ℕ). below (standing (reverse nodes) v)) n, omega arith)

-- the node at a place, of the nodes in their order
pub node_is : (nodes : List Node) (k : ℕ) (x : Node) → AllWhole (reverse nodes) → k < length nodes → x ≡ get_or nodes k x → (x ≡ node_of (top (standing (reverse nodes) (k + 1)))) × (standing (reverse nodes) k ≡ stacked (parts_of (top (standing (reverse nodes) (k + 1)))) (below (standing (reverse nodes) (k + 1))))
node_is nodes k x h q e =
    let g : slice_get nodes k ≡ Some x = slice_get-get_or nodes k x q ∙ ap (λ v. Some v) (sym e) in
    node_at (reverse nodes) k x h (first-more nodes k x g q)

pub past_step : (g : Edge) (s : Parts) (b : Bool) → is_edge g (node_of (top s)) ≡ b → past g s ≡ (if b then below s else past g (below s))
past_step g [] true e = refl
past_step g [] false e = refl
past_step g (i ∷ s) b e = ap (λ (v : Bool). if v then s else past g s) e

pub drop-below : (n : ℕ) (s : Parts) → drop n (below s) ≡ drop (n + 1) s
drop-below n [] = drop-nil n ∙ sym (drop-nil (n + 1))
drop-below n (i ∷ s) = let e : n + 1 ≡ suc n = omega arith in ap (λ (v : ℕ). drop v (i ∷ s)) (sym e)

pub back_step : (count done : ℕ) (s u e : Parts) → done < count → u ≡ below s → drop (count - done) s ≡ e → drop (count - (done + 1)) u ≡ e
back_step count done s u e q h i =
    let m : count - (done + 1) + 1 ≡ count - done = omega arith in
    ap (λ z. drop (count - (done + 1)) z) h ∙ drop-below (count - (done + 1)) s ∙ ap (λ (v : ℕ). drop v s) m ∙ i

pub edge_is : (nodes : List Node) (start : ℕ) (x : Node) (g : Edge) (b : Bool) → AllWhole (reverse nodes) → start ≤ length nodes → 0 < start → x ≡ get_or nodes (start - 1) x → is_edge g x ≡ b → past g (standing (reverse nodes) start) ≡ (if b then below (standing (reverse nodes) start) else past g (below (standing (reverse nodes) start)))
edge_is nodes start x g b h q z e f =
    let k : ℕ = start - 1 in
    let l : start - 1 < length nodes = omega arith in
    let m : start - 1 + 1 ≡ start = omega arith in
    let n : x ≡ node_of (top (standing (reverse nodes) (start - 1 + 1))) = (node_is nodes (start - 1) x h l e).0 in
    let o : x ≡ node_of (top (standing (reverse nodes) start)) = n ∙ ap (λ (v : ℕ). node_of (top (standing (reverse nodes) v))) m in
    past_step g (standing (reverse nodes) start) b (ap (λ z. is_edge g z) (sym o) ∙ f)

pub next_is : (nodes : List Node) (k r : ℕ) (x : Node) → AllWhole (reverse nodes) → k < length nodes → x ≡ get_or nodes k x → standing (reverse nodes) r ≡ left (taking_of x) (standing (reverse nodes) k) → r ≤ k → r ≡ start_at (reverse nodes) k
next_is nodes k r x h q e f l =
    let s : Parts = standing (reverse nodes) (k + 1) in
    let n : (x ≡ node_of (top s)) × (standing (reverse nodes) k ≡ stacked (parts_of (top s)) (below s)) = node_is nodes k x h q e in
    let m : length (reverse nodes) ≡ length nodes = length-reverse nodes in
    let o : r ≤ length (reverse nodes) = omega arith in
    let a : standing (reverse nodes) r ≡ below s = f ∙ ap (λ z. left (taking_of z) (standing (reverse nodes) k)) (n.0) ∙ ap (λ z. left (taking_of (node_of (top s))) z) (n.1) ∙ item_left (top s) (below s) in
    sym (standing_size (reverse nodes) r h o) ∙ ap (λ z. length (listed_parts z)) a

start_more : (nodes : List Node) (starts : List ℕ) (v k : ℕ) → Started nodes starts → v ≡ start_at (reverse nodes) (length starts) → (k ≡ length starts) ⊎ (k < length starts) → slice_index (starts ++ v ∷ []) k ≡ start_at (reverse nodes) k
start_more nodes starts v k h e (inl q) = get_or_push starts v 0 k (sym q) ∙ e ∙ ap (λ (z : ℕ). start_at (reverse nodes) z) (sym q)
start_more nodes starts v k h e (inr q) = get_or-append starts (v ∷ []) 0 k q ∙ h.right k q

pub started_none : (nodes : List Node) → AllWhole (reverse nodes) → Started nodes []
started_none nodes h = record { whole = h; few = omega arith; right = λ k q. absurd (omega arith) }

pub started_more : (nodes : List Node) (starts : List ℕ) (v : ℕ) → Started nodes starts → length starts < length nodes → v ≡ start_at (reverse nodes) (length starts) → Started nodes (starts ++ v ∷ [])
started_more nodes starts v h q e =
    let n : length (starts ++ v ∷ []) ≡ length starts + 1 = length-append starts (v ∷ []) in
    let few : length (starts ++ v ∷ []) ≤ length nodes = omega arith in
    record { whole = h.whole; few = few; right = λ k l. start_more nodes starts v k h e (eq-or-lt_of_le (let m : k ≤ length starts = omega arith in m)) }

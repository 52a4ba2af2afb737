-- What the code finds at a place among a file's tokens is the answer there.
use Rattle.std.proofs.Common.{◌≡◌, ℕ, ◌+◌, ◌-◌, ◌<◌, List, [], ◌∷◌, Option, Some, None, Ok, Err, Result, length, drop, refl, sym, ap, ◌∙◌, subst, arith}
use Rattle.std.specs.Prelude.{option_map, Bool, true, false, if◌then◌else◌}
use Rattle.qml_base.specs.declared.numbers.Place.{Place}
use Rattle.qml_syntax.specs.declared.token.Token.{Token}
use Rattle.qml_syntax.specs.Tree.{Whole}
use Rattle.qml_syntax.specs.Nodes.{Table}
use Rattle.qml_syntax.specs.Listed.{listed_whole}
use Rattle.js_machine.specs.declared.fault.ParseFault.{ParseFault}
use Rattle.js_machine.specs.declared.fault.ParseFault.TheVariants as fault
use Rattle.js_machine.specs.Machine.{Entry, go, start_of}
use Rattle.js_machine.specs.Answer.{ReadsWhole}
use Rattle.js_machine.specs.Front.{AreWhole, deep_whole, FrontAnswer, IsSame, by_depth, by_tree}
use Rattle.js_machine.specs.Kept.{Ends, kept_go, kept_start}
use Rattle.qml_syntax.specs.Opened.{IsListing}
use Rattle.js_parser.specs.Parse.{Lists, Judges}
use Rattle.js_machine.proofs.Fronts.{front_answer, some_left}
use Rattle.js_machine.proofs.KeptExact.{kept_same}
use Rattle.std.proofs.lemmas.List.{length-drop}

-- the answer at a place, where the tree and the rest are known
known : (y : Entry) (tokens : List Token) (from : ℕ) (o : Option Whole) (rest : List Token) → AreWhole tokens → from < length tokens → (go (drop from tokens) (start_of y)).tree ≡ o → (go (drop from tokens) (start_of y)).rest ≡ rest → FrontAnswer IsSame y tokens from (by_tree o rest (length tokens - length rest))
known y tokens from o rest w h p q =
    let P : Option Whole → Type 0 = λ z. FrontAnswer IsSame y tokens from (by_tree z (go (drop from tokens) (start_of y)).rest (length tokens - length (go (drop from tokens) (start_of y)).rest)) in
    let Q : List Token → Type 0 = λ z. FrontAnswer IsSame y tokens from (by_tree o z (length tokens - length z)) in
    subst Q q (subst P p (front_answer y tokens from w h))

abbrev pub Found : Entry → List Token → ℕ → Option Table → ℕ → Type 0
Found y tokens from nodes count = kept_go (drop from tokens) (kept_start y) ≡ record { tree = nodes; rest = drop count (drop from tokens) }

same_rest : (y : Entry) (tokens : List Token) (from count : ℕ) (nodes : Option Table) → Found y tokens from nodes count → (go (drop from tokens) (start_of y)).rest ≡ drop count (drop from tokens)
same_rest y tokens from count nodes f = ap (λ (e : Ends). e.rest) (sym (kept_same y (drop from tokens)) ∙ f)

same_tree : (y : Entry) (tokens : List Token) (from count : ℕ) (nodes : Option Table) → Found y tokens from nodes count → option_map listed_whole (go (drop from tokens) (start_of y)).tree ≡ nodes
same_tree y tokens from count nodes f = ap (λ (e : Ends). e.tree) (sym (kept_same y (drop from tokens)) ∙ f)

none_known : (o : Option Whole) → option_map listed_whole o ≡ None → o ≡ None
none_known None h = refl
none_known (Some w) h = cc

some_known : (o : Option Whole) (s : Table) → option_map listed_whole o ≡ Some s → (w : Whole) × (o ≡ Some w) × (s ≡ listed_whole w)
some_known None s h = cc
some_known (Some w) s h = (w, refl, cc)

-- no tree reads the tokens
pub is_syntax : {T : Type 0} → (Shows : T → Whole → Type 0) (y : Entry) (tokens : List Token) (from count : ℕ) (t : Token) (more : List Token) → AreWhole tokens → from < length tokens → Found y tokens from None count → drop count (drop from tokens) ≡ t ∷ more → FrontAnswer Shows y tokens from (Err (fault.Syntax t.place))
is_syntax Shows y tokens from count t more w h f q =
    let a = known y tokens from None (t ∷ more) w h (none_known (go (drop from tokens) (start_of y)).tree (same_tree y tokens from count None f)) (same_rest y tokens from count None f ∙ q) in
    record { m = a.m; front = a.front; longest = a.longest; tells = a.tells }

-- a tree reads them
found : (y : Entry) (tokens : List Token) (from count : ℕ) (s : Table) → AreWhole tokens → from < length tokens → Found y tokens from (Some s) count → (w : Whole) × (s ≡ listed_whole w) × FrontAnswer IsSame y tokens from (by_depth (deep_whole w) w (length tokens - length (drop count (drop from tokens))))
found y tokens from count s w h f =
    let x = some_known (go (drop from tokens) (start_of y)).tree s (same_tree y tokens from count (Some s) f) in
    (x.0, x.2, known y tokens from (Some x.0) (drop count (drop from tokens)) w h x.1 (same_rest y tokens from count (Some s) f))

pub is_deep : {T : Type 0} → (Shows : T → Whole → Type 0) (y : Entry) (tokens : List Token) (from count : ℕ) (s : Table) (p : Place) → AreWhole tokens → from < length tokens → Found y tokens from (Some s) count → ((w : Whole) → s ≡ listed_whole w → deep_whole w ≡ Some p) → FrontAnswer Shows y tokens from (Err (fault.TooDeep p))
is_deep Shows y tokens from count s p w h f d =
    let x = found y tokens from count s w h f in
    let P : Option Place → Type 0 = λ z. FrontAnswer IsSame y tokens from (by_depth z x.0 (length tokens - length (drop count (drop from tokens)))) in
    let a = subst P (d x.0 x.1) x.2 in
    record { m = a.m; front = a.front; longest = a.longest; tells = a.tells }

pub is_read : {T : Type 0} → (Shows : T → Whole → Type 0) (y : Entry) (tokens : List Token) (from count : ℕ) (s : Table) (tree : T) → AreWhole tokens → from < length tokens → Found y tokens from (Some s) count → ((w : Whole) → s ≡ listed_whole w → deep_whole w ≡ None) → ((w : Whole) → s ≡ listed_whole w → Shows tree w) → FrontAnswer Shows y tokens from (Ok (tree, from + count))
is_read Shows y tokens from count s tree w h f d sh =
    let x = found y tokens from count s w h f in
    let P : Option Place → Type 0 = λ z. FrontAnswer IsSame y tokens from (by_depth z x.0 (length tokens - length (drop count (drop from tokens)))) in
    let a = subst P (d x.0 x.1) x.2 in
    let n : length tokens - length (drop count (drop from tokens)) ≡ a.m = a.tells.0 in
    let l : length (drop count (drop from tokens)) ≡ length tokens - from - count = length-drop count (drop from tokens) ∙ ap (λ (z : ℕ). z - count) (length-drop from tokens) in
    let i : a.m < length tokens = a.longest.inside in
    record { m = a.m; front = a.front; longest = a.longest; tells = (omega arith, x.0, sh x.0 x.1, (let P2 : Whole → Type 0 = λ z. ReadsWhole y z a.front [] in subst P2 (sym a.tells.2) a.tells.3), d x.0 x.1) }

pub no_memory : {T : Type 0} → (Shows : T → Whole → Type 0) (y : Entry) (tokens : List Token) (from : ℕ) → AreWhole tokens → from < length tokens → FrontAnswer Shows y tokens from (Err fault.NoMemory)
no_memory Shows y tokens from w h =
    let a = front_answer y tokens from w h in
    record { m = a.m; front = a.front; longest = a.longest; tells = tt }

-- ---- what the front of some tokens leaves

abbrev pub Front : Entry → List Token → Bool → Table → ℕ → Type 0
Front y behind whole s count = kept_go behind (kept_start y) ≡ record { tree = if whole then Some s else None; rest = drop count behind }

front_found : (y : Entry) (tokens : List Token) (from : ℕ) (behind : List Token) (whole : Bool) (s : Table) (count : ℕ) → behind ≡ drop from tokens → Front y behind whole s count → Found y tokens from (if whole then Some s else None) count
front_found y tokens from behind whole s count q f = let P : List Token → Type 0 = λ z. Front y z whole s count in subst P q f

pub listing : (y : Entry) (behind : List Token) (whole : Bool) (s : Table) (count : ℕ) → whole ≡ true → Front y behind whole s count → IsListing s
listing y behind true s count h f =
    let x = some_known (go behind (start_of y)).tree s (ap (λ (e : Ends). e.tree) (sym (kept_same y behind) ∙ f)) in
    (x.0, sym x.2)
listing y behind false s count h f = cc

pub answers_tree : (y : Entry) (tokens : List Token) (from : ℕ) (behind : List Token) (whole : Bool) (s : Table) (count : ℕ) (r : Result (Table × ℕ) ParseFault) → whole ≡ true → behind ≡ drop from tokens → Front y behind whole s count → Judges s (from + count) r → AreWhole tokens → from < length tokens → FrontAnswer Lists y tokens from r
answers_tree y tokens from behind true s count (Ok answer) p q f (a, b, d) w h =
    let z = is_read Lists y tokens from count s answer.0 w h (front_found y tokens from behind true s count q f) d (λ v e. a ∙ e) in
    let P : ℕ → Type 0 = λ k. FrontAnswer Lists y tokens from (Ok (answer.0, k)) in
    subst P (sym b) z
answers_tree y tokens from behind true s count (Err (fault.TooDeep place)) p q f d w h = is_deep Lists y tokens from count s place w h (front_found y tokens from behind true s count q f) d
answers_tree y tokens from behind true s count (Err (fault.Syntax place)) p q f d w h = absurd d
answers_tree y tokens from behind true s count (Err fault.NoMemory) p q f d w h = no_memory Lists y tokens from w h
answers_tree y tokens from behind false s count r p q f d w h = cc

syntax_of : (y : Entry) (tokens : List Token) (from count : ℕ) (place : Place) (rest : List Token) → AreWhole tokens → from < length tokens → Found y tokens from None count → drop count (drop from tokens) ≡ rest → (rest ≡ [] → ⊥) → ((t : Token) (more : List Token) → drop count (drop from tokens) ≡ t ∷ more → place ≡ t.place) → FrontAnswer Lists y tokens from (Err (fault.Syntax place))
syntax_of y tokens from count place [] w h f q n d = absurd (n refl)
syntax_of y tokens from count place (t ∷ more) w h f q n d =
    let P : Place → Type 0 = λ z. FrontAnswer Lists y tokens from (Err (fault.Syntax z)) in
    subst P (sym (d t more q)) (is_syntax Lists y tokens from count t more w h f q)

pub answers_syntax : (y : Entry) (tokens : List Token) (from : ℕ) (behind : List Token) (whole : Bool) (s : Table) (count : ℕ) (place : Place) → whole ≡ false → behind ≡ drop from tokens → Front y behind whole s count → ((t : Token) (more : List Token) → drop count behind ≡ t ∷ more → place ≡ t.place) → AreWhole tokens → from < length tokens → FrontAnswer Lists y tokens from (Err (fault.Syntax place))
answers_syntax y tokens from behind false s count place p q f d w h =
    let g = front_found y tokens from behind false s count q f in
    let P : List Token → Type 0 = λ z. (t : Token) (more : List Token) → drop count z ≡ t ∷ more → place ≡ t.place in
    syntax_of y tokens from count place (drop count (drop from tokens)) w h g refl (λ e. some_left y tokens from w h (same_rest y tokens from count None g ∙ e)) (subst P q d)
answers_syntax y tokens from behind true s count place p q f d w h = cc

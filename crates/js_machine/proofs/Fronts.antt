-- The machine never takes the end of a file, so it answers at each place among a file's tokens.
use Rattle.std.proofs.Common.{◌≡◌, ℕ, ◌+◌, ◌-◌, ◌≤◌, ◌<◌, Bool, false, ◌||◌, List, [], ◌∷◌, ◌++◌, length, take, drop, Option, Some, None, refl, sym, ap, ◌∙◌, arith, subst, inl, inr}
use Rattle.std.specs.Prelude.{if◌then◌else◌}
use Rattle.std.proofs.lemmas.List.{length-append, length-drop, drop-append-le, drop-drop}
use Rattle.qml_syntax.specs.declared.literal.Declaration.{Declaration}
use Rattle.std.proofs.Math.Seq.{take-append_seam, drop-append_seam}
use Rattle.qml_base.specs.declared.numbers.Place.{Place}
use Rattle.qml_syntax.specs.declared.token.TokenKind.TheVariants as k
use Rattle.qml_syntax.specs.declared.mark.Mark.{Mark}
use Rattle.qml_syntax.specs.declared.mark.Mark.TheVariants as m
use Rattle.qml_syntax.specs.declared.token.Token.{Token}
use Rattle.qml_syntax.specs.Tree.{Units, Close, semi, auto, Expr, Step, Stmt, expr, give, declare, last_var, nothing, just}
use Rattle.qml_syntax.specs.Levels.{is_open}
use Rattle.qml_syntax.specs.Ends.{bare, last_of}
use Rattle.js_machine.specs.Frames.{Var, stepped, vars_onto, Where, in_body, in_header, in_list, in_expr, in_give, in_value, Frames, jump, State, need, have, dotted, at_key, begin, did, at_give, at_jump, at_name, named, at_first, at_test, at_next, expects}
use Rattle.js_machine.specs.Machine.{role_of, is_brace, is_semi, is_else, is_mark, ends_line, ends_alone, Held, held, closed_at, Placed, placed, over, on_need, on_key, on_begin, on_placed, on_else, on_did, with_end, on_role, on_have, on_dotted, on_alone, on_name, named_end, on_named, on_first, on_test, on_next, step, finish, Entry, Whole, Outcome, go_on, go, start_of}
use Rattle.js_machine.specs.Answer.{ReadsWhole, IsTreeOf, IsAnswer}
use Rattle.js_machine.specs.Front.{AreWhole, deep_whole, TellsFront, FrontAnswer, IsSame, by_depth, by_tree, by_outcome, parse_of}
use Rattle.js_machine.proofs.Tokens.{true_or_false}
use Rattle.js_machine.proofs.Exact.{exact}

-- ---- no state takes the end

placed_end : (p : Placed) (q : Place) → on_placed p q k.End ≡ None
placed_end (placed s (in_list ss ∷ fs)) q = refl
placed_end _ q = refl

did_end : (s : Stmt) (fs : Frames) (t : Token) → t.what ≡ k.End → on_did s fs t ≡ None
did_end s fs t q = ap (λ (v : Bool). if v then on_else fs s else on_placed (over fs s) t.place t.what) (ap is_else q) ∙ ap (on_placed (over fs s) t.place) q ∙ placed_end (over fs s) t.place

held_end : (h : Held) (t : Token) → t.what ≡ k.End → with_end h t ≡ None
held_end (held e (in_expr ∷ fs)) t q = did_end (expr e auto) fs t q
held_end (held e (in_give p ∷ fs)) t q = did_end (give p (just e) auto) fs t q
held_end (held e (in_value in_body p i vs n r ∷ fs)) t q = did_end (declare p i (vars_onto vs (last_var n r (just e))) auto) fs t q
held_end _ t q = refl

have_end : (e : Expr) (ss : List Step) (fs : Frames) (t : Token) → t.what ≡ k.End → on_have e ss fs t ≡ None
have_end e ss fs t q =
    let whole = stepped e ss in
    let P : Bool → Option State = λ v. if v then with_end (closed_at fs 0 whole) t else on_role e ss fs t (role_of t.what) in
    elim (true_or_false (ends_line (last_of (is_open whole)) t)) [
      | inl c ↦ ap P c ∙ held_end (closed_at fs 0 whole) t q
      | inr c ↦ ap P c ∙ ap (on_role e ss fs t) (ap role_of q)
    ]

alone_end : (make : Close → Stmt) (fs : Frames) (t : Token) (so : Option State) → t.what ≡ k.End → so ≡ None → on_alone make fs t so ≡ None
alone_end make fs t so q n =
    let P : Bool → Option State = λ v. if v then on_did (make auto) fs t else (if is_semi t.what then Some (did (make semi) fs) else so) in
    let Q : Bool → Option State = λ v. if v then Some (did (make semi) fs) else so in
    elim (true_or_false (ends_alone t)) [
      | inl c ↦ ap P c ∙ did_end (make auto) fs t q
      | inr c ↦ ap P c ∙ ap Q (ap is_semi q) ∙ n
    ]

named_stops : (h : Where) (p : Place) (i : Declaration) (vs : List Var) (n : Units) (r : Place) (fs : Frames) (t : Token) → t.what ≡ k.End → named_end h p i vs n r fs t ≡ None
named_stops in_body p i vs n r fs t q =
    let whole = declare p i (vars_onto vs (last_var n r nothing)) auto in
    let P : Bool → Option State = λ v. if v then on_did whole fs t else None in
    elim (true_or_false (is_brace t.what || ends_line bare t)) [ inl c ↦ ap P c ∙ did_end whole fs t q | inr c ↦ ap P c ]
named_stops (in_header h) p i vs n r fs t q = refl

mark_end : (x : Mark) → is_mark x k.End ≡ false
mark_end m.LeftParen = refl
mark_end m.RightParen = refl
mark_end m.LeftBrace = refl
mark_end m.Colon = refl
mark_end _ = refl

pub end_sticks : (x : State) (t : Token) → t.what ≡ k.End → step x t ≡ None
end_sticks (need fs) t q = ap (on_need fs t.place) q
end_sticks (have e ss fs) t q = have_end e ss fs t q
end_sticks (dotted e ss fs) t q = ap (on_dotted e ss fs t.place) q
end_sticks (at_key p back fs) t q = ap (on_key p back fs t.place) q
end_sticks (begin fs) t q = ap (on_begin fs t.place) q
end_sticks (did s fs) t q = did_end s fs t q
end_sticks (at_give p fs) t q = alone_end (give p nothing) fs t (on_need (in_give p ∷ fs) t.place t.what) q (ap (on_need (in_give p ∷ fs) t.place) q)
end_sticks (at_jump j p fs) t q = alone_end (jump j p) fs t None q refl
end_sticks (at_name h p i vs fs) t q = ap (on_name h p i vs fs t.place) q
end_sticks (named h p i vs n r fs) t q = ap (on_named h p i vs n r fs t) (ap role_of q) ∙ named_stops h p i vs n r fs t q
end_sticks (at_first p fs) t q = ap (on_first p fs t.place) q
end_sticks (at_test p i fs) t q = ap (on_test p i fs t.place) q
end_sticks (at_next p i e fs) t q = ap (on_next p i e fs t.place) q
end_sticks (expects x next) t q = ap (λ (v : Bool). if v then Some next else None) (ap (is_mark x) q ∙ mark_end x)

-- ---- so something is left

stays_some : (ts : List Token) (e : Token) (x : State) (o : Option State) (t : Token) → step x t ≡ o → ((next : State) → (go (ts ++ e ∷ []) next).rest ≡ [] → ⊥) → (go_on o (finish x) (t ∷ (ts ++ e ∷ [])) (λ next. go (ts ++ e ∷ []) next)).rest ≡ [] → ⊥
stays_some ts e x None t h rec q = cc
stays_some ts e x (Some next) t h rec q = rec next q

leaves_some : (ts : List Token) (e : Token) (x : State) → e.what ≡ k.End → (go (ts ++ e ∷ []) x).rest ≡ [] → ⊥
leaves_some [] e x q h = let f : e ∷ [] ≡ [] = sym (ap (λ (o : Option State). (go_on o (finish x) (e ∷ []) (λ next. go [] next)).rest) (end_sticks x e q)) ∙ h in cc
leaves_some (t ∷ ts) e x q h = stays_some ts e x (step x t) t refl (λ next z. leaves_some ts e next q z) h

-- ---- the tokens behind a place of a whole file end in its end too

tail_whole : (before : List Token) (e : Token) (n : ℕ) → n < length (before ++ e ∷ []) → (c : List Token) × (drop n (before ++ e ∷ []) ≡ c ++ e ∷ [])
tail_whole before e n h = (drop n before, drop-append-le n before (e ∷ []) (let l = length-append before (e ∷ []) in omega arith))

pub some_left : (y : Entry) (tokens : List Token) (from : ℕ) → AreWhole tokens → from < length tokens → (go (drop from tokens) (start_of y)).rest ≡ [] → ⊥
some_left y tokens from (before, e, q, w) h z =
    let P : List Token → Type 0 = λ v. from < length v in
    let c = tail_whole before e from (subst P q h) in
    let d : drop from tokens ≡ c.0 ++ e ∷ [] = ap (drop from) q ∙ c.1 in
    leaves_some c.0 e (start_of y) w (sym (ap (λ (v : List Token). (go v (start_of y)).rest) d) ∙ z)

-- ---- the answer at a place

head_place : (tokens rest : List Token) (m : ℕ) (t : Token) (more : List Token) → drop m tokens ≡ rest → rest ≡ t ∷ more → (u : Token) (others : List Token) → drop m tokens ≡ u ∷ others → u.place ≡ t.place
head_place tokens rest m t more d r u others h = let f : u ∷ others ≡ t ∷ more = sym h ∙ d ∙ r in let g : u ≡ t = cc in ap (λ (z : Token). z.place) g

depth_tells : (y : Entry) (tokens front : List Token) (m : ℕ) (w : Whole) (o : Option Place) → deep_whole w ≡ o → ReadsWhole y w front [] → TellsFront IsSame y tokens front m (by_depth o w m)
depth_tells y tokens front m w None q r = (refl, w, refl, r, q)
depth_tells y tokens front m w (Some p) q r = (w, r, q)

tree_tells : (y : Entry) (tokens front rest : List Token) (m : ℕ) (o : Option Whole) → drop m tokens ≡ rest → (rest ≡ [] → ⊥) → IsTreeOf y front o → TellsFront IsSame y tokens front m (by_tree o rest m)
tree_tells y tokens front [] m None d n h = absurd (n refl)
tree_tells y tokens front (t ∷ more) m None d n h = (h, λ u others z. head_place tokens (t ∷ more) m t more d refl u others z)
tree_tells y tokens front rest m (Some w) d n h = depth_tells y tokens front m w (deep_whole w) refl h

nonempty : (rest : List Token) → (rest ≡ [] → ⊥) → 1 ≤ length rest
nonempty [] n = absurd (n refl)
nonempty (t ∷ ts) n = omega arith

front_of : (y : Entry) (tokens : List Token) (from : ℕ) (out : Outcome) → from < length tokens → (out.rest ≡ [] → ⊥) → IsAnswer y (drop from tokens) out.tree out.rest → FrontAnswer IsSame y tokens from (by_outcome (length tokens) out)
front_of y tokens from out h n a =
    let front = a.front in
    let split : drop from tokens ≡ front ++ out.rest = a.parts.split in
    let some : 1 ≤ length out.rest = nonempty out.rest n in
    let total : length tokens - from ≡ length front + length out.rest = sym (length-drop from tokens) ∙ ap length split ∙ length-append front out.rest in
    let m = length tokens - length out.rest in
    let mid : m - from ≡ length front = omega arith in
    let at : m ≡ from + length front = omega arith in
    let there : drop m tokens ≡ out.rest = ap (λ (z : ℕ). drop z tokens) at ∙ sym (drop-drop (length front) from tokens) ∙ ap (drop (length front)) split ∙ drop-append_seam front out.rest in
    record {
      m = m;
      front = front;
      longest = record {
        behind = omega arith;
        inside = omega arith;
        is_front = sym (ap (λ (z : ℕ). take z (drop from tokens)) mid ∙ ap (take (length front)) split ∙ take-append_seam front out.rest);
        goes_on = a.parts.goes_on;
        ends = λ t more q. a.parts.ends t more (sym there ∙ q);
      };
      tells = tree_tells y tokens front out.rest m out.tree there n a.tree;
    }

pub front_answer : (y : Entry) (tokens : List Token) (from : ℕ) → AreWhole tokens → from < length tokens → FrontAnswer IsSame y tokens from (parse_of y tokens from)
front_answer y tokens from w h = front_of y tokens from (go (drop from tokens) (start_of y)) h (some_left y tokens from w h) (exact y (drop from tokens))

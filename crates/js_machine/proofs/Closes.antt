-- How statements end, and how lists of statements go on.
use Rattle.std.proofs.Common.{◌≡◌, ℕ, Bool, true, false, ◌||◌, List, [], ◌∷◌, Option, Some, None, refl, sym, ap, ◌∙◌, subst, inl, inr}
use Rattle.std.specs.Prelude.{if◌then◌else◌}
use Rattle.qml_base.specs.declared.numbers.Place.{Place}
use Rattle.qml_syntax.specs.declared.token.TokenKind.{TokenKind}
use Rattle.qml_syntax.specs.declared.token.TokenKind.TheVariants as k
use Rattle.qml_syntax.specs.declared.mark.Mark.TheVariants as m
use Rattle.qml_syntax.specs.declared.word.Word.TheVariants as w
use Rattle.qml_syntax.specs.declared.token.Token.{Token}
use Rattle.qml_syntax.specs.declared.operators.Assignment.TheVariants as u
use Rattle.qml_syntax.specs.declared.literal.Declaration.{Declaration}
use Rattle.qml_syntax.specs.Tree.{Units, Close, semi, auto, Expr, Step, Stmt, declare, when, last_var, nothing}
use Rattle.qml_syntax.specs.Levels.{is_open}
use Rattle.qml_syntax.specs.Ends.{Last, bare, last_of, goes_on, seen, Lacks, EndsBefore, MayEnd, ReadsClose, c_semi, c_auto, AloneBefore, EndsAlone, ClosesAlone, b_semi, b_auto}
use Rattle.js_machine.specs.Frames.{Var, vars_onto, Where, in_body, Frame, in_list, in_block, in_function, in_when, in_either, Frames, State, have, begin, did, named}
use Rattle.js_machine.specs.Machine.{Role, updates, comma, semicolon, brace, role_of, is_brace, is_semi, is_else, ends_line, ends_alone, Held, held, closed_at, over, on_begin, on_placed, on_else, on_did, with_semi, with_end, with_brace, on_role, on_alone, named_end, on_named, step, finish, held_whole, list_whole, placed_whole, go}
use Rattle.js_machine.proofs.Tokens.{true_or_false, or_left, or_right, role_fits, semi_stays, brace_stays, ends_yes, else_is, else_not}
use Rattle.js_machine.proofs.Collapse.{Ends, ends_kind, then_go, same_go, have_step}

-- ---- an expression in a frame that makes a statement of it

pub record Makes (f : Frame) (e : Expr) (make : Close → Stmt) (fs : Frames) : Type 0 where
  pub closed : closed_at (f ∷ fs) 0 e ≡ held e (f ∷ fs)
  pub by_semi : with_semi (held e (f ∷ fs)) ≡ Some (did (make semi) fs)
  pub by_end : (t : Token) → with_end (held e (f ∷ fs)) t ≡ on_did (make auto) fs t
  pub by_brace : (t : Token) → with_brace (held e (f ∷ fs)) t ≡ on_did (make auto) fs t
  pub at_end : held_whole (held e (f ∷ fs)) ≡ placed_whole (over fs (make auto))

head_before : (x : Token) (xs rest : List Token) (l : Last) → rest ≡ x ∷ xs → MayEnd l rest → EndsBefore l x
head_before x xs rest l q h = let P : List Token → Type 0 = λ z. MayEnd l z in subst P q h

may_end : (b : List Token) (n : ℕ) (ready : Bool) → MayEnd (last_of ready) b → Ends b n ready
may_end [] n r h = tt
may_end (t ∷ b) n r (inl q) = ends_kind t (k.Mark m.RightBrace) brace n r q refl tt
may_end (t ∷ b) n r (inr (line, h)) = inl (ends_yes (last_of r) t line h)

-- what ends a statement ends its expression
pub close_ends : {l : Last} {c : Close} {b rest : List Token} → ReadsClose l c b rest → (n : ℕ) (ready : Bool) → l ≡ last_of ready → Ends b n ready
close_ends (c_semi (seen {t = t} q)) n ready h = ends_kind t (k.Mark m.Semicolon) semicolon n ready q refl tt
close_ends (c_auto {rest = rest} g) n ready h = let P : Last → Type 0 = λ z. MayEnd z rest in may_end rest n ready (subst P h g)

have_ends : (e : Expr) (fs : Frames) (t : Token) → ends_line (last_of (is_open e)) t ≡ true → step (have e [] fs) t ≡ with_end (closed_at fs 0 e) t
have_ends e fs t h = ap (λ (v : Bool). if v then with_end (closed_at fs 0 e) t else on_role e [] fs t (role_of t.what)) h

ends_at : (f : Frame) (e : Expr) (make : Close → Stmt) (fs : Frames) → Makes f e make fs → (x : Token) → EndsBefore (last_of (is_open e)) x → step (have e [] (f ∷ fs)) x ≡ step (did (make auto) fs) x
ends_at f e make fs mk x (inl q) = have_step e [] (f ∷ fs) x (k.Mark m.RightBrace) brace q brace_stays refl ∙ ap (λ (z : Held). with_brace z x) mk.closed ∙ mk.by_brace x
ends_at f e make fs mk x (inr (line, h)) = have_ends e (f ∷ fs) x (ends_yes (last_of (is_open e)) x line h) ∙ ap (λ (z : Held). with_end z x) mk.closed ∙ mk.by_end x

pub close_go : {l : Last} {c : Close} {b rest : List Token} → ReadsClose l c b rest → (f : Frame) (e : Expr) (make : Close → Stmt) (fs : Frames) → Makes f e make fs → l ≡ last_of (is_open e) → go b (have e [] (f ∷ fs)) ≡ go rest (did (make c) fs)
close_go (c_semi (seen {t = t} {rest = rest} q)) f e make fs mk h = then_go (have e [] (f ∷ fs)) t rest (did (make semi) fs) (have_step e [] (f ∷ fs) t (k.Mark m.Semicolon) semicolon q semi_stays refl ∙ ap with_semi mk.closed ∙ mk.by_semi)
close_go (c_auto {rest = rest} g) f e make fs mk h =
    let P : Last → Type 0 = λ z. MayEnd z rest in
    let w : MayEnd (last_of (is_open e)) rest = subst P h g in
    same_go (have e [] (f ∷ fs)) (did (make auto) fs) rest (ap held_whole mk.closed ∙ mk.at_end) (λ x xs q. ends_at f e make fs mk x (head_before x xs rest (last_of (is_open e)) q w))

-- ---- a name that is declared without a value

named_other : (h : Where) (p : Place) (q : Declaration) (vs : List Var) (n : Units) (r : Place) (fs : Frames) (t : Token) (role : Role) → role_of t.what ≡ role → goes_on bare t.what ≡ false → on_named h p q vs n r fs t role ≡ named_end h p q vs n r fs t
named_other h p q vs n r fs t (updates u.Plain) e g = let z : goes_on bare (k.Mark m.Assign) ≡ false = ap (goes_on bare) (sym (role_fits t.what (updates u.Plain) e)) ∙ g in cc
named_other h p q vs n r fs t comma e g = let z : goes_on bare (k.Mark m.Comma) ≡ false = ap (goes_on bare) (sym (role_fits t.what comma e)) ∙ g in cc
named_other h p q vs n r fs t semicolon e g = let z : goes_on bare (k.Mark m.Semicolon) ≡ false = ap (goes_on bare) (sym (role_fits t.what semicolon e)) ∙ g in cc
named_other h p q vs n r fs t _ e g = refl

named_ends : (p : Place) (q : Declaration) (vs : List Var) (n : Units) (r : Place) (fs : Frames) (t : Token) → EndsBefore bare t → step (named in_body p q vs n r fs) t ≡ on_did (declare p q (vars_onto vs (last_var n r nothing)) auto) fs t
named_ends p q vs n r fs t (inl b) =
    let one : (is_brace t.what || ends_line bare t) ≡ true = or_left (is_brace t.what) (ends_line bare t) (ap is_brace b) in
    ap (on_named in_body p q vs n r fs t) (ap role_of b) ∙ ap (λ (v : Bool). if v then on_did (declare p q (vars_onto vs (last_var n r nothing)) auto) fs t else None) one
named_ends p q vs n r fs t (inr (line, g)) =
    let one : (is_brace t.what || ends_line bare t) ≡ true = or_right (is_brace t.what) (ends_line bare t) (ends_yes bare t line g) in
    named_other in_body p q vs n r fs t (role_of t.what) refl g ∙ ap (λ (v : Bool). if v then on_did (declare p q (vars_onto vs (last_var n r nothing)) auto) fs t else None) one

pub named_go : {l : Last} {c : Close} {b rest : List Token} → ReadsClose l c b rest → l ≡ bare → (p : Place) (q : Declaration) (vs : List Var) (n : Units) (r : Place) (fs : Frames) → go b (named in_body p q vs n r fs) ≡ go rest (did (declare p q (vars_onto vs (last_var n r nothing)) c) fs)
named_go (c_semi (seen {t = t} {rest = rest} w)) h p q vs n r fs = then_go (named in_body p q vs n r fs) t rest (did (declare p q (vars_onto vs (last_var n r nothing)) semi) fs) (ap (on_named in_body p q vs n r fs t) (ap role_of w))
named_go (c_auto {rest = rest} g) h p q vs n r fs =
    let P : Last → Type 0 = λ z. MayEnd z rest in
    let w : MayEnd bare rest = subst P h g in
    same_go (named in_body p q vs n r fs) (did (declare p q (vars_onto vs (last_var n r nothing)) auto) fs) rest refl (λ x xs e. named_ends p q vs n r fs x (head_before x xs rest bare e w))

-- ---- `return`, `break` and `continue` alone

alone_true : (t : Token) → AloneBefore t → ends_alone t ≡ true
alone_true t (inl q) = or_left (is_brace t.what) t.after_line (ap is_brace q)
alone_true t (inr h) = or_right (is_brace t.what) t.after_line h

head_alone : (x : Token) (xs rest : List Token) → rest ≡ x ∷ xs → EndsAlone rest → AloneBefore x
head_alone x xs rest q h = let P : List Token → Type 0 = λ z. EndsAlone z in subst P q h

alone_semi : (t : Token) → t.what ≡ k.Mark m.Semicolon → t.after_line ≡ false → ends_alone t ≡ false
alone_semi t q line = ap (λ (v : Bool). v || t.after_line) (ap is_brace q) ∙ line

pub alone_go : {c : Close} {b rest : List Token} → ClosesAlone c b rest → (make : Close → Stmt) (fs : Frames) (s : State) (a : Token → Option State) → ((t : Token) → step s t ≡ on_alone make fs t (a t)) → finish s ≡ placed_whole (over fs (make auto)) → go b s ≡ go rest (did (make c) fs)
alone_go (b_semi on (seen {t = t} {rest = rest} q)) make fs s a h f = then_go s t rest (did (make semi) fs) (h t ∙ rw (alone_semi t q on, ap is_semi q) refl)
alone_go (b_auto {rest = rest} e) make fs s a h f = same_go s (did (make auto) fs) rest f (λ x xs q. h x ∙ ap (λ (v : Bool). if v then on_did (make auto) fs x else (if is_semi x.what then Some (did (make semi) fs) else a x)) (alone_true x (head_alone x xs rest q e)))

-- ---- without an `else` an `if` is over

head_lacks : (x : Token) (xs rest : List Token) (kind : TokenKind) → rest ≡ x ∷ xs → Lacks kind rest → x.what ≡ kind → ⊥
head_lacks x xs rest kind q h = let P : List Token → Type 0 = λ z. Lacks kind z in subst P q h

pub when_go : (p : Place) (e : Expr) (s : Stmt) (fs : Frames) (rest : List Token) → Lacks (k.Word w.Else) rest → go rest (did s (in_when p e ∷ fs)) ≡ go rest (did (when p e s) fs)
when_go p e s fs rest h = same_go (did s (in_when p e ∷ fs)) (did (when p e s) fs) rest refl (λ x xs q. rw (else_not x.what (head_lacks x xs rest (k.Word w.Else) q h)) refl)

-- ---- a list of statements takes the next

pub record Lists (wrap : List Stmt → Frame) : Type 0 where
  pub ends : (s : Stmt) (back : List Stmt) (fs : Frames) → placed_whole (over (wrap back ∷ fs) s) ≡ list_whole (wrap (s ∷ back) ∷ fs)
  pub next : (s : Stmt) (back : List Stmt) (fs : Frames) (p : Place) (x : TokenKind) → on_placed (over (wrap back ∷ fs) s) p x ≡ on_begin (wrap (s ∷ back) ∷ fs) p x
  pub elses : (s : Stmt) (back : List Stmt) (fs : Frames) → on_else (wrap back ∷ fs) s ≡ None

list_step : (wrap : List Stmt → Frame) (s : Stmt) (back : List Stmt) (fs : Frames) → Lists wrap → (t : Token) → on_did s (wrap back ∷ fs) t ≡ on_begin (wrap (s ∷ back) ∷ fs) t.place t.what
list_step wrap s back fs l t =
    elim (true_or_false (is_else t.what)) [
      | inl h ↦ ap (λ (v : Bool). if v then on_else (wrap back ∷ fs) s else on_placed (over (wrap back ∷ fs) s) t.place t.what) h ∙ l.elses s back fs ∙ sym (ap (on_begin (wrap (s ∷ back) ∷ fs) t.place) (else_is t.what h))
      | inr h ↦ ap (λ (v : Bool). if v then on_else (wrap back ∷ fs) s else on_placed (over (wrap back ∷ fs) s) t.place t.what) h ∙ l.next s back fs t.place t.what
    ]

pub list_go : (wrap : List Stmt → Frame) (s : Stmt) (back : List Stmt) (fs : Frames) (rest : List Token) → Lists wrap → go rest (did s (wrap back ∷ fs)) ≡ go rest (begin (wrap (s ∷ back) ∷ fs))
list_go wrap s back fs rest l = same_go (did s (wrap back ∷ fs)) (begin (wrap (s ∷ back) ∷ fs)) rest (l.ends s back fs) (λ x xs q. list_step wrap s back fs l x)

pub blocks : (p : Place) → Lists (in_block p)
blocks p = record { ends = λ s back fs. refl; next = λ s back fs q x. refl; elses = λ s back fs. refl }

pub lists : Lists in_list
lists = record { ends = λ s back fs. refl; next = λ s back fs q x. refl; elses = λ s back fs. refl }

pub functions : (e : Expr) (st : List Step) (p : Place) → Lists (in_function e st p)
functions e st p = record { ends = λ s back fs. refl; next = λ s back fs q x. refl; elses = λ s back fs. refl }

pub else_step : (p : Place) (e : Expr) (s : Stmt) (fs : Frames) (t : Token) → t.what ≡ k.Word w.Else → on_did s (in_when p e ∷ fs) t ≡ Some (begin (in_either p e s ∷ fs))
else_step p e s fs t q = ap (λ (v : Bool). if v then on_else (in_when p e ∷ fs) s else on_placed (over (in_when p e ∷ fs) s) t.place t.what) (ap is_else q)

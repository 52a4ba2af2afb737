-- What single tokens and the parts of members do to the machine of documents.
use Rattle.std.proofs.Common.{◌≡◌, Bool, true, false, not, ◌&&◌, List, [], ◌∷◌, Option, Some, None, refl, sym, ap, ◌∙◌, subst, inl, inr, codes}
use Rattle.std.specs.Prelude.{if◌then◌else◌}
use Rattle.std.specs.Str.{bytes_eq}
use Rattle.qml_base.specs.declared.numbers.Place.{Place}
use Rattle.qml_syntax.specs.declared.token.TokenKind.{TokenKind}
use Rattle.qml_syntax.specs.declared.token.TokenKind.TheVariants as k
use Rattle.qml_syntax.specs.declared.mark.Mark.TheVariants as m
use Rattle.qml_syntax.specs.declared.word.Word.TheVariants as w
use Rattle.qml_syntax.specs.declared.token.Token.{Token}
use Rattle.qml_syntax.specs.Tree.{Units, Close, semi, auto, Expr, name, member, Step, Stmt, Stmts}
use Rattle.qml_syntax.specs.Levels.{is_open}
use Rattle.qml_syntax.specs.Ends.{a_token, Sees, seen, last_of}
use Rattle.qml_syntax.specs.Reads.{ReadsStmt, ReadsStmts}
use Rattle.js_machine.specs.Frames.{stepped, in_one, in_list, in_expr, in_items, Frames, State, have, dotted, begin}
use Rattle.js_machine.specs.Machine.{is_brace, is_semi, is_else, ends_line, dot, other, role_of, closed_at, with_end, on_role, on_begin, on_need, on_dotted, step, finish, Whole, whole_stmt, whole_body, go_on, go}
use Rattle.js_machine.specs.Machine as js
use Rattle.js_machine.proofs.Tokens.{true_or_false, or_left, or_right, both, dot_stays}
use Rattle.js_machine.proofs.Collapse.{have_step}
use Rattle.qml_syntax.specs.Tree.{Names, Import, TypeName, own_type, type_of, Kind, kind_var, kind_name, kind_list, value_stmt}
use Rattle.qml_syntax.specs.declared.contextual.Adjective.{Adjective}
use Rattle.qml_syntax.specs.declared.contextual.Adjective.TheVariants as adjective
use Rattle.qml_syntax.specs.Words.{is_type, Tail, whole, continues, MayStop, ReadsEnd, e_semi, e_auto}
use Rattle.qml_syntax.specs.ReadsDocument.{ReadsDots, d_none, d_more, ReadsType, t_own, t_of, ReadsKind, k_var, k_name, k_list, ReadsAdjective, a_ordinary, a_default, a_readonly}
use Rattle.qml_machine.specs.Open.{onto, Par, Holder, at_root, as_child, as_value, in_objects, Inside, Target, Head, Kinded, of_declared, member_of, inside_of, Reading, imports, at_object, object_named, object_dotted, typed, members, done, path, path_dotted, at_property, at_kind, kind_named, kind_dotted, at_element, element_named, kinded, body, value}
use Rattle.qml_machine.specs.DocumentMachine.{stops, on_end, may_end, start, opened, on_members, on_done, on_path, on_path_brace, on_kind, on_kinded, on_kind_named, function_of, on_body_end, on_body_stuck, is_left_brace, type_read, on_type_read, on_stmt_end, on_value_stuck, on_imports, on_name, on_mark, is_greater, on_object_named, read_step, read_finish, Outcome, run}
use Rattle.qml_machine.proofs.StmtEnds.{stmt_may_end, stmt_whole, body_whole}

-- ---- steps of the whole reading

pub then_run : (x : Reading) (t : Token) (a : List Token) (next : Reading) → read_step x t ≡ Some next → run (t ∷ a) x ≡ run a next
then_run x t a next h = rw h refl

pub head_run : (x z : Reading) (t : Token) (a : List Token) → read_finish x ≡ read_finish z → read_step x t ≡ read_step z t → run (t ∷ a) x ≡ run (t ∷ a) z
head_run x z t a f h = rw (f, h) refl

pub same_run : (x z : Reading) (rest : List Token) → read_finish x ≡ read_finish z → ((t : Token) (more : List Token) → rest ≡ t ∷ more → read_step x t ≡ read_step z t) → run rest x ≡ run rest z
same_run x z [] f h = ap (λ e. record { tree = e; rest = [] }) f
same_run x z (t ∷ more) f h = head_run x z t more f (h t more refl)

pub if_true : (b : Bool) (x : Reading) → b ≡ true → (if b then Some x else None) ≡ Some x
if_true b x h = ap (λ (v : Bool). if v then Some x else None) h

pub mark_true : (b : Bool) (x : Reading) → b ≡ true → on_mark b x ≡ Some x
mark_true b x h = ap (λ (v : Bool). on_mark v x) h

-- ---- names behind dots

pub dots_run : {ns : Names} {a b : List Token} → ReadsDots ns a b → (named dots : List Units → Reading) → ((back : List Units) (t : Token) → t.what ≡ k.Mark m.Dot → read_step (named back) t ≡ Some (dots back)) → ((back : List Units) (t : Token) (n : Units) → t.what ≡ k.Name n → read_step (dots back) t ≡ Some (named (n ∷ back))) → (back : List Units) (out : Outcome) → ((back' : List Units) → onto back' [] ≡ onto back ns → run b (named back') ≡ out) → run a (named back) ≡ out
dots_run d_none named dots h g back out final = final back refl
dots_run (d_more {n = n} (seen {t = t} {rest = b} q) (seen {t = u} {rest = c} s) more) named dots h g back out final =
    then_run (named back) t b (dots back) (h back t q) ∙ then_run (dots back) u c (named (n ∷ back)) (g back u n s) ∙ dots_run more named dots h g (n ∷ back) out final

path_dot : (i : Inside) (n : Units) (p : Place) (back : List Units) (r : Place) → on_path i n p back r (k.Mark m.Dot) ≡ Some (path_dotted i n p back)
path_dot i n p [] r = refl
path_dot i n p (x ∷ back) r = refl

pub path_run : {ns : Names} {a b : List Token} → ReadsDots ns a b → (i : Inside) (n : Units) (p : Place) (out : Outcome) → ((back : List Units) → onto back [] ≡ ns → run b (path i n p back) ≡ out) → run a (path i n p []) ≡ out
path_run ds i n p out final = dots_run ds (path i n p) (path_dotted i n p) (λ back t q. ap (on_path i n p back t.place) q ∙ path_dot i n p back t.place) (λ back t x q. ap (λ z. on_name z (λ x. Some (path i n p (x ∷ back)))) q) [] out final

-- ---- kinds

-- what may come behind a kind
abbrev pub follows : TokenKind → Bool
follows (k.Name n) = true
follows (k.Mark m.Comma) = true
follows (k.Mark m.RightParen) = true
follows (k.Mark m.LeftBrace) = true
follows _ = false

abbrev pub Follows : List Token → Type 0
Follows rest = (t : Token) (more : List Token) → rest ≡ t ∷ more → follows t.what ≡ true

pub follows_head : (t : Token) (rest : List Token) (x : TokenKind) → t.what ≡ x → follows x ≡ true → Follows (t ∷ rest)
follows_head t rest x q h = λ u more e. let g : t ≡ u = cc in ap follows (sym (ap (λ (z : Token). z.what) g) ∙ q) ∙ h

kind_dot : (c : Kinded) (n : Units) (p : Place) (back : List Units) (r : Place) → on_kind_named c n p back r (k.Mark m.Dot) ≡ Some (kind_dotted c n p back)
kind_dot c n p [] r = refl
kind_dot c n p (x ∷ back) r = refl

kind_over : (c : Kinded) (n : Units) (p : Place) (back : List Units) (r : Place) (x : TokenKind) → follows x ≡ true → on_kind_named c n p back r x ≡ on_kinded c (kind_name n p (onto back [])) r x
kind_over c n p [] r (k.Name y) h = refl
kind_over c n p (z ∷ back) r (k.Name y) h = refl
kind_over c n p [] r (k.Mark m.Comma) h = refl
kind_over c n p (z ∷ back) r (k.Mark m.Comma) h = refl
kind_over c n p [] r (k.Mark m.RightParen) h = refl
kind_over c n p (z ∷ back) r (k.Mark m.RightParen) h = refl
kind_over c n p [] r (k.Mark m.LeftBrace) h = refl
kind_over c n p (z ∷ back) r (k.Mark m.LeftBrace) h = refl
kind_over c n p _ r _ h = cc

pub kind_run : {q : Kind} {a b : List Token} → ReadsKind q a b → (c : Kinded) → Follows b → run a (at_kind c) ≡ run b (kinded c q)
kind_run (k_var (seen {t = t} {rest = rest} q)) c f = then_run (at_kind c) t rest (kinded c kind_var) (ap (on_kind c t.place) q)
kind_run (k_name {n = n} {ns = ns} {rest = rest} (a_token {t = t} {rest = b} q) ds) c f =
    then_run (at_kind c) t b (kind_named c n t.place []) (ap (on_kind c t.place) q) ∙
    dots_run ds (kind_named c n t.place) (kind_dotted c n t.place) (λ back u e. ap (on_kind_named c n t.place back u.place) e ∙ kind_dot c n t.place back u.place) (λ back u x e. ap (λ z. on_name z (λ x. Some (kind_named c n t.place (x ∷ back)))) e) [] (run rest (kinded c (kind_name n t.place ns)))
    (λ back e. same_run (kind_named c n t.place back) (kinded c (kind_name n t.place ns)) rest refl (λ u more g. kind_over c n t.place back u.place u.what (f u more g) ∙ ap (λ z. on_kinded c (kind_name n t.place z) u.place u.what) e))
kind_run (k_list {n = n} {rest = rest} (seen {t = t} {rest = b} q) (seen {t = u} {rest = d} s) (a_token {t = v} {rest = g} e) (seen {t = o} h)) c f =
    then_run (at_kind c) t (u ∷ v ∷ o ∷ rest) (kind_named c (codes "list") t.place []) (ap (on_kind c t.place) q) ∙
    then_run (kind_named c (codes "list") t.place []) u (v ∷ o ∷ rest) (at_element c) (ap (on_kind_named c (codes "list") t.place [] u.place) s) ∙
    then_run (at_element c) v (o ∷ rest) (element_named c n v.place) (ap (λ z. on_name z (λ n. Some (element_named c n v.place))) e) ∙
    then_run (element_named c n v.place) o rest (kinded c (kind_list n v.place)) (ap (λ z. on_mark (is_greater z) (kinded c (kind_list n v.place))) h)

-- behind the word `property`
property_run : {q : Kind} {a b : List Token} → ReadsKind q a b → (i : Inside) (p : Place) → run a (path i (codes "property") p []) ≡ run a (at_kind (of_declared i p adjective.Ordinary))
property_run (k_var (seen {t = t} {rest = rest} q)) i p = head_run (path i (codes "property") p []) (at_kind (of_declared i p adjective.Ordinary)) t rest refl (ap (on_path i (codes "property") p [] t.place) q ∙ sym (ap (on_kind (of_declared i p adjective.Ordinary) t.place) q))
property_run (k_name (a_token {t = t} {rest = b} q) ds) i p = head_run (path i (codes "property") p []) (at_kind (of_declared i p adjective.Ordinary)) t b refl (ap (on_path i (codes "property") p [] t.place) q ∙ sym (ap (on_kind (of_declared i p adjective.Ordinary) t.place) q))
property_run (k_list (seen {t = t} {rest = b} q) s e h) i p = head_run (path i (codes "property") p []) (at_kind (of_declared i p adjective.Ordinary)) t b refl (ap (on_path i (codes "property") p [] t.place) q ∙ sym (ap (on_kind (of_declared i p adjective.Ordinary) t.place) q))

pub adjective_run : {d : Adjective} {p : Place} {q : Kind} {a b c : List Token} → ReadsAdjective d p a b → ReadsKind q b c → (i : Inside) → run a (members i) ≡ run b (at_kind (of_declared i p d))
adjective_run (a_ordinary (a_token {t = t} {rest = b} q)) kd i = then_run (members i) t b (path i (codes "property") t.place []) (ap (on_members i t.place) q) ∙ property_run kd i t.place
adjective_run (a_default (a_token {t = t} q) (seen {t = u} {rest = b} s)) kd i =
    then_run (members i) t (u ∷ b) (at_property i t.place adjective.Default) (ap (on_members i t.place) q) ∙
    then_run (at_property i t.place adjective.Default) u b (at_kind (of_declared i t.place adjective.Default)) (ap (λ z. on_name z (λ n. on_mark (bytes_eq n (codes "property")) (at_kind (of_declared i t.place adjective.Default)))) s)
adjective_run (a_readonly (a_token {t = t} q) (seen {t = u} {rest = b} s)) kd i =
    then_run (members i) t (u ∷ b) (path i (codes "readonly") t.place []) (ap (on_members i t.place) q) ∙
    then_run (path i (codes "readonly") t.place []) u b (at_kind (of_declared i t.place adjective.ReadOnly)) (ap (on_path i (codes "readonly") t.place [] u.place) s)

-- ---- ends

semi_not : (l : Tail) (x : TokenKind) → continues l x ≡ false → is_semi x ≡ false
semi_not l (k.Mark m.Semicolon) h = cc
semi_not l _ h = refl

brace_ends_all : (l : Tail) → continues l (k.Mark m.RightBrace) ≡ false
brace_ends_all whole = refl
brace_ends_all _ = refl

stop_not : (l : Tail) (t : Token) (rest : List Token) → MayStop l (t ∷ rest) → continues l t.what ≡ false
stop_not l t rest (inl q) = ap (continues l) q ∙ brace_ends_all l
stop_not l t rest (inr q) = q.1

stop_stops : (l : Tail) (t : Token) (rest : List Token) → MayStop l (t ∷ rest) → stops l t ≡ true
stop_stops l t rest (inl q) = or_left (is_brace t.what) (t.after_line && not (continues l t.what)) (ap is_brace q)
stop_stops l t rest (inr q) = or_right (is_brace t.what) (t.after_line && not (continues l t.what)) (both t.after_line (not (continues l t.what)) q.0 (ap not q.1))

pub end_auto : (l : Tail) (t : Token) (rest : List Token) (a : Reading) (b : Option Reading) → MayStop l (t ∷ rest) → on_end l t a b ≡ b
end_auto l t rest a b h =
    let s : is_semi t.what ≡ false = semi_not l t.what (stop_not l t rest h) in
    ap (λ (v : Bool). if v then Some a else (if stops l t then b else None)) s ∙ ap (λ (v : Bool). if v then b else None) (stop_stops l t rest h)

pub end_semi : (l : Tail) (t : Token) (a : Reading) (b : Option Reading) → t.what ≡ k.Mark m.Semicolon → on_end l t a b ≡ Some a
end_semi l t a b q = ap (λ (v : Bool). if v then Some a else (if stops l t then b else None)) (ap is_semi q)

head_stop : (l : Tail) (t : Token) (more rest : List Token) → rest ≡ t ∷ more → MayStop l rest → MayStop l (t ∷ more)
head_stop l t more rest q h = let P : List Token → Type 0 = λ z. MayStop l z in subst P q h

-- a state at which a member may end, with tests that a token before which it ends doesn't meet
pub end_run : {l : Tail} {c : Close} {b rest : List Token} → ReadsEnd l c b rest → (x : Reading) (make : Close → Reading) → read_finish x ≡ read_finish (make auto) → ((t : Token) → t.what ≡ k.Mark m.Semicolon → read_step x t ≡ Some (make semi)) → ((t : Token) (more : List Token) → MayStop l (t ∷ more) → continues l t.what ≡ false → read_step x t ≡ read_step (make auto) t) → run b x ≡ run rest (make c)
end_run (e_semi (seen {t = t} {rest = rest} q)) x make f g h = then_run x t rest (make semi) (g t q)
end_run {l = l} (e_auto {rest = rest} s) x make f g h = same_run x (make auto) rest f (λ t more q. let z = head_stop l t more rest q s in h t more z (stop_not l t more z))

-- ---- names of types

pub type_run : {x : TypeName} {a b c : List Token} → ReadsType x a b → Sees (k.Mark m.LeftBrace) b c → (h : Holder) → run a (at_object h) ≡ run c (opened h x)
type_run (t_own {n = n} (a_token {t = t} q) up) (seen {t = u} {rest = c} s) h =
    then_run (at_object h) t (u ∷ c) (object_named h n t.place) (ap (λ z. on_name z (λ n. Some (object_named h n t.place))) q) ∙
    then_run (object_named h n t.place) u c (opened h (own_type n t.place)) (ap (on_object_named h n t.place) s ∙ if_true (is_type n) (opened h (own_type n t.place)) up)
type_run (t_of {q = v} {n = n} (a_token {t = t} q) (seen {t = d} e) (seen {t = o} f) up) (seen {t = u} {rest = c} s) h =
    then_run (at_object h) t (d ∷ o ∷ u ∷ c) (object_named h v t.place) (ap (λ z. on_name z (λ n. Some (object_named h n t.place))) q) ∙
    then_run (object_named h v t.place) d (o ∷ u ∷ c) (object_dotted h v t.place) (ap (on_object_named h v t.place) e) ∙
    then_run (object_dotted h v t.place) o (u ∷ c) (typed h (type_of v t.place n)) (ap (λ z. on_name z (λ n. on_mark (is_type n) (typed h (type_of v t.place n)))) f ∙ mark_true (is_type n) (typed h (type_of v t.place n)) up) ∙
    then_run (typed h (type_of v t.place n)) u c (opened h (type_of v t.place n)) (ap (λ z. on_mark (is_left_brace z) (opened h (type_of v t.place n))) s)

pub type_root : {x : TypeName} {a b c : List Token} → ReadsType x a b → Sees (k.Mark m.LeftBrace) b c → (is : List Import) → run a (imports is) ≡ run c (opened (at_root is) x)
type_root (t_own (a_token {t = t} {rest = b} q) up) s is = head_run (imports is) (at_object (at_root is)) t b refl (ap (on_imports is t.place) q ∙ sym (ap (λ z. on_name z (λ n. Some (object_named (at_root is) n t.place))) q)) ∙ type_run (t_own (a_token q) up) s (at_root is)
type_root (t_of (a_token {t = t} {rest = b} q) e f up) s is = head_run (imports is) (at_object (at_root is)) t b refl (ap (on_imports is t.place) q ∙ sym (ap (λ z. on_name z (λ n. Some (object_named (at_root is) n t.place))) q)) ∙ type_run (t_of (a_token q) e f up) s (at_root is)

pub type_child : {x : TypeName} {a b c : List Token} → ReadsType x a b → Sees (k.Mark m.LeftBrace) b c → (i : Inside) → run a (members i) ≡ run c (opened (as_child i) x)
type_child (t_own {n = n} (a_token {t = t} q) up) (seen {t = u} {rest = c} s) i =
    then_run (members i) t (u ∷ c) (path i n t.place []) (ap (on_members i t.place) q) ∙
    then_run (path i n t.place []) u c (opened (as_child i) (own_type n t.place)) (ap (on_path i n t.place [] u.place) s ∙ ap (λ (v : Bool). Some (on_path_brace v i n t.place [])) up)
type_child (t_of {q = v} {n = n} (a_token {t = t} q) (seen {t = d} e) (seen {t = o} f) up) (seen {t = u} {rest = c} s) i =
    then_run (members i) t (d ∷ o ∷ u ∷ c) (path i v t.place []) (ap (on_members i t.place) q) ∙
    then_run (path i v t.place []) d (o ∷ u ∷ c) (path_dotted i v t.place []) (ap (on_path i v t.place [] d.place) e) ∙
    then_run (path_dotted i v t.place []) o (u ∷ c) (path i v t.place (n ∷ [])) (ap (λ z. on_name z (λ x. Some (path i v t.place (x ∷ [])))) f) ∙
    then_run (path i v t.place (n ∷ [])) u c (opened (as_child i) (type_of v t.place n)) (ap (on_path i v t.place (n ∷ []) u.place) s ∙ ap (λ (y : Bool). Some (on_path_brace y i v t.place (n ∷ []))) up)

-- ---- values

pub value_step : (g : Target) (x : State) (t : Token) (next : State) → step x t ≡ Some next → read_step (value g x) t ≡ Some (value g next)
value_step g x t next h = ap (on_value_stuck g x t) h

pub no_brace : (e : Expr) (ss : List Step) (fs : Frames) (t : Token) → t.what ≡ k.Mark m.LeftBrace → with_end (closed_at fs 0 (stepped e ss)) t ≡ None → step (have e ss fs) t ≡ None
no_brace e ss fs t q h =
    let P : Bool → Option State = λ v. if v then with_end (closed_at fs 0 (stepped e ss)) t else on_role e ss fs t (role_of t.what) in
    elim (true_or_false (ends_line (last_of (is_open (stepped e ss))) t)) [
      | inl z ↦ ap P z ∙ h
      | inr z ↦ ap P z ∙ ap (on_role e ss fs t) (ap role_of q)
    ]

-- an expression in these frames becomes the object that stands there
pub record Makes (g : Target) (fs : Frames) (h : Holder) : Type 0 where
  pub own : (n : Units) (p : Place) → type_read g (have (name n p) [] fs) ≡ (if is_type n then Some (h, own_type n p) else None)
  pub of_other : (v n : Units) (p r : Place) → type_read g (have (name v p) (member n r ∷ []) fs) ≡ (if is_type n then Some (h, type_of v p n) else None)
  pub sticks : (e : Expr) (t : Token) → t.what ≡ k.Mark m.LeftBrace → with_end (closed_at fs 0 e) t ≡ None

pub makes_value : (g : Target) → Makes g (in_expr ∷ in_one ∷ []) (as_value g)
makes_value g = record { own = λ n p. refl; of_other = λ v n p r. refl; sticks = λ e t q. rw q refl }

pub makes_first : (g : Target) (p : Place) → Makes g (in_items p [] ∷ in_expr ∷ in_one ∷ []) (in_objects g p [])
makes_first g p = record { own = λ n r. refl; of_other = λ v n r z. refl; sticks = λ e t q. refl }

brace_opens : (g : Target) (x : State) (t : Token) (h : Holder) (z : TypeName) (b : Bool) → t.what ≡ k.Mark m.LeftBrace → step x t ≡ None → type_read g x ≡ (if b then Some (h, z) else None) → b ≡ true → read_step (value g x) t ≡ Some (opened h z)
brace_opens g x t h z b q e f up =
    ap (on_value_stuck g x t) e ∙ ap (λ (v : Bool). if v then on_type_read (type_read g x) else on_stmt_end g t (finish x)) (ap is_left_brace q) ∙ ap on_type_read (f ∙ ap (λ (v : Bool). if v then Some (h, z) else None) up)

pub type_made : {x : TypeName} {a b c : List Token} → ReadsType x a b → Sees (k.Mark m.LeftBrace) b c → (g : Target) (fs : Frames) (h : Holder) (y : State) → Makes g fs h → ((t : Token) (n : Units) → t.what ≡ k.Name n → step y t ≡ Some (have (name n t.place) [] fs)) → run a (value g y) ≡ run c (opened h x)
type_made (t_own {n = n} (a_token {t = t} q) up) (seen {t = u} {rest = c} s) g fs h y mk first =
    let one = have (name n t.place) [] fs in
    then_run (value g y) t (u ∷ c) (value g one) (value_step g y t one (first t n q)) ∙
    then_run (value g one) u c (opened h (own_type n t.place)) (brace_opens g one u h (own_type n t.place) (is_type n) s (no_brace (name n t.place) [] fs u s (mk.sticks (name n t.place) u s)) (mk.own n t.place) up)
type_made (t_of {q = v} {n = n} (a_token {t = t} q) (seen {t = d} e) (seen {t = o} f) up) (seen {t = u} {rest = c} s) g fs h y mk first =
    let one = have (name v t.place) [] fs in
    let two = dotted (name v t.place) [] fs in
    let three = have (name v t.place) (member n o.place ∷ []) fs in
    then_run (value g y) t (d ∷ o ∷ u ∷ c) (value g one) (value_step g y t one (first t v q)) ∙
    then_run (value g one) d (o ∷ u ∷ c) (value g two) (value_step g one d two (have_step (name v t.place) [] fs d (k.Mark m.Dot) dot e dot_stays refl)) ∙
    then_run (value g two) o (u ∷ c) (value g three) (value_step g two o three (ap (on_dotted (name v t.place) [] fs o.place) f)) ∙
    then_run (value g three) u c (opened h (type_of v t.place n)) (brace_opens g three u h (type_of v t.place n) (is_type n) s (no_brace (name v t.place) (member n o.place ∷ []) fs u s (mk.sticks (stepped (name v t.place) (member n o.place ∷ [])) u s)) (mk.of_other v n t.place o.place) up)

-- ---- statements and bodies

stmt_stop : (g : Target) (s : Stmt) (t : Token) (more : List Token) → may_end s t ≡ true → is_left_brace t.what ≡ false → (u : Token) (us : List Token) (x : State) (o : Option State) → step x u ≡ o → ((next : State) → go us next ≡ record { tree = Some (whole_stmt s); rest = t ∷ more } → run us (value g next) ≡ run (t ∷ more) (done (inside_of g) (member_of g (value_stmt s)))) → go_on o (finish x) (u ∷ us) (λ next. go us next) ≡ record { tree = Some (whole_stmt s); rest = t ∷ more } → run (u ∷ us) (value g x) ≡ run (t ∷ more) (done (inside_of g) (member_of g (value_stmt s)))
stmt_stop g s t more e b u us x (Some next) h rec q = then_run (value g x) u us (value g next) (value_step g x u next h) ∙ rec next q
stmt_stop g s t more e b u us x None h rec q =
    let f : finish x ≡ Some (whole_stmt s) = ap (λ (o : js.Outcome). o.tree) q in
    let r : u ∷ us ≡ t ∷ more = ap (λ (o : js.Outcome). o.rest) q in
    let d = done (inside_of g) (member_of g (value_stmt s)) in
    let v : u ≡ t = cc in
    let one : read_step (value g x) t ≡ read_step d t = ap (on_value_stuck g x t) (ap (step x) (sym v) ∙ h) ∙ ap (λ (z : Bool). if z then on_type_read (type_read g x) else on_stmt_end g t (finish x)) b ∙ ap (on_stmt_end g t) f ∙ ap (λ (z : Bool). if z then on_done (inside_of g) (member_of g (value_stmt s)) t.place t.what else None) e in
    ap (λ z. run z (value g x)) r ∙ head_run (value g x) d t more refl one

stmt_through : (g : Target) (s : Stmt) (t : Token) (more : List Token) → may_end s t ≡ true → is_left_brace t.what ≡ false → (a : List Token) (x : State) → go a x ≡ record { tree = Some (whole_stmt s); rest = t ∷ more } → run a (value g x) ≡ run (t ∷ more) (done (inside_of g) (member_of g (value_stmt s)))
stmt_through g s t more e b [] x q = let r : [] ≡ t ∷ more = ap (λ (o : js.Outcome). o.rest) q in cc
stmt_through g s t more e b (u ∷ us) x q = stmt_stop g s t more e b u us x (step x u) refl (λ next z. stmt_through g s t more e b us next z) q

pub stmt_run : {s : Stmt} {a : List Token} (t : Token) (more : List Token) → ReadsStmt false s a (t ∷ more) → (t.what ≡ k.Word w.Else → ⊥) → is_left_brace t.what ≡ false → (g : Target) → run a (start g) ≡ run (t ∷ more) (done (inside_of g) (member_of g (value_stmt s)))
stmt_run {s = s} {a = a} t more r free b g = stmt_through g s t more (stmt_may_end r t more refl) b a (begin (in_one ∷ [])) (stmt_whole t more r free)

body_stop : (hd : Head) (back : List Par) (q : Option Kind) (ss : Stmts) (t : Token) (more : List Token) → t.what ≡ k.Mark m.RightBrace → (u : Token) (us : List Token) (x : State) (o : Option State) → step x u ≡ o → ((next : State) → go us next ≡ record { tree = Some (whole_body ss); rest = t ∷ more } → run us (body hd back q next) ≡ run more (function_of hd back q ss)) → go_on o (finish x) (u ∷ us) (λ next. go us next) ≡ record { tree = Some (whole_body ss); rest = t ∷ more } → run (u ∷ us) (body hd back q x) ≡ run more (function_of hd back q ss)
body_stop hd back q ss t more e u us x (Some next) h rec z = then_run (body hd back q x) u us (body hd back q next) (ap (on_body_stuck hd back q x u) h) ∙ rec next z
body_stop hd back q ss t more e u us x None h rec z =
    let f : finish x ≡ Some (whole_body ss) = ap (λ (o : js.Outcome). o.tree) z in
    let r : u ∷ us ≡ t ∷ more = ap (λ (o : js.Outcome). o.rest) z in
    let v : u ≡ t = cc in
    let one : read_step (body hd back q x) t ≡ Some (function_of hd back q ss) = ap (on_body_stuck hd back q x t) (ap (step x) (sym v) ∙ h) ∙ ap (λ (y : Bool). if y then on_body_end hd back q (finish x) else None) (ap is_brace e) ∙ ap (on_body_end hd back q) f in
    ap (λ y. run y (body hd back q x)) r ∙ then_run (body hd back q x) t more (function_of hd back q ss) one

body_through : (hd : Head) (back : List Par) (q : Option Kind) (ss : Stmts) (t : Token) (more : List Token) → t.what ≡ k.Mark m.RightBrace → (a : List Token) (x : State) → go a x ≡ record { tree = Some (whole_body ss); rest = t ∷ more } → run a (body hd back q x) ≡ run more (function_of hd back q ss)
body_through hd back q ss t more e [] x z = let r : [] ≡ t ∷ more = ap (λ (o : js.Outcome). o.rest) z in cc
body_through hd back q ss t more e (u ∷ us) x z = body_stop hd back q ss t more e u us x (step x u) refl (λ next y. body_through hd back q ss t more e us next y) z

pub body_run : {ss : Stmts} {a b rest : List Token} → ReadsStmts false ss a b → Sees (k.Mark m.RightBrace) b rest → (hd : Head) (back : List Par) (q : Option Kind) → run a (body hd back q (begin (in_list [] ∷ []))) ≡ run rest (function_of hd back q ss)
body_run {ss = ss} {a = a} r (seen {t = t} {rest = rest} e) hd back q = body_through hd back q ss t rest e a (begin (in_list [] ∷ [])) (body_whole t rest r e)

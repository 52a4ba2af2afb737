-- Where an object can be read, no statement and no group can.
use Rattle.std.proofs.Common.{◌≡◌, Bool, true, false, List, [], ◌∷◌, Option, Some, None, refl, sym, ap, ◌∙◌, subst}
use Rattle.qml_base.specs.declared.numbers.Place.{Place}
use Rattle.qml_syntax.specs.declared.token.TokenKind.{TokenKind}
use Rattle.qml_syntax.specs.declared.token.TokenKind.TheVariants as k
use Rattle.qml_syntax.specs.declared.mark.Mark.TheVariants as m
use Rattle.qml_syntax.specs.declared.token.Token.{Token}
use Rattle.qml_syntax.specs.Tree.{Units, Names, Stmt, name, member, TypeName, Object, Members, group}
use Rattle.qml_syntax.specs.Ends.{a_token, Sees, seen}
use Rattle.qml_syntax.specs.Reads.{ReadsStmt}
use Rattle.qml_syntax.specs.Words.{is_type}
use Rattle.qml_syntax.specs.ReadsDocument.{d_none, d_more, ReadsType, t_own, t_of, ReadsSemi, ReadsObject, o_object, ReadsMembers, ReadsMember, m_group}
use Rattle.js_machine.specs.Frames.{in_one, in_expr, State, have, dotted, begin}
use Rattle.js_machine.specs.Machine.{dot, on_begin, on_dotted, closed_at, with_end, step, finish, go_on, go}
use Rattle.js_machine.specs.Machine as js
use Rattle.js_machine.proofs.Tokens.{dot_stays}
use Rattle.js_machine.proofs.Collapse.{have_step}
use Rattle.qml_machine.specs.DocumentMachine.{is_left_brace}
use Rattle.qml_machine.proofs.StmtEnds.{stmt_whole}
use Rattle.qml_machine.proofs.Runs.{no_brace}
use Rattle.qml_machine.proofs.DocumentComplete.{behind, behind_else, behind_brace, members_begin}

goes : (x : State) (t : Token) (a : List Token) (next : State) → step x t ≡ Some next → go (t ∷ a) x ≡ go a next
goes x t a next h = ap (λ (o : Option State). go_on o (finish x) (t ∷ a) (λ z. go a z)) h

stops : (x : State) (t : Token) (a : List Token) → step x t ≡ None → (go (t ∷ a) x).rest ≡ t ∷ a
stops x t a h = ap (λ (o : Option State). (go_on o (finish x) (t ∷ a) (λ z. go a z)).rest) h

-- the machine of statements reads the name of a type, and stops before the brace
type_stops : {x : TypeName} {a b c : List Token} → ReadsType x a b → Sees (k.Mark m.LeftBrace) b c → (go a (begin (in_one ∷ []))).rest ≡ b
type_stops (t_own {n = n} (a_token {t = t} q) up) (seen {t = u} {rest = c} s) =
    let fs = in_expr ∷ in_one ∷ [] in
    let one = have (name n t.place) [] fs in
    ap (λ (o : js.Outcome). o.rest) (goes (begin (in_one ∷ [])) t (u ∷ c) one (ap (on_begin (in_one ∷ []) t.place) q))
    ∙ stops one u c (no_brace (name n t.place) [] fs u s (rw s refl))
type_stops (t_of {q = v} {n = n} (a_token {t = t} q) (seen {t = d} e) (seen {t = o} f) up) (seen {t = u} {rest = c} s) =
    let fs = in_expr ∷ in_one ∷ [] in
    let one = have (name v t.place) [] fs in
    let two = dotted (name v t.place) [] fs in
    let three = have (name v t.place) (member n o.place ∷ []) fs in
    ap (λ (o : js.Outcome). o.rest) (goes (begin (in_one ∷ [])) t (d ∷ o ∷ u ∷ c) one (ap (on_begin (in_one ∷ []) t.place) q)
    ∙ goes one d (o ∷ u ∷ c) two (have_step (name v t.place) [] fs d (k.Mark m.Dot) dot e dot_stays refl)
    ∙ goes two o (u ∷ c) three (ap (on_dotted (name v t.place) [] fs o.place) f))
    ∙ stops three u c (no_brace (name v t.place) (member n o.place ∷ []) fs u s (rw s refl))

same_brace : (t u : Token) (a b : List Token) → t ∷ a ≡ u ∷ b → u.what ≡ k.Mark m.LeftBrace → is_left_brace t.what ≡ false → ⊥
same_brace t u a b e q n = let h : t ≡ u = cc in let y : is_left_brace t.what ≡ true = ap (λ (z : Token). is_left_brace z.what) h ∙ ap is_left_brace q in cc

-- behind a statement the members of an object go on, and none begins with a brace
no_statement_here : {x : TypeName} {ms : Members} {s : Stmt} {b : Bool} {a a2 a3 c d f : List Token} → ReadsType x a a2 → Sees (k.Mark m.LeftBrace) a2 a3 → ReadsStmt false s a c → ReadsSemi b c d → ReadsMembers ms d f → {rest : List Token} → Sees (k.Mark m.RightBrace) f rest → ⊥
no_statement_here {s = s} {a = a} ty (seen {t = u} {rest = a3} left) r semi ms close =
    let next = behind semi (members_begin ms close) in
    let t = next.0 in
    let more = next.1 in
    let P : List Token → Type 0 = λ z. ReadsStmt false s a z in
    let whole = stmt_whole t more (subst P next.2 r) (behind_else t.what next.3) in
    same_brace t u more a3 (sym (ap (λ (o : js.Outcome). o.rest) whole) ∙ type_stops ty (seen left)) left (behind_brace t.what next.3)

pub no_statement : (o : Object) (s : Stmt) (b : Bool) (ms : Members) (a rest c d e f : List Token) → ReadsObject o a rest → ReadsStmt false s a c → ReadsSemi b c d → ReadsMembers ms d e → Sees (k.Mark m.RightBrace) e f → ⊥
no_statement o s b ms a rest c d e f (o_object ty left inner end) r semi more close = no_statement_here ty left r semi more close

same_name : (z : TokenKind) (x y : Units) → z ≡ k.Name x → z ≡ k.Name y → is_type x ≡ true → is_type y ≡ false → ⊥
same_name z x y p q up down = let e : x ≡ y = cc in let h : is_type y ≡ true = ap is_type (sym e) ∙ up in cc

pub no_group : (o : Object) (n : Units) (p : Place) (ns : Names) (ms : Members) (a rest c : List Token) → ReadsObject o a rest → ReadsMember (group n p ns ms) a c → ⊥
no_group o n p ns ms a rest c (o_object (t_own {n = x} (a_token {t = t} q) up) (seen s) inner end) (m_group (a_token g) d_none below left more close) = same_name t.what x n q g up below
no_group o n p ns ms a rest c (o_object (t_own {n = x} (a_token q) up) (seen s) inner end) (m_group (a_token g) (d_more (seen e) see ds) below left more close) = absurd (cc)
no_group o n p ns ms a rest c (o_object (t_of (a_token q) (seen e) (seen f) up) (seen s) inner end) (m_group (a_token g) d_none below (seen left) more close) = absurd (cc)
no_group o n p ns ms a rest c (o_object (t_of {n = x} (a_token q) (seen e) (seen {t = t} f) up) (seen s) inner end) (m_group (a_token g) (d_more {n = y} (seen h) (seen i) d_none) below left more close) = same_name t.what x y f i up below
no_group o n p ns ms a rest c (o_object (t_of (a_token q) (seen e) (seen f) up) (seen s) inner end) (m_group (a_token g) (d_more (seen h) (seen i) (d_more (seen j) see ds)) below left more close) = absurd (cc)

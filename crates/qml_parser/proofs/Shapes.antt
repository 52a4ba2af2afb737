-- A `{` behind exactly the name of a type opens its object: no statement goes on with it.
use Rattle.std.proofs.Common.{◌≡◌, Bool, true, false, [], ◌∷◌, Option, Some, None, refl, sym, ap, ◌∙◌, subst}
use Rattle.std.specs.Prelude.{not, ◌&&◌, ◌++◌, reverse, if◌then◌else◌}
use Rattle.std.proofs.lemmas.List.{reverse-append}
use Rattle.qml_base.specs.declared.numbers.Place.{Place}
use Rattle.qml_syntax.specs.declared.token.TokenKind.{TokenKind}
use Rattle.qml_syntax.specs.declared.token.TokenKind.TheVariants as k
use Rattle.qml_syntax.specs.declared.mark.Mark.TheVariants as m
use Rattle.qml_syntax.specs.declared.token.Token.{Token}
use Rattle.qml_syntax.specs.declared.node.Node.TheVariants as node
use Rattle.qml_syntax.specs.declared.node.Node.{Node}
use Rattle.qml_syntax.specs.Nodes.{Table, is_mark}
use Rattle.qml_syntax.specs.Ends.{last_of, goes_on_mark}
use Rattle.js_machine.specs.Kept.{kept_whole}
use Rattle.js_machine.specs.declared.open.Frame as code
use Rattle.js_machine.specs.declared.open.Have.{Have}
use Rattle.js_machine.specs.declared.open.Now as js_now
use Rattle.js_machine.specs.declared.open.Now.TheVariants as n
use Rattle.js_machine.specs.declared.open.Frame.TheVariants as f
use Rattle.js_machine.specs.Moves.{Open, move}
use Rattle.js_machine.specs.declared.moved.Moved.{Moved}
use Rattle.js_machine.specs.declared.moved.Moved.TheVariants as moved
use Rattle.js_machine.specs.declared.moved.Rest.{Rest}
use Rattle.js_machine.specs.Moved.{Moves}
use Rattle.js_machine.specs.Tape.{Tape, tape}
use Rattle.qml_machine.specs.DocumentMachine.{is_left_brace}
use Rattle.qml_machine.specs.DocumentTape.{Frames}
use Rattle.qml_machine.specs.DocumentMoves.{keep_opened, keep_names, keep_firsts, keep_type, keep_value, keep_stmt, ends_tape}
use Rattle.qml_machine.specs.declared.state.Frame.TheVariants as frame
use Rattle.qml_parser.proofs.Leading.{if_true, if_false}
use Rattle.qml_parser.specs.declared.value.Shape.TheVariants as shape
use Rattle.qml_parser.specs.Shape.{names_type, marks_type, shape_behind, shape_of, named_on, by_shape, ended}

same_either : {A : Type 0} (b : Bool) (x : A) → (if b then x else x) ≡ x
same_either true x = refl
same_either false x = refl

alone_stuck : (h : Have) (s : Table) (p : Place) (b : Bool) → move (tape s (f.Expression ∷ f.One ∷ []) (n.Have h)) (record { what = k.Mark m.LeftBrace; place = p; after_line = b }) ≡ None
alone_stuck h s p true = same_either (not (goes_on_mark (last_of h.callable) m.LeftBrace)) None
alone_stuck h s p false = refl

listed_stuck : (h : Have) (z : Place) (s : Table) (p : Place) (b : Bool) → move (tape s (f.Items z ∷ f.Expression ∷ f.One ∷ []) (n.Have h)) (record { what = k.Mark m.LeftBrace; place = p; after_line = b }) ≡ None
listed_stuck h z s p true = same_either (not (goes_on_mark (last_of h.callable) m.LeftBrace)) None
listed_stuck h z s p false = refl

-- the same of any token of this kind
of_kind : (x : Tape) (t : Token) → t.what ≡ k.Mark m.LeftBrace → ((p : Place) (b : Bool) → move x (record { what = k.Mark m.LeftBrace; place = p; after_line = b }) ≡ None) → move x t ≡ None
of_kind x t q h =
    let P : TokenKind → Type 0 = λ w. move x (record { what = w; place = t.place; after_line = t.after_line }) ≡ None in
    subst P (sym q) (h t.place t.after_line)

is_brace_kind : (w : TokenKind) → is_left_brace w ≡ true → w ≡ k.Mark m.LeftBrace
is_brace_kind (k.Mark m.LeftBrace) h = refl
is_brace_kind _ h = cc

-- what is opened goes by the shape

names_by : (s : Table) (fs : Frames) (nodes : Table) → keep_names s fs nodes ≡ (if names_type nodes then Some (keep_opened (named_on nodes s) fs) else None)
names_by s fs (node.Name x p ∷ []) = refl
names_by s fs (node.Name x p ∷ y ∷ ys) = refl
names_by s fs (node.Member x r ∷ []) = refl
names_by s fs (node.Member x r ∷ node.Name q p ∷ []) = refl
names_by s fs (node.Member x r ∷ node.Name q p ∷ y ∷ ys) = refl
names_by s fs (node.Member x r ∷ _ ∷ ys) = refl
names_by s fs [] = refl
names_by s fs (_ ∷ ys) = refl

firsts_by : (s : Table) (fs : Frames) (z : Place) (nodes : Table) → keep_firsts s fs z nodes ≡ (if marks_type nodes then Some (keep_opened (named_on nodes (node.Mark ∷ s)) (frame.List z ∷ fs)) else None)
firsts_by s fs z (node.Name x p ∷ node.Mark ∷ []) = refl
firsts_by s fs z (node.Name x p ∷ node.Mark ∷ y ∷ ys) = refl
firsts_by s fs z (node.Name x p ∷ _ ∷ ys) = refl
firsts_by s fs z (node.Name x p ∷ []) = refl
firsts_by s fs z (node.Member x r ∷ node.Name q p ∷ node.Mark ∷ []) = refl
firsts_by s fs z (node.Member x r ∷ node.Name q p ∷ node.Mark ∷ y ∷ ys) = refl
firsts_by s fs z (node.Member x r ∷ node.Name q p ∷ _ ∷ ys) = refl
firsts_by s fs z (node.Member x r ∷ node.Name q p ∷ []) = refl
firsts_by s fs z (node.Member x r ∷ _ ∷ ys) = refl
firsts_by s fs z (node.Member x r ∷ []) = refl
firsts_by s fs z [] = refl
firsts_by s fs z (_ ∷ ys) = refl

either_shape : (b : Bool) (s : Table) (fs : Frames) (nodes : Table) → (if b then Some (keep_opened (named_on nodes s) fs) else None) ≡ by_shape s fs nodes (if b then shape.Object else shape.Other)
either_shape true s fs nodes = refl
either_shape false s fs nodes = refl

either_list : (b : Bool) (z : Place) (s : Table) (fs : Frames) (nodes : Table) → (if b then Some (keep_opened (named_on nodes (node.Mark ∷ s)) (frame.List z ∷ fs)) else None) ≡ by_shape s fs nodes (if b then shape.List z else shape.Other)
either_list true z s fs nodes = refl
either_list false z s fs nodes = refl

after_alone : (s : Table) (fs : Frames) (y : code.Frame) (ys : Open) (nodes : Table) → None ≡ by_shape s fs nodes (shape_behind (f.Expression ∷ f.One ∷ y ∷ ys) nodes)
after_alone s fs y [] nodes = refl
after_alone s fs y (z ∷ ys) nodes = refl

behind_by : (s : Table) (fs : Frames) (open_ : Open) (nodes : Table) (h : Have) → keep_type s fs (tape nodes open_ (n.Have h)) ≡ by_shape s fs nodes (shape_behind open_ nodes)
behind_by s fs [] nodes h = refl
behind_by s fs (f.Expression ∷ []) nodes h = refl
behind_by s fs (f.Items z ∷ []) nodes h = refl
behind_by s fs (_ ∷ []) nodes h = refl
behind_by s fs (f.Expression ∷ f.One ∷ []) nodes h = names_by s fs nodes ∙ either_shape (names_type nodes) s fs nodes
behind_by s fs (f.Expression ∷ _ ∷ []) nodes h = refl
behind_by s fs (f.Items z ∷ f.Expression ∷ []) nodes h = refl
behind_by s fs (f.Items z ∷ _ ∷ []) nodes h = refl
behind_by s fs (_ ∷ y ∷ []) nodes h = refl
behind_by s fs (f.Expression ∷ f.One ∷ y ∷ ys) nodes h = after_alone s fs y ys nodes
behind_by s fs (f.Expression ∷ _ ∷ y ∷ []) nodes h = refl
behind_by s fs (f.Expression ∷ _ ∷ y ∷ z ∷ ys) nodes h = refl
behind_by s fs (f.Items z ∷ f.Expression ∷ f.One ∷ []) nodes h = firsts_by s fs z nodes ∙ either_list (marks_type nodes) z s fs nodes
behind_by s fs (f.Items z ∷ f.Expression ∷ f.One ∷ y ∷ ys) nodes h = refl
behind_by s fs (f.Items z ∷ f.Expression ∷ _ ∷ []) nodes h = refl
behind_by s fs (f.Items z ∷ f.Expression ∷ _ ∷ y ∷ ys) nodes h = refl
behind_by s fs (f.Items z ∷ _ ∷ y ∷ []) nodes h = refl
behind_by s fs (f.Items z ∷ _ ∷ y ∷ w ∷ ys) nodes h = refl
behind_by s fs (_ ∷ x ∷ y ∷ []) nodes h = refl
behind_by s fs (_ ∷ x ∷ y ∷ w ∷ ys) nodes h = refl

type_by : (s : Table) (fs : Frames) (nodes : Table) (open_ : Open) (now : js_now.Now) → keep_type s fs (tape nodes open_ now) ≡ by_shape s fs nodes (shape_of (tape nodes open_ now))
type_by s fs nodes open_ (n.Have h) = behind_by s fs open_ nodes h
type_by s fs nodes open_ _ = refl

behind_stuck : (open_ : Open) (nodes : Table) (h : Have) (t : Token) → t.what ≡ k.Mark m.LeftBrace → (shape_behind open_ nodes ≡ shape.Other → ⊥) → move (tape nodes open_ (n.Have h)) t ≡ None
behind_stuck (f.Expression ∷ f.One ∷ []) nodes h t q o = of_kind (tape nodes (f.Expression ∷ f.One ∷ []) (n.Have h)) t q (alone_stuck h nodes)
behind_stuck (f.Items z ∷ f.Expression ∷ f.One ∷ []) nodes h t q o = of_kind (tape nodes (f.Items z ∷ f.Expression ∷ f.One ∷ []) (n.Have h)) t q (listed_stuck h z nodes)
behind_stuck [] nodes h t q o = absurd (o refl)
behind_stuck (x ∷ []) nodes h t q o = absurd (o refl)
behind_stuck (f.Expression ∷ _ ∷ []) nodes h t q o = absurd (o refl)
behind_stuck (_ ∷ x ∷ []) nodes h t q o = absurd (o refl)
behind_stuck (f.Items z ∷ f.Expression ∷ _ ∷ []) nodes h t q o = absurd (o refl)
behind_stuck (f.Items z ∷ _ ∷ y ∷ []) nodes h t q o = absurd (o refl)
behind_stuck (_ ∷ x ∷ y ∷ []) nodes h t q o = absurd (o refl)
behind_stuck (x ∷ y ∷ z ∷ w ∷ ys) nodes h t q o = absurd (o refl)

shape_stuck : (nodes : Table) (open_ : Open) (now : js_now.Now) (t : Token) → t.what ≡ k.Mark m.LeftBrace → (shape_of (tape nodes open_ now) ≡ shape.Other → ⊥) → move (tape nodes open_ now) t ≡ None
shape_stuck nodes open_ (n.Have h) t q o = behind_stuck open_ nodes h t q o
shape_stuck nodes open_ _ t q o = absurd (o refl)

-- a `{` behind a type's name
value_opens : (s : Table) (fs : Frames) (nodes : Table) (open_ : Open) (now : js_now.Now) (t : Token) → is_left_brace t.what ≡ true → (shape_of (tape nodes open_ now) ≡ shape.Other → ⊥) → keep_value s fs (tape nodes open_ now) t (move (tape nodes open_ now) t) ≡ by_shape s fs nodes (shape_of (tape nodes open_ now))
value_opens s fs nodes open_ now t b o =
    ap (keep_value s fs (tape nodes open_ now) t) (shape_stuck nodes open_ now t (is_brace_kind t.what b) o) ∙ if_true (is_left_brace t.what) (keep_type s fs (tape nodes open_ now)) _ b ∙ type_by s fs nodes open_ now

absurd_shape : shape.Object ≡ shape.Other → ⊥
absurd_shape h = cc

absurd_list : (z : Place) → shape.List z ≡ shape.Other → ⊥
absurd_list z h = cc

pub value_object : (s : Table) (fs : Frames) (nodes : Table) (open_ : Open) (now : js_now.Now) (t : Token) → is_left_brace t.what ≡ true → shape_of (tape nodes open_ now) ≡ shape.Object → keep_value s fs (tape nodes open_ now) t (move (tape nodes open_ now) t) ≡ Some (keep_opened (named_on nodes s) fs)
value_object s fs nodes open_ now t b e = value_opens s fs nodes open_ now t b (λ o. absurd_shape (sym e ∙ o)) ∙ ap (by_shape s fs nodes) e

pub value_list : (s : Table) (fs : Frames) (nodes : Table) (open_ : Open) (now : js_now.Now) (t : Token) (z : Place) → is_left_brace t.what ≡ true → shape_of (tape nodes open_ now) ≡ shape.List z → keep_value s fs (tape nodes open_ now) t (move (tape nodes open_ now) t) ≡ Some (keep_opened (named_on nodes (node.Mark ∷ s)) (frame.List z ∷ fs))
value_list s fs nodes open_ now t z b e = value_opens s fs nodes open_ now t b (λ o. absurd_list z (sym e ∙ o)) ∙ ap (by_shape s fs nodes) e

-- and behind anything else
no_type : (s : Table) (fs : Frames) (nodes : Table) (open_ : Open) (now : js_now.Now) → shape_of (tape nodes open_ now) ≡ shape.Other → keep_type s fs (tape nodes open_ now) ≡ None
no_type s fs nodes open_ now h = type_by s fs nodes open_ now ∙ ap (by_shape s fs nodes) h

-- ---- a statement that sticks at any other token

stmt_ends : (s : Table) (fs : Frames) (x : Tape) (t : Token) (o : Option Table) → ends_tape x t ≡ true → keep_stmt s fs x t o ≡ ended s fs t o
stmt_ends s fs x t (Some nodes) e = if_true (ends_tape x t) _ _ e
stmt_ends s fs x t None e = refl

stmt_goes_on : (s : Table) (fs : Frames) (x : Tape) (t : Token) (o : Option Table) → ends_tape x t ≡ false → keep_stmt s fs x t o ≡ None
stmt_goes_on s fs x t (Some nodes) e = if_false (ends_tape x t) _ _ e
stmt_goes_on s fs x t None e = refl

pub value_ends : (s : Table) (fs : Frames) (x : Tape) (t : Token) → move x t ≡ None → is_left_brace t.what ≡ false → ends_tape x t ≡ true → keep_value s fs x t (move x t) ≡ ended s fs t (kept_whole x)
value_ends s fs x t n b e = ap (keep_value s fs x t) n ∙ if_false (is_left_brace t.what) (keep_type s fs x) _ b ∙ stmt_ends s fs x t (kept_whole x) e

pub value_goes_on : (s : Table) (fs : Frames) (x : Tape) (t : Token) → move x t ≡ None → is_left_brace t.what ≡ false → ends_tape x t ≡ false → keep_value s fs x t (move x t) ≡ None
value_goes_on s fs x t n b e = ap (keep_value s fs x t) n ∙ if_false (is_left_brace t.what) (keep_type s fs x) _ b ∙ stmt_goes_on s fs x t (kept_whole x) e

pub value_opens_none : (s : Table) (fs : Frames) (nodes : Table) (open_ : Open) (now : js_now.Now) (t : Token) → move (tape nodes open_ now) t ≡ None → is_left_brace t.what ≡ true → shape_of (tape nodes open_ now) ≡ shape.Other → keep_value s fs (tape nodes open_ now) t (move (tape nodes open_ now) t) ≡ None
value_opens_none s fs nodes open_ now t n b o = ap (keep_value s fs (tape nodes open_ now) t) n ∙ if_true (is_left_brace t.what) (keep_type s fs (tape nodes open_ now)) _ b ∙ no_type s fs nodes open_ now o

-- ---- a mark below the name of a type

and_false : (b : Bool) → false ≡ (b && false)
and_false true = refl
and_false false = refl

marked : (x : Node) (s : Table) → marks_type (s ++ x ∷ []) ≡ (is_mark x && names_type s)
marked node.Mark [] = refl
marked _ [] = refl
marked node.Mark (node.Name y p ∷ []) = refl
marked _ (node.Name y p ∷ []) = refl
marked x (node.Name y p ∷ node.Mark ∷ []) = and_false (is_mark x)
marked x (node.Name y p ∷ node.Mark ∷ z ∷ s) = and_false (is_mark x)
marked x (node.Name y p ∷ _ ∷ s) = and_false (is_mark x)
marked node.Mark (node.Member y r ∷ []) = refl
marked _ (node.Member y r ∷ []) = refl
marked node.Mark (node.Member y r ∷ node.Name q p ∷ []) = refl
marked _ (node.Member y r ∷ node.Name q p ∷ []) = refl
marked x (node.Member y r ∷ node.Name q p ∷ node.Mark ∷ []) = and_false (is_mark x)
marked x (node.Member y r ∷ node.Name q p ∷ node.Mark ∷ z ∷ s) = and_false (is_mark x)
marked x (node.Member y r ∷ node.Name q p ∷ _ ∷ s) = and_false (is_mark x)
marked x (node.Member y r ∷ _ ∷ s) = and_false (is_mark x)
marked x (_ ∷ s) = and_false (is_mark x)

pub unmarked : (nodes rest : Table) (x : Node) → nodes ≡ x ∷ rest → is_mark x ≡ false → marks_type (reverse nodes) ≡ false
unmarked nodes rest x h m = ap (λ z. marks_type (reverse z)) h ∙ ap marks_type (reverse-append (x ∷ []) rest) ∙ marked x (reverse rest) ∙ ap (λ b. b && names_type (reverse rest)) m

-- ---- what has been opened, and what sticks

pub opened_on : (s s2 : Table) (fs fs2 : Frames) (nodes : Table) (z : Place) → s2 ≡ node.Mark ∷ s → fs2 ≡ frame.List z ∷ fs → Some (keep_opened (named_on nodes (node.Mark ∷ s)) (frame.List z ∷ fs)) ≡ Some (keep_opened (named_on nodes s2) fs2)
opened_on s s2 fs fs2 nodes z a b = ap (λ x. Some (keep_opened (named_on nodes x) (frame.List z ∷ fs))) (sym a) ∙ ap (λ x. Some (keep_opened (named_on nodes s2) x)) (sym b)

pub stuck_none : (next : Option Tape) (whole : Option Table) (fs : Open) (s : Table) (r : Moved) (left : Rest) → r ≡ moved.Stuck left → Moves next whole fs s r → next ≡ None
stuck_none next whole fs s r left e h = let P : Moved → Type 0 = λ x. Moves next whole fs s x in (subst P e h).0

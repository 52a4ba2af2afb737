-- Going over the nodes of a tree from the last to the first writes the tree out.
use Rattle.std.proofs.Common.{◌≡◌, Bool, true, false, [], ◌∷◌, ◌++◌, refl, sym, ap, ◌∙◌, append_assoc}
use Rattle.qml_base.specs.declared.numbers.Place.{Place}
use Rattle.qml_syntax.specs.declared.token.TokenKind.TheVariants as k
use Rattle.qml_syntax.specs.declared.mark.Mark.{Mark}
use Rattle.qml_syntax.specs.declared.mark.Mark.TheVariants as m
use Rattle.qml_syntax.specs.declared.word.Word.{Word}
use Rattle.qml_syntax.specs.declared.word.Word.TheVariants as w
use Rattle.qml_syntax.specs.declared.operators.Operator.{Operator}
use Rattle.qml_syntax.specs.declared.operators.Prefix.{Prefix}
use Rattle.qml_syntax.specs.declared.node.Node.TheVariants as node
use Rattle.qml_syntax.specs.declared.writing.Parts.TheVariants as part
use Rattle.qml_syntax.specs.declared.writing.Piece.TheVariants as piece
use Rattle.qml_syntax.specs.Tree.{Units, Close, semi, auto, Expr, name, number, text, literal, paren, list, fields, steps, bumped, signed, chain, choose, assign, Exprs, no_exprs, an_expr, Fields, no_fields, a_field, Step, member, element, call, binding, Steps, no_steps, a_step, Signs, no_signs, a_sign, Links, no_links, a_link, Choices, no_choices, a_choice, Targets, no_targets, a_target, Stmt, empty, expr, block, declare, when, either, while, for, give, stop, again, Stmts, no_stmts, a_stmt, Vars, last_var, a_var, Maybe, nothing, just, First, no_first, first_expr, first_declare}
use Rattle.qml_syntax.specs.Spelling.{operator_mark, prefix_kind, postfix_mark, assignment_mark, literal_word, declaration_word}
use Rattle.qml_syntax.specs.Nodes.{Table}
use Rattle.qml_syntax.specs.Listed.{last_sign, listed, listed_choices, listed_exprs, listed_fields, listed_first, listed_give, listed_links, listed_maybe, listed_signs, listed_step, listed_steps, listed_stmt, listed_stmts, listed_targets, listed_value, listed_vars}
use Rattle.qml_syntax.specs.Flat.{Kinds, comma_if, flat, flat_choices, flat_exprs, flat_fields, flat_first, flat_init, flat_links, flat_maybe, flat_signs, flat_step, flat_steps, flat_stmt, flat_stmts, flat_targets, flat_vars}
use Rattle.qml_syntax.proofs.WalkHeadLemmas.{Headed, head}
use Rattle.qml_syntax.specs.WalkFlat.{Pieces, one, is_var, item, vars_stay, steps_stay, opened, flat_from}

-- ---- a token in front is written, whatever comes then

pub mark_next : (s : Table) (x : Mark) (st : Pieces) (acc : Kinds) → flat_from s (piece.Mark x ∷ st, acc) ≡ flat_from s (st, k.Mark x ∷ acc)
mark_next [] x st acc = refl
mark_next (n ∷ s) x st acc = refl

pub word_next : (s : Table) (x : Word) (st : Pieces) (acc : Kinds) → flat_from s (piece.Word x ∷ st, acc) ≡ flat_from s (st, k.Word x ∷ acc)
word_next [] x st acc = refl
word_next (n ∷ s) x st acc = refl

prefix_next : (s : Table) (x : Prefix) (st : Pieces) (acc : Kinds) → flat_from s (piece.Prefix x ∷ st, acc) ≡ flat_from s (st, prefix_kind x ∷ acc)
prefix_next [] x st acc = refl
prefix_next (n ∷ s) x st acc = refl

pub then_kinds : (s : Table) (st : Pieces) {a b : Kinds} → a ≡ b → flat_from s (st, a) ≡ flat_from s (st, b)
then_kinds s st p = ap (λ (z : Kinds). flat_from s (st, z)) p

-- ---- an expression as one of some parts

as_item : (t : Table) → Headed t → (c : Bool) (st : Pieces) (acc : Kinds) → flat_from t (piece.Parts (part.Items c) ∷ st, acc) ≡ flat_from t (one ∷ piece.Parts (part.Items true) ∷ st, comma_if c ++ acc)
as_item t h c st acc =
    ap (λ (z : Table). flat_from z (piece.Parts (part.Items c) ∷ st, acc)) h.is
    ∙ ap (λ (b : Bool). flat_from h.rest (item b h.last c (piece.Parts (part.Items true) ∷ []) st acc)) h.no_mark
    ∙ ap (λ (z : Table). flat_from z (one ∷ piece.Parts (part.Items true) ∷ st, comma_if c ++ acc)) (sym h.is)

as_field : (t : Table) → Headed t → (c : Bool) (st : Pieces) (acc : Kinds) → flat_from t (piece.Parts (part.Fields c) ∷ st, acc) ≡ flat_from t (one ∷ piece.Mark m.Colon ∷ one ∷ piece.Parts (part.Fields true) ∷ st, comma_if c ++ acc)
as_field t h c st acc =
    ap (λ (z : Table). flat_from z (piece.Parts (part.Fields c) ∷ st, acc)) h.is
    ∙ ap (λ (b : Bool). flat_from h.rest (item b h.last c (piece.Parts (part.Fields true) ∷ one ∷ piece.Mark m.Colon ∷ []) st acc)) h.no_mark
    ∙ ap (λ (z : Table). flat_from z (one ∷ piece.Mark m.Colon ∷ one ∷ piece.Parts (part.Fields true) ∷ st, comma_if c ++ acc)) (sym h.is)

as_var : (t : Table) → Headed t → (c : Bool) (st : Pieces) (acc : Kinds) → flat_from t (piece.Parts (part.Vars c) ∷ st, acc) ≡ flat_from t (one ∷ piece.Mark m.Assign ∷ one ∷ piece.Parts (part.Vars true) ∷ st, comma_if c ++ acc)
as_var t h c st acc =
    ap (λ (z : Table). flat_from z (piece.Parts (part.Vars c) ∷ st, acc)) h.is
    ∙ ap (λ (b : Bool). flat_from h.rest (item b h.last c (vars_stay (is_var h.last)) st acc)) h.no_mark
    ∙ ap (λ (b : Bool). flat_from h.rest (item false h.last c (vars_stay b) st acc)) h.no_var
    ∙ ap (λ (z : Table). flat_from z (one ∷ piece.Mark m.Assign ∷ one ∷ piece.Parts (part.Vars true) ∷ st, comma_if c ++ acc)) (sym h.is)

as_first : (t : Table) → Headed t → (st : Pieces) (acc : Kinds) → flat_from t (piece.Parts part.Steps ∷ st, acc) ≡ flat_from t (one ∷ st, acc)
as_first t h st acc =
    ap (λ (z : Table). flat_from z (piece.Parts part.Steps ∷ st, acc)) h.is
    ∙ ap (λ (b : Bool). flat_from h.rest (opened h.last (steps_stay b ++ st) acc)) h.no_step
    ∙ ap (λ (z : Table). flat_from z (one ∷ st, acc)) (sym h.is)

as_step : (i : Step) (s : Table) (st : Pieces) (acc : Kinds) → flat_from (listed_step i s) (piece.Parts part.Steps ∷ st, acc) ≡ flat_from (listed_step i s) (one ∷ piece.Parts part.Steps ∷ st, acc)
as_step (member n p) s st acc = refl
as_step (element p e) s st acc = refl
as_step (call p es) s st acc = refl
as_step (binding p ss) s st acc = refl

as_give : (e : Maybe) (p : Place) (c : Close) (s : Table) (st : Pieces) (acc : Kinds) → flat_from (listed_give p c e s) (piece.Parts part.Statements ∷ st, acc) ≡ flat_from (listed_give p c e s) (one ∷ piece.Parts part.Statements ∷ st, acc)
as_give nothing p c s st acc = refl
as_give (just e) p c s st acc = refl

as_statement : (d : Stmt) (s : Table) (st : Pieces) (acc : Kinds) → flat_from (listed_stmt d s) (piece.Parts part.Statements ∷ st, acc) ≡ flat_from (listed_stmt d s) (one ∷ piece.Parts part.Statements ∷ st, acc)
as_statement (empty p) s st acc = refl
as_statement (expr e c) s st acc = refl
as_statement (block p ss) s st acc = refl
as_statement (declare p q vs c) s st acc = refl
as_statement (when p e d) s st acc = refl
as_statement (either p e d r) s st acc = refl
as_statement (while p e d) s st acc = refl
as_statement (for p i e f d) s st acc = refl
as_statement (give p e c) s st acc = as_give e p c s st acc
as_statement (stop p c) s st acc = refl
as_statement (again p c) s st acc = refl

-- ---- parts of chains, with what their operand writes

-- what stands on a table writes these tokens
abbrev WritesTokens : Table → Table → Kinds → Type 0
WritesTokens t s ks = (st : Pieces) (acc : Kinds) → flat_from t (one ∷ st, acc) ≡ flat_from s (st, ks ++ acc)

abbrev some_exprs : Exprs → Bool
some_exprs no_exprs = false
some_exprs (an_expr e es) = true

abbrev some_fields : Fields → Bool
some_fields no_fields = false
some_fields (a_field q n p e fs) = true

abbrev awaits_before : Bool → Pieces → Pieces
awaits_before true st = st
awaits_before false st = one ∷ st

signs_written : (ss : Signs) (first : Bool) (g : Prefix) (p : Place) (t : Table → Table) (s : Table) (ks : Kinds) (st : Pieces) (acc : Kinds) → ((z : Table) → WritesTokens (t z) z ks) → flat_from (last_sign first g p ss ∷ t (listed_signs first g p ss s)) (one ∷ st, acc) ≡ flat_from s (awaits_before first st, prefix_kind g ∷ flat_signs ss ++ ks ++ acc)
signs_written no_signs true g p t s ks st acc h = h s (piece.Prefix g ∷ st) acc ∙ prefix_next s g st (ks ++ acc)
signs_written no_signs false g p t s ks st acc h = h s (piece.Prefix g ∷ one ∷ st) acc ∙ prefix_next s g (one ∷ st) (ks ++ acc)
signs_written (a_sign d q ss) true g p t s ks st acc h = signs_written ss false d q t (node.Sign true g p ∷ s) ks st acc h ∙ prefix_next s g st (prefix_kind d ∷ flat_signs ss ++ ks ++ acc)
signs_written (a_sign d q ss) false g p t s ks st acc h = signs_written ss false d q t (node.Sign false g p ∷ s) ks st acc h ∙ prefix_next s g (one ∷ st) (prefix_kind d ∷ flat_signs ss ++ ks ++ acc)

mutual
  pub written : (e : Expr) (s : Table) (st : Pieces) (acc : Kinds) → flat_from (listed e s) (one ∷ st, acc) ≡ flat_from s (st, flat e ++ acc)
  written (name n p) s st acc = refl
  written (number n p) s st acc = refl
  written (text n p) s st acc = refl
  written (literal x p) s st acc = word_next s (literal_word x) st acc
  written (paren p e) s st acc = mark_next (listed e s) m.RightParen (one ∷ piece.Mark m.LeftParen ∷ st) acc ∙ written e s (piece.Mark m.LeftParen ∷ st) (k.Mark m.RightParen ∷ acc) ∙ mark_next s m.LeftParen st (flat e ++ (k.Mark m.RightParen ∷ acc)) ∙ then_kinds s st (simp append_assoc)
  written (list p es true) s st acc = mark_next (listed_exprs es (node.Mark ∷ s)) m.RightBracket (piece.Mark m.Comma ∷ piece.Parts (part.Items false) ∷ piece.Mark m.LeftBracket ∷ st) acc ∙ mark_next (listed_exprs es (node.Mark ∷ s)) m.Comma (piece.Parts (part.Items false) ∷ piece.Mark m.LeftBracket ∷ st) (k.Mark m.RightBracket ∷ acc) ∙ exprs_written es (node.Mark ∷ s) (piece.Mark m.LeftBracket ∷ st) (k.Mark m.Comma ∷ (k.Mark m.RightBracket ∷ acc)) ∙ mark_next s m.LeftBracket st (flat_exprs es ++ (k.Mark m.Comma ∷ (k.Mark m.RightBracket ∷ acc))) ∙ then_kinds s st (simp append_assoc)
  written (list p es false) s st acc = mark_next (listed_exprs es (node.Mark ∷ s)) m.RightBracket (piece.Parts (part.Items false) ∷ piece.Mark m.LeftBracket ∷ st) acc ∙ exprs_written es (node.Mark ∷ s) (piece.Mark m.LeftBracket ∷ st) (k.Mark m.RightBracket ∷ acc) ∙ mark_next s m.LeftBracket st (flat_exprs es ++ (k.Mark m.RightBracket ∷ acc)) ∙ then_kinds s st (simp append_assoc)
  written (fields p fs true) s st acc = mark_next (listed_fields fs (node.Mark ∷ s)) m.RightBrace (piece.Mark m.Comma ∷ piece.Parts (part.Fields false) ∷ piece.Mark m.LeftBrace ∷ st) acc ∙ mark_next (listed_fields fs (node.Mark ∷ s)) m.Comma (piece.Parts (part.Fields false) ∷ piece.Mark m.LeftBrace ∷ st) (k.Mark m.RightBrace ∷ acc) ∙ fields_written fs (node.Mark ∷ s) (piece.Mark m.LeftBrace ∷ st) (k.Mark m.Comma ∷ (k.Mark m.RightBrace ∷ acc)) ∙ mark_next s m.LeftBrace st (flat_fields fs ++ (k.Mark m.Comma ∷ (k.Mark m.RightBrace ∷ acc))) ∙ then_kinds s st (simp append_assoc)
  written (fields p fs false) s st acc = mark_next (listed_fields fs (node.Mark ∷ s)) m.RightBrace (piece.Parts (part.Fields false) ∷ piece.Mark m.LeftBrace ∷ st) acc ∙ fields_written fs (node.Mark ∷ s) (piece.Mark m.LeftBrace ∷ st) (k.Mark m.RightBrace ∷ acc) ∙ mark_next s m.LeftBrace st (flat_fields fs ++ (k.Mark m.RightBrace ∷ acc)) ∙ then_kinds s st (simp append_assoc)
  written (steps e i is) s st acc = steps_written is (listed_step i (listed e s)) st acc ∙ as_step i (listed e s) st (flat_steps is ++ acc) ∙ step_written i (listed e s) (piece.Parts part.Steps ∷ st) (flat_steps is ++ acc) ∙ as_first (listed e s) (head e s) st (flat_step i ++ (flat_steps is ++ acc)) ∙ written e s st (flat_step i ++ (flat_steps is ++ acc)) ∙ then_kinds s st (simp append_assoc)
  written (bumped e i p) s st acc = mark_next (listed e s) (postfix_mark i) (one ∷ st) acc ∙ written e s st (k.Mark (postfix_mark i) ∷ acc) ∙ then_kinds s st (simp append_assoc)
  written (signed g p ss e) s st acc = signs_written ss true g p (λ z. listed e z) s (flat e) st acc (λ z. written e z) ∙ then_kinds s st (simp append_assoc)
  written (chain e op p d ls) s st acc = links_written ls true op p (listed d (listed e s)) (listed e s) (flat d) st acc (written d (listed e s)) ∙ written e s st (k.Mark (operator_mark op) ∷ flat d ++ (flat_links ls ++ acc)) ∙ then_kinds s st (simp append_assoc)
  written (choose c e cs d) s st acc = written d (listed_choices cs (node.Choice true ∷ listed e (listed c s))) (one ∷ st) acc ∙ choices_written cs (node.Choice true ∷ listed e (listed c s)) st (flat d ++ acc) ∙ mark_next (listed e (listed c s)) m.Colon (one ∷ piece.Mark m.Question ∷ one ∷ st) (flat_choices cs ++ (flat d ++ acc)) ∙ written e (listed c s) (piece.Mark m.Question ∷ one ∷ st) (k.Mark m.Colon ∷ (flat_choices cs ++ (flat d ++ acc))) ∙ mark_next (listed c s) m.Question (one ∷ st) (flat e ++ (k.Mark m.Colon ∷ (flat_choices cs ++ (flat d ++ acc)))) ∙ written c s st (k.Mark m.Question ∷ (flat e ++ (k.Mark m.Colon ∷ (flat_choices cs ++ (flat d ++ acc))))) ∙ then_kinds s st (simp append_assoc)
  written (assign t g p ts v) s st acc = written v (listed_targets ts (node.Target true g p ∷ listed t s)) (one ∷ st) acc ∙ targets_written ts (node.Target true g p ∷ listed t s) st (flat v ++ acc) ∙ mark_next (listed t s) (assignment_mark g) (one ∷ st) (flat_targets ts ++ (flat v ++ acc)) ∙ written t s st (k.Mark (assignment_mark g) ∷ (flat_targets ts ++ (flat v ++ acc))) ∙ then_kinds s st (simp append_assoc)

  exprs_written : (es : Exprs) (s : Table) (st : Pieces) (acc : Kinds) → flat_from (listed_exprs es s) (piece.Parts (part.Items false) ∷ st, acc) ≡ flat_from s (piece.Parts (part.Items (some_exprs es)) ∷ st, flat_exprs es ++ acc)
  exprs_written no_exprs s st acc = refl
  exprs_written (an_expr e no_exprs) s st acc = as_item (listed e s) (head e s) false st acc ∙ written e s (piece.Parts (part.Items true) ∷ st) acc ∙ then_kinds s (piece.Parts (part.Items true) ∷ st) (simp append_assoc)
  exprs_written (an_expr e (an_expr d es)) s st acc = exprs_written (an_expr d es) (listed e s) st acc ∙ as_item (listed e s) (head e s) true st (flat_exprs (an_expr d es) ++ acc) ∙ written e s (piece.Parts (part.Items true) ∷ st) (k.Mark m.Comma ∷ (flat_exprs (an_expr d es) ++ acc)) ∙ then_kinds s (piece.Parts (part.Items true) ∷ st) (simp append_assoc)

  fields_written : (fs : Fields) (s : Table) (st : Pieces) (acc : Kinds) → flat_from (listed_fields fs s) (piece.Parts (part.Fields false) ∷ st, acc) ≡ flat_from s (piece.Parts (part.Fields (some_fields fs)) ∷ st, flat_fields fs ++ acc)
  fields_written no_fields s st acc = refl
  fields_written (a_field q n p e no_fields) s st acc = as_field (listed e (node.Key q n p ∷ s)) (head e (node.Key q n p ∷ s)) false st acc ∙ written e (node.Key q n p ∷ s) (piece.Mark m.Colon ∷ one ∷ piece.Parts (part.Fields true) ∷ st) acc ∙ then_kinds s (piece.Parts (part.Fields true) ∷ st) (simp append_assoc)
  fields_written (a_field q n p e (a_field b i a d fs)) s st acc = fields_written (a_field b i a d fs) (listed e (node.Key q n p ∷ s)) st acc ∙ as_field (listed e (node.Key q n p ∷ s)) (head e (node.Key q n p ∷ s)) true st (flat_fields (a_field b i a d fs) ++ acc) ∙ written e (node.Key q n p ∷ s) (piece.Mark m.Colon ∷ one ∷ piece.Parts (part.Fields true) ∷ st) (k.Mark m.Comma ∷ (flat_fields (a_field b i a d fs) ++ acc)) ∙ then_kinds s (piece.Parts (part.Fields true) ∷ st) (simp append_assoc)

  step_written : (i : Step) (s : Table) (st : Pieces) (acc : Kinds) → flat_from (listed_step i s) (one ∷ st, acc) ≡ flat_from s (st, flat_step i ++ acc)
  step_written (member n p) s st acc = mark_next s m.Dot st (k.Name n ∷ acc)
  step_written (element p e) s st acc = mark_next (listed e s) m.RightBracket (one ∷ piece.Mark m.LeftBracket ∷ st) acc ∙ written e s (piece.Mark m.LeftBracket ∷ st) (k.Mark m.RightBracket ∷ acc) ∙ mark_next s m.LeftBracket st (flat e ++ (k.Mark m.RightBracket ∷ acc)) ∙ then_kinds s st (simp append_assoc)
  step_written (call p es) s st acc = mark_next (listed_exprs es (node.Mark ∷ s)) m.RightParen (piece.Parts (part.Items false) ∷ piece.Mark m.LeftParen ∷ st) acc ∙ exprs_written es (node.Mark ∷ s) (piece.Mark m.LeftParen ∷ st) (k.Mark m.RightParen ∷ acc) ∙ mark_next s m.LeftParen st (flat_exprs es ++ (k.Mark m.RightParen ∷ acc)) ∙ then_kinds s st (simp append_assoc)
  step_written (binding p ss) s st acc = mark_next (listed_stmts ss (node.Mark ∷ s)) m.RightParen (piece.Mark m.RightBrace ∷ piece.Parts part.Statements ∷ piece.Mark m.LeftBrace ∷ piece.Mark m.RightParen ∷ piece.Mark m.LeftParen ∷ piece.Word w.Function ∷ piece.Mark m.LeftParen ∷ st) acc ∙ mark_next (listed_stmts ss (node.Mark ∷ s)) m.RightBrace (piece.Parts part.Statements ∷ piece.Mark m.LeftBrace ∷ piece.Mark m.RightParen ∷ piece.Mark m.LeftParen ∷ piece.Word w.Function ∷ piece.Mark m.LeftParen ∷ st) (k.Mark m.RightParen ∷ acc) ∙ stmts_written ss (node.Mark ∷ s) (piece.Mark m.LeftBrace ∷ piece.Mark m.RightParen ∷ piece.Mark m.LeftParen ∷ piece.Word w.Function ∷ piece.Mark m.LeftParen ∷ st) (k.Mark m.RightBrace ∷ (k.Mark m.RightParen ∷ acc)) ∙ mark_next s m.LeftBrace (piece.Mark m.RightParen ∷ piece.Mark m.LeftParen ∷ piece.Word w.Function ∷ piece.Mark m.LeftParen ∷ st) (flat_stmts ss ++ (k.Mark m.RightBrace ∷ (k.Mark m.RightParen ∷ acc))) ∙ mark_next s m.RightParen (piece.Mark m.LeftParen ∷ piece.Word w.Function ∷ piece.Mark m.LeftParen ∷ st) (k.Mark m.LeftBrace ∷ (flat_stmts ss ++ (k.Mark m.RightBrace ∷ (k.Mark m.RightParen ∷ acc)))) ∙ mark_next s m.LeftParen (piece.Word w.Function ∷ piece.Mark m.LeftParen ∷ st) (k.Mark m.RightParen ∷ (k.Mark m.LeftBrace ∷ (flat_stmts ss ++ (k.Mark m.RightBrace ∷ (k.Mark m.RightParen ∷ acc))))) ∙ word_next s w.Function (piece.Mark m.LeftParen ∷ st) (k.Mark m.LeftParen ∷ (k.Mark m.RightParen ∷ (k.Mark m.LeftBrace ∷ (flat_stmts ss ++ (k.Mark m.RightBrace ∷ (k.Mark m.RightParen ∷ acc)))))) ∙ mark_next s m.LeftParen st (k.Word w.Function ∷ (k.Mark m.LeftParen ∷ (k.Mark m.RightParen ∷ (k.Mark m.LeftBrace ∷ (flat_stmts ss ++ (k.Mark m.RightBrace ∷ (k.Mark m.RightParen ∷ acc))))))) ∙ then_kinds s st (simp append_assoc)

  steps_written : (is : Steps) (s : Table) (st : Pieces) (acc : Kinds) → flat_from (listed_steps is s) (piece.Parts part.Steps ∷ st, acc) ≡ flat_from s (piece.Parts part.Steps ∷ st, flat_steps is ++ acc)
  steps_written no_steps s st acc = refl
  steps_written (a_step i is) s st acc = steps_written is (listed_step i s) st acc ∙ as_step i s st (flat_steps is ++ acc) ∙ step_written i s (piece.Parts part.Steps ∷ st) (flat_steps is ++ acc) ∙ then_kinds s (piece.Parts part.Steps ∷ st) (simp append_assoc)

  links_written : (ls : Links) (first : Bool) (op : Operator) (p : Place) (t s : Table) (ks : Kinds) (st : Pieces) (acc : Kinds) → WritesTokens t s ks → flat_from (listed_links first op p ls t) (one ∷ st, acc) ≡ flat_from s (one ∷ st, k.Mark (operator_mark op) ∷ ks ++ (flat_links ls ++ acc))
  links_written no_links first op p t s ks st acc h = h (piece.Mark (operator_mark op) ∷ one ∷ st) acc ∙ mark_next s (operator_mark op) (one ∷ st) (ks ++ acc)
  links_written (a_link o q d ls) first op p t s ks st acc h = links_written ls false o q (listed d (node.Link first op p ∷ t)) (node.Link first op p ∷ t) (flat d) st acc (written d (node.Link first op p ∷ t)) ∙ h (piece.Mark (operator_mark op) ∷ one ∷ st) (k.Mark (operator_mark o) ∷ flat d ++ (flat_links ls ++ acc)) ∙ mark_next s (operator_mark op) (one ∷ st) (ks ++ (k.Mark (operator_mark o) ∷ flat d ++ (flat_links ls ++ acc))) ∙ then_kinds s (one ∷ st) (simp append_assoc)

  choices_written : (cs : Choices) (s : Table) (st : Pieces) (acc : Kinds) → flat_from (listed_choices cs s) (one ∷ st, acc) ≡ flat_from s (one ∷ st, flat_choices cs ++ acc)
  choices_written no_choices s st acc = refl
  choices_written (a_choice c e cs) s st acc = choices_written cs (node.Choice false ∷ listed e (listed c s)) st acc ∙ mark_next (listed e (listed c s)) m.Colon (one ∷ piece.Mark m.Question ∷ one ∷ one ∷ st) (flat_choices cs ++ acc) ∙ written e (listed c s) (piece.Mark m.Question ∷ one ∷ one ∷ st) (k.Mark m.Colon ∷ (flat_choices cs ++ acc)) ∙ mark_next (listed c s) m.Question (one ∷ one ∷ st) (flat e ++ (k.Mark m.Colon ∷ (flat_choices cs ++ acc))) ∙ written c s (one ∷ st) (k.Mark m.Question ∷ (flat e ++ (k.Mark m.Colon ∷ (flat_choices cs ++ acc)))) ∙ then_kinds s (one ∷ st) (simp append_assoc)

  targets_written : (ts : Targets) (s : Table) (st : Pieces) (acc : Kinds) → flat_from (listed_targets ts s) (one ∷ st, acc) ≡ flat_from s (one ∷ st, flat_targets ts ++ acc)
  targets_written no_targets s st acc = refl
  targets_written (a_target t g p ts) s st acc = targets_written ts (node.Target false g p ∷ listed t s) st acc ∙ mark_next (listed t s) (assignment_mark g) (one ∷ one ∷ st) (flat_targets ts ++ acc) ∙ written t s (one ∷ st) (k.Mark (assignment_mark g) ∷ (flat_targets ts ++ acc)) ∙ then_kinds s (one ∷ st) (simp append_assoc)

  pub stmt_written : (d : Stmt) (s : Table) (st : Pieces) (acc : Kinds) → flat_from (listed_stmt d s) (one ∷ st, acc) ≡ flat_from s (st, flat_stmt d ++ acc)
  stmt_written (empty p) s st acc = mark_next s m.Semicolon st acc
  stmt_written (expr e semi) s st acc = mark_next (listed e s) m.Semicolon (one ∷ st) acc ∙ written e s st (k.Mark m.Semicolon ∷ acc) ∙ then_kinds s st (simp append_assoc)
  stmt_written (expr e auto) s st acc = written e s st acc ∙ then_kinds s st (simp append_assoc)
  stmt_written (block p ss) s st acc = mark_next (listed_stmts ss (node.Mark ∷ s)) m.RightBrace (piece.Parts part.Statements ∷ piece.Mark m.LeftBrace ∷ st) acc ∙ stmts_written ss (node.Mark ∷ s) (piece.Mark m.LeftBrace ∷ st) (k.Mark m.RightBrace ∷ acc) ∙ mark_next s m.LeftBrace st (flat_stmts ss ++ (k.Mark m.RightBrace ∷ acc)) ∙ then_kinds s st (simp append_assoc)
  stmt_written (declare p q vs semi) s st acc = mark_next (listed_vars vs (node.Mark ∷ s)) m.Semicolon (piece.Parts (part.Vars false) ∷ piece.Word (declaration_word q) ∷ st) acc ∙ vars_written vs (node.Mark ∷ s) (piece.Word (declaration_word q) ∷ st) (k.Mark m.Semicolon ∷ acc) ∙ word_next s (declaration_word q) st (flat_vars vs ++ (k.Mark m.Semicolon ∷ acc)) ∙ then_kinds s st (simp append_assoc)
  stmt_written (declare p q vs auto) s st acc = vars_written vs (node.Mark ∷ s) (piece.Word (declaration_word q) ∷ st) acc ∙ word_next s (declaration_word q) st (flat_vars vs ++ acc) ∙ then_kinds s st (simp append_assoc)
  stmt_written (when p e d) s st acc = stmt_written d (listed e s) (piece.Mark m.RightParen ∷ one ∷ piece.Mark m.LeftParen ∷ piece.Word w.If ∷ st) acc ∙ mark_next (listed e s) m.RightParen (one ∷ piece.Mark m.LeftParen ∷ piece.Word w.If ∷ st) (flat_stmt d ++ acc) ∙ written e s (piece.Mark m.LeftParen ∷ piece.Word w.If ∷ st) (k.Mark m.RightParen ∷ (flat_stmt d ++ acc)) ∙ mark_next s m.LeftParen (piece.Word w.If ∷ st) (flat e ++ (k.Mark m.RightParen ∷ (flat_stmt d ++ acc))) ∙ word_next s w.If st (k.Mark m.LeftParen ∷ (flat e ++ (k.Mark m.RightParen ∷ (flat_stmt d ++ acc)))) ∙ then_kinds s st (simp append_assoc)
  stmt_written (either p e d r) s st acc = stmt_written r (listed_stmt d (listed e s)) (piece.Word w.Else ∷ one ∷ piece.Mark m.RightParen ∷ one ∷ piece.Mark m.LeftParen ∷ piece.Word w.If ∷ st) acc ∙ word_next (listed_stmt d (listed e s)) w.Else (one ∷ piece.Mark m.RightParen ∷ one ∷ piece.Mark m.LeftParen ∷ piece.Word w.If ∷ st) (flat_stmt r ++ acc) ∙ stmt_written d (listed e s) (piece.Mark m.RightParen ∷ one ∷ piece.Mark m.LeftParen ∷ piece.Word w.If ∷ st) (k.Word w.Else ∷ (flat_stmt r ++ acc)) ∙ mark_next (listed e s) m.RightParen (one ∷ piece.Mark m.LeftParen ∷ piece.Word w.If ∷ st) (flat_stmt d ++ (k.Word w.Else ∷ (flat_stmt r ++ acc))) ∙ written e s (piece.Mark m.LeftParen ∷ piece.Word w.If ∷ st) (k.Mark m.RightParen ∷ (flat_stmt d ++ (k.Word w.Else ∷ (flat_stmt r ++ acc)))) ∙ mark_next s m.LeftParen (piece.Word w.If ∷ st) (flat e ++ (k.Mark m.RightParen ∷ (flat_stmt d ++ (k.Word w.Else ∷ (flat_stmt r ++ acc))))) ∙ word_next s w.If st (k.Mark m.LeftParen ∷ (flat e ++ (k.Mark m.RightParen ∷ (flat_stmt d ++ (k.Word w.Else ∷ (flat_stmt r ++ acc)))))) ∙ then_kinds s st (simp append_assoc)
  stmt_written (while p e d) s st acc = stmt_written d (listed e s) (piece.Mark m.RightParen ∷ one ∷ piece.Mark m.LeftParen ∷ piece.Word w.While ∷ st) acc ∙ mark_next (listed e s) m.RightParen (one ∷ piece.Mark m.LeftParen ∷ piece.Word w.While ∷ st) (flat_stmt d ++ acc) ∙ written e s (piece.Mark m.LeftParen ∷ piece.Word w.While ∷ st) (k.Mark m.RightParen ∷ (flat_stmt d ++ acc)) ∙ mark_next s m.LeftParen (piece.Word w.While ∷ st) (flat e ++ (k.Mark m.RightParen ∷ (flat_stmt d ++ acc))) ∙ word_next s w.While st (k.Mark m.LeftParen ∷ (flat e ++ (k.Mark m.RightParen ∷ (flat_stmt d ++ acc)))) ∙ then_kinds s st (simp append_assoc)
  stmt_written (for p i e f d) s st acc = stmt_written d (listed_maybe f (listed_maybe e (listed_first i s))) (piece.Mark m.RightParen ∷ one ∷ piece.Mark m.Semicolon ∷ one ∷ piece.Mark m.Semicolon ∷ one ∷ piece.Mark m.LeftParen ∷ piece.Word w.For ∷ st) acc ∙ mark_next (listed_maybe f (listed_maybe e (listed_first i s))) m.RightParen (one ∷ piece.Mark m.Semicolon ∷ one ∷ piece.Mark m.Semicolon ∷ one ∷ piece.Mark m.LeftParen ∷ piece.Word w.For ∷ st) (flat_stmt d ++ acc) ∙ maybe_written f (listed_maybe e (listed_first i s)) (piece.Mark m.Semicolon ∷ one ∷ piece.Mark m.Semicolon ∷ one ∷ piece.Mark m.LeftParen ∷ piece.Word w.For ∷ st) (k.Mark m.RightParen ∷ (flat_stmt d ++ acc)) ∙ mark_next (listed_maybe e (listed_first i s)) m.Semicolon (one ∷ piece.Mark m.Semicolon ∷ one ∷ piece.Mark m.LeftParen ∷ piece.Word w.For ∷ st) (flat_maybe f ++ (k.Mark m.RightParen ∷ (flat_stmt d ++ acc))) ∙ maybe_written e (listed_first i s) (piece.Mark m.Semicolon ∷ one ∷ piece.Mark m.LeftParen ∷ piece.Word w.For ∷ st) (k.Mark m.Semicolon ∷ (flat_maybe f ++ (k.Mark m.RightParen ∷ (flat_stmt d ++ acc)))) ∙ mark_next (listed_first i s) m.Semicolon (one ∷ piece.Mark m.LeftParen ∷ piece.Word w.For ∷ st) (flat_maybe e ++ (k.Mark m.Semicolon ∷ (flat_maybe f ++ (k.Mark m.RightParen ∷ (flat_stmt d ++ acc))))) ∙ first_written i s (piece.Mark m.LeftParen ∷ piece.Word w.For ∷ st) (k.Mark m.Semicolon ∷ (flat_maybe e ++ (k.Mark m.Semicolon ∷ (flat_maybe f ++ (k.Mark m.RightParen ∷ (flat_stmt d ++ acc)))))) ∙ mark_next s m.LeftParen (piece.Word w.For ∷ st) (flat_first i ++ (k.Mark m.Semicolon ∷ (flat_maybe e ++ (k.Mark m.Semicolon ∷ (flat_maybe f ++ (k.Mark m.RightParen ∷ (flat_stmt d ++ acc))))))) ∙ word_next s w.For st (k.Mark m.LeftParen ∷ (flat_first i ++ (k.Mark m.Semicolon ∷ (flat_maybe e ++ (k.Mark m.Semicolon ∷ (flat_maybe f ++ (k.Mark m.RightParen ∷ (flat_stmt d ++ acc)))))))) ∙ then_kinds s st (simp append_assoc)
  stmt_written (give p nothing semi) s st acc = mark_next s m.Semicolon (piece.Word w.Return ∷ st) acc ∙ word_next s w.Return st (k.Mark m.Semicolon ∷ acc)
  stmt_written (give p nothing auto) s st acc = word_next s w.Return st acc
  stmt_written (give p (just e) semi) s st acc = mark_next (listed e s) m.Semicolon (one ∷ piece.Word w.Return ∷ st) acc ∙ written e s (piece.Word w.Return ∷ st) (k.Mark m.Semicolon ∷ acc) ∙ word_next s w.Return st (flat e ++ (k.Mark m.Semicolon ∷ acc)) ∙ then_kinds s st (simp append_assoc)
  stmt_written (give p (just e) auto) s st acc = written e s (piece.Word w.Return ∷ st) acc ∙ word_next s w.Return st (flat e ++ acc) ∙ then_kinds s st (simp append_assoc)
  stmt_written (stop p semi) s st acc = mark_next s m.Semicolon (piece.Word w.Break ∷ st) acc ∙ word_next s w.Break st (k.Mark m.Semicolon ∷ acc)
  stmt_written (stop p auto) s st acc = word_next s w.Break st acc
  stmt_written (again p semi) s st acc = mark_next s m.Semicolon (piece.Word w.Continue ∷ st) acc ∙ word_next s w.Continue st (k.Mark m.Semicolon ∷ acc)
  stmt_written (again p auto) s st acc = word_next s w.Continue st acc

  pub stmts_written : (ss : Stmts) (s : Table) (st : Pieces) (acc : Kinds) → flat_from (listed_stmts ss s) (piece.Parts part.Statements ∷ st, acc) ≡ flat_from s (piece.Parts part.Statements ∷ st, flat_stmts ss ++ acc)
  stmts_written no_stmts s st acc = refl
  stmts_written (a_stmt d ss) s st acc = stmts_written ss (listed_stmt d s) st acc ∙ as_statement d s st (flat_stmts ss ++ acc) ∙ stmt_written d s (piece.Parts part.Statements ∷ st) (flat_stmts ss ++ acc) ∙ then_kinds s (piece.Parts part.Statements ∷ st) (simp append_assoc)

  vars_written : (vs : Vars) (s : Table) (st : Pieces) (acc : Kinds) → flat_from (listed_vars vs s) (piece.Parts (part.Vars false) ∷ st, acc) ≡ flat_from s (piece.Parts (part.Vars true) ∷ st, flat_vars vs ++ acc)
  vars_written (last_var n p i) s st acc = value_written i false n p s st acc ∙ then_kinds s (piece.Parts (part.Vars true) ∷ st) (simp append_assoc)
  vars_written (a_var n p i vs) s st acc = vars_written vs (listed_value i (node.Var n p ∷ s)) st acc ∙ value_written i true n p s st (flat_vars vs ++ acc) ∙ then_kinds s (piece.Parts (part.Vars true) ∷ st) (simp append_assoc)

  value_written : (i : Maybe) (c : Bool) (n : Units) (p : Place) (s : Table) (st : Pieces) (acc : Kinds) → flat_from (listed_value i (node.Var n p ∷ s)) (piece.Parts (part.Vars c) ∷ st, acc) ≡ flat_from s (piece.Parts (part.Vars true) ∷ st, k.Name n ∷ flat_init i ++ comma_if c ++ acc)
  value_written nothing c n p s st acc = refl
  value_written (just e) c n p s st acc = as_var (listed e (node.Var n p ∷ s)) (head e (node.Var n p ∷ s)) c st acc ∙ written e (node.Var n p ∷ s) (piece.Mark m.Assign ∷ one ∷ piece.Parts (part.Vars true) ∷ st) (comma_if c ++ acc) ∙ then_kinds s (piece.Parts (part.Vars true) ∷ st) (simp append_assoc)

  maybe_written : (e : Maybe) (s : Table) (st : Pieces) (acc : Kinds) → flat_from (listed_maybe e s) (one ∷ st, acc) ≡ flat_from s (st, flat_maybe e ++ acc)
  maybe_written nothing s st acc = refl
  maybe_written (just e) s st acc = written e s st acc

  first_written : (i : First) (s : Table) (st : Pieces) (acc : Kinds) → flat_from (listed_first i s) (one ∷ st, acc) ≡ flat_from s (st, flat_first i ++ acc)
  first_written no_first s st acc = refl
  first_written (first_expr e) s st acc = written e s st acc
  first_written (first_declare p q vs) s st acc = vars_written vs (node.Mark ∷ s) (piece.Word (declaration_word q) ∷ st) acc ∙ word_next s (declaration_word q) st (flat_vars vs ++ acc)

-- Where a token leads, where the state before it is known.
use Rattle.std.proofs.Common.{◌≡◌, ◌∷◌, Bool, true, false, Option, Some, None, Result, Ok, Err, refl, sym, ap, ◌∙◌, subst}
use Rattle.std.specs.Prelude.{IfOk, if◌then◌else◌}
use Rattle.qml_syntax.specs.Nodes.{Table}
use Rattle.qml_machine.specs.DocumentTape.{Frames, Kept, kept}
use Rattle.qml_base.specs.declared.numbers.Place.{Place}
use Rattle.qml_syntax.specs.Tree.{Units, auto}
use Rattle.qml_syntax.specs.Words.{Tail, before_version, is_as}
use Rattle.qml_syntax.specs.declared.token.Token.{Token}
use Rattle.qml_syntax.specs.declared.token.TokenKind.{TokenKind}
use Rattle.qml_syntax.specs.declared.token.TokenKind.TheVariants as k
use Rattle.qml_syntax.specs.declared.mark.Mark.TheVariants as m
use Rattle.qml_syntax.specs.declared.node.Node.TheVariants as node
use Rattle.qml_syntax.specs.declared.contextual.Adjective.TheVariants as adjective
use Rattle.qml_syntax.specs.declared.contextual.Version.{Version}
use Rattle.qml_syntax.specs.declared.contextual.Version.TheVariants as version
use Rattle.js_machine.specs.Machine.{is_semi}
use Rattle.qml_machine.specs.DocumentMachine.{is_dot, stops}
use Rattle.qml_machine.specs.DocumentMoves.{popped, keep_signal_opened, keep_kind, keep_kind_named, keep_kinded, keep_module, keep_sourced, keep_import_end, keep_imports, import_row, needs}
use Rattle.qml_machine.specs.declared.state.Whose.{Whose}
use Rattle.qml_machine.specs.declared.state.Whose.TheVariants as whose
use Rattle.qml_machine.specs.declared.state.Imported.{Imported}
use Rattle.qml_machine.specs.declared.state.Imported.TheVariants as imported
use Rattle.qml_machine.specs.declared.state.Now.{Now}
use Rattle.qml_machine.specs.declared.state.Now.TheVariants as state
use Rattle.qml_machine.specs.declared.state.ImportNow.TheVariants as import_now
use Rattle.qml_machine.specs.declared.state.MemberNow.TheVariants as member_now
use Rattle.qml_machine.specs.declared.state.KindNow.TheVariants as kind_now
use Rattle.qml_parser.specs.Going.{is_less, is_right_paren, head_of, version_of}
use Rattle.qml_machine.specs.KeptDocument.{kept_text}
use Rattle.qml_parser.specs.declared.next.Next.{Next}
use Rattle.qml_parser.specs.Reached.{Leads, Leaves}

pub leads_as : {E : Type 0} (move other : Option Kept) (s : Table) (fs : Frames) (r : Result (Option Next) E) → move ≡ other → IfOk r (λ x. Leads other s fs x) → IfOk r (λ x. Leads move s fs x)
leads_as move other s fs r e h = let P : Option Kept → Type 0 = λ m. IfOk r (λ x. Leads m s fs x) in subst P (sym e) h

pub leads_so : (move other : Option Kept) (s : Table) (fs : Frames) (r : Option Next) → move ≡ other → Leads other s fs r → Leads move s fs r
leads_so move other s fs r e h = let P : Option Kept → Type 0 = λ m. Leads m s fs r in subst P (sym e) h

-- nothing has been read whole there
pub leaves_none : {E : Type 0} (move other : Option Kept) (whole : Option Table) (now : Now) (s : Table) (fs : Frames) (r : Result (Option Next) E) → move ≡ other → whole ≡ None → ((s2 : Table) (fs2 : Frames) → kept_text (kept s2 fs2 now) ≡ None) → IfOk r (λ x. Leads other s fs x) → IfOk r (λ x. Leaves move whole now s fs x)
leaves_none move other whole now s fs (Err f) e w k h = tt
leaves_none move other whole now s fs (Ok None) e w k h = (e ∙ h, w ∙ sym (k s fs))
leaves_none move other whole now s fs (Ok (Some n)) e w k h = e ∙ h

-- nodes and frames stay
pub leaves_so : (move other : Option Kept) (now : Now) (s : Table) (fs : Frames) (r : Option Next) → move ≡ other → Leads other s fs r → Leaves move (kept_text (kept s fs now)) now s fs r
leaves_so move other now s fs None e h = (e ∙ h, refl)
leaves_so move other now s fs (Some n) e h = e ∙ h

-- what has been read whole goes by the nodes alone
pub leaves_stays : {E : Type 0} (move other : Option Kept) (whole : Option Table) (now : Now) (s : Table) (fs : Frames) (r : Result (Option Next) E) → move ≡ other → ((fs2 : Frames) → kept_text (kept s fs2 now) ≡ whole) → IfOk r (λ x. Leads other s fs x) → IfOk r (λ x. Leaves move whole now s fs x)
leaves_stays move other whole now s fs (Err f) e k h = tt
leaves_stays move other whole now s fs (Ok None) e k h = (e ∙ h, sym (k fs))
leaves_stays move other whole now s fs (Ok (Some n)) e k h = e ∙ h

-- ---- tests

pub if_true : {A : Type 0} (b : Bool) (x y : A) → b ≡ true → (if b then x else y) ≡ x
if_true true x y h = refl
if_true false x y h = cc

pub if_false : {A : Type 0} (b : Bool) (x y : A) → b ≡ false → (if b then x else y) ≡ y
if_false false x y h = refl
if_false true x y h = cc

-- ---- single tokens

pub signal_kind : (s : Table) (fs : Frames) (p z : Place) (kind : TokenKind) → is_right_paren kind ≡ false → keep_signal_opened s fs p z kind ≡ keep_kind (whose.SignalParameter p) s fs z kind
signal_kind s fs p z (k.Mark m.RightParen) h = cc
signal_kind s fs p z _ h = refl

pub kind_dot : (c : Whose) (is_alias is_list : Bool) (s : Table) (fs : Frames) (r : Place) (kind : TokenKind) → is_dot kind ≡ true → keep_kind_named c is_alias is_list s fs r kind ≡ Some (kept s fs (state.Kind (kind_now.KindDotted c)))
kind_dot c is_alias is_list s fs r (k.Mark m.Dot) h = refl
kind_dot c is_alias is_list s fs r _ h = cc

pub kind_less : (c : Whose) (is_alias is_list : Bool) (s : Table) (fs : Frames) (r : Place) (kind : TokenKind) → is_less kind ≡ true → keep_kind_named c is_alias is_list s fs r kind ≡ (if is_list then Some (kept (popped s) fs (state.Kind (kind_now.AtElement c))) else None)
kind_less c is_alias is_list s fs r (k.Mark m.Less) h = refl
kind_less c is_alias is_list s fs r _ h = cc

pub kind_whole : (c : Whose) (is_alias is_list : Bool) (s : Table) (fs : Frames) (r : Place) (kind : TokenKind) → is_dot kind ≡ false → is_less kind ≡ false → keep_kind_named c is_alias is_list s fs r kind ≡ keep_kinded c is_alias (node.KindName ∷ s) s fs r kind
kind_whole c is_alias is_list s fs r (k.Mark m.Dot) h l = cc
kind_whole c is_alias is_list s fs r (k.Mark m.Less) h l = cc
kind_whole c is_alias is_list s fs r _ h l = refl

abbrev by_head : Whose → Table → Table → Frames → Place → TokenKind → Option (Place × Bool × Units) → Option Kept
by_head c s base fs r kind None = keep_kinded c false s base fs r kind
by_head c s base fs r kind (Some h) = Some (kept (node.First h.2 r ∷ popped base) fs (state.Member (member_now.AliasNamed h.0 h.1)))

headed : (c : Whose) (s base : Table) (fs : Frames) (r : Place) (kind : TokenKind) → keep_kinded c true s base fs r kind ≡ by_head c s base fs r kind (head_of c kind)
headed (whose.Declared p adjective.Ordinary) s base fs r (k.Name x) = refl
headed (whose.Declared p adjective.Default) s base fs r (k.Name x) = refl
headed (whose.Declared p adjective.ReadOnly) s base fs r (k.Name x) = refl
headed (whose.Declared p d) s base fs r _ = refl
headed (whose.SignalParameter p) s base fs r (k.Name x) = refl
headed (whose.SignalParameter p) s base fs r _ = refl
headed (whose.Parameter p) s base fs r (k.Mark m.Comma) = refl
headed (whose.Parameter p) s base fs r (k.Mark m.RightParen) = refl
headed (whose.Parameter p) s base fs r _ = refl
headed (whose.Result p) s base fs r (k.Mark m.LeftBrace) = refl
headed (whose.Result p) s base fs r _ = refl

pub no_head : (c : Whose) (s base : Table) (fs : Frames) (r : Place) (kind : TokenKind) → head_of c kind ≡ None → keep_kinded c true s base fs r kind ≡ keep_kinded c false s base fs r kind
no_head c s base fs r kind h = headed c s base fs r kind ∙ ap (by_head c s base fs r kind) h

pub some_head : (c : Whose) (s base : Table) (fs : Frames) (r : Place) (kind : TokenKind) (p : Place) (d : Bool) (x : Units) → head_of c kind ≡ Some (p, d, x) → keep_kinded c true s base fs r kind ≡ Some (kept (node.First x r ∷ popped base) fs (state.Member (member_now.AliasNamed p d)))
some_head c s base fs r kind p d x h = headed c s base fs r kind ∙ ap (by_head c s base fs r kind) h

-- ---- imports

abbrev by_version : Table → Frames → Token → Option Version → Option Kept
by_version s fs t None = keep_sourced before_version (imported.Module version.Absent) s fs t
by_version s fs t (Some v) = Some (kept s fs (state.Import (import_now.Sourced (imported.Module v))))

versioned : (s : Table) (fs : Frames) (t : Token) (kind : TokenKind) → is_dot kind ≡ false → keep_module s fs t kind ≡ by_version s fs t (version_of kind)
versioned s fs t (k.Mark m.Dot) h = cc
versioned s fs t k.Version h = refl
versioned s fs t (k.Number v) h = refl
versioned s fs t _ h = refl

pub module_at : (s : Table) (fs : Frames) (t : Token) (kind : TokenKind) → is_dot kind ≡ true → keep_module s fs t kind ≡ Some (kept s fs (state.Import import_now.ModuleDotted))
module_at s fs t (k.Mark m.Dot) h = refl
module_at s fs t _ h = cc

pub module_some : (s : Table) (fs : Frames) (t : Token) (kind : TokenKind) (v : Version) → is_dot kind ≡ false → version_of kind ≡ Some v → keep_module s fs t kind ≡ Some (kept s fs (state.Import (import_now.Sourced (imported.Module v))))
module_some s fs t kind v d h = versioned s fs t kind d ∙ ap (by_version s fs t) h

pub module_none : (s : Table) (fs : Frames) (t : Token) (kind : TokenKind) → is_dot kind ≡ false → version_of kind ≡ None → keep_module s fs t kind ≡ keep_sourced before_version (imported.Module version.Absent) s fs t
module_none s fs t kind d h = versioned s fs t kind d ∙ ap (by_version s fs t) h

pub sourced_end : (l : Tail) (x : Imported) (s : Table) (fs : Frames) (t : Token) → is_as t.what ≡ false → needs x ≡ false → keep_sourced l x s fs t ≡ keep_import_end l x (node.Plain ∷ s) fs t
sourced_end l x s fs t a n = if_false (is_as t.what) _ _ a ∙ if_false (needs x) _ _ n

pub import_stops : (l : Tail) (x : Imported) (s : Table) (fs : Frames) (t : Token) → is_semi t.what ≡ false → stops l t ≡ true → keep_import_end l x s fs t ≡ keep_imports (import_row x auto s) fs t.place t.what
import_stops l x s fs t a n = if_false (is_semi t.what) _ _ a ∙ if_true (stops l t) _ _ n

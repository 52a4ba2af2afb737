-- Contents show what their tokens are read as.
use Rattle.std.proofs.Common.{◌≡◌, ◌∙◌, ap, sym, refl, subst, ℕ, Bool, true, false, inr, List, [], ◌∷◌, ◌++◌, Some, None, Ok, Err}
use Rattle.qml_base.specs.declared.numbers.Place.{Place}
use Rattle.qml_base.specs.declared.load_cause.LoadCause.TheVariants as cause
use Rattle.qml_syntax.specs.declared.token.Token.{Token}
use Rattle.qml_syntax.specs.declared.token.TokenKind.TheVariants.{End}
use Rattle.qml_syntax.specs.Nodes.{Table}
use Rattle.std.specs.Prelude.{nat_lt, length, IfOk, Result}
use Rattle.qml_base.specs.declared.memory.NoMemory.{NoMemory}
use Rattle.qml_lexer.specs.Lex.{IsLexed, Tokens, at_end, over_gap, over_token, token_at}
use Rattle.js_machine.specs.declared.fault.ParseFault.TheVariants as fault
use Rattle.qml_machine.specs.DocumentMachine.{a_document, a_script, FileTree, of_document, of_script}
use Rattle.qml_machine.specs.DocumentAnswer.{TellsText, ReadsText, deep_text}
use Rattle.qml_parser.specs.Answer.{Lists}
use Rattle.program_names.specs.Reading.{unread, is_document, is_script}
use Rattle.file_sources.specs.declared.content.Content.{Content}
use Rattle.file_sources.specs.declared.content.Content.TheVariants as content
use Rattle.file_sources.specs.Sources.{most_bytes, entry, IsOfBytes}
use Rattle.file_sources.specs.Contents.{IsReadContent, IsContent}

-- the last token is the end
pub record Ends (ts : List Token) : Type 0 where
  pub before : List Token
  pub end : Token
  pub split : ts ≡ before ++ end ∷ []
  pub ends : end.what ≡ End

pub ends_in_end : (bytes : List ℕ) (end at : ℕ) (xs : List ℕ) (ts : List Token) → Tokens bytes end at xs ts → Ends ts
ends_in_end bytes _ _ _ _ (at_end {end = end} {at = at}) = record { before = []; end = token_at bytes end at End; split = refl; ends = refl }
ends_in_end bytes _ _ _ _ (over_gap w more e g rest) = ends_in_end bytes _ _ _ _ rest
ends_in_end bytes _ _ _ _ (over_token {end = end} {at = at} w more what e g rest) =
    let r : Ends _ = ends_in_end bytes _ _ _ _ rest in
    record { before = token_at bytes end at what ∷ r.before; end = r.end; split = ap (λ (ts : List Token). token_at bytes end at what ∷ ts) r.split; ends = r.ends }

document_by : (t : Table) (before : List Token) (e : Token) (w : FileTree) → Lists t w → ReadsText a_document w before [] → deep_text w ≡ None
    → IsReadContent false before e (content.Document t)
document_by t before e (of_document d) lists reads deep = record {
  source = is_document d;
  read = record { answer = Ok (of_document d); tells = (of_document d, refl, reads, deep); gives = refl };
  shows = (d, sym lists, refl);
}
document_by t before e (of_script s) lists reads deep = absurd reads

script_by : (t : Table) (before : List Token) (e : Token) (w : FileTree) → Lists t w → ReadsText a_script w before [] → deep_text w ≡ None
    → IsReadContent true before e (content.Script t)
script_by t before e (of_script s) lists reads deep = record {
  source = is_script s;
  read = record { answer = Ok (of_script s); tells = (of_script s, refl, reads, deep); gives = refl };
  shows = (s, sym lists, refl);
}
script_by t before e (of_document d) lists reads deep = absurd reads

pub document_content : (t : Table) (before : List Token) (e : Token) → TellsText Lists a_document before e (Ok t) → IsReadContent false before e (content.Document t)
document_content t before e tells = document_by t before e tells.0 tells.1 tells.2 tells.3

pub script_content : (t : Table) (before : List Token) (e : Token) → TellsText Lists a_script before e (Ok t) → IsReadContent true before e (content.Script t)
script_content t before e tells = script_by t before e tells.0 tells.1 tells.2 tells.3

pub syntax_content : (k : Bool) (before : List Token) (e : Token) (place : Place) → TellsText {T = Table} Lists (entry k) before e (Err (fault.Syntax place))
    → IsReadContent k before e (content.Unread place cause.Syntax)
syntax_content k before e place tells = record {
  source = unread place cause.Syntax;
  read = record { answer = Err (fault.Syntax place); tells = tells; gives = refl };
  shows = refl;
}

pub deep_content : (k : Bool) (before : List Token) (e : Token) (place : Place) → TellsText {T = Table} Lists (entry k) before e (Err (fault.TooDeep place))
    → IsReadContent k before e (content.Unread place cause.TooDeep)
deep_content k before e place tells = record {
  source = unread place cause.TooDeep;
  read = record { answer = Err (fault.TooDeep place); tells = tells; gives = refl };
  shows = refl;
}

-- ---- all bytes

content_by : (k : Bool) (bytes : List ℕ) (ts : List Token) (e : Ends ts) (c : Content) → nat_lt most_bytes (length bytes) ≡ false → IsLexed bytes ts
    → IsReadContent k e.before e.end c → IsContent k (Some bytes) c
content_by k bytes ts e c few lexed read = record {
  source = read.source;
  is = subst (λ b. IsOfBytes b k bytes read.source) (sym few)
      (inr (record { before = e.before; end = e.end; lexed = subst (IsLexed bytes) e.split lexed; ends = e.ends; read = read.read }));
  shows = read.shows;
}

result_by : (k : Bool) (bytes : List ℕ) (ts : List Token) (e : Ends ts) (r : Result Content NoMemory) → nat_lt most_bytes (length bytes) ≡ false → IsLexed bytes ts
    → IfOk r (λ c. IsReadContent k e.before e.end c) → IfOk r (λ c. IsContent k (Some bytes) c)
result_by k bytes ts e (Ok c) few lexed h = content_by k bytes ts e c few lexed h
result_by k bytes ts e (Err x) few lexed h = tt

pub whole_content : (k j : Bool) (bytes : List ℕ) (ts us : List Token) (r : Result Content NoMemory) → k ≡ j → nat_lt most_bytes (length bytes) ≡ false → IsLexed bytes ts → us ≡ ts
    → ((before : List Token) (e : Token) → us ≡ before ++ e ∷ [] → e.what ≡ End → IfOk r (λ c. IsReadContent j before e c)) → IfOk r (λ c. IsContent k (Some bytes) c)
whole_content k j bytes ts us r same few lexed e h =
    let ends : Ends ts = ends_in_end _ _ _ _ _ lexed.1 in
    subst (λ b. IfOk r (λ c. IsContent b (Some bytes) c)) (sym same) (result_by j bytes ts ends r few lexed (h ends.before ends.end (e ∙ ends.split) ends.ends))

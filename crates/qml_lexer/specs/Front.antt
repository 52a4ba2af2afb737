-- What stands at the front of a text.
use Rattle.std.specs.Prelude.{ℕ, Bool, false, ◌&&◌, ◌==◌, List, [], ◌∷◌, Option, Some, None, Result, Ok, Err, if◌then◌else◌}
use Rattle.std.specs.Char.{is_digit}
use Rattle.qml_syntax.specs.declared.mark.Mark.{Mark}
use Rattle.qml_syntax.specs.declared.token.TokenKind.TheVariants as kind
use Rattle.qml_lexer.specs.declared.fault.LexCause.{LexCause}
use Rattle.qml_lexer.specs.declared.fault.LexCause.TheVariants as cause
use Rattle.qml_lexer.specs.Items.{Item}
use Rattle.qml_lexer.specs.Items as item
use Rattle.qml_lexer.specs.Characters.{begins, behind, is_blank, is_in_line, is_quote, is_start}
use Rattle.qml_lexer.specs.Marks.{mark}
use Rattle.qml_lexer.specs.Names.{name}
use Rattle.qml_lexer.specs.Numbers.{ReadsKind, number}
use Rattle.qml_lexer.specs.Texts.{ReadsText, body}

-- an item and what stands behind it, or why there is none
abbrev pub ReadsItem : Type 0
ReadsItem = Result (Item × List ℕ) LexCause

-- what stands behind `*/`; whether a `*` stands directly before the text
abbrev pub behind_comment : Bool → List ℕ → Option (List ℕ)
behind_comment star [] = None
behind_comment star (x ∷ xs) = if star && (x == 47) then Some xs else behind_comment (x == 42) xs

abbrev pub closed : Option (List ℕ) → ReadsItem
closed None = Err cause.OpenComment
closed (Some rest) = Ok (item.Gap, rest)

abbrev pub of_kind : ReadsKind → ReadsItem
of_kind (Ok p) = Ok (item.Token p.0, p.1)
of_kind (Err c) = Err c

abbrev pub of_text : ReadsText → ReadsItem
of_text (Ok p) = Ok (item.Token (kind.Text p.0), p.1)
of_text (Err c) = Err c

abbrev pub of_mark : Option (Mark × List ℕ) → ReadsItem
of_mark None = Err cause.Character
of_mark (Some p) = Ok (item.Token (kind.Mark p.0), p.1)

unfoldable pub marked : List ℕ → ReadsItem
marked xs = of_mark (mark xs)

unfoldable pub quoted : ℕ → List ℕ → ReadsItem
quoted q xs = of_text (body q xs)

unfoldable pub named : List ℕ → ReadsItem
named xs = of_kind (name xs)

unfoldable pub numbered : List ℕ → ReadsItem
numbered xs = of_kind (number xs)

abbrev pub commented : List ℕ → ReadsItem
commented [] = marked (47 ∷ [])
commented (x ∷ xs) = if x == 42 then closed (behind_comment false xs) else marked (47 ∷ x ∷ xs)

-- behind a slash
unfoldable pub slash : List ℕ → ReadsItem
slash xs = if begins (λ x. x == 47) xs then Ok (item.Gap, behind is_in_line xs) else commented xs

unfoldable pub front : List ℕ → ReadsItem
front [] = Err cause.Character
front (x ∷ xs) =
    if is_blank x then Ok (item.Gap, behind is_blank xs)
    else (if x == 47 then slash xs
    else (if is_quote x then quoted x xs
    else (if is_digit x 10 then numbered (x ∷ xs)
    else (if is_start x then named (x ∷ xs) else marked (x ∷ xs)))))

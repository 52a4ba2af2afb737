-- Scripts.
use Rattle.std.specs.Prelude.{ℕ, suc, ℤ, pos, neg_ℤ, ◌==◌, ◌||◌, nat_le, Bool, false, List, [], ◌∷◌, length, None, Some, if◌then◌else◌, codes}
use Rattle.std.specs.declared.option.Option.{Option}
use Rattle.std.specs.declared.result.Result.{Result}
use Rattle.std.specs.declared.result.Result.TheVariants.{Ok, Err}
use Rattle.std.specs.Option.{option_map}
use Rattle.std.specs.List.{list_all}
use Rattle.qml_model.specs.declared.text.Deed.{Deed}
use Rattle.qml_model.specs.declared.text.Deed.TheVariants.{Do, Print}
use Rattle.qml_model.specs.declared.text.ScriptLine.{ScriptLine}
use Rattle.first_form.specs.Blanks.{◌>>=◌, without_return, after_front}
use Rattle.first_form.specs.Names.{cell_of}
use Rattle.first_form.specs.Numbers.{number_of}
use Rattle.first_form.specs.Pieces.{Pieces, last, piece, cut_of, pieces_of}
use Rattle.first_form.specs.Values.{first_of}

-- a number, which may have a minus
abbrev pub signed_of : List ℕ → Option ℤ
signed_of [] = None
signed_of (b ∷ bs) = if b == 45 then option_map (λ n. neg_ℤ (pos n)) (number_of bs) else option_map pos (number_of (b ∷ bs))

-- `NAME = NUMBER`
abbrev pub assigned_in : List (List ℕ) → List ℕ → Option Deed
assigned_in names bytes = cut_of (32 ∷ []) bytes >>= λ c. cell_of names c.before >>= λ cell. after_front (codes "= ") c.after >>= λ number. option_map (Do cell) (signed_of number)

abbrev pub done_by : List (List ℕ) → List ℕ → Option Deed
done_by names line = after_front (codes "do ") line >>= assigned_in names

abbrev pub printed_by : List (List ℕ) → List ℕ → Option Deed
printed_by names line = after_front (codes "print ") line >>= λ name. option_map Print (cell_of names name)

-- what a line asks for
unfoldable pub deed_of : List (List ℕ) → List ℕ → Option Deed
deed_of names line = first_of (printed_by names line) (done_by names line)

abbrev pub is_comment : List ℕ → Bool
is_comment [] = false
is_comment (b ∷ bs) = b == 35

-- a space, a tab, a vertical tab or a form feed
abbrev pub is_blank : ℕ → Bool
is_blank b = (b == 32) || ((b == 9) || ((b == 11) || (b == 12)))

-- whether a line is left out
abbrev pub is_skipped : List ℕ → Bool
is_skipped line = is_comment line || list_all is_blank line

abbrev pub onto_lines : List ℕ → Deed → Result (List ScriptLine) ℕ → Result (List ScriptLine) ℕ
onto_lines line deed (Ok lines) = Ok (record { shown = line; deed = deed } ∷ lines)
onto_lines line deed (Err bad) = Err bad

abbrev pub with_deed : Option Deed → ℕ → List ℕ → Result (List ScriptLine) ℕ → Result (List ScriptLine) ℕ
with_deed None n line rest = Err n
with_deed (Some deed) n line rest = onto_lines line deed rest

-- the line of number n before the lines that follow it
abbrev pub with_line : List (List ℕ) → ℕ → List ℕ → Result (List ScriptLine) ℕ → Result (List ScriptLine) ℕ
with_line names n line rest = if is_skipped line then rest else with_deed (deed_of names line) n line rest

-- the lines from number n on, or the number of the first that is none
abbrev pub script_from : List (List ℕ) → ℕ → Pieces → Result (List ScriptLine) ℕ
script_from names n (last line) = with_line names n line (Ok [])
script_from names n (piece line mark rest) = with_line names n (without_return line) (script_from names (suc n) rest)

-- the script; one that is too large is refused as line 0
unfoldable pub script_of : List (List ℕ) → List ℕ → Result (List ScriptLine) ℕ
script_of names bytes = if nat_le (length bytes) 4194304 then script_from names 1 (pieces_of (10 ∷ []) bytes) else Err 0

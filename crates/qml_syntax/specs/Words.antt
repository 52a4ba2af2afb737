-- Which names are types, ids, words and paths of script files, and how members and imports end.
use Rattle.std.specs.Prelude.{◌≡◌, ℕ, ◌-◌, Bool, true, false, not, ◌&&◌, ◌||◌, nat_le, ◌==◌, ◌⊎◌, List, [], ◌∷◌, length, drop, Option, Some, None, codes}
use Rattle.std.specs.Str.{bytes_eq}
use Rattle.qml_syntax.specs.declared.token.TokenKind.{TokenKind}
use Rattle.qml_syntax.specs.declared.token.TokenKind.TheVariants as k
use Rattle.qml_syntax.specs.declared.mark.Mark.TheVariants as m
use Rattle.qml_syntax.specs.declared.token.Token.{Token}
use Rattle.qml_syntax.specs.Tree.{Units, Close, semi, auto}
use Rattle.qml_syntax.specs.Ends.{Sees}
use Rattle.qml_syntax.specs.Tree.{Names, Kind, kind_name, SignalPars}
use Rattle.qml_syntax.specs.declared.contextual.Adjective.{Adjective}
use Rattle.qml_syntax.specs.declared.contextual.Version.{Version}
use Rattle.qml_syntax.specs.declared.contextual.Adjective.TheVariants as adjective
use Rattle.qml_syntax.specs.declared.contextual.Version.TheVariants as version

-- ---- names

-- A to Z
abbrev pub is_upper : ℕ → Bool
is_upper c = nat_le 65 c && nat_le c 90

-- a to z or _
abbrev pub is_lower : ℕ → Bool
is_lower c = nat_le 97 c && nat_le c 122 || c == 95

-- the name of a type begins with A to Z
abbrev pub is_type : Units → Bool
is_type [] = false
is_type (c ∷ n) = is_upper c

-- an id begins with a to z or _
abbrev pub is_id : Units → Bool
is_id [] = false
is_id (c ∷ n) = is_lower c

-- the text of an import that names a script file
abbrev pub is_script : Units → Bool
is_script n = bytes_eq (drop (length n - 3) n) (codes ".js")

-- a path that is the name of a type: an object, and no group
abbrev pub is_type_path : Units → Names → Bool
is_type_path n [] = is_type n
is_type_path n (x ∷ []) = is_type x
is_type_path n (x ∷ y ∷ ns) = false

-- `id` alone is no path of a value
abbrev pub is_id_path : Units → Names → Bool
is_id_path n [] = bytes_eq n (codes "id")
is_id_path n (x ∷ ns) = false

-- ---- properties

-- a property may have a value, may be without one, and may be an alias in place of a property of the kind `alias`
abbrev pub may_be_bare : Adjective → Bool
may_be_bare adjective.ReadOnly = false
may_be_bare _ = true

abbrev pub is_alias : Adjective → Kind → Bool
is_alias adjective.ReadOnly q = false
is_alias _ (kind_name n p []) = bytes_eq n (codes "alias")
is_alias _ _ = false

abbrev pub adjective_of : Bool → Adjective
adjective_of true = adjective.Default
adjective_of false = adjective.Ordinary

-- ---- how members and imports end without a `;`: at `}`, or at a line end before a token that can't go on with them

-- what stands last
pub data Tail : Type 0 where
  whole : Tail  -- nothing goes on with it
  before_value : Tail
  before_dot : Tail
  before_brackets : Tail
  before_version : Tail
  before_as : Tail

abbrev pub is_as : TokenKind → Bool
is_as (k.Name n) = bytes_eq n (codes "as")
is_as _ = false

-- whether a token can go on; `;` does, as the end
abbrev pub continues : Tail → TokenKind → Bool
continues l (k.Mark m.Semicolon) = true
continues before_value (k.Mark m.Colon) = true
continues before_dot (k.Mark m.Dot) = true
continues before_brackets (k.Mark m.LeftParen) = true
continues before_version (k.Mark m.Dot) = true
continues before_version k.Version = true
continues before_version (k.Number n) = true
continues before_version (k.Name n) = is_as (k.Name n)
continues before_as (k.Name n) = is_as (k.Name n)
continues _ _ = false

abbrev pub tail_of_qualifier : Tail → Option Units → Tail
tail_of_qualifier l None = l
tail_of_qualifier l (Some q) = whole

abbrev pub tail_of_version : Version → Tail
tail_of_version version.Absent = before_version
tail_of_version _ = before_as

abbrev pub tail_of_target : Names → Tail
tail_of_target [] = before_dot
tail_of_target (x ∷ []) = before_dot
tail_of_target (x ∷ y ∷ ns) = whole

abbrev pub tail_of_signal : Option SignalPars → Tail
tail_of_signal None = before_brackets
tail_of_signal (Some ps) = whole

abbrev pub MayStop : Tail → List Token → Type 0
MayStop l [] = Unit {0}
MayStop l (t ∷ rest) = (t.what ≡ k.Mark m.RightBrace) ⊎ ((t.after_line ≡ true) × (continues l t.what ≡ false))

pub data ReadsEnd : Tail → Close → List Token → List Token → Type 0 where
  e_semi : {l : Tail} {a rest : List Token} → Sees (k.Mark m.Semicolon) a rest → ReadsEnd l semi a rest
  e_auto : {l : Tail} {rest : List Token} → MayStop l rest → ReadsEnd l auto rest rest

-- a text that names a script file has a qualifier
abbrev pub script_fits : Units → Option Units → Bool
script_fits n (Some q) = true
script_fits n None = not (is_script n)

abbrev pub at_most_two : Names → Bool
at_most_two ns = nat_le (length ns) 2

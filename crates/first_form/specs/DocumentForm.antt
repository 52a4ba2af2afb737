-- What text is a document of this form: its parts, one after another.
use Rattle.std.specs.Prelude.{◌≡◌, ◌≢◌, ◌⊎◌, ℕ, ◌≤◌, ℤ, pos, neg_ℤ, Bool, true, false, List, [], ◌∷◌, ◌++◌, length, sum_by, Some, slice_get, codes}
use Rattle.qml_model.specs.declared.content.Factor.{Factor}
use Rattle.qml_model.specs.declared.content.Factor.TheVariants.{Num, Cell}
use Rattle.qml_model.specs.declared.content.Product.{Product}
use Rattle.qml_model.specs.declared.content.Content.{Content}
use Rattle.qml_model.specs.declared.content.Content.TheVariants.{Plain, Sum}
use Rattle.first_form.specs.declared.members.Member.{Member}
use Rattle.first_form.specs.Forms.{IsSpaces, IsLineEnd, IsGap, IsPadded, IsNumber, IsCell}
use Rattle.first_form.specs.Names.{is_name}

-- a number, or the name of a cell
abbrev pub IsOperand : List (List ℕ) → Factor → List ℕ → Type 0
IsOperand names (Num z) bytes = (n : ℕ) × (z ≡ pos n) × IsNumber n bytes
IsOperand names (Cell c) bytes = (is_name bytes ≡ true) × IsCell names c bytes

-- operands with `*` between them
abbrev pub IsProduct : List (List ℕ) → List Factor → List ℕ → Type 0
IsProduct names [] bytes = ⊥
IsProduct names (f ∷ []) bytes = IsPadded (IsOperand names f) bytes
IsProduct names (f ∷ g ∷ fs) bytes = (left : List ℕ) × (right : List ℕ) × (bytes ≡ left ++ 42 ∷ right) × IsPadded (IsOperand names f) left × IsProduct names (g ∷ fs) right

-- `-` before a product that is subtracted, and `+` before one that is added
abbrev pub sign_of : Bool → ℕ
sign_of true = 45
sign_of false = 43

-- products, each but the first behind its sign
abbrev pub AreProducts : List (List ℕ) → List Product → List ℕ → Type 0
AreProducts names [] bytes = ⊥
AreProducts names (p ∷ []) bytes = IsProduct names p.factors bytes
AreProducts names (p ∷ q ∷ ps) bytes = (left : List ℕ) × (right : List ℕ) × (bytes ≡ left ++ sign_of q.minus ∷ right) × IsProduct names p.factors left × AreProducts names (q ∷ ps) right

-- the first product of a sum has no sign
abbrev pub IsSum : List (List ℕ) → List Product → List ℕ → Type 0
IsSum names [] bytes = ⊥
IsSum names (p ∷ ps) bytes = (p.minus ≡ false) × AreProducts names (p ∷ ps) bytes

abbrev pub operands : List Product → ℕ
operands products = sum_by (λ p. length p.factors) products

-- a number, or `-` and a number
abbrev pub IsPlain : ℤ → List ℕ → Type 0
IsPlain z bytes = ((n : ℕ) × (z ≡ pos n) × IsPadded (IsNumber n) bytes)
    ⊎ ((n : ℕ) × (z ≡ neg_ℤ (pos n)) × (front : List ℕ) × (rest : List ℕ) × (bytes ≡ front ++ 45 ∷ rest) × IsSpaces front × IsPadded (IsNumber n) rest)

-- a number with its sign, or else at most 1,000 names and numbers, joined
abbrev pub IsValue : List (List ℕ) → Content → List ℕ → Type 0
IsValue names (Plain z) bytes = IsPlain z bytes
IsValue names (Sum products) bytes = IsSum names products bytes × (operands products ≤ 1000) × ((z : ℤ) → IsPlain z bytes → ⊥)

-- one space or more
abbrev pub IsBreak : List ℕ → Type 0
IsBreak bytes = IsSpaces bytes × (bytes ≢ [])

-- `property int NAME`
pub record IsHead (name bytes : List ℕ) : Type 0 where
  pub front : List ℕ
  pub first : List ℕ
  pub second : List ℕ
  pub back : List ℕ
  pub spelled : bytes ≡ front ++ (codes "property" ++ (first ++ (codes "int" ++ (second ++ (name ++ back)))))
  pub front_is : IsSpaces front
  pub first_is : IsBreak first
  pub second_is : IsBreak second
  pub back_is : IsSpaces back

-- `property int NAME: VALUE`, with a name that is not declared before and a value of names that are
pub record IsMember (names : List (List ℕ)) (m : Member) (bytes : List ℕ) : Type 0 where
  pub head : List ℕ
  pub value : List ℕ
  pub spelled : bytes ≡ head ++ 58 ∷ value
  pub head_is : IsHead m.name head
  pub named : is_name m.name ≡ true
  pub new : (c : ℕ) → slice_get names c ≢ Some m.name
  pub value_is : IsValue names m.content value

abbrev pub IsEnd : List ℕ → Type 0
IsEnd bytes = (bytes ≡ 59 ∷ []) ⊎ IsLineEnd bytes

-- members, each ended by `;`, by a line end or by the end of the text, with empty lines between
pub data AreMembers : List (List ℕ) → List Member → List ℕ → Type 0 where
  no_more : (names : List (List ℕ)) (spaces : List ℕ) → IsSpaces spaces → AreMembers names [] spaces
  final : (names : List (List ℕ)) (m : Member) (bytes : List ℕ) → IsMember names m bytes → AreMembers names (m ∷ []) bytes
  empty_line : (names : List (List ℕ)) (ms : List Member) (spaces line_end rest : List ℕ) → IsSpaces spaces → IsLineEnd line_end → AreMembers names ms rest → AreMembers names ms (spaces ++ (line_end ++ rest))
  more : (names : List (List ℕ)) (m : Member) (ms : List Member) (bytes ending rest : List ℕ) → IsMember names m bytes → IsEnd ending → AreMembers (names ++ m.name ∷ []) ms rest → AreMembers names (m ∷ ms) (bytes ++ (ending ++ rest))

-- the head's line, the object's name, and its members in braces, with gaps between
pub record IsDocument (members : List Member) (bytes : List ℕ) : Type 0 where
  pub spaces : List ℕ
  pub line_end : List ℕ
  pub first : List ℕ
  pub second : List ℕ
  pub body : List ℕ
  pub last : List ℕ
  pub few : length bytes ≤ 4194304
  pub spelled : bytes ≡ codes "import QtQml 2.15" ++ (spaces ++ (line_end ++ (first ++ (codes "QtObject" ++ (second ++ 123 ∷ (body ++ 125 ∷ last))))))
  pub spaces_is : IsSpaces spaces
  pub line_end_is : IsLineEnd line_end
  pub first_is : IsGap first
  pub second_is : IsGap second
  pub body_is : AreMembers [] members body
  pub last_is : IsGap last

-- What the value of a property reads as.
use Rattle.std.specs.Prelude.{ℕ, ℤ, pos, neg_ℤ, ◌==◌, nat_lt, Bool, false, List, [], ◌∷◌, None, Some, if◌then◌else◌, count_by}
use Rattle.std.specs.declared.option.Option.{Option}
use Rattle.std.specs.Option.{option_map}
use Rattle.qml_model.specs.declared.content.Factor.{Factor}
use Rattle.qml_model.specs.declared.content.Factor.TheVariants.{Num, Cell}
use Rattle.qml_model.specs.declared.content.Product.{Product}
use Rattle.qml_model.specs.declared.content.Content.{Content}
use Rattle.qml_model.specs.declared.content.Content.TheVariants.{Plain, Sum}
use Rattle.first_form.specs.Blanks.{◌>>=◌, lone_word, after_spaces}
use Rattle.first_form.specs.Names.{cell_of}
use Rattle.first_form.specs.Numbers.{number_of}
use Rattle.first_form.specs.Pieces.{Pieces, last, piece, pieces_of, is_mark}

-- a number, or else the cell of a name
abbrev pub or_cell : Option ℕ → Option ℕ → Option Factor
or_cell (Some n) c = Some (Num (pos n))
or_cell None (Some c) = Some (Cell c)
or_cell None None = None

unfoldable pub factor_named : List (List ℕ) → List ℕ → Option Factor
factor_named names word = or_cell (number_of word) (cell_of names word)

abbrev pub operand_of : List (List ℕ) → List ℕ → Option Factor
operand_of names bytes = lone_word bytes >>= factor_named names

-- the operands between the `*`
abbrev pub factors_of : List (List ℕ) → Pieces → Option (List Factor)
factors_of names (last bytes) = option_map (λ f. f ∷ []) (operand_of names bytes)
factors_of names (piece bytes mark rest) = operand_of names bytes >>= λ f. option_map (λ fs. f ∷ fs) (factors_of names rest)

abbrev pub product_of : List (List ℕ) → Bool → List ℕ → Option Product
product_of names minus bytes = option_map (λ fs. record { minus = minus; factors = fs }) (factors_of names (pieces_of (42 ∷ []) bytes))

-- the products between the `+` and `-`, of which the first is subtracted where `minus` says so
abbrev pub products_of : List (List ℕ) → Bool → Pieces → Option (List Product)
products_of names minus (last bytes) = option_map (λ p. p ∷ []) (product_of names minus bytes)
products_of names minus (piece bytes mark rest) = product_of names minus bytes >>= λ p. option_map (λ ps. p ∷ ps) (products_of names (mark == 45) rest)

-- names and numbers joined by `+`, `-` and `*`, at most 1,000
abbrev pub sum_of : List (List ℕ) → List ℕ → Option (List Product)
sum_of names bytes = if nat_lt (count_by (is_mark (43 ∷ 45 ∷ 42 ∷ [])) bytes) 1000 then products_of names false (pieces_of (43 ∷ 45 ∷ []) bytes) else None

abbrev pub number_in : List ℕ → Option ℕ
number_in bytes = lone_word bytes >>= number_of

abbrev pub negative_in : List ℕ → Option ℤ
negative_in [] = None
negative_in (b ∷ bs) = if b == 45 then option_map (λ n. neg_ℤ (pos n)) (number_in bs) else None

abbrev pub first_of : {A : Type 0} → Option A → Option A → Option A
first_of None o = o
first_of (Some x) o = Some x

-- a number, or `-` and a number
abbrev pub plain_of : List ℕ → Option ℤ
plain_of bytes = first_of (option_map pos (number_in bytes)) (negative_in (after_spaces bytes))

unfoldable pub content_of : List (List ℕ) → List ℕ → Option Content
content_of names bytes = first_of (option_map Plain (plain_of bytes)) (option_map Sum (sum_of names bytes))

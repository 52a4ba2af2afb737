-- What holds of all that is read: numbers of at most 2 ^ 53, and cells that are declared before.
use Rattle.std.specs.Prelude.{◌≢◌, ℕ, suc, ◌^◌, ◌<◌, ◌≤◌, ℤ, unsigned_abs, List, [], ◌∷◌}
use Rattle.qml_model.specs.declared.content.Factor.{Factor}
use Rattle.qml_model.specs.declared.content.Factor.TheVariants.{Num, Cell}
use Rattle.qml_model.specs.declared.content.Product.{Product}
use Rattle.qml_model.specs.declared.content.Content.{Content}
use Rattle.qml_model.specs.declared.content.Content.TheVariants.{Plain, Sum}
use Rattle.qml_model.specs.declared.text.Deed.{Deed}
use Rattle.qml_model.specs.declared.text.Deed.TheVariants.{Do, Print}
use Rattle.qml_model.specs.declared.text.ScriptLine.{ScriptLine}
use Rattle.first_form.specs.declared.members.Member.{Member}

abbrev pub IsSmall : ℤ → Type 0
IsSmall z = unsigned_abs z ≤ 2 ^ 53

-- a small number, or a cell below n
abbrev pub IsFactorBelow : ℕ → Factor → Type 0
IsFactorBelow n (Num z) = IsSmall z
IsFactorBelow n (Cell c) = c < n

abbrev pub AreFactorsBelow : ℕ → List Factor → Type 0
AreFactorsBelow n [] = Unit {0}
AreFactorsBelow n (f ∷ fs) = IsFactorBelow n f × AreFactorsBelow n fs

abbrev pub AreProductsBelow : ℕ → List Product → Type 0
AreProductsBelow n [] = Unit {0}
AreProductsBelow n (p ∷ ps) = (p.factors ≢ []) × AreFactorsBelow n p.factors × AreProductsBelow n ps

-- a small number, or products of one factor or more, which read only cells below n
abbrev pub IsContentBelow : ℕ → Content → Type 0
IsContentBelow n (Plain z) = IsSmall z
IsContentBelow n (Sum ps) = (ps ≢ []) × AreProductsBelow n ps

-- each member, from cell n on, reads only cells before its own
abbrev pub AreInOrder : ℕ → List Member → Type 0
AreInOrder n [] = Unit {0}
AreInOrder n (m ∷ ms) = IsContentBelow n m.content × AreInOrder (suc n) ms

-- a small number for a cell below n, or such a cell
abbrev pub IsDeedBelow : ℕ → Deed → Type 0
IsDeedBelow n (Do c z) = (c < n) × IsSmall z
IsDeedBelow n (Print c) = c < n

abbrev pub AreLinesBelow : ℕ → List ScriptLine → Type 0
AreLinesBelow n [] = Unit {0}
AreLinesBelow n (line ∷ lines) = IsDeedBelow n line.deed × AreLinesBelow n lines

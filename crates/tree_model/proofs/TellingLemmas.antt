-- What is told is told in one way, and of the same cells nothing is told.
use Rattle.std.proofs.Common.{◌≡◌, ◌≢◌, ◌∙◌, ap, sym, refl, ℕ, suc, ◌⊎◌, inl, inr, true, false, List, [], ◌∷◌}
use Rattle.tree_model.specs.Systems.{Outcomes}
use Rattle.tree_model.specs.Settling.{taking_all}
use Rattle.tree_model.specs.declared.cells.Cell.{Cell}
use Rattle.qml_base.specs.declared.numbers.CellNo.{CellNo}
use Rattle.tree_model.specs.Telling.{Changes, Reports, none, same, other, no_report, kept}

pub no_changes : (read : Outcomes) (k : ℕ) (cells : List Cell) → Changes (taking_all read k cells) (taking_all read k cells) []
no_changes read k [] = none
no_changes read k (x ∷ xs) = same refl refl (no_changes read (suc k) xs)

pub no_reports : (cells : List Cell) → Reports cells cells []
no_reports [] = no_report
no_reports (x ∷ xs) = kept refl (no_reports xs)

not_both : (b a : Cell) → b.noted ≡ false → b.held ≡ a.held → (b.noted ≡ true) ⊎ (b.held ≢ a.held) → ⊥
not_both b a quiet e (inl t) = let no : true ≡ false = sym t ∙ quiet in cc
not_both b a quiet e (inr f) = f e

pub one_list : (before after : List Cell) (cs ds : List CellNo) → Changes before after cs → Changes before after ds → cs ≡ ds
one_list [] [] [] [] none none = refl
one_list [] [] [] (d ∷ ds) h k = elim k [ ]
one_list [] [] (c ∷ cs) ds h k = elim h [ ]
one_list [] (a ∷ ns) cs ds h k = elim h [ ]
one_list (b ∷ bs) [] cs ds h k = elim h [ ]
one_list (b ∷ bs) (a ∷ ns) cs ds (same m e h) (same n f k) = one_list bs ns cs ds h k
one_list (b ∷ bs) (a ∷ ns) cs (d ∷ ds) (same m e h) (other f k) = absurd (not_both b a m e f)
one_list (b ∷ bs) (a ∷ ns) (c ∷ cs) ds (other e h) (same n f k) = absurd (not_both b a n f e)
one_list (b ∷ bs) (a ∷ ns) (c ∷ cs) (d ∷ ds) (other {cs = xs} e h) (other {cs = ys} f k) = ap (λ rest. a.no ∷ rest) (one_list bs ns xs ys h k)

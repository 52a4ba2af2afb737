-- Answers of evaluations that read a cell first.
use Rattle.std.proofs.Common.{◌≡◌, ◌∙◌, ap, refl, suc, length, List, [], ◌∷◌, ◌++◌, append_assoc, Some, None}
use Rattle.qml_base.specs.declared.numbers.CellNo.{CellNo}
use Rattle.qml_value.specs.declared.value.Value.{Value, List as list_value, List', Row_of-Value, end_of-Value, more_of-Value, items-the_row-Value, items_hidden-the_row-Value-0}
use mathlib.Core.Former.{Count}
use Rattle.tree_model.specs.Rules.{rows_inside, rows_held}
use Rattle.evaluation.specs.declared.came.Evaluated.{Evaluated}
use Rattle.evaluation.specs.declared.came.Evaluated.TheVariants as answer
use Rattle.evaluation.specs.Ask.{Ask, Names, reads}
use Rattle.evaluation.specs.Evaluating.{is, looped, past}
use Rattle.evaluation.specs.Hearing.{Views, Heard, noted, heard, Answers}

noted_answer : (h : Heard) (c : CellNo) (old new : List CellNo) (e : Evaluated) → Answers h (old ++ c ∷ []) new e → Answers (noted c h) old new e
noted_answer h c old new (answer.Value v) k = (k.0, k.1 ∙ append_assoc old (c ∷ []) h.reads)
noted_answer h c old new (answer.Threw why) k = (k.0, k.1 ∙ append_assoc old (c ∷ []) h.reads)
noted_answer h c old new answer.Loop k = (k.0, k.1 ∙ append_assoc old (c ∷ []) h.reads)
noted_answer h c old new answer.Past k = (k.0, k.1 ∙ append_assoc old (c ∷ []) h.reads)
noted_answer h c old new (answer.Need d) k = (k.0, k.1 ∙ append_assoc old (c ∷ []) h.reads)
noted_answer h c old new answer.NoMemory k = tt

-- behind a cell that gives a value, the answer of what follows is the answer
pub answers_behind : (names : Names) (view : Views) (c : CellNo) (go : Value → Ask) (v : Value) (old mid new : List CellNo) (e : Evaluated) → view c ≡ Some (is v) → mid ≡ old ++ c ∷ [] → Answers (heard names view (go v)) mid new e → Answers (heard names view (reads c go)) old new e
answers_behind names view c go v old mid new e seen is_mid k =
    rw seen (noted_answer (heard names view (go v)) c old new e (rw (← is_mid) k))

-- where it gives none, the answer is that
pub ends_looped : (names : Names) (view : Views) (c : CellNo) (go : Value → Ask) (old new : List CellNo) → view c ≡ Some looped → new ≡ old ++ c ∷ [] → Answers (heard names view (reads c go)) old new answer.Loop
ends_looped names view c go old new seen is_new = rw seen (refl, is_new)

pub ends_past : (names : Names) (view : Views) (c : CellNo) (go : Value → Ask) (old new : List CellNo) → view c ≡ Some past → new ≡ old ++ c ∷ [] → Answers (heard names view (reads c go)) old new answer.Past
ends_past names view c go old new seen is_new = rw seen (refl, is_new)

pub ends_unready : (names : Names) (view : Views) (c : CellNo) (go : Value → Ask) (old new : List CellNo) → view c ≡ None → new ≡ old ++ c ∷ [] → Answers (heard names view (reads c go)) old new (answer.Need c)
ends_unready names view c go old new seen is_new = rw seen (refl, is_new)

-- a list holds as many rows as it has elements
abbrev row_of : Value → (n : Count) × Row_of-Value n
row_of (List' _ row) = (_, row)
row_of _ = (_, end_of-Value)

rows_are : (n : _) (row : Row_of-Value n) → rows_inside row ≡ length (items-the_row-Value n row)
rows_are n end_of-Value = refl
rows_are n (more_of-Value v rest) = ap suc (rows_are _ rest)

pub rows-list : (xs : List Value) → rows_held (list_value xs) ≡ length xs
rows-list xs =
    let row = row_of (list_value xs) in
    rows_are row.0 row.1 ∙ ap length (items_hidden-the_row-Value-0 xs)

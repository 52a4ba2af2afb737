-- What is read is within bounds.
use Rattle.std.proofs.Common.{◌≡◌, ◌≢◌, ◌∙◌, ap, sym, refl, subst, ℕ, suc, zero, ◌^◌, ◌<◌, ◌≤◌, arith, add-one, inl, inr, ℤ, pos, neg_ℤ, List, [], ◌∷◌, ◌++◌, length, slice_get, None, Some, IfOk, IfSome}
use Rattle.std.specs.declared.option.Option.{Option}
use Rattle.std.specs.declared.result.Result.{Result}
use Rattle.std.specs.declared.result.Result.TheVariants.{Ok, Err}
use Rattle.std.specs.declared.alloc.AllocError.{AllocError}
use Rattle.std.specs.declared.alloc.Global.{Global}
use Rattle.std.specs.declared.vec.Vec.{Vec}
use Rattle.std.proofs.lemmas.List.{length-append}
use Rattle.qml_model.specs.declared.content.Factor.{Factor}
use Rattle.qml_model.specs.declared.content.Factor.TheVariants.{Num, Cell}
use Rattle.qml_model.specs.declared.content.Product.{Product}
use Rattle.qml_model.specs.declared.content.Content.{Content}
use Rattle.qml_model.specs.declared.content.Content.TheVariants.{Plain, Sum}
use Rattle.qml_model.specs.declared.text.Deed.{Deed}
use Rattle.qml_model.specs.declared.text.Deed.TheVariants.{Do, Print}
use Rattle.qml_model.specs.declared.text.ScriptLine.{ScriptLine}
use Rattle.first_form.specs.declared.members.Member.{Member}
use Rattle.first_form.specs.Bounds.{IsSmall, IsFactorBelow, AreFactorsBelow, AreProductsBelow, IsContentBelow, AreInOrder, IsDeedBelow, AreLinesBelow}
use Rattle.first_form.specs.Document.{names_of, object_below}
use Rattle.first_form.specs.DocumentForm.{IsOperand, IsProduct, AreProducts, IsPlain, IsValue, AreMembers, no_more, final, empty_line, more}
use Rattle.first_form.specs.Forms.{IsPadded}
use Rattle.first_form.specs.Pieces.{pieces_of}
use Rattle.first_form.specs.Script.{script_from}
use Rattle.first_form.specs.ScriptForm.{IsSigned, Asks, AsksAll}
use Rattle.first_form.specs.Steps.{GivesLines}
use Rattle.first_form.proofs.DocumentLemmas.{below_found}
use Rattle.first_form.proofs.ScriptLemmas.{texts_of, script_from-texts, ok_found}

there : (names : List (List ℕ)) (c : ℕ) (w : List ℕ) → slice_get names c ≡ Some w → c < length names
there [] c w e = absurd (cc)
there (name ∷ names) zero w e = omega arith
there (name ∷ names) (suc c) w e = let rest : c < length names = there names c w e in omega arith

negative_small : (n : ℕ) → n ≤ 2 ^ 53 → IsSmall (neg_ℤ (pos n))
negative_small zero h = h
negative_small (suc n) h = h

small : (z : ℤ) (n : ℕ) → z ≡ pos n → n ≤ 2 ^ 53 → IsSmall z
small z n is h = subst IsSmall (sym is) h

plain_small : (z : ℤ) (bytes : List ℕ) → IsPlain z bytes → IsSmall z
plain_small z bytes (inl (n, is, (front, text, back, spelled, before, number, behind))) = small z n is number.1
plain_small z bytes (inr (n, is, front, rest, spelled, spaces, (before, text, back, at, blank, number, behind))) = subst IsSmall (sym is) (negative_small n number.1)

operand_below : (names : List (List ℕ)) (f : Factor) (bytes : List ℕ) → IsOperand names f bytes → IsFactorBelow (length names) f
operand_below names (Num z) bytes (n, is, number) = small z n is number.1
operand_below names (Cell c) bytes (named, cell) = there names c bytes cell.0

padded_below : (names : List (List ℕ)) (f : Factor) (bytes : List ℕ) → IsPadded (IsOperand names f) bytes → IsFactorBelow (length names) f
padded_below names f bytes (front, text, back, spelled, before, is, behind) = operand_below names f text is

product_below : (names : List (List ℕ)) (fs : List Factor) (bytes : List ℕ) → IsProduct names fs bytes → (fs ≢ []) × AreFactorsBelow (length names) fs
product_below names [] bytes is = absurd is
product_below names (f ∷ []) bytes is = ((λ e. cc), (padded_below names f bytes is, tt))
product_below names (f ∷ g ∷ fs) bytes (left, right, spelled, is, rest) = ((λ e. cc), (padded_below names f left is, (product_below names (g ∷ fs) right rest).1))

products_below : (names : List (List ℕ)) (ps : List Product) (bytes : List ℕ) → AreProducts names ps bytes → AreProductsBelow (length names) ps
products_below names [] bytes is = absurd is
products_below names (p ∷ []) bytes is = let it = product_below names p.factors bytes is in (it.0, it.1, tt)
products_below names (p ∷ q ∷ ps) bytes (left, right, spelled, is, rest) = let it = product_below names p.factors left is in (it.0, it.1, products_below names (q ∷ ps) right rest)

value_below : (names : List (List ℕ)) (content : Content) (bytes : List ℕ) → IsValue names content bytes → IsContentBelow (length names) content
value_below names (Plain z) bytes is = plain_small z bytes is
value_below names (Sum []) bytes (is, few, never) = absurd is
value_below names (Sum (p ∷ ps)) bytes (is, few, never) = ((λ e. cc), products_below names (p ∷ ps) bytes is.1)

members_in_order : (names : List (List ℕ)) (ms : List Member) (bytes : List ℕ) → AreMembers names ms bytes → AreInOrder (length names) ms
members_in_order _ _ _ (no_more names spaces h) = tt
members_in_order _ _ _ (final names m line is) = (value_below names m.content is.value is.value_is, tt)
members_in_order _ _ _ (empty_line names ms spaces line_end rest h e are) = members_in_order names ms rest are
members_in_order _ _ _ (more names m ms line ending rest is e are) =
    let one : length (names ++ m.name ∷ []) ≡ suc (length names) = length-append names (m.name ∷ []) ∙ add-one (length names) in
    (value_below names m.content is.value is.value_is, subst (λ n. AreInOrder n ms) one (members_in_order (names ++ m.name ∷ []) ms rest are))

by_found : (bytes : List ℕ) (o : Option (List Member)) → o ≡ object_below bytes → IfSome o (AreInOrder 0)
by_found bytes None e = tt
by_found bytes (Some ms) e = let below = below_found bytes ms (sym e) in members_in_order [] ms below.body below.body_is

pub in_order : (bytes : List ℕ) (r : Result (Option (List Member)) AllocError) → IfOk r (λ found. found ≡ object_below bytes) → IfOk r (λ found. IfSome found (AreInOrder 0))
in_order bytes (Ok found) e = by_found bytes found e
in_order bytes (Err x) e = tt

-- ---- scripts
signed_small : (z : ℤ) (bytes : List ℕ) → IsSigned z bytes → IsSmall z
signed_small z bytes (inl (n, is, number)) = small z n is number.1
signed_small z bytes (inr (n, is, rest, spelled, number)) = subst IsSmall (sym is) (negative_small n number.1)

deed_below : (names : List (List ℕ)) (deed : Deed) (line : List ℕ) → Asks names deed line → IsDeedBelow (length names) deed
deed_below names (Do c z) line (name, number, spelled, lacks, cell, signed) = (there names c name cell.0, signed_small z number signed)
deed_below names (Print c) line (name, spelled, cell) = there names c name cell.0

lines_below : (names : List (List ℕ)) (lines : List (List ℕ)) (read : List ScriptLine) → AsksAll names read lines → AreLinesBelow (length names) read
lines_below names [] read is = subst (AreLinesBelow (length names)) (sym is) tt
lines_below names (line ∷ lines) read (inl (f, rest)) = lines_below names lines read rest
lines_below names (line ∷ lines) read (inr (f, deed, others, same, asks, rest)) = subst (AreLinesBelow (length names)) (sym same) (deed_below names deed line asks, lines_below names lines others rest)

length-names_of : (ms : List Member) → length (names_of ms) ≡ length ms
length-names_of [] = refl
length-names_of (m ∷ ms) = ap suc (length-names_of ms)

by_read : (members : List Member) (bytes : List ℕ) (read : Result (Vec ScriptLine Global) ℕ) → GivesLines read (script_from (names_of members) 1 (pieces_of (10 ∷ []) bytes)) → IfOk read (λ lines. AreLinesBelow (length members) lines.items)
by_read members bytes (Ok lines) e =
    subst (λ n. AreLinesBelow n lines.items) (length-names_of members)
    (lines_below (names_of members) (texts_of (pieces_of (10 ∷ []) bytes)) lines.items (ok_found (names_of members) (texts_of (pieces_of (10 ∷ []) bytes)) 1 lines.items (sym (script_from-texts (names_of members) 1 (pieces_of (10 ∷ []) bytes)) ∙ e)))
by_read members bytes (Err n) e = tt

pub cells_below : (members : List Member) (bytes : List ℕ) (r : Result (Result (Vec ScriptLine Global) ℕ) AllocError) → IfOk r (λ read. GivesLines read (script_from (names_of members) 1 (pieces_of (10 ∷ []) bytes)))
    → IfOk r (λ read. IfOk read (λ lines. AreLinesBelow (length members) lines.items))
cells_below members bytes (Ok read) e = by_read members bytes read e
cells_below members bytes (Err x) e = tt

-- How many cells documents declare, in whichever order they are gone through.
use Rattle.std.proofs.Common.{◌≡◌, ◌∙◌, ap, sym, refl, ℕ, ◌+◌, arith, List, [], ◌∷◌, ◌++◌, length, reverse}
use Rattle.std.proofs.lemmas.List.{length-append, reverse-append, reverse-reverse}
use Rattle.std.proofs.lemmas.Grind.{flat_map-append}
use Rattle.std.specs.List.{flat_map}
use Rattle.unit_rows.specs.declared.names.CellRow.{CellRow}
use Rattle.instance_plans.specs.Numbers.{AllRows, row_at}
use Rattle.instance_shapes.specs.Told.{cells_of_documents}

module _ (units : AllRows) where
  abbrev cells_in : ℕ → List CellRow
  cells_in u = (row_at units u 0).cells

  one_more : (a : ℕ) (xs ys : List CellRow) → length ys ≡ a → length (xs ++ ys) ≡ length xs + a
  one_more a xs ys e = length-append xs ys ∙ ap (λ n. length xs + n) e

  in_order : (ds : List ℕ) → length (flat_map cells_in ds) ≡ cells_of_documents units ds
  in_order [] = refl
  in_order (d ∷ ds) = one_more (cells_of_documents units ds) (cells_in d) (flat_map cells_in ds) (in_order ds)

  swapped : (a b : ℕ) → a + b ≡ b + a
  swapped a b = omega arith

  last_one : (d : ℕ) → length (flat_map cells_in (d ∷ [])) ≡ length (cells_in d)
  last_one d = in_order (d ∷ []) ∙ omega arith

  turned : (ds : List ℕ) → length (flat_map cells_in (reverse ds)) ≡ cells_of_documents units ds
  turned [] = refl
  turned (d ∷ ds) =
      ap (λ xs. length (flat_map cells_in xs)) (reverse-append (d ∷ []) ds)
      ∙ ap length (flat_map-append cells_in (reverse ds) (d ∷ []))
      ∙ length-append (flat_map cells_in (reverse ds)) (flat_map cells_in (d ∷ []))
      ∙ ap (λ n. n + length (flat_map cells_in (d ∷ []))) (turned ds)
      ∙ ap (λ n. cells_of_documents units ds + n) (last_one d)
      ∙ swapped (cells_of_documents units ds) (length (cells_in d))

-- with what is known of the documents that were gone through
pub counted : (units : AllRows) (ds documents : List ℕ) → reverse ds ≡ documents → cells_of_documents units ds ≡ length (flat_map (λ u. (row_at units u 0).cells) documents)
counted units ds documents e = sym (turned units ds) ∙ ap (λ xs. length (flat_map (λ u. (row_at units u 0).cells) xs)) e

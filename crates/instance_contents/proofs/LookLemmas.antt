-- What is given for a cell, and the places in lists that loops walk.
use Rattle.std.proofs.Common.{◌≡◌, ◌∙◌, ap, sym, refl, ℕ, zero, suc, ◌+◌, ◌<◌, List, [], ◌∷◌, ◌++◌, drop, length, get_or, add-one, Option, Some, None}
use Rattle.std.proofs.Math.Seq.{drop-cons}
use Rattle.std.specs.List.{slice_get}
use Rattle.std.specs.Option.{option_map, option_or}
use Rattle.tree_model.specs.declared.cells.Content.{Content as TreeContent}
use Rattle.instance_plans.specs.Numbers.{cell_no}
use Rattle.instance_plans.specs.Contents.{Content, anonymous}
use Rattle.instance_plans.specs.Treed.{content_made}
use Rattle.pair_table.specs.Pairs.{under, each_put}
use Rattle.pair_table.proofs.EachLemmas.{each_append}
use Rattle.instance_contents.specs.declared.given.Source.{Source}
use Rattle.instance_contents.specs.declared.given.Given.{Given}
use Rattle.instance_contents.specs.declared.tables.Tables.{Tables}
use Rattle.instance_plans.specs.declared.planned.PlannedInstance.{PlannedInstance}
use Rattle.instance_contents.specs.Filling.{numbers_of, numbers_from}
use Rattle.instance_contents.specs.Tables.{rows_in, plan_in}
use Rattle.instance_contents.specs.Sources.{Sources, content_in, given_all, source_content, state_name, sources_of_object, sources_of_instance, sources_from, entry_namings, namings, Tells}
use Rattle.instance_contents.proofs.SourceLemmas.{given_is}
use Rattle.instance_contents.proofs.StateLemmas.{anonymous_is}

pub given_here : (t : Tables) (g : Given) (n p : ℕ) (s : Source) (x : TreeContent) → Tells t g → Some s ≡ under g.sources (n, p) → x ≡ content_made (source_content t s n)
    → Some x ≡ option_map content_made (content_in t n p)
given_here t g n p s x h e is =
    ap (λ (y : TreeContent). Some y) is
    ∙ ap (λ (o : Option Content). option_map content_made (option_or o (anonymous (rows_in t) (plan_in t) (given_all t) (cell_no n p))))
    (ap (option_map (λ (r : Source). source_content t r n)) e ∙ given_is t g h n p)

mapped_twice : (o : Option ℕ) → option_map content_made (option_map state_name o) ≡ option_map (λ i. content_made (state_name i)) o
mapped_twice None = refl
mapped_twice (Some i) = refl

pub named_here : (t : Tables) (g : Given) (n p : ℕ) (x : Option TreeContent) → Tells t g → None ≡ under g.sources (n, p) → x ≡ option_map (λ i. content_made (state_name i)) (under g.names (n, p))
    → x ≡ option_map content_made (content_in t n p)
named_here t g n p x h e is =
    is ∙ sym (mapped_twice (under g.names (n, p)))
    ∙ ap (option_map content_made) (anonymous_is t g h n p)
    ∙ ap (λ (o : Option Content). option_map content_made (option_or o (anonymous (rows_in t) (plan_in t) (given_all t) (cell_no n p))))
    (ap (option_map (λ (r : Source). source_content t r n)) e ∙ given_is t g h n p)

-- ---- places in lists

module _ {A : Type 0} where
  pub item_at : (i : ℕ) (xs : List A) (x : A) → x ≡ get_or xs i x → i < length xs → drop i xs ≡ x ∷ drop (i + 1) xs
  item_at i xs x is less = drop-cons xs i x less ∙ ap (λ (y : A). y ∷ drop (suc i) xs) (sym is) ∙ ap (λ m. x ∷ drop m xs) (sym (add-one i))

  -- what is told of one place, and of those behind it
  parted : {B : Type 0} (f : List A → List B) (g : Option A → List B) → (f [] ≡ g None ++ f []) → ((x : A) (xs : List A) → f (x ∷ xs) ≡ g (Some x) ++ f xs)
      → (i : ℕ) (xs : List A) → f (drop i xs) ≡ g (slice_get xs i) ++ f (drop (suc i) xs)
  parted f g none some zero [] = none
  parted f g none some (suc i) [] = none
  parted f g none some zero (x ∷ xs) = some x xs
  parted f g none some (suc i) (x ∷ xs) = parted f g none some i xs

  pub parted_here : {B : Type 0} (f : List A → List B) (g : Option A → List B) → (f [] ≡ g None ++ f []) → ((x : A) (xs : List A) → f (x ∷ xs) ≡ g (Some x) ++ f xs)
      → (i : ℕ) (xs : List A) → f (drop i xs) ≡ g (slice_get xs i) ++ f (drop (i + 1) xs)
  parted_here f g none some i xs = parted f g none some i xs ∙ ap (λ m. g (slice_get xs i) ++ f (drop m xs)) (sym (add-one i))

pub namings_next : (t : Tables) (rows : Sources) (i : ℕ) (before after : List ((ℕ × ℕ) × ℕ)) → after ≡ each_put before (entry_namings t rows (slice_get rows i))
    → each_put after (namings t rows (drop (i + 1) rows)) ≡ each_put before (namings t rows (drop i rows))
namings_next t rows i before after e =
    ap (λ (ns : List ((ℕ × ℕ) × ℕ)). each_put ns (namings t rows (drop (i + 1) rows))) e
    ∙ sym (each_append before (entry_namings t rows (slice_get rows i)) (namings t rows (drop (i + 1) rows)))
    ∙ ap (each_put before) (sym (parted_here (namings t rows) (entry_namings t rows) refl (λ x xs. refl) i rows))

pub numbers_at : (i : ℕ) (xs : List ℕ) → i < length xs → drop i xs ≡ get_or xs i 0 ∷ drop (i + 1) xs
numbers_at i xs less = drop-cons xs i 0 less ∙ ap (λ m. get_or xs i 0 ∷ drop m xs) (sym (add-one i))

pub numbers_more : (k : ℕ) (s : PlannedInstance) (rest : List PlannedInstance) (before after : List ((ℕ × ℕ) × ℕ)) → after ≡ each_put before (numbers_of k s.objects)
    → each_put after (numbers_from (k + 1) rest) ≡ each_put before (numbers_from k (s ∷ rest))
numbers_more k s rest before after e =
    ap (λ (ns : List ((ℕ × ℕ) × ℕ)). each_put ns (numbers_from (k + 1) rest)) e
    ∙ sym (each_append before (numbers_of k s.objects) (numbers_from (k + 1) rest))
    ∙ ap (λ m. each_put before (numbers_of k s.objects ++ numbers_from m rest)) (add-one k)

pub sources_more : (t : Tables) (k : ℕ) (s : PlannedInstance) (rest : List PlannedInstance) (before after : Sources) → after ≡ each_put before (sources_of_instance t k s s.objects)
    → each_put after (sources_from t (k + 1) rest) ≡ each_put before (sources_from t k (s ∷ rest))
sources_more t k s rest before after e =
    ap (λ (xs : Sources). each_put xs (sources_from t (k + 1) rest)) e
    ∙ sym (each_append before (sources_of_instance t k s s.objects) (sources_from t (k + 1) rest))
    ∙ ap (λ m. each_put before (sources_of_instance t k s s.objects ++ sources_from t m rest)) (add-one k)

pub objects_more : (t : Tables) (k : ℕ) (s : PlannedInstance) (objects : List (ℕ × ℕ)) (i : ℕ) (before after : Sources) → i < length objects
    → after ≡ each_put before (sources_of_object t k s (get_or objects i (0, 0)))
    → each_put after (sources_of_instance t k s (drop (i + 1) objects)) ≡ each_put before (sources_of_instance t k s (drop i objects))
objects_more t k s objects i before after less e =
    let at = get_or objects i (0, 0) in
    ap (λ (xs : Sources). each_put xs (sources_of_instance t k s (drop (i + 1) objects))) e
    ∙ sym (each_append before (sources_of_object t k s at) (sources_of_instance t k s (drop (i + 1) objects)))
    ∙ ap (λ m. each_put before (sources_of_object t k s at ++ sources_of_instance t k s (drop m objects))) (add-one i)
    ∙ ap (λ os. each_put before (sources_of_instance t k s os)) (sym (drop-cons objects i (0, 0) less))

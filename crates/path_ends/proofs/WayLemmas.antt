-- Ways to objects, and through them.
use Rattle.std.proofs.Common.{◌≡◌, ◌∙◌, ap, sym, refl, ℕ, Bool, true, false, List, [], ◌∷◌, ◌++◌, Option, Some, None}
use Rattle.std.specs.Prelude.{nat_eq, if◌then◌else◌}
use Rattle.std.specs.Option.{option_map}
use Rattle.std.proofs.lemmas.List.{append-nil}
use Rattle.program_names.specs.PathMeanings.{Way as AWay, SeenObject as ASeen, way_to, holder_in}
use Rattle.path_ends.specs.declared.ends.Way.{Way}
use Rattle.path_ends.specs.declared.ends.SeenObject.{SeenObject}
use Rattle.path_ends.specs.Said.{way_of, seen_of}
use Rattle.path_ends.specs.Ends.{hop_to, way_through}

abbrev pub a_way : ℕ → List (ℕ × ℕ) → AWay
a_way b hops = record { base = b; hops = hops }

abbrev pub way_in : Option AWay → ℕ → ℕ → AWay
way_in None d o = a_way o []
way_in (Some h) d o = if nat_eq o 0 then h else a_way h.base (h.hops ++ (d, o) ∷ [])

pub inside : (h : AWay) (d o : ℕ) → a_way h.base (h.hops ++ hop_to d o) ≡ way_in (Some h) d o
inside h d o = by_test (nat_eq o 0)
  where
    by_test : (b : Bool) → a_way h.base (h.hops ++ (if b then [] else (d, o) ∷ [])) ≡ (if b then h else a_way h.base (h.hops ++ (d, o) ∷ []))
    by_test true = ap (a_way h.base) (append-nil h.hops)
    by_test false = refl

to_so : (s : ASeen) → way_to s ≡ way_in s.holder s.document s.object
to_so s = refl

pub way_here : (s : SeenObject) (w : Way) → s.holder ≡ None → w.base ≡ s.object → w.hops.items ≡ [] → way_of w ≡ way_to (seen_of s)
way_here s w h b e =
    ap (λ n. a_way n w.hops.items) b ∙ ap (a_way s.object) e ∙ sym (ap (λ x. way_in (option_map way_of x) s.document s.object) h)

pub way_inside : (s : SeenObject) (h w : Way) (hops : List (ℕ × ℕ)) → s.holder ≡ Some h → hops ≡ h.hops.items ++ hop_to s.document s.object → w.base ≡ h.base → w.hops.items ≡ hops
    → way_of w ≡ way_to (seen_of s)
way_inside s h w hops e i b g =
    ap (λ n. a_way n w.hops.items) b ∙ ap (a_way h.base) (g ∙ i) ∙ inside (way_of h) s.document s.object ∙
    sym (ap (λ x. way_in (option_map way_of x) s.document s.object) e)

pub other_holder : (s : SeenObject) (w : Way) (d : ℕ) → nat_eq d s.document ≡ false → way_of w ≡ way_to (seen_of s) → Some (way_of w) ≡ holder_in (seen_of s) d
other_holder s w d n e = ap Some e ∙ sym (ap (λ b. if b then option_map way_of s.holder else Some (way_to (seen_of s))) n)

pub through_none : (holder : Option Way) (d : ℕ) (way w : Way) → holder ≡ None → way_of w ≡ way_of way → way_of w ≡ way_through (option_map way_of holder) d (way_of way)
through_none holder d way w h e = e ∙ sym (ap (λ x. way_through (option_map way_of x) d (way_of way)) h)

pub through_some : (holder : Option Way) (d : ℕ) (h way w : Way) (hops : List (ℕ × ℕ)) → holder ≡ Some h → hops ≡ h.hops.items ++ hop_to d way.base → w.base ≡ h.base
    → w.hops.items ≡ hops ++ way.hops.items → way_of w ≡ way_through (option_map way_of holder) d (way_of way)
through_some holder d h way w hops e i b g =
    ap (λ n. a_way n w.hops.items) b ∙ ap (a_way h.base) (g ∙ ap (λ xs. xs ++ way.hops.items) i) ∙
    sym (ap (λ x. way_through (option_map way_of x) d (way_of way)) e)

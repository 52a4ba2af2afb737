-- The root of a tree is the text that it is.
use Rattle.std.proofs.Common.{◌≡◌, ◌≢◌, ◌∙◌, ap, sym, subst, ℕ, ◌+◌, ◌<◌, nat_eq, length, ltb, true, false, refl, arith, Some, List, map}
use Rattle.js_locals.specs.Laid.{laid, name_of}
use Rattle.eval_tests.specs.declared.plain.Function.{Function as Own}
use Rattle.std.proofs.lemmas.Bool.Decides.{nat_tests}
use Rattle.qml_syntax.specs.Tree.{Whole}
use Rattle.qml_syntax.specs.Nodes.{Table}
use Rattle.qml_syntax.specs.Listed.{listed_whole}
use Rattle.qml_syntax.specs.Opened.{item_at, root_of, whole_in, IsListing}
use Rattle.qml_syntax.specs.Places.{part_at}
use Rattle.js_locals.specs.Texts.{StandsAs}
use Rattle.js_frames.proofs.StartLemmas.{stands_by_node}
use Rattle.qml_syntax.proofs.RootLemmas.{whole_found}
use Rattle.eval_tests.specs.Plain.{text_or_none, text_in, table_at, function_at}

inside : (t : Table) (r : ℕ) → r + 1 ≡ length t → part_at t r ≡ item_at t r
inside t r h = let e : ltb r (length t) ≡ true = grind (arith, nat_tests) in rw e refl

is_text : (t : Table) (w : Whole) → listed_whole w ≡ t → text_in t ≡ w
is_text t w h = ap (λ z. text_or_none (whole_in z)) (sym h) ∙ ap text_or_none (whole_found w)

pub stands_at_root : (t : Table) (r : ℕ) → IsListing t → r + 1 ≡ length t → ((w : Whole) → listed_whole w ≡ t → item_at t r ≡ root_of w) → StandsAs (text_in t) (part_at t r)
stands_at_root t r (w, h) last part = stands_by_node (text_in t) (part_at t r) (inside t r last ∙ part w h ∙ sym (ap root_of (is_text t w h)))

-- ---- the names of parameters

pub first_names : (t : Table) (f g : Own) (at : ℕ) (ps : List ℕ) → at ≡ 1 → map (name_of (laid f.tree)) ps ≡ map (name_of (laid f.tree)) f.parameters.items
    → map (name_of (laid (table_at t f.tree g.tree at))) ps ≡ (function_at t f g at).parameters
first_names t f g at ps e h =
    let P : ℕ → Type 0 = λ n. map (name_of (laid (table_at t f.tree g.tree n))) ps ≡ (function_at t f g n).parameters in
    subst P (sym e) h

pub second_names : (t : Table) (f g : Own) (at : ℕ) (ps : List ℕ) → at ≢ 0 → at ≢ 1 → map (name_of (laid g.tree)) ps ≡ map (name_of (laid g.tree)) g.parameters.items
    → map (name_of (laid (table_at t f.tree g.tree at))) ps ≡ (function_at t f g at).parameters
second_names t f g at ps zeroth first h =
    let a : nat_eq at 0 ≡ false = grind (arith, nat_tests, zeroth) in
    let b : nat_eq at 1 ≡ false = grind (arith, nat_tests, first) in
    rw a (rw b h)

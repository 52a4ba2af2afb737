-- Single parts, by their nodes.
use Rattle.std.proofs.Common.{◌≡◌, ◌∙◌, ap, sym, refl, ℕ, ◌<◌, ◌≤◌, arith, Bool, true, false, ltb, List, [], ◌∷◌, ◌++◌, length, map, reverse, Option, None, Some}
use Rattle.std.proofs.lemmas.Bool.Decides.{nat_tests}
use Rattle.std.proofs.lemmas.List.{reverse-append}
use Rattle.qml_base.specs.declared.numbers.Place.{Place}
use Rattle.qml_syntax.specs.declared.node.Node.{Node}
use Rattle.qml_syntax.specs.declared.node.Node.TheVariants as node
use Rattle.qml_syntax.specs.Tree.{Units}
use Rattle.qml_syntax.specs.Nodes.{Item, mark, Parts, Table, apply, below, top_name, top_kind, some_kind, top_value, top_function, top_object}
use Rattle.qml_syntax.specs.Opened.{node_of, parts_of, item_at, top, IsListing}
use Rattle.qml_syntax.specs.Places.{part_at, places_of, behind}
use Rattle.qml_syntax.proofs.GatherLemmas.{level_is_made}
use Rattle.qml_syntax.proofs.PlacesLemmas.{parts_at_places}
use Rattle.document_members.specs.declared.form.Form.TheVariants as form
use Rattle.document_members.specs.declared.parts.Name.{Name}
use Rattle.document_members.specs.Forms.{form_of}
use Rattle.document_members.specs.Parts.{items, no_name, name_by, name_in, dot_by, dot_in, parameter_by, parameter_in, member_by, member_in, word_by, word_in, value_in, kind_in, function_in, object_in, first_name_of, head_by, head_of, PopsPlace, PopsName}

-- ---- what a node tells of its part

here : (t : Table) (k : ℕ) → k < length t → part_at t k ≡ item_at t k
here t k h = let e : ltb k (length t) ≡ true = grind (arith, nat_tests) in rw e refl

missing : (t : Table) (k : ℕ) → length t ≤ k → part_at t k ≡ mark
missing t k h = let e : ltb k (length t) ≡ false = grind (arith, nat_tests) in rw e refl

by_node : {A : Type 0} (f : Node → A) (g : Item → A) → ((x : Node) (z : Parts) → f x ≡ g (top (apply x z))) → (i : Item) → f (node_of i) ≡ g i
by_node f g same i = same (node_of i) (reverse (parts_of i) ++ []) ∙ ap (λ s. g (top s)) (level_is_made i [])

found : {A : Type 0} (f : Node → A) (g : Item → A) → ((x : Node) (z : Parts) → f x ≡ g (top (apply x z))) → (t : Table) (k : ℕ) (x : Node) (r : A)
    → k < length t → x ≡ node_of (item_at t k) → r ≡ f x → r ≡ g (part_at t k)
found f g same t k x r h e d = d ∙ ap f e ∙ by_node f g same (item_at t k) ∙ ap g (sym (here t k h))

names : (x : Node) (z : Parts) → name_by x ≡ name_in (top (apply x z))
names (node.First n p) z = refl
names _ z = refl

dots : (x : Node) (z : Parts) → dot_by x ≡ dot_in (top (apply x z))
dots (node.Dot n) z = refl
dots _ z = refl

parameters : (x : Node) (z : Parts) → parameter_by x ≡ parameter_in (top (apply x z))
parameters (node.SignalParameter n) z = refl
parameters _ z = refl

members : (x : Node) (z : Parts) → member_by x ≡ member_in (top (apply x z))
members (node.Id p c) z = refl
members _ z = refl

words : (x : Node) (z : Parts) → word_by x ≡ word_in (top (apply x z))
words (node.Function p) z = refl
words _ z = refl

pub name_found : (t : Table) (k : ℕ) (x : Node) (r : Name) → k < length t → x ≡ node_of (item_at t k) → r ≡ name_by x → r ≡ name_in (part_at t k)
name_found = found name_by name_in names

pub dot_found : (t : Table) (k : ℕ) (x : Node) (r : Option Units) → k < length t → x ≡ node_of (item_at t k) → r ≡ dot_by x → r ≡ dot_in (part_at t k)
dot_found = found dot_by dot_in dots

pub parameter_found : (t : Table) (k : ℕ) (x : Node) (r : Option Units) → k < length t → x ≡ node_of (item_at t k) → r ≡ parameter_by x → r ≡ parameter_in (part_at t k)
parameter_found = found parameter_by parameter_in parameters

pub member_found : (t : Table) (k : ℕ) (x : Node) (r : Bool) → k < length t → x ≡ node_of (item_at t k) → r ≡ member_by x → r ≡ member_in (part_at t k)
member_found = found member_by member_in members

pub word_found : (t : Table) (k : ℕ) (x : Node) (r : Option Place) → k < length t → x ≡ node_of (item_at t k) → r ≡ word_by x → r ≡ word_in (part_at t k)
word_found = found word_by word_in words

pub form_found : (t : Table) (k : ℕ) (x : Node) → k < length t → x ≡ node_of (item_at t k) → form_of x ≡ form_of (node_of (part_at t k))
form_found t k x h e = ap form_of e ∙ ap (λ i. form_of (node_of i)) (sym (here t k h))

pub name_missing : (t : Table) (k : ℕ) → length t ≤ k → no_name ≡ name_in (part_at t k)
name_missing t k h = ap name_in (sym (missing t k h))

pub dot_missing : (t : Table) (k : ℕ) → length t ≤ k → Path (Option Units) None (dot_in (part_at t k))
dot_missing t k h = ap dot_in (sym (missing t k h))

pub parameter_missing : (t : Table) (k : ℕ) → length t ≤ k → Path (Option Units) None (parameter_in (part_at t k))
parameter_missing t k h = ap parameter_in (sym (missing t k h))

pub member_missing : (t : Table) (k : ℕ) → length t ≤ k → false ≡ member_in (part_at t k)
member_missing t k h = ap member_in (sym (missing t k h))

pub word_missing : (t : Table) (k : ℕ) → length t ≤ k → Path (Option Place) None (word_in (part_at t k))
word_missing t k h = ap word_in (sym (missing t k h))

pub form_missing : (t : Table) (k : ℕ) → length t ≤ k → form.Other ≡ form_of (node_of (part_at t k))
form_missing t k h = ap (λ i. form_of (node_of i)) (sym (missing t k h))

-- ---- the first part

pub first_named : (t : Table) (at part : ℕ) (name : Name) → IsListing t → places_of t at ≡ part ∷ behind t part → name ≡ name_in (part_at t part) → name ≡ first_name_of (part_at t at)
first_named t at part name l e h = h ∙ ap (λ is. name_in (top is)) (sym (ap (map (part_at t)) e) ∙ parts_at_places t at l)

pub first_unnamed : (t : Table) (at : ℕ) → IsListing t → places_of t at ≡ [] → no_name ≡ first_name_of (part_at t at)
first_unnamed t at l e = ap (λ is. name_in (top is)) (sym (ap (map (part_at t)) e) ∙ parts_at_places t at l)

pub head_found : (t : Table) (k : ℕ) (word : Place) (name : Name) → Some word ≡ word_in (part_at t k) → name ≡ first_name_of (part_at t k) → record { word = word; name = name } ≡ head_of (part_at t k)
head_found t k word name e h = ap (λ n. head_by (Some word) n) h ∙ ap (λ w. head_by w (first_name_of (part_at t k))) e

pub head_missing : (t : Table) (k : ℕ) → Path (Option Place) None (word_in (part_at t k)) → head_by None no_name ≡ head_of (part_at t k)
head_missing t k e = ap (λ w. head_by w (first_name_of (part_at t k))) e

-- ---- the last part

items_more : (t : Table) (ps : List ℕ) (p : ℕ) → items t (ps ++ p ∷ []) ≡ part_at t p ∷ items t ps
items_more t ps p = ap (map (part_at t)) (reverse-append ps (p ∷ []))

pub popped : (t : Table) (old new : List ℕ) (p : ℕ) → old ≡ new ++ p ∷ [] → items t old ≡ part_at t p ∷ items t new
popped t old new p e = ap (items t) e ∙ items_more t new p

pub place_popped : (t : Table) (old new : List ℕ) (p : ℕ) → old ≡ new ++ p ∷ [] → PopsPlace t old new p
place_popped t old new p e = (ap top (sym (popped t old new p e)), ap below (sym (popped t old new p e)))

none_of : {A : Type 0} (xs : List A) → length xs ≡ 0 → xs ≡ []
none_of [] e = refl
none_of (x ∷ xs) e = absurd (omega arith)

pub no_parts : (t : Table) (ps : List ℕ) → length ps ≡ 0 → items t ps ≡ []
no_parts t ps e = ap (items t) (none_of ps e)

at_end : (k : ℕ) → k ≤ k
at_end k = omega arith

pub no_place_popped : (t : Table) (old new : List ℕ) → length old ≡ 0 → length new ≡ 0 → PopsPlace t old new (length t)
no_place_popped t old new e f =
    (missing t (length t) (at_end (length t)) ∙ ap top (sym (no_parts t old e)), no_parts t new f ∙ ap below (sym (no_parts t old e)))

pub name_of_place : (t : Table) (old new : List ℕ) (p : ℕ) (name : Name) → PopsPlace t old new p → name ≡ name_in (part_at t p) → PopsName t old new name
name_of_place t old new p name h e = (e ∙ ap name_in h.0, h.1)

-- ---- what stands in front

pub name_on_top : (s : Parts) → top_name s ≡ ((name_in (top s)).text, (name_in (top s)).at)
name_on_top [] = refl
name_on_top (i ∷ s) = alone i
  where
    alone : (i : Item) → top_name (i ∷ s) ≡ ((name_in i).text, (name_in i).at)
    alone mark = refl
    alone _ = refl

pub value_on_top : (s : Parts) → top_value s ≡ value_in (top s)
value_on_top [] = refl
value_on_top (i ∷ s) = alone i
  where
    alone : (i : Item) → top_value (i ∷ s) ≡ value_in i
    alone mark = refl
    alone _ = refl

pub kind_on_top : (s : Parts) → some_kind (top_kind s) ≡ kind_in (top s)
kind_on_top [] = refl
kind_on_top (i ∷ s) = alone i
  where
    alone : (i : Item) → some_kind (top_kind (i ∷ s)) ≡ kind_in i
    alone mark = refl
    alone _ = refl

pub function_on_top : (s : Parts) → top_function s ≡ function_in (top s)
function_on_top [] = refl
function_on_top (i ∷ s) = alone i
  where
    alone : (i : Item) → top_function (i ∷ s) ≡ function_in i
    alone mark = refl
    alone _ = refl

pub object_on_top : (s : Parts) → top_object s ≡ object_in (top s)
object_on_top [] = refl
object_on_top (i ∷ s) = alone i
  where
    alone : (i : Item) → top_object (i ∷ s) ≡ object_in i
    alone mark = refl
    alone _ = refl

-- Members as they lie in a map, by name.
use Rattle.std.proofs.Common.{◌≡◌, ◌∙◌, ap, sym, refl, ℕ, Bool, false, not, is_some, List, [], ◌∷◌, ◌++◌, map, position}
use Rattle.std.proofs.lemmas.List.{length-map}
use Rattle.std.specs.declared.alloc.Global.{Global}
use Rattle.std.specs.declared.vec.Vec.{Vec}
use Rattle.std.specs.declared.option.Option.{Option}
use Rattle.std.specs.declared.option.Option.TheVariants.{None, Some}
use Rattle.std.specs.List.{prefix_len}
use Rattle.std.specs.Str.{bytes_eq}
use Rattle.std.specs.Map.{keys_of, lookup}
use Rattle.qml_model.specs.declared.content.Content.{Content}
use Rattle.indexmap.proofs.MapLemmas.{some_index}
use Rattle.first_form.specs.declared.members.Member.{Member}
use Rattle.first_form.specs.Document.{names_of}
use Rattle.first_form.specs.Members.{member_from}
use Rattle.first_form.specs.Names.{cell_of}

abbrev Entries : Type 0
Entries = List (Vec ℕ Global × Content)

prefix_len-map : {A B : Type 0} (f : A → B) (p : B → Bool) (xs : List A) → prefix_len p (map f xs) ≡ prefix_len (λ x. p (f x)) xs
prefix_len-map f p [] = refl
prefix_len-map f p (x ∷ xs) = rw (prefix_len-map f p xs) refl

position-map : {A B : Type 0} (f : A → B) (p : B → Bool) (xs : List A) → position p (map f xs) ≡ position (λ x. p (f x)) xs
position-map f p xs = rw (prefix_len-map f (λ x. not (p x)) xs, length-map xs f) refl

names_are : (es : Entries) → names_of (map member_from es) ≡ map (λ (k : Vec ℕ Global). k.items) (keys_of es)
names_are [] = refl
names_are (e ∷ es) = ap (λ (ns : List (List ℕ)). e.0.items ∷ ns) (names_are es)

pub cell_of-entries : (es : Entries) (name : List ℕ) → position (λ (k : Vec ℕ Global). bytes_eq name k.items) (keys_of es) ≡ cell_of (names_of (map member_from es)) name
cell_of-entries es name = sym (position-map (λ (k : Vec ℕ Global). k.items) (λ n. bytes_eq name n) (keys_of es)) ∙ ap (λ ns. cell_of ns name) (sym (names_are es))

pub is_none_of : {A : Type 0} (o : Option A) → is_some o ≡ false → o ≡ None
is_none_of None e = refl
is_none_of (Some x) e = absurd (cc)

-- a name without a cell is no key
pub absent : (es : Entries) (name : List ℕ) → cell_of (names_of (map member_from es)) name ≡ None → lookup (λ (k : Vec ℕ Global). bytes_eq name k.items) es ≡ None
absent es name e = is_none_of _ (sym (some_index (λ (k : Vec ℕ Global). bytes_eq name k.items) es) ∙ ap is_some (cell_of-entries es name ∙ e))

pub map-snoc : (es : Entries) (e : Vec ℕ Global × Content) → map member_from (es ++ e ∷ []) ≡ map member_from es ++ member_from e ∷ []
map-snoc [] e = refl
map-snoc (x ∷ es) e = ap (λ (ms : List Member). member_from x ∷ ms) (map-snoc es e)

-- What a search for the first finds, where no two answer to one name.
use Rattle.std.proofs.Common.{cond, ◌≡◌, ◌↔◌, ◌∙◌, ap, sym, refl, subst, ℕ, suc, zero, List, [], ◌∷◌, ◌<◌, ◌&&◌, not, length, Bool, true, false, Option, Some, None, arith}
use Rattle.std.specs.List.{list_all, find, Contains}
use Rattle.std.specs.Option.{option_map}
use Rattle.std.specs.Str.{bytes_eq}
use Rattle.std.proofs.lemmas.Slice.Eq.{bytes_eq-Decides}
use Rattle.qml_types.specs.declared.kind.TypeNo.{TypeNo}
use Rattle.qml_types.specs.declared.kind.TypeNo.TheVariants as no
use Rattle.qml_types.specs.Table.{Offered, TypeCell, offered, found, is_shown}
use Rattle.qml_types.specs.Tests.{IsOffered, IsProperty, all_differ, same_offer}

both : (a b : Bool) → (a && b) ≡ true → (a ≡ true) × (b ≡ true)
both true b e = (refl, e)
both false b e = cc

joined : (a b : Bool) → a ≡ true → b ≡ true → (a && b) ≡ true
joined a b e f = rw (e, f) refl

not-true : (a : Bool) → not a ≡ true → a ≡ false
not-true true e = cc
not-true false e = refl

same_names : (a b c : List ℕ) → bytes_eq a c ≡ true → bytes_eq b c ≡ true → bytes_eq a b ≡ true
same_names a b c e f = (bytes_eq-Decides a b).1 ((bytes_eq-Decides a c).0 e ∙ sym ((bytes_eq-Decides b c).0 f))

module _ {X : Type 0} where
  all-at : (p : X → Bool) (xs : List X) (y : X) → list_all p xs ≡ true → Contains xs y → p y ≡ true
  all-at p [] y all (k, within, is) = absurd (let w : k < 0 = within in omega arith)
  all-at p (x ∷ xs) y all (zero, within, is) = subst (λ z. p z ≡ true) is (both (p x) (list_all p xs) all).0
  all-at p (x ∷ xs) y all (suc k, within, is) =
      all-at p xs y (both (p x) (list_all p xs) all).1 (k, (let w : suc k < length (x ∷ xs) = within in omega arith), is)

  later : (x : X) (xs : List X) (y : X) → Contains xs y → Contains (x ∷ xs) y
  later x xs y (k, within, is) = (suc k, omega arith, is)

  find-to : (p : X → Bool) (xs : List X) (y : X) → find p xs ≡ Some y → Contains xs y × (p y ≡ true)
  find-to p [] y e = cc
  find-to p (x ∷ rest) y e =
      elim (p x) as (λ b. p x ≡ b → cond b (Some x) (find p rest) ≡ Some y → Contains (x ∷ rest) y × (p y ≡ true)) [
        | true ↦ λ t f. let same : x ≡ y = cc in subst (λ z. Contains (x ∷ rest) z × (p z ≡ true)) same ((0, omega arith, refl), t)
        | false ↦ λ t f. let ih = find-to p rest y f in (later x rest y ih.0, ih.1)
      ] refl e

  -- `same` says of two that no search tells them apart
  find-from : (p : X → Bool) (same : X → X → Bool) → ((x y : X) → p x ≡ true → p y ≡ true → same x y ≡ true)
      → (xs : List X) (y : X) → all_differ same xs ≡ true → Contains xs y → p y ≡ true → find p xs ≡ Some y
  find-from p same alike [] y differ (k, within, is) e = absurd (let w : k < 0 = within in omega arith)
  find-from p same alike (x ∷ rest) y differ (zero, within, is) e = rw (ap p is ∙ e) (ap Some is)
  find-from p same alike (x ∷ rest) y differ (suc k, within, is) e =
      let parts = both (list_all (λ other. not (same x other)) rest) (all_differ same rest) differ in
      let member : Contains rest y = (k, (let w : suc k < length (x ∷ rest) = within in omega arith), is) in
      let other : same x y ≡ false = not-true _ (all-at (λ other. not (same x other)) rest y parts.0 member) in
      elim (p x) as (λ b. p x ≡ b → cond b (Some x) (find p rest) ≡ Some y) [
        | true ↦ λ t. let clash : same x y ≡ true = alike x y t e in cc
        | false ↦ λ f. find-from p same alike rest y parts.1 member e
      ] refl

  map_some : {Y : Type 0} (f : X → Y) (o : Option X) (y : Y) → option_map f o ≡ Some y → (x : X) × ((o ≡ Some x) × (f x ≡ y))
  map_some f None y e = cc
  map_some f (Some x) y e = (x, (refl, cc))

  -- one is found by its name exactly where it is among these
  pub named-where : (name_of : X → List ℕ) (xs : List X) (name : List ℕ) (x : X) → all_differ (λ a b. bytes_eq (name_of a) (name_of b)) xs ≡ true
      → (find (λ y. bytes_eq (name_of y) name) xs ≡ Some x) ↔ (Contains xs x × (name_of x ≡ name))
  named-where name_of xs name x differ = (
    (λ e. let to = find-to (λ y. bytes_eq (name_of y) name) xs x e in (to.0, (bytes_eq-Decides (name_of x) name).0 to.1)),
    (λ is. find-from (λ y. bytes_eq (name_of y) name) (λ a b. bytes_eq (name_of a) (name_of b)) (λ a b e f. same_names (name_of a) (name_of b) name e f) xs x differ is.0 ((bytes_eq-Decides (name_of x) name).1 is.1)),
  )

pub property-where : (cells : List TypeCell) (name : List ℕ) (cell : TypeCell) → all_differ (λ a b. bytes_eq a.name b.name) cells ≡ true
    → (found cells name ≡ Some cell) ↔ IsProperty cells name cell
property-where cells name cell differ =
    let p : TypeCell → Bool = λ c. is_shown c.access && bytes_eq c.name name in
    let named : (c : TypeCell) → p c ≡ true → bytes_eq c.name name ≡ true = λ c e. (both (is_shown c.access) (bytes_eq c.name name) e).1 in (
      (λ e. let to = find-to p cells cell e in let parts = both (is_shown cell.access) (bytes_eq cell.name name) to.1 in (to.0, parts.0, (bytes_eq-Decides cell.name name).0 parts.1)),
      (λ is. find-from p (λ a b. bytes_eq a.name b.name) (λ a b e f. same_names a.name b.name name (named a e) (named b f)) cells cell differ is.0
          (joined (is_shown cell.access) (bytes_eq cell.name name) is.1 ((bytes_eq-Decides cell.name name).1 is.2))),
    )

pub offered-where : (rows : List Offered) (from name : List ℕ) (type : TypeNo) → all_differ same_offer rows ≡ true → (offered rows from name ≡ Some type) ↔ IsOffered rows from name type
offered-where rows from name type differ =
    let p : Offered → Bool = λ row. bytes_eq row.from from && bytes_eq row.name name in
    let parts : (row : Offered) → p row ≡ true → (bytes_eq row.from from ≡ true) × (bytes_eq row.name name ≡ true) = λ row e. both (bytes_eq row.from from) (bytes_eq row.name name) e in (
      (λ e. let some = map_some (λ (row : Offered). row.no) (find p rows) type e in
          let to = find-to p rows some.0 some.1.0 in
          let names = parts some.0 to.1 in
          (some.0, (to.0, (bytes_eq-Decides some.0.from from).0 names.0, (bytes_eq-Decides some.0.name name).0 names.1, some.1.1))),
      (λ is. ap (option_map (λ (row : Offered). row.no)) (find-from p same_offer (λ a b e f. joined (bytes_eq a.from b.from) (bytes_eq a.name b.name) (same_names a.from b.from from (parts a e).0 (parts b f).0) (same_names a.name b.name name (parts a e).1 (parts b f).1))
          rows is.0 differ is.1.0 (joined (bytes_eq is.0.from from) (bytes_eq is.0.name name) ((bytes_eq-Decides is.0.from from).1 is.1.1) ((bytes_eq-Decides is.0.name name).1 is.1.2))) ∙ ap Some is.1.3),
    )

-- what holds of each type by computing holds of any
pub every : (P : TypeNo → Type 0) → (P no.QtObject × P no.Component × P no.Item × P no.Timer × P no.Connections × P no.Binding × P no.State × P no.PropertyChanges × P no.ListModel × P no.ListElement × P no.Repeater × P no.Loader × P no.Host) → (type : TypeNo) → P type
every P all no.QtObject = all.0
every P all no.Component = all.1
every P all no.Item = all.2
every P all no.Timer = all.3
every P all no.Connections = all.4
every P all no.Binding = all.5
every P all no.State = all.6
every P all no.PropertyChanges = all.7
every P all no.ListModel = all.8
every P all no.ListElement = all.9
every P all no.Repeater = all.10
every P all no.Loader = all.11
every P all no.Host = all.12

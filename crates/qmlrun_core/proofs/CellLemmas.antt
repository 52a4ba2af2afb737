-- What settling and changing name are cells that are there.
use Rattle.std.proofs.Common.{◌≡◌, ◌<◌, ℕ, ℤ, List, length, map, get_or, subst, sym}
use Rattle.std.specs.List.{All}
use Rattle.std.specs.declared.result.Result.TheVariants.{Ok, Err}
use Rattle.std.proofs.lemmas.List.{length-map}
use Rattle.std.proofs.lemmas.List.Elements.{All-contains_itself}
use Rattle.std.proofs.lemmas.Option.{slice_get_within}
use Rattle.qml_model.specs.Settling.{State, settled, changed}
use Rattle.qml_model.specs.Machine.{made}
use Rattle.qml_model.proofs.ChangedLemmas.{only_listed}
use Rattle.qml_model.proofs.SettlingLemmas.{settles_to, lowest_past}
use Rattle.first_form.specs.declared.members.Member.{Member}
use Rattle.first_form.specs.Document.{names_of}
use Rattle.qmlrun_core.specs.Steps.{IsNamed}

pub settled_len : (s : State) (values : List ℤ) → settled s ≡ Ok values → length values ≡ length s.values
settled_len s values e = (settles_to s values e).as_many

pub past_cell : (s : State) (past : ℕ) → settled s ≡ Err past → past < length s.values
past_cell s past e = (lowest_past s past e).there

-- what changed is of the cells that are there
pub changed_cells : (count : ℕ) (old new : List ℤ) (cells : List ℕ) → cells ≡ changed old new → length old ≡ count → All (λ c. c < count) cells
changed_cells count old new cells e len =
    let all : All (λ c. c < count) (changed old new) = λ k d lt.
    let c = get_or (changed old new) k d in
    let differs = only_listed old new c (All-contains_itself (changed old new) k d lt) in
    subst (λ (n : ℕ). c < n) len (slice_get_within old c differs.before differs.was) in
    subst (λ (cs : List ℕ). All (λ c. c < count) cs) (sym e) all

-- the cells that are made have the names of the members
pub made_named : (members : List Member) (names : List (List ℕ)) (tree : State) → names ≡ names_of members → tree ≡ made (map (λ m. m.content) members) → IsNamed names tree
made_named members names tree e f =
    let named : IsNamed (names_of members) (made (map (λ m. m.content) members)) = record {
      contents = simp length-map;
      values = simp length-map;
    } in
    subst (λ (s : State). IsNamed names s) (sym f) (subst (λ (ns : List (List ℕ)). IsNamed ns (made (map (λ m. m.content) members))) (sym e) named)

pub names_len : (members : List Member) (names : List (List ℕ)) → names ≡ names_of members → length names ≡ length members
names_len members names e = rw e (length-map members (λ m. m.name))

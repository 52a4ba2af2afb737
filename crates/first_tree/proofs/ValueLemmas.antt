-- The values that cells hold by a table of outcomes are those that settle by it.
use Rattle.std.proofs.Common.{add-one, append_assoc, if◌then◌else◌, ◌++◌, ◌+◌, ◌<◌, drop, take, get_or, pos, true, false, ◌≡◌, ◌≢◌, ◌∙◌, ap, sym, refl, ℕ, zero, suc, ℤ, List, [], ◌∷◌, length, slice_get, arith}
use Rattle.std.proofs.Math.Seq.{drop-cons, take-append_seam}
use Rattle.std.proofs.Math.Path.{fun_ext}
use Rattle.std.specs.Ordering.{int_eq}
use Rattle.std.specs.declared.result.Result.{Result}
use Rattle.std.specs.declared.option.Option.TheVariants.{Some}
use Rattle.std.specs.declared.result.Result.TheVariants.{Ok, Err}
use Rattle.qml_model.specs.declared.content.Outcome.{Outcome}
use Rattle.qml_model.specs.declared.content.Content.{Content}
use Rattle.qml_model.specs.declared.content.Outcome.TheVariants.{Value, Loop, Past}
use Rattle.qml_model.specs.Settling.{settled, settled_from, fresh, changed_from, Holds}
use Rattle.qml_model.proofs.SettlingLemmas.{values_are}
use Rattle.first_tree.specs.Sweeps.{read_in}
use Rattle.first_tree.specs.Values.{held_by, held_all, SettlesValues}
use Rattle.first_tree.specs.Settles.{Settles}
use Rattle.first_tree.specs.declared.tree.Changed.{Changed}
use Rattle.first_tree.specs.declared.tree.SettleFault.{SettleFault}
use Rattle.first_tree.specs.declared.tree.SettleFault.TheVariants as fault

held_holds : (o : Outcome) (before : ℤ) → o ≢ Past → Holds o before (held_by o before)
held_holds (Value z) before h = refl
held_holds Loop before h = refl
held_holds Past before h = absurd (h refl)

pub length-held_all : (table : List Outcome) (held : List ℤ) → length table ≡ length held → length (held_all table held) ≡ length held
length-held_all [] held n = n
length-held_all (o ∷ table) [] n = absurd (omega arith)
length-held_all (o ∷ table) (h ∷ held) n = ap suc (length-held_all table held (omega arith))

each_holds : (table : List Outcome) (held : List ℤ) → ((c : ℕ) → read_in table c ≢ Past) → (c : ℕ) (before after : ℤ) → slice_get held c ≡ Some before → slice_get (held_all table held) c ≡ Some after → Holds (read_in table c) before after
each_holds [] held none c before after b a = cc
each_holds (o ∷ table) [] none c before after b a = cc
each_holds (o ∷ table) (h ∷ held) none zero before after b a =
    let was : h ≡ before = cc in
    let is : held_by o h ≡ after = cc in
    rw (← is, ← was) (held_holds o h (none 0))
each_holds (o ∷ table) (h ∷ held) none (suc c) before after b a = each_holds table held (λ d. none (suc d)) c before after b a

pub held_settles : (table : List Outcome) (held : List ℤ) → length table ≡ length held → ((c : ℕ) → read_in table c ≢ Past) → settled_from (read_in table) 0 held ≡ Ok (held_all table held)
held_settles table held n none = values_are (read_in table) held (held_all table held) (length-held_all table held n) (each_holds table held none)

-- ---- the cells that change, from c on
abbrev pub changes_from : List Outcome → List ℤ → ℕ → List ℕ
changes_from table held c = changed_from c (drop c held) (held_all (drop c table) (drop c held))

one_cell : (table : List Outcome) (held : List ℤ) (c : ℕ) (o : Outcome) → length table ≡ length held → c < length held → changes_from table held c ≡ (if int_eq (get_or held c (pos 0)) (held_by (get_or table c o) (get_or held c (pos 0))) then changes_from table held (c + 1) else c ∷ changes_from table held (c + 1))
one_cell table held c o n h = let there : c < length table = omega arith in rw (drop-cons held c (pos 0) h, drop-cons table c o there, add-one) refl

pub cell_stays : (table : List Outcome) (held : List ℤ) (c : ℕ) (o : Outcome) (front : List ℕ) → length table ≡ length held → c < length held → int_eq (get_or held c (pos 0)) (held_by (get_or table c o) (get_or held c (pos 0))) ≡ true → front ++ changes_from table held (c + 1) ≡ front ++ changes_from table held c
cell_stays table held c o front n h same = let cell : changes_from table held c ≡ changes_from table held (c + 1) = rw same at (one_cell table held c o n h) in ap (λ xs. front ++ xs) (sym cell)

pub cell_changes : (table : List Outcome) (held : List ℤ) (c : ℕ) (o : Outcome) (front : List ℕ) → length table ≡ length held → c < length held → int_eq (get_or held c (pos 0)) (held_by (get_or table c o) (get_or held c (pos 0))) ≡ false → (front ++ c ∷ []) ++ changes_from table held (c + 1) ≡ front ++ changes_from table held c
cell_changes table held c o front n h differs =
    let cell : changes_from table held c ≡ c ∷ changes_from table held (c + 1) = rw differs at (one_cell table held c o n h) in
    append_assoc front (c ∷ []) (changes_from table held (c + 1)) ∙ ap (λ xs. front ++ xs) (sym cell)

-- ---- by the fresh outcomes
settled_by : (contents : List Content) (table : List Outcome) (held : List ℤ) → ((c : ℕ) → read_in table c ≡ fresh contents c) → settled (record { contents = contents; values = held }) ≡ settled_from (read_in table) 0 held
unfolding settled
settled_by contents table held same = ap (λ (read : ℕ → Outcome). settled_from read 0 held) (sym (fun_ext same))

pub settles_fresh : (contents : List Content) (table : List Outcome) (old new : List ℤ) (result : Result Changed SettleFault) → ((c : ℕ) → read_in table c ≡ fresh contents c) → SettlesValues (read_in table) old result new → Settles (record { contents = contents; values = old }) result (record { contents = contents; values = new })
settles_fresh contents table old new (Ok c) same h = (settled_by contents table old same ∙ h.0, refl, h.1)
settles_fresh contents table old new (Err (fault.Past c)) same h = (settled_by contents table old same ∙ h.0, ap (λ (values : List ℤ). record { contents = contents; values = values }) h.1)
settles_fresh contents table old new (Err fault.NoMemory) same h = ap (λ (values : List ℤ). record { contents = contents; values = values }) h

-- what a vector has once a slice of all its items was written
pub written_back : (new items : List ℤ) (n : ℕ) → length new ≡ n → take n (new ++ drop (length new) items) ≡ new
written_back new items n e = rw (← e) (take-append_seam new (drop (length new) items))

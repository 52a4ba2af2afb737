-- Parts in a row, from the last on.
use Rattle.std.proofs.Common.{◌≡◌, ◌∙◌, ap, sym, refl, ℕ, true, false, List, [], ◌∷◌, ◌++◌, length, map, reverse, Option, None, Some}
use Rattle.std.proofs.lemmas.List.{append-nil, reverse-append}
use Rattle.qml_syntax.specs.Tree.{Units, SignalPars, no_signal_pars}
use Rattle.qml_syntax.specs.Nodes.{Item, of_dot, of_signal_par, of_member, Parts, Table, below, top_name, dots_in, below_dots, signal_pars_in, below_signal_pars, below_members}
use Rattle.qml_syntax.specs.Onto.{SignalPar, onto, signal_pars_onto}
use Rattle.qml_syntax.specs.Places.{part_at}
use Rattle.program_names.specs.Written.{parameter_names}
use Rattle.document_members.specs.declared.member.NamePath.{NamePath}
use Rattle.document_members.specs.declared.parts.Name.{Name}
use Rattle.document_members.specs.Parts.{items, no_name, name_in, dot_in, parameter_in, member_in, parts_of_path, PopsPath, PopsParameters, PopsMembers}
use Rattle.document_members.proofs.PartLemmas.{popped, no_parts, name_on_top}

assoc : {A : Type 0} (a b c : List A) → (a ++ b) ++ c ≡ a ++ (b ++ c)
assoc [] b c = refl
assoc (x ∷ a) b c = ap (λ xs. x ∷ xs) (assoc a b c)

reverse_onto : {A : Type 0} (xs ys : List A) → onto xs ys ≡ reverse xs ++ ys
reverse_onto [] ys = refl
reverse_onto (x ∷ xs) ys =
    reverse_onto xs (x ∷ ys) ∙ sym (assoc (reverse xs) (x ∷ []) ys) ∙ ap (λ zs. zs ++ ys) (sym (reverse-append (x ∷ []) xs))

pub turned : {A : Type 0} (xs : List A) → reverse xs ≡ onto xs []
turned xs = sym (append-nil (reverse xs)) ∙ sym (reverse_onto xs [])

-- ---- dots

-- the names so far, and those that are left, are all
pub record DotsLeft (t : Table) (rest : List Units) (parts all : List ℕ) : Type 0 where
  pub names : rest ++ dots_in (items t parts) ≡ dots_in (items t all)
  pub behind : below_dots (items t parts) ≡ below_dots (items t all)

pub dots_begin : (t : Table) (all : List ℕ) → DotsLeft t [] all all
dots_begin t all = record { names = refl; behind = refl }

a_dot : (i : Item) (s : Parts) (n : Units) → Some n ≡ dot_in i → (dots_in (i ∷ s) ≡ n ∷ dots_in s) × (below_dots (i ∷ s) ≡ below_dots s)
a_dot (of_dot m) s n e = (ap (λ k. k ∷ dots_in s) (sym (cc)), refl)
a_dot _ s n e = absurd (cc)

no_dot : (i : Item) (s : Parts) → Path (Option Units) None (dot_in i) → (dots_in (i ∷ s) ≡ []) × (below_dots (i ∷ s) ≡ i ∷ s)
no_dot (of_dot m) s e = absurd (cc)
no_dot _ s e = (refl, refl)

pub dots_go_on : (t : Table) (rest : List Units) (old new all : List ℕ) (p : ℕ) (n : Units) → DotsLeft t rest old all → old ≡ new ++ p ∷ [] → Some n ≡ dot_in (part_at t p)
    → DotsLeft t (rest ++ n ∷ []) new all
dots_go_on t rest old new all p n h e d =
    let now = popped t old new p e in
    let dot = a_dot (part_at t p) (items t new) n d in
    record {
      names = assoc rest (n ∷ []) (dots_in (items t new)) ∙ ap (λ xs. rest ++ xs) (sym dot.0 ∙ ap dots_in (sym now)) ∙ h.names;
      behind = sym dot.1 ∙ ap below_dots (sym now) ∙ h.behind;
    }

ends_with : (t : Table) (rest : List Units) (s : Parts) (new all : List ℕ) (path : NamePath) (name : Name) → dots_in (items t all) ≡ rest → below_dots (items t all) ≡ s
    → (name.text, name.at) ≡ top_name s → items t new ≡ below s → parts_of_path path ≡ ((name.text, name.at), onto rest []) → PopsPath t all new path
ends_with t rest s new all path name d b n e h =
    (h ∙ ap (λ x. (x, onto rest [])) (n ∙ ap top_name (sym b)) ∙ ap (λ xs. (top_name (below_dots (items t all)), onto xs [])) (sym d), e ∙ ap below (sym b))

pub path_ends : (t : Table) (rest : List Units) (old new all : List ℕ) (p : ℕ) (name : Name) (path : NamePath) → DotsLeft t rest old all → old ≡ new ++ p ∷ []
    → Path (Option Units) None (dot_in (part_at t p)) → name ≡ name_in (part_at t p) → parts_of_path path ≡ ((name.text, name.at), onto rest []) → PopsPath t all new path
path_ends t rest old new all p name path h e d n f =
    let now = popped t old new p e in
    let none = no_dot (part_at t p) (items t new) d in
    ends_with t rest (part_at t p ∷ items t new) new all path name
    (sym h.names ∙ ap (λ xs. rest ++ xs) (ap dots_in now ∙ none.0) ∙ append-nil rest)
    (sym h.behind ∙ ap below_dots now ∙ none.1)
    (ap (λ x. (x.text, x.at)) n ∙ sym (name_on_top (part_at t p ∷ items t new))) refl f

pub path_runs_out : (t : Table) (rest : List Units) (old new all : List ℕ) (name : Name) (path : NamePath) → DotsLeft t rest old all → length old ≡ 0 → length new ≡ 0
    → name ≡ no_name → parts_of_path path ≡ ((name.text, name.at), onto rest []) → PopsPath t all new path
path_runs_out t rest old new all name path h e g n f =
    let now = no_parts t old e in
    ends_with t rest [] new all path name
    (sym h.names ∙ ap (λ xs. rest ++ xs) (ap dots_in now) ∙ append-nil rest)
    (sym h.behind ∙ ap below_dots now)
    (ap (λ x. (x.text, x.at)) n) (no_parts t new g) f

-- ---- parameters

abbrev second : SignalPar → Units
second x = x.1

pub record ParametersLeft (t : Table) (names : List Units) (parts all : List ℕ) : Type 0 where
  pub told : names ++ map second (signal_pars_in (items t parts)) ≡ map second (signal_pars_in (items t all))
  pub behind : below_signal_pars (items t parts) ≡ below_signal_pars (items t all)

pub parameters_begin : (t : Table) (all : List ℕ) → ParametersLeft t [] all all
parameters_begin t all = record { told = refl; behind = refl }

brackets : (back : List SignalPar) (tail : SignalPars) → parameter_names (Some (signal_pars_onto back tail)) ≡ onto (map second back) (parameter_names (Some tail))
brackets [] tail = refl
brackets (x ∷ back) tail = brackets back _

a_parameter : (i : Item) (s : Parts) (n : Units) → Some n ≡ parameter_in i
    → (map second (signal_pars_in (i ∷ s)) ≡ n ∷ map second (signal_pars_in s)) × (below_signal_pars (i ∷ s) ≡ below_signal_pars s)
a_parameter (of_signal_par q m) s n e = (ap (λ k. k ∷ map second (signal_pars_in s)) (sym (cc)), refl)
a_parameter _ s n e = absurd (cc)

no_parameter : (i : Item) (s : Parts) → Path (Option Units) None (parameter_in i) → (signal_pars_in (i ∷ s) ≡ []) × (below_signal_pars (i ∷ s) ≡ s)
no_parameter (of_signal_par q m) s e = absurd (cc)
no_parameter _ s e = (refl, refl)

pub parameters_go_on : (t : Table) (names : List Units) (old new all : List ℕ) (p : ℕ) (n : Units) → ParametersLeft t names old all → old ≡ new ++ p ∷ [] → Some n ≡ parameter_in (part_at t p)
    → ParametersLeft t (names ++ n ∷ []) new all
parameters_go_on t names old new all p n h e d =
    let now = popped t old new p e in
    let one = a_parameter (part_at t p) (items t new) n d in
    record {
      told = assoc names (n ∷ []) (map second (signal_pars_in (items t new))) ∙ ap (λ xs. names ++ xs) (sym one.0 ∙ ap (λ s. map second (signal_pars_in s)) (sym now)) ∙ h.told;
      behind = sym one.1 ∙ ap below_signal_pars (sym now) ∙ h.behind;
    }

all_told : (t : Table) (names turned_names : List Units) (all : List ℕ) → names ≡ map second (signal_pars_in (items t all)) → turned_names ≡ reverse names
    → turned_names ≡ parameter_names (Some (signal_pars_onto (signal_pars_in (items t all)) no_signal_pars))
all_told t names turned_names all e h = h ∙ turned names ∙ ap (λ xs. onto xs []) e ∙ sym (brackets (signal_pars_in (items t all)) no_signal_pars)

pub parameters_end : (t : Table) (names back : List Units) (old new all : List ℕ) (p : ℕ) → ParametersLeft t names old all → old ≡ new ++ p ∷ []
    → Path (Option Units) None (parameter_in (part_at t p)) → back ≡ reverse names → PopsParameters t all new back
parameters_end t names back old new all p h e d r =
    let now = popped t old new p e in
    let none = no_parameter (part_at t p) (items t new) d in (
      all_told t names back all (sym (append-nil names) ∙ ap (λ xs. names ++ xs) (sym (ap (λ s. map second (signal_pars_in s)) now ∙ ap (map second) none.0)) ∙ h.told) r,
      sym none.1 ∙ ap below_signal_pars (sym now) ∙ h.behind,
    )

pub parameters_run_out : (t : Table) (names back : List Units) (old new all : List ℕ) → ParametersLeft t names old all → length old ≡ 0 → length new ≡ 0 → back ≡ reverse names
    → PopsParameters t all new back
parameters_run_out t names back old new all h e g r =
    let now = no_parts t old e in (
      all_told t names back all (sym (append-nil names) ∙ ap (λ xs. names ++ xs) (sym (ap (λ s. map second (signal_pars_in s)) now)) ∙ h.told) r,
      no_parts t new g ∙ ap below_signal_pars (sym now) ∙ h.behind,
    )

-- ---- members

a_member : (i : Item) (s : Parts) → member_in i ≡ true → below_members (i ∷ s) ≡ below_members s
a_member (of_member m b) s e = refl
a_member _ s e = absurd (cc)

no_member : (i : Item) (s : Parts) → member_in i ≡ false → below_members (i ∷ s) ≡ s
no_member (of_member m b) s e = absurd (cc)
no_member _ s e = refl

pub members_go_on : (t : Table) (old new all : List ℕ) (p : ℕ) → below_members (items t old) ≡ below_members (items t all) → old ≡ new ++ p ∷ [] → member_in (part_at t p) ≡ true
    → below_members (items t new) ≡ below_members (items t all)
members_go_on t old new all p h e d = sym (a_member (part_at t p) (items t new) d) ∙ ap below_members (sym (popped t old new p e)) ∙ h

pub members_end : (t : Table) (old new all : List ℕ) (p : ℕ) → below_members (items t old) ≡ below_members (items t all) → old ≡ new ++ p ∷ [] → member_in (part_at t p) ≡ false
    → PopsMembers t all new
members_end t old new all p h e d = sym (no_member (part_at t p) (items t new) d) ∙ ap below_members (sym (popped t old new p e)) ∙ h

pub members_run_out : (t : Table) (old new all : List ℕ) → below_members (items t old) ≡ below_members (items t all) → length old ≡ 0 → length new ≡ 0 → PopsMembers t all new
members_run_out t old new all h e g = no_parts t new g ∙ ap below_members (sym (no_parts t old e)) ∙ h

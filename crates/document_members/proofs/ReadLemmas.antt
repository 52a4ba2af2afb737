-- What is read of a member says it.
use Rattle.std.proofs.Common.{◌≡◌, ◌∙◌, ap, sym, refl, subst, ℕ, Bool, true, false, ◌+◌, ◌<◌, List, [], ◌∷◌, ◌++◌, length, get_or, take, reverse, Option, None, Some}
use Rattle.std.proofs.lemmas.List.{append-nil, take_more}
use Rattle.document_rows.specs.declared.rows.MemberRow.{MemberRow}
use Rattle.qml_base.specs.declared.numbers.Place.{Place}
use Rattle.qml_syntax.specs.declared.contextual.Adjective.{Adjective}
use Rattle.qml_syntax.specs.declared.node.Node.{Node}
use Rattle.qml_syntax.specs.declared.node.Node.TheVariants as node
use Rattle.qml_syntax.specs.Tree.{Units, Names, Kind, function, no_signal_pars, Member as AMember, id, property, bare, alias, signal, method, given, group, child}
use Rattle.qml_syntax.specs.Nodes.{Item, of_member, of_function, Parts, Table, apply, below, below_path, below_signal_pars, top_name, top_kind, some_kind, top_member, path_in, signal_pars_in}
use Rattle.qml_syntax.specs.Onto.{signal_pars_onto}
use Rattle.qml_syntax.specs.Opened.{node_of, parts_of, top, IsListing}
use Rattle.qml_syntax.specs.Places.{part_at, places_of}
use Rattle.qml_syntax.proofs.GatherLemmas.{level_is_made}
use Rattle.qml_syntax.proofs.PlacesLemmas.{parts_at_places}
use Rattle.program_names.specs.Written.{WrittenMember, WrittenValue, parameter_names, an_id, a_property, an_alias, a_signal, a_function, a_value, a_group, outside_group, member_from, value_from}
use Rattle.document_rows.proofs.MatchLemmas.{map_reverse}
use Rattle.document_members.specs.declared.form.Form.{Form}
use Rattle.document_members.specs.declared.form.Form.TheVariants as form
use Rattle.document_members.specs.declared.member.Member.{Member}
use Rattle.document_members.specs.declared.member.Member.TheVariants as kept
use Rattle.document_members.specs.declared.member.NamePath.{NamePath}
use Rattle.document_members.specs.declared.parts.Name.{Name}
use Rattle.document_members.specs.declared.parts.Head.{Head}
use Rattle.document_members.specs.Forms.{form_of, made}
use Rattle.document_members.specs.Parts.{items, name_in, value_in, kind_in, function_in, object_in, head_of, PopsPlace, PopsName, PopsPath, PopsParameters, PopsMembers}
use Rattle.document_members.specs.Members.{Says, SaysForm, ReadsMember, ReadsMembers}
use Rattle.document_members.proofs.PartLemmas.{name_on_top, value_on_top, kind_on_top, function_on_top, object_on_top}

name_is : (t : Table) (old new : List ℕ) (name : Name) (s : Parts) → PopsName t old new name → items t old ≡ s → (name.text, name.at) ≡ top_name s
name_is t old new name s h e = ap (λ x. (x.text, x.at)) (h.0 ∙ ap (λ z. name_in (top z)) e) ∙ sym (name_on_top s)

pub id_says : (t : Table) (old new : List ℕ) (word : Place) (name : Name) → PopsName t old new name → Says t (made (form.Id word) (items t old)) (kept.Id word name.text name.at)
id_says t old new word name h = record {
  same = λ before n. ap (λ x. outside_group before word (an_id word x.0 x.1)) (name_is t old new name (items t old) h refl);
  adds = refl;
}

abbrev the_property : List Units → Place → Adjective → Kind → Units × Place → Option WrittenValue → WrittenMember
the_property before p a k x v = outside_group before x.1 (a_property p a k x.0 x.1 v)

pub property_says : (t : Table) (old then_one then_two new : List ℕ) (p : Place) (a : Adjective) (value kind : ℕ) (name : Name)
    → PopsPlace t old then_one value → PopsName t then_one then_two name → PopsPlace t then_two new kind
    → Says t (made (form.Property p a) (items t old)) (kept.Property p a kind name.text name.at (Some value))
property_says t old then_one then_two new p a value kind name v h k = record {
  same = λ before n.
      ap (λ q. the_property before p a q (name.text, name.at) (Some (value_from n (value_in (part_at t value)))))
      (ap kind_in (k.0 ∙ ap top (h.1 ∙ ap below v.1)) ∙ sym (kind_on_top (below (below (items t old))))) ∙
      ap (λ x. the_property before p a (some_kind (top_kind (below (below (items t old))))) x (Some (value_from n (value_in (part_at t value)))))
      (name_is t then_one then_two name (below (items t old)) h v.1) ∙
      ap (λ u. the_property before p a (some_kind (top_kind (below (below (items t old))))) (top_name (below (items t old))) (Some (value_from n u)))
      (ap value_in v.0 ∙ sym (value_on_top (items t old)));
  adds = refl;
}

pub bare_says : (t : Table) (old then_one new : List ℕ) (p : Place) (a : Adjective) (kind : ℕ) (name : Name) → PopsName t old then_one name → PopsPlace t then_one new kind
    → Says t (made (form.Bare p a) (items t old)) (kept.Property p a kind name.text name.at None)
bare_says t old then_one new p a kind name h k = record {
  same = λ before n.
      ap (λ q. the_property before p a q (name.text, name.at) None) (ap kind_in (k.0 ∙ ap top h.1) ∙ sym (kind_on_top (below (items t old)))) ∙
      ap (λ x. the_property before p a (some_kind (top_kind (below (items t old)))) x None) (name_is t old then_one name (items t old) h refl);
  adds = refl;
}

abbrev Path_ : Type 0
Path_ = (Units × Place) × Names

pub alias_says : (t : Table) (old then_one new : List ℕ) (p : Place) (d : Bool) (target : NamePath) (name : Name) → PopsPath t old then_one target → PopsName t then_one new name
    → Says t (made (form.Alias p d) (items t old)) (kept.Alias p d name.text name.at target)
alias_says t old then_one new p d target name h k = record {
  same = λ before n.
      ap (λ (x : Path_). outside_group before name.at (an_alias p d name.text name.at (x.0.0 ∷ x.1) x.0.1)) h.0 ∙
      ap (λ x. outside_group before x.1 (an_alias p d x.0 x.1 ((path_in (items t old)).0.0 ∷ (path_in (items t old)).1) (path_in (items t old)).0.1))
      (name_is t then_one new name (below_path (items t old)) k h.1);
  adds = refl;
}

pub signal_says : (t : Table) (old new : List ℕ) (p : Place) (name : Name) (names : List Units) → PopsName t old new name → names ≡ []
    → (before : List Units) (n : ℕ) → outside_group before name.at (a_signal p name.text name.at names) ≡ member_from before n (made (form.Signal p) (items t old))
signal_says t old new p name names h e before n =
    ap (λ ns. outside_group before name.at (a_signal p name.text name.at ns)) e ∙
    ap (λ x. outside_group before x.1 (a_signal p x.0 x.1 [])) (name_is t old new name (items t old) h refl)

pub signal_with_says : (t : Table) (old then_one new : List ℕ) (p : Place) (name : Name) (names : List Units) → PopsParameters t old then_one names → PopsName t then_one new name
    → (before : List Units) (n : ℕ) → outside_group before name.at (a_signal p name.text name.at names) ≡ member_from before n (made (form.SignalWith p) (items t old))
signal_with_says t old then_one new p name names h k before n =
    ap (λ ns. outside_group before name.at (a_signal p name.text name.at ns)) h.0 ∙
    ap (λ x. outside_group before x.1 (a_signal p x.0 x.1 (parameter_names (Some (signal_pars_onto (signal_pars_in (items t old)) no_signal_pars))))) (name_is t then_one new name (below_signal_pars (items t old)) k h.1)

-- a function's head is told by its own part
headed : (i : Item) (before : List Units) (n : ℕ)
    → outside_group before (head_of i).name.at (a_function (head_of i).word (function_in i) (head_of i).name.text (head_of i).name.at) ≡ member_from before n (method (function_in i))
headed (of_function (function p m r ps q ss)) before n = refl
headed _ before n = refl

pub method_says : (t : Table) (old new : List ℕ) (at : ℕ) (head : Head) → PopsPlace t old new at → head ≡ head_of (part_at t at)
    → Says t (made form.Method (items t old)) (kept.Method head.word at head.name.text head.name.at)
method_says t old new at head h e = record {
  same = λ before n.
      ap (λ (x : Head). outside_group before x.name.at (a_function x.word (function_in (part_at t at)) x.name.text x.name.at)) e ∙
      headed (part_at t at) before n ∙ ap (λ f. member_from before n (method f)) (ap function_in h.0 ∙ sym (function_on_top (items t old)));
  adds = refl;
}

pub given_says : (t : Table) (old then_one new : List ℕ) (value : ℕ) (path : NamePath) → PopsPlace t old then_one value → PopsPath t then_one new path
    → Says t (made form.Given (items t old)) (kept.Given path value)
given_says t old then_one new value path v h = record {
  same = λ before n.
      ap (λ (x : Path_). a_value x.0.1 (before ++ x.0.0 ∷ x.1) (value_from n (value_in (part_at t value)))) (h.0 ∙ ap path_in v.1) ∙
      ap (λ u. a_value (path_in (below (items t old))).0.1 (before ++ (path_in (below (items t old))).0.0 ∷ (path_in (below (items t old))).1) (value_from n u))
      (ap value_in v.0 ∙ sym (value_on_top (items t old)));
  adds = refl;
}

pub group_says : (t : Table) (old then_one new : List ℕ) (path : NamePath) → PopsMembers t old then_one → PopsPath t then_one new path → Says t (made form.Group (items t old)) (kept.Group path)
group_says t old then_one new path m h = record {
  same = λ before n. ap (λ (x : Path_). a_group x.0.1 (before ++ x.0.0 ∷ x.1)) (h.0 ∙ ap path_in m);
  adds = ap (λ (x : Path_). x.0.0 ∷ x.1) (h.0 ∙ ap path_in m);
}

pub child_says : (t : Table) (old new : List ℕ) (at : ℕ) → PopsPlace t old new at → Says t (made form.Child (items t old)) (kept.Child at)
child_says t old new at h = record {
  same = λ before n. ap (λ o. member_from before n (child o)) (ap object_in h.0 ∙ sym (object_on_top (items t old)));
  adds = refl;
}

-- ---- the member at a place

abbrev is_other : Form → Bool
is_other form.Other = true
is_other _ = false

by_form : (t : Table) (x : Node) (s : Parts) (m : Member) → SaysForm t (form_of x) s m → is_other (form_of x) ≡ false → Says t (top_member (apply x s)) m
by_form t (node.Id p c) s m h e = record { same = h.same; adds = h.adds }
by_form t (node.Property p a) s m h e = h
by_form t (node.Bare p a c) s m h e = record { same = h.same; adds = h.adds }
by_form t (node.Alias p d c) s m h e = record { same = h.same; adds = h.adds }
by_form t (node.Signal p c) s m h e = record { same = h.same; adds = h.adds }
by_form t (node.SignalWith p c) s m h e = record { same = h.same; adds = h.adds }
by_form t node.Method s m h e = h
by_form t node.Given s m h e = h
by_form t node.Group s m h e = record { same = h.same; adds = h.adds }
by_form t node.Child s m h e = h
by_form t _ s m h e = absurd (cc)

is_member_form : (x : AMember) → is_other (form_of (node_of (of_member x false))) ≡ false
is_member_form (id p n q c) = refl
is_member_form (property p a k n q v) = refl
is_member_form (bare p a k n q c) = refl
is_member_form (alias p d n q z r ns c) = refl
is_member_form (signal p n q None c) = refl
is_member_form (signal p n q (Some ps) c) = refl
is_member_form (method f) = refl
is_member_form (given n p ns v) = refl
is_member_form (group n p ns ms) = refl
is_member_form (child o) = refl

pub reads : (t : Table) (at : ℕ) (old : List ℕ) (f : Form) (m : Member) → IsListing t → old ≡ places_of t at → f ≡ form_of (node_of (part_at t at)) → SaysForm t f (items t old) m → ReadsMember t at m
reads t at old f m l e g h x i =
    let parts : items t old ≡ reverse (parts_of (part_at t at)) ++ [] =
    ap (items t) e ∙ map_reverse (part_at t) (places_of t at) ∙ ap reverse (parts_at_places t at l) ∙ sym (append-nil (reverse (parts_of (part_at t at)))) in
    let by_node : SaysForm t (form_of (node_of (part_at t at))) (reverse (parts_of (part_at t at)) ++ []) m =
    subst (λ z. SaysForm t z (reverse (parts_of (part_at t at)) ++ []) m) g (subst (λ z. SaysForm t f z m) parts h) in
    subst (λ z. Says t (top_member z) m) (level_is_made (part_at t at) [] ∙ ap (λ z. z ∷ []) i)
    (by_form t (node_of (part_at t at)) (reverse (parts_of (part_at t at)) ++ []) m by_node (ap (λ z. is_other (form_of (node_of z))) i ∙ is_member_form x))

-- ---- all members

read_last : (t : Table) (rs : List MemberRow) (ms : List Member) (r : MemberRow) (m : Member) → ReadsMembers t rs ms → ReadsMember t r.node m → ReadsMembers t (rs ++ r ∷ []) (ms ++ m ∷ [])
read_last t [] [] r m h e = (e, tt)
read_last t (x ∷ rs) (y ∷ ms) r m h e = (h.0, read_last t rs ms r m h.1 e)
read_last t [] (y ∷ ms) r m h e = absurd h
read_last t (x ∷ rs) [] r m h e = absurd h

pub reads_more : (t : Table) (rows : List MemberRow) (i : ℕ) (r : MemberRow) (ms after : List Member) (m : Member) → i < length rows
    → ReadsMembers t (take i rows) ms → ReadsMember t (get_or rows i r).node m → after ≡ ms ++ m ∷ [] → ReadsMembers t (take (i + 1) rows) after
reads_more t rows i r ms after m l h f e =
    subst (λ xs. ReadsMembers t (take (i + 1) rows) xs) (sym e)
    (subst (λ rs. ReadsMembers t rs (ms ++ m ∷ [])) (sym (take_more rows i r l)) (read_last t (take i rows) ms (get_or rows i r) m h f))

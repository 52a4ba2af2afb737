-- What nodes name, in a program.
use Rattle.std.proofs.Common.{◌≡◌, ◌∙◌, ap, sym, refl, subst, ℕ, Bool, true, false, List, [], ◌∷◌, ◌++◌, map, reverse, Option, Some, None}
use Rattle.std.specs.Option.{unwrap_or}
use Rattle.std.proofs.lemmas.Bool.{false≢true}
use Rattle.qml_syntax.specs.declared.node.Node.{Node}
use Rattle.qml_syntax.specs.declared.node.Node.TheVariants as node
use Rattle.qml_syntax.specs.Tree.{Units, TypeName, own_type, type_of, Kind, kind_var, kind_name, kind_list, object, Members}
use Rattle.qml_syntax.specs.Nodes.{Item, of_kind, of_object, Parts, Table, apply}
use Rattle.qml_syntax.specs.Opened.{node_of, parts_of, top, IsListing}
use Rattle.qml_syntax.specs.Places.{part_at}
use Rattle.qml_syntax.proofs.GatherLemmas.{level_is_made}
use Rattle.qml_types.specs.declared.kind.PropKind.{PropKind}
use Rattle.qml_types.specs.declared.kind.PropKind.TheVariants as kind
use Rattle.qml_types.specs.Kinds.{basic_kind}
use Rattle.program_names.specs.Paths.{Path, directory_of}
use Rattle.program_names.specs.Reading.{File}
use Rattle.program_names.specs.Types.{TypeUse, uses_type}
use Rattle.program_names.specs.Loaded.{Program, unit_at, type_named, type_named_by, kind_named}
use Rattle.document_imports.specs.Imports.{WrittenImport, row_of}
use Rattle.document_members.specs.declared.member.Member.{Member}
use Rattle.document_members.specs.declared.member.Member.TheVariants as m
use Rattle.document_members.specs.Parts.{kind_in}
use Rattle.program_tables.specs.declared.building.UnitRow.{UnitRow}
use Rattle.program_tables.specs.RowsSay.{SaysKind, SaysKinds}
use Rattle.program_types.specs.Numbers.{files_in, type_in}
use Rattle.program_types.proofs.ProgramLemmas.{type_alike}
use Rattle.type_uses.specs.Uses.{node_at, object_use}
use Rattle.type_uses.proofs.PartLemmas.{node_parts, object_item, object_at}
use Rattle.document_tables.specs.Finding.{type_by, type_or_var, list_or_var, kind_by_node, kind_at, member_kind}
use Rattle.document_tables.proofs.MakingLemmas.{KindsFound}

-- by what a document of a program finds types

abbrev pub here_in : Program → ℕ → Path
here_in p d = directory_of (unit_at p d).file.path

abbrev pub imports_in : Program → ℕ → List WrittenImport
imports_in p d = map (row_of (here_in p d)) (unit_at p d).imports

named_type : (p : Program) (d : ℕ) (q : Option Units) (n : Units) → type_in (files_in p) (here_in p d) (imports_in p d) q n ≡ type_named p d q n
named_type p d q n = type_alike p d q n

pub no_name : (p : Program) (d : ℕ) → type_in (files_in p) (here_in p d) (imports_in p d) None [] ≡ type_named p d None []
no_name p d = named_type p d None []

-- ---- types of objects

abbrev use_of_name : TypeName → TypeUse
use_of_name (own_type n p) = uses_type p None n
use_of_name (type_of q p n) = uses_type p (Some q) n

use_named : (x : TypeName) (ms : Members) → object_item (of_object (object x ms)) ≡ use_of_name x
use_named (own_type n p) ms = refl
use_named (type_of q p n) ms = refl

name_finds : (p : Program) (d : ℕ) (x : TypeName) → type_by (files_in p) (here_in p d) (imports_in p d) (use_of_name x) ≡ type_named_by p d x
name_finds p d (own_type n at) = named_type p d None n
name_finds p d (type_of q at n) = named_type p d (Some q) n

pub node_type : (p : Program) (d : ℕ) (t : Table) (at : ℕ) (x : TypeName) (ms : Members) → IsListing t → part_at t at ≡ of_object (object x ms)
    → type_by (files_in p) (here_in p d) (imports_in p d) (object_use t at) ≡ type_named_by p d x
node_type p d t at x ms lists e =
    ap (type_by (files_in p) (here_in p d) (imports_in p d)) (object_at t at lists ∙ ap object_item e ∙ use_named x ms) ∙ name_finds p d x

-- ---- kinds

abbrev kind_item : List File → Path → List WrittenImport → Item → PropKind
kind_item files here imports i = kind_by_node files here imports (node_of i) (map node_of (parts_of i))

kind_parts : (files : List File) (here : Path) (imports : List WrittenImport) (t : Table) (at : ℕ) → IsListing t → kind_at files here imports t at ≡ kind_item files here imports (part_at t at)
kind_parts files here imports t at lists = ap (kind_by_node files here imports (node_at t at)) (node_parts t at lists)

written_kind : (p : Program) (d : ℕ) (k : Kind) → kind_item (files_in p) (here_in p d) (imports_in p d) (of_kind (Some k)) ≡ kind_named p d k
written_kind p d kind_var = refl
written_kind p d (kind_list n at) = ap list_or_var (named_type p d None n)
written_kind p d (kind_name n at []) = ap (λ o. unwrap_or (basic_kind n) (type_or_var o)) (named_type p d None n)
written_kind p d (kind_name n at (k ∷ ns)) = ap type_or_var (named_type p d (Some n) k)

abbrev is_kind_node : Node → Bool
is_kind_node (node.KindList n p) = true
is_kind_node node.KindName = true
is_kind_node _ = false

abbrev is_kind : Item → Bool
is_kind (of_kind (Some (kind_list n p))) = true
is_kind (of_kind (Some (kind_name n p ns))) = true
is_kind _ = false

abbrev Holds : Bool → Type 0
Holds true = Unit {0}
Holds false = ⊥

kinds_alike : (x : Node) (z : Parts) → is_kind_node x ≡ is_kind (top (apply x z))
kinds_alike (node.KindList n p) z = refl
kinds_alike node.KindName z = refl
kinds_alike _ z = refl

by_node : (i : Item) → is_kind_node (node_of i) ≡ is_kind i
by_node i = kinds_alike (node_of i) (reverse (parts_of i) ++ []) ∙ ap (λ s. is_kind (top s)) (level_is_made i [])

no_kind_node : (files : List File) (here : Path) (imports : List WrittenImport) (x : Node) (xs : List Node) → is_kind_node x ≡ false → kind_by_node files here imports x xs ≡ kind.Var
no_kind_node files here imports (node.KindList n p) xs h = absurd (false≢true (sym h))
no_kind_node files here imports node.KindName xs h = absurd (false≢true (sym h))
no_kind_node files here imports _ xs h = refl

no_kind : (i : Item) → is_kind i ≡ false → kind_in i ≡ kind_var
no_kind (of_kind (Some (kind_list n p))) h = absurd (false≢true (sym h))
no_kind (of_kind (Some (kind_name n p ns))) h = absurd (false≢true (sym h))
no_kind (of_kind (Some kind_var)) h = refl
no_kind (of_kind None) h = refl
no_kind _ h = refl

a_kind : (p : Program) (d : ℕ) (i : Item) → Holds (is_kind i) → kind_item (files_in p) (here_in p d) (imports_in p d) i ≡ kind_named p d (kind_in i)
a_kind p d (of_kind (Some (kind_list n at))) h = written_kind p d (kind_list n at)
a_kind p d (of_kind (Some (kind_name n at ns))) h = written_kind p d (kind_name n at ns)
a_kind p d (of_kind (Some kind_var)) h = absurd h
a_kind p d (of_kind None) h = absurd h
a_kind p d _ h = absurd h

item_kind : (p : Program) (d : ℕ) (i : Item) → kind_item (files_in p) (here_in p d) (imports_in p d) i ≡ kind_named p d (kind_in i)
item_kind p d i = by_test (is_kind i) refl
  where
    by_test : (b : Bool) → is_kind i ≡ b → kind_item (files_in p) (here_in p d) (imports_in p d) i ≡ kind_named p d (kind_in i)
    by_test true h = a_kind p d i (subst Holds (sym h) tt)
    by_test false h =
        no_kind_node (files_in p) (here_in p d) (imports_in p d) (node_of i) (map node_of (parts_of i)) (by_node i ∙ h) ∙
        ap (kind_named p d) (sym (no_kind i h))

kind_said : (p : Program) (d : ℕ) (t : Table) (at : ℕ) → IsListing t → kind_at (files_in p) (here_in p d) (imports_in p d) t at ≡ kind_named p d (kind_in (part_at t at))
kind_said p d t at lists = kind_parts (files_in p) (here_in p d) (imports_in p d) t at lists ∙ item_kind p d (part_at t at)

member_said : (p : Program) (d : ℕ) (t : Table) (x : Member) (k : PropKind) → IsListing t → k ≡ member_kind (files_in p) (here_in p d) (imports_in p d) t x → SaysKind p d t x k
member_said p d t (m.Property q a k n at v) kind lists e = e ∙ kind_said p d t k lists
member_said p d t _ kind lists e = tt

pub kinds_said : (p : Program) (d : ℕ) (t : Table) (us : List UnitRow) → IsListing t → KindsFound (files_in p) (here_in p d) (imports_in p d) t us → SaysKinds p d t us
kinds_said p d t [] lists h = tt
kinds_said p d t (u ∷ us) lists h = (member_said p d t u.member u.kind lists h.0, kinds_said p d t us lists h.1)

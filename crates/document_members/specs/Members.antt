-- The member that is meant by what is kept of it.
use Rattle.std.specs.Prelude.{◌≡◌, ℕ, false, List, [], ◌∷◌, ◌++◌}
use Rattle.std.specs.Option.{option_map}
use Rattle.qml_syntax.specs.Tree.{Units, Member as AMember}
use Rattle.qml_syntax.specs.Nodes.{Parts, Table, of_member}
use Rattle.qml_syntax.specs.Places.{part_at}
use Rattle.program_names.specs.Written.{WrittenMember, WrittenValue, an_id, a_property, an_alias, a_signal, a_function, a_value, a_group, a_child, outside_group, member_from, value_from, place_of_object}
use Rattle.document_rows.specs.WholePaths.{names_added}
use Rattle.document_rows.specs.declared.rows.MemberRow.{MemberRow}
use Rattle.document_members.specs.declared.form.Form.{Form}
use Rattle.document_members.specs.declared.form.Form.TheVariants as form
use Rattle.document_members.specs.declared.member.Member.{Member}
use Rattle.document_members.specs.declared.member.Member.TheVariants as kept
use Rattle.document_members.specs.declared.member.NamePath.{NamePath}
use Rattle.document_members.specs.Forms.{made}
use Rattle.document_members.specs.Parts.{value_in, kind_in, function_in, object_in}

abbrev pub names_of : NamePath → List Units
names_of path = path.first ∷ path.rest.items

-- the value at a place, the first object in which has this number
abbrev pub value_at : Table → ℕ → ℕ → WrittenValue
value_at t n p = value_from n (value_in (part_at t p))

-- the member, where `before` are the names of the groups around it and the objects in it have the numbers from n on
abbrev pub written_in : Table → List Units → ℕ → Member → WrittenMember
written_in t before n (kept.Id word name at) = outside_group before word (an_id word name at)
written_in t before n (kept.Property p a kind name at value) =
    outside_group before at (a_property p a (kind_in (part_at t kind)) name at (option_map (value_at t n) value))
written_in t before n (kept.Alias p d name at target) =
    outside_group before at (an_alias p d name at (names_of target) target.at)
written_in t before n (kept.Signal p name at parameters) = outside_group before at (a_signal p name at parameters.items)
written_in t before n (kept.Method p f name at) =
    outside_group before at (a_function p (function_in (part_at t f)) name at)
written_in t before n (kept.Given path value) = a_value path.at (before ++ names_of path) (value_at t n value)
written_in t before n (kept.Group path) = a_group path.at (before ++ names_of path)
written_in t before n (kept.Child o) =
    let at = place_of_object (object_in (part_at t o)) in outside_group before at (a_child at n)

-- the names that it adds for those in it
abbrev pub added_by : Member → List Units
added_by (kept.Group path) = names_of path
added_by _ = []

-- what is kept says this member, wherever it stands
pub record Says (t : Table) (x : AMember) (m : Member) : Type 0 where
  pub same : (before : List Units) (n : ℕ) → written_in t before n m ≡ member_from before n x
  pub adds : added_by m ≡ names_added (of_member x false)

abbrev pub SaysForm : Table → Form → Parts → Member → Type 0
SaysForm t form.Other s m = Unit {0}
SaysForm t f s m = Says t (made f s) m

-- what is kept of the member at a place
abbrev pub ReadsMember : Table → ℕ → Member → Type 0
ReadsMember t at m = (x : AMember) → part_at t at ≡ of_member x false → Says t x m

abbrev pub ReadsMembers : Table → List MemberRow → List Member → Type 0
ReadsMembers t [] [] = Unit {0}
ReadsMembers t (r ∷ rs) (m ∷ ms) = ReadsMember t r.node m × ReadsMembers t rs ms
ReadsMembers t [] (m ∷ ms) = ⊥
ReadsMembers t (r ∷ rs) [] = ⊥

-- What each object of a document gives first for `target`, row after row.
use Rattle.std.specs.Prelude.{ℕ, zero, suc, Bool, false, ◌||◌, if◌then◌else◌, List, [], ◌∷◌, ◌++◌, slice_get, codes, Option, Some, None}
use Rattle.std.specs.Option.{option_or, unwrap_or}
use Rattle.std.specs.Str.{bytes_eq}
use Rattle.qml_syntax.specs.Tree.{Units}
use Rattle.document_members.specs.declared.member.Member.{Member}
use Rattle.document_members.specs.declared.member.Member.TheVariants as m
use Rattle.program_tables.specs.declared.building.UnitRow.{UnitRow}
use Rattle.program_tables.specs.Building.{is_group, is_inside}
use Rattle.target_tables.specs.declared.firsts.GivenValue.{GivenValue}

-- of each object the first
abbrev pub Firsts : Type 0
Firsts = List (Option GivenValue)

abbrev pub none_given : Option ℕ → Option GivenValue
none_given owner = None

-- whether a path is `target` alone
abbrev pub names_target : Units → List Units → Bool
names_target first [] = bytes_eq first (codes "target")
names_target first (n ∷ rest) = false

-- what a member gives for it, which isn't in a group
abbrev pub target_given : Bool → UnitRow → Member → Option GivenValue
target_given false r (m.Given path v) =
    if names_target path.first path.rest.items then Some (record { first = r.row.first; node = v }) else None
target_given _ r _ = None

abbrev pub first_put : Firsts → ℕ → GivenValue → Firsts
first_put [] o x = []
first_put (y ∷ rest) zero x = option_or y (Some x) ∷ rest
first_put (y ∷ rest) (suc o) x = y ∷ first_put rest o x

abbrev pub put_if : Firsts → ℕ → Option GivenValue → Firsts
put_if all o None = all
put_if all o (Some x) = first_put all o x

abbrev pub first_added : Bool → UnitRow → Firsts → Firsts
first_added inside r all = put_if all r.row.object (target_given inside r r.member)

abbrev pub firsts_added : List Bool → List UnitRow → Firsts → Firsts
firsts_added grouping [] all = all
firsts_added grouping (r ∷ rest) all =
    let inside = is_inside grouping r.row.group in
    firsts_added (grouping ++ (inside || is_group r.member) ∷ []) rest (first_added inside r all)

abbrev pub first_at : Firsts → ℕ → Option GivenValue
first_at all o = unwrap_or (slice_get all o) None

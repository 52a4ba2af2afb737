-- What stands in a group has names before its own.
use Rattle.std.proofs.Common.{◌≡◌, refl, ℕ, zero, suc, Bool, true, false, List, [], ◌∷◌, ◌++◌, map, Option, Some, None}
use Rattle.std.specs.Option.{unwrap_or}
use Rattle.std.specs.Prelude.{slice_get, ◌||◌}
use Rattle.qml_syntax.specs.Tree.{Units}
use Rattle.document_rows.specs.WholePaths.{path_at}
use Rattle.document_members.specs.declared.member.Member.{Member}
use Rattle.document_members.specs.declared.member.Member.TheVariants as m
use Rattle.document_members.specs.Members.{added_by}
use Rattle.program_tables.specs.Building.{is_group, is_inside}

abbrev pub is_filled : List Units → Bool
is_filled [] = false
is_filled (n ∷ ns) = true

pub inside_alike : (paths : List (List Units)) (g : Option ℕ) → is_inside (map is_filled paths) g ≡ is_filled (path_at paths g)
inside_alike paths None = refl
inside_alike paths (Some k) = at paths k
  where
    at : (paths : List (List Units)) (k : ℕ) → unwrap_or (slice_get (map is_filled paths) k) false ≡ is_filled (unwrap_or (slice_get paths k) [])
    at [] k = refl
    at (x ∷ paths) zero = refl
    at (x ∷ paths) (suc k) = at paths k

pub filled_by : (before : List Units) (x : Member) → is_filled (before ++ added_by x) ≡ (is_filled before || is_group x)
filled_by (n ∷ ns) x = refl
filled_by [] (m.Group path) = refl
filled_by [] (m.Id w n at) = refl
filled_by [] _ = refl

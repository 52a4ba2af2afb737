-- What the members of a document are given for.
use Rattle.std.specs.Prelude.{◌≡◌, ℕ, List, [], ◌∷◌}
use Rattle.program_names.specs.Written.{WrittenMember, a_value, a_group, a_child, OwnedMember}
use Rattle.program_names.specs.Loaded.{Program}
use Rattle.program_names.specs.Layers.{DefaultProperty, no_default, to_property, default_of}
use Rattle.program_names.specs.Components.{Roots}
use Rattle.program_names.specs.PathMeanings.{here, PathMeaning, a_property_of, an_object_of, a_handler, children_of, no_meaning, without_target, meaning_of_path}
use Rattle.program_names.specs.ComponentRoots.{meaning_given}
use Rattle.load_faults.specs.Faults.{Purpose, for_role, as_attached, for_target, by_path, purpose_of}
use Rattle.property_faults.specs.declared.given.GivenFor.{GivenFor}
use Rattle.property_faults.specs.declared.given.GivenFor.TheVariants as g

abbrev pub for_meaning : PathMeaning → GivenFor
for_meaning (a_property_of way place k a own) = g.Property k a own
for_meaning (an_object_of s) = g.Object
for_meaning (a_handler names) = g.Handler
for_meaning (children_of way) = g.Children
for_meaning no_meaning = g.Nothing
for_meaning without_target = g.WithoutTarget

abbrev pub for_purpose : Purpose → GivenFor
for_purpose for_role = g.Role
for_purpose as_attached = g.Attached
for_purpose for_target = g.Target
for_purpose (by_path s) = for_meaning s

abbrev pub for_child : Program → Roots → ℕ → ℕ → DefaultProperty → GivenFor
for_child p roots d o no_default = g.Nothing
for_child p roots d o (to_property n) = for_meaning (meaning_of_path p roots (here d o) (n ∷ []))
for_child p roots d o _ = g.Taken

-- what a member is given for
abbrev pub given_for : Program → Roots → ℕ → ℕ → WrittenMember → GivenFor
given_for p roots d o (a_value at path v) = for_purpose (purpose_of p roots d o path)
given_for p roots d o (a_group at path) = for_meaning (meaning_given p roots d o path)
given_for p roots d o (a_child at n) = for_child p roots d o (default_of p d o)
given_for p roots d o _ = g.Nothing

-- each of these is what the member of a row is given for
abbrev pub AllGiven : Program → Roots → ℕ → List GivenFor → List OwnedMember → Type 0
AllGiven p roots d [] [] = Unit {0}
AllGiven p roots d (x ∷ xs) (w ∷ ws) = (x ≡ given_for p roots d w.object w.member) × AllGiven p roots d xs ws
AllGiven p roots d [] (w ∷ ws) = ⊥
AllGiven p roots d (x ∷ xs) [] = ⊥

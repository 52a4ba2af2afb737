-- The names of each built-in type, and names put one after another.
use Rattle.std.proofs.Common.{◌≡◌, ◌∙◌, ap, sym, refl, ℕ, ◌+◌, ◌<◌, List, [], ◌∷◌, ◌++◌, map, drop, length, get_or, add-one}
use Rattle.std.proofs.Math.Seq.{drop-cons}
use Rattle.std.specs.List.{flat_map}
use Rattle.qml_base.specs.declared.names.Found.{Found}
use Rattle.qml_syntax.specs.Tree.{Units}
use Rattle.qml_types.specs.declared.kind.TypeNo.{TypeNo}
use Rattle.qml_types.specs.declared.kind.TypeNo.TheVariants as no
use Rattle.name_table.specs.Named.{put}
use Rattle.instance_names.specs.Names.{each_put, pairs_of_base, AreNames}

pub are_names : (t : TypeNo) → AreNames t
are_names no.QtObject units live plan n cells = refl
are_names no.Component units live plan n cells = refl
are_names no.Item units live plan n cells = refl
are_names no.Timer units live plan n cells = refl
are_names no.Connections units live plan n cells = refl
are_names no.Binding units live plan n cells = refl
are_names no.State units live plan n cells = refl
are_names no.PropertyChanges units live plan n cells = refl
are_names no.ListModel units live plan n cells = refl
are_names no.ListElement units live plan n cells = refl
are_names no.Repeater units live plan n cells = refl
are_names no.Loader units live plan n cells = refl
are_names no.Host units live plan n cells = refl

module _ {X : Type 0} where
  pub each_append : (names xs ys : List (Units × X)) → each_put names (xs ++ ys) ≡ each_put (each_put names xs) ys
  each_append names [] ys = refl
  each_append names (x ∷ xs) ys = each_append (put names (x.0) (x.1)) xs ys

pub bases_more : (n cells : ℕ) (d : TypeNo) (bases : List TypeNo) (i : ℕ) (before after : List (Units × Found)) → i < length bases
    → after ≡ each_put before (pairs_of_base n cells (get_or bases i d))
    → each_put after (flat_map (pairs_of_base n cells) (drop (i + 1) bases)) ≡ each_put before (flat_map (pairs_of_base n cells) (drop i bases))
bases_more n cells d bases i before after less e =
    let b = get_or bases i d in
    ap (λ ns. each_put ns (flat_map (pairs_of_base n cells) (drop (i + 1) bases))) e
    ∙ sym (each_append before (pairs_of_base n cells b) (flat_map (pairs_of_base n cells) (drop (i + 1) bases)))
    ∙ ap (λ m. each_put before (pairs_of_base n cells b ++ flat_map (pairs_of_base n cells) (drop m bases))) (add-one i)
    ∙ ap (λ bs. each_put before (flat_map (pairs_of_base n cells) bs)) (sym (drop-cons bases i d less))

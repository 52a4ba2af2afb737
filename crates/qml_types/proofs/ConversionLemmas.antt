-- Converting again.
use Rattle.std.proofs.Common.{◌≡◌, ◌≢◌, refl, sym, subst, List as list, [], Ok, false}
use Rattle.qml_value.specs.declared.value.Value.{Value, Text}
use Rattle.qml_value.specs.Kinds.{kind_of}
use Rattle.qml_value.specs.Texts.{text_of}
use Rattle.qml_types.specs.declared.kind.TypeRef.{TypeRef}
use Rattle.qml_types.specs.declared.kind.PropKind.{PropKind}
use Rattle.qml_types.specs.declared.kind.PropKind.TheVariants as kind
use Rattle.qml_types.specs.Conversion.{IsConverted, Takes, default_of}

-- where a value stays as it is
stays : (k : PropKind) (types : list TypeRef) (value as_kind : Value) → as_kind ≡ value → Takes k types (kind_of value) → Takes k types (kind_of as_kind)
stays k types value as_kind e takes = subst (λ v. Takes k types (kind_of v)) (sym e) takes

word : (value as_kind : Value) → as_kind ≡ Text (text_of value) → IsConverted kind.String [] as_kind (Ok as_kind)
word value as_kind e = subst (λ v. IsConverted kind.String [] v (Ok v)) (sym e) (tt, refl)

pub again : (k : PropKind) (types : list TypeRef) (value as_kind : Value) → IsConverted k types value (Ok as_kind) → IsConverted k types as_kind (Ok as_kind)
again kind.Int types value as_kind (takes, is) = (stays kind.Int types value as_kind is takes, refl)
again kind.Real types value as_kind (takes, is) = (stays kind.Real types value as_kind is takes, refl)
again kind.Double types value as_kind (takes, is) = (stays kind.Double types value as_kind is takes, refl)
again kind.String types value as_kind (takes, is) = word value as_kind is
again kind.Url types value as_kind (takes, is) = word value as_kind is
again kind.Color types value as_kind (takes, is) = word value as_kind is
again kind.Bool types value as_kind (takes, is) =
    subst (λ v. IsConverted kind.Bool types v (Ok v)) (sym is.1.0) (tt, (is.0, (refl, ((λ t. t), (λ t. t)))))
again kind.Var types value as_kind (takes, is) = (tt, refl)
again kind.Variant types value as_kind (takes, is) = (tt, refl)
again (kind.Object type) types value as_kind (takes, is) = (stays (kind.Object type) types value as_kind is takes, refl)
again kind.Component types value as_kind (takes, is) = (stays kind.Component types value as_kind is takes, refl)
again (kind.List type) types value as_kind (takes, is) = absurd takes

pub defaults : (k : PropKind) (types : list TypeRef) → ((type : TypeRef) → k ≢ kind.List type) → IsConverted k types (default_of k) (Ok (default_of k))
defaults kind.Int types other = (tt, refl)
defaults kind.Real types other = (tt, refl)
defaults kind.Double types other = (tt, refl)
defaults kind.String types other = (tt, refl)
defaults kind.Url types other = (tt, refl)
defaults kind.Color types other = (tt, refl)
defaults kind.Bool types other = (tt, (false, (refl, ((λ t. t), (λ t. t)))))
defaults kind.Var types other = (tt, refl)
defaults kind.Variant types other = (tt, refl)
defaults (kind.Object type) types other = (tt, refl)
defaults kind.Component types other = (tt, refl)
defaults (kind.List type) types other = absurd (other type refl)

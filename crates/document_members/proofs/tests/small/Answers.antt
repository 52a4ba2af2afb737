use Rattle.std.proofs.Common.{◌∙◌, ap, sym, [], ◌∷◌, false}
use Rattle.qml_base.specs.declared.numbers.Place.{Place}
use Rattle.qml_syntax.specs.declared.node.Node.TheVariants as node
use Rattle.qml_syntax.specs.Tree.{own_type, object, no_members, a_member, given, value_object}
use Rattle.document_members.proofs.tests.small.Goals as goal

abbrev at : Place
at = record { line = 1; column = 1 }

pub returns : goal.returns
returns c = (
  [],
  object (own_type c.args.first at)
      (a_member (given c.args.name at [] (value_object (object (own_type c.args.second at) no_members))) false no_members),
  sym (
      c.in_ok-push-10.ensures.added ∙ ap (λ nodes. node.Document ∷ nodes) (c.in_ok-push-9.ensures.added ∙ ap (λ nodes. node.Object ∷ nodes) (c.in_ok-push-8.ensures.added ∙ ap (λ nodes. node.Given ∷ nodes) (c.in_ok-push-7.ensures.added ∙ ap (λ nodes. node.Object ∷ nodes) (c.in_ok-push-6.ensures.added ∙ ap (λ nodes. node.Mark ∷ nodes) (c.in_ok-push-5.ensures.added ∙ ap (λ nodes. node.First c.args.second at ∷ nodes) (c.in_ok-push-4.ensures.added ∙ ap (λ nodes. node.First c.args.name at ∷ nodes) (c.in_ok-push-3.ensures.added ∙ ap (λ nodes. node.Mark ∷ nodes) (c.in_ok-push-2.ensures.added ∙ ap (λ nodes. node.First c.args.first at ∷ nodes) (c.in_ok-push.ensures.added ∙ ap (λ nodes. node.Mark ∷ nodes) (c.new-nodes.ensures))))))))))
      ),
)

-- Parts in a row.
use Rattle.std.proofs.Common.{◌≡◌, ap, refl, List, [], ◌∷◌}
use Rattle.qml_syntax.specs.Tree.{Stmts, no_stmts, a_stmt}
use Rattle.qml_syntax.specs.Nodes.{Item, of_stmt, top_stmt}
use Rattle.qml_syntax.specs.Opened.{stmts_parts}
use Rattle.js_locals.specs.Laid.{stmts_in}

pub first_is : (i j : Item) (is js : List Item) → i ∷ is ≡ j ∷ js → j ≡ i
first_is i j is js h = cc

pub rest_is : (i j : Item) (is js : List Item) → i ∷ is ≡ j ∷ js → js ≡ is
rest_is i j is js h = cc

pub stmt_alone_is : (i : Item) (is : List Item) → top_stmt (i ∷ is) ≡ top_stmt (i ∷ [])
stmt_alone_is (of_stmt d) is = refl
stmt_alone_is _ is = refl

pub stmts_are : (ss : Stmts) → stmts_in (stmts_parts ss) ≡ ss
stmts_are no_stmts = refl
stmts_are (a_stmt d ss) = ap (λ z. a_stmt d z) (stmts_are ss)

-- Values that are statements, at places.
use Rattle.std.proofs.Common.{◌≡◌, ◌∙◌, ap, sym, refl, ℕ, ◌<◌, ◌≤◌, ltb, arith, Bool, true, false, length}
use Rattle.std.proofs.lemmas.Bool.Decides.{nat_tests}
use Rattle.qml_syntax.specs.declared.node.Node.{Node}
use Rattle.qml_syntax.specs.Nodes.{mark, Table}
use Rattle.qml_syntax.specs.Opened.{item_at, node_of}
use Rattle.qml_syntax.specs.Places.{part_at}
use Rattle.numbered_bodies.specs.NumberedRows.{is_statement, is_statement_at}

part_there : (t : Table) (k : ℕ) → k < length t → part_at t k ≡ item_at t k
part_there t k h = let b : ltb k (length t) ≡ true = grind (arith, nat_tests) in rw b refl

no_part : (t : Table) (k : ℕ) → length t ≤ k → part_at t k ≡ mark
no_part t k h = let b : ltb k (length t) ≡ false = grind (arith, nat_tests) in rw b refl

pub statement_there : (t : Table) (at : ℕ) (n : Node) (b : Bool) → at < length t → n ≡ node_of (item_at t at) → b ≡ is_statement n → b ≡ is_statement_at t at
statement_there t at n b h e r = r ∙ ap is_statement (e ∙ ap node_of (sym (part_there t at h)))

pub nothing_there : (t : Table) (at : ℕ) → length t ≤ at → true ≡ is_statement_at t at
nothing_there t at h = sym (ap (λ i. is_statement (node_of i)) (no_part t at h))

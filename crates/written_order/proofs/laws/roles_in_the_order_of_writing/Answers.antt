use Rattle.written_order.proofs.NameLemmas.{roles_written_alike}
use Rattle.written_order.proofs.laws.roles_in_the_order_of_writing.Goals as goal

pub returns : goal.returns
returns c p d h = roles_written_alike p d h (c.roles_as_rows.ensures p d)

use Rattle.written_order.proofs.NameLemmas.{ids_written_alike}
use Rattle.written_order.proofs.laws.second_ids_in_the_order_of_writing.Goals as goal

pub returns : goal.returns
returns c p d h = ids_written_alike p d h (c.second_ids_as_rows.ensures p d)

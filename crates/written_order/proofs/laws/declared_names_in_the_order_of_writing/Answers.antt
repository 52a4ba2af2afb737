use Rattle.written_order.proofs.NameLemmas.{declared_written_alike}
use Rattle.written_order.proofs.laws.declared_names_in_the_order_of_writing.Goals as goal

pub returns : goal.returns
returns c p d h = declared_written_alike p d h (c.declared_names_as_rows.ensures p d)

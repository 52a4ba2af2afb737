use Rattle.written_order.proofs.MemberLemmas.{members_alike}
use Rattle.written_order.proofs.laws.members_in_the_order_of_writing.Goals as goal

pub returns : goal.returns
returns c p d f h = members_alike p d f h

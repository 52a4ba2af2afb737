use Rattle.std.proofs.Common.{◌≡◌, length}
use Rattle.read_order.specs.Order.{files_of, put_all}
use Rattle.read_order.proofs.put_all_in.Given as goal

-- what was put in and what is left give what all give
abbrev pub invariant-more : goal.invariant-more
invariant-more l = put_all (files_of l.files.keys) (files_of l.rest.rest.items) ≡ put_all (files_of l.fn.files.keys) (files_of l.fn.more.items)

abbrev pub decreases-more : goal.decreases-more
decreases-more l = length l.rest.rest.items

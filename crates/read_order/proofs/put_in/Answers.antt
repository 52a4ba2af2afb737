use Rattle.std.proofs.Common.{◌∙◌, ap}
use Rattle.read_order.specs.Order.{files_of}
use Rattle.read_order.proofs.OrderLemmas.{put_alike}
use Rattle.read_order.proofs.put_in.Goals as goal

pub returns : goal.returns
returns c = ap files_of c.in-Ok.ensures.keys ∙ put_alike c.args.files.now.keys c.args.file

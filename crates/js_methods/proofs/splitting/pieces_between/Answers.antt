use Rattle.std.proofs.Common.{arith}
use Rattle.js_methods.proofs.splitting.pieces_between.Goals as goal

pub overflow_add-rest : goal.overflow_add-rest
overflow_add-rest c = omega (arith, c.in-Some.ensures.within)

pub offset_bounds-rest-at : goal.offset_bounds-rest-at
offset_bounds-rest-at c = omega (arith, c.in-Some.ensures.within)

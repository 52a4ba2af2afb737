-- What closing in part leaves closes as all did.
use Rattle.std.proofs.Common.{◌≡◌, ℕ, Bool, sym, ap, ◌∙◌}
use Rattle.qml_syntax.specs.Nodes.{Table}
use Rattle.js_machine.specs.Moves.{Open, closed, close_at}
use Rattle.js_machine.specs.Kept.{closed_again}
use Rattle.js_machine.proofs.Again.{closed_stays}

pub closes_as_all : (i : ℕ) (fs : Open) (s : Table) (t : ℕ) (b : Bool) (gs : Open) (r : Table) (u : ℕ) (c : Bool) → close_at i fs s t b ≡ closed r gs u c → close_at 0 fs s t b ≡ close_at 0 gs r u c
closes_as_all i fs s t b gs r u c h = sym (closed_stays i fs s t b) ∙ ap closed_again h

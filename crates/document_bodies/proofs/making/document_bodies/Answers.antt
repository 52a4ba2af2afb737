use Rattle.document_bodies.proofs.MadeLemmas.{made_of}
use Rattle.document_bodies.proofs.making.document_bodies.Goals as goal

pub returns : goal.returns
returns c p names s told n h long none =
    made_of p c.args.tables.now.names.now.units.items c.args.tables.now.documents.now c.args.tables.now.signals.now c.args.document c.args.count c.args.tree names
    c.args.rows.now c.args.inside.now c.in-Ok.made c.in_ok-bodies.bodies s told n h long none c.in-Ok.ensures c.in_ok-bodies.ensures

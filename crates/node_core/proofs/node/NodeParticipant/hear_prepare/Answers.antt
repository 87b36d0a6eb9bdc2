use Rattle.node_core.proofs.Calling.{prepare_known}
use Rattle.node_core.proofs.Handling.{prepare_stands}
use Rattle.node_core.proofs.node.NodeParticipant.hear_prepare.Goals as goal

pub tell_vote-requires-clause-known : goal.tell_vote-requires-clause-known
tell_vote-requires-clause-known g c =
    let n = c.args.self.now in
    let f = c.requires.fits in
    prepare_known g.C.Control.stands g.C.Control.rule n.role n.control f.0 f.1.0 c.args.who c.args.bound c.args.writes.now c.args.appends.now f.1.1.participant f.1.2

pub returns-clause-stands : goal.returns-clause-stands
returns-clause-stands g c from ms stands fits =
    prepare_stands g.C.Control.stands g.C.Control.rule c.args.self.now c.prepare.new.self from ms c.args.who c.args.bound c.args.writes.now c.args.appends.now c.in_ok-writes.writes c.in_ok-appends.appends c.in-Ok.vote
    c.in_ok-writes.ensures c.in_ok-appends.ensures c.in-Ok.ensures.vote c.in-Ok.ensures.stands stands fits

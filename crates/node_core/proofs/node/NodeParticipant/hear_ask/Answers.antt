use Rattle.node_core.proofs.Handling.{ask_stands}
use Rattle.node_core.proofs.node.NodeParticipant.hear_ask.Goals as goal

pub returns-clause-stands : goal.returns-clause-stands
returns-clause-stands g c from ms stands fits =
    ask_stands g.C.Control.stands g.C.Control.rule c.args.self.now c.ask.new.self from ms c.args.who c.args.stamp c.args.key c.args.mode c.in_ok-answer.answer
    c.in_ok-answer.ensures.answer c.in_ok-answer.ensures.stands stands fits

use Rattle.std.proofs.Common.{arith}
use Rattle.node_core.proofs.Calling.{waits_few, may_abort, abort_known, abort_woken_known, abort_woken_few}
use Rattle.node_core.proofs.Handling.{abort_stands}
use Rattle.node_core.proofs.node.NodeParticipant.hear_abort.Goals as goal

pub overflow_add-waiting : goal.overflow_add-waiting
overflow_add-waiting g c =
    let n = c.args.self.now in
    let f = c.requires.fits in
    let may = may_abort g.C.Control.stands g.C.Control.rule n.role n.control f.0 f.1.0 c.args.who f.1.1.participant f.1.2 in
    let few = waits_few g.C.Control.stands g.C.Control.rule n.role n.control f.1.0 c.waiting.result may.short (c.waiting.ensures _ _ f.1.1.participant.calls) in
    omega (arith, few)

pub tell_end-requires-clause-known : goal.tell_end-requires-clause-known
tell_end-requires-clause-known g c =
    let n = c.args.self.now in
    let f = c.requires.fits in
    abort_known g.C.Control.stands g.C.Control.rule n.role n.control f.0 f.1.0 c.args.who f.1.1.participant f.1.2

pub tell_end-requires-clause-woken : goal.tell_end-requires-clause-woken
tell_end-requires-clause-woken g c =
    let n = c.args.self.now in
    let f = c.requires.fits in
    let may = may_abort g.C.Control.stands g.C.Control.rule n.role n.control f.0 f.1.0 c.args.who f.1.1.participant f.1.2 in
    abort_woken_known g.C.Control.stands g.C.Control.rule n.role n.control f.0 f.1.0 c.args.who f.1.1.participant f.1.2 c.new-woken.result c.abort.new.woken c.new-woken.ensures (c.in_ok-abort.ensures.woken _ _ f.1.1.participant.calls may)

pub tell_end-requires-clause-room : goal.tell_end-requires-clause-room
tell_end-requires-clause-room g c =
    let n = c.args.self.now in
    let f = c.requires.fits in
    let may = may_abort g.C.Control.stands g.C.Control.rule n.role n.control f.0 f.1.0 c.args.who f.1.1.participant f.1.2 in
    let few = abort_woken_few g.C.Control.stands g.C.Control.rule n.role n.control f.0 f.1.0 c.args.who f.1.1.participant f.1.2 c.new-woken.result c.abort.new.woken c.new-woken.ensures (c.in_ok-abort.ensures.woken _ _ f.1.1.participant.calls may) in
    let waiting = c.waiting.ensures _ _ f.1.1.participant.calls in
    omega (arith, few, waiting, c.in_ok-reserve.ensures.ok)

pub returns-clause-stands : goal.returns-clause-stands
returns-clause-stands g c from ms stands fits =
    abort_stands g.C.Control.stands g.C.Control.rule c.args.self.now c.abort.new.self from ms c.args.who c.in_ok-abort.ensures.stands stands fits

-- The state that the coordinator keeps of an attempt, and what a grant tells it.
use Rattle.server_core.specs.Received.{Reply}
use Rattle.coord.specs.declared.attempts.Attempting.{Attempting}
use Rattle.coord.specs.declared.replies.Grant.{Grant}
use Rattle.coord.specs.States.{State}

abbrev pub state_of : Attempting → State
state_of a = record { turn = a.turn; stamp = a.stamp; accesses = a.accesses; granted = a.granted; rows = a.rows; bound = a.bound; ballots = a.ballots.items; left = a.left.items }

abbrev pub reply_of : Grant → Reply
reply_of g = record { row = g.row.now; bound = g.bound; key = g.key }

use Rattle.std.proofs.Common.{◌≡◌, drop}
use Rattle.std.specs.List.{list_any}
use Rattle.coord.specs.Ballots.{says_no}
use Rattle.coord.proofs.ballots.any_says_no.Given as goal

-- the ballots that are left tell
abbrev pub invariant-loop-ballot : goal.invariant-loop-ballot
invariant-loop-ballot l = list_any says_no (drop l.ballot-index l.ballots) ≡ list_any says_no l.ballots

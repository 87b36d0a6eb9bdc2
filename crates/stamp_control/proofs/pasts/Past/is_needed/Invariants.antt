use Rattle.std.proofs.Common.{◌≡◌, drop}
use Rattle.stamp_control.specs.Picks.{is_needed}
use Rattle.stamp_control.proofs.pasts.Past.is_needed.Given as goal

-- none of the requests so far would read it
abbrev pub invariant-loop-request : goal.invariant-loop-request
invariant-loop-request l = is_needed (drop l.request-index l.requests) l.self.kept.items l.number ≡ is_needed l.requests l.self.kept.items l.number

use Rattle.std.proofs.Common.{◌≡◌, ◌++◌, take, drop, map}
use Rattle.stamp_lines.specs.Requests.{grants_to}
use Rattle.stamp_lines.proofs.requests.KeyAccesses.wake.Given as goal

-- those so far are looked at
abbrev pub invariant-loop-place : goal.invariant-loop-place
invariant-loop-place l = l.self-inside.requests.items ≡ map (grants_to l.who) (take l.place l.fn.self) ++ drop l.place l.fn.self

use Rattle.std.proofs.Common.{◌≡◌, map, take}
use Rattle.calvin_seq.specs.Trials.{one_read}
use Rattle.calvin_seq.proofs.tests.programs_of.Given as goal

-- those so far are made
abbrev pub invariant-loop-key : goal.invariant-loop-key
invariant-loop-key l = l.programs ≡ map one_read (take l.key-index l.keys)

-- The laws are lemmas.
use Rattle.protocol_rules.proofs.Greatest.{latest_greatest, latest_top, below_latest}
use Rattle.protocol_rules.proofs.Lefts.{left_greatest}
use Rattle.protocol_rules.proofs.laws.committed_writes_agree.Goals as goal

pub returns : goal.returns
returns c = record { latest = latest_greatest; top = latest_top; below = below_latest; left = left_greatest }

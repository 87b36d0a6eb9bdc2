-- The laws are lemmas.
use Rattle.protocol_rules.proofs.Served.{served}
use Rattle.protocol_rules.proofs.Voting.{votes_or_not, choice}
use Rattle.protocol_rules.proofs.laws.protocols_are_served.Goals as goal

pub returns : goal.returns
returns c = record { votes = votes_or_not; chooses = choice; served = served }

-- A voting protocol is of the one family, and Calvin of the other: what holds of the family holds of the protocol.
use Rattle.std.proofs.Common.{◌≡◌, ap}
use Rattle.deneva_base.specs.declared.config.Protocol.{Protocol}
use Rattle.deneva_base.specs.declared.config.Protocol.TheVariants.{Calvin}
use Rattle.protocol_rules.specs.Protocols.{IsVoting}
use Rattle.protocol_rules.proofs.Voting.{choice}
use Rattle.server_core.specs.Family.{family_of, family, voting, calvin}

pub family_votes : (p : Protocol) → IsVoting p → family p ≡ voting
family_votes p votes = ap family_of (choice p votes).1

pub family_orders : (p : Protocol) → p ≡ Calvin → family p ≡ calvin
family_orders p is = ap family is

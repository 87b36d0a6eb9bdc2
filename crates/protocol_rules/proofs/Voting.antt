-- Which protocols vote: those that choose a rule, and all but Calvin.
use Rattle.std.proofs.Common.{◌≡◌, ◌⊎◌, Option, Some, refl, sym, subst, inl, inr}
use Rattle.deneva_base.specs.declared.config.Protocol.{Protocol}
use Rattle.deneva_base.specs.declared.config.Protocol.TheVariants.{Calvin}
use Rattle.protocol_rules.specs.Protocols.{Chosen, chosen, IsVoting}

pub votes_or_not : (p : Protocol) → IsVoting p ⊎ (p ≡ Calvin)
votes_or_not Calvin = inr refl
votes_or_not p = inl (λ e. cc (e))

pub choice : (p : Protocol) → IsVoting p → (o : Chosen) × (chosen p ≡ Some o)
choice Calvin votes = absurd (votes refl)
choice p votes = (_, refl)

-- what holds where some rule is chosen holds under a voting protocol
pub by_choice : (P : Option Chosen → Type 0) (p : Protocol) → IsVoting p → ((o : Chosen) → P (Some o)) → P (chosen p)
by_choice P p votes h = let o = choice p votes in subst P (sym o.1) (h o.0)

-- The laws are lemmas on each rule.
use Rattle.std.proofs.Common.{◌≡◌, List, [], ◌∷◌, true, false, Some, refl, sym, subst, inl, ⊎_elim}
use Rattle.deneva_base.specs.Lists.{IsIn}
use Rattle.deneva_base.specs.Rows.{Rows}
use Rattle.deneva_base.specs.declared.config.Protocol.{Protocol}
use Rattle.deneva_base.specs.declared.config.Protocol.TheVariants.{NoWait, WaitDie, Timestamp, Mvcc, Maat, Calvin}
use Rattle.protocol_rules.specs.History.{History, Asked, waits}
use Rattle.protocol_rules.specs.Maat.{maat}
use Rattle.protocol_rules.specs.Mvcc.{mvcc}
use Rattle.protocol_rules.specs.NoWait.{no_wait}
use Rattle.protocol_rules.specs.Protocols.{Chosen, chosen, kept_versions, window_span}
use Rattle.protocol_rules.specs.Rules.{Obeys}
use Rattle.protocol_rules.specs.Timestamp.{timestamp}
use Rattle.protocol_rules.specs.WaitDie.{wait_die}
use Rattle.protocol_rules.specs.WaitsOf.{WaitsOf}
use Rattle.protocol_rules.proofs.Maats.{ranging}
use Rattle.protocol_rules.proofs.Mvccs.{stamping}
use Rattle.protocol_rules.proofs.NoWaits.{no_wait_waits}
use Rattle.protocol_rules.proofs.Rangeds as ranged
use Rattle.protocol_rules.proofs.Stamping as stamped
use Rattle.protocol_rules.proofs.Timestamps as stamps
use Rattle.protocol_rules.proofs.WaitDies.{wait_die_waits}
use Rattle.protocol_rules.proofs.waits_laws.protocols_wait.Goals as goal

rule_of : (o k : Chosen) → Some k ≡ Some o → (loaded : Rows) (h : History) → Obeys loaded (o.rule loaded) h → Obeys loaded (k.rule loaded) h
rule_of o k e loaded h b = let is : k ≡ o = cc in subst (λ (z : Chosen). Obeys loaded (z.rule loaded) h) (sym is) b

by_protocol : (p : Protocol) (o : Chosen) (loaded : Rows) (h : History) → chosen p ≡ Some o → Obeys loaded (o.rule loaded) h → WaitsOf p h
by_protocol NoWait o loaded h e b = no_wait_waits loaded h (rule_of o (record { fixed = true; rule = no_wait }) e loaded h b)
by_protocol WaitDie o loaded h e b = wait_die_waits loaded h (rule_of o (record { fixed = true; rule = wait_die }) e loaded h b)
by_protocol Timestamp o loaded h e b = stamped.waits_law false loaded (timestamp loaded) (stamps.stamping loaded) h (rule_of o (record { fixed = false; rule = timestamp }) e loaded h b)
by_protocol Mvcc o loaded h e b = stamped.waits_law true loaded (mvcc kept_versions loaded) (stamping kept_versions loaded) h (rule_of o (record { fixed = false; rule = mvcc kept_versions }) e loaded h b)
by_protocol Maat o loaded h e b = ranged.waits_law loaded (maat window_span loaded) (ranging window_span loaded) h (rule_of o (record { fixed = true; rule = maat window_span }) e loaded h b)
by_protocol Calvin o loaded h e b = tt

empty : (ws : List Asked) → ((a : Asked) → IsIn a ws → ⊥) → ws ≡ []
empty [] h = refl
empty (a ∷ ws) h = absurd (h a (inl refl))

pub returns : goal.returns
returns c = record {
  law = by_protocol;
  none = λ p o loaded h e is b.
      ⊎_elim
      (λ n. empty (waits h) (subst (λ z. WaitsOf z h) n (by_protocol p o loaded h e b)))
      (λ m. empty (waits h) (subst (λ z. WaitsOf z h) m (by_protocol p o loaded h e b)))
      is;
}

-- An attempt that has not ended passes the test for it, and the other way round.
use Rattle.std.proofs.Common.{◌≡◌, Bool, true, false, not, refl, sym, ap, ◌∙◌, subst, true≢false}
use Rattle.deneva_base.specs.Keys.{attempt_eq}
use Rattle.deneva_base.specs.Lists.{IsIn}
use Rattle.deneva_base.specs.declared.numbers.Attempt.{Attempt}
use Rattle.deneva_base.proofs.Membership.{any_at, any_found, attempt_decides}
use Rattle.protocol_rules.specs.History.{History, IsUnended, ended}
use Rattle.protocol_rules.specs.Latest.{has_ended}

pub not_ended : (h : History) (who : Attempt) → IsUnended h who → not (has_ended h who) ≡ true
not_ended h who u = go (has_ended h who) refl
  where
    go : (b : Bool) → has_ended h who ≡ b → not b ≡ true
    go false e = refl
    go true e = let f = any_found (attempt_eq who) (ended h) e in absurd (u (subst (λ a. IsIn a (ended h)) (sym ((attempt_decides who f.0).0 f.2)) f.1))

pub is_unended : (h : History) (who : Attempt) → not (has_ended h who) ≡ true → IsUnended h who
is_unended h who e i = true≢false (sym e ∙ ap not (any_at (attempt_eq who) who (ended h) i ((attempt_decides who who).1 refl)))

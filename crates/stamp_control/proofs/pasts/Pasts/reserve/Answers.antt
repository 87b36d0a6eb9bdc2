use Rattle.std.proofs.Common.{rules, ◌≡◌, sym, ap, ◌∙◌, cond, Some, subst, refl, arith}
use Rattle.std.specs.Map.{lookup}
use Rattle.std.specs.HashMap as table
use Rattle.deneva_base.specs.declared.keys.Key.{Key}
use Rattle.key_table.specs.Keys.{same_key}
use Rattle.stamp_control.specs.declared.pasts.Past.{Past}
use Rattle.stamp_control.specs.Pasts.{Kept, past_in, past_of, Wider}
use Rattle.stamp_control.proofs.Places.{wider_at}
use Rattle.stamp_control.proofs.pasts.Pasts.reserve.Goals as goal

pub returns-in-Some-clause-same : goal.returns-in-Some-clause-same
returns-in-Some-clause-same c =
    let e = c.reserve.ensures in
    wider_at c.args.self.now.pasts.entries (c.get_mut.follows.lender c.reserve.new.self).entries c.args.key c.reserve.new.self
    (subst (λ (p : Kept). Wider p (past_of c.reserve.new.self)) (ap past_in c.in-Some.ensures.value) (record { read = e.read; versions = e.kept; spare = e.spare; present = λ x. x }))
    ((c.get_mut.follows.holds c.reserve.new.self).3 (search rules)).0

pub returns-clause-same : goal.returns-clause-same
returns-clause-same c =
    let none : lookup (same_key c.args.key) c.args.self.now.pasts.entries ≡ _ = sym c.in_default.ensures.value in
    let e = c.reserve-2.ensures in
    wider_at c.args.self.now.pasts.entries c.insert.new.self.entries c.args.key c.reserve-2.new.self
    (subst (λ (p : Kept). Wider p (past_of c.reserve-2.new.self)) (ap past_in (sym none)) (record { read = e.read ∙ c.new-past.ensures.read; versions = e.kept ∙ c.new-past.ensures.kept; spare = omega arith; present = λ x. refl }))
    (λ q. c.in_ok-insert.ensures.updates.0 q ∙ ap (λ (m : table.HashMap Key Past _). cond (same_key c.args.key q) (Some c.reserve-2.new.self) (lookup (same_key q) m.entries)) c.get_mut.follows.holds-at-none)

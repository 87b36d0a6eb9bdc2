-- How far the numbers of a rule by ranges rise.
use Rattle.std.proofs.Common.{◌≡◌, ℕ, suc, ◌+◌, ◌≤◌, max, List, Bool, true, false, cond, not, ◌&&◌, refl, ap, ◌∙◌, ⊎_elim, arith, Some}
use Rattle.deneva_base.specs.declared.keys.Key.{Key}
use Rattle.deneva_base.specs.declared.numbers.Attempt.{Attempt}
use Rattle.deneva_base.specs.declared.numbers.Number.{Number}
use Rattle.deneva_base.specs.declared.keys.Mode.{Mode}
use Rattle.deneva_base.specs.declared.keys.Mode.TheVariants.{Read, Update, Put}
use Rattle.deneva_base.specs.Lists.{IsIn}
use Rattle.deneva_base.specs.Rows.{Row, Rows}
use Rattle.deneva_base.specs.Modes.{reads}
use Rattle.deneva_base.specs.Keys.{attempt_eq}
use Rattle.deneva_base.specs.declared.answers.Answer.TheVariants.{Granted}
use Rattle.deneva_base.specs.declared.causes.Bound.{Bound}
use Rattle.deneva_base.specs.declared.rows.Keyed.{Keyed}
use Rattle.protocol_rules.specs.History.{History, Decided, Yea, grants, yeas, decided}
use Rattle.protocol_rules.specs.Windows.{IsVersion}
use Rattle.protocol_rules.specs.Conditions.{MayAsk}
use Rattle.protocol_rules.specs.Rules.{Rule, Obeys}
use Rattle.protocol_rules.specs.Latest.{latest, has_ended}
use Rattle.deneva_base.proofs.Membership.{reading_decides}
use Rattle.protocol_rules.proofs.Sound.{sound}
use Rattle.protocol_rules.specs.Ranged.{lists, accessed, past_committed, past_prepared, past, bound_of, low_of, low}
use Rattle.protocol_rules.proofs.Rangeds.{Ranging, versions}
use Rattle.protocol_rules.proofs.Belows.{greatest_le}

-- all numbers that the partition has seen are at most this: those of commits and the upper ends of votes
pub record IsUnder (most : ℕ) (h : History) : Type 0 where
  pub numbers : (d : Decided) → IsIn d (decided h) → d.number.n ≤ most
  pub uppers : (y : Yea) → IsIn y (yeas h) → y.hi ≤ most

cond_le : (m : ℕ) (b : Bool) (x : ℕ) → (b ≡ true → x ≤ m) → cond b x 0 ≤ m
cond_le m true x f = f refl
cond_le m false x f = omega arith

module _ (loaded : Rows) (rule : Rule) (by : Ranging loaded rule) where
  version_le : (most : ℕ) (h : History) (key : Key) (v : Number) (row : Row) → ((d : Decided) → IsIn d (decided h) → d.number.n ≤ most) → IsVersion loaded h key v row → v.n ≤ most
  version_le most h key v row f x = ⊎_elim (λ l. omega (arith, ap (λ z. z.n) l.0)) (λ d. omega (arith, ap (λ z. z.n) d.2, f d.0 d.1)) x

  module _ (most : ℕ) (h : History) (o : Obeys loaded rule h) (u : IsUnder most h) where
    past_le : (key : Key) → past h key ≤ most + 1
    past_le key =
        omega (
          arith,
          greatest_le (past_committed h key) (most + 1) (decided h) (λ d i. cond_le (most + 1) (accessed h d.who key) (suc d.number.n) (λ t. omega (arith, u.numbers d i))),
          greatest_le (past_prepared h key) (most + 1) (yeas h) (λ y i. cond_le (most + 1) (not (has_ended h y.who) && accessed h y.who key) (suc y.hi) (λ t. omega (arith, u.uppers y i))),
        )

    bound_le : (key : Key) (mode : Mode) (row : Row) → loaded key ≡ Some row → bound_of loaded h key mode ≤ most + 1
    bound_le key mode row is = go mode
      where
        top : (latest loaded h key).number.n ≤ most
        top = version_le most h key (latest loaded h key).number (latest loaded h key).row u.numbers ((sound loaded rule h o).found key row is)

        go : (m : Mode) → bound_of loaded h key m ≤ most + 1
        go Read = omega (arith, top)
        go Update = omega (arith, top, past_le key)
        go Put = omega (arith, past_le key)

    pub low_le : (who : Attempt) (bound : Bound) (ws : List Keyed) → bound.n ≤ most → low h who bound ws ≤ most + 1
    low_le who bound ws b =
        omega (
          arith,
          b,
          greatest_le (low_of h who ws) (most + 1) (grants h) (λ g i. cond_le (most + 1) (attempt_eq g.who who) (max (cond (reads g.mode) (suc g.version.n) 0) (cond (lists ws g.key) (past h g.key) 0)) (λ t.
              omega (
                arith,
                cond_le (most + 1) (reads g.mode) (suc g.version.n) (λ q. omega (arith, version_le most h g.key g.version g.row u.numbers (versions loaded rule by h o g i ((reading_decides g.mode).0 q)))),
                cond_le (most + 1) (lists ws g.key) (past h g.key) (λ q. past_le g.key),
              ))),
        )

    pub bound_step : (who : Attempt) (stamp : ℕ) (key : Key) (mode : Mode) (row : Row) (version : Number) (bound : ℕ) → MayAsk loaded h who stamp key → Granted row version bound ≡ rule.ask h who stamp key mode → bound ≤ most + 1
    bound_step who stamp key mode row version bound may e =
        ⊎_elim
        (λ q.
        let is : bound ≡ bound_of loaded h key mode = cc (e ∙ q) in
        omega (arith, is, bound_le key mode may.here.0 may.here.1))
        (λ c. absurd (cc (e ∙ c.1)))
        (by.ask h who stamp key mode)

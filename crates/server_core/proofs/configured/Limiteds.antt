-- Every configuration within its ranges and every valid workload keep runs within their limits.
use Rattle.std.proofs.Common.{◌≡◌, ℕ, suc, ◌+◌, ◌*◌, ◌≤◌, List, [], ◌∷◌, length, inl, inr, refl, arith}
use Rattle.protocol_rules.specs.Growth.{Grows}
use Rattle.deneva_base.specs.Lists.{IsIn}
use Rattle.deneva_base.specs.declared.config.Config.{Config}
use Rattle.deneva_base.specs.declared.numbers.TxnId.{TxnId}
use Rattle.txn_program.specs.Valid.{IsValid}
use Rattle.txn_program.specs.declared.programs.Workload.{Workload}
use Rattle.txn_program.proofs.WorkloadLaws as law
use Rattle.server_core.specs.Configs.{IsConfig}
use Rattle.protocol_rules.specs.Protocols.{IsVoting}
use Rattle.server_core.specs.Limits.{most_of, sum_of, most_events, Limits}
use Rattle.server_core.specs.Setting.{Setting, setting, partitions_of}
use Rattle.server_core.proofs.configured.ValidSettings.{rule_served}

times_le : (a b k : ℕ) → a ≤ b → a * k ≤ b * k
times_le a b k h = grind (arith, h)

sum_within : {A : Type 0} (f : A → ℕ) (most : ℕ) (xs : List A) → ((x : A) → IsIn x xs → f x ≤ most) → sum_of f xs ≤ length xs * most
sum_within f most [] h = omega arith
sum_within f most (x ∷ xs) h = omega (arith, h x (inl refl), sum_within f most xs (λ y i. h y (inr i)), one_more (length xs) most)
  where
    one_more : (n m : ℕ) → suc n * m ≡ m + n * m
    one_more n m = grind arith

-- 10,000 transactions of at most 18 accesses at 16 partitions, with 8 attempts each, have at most 8,080,000 events
events_within : (s : Setting) → s.attempts ≤ 8 → length s.ids ≤ 10000 → ((x : TxnId) → (length (s.accesses x) ≤ 18) × (length (partitions_of s.parts (s.accesses x)) ≤ 16)) → most_events s ≤ 8080000
events_within s eight ids each =
    let all = sum_within (λ x. s.attempts * most_of s x) 808 s.ids (λ x i. of_one s.attempts (most_of s x) eight (omega (arith, (each x).0, (each x).1))) in
    omega (arith, all, ids)
  where
    of_one : (a b : ℕ) → a ≤ 8 → b ≤ 101 → a * b ≤ 808
    of_one a b h l = omega (arith, times_le a 8 b h, l)

-- so they keep all numbers below 2^48, under each rule whose span is at most 8,192
limits_within : (s : Setting) (span : ℕ) → Grows s.rule span → span ≤ 8192 → s.parts ≤ 16 → s.attempts ≤ 8 → length s.ids ≤ 10000 → ((x : TxnId) → (length (s.accesses x) ≤ 18) × (length (partitions_of s.parts (s.accesses x)) ≤ 16)) → Limits s
limits_within s span g within parts eight ids each =
    let events = events_within s eight ids each in
    record { span = span; grows = g; short = omega (arith, events); small = omega (arith, in_all (most_events s) (span + 2 * s.parts) events (omega (arith, within, parts))) }
  where
    in_all : (a b : ℕ) → a ≤ 8080000 → b ≤ 8224 → a * b ≤ 66449920000
    in_all a b h l = omega (arith, times_le a 8080000 b h, l)

pub limits : (c : Config) (w : Workload) → IsConfig c → IsValid w → IsVoting c.protocol → Limits (setting c w)
limits c w config v votes =
    let served = rule_served c.protocol votes in
    limits_within (setting c w) served.span served.grows served.short config.few_parts config.few_attempts (law.few_ids w v)
    (λ x. (law.few_accesses w v x, omega (arith, law.few_participants w v x c.parts, config.few_parts)))

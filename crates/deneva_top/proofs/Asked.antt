-- The configuration that words give is in its ranges.
use Rattle.std.proofs.Common.{◌≡◌, ◌≤◌, ℕ, Bool, true, false, List, [], ◌∷◌, Option, Some, None, refl, sym, ap, ◌∙◌, subst, arith}
use Rattle.std.specs.Prelude.{not, ◌&&◌, ◌==◌, nat_le, length, if◌then◌else◌, option_and_then, codes, Ok, Err}
use Rattle.std.specs.Result.{result_ok}
use Rattle.std.specs.Str.{bytes_eq}
use Rattle.std.proofs.lemmas.Bool.{false≢true}
use Rattle.std.proofs.lemmas.Bool.Decides.{nat_tests}
use Rattle.std.proofs.lemmas.Option.{same_Some, none-some}
use Rattle.deneva_base.specs.declared.config.Config.{Config}
use Rattle.deneva_base.specs.declared.config.Protocol.{Protocol}
use Rattle.server_core.specs.Configs.{IsConfig}
use Rattle.server_core.specs.declared.schedules.Schedule.{Schedule}
use Rattle.server_core.specs.declared.schedules.Schedule.TheVariants.{Fifo}
use Rattle.workload_text.specs.Numbers.{is_number, value_of}
use Rattle.deneva_top.specs.Options.{Given, read_or, value_at, options_of}
use Rattle.deneva_base.specs.ProtocolWords.{protocol_of}
use Rattle.deneva_top.specs.Words.{number, schedule_of, config_of, replay_of, replay_options, command_of}
use Rattle.deneva_top.specs.declared.words.Command.{Command}
use Rattle.deneva_top.specs.declared.words.Command.TheVariants.{Serial, Replay}
use Rattle.workload_text.specs.declared.faults.FaultKind.{FaultKind}
use Rattle.workload_text.specs.declared.faults.FaultKind.TheVariants.{NotANumber, OutOfRange}

-- a number that is read lies between its limits
number-between : (low high : ℕ) (word : List ℕ) (n : ℕ) → number low high word ≡ Some n → (low ≤ n) × (n ≤ high)
number-between low high word n e = go (is_number word) (nat_le low (value_of word)) refl (nat_le (value_of word) high) refl e
  where
    go : (a b : Bool) → nat_le low (value_of word) ≡ b → (c : Bool) → nat_le (value_of word) high ≡ c
        → result_ok (if not a then Err NotANumber else if b && c then Ok (value_of word) else Err OutOfRange) ≡ Some n → (low ≤ n) × (n ≤ high)
    go false b is_b c is_c e = absurd (none-some n e)
    go true false is_b c is_c e = absurd (none-some n e)
    go true true is_b false is_c e = absurd (none-some n e)
    go true true is_b true is_c e =
        let same : value_of word ≡ n = same_Some _ _ e in
        (grind (arith, nat_tests, is_b, same), grind (arith, nat_tests, is_c, same))

read_or-between : (low high default : ℕ) (o : Option (List ℕ)) (n : ℕ) → low ≤ default → default ≤ high → read_or default (number low high) o ≡ Some n → (low ≤ n) × (n ≤ high)
read_or-between low high default None n a b e = let same : default ≡ n = same_Some _ _ e in (omega (arith, a, same), omega (arith, b, same))
read_or-between low high default (Some word) n a b e = number-between low high word n e

config_of-ranges : (given : List Given) (c : Config) → config_of given ≡ Some c → IsConfig c
config_of-ranges given c e =
    go
    (option_and_then protocol_of (value_at (codes "--protocol") given))
    (read_or 1 (number 1 16) (value_at (codes "--partitions") given))
    (read_or 8 (number 1 8) (value_at (codes "--attempts") given))
    (read_or 16 (number 1 64) (value_at (codes "--limit") given))
    (λ n is. read_or-between 1 16 1 (value_at (codes "--partitions") given) n (omega arith) (omega arith) is)
    (λ n is. read_or-between 1 8 8 (value_at (codes "--attempts") given) n (omega arith) (omega arith) is)
    (λ n is. read_or-between 1 64 16 (value_at (codes "--limit") given) n (omega arith) (omega arith) is)
    e
  where
    go : (o : Option Protocol) (p a l : Option ℕ)
        → ((n : ℕ) → p ≡ Some n → (1 ≤ n) × (n ≤ 16)) → ((n : ℕ) → a ≡ Some n → (1 ≤ n) × (n ≤ 8)) → ((n : ℕ) → l ≡ Some n → (1 ≤ n) × (n ≤ 64))
        → option_and_then (λ protocol. option_and_then (λ parts. option_and_then (λ attempts. option_and_then (λ limit. Some (record { protocol = protocol; parts = parts; attempts = attempts; limit = limit })) l) a) p) o ≡ Some c
        → IsConfig c
    go None p a l few_p few_a few_l e = absurd (none-some _ e)
    go (Some o) None a l few_p few_a few_l e = absurd (none-some _ e)
    go (Some o) (Some p) None l few_p few_a few_l e = absurd (none-some _ e)
    go (Some o) (Some p) (Some a) None few_p few_a few_l e = absurd (none-some _ e)
    go (Some o) (Some p) (Some a) (Some l) few_p few_a few_l e =
        let d : Config = record { protocol = o; parts = p; attempts = a; limit = l } in
        let ranges : IsConfig d = record { some_parts = (few_p p refl).0; few_parts = (few_p p refl).1; some_attempts = (few_a a refl).0; few_attempts = (few_a a refl).1; some_open = (few_l l refl).0; few_open = (few_l l refl).1 } in
        let is : d ≡ c = same_Some _ _ e in
        subst IsConfig is ranges

abbrev replayed : Config → Command → Config
replayed c Serial = c
replayed c (Replay config schedule) = config

abbrev is_replay : Command → Bool
is_replay Serial = false
is_replay (Replay config schedule) = true

no_serial : (c : Config) (schedule : Schedule) → Some Serial ≡ Some (Replay c schedule) → ⊥
no_serial c schedule e = false≢true (ap is_replay (same_Some _ _ e))

replay_of-ranges : (given : List Given) (c : Config) (schedule : Schedule) → replay_of given ≡ Some (Replay c schedule) → IsConfig c
replay_of-ranges given c schedule e = go (config_of given) (read_or Fifo schedule_of (value_at (codes "--order") given)) refl e
  where
    go : (o : Option Config) (order : Option Schedule) → config_of given ≡ o → option_and_then (λ config. option_and_then (λ schedule. Some (Replay config schedule)) order) o ≡ Some (Replay c schedule) → IsConfig c
    go None order is e = absurd (none-some _ e)
    go (Some d) None is e = absurd (none-some _ e)
    go (Some d) (Some order) is e = config_of-ranges given c (is ∙ ap (λ (x : Command). Some (replayed d x)) (same_Some _ _ e))

-- what is asked is in its ranges
pub command_of-ranges : (words : List (List ℕ)) (c : Config) (schedule : Schedule) → command_of words ≡ Some (Replay c schedule) → IsConfig c
command_of-ranges [] c schedule e = absurd (none-some _ e)
command_of-ranges (word ∷ words) c schedule e = go (bytes_eq word (codes "serial")) (bytes_eq word (codes "replay")) (options_of [] words) (options_of replay_options words) e
  where
    go : (a b : Bool) (none some : Option (List Given)) → (if a then option_and_then (λ given. Some Serial) none else if b then option_and_then replay_of some else None) ≡ Some (Replay c schedule) → IsConfig c
    go true b None some e = absurd (none-some _ e)
    go true b (Some given) some e = absurd (no_serial c schedule e)
    go false true none None e = absurd (none-some _ e)
    go false true none (Some given) e = replay_of-ranges given c schedule e
    go false false none some e = absurd (none-some _ e)

-- The words of a command line, and the command that they give.
use Rattle.std.specs.Prelude.{ℕ, ◌==◌, List, [], ◌∷◌, map, length, drop, nat_eq, nat_le, if◌then◌else◌, codes, Option, Some, None, option_map, option_and_then}
use Rattle.std.specs.List.{slice_split, starts_with}
use Rattle.std.specs.Result.{result_ok}
use Rattle.std.specs.Str.{bytes_eq}
use Rattle.deneva_base.specs.ProtocolWords.{protocol_of}
use Rattle.deneva_base.specs.declared.config.Config.{Config}
use Rattle.server_core.specs.declared.schedules.Schedule.{Schedule}
use Rattle.server_core.specs.declared.schedules.Schedule.TheVariants.{Fifo, Lifo, Seed, Listed}
use Rattle.deneva_top.specs.declared.words.Command.{Command}
use Rattle.deneva_top.specs.declared.words.Command.TheVariants.{Serial, Replay}
use Rattle.workload_text.specs.Numbers.{number_in}
use Rattle.deneva_top.specs.Options.{Given, options_of, value_at, read_or}

-- one definition after another, up to the first that gives nothing
infixl 10 ◌>>=◌
abbrev pub ◌>>=◌ : {A B : Type 0} → Option A → (A → Option B) → Option B
o >>= f = option_and_then f o

-- a number between two limits
abbrev pub number : ℕ → ℕ → List ℕ → Option ℕ
number low high word = result_ok (number_in low high word)

-- all values, where each is there
abbrev pub all_of : {A : Type 0} → List (Option A) → Option (List A)
all_of [] = Some []
all_of (o ∷ more) = do
  x ← o
  xs ← all_of more
  Some (x ∷ xs)

-- 1 to 1,000 numbers of 32 bits, joined by points
abbrev pub numbers_of : List ℕ → Option (List ℕ)
numbers_of text =
    let parts = slice_split (λ b. b == 46) text in
    if nat_le (length parts) 1000 then all_of (map (number 0 4294967295) parts) else None

-- a schedule: `fifo`, `lifo`, `seed:S` or `list:K.K.K`
abbrev pub schedule_of : List ℕ → Option Schedule
schedule_of word =
    if bytes_eq word (codes "fifo") then Some Fifo
    else if bytes_eq word (codes "lifo") then Some Lifo
    else if starts_with nat_eq word (codes "seed:") then option_map Seed (number 0 18446744073709551615 (drop 5 word))
    else if starts_with nat_eq word (codes "list:") then option_map Listed (numbers_of (drop 5 word))
    else None

-- the options of `replay`: the protocol is required, and the others have defaults
abbrev pub replay_options : List (List ℕ)
replay_options = codes "--protocol" ∷ codes "--partitions" ∷ codes "--attempts" ∷ codes "--limit" ∷ codes "--order" ∷ []

abbrev pub config_of : List Given → Option Config
config_of given = do
  protocol ← option_and_then protocol_of (value_at (codes "--protocol") given)
  parts ← read_or 1 (number 1 16) (value_at (codes "--partitions") given)
  attempts ← read_or 8 (number 1 8) (value_at (codes "--attempts") given)
  limit ← read_or 16 (number 1 64) (value_at (codes "--limit") given)
  Some (record { protocol = protocol; parts = parts; attempts = attempts; limit = limit })

abbrev pub replay_of : List Given → Option Command
replay_of given = do
  config ← config_of given
  schedule ← read_or Fifo schedule_of (value_at (codes "--order") given)
  Some (Replay config schedule)

-- the command that words give, if they give one: its word, and then its options
abbrev pub command_of : List (List ℕ) → Option Command
command_of [] = None
command_of (word ∷ words) =
    if bytes_eq word (codes "serial") then option_map (λ given. Serial) (options_of [] words)
    else if bytes_eq word (codes "replay") then option_and_then replay_of (options_of replay_options words)
    else None

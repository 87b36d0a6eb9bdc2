-- What the tables have for a key.
use Rattle.std.specs.Prelude.{◌≡◌, ℕ, List, [], ◌∷◌, ◌++◌, length, Bool, true, false, ◌&&◌, Option, Some, None, option_map, if◌then◌else◌}
use Rattle.std.specs.Map.{lookup}
use Rattle.deneva_base.specs.declared.keys.Key.{Key}
use Rattle.deneva_base.specs.declared.numbers.Attempt.{Attempt}
use Rattle.deneva_base.specs.declared.numbers.Number.{Number}
use Rattle.deneva_base.specs.declared.rows.Keyed.{Keyed}
use Rattle.deneva_base.specs.declared.rows.Cell.{Cell}
use Rattle.deneva_base.specs.declared.causes.Cause.{Cause}
use Rattle.protocol_rules.specs.Latest.{row_for}
use Rattle.deneva_base.specs.Modes.{reads}
use Rattle.row_store.specs.declared.versions.Version.{Version}
use Rattle.chain_control.specs.declared.requests.Request.{Request}
use Rattle.chain_control.specs.declared.requests.Waiter.{Waiter}
use Rattle.chain_control.specs.declared.links.ReadVersion.{ReadVersion}
use Rattle.chain_control.specs.declared.lines.Lines.{Lines}
use Rattle.key_table.specs.Keys.{same_key}
use Rattle.chain_control.specs.Requests.{is_stopped, stamp_among}
use Rattle.chain_control.specs.Links.{link_below}
use Rattle.chain_control.specs.Chains.{Chain, chain_of, opened, refusal, low_of, committed, without, granted, trimmed, goers}

abbrev pub chain_at : Lines → Key → Option Chain
chain_at t key = option_map chain_of (lookup (same_key key) t.lines.entries)

abbrev pub opened_in : Version → Option Chain → Option Chain
opened_in v None = Some (opened v)
opened_in v (Some c) = Some c

abbrev pub below_in : ℕ → Option Chain → Option ReadVersion
below_in stamp None = None
below_in stamp (Some c) = link_below stamp None c.links

abbrev pub refusal_in : Key → Request → Option Chain → Option Cause
refusal_in key r None = None
refusal_in key r (Some c) = refusal key r c

abbrev pub stopped_in : Request → Option Chain → Bool
stopped_in r None = false
stopped_in r (Some c) = reads r.mode && is_stopped (low_of r.stamp c) r.stamp c.requests

abbrev pub stamp_in : Attempt → Option Chain → ℕ
stamp_in who None = 0
stamp_in who (Some c) = stamp_among who c.requests

-- a key that nobody has asked for has the loaded version
abbrev pub kept_in : Option Chain → ℕ
kept_in None = 1
kept_in (Some c) = length c.links

-- the number of a commit, where the key has a row
abbrev pub new_of : Option Number → Option (List Cell) → Option Number
new_of number None = None
new_of number (Some row) = number

abbrev pub goers_in : Key → Attempt → Option Number → Option Chain → List Waiter
goers_in key ended new None = []
goers_in key ended new (Some c) = goers key ended new c

-- those of each of these keys
abbrev pub goers_over : Attempt → Option Number → List Keyed → Lines → List Key → List Waiter
goers_over ended number rows t [] = []
goers_over ended number rows t (k ∷ ks) = goers_in k ended (new_of number (row_for k rows)) (chain_at t k) ++ goers_over ended number rows t ks

abbrev pub no_one : {A : Type 0} → List A → Bool
no_one [] = true
no_one (x ∷ xs) = false

abbrev pub key_of : Key → Key
key_of k = k

abbrev pub row_key : Keyed → Key
row_key r = r.key

abbrev pub waiter_key : Waiter → Key
waiter_key w = w.key

abbrev pub commits_at : ℕ → Attempt → Number → Keyed → Option Chain → Option Chain
commits_at keep who number r c = option_map (committed keep who number r.row) c

abbrev pub ends_at : Attempt → Key → Option Chain → Option Chain
ends_at who k c = option_map (without who) c

abbrev pub wakes_at : Waiter → Option Chain → Option Chain
wakes_at w c = option_map (granted w.who w.version w.stamp) c

abbrev pub trims_at : Key → Option Chain → Option Chain
trims_at k c = option_map trimmed c

-- new has at the key what is said, and at every other key what old has
abbrev pub SetsChain : Lines → Key → Option Chain → Lines → Type 0
SetsChain old key c new = (other : Key) → chain_at new other ≡ (if same_key key other then c else chain_at old other)

abbrev pub SameChains : Lines → Lines → Type 0
SameChains old new = (other : Key) → chain_at new other ≡ chain_at old other

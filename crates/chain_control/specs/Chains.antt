-- What is kept of a key, as a value.
use Rattle.std.specs.Prelude.{ℕ, List, [], ◌∷◌, ◌++◌, map, filter, Bool, not, ◌&&◌, ◌||◌, nat_lt, nat_le, Option, Some, None, if◌then◌else◌}
use Rattle.std.specs.List.{list_any}
use Rattle.deneva_base.specs.declared.keys.Key.{Key}
use Rattle.deneva_base.specs.declared.numbers.Attempt.{Attempt}
use Rattle.deneva_base.specs.declared.numbers.Number.{Number}
use Rattle.deneva_base.specs.declared.rows.Cell.{Cell}
use Rattle.deneva_base.specs.declared.causes.Cause.{Cause}
use Rattle.deneva_base.specs.declared.causes.Cause.TheVariants.{Trimmed, ReadLater}
use Rattle.deneva_base.specs.Keys.{attempt_eq}
use Rattle.deneva_base.specs.Modes.{reads, writes}
use Rattle.row_store.specs.declared.versions.Version.{Version}
use Rattle.chain_control.specs.declared.requests.Request.{Request}
use Rattle.chain_control.specs.declared.links.ReadVersion.{ReadVersion}
use Rattle.chain_control.specs.declared.line.KeyVersions.{KeyVersions}
use Rattle.chain_control.specs.declared.requests.Waiter.{Waiter}
use Rattle.chain_control.specs.Requests.{put_request, grants_to, overtaken, awaits, has_request, goes_past, writer_after, waiter_for}
use Rattle.chain_control.specs.Links.{link_below, floor_of, read_by}

-- the unended accesses by rising stamp, the versions in the order in which they were committed, and the floor
pub record Chain : Type 0 where
  pub requests : List Request
  pub links : List ReadVersion
  pub floor : ℕ

abbrev pub chain_of : KeyVersions → Chain
chain_of l = record { requests = l.requests.items; links = l.links.items; floor = l.floor }

-- a version that nobody was granted
abbrev pub unread : Number → List Cell → ReadVersion
unread number row = record { number = number; row = row; read = 0 }

-- the one version of a key that nobody has asked for
abbrev pub opened : Version → Chain
opened v = record { requests = []; links = unread v.number v.row ∷ []; floor = 0 }

-- the version that a write would come after was granted to a later stamp
abbrev pub refused_by : Key → Request → Option ReadVersion → Option Cause
refused_by key r None = None
refused_by key r (Some l) = if writes r.mode && nat_lt r.stamp l.read then Some (ReadLater key l.read) else None

abbrev pub refusal : Key → Request → Chain → Option Cause
refusal key r c = if nat_lt r.stamp c.floor then Some (Trimmed key c.floor) else refused_by key r (link_below r.stamp None c.links)

-- the n of the version below a stamp
abbrev pub low_in : Option ReadVersion → ℕ
low_in None = 0
low_in (Some l) = l.number.n

abbrev pub low_of : ℕ → Chain → ℕ
low_of stamp c = low_in (link_below stamp None c.links)

abbrev pub with_request : Request → Chain → Chain
with_request r c = record { requests = put_request r c.requests; links = c.links; floor = c.floor }

-- the version of this number was granted to a stamp
abbrev pub marked : Number → ℕ → Chain → Chain
marked number stamp c = record { requests = c.requests; links = map (read_by number stamp) c.links; floor = c.floor }

-- a granted access, which reads the version of this number where it reads
abbrev pub with_grant : Number → Request → Chain → Chain
with_grant number r c = if reads r.mode then marked number r.stamp (with_request r c) else with_request r c

-- the attempt's access is taken out
abbrev pub without : Attempt → Chain → Chain
without who c = record { requests = filter (λ r. not (attempt_eq r.who who)) c.requests; links = c.links; floor = c.floor }

-- those that wait know of a version of this number
abbrev pub overtaken_by : Number → Chain → Chain
overtaken_by number c = record { requests = map (overtaken number) c.requests; links = c.links; floor = c.floor }

abbrev pub with_link : ReadVersion → Chain → Chain
with_link l c = record { requests = c.requests; links = c.links ++ l ∷ []; floor = c.floor }

-- the attempt has written the key under a number
abbrev pub overwritten : ℕ → Attempt → Number → List Cell → Chain → Chain
overwritten keep who number row c = record {
  requests = map (overtaken number) (filter (λ r. not (attempt_eq r.who who)) c.requests);
  links = c.links ++ unread number row ∷ [];
  floor = floor_of keep (c.links ++ unread number row ∷ []);
}

abbrev pub committed : ℕ → Attempt → Number → List Cell → Chain → Chain
committed keep who number row c = if has_request who c.requests then overwritten keep who number row c else c

-- the attempt's access is granted, which reads the version of this number
abbrev pub granted : Attempt → Number → ℕ → Chain → Chain
granted who number stamp c = record { requests = map (grants_to who) c.requests; links = map (read_by number stamp) c.links; floor = c.floor }

-- a version stays that is not below the floor, or that a waiter is to read
abbrev pub stays : Chain → ReadVersion → Bool
stays c l = nat_le c.floor l.number.n || list_any (awaits l.number) c.requests

abbrev pub trimmed : Chain → Chain
trimmed c = record { requests = c.requests; links = filter (stays c) c.links; floor = c.floor }

-- the requests that wait and are to be granted when an attempt ends, which wrote the key where there is a number: by rising
-- stamp, those that no writer before them stops
abbrev pub goers_after : Key → Attempt → Option Number → ℕ → List Request → List Waiter
goers_after key ended new writer [] = []
goers_after key ended new writer (r ∷ rs) = if goes_past writer new r then waiter_for key new r ∷ goers_after key ended new (writer_after ended writer r) rs else goers_after key ended new (writer_after ended writer r) rs

abbrev pub goers : Key → Attempt → Option Number → Chain → List Waiter
goers key ended new c = goers_after key ended new 0 c.requests

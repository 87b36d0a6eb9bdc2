-- Who keeps an access waiting, and whom a call wakes.
use Rattle.std.specs.Prelude.{ℕ, List, map, filter, Bool, ◌&&◌, not, nat_lt}
use Rattle.std.specs.List.{list_any}
use Rattle.deneva_base.specs.declared.keys.Key.{Key}
use Rattle.deneva_base.specs.declared.numbers.Attempt.{Attempt}
use Rattle.deneva_base.specs.declared.keys.Mode.{Mode}
use Rattle.deneva_base.specs.Rows.{Rows}
use Rattle.deneva_base.specs.Keys.{key_eq, attempt_eq}
use Rattle.deneva_base.specs.Modes.{writes}
use Rattle.deneva_base.specs.declared.answers.Answer.{Answer}
use Rattle.deneva_base.specs.declared.answers.Answer.TheVariants.{Granted}
use Rattle.deneva_base.specs.declared.answers.Wake.{Wake}
use Rattle.protocol_rules.specs.History.{History, Asked, Grant, grants, waits}
use Rattle.protocol_rules.specs.Latest.{Version, has_ended, seen}
use Rattle.protocol_rules.specs.Order.{by_rising_stamp}
use Rattle.deneva_base.specs.Lists.{sort}
use Rattle.protocol_rules.specs.Versions.{below}

abbrev pub this : Attempt → ℕ → Key → Mode → Asked
this who stamp key mode = record { who = who; stamp = stamp; key = key; mode = mode }

abbrev pub as_asked : Grant → Asked
as_asked g = record { who = g.who; stamp = g.stamp; key = g.key; mode = g.mode }

-- the granted accesses of attempts that have not ended
abbrev pub holders : History → List Asked
holders h = map as_asked (filter (λ g. not (has_ended h g.who)) (grants h))

-- b is an Update or Put of smaller stamp on the key of a
abbrev pub older_writer : Asked → Asked → Bool
older_writer a b = key_eq b.key a.key && (writes b.mode && nat_lt b.stamp a.stamp)

-- the attempt was granted the key
abbrev pub holds : History → Attempt → Key → Bool
holds h who key = list_any (λ g. attempt_eq g.who who && key_eq g.key key) (grants h)

abbrev pub granted_with : Version → Answer
granted_with v = Granted v.row v.number 0

abbrev pub wake_of : Rows → History → Asked → Wake
wake_of loaded h a = record { who = a.who; key = a.key; row = (seen a.mode (below loaded h a.key a.stamp)).row; version = (seen a.mode (below loaded h a.key a.stamp)).number; bound = 0 }

-- a waiter of one of the attempt's keys whom nobody stops, neither one that holds nor one that waits
abbrev pub goes : (Asked → Asked → Bool) → History → History → Attempt → Asked → Bool
goes stops h after who a = holds h who a.key && (not (list_any (stops a) (holders after)) && not (list_any (stops a) (waits h)))

-- whom the end of an attempt wakes, where `after` is the history with this end
abbrev pub wakes : Rows → (Asked → Asked → Bool) → History → History → Attempt → List Wake
wakes loaded stops h after who = map (wake_of loaded after) (sort by_rising_stamp (filter (goes stops h after who) (waits h)))

-- The kept versions of one key as a list, the oldest first.
use Rattle.std.specs.Prelude.{ℕ, max, List, [], ◌∷◌, filter, length, not, nat_lt, nat_le, Option, Some, None, if◌then◌else◌, ◌==◌}
use Rattle.deneva_base.specs.declared.numbers.Number.{Number}
use Rattle.deneva_base.specs.Keys.{number_lt, number_eq}
use Rattle.deneva_base.specs.Lists.{greatest_by}
use Rattle.chain_control.specs.declared.links.ReadVersion.{ReadVersion}

-- the one of the greater number, and the first where they are equal
abbrev pub later_link : Option ReadVersion → ReadVersion → ReadVersion
later_link None l = l
later_link (Some b) l = if number_lt b.number l.number then l else b

-- the version of the greatest number below the stamp, among this one and those
abbrev pub link_below : ℕ → Option ReadVersion → List ReadVersion → Option ReadVersion
link_below stamp best [] = best
link_below stamp best (l ∷ ls) = link_below stamp (if nat_lt l.number.n stamp then Some (later_link best l) else best) ls

-- how many have no smaller number
abbrev pub as_great : List ReadVersion → Number → ℕ
as_great ls number = length (filter (λ l. not (number_lt l.number number)) ls)

-- the n of the keep-th greatest, and 0 where there are fewer, or where all are kept
abbrev pub floor_of : ℕ → List ReadVersion → ℕ
floor_of keep ls = if keep == 0 then 0 else greatest_by (λ l. if nat_le keep (as_great ls l.number) then l.number.n else 0) ls

-- the version once that of a number was granted to a stamp
abbrev pub read_by : Number → ℕ → ReadVersion → ReadVersion
read_by number stamp l = record { number = l.number; row = l.row; read = (if number_eq l.number number then max l.read stamp else l.read) }

-- The version of the greatest number below a stamp, among those that are kept.
use Rattle.std.specs.Prelude.{ℕ, List, [], ◌∷◌, Bool, true, not, ◌&&◌, nat_lt, Option, Some, None, if◌then◌else◌}
use Rattle.std.specs.List.{list_any}
use Rattle.deneva_base.specs.declared.numbers.Number.{Number}
use Rattle.deneva_base.specs.Keys.{number_lt}
use Rattle.row_store.specs.declared.versions.Version.{Version}
use Rattle.stamp_lines.specs.declared.requests.Request.{Request}

-- the number is above that of the version, if there is one
abbrev pub newer_than : Option Version → Number → Bool
newer_than None number = true
newer_than (Some v) number = number_lt v.number number

-- the better of two for a stamp, and the first where their numbers are equal
abbrev pub offer : ℕ → Option Version → Version → Option Version
offer stamp best v = if nat_lt v.number.n stamp && newer_than best v.number then Some v else best

abbrev pub pick_from : ℕ → Option Version → List Version → Option Version
pick_from stamp best [] = best
pick_from stamp best (v ∷ vs) = pick_from stamp (offer stamp best v) vs

abbrev pub pick : ℕ → List Version → Option Version
pick stamp vs = pick_from stamp None vs

-- one of these versions is above the number and below the stamp
abbrev pub is_above : ℕ → Number → List Version → Bool
is_above stamp number vs = list_any (λ v. number_lt number v.number && nat_lt v.number.n stamp) vs

-- a version of this number is below the stamp, and none of these is between
abbrev pub is_read : ℕ → List Version → Number → Bool
is_read stamp vs number = nat_lt number.n stamp && not (is_above stamp number vs)

-- a waiting request would read it
abbrev pub is_needed : List Request → List Version → Number → Bool
is_needed rs vs number = list_any (λ r. r.waits && is_read r.stamp vs number) rs

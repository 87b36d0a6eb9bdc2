-- The rows that the committed attempts of a history leave.
use Rattle.std.specs.Prelude.{List, [], ◌∷◌, ◌++◌, Option, Some, None, if◌then◌else◌}
use Rattle.protocol_rules.specs.History.{History, Yea, Decided, yeas, decided}
use Rattle.deneva_base.specs.Keys.{attempt_eq, number_lt}
use Rattle.protocol_rules.specs.Latest.{Version, row_for}
use Rattle.deneva_base.specs.Rows.{Row, Rows}
use Rattle.deneva_base.specs.declared.keys.Key.{Key}
use Rattle.deneva_base.specs.declared.numbers.Attempt.{Attempt}
use Rattle.deneva_base.specs.declared.numbers.Number.{Number}
use Rattle.deneva_base.specs.declared.rows.Keyed.{Keyed}

-- a version, or this row under this number, whichever has the greater number
abbrev pub later : Option Version → Number → Option Row → Option Version
later best number None = best
later None number (Some row) = Some (record { number = number; row = row })
later (Some v) number (Some row) = if number_lt v.number number then Some (record { number = number; row = row }) else Some v

abbrev pub row_or : Option Row → Option Version → Option Row
row_or old None = old
row_or old (Some v) = Some v.row

-- what the attempt's vote lists: its writes and its appends
abbrev pub left_in : List Yea → Attempt → List Keyed
left_in [] who = []
left_in (y ∷ ys) who = if attempt_eq y.who who then y.writes ++ y.appends else left_in ys who

-- its appends alone
abbrev pub appends_in : List Yea → Attempt → List Keyed
appends_in [] who = []
appends_in (y ∷ ys) who = if attempt_eq y.who who then y.appends else appends_in ys who

-- the row of the greatest number that one of these committed attempts leaves for the key
abbrev pub greatest_at : Key → List Yea → List Decided → Option Version
greatest_at key ys [] = None
greatest_at key ys (d ∷ ds) = later (greatest_at key ys ds) d.number (row_for key (left_in ys d.who))

-- for each key that row, and else the loaded one
abbrev pub rows_left : Rows → History → Rows
rows_left loaded h key = row_or (loaded key) (greatest_at key (yeas h) (decided h))

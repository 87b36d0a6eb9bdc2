-- The order in which an outcome lists its lines.
use Rattle.std.specs.Prelude.{◌≡◌, List, [], ◌∷◌, Bool, true, ◌&&◌, map, nat_lt}
use Rattle.deneva_base.specs.Keys.{attempt_lt, number_lt}
use Rattle.deneva_base.specs.Rising.{keys_rise}
use Rattle.deneva_base.specs.declared.numbers.TxnId.{TxnId}
use Rattle.server_core.specs.declared.outcomes.Outcome.{Outcome}

-- each element is before the next one, the first of them after x
abbrev pub rise_from : {A : Type 0} → (A → A → Bool) → A → List A → Bool
rise_from before x [] = true
rise_from before x (y ∷ ys) = before x y && rise_from before y ys

-- each element is before the next one
abbrev pub rise : {A : Type 0} → (A → A → Bool) → List A → Bool
rise before [] = true
rise before (x ∷ xs) = rise_from before x xs

abbrev pub id_lt : TxnId → TxnId → Bool
id_lt x y = nat_lt x.0 y.0

-- the decided transactions stand by number, the given-up ones by id, the aborted attempts by id and turn, the rows by key,
-- and none stands twice
pub record InReportOrder (o : Outcome) : Type 0 where
  pub decided : rise number_lt (map (λ l. l.number) o.decided) ≡ true
  pub giveups : rise id_lt (map (λ g. g.id) o.giveups) ≡ true
  pub aborts : rise attempt_lt (map (λ a. a.who) o.aborts) ≡ true
  pub rows : keys_rise o.rows ≡ true

-- The stamps that a run of a voting protocol gives.
use Rattle.std.specs.Prelude.{◌≡◌, ◌≢◌, ℕ, ◌≤◌, List}
use Rattle.deneva_base.specs.Lists.{IsIn}
use Rattle.deneva_base.specs.declared.keys.Key.{Key}
use Rattle.deneva_base.specs.declared.keys.Mode.{Mode}
use Rattle.deneva_base.specs.declared.numbers.Attempt.{Attempt}
use Rattle.server_core.specs.Runs.{heard}
use Rattle.server_core.specs.declared.messages.Entry.{Entry}
use Rattle.server_core.specs.declared.messages.Msg.TheVariants.{Ask}

-- all Asks of an attempt that were handled, at whatever nodes, have one stamp, which is at least 1, and those of different
-- transactions have different ones
pub record StampsTell (H : List Entry) : Type 0 where
  pub one : (who : Attempt) (p q m n : ℕ) (k l : Key) (a b : Mode) → IsIn (Ask who m k a) (heard p H) → IsIn (Ask who n l b) (heard q H) → m ≡ n
  pub positive : (who : Attempt) (p m : ℕ) (k : Key) (a : Mode) → IsIn (Ask who m k a) (heard p H) → 1 ≤ m
  pub apart : (x y : Attempt) (p q m n : ℕ) (k l : Key) (a b : Mode) → IsIn (Ask x m k a) (heard p H) → IsIn (Ask y n l b) (heard q H) → x.txn ≢ y.txn → m ≢ n

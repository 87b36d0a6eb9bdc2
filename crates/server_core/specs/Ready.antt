-- When a transaction is ready at a node of Calvin, in terms of numbers.
use Rattle.std.specs.Prelude.{◌≡◌, ℕ, List, true, false}
use Rattle.deneva_base.specs.Keys.{NumberLt}
use Rattle.deneva_base.specs.Lists.{IsIn}
use Rattle.deneva_base.specs.declared.numbers.TxnId.{TxnId}
use Rattle.server_core.specs.GlobalOrder.{number}
use Rattle.server_core.specs.CalvinScheduler.{participates, clash, taken, is_finished}
use Rattle.server_core.specs.Setting.{Setting}
use Rattle.server_core.specs.declared.messages.Msg.{Msg}

-- it was taken, takes part, and no taken, unfinished transaction of smaller number conflicts with it on a key at p
pub record IsReady (s : Setting) (p : ℕ) (ms : List Msg) (x : TxnId) : Type 0 where
  pub was_taken : IsIn x (taken s ms)
  pub here : participates s x p ≡ true
  pub free : (y : TxnId) → IsIn y (taken s ms) → NumberLt (number s y) (number s x) → is_finished s ms y ≡ false → clash s p x y ≡ false

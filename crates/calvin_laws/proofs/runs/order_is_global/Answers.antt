-- The laws are lemmas.
use Rattle.calvin_laws.proofs.order.Orders.{order_in, in_order, order_once}
use Rattle.calvin_laws.proofs.order.OrderNumbers.{rising, number_at_place, before_is}
use Rattle.calvin_laws.proofs.runs.order_is_global.Goals as goal

pub returns : goal.returns
returns c = record {
  all = λ s x v i. in_order s v x i;
  only = λ s x i. order_in s x i;
  once = λ s x v. order_once s v x;
  rising = λ s v. rising s v;
  formula = λ s l i x v e. number_at_place s v l i x e;
  smaller = λ s x y v i j. (before_is s v x y i).0 j;
  before = λ s x y v i j less. (before_is s v x y i).1 j less;
}

-- Within the limits of the program a run is short and its numbers are small.
use Rattle.std.proofs.Common.{◌≡◌, refl, subst, ap, inl, ℕ, suc, ◌+◌, ◌*◌, ◌≤◌, List, [], ◌∷◌, length, filter, Bool, true, false, cond, eqb, arith}
use Rattle.std.proofs.Math.Nat.{mul-le-mul_right, mul-le-mul_left}
use Rattle.deneva_base.specs.declared.numbers.TxnId.{TxnId}
use Rattle.deneva_base.specs.declared.numbers.Number.{Number}
use Rattle.deneva_base.specs.Lists.{IsIn, greatest_by}
use Rattle.server_core.specs.declared.messages.Mail.{Mail}
use Rattle.server_core.specs.declared.messages.Entry.{Entry}
use Rattle.txn_program.specs.Transactions.{numbers_below}
use Rattle.server_core.specs.Runs.{heard}
use Rattle.server_core.specs.Setting.{Setting, home, participants_for, homes}
use Rattle.server_core.specs.CalvinScheduler.{participates}
use Rattle.server_core.specs.GlobalOrder.{Slot, slots, eights, epochs, batch, number}
use Rattle.server_core.specs.CalvinRuns.{IsRun, AllFitting}
use Rattle.server_core.specs.Limits.{sum_of}
use Rattle.server_core.specs.Small.{SmallMsg}
use Rattle.server_core.specs.declared.messages.Msg.{Msg}
use Rattle.server_core.specs.declared.messages.Msg.TheVariants.{Tick, Batch, Rows, Finished}
use Rattle.server_core.specs.CalvinProper.{Valid, Forms, Limits}
use Rattle.calvin_laws.proofs.counts.Bounds.{most, all_most}
use Rattle.server_core.proofs.lists.ListTests.{below_length, flat_in}
use Rattle.calvin_laws.proofs.order.Orders.{in_order, slot_in}
use Rattle.calvin_laws.proofs.order.OrderNumbers.{number_in}
use Rattle.calvin_laws.proofs.counts.Fits.{each_suits}
use Rattle.calvin_laws.proofs.counts.RightMails.{RightMsg, rights}

filter_length : {A : Type 0} (f : A → Bool) (xs : List A) → length (filter f xs) ≤ length xs
filter_length f [] = omega arith
filter_length {A} f (x ∷ xs) = go (f x) (filter_length f xs)
  where
    go : (b : Bool) → length (filter f xs) ≤ length xs → length (cond b (x ∷ filter f xs) (filter f xs)) ≤ suc (length xs)
    go true h = omega (arith, h)
    go false h = omega (arith, h)

greatest_under : (f : ℕ → ℕ) (c : ℕ) (ns : List ℕ) → ((n : ℕ) → f n ≤ c) → greatest_by f ns ≤ c
greatest_under f c [] h = omega arith
greatest_under f c (n ∷ ns) h = omega (arith, h n, greatest_under f c ns h)

product : (a b c d : ℕ) → a ≤ c → b ≤ d → a * b ≤ c * d
product a b c d h k = omega (arith, mul-le-mul_right b h, mul-le-mul_left c k)

most_under : (m c : ℕ) → m ≤ c → most m ≤ most c
most_under m c h = omega (arith, product m m c c h h, h)

pub heard_length : (p : ℕ) (H : List Entry) → length (heard p H) ≤ length H
heard_length p [] = omega arith
heard_length p (e ∷ H) = go (eqb e.node p) (heard_length p H)
  where
    go : (b : Bool) → length (heard p H) ≤ length H → length (cond b (e.msg ∷ heard p H) (heard p H)) ≤ suc (length H)
    go true h = omega (arith, h)
    go false h = omega (arith, h)

module _ (s : Setting) (small : Limits s) where
  epochs_few : epochs s ≤ 1250
  epochs_few =
      greatest_under (λ q. eights (length (homes s q))) 1250 (numbers_below s.parts)
      (λ q. let h = filter_length (λ x. eqb (home s x) q) s.ids in omega (arith, h, small.ids))

  parts_few : (x : TxnId) → length (participants_for s x) ≤ 16
  parts_few x = omega (arith, filter_length (participates s x) (numbers_below s.parts), below_length s.parts, small.parts)

  most_few : (xs : List TxnId) → sum_of (λ x. most (length (participants_for s x))) xs ≤ length xs * 272
  most_few [] = omega arith
  most_few (x ∷ xs) = omega (arith, most_under (length (participants_for s x)) 16 (parts_few x), most_few xs)

  pub run_short : Valid s → (H : List Entry) (flight : List Mail) → IsRun s H flight → length H ≤ 3060000
  run_short v H flight run =
      omega (
        arith,
        all_most s v H flight run,
        product (epochs s) (s.parts + s.parts * s.parts) 1250 272 epochs_few (omega (arith, product s.parts s.parts 16 16 small.parts small.parts, small.parts)),
        most_few s.ids,
        small.ids,
      )

  pub number_small : Valid s → (x : TxnId) → IsIn x s.ids → (number s x).n ≤ 160000
  number_small v x i =
      let f = flat_in (batch s) x (slots s) (in_order s v x i) in
      let l : Slot = f.0 in
      let b = slot_in s l f.1 in
      let n = number_in s v l x f.2 in
      let p : (l.epoch + 1) * s.parts ≤ 1250 * 16 = product (l.epoch + 1) s.parts 1250 16 (omega (arith, b.0, epochs_few)) small.parts in
      omega (arith, n.0, n.1, p, b.1)

  pub each_fits : Valid s → Forms s → (H : List Entry) (flight : List Mail) → IsRun s H flight → AllFitting s H flight
  each_fits v f H flight run y i = record {
    short = omega (arith, run_short v H flight run, heard_length y.to H);
    small = small_msg y.msg refl (rights s v H flight run y (inl i));
    suits = each_suits s v f H flight run y i;
  }
    where
      small_msg : (m : Msg) → y.msg ≡ m → RightMsg s H y.from y.to y.msg → SmallMsg m
      small_msg (Finished x q n) is r' =
          let r : RightMsg s H y.from y.to (Finished x q n) = subst (λ z. RightMsg s H y.from y.to z) is r' in
          omega (arith, number_small v x r.2, ap (λ (z : Number). z.n) r.4)
      small_msg (Tick e) is r' = tt
      small_msg (Batch e q ids) is r' = tt
      small_msg (Rows x q rows) is r' = tt
      small_msg m is r' = absurd (subst (λ z. RightMsg s H y.from y.to z) is r')

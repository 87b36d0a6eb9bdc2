-- What holds of asks, stamps and waiting accesses in every history whose calls met their conditions, whatever the rule.
use Rattle.std.proofs.Common.{◌≡◌, ◌≢◌, ◌⊎◌, ℕ, ◌<◌, ◌≤◌, ◌^◌, List, [], ◌∷◌, ◌++◌, not, filter, sym, ap, ◌∙◌, subst, inl, inr, ⊎_elim, arith, Some}
use Rattle.std.proofs.lemmas.Bool.Decides.{nat_tests}
use Rattle.deneva_base.specs.declared.keys.Key.{Key}
use Rattle.deneva_base.specs.declared.numbers.TxnId.{TxnId}
use Rattle.deneva_base.specs.declared.numbers.Attempt.{Attempt}
use Rattle.deneva_base.specs.declared.keys.Mode.{Mode}
use Rattle.deneva_base.specs.Lists.{IsIn}
use Rattle.deneva_base.specs.Rows.{Row, Rows}
use Rattle.deneva_base.specs.declared.answers.Answer.{Answer}
use Rattle.deneva_base.specs.declared.answers.Answer.TheVariants.{Granted, Waits, Refused}
use Rattle.deneva_base.specs.declared.answers.Wake.{Wake}
use Rattle.protocol_rules.specs.History.{Call, Ask, Prepare, Commit, Abort, History, Asked, asks, waits, is_woken, left_waiting, aborted, ended, closed, IsUnended, IsOpen}
use Rattle.protocol_rules.specs.Conditions.{MayAsk, MayCall}
use Rattle.protocol_rules.specs.Rules.{Rule, Obeys}
use Rattle.deneva_base.proofs.Membership.{filter_in, attempt_tells}
use Rattle.protocol_rules.proofs.Sound.{Sound, sound}

pub record Known (loaded : Rows) (h : History) : Type 0 where
  pub here : (a : Asked) → IsIn a (asks h) → (row : Row) × (loaded a.key ≡ Some row)
  pub positive : (a : Asked) → IsIn a (asks h) → 1 ≤ a.stamp
  pub small : (a : Asked) → IsIn a (asks h) → a.stamp < 2 ^ 48
  -- an attempt asks for a key once, and has one stamp
  pub pair : (a b : Asked) → IsIn a (asks h) → IsIn b (asks h) → a.who ≡ b.who → a.key ≡ b.key → a ≡ b
  pub stamp : (a b : Asked) → IsIn a (asks h) → IsIn b (asks h) → a.who ≡ b.who → a.stamp ≡ b.stamp
  -- a stamp tells the transaction
  pub txn : (a b : Asked) → IsIn a (asks h) → IsIn b (asks h) → a.stamp ≡ b.stamp → a.who.txn ≡ b.who.txn
  -- of the attempts of a transaction, all but one were aborted
  pub last : (a b : Asked) → IsIn a (asks h) → IsIn b (asks h) → a.who.txn ≡ b.who.txn → (a.who ≡ b.who) ⊎ (IsIn a.who (aborted h) ⊎ IsIn b.who (aborted h))
  pub stops : (x : Attempt) → IsIn x (aborted h) → IsIn x (ended h)
  -- who waits has asked, has not voted nor ended, and waits once
  pub asked : (a : Asked) → IsIn a (waits h) → IsIn a (asks h)
  pub unended : (a : Asked) → IsIn a (waits h) → IsUnended h a.who
  pub opened : (a : Asked) → IsIn a (waits h) → IsOpen h a.who
  pub alone : (a b : Asked) → IsIn a (waits h) → IsIn b (waits h) → a.who ≡ b.who → a ≡ b

-- two unended attempts of one stamp are one
pub same_stamp : (loaded : Rows) (h : History) (a b : Asked) → Known loaded h → IsIn a (asks h) → IsIn b (asks h) → IsUnended h a.who → IsUnended h b.who → a.stamp ≡ b.stamp → a.who ≡ b.who
same_stamp loaded h a b k i j u v e = ⊎_elim (λ same. same) (λ r. absurd (⊎_elim (λ x. u (k.stops a.who x)) (λ x. v (k.stops b.who x)) r)) (k.last a b i j (k.txn a b i j e))

txn_same : (a b : TxnId) → a.0 ≡ b.0 → a ≡ b
txn_same a b e = λ i. record { 0 = e i }

txn_tells : (a b : TxnId) → (a ≡ b) ⊎ (a ≢ b)
txn_tells a b = grind (arith, nat_tests, txn_same a b)

module _ (loaded : Rows) where
  waits_after : (a : Asked) (mine : Asked) (answer : Answer) (ws : List Asked) → IsIn a (left_waiting mine answer ++ ws) → (a ≡ mine) ⊎ IsIn a ws
  waits_after a mine Waits ws i = i
  waits_after a mine (Granted row version bound) ws i = inr i
  waits_after a mine (Refused cause) ws i = inr i

  known_ask : (h : History) (who : Attempt) (stamp : ℕ) (key : Key) (mode : Mode) (answer : Answer) → MayAsk loaded h who stamp key → Known loaded h → Known loaded (Ask who stamp key mode answer ∷ h)
  known_ask h who stamp key mode answer may k = record {
    here = λ a i. ⊎_elim (λ e. (may.here.0, ap (λ x. loaded x.key) e ∙ may.here.1)) (λ t. k.here a t) i;
    positive = λ a i. ⊎_elim (λ e. omega (arith, ap (λ x. x.stamp) e, may.positive)) (λ t. k.positive a t) i;
    small = λ a i. ⊎_elim (λ e. subst (λ s. s < 2 ^ 48) (sym (ap (λ x. x.stamp) e)) may.small) (λ t. k.small a t) i;
    pair = λ a b i j e f.
        ⊎_elim
        (λ (x : a ≡ mine). ⊎_elim (λ (y : b ≡ mine). x ∙ sym y) (λ t. absurd (may.once b t (sym e ∙ ap (λ z. z.who) x) (sym f ∙ ap (λ z. z.key) x))) j)
        (λ s. ⊎_elim (λ (y : b ≡ mine). absurd (may.once a s (e ∙ ap (λ z. z.who) y) (f ∙ ap (λ z. z.key) y))) (λ t. k.pair a b s t e f) j)
        i;
    stamp = λ a b i j e.
        ⊎_elim
        (λ (x : a ≡ mine). ⊎_elim (λ (y : b ≡ mine). ap (λ z. z.stamp) (x ∙ sym y)) (λ t. ap (λ z. z.stamp) x ∙ sym (may.same_stamp b t (sym e ∙ ap (λ z. z.who) x))) j)
        (λ s. ⊎_elim (λ (y : b ≡ mine). may.same_stamp a s (e ∙ ap (λ z. z.who) y) ∙ sym (ap (λ z. z.stamp) y)) (λ t. k.stamp a b s t e) j)
        i;
    txn = λ a b i j e.
        ⊎_elim
        (λ (x : a ≡ mine). ⊎_elim (λ (y : b ≡ mine). ap (λ z. z.who.txn) (x ∙ sym y)) (λ t. ap (λ z. z.who.txn) x ∙ sym (own b t (sym e ∙ ap (λ z. z.stamp) x))) j)
        (λ s. ⊎_elim (λ (y : b ≡ mine). own a s (e ∙ ap (λ z. z.stamp) y) ∙ sym (ap (λ z. z.who.txn) y)) (λ t. k.txn a b s t e) j)
        i;
    last = λ a b i j e.
        ⊎_elim
        (λ (x : a ≡ mine). ⊎_elim
        (λ (y : b ≡ mine). inl (ap (λ z. z.who) (x ∙ sym y)))
        (λ t. ⊎_elim (λ s. inl (ap (λ z. z.who) x ∙ sym s)) (λ d. inr (inr d)) (other b t (sym e ∙ ap (λ z. z.who.txn) x)))
        j)
        (λ s. ⊎_elim
        (λ (y : b ≡ mine). ⊎_elim (λ d. inl (d ∙ sym (ap (λ z. z.who) y))) (λ d. inr (inl d)) (other a s (e ∙ ap (λ z. z.who.txn) y)))
        (λ t. k.last a b s t e)
        j)
        i;
    stops = k.stops;
    asked = λ a i. ⊎_elim (λ e. inl e) (λ t. inr (k.asked a t)) (waits_after a mine answer (waits h) i);
    unended = λ a i. ⊎_elim (λ e. subst (λ z. IsUnended h z) (sym (ap (λ z. z.who) e)) may.unended) (λ t. k.unended a t) (waits_after a mine answer (waits h) i);
    opened = λ a i. ⊎_elim (λ e. subst (λ z. IsOpen h z) (sym (ap (λ z. z.who) e)) may.opened) (λ t. k.opened a t) (waits_after a mine answer (waits h) i);
    alone = λ a b i j e.
        ⊎_elim
        (λ (x : a ≡ mine). ⊎_elim (λ (y : b ≡ mine). x ∙ sym y) (λ t. absurd (may.nowhere b t (sym e ∙ ap (λ z. z.who) x))) (waits_after b mine answer (waits h) j))
        (λ s. ⊎_elim (λ (y : b ≡ mine). absurd (may.nowhere a s (e ∙ ap (λ z. z.who) y))) (λ t. k.alone a b s t e) (waits_after b mine answer (waits h) j))
        (waits_after a mine answer (waits h) i);
  }
    where
      mine : Asked
      mine = record { who = who; stamp = stamp; key = key; mode = mode }

      own : (a : Asked) → IsIn a (asks h) → a.stamp ≡ stamp → a.who.txn ≡ who.txn
      own a i e = ⊎_elim (λ s. s) (λ d. absurd (may.own_stamp a i d e)) (txn_tells a.who.txn who.txn)

      other : (a : Asked) → IsIn a (asks h) → a.who.txn ≡ who.txn → (a.who ≡ who) ⊎ IsIn a.who (aborted h)
      other a i e = ⊎_elim (λ s. inl s.1) (λ d. inr (may.others a i e d.1)) (attempt_tells a.who who)

  -- the waiting accesses that are left
  pub left_wait : (woken : List Wake) (a : Asked) (ws : List Asked) → IsIn a (filter (λ x. not (is_woken woken x)) ws) → IsIn a ws
  left_wait woken a ws i = (filter_in (λ x. not (is_woken woken x)) a ws i).0

  pub known_more : (h : History) (c : Call) → MayCall loaded h c → Sound loaded h → Known loaded h → Known loaded (c ∷ h)
  known_more h (Ask who stamp key mode answer) may s k = known_ask h who stamp key mode answer may k
  known_more h (Prepare who bound writes appends vote) may s k = record {
    here = k.here;
    positive = k.positive;
    small = k.small;
    pair = k.pair;
    stamp = k.stamp;
    txn = k.txn;
    last = k.last;
    stops = k.stops;
    asked = k.asked;
    unended = k.unended;
    opened = λ a i d. ⊎_elim (λ e. may.nowhere a i e) (λ t. k.opened a i t) d;
    alone = k.alone;
  }
  known_more h (Commit who number woken) may s k = record {
    here = k.here;
    positive = k.positive;
    small = k.small;
    pair = k.pair;
    stamp = k.stamp;
    txn = k.txn;
    last = k.last;
    stops = λ x i. inr (k.stops x i);
    asked = λ a i. k.asked a (left_wait woken a (waits h) i);
    unended = λ a i d.
        let j = left_wait woken a (waits h) i in
        ⊎_elim (λ e. k.opened a j (subst (λ z. IsIn z (closed h)) (may.inside.2 ∙ sym e) (s.closes may.inside.0 may.inside.1))) (λ t. k.unended a j t) d;
    opened = λ a i. k.opened a (left_wait woken a (waits h) i);
    alone = λ a b i j e. k.alone a b (left_wait woken a (waits h) i) (left_wait woken b (waits h) j) e;
  }
  known_more h (Abort who woken) may s k = record {
    here = k.here;
    positive = k.positive;
    small = k.small;
    pair = k.pair;
    stamp = k.stamp;
    txn = k.txn;
    last = λ a b i j e. ⊎_elim (λ x. inl x) (λ x. inr (⊎_elim (λ y. inl (inr y)) (λ y. inr (inr y)) x)) (k.last a b i j e);
    stops = λ x i. ⊎_elim (λ e. inl e) (λ t. inr (k.stops x t)) i;
    asked = λ a i. k.asked a (left_wait woken a (waits h) i);
    unended = λ a i d.
        let j = left_wait woken a (waits h) i in
        ⊎_elim (λ e. may.nowhere a j e) (λ t. k.unended a j t) d;
    opened = λ a i. k.opened a (left_wait woken a (waits h) i);
    alone = λ a b i j e. k.alone a b (left_wait woken a (waits h) i) (left_wait woken b (waits h) j) e;
  }

  known_start : Known loaded []
  known_start = record {
    here = λ a i. absurd i;
    positive = λ a i. absurd i;
    small = λ a i. absurd i;
    pair = λ a b i j e f. absurd i;
    stamp = λ a b i j e. absurd i;
    txn = λ a b i j e. absurd i;
    last = λ a b i j e. absurd i;
    stops = λ x i. i;
    asked = λ a i. i;
    unended = λ a i. absurd i;
    opened = λ a i. absurd i;
    alone = λ a b i j e. absurd i;
  }

  pub known : (rule : Rule) (h : History) → Obeys loaded rule h → Known loaded h
  known rule [] o = known_start
  known rule (c ∷ h) o = known_more h c o.0 (sound loaded rule h o.2) (known rule h o.2)

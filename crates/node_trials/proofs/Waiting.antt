-- Two Asks for one row and the Abort of the first fit, one after another.
use Rattle.std.proofs.Common.{◌≡◌, [], ◌∷◌, refl, ap, inl, inr, ⊎_elim, arith}
use Rattle.protocol_rules.specs.Conditions.{MayAsk, MayAbort}
use Rattle.protocol_rules.specs.History.{Asked}
use Rattle.deneva_base.specs.Lists.{IsIn}
use Rattle.deneva_base.specs.declared.config.Protocol.TheVariants.{WaitDie}
use Rattle.deneva_base.specs.declared.keys.Mode.TheVariants.{Update}
use Rattle.deneva_base.specs.declared.numbers.Attempt.{Attempt}
use Rattle.deneva_base.specs.declared.rows.Cell.TheVariants.{Text}
use Rattle.txn_program.specs.Transactions.{ycsb_key}
use Rattle.server_core.specs.Participant.{calls}
use Rattle.server_core.specs.Roles.{Role}
use Rattle.server_core.specs.Setting.{Setting, setting, loaded_at}
use Rattle.server_core.specs.declared.messages.Msg.{Msg}
use Rattle.server_core.specs.declared.messages.Msg.TheVariants.{Ask, Abort}
use Rattle.node_trials.specs.Trials.{FitInTurn}
use Rattle.node_trials.specs.Works.{trial_role, first_attempt, sent}
use Rattle.node_trials.proofs.Fitting.{in_turn, no_more}

abbrev q : Role
q = trial_role WaitDie

abbrev s : Setting
s = setting q.config q.work

abbrev pub other_attempt : Attempt
other_attempt = record { txn = record { 0 = 2 }; turn = 1 }

abbrev pub first_ask : Msg
first_ask = Ask first_attempt 20 (ycsb_key 0) Update

abbrev pub other_ask : Msg
other_ask = Ask other_attempt 10 (ycsb_key 0) Update

abbrev asked_first : Asked
asked_first = record { who = first_attempt; stamp = 20; key = ycsb_key 0; mode = Update }

abbrev asked_other : Asked
asked_other = record { who = other_attempt; stamp = 10; key = ycsb_key 0; mode = Update }

may_first : MayAsk (loaded_at s 0) [] first_attempt 20 (ycsb_key 0)
may_first = record {
  short = omega arith;
  here = (Text (97 ∷ []) ∷ [], refl);
  unended = λ i. absurd i;
  opened = λ i. absurd i;
  unrefused = λ i. absurd i;
  nowhere = λ a i. absurd i;
  once = λ a i. absurd i;
  others = λ a i. absurd i;
  same_stamp = λ a i. absurd i;
  own_stamp = λ a i. absurd i;
  positive = omega arith;
  small = omega arith;
}

only_is : (a b : Asked) → IsIn a (b ∷ []) → a ≡ b
only_is a b i = ⊎_elim (λ e. e) (λ j. absurd j) i

-- the ids of two attempts differ
differ : (a : Asked) (who : Attempt) → a ≡ asked_first → a.who.txn ≡ who.txn → who.txn.0 ≡ 2 → ⊥
differ a who e f two =
    let one : a.who.txn.0 ≡ 1 = ap (λ (x : Asked). x.who.txn.0) e in
    let same : a.who.txn.0 ≡ who.txn.0 = ap (λ x. x.0) f in
    absurd (omega (arith, one, same, two))

may_other : MayAsk (loaded_at s 0) (calls s 0 (first_ask ∷ [])) other_attempt 10 (ycsb_key 0)
may_other = record {
  short = omega arith;
  here = (Text (97 ∷ []) ∷ [], refl);
  unended = λ i. absurd i;
  opened = λ i. absurd i;
  unrefused = λ i. absurd i;
  nowhere = λ a i. absurd i;
  once = λ a i e. absurd (differ a other_attempt (only_is a asked_first i) (ap (λ (x : Attempt). x.txn) e) refl);
  others = λ a i e. absurd (differ a other_attempt (only_is a asked_first i) e refl);
  same_stamp = λ a i e. absurd (differ a other_attempt (only_is a asked_first i) (ap (λ (x : Attempt). x.txn) e) refl);
  own_stamp = λ a i ne e. let twenty : a.stamp ≡ 20 = ap (λ (x : Asked). x.stamp) (only_is a asked_first i) in absurd (omega (arith, twenty, e));
  positive = omega arith;
  small = omega arith;
}

may_abort : MayAbort (calls s 0 (other_ask ∷ first_ask ∷ [])) first_attempt
may_abort = record {
  short = omega arith;
  asked = (asked_first, inr (inl refl), refl);
  nowhere = λ a i e.
      let two : a.who.txn.0 ≡ 2 = ap (λ (x : Asked). x.who.txn.0) (only_is a asked_other i) in
      let one : a.who.txn.0 ≡ 1 = ap (λ (x : Attempt). x.txn.0) e in
      absurd (omega (arith, one, two));
  unended = λ i. absurd i;
}

pub waiting_fit : FitInTurn q [] (sent 0 first_ask ∷ sent 1 other_ask ∷ sent 0 (Abort first_attempt) ∷ [])
waiting_fit =
    in_turn q [] (sent 0 first_ask) _ (record { short = omega arith; small = omega arith; suits = (refl, refl, inl refl, may_first, inl refl) })
    (in_turn q (first_ask ∷ []) (sent 1 other_ask) _ (record { short = omega arith; small = omega arith; suits = (refl, refl, inr (inl refl), may_other, inr (inl refl)) })
    (in_turn q (other_ask ∷ first_ask ∷ []) (sent 0 (Abort first_attempt)) _ (record { short = omega arith; small = tt; suits = (refl, may_abort) })
    (no_more q (Abort first_attempt ∷ other_ask ∷ first_ask ∷ []))))

-- The account of each attempt, in every run.
use Rattle.std.proofs.Common.{◌≡◌, ℕ, suc, ◌+◌, List, [], ◌∷◌, length, slice_get, Bool, true, false, cond, not, ◌&&◌, refl, sym, ap, ◌∙◌, arith, Option, Some, None}
use Rattle.deneva_base.specs.declared.keys.Key.{Key}
use Rattle.deneva_base.specs.declared.numbers.Attempt.{Attempt}
use Rattle.deneva_base.specs.Keys.{attempt_eq, key_eq}
use Rattle.protocol_rules.specs.History.{Asked, waits}
use Rattle.server_core.specs.declared.messages.Msg.{Msg}
use Rattle.server_core.specs.declared.messages.Mail.{Mail}
use Rattle.server_core.specs.declared.messages.Entry.{Entry}
use Rattle.server_core.specs.Setting.{Setting, home, take_first}
use Rattle.deneva_base.specs.declared.keys.Access.{Access}
use Rattle.deneva_base.specs.Partitions.{partition_of}
use Rattle.server_core.specs.Received.{grants_for, refused_for, started_for}
use Rattle.server_core.specs.Participant.{calls}
use Rattle.server_core.specs.Proper.{Valid, keys_in}
use Rattle.server_core.specs.Runs.{heard}
use Rattle.server_core.specs.Counts.{count, count_msgs}
use Rattle.voting_laws.proofs.account.Words.{waiting_for, is_for, Accounts}
use Rattle.server_core.proofs.counts.Local.{sent_to}
use Rattle.server_core.proofs.counts.Quiet.{is_ask, is_answer}
use Rattle.voting_laws.proofs.fits.Heard.{key_in, keys_more, answers_heard}
use Rattle.server_core.proofs.values.Called.{waiting}
use Rattle.voting_laws.proofs.fits.Account.{Good, ask_ledger, prepare_ledger, end_ledger, answer_ledger, vote_ledger, close_ledger, start_most, waiting_at}
use Rattle.voting_laws.proofs.account.Begun.{undone_begun}

module _ (s : Setting) (v : Valid s) (H : List Entry) (flight : List Mail) (g : Good s H flight) (who : Attempt) where
  abbrev ms : List Msg
  ms = heard (home s who.txn) H

  abbrev acc : List Access
  acc = s.accesses who.txn

  abbrev n : ℕ
  n = length (grants_for who ms)

  same_waiting : (key : Key) (ws : List Asked) → waiting_for who key ws ≡ waiting who key ws
  same_waiting key [] = refl
  same_waiting key (a ∷ ws) = ap (λ k. cond (attempt_eq a.who who && key_eq a.key key) 1 0 + k) (same_waiting key ws)

  same_for : (key : Key) (o : Option Access) → is_for key o ≡ key_in key o
  same_for key None = refl
  same_for key (Some a) = refl

  accesses' : (key : Key) → count (sent_to (partition_of key s.parts) (is_ask who key)) flight + waiting_at s v H flight g who key + count (sent_to (home s who.txn) (is_answer who key)) flight ≡ cond (started_for who ms && not (refused_for who ms)) (key_in key (slice_get acc n)) 0
  accesses' key = go (started_for who ms) refl (refused_for who ms) refl
    where
      go : (a : Bool) → started_for who ms ≡ a → (b : Bool) → refused_for who ms ≡ b → count (sent_to (partition_of key s.parts) (is_ask who key)) flight + waiting_at s v H flight g who key + count (sent_to (home s who.txn) (is_answer who key)) flight ≡ cond (a && not b) (key_in key (slice_get acc n)) 0
      go a ea b eb =
          let came = answers_heard s (home s who.txn) who key ms (g.fit (home s who.txn)) in
          let asked = ask_ledger s v H flight g who key in
          let said = answer_ledger s v H flight g who key in
          let came' : count_msgs (is_answer who key) ms ≡ keys_in key (take_first n acc) + cond b (key_in key (slice_get acc n)) 0 = came ∙ ap (λ z. keys_in key (take_first n acc) + cond z (key_in key (slice_get acc n)) 0) eb in
          let asked' : count (sent_to (partition_of key s.parts) (is_ask who key)) flight + count_msgs (is_ask who key) (heard (partition_of key s.parts) H) ≡ cond a (keys_in key (take_first (suc n) acc)) 0 = asked ∙ ap (λ z. cond z (keys_in key (take_first (suc n) acc)) 0) ea in
          sums a b (count (sent_to (partition_of key s.parts) (is_ask who key)) flight) (count_msgs (is_ask who key) (heard (partition_of key s.parts) H)) (count (sent_to (home s who.txn) (is_answer who key)) flight) (count_msgs (is_answer who key) ms) (waiting_at s v H flight g who key) (keys_in key (take_first n acc)) (keys_in key (take_first (suc n) acc)) (key_in key (slice_get acc n)) asked' said came' (keys_more key n acc)
        where
          sums : (a b : Bool) (f h x y w t u k : ℕ) → f + h ≡ cond a u 0 → x + y + w ≡ h → y ≡ t + cond b k 0 → u ≡ t + k → f + w + x ≡ cond (a && not b) k 0
          sums true true f h x y w t u k p q r z = omega (arith, p, q, r, z)
          sums true false f h x y w t u k p q r z = omega (arith, p, q, r, z)
          sums false b f h x y w t u k p q r z = omega (arith, p, q)

  pub account : Accounts s H flight who ms
  account = record {
    starts = start_most s v H flight g who;
    accesses = λ key. omega (arith, accesses' key, same_waiting key (waits (calls s (partition_of key s.parts) (heard (partition_of key s.parts) H)))) ∙ ap (λ k. cond (started_for who ms && not (refused_for who ms)) k 0) (sym (same_for key (slice_get acc n)));
    votes = λ q. omega (arith, vote_ledger s v H flight g who q, prepare_ledger s v H flight g who q);
    ends = λ q. omega (arith, close_ledger s v H flight g who q, end_ledger s v H flight g who q);
    turns = λ turn low lt b. undone_begun s v H flight g who.txn turn who.turn low lt b;
  }

-- No two mails in flight are equal.
use Rattle.std.proofs.Common.{◌≡◌, ℕ, ◌+◌, ◌≤◌, List, ◌∷◌, ◌++◌, Bool, true, cond, ◌&&◌, eqb, refl, sym, ap, ◌∙◌, subst, inl, ⊎_elim, arith}
use Rattle.std.proofs.lemmas.Bool.Decides.{nat_tests}
use Rattle.deneva_base.specs.declared.keys.Key.{Key}
use Rattle.deneva_base.specs.declared.numbers.Attempt.{Attempt}
use Rattle.deneva_base.specs.Lists.{IsIn}
use Rattle.deneva_base.specs.Keys.{attempt_eq, key_eq}
use Rattle.deneva_base.proofs.Membership.{in_right, attempt_tells, key_tells}
use Rattle.server_core.specs.declared.messages.Msg.{Msg}
use Rattle.server_core.specs.declared.messages.Msg.TheVariants.{Start, Ask, Granted, Refused, Prepare, Yes, No, Commit, Abort, Done, Undone, Tick, Batch, Rows, Finished}
use Rattle.server_core.specs.declared.messages.Mail.{Mail}
use Rattle.server_core.specs.declared.messages.Entry.{Entry}
use Rattle.server_core.specs.Setting.{Setting, home}
use Rattle.deneva_base.specs.Partitions.{partition_of}
use Rattle.server_core.specs.Proper.{Valid, ProperMsg}
use Rattle.server_core.specs.Counts.{count}
use Rattle.server_core.proofs.counts.Conserved.{count-append, count_in}
use Rattle.server_core.proofs.counts.Local.{sent_to}
use Rattle.server_core.proofs.counts.Quiet.{is_ask, is_answer, is_prepare, is_vote, is_end, is_close}
use Rattle.server_core.proofs.counts.Starts.{is_start}
use Rattle.voting_laws.proofs.fits.Account.{Good, looks, start_looks, start_most, ask_ledger, at_most_one, answer_ledger, prepare_ledger, prepares_once, vote_ledger, end_ledger, ends_once, close_ledger}

module _ (s : Setting) (v : Valid s) (H : List Entry) (flight : List Mail) (g : Good s H flight) where
  twice : (t : Msg → Bool) (q : ℕ) (x : Mail) (front back : List Mail) → flight ≡ front ++ x ∷ back → IsIn x front → x.to ≡ q → t x.msg ≡ true → count (sent_to q t) flight ≤ 1 → ⊥
  twice t q x front back is i to e most =
      let p : sent_to q t x ≡ true = pass (t x.msg) x.to q e to in
      let one : 1 ≤ count (sent_to q t) front = count_in (sent_to q t) x front i p in
      let two : 1 + count (sent_to q t) back ≡ count (sent_to q t) (x ∷ back) = ap (λ b. cond b 1 0 + count (sent_to q t) back) (sym p) in
      omega (arith, ap (count (sent_to q t)) is, count-append (sent_to q t) front (x ∷ back), one, two, most)
    where
      pass : (a : Bool) (m q : ℕ) → a ≡ true → m ≡ q → (a && eqb m q) ≡ true
      pass a m q e f = grind (arith, nat_tests, e, f)

  self : (y : Attempt) → attempt_eq y y ≡ true
  self y = ⊎_elim (λ t. t.0) (λ f. absurd (f.1 refl)) (attempt_tells y y)

  self_key : (y : Attempt) (k : Key) → (attempt_eq y y && key_eq k k) ≡ true
  self_key y k = grind (arith, attempt_tells y y, key_tells k k)

  self_part : (y : Attempt) (q : ℕ) → (attempt_eq y y && eqb q q) ≡ true
  self_part y q = grind (arith, nat_tests, attempt_tells y y)

  -- no two mails in flight are equal
  pub no_twins : (x : Mail) (front back : List Mail) → flight ≡ front ++ x ∷ back → IsIn x front → ⊥
  no_twins x front back is i = go x.msg refl
    where
      here : IsIn x flight
      here = subst (λ l. IsIn x l) (sym is) (in_right x front (x ∷ back) (inl refl))

      look : (y : Attempt) (m : Msg) → x.msg ≡ m → ((z : Attempt) → m ≡ Start z → ⊥) → ProperMsg s x.from x.to m
      look y m e d = (looks s v H flight g y x m here e d).1

      at : (t : Msg → Bool) (q : ℕ) (m : Msg) → x.msg ≡ m → x.to ≡ q → t m ≡ true → count (sent_to q t) flight ≤ 1 → ⊥
      at t q m e to h most = twice t q x front back is i to (subst (λ z. t z ≡ true) (sym e) h) most

      go : (m : Msg) → x.msg ≡ m → ⊥
      go (Start y) e =
          let l = start_looks s v H flight g y x here e in
          at (is_start y) (home s y.txn) (Start y) e (l.0 ∙ l.1) (self y) (omega (arith, start_most s v H flight g y))
      go (Ask y st k m) e =
          let l = look y (Ask y st k m) e (λ z d. cc (d)) in
          at (is_ask y k) (partition_of k s.parts) (Ask y st k m) e l.1 (self_key y k) (omega (arith, ask_ledger s v H flight g y k, at_most_one s v H flight g y k))
      go (Granted y k r n b) e =
          let l = look y (Granted y k r n b) e (λ z d. cc (d)) in
          at (is_answer y k) (home s y.txn) (Granted y k r n b) e l.0 (self_key y k) (omega (arith, answer_ledger s v H flight g y k, ask_ledger s v H flight g y k, at_most_one s v H flight g y k))
      go (Refused y k c) e =
          let l = look y (Refused y k c) e (λ z d. cc (d)) in
          at (is_answer y k) (home s y.txn) (Refused y k c) e l.0 (self_key y k) (omega (arith, answer_ledger s v H flight g y k, ask_ledger s v H flight g y k, at_most_one s v H flight g y k))
      go (Prepare y b w a) e = at (is_prepare y) x.to (Prepare y b w a) e refl (self y) (omega (arith, prepare_ledger s v H flight g y x.to, prepares_once s v H flight g y x.to))
      go (Yes y part lo hi) e =
          let l = look y (Yes y part lo hi) e (λ z d. cc (d)) in
          at (is_vote y part) (home s y.txn) (Yes y part lo hi) e l.0 (self_part y part) (omega (arith, vote_ledger s v H flight g y part, prepare_ledger s v H flight g y part, prepares_once s v H flight g y part))
      go (No y part c) e =
          let l = look y (No y part c) e (λ z d. cc (d)) in
          at (is_vote y part) (home s y.txn) (No y part c) e l.0 (self_part y part) (omega (arith, vote_ledger s v H flight g y part, prepare_ledger s v H flight g y part, prepares_once s v H flight g y part))
      go (Commit y n) e = at (is_end y) x.to (Commit y n) e refl (self y) (omega (arith, end_ledger s v H flight g y x.to, ends_once s v H flight g y x.to))
      go (Abort y) e = at (is_end y) x.to (Abort y) e refl (self y) (omega (arith, end_ledger s v H flight g y x.to, ends_once s v H flight g y x.to))
      go (Done y part) e =
          let l = look y (Done y part) e (λ z d. cc (d)) in
          at (is_close y part) (home s y.txn) (Done y part) e l.0 (self_part y part) (omega (arith, close_ledger s v H flight g y part, end_ledger s v H flight g y part, ends_once s v H flight g y part))
      go (Undone y part) e =
          let l = look y (Undone y part) e (λ z d. cc (d)) in
          at (is_close y part) (home s y.txn) (Undone y part) e l.0 (self_part y part) (omega (arith, close_ledger s v H flight g y part, end_ledger s v H flight g y part, ends_once s v H flight g y part))
      go (Tick a) e = look (record { txn = record { 0 = 0 }; turn = 0 }) (Tick a) e (λ z d. cc (d))
      go (Batch a b c) e = look (record { txn = record { 0 = 0 }; turn = 0 }) (Batch a b c) e (λ z d. cc (d))
      go (Rows a b c) e = look (record { txn = record { 0 = 0 }; turn = 0 }) (Rows a b c) e (λ z d. cc (d))
      go (Finished a b c) e = look (record { txn = record { 0 = 0 }; turn = 0 }) (Finished a b c) e (λ z d. cc (d))

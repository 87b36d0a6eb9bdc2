-- In a quiet run a transaction has one Commit at each participant, or none.
use Rattle.std.proofs.Common.{◌≡◌, ℕ, ◌≤◌, List, [], ◌∷◌, Bool, true, false, cond, eqb, refl, sym, ap, ◌∙◌, subst, inl, inr, ⊎_elim, arith, true≢false}
use Rattle.std.proofs.lemmas.Bool.Decides.{nat_tests}
use Rattle.deneva_base.specs.declared.numbers.TxnId.{TxnId}
use Rattle.deneva_base.specs.declared.numbers.Attempt.{Attempt}
use Rattle.deneva_base.specs.declared.numbers.Number.{Number}
use Rattle.deneva_base.specs.Lists.{IsIn}
use Rattle.deneva_base.proofs.Membership.{any_tells, attempt_decides}
use Rattle.server_core.specs.declared.messages.Msg.{Msg}
use Rattle.server_core.specs.declared.messages.Msg.TheVariants.{Start, Commit}
use Rattle.server_core.specs.declared.messages.Entry.{Entry}
use Rattle.server_core.specs.Setting.{Setting, partitions_of}
use Rattle.server_core.specs.Proper.{Valid}
use Rattle.server_core.specs.Runs.{heard}
use Rattle.server_core.specs.Counts.{count_msgs}
use Rattle.server_core.specs.VotingAtomic.{commits, Committed, IsWhole}
use Rattle.server_core.proofs.counts.Quiet.{is_end}
use Rattle.server_core.proofs.values.Values.{find_msg}
use Rattle.voting_laws.proofs.fits.Lands.{msg_counted}
use Rattle.voting_laws.proofs.numbers.Events.{entry_heard}
use Rattle.voting_laws.proofs.fits.Account.{Good, end_ledger, ends_once}
use Rattle.voting_laws.proofs.fits.Every.{atomic, everywhere}

fewer : (t u : Msg → Bool) (ms : List Msg) → ((m : Msg) → IsIn m ms → t m ≡ true → u m ≡ true) → count_msgs t ms ≤ count_msgs u ms
fewer t u [] h = omega arith
fewer t u (m ∷ ms) h = go (t m) refl (fewer t u ms (λ y i. h y (inr i)))
  where
    go : (b : Bool) → t m ≡ b → count_msgs t ms ≤ count_msgs u ms → count_msgs t (m ∷ ms) ≤ count_msgs u (m ∷ ms)
    go true e ih = let f : u m ≡ true = h m (inl refl) e in rw (e, f) (omega (arith, ih))
    go false e ih = rw e (omega (arith, ih))

is_commit_of : (x : TxnId) (m : Msg) → commits x m ≡ true → (a : Attempt) × (n : Number) × (m ≡ Commit a n) × (a.txn ≡ x)
is_commit_of x (Commit a n) e = (a, n, refl, same a.txn x (is a.txn.0 x.0 e))
  where
    is : (p q : ℕ) → eqb p q ≡ true → p ≡ q
    is p q e = grind (arith, nat_tests)

    same : (a b : TxnId) → a.0 ≡ b.0 → a ≡ b
    same a b e = λ j. record { 0 = e j }
is_commit_of x (Start a) e = absurd (true≢false (sym e))
is_commit_of x m e = absurd (true≢false (sym e))

none_of : (n : ℕ) → (1 ≤ n → ⊥) → n ≡ 0
none_of n h = grind (arith, h)

pub whole : (s : Setting) (v : Valid s) (H : List Entry) → Good s H [] → (x : TxnId) → IsWhole s H x
whole s v H g x = ⊎_elim (λ e. inl (some e.0 e.1 (is_commit_of x e.0.msg e.2))) (λ n. inr (λ q. none_of (count_msgs (commits x) (heard q H)) (λ h. nobody n q h))) (any_tells (λ (e : Entry). commits x e.msg) H)
  where
    at_entry : (H : List Entry) (q : ℕ) (m : Msg) → IsIn m (heard q H) → (e : Entry) × IsIn e H × (e.msg ≡ m)
    at_entry [] q m i = absurd i
    at_entry (e ∷ H) q m i = go (eqb e.node q) i (at_entry H q m)
      where
        go : (b : Bool) → IsIn m (cond b (e.msg ∷ heard q H) (heard q H)) → (IsIn m (heard q H) → (y : Entry) × IsIn y H × (y.msg ≡ m)) → (y : Entry) × IsIn y (e ∷ H) × (y.msg ≡ m)
        go true i next = ⊎_elim (λ is. (e, inl refl, sym is)) (λ r. let n = next r in (n.0, inr n.1, n.2)) i
        go false i next = let n = next i in (n.0, inr n.1, n.2)

    nobody : ((e : Entry) → IsIn e H → commits x e.msg ≡ false) → (q : ℕ) → 1 ≤ count_msgs (commits x) (heard q H) → ⊥
    nobody n q h =
        let m = find_msg (commits x) (heard q H) h in
        let e = at_entry H q m.0 m.1 in
        true≢false (sym m.2 ∙ ap (commits x) (sym e.2) ∙ n e.0 e.1)

    some : (e : Entry) → IsIn e H → ((a : Attempt) × (n : Number) × (e.msg ≡ Commit a n) × (a.txn ≡ x)) → Committed s H x
    some e i c =
        let a : Attempt = c.0 in
        let n : Number = c.1 in
        let at = atomic s v H [] g in
        let here : IsIn (Commit a n) (heard e.node H) = subst (λ m. IsIn m (heard e.node H)) c.2 (entry_heard H e i) in
        let all : (q : ℕ) → IsIn q (partitions_of s.parts (s.accesses x)) → IsIn (Commit a n) (heard q H)
        = λ q j. everywhere s v H [] g refl a n e.node q here (subst (λ (y : TxnId). IsIn q (partitions_of s.parts (s.accesses y))) (sym c.3) j) in
        record {
          attempt = a;
          number = n;
          own = c.3;
          once = λ q j. exact (count_msgs (commits x) (heard q H)) (msg_counted (commits x) (heard q H) (Commit a n) (all q j) (same a.txn.0 x.0 (ap (λ (y : TxnId). y.0) c.3)))
              (omega (arith, fewer (commits x) (is_end a) (heard q H) (λ m k t. ended a n e.node q c.3 here m k t), end_ledger s v H [] g a q, ends_once s v H [] g a q));
          here = all;
          window = λ q j. at.window a n e.node q here (subst (λ (y : TxnId). IsIn q (partitions_of s.parts (s.accesses y))) (sym c.3) j);
          nowhere = λ q out. none_of (count_msgs (commits x) (heard q H)) (λ h.
              let m = find_msg (commits x) (heard q H) h in
              let d = is_commit_of x m.0 m.2 in
              out (subst (λ (y : TxnId). IsIn q (partitions_of s.parts (s.accesses y))) d.3 (at.place d.0 d.1 q (subst (λ z. IsIn z (heard q H)) d.2 m.1))));
        }
      where
        same : (p q : ℕ) → p ≡ q → eqb p q ≡ true
        same p q e = grind (arith, nat_tests, e)

        exact : (k : ℕ) → 1 ≤ k → k ≤ 1 → k ≡ 1
        exact k l h = omega (arith, l, h)

        ended : (a : Attempt) (n : Number) (p q : ℕ) → a.txn ≡ x → IsIn (Commit a n) (heard p H) → (m : Msg) → IsIn m (heard q H) → commits x m ≡ true → is_end a m ≡ true
        ended a n p q own here m k t =
            let d = is_commit_of x m t in
            let is = ((atomic s v H [] g).one d.0 a d.1 n q p (d.3 ∙ sym own) (subst (λ z. IsIn z (heard q H)) d.2 k) here).0 in
            subst (λ z. is_end a z ≡ true) (sym d.2) ((attempt_decides d.0 a).1 is)

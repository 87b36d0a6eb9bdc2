-- Each decided transaction committed at just its participants with its number, which its line has, and a given-up one
-- nowhere, after all its turns.
use Rattle.std.proofs.Common.{◌≡◌, ℕ, ◌+◌, List, [], ◌∷◌, ◌++◌, Bool, true, false, cond, eqb, refl, sym, ap, ap₂, ◌∙◌, subst, ⊎_elim, arith, append-nil, true≢false}
use Rattle.std.specs.List.{flat_map, list_any}
use Rattle.std.proofs.lemmas.Bool.Decides.{nat_tests}
use Rattle.deneva_base.specs.Lists.{IsIn}
use Rattle.deneva_base.specs.declared.numbers.Attempt.{Attempt}
use Rattle.deneva_base.specs.declared.numbers.Number.{Number}
use Rattle.deneva_base.specs.declared.numbers.TxnId.{TxnId}
use Rattle.deneva_base.proofs.Membership.{any_at, any_found}
use Rattle.server_core.specs.Counts.{count_msgs}
use Rattle.server_core.specs.AttemptEnds.{attempt, all_undone}
use Rattle.server_core.specs.Lines.{lines, sort_lines, giveups_of}
use Rattle.server_core.specs.Proper.{Valid}
use Rattle.server_core.specs.Runs.{heard}
use Rattle.server_core.specs.Setting.{Setting, home, partitions_of, participants_for}
use Rattle.server_core.specs.CalvinAtomic.{finished_number}
use Rattle.server_core.specs.Told.{commit_number, numbers_at}
use Rattle.server_core.specs.VotingAtomic.{Committed, commits}
use Rattle.server_core.specs.VotingFits.{AllFit}
use Rattle.server_core.specs.declared.messages.Entry.{Entry}
use Rattle.server_core.specs.declared.messages.Msg.{Msg}
use Rattle.server_core.specs.declared.messages.Msg.TheVariants.{Start, Commit, Finished}
use Rattle.server_core.specs.declared.outcomes.Decided.{Decided as Line}
use Rattle.server_core.specs.declared.outcomes.Giveup.{Giveup}
use Rattle.server_core.proofs.serial.SortedLines.{sorted_in}
use Rattle.server_core.proofs.values.Closed.{in_flat}
use Rattle.voting_laws.proofs.fits.Account.{Good}
use Rattle.voting_laws.proofs.fits.Lands.{msg_counted}
use Rattle.voting_laws.proofs.serial.Lines.{facts, listed_part}
use Rattle.voting_laws.proofs.serial.SerialOutcomes.{commit_stays}
use Rattle.voting_laws.proofs.Wholes.{whole}

-- no voting protocol says Finished
none_finished : (s : Setting) (p : ℕ) (x : TxnId) (q : ℕ) (ms : List Msg) → AllFit s p ms → flat_map (finished_number x q) ms ≡ []
none_finished s p x q [] fit = refl
none_finished s p x q (Finished y r n ∷ ms) fit = absurd fit.0.1
none_finished s p x q (m ∷ ms) fit = none_finished s p x q ms fit.1

-- a message that is no Commit of the transaction has no number
no_number : (x : TxnId) (m : Msg) → commits x m ≡ false → commit_number x m ≡ []
no_number x (Commit a n) e = ap (λ b. cond b (n ∷ []) []) e
no_number x (Start a) e = refl
no_number x m e = refl

one_number : (x : TxnId) (a : Attempt) (n : Number) → commits x (Commit a n) ≡ true → commit_number x (Commit a n) ≡ n ∷ []
one_number x a n e = ap (λ b. cond b (n ∷ []) []) e

none_told : (x : TxnId) (ms : List Msg) → count_msgs (commits x) ms ≡ 0 → flat_map (commit_number x) ms ≡ []
none_told x [] h = refl
none_told x (m ∷ ms) h = go (commits x m) refl h (none_told x ms)
  where
    go : (b : Bool) → commits x m ≡ b → cond b 1 0 + count_msgs (commits x) ms ≡ 0 → (count_msgs (commits x) ms ≡ 0 → flat_map (commit_number x) ms ≡ []) → commit_number x m ++ flat_map (commit_number x) ms ≡ []
    go true e k next = absurd (omega (arith, k))
    go false e k next = ap₂ (λ a b. a ++ b) (no_number x m e) (next (omega (arith, k)))

one_told : (x : TxnId) (a : Attempt) (n : Number) (ms : List Msg) → IsIn (Commit a n) ms → commits x (Commit a n) ≡ true → count_msgs (commits x) ms ≡ 1 → flat_map (commit_number x) ms ≡ n ∷ []
one_told x a n [] i own h = absurd i
one_told x a n (m ∷ ms) i own h =
    ⊎_elim
    (λ (is : Commit a n ≡ m).
    let e : commits x m ≡ true = subst (λ z. commits x z ≡ true) is own in
    let k : 1 + count_msgs (commits x) ms ≡ 1 = subst (λ b. cond b 1 0 + count_msgs (commits x) ms ≡ 1) e h in
    ap₂ (λ b c. b ++ c) (subst (λ z. commit_number x z ≡ n ∷ []) is (one_number x a n own)) (none_told x ms (omega (arith, k))))
    (λ r. later (commits x m) refl r h (one_told x a n ms r own))
    i
  where
    later : (b : Bool) → commits x m ≡ b → IsIn (Commit a n) ms → cond b 1 0 + count_msgs (commits x) ms ≡ 1 → (count_msgs (commits x) ms ≡ 1 → flat_map (commit_number x) ms ≡ n ∷ []) → commit_number x m ++ flat_map (commit_number x) ms ≡ n ∷ []
    later true e r k next = let some = msg_counted (commits x) ms (Commit a n) r own in absurd (omega (arith, k, some))
    later false e r k next = ap₂ (λ b c. b ++ c) (no_number x m e) (next (omega (arith, k)))

same_id : (n : ℕ) → eqb n n ≡ true
same_id n = grind (arith, nat_tests)

is_same : (a b : ℕ) → eqb a b ≡ true → a ≡ b
is_same a b e = grind (arith, nat_tests)

module _ (s : Setting) (v : Valid s) (H : List Entry) (g : Good s H []) where
  -- the Commits tell all
  only_commits : (x : TxnId) (p : ℕ) → numbers_at s H x p ≡ flat_map (commit_number x) (heard p H)
  only_commits x p = ap (λ l. flat_map (commit_number x) (heard p H) ++ l) (none_finished s (home s x) x p (heard (home s x) H) (g.fit (home s x))) ∙ append-nil (flat_map (commit_number x) (heard p H))

  own : (x : TxnId) (a : Attempt) (n : Number) → a.txn ≡ x → commits x (Commit a n) ≡ true
  own x a n e = subst (λ (y : TxnId). eqb a.txn.0 y.0 ≡ true) e (same_id a.txn.0)

  committed_told : (x : TxnId) (c : Committed s H x) (p : ℕ) → numbers_at s H x p ≡ cond (list_any (λ q. eqb q p) (partitions_of s.parts (s.accesses x))) (c.number ∷ []) []
  committed_told x c p = only_commits x p ∙ go (list_any (λ q. eqb q p) (partitions_of s.parts (s.accesses x))) refl
    where
      go : (b : Bool) → list_any (λ q. eqb q p) (partitions_of s.parts (s.accesses x)) ≡ b → flat_map (commit_number x) (heard p H) ≡ cond b (c.number ∷ []) []
      go true e =
          let f = any_found (λ q. eqb q p) (partitions_of s.parts (s.accesses x)) e in
          let here : IsIn p (partitions_of s.parts (s.accesses x)) = subst (λ q. IsIn q (partitions_of s.parts (s.accesses x))) (is_same f.0 p f.2) f.1 in
          one_told x c.attempt c.number (heard p H) (c.here p here) (own x c.attempt c.number c.own) (c.once p here)
      go false e = none_told x (heard p H) (c.nowhere p (λ i. true≢false (sym (any_at (λ q. eqb q p) p (partitions_of s.parts (s.accesses x)) i (same_id p)) ∙ e)))

  -- a transaction that committed somewhere committed at its participants, with that number
  committed_with : (x : TxnId) (a : Attempt) (n : Number) (p : ℕ) → a.txn ≡ x → IsIn (Commit a n) (heard p H) → (c : Committed s H x) × (c.number ≡ n)
  committed_with x a n p e i =
      ⊎_elim
      (λ c. (c, same c))
      (λ none. absurd (let some = msg_counted (commits x) (heard p H) (Commit a n) i (own x a n e) in omega (arith, some, none p)))
      (whole s v H g x)
    where
      same : (c : Committed s H x) → c.number ≡ n
      same c =
          let told : n ∷ [] ≡ flat_map (commit_number x) (heard p H) = sym (one_told x a n (heard p H) i (own x a n e) (once (list_any (λ q. eqb q p) (partitions_of s.parts (s.accesses x))) refl)) in
          let there : flat_map (commit_number x) (heard p H) ≡ cond (list_any (λ q. eqb q p) (partitions_of s.parts (s.accesses x))) (c.number ∷ []) [] = sym (only_commits x p) ∙ committed_told x c p in
          pick (list_any (λ q. eqb q p) (partitions_of s.parts (s.accesses x))) (told ∙ there)
        where
          pick : (b : Bool) → n ∷ [] ≡ cond b (c.number ∷ []) [] → c.number ≡ n
          pick true k = cc (k)
          pick false k = absurd (cc (k))

          once : (b : Bool) → list_any (λ q. eqb q p) (partitions_of s.parts (s.accesses x)) ≡ b → count_msgs (commits x) (heard p H) ≡ 1
          once true k = let f = any_found (λ q. eqb q p) (partitions_of s.parts (s.accesses x)) k in c.once p (subst (λ q. IsIn q (partitions_of s.parts (s.accesses x))) (is_same f.0 p f.2) f.1)
          once false k =
              let some = msg_counted (commits x) (heard p H) (Commit a n) i (own x a n e) in
              let none = c.nowhere p (λ j. true≢false (sym (any_at (λ q. eqb q p) p (partitions_of s.parts (s.accesses x)) j (same_id p)) ∙ k)) in
              absurd (omega (arith, some, none))

  pub decided_told : (l : Line) (p : ℕ) → IsIn l (sort_lines (lines s H)) → numbers_at s H l.number.id p ≡ cond (list_any (λ q. eqb q p) l.participants) (l.number ∷ []) []
  decided_told l p i =
      let f = facts s v H [] g l (sorted_in l (lines s H) i) in
      let is : f.who.txn ≡ l.number.id = sym (ap (λ (z : Line). z.number.id) f.is) in
      let c = committed_with l.number.id f.who l.number f.place is f.commit in
      committed_told l.number.id c.0 p
      ∙ ap₂ (λ (qs : List ℕ) n. cond (list_any (λ q. eqb q p) qs) (n ∷ []) []) (ap (λ (y : TxnId). partitions_of s.parts (s.accesses y)) (sym is) ∙ sym (ap (λ (z : Line). z.participants) f.is)) c.1

  pub participants_told : (l : Line) → IsIn l (sort_lines (lines s H)) → l.participants ≡ participants_for s l.number.id
  participants_told l i =
      let f = facts s v H [] g l (sorted_in l (lines s H) i) in
      ap (λ (z : Line). z.participants) f.is ∙ ap (λ (y : TxnId). participants_for s y) (sym (ap (λ (z : Line). z.number.id) f.is))

  pub turns_told : (k : Giveup) → IsIn k (giveups_of s H) → k.turns ≡ s.attempts
  turns_told k i =
      let y = in_flat (λ x. cond (all_undone s H (attempt x s.attempts)) (record { id = x; turns = s.attempts } ∷ []) []) s.ids k i in
      go y.0 (all_undone s H (attempt y.0 s.attempts)) y.2
    where
      go : (y : TxnId) (b : Bool) → IsIn k (cond b (record { id = y; turns = s.attempts } ∷ []) []) → k.turns ≡ s.attempts
      go y true j = ⊎_elim (λ is. ap (λ (z : Giveup). z.turns) is) (λ n. absurd n) j
      go y false j = absurd j

  pub given_up_told : (k : Giveup) (p : ℕ) → IsIn k (giveups_of s H) → numbers_at s H k.id p ≡ []
  given_up_told k p i =
      ⊎_elim
      (λ c. absurd (no_commit c))
      (λ none. only_commits k.id p ∙ none_told k.id (heard p H) (none p))
      (whole s v H g k.id)
    where
      given : (x : TxnId) × IsIn x s.ids × ((k.id ≡ x) × (all_undone s H (attempt x s.attempts) ≡ true))
      given =
          let y = in_flat (λ x. cond (all_undone s H (attempt x s.attempts)) (record { id = x; turns = s.attempts } ∷ []) []) s.ids k i in
          (y.0, y.1, go y.0 (all_undone s H (attempt y.0 s.attempts)) y.2)
        where
          go : (y : TxnId) (b : Bool) → IsIn k (cond b (record { id = y; turns = s.attempts } ∷ []) []) → (k.id ≡ y) × (b ≡ true)
          go y true j = ⊎_elim (λ is. (ap (λ (z : Giveup). z.id) is, refl)) (λ n. absurd n) j
          go y false j = absurd j

      no_commit : Committed s H k.id → ⊥
      no_commit c =
          let x = given.0 in
          let q = listed_part s v H [] g k.id (subst (λ z. IsIn z s.ids) (sym given.2.0) given.1) in
          commit_stays s v H [] g c.attempt c.number q.0 (c.here q.0 q.1) (subst (λ z. all_undone s H (attempt z s.attempts) ≡ true) (sym (c.own ∙ given.2.0)) given.2.1)

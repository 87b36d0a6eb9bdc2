-- The decided lines of a run, and the Commits that they stand for.
use Rattle.std.proofs.Common.{◌≡◌, ◌≢◌, ℕ, zero, suc, ◌≤◌, List, [], ◌∷◌, ◌++◌, length, reverse, slice_get, Bool, true, false, cond, ◌||◌, eqb, refl, sym, ap, ◌∙◌, subst, subst₂, inl, inr, ⊎_elim, arith, Option, Some, None, true≢false}
use Rattle.std.specs.Prelude.{⊤}
use Rattle.std.specs.List.{list_any}
use Rattle.std.proofs.lemmas.List.{reverse-append, length-reverse}
use Rattle.std.proofs.lemmas.Bool.Decides.{nat_tests, eqb_tells}
use Rattle.deneva_base.specs.declared.numbers.TxnId.{TxnId}
use Rattle.deneva_base.specs.declared.numbers.Attempt.{Attempt}
use Rattle.deneva_base.specs.declared.numbers.Number.{Number}
use Rattle.deneva_base.specs.Lists.{IsIn}
use Rattle.deneva_base.specs.Keys.{attempt_eq}
use Rattle.deneva_base.specs.Modes.{reads, IsReading}
use Rattle.deneva_base.specs.declared.rows.Keyed.{Keyed}
use Rattle.deneva_base.proofs.Membership.{in_right, and_parts, and_true, attempt_tells, reading_decides}
use Rattle.server_core.specs.declared.messages.Msg.{Msg}
use Rattle.server_core.specs.declared.messages.Msg.TheVariants.{Start, Ask, Granted, Commit, Abort, Done, Undone}
use Rattle.server_core.specs.declared.messages.Mail.{Mail}
use Rattle.server_core.specs.declared.messages.Entry.{Entry}
use Rattle.server_core.specs.Setting.{Setting, home, partitions_of, participants}
use Rattle.deneva_base.specs.declared.keys.Access.{Access}
use Rattle.server_core.specs.Received.{Reply, grants_for, started_for, all_closed, votes_for}
use Rattle.deneva_base.specs.Partitions.{partition_of}
use Rattle.server_core.specs.Voting.{says}
use Rattle.server_core.specs.Participant.{mail_home}
use Rattle.server_core.specs.Coordinator.{reads_of, first_no}
use Rattle.server_core.specs.VotingFits.{Suits, AllFit}
use Rattle.server_core.specs.Proper.{Valid}
use Rattle.server_core.specs.Runs.{heard}
use Rattle.server_core.specs.Counts.{all_said}
use Rattle.server_core.specs.declared.outcomes.Decided.{Decided as Line}
use Rattle.server_core.specs.AttemptEnds.{attempt, at_home, dones_for, all_done, done_turn}
use Rattle.server_core.specs.Lines.{n_in, committed_n, line_of, line_if, lines}
use Rattle.server_core.proofs.values.Origins.{started_ids}
use Rattle.server_core.proofs.values.Values.{key_there, done_made, is_done}
use Rattle.server_core.proofs.lists.Parts.{parts_in}
use Rattle.server_core.proofs.values.Decisions.{commit_means}
use Rattle.voting_laws.proofs.fits.Every.{decided}
use Rattle.voting_laws.proofs.fits.Account.{Good, said_at, itself}
use Rattle.server_core.proofs.values.Closed.{in_flat, closed_there}

pub all_there : (cs qs : List ℕ) → ((q : ℕ) → IsIn q qs → IsIn q cs) → all_closed cs qs ≡ true
all_there cs [] h = refl
all_there cs (x ∷ qs) h = and_true (list_any (λ c. eqb c x) cs) (all_closed cs qs) (any cs (h x (inl refl))) (all_there cs qs (λ q i. h q (inr i)))
  where
    same : (n : ℕ) → eqb n n ≡ true
    same n = grind (arith, nat_tests)

    any : (ys : List ℕ) → IsIn x ys → list_any (λ c. eqb c x) ys ≡ true
    any [] i = absurd i
    any (y ∷ ys) i = ⊎_elim (λ (is : x ≡ y). let e : eqb y x ≡ true = subst (λ z. eqb z x ≡ true) is (same x) in rw e) (λ r. or_right (eqb y x) (any ys r)) i
      where
        or_right : (a : Bool) {b : Bool} → b ≡ true → (a || b) ≡ true
        or_right true e = refl
        or_right false e = e

pub done_heard : (who : Attempt) (q : ℕ) (ms : List Msg) → IsIn q (dones_for who ms) → IsIn (Done who q) ms
done_heard who q [] i = absurd i
done_heard who q (Done x part ∷ ms) i =
    ⊎_elim
    (λ t. ⊎_elim (λ (is : q ≡ part). inl (subst₂ (λ y z. Done y z ≡ Done x part) t.1 (sym is) refl)) (λ r. inr (done_heard who q ms r)) (rw t.0 at i))
    (λ t. inr (done_heard who q ms (rw t.0 at i)))
    (attempt_tells x who)
done_heard who q (m ∷ ms) i = inr (done_heard who q ms i)

pub heard_done : (who : Attempt) (q : ℕ) (ms : List Msg) → IsIn (Done who q) ms → IsIn q (dones_for who ms)
heard_done who q [] i = absurd i
heard_done who q (Done x part ∷ ms) i =
    ⊎_elim
    (λ (e : Done who q ≡ Done x part). let is_who : who ≡ x = cc in let is_part : q ≡ part = cc in ⊎_elim (λ t. rw t.0 (inl is_part)) (λ t. absurd (t.1 (sym is_who))) (attempt_tells x who))
    (λ r. let h = heard_done who q ms r in ⊎_elim (λ t. rw t.0 (inr h)) (λ t. rw t.0 h) (attempt_tells x who))
    i
heard_done who q (Ask x st k m ∷ ms) i = heard_done who q ms (⊎_elim (λ e. absurd (cc (e))) (λ r. r) i)
heard_done who q (m ∷ ms) i = heard_done who q ms (⊎_elim (λ e. absurd (cc (e))) (λ r. r) i)

-- the attempt's Commit with this n
abbrev committed : Attempt → ℕ → Msg
committed who n = Commit who (record { n = n; id = who.txn })

-- the number found is that of a Commit that was handled
pub number_found : (who : Attempt) (H : List Entry) → ((q : ℕ) (k : Number) → IsIn (Commit who k) (heard q H) → k.id ≡ who.txn) → (p : ℕ) (n : Number) → IsIn (Commit who n) (heard p H) → (q : ℕ) × IsIn (committed who (committed_n who H)) (heard q H)
number_found who [] tells p n i = absurd i
number_found who (e ∷ H) tells p n i = go e.msg refl (number_found who H (λ q k j. tells q k (keep q k j)) p n)
  where
    same : (n : ℕ) → eqb n n ≡ true
    same n = grind (arith, nat_tests)

    older : (m : Msg) → e.msg ≡ m → (m ≡ Commit who n → ⊥) → IsIn (Commit who n) (heard p H)
    older m is ne = at (eqb e.node p) i
      where
        at : (b : Bool) → IsIn (Commit who n) (cond b (e.msg ∷ heard p H) (heard p H)) → IsIn (Commit who n) (heard p H)
        at true j = ⊎_elim (λ f. absurd (ne (sym is ∙ sym f))) (λ r. r) j
        at false j = j

    keep : (q : ℕ) (k : Number) → IsIn (Commit who k) (heard q H) → IsIn (Commit who k) (heard q (e ∷ H))
    keep q k j = at (eqb e.node q)
      where
        at : (b : Bool) → IsIn (Commit who k) (cond b (e.msg ∷ heard q H) (heard q H))
        at true = inr j
        at false = j

    old : (m : Msg) → e.msg ≡ m → (m ≡ Commit who n → ⊥) → n_in who (committed_n who H) m ≡ committed_n who H → (IsIn (Commit who n) (heard p H) → (q : ℕ) × IsIn (committed who (committed_n who H)) (heard q H)) → (q : ℕ) × IsIn (committed who (n_in who (committed_n who H) m)) (heard q (e ∷ H))
    old m is ne same_n next =
        let h = next (older m is ne) in
        (h.0, subst (λ k. IsIn (committed who k) (heard h.0 (e ∷ H))) (sym same_n) (keep h.0 (record { n = committed_n who H; id = who.txn }) h.1))

    newest : (x : Attempt) (k : Number) → e.msg ≡ Commit x k → x ≡ who → IsIn (committed who k.n) (heard e.node (e ∷ H))
    newest x k is t = subst (λ (y : Number). IsIn (Commit who y) (heard e.node (e ∷ H))) named here
      where
        here : IsIn (Commit who k) (heard e.node (e ∷ H))
        here = subst (λ b. IsIn (Commit who k) (cond b (e.msg ∷ heard e.node H) (heard e.node H))) (sym (same e.node)) (inl (ap (λ z. Commit z k) (sym t) ∙ sym is))

        named : k ≡ record { n = k.n; id = who.txn }
        named = λ i. record { n = k.n; id = tells e.node k here i }

    go : (m : Msg) → e.msg ≡ m → (IsIn (Commit who n) (heard p H) → (q : ℕ) × IsIn (committed who (committed_n who H)) (heard q H)) → (q : ℕ) × IsIn (committed who (n_in who (committed_n who H) m)) (heard q (e ∷ H))
    go (Commit x k) is next =
        ⊎_elim
        (λ t. (e.node, subst (λ z. IsIn (committed who (cond z k.n (committed_n who H))) (heard e.node (e ∷ H))) (sym t.0) (newest x k is t.1)))
        (λ t. old (Commit x k) is (λ f. let g : x ≡ who = cc in t.1 g) (ap (λ z. cond z k.n (committed_n who H)) t.0) next)
        (attempt_tells x who)
    go (Start x) is next = old (Start x) is (λ f. cc (f)) refl next
    go m is next = old m is (λ f. cc (f)) refl next

pub done_turn_is : (s : Setting) (H : List Entry) (x : TxnId) (n : ℕ) (who : Attempt) → done_turn s H x n ≡ Some who → (who.txn ≡ x) × (all_done s H who ≡ true)
done_turn_is s H x zero who e = absurd (cc (e))
done_turn_is s H x (suc n) who e = go (all_done s H (attempt x (suc n))) refl e (done_turn_is s H x n who)
  where
    go : (b : Bool) → all_done s H (attempt x (suc n)) ≡ b → cond b (Some (attempt x (suc n))) (done_turn s H x n) ≡ Some who → (done_turn s H x n ≡ Some who → (who.txn ≡ x) × (all_done s H who ≡ true)) → (who.txn ≡ x) × (all_done s H who ≡ true)
    go true f e next = let is : attempt x (suc n) ≡ who = cc in (sym (ap (λ (z : Attempt). z.txn) is), subst (λ z. all_done s H z ≡ true) is f)
    go false f e next = next e

pub done_turn_some : (s : Setting) (H : List Entry) (x : TxnId) (n t : ℕ) → 1 ≤ t → t ≤ n → all_done s H (attempt x t) ≡ true → (who : Attempt) × (done_turn s H x n ≡ Some who)
done_turn_some s H x zero t low high e = absurd (omega (arith, low, high))
done_turn_some s H x (suc n) t low high e = go (all_done s H (attempt x (suc n))) refl (λ le. done_turn_some s H x n t low le e)
  where
    go : (b : Bool) → all_done s H (attempt x (suc n)) ≡ b → (t ≤ n → (who : Attempt) × (done_turn s H x n ≡ Some who)) → (who : Attempt) × (cond b (Some (attempt x (suc n))) (done_turn s H x n) ≡ Some who)
    go true f next = (attempt x (suc n), refl)
    go false f next =
        ⊎_elim
        (λ (is : (eqb t (suc n) ≡ true) × (t ≡ suc n)). absurd (true≢false (sym e ∙ ap (λ k. all_done s H (attempt x k)) is.1 ∙ f)))
        (λ (ne : (eqb t (suc n) ≡ false) × (t ≢ suc n)). next (omega (arith, ne.1, high)))
        (eqb_tells t (suc n))

-- accesses and replies in step
abbrev pub Pairs : (Access → Reply → Type 0) → List Access → List Reply → Type 0
Pairs P [] rs = ⊤
Pairs P (a ∷ as') [] = ⊤
Pairs P (a ∷ as') (r ∷ rs) = P a r × Pairs P as' rs

pairs_none : (P : Access → Reply → Type 0) (as' : List Access) → Pairs P as' []
pairs_none P [] = tt
pairs_none P (a ∷ as') = tt

pairs_push : (P : Access → Reply → Type 0) (as' : List Access) (rs : List Reply) (a : Access) (r : Reply) → Pairs P as' rs → slice_get as' (length rs) ≡ Some a → P a r → Pairs P as' (rs ++ r ∷ [])
pairs_push P [] rs a r f e h = tt
pairs_push P (b ∷ as') [] a r f e h = let is : b ≡ a = cc in (subst (λ z. P z r) (sym is) h, pairs_none P as')
pairs_push P (b ∷ as') (q ∷ rs) a r f e h = (f.0, pairs_push P as' rs a r f.1 e h)

pairs_more : (P Q : Access → Reply → Type 0) → ((a : Access) (r : Reply) → P a r → Q a r) → (as' : List Access) (rs : List Reply) → Pairs P as' rs → Pairs Q as' rs
pairs_more P Q h [] rs f = tt
pairs_more P Q h (a ∷ as') [] f = tt
pairs_more P Q h (a ∷ as') (r ∷ rs) f = (h a r f.0, pairs_more P Q h as' rs f.1)

-- each reply is of a Granted for the access in its place
abbrev pub CameFor : Attempt → List Msg → Access → Reply → Type 0
CameFor who ms a r = (version : Number) × (bound : ℕ) × IsIn (Granted who a.key r.row version bound) ms

pub came : (s : Setting) (p : ℕ) (who : Attempt) (ms : List Msg) → AllFit s p ms → Pairs (CameFor who ms) (s.accesses who.txn) (reverse (grants_for who ms))
came s p who [] fit = pairs_none (CameFor who []) (s.accesses who.txn)
came s p who (Granted x k row n b ∷ ms) fit =
    let more : (a : Access) (r : Reply) → CameFor who ms a r → CameFor who (Granted x k row n b ∷ ms) a r = λ a r h. (h.0, h.1, inr h.2) in
    let ih = pairs_more (CameFor who ms) (CameFor who (Granted x k row n b ∷ ms)) more (s.accesses who.txn) (reverse (grants_for who ms)) (came s p who ms fit.1) in
    ⊎_elim
    (λ (t : (attempt_eq x who ≡ true) × (x ≡ who)).
    let own : Suits s p fit.0.0 (Granted who k row n b) ms = subst (λ y. Suits s p fit.0.0 (Granted y k row n b) ms) t.1 fit.0.1 in
    let r : Reply = record { row = row; bound = b; key = k } in
    rw t.0
    (subst (Pairs (CameFor who (Granted x k row n b ∷ ms)) (s.accesses who.txn)) (sym (reverse-append (r ∷ []) (grants_for who ms)))
    (pairs_push (CameFor who (Granted x k row n b ∷ ms)) (s.accesses who.txn) (reverse (grants_for who ms)) (record { key = k; mode = own.2.0 }) r ih
    (ap (slice_get (s.accesses who.txn)) (length-reverse (grants_for who ms)) ∙ own.2.1.2)
    (n, b, inl (ap (λ z. Granted z k row n b) (sym t.1))))))
    (λ t. rw t.0 ih)
    (attempt_tells x who)
came s p who (Ask x st k m ∷ ms) fit = pairs_more (CameFor who ms) (CameFor who (Ask x st k m ∷ ms)) (λ a r h. (h.0, h.1, inr h.2)) (s.accesses who.txn) (reverse (grants_for who ms)) (came s p who ms fit.1)
came s p who (m ∷ ms) fit = pairs_more (CameFor who ms) (CameFor who (m ∷ ms)) (λ a r h. (h.0, h.1, inr h.2)) (s.accesses who.txn) (reverse (grants_for who ms)) (came s p who ms fit.1)

-- each read is of an access that reads and came so
pub read_came : (who : Attempt) (ms : List Msg) (as' : List Access) (rs : List Reply) (r : Keyed) → Pairs (CameFor who ms) as' rs → IsIn r (reads_of as' rs) → (a : Access) × IsIn a as' × IsReading a.mode × (a.key ≡ r.key) × ((version : Number) × (bound : ℕ) × IsIn (Granted who r.key r.row version bound) ms)
read_came who ms [] rs r f i = absurd i
read_came who ms (a ∷ as') [] r f i = absurd i
read_came who ms (a ∷ as') (q ∷ rs) r f i = go (reads a.mode) refl i (read_came who ms as' rs r f.1)
  where
    go : (b : Bool) → reads a.mode ≡ b → IsIn r (cond b (record { key = a.key; row = q.row } ∷ reads_of as' rs) (reads_of as' rs)) → (IsIn r (reads_of as' rs) → (a : Access) × IsIn a as' × IsReading a.mode × (a.key ≡ r.key) × ((version : Number) × (bound : ℕ) × IsIn (Granted who r.key r.row version bound) ms)) → (c : Access) × IsIn c (a ∷ as') × IsReading c.mode × (c.key ≡ r.key) × ((version : Number) × (bound : ℕ) × IsIn (Granted who r.key r.row version bound) ms)
    go true e i next =
        ⊎_elim
        (λ (is : r ≡ record { key = a.key; row = q.row }). (a, inl refl, (reading_decides a.mode).0 e, sym (ap (λ (z : Keyed). z.key) is), (f.0.0, f.0.1, subst (λ (z : Keyed). IsIn (Granted who z.key z.row f.0.0 f.0.1) ms) (sym is) f.0.2)))
        (λ j. let n = next j in (n.0, inr n.1, n.2, n.3, n.4))
        i
    go false e i next = let n = next i in (n.0, inr n.1, n.2, n.3, n.4)

-- who handled a Commit says Done
pub done_said : (s : Setting) (p : ℕ) (who : Attempt) (n : Number) (ms : List Msg) → IsIn (Commit who n) ms → IsIn (mail_home s p who (Done who p)) (all_said (says s) p ms)
done_said s p who n [] i = absurd i
done_said s p who n (Commit x k ∷ ms) i =
    ⊎_elim
    (λ (e : Commit who n ≡ Commit x k). let is : who ≡ x = cc in inl (ap (λ z. mail_home s p z (Done z p)) is))
    (λ r. in_right (mail_home s p who (Done who p)) (says s p (Commit x k ∷ ms)) (all_said (says s) p ms) (done_said s p who n ms r))
    i
done_said s p who n (Ask x st k m ∷ ms) i = in_right (mail_home s p who (Done who p)) (says s p (Ask x st k m ∷ ms)) (all_said (says s) p ms) (done_said s p who n ms (⊎_elim (λ e. absurd (cc (e))) (λ r. r) i))
done_said s p who n (m ∷ ms) i = in_right (mail_home s p who (Done who p)) (says s p (m ∷ ms)) (all_said (says s) p ms) (done_said s p who n ms (⊎_elim (λ e. absurd (cc (e))) (λ r. r) i))

module _ (s : Setting) (v : Valid s) (H : List Entry) (flight : List Mail) (g : Good s H flight) where
  -- what a decided line stands for
  pub record Fact (l : Line) : Type 0 where
    pub who : Attempt
    pub is : l ≡ line_of s H who
    pub listed : IsIn who.txn s.ids
    pub place : ℕ
    pub commit : IsIn (Commit who l.number) (heard place H)

  pub listed_part : (x : TxnId) → IsIn x s.ids → (q : ℕ) × IsIn q (partitions_of s.parts (s.accesses x))
  listed_part x i = go (s.accesses x) (v.some x i)
    where
      go : (as' : List Access) → 1 ≤ length as' → (q : ℕ) × IsIn q (partitions_of s.parts as')
      go [] h = absurd (omega (arith, h))
      go (a ∷ as') h = (partition_of a.key s.parts, parts_in s.parts a.key (a ∷ as') v.parts (key_there a.key a.mode (a ∷ as') (inl refl)))

  pub done_commit : (who : Attempt) → all_done s H who ≡ true → IsIn who.txn s.ids × ((p : ℕ) × (n : Number) × IsIn (Commit who n) (heard p H))
  done_commit who e =
      let b = and_parts (started_for who (at_home s H who)) (all_closed (dones_for who (at_home s H who)) (participants s who)) e in
      let ids = started_ids s (home s who.txn) who (at_home s H who) (g.fit (home s who.txn)) b.0 in
      let q = listed_part who.txn ids in
      let d = done_heard who q.0 (at_home s H who) (closed_there (dones_for who (at_home s H who)) (participants s who) q.0 b.1 q.1) in
      let f = said_at s v H flight g who (home s who.txn) (Done who q.0) d (λ y h. absurd (cc (h))) in
      let r = done_made s v f.1 who (heard f.1 H) f.0 (subst (λ z. is_done s v f.1 who z ≡ true) (sym f.2) (itself s v H flight g who)) f.4 in (
        ids,
        ⊎_elim
            (λ (c : (number : Number) × (part : ℕ) × (f.0.msg ≡ Done who part) × IsIn (Commit who number) (heard f.1 H)). (f.1, c.0, c.3))
            (λ (c : (part : ℕ) × (f.0.msg ≡ Undone who part) × IsIn (Abort who) (heard f.1 H)). absurd (let k : Done who q.0 ≡ Undone who c.0 = sym f.2 ∙ c.1 in cc (k)))
            r,
      )

  -- the number of a Commit has the id of its transaction
  pub number_id : (who : Attempt) (n : Number) (p : ℕ) → IsIn (Commit who n) (heard p H) → n.id ≡ who.txn
  number_id who n p i =
      let d = (decided s v H flight g who n p i).0 in
      (commit_means who who n (votes_for who (at_home s H who)) (first_no None (votes_for who (at_home s H who))) refl d.1).1

  pub fact_of : (who : Attempt) → all_done s H who ≡ true → Fact (line_of s H who)
  fact_of who e =
      let d = done_commit who e in
      let n = number_found who H (λ q k j. number_id who k q j) d.1.0 d.1.1 d.1.2 in
      record { who = who; is = refl; listed = d.0; place = n.0; commit = n.1 }

  pub facts : (l : Line) → IsIn l (lines s H) → Fact l
  facts l i =
      let x = in_flat (λ x. line_if s H (done_turn s H x s.attempts)) s.ids l i in
      go x.0 (done_turn s H x.0 s.attempts) (done_turn_is s H x.0 s.attempts) x.2
    where
      go : (x : TxnId) (o : Option Attempt) → ((who : Attempt) → o ≡ Some who → (who.txn ≡ x) × (all_done s H who ≡ true)) → IsIn l (line_if s H o) → Fact l
      go x None h j = absurd j
      go x (Some who) h j = ⊎_elim (λ (e : l ≡ line_of s H who). subst Fact (sym e) (fact_of who (h who refl).1)) (λ n. absurd n) j

-- What a mail carries is what its sender's calls hold.
use Rattle.std.proofs.Common.{◌≡◌, ◌⊎◌, ℕ, ◌+◌, ◌≤◌, List, [], ◌∷◌, ◌++◌, length, map, Bool, true, false, cond, ◌&&◌, eqb, refl, sym, ap, ◌∙◌, subst, inl, inr, ⊎_elim, arith, true≢false}
use Rattle.std.proofs.lemmas.Bool.Decides.{nat_tests}
use Rattle.deneva_base.specs.declared.keys.Key.{Key}
use Rattle.deneva_base.specs.declared.numbers.Attempt.{Attempt}
use Rattle.deneva_base.specs.declared.numbers.Number.{Number}
use Rattle.deneva_base.specs.declared.keys.Mode.{Mode}
use Rattle.deneva_base.specs.Lists.{IsIn}
use Rattle.deneva_base.specs.Rows.{Row}
use Rattle.deneva_base.specs.Keys.{attempt_eq, key_eq}
use Rattle.deneva_base.specs.declared.causes.Cause.{Cause}
use Rattle.deneva_base.specs.declared.answers.Answer.{Answer}
use Rattle.deneva_base.specs.declared.answers.Answer.TheVariants.{Granted as Gives, Waits, Refused as Refuses}
use Rattle.deneva_base.specs.declared.answers.Vote.{Vote}
use Rattle.deneva_base.specs.declared.answers.Vote.TheVariants.{Yes as VotesYes, No as VotesNo}
use Rattle.deneva_base.specs.declared.answers.Wake.{Wake}
use Rattle.protocol_rules.specs.History.{History, Grant, Yea, grants, granted, grant_of_wake, yeas, yea}
use Rattle.deneva_base.proofs.Membership.{attempt_tells, key_tells, in_left, in_right, in_cases, in_map, in_map_from}
use Rattle.server_core.specs.declared.messages.Msg.{Msg}
use Rattle.server_core.specs.declared.messages.Msg.TheVariants.{Start, Ask, Granted, Refused, Prepare, Yes, No, Commit, Abort, Done, Undone}
use Rattle.server_core.specs.declared.messages.Mail.{Mail}
use Rattle.server_core.specs.declared.messages.Entry.{Entry}
use Rattle.server_core.specs.Setting.{Setting, take_first, rule_at}
use Rattle.deneva_base.specs.declared.keys.Access.{Access}
use Rattle.server_core.specs.Received.{votes_for, refused_for}
use Rattle.server_core.specs.declared.ballots.Ballot.{Ballot}
use Rattle.server_core.specs.Participant.{calls, participant, answer_mails, vote_mail, mail_home, wake_mails}
use Rattle.server_core.specs.Voting.{says}
use Rattle.server_core.specs.Coordinator.{coordinator}
use Rattle.server_core.specs.VotingFits.{AllFit}
use Rattle.server_core.specs.Proper.{Valid, keys_in}
use Rattle.server_core.specs.Runs.{heard}
use Rattle.server_core.specs.Counts.{all_said}
use Rattle.server_core.proofs.counts.Conserved.{handled, count_in}
use Rattle.server_core.proofs.counts.Local.{sent_to, count_msgs}
use Rattle.server_core.proofs.values.Called.{grant_access}
use Rattle.server_core.proofs.counts.Quiet.{is_answer, NoAsks, NoEnds, NoStarts, none_coordinator}

pub find_msg : (t : Msg → Bool) (ms : List Msg) → 1 ≤ count_msgs t ms → (m : Msg) × IsIn m ms × (t m ≡ true)
find_msg t [] h = absurd (omega arith)
find_msg t (y ∷ ms) h = go (t y) refl (find_msg t ms)
  where
    go : (b : Bool) → t y ≡ b → (1 ≤ count_msgs t ms → (m : Msg) × IsIn m ms × (t m ≡ true)) → (m : Msg) × IsIn m (y ∷ ms) × (t m ≡ true)
    go true e next = (y, inl refl, e)
    go false e next =
        let h' : 1 ≤ 0 + count_msgs t ms = subst (λ b. 1 ≤ cond b 1 0 + count_msgs t ms) e h in
        let n = next (omega arith) in
        (n.0, inr n.1, n.2)

pub heard_mail : (p : ℕ) (H : List Entry) (m : Msg) → IsIn m (heard p H) → (x : Mail) × IsIn x (handled H) × (x.msg ≡ m) × (x.to ≡ p)
heard_mail p [] m i = absurd i
heard_mail p (e ∷ H) m i = go (eqb e.node p) refl i (heard_mail p H m)
  where
    go : (b : Bool) → eqb e.node p ≡ b → IsIn m (cond b (e.msg ∷ heard p H) (heard p H)) → (IsIn m (heard p H) → (x : Mail) × IsIn x (handled H) × (x.msg ≡ m) × (x.to ≡ p)) → (x : Mail) × IsIn x (handled (e ∷ H)) × (x.msg ≡ m) × (x.to ≡ p)
    go false f i next = let n = next i in (n.0, inr n.1, n.2, n.3)
    go true f i next =
        ⊎_elim
        (λ is. (record { from = e.from; to = e.node; msg = e.msg }, inl refl, sym is, eqb_is e.node p f))
        (λ r. let n = next r in (n.0, inr n.1, n.2, n.3))
        i
      where
        eqb_is : (a b : ℕ) → eqb a b ≡ true → a ≡ b
        eqb_is a b e = grind (arith, nat_tests)

pub refused_in : (who : Attempt) (key : Key) (c : Cause) (ms : List Msg) → IsIn (Refused who key c) ms → refused_for who ms ≡ true
refused_in who key c [] i = absurd i
refused_in who key c (Refused x k d ∷ ms) i =
    ⊎_elim
    (λ (e : Refused who key c ≡ Refused x k d). let is : x ≡ who = cc in ⊎_elim (λ t. rw t.0) (λ f. absurd (f.1 is)) (attempt_tells x who))
    (λ r. let h : refused_for who ms ≡ true = refused_in who key c ms r in grind (arith, h))
    i
refused_in who key c (Ask x st k m ∷ ms) i = refused_in who key c ms (⊎_elim (λ e. absurd (cc (e))) (λ r. r) i)
refused_in who key c (m ∷ ms) i = refused_in who key c ms (⊎_elim (λ e. absurd (cc (e))) (λ r. r) i)

-- one access for each key
pub key_there : (key : Key) (m : Mode) (as' : List Access) → IsIn (record { key = key; mode = m }) as' → 1 ≤ keys_in key as'
key_there key m [] i = absurd i
key_there key m (b ∷ bs) i =
    ⊎_elim
    (λ (e : record { key = key; mode = m } ≡ b). ⊎_elim (λ t. rw t.0 (omega arith)) (λ f. absurd (f.1 (sym (ap (λ z. z.key) e)))) (key_tells b.key key))
    (λ r. omega (arith, key_there key m bs r))
    i

twice : (key : Key) (m n : Mode) (a : Access) (as' : List Access) → keys_in key (a ∷ as') ≤ 1 → record { key = key; mode = m } ≡ a → IsIn (record { key = key; mode = n }) as' → ⊥
twice key m n a as' h e k =
    ⊎_elim
    (λ t. let h' : 1 + keys_in key as' ≤ 1 = subst (λ b. cond b 1 0 + keys_in key as' ≤ 1) t.0 h in omega (arith, h', key_there key n as' k))
    (λ f. f.1 (sym (ap (λ z. z.key) e)))
    (key_tells a.key key)

pub same_mode : (key : Key) (m n : Mode) (as' : List Access) → keys_in key as' ≤ 1 → IsIn (record { key = key; mode = m }) as' → IsIn (record { key = key; mode = n }) as' → m ≡ n
same_mode key m n [] h i j = absurd i
same_mode key m n (a ∷ as') h i j =
    ⊎_elim
    (λ (e : record { key = key; mode = m } ≡ a). ⊎_elim
    (λ (f : record { key = key; mode = n } ≡ a). ap (λ (x : Access). x.mode) (e ∙ sym f))
    (λ k. absurd (twice key m n a as' h e k))
    j)
    (λ l. ⊎_elim
    (λ (f : record { key = key; mode = n } ≡ a). absurd (twice key n m a as' h f l))
    (λ k. same_mode key m n as' (omega (arith, h)) l k)
    j)
    i

pub take_all : (as' : List Access) → take_first (length as') as' ≡ as'
take_all [] = refl
take_all (a ∷ as') = ap (λ l. a ∷ l) (take_all as')

module _ (s : Setting) (v : Valid s) (p : ℕ) (who : Attempt) where
  grants_more : (gr : Grant) (m : Msg) (ms : List Msg) → IsIn gr (grants (calls s p ms)) → IsIn gr (grants (calls s p (m ∷ ms)))
  grants_more gr (Ask x st k mode) ms i = in_right gr (granted x st k mode ((rule_at s p).ask (calls s p ms) x st k mode)) (grants (calls s p ms)) i
  grants_more gr (Prepare x b w a) ms i = i
  grants_more gr (Commit x n) ms i = in_right gr (map (grant_of_wake (calls s p ms)) ((rule_at s p).commit (calls s p ms) x n)) (grants (calls s p ms)) i
  grants_more gr (Abort x) ms i = in_right gr (map (grant_of_wake (calls s p ms)) ((rule_at s p).abort (calls s p ms) x)) (grants (calls s p ms)) i
  grants_more gr m ms i = i

  abbrev GivesGrant : Key → Row → Number → History → Type 0
  GivesGrant key row version h = (gr : Grant) × IsIn gr (grants h) × (gr.who ≡ who) × (gr.key ≡ key) × (gr.row ≡ row) × (gr.version ≡ version)

  abbrev pub HasGrant : Key → Row → Number → List Msg → Type 0
  HasGrant key row version ms = (gr : Grant) × IsIn gr (grants (calls s p ms)) × (gr.who ≡ who) × (gr.key ≡ key) × IsIn (record { key = key; mode = gr.mode }) (s.accesses who.txn) × (gr.row ≡ row) × (gr.version ≡ version)

  by_ask : (key : Key) (y : Attempt) (st : ℕ) (k : Key) (mode : Mode) (h : History) (a : Answer) → (x : Mail) (row : Row) (version : Number) (bound : ℕ) → x.msg ≡ Granted who key row version bound → IsIn x (answer_mails s p y k a) → (gr : Grant) × IsIn gr (granted y st k mode a ++ grants h) × (gr.who ≡ who) × (gr.key ≡ key) × (gr.row ≡ row) × (gr.version ≡ version)
  by_ask key y st k mode h Waits x row version bound e i = absurd i
  by_ask key y st k mode h (Refuses c) x row version bound e i =
      ⊎_elim (λ is. let f : Refused y k c ≡ Granted who key row version bound = sym (ap (λ z. z.msg) is) ∙ e in absurd (cc (f))) (λ n. absurd n) i
  by_ask key y st k mode h (Gives r w b) x row version bound e i =
      ⊎_elim
      (λ is.
      let f : Granted y k r w b ≡ Granted who key row version bound = sym (ap (λ z. z.msg) is) ∙ e in
      let is_who : y ≡ who = cc in
      let is_key : k ≡ key = cc in
      let is_row : r ≡ row = cc in
      let is_version : w ≡ version = cc in
      (record { who = y; stamp = st; key = k; mode = mode; row = r; version = w }, inl refl, is_who, is_key, is_row, is_version))
      (λ n. absurd n)
      i

  by_wake : (key : Key) (h : History) (ws : List Wake) (x : Mail) (row : Row) (version : Number) (bound : ℕ) → x.msg ≡ Granted who key row version bound → IsIn x (wake_mails s p ws) → (gr : Grant) × IsIn gr (map (grant_of_wake h) ws ++ grants h) × (gr.who ≡ who) × (gr.key ≡ key) × (gr.row ≡ row) × (gr.version ≡ version)
  by_wake key h ws x row version bound e i =
      let n = in_map_from (λ w. mail_home s p w.who (Granted w.who w.key w.row w.version w.bound)) x ws i in
      let w : Wake = n.0 in
      let f : Granted w.who w.key w.row w.version w.bound ≡ Granted who key row version bound = sym (ap (λ (z : Mail). z.msg) n.2) ∙ e in
      let is_who : w.who ≡ who = cc in
      let is_key : w.key ≡ key = cc in
      let is_row : w.row ≡ row = cc in
      let is_version : w.version ≡ version = cc in
      (grant_of_wake h w, in_left (grant_of_wake h w) (map (grant_of_wake h) ws) (grants h) (in_map (grant_of_wake h) w ws n.1), is_who, is_key, is_row, is_version)

  pub not_a_wake : (t : Msg → Bool) → ((y : Attempt) (k : Key) (r : Row) (n : Number) (b : ℕ) → t (Granted y k r n b) ≡ false) → (ws : List Wake) (x : Mail) → t x.msg ≡ true → IsIn x (wake_mails s p ws) → ⊥
  not_a_wake t h ws x e i =
      let n = in_map_from (λ w. mail_home s p w.who (Granted w.who w.key w.row w.version w.bound)) x ws i in
      true≢false (sym e ∙ ap (λ (z : Mail). t z.msg) n.2 ∙ h n.0.who n.0.key n.0.row n.0.version n.0.bound)

  made_by : (key : Key) (m : Msg) (ms : List Msg) → (x : Mail) (row : Row) (version : Number) (bound : ℕ) → x.msg ≡ Granted who key row version bound → IsIn x (participant s p m ms) → GivesGrant key row version (calls s p (m ∷ ms))
  made_by key (Ask y st k mode) ms x row version bound e i = by_ask key y st k mode (calls s p ms) ((rule_at s p).ask (calls s p ms) y st k mode) x row version bound e i
  made_by key (Prepare y b w a) ms x row version bound e i = absurd (votes ((rule_at s p).vote (calls s p ms) y b w a) i)
    where
      votes : (o : Vote) → IsIn x (vote_mail s p y o ∷ []) → ⊥
      votes (VotesYes lo hi) i = ⊎_elim (λ is. let f : Yes y p lo hi ≡ Granted who key row version bound = sym (ap (λ z. z.msg) is) ∙ e in absurd (cc (f))) (λ n. n) i
      votes (VotesNo c) i = ⊎_elim (λ is. let f : No y p c ≡ Granted who key row version bound = sym (ap (λ z. z.msg) is) ∙ e in absurd (cc (f))) (λ n. n) i
  made_by key (Commit y n) ms x row version bound e i =
      ⊎_elim
      (λ is. let f : Done y p ≡ Granted who key row version bound = sym (ap (λ z. z.msg) is) ∙ e in absurd (cc (f)))
      (λ w. by_wake key (calls s p ms) ((rule_at s p).commit (calls s p ms) y n) x row version bound e w)
      i
  made_by key (Abort y) ms x row version bound e i =
      ⊎_elim
      (λ is. let f : Undone y p ≡ Granted who key row version bound = sym (ap (λ z. z.msg) is) ∙ e in absurd (cc (f)))
      (λ w. by_wake key (calls s p ms) ((rule_at s p).abort (calls s p ms) y) x row version bound e w)
      i
  made_by key (Start y) ms x row version bound e i = absurd i
  made_by key m ms x row version bound e i = absurd i

  pub not_by_home : (t : Msg → Bool) → NoAsks t → NoEnds t → NoStarts t → (m : Msg) (ms : List Msg) (x : Mail) → t x.msg ≡ true → IsIn x (coordinator s p m ms) → ⊥
  not_by_home t a e n m ms x h i = omega (arith, count_in (sent_to x.to t) x (coordinator s p m ms) i (both (t x.msg) x.to h), none_coordinator s p x.to t a e n m ms)
    where
      both : (b : Bool) (q : ℕ) → b ≡ true → (b && eqb q q) ≡ true
      both b q h = grind (arith, nat_tests)

  -- who said a grant has it
  grant_given : (key : Key) (ms : List Msg) (x : Mail) (row : Row) (version : Number) (bound : ℕ) → x.msg ≡ Granted who key row version bound → IsIn x (all_said (says s) p ms) → GivesGrant key row version (calls s p ms)
  grant_given key [] x row version bound e i = absurd i
  grant_given key (m ∷ ms) x row version bound e i =
      ⊎_elim
      (λ a. ⊎_elim
      (λ c. absurd (not_by_home (is_answer who key) (record { ask = λ x st k m'. refl; prepare = λ x b w a. refl }) (record { commit = λ x n. refl; abort = λ x. refl }) (record { start = λ x. refl }) m ms x (subst (λ y. is_answer who key y ≡ true) (sym e) (both who key)) c))
      (λ d. made_by key m ms x row version bound e d)
      (in_cases x (coordinator s p m ms) (participant s p m ms) a))
      (λ b. let h = grant_given key ms x row version bound e b in (h.0, grants_more h.0 m ms h.1, h.2, h.3, h.4, h.5))
      (in_cases x (says s p (m ∷ ms)) (all_said (says s) p ms) i)
    where
      both : (a : Attempt) (k : Key) → (attempt_eq a a && key_eq k k) ≡ true
      both a k = grind (arith, attempt_tells a a, key_tells k k)

  pub grant_made : (key : Key) (ms : List Msg) → AllFit s p ms → (x : Mail) (row : Row) (version : Number) (bound : ℕ) → x.msg ≡ Granted who key row version bound → IsIn x (all_said (says s) p ms) → HasGrant key row version ms
  grant_made key ms fit x row version bound e i =
      let h = grant_given key ms x row version bound e i in
      (h.0, h.1, h.2, h.3, subst (λ (z : Attempt × Key). IsIn (record { key = z.1; mode = h.0.mode }) (s.accesses z.0.txn)) (λ j. (h.2 j, h.3 j)) (grant_access s v p ms h.0 fit h.1).1, h.4, h.5)

  no_answer : (y : Attempt) (k : Key) (a : Answer) (x : Mail) (t : Msg → Bool) → ((r : Row) (w : Number) (b : ℕ) → t (Granted y k r w b) ≡ false) → ((c : Cause) → t (Refused y k c) ≡ false) → t x.msg ≡ true → IsIn x (answer_mails s p y k a) → ⊥
  no_answer y k (Gives r w b) x t g f e i = ⊎_elim (λ is. true≢false (sym e ∙ ap (λ (z : Mail). t z.msg) is ∙ g r w b)) (λ n. n) i
  no_answer y k Waits x t g f e i = i
  no_answer y k (Refuses c) x t g f e i = ⊎_elim (λ is. true≢false (sym e ∙ ap (λ (z : Mail). t z.msg) is ∙ f c)) (λ n. n) i

  no_vote : (y : Attempt) (o : Vote) (x : Mail) (t : Msg → Bool) → ((lo hi : ℕ) → t (Yes y p lo hi) ≡ false) → ((c : Cause) → t (No y p c) ≡ false) → t x.msg ≡ true → IsIn x (vote_mail s p y o ∷ []) → ⊥
  no_vote y (VotesYes lo hi) x t g f e i = ⊎_elim (λ is. true≢false (sym e ∙ ap (λ (z : Mail). t z.msg) is ∙ g lo hi)) (λ n. n) i
  no_vote y (VotesNo c) x t g f e i = ⊎_elim (λ is. true≢false (sym e ∙ ap (λ (z : Mail). t z.msg) is ∙ f c)) (λ n. n) i

  itself : (y : Attempt) → attempt_eq y y ≡ true
  itself y = ⊎_elim (λ t. t.0) (λ f. absurd (f.1 refl)) (attempt_tells y y)

  abbrev pub HasYea : ℕ → ℕ → List Msg → Type 0
  HasYea lo hi ms = (y : Yea) × IsIn y (yeas (calls s p ms)) × (y.who ≡ who) × (y.lo ≡ lo) × (y.hi ≡ hi)

  abbrev is_yes : Msg → Bool
  is_yes (Yes x part lo hi) = attempt_eq x who
  is_yes m = false

  yea_more : (y : Yea) (m : Msg) (ms : List Msg) → IsIn y (yeas (calls s p ms)) → IsIn y (yeas (calls s p (m ∷ ms)))
  yea_more y (Prepare x b w a) ms i = in_right y (yea x w a ((rule_at s p).vote (calls s p ms) x b w a)) (yeas (calls s p ms)) i
  yea_more y (Ask x st k m) ms i = i
  yea_more y m ms i = i

  yea_by : (m : Msg) (ms : List Msg) (x : Mail) (part lo hi : ℕ) → x.msg ≡ Yes who part lo hi → IsIn x (participant s p m ms) → HasYea lo hi (m ∷ ms)
  yea_by (Prepare y b w a) ms x part lo hi e i = votes ((rule_at s p).vote (calls s p ms) y b w a) i
    where
      votes : (o : Vote) → IsIn x (vote_mail s p y o ∷ []) → (z : Yea) × IsIn z (yea y w a o ++ yeas (calls s p ms)) × (z.who ≡ who) × (z.lo ≡ lo) × (z.hi ≡ hi)
      votes (VotesNo c) i = ⊎_elim (λ is. let f : No y p c ≡ Yes who part lo hi = sym (ap (λ (z : Mail). z.msg) is) ∙ e in absurd (cc (f))) (λ n. absurd n) i
      votes (VotesYes l h) i =
          ⊎_elim
          (λ is.
          let f : Yes y p l h ≡ Yes who part lo hi = sym (ap (λ (z : Mail). z.msg) is) ∙ e in
          let a1 : y ≡ who = cc in
          let a2 : l ≡ lo = cc in
          let a3 : h ≡ hi = cc in
          (record { who = y; lo = l; hi = h; writes = w; appends = a }, inl refl, a1, a2, a3))
          (λ n. absurd n)
          i
  yea_by (Ask y st k m) ms x part lo hi e i = absurd (no_answer y k ((rule_at s p).ask (calls s p ms) y st k m) x is_yes (λ r w b. refl) (λ c. refl) (subst (λ z. is_yes z ≡ true) (sym e) (itself who)) i)
  yea_by (Commit y n) ms x part lo hi e i =
      ⊎_elim
      (λ is. let f : Done y p ≡ Yes who part lo hi = sym (ap (λ (z : Mail). z.msg) is) ∙ e in absurd (cc (f)))
      (λ w. absurd (not_a_wake is_yes (λ y k r n b. refl) ((rule_at s p).commit (calls s p ms) y n) x (subst (λ z. is_yes z ≡ true) (sym e) (itself who)) w))
      i
  yea_by (Abort y) ms x part lo hi e i =
      ⊎_elim
      (λ is. let f : Undone y p ≡ Yes who part lo hi = sym (ap (λ (z : Mail). z.msg) is) ∙ e in absurd (cc (f)))
      (λ w. absurd (not_a_wake is_yes (λ y k r n b. refl) ((rule_at s p).abort (calls s p ms) y) x (subst (λ z. is_yes z ≡ true) (sym e) (itself who)) w))
      i
  yea_by m ms x part lo hi e i = absurd i

  pub yea_made : (ms : List Msg) (x : Mail) (part lo hi : ℕ) → x.msg ≡ Yes who part lo hi → IsIn x (all_said (says s) p ms) → HasYea lo hi ms
  yea_made [] x part lo hi e i = absurd i
  yea_made (m ∷ ms) x part lo hi e i =
      ⊎_elim
      (λ a. ⊎_elim
      (λ c. absurd (not_by_home is_yes (record { ask = λ x st k m'. refl; prepare = λ x b w a. refl }) (record { commit = λ x n. refl; abort = λ x. refl }) (record { start = λ x. refl }) m ms x (subst (λ y. is_yes y ≡ true) (sym e) (itself who)) c))
      (λ d. yea_by m ms x part lo hi e d)
      (in_cases x (coordinator s p m ms) (participant s p m ms) a))
      (λ b. let h = yea_made ms x part lo hi e b in (h.0, yea_more h.0 m ms h.1, h.2, h.3, h.4))
      (in_cases x (says s p (m ∷ ms)) (all_said (says s) p ms) i)

  -- a Done or an Undone answers a Commit or an Abort
  abbrev pub is_done : Msg → Bool
  is_done (Done x part) = attempt_eq x who
  is_done (Undone x part) = attempt_eq x who
  is_done m = false

  abbrev pub Ended : Msg → List Msg → Type 0
  Ended d ms = ((number : Number) × (part : ℕ) × (d ≡ Done who part) × IsIn (Commit who number) ms) ⊎ ((part : ℕ) × (d ≡ Undone who part) × IsIn (Abort who) ms)

  done_by : (m : Msg) (ms : List Msg) (x : Mail) → is_done x.msg ≡ true → IsIn x (participant s p m ms) → Ended x.msg (m ∷ ms)
  done_by (Commit y n) ms x e i =
      ⊎_elim
      (λ is.
      let f : x.msg ≡ Done y p = ap (λ (z : Mail). z.msg) is in
      ⊎_elim
      (λ t. inl (n, p, f ∙ ap (λ z. Done z p) t.1, inl (ap (λ z. Commit z n) (sym t.1))))
      (λ t. absurd (true≢false (sym e ∙ ap is_done f ∙ t.0)))
      (attempt_tells y who))
      (λ w. absurd (not_a_wake is_done (λ y k r n b. refl) ((rule_at s p).commit (calls s p ms) y n) x e w))
      i
  done_by (Abort y) ms x e i =
      ⊎_elim
      (λ is.
      let f : x.msg ≡ Undone y p = ap (λ (z : Mail). z.msg) is in
      ⊎_elim
      (λ t. inr (p, f ∙ ap (λ z. Undone z p) t.1, inl (ap Abort (sym t.1))))
      (λ t. absurd (true≢false (sym e ∙ ap is_done f ∙ t.0)))
      (attempt_tells y who))
      (λ w. absurd (not_a_wake is_done (λ y k r n b. refl) ((rule_at s p).abort (calls s p ms) y) x e w))
      i
  done_by (Ask y st k m) ms x e i = absurd (no_answer y k ((rule_at s p).ask (calls s p ms) y st k m) x is_done (λ r w b. refl) (λ c. refl) e i)
  done_by (Prepare y b w a) ms x e i = absurd (no_vote y ((rule_at s p).vote (calls s p ms) y b w a) x is_done (λ lo hi. refl) (λ c. refl) e i)
  done_by m ms x e i = absurd i

  pub done_made : (ms : List Msg) (x : Mail) → is_done x.msg ≡ true → IsIn x (all_said (says s) p ms) → Ended x.msg ms
  done_made [] x e i = absurd i
  done_made (m ∷ ms) x e i =
      ⊎_elim
      (λ a. ⊎_elim
      (λ c. absurd (not_by_home is_done (record { ask = λ x st k m'. refl; prepare = λ x b w a. refl }) (record { commit = λ x n. refl; abort = λ x. refl }) (record { start = λ x. refl }) m ms x e c))
      (λ d. done_by m ms x e d)
      (in_cases x (coordinator s p m ms) (participant s p m ms) a))
      (λ b. ⊎_elim (λ h. inl (h.0, h.1, h.2, inr h.3)) (λ h. inr (h.0, h.1, inr h.2)) (done_made ms x e b))
      (in_cases x (says s p (m ∷ ms)) (all_said (says s) p ms) i)

-- a ballot for Yes came as a message
pub ballot_msg : (who : Attempt) (ms : List Msg) (b : Ballot) (lo hi : ℕ) → IsIn b (votes_for who ms) → b.vote ≡ VotesYes lo hi → IsIn (Yes who b.part lo hi) ms
ballot_msg who [] b lo hi i e = absurd i
ballot_msg who (Yes x part l h ∷ ms) b lo hi i e =
    ⊎_elim
    (λ t. ⊎_elim
    (λ (is : b ≡ record { part = part; vote = VotesYes l h }).
    let f : VotesYes l h ≡ VotesYes lo hi = sym (ap (λ (z : Ballot). z.vote) is) ∙ e in
    let a : l ≡ lo = cc in
    let c : h ≡ hi = cc in
    let d : b.part ≡ part = ap (λ (z : Ballot). z.part) is in
    let w : x ≡ who = t.1 in
    inl (cc))
    (λ r. inr (ballot_msg who ms b lo hi r e))
    (rw t.0 at i))
    (λ t. inr (ballot_msg who ms b lo hi (rw t.0 at i) e))
    (attempt_tells x who)
ballot_msg who (No x part c ∷ ms) b lo hi i e =
    ⊎_elim
    (λ t. ⊎_elim
    (λ (is : b ≡ record { part = part; vote = VotesNo c }). let f : VotesNo c ≡ VotesYes lo hi = sym (ap (λ (z : Ballot). z.vote) is) ∙ e in absurd (cc (f)))
    (λ r. inr (ballot_msg who ms b lo hi r e))
    (rw t.0 at i))
    (λ t. inr (ballot_msg who ms b lo hi (rw t.0 at i) e))
    (attempt_tells x who)
ballot_msg who (m ∷ ms) b lo hi i e = inr (ballot_msg who ms b lo hi i e)

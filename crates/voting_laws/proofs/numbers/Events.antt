-- Each attempt has at most 1 + 2a + 4m entries.
use Rattle.std.proofs.Common.{◌≡◌, ◌≢◌, ℕ, zero, suc, ◌+◌, ◌*◌, ◌≤◌, List, [], ◌∷◌, ◌++◌, length, map, filter, slice_get, Bool, true, false, cond, ◌&&◌, ◌||◌, eqb, refl, sym, ap, ◌∙◌, subst, subst₂, inl, inr, ⊎_elim, arith, Some, true≢false}
use Rattle.std.specs.List.{flat_map}
use Rattle.std.proofs.lemmas.Bool.Decides.{nat_tests, eqb_tells}
use Rattle.deneva_base.specs.declared.keys.Key.{Key}
use Rattle.deneva_base.specs.declared.numbers.TxnId.{TxnId}
use Rattle.deneva_base.specs.declared.numbers.Attempt.{Attempt}
use Rattle.deneva_base.specs.declared.keys.Mode.{Mode}
use Rattle.deneva_base.specs.Lists.{IsIn}
use Rattle.deneva_base.specs.Keys.{attempt_eq, key_eq}
use Rattle.deneva_base.proofs.Membership.{in_left, in_right, in_cases, in_map, in_map_from, filter_in, attempt_tells, key_tells, attempt_decides}
use Rattle.server_core.specs.declared.messages.Msg.{Msg}
use Rattle.server_core.specs.declared.messages.Msg.TheVariants.{Start, Ask, Granted, Refused, Prepare, Yes, No, Commit, Abort, Done, Undone, Tick, Batch, Rows, Finished}
use Rattle.server_core.specs.declared.messages.Mail.{Mail}
use Rattle.server_core.specs.declared.messages.Entry.{Entry}
use Rattle.server_core.specs.Setting.{Setting, home, partitions_of, take_first, participants}
use Rattle.deneva_base.specs.declared.keys.Access.{Access}
use Rattle.deneva_base.specs.Partitions.{partition_of}
use Rattle.server_core.specs.Received.{grants_for, refused_for, started_for}
use Rattle.server_core.specs.Coordinator.{told, asked_partitions}
use Rattle.server_core.specs.VotingFits.{Suits, AllFit}
use Rattle.server_core.specs.Proper.{Valid}
use Rattle.server_core.specs.Limits.{is_of, count_entries, most_of, sum_of, most_events, Limits}
use Rattle.protocol_rules.specs.Growth.{Grows}
use Rattle.server_core.specs.Runs.{heard}
use Rattle.server_core.proofs.counts.Local.{count_msgs}
use Rattle.server_core.proofs.counts.Quiet.{is_ask, is_answer, is_prepare, is_vote, is_end, is_close}
use Rattle.server_core.proofs.counts.Starts.{is_start, started_turn, turn_bound}
use Rattle.server_core.proofs.values.Origins.{started_ids, aborted_started}
use Rattle.server_core.proofs.values.Called.{access_of, grant_access}
use Rattle.server_core.proofs.values.Values.{key_there, heard_mail}
use Rattle.voting_laws.proofs.fits.Stamps.{ask_said}
use Rattle.voting_laws.proofs.fits.Joins.{prepare_said}
use Rattle.server_core.proofs.values.Closed.{flat_in}
use Rattle.server_core.proofs.lists.Parts.{parts_in, parts_from}
use Rattle.voting_laws.proofs.fits.Account.{Good, ask_ledger, at_most_one, answer_ledger, prepare_ledger, prepares_once, vote_ledger, end_ledger, ends_once, close_ledger, has_all, said_at, commit_flies, abort_flies}

-- pigeons: each x sits in a slot, and each slot has so many
pub pigeon : {X A : Type 0} (count' : (X → Bool) → List X → ℕ) → ((t : X → Bool) → count' t [] ≡ 0) → ((t : X → Bool) (x : X) (xs : List X) → count' t (x ∷ xs) ≡ cond (t x) 1 0 + count' t xs) → (t : A → X → Bool) (slots : List A) (xs : List X) → ((x : X) → IsIn x xs → (a : A) × IsIn a slots × (t a x ≡ true)) → length xs ≤ sum_of (λ a. count' (t a) xs) slots
pigeon count' zero' more t slots [] h = omega arith
pigeon {X} {A} count' zero' more t slots (x ∷ xs) h =
    let ih = pigeon count' zero' more t slots xs (λ y i. h y (inr i)) in
    let a = h x (inl refl) in
    omega (arith, ih, one slots a.0 a.1 a.2)
  where
    -- one slot counts one more, and none counts fewer
    less : (as' : List A) → sum_of (λ a. count' (t a) xs) as' ≤ sum_of (λ a. count' (t a) (x ∷ xs)) as'
    less [] = omega arith
    less (a ∷ as') = omega (arith, more (t a) x xs, less as')

    one : (as' : List A) (a : A) → IsIn a as' → t a x ≡ true → suc (sum_of (λ a. count' (t a) xs) as') ≤ sum_of (λ a. count' (t a) (x ∷ xs)) as'
    one [] a i e = absurd i
    one (b ∷ as') a i e =
        ⊎_elim
        (λ (is : a ≡ b). let f : t b x ≡ true = subst (λ z. t z x ≡ true) is e in let g : count' (t b) (x ∷ xs) ≡ 1 + count' (t b) xs = more (t b) x xs ∙ ap (λ z. cond z 1 0 + count' (t b) xs) f in omega (arith, g, less as'))
        (λ r. omega (arith, more (t b) x xs, one as' a r e))
        i

pub sum_under : {A : Type 0} (f g : A → ℕ) (xs : List A) → ((x : A) → IsIn x xs → f x ≤ g x) → sum_of f xs ≤ sum_of g xs
sum_under f g [] h = omega arith
sum_under f g (x ∷ xs) h = omega (arith, h x (inl refl), sum_under f g xs (λ y i. h y (inr i)))

sum_append : {A : Type 0} (f : A → ℕ) (xs ys : List A) → sum_of f (xs ++ ys) ≡ sum_of f xs + sum_of f ys
sum_append f [] ys = omega arith
sum_append f (x ∷ xs) ys = omega (arith, sum_append f xs ys)

pub sum_ones : {A : Type 0} (xs : List A) → sum_of (λ x. 1) xs ≡ length xs
sum_ones [] = refl
sum_ones (x ∷ xs) = omega (arith, sum_ones xs)

-- a place for one entry: a node and a kind of message
record Slot : Type 0 where
  node : ℕ
  test : Msg → Bool

abbrev sits : Slot → Entry → Bool
sits k e = eqb e.node k.node && k.test e.msg

sits_count : (k : Slot) (H : List Entry) → count_entries (sits k) H ≡ count_msgs k.test (heard k.node H)
sits_count k [] = refl
sits_count k (e ∷ H) = grind (arith, nat_tests, sits_count k H)

abbrev slots_of : Setting → Attempt → List Slot
slots_of s who =
    record { node = home s who.txn; test = is_start who }
    ∷ map (λ a. record { node = partition_of a.key s.parts; test = is_ask who a.key }) (s.accesses who.txn)
    ++ (map (λ a. record { node = home s who.txn; test = is_answer who a.key }) (s.accesses who.txn)
    ++ (map (λ q. record { node = q; test = is_prepare who }) (participants s who)
    ++ (map (λ q. record { node = home s who.txn; test = is_vote who q }) (participants s who)
    ++ (map (λ q. record { node = q; test = is_end who }) (participants s who)
    ++ map (λ q. record { node = home s who.txn; test = is_close who q }) (participants s who)))))

-- each message that was handled suited those before it
pub fit_of : (s : Setting) (p : ℕ) (m : Msg) (ms : List Msg) → AllFit s p ms → IsIn m ms → (f : ℕ) × (before : List Msg) × Suits s p f m before × AllFit s p before
fit_of s p m [] fit i = absurd i
fit_of s p m (x ∷ ms) fit i = ⊎_elim (λ is. (fit.0.0, ms, subst (λ z. Suits s p fit.0.0 z ms) (sym is) fit.0.1, fit.1)) (λ r. fit_of s p m ms fit.1 r) i

pub entry_heard : (H : List Entry) (e : Entry) → IsIn e H → IsIn e.msg (heard e.node H)
entry_heard [] e i = absurd i
entry_heard (x ∷ H) e i =
    ⊎_elim
    (λ (is : e ≡ x). subst (λ (y : Entry). IsIn y.msg (heard y.node (x ∷ H))) (sym is) (subst (λ b. IsIn x.msg (cond b (x.msg ∷ heard x.node H) (heard x.node H))) (sym (same x.node)) (inl refl)))
    (λ r. go (eqb x.node e.node) (entry_heard H e r))
    i
  where
    same : (n : ℕ) → eqb n n ≡ true
    same n = grind (arith, nat_tests)

    go : (b : Bool) → IsIn e.msg (heard e.node H) → IsIn e.msg (cond b (x.msg ∷ heard e.node H) (heard e.node H))
    go true j = inr j
    go false j = j

-- a Start is handled once
pub starts_once : (s : Setting) (p : ℕ) (who : Attempt) (ms : List Msg) → AllFit s p ms → count_msgs (is_start who) ms ≤ cond (started_for who ms) 1 0
starts_once s p who [] fit = omega arith
starts_once s p who (Start x ∷ ms) fit =
    ⊎_elim
    (λ t. let off : started_for who ms ≡ false = off_if (started_for who ms) (subst (λ y. started_for y ms ≡ true → ⊥) t.1 fit.0.1.2) in let ih : count_msgs (is_start who) ms ≤ 0 = rw off at (starts_once s p who ms fit.1) in rw t.0 (omega (arith, ih)))
    (λ t. rw t.0 (omega (arith, starts_once s p who ms fit.1)))
    (attempt_tells x who)
  where
    off_if : (b : Bool) → (b ≡ true → ⊥) → b ≡ false
    off_if true h = absurd (h refl)
    off_if false h = refl
starts_once s p who (Ask x st k m ∷ ms) fit = omega (arith, starts_once s p who ms fit.1)
starts_once s p who (m ∷ ms) fit = omega (arith, starts_once s p who ms fit.1)

module _ (s : Setting) (v : Valid s) (H : List Entry) (flight : List Mail) (g : Good s H flight) where
  abbrev Seat : Attempt → ℕ → Msg → Type 0
  Seat who p m = (k : Slot) × IsIn k (slots_of s who) × (p ≡ k.node) × (k.test m ≡ true)

  module _ (who : Attempt) where
    abbrev acc : List Access
    acc = s.accesses who.txn

    abbrev ps : List ℕ
    ps = participants s who

    abbrev asks' : List Slot
    asks' = map (λ a. record { node = partition_of a.key s.parts; test = is_ask who a.key }) acc

    abbrev answers' : List Slot
    answers' = map (λ a. record { node = home s who.txn; test = is_answer who a.key }) acc

    abbrev prepares' : List Slot
    prepares' = map (λ q. record { node = q; test = is_prepare who }) ps

    abbrev votes' : List Slot
    votes' = map (λ q. record { node = home s who.txn; test = is_vote who q }) ps

    abbrev ends' : List Slot
    ends' = map (λ q. record { node = q; test = is_end who }) ps

    abbrev closes' : List Slot
    closes' = map (λ q. record { node = home s who.txn; test = is_close who q }) ps

    itself : attempt_eq who who ≡ true
    itself = ⊎_elim (λ t. t.0) (λ f. absurd (f.1 refl)) (attempt_tells who who)

    key_itself : (key : Key) → (attempt_eq who who && key_eq key key) ≡ true
    key_itself key = grind (arith, attempt_tells who who, key_tells key key)

    part_itself : (q : ℕ) → (attempt_eq who who && eqb q q) ≡ true
    part_itself q = grind (arith, nat_tests, attempt_tells who who)

    at_ask : (p : ℕ) (st : ℕ) (key : Key) (m : Mode) → partition_of key s.parts ≡ p → IsIn (record { key = key; mode = m }) acc → Seat who p (Ask who st key m)
    at_ask p st key m e i = let k : Slot = record { node = partition_of key s.parts; test = is_ask who key } in (k, inr (in_left k asks' (answers' ++ (prepares' ++ (votes' ++ (ends' ++ closes')))) (in_map (λ (a : Access). record { node = partition_of a.key s.parts; test = is_ask who a.key }) (record { key = key; mode = m }) acc i)), sym e, key_itself key)

    at_answer : (p : ℕ) (key : Key) (mode : Mode) (m : Msg) → p ≡ home s who.txn → IsIn (record { key = key; mode = mode }) acc → is_answer who key m ≡ true → Seat who p m
    at_answer p key mode m e i t =
        let k : Slot = record { node = home s who.txn; test = is_answer who key } in
        (k, inr (in_right k asks' (answers' ++ (prepares' ++ (votes' ++ (ends' ++ closes')))) (in_left k answers' (prepares' ++ (votes' ++ (ends' ++ closes'))) (in_map (λ (a : Access). record { node = home s who.txn; test = is_answer who a.key }) (record { key = key; mode = mode }) acc i))), e, t)

    at_prepare : (p : ℕ) (m : Msg) → IsIn p ps → is_prepare who m ≡ true → Seat who p m
    at_prepare p m i t =
        let k : Slot = record { node = p; test = is_prepare who } in
        (k, inr (in_right k asks' (answers' ++ (prepares' ++ (votes' ++ (ends' ++ closes')))) (in_right k answers' (prepares' ++ (votes' ++ (ends' ++ closes'))) (in_left k prepares' (votes' ++ (ends' ++ closes')) (in_map (λ (q : ℕ). record { node = q; test = is_prepare who }) p ps i)))), refl, t)

    at_vote : (p q : ℕ) (m : Msg) → p ≡ home s who.txn → IsIn q ps → is_vote who q m ≡ true → Seat who p m
    at_vote p q m e i t =
        let k : Slot = record { node = home s who.txn; test = is_vote who q } in
        (k, inr (in_right k asks' (answers' ++ (prepares' ++ (votes' ++ (ends' ++ closes')))) (in_right k answers' (prepares' ++ (votes' ++ (ends' ++ closes'))) (in_right k prepares' (votes' ++ (ends' ++ closes')) (in_left k votes' (ends' ++ closes') (in_map (λ (q : ℕ). record { node = home s who.txn; test = is_vote who q }) q ps i))))), e, t)

    at_end : (p : ℕ) (m : Msg) → IsIn p ps → is_end who m ≡ true → Seat who p m
    at_end p m i t =
        let k : Slot = record { node = p; test = is_end who } in
        (k, inr (in_right k asks' (answers' ++ (prepares' ++ (votes' ++ (ends' ++ closes')))) (in_right k answers' (prepares' ++ (votes' ++ (ends' ++ closes'))) (in_right k prepares' (votes' ++ (ends' ++ closes')) (in_right k votes' (ends' ++ closes') (in_left k ends' closes' (in_map (λ (q : ℕ). record { node = q; test = is_end who }) p ps i)))))), refl, t)

    at_close : (p q : ℕ) (m : Msg) → p ≡ home s who.txn → IsIn q ps → is_close who q m ≡ true → Seat who p m
    at_close p q m e i t =
        let k : Slot = record { node = home s who.txn; test = is_close who q } in
        (k, inr (in_right k asks' (answers' ++ (prepares' ++ (votes' ++ (ends' ++ closes')))) (in_right k answers' (prepares' ++ (votes' ++ (ends' ++ closes'))) (in_right k prepares' (votes' ++ (ends' ++ closes')) (in_right k votes' (ends' ++ closes') (in_right k ends' closes' (in_map (λ (q : ℕ). record { node = home s who.txn; test = is_close who q }) q ps i)))))), e, t)

    told_part : (q : ℕ) (ms : List Msg) → IsIn q (told s ms who) → IsIn q ps
    told_part q ms i = go (refused_for who ms) i
      where
        taken : (n : ℕ) (a : Access) (as' : List Access) → IsIn a (take_first n as') → IsIn a as'
        taken zero a as' i = absurd i
        taken (suc n) a [] i = absurd i
        taken (suc n) a (b ∷ as') i = ⊎_elim (λ e. inl e) (λ r. inr (taken n a as' r)) i

        go : (b : Bool) → IsIn q (cond b (asked_partitions s ms who) ps) → IsIn q ps
        go true i =
            let a = parts_from s.parts q (take_first (suc (length (grants_for who ms))) acc) i in
            subst (λ z. IsIn z ps) a.2 (parts_in s.parts a.0.key acc v.parts (key_there a.0.key a.0.mode acc (taken (suc (length (grants_for who ms))) a.0 acc a.1)))
        go false i = i

    slice_in : {A : Type 0} (xs : List A) (i : ℕ) (a : A) → slice_get xs i ≡ Some a → IsIn a xs
    slice_in [] i a e = absurd (cc)
    slice_in (x ∷ xs) zero a e = inl (sym (cc))
    slice_in (x ∷ xs) (suc i) a e = inr (slice_in xs i a e)

    -- a handled message of the attempt has its seat
    seat : (p : ℕ) (m : Msg) → IsIn m (heard p H) → is_of who m ≡ true → Seat who p m
    seat p (Start x) i e =
        let is = (attempt_decides x who).0 e in
        let f = fit_of s p (Start x) (heard p H) (g.fit p) i in
        (record { node = home s who.txn; test = is_start who }, inl refl, f.2.1 ∙ ap (λ (y : Attempt). home s y.txn) is, e)
    seat p (Ask x st k m) i e =
        let is = (attempt_decides x who).0 e in
        let f = fit_of s p (Ask x st k m) (heard p H) (g.fit p) i in
        subst (λ y. Seat who p (Ask y st k m)) (sym is) (at_ask p st k m f.2.1 (subst (λ (y : Attempt). IsIn (record { key = k; mode = m }) (s.accesses y.txn)) is f.2.2))
    seat p (Granted x k r n b) i e =
        let is = (attempt_decides x who).0 e in
        let f = fit_of s p (Granted x k r n b) (heard p H) (g.fit p) i in
        at_answer p k f.2.2.0 (Granted x k r n b) (f.2.0 ∙ ap (λ (y : Attempt). home s y.txn) is)
        (subst (λ (y : Attempt). IsIn (record { key = k; mode = f.2.2.0 }) (s.accesses y.txn)) is (slice_in (s.accesses x.txn) (length (grants_for x f.1)) (record { key = k; mode = f.2.2.0 }) f.2.2.1.2))
        (subst (λ y. is_answer who k (Granted y k r n b) ≡ true) (sym is) (key_itself k))
    seat p (Refused x k c) i e =
        let is = (attempt_decides x who).0 e in
        let f = fit_of s p (Refused x k c) (heard p H) (g.fit p) i in
        at_answer p k f.2.2.0 (Refused x k c) (f.2.0 ∙ ap (λ (y : Attempt). home s y.txn) is)
        (subst (λ (y : Attempt). IsIn (record { key = k; mode = f.2.2.0 }) (s.accesses y.txn)) is (slice_in (s.accesses x.txn) (length (grants_for x f.1)) (record { key = k; mode = f.2.2.0 }) f.2.2.1.2))
        (subst (λ y. is_answer who k (Refused y k c) ≡ true) (sym is) (key_itself k))
    seat p (Prepare x b w a) i e =
        let is = (attempt_decides x who).0 e in
        let f = fit_of s p (Prepare x b w a) (heard p H) (g.fit p) i in
        let gr = f.2.1.something in
        let h = grant_access s v p f.1 gr.0 f.3 gr.1 in
        at_prepare p (Prepare x b w a) (subst (λ z. IsIn z ps) h.0 (parts_in s.parts gr.0.key acc v.parts (key_there gr.0.key gr.0.mode acc (subst (λ (y : Attempt). IsIn (record { key = gr.0.key; mode = gr.0.mode }) (s.accesses y.txn)) (gr.2 ∙ is) h.1)))) e
    seat p (Yes x part lo hi) i e =
        let is = (attempt_decides x who).0 e in
        let f = fit_of s p (Yes x part lo hi) (heard p H) (g.fit p) i in
        at_vote p part (Yes x part lo hi) (f.2.0 ∙ ap (λ (y : Attempt). home s y.txn) is) (subst (λ y. IsIn part (participants s y)) is f.2.2) (subst (λ y. is_vote who part (Yes y part lo hi) ≡ true) (sym is) (part_itself part))
    seat p (No x part c) i e =
        let is = (attempt_decides x who).0 e in
        let f = fit_of s p (No x part c) (heard p H) (g.fit p) i in
        at_vote p part (No x part c) (f.2.0 ∙ ap (λ (y : Attempt). home s y.txn) is) (subst (λ y. IsIn part (participants s y)) is f.2.2) (subst (λ y. is_vote who part (No y part c) ≡ true) (sym is) (part_itself part))
    seat p (Commit x n) i e =
        let is = (attempt_decides x who).0 e in
        let h = heard_mail p H (Commit x n) i in
        let d = commit_flies s v H flight g x h.0 n (inr h.1) h.2 in
        at_end p (Commit x n) (subst₂ (λ y z. IsIn z (participants s y)) is h.3 d.1) e
    seat p (Abort x) i e =
        let is = (attempt_decides x who).0 e in
        let f = fit_of s p (Abort x) (heard p H) (g.fit p) i in
        let a = f.2.1.asked in
        let h = access_of s p f.1 a.0 f.3 a.1 in
        at_end p (Abort x) (subst (λ z. IsIn z ps) h.0 (parts_in s.parts a.0.key acc v.parts (key_there a.0.key a.0.mode acc (subst (λ (y : Attempt). IsIn (record { key = a.0.key; mode = a.0.mode }) (s.accesses y.txn)) (a.2 ∙ is) h.1)))) e
    seat p (Done x part) i e =
        let is = (attempt_decides x who).0 e in
        let f = fit_of s p (Done x part) (heard p H) (g.fit p) i in
        at_close p part (Done x part) (f.2.0 ∙ ap (λ (y : Attempt). home s y.txn) is) (subst (λ y. IsIn part (participants s y)) is f.2.2) (subst (λ y. is_close who part (Done y part) ≡ true) (sym is) (part_itself part))
    seat p (Undone x part) i e =
        let is = (attempt_decides x who).0 e in
        let f = fit_of s p (Undone x part) (heard p H) (g.fit p) i in
        at_close p part (Undone x part) (f.2.0 ∙ ap (λ (y : Attempt). home s y.txn) is) (told_part part f.1 (subst (λ y. IsIn part (told s f.1 y)) is f.2.2)) (subst (λ y. is_close who part (Undone y part) ≡ true) (sym is) (part_itself part))
    seat p (Tick a) i e = absurd (true≢false (sym e))
    seat p (Batch a b c) i e = absurd (true≢false (sym e))
    seat p (Rows a b c) i e = absurd (true≢false (sym e))
    seat p (Finished a b c) i e = absurd (true≢false (sym e))

    -- each seat holds one
    seat_once : (k : Slot) → IsIn k (slots_of s who) → count_msgs k.test (heard k.node H) ≤ 1
    seat_once k i =
        ⊎_elim
        (λ (e : k ≡ record { node = home s who.txn; test = is_start who }). subst (λ (z : Slot). count_msgs z.test (heard z.node H) ≤ 1) (sym e) (start (started_for who (heard (home s who.txn) H)) (starts_once s (home s who.txn) who (heard (home s who.txn) H) (g.fit (home s who.txn)))))
        (λ r. ⊎_elim
        (λ a. let x = in_map_from (λ (a : Access). record { node = partition_of a.key s.parts; test = is_ask who a.key }) k acc a in at x.2 (ask x.0.key))
        (λ r. ⊎_elim
        (λ a. let x = in_map_from (λ (a : Access). record { node = home s who.txn; test = is_answer who a.key }) k acc a in at x.2 (omega (arith, answer_ledger s v H flight g who x.0.key, ask x.0.key)))
        (λ r. ⊎_elim
        (λ a. let x = in_map_from (λ (q : ℕ). record { node = q; test = is_prepare who }) k ps a in at x.2 (prep x.0))
        (λ r. ⊎_elim
        (λ a. let x = in_map_from (λ (q : ℕ). record { node = home s who.txn; test = is_vote who q }) k ps a in at x.2 (omega (arith, vote_ledger s v H flight g who x.0, prep x.0)))
        (λ r. ⊎_elim
        (λ a. let x = in_map_from (λ (q : ℕ). record { node = q; test = is_end who }) k ps a in at x.2 (end x.0))
        (λ a. let x = in_map_from (λ (q : ℕ). record { node = home s who.txn; test = is_close who q }) k ps a in at x.2 (omega (arith, close_ledger s v H flight g who x.0, end x.0)))
        (in_cases k ends' closes' r))
        (in_cases k votes' (ends' ++ closes') r))
        (in_cases k prepares' (votes' ++ (ends' ++ closes')) r))
        (in_cases k answers' (prepares' ++ (votes' ++ (ends' ++ closes'))) r))
        (in_cases k asks' (answers' ++ (prepares' ++ (votes' ++ (ends' ++ closes')))) r))
        i
      where
        at : {k z : Slot} → k ≡ z → count_msgs z.test (heard z.node H) ≤ 1 → count_msgs k.test (heard k.node H) ≤ 1
        at e h = subst (λ (y : Slot). count_msgs y.test (heard y.node H) ≤ 1) (sym e) h

        start : (b : Bool) {n : ℕ} → n ≤ cond b 1 0 → n ≤ 1
        start true h = h
        start false h = omega (arith, h)

        ask : (key : Key) → count_msgs (is_ask who key) (heard (partition_of key s.parts) H) ≤ 1
        ask key = omega (arith, ask_ledger s v H flight g who key, at_most_one s v H flight g who key)

        prep : (q : ℕ) → count_msgs (is_prepare who) (heard q H) ≤ 1
        prep q = omega (arith, prepare_ledger s v H flight g who q, prepares_once s v H flight g who q)

        end : (q : ℕ) → count_msgs (is_end who) (heard q H) ≤ 1
        end q = omega (arith, end_ledger s v H flight g who q, ends_once s v H flight g who q)

    slots_length : length (slots_of s who) ≡ most_of s who.txn
    slots_length = omega (
      arith,
      len asks' (answers' ++ (prepares' ++ (votes' ++ (ends' ++ closes')))),
      len answers' (prepares' ++ (votes' ++ (ends' ++ closes'))),
      len prepares' (votes' ++ (ends' ++ closes')),
      len votes' (ends' ++ closes'),
      len ends' closes',
      mapped (λ (a : Access). record { node = partition_of a.key s.parts; test = is_ask who a.key }) acc,
      mapped (λ (a : Access). record { node = home s who.txn; test = is_answer who a.key }) acc,
      mapped (λ (q : ℕ). record { node = q; test = is_prepare who }) ps,
      mapped (λ (q : ℕ). record { node = home s who.txn; test = is_vote who q }) ps,
      mapped (λ (q : ℕ). record { node = q; test = is_end who }) ps,
      mapped (λ (q : ℕ). record { node = home s who.txn; test = is_close who q }) ps,
    )
      where
        len : (xs ys : List Slot) → length (xs ++ ys) ≡ length xs + length ys
        len [] ys = omega arith
        len (x ∷ xs) ys = omega (arith, len xs ys)

        mapped : {A : Type 0} (f : A → Slot) (xs : List A) → length (map f xs) ≡ length xs
        mapped f [] = refl
        mapped f (x ∷ xs) = omega (arith, mapped f xs)

    -- the entries of one attempt
    pub entries_of : count_entries (λ e. is_of who e.msg) H ≤ most_of s who.txn
    entries_of =
        let mine : List Entry = filter (λ e. is_of who e.msg) H in
        let a : length mine ≤ sum_of (λ k. count_entries (sits k) mine) (slots_of s who)
        = pigeon count_entries (λ t. refl) (λ t x xs. refl) sits (slots_of s who) mine (λ e i. let f = filter_in (λ e. is_of who e.msg) e H i in let z = seat e.node e.msg (entry_heard H e f.0) f.1 in (z.0, z.1, both z.0 e z.2 z.3)) in
        let b : sum_of (λ k. count_entries (sits k) mine) (slots_of s who) ≤ sum_of (λ k. 1) (slots_of s who)
        = sum_under (λ k. count_entries (sits k) mine) (λ k. 1) (slots_of s who) (λ k i. omega (arith, fewer (sits k) (λ e. is_of who e.msg) H, sits_count k H, seat_once k i)) in
        omega (arith, a, b, sum_ones (slots_of s who), slots_length, counted (λ e. is_of who e.msg) H)
      where
        both : (k : Slot) (e : Entry) → e.node ≡ k.node → k.test e.msg ≡ true → sits k e ≡ true
        both k e f t = grind (arith, nat_tests, f, t)

        fewer : (t p : Entry → Bool) (H : List Entry) → count_entries t (filter p H) ≤ count_entries t H
        fewer t p [] = omega arith
        fewer t p (e ∷ H) = grind (arith, fewer t p H)

        counted : (p : Entry → Bool) (H : List Entry) → count_entries p H ≡ length (filter p H)
        counted p [] = refl
        counted p (e ∷ H) = grind (arith, counted p H)

-- what the home handled is of a started attempt
started_kept : (who : Attempt) (m : Msg) (ms : List Msg) → started_for who ms ≡ true → started_for who (m ∷ ms) ≡ true
started_kept who (Start x) ms e = or_right (attempt_eq x who) e
  where
    or_right : (a : Bool) {b : Bool} → b ≡ true → (a || b) ≡ true
    or_right true e = refl
    or_right false e = e
started_kept who (Ask x st k m) ms e = e
started_kept who m ms e = e

abbrev AtHome : Setting → ℕ → Attempt → List Msg → Type 0
AtHome s p who ms = (p ≡ home s who.txn) × (started_for who ms ≡ true)

abbrev by_home : Msg → Bool
by_home (Start x) = true
by_home (Granted x k r n b) = true
by_home (Refused x k c) = true
by_home (Yes x part lo hi) = true
by_home (No x part c) = true
by_home (Done x part) = true
by_home (Undone x part) = true
by_home m = false

abbrev Known' : Setting → ℕ → Msg → List Msg → Type 0
Known' s p m ms = (who : Attempt) × (is_of who m ≡ true) × AtHome s p who ms

self : (x : Attempt) → attempt_eq x x ≡ true
self x = ⊎_elim (λ t. t.0) (λ f. absurd (f.1 refl)) (attempt_tells x x)

started_here : (s : Setting) (p : ℕ) (m : Msg) (ms : List Msg) (f : ℕ) → AllFit s p ms → Suits s p f m ms → by_home m ≡ true → Known' s p m (m ∷ ms)
started_here s p (Start x) ms f all fit e = (x, self x, (fit.1, now (attempt_eq x x) (started_for x ms) (self x)))
  where
    now : (a b : Bool) → a ≡ true → (a || b) ≡ true
    now true b e = refl
    now false b e = absurd (true≢false (sym e))
started_here s p (Granted x k r n b) ms f all fit e = (x, self x, (fit.0, fit.2.1.0))
started_here s p (Refused x k c) ms f all fit e = (x, self x, (fit.0, fit.2.1.0))
started_here s p (Yes x part lo hi) ms f all fit e = (x, self x, (fit.0, fit.3.0))
started_here s p (No x part c) ms f all fit e = (x, self x, (fit.0, fit.3.0))
started_here s p (Done x part) ms f all fit e = (x, self x, (fit.0, fit.4.1.0.0.0))
started_here s p (Undone x part) ms f all fit e = (x, self x, (fit.0, aborted_started s p x ms all fit.4))
started_here s p (Ask x st k m) ms f all fit e = absurd (true≢false (sym e))
started_here s p m ms f all fit e = absurd (true≢false (sym e))

started_of : (s : Setting) (p : ℕ) (m : Msg) (ms : List Msg) → AllFit s p ms → IsIn m ms → by_home m ≡ true → Known' s p m ms
started_of s p m [] fit i e = absurd i
started_of s p m (x ∷ ms) fit i e =
    ⊎_elim
    (λ is. subst (λ z. Known' s p z (x ∷ ms)) (sym is) (started_here s p x ms fit.0.0 fit.1 fit.0.1 (subst (λ z. by_home z ≡ true) is e)))
    (λ r. let n = started_of s p m ms fit.1 r e in (n.0, n.1, (n.2.0, started_kept n.0 x ms n.2.1)))
    i

abbrev all_turns : TxnId → ℕ → List Attempt
all_turns x zero = []
all_turns x (suc n) = record { txn = x; turn = suc n } ∷ all_turns x n

turn_in : (x : TxnId) (n t : ℕ) → 1 ≤ t → t ≤ n → IsIn (record { txn = x; turn = t }) (all_turns x n)
turn_in x zero t low high = absurd (omega (arith, low, high))
turn_in x (suc n) t low high =
    ⊎_elim
    (λ (is : (eqb t (suc n) ≡ true) × (t ≡ suc n)). inl (ap (λ k. record { txn = x; turn = k }) is.1))
    (λ (ne : (eqb t (suc n) ≡ false) × (t ≢ suc n)). inr (turn_in x n t low (omega (arith, ne.1, high))))
    (eqb_tells t (suc n))

sum_turns : (s : Setting) (x : TxnId) (n : ℕ) → sum_of (λ (a : Attempt). most_of s a.txn) (all_turns x n) ≡ n * most_of s x
sum_turns s x zero = omega arith
sum_turns s x (suc n) = omega (arith, sum_turns s x n, times n (most_of s x))
  where
    times : (n m : ℕ) → suc n * m ≡ m + n * m
    times n m = grind arith

sum_all : (s : Setting) (xs : List TxnId) → sum_of (λ (a : Attempt). most_of s a.txn) (flat_map (λ x. all_turns x s.attempts) xs) ≡ sum_of (λ x. s.attempts * most_of s x) xs
sum_all s [] = refl
sum_all s (x ∷ xs) = omega (arith, sum_append (λ (a : Attempt). most_of s a.txn) (all_turns x s.attempts) (flat_map (λ x. all_turns x s.attempts) xs), sum_turns s x s.attempts, sum_all s xs)

module _ (s : Setting) (v : Valid s) (H : List Entry) (flight : List Mail) (g : Good s H flight) where
  abbrev Begun : Msg → Type 0
  Begun m = (who : Attempt) × (is_of who m ≡ true) × (started_for who (heard (home s who.txn) H) ≡ true)

  at_home' : (p : ℕ) (m : Msg) → IsIn m (heard p H) → by_home m ≡ true → Begun m
  at_home' p m i e = let n = started_of s p m (heard p H) (g.fit p) i e in (n.0, n.1, subst (λ q. started_for n.0 (heard q H) ≡ true) n.2.0 n.2.1)

  -- each message that was handled is of a started attempt
  pub begun_of : (p : ℕ) (m : Msg) → IsIn m (heard p H) → Begun m
  begun_of p (Ask x st k m) i =
      let f = said_at s v H flight g x p (Ask x st k m) i (λ y d. absurd (cc (d))) in
      (x, self x, subst (λ q. started_for x (heard q H) ≡ true) f.5.0 (ask_said s f.1 x st k m (heard f.1 H) (g.fit f.1) f.0 f.2 f.4).0)
  begun_of p (Prepare x b w a) i =
      let f = said_at s v H flight g x p (Prepare x b w a) i (λ y d. absurd (cc (d))) in
      let d = prepare_said s v f.1 x (heard f.1 H) (g.fit f.1) f.0 b w a f.2 f.4 in
      (x, self x, (has_all s v H flight g x p f.5.1 (subst (λ q. length (grants_for x (heard q H)) ≡ length (s.accesses x.txn)) f.5.0 d.0)).0)
  begun_of p (Commit x n) i =
      let h = heard_mail p H (Commit x n) i in
      (x, self x, (commit_flies s v H flight g x h.0 n (inr h.1) h.2).0.0.0.0)
  begun_of p (Abort x) i =
      let h = heard_mail p H (Abort x) i in
      (x, self x, aborted_started s (home s x.txn) x (heard (home s x.txn) H) (g.fit (home s x.txn)) (abort_flies s v H flight g x h.0 (inr h.1) h.2))
  begun_of p (Start x) i = at_home' p (Start x) i refl
  begun_of p (Granted x k r n b) i = at_home' p (Granted x k r n b) i refl
  begun_of p (Refused x k c) i = at_home' p (Refused x k c) i refl
  begun_of p (Yes x part lo hi) i = at_home' p (Yes x part lo hi) i refl
  begun_of p (No x part c) i = at_home' p (No x part c) i refl
  begun_of p (Done x part) i = at_home' p (Done x part) i refl
  begun_of p (Undone x part) i = at_home' p (Undone x part) i refl
  begun_of p (Tick a) i = absurd (fit_of s p (Tick a) (heard p H) (g.fit p) i).2
  begun_of p (Batch a b c) i = absurd (fit_of s p (Batch a b c) (heard p H) (g.fit p) i).2
  begun_of p (Rows a b c) i = absurd (fit_of s p (Rows a b c) (heard p H) (g.fit p) i).2
  begun_of p (Finished a b c) i = absurd (fit_of s p (Finished a b c) (heard p H) (g.fit p) i).2

  -- so a run is no longer than that
  pub run_short : length H ≤ most_events s
  run_short =
      let all : List Attempt = flat_map (λ x. all_turns x s.attempts) s.ids in
      let a : length H ≤ sum_of (λ (w : Attempt). count_entries (λ e. is_of w e.msg) H) all = pigeon count_entries (λ t. refl) (λ t x xs. refl) (λ (w : Attempt) (e : Entry). is_of w e.msg) all H (λ e i. listed e i) in
      let b : sum_of (λ (w : Attempt). count_entries (λ e. is_of w e.msg) H) all ≤ sum_of (λ (w : Attempt). most_of s w.txn) all = sum_under (λ (w : Attempt). count_entries (λ e. is_of w e.msg) H) (λ (w : Attempt). most_of s w.txn) all (λ w i. entries_of s v H flight g w) in
      omega (arith, a, b, sum_all s s.ids)
    where
      listed : (e : Entry) → IsIn e H → (w : Attempt) × IsIn w (flat_map (λ x. all_turns x s.attempts) s.ids) × (is_of w e.msg ≡ true)
      listed e i =
          let b = begun_of e.node e.msg (entry_heard H e i) in
          let p : ℕ = home s b.0.txn in
          (b.0, flat_in (λ x. all_turns x s.attempts) s.ids b.0.txn b.0 (started_ids s p b.0 (heard p H) (g.fit p) b.2) (turn_in b.0.txn s.attempts b.0.turn (started_turn s p b.0 (heard p H) (g.fit p) b.2) (turn_bound s p b.0 (heard p H) v.attempts (g.fit p) b.2)), b.1)

-- the limits of the program
sum_const : {A : Type 0} (f : A → ℕ) (c : ℕ) (xs : List A) → ((x : A) → IsIn x xs → f x ≤ c) → sum_of f xs ≤ length xs * c
sum_const f c [] h = omega arith
sum_const f c (x ∷ xs) h = omega (arith, h x (inl refl), sum_const f c xs (λ y i. h y (inr i)), times (length xs) c)
  where
    times : (n m : ℕ) → suc n * m ≡ m + n * m
    times n m = grind arith

-- 10,000 transactions of at most 18 accesses at 16 partitions, with 8 attempts, have at most 8,080,000 events
pub events_within : (s : Setting) → s.attempts ≤ 8 → length s.ids ≤ 10000 → ((x : TxnId) → (length (s.accesses x) ≤ 18) × (length (partitions_of s.parts (s.accesses x)) ≤ 16)) → most_events s ≤ 8080000
events_within s eight ids each =
    let a : sum_of (λ x. s.attempts * most_of s x) s.ids ≤ length s.ids * 808 = sum_const (λ x. s.attempts * most_of s x) 808 s.ids (λ x i. prod s.attempts (most_of s x) eight (omega (arith, (each x).0, (each x).1))) in
    omega (arith, a, ids)
  where
    prod : (a b : ℕ) → a ≤ 8 → b ≤ 101 → a * b ≤ 808
    prod a b h l = omega (arith, mono a 8 b h, l)
      where
        mono : (a b k : ℕ) → a ≤ b → a * k ≤ b * k
        mono a b k h = grind (arith, h)

-- so they keep all numbers below 2^48, for each rule whose span is at most 8,192
pub limits_within : (s : Setting) (span : ℕ) → Grows s.rule span → span ≤ 8192 → s.parts ≤ 16 → s.attempts ≤ 8 → length s.ids ≤ 10000 → ((x : TxnId) → (length (s.accesses x) ≤ 18) × (length (partitions_of s.parts (s.accesses x)) ≤ 16)) → Limits s
limits_within s span gr sp parts eight ids each =
    let e = events_within s eight ids each in
    record { span = span; grows = gr; short = omega (arith, e); small = omega (arith, prod (most_events s) (span + 2 * s.parts) e (omega (arith, sp, parts))) }
  where
    prod : (a b : ℕ) → a ≤ 8080000 → b ≤ 8224 → a * b ≤ 66449920000
    prod a b h l = omega (arith, mono a 8080000 b h, l)
      where
        mono : (a b k : ℕ) → a ≤ b → a * k ≤ b * k
        mono a b k h = grind (arith, h)

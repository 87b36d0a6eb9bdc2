-- The table tracks the history with one more Ask.
use Rattle.std.proofs.Common.{◌≡◌, ◌≢◌, ◌⊎◌, ℕ, max, ◌+◌, ◌≤◌, ◌<◌, List, [], ◌∷◌, filter, ◌==◌, Bool, true, false, cond, ltb, ◌&&◌, refl, sym, ap, ◌∙◌, subst, inl, inr, ⊎_elim, arith, true≢false, Option, Some, None, option_map}
use Rattle.std.proofs.lemmas.Bool.{lt-ltb, ltb-true}
use Rattle.std.proofs.lemmas.Bool.Decides.{nat_tests}
use Rattle.deneva_base.specs.declared.keys.Key.{Key}
use Rattle.deneva_base.specs.declared.keys.Mode.{Mode}
use Rattle.deneva_base.specs.declared.numbers.Attempt.{Attempt}
use Rattle.deneva_base.specs.declared.numbers.Number.{Number}
use Rattle.deneva_base.specs.declared.causes.Cause.{Cause}
use Rattle.deneva_base.specs.declared.answers.Answer.TheVariants.{Granted, Waits, Refused}
use Rattle.protocol_rules.specs.Conditions.{MayAsk}
use Rattle.protocol_rules.specs.History.{Ask, History, Asked}
use Rattle.deneva_base.specs.Keys.{key_eq, number_eq, number_lt}
use Rattle.protocol_rules.specs.Latest.{Version, latest}
use Rattle.deneva_base.specs.Lists.{IsIn}
use Rattle.deneva_base.specs.Modes.{reads, writes}
use Rattle.deneva_base.specs.Rows.{Row, Rows}
use Rattle.protocol_rules.specs.Timestamp.{top_written, top_read}
use Rattle.protocol_rules.specs.Versions.{written, start, greatest, below}
use Rattle.protocol_rules.proofs.Belows.{Listed, below_under, greatest_in, greatest_over}
use Rattle.protocol_rules.proofs.Known.{Known}
use Rattle.protocol_rules.proofs.Marks.{Marked}
use Rattle.protocol_rules.proofs.Sound.{Sound}
use Rattle.protocol_rules.proofs.Traced.{Traced}
use Rattle.deneva_base.proofs.Membership.{and_parts, and_true, in_cases, in_filter}
use Rattle.row_store.specs.declared.versions.Version.{Version as StoredVersion}
use Rattle.row_store.specs.Stores.{version_at}
use Rattle.row_store.proofs.Tables.{same_key-key_eq}
use Rattle.stamp_lines.specs.declared.requests.Request.{Request}
use Rattle.stamp_lines.specs.Requests.{put_request}
use Rattle.key_table.specs.Keys.{same_key}
use Rattle.stamp_lines.proofs.Asking.{grew, ask_granted, ask_waits, ask_refused, same_tracks}
use Rattle.key_table.proofs.Places.{same_tells}
use Rattle.stamp_control.specs.declared.table.Table.{Table}
use Rattle.stamp_control.specs.Picks.{newer_than, offer, pick}
use Rattle.stamp_control.specs.Pasts.{Kept, past_at, is_numbered, with_version, with_latest, raised, granted_at}
use Rattle.stamp_control.specs.Changes.{writers_in, version_or, Grants, LetsWait, MayWiden}
use Rattle.shelf.specs.Keeps.{version_of}
use Rattle.stamp_control.specs.Standing.{State, state_of, IsPast, Tracks}
use Rattle.stamp_control.proofs.Counting.{writers_put}
use Rattle.stamp_control.proofs.Histories.{latest_is, below_latest, ask_apart}
use Rattle.stamp_control.proofs.Picks.{lt_irrefl, pick_more, pick_in}

-- more room changes nothing that is tracked
pub widened : (loaded : Rows) (h : History) (old new : Table) → Tracks loaded (state_of old) h → MayWiden old new → Tracks loaded (state_of new) h
widened loaded h old new t c =
    let s : State = state_of old in
    let s' : State = state_of new in
    record {
      accesses = same_tracks loaded h old.accesses new.accesses c.accesses t.accesses;
      read = λ k. (c.pasts k).read ∙ t.read k;
      waited = λ a i. ap (λ vs. option_map version_of (pick a.stamp vs)) (c.pasts a.key).versions ∙ t.waited a i;
      kept = λ k v i. t.kept k v (subst (λ vs. IsIn v vs) (c.pasts k).versions i);
      writers = λ k. let w = t.writers k in let e = ap writers_in (c.accesses.lines k) in let p = (c.pasts k).spare in omega (arith, w, e, p);
      there = λ a i. (c.pasts a.key).present (t.there a i);
    }

-- the number of writers at the key and elsewhere
writers_at : (key k : Key) (r : Request) (rs rs' : Key → List Request) → rs' k ≡ cond (same_key key k) (put_request r (rs key)) (rs k) → ((key ≡ k) × (writers_in (rs' k) ≡ cond (writes r.mode) 1 0 + writers_in (rs key))) ⊎ ((key ≢ k) × (writers_in (rs' k) ≡ writers_in (rs k)))
writers_at key k r rs rs' e = ⊎_elim
    (λ t. inl (t.1, ap writers_in (e ∙ ap (λ b. cond b (put_request r (rs key)) (rs k)) t.0) ∙ writers_put r (rs key)))
    (λ f. inr (f.1, ap writers_in (e ∙ ap (λ b. cond b (put_request r (rs key)) (rs k)) f.0)))
    (same_tells key k)

one_or_none : (b : Bool) → cond b 1 0 ≤ 1
one_or_none true = omega arith
one_or_none false = omega arith

-- what a granted access leaves
pub granted_versions : (key : Key) (stamp : ℕ) (mode : Mode) (k : Key) (p : Kept) → (granted_at key stamp mode k p).versions ≡ p.versions
granted_versions key stamp mode k p = go (same_key key k && reads mode) p.present
  where
    go : (b c : Bool) → (cond b (cond c (record { read = max p.read stamp; versions = p.versions; spare = p.spare; present = true }) p) p).versions ≡ p.versions
    go true true = refl
    go true false = refl
    go false c = refl

pub granted_spare : (key : Key) (stamp : ℕ) (mode : Mode) (k : Key) (p : Kept) → (granted_at key stamp mode k p).spare ≡ p.spare
granted_spare key stamp mode k p = go (same_key key k && reads mode) p.present
  where
    go : (b c : Bool) → (cond b (cond c (record { read = max p.read stamp; versions = p.versions; spare = p.spare; present = true }) p) p).spare ≡ p.spare
    go true true = refl
    go true false = refl
    go false c = refl

pub granted_present : (key : Key) (stamp : ℕ) (mode : Mode) (k : Key) (p : Kept) → p.present ≡ true → (granted_at key stamp mode k p).present ≡ true
granted_present key stamp mode k p e = go (same_key key k && reads mode) p.present e
  where
    go : (b c : Bool) → c ≡ true → (cond b (cond c (record { read = max p.read stamp; versions = p.versions; spare = p.spare; present = true }) p) p).present ≡ true
    go true true f = refl
    go true false f = absurd (true≢false (sym f))
    go false c f = e

-- the greatest stamp of a reader
pub granted_read : (key : Key) (stamp : ℕ) (mode : Mode) (k : Key) (p : Kept) → (same_key key k ≡ true → p.present ≡ true) → (granted_at key stamp mode k p).read ≡ max (cond (key_eq key k && reads mode) stamp 0) p.read
granted_read key stamp mode k p there = subst (λ b. (granted_at key stamp mode k p).read ≡ max (cond (b && reads mode) stamp 0) p.read) (same_key-key_eq key k) (go (same_key key k) refl (reads mode))
  where
    up : (c : Bool) → c ≡ true → (cond c (record { read = max p.read stamp; versions = p.versions; spare = p.spare; present = true }) p).read ≡ max stamp p.read
    up true e = omega arith
    up false e = absurd (true≢false (sym e))

    go : (b : Bool) → same_key key k ≡ b → (c : Bool) → (cond (b && c) (raised stamp p) p).read ≡ max (cond (b && c) stamp 0) p.read
    go true e true = up p.present (there e)
    go true e false = omega arith
    go false e c = omega arith

some_is : {A : Type 0} (x y : A) → Some x ≡ Some y → x ≡ y
some_is {A} x y e = ap get e
  where
    get : Option A → A
    get None = x
    get (Some z) = z

number_same : (x y : Number) → x.n ≡ y.n → x.id.0 ≡ y.id.0 → x ≡ y
number_same x y e f = λ i. record { n = e i; id = record { 0 = f i } }

pub numbered : (x y : Number) → number_eq x y ≡ true → x ≡ y
numbered x y e = let p = and_parts (x.n == y.n) (x.id.0 == y.id.0) e in number_same x y (grind (arith, nat_tests, p)) (grind (arith, nat_tests, p))

below_of : (x y : Number) → number_eq x y ≡ false → number_lt y x ≡ false → number_lt x y ≡ true
below_of x y e f = grind (arith, nat_tests, e, f)

module _ (loaded : Rows) (h : History) (known : Known loaded h) (sound : Sound loaded h) (traced : Traced h) (marked : Marked h) (listed : Listed loaded h) (who : Attempt) (stamp : ℕ) (key : Key) (mode : Mode) (may : MayAsk loaded h who stamp key) where
  -- it is granted
  pub granted_tracks : (old new : Table) (row : Row) (version : Number) (bound : ℕ) → Tracks loaded (state_of old) h → Grants key (record { who = who; stamp = stamp; mode = mode; waits = false }) old new → Tracks loaded (state_of new) (Ask who stamp key mode (Granted row version bound) ∷ h)
  granted_tracks old new row version bound t c =
      let s : State = state_of old in
      let s' : State = state_of new in
      let r : Request = record { who = who; stamp = stamp; mode = mode; waits = false } in
      let versions : (k : Key) → (s'.pasts k).versions ≡ (s.pasts k).versions = λ k. ap (λ (p : Kept). p.versions) (c.pasts k) ∙ granted_versions key stamp mode k (past_at c.between k) ∙ (c.reserves.same k).versions in
      let more = c.accesses.waiting in
      record {
        accesses = ask_granted loaded h known traced who stamp key mode may s.accesses s'.accesses row version bound t.accesses (grew key r old.accesses new.accesses c.accesses) (omega (arith, more));
        read = λ k.
            ap (λ (p : Kept). p.read) (c.pasts k)
            ∙ granted_read key stamp mode k (past_at c.between k) (λ e. subst (λ z. (past_at c.between z).present ≡ true) (⊎_elim (λ x. x.1) (λ f. absurd (true≢false (sym e ∙ f.0))) (same_tells key k)) c.reserves.room.present)
            ∙ ap (λ n. max (cond (key_eq key k && reads mode) stamp 0) n) ((c.reserves.same k).read ∙ t.read k);
        waited = λ a i. ap (λ vs. option_map version_of (pick a.stamp vs)) (versions a.key) ∙ t.waited a i;
        kept = λ k v i. let p = t.kept k v (subst (λ vs. IsIn v vs) (versions k) i) in record { not_later = p.not_later; same = p.same };
        writers = λ k.
            let spare = ap (λ (p : Kept). p.spare) (c.pasts k) ∙ granted_spare key stamp mode k (past_at c.between k) in
            ⊎_elim
            (λ x. let one = one_or_none (writes mode) in let room = subst (λ z. writers_in (s.accesses.requests key) + 1 ≤ (past_at c.between z).spare) x.0 c.reserves.room.spare in omega (arith, x.1, one, room, spare))
            (λ x. let w = t.writers k in let e = (c.reserves.same k).spare in omega (arith, x.1, w, e, spare))
            (writers_at key k r s.accesses.requests s'.accesses.requests (c.accesses.lines k));
        there = λ a i. subst (λ (p : Kept). p.present ≡ true) (sym (c.pasts a.key)) (granted_present key stamp mode a.key (past_at c.between a.key) ((c.reserves.same a.key).present (t.there a i)));
      }

  -- it is refused
  pub refused_tracks : (s : State) (cause : Cause) → Tracks loaded s h → Tracks loaded s (Ask who stamp key mode (Refused cause) ∷ h)
  refused_tracks s cause t = record {
    accesses = ask_refused loaded h known traced who stamp key mode may s.accesses cause t.accesses;
    read = t.read;
    waited = t.waited;
    kept = λ k v i. let p = t.kept k v i in record { not_later = p.not_later; same = p.same };
    writers = t.writers;
    there = t.there;
  }

  module _ (top : top_written h key ≤ stamp) where
    pub reads_latest : below loaded h key stamp ≡ latest loaded h key
    reads_latest = below_latest loaded h key stamp top (ask_apart loaded h known sound traced marked listed who stamp key may)

    latest_under : (latest loaded h key).number.n < stamp
    latest_under = subst (λ (v : Version). v.number.n < stamp) reads_latest (below_under loaded h key stamp may.positive)

  -- what is read below a stamp above the latest version is no earlier
  not_below : (k : Key) (n : ℕ) → (latest loaded h k).number.n < n → number_lt (below loaded h k n).number (latest loaded h k).number ≡ false
  not_below k n less =
      subst (λ (v : Version). number_lt (below loaded h k n).number v.number ≡ false) (sym (latest_is loaded h k))
      (greatest_over (start loaded k) (filter (λ (v : Version). ltb v.number.n n) (written h k)) (greatest (start loaded k) (written h k))
      (⊎_elim (λ e. inl e) (λ i. inr (in_filter (λ (v : Version). ltb v.number.n n) (greatest (start loaded k) (written h k)) (written h k) i (lt-ltb (greatest (start loaded k) (written h k)).number.n n (subst (λ (v : Version). v.number.n < n) (latest_is loaded h k) less)))) (greatest_in (start loaded k) (written h k))))

  -- the version that a waiter picks, with the latest one
  module _ (s : State) (t : Tracks loaded s h) (p : Kept) (L : StoredVersion) (is : version_of L ≡ latest loaded h key) (same : p.versions ≡ (s.pasts key).versions) where
    kept_in : (v : StoredVersion) → IsIn v p.versions → IsPast loaded h key v
    kept_in v i = t.kept key v (subst (λ vs. IsIn v vs) same i)

    number_is : L.number ≡ (latest loaded h key).number
    number_is = ap (λ (v : Version). v.number) is

    -- the new waiter picks it
    picks_latest : (latest loaded h key).number.n < stamp → option_map version_of (pick stamp (with_latest stamp L p).versions) ≡ Some (latest loaded h key)
    picks_latest less = go (pick stamp p.versions) refl
      where
        mine : (b : Option StoredVersion) → newer_than b L.number ≡ true → option_map version_of (offer stamp b L) ≡ Some (latest loaded h key)
        mine b e = ap (λ c. option_map version_of (cond c (Some L) b)) (and_true (ltb L.number.n stamp) (newer_than b L.number) (lt-ltb L.number.n stamp (subst (λ (n : Number). n.n < stamp) (sym number_is) less)) e) ∙ ap Some is

        pushed : (b : Option StoredVersion) → pick stamp p.versions ≡ b → is_numbered L.number b ≡ false → newer_than b L.number ≡ true → option_map version_of (pick stamp (with_latest stamp L p).versions) ≡ Some (latest loaded h key)
        pushed b e n f =
            ap (λ (c : Option StoredVersion). option_map version_of (pick stamp (cond (is_numbered L.number c) p (with_version L p)).versions)) e
            ∙ ap (λ c. option_map version_of (pick stamp (cond c p (with_version L p)).versions)) n
            ∙ ap (option_map version_of) (pick_more stamp None p.versions (L ∷ []) ∙ ap (λ c. offer stamp c L) e)
            ∙ mine b f

        go : (b : Option StoredVersion) → pick stamp p.versions ≡ b → option_map version_of (pick stamp (with_latest stamp L p).versions) ≡ Some (latest loaded h key)
        go None e = pushed None e refl refl
        go (Some v) e = at (number_eq v.number L.number) refl
          where
            there : IsIn v p.versions
            there = ⊎_elim (λ x. absurd (cc (x))) (λ x. x.0) (pick_in stamp None p.versions v e)

            at : (b : Bool) → number_eq v.number L.number ≡ b → option_map version_of (pick stamp (with_latest stamp L p).versions) ≡ Some (latest loaded h key)
            at true f =
                ap (λ (c : Option StoredVersion). option_map version_of (pick stamp (cond (is_numbered L.number c) p (with_version L p)).versions)) e
                ∙ ap (λ c. option_map version_of (pick stamp (cond c p (with_version L p)).versions)) f
                ∙ ap (option_map version_of) e
                ∙ ap Some ((kept_in v there).same (numbered v.number L.number f ∙ number_is))
            at false f = pushed (Some v) e f (below_of v.number L.number f (subst (λ n. number_lt n v.number ≡ false) (sym number_is) (kept_in v there).not_later))

    -- the others pick what they did
    picks_same : (n : ℕ) (b : Version) → option_map version_of (pick n p.versions) ≡ Some b → ((latest loaded h key).number.n < n → number_lt b.number (latest loaded h key).number ≡ false) → pick n (with_latest stamp L p).versions ≡ pick n p.versions
    picks_same n b e over = go (is_numbered L.number (pick stamp p.versions))
      where
        stays : (c : Option StoredVersion) → option_map version_of c ≡ Some b → offer n c L ≡ c
        stays None f = absurd (cc (f))
        stays (Some v) f = at (ltb L.number.n n) refl
          where
            number : v.number ≡ b.number
            number = ap (λ (x : Version). x.number) (some_is (version_of v) b f)

            at : (c : Bool) → ltb L.number.n n ≡ c → cond (c && number_lt v.number L.number) (Some L) (Some v) ≡ Some v
            at true g = ap (λ c. cond c (Some L) (Some v)) (ap (λ x. number_lt x L.number) number ∙ ap (number_lt b.number) number_is ∙ over (subst (λ (x : Number). x.n < n) number_is (ltb-true L.number.n n g)))
            at false g = refl

        go : (c : Bool) → pick n (cond c p (with_version L p)).versions ≡ pick n p.versions
        go true = refl
        go false = pick_more n None p.versions (L ∷ []) ∙ stays (pick n p.versions) e

    -- and it is no later than the latest
    kept_latest : (v : StoredVersion) → IsIn v (with_latest stamp L p).versions → IsPast loaded h key v
    kept_latest v i = go (is_numbered L.number (pick stamp p.versions)) i
      where
        go : (c : Bool) → IsIn v (cond c p (with_version L p)).versions → IsPast loaded h key v
        go true j = kept_in v j
        go false j = ⊎_elim
            (λ k. kept_in v k)
            (λ k. ⊎_elim
            (λ e. subst (IsPast loaded h key) (sym e) (record { not_later = subst (λ n. number_lt n L.number ≡ false) number_is (lt_irrefl L.number); same = λ x. is }))
            (λ x. absurd x)
            k)
            (in_cases v p.versions (L ∷ []) j)

  version_is : (o : Option StoredVersion) (l : Version) → option_map version_of o ≡ Some l → version_of (version_or o) ≡ l
  version_is None l e = absurd (cc (e))
  version_is (Some v) l e = some_is (version_of v) l e

  -- it waits
  pub waits_tracks : (old new : Table) → Tracks loaded (state_of old) h → option_map version_of (version_at old.accesses.shelf.store key) ≡ Some (latest loaded h key) → top_written h key ≤ stamp → LetsWait key (record { who = who; stamp = stamp; mode = mode; waits = false }) old new → Tracks loaded (state_of new) (Ask who stamp key mode Waits ∷ h)
  waits_tracks old new t latest_here top c =
      let s : State = state_of old in
      let s' : State = state_of new in
      let r : Request = record { who = who; stamp = stamp; mode = mode; waits = true } in
      let mid : Kept = past_at c.between key in
      let L : StoredVersion = version_or (version_at old.accesses.shelf.store key) in
      let is : version_of L ≡ latest loaded h key = version_is (version_at old.accesses.shelf.store key) (latest loaded h key) latest_here in
      let same : mid.versions ≡ (s.pasts key).versions = (c.reserves.same key).versions in
      let cases : (k : Key) → ((key ≡ k) × (s'.pasts k ≡ with_latest stamp L mid)) ⊎ ((key ≢ k) × (s'.pasts k ≡ past_at c.between k)) = λ k. ⊎_elim (λ x. inl (x.1, c.pasts k ∙ ap (λ b. cond b (with_latest stamp L mid) (past_at c.between k)) x.0)) (λ f. inr (f.1, c.pasts k ∙ ap (λ b. cond b (with_latest stamp L mid) (past_at c.between k)) f.0)) (same_tells key k) in
      let here : s'.pasts key ≡ with_latest stamp L mid = ⊎_elim (λ x. x.1) (λ f. absurd (f.0 refl)) (cases key) in
      let parts = latest_parts stamp L mid in
      record {
        accesses = ask_waits loaded h known traced who stamp key mode may s.accesses s'.accesses t.accesses (grew key r old.accesses new.accesses c.accesses) c.accesses.waiting;
        read = λ k. ⊎_elim
            (λ x. ap (λ (p : Kept). p.read) x.1 ∙ parts.0 ∙ (c.reserves.same key).read ∙ t.read key ∙ ap (top_read h) x.0)
            (λ f. ap (λ (p : Kept). p.read) f.1 ∙ (c.reserves.same k).read ∙ t.read k)
            (cases k);
        waited = λ a i. ⊎_elim
            (λ e. subst (λ (z : Asked). option_map version_of (pick z.stamp (s'.pasts z.key).versions) ≡ Some (below loaded h z.key z.stamp)) (sym e)
            (ap (λ (p : Kept). option_map version_of (pick stamp p.versions)) here ∙ picks_latest s t mid L is same (latest_under top) ∙ ap Some (sym (reads_latest top))))
            (λ j. ⊎_elim
            (λ x.
            let old_pick = subst (λ z. option_map version_of (pick a.stamp (s.pasts z).versions) ≡ Some (below loaded h z a.stamp)) (sym x.0) (t.waited a j) in
            let mid_pick = ap (λ vs. option_map version_of (pick a.stamp vs)) same ∙ old_pick in
            ap (λ (p : Kept). option_map version_of (pick a.stamp p.versions)) x.1
            ∙ ap (option_map version_of) (picks_same s t mid L is same a.stamp (below loaded h key a.stamp) mid_pick (not_below key a.stamp))
            ∙ mid_pick
            ∙ ap (λ z. Some (below loaded h z a.stamp)) x.0)
            (λ f. ap (λ (p : Kept). option_map version_of (pick a.stamp p.versions)) f.1 ∙ ap (λ vs. option_map version_of (pick a.stamp vs)) (c.reserves.same a.key).versions ∙ t.waited a j)
            (cases a.key))
            i;
        kept = λ k v i. ⊎_elim
            (λ x.
            let p = kept_latest s t mid L is same v (subst (λ (q : Kept). IsIn v q.versions) x.1 i) in
            let p' = subst (λ z. IsPast loaded h z v) x.0 p in
            record { not_later = p'.not_later; same = p'.same })
            (λ f. let p = t.kept k v (subst (λ vs. IsIn v vs) (c.reserves.same k).versions (subst (λ (q : Kept). IsIn v q.versions) f.1 i)) in record { not_later = p.not_later; same = p.same })
            (cases k);
        writers = λ k. ⊎_elim
            (λ x.
            let one = one_or_none (writes mode) in
            let room = c.reserves.room.spare in
            let spare = ap (λ (p : Kept). p.spare) (sym (ap (λ z. s'.pasts z) x.0) ∙ here) in
            let rest = parts.1 in
            omega (arith, x.1, one, room, spare, rest))
            (λ x. let w = t.writers k in let e = (c.reserves.same k).spare in let spare = ap (λ (p : Kept). p.spare) (⊎_elim (λ y. absurd (x.0 y.0)) (λ f. f.1) (cases k)) in omega (arith, x.1, w, e, spare))
            (writers_at key k r s.accesses.requests s'.accesses.requests (c.accesses.lines k));
        there = λ a i. ⊎_elim
            (λ x. subst (λ (p : Kept). p.present ≡ true) (sym x.1) (parts.2 ∙ c.reserves.room.present))
            (λ f. ⊎_elim
            (λ e. absurd (f.0 (sym (ap (λ (z : Asked). z.key) e))))
            (λ j. subst (λ (p : Kept). p.present ≡ true) (sym f.1) ((c.reserves.same a.key).present (t.there a j)))
            i)
            (cases a.key);
      }
    where
      latest_parts : (n : ℕ) (L : StoredVersion) (p : Kept) → ((with_latest n L p).read ≡ p.read) × (p.spare ≤ (with_latest n L p).spare + 1) × ((with_latest n L p).present ≡ p.present)
      latest_parts n L p = go (is_numbered L.number (pick n p.versions))
        where
          go : (b : Bool) → ((cond b p (with_version L p)).read ≡ p.read) × (p.spare ≤ (cond b p (with_version L p)).spare + 1) × ((cond b p (with_version L p)).present ≡ p.present)
          go true = (refl, omega arith, refl)
          go false = (refl, omega arith, refl)

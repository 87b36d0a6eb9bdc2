-- The laws of every rule that answers by stamps: wakes, windows and waits.
use Rattle.std.proofs.Common.{map, not, ◌≡◌, ◌≢◌, ◌⊎◌, ℕ, ◌<◌, ◌≤◌, List, [], ◌∷◌, ◌++◌, filter, Bool, true, false, ◌&&◌, refl, sym, ap, ◌∙◌, subst, inl, inr, ⊎_elim, arith, true≢false, Option, Some, None}
use Rattle.std.proofs.lemmas.Bool.{cases_lt}
use Rattle.deneva_base.specs.declared.keys.Key.{Key}
use Rattle.deneva_base.specs.declared.numbers.Attempt.{Attempt}
use Rattle.deneva_base.specs.declared.numbers.Number.{Number}
use Rattle.deneva_base.specs.declared.keys.Mode.{Mode}
use Rattle.deneva_base.specs.Lists.{IsIn}
use Rattle.deneva_base.specs.Rows.{Row, Rows}
use Rattle.deneva_base.specs.Modes.{IsReading, IsWriting}
use Rattle.deneva_base.specs.Keys.{key_eq, attempt_eq}
use Rattle.deneva_base.specs.declared.answers.Answer.{Answer}
use Rattle.deneva_base.specs.declared.answers.Answer.TheVariants.{Granted, Waits, Refused}
use Rattle.deneva_base.specs.declared.answers.Vote.{Vote}
use Rattle.deneva_base.specs.declared.answers.Vote.TheVariants.{Yes, No}
use Rattle.deneva_base.specs.declared.answers.Wake.{Wake}
use Rattle.deneva_base.specs.declared.causes.Bound.{Bound}
use Rattle.deneva_base.specs.declared.rows.Keyed.{Keyed}
use Rattle.protocol_rules.specs.History.{Ask, Prepare, Commit, Abort, History, Asked, Grant, asks, grants, waits, yeas, ended, closed, aborted, IsUnended, Writes, stamp_of}
use Rattle.protocol_rules.specs.Windows.{HasWindow, KeepsWindows, IsVersion}
use Rattle.protocol_rules.specs.Waits.{WaitsForWriter}
use Rattle.protocol_rules.specs.Wakes.{WakesWaiters, KeepsWakes, WakesOnce}
use Rattle.protocol_rules.specs.Conditions.{MayAsk, MayPrepare}
use Rattle.protocol_rules.specs.Rules.{Rule, Obeys}
use Rattle.protocol_rules.specs.Latest.{has_ended, Version, row_for, writes_in}
use Rattle.protocol_rules.specs.Order.{by_rising_stamp}
use Rattle.std.specs.List.{list_any}
use Rattle.protocol_rules.proofs.AllWakes.{wakes_once}
use Rattle.deneva_base.proofs.Membership.{filter_in, and_true, any_at, attempt_decides, key_decides}
use Rattle.protocol_rules.proofs.Windows.{Fresh}
use Rattle.protocol_rules.proofs.Sound.{Sound, sound, row_found, writes_found}
use Rattle.protocol_rules.proofs.Known.{Known, known}
use Rattle.protocol_rules.proofs.Traced.{Traced, traced}
use Rattle.protocol_rules.proofs.VoteLaws.{keeps_wakes, VotesFresh, windows}
use Rattle.protocol_rules.proofs.Sorts.{Distinct, distinct_filter, distinct_sort, sort_in}
use Rattle.protocol_rules.proofs.Wakes.{distinct_waits}
use Rattle.protocol_rules.specs.Versions.{version_of, written, below}
use Rattle.protocol_rules.specs.Waiting.{this, as_asked, holders, holds, wake_of}
use Rattle.protocol_rules.specs.Trying.{tried, to_try, tries}
use Rattle.protocol_rules.proofs.Belows.{listed, below_under, below_found}
use Rattle.protocol_rules.proofs.Tries.{tried_in, tried_distinct}
use Rattle.protocol_rules.proofs.Stops.{stops, stops_true, in_held, held_from}
use Rattle.protocol_rules.proofs.Woken.{wakes_waiters}
use Rattle.protocol_rules.proofs.Marks.{Marked, marked, stamp_is, window_is, not_aborted, stamps_differ}
use Rattle.protocol_rules.proofs.Stamped.{HasWritten, MayWrite, stops_same, State, Answered, over_held, over_waiting, Ends, state_end}

module _ (flag : Bool) (loaded : Rows) where
  -- what each call of a rule by stamps answers
  pub record Stamping (rule : Rule) : Type 0 where
    pub ask : (h : History) (who : Attempt) (stamp : ℕ) (key : Key) (mode : Mode) → Obeys loaded rule h → KeepsWakes h → MayAsk loaded h who stamp key → State flag loaded h → Answered flag loaded h who stamp key mode (rule.ask h who stamp key mode)
    pub vote : (h : History) (who : Attempt) (bound : Bound) (writes appends : List Keyed) → rule.vote h who bound writes appends ≡ Yes (stamp_of (asks h) who) (stamp_of (asks h) who)
    pub commit : (h : History) (who : Attempt) (number : Number) → Obeys loaded rule h → rule.commit h who number ≡ tries loaded (stops flag loaded (Commit who number [] ∷ h)) h (Commit who number [] ∷ h) who
    pub abort : (h : History) (who : Attempt) → Obeys loaded rule h → rule.abort h who ≡ tries loaded (stops flag loaded (Abort who [] ∷ h)) h (Abort who [] ∷ h) who

  -- the wakes are of waiting accesses, each once
  wakes_are : (h after : History) (who : Attempt) (test : Asked → Asked → Bool) → Known loaded h → Distinct (waits h) → WakesWaiters h (tries loaded test h after who)
  wakes_are h after who test k d =
      wakes_waiters (wake_of loaded after) (λ a. refl) (λ a. refl) loaded h k (tried test (holders after) (to_try h who))
      (λ a i. (filter_in (λ (z : Asked). holds h who z.key) a (waits h) (sort_in by_rising_stamp a (filter (λ (z : Asked). holds h who z.key) (waits h)) (tried_in test a (to_try h who) (holders after) i))).0)
      (tried_distinct test (to_try h who) (holders after) (distinct_sort by_rising_stamp (filter (λ (z : Asked). holds h who z.key) (waits h)) (distinct_filter (λ (z : Asked). holds h who z.key) (waits h) d)))

  pub wakes_law : (rule : Rule) → Stamping rule → (h : History) → Obeys loaded rule h → KeepsWakes h
  wakes_law rule by =
      keeps_wakes loaded rule
      (λ h who number o may. subst (λ w. WakesWaiters h w) (sym (by.commit h who number o)) (wakes_are h (Commit who number [] ∷ h) who (stops flag loaded (Commit who number [] ∷ h)) (known loaded rule h o) (distinct_waits loaded rule h o)))
      (λ h who o may. subst (λ w. WakesWaiters h w) (sym (by.abort h who o)) (wakes_are h (Abort who [] ∷ h) who (stops flag loaded (Abort who [] ∷ h)) (known loaded rule h o) (distinct_waits loaded rule h o)))

  -- where the attempt was not granted the key, it did not write it
  wrote_none : (h : History) (who : Attempt) (number : Number) (key : Key) → Sound loaded h → holds h who key ≡ false → ◌≡◌ {A = List Version} (version_of number (row_for key (writes_in (yeas h) who)) ++ written h key) (written h key)
  wrote_none h who number key s n = go (row_for key (writes_in (yeas h) who)) refl
    where
      go : (o : Option Row) → row_for key (writes_in (yeas h) who) ≡ o → ◌≡◌ {A = List Version} (version_of number o ++ written h key) (written h key)
      go None e = refl
      go (Some row) e =
          let y = writes_found (yeas h) who (record { key = key; row = row }) (row_found key (writes_in (yeas h) who) row e) in
          let g = s.holds y.0 (record { key = key; row = row }) y.2 y.3 in
          absurd (true≢false (sym (any_at (λ (z : Grant). attempt_eq z.who who && key_eq z.key key) g.0 (grants h) g.1 (and_true (attempt_eq g.0.who who) (key_eq g.0.key key) ((attempt_decides g.0.who who).1 (g.2 ∙ y.1)) ((key_decides g.0.key key).1 g.3))) ∙ n))

  module _ (rule : Rule) (by : Stamping rule) where
    commit_ends : (h : History) (who : Attempt) (number : Number) (woken : List Wake) → Obeys loaded rule (Commit who number woken ∷ h) → Ends flag loaded h (Commit who number woken ∷ h) who woken
    commit_ends h who number woken o =
        let k = known loaded rule h o.2 in
        let so = sound loaded rule h o.2 in
        let y = o.0.inside in
        record {
          all_grants = refl;
          all_waits = refl;
          unended = λ x u n i. ⊎_elim n u i;
          before = λ x u i. u (inr i);
          mine = o.0.unended;
          apart = λ a i e. k.opened a i (subst (λ z. IsIn z (closed h)) (y.2 ∙ sym e) (so.closes y.0 y.1));
          wrote = λ x key w. ⊎_elim (λ n. inr (sym w.3 ∙ ap (λ z. z.who) n)) (λ t. inl (w.0, w.1, t, w.3, w.4)) w.2;
          version = λ key v row x. ⊎_elim (λ l. inl l) (λ d. inr (d.0, inr d.1, d.2, d.3)) x;
          same = λ key n. wrote_none h who number key so n;
          is = o.1 ∙ by.commit h who number o.2;
        }

    abort_ends : (h : History) (who : Attempt) (woken : List Wake) → Obeys loaded rule (Abort who woken ∷ h) → Ends flag loaded h (Abort who woken ∷ h) who woken
    abort_ends h who woken o =
        record {
          all_grants = refl;
          all_waits = refl;
          unended = λ x u n i. ⊎_elim n u i;
          before = λ x u i. u (inr i);
          mine = o.0.unended;
          apart = λ a i e. o.0.nowhere a i e;
          wrote = λ x key w. inl w;
          version = λ key v row x. x;
          same = λ key n. refl;
          is = o.1 ∙ by.abort h who o.2;
        }

    asked_at : (h : History) → Traced h → (g : Grant) → IsIn g (grants h) → (x : Asked) × IsIn x (asks h) × (x.who ≡ g.who) × (x.stamp ≡ g.stamp)
    asked_at h t g i = let a = t.asked g i in (a.0, a.1, a.2, a.5)

    module _ (h : History) (who : Attempt) (stamp : ℕ) (key : Key) (mode : Mode) (o : Obeys loaded rule h) (ws : KeepsWakes h) (may : MayAsk loaded h who stamp key) (st : State flag loaded h) where
      abbrev mine : Asked
      mine = this who stamp key mode

      granted_state : (row : Row) (version : Number) (bound : ℕ) → Answered flag loaded h who stamp key mode (Granted row version bound) → State flag loaded (Ask who stamp key mode (Granted row version bound) ∷ h)
      granted_state row version bound a = record {
        version = λ g i r. ⊎_elim
            (λ (n : g ≡ new).
            let f = a.0 (subst (λ z. IsReading z.mode) n r) in
            subst (λ z. IsVersion loaded h z.key z.version z.row) (sym n)
            (subst (λ v. IsVersion loaded h key v row) (sym f.1) (subst (λ v. IsVersion loaded h key (below loaded h key stamp).number v) (sym f.0) (below_found loaded h key stamp may.here.0 (listed loaded rule h o) may.here.1))))
            (λ t. st.version g t r)
            i;
        under = λ g i r. ⊎_elim
            (λ (n : g ≡ new).
            let f = a.0 (subst (λ z. IsReading z.mode) n r) in
            subst (λ z. z.version.n < z.stamp) (sym n) (subst (λ v. v.n < stamp) (sym f.1) (below_under loaded h key stamp may.positive)))
            (λ t. st.under g t r)
            i;
        clean = λ s g i r w. ⊎_elim
            (λ (n : g ≡ new).
            let f = a.0 (subst (λ z. IsReading z.mode) n r) in
            subst (λ z. (s ≤ z.version.n) ⊎ (z.stamp ≤ s)) (sym n) (subst (λ v. (s ≤ v.n) ⊎ (stamp ≤ s)) (sym f.1) (sees s f.2 (subst (λ z. MayWrite (Ask who stamp key mode (Granted row version bound) ∷ h) z s) (ap (λ z. z.key) n) w))))
            (λ t. old s g t r w)
            i;
        reads = st.reads;
        stopped = λ b i.
            let c = st.stopped b i in
            let g = held_from h (grants h) c.0 c.1 in
            (c.0, subst (λ z. IsIn z (holders (Ask who stamp key mode (Granted row version bound) ∷ h))) (sym g.3) (in_held h (new ∷ grants h) g.0 (inr g.1) g.2), c.2);
      }
        where
          new : Grant
          new = record { who = who; stamp = stamp; key = key; mode = mode; row = row; version = version }

          sees : (s : ℕ) → ((b : Asked) → IsIn b (holders h) → stops flag loaded h (this who stamp key mode) b ≡ false) → MayWrite (Ask who stamp key mode (Granted row version bound) ∷ h) key s → (s ≤ (below loaded h key stamp).number.n) ⊎ (stamp ≤ s)
          sees s free w =
              ⊎_elim
              (λ c. let b = st.stopped c.0 c.1 in subst (λ z. (z ≤ (below loaded h key stamp).number.n) ⊎ (stamp ≤ z)) c.4 (over_waiting flag loaded h (this who stamp key mode) c.0 b.0 c.3 b.2 (free b.0 b.1)))
              (λ c. ⊎_elim
              (λ (n : c.0 ≡ new). inr (omega (arith, ap (λ z. z.stamp) n, c.4)))
              (λ t.
              let x = asked_at h (traced loaded rule h o ws) c.0 t in
              subst (λ z. (z ≤ (below loaded h key stamp).number.n) ⊎ (stamp ≤ z)) c.4
              (over_held flag loaded h (this who stamp key mode) c.0 x.0 (listed loaded rule h o) (marked loaded rule by.vote h o) c.2 c.3 x.1 x.2 x.3 (λ u. free (as_asked c.0) (in_held h (grants h) c.0 t u)) c.5))
              c.1)
              w

          old : (s : ℕ) (g : Grant) → IsIn g (grants h) → IsReading g.mode → MayWrite (Ask who stamp key mode (Granted row version bound) ∷ h) g.key s → (s ≤ g.version.n) ⊎ (g.stamp ≤ s)
          old s g i r w =
              ⊎_elim
              (λ c. st.clean s g i r (inl c))
              (λ c. ⊎_elim
              (λ (n : c.0 ≡ new).
              subst (λ z. (z ≤ g.version.n) ⊎ (g.stamp ≤ z)) (ap (λ z. z.stamp) (sym n) ∙ c.4) (a.1 (subst (λ z. IsWriting z.mode) n c.2) g i r (sym c.3 ∙ ap (λ z. z.key) n)))
              (λ t. st.clean s g i r (inr (c.0, t, c.2, c.3, c.4, c.5)))
              c.1)
              w

      waiting_state : Answered flag loaded h who stamp key mode Waits → State flag loaded (Ask who stamp key mode Waits ∷ h)
      waiting_state a = record {
        version = st.version;
        under = st.under;
        clean = λ s g i r w. ⊎_elim
            (λ c. ⊎_elim
            (λ (n : c.0 ≡ mine). subst (λ z. (z ≤ g.version.n) ⊎ (g.stamp ≤ z)) (ap (λ z. z.stamp) (sym n) ∙ c.4) (a.2 (subst (λ z. IsWriting z.mode) n c.2) g i r (sym c.3 ∙ ap (λ z. z.key) n)))
            (λ t. st.clean s g i r (inl (c.0, t, c.2, c.3, c.4)))
            c.1)
            (λ c. st.clean s g i r (inr c))
            w;
        reads = λ b i. ⊎_elim (λ n. subst (λ z. IsReading z.mode) (sym n) a.0) (λ t. st.reads b t) i;
        stopped = λ b i. ⊎_elim (λ n. (a.1.0, a.1.1, subst (λ z. stops flag loaded h z a.1.0 ≡ true) (sym n) a.1.2)) (λ t. st.stopped b t) i;
      }

      pub answer_state : (answer : Answer) → Answered flag loaded h who stamp key mode answer → State flag loaded (Ask who stamp key mode answer ∷ h)
      answer_state (Granted row version bound) a = granted_state row version bound a
      answer_state Waits a = waiting_state a
      answer_state (Refused cause) a = record { version = st.version; under = st.under; clean = st.clean; reads = st.reads; stopped = st.stopped }

    vote_state : (h : History) (who : Attempt) (bound : Bound) (writes appends : List Keyed) (vote : Vote) → Obeys loaded rule (Prepare who bound writes appends vote ∷ h) → State flag loaded h → State flag loaded (Prepare who bound writes appends vote ∷ h)
    vote_state h who bound writes appends (No cause) o st = record { version = st.version; under = st.under; clean = st.clean; reads = st.reads; stopped = st.stopped }
    vote_state h who bound writes appends (Yes lo hi) o st =
        let so = sound loaded rule h o.2 in
        record {
          version = λ g i r. ⊎_elim (λ l. inl l) (λ d. inr (d.0, d.1, d.2, (d.3.0, d.3.1, inr d.3.2, d.3.3))) (st.version g i r);
          under = st.under;
          clean = λ s g i r w. st.clean s g i r (⊎_elim
              (λ c. inl c)
              (λ c. inr (
                c.0,
                c.1,
                c.2,
                c.3,
                c.4,
                ⊎_elim
                    (λ u. inl u)
                    (λ d. ⊎_elim
                    (λ (n : d.4.0 ≡ record { who = who; lo = lo; hi = hi; writes = writes; appends = appends }).
                    absurd (o.0.unended (subst (λ z. IsIn z (ended h)) (sym d.4.1 ∙ ap (λ z. z.who) n) (so.ends d.0 d.2))))
                    (λ t. inr (d.0, d.1, d.2, d.3, (d.4.0, d.4.1, t, d.4.3)))
                    d.4.2)
                    c.5,
              ))
              w);
          reads = st.reads;
          stopped = st.stopped;
        }

    pub state : (h : History) → Obeys loaded rule h → KeepsWakes h → State flag loaded h
    state [] o ws = record { version = λ g i r. absurd i; under = λ g i r. absurd i; clean = λ s g i r w. absurd i; reads = λ a i. absurd i; stopped = λ a i. absurd i }
    state (Ask who stamp key mode answer ∷ h) o ws =
        let st = state h o.2 ws.1 in
        answer_state h who stamp key mode o.2 ws.1 o.0 st answer (subst (λ z. Answered flag loaded h who stamp key mode z) (sym o.1) (by.ask h who stamp key mode o.2 ws.1 o.0 st))
    state (Prepare who bound writes appends vote ∷ h) o ws = vote_state h who bound writes appends vote o (state h o.2 ws.1)
    state (Commit who number woken ∷ h) o ws =
        state_end flag loaded h (Commit who number woken ∷ h) who woken (commit_ends h who number woken o) (state h o.2 ws.1) (known loaded rule h o.2) (listed loaded rule (Commit who number woken ∷ h) o) (marked loaded rule by.vote (Commit who number woken ∷ h) o)
        (asked_at (Commit who number woken ∷ h) (traced loaded rule (Commit who number woken ∷ h) o ws)) (distinct_waits loaded rule h o.2)
    state (Abort who woken ∷ h) o ws =
        state_end flag loaded h (Abort who woken ∷ h) who woken (abort_ends h who woken o) (state h o.2 ws.1) (known loaded rule h o.2) (listed loaded rule (Abort who woken ∷ h) o) (marked loaded rule by.vote (Abort who woken ∷ h) o)
        (asked_at (Abort who woken ∷ h) (traced loaded rule (Abort who woken ∷ h) o ws)) (distinct_waits loaded rule h o.2)

    -- the vote [stamp, stamp] brings its facts
    pub fresh : VotesFresh loaded rule
    fresh h who bound writes appends lo hi o ws may law e =
        let st = state h o ws in
        let k = known loaded rule h o in
        let so = sound loaded rule h o in
        let t = traced loaded rule h o ws in
        let m = marked loaded rule by.vote h o in
        let v : Yes lo hi ≡ Yes (stamp_of (asks h) who) (stamp_of (asks h) who) = e ∙ by.vote h who bound writes appends in
        go h who bound writes appends lo hi o may st k so t m (cc) (cc)
      where
        go : (h : History) (who : Attempt) (bound : Bound) (writes appends : List Keyed) (lo hi : ℕ) → Obeys loaded rule h → MayPrepare h who bound writes appends → State flag loaded h → Known loaded h → Sound loaded h → Traced h → Marked h → lo ≡ stamp_of (asks h) who → hi ≡ stamp_of (asks h) who → Fresh loaded h who writes lo hi
        go h who bound writes appends lo hi o may st k so t m el eh = record {
          positive = let a = t.asked may.something.0 may.something.1 in omega (arith, k.positive a.0 a.1, lo_is a.0 a.1 (a.2 ∙ may.something.2));
          version = λ g i is r. st.version g i r;
          above = λ g i is r. omega (arith, st.under g i r, grant_is g i is);
          reads = λ g u lo_u hi_u row i is r n w x.
              let y = so.holds x.0 (record { key = g.key; row = row }) x.2 x.3 in
              let a = t.asked y.0 y.1 in
              let win = window_is loaded h k m u lo_u hi_u a.0 w a.1 (a.2 ∙ y.2 ∙ x.1) in
              let b = t.asked g i in
              let apart : a.0.stamp ≢ b.0.stamp = stamps_differ loaded h k m a.0 b.0 a.1 b.1 (λ z. n (sym (a.2 ∙ y.2 ∙ x.1) ∙ z ∙ b.2 ∙ is)) (λ z. not_aborted loaded h k m u lo_u hi_u w (subst (λ c. IsIn c (aborted h)) (a.2 ∙ y.2 ∙ x.1) z)) (λ z. may.unended (k.stops who (subst (λ c. IsIn c (aborted h)) (b.2 ∙ is) z))) in
              ⊎_elim
              (λ c. inl (omega (arith, c, a.5, win.1)))
              (λ c. inr (omega (arith, c, a.5, win.0, grant_is g i is, apart, b.5)))
              (st.clean y.0.stamp g i r (inr (y.0, y.1, y.4, y.3, refl, writer u lo_u hi_u g.key row y.0 w x (y.2 ∙ x.1))));
          written = λ g r lo_r hi_r w i is rd n win j key.
              let y = may.held w j in
              let a = t.asked y.0 y.1 in
              let b = t.asked g i in
              let wi = window_is loaded h k m r lo_r hi_r b.0 win b.1 (b.2 ∙ is) in
              let apart : a.0.stamp ≢ b.0.stamp = stamps_differ loaded h k m a.0 b.0 a.1 b.1 (λ z. n (sym (b.2 ∙ is) ∙ sym z ∙ a.2 ∙ y.2)) (λ z. may.unended (k.stops who (subst (λ c. IsIn c (aborted h)) (a.2 ∙ y.2) z))) (λ z. not_aborted loaded h k m r lo_r hi_r win (subst (λ c. IsIn c (aborted h)) (b.2 ∙ is) z)) in
              ⊎_elim
              (λ c. inl (omega (arith, c, grant_is y.0 y.1 y.2, el, eh)))
              (λ c. inr (omega (arith, c, grant_is y.0 y.1 y.2, a.5, b.5, wi.1, apart)))
              (st.clean y.0.stamp g i rd (inr (y.0, y.1, y.4, y.3 ∙ key, refl, inl (subst (λ z. IsUnended h z) (sym y.2) may.unended))));
          writers = λ u lo_u hi_u w row n win j x.
              let y = may.held w j in
              let z = so.holds x.0 (record { key = w.key; row = row }) x.2 x.3 in
              let a = t.asked y.0 y.1 in
              let b = t.asked z.0 z.1 in
              let wi = window_is loaded h k m u lo_u hi_u b.0 win b.1 (b.2 ∙ z.2 ∙ x.1) in
              let apart : a.0.stamp ≢ b.0.stamp = stamps_differ loaded h k m a.0 b.0 a.1 b.1 (λ q. n (sym (b.2 ∙ z.2 ∙ x.1) ∙ sym q ∙ a.2 ∙ y.2)) (λ q. may.unended (k.stops who (subst (λ c. IsIn c (aborted h)) (a.2 ∙ y.2) q))) (λ q. not_aborted loaded h k m u lo_u hi_u win (subst (λ c. IsIn c (aborted h)) (b.2 ∙ z.2 ∙ x.1) q)) in
              ⊎_elim
              (λ (c : a.0.stamp < b.0.stamp). inr (omega (arith, c, grant_is y.0 y.1 y.2, a.5, wi.0, el, eh)))
              (λ (c : b.0.stamp ≤ a.0.stamp). inl (omega (arith, c, grant_is y.0 y.1 y.2, a.5, wi.1, apart)))
              (cases_lt a.0.stamp b.0.stamp);
        }
          where
            lo_is : (a : Asked) → IsIn a (asks h) → a.who ≡ who → lo ≡ a.stamp
            lo_is a i e = el ∙ subst (λ z. stamp_of (asks h) z ≡ a.stamp) e (stamp_is (asks h) a k.stamp i)

            grant_is : (g : Grant) → IsIn g (grants h) → g.who ≡ who → lo ≡ g.stamp
            grant_is g i e = let a = t.asked g i in lo_is a.0 a.1 (a.2 ∙ e) ∙ a.5

            writer : (u : Attempt) (lo_u hi_u : ℕ) (key : Key) (row : Row) (y : Grant) → HasWindow h u lo_u hi_u → Writes h u key row → y.who ≡ u → IsUnended h y.who ⊎ HasWritten h y.who key
            writer u lo_u hi_u key row y w x is =
                ⊎_elim
                (λ d. inr (d.0, row, d.2, d.1 ∙ sym is, subst (λ z. Writes h z key row) (sym d.1) x))
                (λ c. inl (subst (λ z. IsUnended h z) (sym is) c.3))
                w

    pub windows_law : (h : History) → Obeys loaded rule h → KeepsWindows loaded h
    windows_law h o = windows loaded rule fresh h o (wakes_law rule by h o)

    pub waits_law : (h : History) → Obeys loaded rule h → WaitsForWriter h
    waits_law h o a i =
        let st = state h o (wakes_law rule by h o) in
        let b = st.stopped a i in
        let g = held_from h (grants h) b.0 b.1 in
        let f = stops_true loaded h flag a b.0 b.2 in
        (st.reads a i, (g.0, g.1, g.2, ap (λ z. z.key) (sym g.3) ∙ f.0, subst (λ z. IsWriting z.mode) g.3 f.1, subst (λ z. z.stamp < a.stamp) g.3 f.2))

    -- each waiter is stopped by one that holds
    pub stopped_law : (h : History) (a : Asked) → Obeys loaded rule h → IsIn a (waits h) → list_any (stops flag loaded h a) (holders h) ≡ true
    stopped_law h a o i =
        let b = (state h o (wakes_law rule by h o)).stopped a i in
        any_at (stops flag loaded h a) b.0 (holders h) b.1 b.2

    pub once_law : (h : History) → Obeys loaded rule h → WakesOnce h
    once_law h o = wakes_once loaded rule h o (wakes_law rule by h o)

    -- a waiter of a key that the attempt was not granted is still stopped after its end
    other_key : (h after : History) (who : Attempt) (a : Asked) → State flag loaded h → ◌≡◌ {A = List Version} (written after a.key) (written h a.key) → ((x : Attempt) → IsUnended h x → x ≢ who → IsUnended after x) → IsIn a (waits h) → holds h who a.key ≡ false → (b : Asked) × IsIn b (map as_asked (filter (λ (g : Grant). not (has_ended after g.who)) (grants h))) × (stops flag loaded after a b ≡ true)
    other_key h after who a st same unended i n =
        let b = st.stopped a i in
        let g = held_from h (grants h) b.0 b.1 in
        let key : g.0.key ≡ a.key = ap (λ z. z.key) (sym g.3) ∙ (stops_true loaded h flag a b.0 b.2).0 in
        let other : g.0.who ≢ who
        = λ s. true≢false (sym (any_at (λ (z : Grant). attempt_eq z.who who && key_eq z.key a.key) g.0 (grants h) g.1 (and_true (attempt_eq g.0.who who) (key_eq g.0.key a.key) ((attempt_decides g.0.who who).1 s) ((key_decides g.0.key a.key).1 key))) ∙ n) in
        (b.0, subst (λ z. IsIn z (map as_asked (filter (λ (x : Grant). not (has_ended after x.who)) (grants h)))) (sym g.3) (in_held after (grants h) g.0 g.1 (unended g.0.who g.2 other)), stops_same flag loaded flag h after a b.0 same ∙ b.2)

    pub commit_keys : (h : History) (who : Attempt) (number : Number) (a : Asked) → Obeys loaded rule h → IsIn a (waits h) → holds h who a.key ≡ false → list_any (stops flag loaded (Commit who number [] ∷ h) a) (holders (Commit who number [] ∷ h)) ≡ true
    commit_keys h who number a o i n =
        let b = other_key h (Commit who number [] ∷ h) who a (state h o (wakes_law rule by h o)) (wrote_none h who number a.key (sound loaded rule h o) n) (λ x u m j. ⊎_elim m u j) i n in
        any_at (stops flag loaded (Commit who number [] ∷ h) a) b.0 (holders (Commit who number [] ∷ h)) b.1 b.2

    pub abort_keys : (h : History) (who : Attempt) (a : Asked) → Obeys loaded rule h → IsIn a (waits h) → holds h who a.key ≡ false → list_any (stops flag loaded (Abort who [] ∷ h) a) (holders (Abort who [] ∷ h)) ≡ true
    abort_keys h who a o i n =
        let b = other_key h (Abort who [] ∷ h) who a (state h o (wakes_law rule by h o)) refl (λ x u m j. ⊎_elim m u j) i n in
        any_at (stops flag loaded (Abort who [] ∷ h) a) b.0 (holders (Abort who [] ∷ h)) b.1 b.2

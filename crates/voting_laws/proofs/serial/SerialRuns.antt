-- In a quiet run the decided lines give their reads and the last rows one at a time.
use Rattle.std.proofs.Common.{◌≡◌, ◌⊎◌, ℕ, ◌<◌, ◌≤◌, List, [], ◌∷◌, map, reverse, true, eqb, refl, sym, ap, ◌∙◌, subst, subst₂, inl, inr, ⊎_elim, arith, Some}
use Rattle.std.proofs.lemmas.Bool.Decides.{nat_tests}
use Rattle.deneva_base.specs.declared.keys.Key.{Key}
use Rattle.deneva_base.specs.declared.numbers.Attempt.{Attempt}
use Rattle.deneva_base.specs.declared.numbers.Number.{Number}
use Rattle.deneva_base.specs.declared.keys.Mode.{Mode}
use Rattle.deneva_base.specs.Lists.{IsIn}
use Rattle.deneva_base.specs.Rows.{Row}
use Rattle.deneva_base.specs.Modes.{IsReading}
use Rattle.deneva_base.specs.declared.rows.Keyed.{Keyed}
use Rattle.protocol_rules.specs.History.{History, Grant, Yea, grants, yeas, decided as decided_in, Writes}
use Rattle.protocol_rules.specs.Windows.{HasWindow, IsVersion, KeepsWindows}
use Rattle.protocol_rules.specs.Conditions.{Distinct}
use Rattle.deneva_base.proofs.Membership.{in_left, in_cases, in_filter, filter_in, in_map, in_map_from, and_true}
use Rattle.server_core.specs.declared.messages.Msg.{Msg}
use Rattle.server_core.specs.declared.messages.Msg.TheVariants.{Granted, Prepare, Commit, Done}
use Rattle.server_core.specs.declared.messages.Entry.{Entry}
use Rattle.server_core.specs.Setting.{Setting, home, loaded_at, participants}
use Rattle.tpcc_rules.specs.declared.effects.Effect.{Effect}
use Rattle.deneva_base.specs.Partitions.{partition_of}
use Rattle.server_core.specs.Coordinator.{at_part, effect_of, reads_of}
use Rattle.server_core.specs.Participant.{calls, mail_home}
use Rattle.server_core.specs.Voting.{says, opening}
use Rattle.server_core.specs.Received.{grants_for, started_for, all_closed}
use Rattle.server_core.specs.Effects.{written, appended, leaves}
use Rattle.server_core.specs.Proper.{Valid}
use Rattle.server_core.specs.Runs.{heard}
use Rattle.server_core.specs.VotingAtomic.{Everywhere, CommitsAgree}
use Rattle.server_core.specs.declared.outcomes.Decided.{Decided as Line}
use Rattle.server_core.specs.AttemptEnds.{at_home, dones_for, all_done, done_turn}
use Rattle.server_core.specs.Lines.{replies, line_of, line_if, lines}
use Rattle.server_core.proofs.serial.SerialWords.{txn_of, Txn, Wrote, Found, Agrees}
use Rattle.server_core.proofs.counts.Starts.{started_turn, turn_bound}
use Rattle.server_core.proofs.values.Origins.{started_ids}
use Rattle.server_core.proofs.values.Values.{key_there, same_mode, grant_made}
use Rattle.voting_laws.proofs.fits.Joins.{heard_decided, decided_heard, yea_heard, prepare_said}
use Rattle.server_core.proofs.values.Called.{obeys}
use Rattle.voting_laws.proofs.fits.Lands.{lands, handled_heard}
use Rattle.server_core.proofs.lists.Parts.{parts_in}
use Rattle.voting_laws.proofs.fits.Conditions.{loaded_there}
use Rattle.voting_laws.proofs.fits.Account.{Good, said_at}
use Rattle.voting_laws.proofs.fits.Every.{decided, atomic, everywhere}
use Rattle.server_core.proofs.values.Closed.{flat_in}
use Rattle.voting_laws.proofs.serial.Lines.{all_there, heard_done, done_turn_is, done_turn_some, came, read_came, done_said, Fact, facts}

module _ (s : Setting) (v : Valid s) (H : List Entry) (g : Good s H []) where
  at : CommitsAgree s H
  at = atomic s v H [] g

  every : Everywhere s H
  every = everywhere s v H [] g refl

  abbrev hist : ℕ → History
  hist p = calls s p (heard p H)

  abbrev part : Key → ℕ
  part k = partition_of k s.parts

  -- the line of a Commit that was handled
  pub complete : (a : Attempt) (n : Number) (p : ℕ) → IsIn (Commit a n) (heard p H) → (l : Line) × IsIn l (lines s H) × (l.number.id ≡ a.txn)
  complete a n p i =
      let d = (decided s v H [] g a n p i).0 in
      let low = started_turn s (home s a.txn) a (at_home s H a) (g.fit (home s a.txn)) d.0.0.0 in
      let high = turn_bound s (home s a.txn) a (at_home s H a) v.attempts (g.fit (home s a.txn)) d.0.0.0 in
      let ids = started_ids s (home s a.txn) a (at_home s H a) (g.fit (home s a.txn)) d.0.0.0 in
      let all : all_done s H a ≡ true = and_true (started_for a (at_home s H a)) (all_closed (dones_for a (at_home s H a)) (participants s a)) d.0.0.0 (all_there (dones_for a (at_home s H a)) (participants s a) (λ q j. done_at q j)) in
      let w = done_turn_some s H a.txn s.attempts a.turn low high all in
      let is = done_turn_is s H a.txn s.attempts w.0 w.1 in
      (line_of s H w.0, flat_in (λ x. line_if s H (done_turn s H x s.attempts)) s.ids a.txn (line_of s H w.0) ids (subst (λ o. IsIn (line_of s H w.0) (line_if s H o)) (sym w.1) (inl refl)), is.0)
    where
      done_at : (q : ℕ) → IsIn q (participants s a) → IsIn q (dones_for a (at_home s H a))
      done_at q j =
          let m = done_said s q a n (heard q H) (every a n p q i j) in
          ⊎_elim
          (λ f. absurd f)
          (λ h. heard_done a q (at_home s H a) (handled_heard H (mail_home s q a (Done a q)) h))
          (lands (says s) (opening s) H [] g.run q (mail_home s q a (Done a q)) m)

  -- its attempt and number are the line's
  pub same_commit : (l : Line) (f : Fact s v H [] g l) (a : Attempt) (n : Number) (p : ℕ) → l.number.id ≡ a.txn → IsIn (Commit a n) (heard p H) → (f.who ≡ a) × (l.number ≡ n)
  same_commit l f a n p e i = at.one f.who a l.number n f.place p (sym (ap (λ (z : Line). z.number.id) f.is) ∙ e) f.commit i

  pub participates : (a : Attempt) (key : Key) (mode : Mode) → IsIn (record { key = key; mode = mode }) (s.accesses a.txn) → IsIn (part key) (participants s a)
  participates a key mode i = parts_in s.parts key (s.accesses a.txn) v.parts (key_there key mode (s.accesses a.txn) i)

  committed : (l : Line) (f : Fact s v H [] g l) (q : ℕ) → IsIn q (participants s f.who) → IsIn (record { who = f.who; number = l.number }) (decided_in (hist q))
  committed l f q i = heard_decided s q (heard q H) f.who l.number (every f.who l.number f.place q f.commit i)

  window : (l : Line) (f : Fact s v H [] g l) (q : ℕ) → IsIn q (participants s f.who) → HasWindow (hist q) f.who l.number.n l.number.n
  window l f q i = inl (record { who = f.who; number = l.number }, refl, committed l f q i, refl, refl)

  law : (q : ℕ) → KeepsWindows (loaded_at s q) (hist q)
  law q = v.rule.windows (loaded_at s q) (hist q) (obeys s q (heard q H) (g.fit q))

  abbrev effect' : Attempt → Effect
  effect' a = effect_of s a.txn (replies s H a)

  -- what a Yes holds is the partition's part of the effect
  pub vote_holds : (a : Attempt) (q : ℕ) (y : Yea) → IsIn y (yeas (hist q)) → y.who ≡ a → (y.writes ≡ at_part s.parts q (written (effect' a))) × (y.appends ≡ at_part s.parts q (appended (effect' a)))
  vote_holds a q y i e =
      let m = yea_heard s q (heard q H) y i in
      let here : IsIn (Prepare a m.0 y.writes y.appends) (heard q H) = subst (λ z. IsIn (Prepare z m.0 y.writes y.appends) (heard q H)) e m.1 in
      let f = said_at s v H [] g a q (Prepare a m.0 y.writes y.appends) here (λ z w. absurd (cc (w))) in
      let p = prepare_said s v f.1 a (heard f.1 H) (g.fit f.1) f.0 m.0 y.writes y.appends f.2 f.4 in (
        p.2 ∙ ap (λ n. at_part s.parts n (written (effect_of s a.txn (reverse (grants_for a (heard f.1 H)))))) f.3 ∙ ap (λ n. at_part s.parts q (written (effect_of s a.txn (reverse (grants_for a (heard n H)))))) f.5.0,
        p.3 ∙ ap (λ n. at_part s.parts n (appended (effect_of s a.txn (reverse (grants_for a (heard f.1 H)))))) f.3 ∙ ap (λ n. at_part s.parts q (appended (effect_of s a.txn (reverse (grants_for a (heard n H)))))) f.5.0,
      )

  same : (n : ℕ) → eqb n n ≡ true
  same n = grind (arith, nat_tests)

  pub effect_is : (l : Line) (f : Fact s v H [] g l) → s.effect l.number.id l.reads ≡ effect' f.who
  effect_is l f = ap (λ (z : Line). s.effect z.number.id z.reads) f.is

  -- a row that a line wrote is in its vote where the key lives
  pub wrote_there : (l : Line) (f : Fact s v H [] g l) (key : Key) (row : Row) → IsIn (record { key = key; row = row }) (written (effect' f.who)) → Writes (hist (part key)) f.who key row × IsIn (part key) (participants s f.who)
  wrote_there l f key row i =
      let acc = v.writes f.who.txn (reads_of (s.accesses f.who.txn) (replies s H f.who)) (record { key = key; row = row }) i in
      let p = participates f.who key acc.0 acc.2 in
      let y = at.window f.who l.number f.place (part key) f.commit p in
      ((y.0, y.2, y.1, subst (IsIn (record { key = key; row = row })) (sym (vote_holds f.who (part key) y.0 y.1 y.2).0) (in_filter (λ (k : Keyed). eqb (partition_of k.key s.parts) (part key)) (record { key = key; row = row }) (written (effect' f.who)) i (same (part key)))), p)

  pub written_there : (a : Attempt) (q : ℕ) (key : Key) (row : Row) → Writes (hist q) a key row → IsIn (record { key = key; row = row }) (written (effect' a))
  written_there a q key row w = (filter_in (λ (k : Keyed). eqb (partition_of k.key s.parts) q) (record { key = key; row = row }) (written (effect' a)) (subst (IsIn (record { key = key; row = row })) (vote_holds a q w.0 w.2 w.1).0 w.3)).0

  -- a key that is read is none of the appended ones
  only_written : (l : Line) (f : Fact s v H [] g l) (key : Key) (row : Row) → key.table ≤ 4 → Wrote (txn_of s l) key row → IsIn (record { key = key; row = row }) (written (effect' f.who))
  only_written l f key row low w =
      ⊎_elim
      (λ i. i)
      (λ i. let a = v.appends f.who.txn (reads_of (s.accesses f.who.txn) (replies s H f.who)) (record { key = key; row = row }) i in absurd (omega (arith, a.0, low)))
      (in_cases (record { key = key; row = row }) (written (effect' f.who)) (appended (effect' f.who)) (subst (λ (e : Effect). IsIn (record { key = key; row = row }) (leaves e)) (effect_is l f) w))

  -- a read of a line was granted where the key lives
  pub record Held (l : Line) (f : Fact s v H [] g l) (r : Keyed) : Type 0 where
    pub grant : Grant
    pub here : IsIn grant (grants (hist (part r.key)))
    pub own : grant.who ≡ f.who
    pub key : grant.key ≡ r.key
    pub row : grant.row ≡ r.row
    pub reading : IsReading grant.mode
    pub part_in : IsIn (part r.key) (participants s f.who)
    pub table : r.key.table ≤ 4

  pub held : (l : Line) (f : Fact s v H [] g l) (r : Keyed) → IsIn r l.reads → Held l f r
  held l f r i =
      let ms : List Msg = at_home s H f.who in
      let c = read_came f.who ms (s.accesses f.who.txn) (replies s H f.who) r (came s (home s f.who.txn) f.who ms (g.fit (home s f.who.txn))) (subst (λ (z : Line). IsIn r z.reads) f.is i) in
      let m = said_at s v H [] g f.who (home s f.who.txn) (Granted f.who r.key r.row c.4.0 c.4.1) c.4.2 (λ y e. absurd (cc (e))) in
      let h = grant_made s v m.1 f.who r.key (heard m.1 H) (g.fit m.1) m.0 r.row c.4.0 c.4.1 m.2 m.4 in
      let acc : IsIn (record { key = r.key; mode = c.0.mode }) (s.accesses f.who.txn) = subst (λ (k : Key). IsIn (record { key = k; mode = c.0.mode }) (s.accesses f.who.txn)) c.3 c.1 in
      let md : h.0.mode ≡ c.0.mode = same_mode r.key h.0.mode c.0.mode (s.accesses f.who.txn) (v.keys f.who.txn r.key) h.4 acc in
      record {
        grant = h.0;
        here = subst (λ p. IsIn h.0 (grants (hist p))) (sym m.5.1) h.1;
        own = h.2;
        key = h.3;
        row = h.5;
        reading = subst IsReading (sym md) c.2;
        part_in = participates f.who r.key c.0.mode acc;
        table = v.tables f.who.txn (record { key = r.key; mode = c.0.mode }) acc;
      }

  module _ (ls : List Line) (into : (l : Line) → IsIn l ls → IsIn l (lines s H)) (onto : (l : Line) → IsIn l (lines s H) → IsIn l ls) where
    abbrev ts : List Txn
    ts = map (txn_of s) ls

    fact : (l : Line) → IsIn l ls → Fact s v H [] g l
    fact l i = facts s v H [] g l (into l i)

    -- two lines of one attempt have one number
    one_number : (l k : Line) (f : Fact s v H [] g l) (e : Fact s v H [] g k) → f.who ≡ e.who → l.number ≡ k.number
    one_number l k f e is = (at.one f.who e.who l.number k.number f.place e.place (ap (λ (z : Attempt). z.txn) is) f.commit e.commit).1

    found : (l : Line) (r : Keyed) → IsIn l ls → IsIn r l.reads → Found s.loaded ts (txn_of s l) r
    found l r i j =
        let f = fact l i in
        let h = held l f r j in
        let q : ℕ = part r.key in
        let w = window l f q h.part_in in
        let so = (law q).source f.who l.number.n l.number.n h.grant w h.here h.own h.reading in
        record {
          version = h.grant.version;
          source = source f h so.0;
          earlier = so.1;
          others = λ u row iu ne wr.
              let k = in_map_from (txn_of s) u ls iu in
              let e = fact k.0 k.1 in
              let wr' : Wrote (txn_of s k.0) r.key row = subst (λ (z : Txn). Wrote z r.key row) k.2 wr in
              let t = wrote_there k.0 e r.key row (only_written k.0 e r.key row h.table wr') in
              let un : u.number ≡ k.0.number = ap (λ (z : Txn). z.number) k.2 in
              subst (λ (z : Number). (z.n ≤ h.grant.version.n) ⊎ (l.number.n < z.n)) (sym un)
              ((law q).reads f.who l.number.n l.number.n h.grant e.who k.0.number.n k.0.number.n row w h.here h.own h.reading (λ is. ne (un ∙ one_number k.0 l e f is)) (window k.0 e q t.1) (subst (λ (x : Key). Writes (hist q) e.who x row) (sym h.key) t.0));
        }
      where
        source : (f : Fact s v H [] g l) (h : Held l f r) → IsVersion (loaded_at s (part r.key)) (hist (part r.key)) h.grant.key h.grant.version h.grant.row → ((h.grant.version.n ≡ 0) × (s.loaded r.key ≡ Some r.row)) ⊎ ((w : Txn) × IsIn w ts × (w.number ≡ h.grant.version) × Wrote w r.key r.row)
        source f h so =
            ⊎_elim
            (λ a. inl (ap (λ (z : Number). z.n) a.0, subst₂ (λ k x. s.loaded k ≡ Some x) h.key h.row (loaded_there s (part r.key) h.grant.key h.grant.row a.1)))
            (λ d.
            let m = decided_heard s (part r.key) (heard (part r.key) H) d.0 d.1 in
            let c = complete d.0.who d.0.number (part r.key) m in
            let e = fact c.0 (onto c.0 c.1) in
            let sc = same_commit c.0 e d.0.who d.0.number (part r.key) c.2 m in
            let wr : IsIn (record { key = h.grant.key; row = h.grant.row }) (written (effect' e.who)) = subst (λ a. IsIn (record { key = h.grant.key; row = h.grant.row }) (written (effect' a))) (sym sc.0) (written_there d.0.who (part r.key) h.grant.key h.grant.row d.3) in
            inr (
              txn_of s c.0,
              in_map (txn_of s) c.0 ls (onto c.0 c.1),
              sc.1 ∙ d.2,
              subst₂ (λ k x. Wrote (txn_of s c.0) k x) h.key h.row (subst (λ (z : Effect). IsIn (record { key = h.grant.key; row = h.grant.row }) (leaves z)) (sym (effect_is c.0 e)) (in_left (record { key = h.grant.key; row = h.grant.row }) (written (effect' e.who)) (appended (effect' e.who)) wr)),
            ))
            so

    -- the rows of one line: one for each key
    one_row' : (ws : List Keyed) (key : Key) (x y : Row) → Distinct ws → IsIn (record { key = key; row = x }) ws → IsIn (record { key = key; row = y }) ws → x ≡ y
    one_row' [] key x y d i j = absurd i
    one_row' (w ∷ ws) key x y d i j =
        ⊎_elim
        (λ (a : record { key = key; row = x } ≡ w).
        ⊎_elim
        (λ (b : record { key = key; row = y } ≡ w). ap (λ (z : Keyed). z.row) (a ∙ sym b))
        (λ k. absurd (d.0 (record { key = key; row = y }) k (ap (λ (z : Keyed). z.key) a)))
        j)
        (λ k. ⊎_elim
        (λ (b : record { key = key; row = y } ≡ w). absurd (d.0 (record { key = key; row = x }) k (ap (λ (z : Keyed). z.key) b)))
        (λ m. one_row' ws key x y d.1 k m)
        j)
        i

    pub one_row : (l : Line) (key : Key) (x y : Row) → IsIn l ls → Wrote (txn_of s l) key x → Wrote (txn_of s l) key y → x ≡ y
    one_row l key x y i wx wy =
        let f = fact l i in
        let rs = reads_of (s.accesses f.who.txn) (replies s H f.who) in
        let a = in_cases (record { key = key; row = x }) (written (effect' f.who)) (appended (effect' f.who)) (subst (λ (e : Effect). IsIn (record { key = key; row = x }) (leaves e)) (effect_is l f) wx) in
        let b = in_cases (record { key = key; row = y }) (written (effect' f.who)) (appended (effect' f.who)) (subst (λ (e : Effect). IsIn (record { key = key; row = y }) (leaves e)) (effect_is l f) wy) in
        let low : (z : Row) → IsIn (record { key = key; row = z }) (written (effect' f.who)) → key.table ≤ 4 = λ (z : Row) (k : IsIn (record { key = key; row = z }) (written (effect' f.who))). let c = v.writes f.who.txn rs (record { key = key; row = z }) k in v.tables f.who.txn (record { key = key; mode = c.0 }) c.2 in
        let high : (z : Row) → IsIn (record { key = key; row = z }) (appended (effect' f.who)) → 5 ≤ key.table = λ (z : Row) (k : IsIn (record { key = key; row = z }) (appended (effect' f.who))). (v.appends f.who.txn rs (record { key = key; row = z }) k).0 in
        ⊎_elim
        (λ i'. ⊎_elim (λ j'. one_row' (written (effect' f.who)) key x y (v.distinct f.who.txn rs) i' j') (λ j'. absurd (omega (arith, low x i', high y j'))) b)
        (λ i'. ⊎_elim (λ j'. absurd (omega (arith, low y j', high x i'))) (λ j'. one_row' (appended (effect' f.who)) key x y (v.distinct_appends f.who.txn rs) i' j') b)
        a

    pub run_agrees : Agrees s.loaded ts
    run_agrees = record {
      found = λ t r i j. let l = in_map_from (txn_of s) t ls i in subst (λ (z : Txn). Found s.loaded ts z r) (sym l.2) (found l.0 r l.1 (subst (λ (z : Txn). IsIn r z.reads) l.2 j));
      positive = λ t r u row i j k w.
          let l = in_map_from (txn_of s) t ls i in
          let h = held l.0 (fact l.0 l.1) r (subst (λ (z : Txn). IsIn r z.reads) l.2 j) in
          let m = in_map_from (txn_of s) u ls k in
          let e = fact m.0 m.1 in
          let t' = wrote_there m.0 e r.key row (only_written m.0 e r.key row h.table (subst (λ (z : Txn). Wrote z r.key row) m.2 w)) in
          subst (λ (z : Txn). 1 ≤ z.number.n) (sym m.2) ((law (part r.key)).positive e.who m.0.number.n m.0.number.n (window m.0 e (part r.key) t'.1));
      apart = λ t r u w x y i j k k' wx wy ne same_n.
          let l = in_map_from (txn_of s) t ls i in
          let h = held l.0 (fact l.0 l.1) r (subst (λ (z : Txn). IsIn r z.reads) l.2 j) in
          let a = in_map_from (txn_of s) u ls k in
          let b = in_map_from (txn_of s) w ls k' in
          let fa = fact a.0 a.1 in
          let fb = fact b.0 b.1 in
          let ta = wrote_there a.0 fa r.key x (only_written a.0 fa r.key x h.table (subst (λ (z : Txn). Wrote z r.key x) a.2 wx)) in
          let tb = wrote_there b.0 fb r.key y (only_written b.0 fb r.key y h.table (subst (λ (z : Txn). Wrote z r.key y) b.2 wy)) in
          let na : u.number ≡ a.0.number = ap (λ (z : Txn). z.number) a.2 in
          let nb : w.number ≡ b.0.number = ap (λ (z : Txn). z.number) b.2 in
          let o = (law (part r.key)).writers fa.who a.0.number.n a.0.number.n fb.who b.0.number.n b.0.number.n r.key x y (λ is. ne (na ∙ one_number a.0 b.0 fa fb is ∙ sym nb)) (window a.0 fa (part r.key) ta.1) (window b.0 fb (part r.key) tb.1) ta.0 tb.0 in
          let e : a.0.number.n ≡ b.0.number.n = sym (ap (λ (z : Number). z.n) na) ∙ same_n ∙ ap (λ (z : Number). z.n) nb in
          ⊎_elim (λ lt. omega (arith, lt, e)) (λ lt. omega (arith, lt, e)) o;
      one_row = λ t key x y i wx wy. let l = in_map_from (txn_of s) t ls i in one_row l.0 key x y l.1 (subst (λ (z : Txn). Wrote z key x) l.2 wx) (subst (λ (z : Txn). Wrote z key y) l.2 wy);
    }

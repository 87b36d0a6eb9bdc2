-- The outcome of a quiet run is that of the decided transactions one at a time.
use Rattle.std.proofs.Common.{◌≡◌, ◌≢◌, ℕ, suc, ◌+◌, ◌≤◌, List, [], ◌∷◌, ◌++◌, length, map, Bool, true, false, cond, eqb, refl, sym, ap, ◌∙◌, subst, subst₂, ap₂, inl, inr, ⊎_elim, arith, Option, Some, None}
use Rattle.std.specs.Prelude.{⊤}
use Rattle.std.specs.List.{flat_map}
use Rattle.std.proofs.lemmas.List.{length-reverse}
use Rattle.std.proofs.lemmas.Bool.Decides.{nat_tests, eqb_tells}
use Rattle.deneva_base.specs.declared.keys.Key.{Key}
use Rattle.deneva_base.specs.declared.numbers.TxnId.{TxnId}
use Rattle.deneva_base.specs.declared.numbers.Attempt.{Attempt}
use Rattle.deneva_base.specs.declared.numbers.Number.{Number}
use Rattle.deneva_base.specs.Lists.{IsIn}
use Rattle.deneva_base.specs.Rows.{Row, Rows, row_or_empty, put_rows}
use Rattle.deneva_base.specs.Keys.{NumberLt}
use Rattle.deneva_base.specs.Modes.{reads}
use Rattle.deneva_base.specs.declared.rows.Keyed.{Keyed}
use Rattle.deneva_base.proofs.Membership.{in_map, in_map_from, and_parts, attempt_tells}
use Rattle.server_core.specs.declared.messages.Msg.{Msg}
use Rattle.server_core.specs.declared.messages.Msg.TheVariants.{Ask, Commit, Undone}
use Rattle.server_core.specs.declared.messages.Mail.{Mail}
use Rattle.server_core.specs.declared.messages.Entry.{Entry}
use Rattle.server_core.specs.Setting.{Setting, home, partitions_of, take_first}
use Rattle.deneva_base.specs.declared.keys.Access.{Access}
use Rattle.server_core.specs.Received.{Reply, grants_for, refused_for, started_for, all_closed}
use Rattle.tpcc_rules.specs.declared.effects.Effect.{Effect}
use Rattle.deneva_base.specs.Partitions.{partition_of}
use Rattle.server_core.specs.Coordinator.{told, effect_of, reads_of}
use Rattle.server_core.specs.VotingFits.{AllFit, IsAborted, Decides}
use Rattle.server_core.specs.Proper.{Valid, ids_in}
use Rattle.server_core.specs.Runs.{heard}
use Rattle.server_core.specs.declared.outcomes.Decided.{Decided as Line}
use Rattle.server_core.specs.declared.outcomes.Giveup.{Giveup}
use Rattle.server_core.specs.AttemptEnds.{attempt, at_home, undones_for, all_done, all_undone, done_turn}
use Rattle.server_core.specs.Lines.{replies, line_of, line_if, lines, sort_lines, giveups_of}
use Rattle.server_core.specs.Outcome.{rows_of}
use Rattle.protocol_rules.specs.Leaving.{row_or}
use Rattle.server_core.specs.IsSerial.{ran, Rises}
use Rattle.server_core.proofs.serial.SerialWords.{read_from, run_one, leave, serial, rows_after, IsDecidedIn, IsGivenUpIn, Txn, after, Replays, Rising, Wrote, Agrees, IsLast, txn_of}
use Rattle.server_core.specs.Effects.{leaves}
use Rattle.server_core.proofs.values.Decisions.{aborted_more}
use Rattle.server_core.proofs.values.EarlierTurns.{not_both}
use Rattle.server_core.proofs.lists.Parts.{parts_in}
use Rattle.server_core.proofs.values.Values.{key_there}
use Rattle.server_core.proofs.values.Origins.{started_ids}
use Rattle.server_core.proofs.counts.Starts.{started_turn, turn_bound}
use Rattle.voting_laws.proofs.fits.Account.{Good}
use Rattle.voting_laws.proofs.fits.Every.{decided, aborted_before}
use Rattle.server_core.proofs.values.Closed.{in_flat, closed_there}
use Rattle.voting_laws.proofs.serial.Lines.{Fact, facts, done_turn_is}
use Rattle.server_core.proofs.serial.Serials.{replays, is_last}
use Rattle.voting_laws.proofs.serial.SerialRuns.{run_agrees}
use Rattle.server_core.proofs.serial.SortedLines.{sorted_in, in_sorted, AllApart, sorted_rises}
use Rattle.server_core.proofs.serial.GreatestWrites.{tops}

-- what is read from the map is what a line read
read_from_is : (rows : Rows) (as' : List Access) (rs : List Reply) → length rs ≡ length as' → ((r : Keyed) → IsIn r (reads_of as' rs) → rows r.key ≡ Some r.row) → read_from rows as' ≡ reads_of as' rs
read_from_is rows [] rs e h = refl
read_from_is rows (a ∷ as') [] e h = absurd (omega (arith, e))
read_from_is rows (a ∷ as') (r ∷ rs) e h = go (reads a.mode) h (read_from_is rows as' rs (omega (arith, e)))
  where
    go : (b : Bool) → ((q : Keyed) → IsIn q (cond b (record { key = a.key; row = r.row } ∷ reads_of as' rs) (reads_of as' rs)) → rows q.key ≡ Some q.row) → (((q : Keyed) → IsIn q (reads_of as' rs) → rows q.key ≡ Some q.row) → read_from rows as' ≡ reads_of as' rs) → cond b (record { key = a.key; row = row_or_empty (rows a.key) } ∷ read_from rows as') (read_from rows as') ≡ cond b (record { key = a.key; row = r.row } ∷ reads_of as' rs) (reads_of as' rs)
    go true h next = ap₂ (λ (x : Option Row) l. record { key = a.key; row = row_or_empty x } ∷ l) (h (record { key = a.key; row = r.row }) (inl refl)) (next (λ q i. h q (inr i)))
    go false h next = next h

module _ (s : Setting) (v : Valid s) (H : List Entry) (flight : List Mail) (g : Good s H flight) where
  all_came : (l : Line) (f : Fact s v H flight g l) → length (replies s H f.who) ≡ length (s.accesses f.who.txn)
  all_came l f = length-reverse (grants_for f.who (at_home s H f.who)) ∙ (decided s v H flight g f.who l.number f.place f.commit).0.0.0.2

  reads_at : (rows : Rows) (l : Line) → Fact s v H flight g l → ((r : Keyed) → IsIn r l.reads → rows r.key ≡ Some r.row) → read_from rows (s.accesses l.number.id) ≡ l.reads
  reads_at rows l f h =
      subst (λ (z : Line). read_from rows (s.accesses z.number.id) ≡ z.reads) (sym f.is)
      (read_from_is rows (s.accesses f.who.txn) (replies s H f.who) (all_came l f) (λ r i. h r (subst (λ (z : Line). IsIn r z.reads) (sym f.is) i)))

  one_ran : (rows : Rows) (l : Line) → Fact s v H flight g l → read_from rows (s.accesses l.number.id) ≡ l.reads → run_one s rows l.number.id ≡ ran l
  one_ran rows l f e =
      ap (λ rs. record { id = l.number.id; reads = rs; verdict = (s.effect l.number.id rs).verdict; answer = (s.effect l.number.id rs).answer }) e
      ∙ ap (λ (z : Effect). record { id = l.number.id; reads = l.reads; verdict = z.verdict; answer = z.answer }) (effect_is' l f)
      ∙ ap (λ (z : Line). record { id = l.number.id; reads = l.reads; verdict = z.verdict; answer = z.answer }) (sym f.is)
    where
      effect_is' : (l : Line) (f : Fact s v H flight g l) → s.effect l.number.id l.reads ≡ effect_of s f.who.txn (replies s H f.who)
      effect_is' l f = ap (λ (z : Line). s.effect z.number.id z.reads) f.is

  -- one after another each line reads what it read, and leaves its rows
  pub serial_is : (rows : Rows) (ls : List Line) → ((l : Line) → IsIn l ls → Fact s v H flight g l) → Replays rows (map (txn_of s) ls) → (serial s rows (map (λ l. l.number.id) ls) ≡ map ran ls) × (rows_after s rows (map (λ l. l.number.id) ls) ≡ after rows (map (txn_of s) ls))
  serial_is rows [] f r = (refl, refl)
  serial_is rows (l ∷ ls) f r =
      let e = reads_at rows l (f l (inl refl)) r.0 in
      let left : leave s rows l.number.id ≡ put_rows rows (txn_of s l).writes = ap (λ rs. put_rows rows (leaves (s.effect l.number.id rs))) e in
      let next = serial_is (put_rows rows (txn_of s l).writes) ls (λ k i. f k (inr i)) r.1 in
      (ap₂ (λ x xs. x ∷ xs) (one_ran rows l (f l (inl refl)) e) (ap (λ m. serial s m (map (λ l. l.number.id) ls)) left ∙ next.0), ap (λ m. rows_after s m (map (λ l. l.number.id) ls)) left ∙ next.1)

  -- the lines have different ids
  line_id : (x : TxnId) (n : ℕ) (l : Line) → IsIn l (line_if s H (done_turn s H x n)) → l.number.id ≡ x
  line_id x n l i = go (done_turn s H x n) (done_turn_is s H x n) i
    where
      go : (o : Option Attempt) → ((who : Attempt) → o ≡ Some who → (who.txn ≡ x) × (all_done s H who ≡ true)) → IsIn l (line_if s H o) → l.number.id ≡ x
      go None h j = absurd j
      go (Some who) h j = ⊎_elim (λ (e : l ≡ line_of s H who). ap (λ (z : Line). z.number.id) e ∙ (h who refl).0) (λ n. absurd n) j

  abbrev IdsApart : List Line → Type 0
  IdsApart [] = ⊤
  IdsApart (l ∷ ls) = ((k : Line) → IsIn k ls → k.number.id ≢ l.number.id) × IdsApart ls

  counted : (x : TxnId) (ys : List TxnId) → IsIn x ys → 1 ≤ ids_in x ys
  counted x [] i = absurd i
  counted x (y ∷ ys) i = ⊎_elim (λ (e : x ≡ y). let f : eqb y.0 x.0 ≡ true = subst (λ (z : TxnId). eqb z.0 x.0 ≡ true) e (same x.0) in rw f (omega arith)) (λ r. omega (arith, counted x ys r)) i
    where
      same : (n : ℕ) → eqb n n ≡ true
      same n = grind (arith, nat_tests)

  ids_apart : (xs : List TxnId) → ((x : TxnId) → ids_in x xs ≤ 1) → IdsApart (flat_map (λ x. line_if s H (done_turn s H x s.attempts)) xs)
  ids_apart [] one = tt
  ids_apart (x ∷ xs) one =
      front (line_if s H (done_turn s H x s.attempts)) (λ l i. line_id x s.attempts l i) (short (done_turn s H x s.attempts)) (ids_apart xs (λ y. omega (arith, one y)))
    where
      same : (n : ℕ) → eqb n n ≡ true
      same n = grind (arith, nat_tests)

      short : (o : Option Attempt) → length (line_if s H o) ≤ 1
      short None = omega arith
      short (Some who) = omega arith

      other : (k : Line) → IsIn k (flat_map (λ x. line_if s H (done_turn s H x s.attempts)) xs) → k.number.id ≢ x
      other k i e =
          let y = in_flat (λ x. line_if s H (done_turn s H x s.attempts)) xs k i in
          let is : y.0 ≡ x = sym (line_id y.0 s.attempts k y.2) ∙ e in
          let two : 1 ≤ ids_in x xs = counted x xs (subst (λ z. IsIn z xs) is y.1) in
          let o : cond (eqb x.0 x.0) 1 0 + ids_in x xs ≤ 1 = one x in
          let o' : 1 + ids_in x xs ≤ 1 = subst (λ b. cond b 1 0 + ids_in x xs ≤ 1) (same x.0) o in
          omega (arith, two, o')

      front : (fs : List Line) → ((l : Line) → IsIn l fs → l.number.id ≡ x) → length fs ≤ 1 → IdsApart (flat_map (λ x. line_if s H (done_turn s H x s.attempts)) xs) → IdsApart (fs ++ flat_map (λ x. line_if s H (done_turn s H x s.attempts)) xs)
      front [] h sh a = a
      front (l ∷ []) h sh a = ((λ k i e. other k i (e ∙ h l (inl refl))), a)
      front (l ∷ m ∷ fs) h sh a = absurd (omega (arith, sh))

  numbers_apart : (ls : List Line) → ((l : Line) → IsIn l ls → Fact s v H flight g l) → IdsApart ls → AllApart ls
  numbers_apart [] f a = tt
  numbers_apart (l ∷ ls) f a = ((λ k i e. a.0 k i (ap (λ (z : Number). z.id) e)), numbers_apart ls (λ k i. f k (inr i)) a.1)

  pub lines_rise : Rises (sort_lines (lines s H))
  lines_rise = sorted_rises (lines s H) (numbers_apart (lines s H) (facts s v H flight g) (ids_apart s.ids v.once))

rising_of : (s : Setting) (ls : List Line) → Rises ls → Rising (map (txn_of s) ls)
rising_of s [] r = tt
rising_of s (l ∷ ls) r = ((λ u i. let k = in_map_from (txn_of s) u ls i in subst (λ (z : Txn). NumberLt l.number z.number) (sym k.2) (r.0 k.0 k.1)), rising_of s ls r.1)

undone_aborted : (s : Setting) (p : ℕ) (who : Attempt) (q : ℕ) (ms : List Msg) → AllFit s p ms → IsIn (Undone who q) ms → IsAborted s ms who
undone_aborted s p who q [] fit i = absurd i
undone_aborted s p who q (Undone x part ∷ ms) fit i =
    aborted_more s p who (Undone x part) ms fit.0.0 fit.0.1
    (⊎_elim
    (λ (e : Undone who q ≡ Undone x part). let is : who ≡ x = cc in subst (IsAborted s ms) (sym is) fit.0.1.4)
    (λ r. undone_aborted s p who q ms fit.1 r)
    i)
undone_aborted s p who q (Ask x st k m ∷ ms) fit i = aborted_more s p who (Ask x st k m) ms fit.0.0 fit.0.1 (undone_aborted s p who q ms fit.1 (⊎_elim (λ e. absurd (cc (e))) (λ r. r) i))
undone_aborted s p who q (m ∷ ms) fit i = aborted_more s p who m ms fit.0.0 fit.0.1 (undone_aborted s p who q ms fit.1 (⊎_elim (λ e. absurd (cc (e))) (λ r. r) i))

pub undone_heard : (who : Attempt) (q : ℕ) (ms : List Msg) → IsIn q (undones_for who ms) → IsIn (Undone who q) ms
undone_heard who q [] i = absurd i
undone_heard who q (Undone x part ∷ ms) i =
    ⊎_elim
    (λ t. ⊎_elim (λ (is : q ≡ part). inl (subst₂ (λ y z. Undone y z ≡ Undone x part) t.1 (sym is) refl)) (λ r. inr (undone_heard who q ms r)) (rw t.0 at i))
    (λ t. inr (undone_heard who q ms (rw t.0 at i)))
    (attempt_tells x who)
undone_heard who q (m ∷ ms) i = inr (undone_heard who q ms i)

module _ (s : Setting) (v : Valid s) (H : List Entry) (flight : List Mail) (g : Good s H flight) where
  pub told_some : (who : Attempt) (ms : List Msg) → IsIn who.txn s.ids → (q : ℕ) × IsIn q (told s ms who)
  told_some who ms i = go (refused_for who ms) (s.accesses who.txn) (v.some who.txn i)
    where
      go : (b : Bool) (as' : List Access) → 1 ≤ length as' → (q : ℕ) × IsIn q (cond b (partitions_of s.parts (take_first (suc (length (grants_for who ms))) as')) (partitions_of s.parts as'))
      go b [] h = absurd (omega (arith, h))
      go true (a ∷ as') h = (partition_of a.key s.parts, parts_in s.parts a.key (a ∷ take_first (length (grants_for who ms)) as') v.parts (key_there a.key a.mode (a ∷ take_first (length (grants_for who ms)) as') (inl refl)))
      go false (a ∷ as') h = (partition_of a.key s.parts, parts_in s.parts a.key (a ∷ as') v.parts (key_there a.key a.mode (a ∷ as') (inl refl)))

  pub all_undone_aborted : (who : Attempt) → all_undone s H who ≡ true → IsAborted s (at_home s H who) who
  all_undone_aborted who e =
      let b = and_parts (started_for who (at_home s H who)) (all_closed (undones_for who (at_home s H who)) (told s (at_home s H who) who)) e in
      let q = told_some who (at_home s H who) (started_ids s (home s who.txn) who (at_home s H who) (g.fit (home s who.txn)) b.0) in
      undone_aborted s (home s who.txn) who q.0 (at_home s H who) (g.fit (home s who.txn)) (undone_heard who q.0 (at_home s H who) (closed_there (undones_for who (at_home s H who)) (told s (at_home s H who) who) q.0 b.1 q.1))

  -- an attempt of a transaction whose last attempt has all its Undone has no Commit
  pub commit_stays : (who : Attempt) (number : Number) (place : ℕ) → IsIn (Commit who number) (heard place H) → all_undone s H (attempt who.txn s.attempts) ≡ true → ⊥
  commit_stays who number place commit k =
      let x : TxnId = who.txn in
      let dec = (decided s v H flight g who number place commit).0 in
      let ms : List Msg = at_home s H (attempt x s.attempts) in
      let low = started_turn s (home s x) who ms (g.fit (home s x)) dec.0.0.0 in
      let high = turn_bound s (home s x) who ms v.attempts (g.fit (home s x)) dec.0.0.0 in
      let ab = all_undone_aborted (attempt x s.attempts) k in
      ⊎_elim
      (λ (t : (eqb who.turn s.attempts ≡ true) × (who.turn ≡ s.attempts)). not_both s ms (attempt x s.attempts) number ab (subst (λ n. Decides s ms (attempt x n) (Commit (attempt x n) number)) t.1 dec))
      (λ (t : (eqb who.turn s.attempts ≡ false) × (who.turn ≢ s.attempts)).
      not_both s ms who number
      (aborted_before s (home s x) x who.turn s.attempts ms (g.fit (home s x)) low (omega (arith, t.1, high)) (and_parts (started_for (attempt x s.attempts) ms) (all_closed (undones_for (attempt x s.attempts) ms) (told s ms (attempt x s.attempts))) k).0) dec)
      (eqb_tells who.turn s.attempts)

  -- no transaction is both decided and given up
  pub never_both : (x : TxnId) → IsDecidedIn (sort_lines (lines s H)) x → IsGivenUpIn (giveups_of s H) x → ⊥
  never_both x d u =
      let f = facts s v H flight g d.0 (sorted_in d.0 (lines s H) d.1) in
      let is : f.who.txn ≡ x = sym (ap (λ (z : Line). z.number.id) f.is) ∙ d.2 in
      commit_stays f.who d.0.number f.place f.commit (subst (λ z. all_undone s H (attempt z s.attempts) ≡ true) (sym is) (given u))
    where
      given : IsGivenUpIn (giveups_of s H) x → all_undone s H (attempt x s.attempts) ≡ true
      given u =
          let y = in_flat (λ x. cond (all_undone s H (attempt x s.attempts)) (record { id = x; turns = s.attempts } ∷ []) []) s.ids u.0 u.1 in
          go y.0 (all_undone s H (attempt y.0 s.attempts)) refl y.2
        where
          go : (y : TxnId) (b : Bool) → all_undone s H (attempt y s.attempts) ≡ b → IsIn u.0 (cond b (record { id = y; turns = s.attempts } ∷ []) []) → all_undone s H (attempt x s.attempts) ≡ true
          go y true e i = ⊎_elim (λ (f : u.0 ≡ record { id = y; turns = s.attempts }). subst (λ z. all_undone s H (attempt z s.attempts) ≡ true) (sym (ap (λ (z : Giveup). z.id) f) ∙ u.2) e) (λ n. absurd n) i
          go y false e i = absurd i

-- in a quiet run the outcome is serial, where all are decided or given up
module _ (s : Setting) (v : Valid s) (H : List Entry) (g : Good s H []) where
  abbrev sorted : List Line
  sorted = sort_lines (lines s H)

  facts' : (l : Line) → IsIn l sorted → Fact s v H [] g l
  facts' l i = facts s v H [] g l (sorted_in l (lines s H) i)

  agreed : Agrees s.loaded (map (txn_of s) sorted)
  agreed = run_agrees s v H g sorted (λ l i. sorted_in l (lines s H) i) (λ l i. in_sorted l (lines s H) i)

  rising' : Rising (map (txn_of s) sorted)
  rising' = rising_of s sorted (lines_rise s v H [] g)

  replayed : (serial s s.loaded (map (λ l. l.number.id) sorted) ≡ map ran sorted) × (rows_after s s.loaded (map (λ l. l.number.id) sorted) ≡ after s.loaded (map (txn_of s) sorted))
  replayed = serial_is s v H [] g s.loaded sorted facts' (replays s.loaded (map (txn_of s) sorted) agreed rising')

  after_rows : (ls : List Line) → ((l : Line) → IsIn l ls → IsIn l sorted) → ((l : Line) → IsIn l sorted → IsIn l ls) → (key : Key) → after s.loaded (map (txn_of s) sorted) key ≡ rows_of s ls key
  after_rows ls into onto key =
      ⊎_elim
      (λ n. last.untouched key (λ u x i w. let l = in_map_from (txn_of s) u sorted i in n.1 l.0 x (onto l.0 l.1) (subst (λ (z : Txn). Wrote z key x) l.2 w)) ∙ sym (ap (row_or (s.loaded key)) n.0))
      (λ t.
      last.written (txn_of s t.1.line) key t.0.row (in_map (txn_of s) t.1.line sorted (into t.1.line t.1.here)) t.1.wrote
      (λ u x i w lt. let l = in_map_from (txn_of s) u sorted i in t.1.most l.0 x (onto l.0 l.1) (subst (λ (z : Txn). Wrote z key x) l.2 w) (subst₂ NumberLt t.1.number (ap (λ (z : Txn). z.number) l.2) lt))
      ∙ sym (ap (row_or (s.loaded key)) t.1.is))
      (tops s key ls)
    where
      last : IsLast s.loaded (after s.loaded (map (txn_of s) sorted)) (map (txn_of s) sorted)
      last = is_last s.loaded (map (txn_of s) sorted) rising' agreed.one_row

  pub runs_same : serial s s.loaded (map (λ l. l.number.id) sorted) ≡ map ran sorted
  runs_same = replayed.0

  pub rows_same : (key : Key) → rows_after s s.loaded (map (λ l. l.number.id) sorted) key ≡ rows_of s sorted key
  rows_same key = ap (λ (m : Rows). m key) replayed.1 ∙ after_rows sorted (λ l i. i) (λ l i. i) key

  -- the order of the lines tells nothing of the last rows
  pub rows_sorted : (key : Key) → rows_of s (lines s H) key ≡ rows_of s sorted key
  rows_sorted key = sym (after_rows (lines s H) (λ l i. in_sorted l (lines s H) i) (λ l i. sorted_in l (lines s H) i) key) ∙ after_rows sorted (λ l i. i) (λ l i. i) key

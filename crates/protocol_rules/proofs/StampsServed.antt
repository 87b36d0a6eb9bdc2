-- TIMESTAMP and MVCC meet what runs ask of a rule.
use Rattle.std.proofs.Common.{◌≡◌, ℕ, ◌+◌, ◌≤◌, List, [], ◌∷◌, filter, Bool, true, false, cond, ◌&&◌, refl, sym, ap, ◌∙◌, subst, inl, inr, ⊎_elim, arith, ltb, leb, eqb, Option, Some, None}
use Rattle.std.specs.List.{list_any}
use Rattle.deneva_base.specs.declared.keys.Key.{Key}
use Rattle.deneva_base.specs.declared.numbers.Attempt.{Attempt}
use Rattle.deneva_base.specs.declared.numbers.Number.{Number}
use Rattle.deneva_base.specs.declared.keys.Mode.{Mode}
use Rattle.deneva_base.specs.Lists.{IsIn}
use Rattle.deneva_base.specs.Rows.{Row, Rows}
use Rattle.deneva_base.specs.Keys.{key_eq, attempt_eq, number_eq}
use Rattle.deneva_base.specs.Modes.{reads, writes}
use Rattle.deneva_base.specs.declared.causes.Cause.{Cause}
use Rattle.deneva_base.specs.declared.answers.Answer.{Answer}
use Rattle.deneva_base.specs.declared.answers.Answer.TheVariants.{Granted, Waits, Refused}
use Rattle.deneva_base.specs.declared.causes.Cause.TheVariants.{Written, ReadLater, Trimmed}
use Rattle.deneva_base.specs.declared.answers.Wake.{Wake}
use Rattle.protocol_rules.specs.History.{Ask, Prepare, Commit, Abort, History, Asked, Grant, Yea, asks, grants, waits, yeas, stamp_of}
use Rattle.protocol_rules.specs.Wakes.{KeepsWakes}
use Rattle.protocol_rules.specs.Conditions.{MayCommit, MayAbort}
use Rattle.protocol_rules.specs.Rules.{Rule, Obeys}
use Rattle.protocol_rules.specs.Latest.{Version, seen, row_for, writes_in}
use Rattle.protocol_rules.specs.Order.{by_rising_stamp}
use Rattle.deneva_base.specs.Lists.{sort}
use Rattle.deneva_base.proofs.Membership.{in_map_from, filter_in, in_cases}
use Rattle.protocol_rules.proofs.Sorts.{sort_in}
use Rattle.protocol_rules.proofs.Known.{Known, known}
use Rattle.protocol_rules.proofs.Traced.{traced}
use Rattle.protocol_rules.specs.Versions.{version_of, written, start, below}
use Rattle.protocol_rules.specs.Waiting.{this, holders, older_writer, granted_with, wake_of, goes, wakes}
use Rattle.protocol_rules.specs.Timestamp.{top_written, top_read, timestamp}
use Rattle.protocol_rules.specs.Mvcc.{versions, nth_greatest, floor, top_reader, writer_between, as_great, mvcc}
use Rattle.protocol_rules.proofs.Belows.{Listed, listed, below_cases, below_found, greatest_le}
use Rattle.protocol_rules.proofs.Stamping.{windows_law, waits_law, wakes_law}
use Rattle.protocol_rules.specs.Lawful.{Lawful}
use Rattle.protocol_rules.specs.Growth.{CauseUnder, AnswerUnder, HistoryUnder, WakesUnder, Grows}
use Rattle.protocol_rules.specs.Naming.{NamesKey, Naming}
use Rattle.protocol_rules.specs.Waits.{WaitsLaw, ForWriter}
use Rattle.protocol_rules.proofs.Sources.{RowOk, version_ok, sources, grants_row}
use Rattle.protocol_rules.proofs.NoWaitServed.{seen_under}
use Rattle.protocol_rules.proofs.WaitDieServed.{asked_under}
use Rattle.protocol_rules.proofs.Timestamps as T
use Rattle.protocol_rules.proofs.Mvccs as M
use Rattle.protocol_rules.specs.Served.{Served}

-- the version below a stamp has the number of a commit
written_under : (b : ℕ) (h : History) (key : Key) (v : Version) → HistoryUnder b h → IsIn v (written h key) → v.number.n ≤ b
written_under b [] key v u i = absurd i
written_under b (Ask who stamp k mode answer ∷ h) key v u i = written_under b h key v u.1 i
written_under b (Prepare who bound writes appends vote ∷ h) key v u i = written_under b h key v u.2 i
written_under b (Abort who woken ∷ h) key v u i = written_under b h key v u i
written_under b (Commit who number woken ∷ h) key v u i =
    ⊎_elim (λ a. one (row_for key (writes_in (yeas h) who)) a) (λ r. written_under b h key v u.1 r) (in_cases v (version_of number (row_for key (writes_in (yeas h) who))) (written h key) i)
  where
    one : (r : Option Row) → IsIn v (version_of number r) → v.number.n ≤ b
    one None a = absurd a
    one (Some row) a = ⊎_elim (λ (e : v ≡ record { number = number; row = row }). omega (arith, u.0, ap (λ (z : Version). z.number.n) e)) (λ n. absurd n) a

below_small : (loaded : Rows) (b : ℕ) (h : History) (key : Key) (stamp : ℕ) → HistoryUnder b h → (below loaded h key stamp).number.n ≤ b
below_small loaded b h key stamp u = ⊎_elim (λ e. subst (λ (z : Version). z.number.n ≤ b) (sym e) (omega arith)) (λ i. written_under b h key (below loaded h key stamp) u i.0) (below_cases loaded h key stamp)

stamp_small : (b : ℕ) (as' : List Asked) (who : Attempt) → ((a : Asked) → IsIn a as' → a.stamp ≤ b) → stamp_of as' who ≤ b
stamp_small b [] who h = omega arith
stamp_small b (a ∷ as') who h = go (attempt_eq a.who who) (stamp_small b as' who (λ x i. h x (inr i)))
  where
    go : (t : Bool) → stamp_of as' who ≤ b → cond t a.stamp (stamp_of as' who) ≤ b
    go true l = h a (inl refl)
    go false l = l

cond_small : (b n : ℕ) (t : Bool) → n ≤ b → cond t n 0 ≤ b
cond_small b n true h = h
cond_small b n false h = omega arith

module _ (loaded : Rows) where
  -- rows of the version below a stamp
  below_ok : (h h1 : History) (key : Key) (mode : Mode) (stamp : ℕ) (row : Row) → Listed loaded h1 → ((y : Yea) → IsIn y (yeas h1) → IsIn y (yeas h)) → loaded key ≡ Some row → RowOk loaded h key mode (seen mode (below loaded h1 key stamp)).row
  below_ok h h1 key mode stamp row l less e = version_ok loaded h h1 key mode (below loaded h1 key stamp) less (below_found loaded h1 key stamp row l e)

  woken_ok : (stops : Asked → Asked → Bool) (h h1 : History) (who : Attempt) (w : Wake) (a : Asked) → Known loaded h → Listed loaded h1 → ((y : Yea) → IsIn y (yeas h1) → IsIn y (yeas h)) → IsIn w (wakes loaded stops h h1 who) → IsIn a (waits h) → a.who ≡ w.who → RowOk loaded h a.key a.mode w.row
  woken_ok stops h h1 who w a k l less i j e =
      let ws : List Asked = filter (goes stops h h1 who) (waits h) in
      let b = in_map_from (wake_of loaded h1) w (sort by_rising_stamp ws) i in
      let there : IsIn b.0 (waits h) = (filter_in (goes stops h h1 who) b.0 (waits h) (sort_in by_rising_stamp b.0 ws b.1)).0 in
      let same : a ≡ b.0 = k.alone a b.0 j there (e ∙ ap (λ (z : Wake). z.who) b.2) in
      let here = k.here b.0 (k.asked b.0 there) in
      subst (λ (z : Asked). RowOk loaded h z.key z.mode w.row) (sym same)
      (subst (RowOk loaded h b.0.key b.0.mode) (sym (ap (λ (z : Wake). z.row) b.2)) (below_ok h h1 b.0.key b.0.mode b.0.stamp here.0 l less here.1))

  woken_under : (stops : Asked → Asked → Bool) (b : ℕ) (h h1 : History) (who : Attempt) → HistoryUnder b h1 → WakesUnder (b + 0) (wakes loaded stops h h1 who)
  woken_under stops b h h1 who u w i =
      let x = in_map_from (wake_of loaded h1) w (sort by_rising_stamp (filter (goes stops h h1 who) (waits h))) i in
      (omega (arith, ap (λ (z : Wake). z.version.n) x.2, seen_under b x.0.mode (below loaded h1 x.0.key x.0.stamp) (below_small loaded b h1 x.0.key x.0.stamp u)), omega (arith, ap (λ (z : Wake). z.bound) x.2))

-- a chain of tests that ends in a grant
three : (a b c : Bool) (x y : Cause) (v : Version) (row : Row) (version : Number) (bound : ℕ) → cond a (Refused x) (cond b (Refused y) (cond c Waits (granted_with v))) ≡ Granted row version bound → row ≡ v.row
three true b c x y v row version bound e = absurd (cc (e))
three false true c x y v row version bound e = absurd (cc (e))
three false false true x y v row version bound e = absurd (cc (e))
three false false false x y v row version bound e = sym (ap row_of e)
  where
    row_of : Answer → Row
    row_of (Granted r n b) = r
    row_of Waits = []
    row_of (Refused c) = []

refused_is : (a b c : Bool) (x y : Cause) (v : Version) (d : Cause) (P : Cause → Type 0) → P x → P y → cond a (Refused x) (cond b (Refused y) (cond c Waits (granted_with v))) ≡ Refused d → P d
refused_is true b c x y v d P px py e = let f : x ≡ d = cc in subst P f px
refused_is false true c x y v d P px py e = let f : y ≡ d = cc in subst P f py
refused_is false false true x y v d P px py e = absurd (cc (e))
refused_is false false false x y v d P px py e = absurd (cc (e))

three_under : (a b c : Bool) (x y : Cause) (v : Version) (t : ℕ) → CauseUnder t x → CauseUnder t y → v.number.n ≤ t → AnswerUnder t (cond a (Refused x) (cond b (Refused y) (cond c Waits (granted_with v))))
three_under true b c x y v t px py l = px
three_under false true c x y v t px py l = py
three_under false false true x y v t px py l = tt
three_under false false false x y v t px py l = (l, omega arith)

listed_commit : (loaded : Rows) (rule : Rule) (h : History) (who : Attempt) (number : Number) → Obeys loaded rule h → MayCommit h who number → Listed loaded (Commit who number [] ∷ h)
listed_commit loaded rule h who number o m = let l = listed loaded rule (Commit who number (rule.commit h who number) ∷ h) (m, refl, o) in record { of = l.of; all = l.all }

listed_abort : (loaded : Rows) (rule : Rule) (h : History) (who : Attempt) → Obeys loaded rule h → MayAbort h who → Listed loaded (Abort who [] ∷ h)
listed_abort loaded rule h who o m = let l = listed loaded rule (Abort who (rule.abort h who) ∷ h) (m, refl, o) in record { of = l.of; all = l.all }

-- stamps of readers
read_small : (loaded : Rows) (rule : Rule) (b : ℕ) (h : History) → Obeys loaded rule h → KeepsWakes h → HistoryUnder b h → (g : Grant) → IsIn g (grants h) → g.stamp ≤ b
read_small loaded rule b h o ws u g i = let a = (traced loaded rule h o ws).asked g i in omega (arith, asked_under b h a.0 u a.1, a.5)

pub timestamp_lawful : Lawful timestamp
timestamp_lawful = record {
  wakes = λ loaded h o. wakes_law false loaded (timestamp loaded) (T.stamping loaded) h o;
  windows = λ loaded h o. windows_law false loaded (timestamp loaded) (T.stamping loaded) h o;
  rows = λ loaded h g o i.
      grants_row loaded (timestamp loaded) h g
      (sources loaded (timestamp loaded)
      (λ h who stamp key mode row version bound o m e. subst (RowOk loaded h key mode) (sym (three (reads mode && ltb stamp (top_written h key)) (writes mode && ltb stamp (top_read h key)) (reads mode && list_any (older_writer (this who stamp key mode)) (holders h)) (Written key (top_written h key)) (ReadLater key (top_read h key)) (seen mode (below loaded h key stamp)) row version bound e)) (below_ok loaded h h key mode stamp m.here.0 (listed loaded (timestamp loaded) h o) (λ y j. j) m.here.1))
      (λ h who number w a o m i j e f. woken_ok loaded older_writer h (Commit who number [] ∷ h) who w a (known loaded (timestamp loaded) h o) (listed_commit loaded (timestamp loaded) h who number o m) (λ y k. k) i j e)
      (λ h who w a o m i j e f. woken_ok loaded older_writer h (Abort who [] ∷ h) who w a (known loaded (timestamp loaded) h o) (listed_abort loaded (timestamp loaded) h who o m) (λ y k. k) i j e)
      h o (wakes_law false loaded (timestamp loaded) (T.stamping loaded) h o) g i);
}

pub timestamp_naming : Naming timestamp
timestamp_naming = record {
  asks = λ loaded h who stamp key mode c e. refused_is (reads mode && ltb stamp (top_written h key)) (writes mode && ltb stamp (top_read h key)) (reads mode && list_any (older_writer (this who stamp key mode)) (holders h)) (Written key (top_written h key)) (ReadLater key (top_read h key)) (seen mode (below loaded h key stamp)) c (NamesKey key) refl refl e;
  votes = λ loaded h who bound writes appends c e. absurd (cc (e));
}

pub timestamp_waits : WaitsLaw timestamp
timestamp_waits = ForWriter (λ loaded h o. waits_law false loaded (timestamp loaded) (T.stamping loaded) h o)

pub timestamp_grows : Grows timestamp 0
timestamp_grows = record {
  ask = λ loaded h b who stamp key mode o u m l.
      let ws = wakes_law false loaded (timestamp loaded) (T.stamping loaded) h o in
      three_under (reads mode && ltb stamp (top_written h key)) (writes mode && ltb stamp (top_read h key)) (reads mode && list_any (older_writer (this who stamp key mode)) (holders h)) (Written key (top_written h key)) (ReadLater key (top_read h key)) (seen mode (below loaded h key stamp)) (b + 0)
      (omega (arith, greatest_le (λ (v : Version). v.number.n) b (written h key) (λ v i. written_under b h key v u i)))
      (omega (arith, greatest_le (λ (g : Grant). cond (key_eq g.key key && reads g.mode) g.stamp 0) b (grants h) (λ g i. cond_small b g.stamp (key_eq g.key key && reads g.mode) (read_small loaded (timestamp loaded) b h o ws u g i))))
      (omega (arith, seen_under b mode (below loaded h key stamp) (below_small loaded b h key stamp u)));
  vote = λ loaded h b who bound writes appends o u m l. omega (arith, stamp_small b (asks h) who (λ a i. asked_under b h a u i));
  commit = λ loaded h b who number o u m l. woken_under loaded older_writer b h (Commit who number [] ∷ h) who (l, u);
  abort = λ loaded h b who o u m. woken_under loaded older_writer b h (Abort who [] ∷ h) who u;
}

module _ (keep : ℕ) where
  pub mvcc_lawful : Lawful (mvcc keep)
  mvcc_lawful = record {
    wakes = λ loaded h o. wakes_law true loaded (mvcc keep loaded) (M.stamping keep loaded) h o;
    windows = λ loaded h o. windows_law true loaded (mvcc keep loaded) (M.stamping keep loaded) h o;
    rows = λ loaded h g o i.
        grants_row loaded (mvcc keep loaded) h g
        (sources loaded (mvcc keep loaded)
        (λ h who stamp key mode row version bound o m e. subst (RowOk loaded h key mode) (sym (three (ltb stamp (floor keep loaded h key)) (writes mode && ltb stamp (top_reader h key (below loaded h key stamp).number)) (reads mode && list_any (writer_between loaded h (this who stamp key mode)) (holders h)) (Trimmed key (floor keep loaded h key)) (ReadLater key (top_reader h key (below loaded h key stamp).number)) (seen mode (below loaded h key stamp)) row version bound e)) (below_ok loaded h h key mode stamp m.here.0 (listed loaded (mvcc keep loaded) h o) (λ y j. j) m.here.1))
        (λ h who number w a o m i j e f. woken_ok loaded (writer_between loaded (Commit who number [] ∷ h)) h (Commit who number [] ∷ h) who w a (known loaded (mvcc keep loaded) h o) (listed_commit loaded (mvcc keep loaded) h who number o m) (λ y k. k) i j e)
        (λ h who w a o m i j e f. woken_ok loaded (writer_between loaded (Abort who [] ∷ h)) h (Abort who [] ∷ h) who w a (known loaded (mvcc keep loaded) h o) (listed_abort loaded (mvcc keep loaded) h who o m) (λ y k. k) i j e)
        h o (wakes_law true loaded (mvcc keep loaded) (M.stamping keep loaded) h o) g i);
  }

  pub mvcc_naming : Naming (mvcc keep)
  mvcc_naming = record {
    asks = λ loaded h who stamp key mode c e. refused_is (ltb stamp (floor keep loaded h key)) (writes mode && ltb stamp (top_reader h key (below loaded h key stamp).number)) (reads mode && list_any (writer_between loaded h (this who stamp key mode)) (holders h)) (Trimmed key (floor keep loaded h key)) (ReadLater key (top_reader h key (below loaded h key stamp).number)) (seen mode (below loaded h key stamp)) c (NamesKey key) refl refl e;
    votes = λ loaded h who bound writes appends c e. absurd (cc (e));
  }

  pub mvcc_waits : WaitsLaw (mvcc keep)
  mvcc_waits = ForWriter (λ loaded h o. waits_law true loaded (mvcc keep loaded) (M.stamping keep loaded) h o)

  floor_small : (loaded : Rows) (b : ℕ) (h : History) (key : Key) → HistoryUnder b h → floor keep loaded h key ≤ b
  floor_small loaded b h key u = go (eqb keep 0)
    where
      top : nth_greatest keep (versions loaded h key) ≤ b
      top = greatest_le (λ (v : Version). cond (leb keep (as_great (versions loaded h key) v)) v.number.n 0) b (versions loaded h key) (λ v i. cond_small b v.number.n (leb keep (as_great (versions loaded h key) v)) (⊎_elim (λ (e : v ≡ start loaded key). subst (λ (z : Version). z.number.n ≤ b) (sym e) (omega arith)) (λ r. written_under b h key v u r) i))

      go : (t : Bool) → cond t 0 (nth_greatest keep (versions loaded h key)) ≤ b
      go true = omega arith
      go false = top

  pub mvcc_grows : Grows (mvcc keep) 0
  mvcc_grows = record {
    ask = λ loaded h b who stamp key mode o u m l.
        let ws = wakes_law true loaded (mvcc keep loaded) (M.stamping keep loaded) h o in
        three_under (ltb stamp (floor keep loaded h key)) (writes mode && ltb stamp (top_reader h key (below loaded h key stamp).number)) (reads mode && list_any (writer_between loaded h (this who stamp key mode)) (holders h)) (Trimmed key (floor keep loaded h key)) (ReadLater key (top_reader h key (below loaded h key stamp).number)) (seen mode (below loaded h key stamp)) (b + 0)
        (omega (arith, floor_small loaded b h key u))
        (omega (arith, greatest_le (λ (g : Grant). cond (key_eq g.key key && (reads g.mode && number_eq g.version (below loaded h key stamp).number)) g.stamp 0) b (grants h) (λ g i. cond_small b g.stamp (key_eq g.key key && (reads g.mode && number_eq g.version (below loaded h key stamp).number)) (read_small loaded (mvcc keep loaded) b h o ws u g i))))
        (omega (arith, seen_under b mode (below loaded h key stamp) (below_small loaded b h key stamp u)));
    vote = λ loaded h b who bound writes appends o u m l. omega (arith, stamp_small b (asks h) who (λ a i. asked_under b h a u i));
    commit = λ loaded h b who number o u m l. woken_under loaded (writer_between loaded (Commit who number [] ∷ h)) b h (Commit who number [] ∷ h) who (l, u);
    abort = λ loaded h b who o u m. woken_under loaded (writer_between loaded (Abort who [] ∷ h)) b h (Abort who [] ∷ h) who u;
  }

pub timestamp_served : Served timestamp
timestamp_served = record { lawful = timestamp_lawful; naming = timestamp_naming; waits = timestamp_waits; span = 0; short = omega arith; grows = timestamp_grows }

pub mvcc_served : (keep : ℕ) → Served (mvcc keep)
mvcc_served keep = record { lawful = mvcc_lawful keep; naming = mvcc_naming keep; waits = mvcc_waits keep; span = 0; short = omega arith; grows = mvcc_grows keep }

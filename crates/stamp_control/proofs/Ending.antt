-- The table tracks the history with one more Prepare, and with the end of an attempt that wakes nobody.
use Rattle.std.proofs.Common.{◌≡◌, ◌≢◌, ℕ, ◌-◌, ◌≤◌, List, [], ◌∷◌, ◌++◌, filter, Bool, true, false, cond, ltb, ◌&&◌, refl, sym, ap, ◌∙◌, subst, ⊎_elim, arith, true≢false, Option, Some, None, option_map}
use Rattle.deneva_base.specs.declared.keys.Key.{Key}
use Rattle.deneva_base.specs.declared.numbers.Attempt.{Attempt}
use Rattle.deneva_base.specs.declared.numbers.Number.{Number}
use Rattle.deneva_base.specs.declared.rows.Keyed.{Keyed}
use Rattle.deneva_base.specs.declared.causes.Bound.{Bound}
use Rattle.deneva_base.specs.declared.answers.Vote.TheVariants.{Yes}
use Rattle.protocol_rules.specs.Conditions.{MayPrepare, MayCommit, MayAbort, Distinct}
use Rattle.protocol_rules.specs.History.{Prepare, Commit, Abort, History, Asked, waits, yeas, IsUnended}
use Rattle.deneva_base.specs.Keys.{key_eq, number_lt}
use Rattle.protocol_rules.specs.Latest.{Version, row_for, writes_in, latest, newer, greater}
use Rattle.deneva_base.specs.Lists.{IsIn}
use Rattle.deneva_base.specs.Rows.{Row, Rows}
use Rattle.protocol_rules.specs.Timestamp.{top_read}
use Rattle.protocol_rules.specs.Versions.{version_of as written_as, written, start, greatest, below}
use Rattle.protocol_rules.proofs.Belows.{Listed}
use Rattle.protocol_rules.proofs.Known.{Known}
use Rattle.protocol_rules.proofs.Marks.{Marked}
use Rattle.protocol_rules.proofs.Sound.{Sound, row_found, writes_found}
use Rattle.protocol_rules.proofs.Traced.{Traced}
use Rattle.deneva_base.proofs.Membership.{any_at, in_cases, writing_decides}
use Rattle.row_store.specs.declared.versions.Version.{Version as StoredVersion}
use Rattle.control_core.specs.Leaving.{last}
use Rattle.stamp_lines.specs.declared.requests.Request.{Request}
use Rattle.stamp_lines.specs.Requests.{without}
use Rattle.stamp_lines.specs.Standing.{owner_of, waiter_of, Tracks as TracksAccesses}
use Rattle.stamp_lines.proofs.Asking.{same_tracks}
use Rattle.row_store.specs.Stores.{version_at}
use Rattle.shelf.specs.Shelves.{held}
use Rattle.shelf.specs.Keeps.{Apart, Closes}
use Rattle.shelf.proofs.Closing.{commit_closes, abort_closes}
use Rattle.shelf.proofs.Keeps.{committed_rows, aborted_rows}
use Rattle.stamp_lines.proofs.Ending.{prepared, requests_left, closed_tracks}
use Rattle.stamp_control.specs.declared.table.Table.{Table}
use Rattle.stamp_control.specs.Picks.{offer, pick}
use Rattle.stamp_control.specs.Pasts.{Kept, past_at, with_version}
use Rattle.stamp_control.specs.Changes.{writers_in, any_above, kept_by, kept_left, Promises, MayReserve, Ends}
use Rattle.shelf.specs.Keeps.{version_of}
use Rattle.stamp_control.specs.Standing.{State, state_of, IsPast, Tracks}
use Rattle.stamp_control.proofs.Counting.{writers_less, writers_one_less}
use Rattle.stamp_control.proofs.Histories.{commit_apart}
use Rattle.stamp_control.proofs.Keeping.{kept_once, kept_row}
use Rattle.stamp_control.proofs.Picks.{lt_irrefl, le_lt, lt_not, pick_more}

-- it votes Yes
pub prepared_tracks : (loaded : Rows) (h : History) (who : Attempt) (bound : Bound) (writes' appends : List Keyed) → MayPrepare h who bound writes' appends → (old new : Table) (lo hi : ℕ) → Promises who writes' appends old new → Tracks loaded (state_of old) h → Tracks loaded (state_of new) (Prepare who bound writes' appends (Yes lo hi) ∷ h)
prepared_tracks loaded h who bound writes' appends may old new lo hi c t =
    let s : State = state_of old in
    let pasts : (k : Key) → past_at new.pasts k ≡ past_at old.pasts k = λ k. ap (λ p. past_at p k) c.pasts in
    record {
      accesses = prepared loaded h who bound writes' appends may old.accesses new.accesses lo hi c.accesses t.accesses;
      read = λ k. ap (λ (p : Kept). p.read) (pasts k) ∙ t.read k;
      waited = λ a i. ap (λ (p : Kept). option_map version_of (pick a.stamp p.versions)) (pasts a.key) ∙ t.waited a i;
      kept = λ k v i. let p = t.kept k v (subst (λ (q : Kept). IsIn v q.versions) (pasts k) i) in record { not_later = p.not_later; same = p.same };
      writers = λ k. let w = t.writers k in let e = ap writers_in (c.accesses.lines k) in let p = ap (λ (q : Kept). q.spare) (pasts k) in omega (arith, w, e, p);
      there = λ a i. ap (λ (p : Kept). p.present) (pasts a.key) ∙ t.there a i;
    }

-- what is only reserved changes nothing that is tracked
pub reserved_tracks : (loaded : Rows) (h : History) (old new : Table) → MayReserve old new → Tracks loaded (state_of old) h → Tracks loaded (state_of new) h
reserved_tracks loaded h old new c t =
    let pasts : (k : Key) → past_at new.pasts k ≡ past_at old.pasts k = λ k. ap (λ p. past_at p k) c.pasts in
    record {
      accesses = same_tracks loaded h old.accesses new.accesses c.accesses t.accesses;
      read = λ k. ap (λ (p : Kept). p.read) (pasts k) ∙ t.read k;
      waited = λ a i. ap (λ (p : Kept). option_map version_of (pick a.stamp p.versions)) (pasts a.key) ∙ t.waited a i;
      kept = λ k v i. t.kept k v (subst (λ (q : Kept). IsIn v q.versions) (pasts k) i);
      writers = λ k. let w = t.writers k in let e = ap writers_in (c.accesses.lines k) in let p = ap (λ (q : Kept). q.spare) (pasts k) in omega (arith, w, e, p);
      there = λ a i. ap (λ (p : Kept). p.present) (pasts a.key) ∙ t.there a i;
    }

-- rows that are kept leave the rest
kept_rest : (number : Number) (ws : List Keyed) (rs : List Request) (k : Key) (p : Kept) → ((kept_by number ws rs k p).read ≡ p.read) × ((kept_by number ws rs k p).present ≡ p.present)
kept_rest number [] rs k p = (refl, refl)
kept_rest number (w ∷ ws) rs k p = go (key_eq w.key k && any_above number.n rs) (λ q. kept_rest number ws rs k q)
  where
    go : (b : Bool) → ((q : Kept) → ((kept_by number ws rs k q).read ≡ q.read) × ((kept_by number ws rs k q).present ≡ q.present)) → ((kept_by number ws rs k (cond b (with_version (record { number = number; row = w.row }) p) p)).read ≡ p.read) × ((kept_by number ws rs k (cond b (with_version (record { number = number; row = w.row }) p) p)).present ≡ p.present)
    go true rest = rest (with_version (record { number = number; row = w.row }) p)
    go false rest = rest p

left_rest : (number : Option Number) (ws : List Keyed) (rs : List Request) (k : Key) (p : Kept) → ((kept_left number ws rs k p).read ≡ p.read) × ((kept_left number ws rs k p).present ≡ p.present)
left_rest None ws rs k p = (refl, refl)
left_rest (Some number) ws rs k p = kept_rest number ws rs k p

-- what an end leaves of the versions that are kept of the keys
pub record Leaves (loaded : Rows) (h h' : History) (s s' : State) : Type 0 where
  pub tops : (k : Key) → top_read h' k ≡ top_read h k
  pub waited : (a : Asked) → IsIn a (waits h) → option_map version_of (pick a.stamp (s'.pasts a.key).versions) ≡ Some (below loaded h' a.key a.stamp)
  pub kept : (k : Key) (v : StoredVersion) → IsIn v (s'.pasts k).versions → IsPast loaded h' k v
  pub writers : (k : Key) → writers_in (s'.accesses.requests k) ≤ (s'.pasts k).spare
  pub versions : (k : Key) → option_map version_of (version_at s'.accesses.shelf.store k) ≡ last loaded h' k

pub end_tracks : (loaded : Rows) (h h' : History) (who : Attempt) (number : Option Number) → Apart (yeas h) → Closes h h' who → (old new : Table) → Ends who number old new → Leaves loaded h h' (state_of old) (state_of new) → Tracks loaded (state_of old) h → Tracks loaded (state_of new) h'
end_tracks loaded h h' who number apart c old new e l t =
    let s : State = state_of old in
    let s' : State = state_of new in
    let rest : (k : Key) → ((s'.pasts k).read ≡ (s.pasts k).read) × ((s'.pasts k).present ≡ (s.pasts k).present) = λ k. subst (λ (p : Kept). (p.read ≡ (s.pasts k).read) × (p.present ≡ (s.pasts k).present)) (sym (e.pasts k)) (left_rest number (held s.accesses.shelf who).copies (s'.accesses.requests k) k (s.pasts k)) in
    record {
      accesses = closed_tracks loaded h h' who number apart c old.accesses new.accesses t.accesses e.accesses l.versions;
      read = λ k. (rest k).0 ∙ t.read k ∙ sym (l.tops k);
      waited = λ a i. l.waited a (subst (λ x. IsIn a x) c.waits_same i);
      kept = l.kept;
      writers = l.writers;
      there = λ a i. (rest a.key).1 ∙ t.there a (subst (λ x. IsIn a x) c.waits_same i);
    }

module _ (loaded : Rows) (h : History) (apart : Apart (yeas h)) (who : Attempt) (may : MayAbort h who) (old new : Table) (e : Ends who None old new) (t : Tracks loaded (state_of old) h) where
  pub abort_leaves : Leaves loaded h (Abort who [] ∷ h) (state_of old) (state_of new)
  abort_leaves =
      let s : State = state_of old in
      let s' : State = state_of new in
      let left = requests_left loaded h (Abort who [] ∷ h) who None apart (abort_closes may) old.accesses new.accesses t.accesses e.accesses in
      record {
        tops = λ k. refl;
        waited = λ a i. ap (λ (p : Kept). option_map version_of (pick a.stamp p.versions)) (e.pasts a.key) ∙ t.waited a i;
        kept = λ k v i. let p = t.kept k v (subst (λ (q : Kept). IsIn v q.versions) (e.pasts k) i) in record { not_later = p.not_later; same = p.same };
        writers = λ k. let w = t.writers k in let n = ap writers_in (left k) in let less = writers_less who (s.accesses.requests k) in let p = ap (λ (q : Kept). q.spare) (e.pasts k) in omega (arith, w, n, less, p);
        versions = aborted_rows t.accesses.kept e.accesses.shelf;
      }

some_is : {A : Type 0} (x y : A) → Some x ≡ Some y → x ≡ y
some_is {A} x y e = ap get e
  where
    get : Option A → A
    get None = x
    get (Some z) = z

-- what is picked and what is below, with one more version
pub offered_below : (n : ℕ) (o : Option StoredVersion) (b : Version) (w : StoredVersion) → option_map version_of o ≡ Some b → option_map version_of (offer n o w) ≡ Some (cond (ltb w.number.n n) (greater b (version_of w)) b)
offered_below n None b w e = absurd (cc (e))
offered_below n (Some v) b w e = subst (λ (z : Version). option_map version_of (offer n (Some v) w) ≡ Some (cond (ltb w.number.n n) (greater z (version_of w)) z)) (some_is (version_of v) b e) (go (ltb w.number.n n) (number_lt v.number w.number))
  where
    go : (c d : Bool) → option_map version_of (cond (c && d) (Some w) (Some v)) ≡ Some (cond c (cond d (version_of w) (version_of v)) (version_of v))
    go true true = refl
    go true false = refl
    go false d = refl

pub below_more : (v : Version) (n : ℕ) (w : Version) (ws : List Version) → greatest v (filter (λ (x : Version). ltb x.number.n n) (w ∷ ws)) ≡ cond (ltb w.number.n n) (greater (greatest v (filter (λ (x : Version). ltb x.number.n n) ws)) w) (greatest v (filter (λ (x : Version). ltb x.number.n n) ws))
below_more v n w ws = go (ltb w.number.n n)
  where
    go : (b : Bool) → greatest v (cond b (w ∷ filter (λ (x : Version). ltb x.number.n n) ws) (filter (λ (x : Version). ltb x.number.n n) ws)) ≡ cond b (greater (greatest v (filter (λ (x : Version). ltb x.number.n n) ws)) w) (greatest v (filter (λ (x : Version). ltb x.number.n n) ws))
    go true = refl
    go false = refl

-- a version is no later than the latest, with one more
past_newer : (l : Version) (number : Number) (row : Row) (v : StoredVersion) → number_lt l.number v.number ≡ false → (v.number ≡ l.number → version_of v ≡ l) → (number_lt (newer l number (Some row)).number v.number ≡ false) × (v.number ≡ (newer l number (Some row)).number → version_of v ≡ newer l number (Some row))
past_newer l number row v n s = go (number_lt l.number number) refl
  where
    go : (b : Bool) → number_lt l.number number ≡ b → (number_lt (cond b (record { number = number; row = row }) l).number v.number ≡ false) × (v.number ≡ (cond b (record { number = number; row = row }) l).number → version_of v ≡ cond b (record { number = number; row = row }) l)
    go true e = (lt_not v.number number (le_lt v.number l.number number n e), λ x. absurd (true≢false (sym (ap (number_lt l.number) x ∙ e) ∙ n)))
    go false e = (n, s)

new_past : (l : Version) (number : Number) (row : Row) → number.n ≢ l.number.n → (number_lt (newer l number (Some row)).number number ≡ false) × (number ≡ (newer l number (Some row)).number → record { number = number; row = row } ≡ newer l number (Some row))
new_past l number row apart = go (number_lt l.number number) refl
  where
    go : (b : Bool) → number_lt l.number number ≡ b → (number_lt (cond b (record { number = number; row = row }) l).number number ≡ false) × (number ≡ (cond b (record { number = number; row = row }) l).number → record { number = number; row = row } ≡ cond b (record { number = number; row = row }) l)
    go true e = (lt_irrefl number, λ x. refl)
    go false e = (e, λ x. absurd (apart (ap (λ (n : Number). n.n) x)))

module _ (loaded : Rows) (h : History) (known : Known loaded h) (sound : Sound loaded h) (traced : Traced h) (marked : Marked h) (listed : Listed loaded h) (votes : Apart (yeas h)) (who : Attempt) (number : Number) (distinct : Distinct (writes_in (yeas h) who)) (may : MayCommit h who number) (old new : Table) (e : Ends who (Some number) old new) (t : Tracks loaded (state_of old) h) where
  abbrev c : Closes h (Commit who number [] ∷ h) who
  c = commit_closes known sound may

  abbrev s : State
  s = state_of old

  abbrev s' : State
  s' = state_of new

  abbrev ws : List Keyed
  ws = writes_in (yeas h) who

  abbrev made : Row → StoredVersion
  made row = record { number = number; row = row }

  versions : (k : Key) → option_map version_of (version_at new.accesses.shelf.store k) ≡ last loaded (Commit who number [] ∷ h) k
  versions = committed_rows t.accesses.kept may.unended e.accesses.shelf

  closed : TracksAccesses loaded s'.accesses (Commit who number [] ∷ h)
  closed = closed_tracks loaded h (Commit who number [] ∷ h) who (Some number) votes c old.accesses new.accesses t.accesses e.accesses versions

  -- what is kept of a key that is not written, and of one that is
  past_none : (k : Key) → row_for k ws ≡ None → s'.pasts k ≡ s.pasts k
  past_none k none = e.pasts k ∙ ap (λ l. kept_by number l (s'.accesses.requests k) k (s.pasts k)) (t.accesses.kept.rows who may.unended).1 ∙ kept_once number ws (s'.accesses.requests k) k (s.pasts k) none

  past_some : (k : Key) (row : Row) → row_for k ws ≡ Some row → s'.pasts k ≡ cond (any_above number.n (s'.accesses.requests k)) (with_version (record { number = number; row = row }) (s.pasts k)) (s.pasts k)
  past_some k row some = e.pasts k ∙ ap (λ l. kept_by number l (s'.accesses.requests k) k (s.pasts k)) (t.accesses.kept.rows who may.unended).1 ∙ kept_row number ws (s'.accesses.requests k) k (s.pasts k) row distinct some

  waits_on : (a : Asked) → IsIn a (waits h) → IsIn (waiter_of a) (s'.accesses.requests a.key)
  waits_on a i = closed.queued a (subst (λ l. IsIn a l) (sym c.waits_same) i)

  waited : (a : Asked) → IsIn a (waits h) → (r : Option Row) → row_for a.key ws ≡ r → option_map version_of (pick a.stamp (s'.pasts a.key).versions) ≡ Some (greatest (start loaded a.key) (filter (λ (v : Version). ltb v.number.n a.stamp) (written_as number r ++ written h a.key)))
  waited a i None none = ap (λ (p : Kept). option_map version_of (pick a.stamp p.versions)) (past_none a.key none) ∙ t.waited a i
  waited a i (Some row) some =
      ap (λ (p : Kept). option_map version_of (pick a.stamp p.versions)) (past_some a.key row some)
      ∙ go (any_above number.n (s'.accesses.requests a.key)) refl
      ∙ ap Some (sym (below_more (start loaded a.key) a.stamp (record { number = number; row = row }) (written h a.key)))
    where
      above : ltb number.n a.stamp ≡ true → any_above number.n (s'.accesses.requests a.key) ≡ true
      above l = any_at (λ (r : Request). r.waits && ltb number.n r.stamp) (waiter_of a) (s'.accesses.requests a.key) (waits_on a i) l

      apart : any_above number.n (s'.accesses.requests a.key) ≡ false → (b : Bool) → ltb number.n a.stamp ≡ b → b ≡ false
      apart n true l = absurd (true≢false (sym (above l) ∙ n))
      apart n false l = refl

      go : (b : Bool) → any_above number.n (s'.accesses.requests a.key) ≡ b → option_map version_of (pick a.stamp (cond b (with_version (record { number = number; row = row }) (s.pasts a.key)) (s.pasts a.key)).versions) ≡ Some (cond (ltb number.n a.stamp) (greater (below loaded h a.key a.stamp) (record { number = number; row = row })) (below loaded h a.key a.stamp))
      go true f =
          ap (option_map version_of) (pick_more a.stamp None (s.pasts a.key).versions (made row ∷ []))
          ∙ offered_below a.stamp (pick a.stamp (s.pasts a.key).versions) (below loaded h a.key a.stamp) (made row) (t.waited a i)
      go false f =
          t.waited a i ∙ sym (ap (λ b. Some (cond b (greater (below loaded h a.key a.stamp) (record { number = number; row = row })) (below loaded h a.key a.stamp))) (apart f (ltb number.n a.stamp) refl))

  kept : (k : Key) (v : StoredVersion) → IsIn v (s'.pasts k).versions → (r : Option Row) → row_for k ws ≡ r → (number_lt (newer (latest loaded h k) number r).number v.number ≡ false) × (v.number ≡ (newer (latest loaded h k) number r).number → version_of v ≡ newer (latest loaded h k) number r)
  kept k v i None none = let p = t.kept k v (subst (λ (q : Kept). IsIn v q.versions) (past_none k none) i) in (p.not_later, p.same)
  kept k v i (Some row) some = go (any_above number.n (s'.accesses.requests k)) (subst (λ (q : Kept). IsIn v q.versions) (past_some k row some) i)
    where
      old_one : IsIn v (s.pasts k).versions → (number_lt (newer (latest loaded h k) number (Some row)).number v.number ≡ false) × (v.number ≡ (newer (latest loaded h k) number (Some row)).number → version_of v ≡ newer (latest loaded h k) number (Some row))
      old_one j = let p = t.kept k v j in past_newer (latest loaded h k) number row v p.not_later p.same

      go : (b : Bool) → IsIn v (cond b (with_version (record { number = number; row = row }) (s.pasts k)) (s.pasts k)).versions → (number_lt (newer (latest loaded h k) number (Some row)).number v.number ≡ false) × (v.number ≡ (newer (latest loaded h k) number (Some row)).number → version_of v ≡ newer (latest loaded h k) number (Some row))
      go true j = ⊎_elim
          (λ x. old_one x)
          (λ x. ⊎_elim
          (λ y. subst (λ (z : StoredVersion). (number_lt (newer (latest loaded h k) number (Some row)).number z.number ≡ false) × (z.number ≡ (newer (latest loaded h k) number (Some row)).number → version_of z ≡ newer (latest loaded h k) number (Some row))) (sym y)
          (new_past (latest loaded h k) number row (commit_apart loaded h known sound traced marked listed who number may k row some)))
          (λ y. absurd y)
          x)
          (in_cases v (s.pasts k).versions (made row ∷ []) j)
      go false j = old_one j

  writers_left : (k : Key) → s'.accesses.requests k ≡ without who (s.accesses.requests k)
  writers_left k = requests_left loaded h (Commit who number [] ∷ h) who (Some number) votes c old.accesses new.accesses t.accesses e.accesses k

  writers : (k : Key) (r : Option Row) → row_for k ws ≡ r → writers_in (s'.accesses.requests k) ≤ (s'.pasts k).spare
  writers k None none =
      let w = t.writers k in
      let n = ap writers_in (writers_left k) in
      let less = writers_less who (s.accesses.requests k) in
      let p = ap (λ (q : Kept). q.spare) (past_none k none) in
      omega (arith, w, n, less, p)
  writers k (Some row) some =
      let y = writes_found (yeas h) who (record { key = k; row = row }) (row_found k ws row some) in
      let g = sound.holds y.0 (record { key = k; row = row }) y.2 y.3 in
      let mine : g.0.who ≡ who = g.2 ∙ y.1 in
      let there : IsIn (owner_of g.0) (s.accesses.requests k) = subst (λ z. IsIn (owner_of g.0) (s.accesses.requests z)) g.3 (t.accesses.owned g.0 g.1 (subst (λ z. IsUnended h z) (sym mine) may.unended)) in
      let one = writers_one_less who (owner_of g.0) (s.accesses.requests k) there mine ((writing_decides g.0.mode).1 g.4) in
      let w = t.writers k in
      let n = ap writers_in (writers_left k) in
      let p = ap (λ (q : Kept). q.spare) (past_some k row some) in
      let l = least (any_above number.n (s'.accesses.requests k)) in
      omega (arith, w, n, one, p, l)
    where
      least : (b : Bool) → (s.pasts k).spare - 1 ≤ (cond b (with_version (record { number = number; row = row }) (s.pasts k)) (s.pasts k)).spare
      least true = omega arith
      least false = omega arith

  pub commit_leaves : Leaves loaded h (Commit who number [] ∷ h) (state_of old) (state_of new)
  commit_leaves =
      record {
        tops = λ k. refl;
        waited = λ a i. waited a i (row_for a.key ws) refl;
        kept = λ k v i. let p = kept k v i (row_for k ws) refl in record { not_later = p.0; same = p.1 };
        writers = λ k. writers k (row_for k ws) refl;
        versions = versions;
      }

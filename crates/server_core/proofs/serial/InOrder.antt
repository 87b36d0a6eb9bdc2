-- The lines of an outcome stand in the order of a report.
use Rattle.std.proofs.Common.{◌≡◌, ◌⊎◌, ℕ, zero, suc, ◌+◌, ◌<◌, ◌≤◌, List, [], ◌∷◌, ◌++◌, map, Bool, ltb, true, false, cond, ◌&&◌, refl, sym, ap, ◌∙◌, subst, inl, inr, ⊎_elim, arith, Option, Some, None, append-nil}
use Rattle.std.specs.List.{flat_map}
use Rattle.std.proofs.lemmas.Bool.Decides.{nat_tests}
use Rattle.std.specs.Ordering.{is_lt}
use Rattle.std.proofs.lemmas.Bool.{and_parts, and_from}
use Rattle.std.proofs.lemmas.List.{map-append}
use Rattle.std.specs.Prelude.{⊤}
use Rattle.deneva_base.specs.Keys.{attempt_lt, key_cmp, number_lt, NumberLt}
use Rattle.deneva_base.specs.Lists.{IsIn}
use Rattle.deneva_base.specs.Rising.{keys_rise, rise_after}
use Rattle.deneva_base.specs.Rows.{row_or_empty, put_all, in_key_order}
use Rattle.deneva_base.specs.declared.causes.Cause.{Cause}
use Rattle.deneva_base.specs.declared.config.Config.{Config}
use Rattle.deneva_base.specs.declared.keys.Key.{Key}
use Rattle.deneva_base.specs.declared.numbers.Attempt.{Attempt}
use Rattle.deneva_base.specs.declared.numbers.TxnId.{TxnId}
use Rattle.deneva_base.specs.declared.rows.Keyed.{Keyed}
use Rattle.deneva_base.proofs.Membership.{in_cases, in_map_from, number_decides}
use Rattle.deneva_base.proofs.PutRows.{keys_rise-put_all}
use Rattle.txn_program.specs.Serial.{all_ids, ids_from}
use Rattle.txn_program.specs.declared.programs.Program.{Program}
use Rattle.txn_program.specs.declared.programs.Workload.{Workload}
use Rattle.server_core.specs.Aborts.{Refusal, aborts_of, apart_of, turns, abort_lines, vote_abort, line_at}
use Rattle.server_core.specs.Coordinator.{first_no, greatest_lo, least_hi}
use Rattle.server_core.specs.Received.{votes_for, started_for, all_voted}
use Rattle.server_core.specs.declared.ballots.Ballot.{Ballot}
use Rattle.server_core.specs.AttemptEnds.{attempt, at_home, all_undone}
use Rattle.server_core.specs.IsSerial.{Rises}
use Rattle.server_core.specs.Lines.{giveups_of}
use Rattle.server_core.specs.Outcome.{outcome_with, last_rows, left_by, rows_of}
use Rattle.server_core.specs.ReportOrder.{rise, rise_from, id_lt, InReportOrder}
use Rattle.server_core.specs.Setting.{Setting, setting, participants}
use Rattle.server_core.specs.declared.messages.Entry.{Entry}
use Rattle.server_core.specs.declared.outcomes.AbortLine.{AbortLine}
use Rattle.server_core.specs.declared.outcomes.Decided.{Decided}
use Rattle.server_core.specs.declared.outcomes.Giveup.{Giveup}
use Rattle.server_core.proofs.lists.ListTests.{flat_in}

-- each id is below all that follow
abbrev pub IdsRise : List TxnId → Type 0
IdsRise [] = ⊤
IdsRise (x ∷ xs) = ((y : TxnId) → IsIn y xs → x.0 < y.0) × IdsRise xs

-- each attempt is before all that follow, by id and then by turn
abbrev pub AttemptsRise : List Attempt → Type 0
AttemptsRise [] = ⊤
AttemptsRise (a ∷ as') = ((b : Attempt) → IsIn b as' → attempt_lt a b ≡ true) × AttemptsRise as'

ids_tested : (xs : List TxnId) → IdsRise xs → rise id_lt xs ≡ true
ids_tested [] r = refl
ids_tested (x ∷ xs) r = after x xs r.0 r.1
  where
    less : (a b : ℕ) → a < b → ltb a b ≡ true
    less a b h = grind (arith, nat_tests, h)

    after : (x : TxnId) (xs : List TxnId) → ((y : TxnId) → IsIn y xs → x.0 < y.0) → IdsRise xs → rise_from id_lt x xs ≡ true
    after x [] h r = refl
    after x (y ∷ ys) h r = and_from _ _ (less x.0 y.0 (h y (inl refl))) (after y ys r.0 r.1)

attempts_tested : (as' : List Attempt) → AttemptsRise as' → rise attempt_lt as' ≡ true
attempts_tested [] r = refl
attempts_tested (a ∷ as') r = after a as' r.0 r.1
  where
    after : (a : Attempt) (as' : List Attempt) → ((b : Attempt) → IsIn b as' → attempt_lt a b ≡ true) → AttemptsRise as' → rise_from attempt_lt a as' ≡ true
    after a [] h r = refl
    after a (b ∷ bs) h r = and_from _ _ (h b (inl refl)) (after b bs r.0 r.1)

pub numbers_tested : (ls : List Decided) → Rises ls → rise number_lt (map (λ (l : Decided). l.number) ls) ≡ true
numbers_tested [] r = refl
numbers_tested (l ∷ ls) r = after l ls r.0 r.1
  where
    after : (l : Decided) (ls : List Decided) → ((k : Decided) → IsIn k ls → NumberLt l.number k.number) → Rises ls → rise_from number_lt l.number (map (λ (k : Decided). k.number) ls) ≡ true
    after l [] h r = refl
    after l (k ∷ ks) h r = and_from _ _ ((number_decides l.number k.number).1 (h k (inl refl))) (after k ks r.0 r.1)

-- ids from n are n and more
from_low : (n : ℕ) (ps : List Program) (x : TxnId) → IsIn x (ids_from n ps) → n ≤ x.0
from_low n [] x i = absurd i
from_low n (p ∷ ps) x i = ⊎_elim (λ e. let same = ap (λ (y : TxnId). y.0) e in omega (arith, same)) (λ t. let l = from_low (n + 1) ps x t in omega (arith, l)) i

from_rise : (n : ℕ) (ps : List Program) → IdsRise (ids_from n ps)
from_rise n [] = tt
from_rise n (p ∷ ps) = ((λ y i. let l = from_low (n + 1) ps y i in omega (arith, l)), from_rise (n + 1) ps)

pub ids_rise : (w : Workload) → IdsRise (all_ids w)
ids_rise w = from_rise 1 w.programs

attempt_before : (a b : Attempt) → (a.txn.0 < b.txn.0) ⊎ ((a.txn.0 ≡ b.txn.0) × (a.turn < b.turn)) → attempt_lt a b ≡ true
attempt_before a b h = grind (arith, nat_tests, h)

module _ (s : Setting) (H : List Entry) where
  abbrev given : TxnId → List Giveup
  given x = cond (all_undone s H (attempt x s.attempts)) (record { id = x; turns = s.attempts } ∷ []) []

  given_id : (x : TxnId) (g : Giveup) → IsIn g (given x) → g.id ≡ x
  given_id x g i = go (all_undone s H (attempt x s.attempts)) i
    where
      go : (b : Bool) → IsIn g (cond b (record { id = x; turns = s.attempts } ∷ []) []) → g.id ≡ x
      go true j = ⊎_elim (λ e. ap (λ (z : Giveup). z.id) e) (λ n. absurd n) j
      go false j = absurd j

  giveups_rise : (xs : List TxnId) → IdsRise xs → IdsRise (map (λ (g : Giveup). g.id) (flat_map given xs))
  giveups_rise [] r = tt
  giveups_rise (x ∷ xs) r = go (all_undone s H (attempt x s.attempts)) (giveups_rise xs r.1)
    where
      below : (y : TxnId) → IsIn y (map (λ (g : Giveup). g.id) (flat_map given xs)) → x.0 < y.0
      below y i =
          let g = in_map_from (λ (g : Giveup). g.id) y (flat_map given xs) i in
          let z = flat_in given g.0 xs g.1 in
          r.0 y (subst (λ a. IsIn a xs) (sym (g.2 ∙ given_id z.0 g.0 z.2)) z.1)

      go : (b : Bool) → IdsRise (map (λ (g : Giveup). g.id) (flat_map given xs)) → IdsRise (map (λ (g : Giveup). g.id) (cond b (record { id = x; turns = s.attempts } ∷ []) [] ++ flat_map given xs))
      go true next = (below, next)
      go false next = next

  -- the lines of one attempt are one at most, and name it
  abbrev Names : Attempt → List AbortLine → Type 0
  Names who ls = (ls ≡ []) ⊎ ((l : AbortLine) × (ls ≡ l ∷ []) × (l.who ≡ who))

  line_names : (who : Attempt) (cause : Cause) (o : Option Entry) → Names who (line_at who cause o)
  line_names who cause None = inl refl
  line_names who cause (Some e) = inr (record { who = who; place = e.place; node = e.node; cause = cause }, refl, refl)

  maybe_names : (who : Attempt) (b : Bool) (ls : List AbortLine) → Names who ls → Names who (cond b ls [])
  maybe_names who true ls h = h
  maybe_names who false ls h = inl refl

  abbrev ballots : Attempt → List Ballot
  ballots who = votes_for who (at_home s H who)

  attempt_names : (who : Attempt) (o : Option Refusal) → Names who (abort_lines s H who o)
  attempt_names who (Some r) = line_names who r.cause _
  attempt_names who None = maybe_names who (started_for who (at_home s H who) && all_voted (ballots who) (participants s who)) (vote_abort s H who (ballots who) (first_no None (ballots who))) (votes (first_no None (ballots who)))
    where
      votes : (o : Option (ℕ × Cause)) → Names who (vote_abort s H who (ballots who) o)
      votes (Some c) = line_names who c.1 _
      votes None = maybe_names who (ltb (least_hi (ballots who)) (greatest_lo (ballots who))) (line_at who (apart_of (ballots who)) _) (line_names who (apart_of (ballots who)) _)

  abbrev who_of : AbortLine → Attempt
  who_of l = l.who

  append_rise : (as' bs : List Attempt) → AttemptsRise as' → AttemptsRise bs → ((a b : Attempt) → IsIn a as' → IsIn b bs → attempt_lt a b ≡ true) → AttemptsRise (as' ++ bs)
  append_rise [] bs r q h = q
  append_rise (a ∷ as') bs r q h = ((λ b i. ⊎_elim (λ j. r.0 b j) (λ j. h a b (inl refl) j) (in_cases b as' bs i)), append_rise as' bs r.1 q (λ c b i j. h c b (inr i) j))

  -- the turns of a transaction, and the last of them
  turn_of : (x : TxnId) (n : ℕ) (l : AbortLine) → IsIn l (turns s H x n) → (l.who.txn ≡ x) × (l.who.turn ≤ n)
  turn_of x zero l i = absurd i
  turn_of x (suc n) l i =
      ⊎_elim
      (λ j. let t = turn_of x n l j in (t.0, omega (arith, t.1)))
      (λ j. last (attempt_names (attempt x (suc n)) _) j)
      (in_cases l (turns s H x n) _ i)
    where
      last : {ls : List AbortLine} → Names (attempt x (suc n)) ls → IsIn l ls → (l.who.txn ≡ x) × (l.who.turn ≤ suc n)
      last {ls} (inl e) j = absurd (subst (λ z. IsIn l z) e j)
      last {ls} (inr h) j =
          ⊎_elim
          (λ (is : l ≡ h.0). let w = ap who_of is ∙ h.2 in (ap (λ (a : Attempt). a.txn) w, let t = ap (λ (a : Attempt). a.turn) w in omega (arith, t)))
          (λ n. absurd n)
          (subst (λ z. IsIn l z) h.1 j)

  turns_rise : (x : TxnId) (n : ℕ) → AttemptsRise (map who_of (turns s H x n))
  turns_rise x zero = tt
  turns_rise x (suc n) = subst AttemptsRise (sym (map-append who_of (turns s H x n) _)) (more (turns_rise x n) (attempt_names (attempt x (suc n)) _))
    where
      more : {ls : List AbortLine} → AttemptsRise (map who_of (turns s H x n)) → Names (attempt x (suc n)) ls → AttemptsRise (map who_of (turns s H x n) ++ map who_of ls)
      more {ls} rise (inl e) = subst (λ z. AttemptsRise (map who_of (turns s H x n) ++ map who_of z)) (sym e) (subst AttemptsRise (sym (append-nil (map who_of (turns s H x n)))) rise)
      more {ls} rise (inr h) =
          subst (λ z. AttemptsRise (map who_of (turns s H x n) ++ map who_of z)) (sym h.1)
          (append_rise (map who_of (turns s H x n)) (h.0.who ∷ []) rise ((λ b i. absurd i), tt) (λ a b i j. before a b i (⊎_elim (λ e. e ∙ h.2) (λ n. absurd n) j)))
        where
          before : (a b : Attempt) → IsIn a (map who_of (turns s H x n)) → b ≡ attempt x (suc n) → attempt_lt a b ≡ true
          before a b i e =
              let l = in_map_from who_of a (turns s H x n) i in
              let t = turn_of x n l.0 l.1 in
              let same : a.txn.0 ≡ b.txn.0 = ap (λ (z : Attempt). z.txn.0) l.2 ∙ ap (λ (z : TxnId). z.0) t.0 ∙ sym (ap (λ (z : Attempt). z.txn.0) e) in
              let low = ap (λ (z : Attempt). z.turn) l.2 in
              let high = ap (λ (z : Attempt). z.turn) e in
              attempt_before a b (inr (same, omega (arith, low, high, t.1)))

  aborts_rise : (xs : List TxnId) → IdsRise xs → AttemptsRise (map who_of (flat_map (λ x. turns s H x s.attempts) xs))
  aborts_rise [] r = tt
  aborts_rise (x ∷ xs) r =
      subst AttemptsRise (sym (map-append who_of (turns s H x s.attempts) (flat_map (λ y. turns s H y s.attempts) xs)))
      (append_rise (map who_of (turns s H x s.attempts)) (map who_of (flat_map (λ y. turns s H y s.attempts) xs)) (turns_rise x s.attempts) (aborts_rise xs r.1) apart)
    where
      apart : (a b : Attempt) → IsIn a (map who_of (turns s H x s.attempts)) → IsIn b (map who_of (flat_map (λ y. turns s H y s.attempts) xs)) → attempt_lt a b ≡ true
      apart a b i j =
          let l = in_map_from who_of a (turns s H x s.attempts) i in
          let k = in_map_from who_of b (flat_map (λ y. turns s H y s.attempts) xs) j in
          let z = flat_in (λ y. turns s H y s.attempts) k.0 xs k.1 in
          let t = turn_of x s.attempts l.0 l.1 in
          let u = turn_of z.0 s.attempts k.0 z.2 in
          let low : a.txn.0 ≡ x.0 = ap (λ (w : Attempt). w.txn.0) l.2 ∙ ap (λ (w : TxnId). w.0) t.0 in
          let high : b.txn.0 ≡ z.0.0 = ap (λ (w : Attempt). w.txn.0) k.2 ∙ ap (λ (w : TxnId). w.0) u.0 in
          let less = r.0 z.0 z.1 in
          attempt_before a b (inl (omega (arith, low, high, less)))

  -- new rows for the keys of others rise as those do
  rows_rise : (f : Key → Keyed) → ((k : Key) → (f k).key ≡ k) → (rs : List Keyed) → keys_rise rs ≡ true → keys_rise (map (λ (r : Keyed). f r.key) rs) ≡ true
  rows_rise f own [] e = refl
  rows_rise f own (r ∷ rs) e = subst (λ k. rise_after k (map (λ (q : Keyed). f q.key) rs) ≡ true) (sym (own r.key)) (after r.key rs e)
    where
      after : (k : Key) (qs : List Keyed) → rise_after k qs ≡ true → rise_after k (map (λ (q : Keyed). f q.key) qs) ≡ true
      after k [] e = refl
      after k (q ∷ qs) e =
          let b = and_parts _ _ e in
          subst (λ z. (is_lt (key_cmp k z) && rise_after z (map (λ (q : Keyed). f q.key) qs)) ≡ true) (sym (own q.key)) (and_from _ _ b.0 (after q.key qs b.1))

-- an outcome whose decided lines rise is in report order
module _ (c : Config) (w : Workload) (H : List Entry) (ls : List Decided) (rises : Rises ls) where
  abbrev s : Setting
  s = setting c w

  last_rise : keys_rise (last_rows s w.load.rows ls) ≡ true
  last_rise = rows_rise s H (λ k. record { key = k; row = row_or_empty (rows_of s ls k) }) (λ k. refl) (put_all (in_key_order w.load.rows) (flat_map (left_by s) ls)) (keys_rise-put_all (in_key_order w.load.rows) (flat_map (left_by s) ls) (keys_rise-put_all [] w.load.rows refl))

  pub voting_order : InReportOrder (outcome_with c w ls (giveups_of s H) (aborts_of s H))
  voting_order = record { decided = numbers_tested ls rises; giveups = ids_tested _ (giveups_rise s H s.ids (ids_rise w)); aborts = attempts_tested _ (aborts_rise s H s.ids (ids_rise w)); rows = last_rise }

  pub calvin_order : InReportOrder (outcome_with c w ls [] [])
  calvin_order = record { decided = numbers_tested ls rises; giveups = refl; aborts = refl; rows = last_rise }

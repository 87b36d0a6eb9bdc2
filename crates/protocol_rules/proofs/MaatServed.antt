-- MAAT meets what runs ask of a rule.
use Rattle.std.proofs.Common.{◌≡◌, ℕ, ◌+◌, ◌-◌, ◌≤◌, ◌<◌, min, [], ◌∷◌, ◌++◌, Bool, true, false, cond, leb, refl, ap, subst, ⊎_elim, arith}
use Rattle.std.proofs.lemmas.Bool.Decides.{nat_tests}
use Rattle.deneva_base.specs.declared.keys.Key.{Key}
use Rattle.deneva_base.specs.declared.numbers.Attempt.{Attempt}
use Rattle.deneva_base.specs.Lists.{IsIn}
use Rattle.deneva_base.specs.Rows.{Row, Rows}
use Rattle.deneva_base.specs.declared.causes.Cause.{Cause}
use Rattle.deneva_base.specs.declared.answers.Answer.{Answer}
use Rattle.deneva_base.specs.declared.answers.Answer.TheVariants.{Granted, Waits, Refused}
use Rattle.deneva_base.specs.declared.causes.Cause.TheVariants.{EmptyRange}
use Rattle.deneva_base.specs.declared.answers.Vote.{Vote}
use Rattle.deneva_base.specs.declared.answers.Vote.TheVariants.{Yes, No}
use Rattle.protocol_rules.specs.History.{Ask, Prepare, Commit, Abort, History, Yea, yea, yeas}
use Rattle.protocol_rules.specs.Rules.{Obeys}
use Rattle.protocol_rules.specs.Latest.{latest, seen}
use Rattle.protocol_rules.proofs.Sound.{sound}
use Rattle.protocol_rules.specs.Ranged.{low_of, low, high, lo_key, hi_by, bound_of}
use Rattle.protocol_rules.specs.Maat.{maat}
use Rattle.protocol_rules.proofs.Boundeds.{IsUnder, low_le, bound_step}
use Rattle.protocol_rules.proofs.Rangeds.{windows_law, waits_law, wakes_law}
use Rattle.protocol_rules.proofs.Maats.{window_yes, ranging}
use Rattle.protocol_rules.specs.Lawful.{Lawful}
use Rattle.protocol_rules.specs.Growth.{VoteUnder, HistoryUnder, Grows}
use Rattle.protocol_rules.specs.Naming.{NamesRange, Naming}
use Rattle.protocol_rules.specs.Waits.{WaitsLaw, Nothing}
use Rattle.protocol_rules.proofs.Sources.{RowOk, sources, grants_row}
use Rattle.protocol_rules.proofs.NoWaitServed.{latest_ok, latest_under, seen_under, decided_under}
use Rattle.protocol_rules.specs.Served.{Served}

module _ (span : ℕ) where
  pub lawful : Lawful (maat span)
  lawful = record {
    wakes = λ loaded h o. wakes_law loaded (maat span loaded) (ranging span loaded) h o;
    windows = λ loaded h o. windows_law loaded (maat span loaded) (ranging span loaded) h o;
    rows = λ loaded h g o i.
        grants_row loaded (maat span loaded) h g
        (sources loaded (maat span loaded)
        (λ h who stamp key mode row version bound o m e. subst (RowOk loaded h key mode) (ap row_of e) (latest_ok loaded h h key mode (sound loaded (maat span loaded) h o) (λ y j. j) m.here.0 m.here.1))
        (λ h who number w a o m i j e f. absurd i)
        (λ h who w a o m i j e f. absurd i)
        h o (wakes_law loaded (maat span loaded) (ranging span loaded) h o) g i);
  }
    where
      row_of : Answer → Row
      row_of (Granted r n b) = r
      row_of Waits = []
      row_of (Refused c) = []

  pub naming : Naming (maat span)
  naming = record {
    asks = λ loaded h who stamp key mode c e. absurd (cc (e));
    votes = λ loaded h who bound writes appends c e. go (leb (low h who bound writes) (high h who)) (lo_key h bound (low_of h who writes) (low h who bound writes)) (hi_by h who (high h who)) (low h who bound writes) (high h who) c e;
  }
    where
      go : (b : Bool) (key : Key) (by : Attempt) (l u : ℕ) (c : Cause) → cond b (Yes l (min u (l + span - 1))) (No (EmptyRange l key u by)) ≡ No c → NamesRange c
      go true key by l u c e = absurd (cc (e))
      go false key by l u c e = let f : EmptyRange l key u by ≡ c = cc in subst NamesRange f tt

  pub waits : WaitsLaw (maat span)
  waits = Nothing (λ loaded h o. waits_law loaded (maat span loaded) (ranging span loaded) h o)

  -- upper ends are a span above lower ends
  uppers : (loaded : Rows) (b : ℕ) (h : History) → Obeys loaded (maat span loaded) h → HistoryUnder b h → (y : Yea) → IsIn y (yeas h) → y.hi ≤ b + span
  uppers loaded b [] o u y i = absurd i
  uppers loaded b (Ask who stamp k mode answer ∷ h) o u y i = uppers loaded b h o.2 u.1 y i
  uppers loaded b (Commit who number woken ∷ h) o u y i = uppers loaded b h o.2 u.1 y i
  uppers loaded b (Abort who woken ∷ h) o u y i = uppers loaded b h o.2 u y i
  uppers loaded b (Prepare who bound writes appends vote ∷ h) o u y i = go vote o.1 u.1 i (uppers loaded b h o.2 u.2 y)
    where
      go : (v : Vote) → v ≡ (maat span loaded).vote h who bound writes appends → VoteUnder b v → IsIn y (yea who writes appends v ++ yeas h) → (IsIn y (yeas h) → y.hi ≤ b + span) → y.hi ≤ b + span
      go (No c) e w i next = next i
      go (Yes lo hi) e w i next =
          ⊎_elim
          (λ (is : y ≡ record { who = who; lo = lo; hi = hi; writes = writes; appends = appends }).
          let k = window_yes span (lo_key h bound (low_of h who writes) (low h who bound writes)) (hi_by h who (high h who)) (low h who bound writes) (high h who) lo hi e in
          omega (arith, ap (λ (z : Yea). z.hi) is, w, k.0, k.1))
          (λ r. next r)
          i

  is_under : (loaded : Rows) (b : ℕ) (h : History) → Obeys loaded (maat span loaded) h → HistoryUnder b h → IsUnder (b + span) h
  is_under loaded b h o u = record { numbers = λ d i. omega (arith, decided_under b h d u i); uppers = λ y i. uppers loaded b h o u y i }

  pub grows : Grows (maat span) (span + 1)
  grows = record {
    ask = λ loaded h b who stamp key mode o u m l. (
      omega (arith, seen_under b mode (latest loaded h key) (latest_under loaded b h key u)),
      omega (arith, bound_step loaded (maat span loaded) (ranging span loaded) (b + span) h o (is_under loaded b h o u) who stamp key mode (seen mode (latest loaded h key)).row (seen mode (latest loaded h key)).number (bound_of loaded h key mode) m refl),
    );
    vote = λ loaded h b who bound writes appends o u m l.
        go (leb (low h who bound writes) (high h who)) (low h who bound writes) (high h who) refl (lo_key h bound (low_of h who writes) (low h who bound writes)) (hi_by h who (high h who)) b
        (omega (arith, low_le loaded (maat span loaded) (ranging span loaded) (b + span) h o (is_under loaded b h o u) who bound writes (omega (arith, l))));
    commit = λ loaded h b who number o u m l w i. absurd i;
    abort = λ loaded h b who o u m w i. absurd i;
  }
    where
      go : (t : Bool) (n k : ℕ) → leb n k ≡ t → (key : Key) (by : Attempt) (b : ℕ) → n ≤ b + (span + 1) → VoteUnder (b + (span + 1)) (cond t (Yes n (min k (n + span - 1))) (No (EmptyRange n key k by)))
      go true n k e key by b l = l
      go false n k e key by b l = (l, omega (arith, l, over n k e))
        where
          over : (n k : ℕ) → leb n k ≡ false → k < n
          over n k e = grind (arith, nat_tests, e)

  pub served : span < 8192 → Served (maat span)
  served few = record { lawful = lawful; naming = naming; waits = waits; span = span + 1; short = omega (arith, few); grows = grows }

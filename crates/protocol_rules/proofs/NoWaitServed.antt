-- NO_WAIT meets what runs ask of a rule.
use Rattle.std.proofs.Common.{◌≡◌, ℕ, ◌+◌, ◌≤◌, max, List, [], ◌∷◌, Bool, true, false, cond, refl, sym, ap, subst, inl, inr, ⊎_elim, arith, Option, Some, None}
use Rattle.deneva_base.specs.declared.keys.Key.{Key}
use Rattle.deneva_base.specs.declared.numbers.Attempt.{Attempt}
use Rattle.deneva_base.specs.declared.numbers.Number.{Number}
use Rattle.deneva_base.specs.declared.keys.Mode.{Mode}
use Rattle.deneva_base.specs.declared.keys.Mode.TheVariants.{Read, Update, Put}
use Rattle.deneva_base.specs.Lists.{IsIn}
use Rattle.deneva_base.specs.Rows.{Row, Rows}
use Rattle.deneva_base.specs.Keys.{number_lt}
use Rattle.deneva_base.specs.declared.causes.Cause.{Cause}
use Rattle.deneva_base.specs.declared.answers.Answer.{Answer}
use Rattle.deneva_base.specs.declared.answers.Answer.TheVariants.{Granted, Waits, Refused}
use Rattle.deneva_base.specs.declared.causes.Cause.TheVariants.{Held}
use Rattle.protocol_rules.specs.History.{Ask, Prepare, Commit, Abort, History, Grant, Yea, Decided, decided, yeas}
use Rattle.protocol_rules.specs.Wakes.{KeepsWakes}
use Rattle.protocol_rules.specs.Rules.{Obeys}
use Rattle.protocol_rules.specs.Latest.{Version, latest, newer, seen, row_for, writes_in}
use Rattle.protocol_rules.specs.Locks.{blockers, met, greatest_met}
use Rattle.protocol_rules.specs.NoWait.{no_wait, held_or_granted}
use Rattle.protocol_rules.proofs.Sound.{Sound, sound}
use Rattle.protocol_rules.proofs.VoteLaws.{keeps_wakes}
use Rattle.protocol_rules.proofs.NoWaits.{no_wait_windows, no_wait_waits}
use Rattle.protocol_rules.specs.Lawful.{Lawful}
use Rattle.protocol_rules.specs.Growth.{AnswerUnder, HistoryUnder, Grows}
use Rattle.protocol_rules.specs.Naming.{NamesKey, Naming}
use Rattle.protocol_rules.specs.Waits.{WaitsLaw, Nothing}
use Rattle.protocol_rules.proofs.Sources.{RowOk, version_ok, sources, grants_row}
use Rattle.protocol_rules.specs.Served.{Served}

-- the latest is a version
pub latest_ok : (loaded : Rows) (h h' : History) (key : Key) (mode : Mode) → Sound loaded h' → ((y : Yea) → IsIn y (yeas h') → IsIn y (yeas h)) → (row : Row) → loaded key ≡ Some row → RowOk loaded h key mode (seen mode (latest loaded h' key)).row
latest_ok loaded h h' key mode s less row e = version_ok loaded h h' key mode (latest loaded h' key) less (s.found key row e)

-- and its number is that of a commit
pub latest_under : (loaded : Rows) (b : ℕ) (h : History) (key : Key) → HistoryUnder b h → (latest loaded h key).number.n ≤ b
latest_under loaded b [] key u = omega arith
latest_under loaded b (Ask who stamp k mode answer ∷ h) key u = latest_under loaded b h key u.1
latest_under loaded b (Prepare who bound writes appends vote ∷ h) key u = latest_under loaded b h key u.2
latest_under loaded b (Abort who woken ∷ h) key u = latest_under loaded b h key u
latest_under loaded b (Commit who number woken ∷ h) key u = go (row_for key (writes_in (yeas h) who)) (latest_under loaded b h key u.1)
  where
    go : (r : Option Row) → (latest loaded h key).number.n ≤ b → (newer (latest loaded h key) number r).number.n ≤ b
    go None l = l
    go (Some row) l = either (number_lt (latest loaded h key).number number)
      where
        either : (t : Bool) → (cond t (record { number = number; row = row }) (latest loaded h key)).number.n ≤ b
        either true = u.0
        either false = l

pub seen_under : (b : ℕ) (mode : Mode) (v : Version) → v.number.n ≤ b → (seen mode v).number.n ≤ b
seen_under b Read v h = h
seen_under b Update v h = h
seen_under b Put v h = omega arith

pub decided_under : (b : ℕ) (h : History) (d : Decided) → HistoryUnder b h → IsIn d (decided h) → d.number.n ≤ b
decided_under b [] d u i = absurd i
decided_under b (Ask who stamp k mode answer ∷ h) d u i = decided_under b h d u.1 i
decided_under b (Prepare who bound writes appends vote ∷ h) d u i = decided_under b h d u.2 i
decided_under b (Abort who woken ∷ h) d u i = decided_under b h d u i
decided_under b (Commit who number woken ∷ h) d u i = ⊎_elim (λ (e : d ≡ record { who = who; number = number }). omega (arith, u.0, ap (λ (z : Decided). z.number.n) e)) (λ r. decided_under b h d u.1 r) i

pub floor_under : (b : ℕ) (h : History) (who : Attempt) (ds : List Decided) → ((d : Decided) → IsIn d ds → d.number.n ≤ b) → greatest_met h who ds ≤ b
floor_under b h who [] f = omega arith
floor_under b h who (d ∷ ds) f = go (met h who d) (floor_under b h who ds (λ e i. f e (inr i)))
  where
    go : (t : Bool) → greatest_met h who ds ≤ b → max (cond t d.number.n 0) (greatest_met h who ds) ≤ b
    go true l = omega (arith, l, f d (inl refl))
    go false l = omega (arith, l)

answers : (key : Key) (bs : List Grant) (v : Version) (row : Row) (version : Number) (bound : ℕ) → held_or_granted key bs v ≡ Granted row version bound → row ≡ v.row
answers key [] v row version bound e = sym (ap row_of e)
  where
    row_of : Answer → Row
    row_of (Granted r n b) = r
    row_of Waits = []
    row_of (Refused c) = []
answers key (g ∷ bs) v row version bound e = absurd (cc (e))

module _ (loaded : Rows) where
  wakes : (h : History) → Obeys loaded (no_wait loaded) h → KeepsWakes h
  wakes h o = keeps_wakes loaded (no_wait loaded) (λ h who number o m. record { waited = λ w i. absurd i; once = tt }) (λ h who o m. record { waited = λ w i. absurd i; once = tt }) h o

pub lawful : Lawful no_wait
lawful = record {
  wakes = wakes;
  windows = no_wait_windows;
  rows = λ loaded h g o i.
      grants_row loaded (no_wait loaded) h g
      (sources loaded (no_wait loaded)
      (λ h who stamp key mode row version bound o m e. subst (RowOk loaded h key mode) (sym (answers key (blockers h (record { who = who; stamp = stamp; key = key; mode = mode })) (seen mode (latest loaded h key)) row version bound e)) (latest_ok loaded h h key mode (sound loaded (no_wait loaded) h o) (λ y j. j) m.here.0 m.here.1))
      (λ h who number w a o m i j e f. absurd i)
      (λ h who w a o m i j e f. absurd i)
      h o (wakes loaded h o) g i);
}

pub naming : Naming no_wait
naming = record {
  asks = λ loaded h who stamp key mode c e. go key (blockers h (record { who = who; stamp = stamp; key = key; mode = mode })) (seen mode (latest loaded h key)) c e;
  votes = λ loaded h who bound writes appends c e. absurd (cc (e));
}
  where
    go : (key : Key) (bs : List Grant) (v : Version) (c : Cause) → held_or_granted key bs v ≡ Refused c → NamesKey key c
    go key [] v c e = absurd (cc (e))
    go key (g ∷ bs) v c e = subst (NamesKey key) (ap cause_of e) refl
      where
        cause_of : Answer → Cause
        cause_of (Refused c) = c
        cause_of Waits = Held key (record { txn = record { 0 = 0 }; turn = 0 })
        cause_of (Granted r n b) = Held key (record { txn = record { 0 = 0 }; turn = 0 })

pub grows : Grows no_wait 1
grows = record {
  ask = λ loaded h b who stamp key mode o u m l. go b key (blockers h (record { who = who; stamp = stamp; key = key; mode = mode })) (seen mode (latest loaded h key)) (seen_under b mode (latest loaded h key) (latest_under loaded b h key u));
  vote = λ loaded h b who bound writes appends o u m l. omega (arith, floor_under b h who (decided h) (λ d i. decided_under b h d u i));
  commit = λ loaded h b who number o u m l w i. absurd i;
  abort = λ loaded h b who o u m w i. absurd i;
}
  where
    go : (b : ℕ) (key : Key) (bs : List Grant) (v : Version) → v.number.n ≤ b → AnswerUnder (b + 1) (held_or_granted key bs v)
    go b key [] v l = (omega (arith, l), omega arith)
    go b key (g ∷ bs) v l = tt

pub waits_law : WaitsLaw no_wait
waits_law = Nothing no_wait_waits

pub served : Served no_wait
served = record { lawful = lawful; naming = naming; waits = waits_law; span = 1; short = omega arith; grows = grows }

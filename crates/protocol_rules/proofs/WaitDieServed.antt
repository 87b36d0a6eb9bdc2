-- WAIT_DIE meets what runs ask of a rule.
use Rattle.std.proofs.Common.{◌≡◌, ℕ, ◌+◌, ◌≤◌, List, [], ◌∷◌, Bool, true, false, cond, refl, sym, ap, ◌∙◌, subst, inl, inr, ⊎_elim, arith, ltb}
use Rattle.deneva_base.specs.declared.keys.Key.{Key}
use Rattle.deneva_base.specs.declared.numbers.Number.{Number}
use Rattle.deneva_base.specs.Lists.{IsIn}
use Rattle.deneva_base.specs.Rows.{Row, Rows}
use Rattle.deneva_base.specs.Keys.{attempt_lt}
use Rattle.deneva_base.specs.declared.causes.Cause.{Cause}
use Rattle.deneva_base.specs.declared.answers.Answer.{Answer}
use Rattle.deneva_base.specs.declared.answers.Answer.TheVariants.{Granted, Waits, Refused}
use Rattle.deneva_base.specs.declared.causes.Cause.TheVariants.{Held}
use Rattle.deneva_base.specs.declared.answers.Wake.{Wake}
use Rattle.protocol_rules.specs.History.{Ask, Prepare, Commit, Abort, History, Asked, Grant, Yea, asks, waits, yeas, decided}
use Rattle.protocol_rules.specs.Latest.{Version, latest, seen}
use Rattle.protocol_rules.specs.Order.{by_falling_stamp}
use Rattle.deneva_base.specs.Lists.{sort}
use Rattle.protocol_rules.specs.Locks.{blockers, least}
use Rattle.protocol_rules.specs.WaitDie.{wait_die, elders, is_free, front, wake_of, wakes, younger_or}
use Rattle.deneva_base.proofs.Membership.{in_map_from, filter_in}
use Rattle.protocol_rules.proofs.Sorts.{sort_in}
use Rattle.protocol_rules.proofs.Sound.{Sound, sound, sound_more}
use Rattle.protocol_rules.proofs.Known.{Known, known, left_wait}
use Rattle.protocol_rules.proofs.Traced.{traced}
use Rattle.protocol_rules.proofs.Locks.{in_blockers}
use Rattle.protocol_rules.proofs.WaitDies.{front_in, wait_die_wakes, wait_die_windows, wait_die_waits}
use Rattle.protocol_rules.specs.Lawful.{Lawful}
use Rattle.protocol_rules.specs.Growth.{AnswerUnder, HistoryUnder, WakesUnder, Grows}
use Rattle.protocol_rules.specs.Naming.{NamesKey, Naming}
use Rattle.protocol_rules.specs.Waits.{WaitsLaw, ForYounger}
use Rattle.protocol_rules.proofs.Sources.{RowOk, sources, grants_row}
use Rattle.protocol_rules.proofs.NoWaitServed.{latest_ok, latest_under, seen_under, decided_under, floor_under}
use Rattle.protocol_rules.specs.Served.{Served}

-- stamps that were asked with
pub asked_under : (b : ℕ) (h : History) (a : Asked) → HistoryUnder b h → IsIn a (asks h) → a.stamp ≤ b
asked_under b [] a u i = absurd i
asked_under b (Ask who stamp k mode answer ∷ h) a u i = ⊎_elim (λ (e : a ≡ record { who = who; stamp = stamp; key = k; mode = mode }). omega (arith, u.0, ap (λ (z : Asked). z.stamp) e)) (λ r. asked_under b h a u.1 r) i
asked_under b (Prepare who bound writes appends vote ∷ h) a u i = asked_under b h a u.2 i
asked_under b (Commit who number woken ∷ h) a u i = asked_under b h a u.1 i
asked_under b (Abort who woken ∷ h) a u i = asked_under b h a u i

answers : (key : Key) (bs : List Grant) (f : Bool) (v : Version) (row : Row) (version : Number) (bound : ℕ) → younger_or key bs f v ≡ Granted row version bound → row ≡ v.row
answers key [] true v row version bound e = sym (ap row_of e)
  where
    row_of : Answer → Row
    row_of (Granted r n b) = r
    row_of Waits = []
    row_of (Refused c) = []
answers key [] false v row version bound e = absurd (cc (e))
answers key (g ∷ bs) f v row version bound e = absurd (cc (e))

least_in : (g : Grant) (gs : List Grant) → IsIn (least g gs) (g ∷ gs)
least_in g [] = inl refl
least_in g (x ∷ xs) = go (attempt_lt x.who g.who) (least_in x xs) (least_in g xs)
  where
    go : (t : Bool) → IsIn (least x xs) (x ∷ xs) → IsIn (least g xs) (g ∷ xs) → IsIn (least (cond t x g) xs) (g ∷ x ∷ xs)
    go true a b = ⊎_elim (λ e. inr (inl e)) (λ r. inr (inr r)) a
    go false a b = ⊎_elim (λ e. inl e) (λ r. inr (inr r)) b

module _ (loaded : Rows) where
  -- a wake by the history with the end
  woken_ok : (h h1 : History) (w : Wake) (a : Asked) → Known loaded h → Sound loaded h1 → ((y : Yea) → IsIn y (yeas h1) → IsIn y (yeas h)) → ((x : Asked) → IsIn x (waits h1) → IsIn x (waits h)) → IsIn w (wakes loaded h1) → IsIn a (waits h) → a.who ≡ w.who → RowOk loaded h a.key a.mode w.row
  woken_ok h h1 w a k s less left i j e =
      let b = in_map_from (wake_of loaded h1) w (sort by_falling_stamp (front h1)) i in
      let there : IsIn b.0 (waits h) = left b.0 (front_in h1 b.0 (sort_in by_falling_stamp b.0 (front h1) b.1)) in
      let same : a ≡ b.0 = k.alone a b.0 j there (e ∙ ap (λ (z : Wake). z.who) b.2) in
      let here = k.here b.0 (k.asked b.0 there) in
      subst (λ (z : Asked). RowOk loaded h z.key z.mode w.row) (sym same)
      (subst (RowOk loaded h b.0.key b.0.mode) (sym (ap (λ (z : Wake). z.row) b.2)) (latest_ok loaded h h1 b.0.key b.0.mode s less here.0 here.1))

  woken_under : (b : ℕ) (h1 : History) → HistoryUnder b h1 → WakesUnder (b + 1) (wakes loaded h1)
  woken_under b h1 u w i =
      let x = in_map_from (wake_of loaded h1) w (sort by_falling_stamp (front h1)) i in
      (omega (arith, ap (λ (z : Wake). z.version.n) x.2, seen_under b x.0.mode (latest loaded h1 x.0.key) (latest_under loaded b h1 x.0.key u)), omega (arith, ap (λ (z : Wake). z.bound) x.2))

pub lawful : Lawful wait_die
lawful = record {
  wakes = wait_die_wakes;
  windows = wait_die_windows;
  rows = λ loaded h g o i.
      grants_row loaded (wait_die loaded) h g
      (sources loaded (wait_die loaded)
      (λ h who stamp key mode row version bound o m e. subst (RowOk loaded h key mode) (sym (answers key (elders h (record { who = who; stamp = stamp; key = key; mode = mode })) (is_free h (record { who = who; stamp = stamp; key = key; mode = mode })) (seen mode (latest loaded h key)) row version bound e)) (latest_ok loaded h h key mode (sound loaded (wait_die loaded) h o) (λ y j. j) m.here.0 m.here.1))
      (λ h who number w a o m i j e f. woken_ok loaded h (Commit who number [] ∷ h) w a (known loaded (wait_die loaded) h o) (sound_more loaded h (Commit who number []) m (sound loaded (wait_die loaded) h o)) (λ y k. k) (λ x k. left_wait loaded [] x (waits h) k) i j e)
      (λ h who w a o m i j e f. woken_ok loaded h (Abort who [] ∷ h) w a (known loaded (wait_die loaded) h o) (sound_more loaded h (Abort who []) m (sound loaded (wait_die loaded) h o)) (λ y k. k) (λ x k. left_wait loaded [] x (waits h) k) i j e)
      h o (wait_die_wakes loaded h o) g i);
}

pub naming : Naming wait_die
naming = record {
  asks = λ loaded h who stamp key mode c e. go key (elders h (record { who = who; stamp = stamp; key = key; mode = mode })) (is_free h (record { who = who; stamp = stamp; key = key; mode = mode })) (seen mode (latest loaded h key)) c e;
  votes = λ loaded h who bound writes appends c e. absurd (cc (e));
}
  where
    go : (key : Key) (bs : List Grant) (f : Bool) (v : Version) (c : Cause) → younger_or key bs f v ≡ Refused c → NamesKey key c
    go key [] true v c e = absurd (cc (e))
    go key [] false v c e = absurd (cc (e))
    go key (g ∷ bs) f v c e = subst (NamesKey key) (ap cause_of e) refl
      where
        cause_of : Answer → Cause
        cause_of (Refused c) = c
        cause_of Waits = Held key (record { txn = record { 0 = 0 }; turn = 0 })
        cause_of (Granted r n b) = Held key (record { txn = record { 0 = 0 }; turn = 0 })

pub grows : Grows wait_die 1
grows = record {
  ask = λ loaded h b who stamp key mode o u m l. go b key (elders h (record { who = who; stamp = stamp; key = key; mode = mode })) (is_free h (record { who = who; stamp = stamp; key = key; mode = mode })) (seen mode (latest loaded h key)) (seen_under b mode (latest loaded h key) (latest_under loaded b h key u))
      (λ g i.
      let f = filter_in (λ (g : Grant). ltb g.stamp stamp) g (blockers h (record { who = who; stamp = stamp; key = key; mode = mode })) i in
      let x = in_blockers h (record { who = who; stamp = stamp; key = key; mode = mode }) g f.0 in
      let a = (traced loaded (wait_die loaded) h o (wait_die_wakes loaded h o)).asked g x.0 in
      omega (arith, asked_under b h a.0 u a.1, a.5));
  vote = λ loaded h b who bound writes appends o u m l. omega (arith, floor_under b h who (decided h) (λ d i. decided_under b h d u i));
  commit = λ loaded h b who number o u m l. woken_under loaded b (Commit who number [] ∷ h) (l, u);
  abort = λ loaded h b who o u m. woken_under loaded b (Abort who [] ∷ h) u;
}
  where
    go : (b : ℕ) (key : Key) (bs : List Grant) (f : Bool) (v : Version) → v.number.n ≤ b → ((g : Grant) → IsIn g bs → g.stamp ≤ b) → AnswerUnder (b + 1) (younger_or key bs f v)
    go b key [] true v l h = (omega (arith, l), omega arith)
    go b key [] false v l h = tt
    go b key (g ∷ bs) f v l h = omega (arith, h (least g bs) (least_in g bs))

pub waits_law : WaitsLaw wait_die
waits_law = ForYounger wait_die_waits

pub served : Served wait_die
served = record { lawful = lawful; naming = naming; waits = waits_law; span = 1; short = omega arith; grows = grows }

-- The table tracks the history whose last call woke these waiters, and what is left of it when versions are dropped.
use Rattle.std.proofs.Common.{◌≡◌, ℕ, max, List, [], ◌∷◌, ◌++◌, map, filter, Bool, true, cond, ◌&&◌, refl, sym, ap, ap₂, ◌∙◌, subst, inl, inr, arith, Some, option_map}
use Rattle.deneva_base.specs.declared.keys.Key.{Key}
use Rattle.protocol_rules.specs.History.{History, Asked, Grant, asks, grants, waits, grant_of, grant_of_wake}
use Rattle.deneva_base.specs.Keys.{key_eq}
use Rattle.protocol_rules.specs.Latest.{Version, latest}
use Rattle.deneva_base.specs.Lists.{IsIn, greatest_by, sort}
use Rattle.deneva_base.specs.Modes.{reads}
use Rattle.protocol_rules.specs.Order.{by_rising_stamp}
use Rattle.deneva_base.specs.Rows.{Rows}
use Rattle.protocol_rules.specs.Timestamp.{top_read}
use Rattle.protocol_rules.specs.Versions.{below}
use Rattle.protocol_rules.specs.Waiting.{wake_of}
use Rattle.protocol_rules.proofs.Known.{Known}
use Rattle.protocol_rules.proofs.Traced.{asked_found}
use Rattle.deneva_base.proofs.Membership.{filter_in, key_decides}
use Rattle.protocol_rules.proofs.Sorts.{sort_in}
use Rattle.row_store.proofs.Tables.{same_key-key_eq}
use Rattle.control_core.specs.Leaving.{last}
use Rattle.stamp_lines.specs.declared.lines.Waiter.{Waiter}
use Rattle.stamp_lines.specs.declared.accesses.Accesses.{Accesses}
use Rattle.stamp_lines.specs.Standing.{seen_of, waiter_of, Tracks as TracksAccesses}
use Rattle.key_table.specs.Keys.{same_key}
use Rattle.stamp_lines.specs.Tables.{requests_at}
use Rattle.stamp_lines.proofs.Waking.{to_waiter, Wakens, still_waits, wake_tracks}
use Rattle.stamp_control.specs.declared.table.Table.{Table}
use Rattle.stamp_control.specs.Picks.{pick}
use Rattle.stamp_control.specs.Pasts.{Kept, granted_at, all_granted_at}
use Rattle.stamp_control.specs.Changes.{writers_in, Wakes, Trimmed}
use Rattle.shelf.specs.Keeps.{version_of}
use Rattle.stamp_control.specs.Standing.{State, state_of, IsPastOf, Tracks}
use Rattle.stamp_control.proofs.Asking.{granted_versions, granted_spare, granted_present, granted_read}
use Rattle.stamp_control.proofs.Counting.{writers_granted}

-- what granted accesses leave
all_versions : (ws : List Waiter) (k : Key) (p : Kept) → (all_granted_at ws k p).versions ≡ p.versions
all_versions [] k p = refl
all_versions (w ∷ ws) k p = all_versions ws k (granted_at w.key w.stamp w.mode k p) ∙ granted_versions w.key w.stamp w.mode k p

all_spare : (ws : List Waiter) (k : Key) (p : Kept) → (all_granted_at ws k p).spare ≡ p.spare
all_spare [] k p = refl
all_spare (w ∷ ws) k p = all_spare ws k (granted_at w.key w.stamp w.mode k p) ∙ granted_spare w.key w.stamp w.mode k p

all_present : (ws : List Waiter) (k : Key) (p : Kept) → p.present ≡ true → (all_granted_at ws k p).present ≡ true
all_present [] k p e = e
all_present (w ∷ ws) k p e = all_present ws k (granted_at w.key w.stamp w.mode k p) (granted_present w.key w.stamp w.mode k p e)

-- the stamp of an access that reads the key
abbrev reader_at : Key → Asked → ℕ
reader_at k a = cond (key_eq a.key k && reads a.mode) a.stamp 0

all_read : (as' : List Asked) (k : Key) (p : Kept) → ((a : Asked) → IsIn a as' → a.key ≡ k → p.present ≡ true) → (all_granted_at (map to_waiter as') k p).read ≡ max (greatest_by (reader_at k) as') p.read
all_read [] k p there = omega arith
all_read (a ∷ as') k p there =
    let here : same_key a.key k ≡ true → p.present ≡ true = λ e. there a (inl refl) ((key_decides a.key k).0 (sym (same_key-key_eq a.key k) ∙ e)) in
    let one = granted_read a.key a.stamp a.mode k p here in
    let rest = all_read as' k (granted_at a.key a.stamp a.mode k p) (λ b i e. granted_present a.key a.stamp a.mode k p (there b (inr i) e)) in
    omega (arith, one, rest)

greatest_both : {A B : Type 0} (f : B → ℕ) (g : A → B) (h : A → ℕ) (as' : List A) (bs : List B) → ((a : A) → f (g a) ≡ h a) → greatest_by f (map g as' ++ bs) ≡ max (greatest_by h as') (greatest_by f bs)
greatest_both f g h [] bs e = omega arith
greatest_both f g h (a ∷ as') bs e = let one = e a in let rest = greatest_both f g h as' bs e in omega (arith, one, rest)

-- what wakes leave of a history
pub record Keeps (loaded : Rows) (h1 h2 : History) : Type 0 where
  pub belows : (k : Key) (n : ℕ) → below loaded h2 k n ≡ below loaded h1 k n
  pub latests : (k : Key) → latest loaded h2 k ≡ latest loaded h1 k
  pub lasts : (k : Key) → last loaded h2 k ≡ last loaded h1 k

module _ (loaded : Rows) (h1 h2 : History) (known : Known loaded h1) (q : Asked → Bool) (w : Wakens h1 h2 (map (wake_of loaded h1) (sort by_rising_stamp (filter q (waits h1))))) (keeps : Keeps loaded h1 h2) where
  abbrev as' : List Asked
  as' = sort by_rising_stamp (filter q (waits h1))

  less : (a : Asked) → IsIn a as' → IsIn a (waits h1)
  less a i = (filter_in q a (waits h1) (sort_in by_rising_stamp a (filter q (waits h1)) i)).0

  -- the grants of the wakes
  grants_are : (xs : List Asked) → ((a : Asked) → IsIn a xs → IsIn a (waits h1)) → map (grant_of_wake h1) (map (wake_of loaded h1) xs) ≡ map (λ a. grant_of (wake_of loaded h1 a) a) xs
  grants_are [] f = refl
  grants_are (a ∷ xs) f = ap₂ (λ g gs. g ∷ gs) (ap (grant_of (wake_of loaded h1 a)) (asked_found (asks h1) (wake_of loaded h1 a) a known.pair (known.asked a (f a (inl refl))) refl refl)) (grants_are xs (λ b i. f b (inr i)))

  top_is : (k : Key) → top_read h2 k ≡ max (greatest_by (reader_at k) as') (top_read h1 k)
  top_is k =
      ap (greatest_by (λ (g : Grant). cond (key_eq g.key k && reads g.mode) g.stamp 0)) (w.grants_more ∙ ap (λ gs. gs ++ grants h1) (grants_are as' less))
      ∙ greatest_both (λ (g : Grant). cond (key_eq g.key k && reads g.mode) g.stamp 0) (λ a. grant_of (wake_of loaded h1 a) a) (reader_at k) as' (grants h1) (λ a. refl)

  pub woken_tracks : (old new : Table) → Wakes (map to_waiter (sort by_rising_stamp (filter q (waits h1)))) old new → Tracks loaded (state_of old) h1 → Tracks loaded (state_of new) h2
  woken_tracks old new c t =
      let s : State = state_of old in
      let s' : State = state_of new in
      let ws : List Waiter = map to_waiter as' in
      let still : (a : Asked) → IsIn a (waits h2) → IsIn a (waits h1) = λ a i. (still_waits (wake_of loaded h1) (λ b. refl) (λ b. refl) loaded h1 h2 known q w a i).0 in
      let versions : (k : Key) → (s'.pasts k).versions ≡ (s.pasts k).versions = λ k. ap (λ (p : Kept). p.versions) (c.pasts k) ∙ all_versions ws k (s.pasts k) in
      record {
        accesses = wake_tracks (wake_of loaded h1) (λ b. refl) (λ b. refl) loaded h1 h2 known q w keeps.lasts old.accesses new.accesses t.accesses c.accesses;
        read = λ k.
            ap (λ (p : Kept). p.read) (c.pasts k)
            ∙ all_read as' k (s.pasts k) (λ a i e. subst (λ z. (s.pasts z).present ≡ true) e (t.there a (less a i)))
            ∙ ap (max (greatest_by (reader_at k) as')) (t.read k)
            ∙ sym (top_is k);
        waited = λ a i. ap (λ vs. option_map version_of (pick a.stamp vs)) (versions a.key) ∙ t.waited a (still a i) ∙ ap Some (sym (keeps.belows a.key a.stamp));
        kept = λ k v i.
            let p = t.kept k v (subst (λ vs. IsIn v vs) (versions k) i) in
            subst (λ (l : Version). IsPastOf l v) (sym (keeps.latests k)) p;
        writers = λ k.
            let n = t.writers k in
            let m = ap writers_in (c.accesses.lines k) ∙ writers_granted ws k (s.accesses.requests k) in
            let p = ap (λ (x : Kept). x.spare) (c.pasts k) ∙ all_spare ws k (s.pasts k) in
            omega (arith, n, m, p);
        there = λ a i. ap (λ (p : Kept). p.present) (c.pasts a.key) ∙ all_present ws a.key (s.pasts a.key) (t.there a (still a i));
      }

-- versions that nobody would read are gone
pub trimmed_tracks : (loaded : Rows) (h : History) (old new : Table) → Trimmed old new → Tracks loaded (state_of old) h → Tracks loaded (state_of new) h
trimmed_tracks loaded h old new c t =
    let s : State = state_of old in
    let s' : State = state_of new in
    let accesses : TracksAccesses loaded (seen_of new.accesses) h = subst (λ (x : Accesses). TracksAccesses loaded (seen_of x) h) (sym c.accesses) t.accesses in
    record {
      accesses = accesses;
      read = λ k. (c.pasts k).read ∙ t.read k;
      waited = λ a i. ap (option_map version_of) ((c.pasts a.key).picks (waiter_of a) (accesses.queued a i) refl) ∙ t.waited a i;
      kept = λ k v i. t.kept k v ((c.pasts k).less v i);
      writers = λ k. let n = t.writers k in let m = ap (λ (x : Accesses). writers_in (requests_at x k)) c.accesses in let p = (c.pasts k).spare in omega (arith, n, m, p);
      there = λ a i. (c.pasts a.key).present ∙ t.there a i;
    }

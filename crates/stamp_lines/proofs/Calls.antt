-- What the accesses that track a history tell of a call.
use Rattle.std.proofs.Common.{◌≡◌, ℕ, ◌≤◌, ◌<◌, ◌^◌, List, [], ◌∷◌, ◌++◌, filter, Bool, true, false, not, cond, length, sym, ap, ◌∙◌, subst, arith}
use Rattle.deneva_base.specs.declared.keys.Key.{Key}
use Rattle.deneva_base.specs.declared.numbers.Attempt.{Attempt}
use Rattle.deneva_base.specs.declared.rows.Keyed.{Keyed}
use Rattle.deneva_base.specs.declared.causes.Bound.{Bound}
use Rattle.deneva_base.specs.declared.answers.Answer.{Answer}
use Rattle.deneva_base.specs.declared.answers.Answer.TheVariants.{Granted, Waits, Refused}
use Rattle.deneva_base.specs.Lists.{IsIn}
use Rattle.deneva_base.specs.Rows.{Rows}
use Rattle.protocol_rules.specs.Conditions.{MayAsk, MayPrepare}
use Rattle.protocol_rules.specs.History.{Ask, Prepare, Commit, Abort, History, Asked, asks, waits, left_waiting, is_woken, stamp_of, IsUnended}
use Rattle.protocol_rules.proofs.Known.{Known}
use Rattle.protocol_rules.proofs.Traced.{Traced}
use Rattle.protocol_rules.proofs.Marks.{stamp_is}
use Rattle.stamp_lines.specs.declared.accesses.Accesses.{Accesses}
use Rattle.row_store.specs.Stores.{Seen as Store, row_in}
use Rattle.control_core.specs.Leaving.{IsLoadedStore}
use Rattle.shelf.specs.Shelves.{held}
use Rattle.shelf.proofs.Keeps.{keeps_fresh}
use Rattle.stamp_lines.specs.Changes.{IsFresh}
use Rattle.stamp_lines.specs.Standing.{Seen, seen_of, Rising, Tracks}

-- no accesses
pub fresh_tracks : (store : Store) (a : Accesses) → IsFresh store a → IsLoadedStore store → Tracks (row_in store) (seen_of a) []
fresh_tracks store a f l = record {
  owned = λ g i u. absurd i;
  queued = λ x i. absurd i;
  real = λ k x i. absurd (subst (λ rs. IsIn x rs) (f.lines k) i);
  rising = λ k. subst (λ rs. Rising rs) (sym (f.lines k)) tt;
  stamped = λ g i u. absurd i;
  stamped_waiter = λ x i. absurd i;
  kept = keeps_fresh true f.shelf l;
  waiting = f.waiting;
}

pub length_filter : (p : Asked → Bool) (xs : List Asked) → length (filter p xs) ≤ length xs
length_filter p [] = omega arith
length_filter p (x ∷ xs) = go (p x) (length_filter p xs)
  where
    go : (b : Bool) → length (filter p xs) ≤ length xs → length (cond b (x ∷ filter p xs) (filter p xs)) ≤ length (x ∷ xs)
    go true e = omega (arith, e)
    go false e = omega (arith, e)

-- there is room to count one more
waits_short : (k : History) → length (waits k) ≤ length k
waits_short [] = omega arith
waits_short (Ask who stamp key mode answer ∷ k) = go answer (waits_short k)
  where
    go : (a : Answer) → length (waits k) ≤ length k → length (left_waiting (record { who = who; stamp = stamp; key = key; mode = mode }) a ++ waits k) ≤ length (Ask who stamp key mode answer ∷ k)
    go (Granted row version bound) e = omega (arith, e)
    go Waits e = omega (arith, e)
    go (Refused cause) e = omega (arith, e)
waits_short (Prepare who bound ws as' vote ∷ k) = let e = waits_short k in omega (arith, e)
waits_short (Commit who number woken ∷ k) = let e = waits_short k in let f = length_filter (λ a. not (is_woken woken a)) (waits k) in omega (arith, e, f)
waits_short (Abort who woken ∷ k) = let e = waits_short k in let f = length_filter (λ a. not (is_woken woken a)) (waits k) in omega (arith, e, f)

pub few_wait : (loaded : Rows) (h : History) (s : Seen) → Tracks loaded s h → (who : Attempt) (stamp : ℕ) (key : Key) → MayAsk loaded h who stamp key → s.waiting < 2 ^ 63
few_wait loaded h s t who stamp key may = let e = t.waiting in let n = waits_short h in let m = may.short in omega (arith, e, n, m)

-- the stamp of an attempt that prepares
pub vote_stamp : (loaded : Rows) (h : History) (s : Seen) → Known loaded h → Traced h → Tracks loaded s h → (who : Attempt) (bound : Bound) (writes appends : List Keyed) → MayPrepare h who bound writes appends → (held s.shelf who).stamp ≡ stamp_of (asks h) who
vote_stamp loaded h s known traced t who bound writes appends may =
    let g = may.something in
    let a = traced.asked g.0 g.1 in
    let n = t.stamped g.0 g.1 (subst (λ w. IsUnended h w) (sym g.2) may.unended) in
    ap (λ w. (held s.shelf w).stamp) (sym g.2) ∙ n ∙ sym a.5 ∙ sym (stamp_is (asks h) a.0 known.stamp a.1) ∙ ap (stamp_of (asks h)) (a.2 ∙ g.2)

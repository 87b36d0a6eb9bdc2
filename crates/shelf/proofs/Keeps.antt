-- A shelf keeps what the history gives, call by call.
use Rattle.std.proofs.Common.{◌≡◌, ◌≢◌, ℕ, ◌+◌, ◌≤◌, List, [], ◌∷◌, Bool, true, false, cond, length, refl, sym, ap, ap₂, ◌∙◌, subst, inl, inr, ⊎_elim, arith, Option, Some, None, option_map}
use Rattle.std.specs.FinMap.{get}
use Rattle.std.specs.List.{list_any}
use Rattle.deneva_base.specs.declared.keys.Key.{Key}
use Rattle.deneva_base.specs.declared.keys.Mode.{Mode}
use Rattle.deneva_base.specs.declared.numbers.Attempt.{Attempt}
use Rattle.deneva_base.specs.declared.numbers.Number.{Number}
use Rattle.deneva_base.specs.declared.rows.Keyed.{Keyed}
use Rattle.deneva_base.specs.declared.causes.Bound.{Bound}
use Rattle.deneva_base.specs.declared.causes.Cause.{Cause}
use Rattle.deneva_base.specs.declared.answers.Answer.TheVariants.{Granted, Waits, Refused}
use Rattle.deneva_base.specs.declared.answers.Vote.TheVariants.{Yes, No}
use Rattle.deneva_base.specs.Lists.{IsIn}
use Rattle.deneva_base.specs.Rows.{Row, Rows}
use Rattle.deneva_base.specs.Keys.{attempt_eq, loaded_version}
use Rattle.protocol_rules.specs.History.{Ask, Prepare, History, Asked, Grant, Yea, yeas, ended, IsUnended}
use Rattle.protocol_rules.specs.Latest.{row_for, writes_in}
use Rattle.protocol_rules.specs.Leaving.{later, left_in, appends_in}
use Rattle.deneva_base.proofs.Membership.{attempt_tells}
use Rattle.row_store.specs.Stores.{Seen, version_at, row_in}
use Rattle.row_store.specs.declared.versions.Version.{Version as StoredVersion}
use Rattle.control_core.specs.Leaving.{IsLoadedStore, last}
use Rattle.shelf.specs.Seen.{Held}
use Rattle.shelf.specs.Held.{nothing, with_key, with_rows, copies_of}
use Rattle.shelf.specs.Offers.{offered}
use Rattle.shelf.specs.Shelves.{held, IsFresh, SetsHeld, Notes, Promises, MayReserve, Ends}
use Rattle.shelf.specs.Keeps.{Rising, version_of, promised_in, Apart, Closes, Resumes, KeepsRows}
use Rattle.shelf.specs.declared.shelf.Shelf.{Shelf}
use Rattle.key_table.proofs.Places.{at_place}
use Rattle.shelf.proofs.Keys.{key_in_put, rising_put}
use Rattle.shelf.proofs.Offering.{committed_version}
use Rattle.shelf.proofs.Promised.{unended_test, promised_less}

-- the keys of one attempt with one more
record More (who : Attempt) (key : Key) (s s' : Shelf) : Type 0 where
  keys : (w : Attempt) (k : Key) → IsIn k (held s w).keys → IsIn k (held s' w).keys
  mine : IsIn key (held s' who).keys
  rising : (w : Attempt) → Rising (held s w).keys → Rising (held s' w).keys
  rest : (w : Attempt) → ((held s' w).writes ≡ (held s w).writes) × ((held s' w).copies ≡ (held s w).copies) × ((held s' w).appends ≡ (held s w).appends)

more : (who : Attempt) (stamp : ℕ) (key : Key) (s s' : Shelf) → SetsHeld s who (with_key stamp key (held s who)) s' → More who key s s'
more who stamp key s s' h =
    let cases = λ (w : Attempt). at_place attempt_eq attempt_tells who w (held s' w) (with_key stamp key (held s who)) (held s w) (h w) in
    record {
      keys = λ w k i. ⊎_elim
          (λ t. subst (λ (p : Held). IsIn k p.keys) (sym t.1) (key_in_put key k (held s who).keys (inr (subst (λ q. IsIn k (held s q).keys) (sym t.0) i))))
          (λ f. subst (λ (p : Held). IsIn k p.keys) (sym f.1) i) (cases w);
      mine = ⊎_elim
          (λ t. subst (λ (p : Held). IsIn key p.keys) (sym t.1) (key_in_put key key (held s who).keys (inl refl)))
          (λ f. absurd (f.0 refl)) (cases who);
      rising = λ w r. ⊎_elim
          (λ t. subst (λ (p : Held). Rising p.keys) (sym t.1) (rising_put key (held s who).keys (subst (λ q. Rising (held s q).keys) (sym t.0) r)))
          (λ f. subst (λ (p : Held). Rising p.keys) (sym f.1) r) (cases w);
      rest = λ w. ⊎_elim
          (λ t. rw (t.1, t.0) (refl, refl, refl))
          (λ f. rw f.1 (refl, refl, refl)) (cases w);
    }

-- what the shelf has of an attempt's rows
abbrev HasRows : Bool → History → Attempt → Held → Type 0
HasRows copied h who p = (p.writes ≡ writes_in (yeas h) who) × (p.copies ≡ copies_of copied (writes_in (yeas h) who)) × (p.appends ≡ appends_in (yeas h) who)

-- a shelf on which nothing was called
pub keeps_fresh : (copied : Bool) {store : Seen} {s : Shelf} → IsFresh store s → IsLoadedStore store → KeepsRows copied (row_in store) s []
keeps_fresh copied {store} {s} f l = record {
  noted = λ g i u. absurd i;
  noted_waiter = λ a i. absurd i;
  rising = λ w. subst (λ (p : Held). Rising p.keys) (sym (f.holds w)) tt;
  rows = λ w u. subst (HasRows copied [] w) (sym (f.holds w)) (refl, none copied, refl);
  tables = λ k row e. tables k (version_at store k) refl row e;
  versions = λ k. ap (λ x. option_map version_of (version_at x k)) f.store ∙ start k (version_at store k) refl;
  promised = f.promised;
  room = omega (arith, f.promised);
}
  where
    none : (b : Bool) → [] ≡ copies_of b []
    none true = refl
    none false = refl

    tables : (k : Key) (v : Option StoredVersion) → version_at store k ≡ v → (row : Row) → option_map (λ (x : StoredVersion). x.row) (version_at store k) ≡ Some row → k.table ≤ 4
    tables k None is row e = absurd (cc (ap (option_map (λ (x : StoredVersion). x.row)) (sym is) ∙ e))
    tables k (Some v) is row e = (l k v is).1

    start : (k : Key) (v : Option StoredVersion) → version_at store k ≡ v → option_map version_of (version_at store k) ≡ option_map (λ row. record { number = loaded_version; row = row }) (option_map (λ (x : StoredVersion). x.row) (version_at store k))
    start k None is = rw is refl
    start k (Some v) is = rw is (ap (λ n. Some (record { number = n; row = v.row })) (l k v is).0)

module _ {copied : Bool} {loaded : Rows} {h : History} where
  -- the answer was a refusal or a No, or there was no memory
  pub keeps_reserved : {s s' : Shelf} → KeepsRows copied loaded s h → MayReserve s s' → KeepsRows copied loaded s' h
  keeps_reserved t c = record {
    noted = λ g i u. subst (λ (p : Held). IsIn g.key p.keys) (sym (c.holds g.who)) (t.noted g i u);
    noted_waiter = λ a i. subst (λ (p : Held). IsIn a.key p.keys) (sym (c.holds a.who)) (t.noted_waiter a i);
    rising = λ w. subst (λ (p : Held). Rising p.keys) (sym (c.holds w)) (t.rising w);
    rows = λ w u. subst (HasRows copied h w) (sym (c.holds w)) (t.rows w u);
    tables = t.tables;
    versions = λ k. ap (λ m. option_map version_of (get m k)) c.versions ∙ t.versions k;
    promised = c.promised ∙ t.promised;
    room = omega (arith, t.room, c.promised, c.room);
  }

  pub keeps_refused : {s : Shelf} {who : Attempt} {stamp : ℕ} {key : Key} {mode : Mode} {cause : Cause} → KeepsRows copied loaded s h → KeepsRows copied loaded s (Ask who stamp key mode (Refused cause) ∷ h)
  keeps_refused t = record { noted = t.noted; noted_waiter = t.noted_waiter; rising = t.rising; rows = t.rows; tables = t.tables; versions = t.versions; promised = t.promised; room = t.room }

  pub keeps_no : {s : Shelf} {who : Attempt} {bound : Bound} {writes appends : List Keyed} {cause : Cause} → KeepsRows copied loaded s h → KeepsRows copied loaded s (Prepare who bound writes appends (No cause) ∷ h)
  keeps_no t = record { noted = t.noted; noted_waiter = t.noted_waiter; rising = t.rising; rows = t.rows; tables = t.tables; versions = t.versions; promised = t.promised; room = t.room }

  -- the key is noted, and then there was no memory
  pub keeps_noted : {who : Attempt} {stamp : ℕ} {key : Key} {s s' : Shelf} → KeepsRows copied loaded s h → Notes who stamp key s s' → KeepsRows copied loaded s' h
  keeps_noted {who} {stamp} {key} {s} {s'} t c =
      let m = more who stamp key s s' c.holds in
      record {
        noted = λ g i u. m.keys g.who g.key (t.noted g i u);
        noted_waiter = λ a i. m.keys a.who a.key (t.noted_waiter a i);
        rising = λ w. m.rising w (t.rising w);
        rows = λ w u. let o = t.rows w u in let m' = m.rest w in (m'.0 ∙ o.0, m'.1 ∙ o.1, m'.2 ∙ o.2);
        tables = t.tables;
        versions = λ k. ap (λ x. option_map version_of (version_at x k)) c.store ∙ t.versions k;
        promised = c.promised ∙ t.promised;
        room = omega (arith, t.room, c.promised, ap (λ x. x.spare) c.store);
      }

  -- the access is granted
  pub keeps_granted : {who : Attempt} {stamp : ℕ} {key : Key} {s s' : Shelf} {mode : Mode} {row : Row} {version : Number} {bound : ℕ} → KeepsRows copied loaded s h → Notes who stamp key s s' → KeepsRows copied loaded s' (Ask who stamp key mode (Granted row version bound) ∷ h)
  keeps_granted {who} {stamp} {key} {s} {s'} t c =
      let k = keeps_noted t c in
      record {
        noted = λ g i u. ⊎_elim (λ e. subst (λ (z : Grant). IsIn z.key (held s' z.who).keys) (sym e) (more who stamp key s s' c.holds).mine) (λ j. k.noted g j u) i;
        noted_waiter = k.noted_waiter;
        rising = k.rising;
        rows = k.rows;
        tables = k.tables;
        versions = k.versions;
        promised = k.promised;
        room = k.room;
      }

  -- the access waits
  pub keeps_waiting : {who : Attempt} {stamp : ℕ} {key : Key} {s s' : Shelf} {mode : Mode} → KeepsRows copied loaded s h → Notes who stamp key s s' → KeepsRows copied loaded s' (Ask who stamp key mode Waits ∷ h)
  keeps_waiting {who} {stamp} {key} {s} {s'} t c =
      let k = keeps_noted t c in
      record {
        noted = k.noted;
        noted_waiter = λ a i. ⊎_elim (λ e. subst (λ (z : Asked). IsIn z.key (held s' z.who).keys) (sym e) (more who stamp key s s' c.holds).mine) (λ j. k.noted_waiter a j) i;
        rising = k.rising;
        rows = k.rows;
        tables = k.tables;
        versions = k.versions;
        promised = k.promised;
        room = k.room;
      }

  -- a vote Yes
  pub keeps_promised : {who : Attempt} {bound : Bound} {writes copies appends : List Keyed} {lo hi : ℕ} {s s' : Shelf} → IsUnended h who → copies ≡ copies_of copied writes → KeepsRows copied loaded s h → Promises who writes copies appends s s' → KeepsRows copied loaded s' (Prepare who bound writes appends (Yes lo hi) ∷ h)
  keeps_promised {who} {bound} {writes} {copies} {appends} {lo} {hi} {s} {s'} unended copy t c =
      let cases = λ (w : Attempt). at_place attempt_eq attempt_tells who w (held s' w) (with_rows writes copies appends (held s who)) (held s w) (c.holds w) in
      let keys : (w : Attempt) → (held s' w).keys ≡ (held s w).keys = λ w. ⊎_elim (λ x. ap (λ (p : Held). p.keys) x.1 ∙ ap (λ q. (held s q).keys) x.0) (λ f. ap (λ (p : Held). p.keys) f.1) (cases w) in
      record {
        noted = λ g i u. subst (λ l. IsIn g.key l) (sym (keys g.who)) (t.noted g i u);
        noted_waiter = λ a i. subst (λ l. IsIn a.key l) (sym (keys a.who)) (t.noted_waiter a i);
        rising = λ w. subst (λ l. Rising l) (sym (keys w)) (t.rising w);
        rows = λ w u. ⊎_elim
            (λ x. subst (HasRows copied (Prepare who bound writes appends (Yes lo hi) ∷ h) w) (sym (c.holds w)) (rw x.0 (refl, copy, refl)))
            (λ x. subst (HasRows copied (Prepare who bound writes appends (Yes lo hi) ∷ h) w) (sym (c.holds w)) (rw x.0 (t.rows w u)))
            (attempt_tells who w);
        tables = t.tables;
        versions = λ k. ap (λ m. option_map version_of (get m k)) c.versions ∙ t.versions k;
        promised = let e = t.promised in let f = c.promised in rw (unended_test h who unended) (omega (arith, e, f));
        room = c.room;
      }

-- votes that stay
same_rows : (copied : Bool) (h h' : History) (w : Attempt) (p : Held) → yeas h' ≡ yeas h → HasRows copied h w p → HasRows copied h' w p
same_rows copied h h' w p e o = rw e o

pub keeps_ended : {copied : Bool} {loaded : Rows} {h h' : History} {who : Attempt} {number : Option Number} {s s' : Shelf} → Apart (yeas h) → Closes h h' who → KeepsRows copied loaded s h → Ends who number s s' → ((k : Key) → option_map version_of (version_at s'.store k) ≡ last loaded h' k) → KeepsRows copied loaded s' h'
keeps_ended {copied} {loaded} {h} {h'} {who} {number} {s} {s'} apart c t e versions =
    let cases = λ (w : Attempt). at_place attempt_eq attempt_tells who w (held s' w) nothing (held s w) (e.holds w) in
    let others : (w : Attempt) → w ≢ who → held s' w ≡ held s w = λ w n. ⊎_elim (λ x. absurd (n (sym x.0))) (λ f. f.1) (cases w) in
    let still : (x : Attempt) → IsUnended h' x → (x ≢ who) × IsUnended h x = λ x u. ((λ q. u (subst (λ l. IsIn x l) (sym c.ended_more) (inl q))), (λ i. u (subst (λ l. IsIn x l) (sym c.ended_more) (inr i)))) in
    record {
      noted = λ g i u. let v = still g.who u in subst (λ (p : Held). IsIn g.key p.keys) (sym (others g.who v.0)) (t.noted g (subst (λ l. IsIn g l) c.grants_same i) v.1);
      noted_waiter = λ a i. let j = subst (λ l. IsIn a l) c.waits_same i in subst (λ (p : Held). IsIn a.key p.keys) (sym (others a.who (c.nowhere a j))) (t.noted_waiter a j);
      rising = λ w. ⊎_elim (λ x. subst (λ (p : Held). Rising p.keys) (sym x.1) tt) (λ f. subst (λ (p : Held). Rising p.keys) (sym f.1) (t.rising w)) (cases w);
      rows = λ w u. let v = still w u in subst (HasRows copied h' w) (sym (others w v.0)) (same_rows copied h h' w (held s w) c.yeas_same (t.rows w v.1));
      tables = t.tables;
      versions = versions;
      promised =
          let mine = ap (λ (l : List Keyed). length l) (t.rows who c.unended).2 in
          let less = promised_less h h' who (yeas h) c.ended_more c.unended apart in
          let to : promised_in h' (yeas h') ≡ promised_in h' (yeas h) = ap (promised_in h') c.yeas_same in
          omega (arith, e.promised, t.promised, mine, less, to);
      room = omega (arith, t.room, e.promised, e.room);
    }

-- the versions after a commit, and after an abort
pub committed_rows : {copied : Bool} {loaded : Rows} {h : History} {who : Attempt} {number : Number} {s s' : Shelf} → KeepsRows copied loaded s h → IsUnended h who → Ends who (Some number) s s' → (k : Key) → option_map version_of (version_at s'.store k) ≡ later (last loaded h k) number (row_for k (left_in (yeas h) who))
committed_rows {copied} {loaded} {h} {who} {number} {s} {s'} t unended e k =
    let rows = t.rows who unended in
    ap (option_map version_of) (e.versions k ∙ ap (λ ws. offered number (held s who).appends k (offered number ws k (version_at s.store k))) rows.0 ∙ ap (λ as'. offered number as' k (offered number (writes_in (yeas h) who) k (version_at s.store k))) rows.2)
    ∙ committed_version number (yeas h) who k (version_at s.store k) ∙ ap (λ v. later v number (row_for k (left_in (yeas h) who))) (t.versions k)

pub aborted_rows : {copied : Bool} {loaded : Rows} {h : History} {who : Attempt} {s s' : Shelf} → KeepsRows copied loaded s h → Ends who None s s' → (k : Key) → option_map version_of (version_at s'.store k) ≡ last loaded h k
aborted_rows t e k = ap (option_map version_of) (e.versions k) ∙ t.versions k

-- nobody ends
promised_same : (h h' : History) (ys : List Yea) → ended h' ≡ ended h → promised_in h' ys ≡ promised_in h ys
promised_same h h' [] e = refl
promised_same h h' (y ∷ ys) e = ap₂ (λ l n. cond (list_any (attempt_eq y.who) l) 0 (length y.appends) + n) e (promised_same h h' ys e)

pub keeps_resumed : {copied : Bool} {loaded : Rows} {h h' : History} {s : Shelf} → KeepsRows copied loaded s h → Resumes loaded h h' → KeepsRows copied loaded s h'
keeps_resumed {copied} {loaded} {h} {h'} {s} t c =
    let before : (x : Attempt) → IsUnended h' x → IsUnended h x = λ x u i. u (subst (λ l. IsIn x l) (sym c.ended_same) i) in
    record {
      noted = λ g i u. ⊎_elim
          (λ j. t.noted g j (before g.who u))
          (λ a. subst (λ k. IsIn k (held s g.who).keys) a.3 (subst (λ w. IsIn a.0.key (held s w).keys) a.2 (t.noted_waiter a.0 a.1)))
          (c.grants_from g i);
      noted_waiter = λ a i. t.noted_waiter a (c.waits_from a i);
      rising = t.rising;
      rows = λ w u. same_rows copied h h' w (held s w) c.yeas_same (t.rows w (before w u));
      tables = t.tables;
      versions = λ k. t.versions k ∙ sym (c.last_same k);
      promised = t.promised ∙ sym (promised_same h h' (yeas h) c.ended_same) ∙ ap (promised_in h') (sym c.yeas_same);
      room = t.room;
    }

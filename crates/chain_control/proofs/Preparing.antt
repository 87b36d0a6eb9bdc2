-- The table tracks the history with one more Prepare, and where a call has changed nothing that counts.
use Rattle.std.proofs.Common.{◌≡◌, ℕ, List, ◌∷◌, true, refl, sym, ap, ◌∙◌, subst, inl, inr, ⊎_elim, Option, Some, None}
use Rattle.std.specs.FinMap.{get}
use Rattle.deneva_base.specs.declared.keys.Key.{Key}
use Rattle.deneva_base.specs.declared.numbers.Attempt.{Attempt}
use Rattle.deneva_base.specs.declared.rows.Keyed.{Keyed}
use Rattle.deneva_base.specs.declared.causes.Bound.{Bound}
use Rattle.deneva_base.specs.declared.answers.Vote.TheVariants.{Yes}
use Rattle.deneva_base.specs.Lists.{IsIn}
use Rattle.deneva_base.specs.Rows.{Rows}
use Rattle.protocol_rules.specs.Conditions.{MayPrepare}
use Rattle.protocol_rules.specs.History.{Prepare, History}
use Rattle.row_store.specs.declared.versions.Version.{Version as StoredVersion}
use Rattle.row_store.specs.Stores.{version_at}
use Rattle.chain_control.specs.declared.table.Table.{Table}
use Rattle.chain_control.specs.Chains.{Chain}
use Rattle.key_table.specs.Keys.{same_key}
use Rattle.key_table.proofs.Places.{same_tells, at_place}
use Rattle.shelf.specs.declared.shelf.Shelf.{Shelf}
use Rattle.shelf.specs.Shelves.{Notes, MayReserve}
use Rattle.shelf.specs.Keeps.{KeepsRows}
use Rattle.shelf.proofs.Keeps.{keeps_reserved, keeps_noted, keeps_promised}
use Rattle.chain_control.specs.Changes.{Opens, Stays, Votes, MayVote, MayNote, opened_with}
use Rattle.chain_control.specs.Standing.{State, state_of, requests_in, links_in, floor_in, owner_of, waiter_of, IsOwner, IsWaiter, StampsRise, Tracks, Keeps}

-- what stays where the requests do
same_tracks : (loaded : Rows) (h : History) (s s' : State) → Tracks loaded s h → ((k : Key) → requests_in (s'.chains k) ≡ requests_in (s.chains k)) → KeepsRows true loaded s'.shelf h → s'.waiting ≡ s.waiting → Tracks loaded s' h
same_tracks loaded h s s' t requests kept waiting = record {
  owned = λ g i u. subst (λ l. IsIn (owner_of g) l) (sym (requests g.key)) (t.owned g i u);
  queued = λ a i. subst (λ l. IsIn (waiter_of loaded h a) l) (sym (requests a.key)) (t.queued a i);
  real = λ k x i. t.real k x (subst (λ l. IsIn x l) (requests k) i);
  stamps_rise = λ k. subst (λ l. StampsRise l) (sym (requests k)) (t.stamps_rise k);
  kept = kept;
  waiting = waiting ∙ t.waiting;
}

same_kept : {loaded : Rows} {h : History} {x y : Shelf} → y ≡ x → KeepsRows true loaded x h → KeepsRows true loaded y h
same_kept {loaded} {h} e t = subst (λ z. KeepsRows true loaded z h) (sym e) t

-- what stays of the versions
same_keeps : {keep : ℕ} (loaded : Rows) (h : History) (s s' : State) → Keeps keep loaded s h → ((k : Key) → opened_with (version_at s'.shelf.store k) (s'.chains k) ≡ opened_with (version_at s.shelf.store k) (s.chains k)) → Keeps keep loaded s' h
same_keeps loaded h s s' k c = record {
  links = λ key row e. ap links_in (c key) ∙ k.links key row e;
  floor = λ key row e. ap floor_in (c key) ∙ k.floor key row e;
}

-- a key that is opened
opened_twice : (v : Option StoredVersion) (c : Option Chain) → opened_with v (opened_with v c) ≡ opened_with v c
opened_twice None c = refl
opened_twice (Some v) None = refl
opened_twice (Some v) (Some c) = refl

opened_requests : (v : Option StoredVersion) (c : Option Chain) → requests_in (opened_with v c) ≡ requests_in c
opened_requests None c = refl
opened_requests (Some v) None = refl
opened_requests (Some v) (Some c) = refl

module _ (keep : ℕ) (loaded : Rows) (h : History) (old new : Table) where
  abbrev s : State
  s = state_of old

  abbrev s' : State
  s' = state_of new

  pub opened_tracks : (key : Key) → Tracks loaded (state_of old) h → Opens key old new → Tracks loaded (state_of new) h
  opened_tracks key t c =
      same_tracks loaded h s s' t
      (λ k. ⊎_elim (λ x. ap requests_in x.1 ∙ opened_requests (version_at s.shelf.store key) (s.chains key) ∙ ap (λ q. requests_in (s.chains q)) x.0) (λ x. ap requests_in x.1) (at_place same_key same_tells key k (s'.chains k) (opened_with (version_at s.shelf.store key) (s.chains key)) (s.chains k) (c.lines k)))
      (same_kept c.shelf t.kept) c.waiting

  pub opened_keeps : (key : Key) → Keeps keep loaded (state_of old) h → Opens key old new → Keeps keep loaded (state_of new) h
  opened_keeps key t c = same_keeps loaded h s s' t (λ k.
      ap (λ (x : Shelf). opened_with (version_at x.store k) (s'.chains k)) c.shelf
      ∙ ⊎_elim
      (λ x. ap (opened_with (version_at s.shelf.store k)) x.1 ∙ ap (λ q. opened_with (version_at s.shelf.store k) (opened_with (version_at s.shelf.store q) (s.chains q))) x.0 ∙ opened_twice (version_at s.shelf.store k) (s.chains k))
      (λ x. ap (opened_with (version_at s.shelf.store k)) x.1)
      (at_place same_key same_tells key k (s'.chains k) (opened_with (version_at s.shelf.store key) (s.chains key)) (s.chains k) (c.lines k)))

  pub stays_tracks : Tracks loaded (state_of old) h → Stays old new → Tracks loaded (state_of new) h
  stays_tracks t c = same_tracks loaded h s s' t (λ k. ap requests_in (c.lines k)) (same_kept c.shelf t.kept) c.waiting

  pub stays_keeps : Keeps keep loaded (state_of old) h → Stays old new → Keeps keep loaded (state_of new) h
  stays_keeps t c = same_keeps loaded h s s' t (λ k. ap (λ (x : Shelf). opened_with (version_at x.store k) (s'.chains k)) c.shelf ∙ ap (opened_with (version_at s.shelf.store k)) (c.lines k))

  -- versions that stay
  same_versions : (versions : (k : Key) → version_at s'.shelf.store k ≡ version_at s.shelf.store k) (lines : (k : Key) → s'.chains k ≡ s.chains k) (k : Key) → opened_with (version_at s'.shelf.store k) (s'.chains k) ≡ opened_with (version_at s.shelf.store k) (s.chains k)
  same_versions versions lines k = ap (λ v. opened_with v (s'.chains k)) (versions k) ∙ ap (opened_with (version_at s.shelf.store k)) (lines k)

  pub noted_tracks : (who : Attempt) (stamp : ℕ) (key : Key) → Tracks loaded (state_of old) h → MayNote who stamp key old new → Tracks loaded (state_of new) h
  noted_tracks who stamp key t c = same_tracks loaded h s s' t (λ k. ap requests_in (c.lines k)) (⊎_elim (λ r. keeps_reserved t.kept r) (λ n. keeps_noted t.kept n) c.shelf) c.waiting

  pub noted_keeps : (who : Attempt) (stamp : ℕ) (key : Key) → Keeps keep loaded (state_of old) h → MayNote who stamp key old new → Keeps keep loaded (state_of new) h
  noted_keeps who stamp key t c = same_keeps loaded h s s' t (same_versions (λ k. ⊎_elim (λ (r : MayReserve s.shelf s'.shelf). ap (λ m. get m k) r.versions) (λ (n : Notes who stamp key s.shelf s'.shelf). ap (λ x. version_at x k) n.store) c.shelf) c.lines)

  pub reserved_tracks : Tracks loaded (state_of old) h → MayVote old new → Tracks loaded (state_of new) h
  reserved_tracks t c = same_tracks loaded h s s' t (λ k. ap requests_in (c.lines k)) (keeps_reserved t.kept c.shelf) c.waiting

  pub reserved_keeps : Keeps keep loaded (state_of old) h → MayVote old new → Keeps keep loaded (state_of new) h
  reserved_keeps t c = same_keeps loaded h s s' t (same_versions (λ k. ap (λ m. get m k) c.shelf.versions) c.lines)

  -- it votes Yes
  module _ (who : Attempt) (bound : Bound) (writes' appends : List Keyed) (may : MayPrepare h who bound writes' appends) (lo hi : ℕ) where
    pub prepared_tracks : Tracks loaded (state_of old) h → Votes who writes' appends old new → Tracks loaded (state_of new) (Prepare who bound writes' appends (Yes lo hi) ∷ h)
    prepared_tracks t c =
        let rs : (k : Key) → requests_in (s'.chains k) ≡ requests_in (s.chains k) = λ k. ap requests_in (c.lines k) in
        record {
          owned = λ g i u. subst (λ l. IsIn (owner_of g) l) (sym (rs g.key)) (t.owned g i u);
          queued = λ a i. subst (λ l. IsIn (waiter_of loaded h a) l) (sym (rs a.key)) (t.queued a i);
          real = λ k x i. ⊎_elim
              (λ (o : IsOwner h k x). inl (record { grant = o.grant; there = o.there; unended = o.unended; here = o.here; same = o.same }))
              (λ (q : IsWaiter loaded h k x). inr (record { asked = q.asked; there = q.there; here = q.here; same = q.same }))
              (t.real k x (subst (λ l. IsIn x l) (rs k) i));
          stamps_rise = λ k. subst (λ l. StampsRise l) (sym (rs k)) (t.stamps_rise k);
          kept = keeps_promised may.unended refl t.kept c.shelf;
          waiting = c.waiting ∙ t.waiting;
        }

    pub prepared_keeps : Keeps keep loaded (state_of old) h → Votes who writes' appends old new → Keeps keep loaded (state_of new) (Prepare who bound writes' appends (Yes lo hi) ∷ h)
    prepared_keeps t c =
        let same = same_versions (λ k. ap (λ m. get m k) c.shelf.versions) c.lines in
        record {
          links = λ key row e. ap links_in (same key) ∙ t.links key row e;
          floor = λ key row e. ap floor_in (same key) ∙ t.floor key row e;
        }

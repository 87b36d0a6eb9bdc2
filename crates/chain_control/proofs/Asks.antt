-- The asks of a table that stands for a history.
use Rattle.std.proofs.Common.{◌≡◌, ℕ, ◌^◌, ◌<◌, List, ◌∷◌, true, false, cond, refl, sym, ap, ◌∙◌, subst, ⊎_elim, arith, Some, None}
use Rattle.deneva_base.specs.declared.keys.Key.{Key}
use Rattle.deneva_base.specs.declared.keys.Mode.{Mode}
use Rattle.deneva_base.specs.declared.numbers.Attempt.{Attempt}
use Rattle.deneva_base.specs.declared.rows.Keyed.{Keyed}
use Rattle.deneva_base.specs.declared.causes.Bound.{Bound}
use Rattle.deneva_base.specs.declared.causes.Cause.{Cause}
use Rattle.deneva_base.specs.declared.answers.Answer.TheVariants.{Granted, Waits, Refused}
use Rattle.deneva_base.specs.declared.answers.Vote.TheVariants.{Yes}
use Rattle.deneva_base.specs.Lists.{greatest_by}
use Rattle.deneva_base.specs.Rows.{Row, Rows}
use Rattle.protocol_rules.specs.Conditions.{MayAsk, MayPrepare}
use Rattle.protocol_rules.specs.History.{Ask, Prepare, History}
use Rattle.protocol_rules.specs.Versions.{below}
use Rattle.protocol_rules.specs.Waiting.{this}
use Rattle.protocol_rules.specs.Mvcc.{mvcc}
use Rattle.row_store.specs.Stores.{version_at}
use Rattle.chain_control.specs.declared.requests.Request.{Request}
use Rattle.chain_control.specs.declared.table.Table.{Table}
use Rattle.chain_control.specs.Chains.{Chain, refusal}
use Rattle.chain_control.specs.Tables.{chain_at, below_in, refusal_in, stopped_in, stamp_in}
use Rattle.shelf.specs.Shelves.{held}
use Rattle.chain_control.specs.Changes.{Opens, Stays, Grants, Waiting, MayNote, Votes, MayVote, read_in, waiting, opened_with}
use Rattle.chain_control.specs.Standing.{state_of, link_of, waiter_of, Stands}
use Rattle.key_table.proofs.Places.{same_tells}
use Rattle.chain_control.proofs.Asking.{grants_more, waits_more, ask_granted, ask_waits, ask_refused}
use Rattle.chain_control.proofs.Preparing.{opened_tracks, opened_keeps, stays_tracks, stays_keeps, noted_tracks, noted_keeps, reserved_tracks, reserved_keeps, prepared_tracks, prepared_keeps}
use Rattle.chain_control.proofs.Keeping.{granted_keeps, waiting_keeps, refused_keeps}
use Rattle.chain_control.proofs.Bests.{passes_floor}
use Rattle.chain_control.proofs.Answering.{refused_is, under_floor, found, waits_is, grants_is, vote_is, opens_some}
use Rattle.shelf.proofs.Counting.{waits_short}
use Rattle.chain_control.proofs.Calls.{knows, sounds, traces}

module _ (keep : ℕ) (t : Table) (loaded : Rows) (h : History) (stands : Stands keep t loaded h) where
  pub opened_stands : (key : Key) (new : Table) → Opens key t new → Stands keep new loaded h
  opened_stands key new c = record { obeys = stands.obeys; tracks = opened_tracks keep loaded h t new key stands.tracks c; keeps = opened_keeps keep loaded h t new key stands.keeps c }

  pub stays_stands : (new : Table) → Stays t new → Stands keep new loaded h
  stays_stands new c = record { obeys = stands.obeys; tracks = stays_tracks keep loaded h t new stands.tracks c; keeps = stays_keeps keep loaded h t new stands.keeps c }

  pub noted_stands : (who : Attempt) (stamp : ℕ) (key : Key) (new : Table) → MayNote who stamp key t new → Stands keep new loaded h
  noted_stands who stamp key new c = record { obeys = stands.obeys; tracks = noted_tracks keep loaded h t new who stamp key stands.tracks c; keeps = noted_keeps keep loaded h t new who stamp key stands.keeps c }

  pub reserved_stands : (new : Table) → MayVote t new → Stands keep new loaded h
  reserved_stands new c = record { obeys = stands.obeys; tracks = reserved_tracks keep loaded h t new stands.tracks c; keeps = reserved_keeps keep loaded h t new stands.keeps c }

  -- what is kept of a key that is opened is there
  pub opened_there : (key : Key) (row : Row) (new : Table) → loaded key ≡ Some row → Opens key t new → (c : Chain) × (chain_at new.lines key ≡ Some c)
  opened_there key row new e c =
      let o = opens_some keep loaded h stands.obeys (knows keep t loaded h stands) (sounds keep t loaded h stands) (traces keep t loaded h stands) (state_of t) stands.tracks stands.keeps key row e in
      (o.0, c.lines key ∙ ⊎_elim (λ y. ap (λ b. cond b (opened_with (version_at t.shelf.store key) (chain_at t.lines key)) (chain_at t.lines key)) y.0) (λ n. absurd (n.1 refl)) (same_tells key key) ∙ o.1)

  module _ (who : Attempt) (stamp : ℕ) (key : Key) (mode : Mode) (may : MayAsk loaded h who stamp key) where
    abbrev pub asked : Request
    asked = record { who = who; stamp = stamp; mode = mode; waits = None }

    pub few_wait : t.waiting < 2 ^ 63
    few_wait = let e = stands.tracks.waiting in let s = waits_short h in let m = may.short in omega (arith, e, s, m)

    module _ (c : Chain) (there : chain_at t.lines key ≡ Some c) where
      pub refused_so : (x : Cause) → refusal_in key asked (chain_at t.lines key) ≡ Some x → Refused x ≡ (mvcc keep loaded).ask h who stamp key mode
      refused_so x e = refused_is keep loaded h stands.obeys (knows keep t loaded h stands) (sounds keep t loaded h stands) (traces keep t loaded h stands) (state_of t) stands.tracks stands.keeps who stamp key mode may c there x (sym (ap (refusal_in key asked) there) ∙ e)

      pub refused_stands : (x : Cause) → refusal_in key asked (chain_at t.lines key) ≡ Some x → Stands keep t loaded (Ask who stamp key mode (Refused x) ∷ h)
      refused_stands x e = record {
        obeys = (may, refused_so x e, stands.obeys);
        tracks = ask_refused loaded h (knows keep t loaded h stands) (traces keep t loaded h stands) who stamp key mode may (state_of t) x stands.tracks;
        keeps = refused_keeps keep loaded h who stamp key mode x (state_of t) stands.keeps;
      }

      module _ (none : refusal_in key asked (chain_at t.lines key) ≡ None) where
        none_here : refusal key (record { who = who; stamp = stamp; mode = mode; waits = None }) c ≡ None
        none_here = sym (ap (refusal_in key asked) there) ∙ none

        best_is : below_in stamp (chain_at t.lines key) ≡ Some (link_of h key (below loaded h key stamp))
        best_is = ap (below_in stamp) there ∙ found keep loaded h stands.obeys (knows keep t loaded h stands) (sounds keep t loaded h stands) (traces keep t loaded h stands) (state_of t) stands.tracks stands.keeps who stamp key mode may c there none_here

        pub waits_so : stopped_in asked (chain_at t.lines key) ≡ true → Waits ≡ (mvcc keep loaded).ask h who stamp key mode
        waits_so e = waits_is keep loaded h stands.obeys (knows keep t loaded h stands) (sounds keep t loaded h stands) (traces keep t loaded h stands) (state_of t) stands.tracks stands.keeps who stamp key mode may c there none_here (sym (ap (stopped_in asked) there) ∙ e)

        pub waits_stands : (new : Table) → stopped_in asked (chain_at t.lines key) ≡ true → Waiting key (waiting (record { who = who; stamp = stamp; mode = mode; waits = None }) (below_in stamp (chain_at t.lines key))) t new → Stands keep new loaded (Ask who stamp key mode Waits ∷ h)
        waits_stands new e w =
            let request : Waiting key (waiter_of loaded h (this who stamp key mode)) t new = subst (λ b. Waiting key (waiting (record { who = who; stamp = stamp; mode = mode; waits = None }) b) t new) best_is w in
            record {
              obeys = (may, waits_so e, stands.obeys);
              tracks = ask_waits loaded h (knows keep t loaded h stands) (traces keep t loaded h stands) who stamp key mode may (state_of t) (state_of new) stands.tracks (waits_more key (waiter_of loaded h (this who stamp key mode)) c t new there request) w.waiting;
              keeps = waiting_keeps keep loaded h who stamp key mode (waiter_of loaded h (this who stamp key mode)) c t new stands.keeps
                  (passes_floor keep loaded h stands.obeys key who stamp may (under_floor keep loaded h stands.obeys (knows keep t loaded h stands) (sounds keep t loaded h stands) (traces keep t loaded h stands) (state_of t) stands.tracks stands.keeps who stamp key mode may c there none_here))
                  there request;
            }

        pub grants_so : stopped_in asked (chain_at t.lines key) ≡ false → Granted (read_in mode (below_in stamp (chain_at t.lines key))).0 (read_in mode (below_in stamp (chain_at t.lines key))).1 0 ≡ (mvcc keep loaded).ask h who stamp key mode
        grants_so e =
            ap (λ x. Granted (read_in mode (below_in stamp x)).0 (read_in mode (below_in stamp x)).1 0) there
            ∙ grants_is keep loaded h stands.obeys (knows keep t loaded h stands) (sounds keep t loaded h stands) (traces keep t loaded h stands) (state_of t) stands.tracks stands.keeps who stamp key mode may c there none_here (sym (ap (stopped_in asked) there) ∙ e)

        pub grants_stands : (new : Table) → stopped_in asked (chain_at t.lines key) ≡ false → Grants key (read_in mode (below_in stamp (chain_at t.lines key))).1 (record { who = who; stamp = stamp; mode = mode; waits = None }) t new
            → Stands keep new loaded (Ask who stamp key mode (Granted (read_in mode (below_in stamp (chain_at t.lines key))).0 (read_in mode (below_in stamp (chain_at t.lines key))).1 0) ∷ h)
        grants_stands new e g = record {
          obeys = (may, grants_so e, stands.obeys);
          tracks = ask_granted loaded h (knows keep t loaded h stands) (traces keep t loaded h stands) who stamp key mode may (state_of t) (state_of new) (read_in mode (below_in stamp (chain_at t.lines key))).0 (read_in mode (below_in stamp (chain_at t.lines key))).1 0 stands.tracks
              (grants_more key (read_in mode (below_in stamp (chain_at t.lines key))).1 (record { who = who; stamp = stamp; mode = mode; waits = None }) c t new there g) g.waiting;
          keeps = granted_keeps keep loaded h who stamp key mode (read_in mode (below_in stamp (chain_at t.lines key))).0 (read_in mode (below_in stamp (chain_at t.lines key))).1 0 c t new stands.keeps there g;
        }

  -- a vote
  module _ (who : Attempt) (bound : Bound) (writes appends : List Keyed) (may : MayPrepare h who bound writes appends) where
    pub votes_so : Yes (greatest_by (λ k. stamp_in who (chain_at t.lines k)) (held t.shelf who).keys) (greatest_by (λ k. stamp_in who (chain_at t.lines k)) (held t.shelf who).keys) ≡ (mvcc keep loaded).vote h who bound writes appends
    votes_so = ap (λ n. Yes n n) (vote_is keep loaded h stands.obeys (knows keep t loaded h stands) (sounds keep t loaded h stands) (traces keep t loaded h stands) (state_of t) stands.tracks stands.keeps who bound writes appends may)

    pub votes_stands : (new : Table) → Votes who writes appends t new → Stands keep new loaded (Prepare who bound writes appends (Yes (greatest_by (λ k. stamp_in who (chain_at t.lines k)) (held t.shelf who).keys) (greatest_by (λ k. stamp_in who (chain_at t.lines k)) (held t.shelf who).keys)) ∷ h)
    votes_stands new c = record {
      obeys = (may, votes_so, stands.obeys);
      tracks = prepared_tracks keep loaded h t new who bound writes appends may _ _ stands.tracks c;
      keeps = prepared_keeps keep loaded h t new who bound writes appends may _ _ stands.keeps c;
    }

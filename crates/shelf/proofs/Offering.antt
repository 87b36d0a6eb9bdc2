-- The version of a key after rows came under a number is the one that a history tells.
use Rattle.std.proofs.Common.{◌≡◌, List, [], ◌∷◌, Bool, true, false, cond, refl, sym, ap, ◌∙◌, Option, Some, None, option_map}
use Rattle.deneva_base.specs.declared.keys.Key.{Key}
use Rattle.deneva_base.specs.declared.numbers.Attempt.{Attempt}
use Rattle.deneva_base.specs.declared.numbers.Number.{Number}
use Rattle.deneva_base.specs.declared.rows.Keyed.{Keyed}
use Rattle.deneva_base.specs.Keys.{key_eq, number_lt}
use Rattle.protocol_rules.specs.History.{Yea}
use Rattle.protocol_rules.specs.Latest.{row_for, writes_in}
use Rattle.protocol_rules.specs.Leaving.{later, left_in as rows_in_vote, appends_in}
use Rattle.row_store.specs.declared.versions.Version.{Version as StoredVersion}
use Rattle.row_store.specs.Stores.{newest}
use Rattle.control_core.proofs.Lasts.{left_is, row_for_both, later_twice}
use Rattle.shelf.specs.Offers.{offered}
use Rattle.shelf.specs.Keeps.{version_of}

-- a version that comes
pub one_offered : (v : Option StoredVersion) (w : StoredVersion) → option_map version_of (newest v w) ≡ later (option_map version_of v) w.number (Some w.row)
one_offered None w = refl
one_offered (Some u) w = pick (number_lt u.number w.number)
  where
    pick : (b : Bool) → option_map version_of (Some (cond b w u)) ≡ cond b (Some (record { number = w.number; row = w.row })) (Some (version_of u))
    pick true = refl
    pick false = refl

-- rows that come under a number
pub offered_later : (n : Number) (rows : List Keyed) (key : Key) (v : Option StoredVersion) → option_map version_of (offered n rows key v) ≡ later (option_map version_of v) n (row_for key rows)
offered_later n [] key v = refl
offered_later n (r ∷ rows) key v = go (key_eq r.key key) (λ u. offered_later n rows key u)
  where
    go : (b : Bool) → ((u : Option StoredVersion) → option_map version_of (offered n rows key u) ≡ later (option_map version_of u) n (row_for key rows)) → option_map version_of (offered n rows key (cond b (newest v (record { number = n; row = r.row })) v)) ≡ later (option_map version_of v) n (cond b (Some r.row) (row_for key rows))
    go true rest = rest (newest v (record { number = n; row = r.row })) ∙ ap (λ x. later x n (row_for key rows)) (one_offered v (record { number = n; row = r.row })) ∙ later_twice (option_map version_of v) n (Some r.row) (row_for key rows)
    go false rest = rest v

pub committed_version : (n : Number) (ys : List Yea) (who : Attempt) (key : Key) (v : Option StoredVersion) → option_map version_of (offered n (appends_in ys who) key (offered n (writes_in ys who) key v)) ≡ later (option_map version_of v) n (row_for key (rows_in_vote ys who))
committed_version n ys who key v =
    offered_later n (appends_in ys who) key (offered n (writes_in ys who) key v)
    ∙ ap (λ x. later x n (row_for key (appends_in ys who))) (offered_later n (writes_in ys who) key v)
    ∙ later_twice (option_map version_of v) n (row_for key (writes_in ys who)) (row_for key (appends_in ys who))
    ∙ ap (later (option_map version_of v) n) (sym (ap (row_for key) (left_is ys who) ∙ row_for_both key (writes_in ys who) (appends_in ys who)))

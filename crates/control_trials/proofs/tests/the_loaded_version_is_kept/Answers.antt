use Rattle.std.proofs.Common.{◌≡◌, true, [], refl, sym, subst, arith}
use Rattle.std.specs.Prelude.{is_some}
use Rattle.row_store.specs.Stores.{row_in}
use Rattle.control_trials.specs.Trials.{trial_key}
use Rattle.control_trials.proofs.Logs.{there}
use Rattle.control_trials.proofs.tests.the_loaded_version_is_kept.Goals as goal

pub kept-requires : goal.kept-requires
kept-requires w c =
    let rows = row_in c.in_ok-two_rows.field-0 in
    let row = there (rows c.key.result) (subst (λ k. is_some (rows k) ≡ true) (sym c.key.ensures) (c.in_ok-two_rows.ensures.rows (trial_key 0) refl)) in
    (omega arith, (rows, [], row.0, c.in_ok-chains.ensures.stands, row.1))

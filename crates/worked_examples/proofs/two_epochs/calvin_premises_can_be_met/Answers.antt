-- Computed, but for the setting and what the laws give of it.
use Rattle.std.proofs.Common.{refl, inl, arith}
use Rattle.std.specs.Fmt.{digits}
use Rattle.csv.specs.Writing.{escaped, fields_text, is_blank}
use Rattle.txn_program.specs.Valid.{IsValid}
use Rattle.server_core.specs.CalvinProper.{Valid, Forms, Limits}
use Rattle.server_core.specs.Configs.{IsConfig}
use Rattle.server_core.specs.Picks.{position, begun}
use Rattle.server_core.specs.declared.schedules.Schedule.TheVariants.{Fifo}
use Rattle.server_core.proofs.configured.CalvinSettings.{valid, forms, limits}
use Rattle.server_core.proofs.flight.AnyDeliveries.{position_picks}
use Rattle.calvin_laws.proofs.Configured.{picked_quiet}
use Rattle.calvin_laws.proofs.counts.Deliveries.{schedule_run}
use Rattle.calvin_laws.proofs.counts.Fits.{nodes_fit}
use Rattle.calvin_laws.proofs.order.TakenBatches.{ready_by_rule}
use Rattle.worked_examples.specs.TwoEpochs.{by_calvin, its_setting, run_after, handled_after, nth}
use Rattle.worked_examples.specs.Workloads.{two_epochs}
use Rattle.worked_examples.proofs.two_epochs.calvin_premises_can_be_met.Goals as goal

is_valid : IsValid two_epochs
is_valid = refl

in_range : IsConfig by_calvin
in_range = record {
  some_parts = omega arith;
  few_parts = omega arith;
  some_attempts = omega arith;
  few_attempts = omega arith;
  some_open = omega arith;
  few_open = omega arith;
}

proper : Valid its_setting
proper = valid by_calvin two_epochs is_valid in_range

formed : Forms its_setting
formed = forms by_calvin two_epochs is_valid

limited : Limits its_setting
limited = limits by_calvin two_epochs is_valid in_range

pub returns : goal.returns
unfolding digits escaped fields_text is_blank
returns c =
    let run = schedule_run its_setting proper (position Fifo) 0 13 (begun by_calvin two_epochs) refl in
    record {
      workload = is_valid;
      config = in_range;
      setting = (proper, formed, limited);
      epochs = refl;
      order = refl;
      second = refl;
      before = (inl refl, inl (omega arith));
      picks = position_picks Fifo;
      quiet = picked_quiet by_calvin two_epochs refl in_range is_valid Fifo;
      run = run;
      fit = nodes_fit its_setting proper formed (run_after 13).entries (run_after 13).flight run 1;
      flies = inl refl;
      handled = inl refl;
      next = refl;
      by_batch = (refl, refl);
      blocked = (refl, refl);
      finishes = (refl, refl);
      ready = ready_by_rule its_setting proper 1 (handled_after 14 1) (nth 2) refl;
      access = (inl refl, refl);
      report = refl;
    }

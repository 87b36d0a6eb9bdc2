use Rattle.std.proofs.Common.{◌∙◌, ◌++◌, List, map, sym, ap, append-nil}
use Rattle.std.proofs.lemmas.List.{drop_all}
use Rattle.std.specs.Prelude.{filter, Option}
use Rattle.std.specs.List.{filter_map}
use Rattle.deneva_base.specs.declared.rows.Keyed.{Keyed}
use Rattle.txn_program.specs.declared.programs.YcsbStep.{YcsbStep}
use Rattle.tpcc_rules.specs.ReadRows.{as_read}
use Rattle.txn_program.specs.Transactions.{is_within, written}
use Rattle.txn_program.proofs.Within.{within_by_key}
use Rattle.txn_program.proofs.effects.ycsb_writes.Goals as goal

pub returns : goal.returns
returns c =
    let write : YcsbStep → Option Keyed = written (map as_read c.args.rows.now) in
    let made : List YcsbStep → List Keyed = λ steps. filter (λ (r : Keyed). is_within c.args.made r.key) (filter_map write steps) in
    let none_left = drop_all c.loop-step.step-index c.args.steps.now c.loop-step-test.false in
    sym (append-nil c.loop-step.writes)
    ∙ ap (λ steps. c.loop-step.writes ++ made steps) (sym none_left)
    ∙ c.loop-step.invariant
    ∙ within_by_key c.args.made (filter_map write c.args.steps.now)

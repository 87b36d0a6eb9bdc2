use Rattle.workload_text.proofs.ValidFiles.{prefix_valid, prefix_rising}
use Rattle.workload_text.proofs.lines.parse_prefix.Goals as goal

pub returns-clause-valid : goal.returns-clause-valid
returns-clause-valid c = prefix_valid c.new-records.result _ c.in_ok-work.work c.in_ok-ended.ensures.answer c.in_ok-work.ensures

pub returns-clause-order : goal.returns-clause-order
returns-clause-order c = prefix_rising c.new-records.result _ c.in_ok-work.work c.in_ok-ended.ensures.answer c.in_ok-work.ensures

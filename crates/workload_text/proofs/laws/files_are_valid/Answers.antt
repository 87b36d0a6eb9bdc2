use Rattle.workload_text.proofs.ValidFiles.{reads_valid, reads_rising}
use Rattle.workload_text.proofs.laws.files_are_valid.Goals as goal

pub returns-clause-valid : goal.returns-clause-valid
returns-clause-valid c = reads_valid

pub returns-clause-order : goal.returns-clause-order
returns-clause-order c = reads_rising

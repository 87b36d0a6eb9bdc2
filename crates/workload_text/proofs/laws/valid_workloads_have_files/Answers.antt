use Rattle.workload_text.proofs.FileOf.{some_file}
use Rattle.workload_text.proofs.laws.valid_workloads_have_files.Goals as goal

pub returns : goal.returns
returns c = some_file

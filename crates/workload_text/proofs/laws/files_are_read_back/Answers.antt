use Rattle.workload_text.proofs.FileOf.{sorted_back}
use Rattle.workload_text.proofs.laws.files_are_read_back.Goals as goal

pub returns : goal.returns
returns c = sorted_back

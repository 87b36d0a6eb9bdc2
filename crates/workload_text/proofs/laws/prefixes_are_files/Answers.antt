use Rattle.records.specs.Records.{records_of}
use Rattle.workload_text.proofs.Onward.{taken_from}
use Rattle.workload_text.proofs.laws.prefixes_are_files.Goals as goal

pub returns : goal.returns
returns c = λ bytes p. taken_from (records_of bytes) p

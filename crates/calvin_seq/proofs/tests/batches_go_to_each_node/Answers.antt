use Rattle.calvin_seq.proofs.Trying.{ten_valid}
use Rattle.calvin_seq.proofs.tests.batches_go_to_each_node.Goals as goal

pub new-requires-clause-valid : goal.new-requires-clause-valid
new-requires-clause-valid g c = ten_valid c.in_ok-work.work c.in_ok-work.ensures

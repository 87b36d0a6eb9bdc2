use Rattle.calvin_seq.proofs.Trying.{ten_valid}
use Rattle.calvin_seq.proofs.tests.the_node_with_most_tells_the_epochs.Goals as goal

pub epochs-requires-clause-valid : goal.epochs-requires-clause-valid
epochs-requires-clause-valid g c = ten_valid c.in_ok-work.work c.in_ok-work.ensures

pub epochs-requires-2-clause-valid : goal.epochs-requires-2-clause-valid
epochs-requires-2-clause-valid g c = ten_valid c.in_ok-work.work c.in_ok-work.ensures

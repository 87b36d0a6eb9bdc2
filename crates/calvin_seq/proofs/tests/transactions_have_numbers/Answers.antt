use Rattle.calvin_seq.proofs.Trying.{ten_valid}
use Rattle.calvin_seq.proofs.tests.transactions_have_numbers.Goals as goal

pub numbers_of-requires-clause-valid : goal.numbers_of-requires-clause-valid
numbers_of-requires-clause-valid g c = ten_valid c.in_ok-work.work c.in_ok-work.ensures

-- The laws are lemmas.
use Rattle.protocol_rules.proofs.NoWaitServed as N
use Rattle.protocol_rules.proofs.WaitDieServed as W
use Rattle.protocol_rules.proofs.StampsServed as S
use Rattle.protocol_rules.proofs.MaatServed as M
use Rattle.protocol_rules.proofs.laws.rules_serve.Goals as goal

pub returns : goal.returns
returns c = record {
  no_wait = (N.lawful, N.naming, N.grows, N.waits_law);
  wait_die = (W.lawful, W.naming, W.grows, W.waits_law);
  timestamp = (S.timestamp_lawful, S.timestamp_naming, S.timestamp_grows, S.timestamp_waits);
  mvcc = λ keep. (S.mvcc_lawful keep, S.mvcc_naming keep, S.mvcc_grows keep, S.mvcc_waits keep);
  maat = λ span. (M.lawful span, M.naming span, M.grows span, M.waits span);
}

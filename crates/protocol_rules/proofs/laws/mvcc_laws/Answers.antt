-- The laws are lemmas.
use Rattle.std.proofs.Common.{true}
use Rattle.protocol_rules.specs.Mvcc.{mvcc}
use Rattle.protocol_rules.proofs.Stamping.{windows_law, waits_law, once_law, commit_keys, abort_keys}
use Rattle.protocol_rules.proofs.Mvccs.{stamping}
use Rattle.protocol_rules.proofs.laws.mvcc_laws.Goals as goal

pub returns : goal.returns
returns c = record {
  windows = λ keep loaded h o. windows_law true loaded (mvcc keep loaded) (stamping keep loaded) h o;
  waits = λ keep loaded h o. waits_law true loaded (mvcc keep loaded) (stamping keep loaded) h o;
  wakes = λ keep loaded h o. once_law true loaded (mvcc keep loaded) (stamping keep loaded) h o;
  commit_tries = λ keep loaded h who number o. (stamping keep loaded).commit h who number o;
  abort_tries = λ keep loaded h who o. (stamping keep loaded).abort h who o;
  commit_keys = λ keep loaded h who number a o i n. commit_keys true loaded (mvcc keep loaded) (stamping keep loaded) h who number a o i n;
  abort_keys = λ keep loaded h who a o i n. abort_keys true loaded (mvcc keep loaded) (stamping keep loaded) h who a o i n;
}

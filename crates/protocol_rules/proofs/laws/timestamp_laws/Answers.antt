-- The laws are lemmas.
use Rattle.std.proofs.Common.{false}
use Rattle.protocol_rules.specs.Timestamp.{timestamp}
use Rattle.protocol_rules.proofs.Stamping.{windows_law, waits_law, once_law, commit_keys, abort_keys}
use Rattle.protocol_rules.proofs.Timestamps.{stamping}
use Rattle.protocol_rules.proofs.laws.timestamp_laws.Goals as goal

pub returns : goal.returns
returns c = record {
  windows = λ loaded h o. windows_law false loaded (timestamp loaded) (stamping loaded) h o;
  waits = λ loaded h o. waits_law false loaded (timestamp loaded) (stamping loaded) h o;
  wakes = λ loaded h o. once_law false loaded (timestamp loaded) (stamping loaded) h o;
  commit_tries = λ loaded h who number o. (stamping loaded).commit h who number o;
  abort_tries = λ loaded h who o. (stamping loaded).abort h who o;
  commit_keys = λ loaded h who number a o i n. commit_keys false loaded (timestamp loaded) (stamping loaded) h who number a o i n;
  abort_keys = λ loaded h who a o i n. abort_keys false loaded (timestamp loaded) (stamping loaded) h who a o i n;
}

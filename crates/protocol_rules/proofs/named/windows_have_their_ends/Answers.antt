-- The laws are lemmas.
use Rattle.protocol_rules.proofs.Ends.{lock_window, range}
use Rattle.protocol_rules.proofs.named.windows_have_their_ends.Goals as goal

pub returns : goal.returns
returns c = record { locks = lock_window; maat = range }

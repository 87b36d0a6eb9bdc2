-- The laws are lemmas.
use Rattle.calvin_laws.proofs.counts.Fits.{nodes_fit}
use Rattle.calvin_laws.proofs.counts.Limits.{each_fits}
use Rattle.calvin_laws.proofs.runs.calvin_mails_fit.Goals as goal

pub returns : goal.returns
returns c = record { law = λ s H flight v f l run. each_fits s l v f H flight run; nodes = λ s H flight p v f run. nodes_fit s v f H flight run p }

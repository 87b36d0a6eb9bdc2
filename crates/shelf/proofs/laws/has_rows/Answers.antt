-- The laws are lemmas.
use Rattle.shelf.proofs.Keeps.{committed_rows, aborted_rows}
use Rattle.shelf.proofs.Offering.{one_offered}
use Rattle.shelf.proofs.Versions.{reads_latest, present, promised, rows_are}
use Rattle.shelf.proofs.laws.has_rows.Goals as goal

pub returns : goal.returns
returns c = record {
  commit = λ copied loaded h who s s' t u number e k. committed_rows t u e k;
  abort = λ copied loaded h who s s' t e k. aborted_rows t e k;
  offer = one_offered;
  read = λ copied loaded rule h s t o key row e mode. reads_latest rule t o key row e mode;
  end = λ copied loaded rule h s t o w who u. (present rule t o w who u, promised rule t o who u);
  left = λ copied loaded rule h s t o law key. rows_are rule t o law key;
}

-- The laws are lemmas.
use Rattle.std.proofs.Common.{refl}
use Rattle.calvin_laws.proofs.node.Steps.{owned}
use Rattle.calvin_laws.proofs.node.StoredRows.{greatest_rows, now_finish}
use Rattle.calvin_laws.proofs.schedulers.calvin_rows_are_greatest.Goals as goal

pub returns : goal.returns
returns c = record {
  greatest = λ s p ms v. greatest_rows s v p ms;
  finish = λ s p ms x q rows z a v fit f n ix iz ia e. now_finish s v p ms (owned s p ms fit) x q rows f n a.key z a ix iz ia refl e;
}

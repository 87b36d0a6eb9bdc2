-- The laws are lemmas.
use Rattle.calvin_laws.proofs.node.ActiveLists.{ready_among, became_active, active_batch, active_finish, active_same}
use Rattle.calvin_laws.proofs.schedulers.active_lists_are_kept.Goals as goal

pub returns : goal.returns
returns c = record {
  ready = λ s p ms x v i. ready_among s v p ms x i;
  became = λ s p m ms v fit. became_active s v p m ms fit;
  batch = λ s p e q ids ms v fit. active_batch s v p e q ids ms fit;
  finish = λ s p q x rows ms v f. active_finish s v p x q rows ms f;
  same = λ s p q x rows ms v f. active_same s v p x q rows ms f;
}

-- The laws are lemmas.
use Rattle.calvin_laws.proofs.node.Steps.{batch_news, rows_news}
use Rattle.calvin_laws.proofs.schedulers.news_are_local.Goals as goal

pub returns : goal.returns
returns c = record {
  batch = λ s p e q ids ms z h n. batch_news s p e q ids ms z h n;
  rows = λ s p q x rows ms z h n. rows_news s p x q rows ms z h n;
}

-- The laws are lemmas.
use Rattle.protocol_rules.proofs.Causes.{version_later_first, trimmed_first}
use Rattle.protocol_rules.proofs.named.mvcc_names_the_greatest.Goals as goal

pub returns : goal.returns
returns c = record {
  read = λ keep loaded h who stamp key mode k top e. version_later_first loaded h who stamp key mode keep k top e;
  trimmed = λ keep loaded h who stamp key mode k least e. trimmed_first loaded h who stamp key mode keep k least e;
}

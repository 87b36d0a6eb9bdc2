use Rattle.std.proofs.Common.{List, ap, rules}
use Rattle.std.proofs.lemmas.Fn.{filter_same}
use Rattle.chain_control.specs.declared.links.ReadVersion.{ReadVersion}
use Rattle.chain_control.specs.Chains.{Chain}
use Rattle.chain_control.proofs.line.KeyVersions.trim.Goals as goal

pub returns : goal.returns
returns c =
    let with : List ReadVersion → Chain = λ ls. record { requests = c.args.self.now.requests.items; links = ls; floor = c.args.self.now.floor } in
    ap with (filter_same _ _ _ (λ x b f' k. search rules) _ _ c.retain.ensures.filtered)

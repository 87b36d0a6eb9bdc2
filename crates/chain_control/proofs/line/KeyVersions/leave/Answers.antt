use Rattle.std.proofs.Common.{◌≡◌, List, ap, rules, arith, length, filter, not}
use Rattle.std.proofs.lemmas.Fn.{filter_same}
use Rattle.deneva_base.specs.Keys.{attempt_eq}
use Rattle.chain_control.specs.declared.requests.Request.{Request}
use Rattle.chain_control.specs.Chains.{Chain}
use Rattle.chain_control.proofs.Lists.{one_less}
use Rattle.chain_control.proofs.line.KeyVersions.leave.Goals as goal

pub returns-clause-chain : goal.returns-clause-chain
returns-clause-chain c =
    let with : List Request → Chain = λ rs. record { requests = rs; links = c.args.self.now.links.items; floor = c.args.self.now.floor } in
    ap with (filter_same _ _ _ (λ x b f' k. search rules) _ _ c.retain.ensures.filtered)

pub returns-clause-room : goal.returns-clause-room
returns-clause-room c has =
    let left : c.retain.new.self.items ≡ filter (λ r. not (attempt_eq r.who c.args.who)) c.args.self.now.requests.items = filter_same _ _ _ (λ x b f' k. search rules) _ _ c.retain.ensures.filtered in
    let less = one_less (λ (r : Request). attempt_eq r.who c.args.who) c.args.self.now.requests.items has in
    let same = ap (λ (l : List Request). length l) left in
    omega (arith, less, same, c.args.self.now.room, c.retain.new.self.ok.0, c.args.self.now.requests.ok.0)

use Rattle.std.proofs.Common.{◌≡◌, sym, ◌∙◌}
use Rattle.server_core.specs.contracts.messages.MsgPartialEq.TheImpl as msg
use Rattle.server_core.proofs.Alike.{messages}
use Rattle.server_core.proofs.messages.Msg.is_same.Goals as goal

pub returns : goal.returns
returns c =
    let e : c.eq.result ≡ msg.ghosts.eq c.args.self.now c.args.other.now = c.eq.ensures in
    let decides = messages c.args.self.now c.args.other.now in
    (λ t. decides.0 (sym e ∙ t), λ q. e ∙ decides.1 q)

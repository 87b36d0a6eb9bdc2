-- Lists of messages, each of which fits those before it.
use Rattle.std.specs.Prelude.{⊤, List, [], ◌∷◌}
use Rattle.server_core.specs.Roles.{Role, FitsRole}
use Rattle.server_core.specs.declared.messages.Msg.{Msg}
use Rattle.node_trials.specs.declared.steps.Step.{Step}

unfoldable pub FitInTurn : Role → List Msg → List Step → Type 0
FitInTurn r ms [] = ⊤
FitInTurn r ms (x ∷ xs) = FitsRole r x.from x.msg ms × FitInTurn r (x.msg ∷ ms) xs

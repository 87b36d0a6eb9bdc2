use Rattle.std.proofs.Common.{◌≡◌, take, eqb}
use Rattle.std.specs.List.{filter}
use Rattle.txn_program.specs.Serial.{all_ids}
use Rattle.server_core.specs.Roles.{setting_of}
use Rattle.server_core.specs.Setting.{home}
use Rattle.server_core.proofs.role.Role.homes.Given as goal

-- those of the ids so far are found
abbrev pub invariant-loop-at : goal.invariant-loop-at
invariant-loop-at l = l.homes.items ≡ filter (λ x. eqb (home (setting_of l.self) x) l.self.part) (take l.at (all_ids l.self.work.now))

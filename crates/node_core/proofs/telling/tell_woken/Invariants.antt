use Rattle.std.proofs.Common.{◌≡◌, ◌++◌, ◌≤◌, length}
use Rattle.deneva_base.specs.Lists.{IsIn}
use Rattle.deneva_base.specs.declared.answers.Wake.{Wake}
use Rattle.txn_program.specs.Serial.{all_ids}
use Rattle.server_core.specs.Participant.{wake_mails}
use Rattle.server_core.specs.Roles.{setting_of}
use Rattle.node_core.proofs.telling.tell_woken.Given as goal

-- what was told and what is left lead on to the end
abbrev pub invariant-loop-wake : goal.invariant-loop-wake
invariant-loop-wake l =
    record {
      told : l.out.mails ++ wake_mails (setting_of l.role) l.role.part l.wake-iterator.rest.items ≡ l.fn.out.mails ++ wake_mails (setting_of l.role) l.role.part l.fn.woken;
      known : (w : Wake) → IsIn w l.wake-iterator.rest.items → IsIn w.who.txn (all_ids l.role.work.now);
      room : length l.wake-iterator.rest.items ≤ l.out.spare;
    }

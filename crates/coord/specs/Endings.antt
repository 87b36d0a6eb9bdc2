-- The message that an ending is.
use Rattle.deneva_base.specs.declared.numbers.Attempt.{Attempt}
use Rattle.server_core.specs.declared.messages.Msg.{Msg}
use Rattle.server_core.specs.declared.messages.Msg.TheVariants as messages
use Rattle.coord.specs.declared.saying.Ending.{Ending}
use Rattle.coord.specs.declared.saying.Ending.TheVariants.{Commit, Abort}

abbrev pub message_of_ending : Attempt → Ending → Msg
message_of_ending who (Commit number) = messages.Commit who number
message_of_ending who Abort = messages.Abort who

-- What a decision stands for, and which votes are a No.
use Rattle.std.specs.Prelude.{Bool, true, false}
use Rattle.deneva_base.specs.declared.numbers.Attempt.{Attempt}
use Rattle.deneva_base.specs.declared.answers.Vote.{Vote}
use Rattle.deneva_base.specs.declared.answers.Vote.TheVariants.{Yes, No}
use Rattle.server_core.specs.declared.ballots.Ballot.{Ballot}
use Rattle.server_core.specs.declared.messages.Msg.{Msg}
use Rattle.server_core.specs.declared.messages.Msg.TheVariants as messages
use Rattle.coord.specs.declared.ballots.Decision.{Decision}
use Rattle.coord.specs.declared.ballots.Decision.TheVariants.{Commit, Abort}

abbrev pub message_of : Attempt → Decision → Msg
message_of who (Commit n) = messages.Commit who (record { n = n; id = who.txn })
message_of who Abort = messages.Abort who

abbrev pub is_no : Vote → Bool
is_no (Yes lo hi) = false
is_no (No cause) = true

abbrev pub says_no : Ballot → Bool
says_no b = is_no b.vote

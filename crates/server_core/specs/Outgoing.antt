-- What is seen of an outbox.
use Rattle.std.specs.Prelude.{ℕ, List}
use Rattle.server_core.specs.declared.messages.Mail.{Mail}

-- its mails, in the order said, and for how many more there is room
pub record Outgoing : Type 0 where
  pub mails : List Mail
  pub spare : ℕ

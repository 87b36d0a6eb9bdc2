use Rattle.std.proofs.Common.{◌≡◌, ◌≤◌, ◌+◌, ◌++◌, length}
use Rattle.server_core.proofs.outbox.Outbox.append_all.Given as goal

-- what is said with what is left is all, and there is room for that
abbrev pub invariant-loop-mail : goal.invariant-loop-mail
invariant-loop-mail l =
    record {
      said : l.self.mails ++ l.mail-iterator.rest.items ≡ l.fn.self.mails ++ l.fn.mails;
      spare : l.self.spare + length l.fn.mails ≡ l.fn.self.spare + length l.mail-iterator.rest.items;
      room : length l.mail-iterator.rest.items ≤ l.self.spare;
    }

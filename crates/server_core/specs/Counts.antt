-- How many mails and messages pass a test.
use Rattle.std.specs.Prelude.{ℕ, ◌+◌, List, [], ◌∷◌, ◌++◌, Bool, if◌then◌else◌}
use Rattle.server_core.specs.declared.messages.Msg.{Msg}
use Rattle.server_core.specs.declared.messages.Mail.{Mail}
use Rattle.server_core.specs.Runs.{Saying}

-- all that a node said on each of its messages
abbrev pub all_said : Saying → ℕ → List Msg → List Mail
all_said says p [] = []
all_said says p (m ∷ ms) = says p (m ∷ ms) ++ all_said says p ms

-- how many mails pass the test
abbrev pub count : (Mail → Bool) → List Mail → ℕ
count t [] = 0
count t (x ∷ xs) = (if t x then 1 else 0) + count t xs

-- how many messages pass the test
abbrev pub count_msgs : (Msg → Bool) → List Msg → ℕ
count_msgs t [] = 0
count_msgs t (m ∷ ms) = (if t m then 1 else 0) + count_msgs t ms

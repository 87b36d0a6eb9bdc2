-- What a participant says on the last of its messages: the answers and wakes of its rule.
use Rattle.std.specs.Prelude.{ℕ, List, [], ◌∷◌, map}
use Rattle.deneva_base.specs.Rows.{Rows}
use Rattle.deneva_base.specs.declared.keys.Key.{Key}
use Rattle.deneva_base.specs.declared.numbers.Attempt.{Attempt}
use Rattle.deneva_base.specs.declared.answers.Answer.{Answer}
use Rattle.deneva_base.specs.declared.answers.Answer.TheVariants.{Granted as Gives, Waits, Refused as Refuses}
use Rattle.deneva_base.specs.declared.answers.Vote.{Vote}
use Rattle.deneva_base.specs.declared.answers.Vote.TheVariants.{Yes as VotesYes, No as VotesNo}
use Rattle.deneva_base.specs.declared.answers.Wake.{Wake}
use Rattle.protocol_rules.specs.History.{Ask as Asked, Prepare as Prepared, Commit as Committed, Abort as Aborted, History}
use Rattle.protocol_rules.specs.Leaving.{rows_left}
use Rattle.protocol_rules.specs.Rules.{Rule}
use Rattle.server_core.specs.declared.messages.Msg.{Msg}
use Rattle.server_core.specs.declared.messages.Msg.TheVariants.{Ask, Granted, Refused, Prepare, Yes, No, Commit, Abort, Done, Undone}
use Rattle.server_core.specs.declared.messages.Mail.{Mail}
use Rattle.server_core.specs.Setting.{Setting, loaded_at, rule_at, home}

-- the calls that the messages make, each answered by the rule
abbrev pub call_of : Rule → History → Msg → History
call_of r h (Ask who stamp key mode) = Asked who stamp key mode (r.ask h who stamp key mode) ∷ h
call_of r h (Prepare who bound writes appends) = Prepared who bound writes appends (r.vote h who bound writes appends) ∷ h
call_of r h (Commit who number) = Committed who number (r.commit h who number) ∷ h
call_of r h (Abort who) = Aborted who (r.abort h who) ∷ h
call_of r h m = h

abbrev pub calls_of : Rule → List Msg → History
calls_of r [] = []
calls_of r (m ∷ ms) = call_of r (calls_of r ms) m

-- the local history that ms make at p
abbrev pub calls : Setting → ℕ → List Msg → History
calls s p ms = calls_of (rule_at s p) ms

abbrev pub mail_home : Setting → ℕ → Attempt → Msg → Mail
mail_home s p who m = record { from = p; to = home s who.txn; msg = m }

abbrev pub wake_mails : Setting → ℕ → List Wake → List Mail
wake_mails s p ws = map (λ w. mail_home s p w.who (Granted w.who w.key w.row w.version w.bound)) ws

abbrev pub answer_mails : Setting → ℕ → Attempt → Key → Answer → List Mail
answer_mails s p who key (Gives row version bound) = mail_home s p who (Granted who key row version bound) ∷ []
answer_mails s p who key Waits = []
answer_mails s p who key (Refuses cause) = mail_home s p who (Refused who key cause) ∷ []

abbrev pub vote_mail : Setting → ℕ → Attempt → Vote → Mail
vote_mail s p who (VotesYes lo hi) = mail_home s p who (Yes who p lo hi)
vote_mail s p who (VotesNo cause) = mail_home s p who (No who p cause)

abbrev pub participant : Setting → ℕ → Msg → List Msg → List Mail
participant s p (Ask who stamp key mode) ms = answer_mails s p who key ((rule_at s p).ask (calls s p ms) who stamp key mode)
participant s p (Prepare who bound writes appends) ms = vote_mail s p who ((rule_at s p).vote (calls s p ms) who bound writes appends) ∷ []
participant s p (Commit who number) ms = mail_home s p who (Done who p) ∷ wake_mails s p ((rule_at s p).commit (calls s p ms) who number)
participant s p (Abort who) ms = mail_home s p who (Undone who p) ∷ wake_mails s p ((rule_at s p).abort (calls s p ms) who)
participant s p m ms = []

-- the rows that the history of p leaves over those loaded at p
abbrev pub node_rows : Setting → ℕ → List Msg → Rows
node_rows s p ms key = rows_left (loaded_at s p) (calls s p ms) key

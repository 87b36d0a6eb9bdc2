-- Which transactions a run decided and which it gave up, by what their homes handled. The entries stand with the newest
-- first.
use Rattle.std.specs.Prelude.{ℕ, List, [], ◌∷◌, map, reverse, filter, Bool, Option, Some, None, if◌then◌else◌}
use Rattle.std.specs.List.{flat_map, list_all}
use Rattle.deneva_base.specs.Keys.{attempt_eq, number_lt}
use Rattle.deneva_base.specs.Lists.{insert, sort}
use Rattle.deneva_base.specs.declared.numbers.Attempt.{Attempt}
use Rattle.deneva_base.specs.declared.numbers.TxnId.{TxnId}
use Rattle.deneva_base.specs.declared.rows.Keyed.{Keyed}
use Rattle.server_core.specs.Coordinator.{reads_of}
use Rattle.server_core.specs.AttemptEnds.{attempt, at_home, all_undone, done_turn}
use Rattle.server_core.specs.GlobalOrder.{order, number}
use Rattle.server_core.specs.CalvinScheduler.{has_finished, collected}
use Rattle.server_core.specs.Received.{Reply, grants_for}
use Rattle.server_core.specs.Runs.{heard}
use Rattle.server_core.specs.Setting.{Setting, home, participants_for}
use Rattle.server_core.specs.declared.messages.Entry.{Entry}
use Rattle.server_core.specs.declared.messages.Msg.TheVariants.{Commit}
use Rattle.server_core.specs.declared.messages.Msg.{Msg}
use Rattle.server_core.specs.declared.outcomes.Decided.{Decided}
use Rattle.server_core.specs.declared.outcomes.Giveup.{Giveup}

-- a transaction that is decided with this n: what it read, and the verdict and answer of its effect on that
abbrev pub decided_as : Setting → TxnId → ℕ → List Keyed → Decided
decided_as s x n read = record {
  number = record { n = n; id = x };
  verdict = (s.effect x read).verdict;
  answer = (s.effect x read).answer;
  participants = participants_for s x;
  reads = read;
}

-- Under a voting protocol.

-- the n of the attempt's Commit
abbrev pub n_in : Attempt → ℕ → Msg → ℕ
n_in who old (Commit x number) = if attempt_eq x who then number.n else old
n_in who old m = old

abbrev pub committed_n : Attempt → List Entry → ℕ
committed_n who [] = 0
committed_n who (e ∷ H) = n_in who (committed_n who H) e.msg

-- what the attempt was granted, in the order of its accesses
abbrev pub replies : Setting → List Entry → Attempt → List Reply
replies s H who = reverse (grants_for who (at_home s H who))

abbrev pub line_of : Setting → List Entry → Attempt → Decided
line_of s H who = decided_as s who.txn (committed_n who H) (reads_of (s.accesses who.txn) (replies s H who))

abbrev pub line_if : Setting → List Entry → Option Attempt → List Decided
line_if s H None = []
line_if s H (Some who) = line_of s H who ∷ []

-- a line for each transaction for an attempt of which its home handled a Done from every participant
abbrev pub lines : Setting → List Entry → List Decided
lines s H = flat_map (λ x. line_if s H (done_turn s H x s.attempts)) s.ids

-- in rising order of their numbers
abbrev pub stands_before : Decided → Decided → Bool
stands_before k l = number_lt k.number l.number

abbrev pub put_line : Decided → List Decided → List Decided
put_line l ls = insert stands_before l ls

abbrev pub sort_lines : List Decided → List Decided
sort_lines ls = sort stands_before ls

-- a transaction whose last attempt has all its Undone is given up
abbrev pub giveups_of : Setting → List Entry → List Giveup
giveups_of s H = flat_map (λ x. if all_undone s H (attempt x s.attempts) then record { id = x; turns = s.attempts } ∷ [] else []) s.ids

-- Under Calvin.

-- a transaction whose home handled a Finished from every participant is decided, with what its home was sent
abbrev pub ordered_lines : Setting → List Entry → List Decided
ordered_lines s H =
    map (λ x. decided_as s x (number s x).n (collected s (heard (home s x) H) x))
    (filter (λ x. list_all (has_finished (heard (home s x) H) x) (participants_for s x)) (order s))

-- What the coordinator of a node says on the last of its messages.
use Rattle.std.specs.Prelude.{ℕ, suc, ◌+◌, ◌^◌, List, [], ◌∷◌, length, map, reverse, filter, slice_get, not, ◌&&◌, nat_lt, nat_le, Option, Some, None, if◌then◌else◌, ◌==◌}
use Rattle.deneva_base.specs.declared.numbers.TxnId.{TxnId}
use Rattle.deneva_base.specs.declared.numbers.Attempt.{Attempt}
use Rattle.deneva_base.specs.Modes.{reads}
use Rattle.deneva_base.specs.Lists.{greatest_by, least_by}
use Rattle.deneva_base.specs.declared.causes.Cause.{Cause}
use Rattle.deneva_base.specs.declared.causes.Bound.{Bound}
use Rattle.deneva_base.specs.declared.rows.Keyed.{Keyed}
use Rattle.deneva_base.specs.declared.answers.Vote.{Vote}
use Rattle.deneva_base.specs.declared.answers.Vote.TheVariants.{Yes as VotesYes, No as VotesNo}
use Rattle.server_core.specs.declared.messages.Msg.{Msg}
use Rattle.server_core.specs.declared.messages.Msg.TheVariants.{Start, Ask, Granted, Refused, Prepare, Yes, No, Commit, Abort, Done, Undone}
use Rattle.server_core.specs.declared.messages.Mail.{Mail}
use Rattle.deneva_base.specs.declared.keys.Access.{Access}
use Rattle.tpcc_rules.specs.declared.effects.Effect.{Effect}
use Rattle.server_core.specs.Effects.{written, appended}
use Rattle.server_core.specs.Setting.{Setting, homes, partitions_of, take_first}
use Rattle.deneva_base.specs.Partitions.{partition_of}
use Rattle.server_core.specs.Received.{Reply, grants_for, votes_for, refused_for, closes_for, all_voted, all_closed}
use Rattle.server_core.specs.declared.ballots.Ballot.{Ballot}
use Rattle.server_core.specs.Stamps.{stamped, stamp_from}

-- the partitions that the attempt has asked
abbrev pub asked_partitions : Setting → List Msg → Attempt → List ℕ
asked_partitions s ms who = partitions_of s.parts (take_first (suc (length (grants_for who ms))) (s.accesses who.txn))

-- the partitions to which its end was said: those asked after a refusal, else the participants
abbrev pub told : Setting → List Msg → Attempt → List ℕ
told s ms who = if refused_for who ms then asked_partitions s ms who else partitions_of s.parts (s.accesses who.txn)

-- each transaction that is over made room for one more
abbrev pub overs : Setting → List Msg → ℕ
overs s [] = 0
overs s (Done who part ∷ ms) = if all_closed (part ∷ closes_for who ms) (told s ms who) then suc (overs s ms) else overs s ms
overs s (Undone who part ∷ ms) = if all_closed (part ∷ closes_for who ms) (told s ms who) && not (nat_lt who.turn s.attempts) then suc (overs s ms) else overs s ms
overs s (m ∷ ms) = overs s ms

abbrev pub mail_start : ℕ → Option TxnId → List Mail
mail_start p None = []
mail_start p (Some x) = record { from = p; to = p; msg = Start (record { txn = x; turn = 1 }) } ∷ []

abbrev pub next_start : Setting → ℕ → ℕ → List Mail
next_start s p n = mail_start p (slice_get (homes s p) (s.limit + n))

abbrev pub ask_of : Setting → ℕ → Attempt → ℕ → Access → Mail
ask_of s p who stamp a = record { from = p; to = partition_of a.key s.parts; msg = Ask who stamp a.key a.mode }

abbrev pub at_part : ℕ → ℕ → List Keyed → List Keyed
at_part parts q ws = filter (λ w. partition_of w.key parts == q) ws

-- the greatest bound, and the first access with it
abbrev pub greatest_bound : Bound → List Reply → Bound
greatest_bound b [] = b
greatest_bound b (r ∷ rs) = greatest_bound (if nat_lt b.n r.bound then record { n = r.bound; key = r.key } else b) rs

abbrev pub bound_of : List Reply → Bound
bound_of [] = record { n = 0; key = record { table = 0; a = 0; b = 0; c = 0 } }
bound_of (r ∷ rs) = greatest_bound (record { n = r.bound; key = r.key }) rs

abbrev pub prepare_to : Setting → ℕ → Attempt → Bound → Effect → ℕ → Mail
prepare_to s p who bound e q = record { from = p; to = q; msg = Prepare who bound (at_part s.parts q (written e)) (at_part s.parts q (appended e)) }

-- what the accesses that read were granted, where rs are the replies in the order of the accesses
abbrev pub reads_of : List Access → List Reply → List Keyed
reads_of [] rs = []
reads_of (a ∷ more) [] = []
reads_of (a ∷ more) (r ∷ rs) = if reads a.mode then record { key = a.key; row = r.row } ∷ reads_of more rs else reads_of more rs

abbrev pub effect_of : Setting → TxnId → List Reply → Effect
effect_of s x rs = s.effect x (reads_of (s.accesses x) rs)

abbrev pub next_ask : Setting → ℕ → Attempt → ℕ → List Reply → Option Access → List Mail
next_ask s p who stamp rs (Some a) = ask_of s p who stamp a ∷ []
next_ask s p who stamp rs None =
    map (prepare_to s p who (bound_of rs) (effect_of s who.txn rs)) (partitions_of s.parts (s.accesses who.txn))

-- the cause of the least partition that said No
abbrev pub no_in : Option (ℕ × Cause) → ℕ → Vote → Option (ℕ × Cause)
no_in best part (VotesYes lo hi) = best
no_in None part (VotesNo cause) = Some (part, cause)
no_in (Some x) part (VotesNo cause) = if nat_lt part x.0 then Some (part, cause) else Some x

abbrev pub first_no : Option (ℕ × Cause) → List Ballot → Option (ℕ × Cause)
first_no best [] = best
first_no best (b ∷ bs) = first_no (no_in best b.part b.vote) bs

abbrev pub lo_of : Vote → ℕ
lo_of (VotesYes lo hi) = lo
lo_of (VotesNo cause) = 0

abbrev pub hi_of : Vote → ℕ
hi_of (VotesYes lo hi) = hi
hi_of (VotesNo cause) = 2 ^ 63

abbrev pub greatest_lo : List Ballot → ℕ
greatest_lo bs = greatest_by (λ b. lo_of b.vote) bs

abbrev pub least_hi : List Ballot → ℕ
least_hi bs = least_by (λ b. hi_of b.vote) bs

abbrev pub decision : Attempt → List Ballot → Option (ℕ × Cause) → Msg
decision who bs (Some x) = Abort who
decision who bs None = if nat_le (greatest_lo bs) (least_hi bs) then Commit who (record { n = greatest_lo bs; id = who.txn }) else Abort who

abbrev pub to_all : ℕ → Msg → List ℕ → List Mail
to_all p m qs = map (λ q. record { from = p; to = q; msg = m }) qs

-- after a vote: nothing until every participant has voted
abbrev pub polled : Setting → ℕ → Attempt → List Ballot → List Mail
polled s p who bs = if all_voted bs (partitions_of s.parts (s.accesses who.txn)) then to_all p (decision who bs (first_no None bs)) (partitions_of s.parts (s.accesses who.txn)) else []

-- the coordinator, on the last message with those before it
abbrev pub coordinator : Setting → ℕ → Msg → List Msg → List Mail
coordinator s p (Start who) ms = next_ask s p who (stamp_from s p (Start who ∷ ms) (stamped s who)) [] (slice_get (s.accesses who.txn) 0)
coordinator s p (Granted who key row version bound) ms =
    next_ask s p who (stamp_from s p ms (stamped s who)) (reverse (record { row = row; bound = bound; key = key } ∷ grants_for who ms)) (slice_get (s.accesses who.txn) (suc (length (grants_for who ms))))
coordinator s p (Refused who key cause) ms = to_all p (Abort who) (asked_partitions s ms who)
coordinator s p (Yes who part lo hi) ms = polled s p who (record { part = part; vote = VotesYes lo hi } ∷ votes_for who ms)
coordinator s p (No who part cause) ms = polled s p who (record { part = part; vote = VotesNo cause } ∷ votes_for who ms)
coordinator s p (Done who part) ms =
    if all_closed (part ∷ closes_for who ms) (told s ms who) then next_start s p (overs s ms) else []
coordinator s p (Undone who part) ms =
    if all_closed (part ∷ closes_for who ms) (told s ms who) then if nat_lt who.turn s.attempts then record { from = p; to = p; msg = Start (record { txn = who.txn; turn = suc who.turn }) } ∷ []
    else next_start s p (overs s ms)
    else []
coordinator s p m ms = []

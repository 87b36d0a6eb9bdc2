-- The attempts that were aborted, each with its cause and the entry at which it was found.
use Rattle.std.specs.Prelude.{ℕ, zero, suc, List, [], ◌∷◌, ◌++◌, Bool, true, false, ◌&&◌, nat_lt, Option, Some, None, if◌then◌else◌, ◌==◌}
use Rattle.std.specs.List.{flat_map}
use Rattle.deneva_base.specs.declared.keys.Key.{Key}
use Rattle.deneva_base.specs.declared.numbers.TxnId.{TxnId}
use Rattle.deneva_base.specs.declared.numbers.Attempt.{Attempt}
use Rattle.deneva_base.specs.Keys.{key_eq, attempt_eq}
use Rattle.deneva_base.specs.declared.causes.Cause.{Cause}
use Rattle.deneva_base.specs.declared.causes.Cause.TheVariants.{Apart}
use Rattle.deneva_base.specs.declared.answers.Vote.{Vote}
use Rattle.server_core.specs.declared.messages.Msg.{Msg}
use Rattle.server_core.specs.declared.messages.Msg.TheVariants.{Ask, Refused, Prepare, Yes, No}
use Rattle.server_core.specs.declared.messages.Entry.{Entry}
use Rattle.server_core.specs.Setting.{Setting, home, participants}
use Rattle.server_core.specs.Received.{votes_for, started_for, all_voted}
use Rattle.server_core.specs.declared.ballots.Ballot.{Ballot}
use Rattle.server_core.specs.Coordinator.{first_no, greatest_lo, least_hi, lo_of, hi_of}
use Rattle.server_core.specs.declared.outcomes.AbortLine.{AbortLine}
use Rattle.server_core.specs.AttemptEnds.{attempt, at_home}

abbrev pub is_ask_of : Attempt → Key → Msg → Bool
is_ask_of who key (Ask x stamp k mode) = attempt_eq x who && key_eq k key
is_ask_of who key m = false

abbrev pub is_prepare_of : Attempt → Msg → Bool
is_prepare_of who (Prepare x bound writes appends) = attempt_eq x who
is_prepare_of who m = false

abbrev pub is_vote_of : Attempt → Msg → Bool
is_vote_of who (Yes x part lo hi) = attempt_eq x who
is_vote_of who (No x part cause) = attempt_eq x who
is_vote_of who m = false

-- the newest entry that passes
abbrev pub newest : (Entry → Bool) → List Entry → Option Entry
newest t [] = None
newest t (e ∷ H) = if t e then Some e else newest t H

abbrev pub line_at : Attempt → Cause → Option Entry → List AbortLine
line_at who cause None = []
line_at who cause (Some e) = record { who = who; place = e.place; node = e.node; cause = cause } ∷ []

pub record Refusal : Type 0 where
  pub key : Key
  pub cause : Cause

abbrev pub refusal_for : Attempt → List Msg → Option Refusal
refusal_for who [] = None
refusal_for who (Refused x key cause ∷ ms) = if attempt_eq x who then Some (record { key = key; cause = cause }) else refusal_for who ms
refusal_for who (m ∷ ms) = refusal_for who ms

-- the least partition whose vote has this end
abbrev pub lesser : Bool → ℕ → Option ℕ → Option ℕ
lesser false p o = o
lesser true p None = Some p
lesser true p (Some q) = Some (if nat_lt p q then p else q)

abbrev pub least_part : (Vote → ℕ) → ℕ → List Ballot → Option ℕ
least_part end n [] = None
least_part end n (b ∷ bs) = lesser (end b.vote == n) b.part (least_part end n bs)

abbrev pub part_or : Option ℕ → ℕ
part_or None = 0
part_or (Some p) = p

abbrev pub apart_of : List Ballot → Cause
apart_of bs = Apart (greatest_lo bs) (part_or (least_part lo_of (greatest_lo bs) bs)) (least_hi bs) (part_or (least_part hi_of (least_hi bs) bs))

abbrev pub vote_abort : Setting → List Entry → Attempt → List Ballot → Option (ℕ × Cause) → List AbortLine
vote_abort s H who bs (Some c) = line_at who c.1 (newest (λ e. e.node == c.0 && is_prepare_of who e.msg) H)
vote_abort s H who bs None = if nat_lt (least_hi bs) (greatest_lo bs) then line_at who (apart_of bs) (newest (λ e. e.node == home s who.txn && is_vote_of who e.msg) H) else []

abbrev pub abort_lines : Setting → List Entry → Attempt → Option Refusal → List AbortLine
abort_lines s H who (Some r) = line_at who r.cause (newest (λ e. is_ask_of who r.key e.msg) H)
abort_lines s H who None =
    if started_for who (at_home s H who) && all_voted (votes_for who (at_home s H who)) (participants s who) then vote_abort s H who (votes_for who (at_home s H who)) (first_no None (votes_for who (at_home s H who))) else []

abbrev pub turns : Setting → List Entry → TxnId → ℕ → List AbortLine
turns s H x zero = []
turns s H x (suc n) = turns s H x n ++ abort_lines s H (attempt x (suc n)) (refusal_for (attempt x (suc n)) (at_home s H (attempt x (suc n))))

abbrev pub aborts_of : Setting → List Entry → List AbortLine
aborts_of s H = flat_map (λ x. turns s H x s.attempts) s.ids

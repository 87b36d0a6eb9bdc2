-- The account of a run, and its stamps.
use Rattle.std.proofs.Common.{List, sym, subst}
use Rattle.deneva_base.specs.declared.config.Config.{Config}
use Rattle.txn_program.specs.Valid.{IsValid}
use Rattle.txn_program.specs.declared.programs.Workload.{Workload}
use Rattle.protocol_rules.proofs.Voting.{choice}
use Rattle.protocol_rules.specs.Protocols.{IsVoting}
use Rattle.server_core.proofs.configured.Limiteds.{limits}
use Rattle.server_core.proofs.configured.ValidSettings.{valid}
use Rattle.server_core.specs.AbortsListed.{ListsAborts}
use Rattle.server_core.specs.Configs.{IsConfig}
use Rattle.server_core.specs.Outcome.{outcome}
use Rattle.server_core.specs.Proper.{Valid}
use Rattle.server_core.specs.RunAccount.{RunAccount}
use Rattle.server_core.specs.Says.{IsRun}
use Rattle.server_core.specs.Setting.{Setting, setting}
use Rattle.server_core.specs.VotingStamps.{StampsTell}
use Rattle.server_core.specs.declared.messages.Entry.{Entry}
use Rattle.server_core.specs.declared.messages.Mail.{Mail}
use Rattle.server_core.specs.declared.outcomes.Outcome.{Outcome}
use Rattle.voting_laws.proofs.Voted.{voting_run, outcome_is}
use Rattle.voting_laws.proofs.named.OneLine.{lists_aborts}
use Rattle.voting_laws.proofs.account.Sentences.{idle, asks, votes, closes}
use Rattle.voting_laws.proofs.account.TurnsTold.{turns, room}
use Rattle.voting_laws.proofs.fits.Account.{Good}
use Rattle.voting_laws.proofs.fits.Conditions.{one_stamp, stamp_positive, stamps_apart}
use Rattle.voting_laws.proofs.numbers.Numbers.{run_good}

pub accounted : (s : Setting) (v : Valid s) (H : List Entry) (flight : List Mail) → Good s H flight → RunAccount s H flight
accounted s v H flight g = record {
  idle = λ who e. idle s v H flight g who e;
  asks = λ who b p e. asks s v H flight g who b p e;
  votes = λ who p e. votes s v H flight g who p e;
  closes = λ who e n. closes s v H flight g who e;
  turns = λ x. turns s v H flight g x;
  room = λ p x i e. room s v H flight g p x i e;
}

pub stamps : (s : Setting) (v : Valid s) (H : List Entry) (flight : List Mail) → Good s H flight → StampsTell H
stamps s v H flight g = record {
  one = λ who p q m n k l a b i j. one_stamp s v H flight g who p q m n k l a b i j;
  positive = λ who p m k a i. stamp_positive s v H flight g who p m k a i;
  apart = λ x y p q m n k l a b i j ne. stamps_apart s v H flight g x y p q m n k l a b i j ne;
}

-- a run under a voting protocol is a good run of its setting
pub good_run : (c : Config) (w : Workload) (k : IsConfig c) (d : IsValid w) (votes : IsVoting c.protocol) (H : List Entry) (flight : List Mail) → IsRun c w H flight → Good (setting c w) H flight
good_run c w k d votes H flight run = let o = choice c.protocol votes in run_good (setting c w) (valid c w k d votes) (limits c w k d votes) H flight (voting_run c w o.0 o.1 H flight run)

pub run_accounted : (c : Config) (w : Workload) (k : IsConfig c) (d : IsValid w) (votes : IsVoting c.protocol) (H : List Entry) (flight : List Mail) → IsRun c w H flight → RunAccount (setting c w) H flight
run_accounted c w k d votes H flight run = accounted (setting c w) (valid c w k d votes) H flight (good_run c w k d votes H flight run)

pub listed : (c : Config) (w : Workload) (k : IsConfig c) (d : IsValid w) (votes : IsVoting c.protocol) (H : List Entry) (flight : List Mail) → IsRun c w H flight → ListsAborts (setting c w) H (outcome c w H).aborts
listed c w k d votes H flight run =
    let o = choice c.protocol votes in
    subst (λ (z : Outcome). ListsAborts (setting c w) H z.aborts) (sym (outcome_is c w o.0 o.1 H)) (lists_aborts (setting c w) (valid c w k d votes) H flight (good_run c w k d votes H flight run))

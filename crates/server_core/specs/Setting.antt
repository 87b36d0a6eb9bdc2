-- What a run takes of its configuration and its workload.
use Rattle.std.specs.Prelude.{ℕ, zero, suc, List, [], ◌∷◌, filter, Bool, true, Option, Some, None, if◌then◌else◌, ◌==◌}
use Rattle.deneva_base.specs.declared.answers.Answer.TheVariants.{Waits}
use Rattle.deneva_base.specs.declared.answers.Vote.TheVariants.{Yes}
use Rattle.deneva_base.specs.declared.config.Config.{Config}
use Rattle.deneva_base.specs.declared.keys.Key.{Key}
use Rattle.deneva_base.specs.declared.keys.Access.{Access}
use Rattle.deneva_base.specs.declared.numbers.Attempt.{Attempt}
use Rattle.deneva_base.specs.declared.numbers.TxnId.{TxnId}
use Rattle.deneva_base.specs.declared.rows.Keyed.{Keyed}
use Rattle.deneva_base.specs.Partitions.{partition_of}
use Rattle.protocol_rules.specs.Protocols.{Chosen, chosen}
use Rattle.deneva_base.specs.Rows.{Row, Rows, row_of}
use Rattle.protocol_rules.specs.Rules.{Rule}
use Rattle.txn_program.specs.Serial.{program_of, all_ids}
use Rattle.txn_program.specs.Transactions.{accesses, effect}
pub use Rattle.txn_program.specs.Transactions.{partitions_of}
use Rattle.txn_program.specs.WellFormed.{is_well_formed}
use Rattle.tpcc_rules.specs.declared.effects.Effect.{Effect}
use Rattle.txn_program.specs.declared.programs.Workload.{Workload}

pub record Setting : Type 0 where
  -- the number of partitions, the attempts that a transaction may take, and how many home transactions a node has open
  pub parts : ℕ
  pub attempts : ℕ
  pub limit : ℕ
  -- under a voting protocol, whether a transaction keeps its first stamp over restarts, and the rule over the rows that
  -- were loaded at a partition
  pub fixed : Bool
  pub rule : Rows → Rule
  -- the loaded rows, which rows are well formed for a key, and the transactions: their ids in file order, their accesses,
  -- and their effect on the rows of the accesses that read, in their order
  pub loaded : Rows
  pub fine : Key → Row → Bool
  pub ids : List TxnId
  pub accesses : TxnId → List Access
  pub effect : TxnId → List Keyed → Effect

-- Calvin asks no rule
abbrev pub no_rule : Rows → Rule
no_rule loaded = record {
  ask = λ h who stamp key mode. Waits;
  vote = λ h who bound writes appends. Yes 1 1;
  commit = λ h who number. [];
  abort = λ h who. [];
}

abbrev pub chosen_or_none : Option Chosen → Chosen
chosen_or_none (Some o) = o
chosen_or_none None = record { fixed = true; rule = no_rule }

abbrev pub setting : Config → Workload → Setting
setting c w = record {
  parts = c.parts;
  attempts = c.attempts;
  limit = c.limit;
  fixed = (chosen_or_none (chosen c.protocol)).fixed;
  rule = (chosen_or_none (chosen c.protocol)).rule;
  loaded = row_of w.load.rows;
  fine = is_well_formed w.load;
  ids = all_ids w;
  accesses = λ x. accesses w.load (program_of w x);
  effect = λ x rows. effect w.load x (program_of w x) rows;
}

-- the rows that were loaded at p
abbrev pub loaded_at : Setting → ℕ → Rows
loaded_at s p k = if partition_of k s.parts == p then s.loaded k else None

abbrev pub rule_at : Setting → ℕ → Rule
rule_at s p = s.rule (loaded_at s p)

-- the partition of the first access
abbrev pub home_in : ℕ → List Access → ℕ
home_in parts [] = 0
home_in parts (a ∷ more) = partition_of a.key parts

-- the node whose coordinator runs the transaction
abbrev pub home : Setting → TxnId → ℕ
home s x = home_in s.parts (s.accesses x)

-- the home transactions of a node, in file order
abbrev pub homes : Setting → ℕ → List TxnId
homes s p = filter (λ x. home s x == p) s.ids

-- the partitions at which a transaction takes part
abbrev pub participants_for : Setting → TxnId → List ℕ
participants_for s x = partitions_of s.parts (s.accesses x)

abbrev pub participants : Setting → Attempt → List ℕ
participants s who = participants_for s who.txn

-- the first n of a list, and what follows them
abbrev pub take_first : {A : Type 0} → ℕ → List A → List A
take_first zero xs = []
take_first (suc n) [] = []
take_first (suc n) (x ∷ xs) = x ∷ take_first n xs

abbrev pub drop_first : {A : Type 0} → ℕ → List A → List A
drop_first zero xs = xs
drop_first (suc n) [] = []
drop_first (suc n) (x ∷ xs) = drop_first n xs

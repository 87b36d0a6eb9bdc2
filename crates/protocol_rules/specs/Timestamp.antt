-- The rule of TIMESTAMP.
use Rattle.std.specs.Prelude.{ℕ, [], ◌∷◌, ◌&&◌, nat_lt, if◌then◌else◌}
use Rattle.std.specs.List.{list_any}
use Rattle.deneva_base.specs.declared.keys.Key.{Key}
use Rattle.deneva_base.specs.declared.numbers.Attempt.{Attempt}
use Rattle.deneva_base.specs.declared.keys.Mode.{Mode}
use Rattle.deneva_base.specs.Rows.{Rows}
use Rattle.deneva_base.specs.Keys.{key_eq}
use Rattle.deneva_base.specs.Modes.{reads, writes}
use Rattle.deneva_base.specs.declared.causes.Cause.TheVariants.{Written, ReadLater}
use Rattle.deneva_base.specs.declared.answers.Answer.{Answer}
use Rattle.deneva_base.specs.declared.answers.Answer.TheVariants.{Waits, Refused}
use Rattle.deneva_base.specs.declared.answers.Vote.TheVariants.{Yes}
use Rattle.protocol_rules.specs.History.{Commit, Abort, History, asks, grants, stamp_of}
use Rattle.protocol_rules.specs.Rules.{Rule}
use Rattle.protocol_rules.specs.Latest.{seen}
use Rattle.deneva_base.specs.Lists.{greatest_by}
use Rattle.protocol_rules.specs.Versions.{written, below}
use Rattle.protocol_rules.specs.Waiting.{this, holders, older_writer, granted_with, wakes}

-- the greatest number of a committed write of the key
abbrev pub top_written : History → Key → ℕ
top_written h key = greatest_by (λ v. v.number.n) (written h key)

-- the greatest stamp ever granted to an access that reads the key
abbrev pub top_read : History → Key → ℕ
top_read h key = greatest_by (λ g. if key_eq g.key key && reads g.mode then g.stamp else 0) (grants h)

abbrev pub timestamp_answer : Rows → History → Attempt → ℕ → Key → Mode → Answer
timestamp_answer loaded h who stamp key mode =
    if reads mode && nat_lt stamp (top_written h key) then Refused (Written key (top_written h key))
    else if writes mode && nat_lt stamp (top_read h key) then Refused (ReadLater key (top_read h key))
    else if reads mode && list_any (older_writer (this who stamp key mode)) (holders h) then Waits
    else granted_with (seen mode (below loaded h key stamp))

abbrev pub timestamp : Rows → Rule
timestamp loaded = record {
  ask = λ h who stamp key mode. timestamp_answer loaded h who stamp key mode;
  vote = λ h who bound writes appends. Yes (stamp_of (asks h) who) (stamp_of (asks h) who);
  commit = λ h who number. wakes loaded older_writer h (Commit who number [] ∷ h) who;
  abort = λ h who. wakes loaded older_writer h (Abort who [] ∷ h) who;
}

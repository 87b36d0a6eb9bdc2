-- The rule of MVCC that keeps the greatest `keep` versions of a key, or all for 0.
use Rattle.std.specs.Prelude.{ℕ, List, [], ◌∷◌, filter, length, Bool, ◌&&◌, not, nat_lt, nat_le, if◌then◌else◌, ◌==◌}
use Rattle.std.specs.List.{list_any}
use Rattle.deneva_base.specs.declared.keys.Key.{Key}
use Rattle.deneva_base.specs.declared.numbers.Attempt.{Attempt}
use Rattle.deneva_base.specs.declared.numbers.Number.{Number}
use Rattle.deneva_base.specs.declared.keys.Mode.{Mode}
use Rattle.deneva_base.specs.Rows.{Rows}
use Rattle.deneva_base.specs.Keys.{key_eq, number_lt, number_eq}
use Rattle.deneva_base.specs.Modes.{reads, writes}
use Rattle.deneva_base.specs.declared.causes.Cause.TheVariants.{Trimmed, ReadLater}
use Rattle.deneva_base.specs.declared.answers.Answer.{Answer}
use Rattle.deneva_base.specs.declared.answers.Answer.TheVariants.{Waits, Refused}
use Rattle.deneva_base.specs.declared.answers.Vote.TheVariants.{Yes}
use Rattle.protocol_rules.specs.History.{Commit, Abort, History, Asked, asks, grants, stamp_of}
use Rattle.protocol_rules.specs.Rules.{Rule}
use Rattle.protocol_rules.specs.Latest.{Version, seen}
use Rattle.deneva_base.specs.Lists.{greatest_by}
use Rattle.protocol_rules.specs.Versions.{written, start, below}
use Rattle.protocol_rules.specs.Waiting.{this, holders, older_writer, granted_with, wakes}

-- the loaded version of the key and its committed writes
abbrev pub versions : Rows → History → Key → List Version
versions loaded h key = start loaded key ∷ written h key

-- how many have no smaller number
abbrev pub as_great : List Version → Version → ℕ
as_great vs v = length (filter (λ w. not (number_lt w.number v.number)) vs)

-- the n of the keep-th greatest, and 0 where there are fewer
abbrev pub nth_greatest : ℕ → List Version → ℕ
nth_greatest keep vs = greatest_by (λ v. if nat_le keep (as_great vs v) then v.number.n else 0) vs

abbrev pub floor : ℕ → Rows → History → Key → ℕ
floor keep loaded h key = if keep == 0 then 0 else nth_greatest keep (versions loaded h key)

-- the greatest stamp ever granted to an access that read this version of the key
abbrev pub top_reader : History → Key → Number → ℕ
top_reader h key v = greatest_by (λ g. if key_eq g.key key && (reads g.mode && number_eq g.version v) then g.stamp else 0) (grants h)

-- b is an Update or Put on the key of a, with a stamp below that of a and above the version that a reads
abbrev pub writer_between : Rows → History → Asked → Asked → Bool
writer_between loaded h a b = older_writer a b && nat_lt (below loaded h a.key a.stamp).number.n b.stamp

abbrev pub mvcc_answer : ℕ → Rows → History → Attempt → ℕ → Key → Mode → Answer
mvcc_answer keep loaded h who stamp key mode =
    if nat_lt stamp (floor keep loaded h key) then Refused (Trimmed key (floor keep loaded h key))
    else if writes mode && nat_lt stamp (top_reader h key (below loaded h key stamp).number) then Refused (ReadLater key (top_reader h key (below loaded h key stamp).number))
    else if reads mode && list_any (writer_between loaded h (this who stamp key mode)) (holders h) then Waits
    else granted_with (seen mode (below loaded h key stamp))

abbrev pub mvcc : ℕ → Rows → Rule
mvcc keep loaded = record {
  ask = λ h who stamp key mode. mvcc_answer keep loaded h who stamp key mode;
  vote = λ h who bound writes appends. Yes (stamp_of (asks h) who) (stamp_of (asks h) who);
  commit = λ h who number. wakes loaded (writer_between loaded (Commit who number [] ∷ h)) h (Commit who number [] ∷ h) who;
  abort = λ h who. wakes loaded (writer_between loaded (Abort who [] ∷ h)) h (Abort who [] ∷ h) who;
}

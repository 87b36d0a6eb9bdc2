-- The rule of MAAT, with windows of at most span numbers.
use Rattle.std.specs.Prelude.{ℕ, List, []}
use Rattle.deneva_base.specs.declared.numbers.Attempt.{Attempt}
use Rattle.deneva_base.specs.Rows.{Rows}
use Rattle.deneva_base.specs.declared.answers.Vote.{Vote}
use Rattle.deneva_base.specs.declared.causes.Bound.{Bound}
use Rattle.deneva_base.specs.declared.rows.Keyed.{Keyed}
use Rattle.protocol_rules.specs.History.{History}
use Rattle.protocol_rules.specs.Rules.{Rule}
use Rattle.protocol_rules.specs.Ranged.{grant_latest, low_of, low, high, lo_key, hi_by, window_vote}

abbrev pub maat_vote : ℕ → History → Attempt → Bound → List Keyed → Vote
maat_vote span h who bound writes = window_vote span (lo_key h bound (low_of h who writes) (low h who bound writes)) (hi_by h who (high h who)) (low h who bound writes) (high h who)

abbrev pub maat : ℕ → Rows → Rule
maat span loaded = record {
  ask = λ h who stamp key mode. grant_latest loaded h key mode;
  vote = λ h who bound writes appends. maat_vote span h who bound writes;
  commit = λ h who number. [];
  abort = λ h who. [];
}

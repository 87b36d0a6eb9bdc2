-- The answer to a read under MVCC, by cases.
use Rattle.std.proofs.Common.{◌≡◌, ℕ, ◌<◌, Bool, true, false, cond, ltb, refl, ap, arith}
use Rattle.std.specs.List.{list_any}
use Rattle.std.proofs.lemmas.Bool.Decides.{nat_tests}
use Rattle.deneva_base.specs.Rows.{Rows}
use Rattle.deneva_base.specs.declared.answers.Answer.TheVariants.{Waits, Refused}
use Rattle.deneva_base.specs.declared.causes.Cause.{Cause}
use Rattle.deneva_base.specs.declared.causes.Cause.TheVariants.{Trimmed}
use Rattle.deneva_base.specs.declared.keys.Key.{Key}
use Rattle.deneva_base.specs.declared.keys.Mode.TheVariants.{Read}
use Rattle.deneva_base.specs.declared.numbers.Attempt.{Attempt}
use Rattle.protocol_rules.specs.History.{History}
use Rattle.protocol_rules.specs.Latest.{Version, seen}
use Rattle.protocol_rules.specs.Mvcc.{mvcc, floor, writer_between}
use Rattle.protocol_rules.specs.Versions.{below}
use Rattle.protocol_rules.specs.Waiting.{this, holders, granted_with}
use Rattle.protocol_rules.proofs.waits_laws.mvcc_reads.Goals as goal

-- a read that is not below the floor waits or is granted
kept : (b : Bool) (v : Version) (cause : Cause) → cond b Waits (granted_with v) ≡ Refused cause → ⊥
kept true v cause e = cc
kept false v cause e = cc

refused_by : (keep : ℕ) (loaded : Rows) (h : History) (who : Attempt) (stamp : ℕ) (key : Key) (cause : Cause) → (mvcc keep loaded).ask h who stamp key Read ≡ Refused cause → (stamp < floor keep loaded h key) × (cause ≡ Trimmed key (floor keep loaded h key))
refused_by keep loaded h who stamp key cause e = go (ltb stamp (floor keep loaded h key)) refl e
  where
    less : (a b : ℕ) → ltb a b ≡ true → a < b
    less a b f = grind (arith, nat_tests, f)

    go : (b : Bool) → ltb stamp (floor keep loaded h key) ≡ b → cond b (Refused (Trimmed key (floor keep loaded h key))) (cond (list_any (writer_between loaded h (this who stamp key Read)) (holders h)) Waits (granted_with (seen Read (below loaded h key stamp)))) ≡ Refused cause → (stamp < floor keep loaded h key) × (cause ≡ Trimmed key (floor keep loaded h key))
    go true f e = (less stamp (floor keep loaded h key) f, cc)
    go false f e = absurd (kept (list_any (writer_between loaded h (this who stamp key Read)) (holders h)) (seen Read (below loaded h key stamp)) cause e)

pub returns : goal.returns
returns c = record {
  refused = refused_by;
  below = λ keep loaded h who stamp key lt. ap (λ b. cond b (Refused (Trimmed key (floor keep loaded h key))) (cond (list_any (writer_between loaded h (this who stamp key Read)) (holders h)) Waits (granted_with (seen Read (below loaded h key stamp))))) (more stamp (floor keep loaded h key) lt);
  never = λ loaded h who stamp key cause e. let r = refused_by 0 loaded h who stamp key cause e in absurd (omega (arith, r.0));
}
  where
    more : (a b : ℕ) → a < b → ltb a b ≡ true
    more a b lt = grind (arith, nat_tests, lt)

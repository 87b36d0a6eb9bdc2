-- TIMESTAMP answers by stamps.
use Rattle.std.proofs.Common.{◌≡◌, ℕ, ◌≤◌, List, [], ◌∷◌, Bool, true, false, cond, ltb, ◌&&◌, refl, sym, ap, ◌∙◌, inr, ⊎_elim, arith}
use Rattle.std.proofs.lemmas.Bool.{ltb-false}
use Rattle.std.specs.List.{list_any}
use Rattle.deneva_base.specs.declared.keys.Key.{Key}
use Rattle.deneva_base.specs.declared.numbers.Attempt.{Attempt}
use Rattle.deneva_base.specs.declared.keys.Mode.{Mode}
use Rattle.deneva_base.specs.Lists.{IsIn, greatest_by}
use Rattle.deneva_base.specs.Rows.{Rows}
use Rattle.deneva_base.specs.Modes.{IsReading, reads, IsWriting, writes}
use Rattle.deneva_base.specs.Keys.{key_eq}
use Rattle.protocol_rules.proofs.Known.{known}
use Rattle.protocol_rules.proofs.Wakes.{distinct_waits}
use Rattle.protocol_rules.specs.History.{Commit, Abort, History, Grant, grants}
use Rattle.deneva_base.specs.declared.causes.Cause.TheVariants.{Written, ReadLater}
use Rattle.deneva_base.specs.declared.answers.Answer.TheVariants.{Waits, Refused}
use Rattle.protocol_rules.specs.Latest.{Version, seen}
use Rattle.deneva_base.proofs.Membership.{any_found, and_true, and_parts, key_decides, reading_decides, writing_decides}
use Rattle.protocol_rules.specs.Versions.{below}
use Rattle.protocol_rules.specs.Waiting.{this, holders, older_writer, granted_with}
use Rattle.protocol_rules.specs.Timestamp.{top_written, top_read, timestamp}
use Rattle.protocol_rules.proofs.Tries.{none_passes}
use Rattle.protocol_rules.proofs.Stops.{stops}
use Rattle.protocol_rules.proofs.Stamped.{Safe, Answered}
use Rattle.protocol_rules.proofs.Same.{same_tries}
use Rattle.protocol_rules.proofs.Stamping.{Stamping}

pub top_by : {A : Type 0} (f : A → ℕ) (x : A) (xs : List A) → IsIn x xs → f x ≤ greatest_by f xs
top_by f x [] i = absurd i
top_by f x (y ∷ xs) i = ⊎_elim (λ e. omega (arith, ap f e)) (λ r. omega (arith, top_by f x xs r)) i

pub seen_read : (m : Mode) (v : Version) → IsReading m → seen m v ≡ v
seen_read m v r = rw ((reading_decides m).1 r)

-- the two last cases of an answer, for any test of who is stopped
pub last_cases : (flag : Bool) (loaded : Rows) (h : History) (who : Attempt) (stamp : ℕ) (key : Key) (mode : Mode) (b : Bool) → (reads mode && list_any (stops flag loaded h (this who stamp key mode)) (holders h)) ≡ b → Safe flag loaded h stamp key mode → Answered flag loaded h who stamp key mode (cond b Waits (granted_with (seen mode (below loaded h key stamp))))
last_cases flag loaded h who stamp key mode true e safe =
    let p = and_parts (reads mode) (list_any (stops flag loaded h (this who stamp key mode)) (holders h)) e in
    ((reading_decides mode).0 p.0, any_found (stops flag loaded h (this who stamp key mode)) (holders h) p.1, safe)
last_cases flag loaded h who stamp key mode false e safe = (
  (λ r.
      let s = seen_read mode (below loaded h key stamp) r in
      let t : list_any (stops flag loaded h (this who stamp key mode)) (holders h) ≡ false = (ap (λ z. z && list_any (stops flag loaded h (this who stamp key mode)) (holders h)) (sym ((reading_decides mode).1 r))) ∙ e in
      (ap (λ z. z.row) s, ap (λ z. z.number) s, none_passes (stops flag loaded h (this who stamp key mode)) (holders h) t)),
  safe,
)

-- a writer that is not refused stands at or above every stamp below the test
pub not_below : (mode : Mode) (stamp top : ℕ) → (writes mode && ltb stamp top) ≡ false → IsWriting mode → top ≤ stamp
not_below mode stamp top e w = ltb-false stamp top (ap (λ z. z && ltb stamp top) (sym ((writing_decides mode).1 w)) ∙ e)

module _ (loaded : Rows) where
  safe : (h : History) (stamp : ℕ) (key : Key) (mode : Mode) → (writes mode && ltb stamp (top_read h key)) ≡ false → Safe false loaded h stamp key mode
  safe h stamp key mode e w g i r k =
      inr (omega (
        arith,
        not_below mode stamp (top_read h key) e w,
        top_by (λ (z : Grant). cond (key_eq z.key key && reads z.mode) z.stamp 0) g (grants h) i,
        ap (λ z. cond z g.stamp 0) (and_true (key_eq g.key key) (reads g.mode) ((key_decides g.key key).1 k) ((reading_decides g.mode).1 r)),
      ))

  answers : (h : History) (who : Attempt) (stamp : ℕ) (key : Key) (mode : Mode) (a b : Bool) → (writes mode && ltb stamp (top_read h key)) ≡ b → Answered false loaded h who stamp key mode (cond a (Refused (Written key (top_written h key))) (cond b (Refused (ReadLater key (top_read h key))) (cond (reads mode && list_any (older_writer (this who stamp key mode)) (holders h)) Waits (granted_with (seen mode (below loaded h key stamp))))))
  answers h who stamp key mode true b e = tt
  answers h who stamp key mode false true e = tt
  answers h who stamp key mode false false e = last_cases false loaded h who stamp key mode (reads mode && list_any (older_writer (this who stamp key mode)) (holders h)) refl (safe h stamp key mode e)

  pub stamping : Stamping false loaded (timestamp loaded)
  stamping = record {
    ask = λ h who stamp key mode o ws may st. answers h who stamp key mode (reads mode && ltb stamp (top_written h key)) (writes mode && ltb stamp (top_read h key)) refl;
    vote = λ h who bound writes appends. refl;
    commit = λ h who number o. same_tries false loaded h (Commit who number [] ∷ h) who (known loaded (timestamp loaded) h o) (distinct_waits loaded (timestamp loaded) h o);
    abort = λ h who o. same_tries false loaded h (Abort who [] ∷ h) who (known loaded (timestamp loaded) h o) (distinct_waits loaded (timestamp loaded) h o);
  }

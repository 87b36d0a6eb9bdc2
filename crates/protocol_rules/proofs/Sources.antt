-- Where the rows of granted accesses come from, by what the answers and wakes of a rule give.
use Rattle.std.proofs.Common.{◌≡◌, ◌⊎◌, ℕ, [], ◌∷◌, ◌++◌, refl, sym, subst, inl, inr, ⊎_elim, Some}
use Rattle.deneva_base.specs.declared.keys.Key.{Key}
use Rattle.deneva_base.specs.declared.numbers.Attempt.{Attempt}
use Rattle.deneva_base.specs.declared.numbers.Number.{Number}
use Rattle.deneva_base.specs.declared.keys.Mode.{Mode}
use Rattle.deneva_base.specs.declared.keys.Mode.TheVariants.{Read, Update, Put}
use Rattle.deneva_base.specs.Lists.{IsIn}
use Rattle.deneva_base.specs.Rows.{Row, Rows}
use Rattle.deneva_base.specs.Modes.{IsReading}
use Rattle.deneva_base.specs.declared.answers.Answer.{Answer}
use Rattle.deneva_base.specs.declared.answers.Answer.TheVariants.{Granted, Waits, Refused}
use Rattle.deneva_base.specs.declared.answers.Vote.{Vote}
use Rattle.deneva_base.specs.declared.answers.Vote.TheVariants.{Yes, No}
use Rattle.deneva_base.specs.declared.answers.Wake.{Wake}
use Rattle.protocol_rules.specs.History.{Ask, Prepare, Commit, Abort, History, Asked, Grant, Yea, grants, granted, waits, yeas}
use Rattle.protocol_rules.specs.Windows.{IsVersion}
use Rattle.protocol_rules.specs.Wakes.{KeepsWakes}
use Rattle.protocol_rules.specs.Conditions.{MayAsk, MayCommit, MayAbort}
use Rattle.protocol_rules.specs.Rules.{Rule, Obeys}
use Rattle.protocol_rules.specs.Latest.{Version, seen}
use Rattle.protocol_rules.proofs.Known.{known}
use Rattle.protocol_rules.proofs.Traced.{wake_cases}
use Rattle.protocol_rules.specs.Lawful.{GrantsRow}

-- a row for an access of this mode
pub record RowOk (loaded : Rows) (h : History) (key : Key) (mode : Mode) (row : Row) : Type 0 where
  pub reads : IsReading mode → (loaded key ≡ Some row) ⊎ ((y : Yea) × IsIn y (yeas h) × IsIn (record { key = key; row = row }) y.writes)
  pub put : mode ≡ Put → row ≡ []

-- that of a version
pub version_ok : (loaded : Rows) (h h' : History) (key : Key) (mode : Mode) (v : Version) → ((y : Yea) → IsIn y (yeas h') → IsIn y (yeas h)) → IsVersion loaded h' key v.number v.row → RowOk loaded h key mode (seen mode v).row
version_ok loaded h h' key Read v less is = record { reads = λ r. ⊎_elim (λ l. inl l.1) (λ d. inr (d.3.0, less d.3.0 d.3.2, d.3.3)) is; put = λ e. absurd (cc (e)) }
version_ok loaded h h' key Update v less is = record { reads = λ r. ⊎_elim (λ l. inl l.1) (λ d. inr (d.3.0, less d.3.0 d.3.2, d.3.3)) is; put = λ e. absurd (cc (e)) }
version_ok loaded h h' key Put v less is = record { reads = λ r. absurd (r refl); put = λ e. refl }

ok_more : (loaded : Rows) (h h' : History) (key : Key) (mode : Mode) (row : Row) → ((y : Yea) → IsIn y (yeas h) → IsIn y (yeas h')) → RowOk loaded h key mode row → RowOk loaded h' key mode row
ok_more loaded h h' key mode row more r = record { reads = λ i. ⊎_elim (λ l. inl l) (λ y. inr (y.0, more y.0 y.1, y.2)) (r.reads i); put = r.put }

module _ (loaded : Rows) (rule : Rule) where
  abbrev pub AsksOk : Type 0
  AsksOk = (h : History) (who : Attempt) (stamp : ℕ) (key : Key) (mode : Mode) (row : Row) (version : Number) (bound : ℕ) → Obeys loaded rule h → MayAsk loaded h who stamp key → rule.ask h who stamp key mode ≡ Granted row version bound → RowOk loaded h key mode row

  abbrev pub CommitsOk : Type 0
  CommitsOk = (h : History) (who : Attempt) (number : Number) (w : Wake) (a : Asked) → Obeys loaded rule h → MayCommit h who number → IsIn w (rule.commit h who number) → IsIn a (waits h) → a.who ≡ w.who → a.key ≡ w.key → RowOk loaded h a.key a.mode w.row

  abbrev pub AbortsOk : Type 0
  AbortsOk = (h : History) (who : Attempt) (w : Wake) (a : Asked) → Obeys loaded rule h → MayAbort h who → IsIn w (rule.abort h who) → IsIn a (waits h) → a.who ≡ w.who → a.key ≡ w.key → RowOk loaded h a.key a.mode w.row

  abbrev Good : History → Type 0
  Good h = (g : Grant) → IsIn g (grants h) → RowOk loaded h g.key g.mode g.row

  pub sources : AsksOk → CommitsOk → AbortsOk → (h : History) → Obeys loaded rule h → KeepsWakes h → (g : Grant) → IsIn g (grants h) → RowOk loaded h g.key g.mode g.row
  sources asks commits aborts [] o ws g i = absurd i
  sources asks commits aborts (Ask who stamp key mode answer ∷ h) o ws g i = by answer o.1 i (sources asks commits aborts h o.2 ws.1)
    where
      by : (a : Answer) → a ≡ rule.ask h who stamp key mode → IsIn g (granted who stamp key mode a ++ grants h) → ((g : Grant) → IsIn g (grants h) → RowOk loaded h g.key g.mode g.row) → RowOk loaded (Ask who stamp key mode answer ∷ h) g.key g.mode g.row
      by (Granted row version bound) e i next =
          ⊎_elim
          (λ (is : g ≡ record { who = who; stamp = stamp; key = key; mode = mode; row = row; version = version }). subst (λ (z : Grant). RowOk loaded (Ask who stamp key mode answer ∷ h) z.key z.mode z.row) (sym is) (ok_more loaded h (Ask who stamp key mode answer ∷ h) key mode row (λ y j. j) (asks h who stamp key mode row version bound o.2 o.0 (sym e))))
          (λ r. ok_more loaded h (Ask who stamp key mode answer ∷ h) g.key g.mode g.row (λ y j. j) (next g r))
          i
      by Waits e i next = ok_more loaded h (Ask who stamp key mode answer ∷ h) g.key g.mode g.row (λ y j. j) (next g i)
      by (Refused c) e i next = ok_more loaded h (Ask who stamp key mode answer ∷ h) g.key g.mode g.row (λ y j. j) (next g i)
  sources asks commits aborts (Prepare who bound writes appends vote ∷ h) o ws g i = by vote (sources asks commits aborts h o.2 ws.1 g i)
    where
      by : (v : Vote) → RowOk loaded h g.key g.mode g.row → RowOk loaded (Prepare who bound writes appends v ∷ h) g.key g.mode g.row
      by (Yes lo hi) r = ok_more loaded h (Prepare who bound writes appends (Yes lo hi) ∷ h) g.key g.mode g.row (λ y j. inr j) r
      by (No c) r = ok_more loaded h (Prepare who bound writes appends (No c) ∷ h) g.key g.mode g.row (λ y j. j) r
  sources asks commits aborts (Commit who number woken ∷ h) o ws g i =
      ⊎_elim
      (λ c. subst (λ (z : Grant). RowOk loaded (Commit who number woken ∷ h) z.key z.mode z.row) (sym c.6) (subst (λ k. RowOk loaded (Commit who number woken ∷ h) k c.1.mode c.0.row) c.5 (ok_more loaded h (Commit who number woken ∷ h) c.1.key c.1.mode c.0.row (λ y j. j) (commits h who number c.0 c.1 o.2 o.0 (subst (IsIn c.0) o.1 c.2) c.3 c.4 c.5))))
      (λ r. ok_more loaded h (Commit who number woken ∷ h) g.key g.mode g.row (λ y j. j) (sources asks commits aborts h o.2 ws.1 g r))
      (wake_cases loaded h woken g (known loaded rule h o.2) ws.0 i)
  sources asks commits aborts (Abort who woken ∷ h) o ws g i =
      ⊎_elim
      (λ c. subst (λ (z : Grant). RowOk loaded (Abort who woken ∷ h) z.key z.mode z.row) (sym c.6) (subst (λ k. RowOk loaded (Abort who woken ∷ h) k c.1.mode c.0.row) c.5 (ok_more loaded h (Abort who woken ∷ h) c.1.key c.1.mode c.0.row (λ y j. j) (aborts h who c.0 c.1 o.2 o.0 (subst (IsIn c.0) o.1 c.2) c.3 c.4 c.5))))
      (λ r. ok_more loaded h (Abort who woken ∷ h) g.key g.mode g.row (λ y j. j) (sources asks commits aborts h o.2 ws.1 g r))
      (wake_cases loaded h woken g (known loaded rule h o.2) ws.0 i)

  pub grants_row : (h : History) (g : Grant) → RowOk loaded h g.key g.mode g.row → GrantsRow loaded h g
  grants_row h g r = record { reads = r.reads; put = r.put }

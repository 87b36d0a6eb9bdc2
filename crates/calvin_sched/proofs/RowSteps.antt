-- One more row is put into the store.
use Rattle.std.proofs.Common.{◌≡◌, List, ◌∷◌, Bool, true, false, cond, Option, Some, None, refl, ap, ⊎_elim, ◌∙◌, arith}
use Rattle.std.proofs.lemmas.Bool.Decides.{nat_tests}
use Rattle.deneva_base.specs.Keys.{number_lt}
use Rattle.deneva_base.specs.Rows.{Row, row_of}
use Rattle.deneva_base.specs.declared.keys.Key.{Key}
use Rattle.deneva_base.specs.declared.numbers.Number.{Number}
use Rattle.deneva_base.specs.declared.rows.Keyed.{Keyed}
use Rattle.deneva_base.proofs.Membership.{key_tells}
use Rattle.row_store.specs.Stores.{Seen, version_at, Sets, newest, numbered}
use Rattle.row_store.specs.declared.versions.Version.{Version}
use Rattle.calvin_sched.specs.Versions.{offered}

not_before : (n : Number) → number_lt n n ≡ false
not_before n = grind (arith, nat_tests)

-- a row is not replaced by one of the same number
pub offered_twice : (v : Option Version) (number : Number) (row : Row) (next : Option Row) → offered (offered v number (Some row)) number next ≡ offered v number (Some row)
offered_twice v number row None = refl
offered_twice None number row (Some next) = rw (not_before number) refl
offered_twice (Some v) number row (Some next) = go (number_lt v.number number) refl
  where
    go : (b : Bool) → number_lt v.number number ≡ b → offered (Some (cond b (numbered number row) v)) number (Some next) ≡ Some (cond b (numbered number row) v)
    go true e = rw (not_before number) refl
    go false e = rw e refl

-- what is left, with the row that was put before it
pub put_step : (old new : Seen) (number : Number) (r : Keyed) (rest : List Keyed) → Sets old r.key (newest (version_at old r.key) (numbered number r.row)) new → (key : Key) → offered (version_at new key) number (row_of rest key) ≡ offered (version_at old key) number (row_of (r ∷ rest) key)
put_step old new number r rest h key =
    ap (λ v. offered v number (row_of rest key)) (h key) ∙ ⊎_elim
    (λ t. rw t.0 (offered_twice (version_at old r.key) number r.row (row_of rest key) ∙ ap (λ k. newest (version_at old k) (numbered number r.row)) t.1))
    (λ f. rw f.0 refl)
    (key_tells r.key key)

-- The messages of the trial fit one after another.
use Rattle.std.proofs.Common.{◌≡◌, ℕ, suc, ◌+◌, get_or, drop, subst, ◌<◌, List, [], ◌∷◌, length, refl, sym, inl, inr, subst₂, arith, true≢false}
use Rattle.std.proofs.Math.Seq.{drop-cons}
use Rattle.deneva_base.specs.declared.causes.Cause.TheVariants.{Written}
use Rattle.deneva_base.specs.declared.config.Protocol.TheVariants.{Timestamp}
use Rattle.deneva_base.specs.declared.keys.Mode.TheVariants.{Read}
use Rattle.deneva_base.specs.declared.numbers.Attempt.{Attempt}
use Rattle.txn_program.specs.Transactions.{ycsb_key}
use Rattle.server_core.specs.Roles.{Role, FitsRole}
use Rattle.server_core.specs.declared.messages.Msg.{Msg}
use Rattle.server_core.specs.declared.messages.Msg.TheVariants.{Start, Refused, Undone}
use Rattle.coord.specs.Trials.{FitInTurn, two_reads}

parts : (r : Role) (ms : List Msg) (m : Msg) (more : List Msg) → FitInTurn r ms (m ∷ more) → ((from : ℕ) × FitsRole r from m ms) × FitInTurn r (m ∷ ms) more
unfolding FitInTurn
parts r ms m more h = h

-- the first of those that are left
pub fit_one : (r : Role) (ms list : List Msg) (i : ℕ) (d : Msg) → i < length list → FitInTurn r ms (drop i list) → ((from : ℕ) × FitsRole r from (get_or list i d) ms) × FitInTurn r (get_or list i d ∷ ms) (drop (i + 1) list)
fit_one r ms list i d less h =
    let next : i + 1 ≡ suc i = omega arith in
    rw next (parts r ms (get_or list i d) (drop (suc i) list) (subst (λ l. FitInTurn r ms l) (drop-cons list i d less) h))

-- node 1 of three, at which so many transactions are open
abbrev pub trial : ℕ → Role
trial limit = record { config = record { protocol = Timestamp; parts = 3; attempts = 2; limit = limit }; work = two_reads 1 4; part = 1 }

abbrev one : Attempt
one = record { txn = record { 0 = 1 }; turn = 1 }

abbrev two : Attempt
two = record { txn = record { 0 = 1 }; turn = 2 }

-- both turns of the first transaction are refused
abbrev pub refusals : Attempt → Attempt → List Msg
refusals a b = Start a ∷ Refused a (ycsb_key 1) (Written (ycsb_key 1) 100) ∷ Undone a 1 ∷ Start b ∷ Refused b (ycsb_key 1) (Written (ycsb_key 1) 110) ∷ Undone b 1 ∷ []

all_fit : (limit : ℕ) → FitInTurn (trial limit) [] (refusals one two)
unfolding FitInTurn
all_fit limit = (
  (1, record { short = omega arith; small = tt; suits = (refl, refl, λ e. true≢false (sym e), inl (refl, λ turn e. true≢false (sym e)), inl refl) }),
  (
    (1, record { short = omega arith; small = omega arith; suits = (refl, refl, (Read, (refl, refl, refl))) }),
    (
      (1, record { short = omega arith; small = tt; suits = (refl, refl, inl refl, λ i. i, inl refl) }),
      (
        (1, record { short = omega arith; small = tt; suits = (refl, refl, λ e. true≢false (sym e), inr (omega arith, omega arith, (inl refl, refl)), inl refl) }),
        (
          (1, record { short = omega arith; small = omega arith; suits = (refl, refl, (Read, (refl, refl, refl))) }),
          ((1, record { short = omega arith; small = tt; suits = (refl, refl, inl refl, λ i. i, inl refl) }), tt),
        ),
      ),
    ),
  ),
)

pub refusals_fit : (limit : ℕ) (a b : Attempt) → a ≡ record { txn = record { 0 = 1 }; turn = 1 } → b ≡ record { txn = record { 0 = 1 }; turn = 2 } → FitInTurn (trial limit) [] (refusals a b)
refusals_fit limit a b e f = subst₂ (λ x y. FitInTurn (trial limit) [] (refusals x y)) (sym e) (sym f) (all_fit limit)

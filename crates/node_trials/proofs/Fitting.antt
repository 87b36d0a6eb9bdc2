-- The messages of transaction 1 until its votes fit, one after another.
use Rattle.std.proofs.Common.{◌≡◌, ◌≢◌, ℕ, List, [], ◌∷◌, ◌++◌, map, true, false, refl, sym, ap, ◌∙◌, inl, inr, ⊎_elim, true≢false, arith}
use Rattle.deneva_base.specs.Lists.{IsIn}
use Rattle.deneva_base.specs.Rows.{Row}
use Rattle.deneva_base.specs.declared.config.Protocol.TheVariants.{NoWait}
use Rattle.deneva_base.specs.declared.keys.Access.{Access}
use Rattle.deneva_base.specs.declared.keys.Key.{Key}
use Rattle.deneva_base.specs.declared.keys.Mode.{Mode}
use Rattle.deneva_base.specs.declared.keys.Mode.TheVariants.{Update}
use Rattle.txn_program.specs.Transactions.{ycsb_key}
use Rattle.server_core.specs.Roles.{Role, FitsRole}
use Rattle.server_core.specs.Setting.{Setting, setting}
use Rattle.server_core.specs.VotingFits.{FineRow}
use Rattle.server_core.specs.declared.messages.Msg.{Msg}
use Rattle.server_core.specs.declared.messages.Msg.TheVariants.{Start}
use Rattle.node_trials.specs.declared.steps.Step.{Step}
use Rattle.node_trials.specs.Trials.{FitInTurn}
use Rattle.node_trials.specs.Works.{trial_role, first_attempt, granted_step, asked_steps, meeting_steps, apart_steps, one_no_steps, two_noes_steps, refused_steps}

abbrev r : Role
r = trial_role NoWait

abbrev s : Setting
s = setting r.config r.work

abbrev updates : List ℕ → List Access
updates ns = map (λ n. record { key = ycsb_key n; mode = Update }) ns

-- each access is an update
update_only : (ns : List ℕ) (key : Key) (mode : Mode) → IsIn (record { key = key; mode = mode }) (updates ns) → mode ≡ Update
update_only [] key mode i = absurd i
update_only (n ∷ ns) key mode i = ⊎_elim (λ (e : record { key = key; mode = mode } ≡ record { key = ycsb_key n; mode = Update }). ap (λ (a : Access). a.mode) e) (λ j. update_only ns key mode j) i

fine : (n : ℕ) (row : Row) → s.fine (ycsb_key n) row ≡ true → FineRow s first_attempt (ycsb_key n) row
fine n row e mode i = ((λ reading. e), (λ put. absurd (cc (sym (update_only (0 ∷ 1 ∷ 2 ∷ []) (ycsb_key n) mode i) ∙ put))))

pub start_fits : FitsRole r 0 (Start first_attempt) []
start_fits = record { short = omega arith; small = tt; suits = (refl, refl, (λ e. true≢false (sym e)), inl (refl, λ turn e. true≢false (sym e)), inl refl) }

abbrev pub after_start : List Msg
after_start = Start first_attempt ∷ []

abbrev pub after_0 : List Msg
after_0 = (granted_step 0 0).msg ∷ after_start

abbrev pub after_1 : List Msg
after_1 = (granted_step 1 1).msg ∷ after_0

abbrev pub after_all : List Msg
after_all = (granted_step 0 2).msg ∷ after_1

granted_0 : FitsRole r 0 (granted_step 0 0).msg after_start
granted_0 = record { short = omega arith; small = (omega arith, omega arith); suits = (refl, refl, (Update, (refl, refl, refl)), fine 0 _ refl) }

granted_1 : FitsRole r 1 (granted_step 1 1).msg after_0
granted_1 = record { short = omega arith; small = (omega arith, omega arith); suits = (refl, refl, (Update, (refl, refl, refl)), fine 1 _ refl) }

granted_2 : FitsRole r 0 (granted_step 0 2).msg after_1
granted_2 = record { short = omega arith; small = (omega arith, omega arith); suits = (refl, refl, (Update, (refl, refl, refl)), fine 2 _ refl) }

pub in_turn : (q : Role) (ms : List Msg) (x : Step) (xs : List Step) → FitsRole q x.from x.msg ms → FitInTurn q (x.msg ∷ ms) xs → FitInTurn q ms (x ∷ xs)
unfolding FitInTurn
in_turn q ms x xs f rest = (f, rest)

pub no_more : (q : Role) (ms : List Msg) → FitInTurn q ms []
unfolding FitInTurn
no_more q ms = tt

pub asked_fit : (more : List Step) → FitInTurn r after_all more → FitInTurn r [] (asked_steps ++ more)
asked_fit more rest =
    in_turn r [] _ _ start_fits (in_turn r after_start _ _ granted_0 (in_turn r after_0 _ _ granted_1 (in_turn r after_1 _ _ granted_2 rest)))

-- what is left of votes: each participant votes once, and then each tells that the attempt has ended there
voted_none : false ≡ true → ⊥
voted_none e = true≢false (sym e)

only : (x y : ℕ) → x ≢ y → IsIn x (y ∷ []) → ⊥
only x y ne i = ⊎_elim (λ e. ne e) (λ j. absurd j) i

pub meeting_fit : FitInTurn r after_all meeting_steps
meeting_fit =
    in_turn r _ _ _ (record { short = omega arith; small = omega arith; suits = (refl, refl, inl refl, (refl, refl, refl), voted_none) })
    (in_turn r _ _ _ (record { short = omega arith; small = omega arith; suits = (refl, refl, inr (inl refl), (refl, refl, refl), voted_none) })
    (in_turn r _ _ _ (record { short = omega arith; small = tt; suits = (refl, refl, inl refl, (λ i. absurd i), (record { n = 5; id = record { 0 = 1 } }, (((refl, refl, refl), refl), refl))) })
    (in_turn r _ _ _ (record { short = omega arith; small = tt; suits = (refl, refl, inr (inl refl), only 1 0 (λ e. absurd (omega (arith, e))), (record { n = 5; id = record { 0 = 1 } }, (((refl, refl, refl), refl), refl))) })
    (no_more _ _))))

pub apart_fit : FitInTurn r after_all apart_steps
apart_fit =
    in_turn r _ _ _ (record { short = omega arith; small = omega arith; suits = (refl, refl, inl refl, (refl, refl, refl), voted_none) })
    (in_turn r _ _ _ (record { short = omega arith; small = omega arith; suits = (refl, refl, inr (inl refl), (refl, refl, refl), voted_none) })
    (in_turn r _ _ _ (record { short = omega arith; small = tt; suits = (refl, refl, inl refl, (λ i. absurd i), inr (((refl, refl, refl), refl), refl)) })
    (in_turn r _ _ _ (record { short = omega arith; small = tt; suits = (refl, refl, inr (inl refl), only 1 0 (λ e. absurd (omega (arith, e))), inr (((refl, refl, refl), refl), refl)) })
    (in_turn r _ _ _ (record { short = omega arith; small = tt; suits = (refl, refl, voted_none, inr (omega arith, omega arith, (inr (((refl, refl, refl), refl), refl), refl)), inl refl) })
    (no_more _ _)))))

pub one_no_fit : FitInTurn r after_all one_no_steps
one_no_fit =
    in_turn r _ _ _ (record { short = omega arith; small = omega arith; suits = (refl, refl, inl refl, (refl, refl, refl), voted_none) })
    (in_turn r _ _ _ (record { short = omega arith; small = tt; suits = (refl, refl, inr (inl refl), (refl, refl, refl), voted_none) })
    (no_more _ _))

pub two_noes_fit : FitInTurn r after_all two_noes_steps
two_noes_fit =
    in_turn r _ _ _ (record { short = omega arith; small = tt; suits = (refl, refl, inl refl, (refl, refl, refl), voted_none) })
    (in_turn r _ _ _ (record { short = omega arith; small = tt; suits = (refl, refl, inr (inl refl), (refl, refl, refl), voted_none) })
    (no_more _ _))

pub refused_fit : FitInTurn r [] refused_steps
refused_fit =
    in_turn r [] _ _ start_fits
    (in_turn r after_start _ _ granted_0
    (in_turn r after_0 _ _ granted_1
    (in_turn r after_1 _ _ (record { short = omega arith; small = tt; suits = (refl, refl, (Update, (refl, refl, refl))) })
    (no_more _ _))))

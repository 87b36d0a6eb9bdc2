-- The steps of a transaction's record, one step after another.
use Rattle.std.proofs.Common.{◌≡◌, ◌∙◌, ℕ, zero, suc, ◌+◌, ◌-◌, ◌≤◌, ◌<◌, List, [], ◌∷◌, ◌++◌, map, length, take, drop, false, Some, Result, Ok, Err, refl, ap, sym, append_assoc, arith}
use denote.Ref.{Bor}
use Rattle.std.proofs.Common.{get_or, add-one, drop-cons}
use Rattle.std.proofs.lemmas.List.{take_rest, take-map, drop-map, drop-drop, length-map}
use Rattle.std.specs.Prelude.{nat_lt}
use Rattle.std.proofs.lemmas.Bool.Decides.{nat_tests}
use Rattle.workload_text.specs.declared.faults.Flaw.{Flaw}
use Rattle.workload_text.specs.declared.faults.RecordError.{RecordError}
use Rattle.workload_text.specs.declared.faults.RecordError.TheVariants.{NoMemory, Flawed}
use Rattle.workload_text.specs.declared.heads.YcsbHead.{YcsbHead}
use Rattle.workload_text.specs.declared.steps.Placed.{Placed}
use Rattle.workload_text.specs.Gives.{◌>>=◌, Fails}
use Rattle.workload_text.specs.Ycsb.{width, args_of, step_from, steps_from}

-- an error that one definition explains is explained by another that fails where that one does
pub fails_too : {A B : Type 0} (e : RecordError) (read : Result A Flaw) (all : Result B Flaw) → Fails e read → ((f : Flaw) → read ≡ Err f → all ≡ Err f) → Fails e all
fails_too NoMemory read all h more = tt
fails_too (Flawed f) read all h more = more f h

not_short : (w n : ℕ) → w ≤ n → nat_lt n w ≡ false
not_short w n h = grind (arith, nat_tests)

-- the fields of a step are there
there : (w : ℕ) (more : List (List ℕ)) → w ≤ length more → args_of w more ≡ Ok (take w more)
there w more h = rw (not_short w (length more) h) refl

-- the steps of fields that begin with this one
pub stepped : (head : YcsbHead) (m n w : ℕ) (fields more args : List (List ℕ)) (word : List ℕ)
    → fields ≡ word ∷ more → width head word ≡ Some w → w ≤ length more → args ≡ take w more
    → steps_from head (suc m) n fields ≡ (step_from head n word args >>= λ step. steps_from head m (n + 1 + w) (drop w more) >>= λ steps. Ok (step ∷ steps))
stepped head m n w fields more args word e known h same = rw (e, same, known, there w more h) refl

regroup : (r : Result (List Placed) Flaw) (done : List Placed) (step : Placed)
    → (r >>= λ rest. Ok ((done ++ step ∷ []) ++ rest)) ≡ ((r >>= λ steps. Ok (step ∷ steps)) >>= λ rest. Ok (done ++ rest))
regroup (Ok steps) done step = ap (λ (l : List Placed). Ok l) (append_assoc done (step ∷ []) steps)
regroup (Err f) done step = refl

-- one step more was read
pub read_more : (head : YcsbHead) (most n w : ℕ) (fields more args : List (List ℕ)) (word : List ℕ) (done : List Placed) (step : Placed) (all : Result (List Placed) Flaw)
    → 1 ≤ most → fields ≡ word ∷ more → width head word ≡ Some w → w ≤ length more → args ≡ take w more → step_from head n word args ≡ Ok step
    → (steps_from head most n fields >>= λ rest. Ok (done ++ rest)) ≡ all
    → (steps_from head (most - 1) (n + 1 + w) (drop w more) >>= λ rest. Ok ((done ++ step ∷ []) ++ rest)) ≡ all
read_more head zero n w fields more args word done step all few e known h same ok inv = absurd (omega (arith, few))
read_more head (suc m) n w fields more args word done step all few e known h same ok inv =
    let less : suc m - 1 ≡ m = omega arith in
    rw less (regroup (steps_from head m (n + 1 + w) (drop w more)) done step
    ∙ ap (λ (r : Result (List Placed) Flaw). r >>= λ rest. Ok (done ++ rest)) (sym (rw ok at (stepped head m n w fields more args word e known h same)))
    ∙ inv)

-- a step that is at fault is the fault of all
pub read_fault : (head : YcsbHead) (most n w : ℕ) (fields more args : List (List ℕ)) (word : List ℕ) (done : List Placed) (f : Flaw) (all : Result (List Placed) Flaw)
    → 1 ≤ most → fields ≡ word ∷ more → width head word ≡ Some w → w ≤ length more → args ≡ take w more → step_from head n word args ≡ Err f
    → (steps_from head most n fields >>= λ rest. Ok (done ++ rest)) ≡ all
    → all ≡ Err f
read_fault head zero n w fields more args word done f all few e known h same bad inv = absurd (omega (arith, few))
read_fault head (suc m) n w fields more args word done f all few e known h same bad inv =
    sym inv ∙ ap (λ (r : Result (List Placed) Flaw). r >>= λ rest. Ok (done ++ rest)) (rw bad at (stepped head m n w fields more args word e known h same))

-- no step was read yet
pub none_yet : (r : Result (List Placed) Flaw) (none : List Placed) → none ≡ [] → (r >>= λ more. Ok (none ++ more)) ≡ r
none_yet (Ok steps) none e = rw e refl
none_yet (Err f) none e = refl

-- The same in terms of the record: its fields as they are seen, and the place at which the next step's word stands.

abbrev pub seen : List (Bor (List ℕ)) → List (List ℕ)
seen fields = map (λ f. f.now) fields

seen_at : (txn : List (Bor (List ℕ))) (at : ℕ) (d : Bor (List ℕ)) → at < length txn → seen (drop at txn) ≡ (get_or txn at d).now ∷ seen (drop (at + 1) txn)
seen_at txn at d h =
    let e : drop at txn ≡ get_or txn at d ∷ drop (at + 1) txn = rw add-one (drop-cons txn at d h) in
    ap seen e

seen_args : (txn : List (Bor (List ℕ))) (from w : ℕ) → seen (take w (take (length txn - from) (drop from txn))) ≡ take w (seen (drop from txn))
seen_args txn from w = rw (take_rest txn from, take-map (λ (f : Bor (List ℕ)). f.now) w (drop from txn)) refl

seen_rest : (txn : List (Bor (List ℕ))) (at w : ℕ) → seen (drop (at + (1 + w)) txn) ≡ drop w (seen (drop (at + 1) txn))
seen_rest txn at w =
    let same : at + (1 + w) ≡ at + 1 + w = omega arith in
    rw (drop-map (λ (f : Bor (List ℕ)). f.now) w (drop (at + 1) txn), drop-drop w (at + 1) txn, same) refl

long_enough : (txn : List (Bor (List ℕ))) (from w : ℕ) → w ≤ length (take (length txn - from) (drop from txn)) → w ≤ length (seen (drop from txn))
long_enough txn from w h = rw (length-map (drop from txn) (λ (f : Bor (List ℕ)). f.now)) (rw (take_rest txn from) at h)

-- what is known where a step's word was read
pub record AtStep (head : YcsbHead) (most at w : ℕ) (txn : List (Bor (List ℕ))) (d : Bor (List ℕ)) (done : List Placed) : Type 0 where
  pub inside : at < length txn
  pub turns : length txn ≤ most + at
  pub known : Some w ≡ width head (get_or txn at d).now
  pub long : w ≤ length (take (length txn - (at + 1)) (drop (at + 1) txn))
  pub so_far : (steps_from head most (at + 1) (seen (drop at txn)) >>= λ rest. Ok (done ++ rest)) ≡ steps_from head (length txn) 2 (seen (drop 1 txn))

pub step_read : (head : YcsbHead) (most at w : ℕ) (txn : List (Bor (List ℕ))) (d : Bor (List ℕ)) (done next : List Placed) (step : Placed)
    → AtStep head most at w txn d done → next ≡ done ++ step ∷ []
    → step_from head (at + 1) (get_or txn at d).now (seen (take w (take (length txn - (at + 1)) (drop (at + 1) txn)))) ≡ Ok step
    → (steps_from head (most - 1) (at + (1 + w) + 1) (seen (drop (at + (1 + w)) txn)) >>= λ rest. Ok (next ++ rest)) ≡ steps_from head (length txn) 2 (seen (drop 1 txn))
step_read head most at w txn d done next step h more ok =
    let place : at + (1 + w) + 1 ≡ at + 1 + 1 + w = omega arith in
    rw (more, place, seen_rest txn at w)
    (read_more head most (at + 1) w (seen (drop at txn)) (seen (drop (at + 1) txn)) _ _ done step _ (omega (arith, h.inside, h.turns))
    (seen_at txn at d h.inside) (sym h.known) (long_enough txn (at + 1) w h.long) (seen_args txn (at + 1) w) ok h.so_far)

pub step_failed : (head : YcsbHead) (most at w : ℕ) (txn : List (Bor (List ℕ))) (d : Bor (List ℕ)) (done : List Placed) (f : Flaw)
    → AtStep head most at w txn d done
    → step_from head (at + 1) (get_or txn at d).now (seen (take w (take (length txn - (at + 1)) (drop (at + 1) txn)))) ≡ Err f
    → steps_from head (length txn) 2 (seen (drop 1 txn)) ≡ Err f
step_failed head most at w txn d done f h bad =
    read_fault head most (at + 1) w (seen (drop at txn)) (seen (drop (at + 1) txn)) _ _ done f _ (omega (arith, h.inside, h.turns))
    (seen_at txn at d h.inside) (sym h.known) (long_enough txn (at + 1) w h.long) (seen_args txn (at + 1) w) bad h.so_far

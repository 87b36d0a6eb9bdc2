-- What one more reply, vote or closing does.
use Rattle.std.proofs.Common.{◌≡◌, ℕ, List, [], ◌∷◌, ◌++◌, length, reverse, Bool, true, false, cond, not, ◌&&◌, ◌||◌, ◌==◌, eqb, ltb, Option, None, Some, refl, sym, ap, ◌∙◌, arith}
use Rattle.std.specs.Prelude.{slice_get}
use Rattle.std.specs.List.{list_any, list_all, filter}
use Rattle.std.proofs.lemmas.Bool.{eqb-true}
use Rattle.std.proofs.lemmas.Bool.Decides.{nat_tests}
use Rattle.std.proofs.lemmas.Grind.{reverse_onto}
use Rattle.std.proofs.lemmas.List.{length-reverse, nil_from_length}
use Rattle.deneva_base.specs.Modes.{reads}
use Rattle.deneva_base.specs.declared.causes.Bound.{Bound}
use Rattle.deneva_base.specs.declared.keys.Access.{Access}
use Rattle.deneva_base.specs.declared.rows.Keyed.{Keyed}
use Rattle.server_core.specs.Coordinator.{bound_of, greatest_bound, reads_of}
use Rattle.server_core.specs.Received.{Reply, all_voted, all_closed}
use Rattle.server_core.specs.declared.ballots.Ballot.{Ballot}
use Rattle.coord.specs.Bounds.{bound_with}
use Rattle.coord.specs.Left.{left_to_vote, left_to_close}

greatest_more : (b : Bound) (rs : List Reply) (r : Reply) → greatest_bound b (rs ++ r ∷ []) ≡ bound_with (greatest_bound b rs) r.bound r.key false
greatest_more b [] r = refl
greatest_more b (x ∷ rs) r = greatest_more (cond (ltb b.n x.bound) (record { n = x.bound; key = x.key }) b) rs r

-- the bound of one more reply, of which there may be none so far
pub bound_more : (rs : List Reply) (r : Reply) → bound_of (rs ++ r ∷ []) ≡ bound_with (bound_of rs) r.bound r.key (length rs == 0)
bound_more [] r = refl
bound_more (x ∷ rs) r =
    let some : (length (x ∷ rs) == 0) ≡ false = grind (arith, nat_tests) in
    greatest_more (record { n = x.bound; key = x.key }) rs r ∙ ap (bound_with (bound_of (x ∷ rs)) r.bound r.key) (sym some)

-- the same where the replies stand newest first
pub bound_newest : (rs : List Reply) (r : Reply) → bound_of (reverse (r ∷ rs)) ≡ bound_with (bound_of (reverse rs)) r.bound r.key (length rs == 0)
bound_newest rs r = ap bound_of (reverse_onto rs r []) ∙ bound_more (reverse rs) r ∙ ap (λ (n : ℕ). bound_with (bound_of (reverse rs)) r.bound r.key (n == 0)) (length-reverse rs)

-- what one more reply reads, to the access that it is for
abbrev pub read_by : Option Access → Reply → List Keyed
read_by None r = []
read_by (Some a) r = cond (reads a.mode) (record { key = a.key; row = r.row } ∷ []) []

pub reads_more : (list : List Access) (rs : List Reply) (r : Reply) → reads_of list (rs ++ r ∷ []) ≡ reads_of list rs ++ read_by (slice_get list (length rs)) r
reads_more [] rs r = refl
reads_more (a ∷ list) [] r = one (reads a.mode) list
  where
    none : (more : List Access) → reads_of more [] ≡ []
    none [] = refl
    none (b ∷ more) = refl

    one : (b : Bool) (more : List Access) → cond b (record { key = a.key; row = r.row } ∷ reads_of more []) (reads_of more []) ≡ cond b (record { key = a.key; row = r.row } ∷ []) []
    one true more = rw (none more) refl
    one false more = none more
reads_more (a ∷ list) (x ∷ rs) r = one (reads a.mode) (reads_more list rs r)
  where
    one : (b : Bool) → reads_of list (rs ++ r ∷ []) ≡ reads_of list rs ++ read_by (slice_get list (length rs)) r → cond b (record { key = a.key; row = x.row } ∷ reads_of list (rs ++ r ∷ [])) (reads_of list (rs ++ r ∷ [])) ≡ cond b (record { key = a.key; row = x.row } ∷ reads_of list rs) (reads_of list rs) ++ read_by (slice_get list (length rs)) r
    one true more = ap (λ l. record { key = a.key; row = x.row } ∷ l) more
    one false more = more

pub reads_newest : (list : List Access) (rs : List Reply) (r : Reply) → reads_of list (reverse (r ∷ rs)) ≡ reads_of list (reverse rs) ++ read_by (slice_get list (length rs)) r
reads_newest list rs r = ap (reads_of list) (reverse_onto rs r []) ∙ reads_more list (reverse rs) r ∙ ap (λ (n : ℕ). reads_of list (reverse rs) ++ read_by (slice_get list n) r) (length-reverse rs)

-- with no reply nothing is read
pub reads_none : (list : List Access) → reads_of list [] ≡ []
reads_none [] = refl
reads_none (a ∷ list) = refl

-- all of a list have come where none is left
none_left : (came : ℕ → Bool) (qs : List ℕ) → list_all came qs ≡ (length (filter (λ q. not (came q)) qs) == 0)
none_left came [] = refl
none_left came (q ∷ qs) = one (came q) (none_left came qs)
  where
    one : (b : Bool) → list_all came qs ≡ (length (filter (λ q. not (came q)) qs) == 0) → (b && list_all came qs) ≡ (length (cond (not b) (q ∷ filter (λ q. not (came q)) qs) (filter (λ q. not (came q)) qs)) == 0)
    one true more = more
    one false more = grind (arith, nat_tests)

-- one more has come
more_left : (c : ℕ) (came : ℕ → Bool) (qs : List ℕ) → filter (λ q. not (eqb c q || came q)) qs ≡ filter (λ q. not (eqb q c)) (filter (λ q. not (came q)) qs)
more_left c came [] = refl
more_left c came (q ∷ qs) = one (came q) (eqb c q) (filter (λ q. not (eqb c q || came q)) qs) (filter (λ q. not (came q)) qs) (grind (arith, nat_tests)) (more_left c came qs)
  where
    one : (b d : Bool) (after before : List ℕ) → eqb q c ≡ d → after ≡ filter (λ q. not (eqb q c)) before → cond (not (d || b)) (q ∷ after) after ≡ filter (λ q. not (eqb q c)) (cond (not b) (q ∷ before) before)
    one true true after before same more = more
    one true false after before same more = more
    one false true after before same more = rw same more
    one false false after before same more = rw same (ap (λ l. q ∷ l) more)

-- a list of no length is empty
nil_tells : (came : ℕ → Bool) (qs : List ℕ) → (list_all came qs ≡ true → filter (λ q. not (came q)) qs ≡ []) × (filter (λ q. not (came q)) qs ≡ [] → list_all came qs ≡ true)
nil_tells came qs =
    (λ all. nil_from_length _ (eqb-true _ _ (sym (none_left came qs) ∙ all)), λ nil. none_left came qs ∙ ap (λ (l : List ℕ). length l == 0) nil)

-- at first all are left
all_left : (qs : List ℕ) → filter (λ q. not false) qs ≡ qs
all_left [] = refl
all_left (q ∷ qs) = ap (λ l. q ∷ l) (all_left qs)

-- all have voted exactly where none is left to vote
pub voted_none : (bs : List Ballot) (qs : List ℕ) → all_voted bs qs ≡ (length (left_to_vote bs qs) == 0)
voted_none bs qs = none_left (λ q. list_any (λ (b : Ballot). eqb b.part q) bs) qs

pub left_none : (bs : List Ballot) (qs : List ℕ) → (all_voted bs qs ≡ true → left_to_vote bs qs ≡ []) × (left_to_vote bs qs ≡ [] → all_voted bs qs ≡ true)
left_none bs qs = nil_tells (λ q. list_any (λ (b : Ballot). eqb b.part q) bs) qs

pub voted_more : (b : Ballot) (bs : List Ballot) (qs : List ℕ) → left_to_vote (b ∷ bs) qs ≡ filter (λ q. not (eqb q b.part)) (left_to_vote bs qs)
voted_more b bs qs = more_left b.part (λ q. list_any (λ (x : Ballot). eqb x.part q) bs) qs

pub voted_first : (qs : List ℕ) → left_to_vote [] qs ≡ qs
voted_first = all_left

-- all have closed exactly where none is left to close
pub closed_none : (cs qs : List ℕ) → all_closed cs qs ≡ (length (left_to_close cs qs) == 0)
closed_none cs qs = none_left (λ q. list_any (λ (c : ℕ). eqb c q) cs) qs

pub left_none_to_close : (cs qs : List ℕ) → (all_closed cs qs ≡ true → left_to_close cs qs ≡ []) × (left_to_close cs qs ≡ [] → all_closed cs qs ≡ true)
left_none_to_close cs qs = nil_tells (λ q. list_any (λ (c : ℕ). eqb c q) cs) qs

pub closed_more : (c : ℕ) (cs qs : List ℕ) → left_to_close (c ∷ cs) qs ≡ filter (λ q. not (eqb q c)) (left_to_close cs qs)
closed_more c cs qs = more_left c (λ q. list_any (λ (x : ℕ). eqb x q) cs) qs

pub closed_first : (qs : List ℕ) → left_to_close [] qs ≡ qs
closed_first = all_left

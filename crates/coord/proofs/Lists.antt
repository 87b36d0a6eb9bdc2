-- What is left, by the first of it.
use Rattle.std.proofs.Common.{◌≡◌, ℕ, suc, ◌+◌, ◌≤◌, ◌==◌, List, [], ◌∷◌, ◌++◌, length, reverse, slice_get, Bool, true, false, cond, refl, ap, ◌∙◌, arith, Some}
use Rattle.std.proofs.lemmas.Bool.Decides.{nat_tests}
use Rattle.std.proofs.lemmas.Grind.{reverse_onto}
use Rattle.deneva_base.specs.declared.keys.Access.{Access}
use Rattle.deneva_base.specs.declared.keys.Key.{Key}
use Rattle.deneva_base.specs.Keys.{key_eq}
use Rattle.deneva_base.specs.Lists.{IsIn}
use Rattle.deneva_base.specs.Partitions.{partition_of}
use Rattle.server_core.specs.Coordinator.{reads_of}
use Rattle.server_core.specs.Proper.{keys_in}
use Rattle.server_core.specs.Received.{Reply, all_voted, all_closed}
use Rattle.server_core.specs.declared.ballots.Ballot.{Ballot}
use Rattle.server_core.specs.Setting.{partitions_of}
use Rattle.server_core.proofs.lists.Parts.{parts_in}
use Rattle.coord.specs.Left.{left_to_vote, left_to_close}
use Rattle.coord.specs.States.{row_read}
use Rattle.coord.proofs.OneMore.{read_by, reads_newest, voted_none, closed_none}

pub reverse_more : {A : Type 0} (x : A) (xs : List A) → reverse (x ∷ xs) ≡ reverse xs ++ x ∷ []
reverse_more x xs = reverse_onto xs x []

-- one more row that was read
pub row_more : (list : List Access) (rs : List Reply) (r : Reply) (a : Access) → slice_get list (length rs) ≡ Some a → reads_of list (reverse (r ∷ rs)) ≡ reads_of list (reverse rs) ++ row_read a r.row
row_more list rs r a e = reads_newest list rs r ∙ ap (λ o. reads_of list (reverse rs) ++ read_by o r) e

later_zero : (n : ℕ) → (suc n == 0) ≡ false
later_zero n = grind (arith, nat_tests)

pub some_to_vote : (bs : List Ballot) (qs : List ℕ) (x : ℕ) (xs : List ℕ) → left_to_vote bs qs ≡ x ∷ xs → all_voted bs qs ≡ false
some_to_vote bs qs x xs e = voted_none bs qs ∙ ap (λ (l : List ℕ). length l == 0) e ∙ later_zero (length xs)

pub some_to_close : (cs qs : List ℕ) (x : ℕ) (xs : List ℕ) → left_to_close cs qs ≡ x ∷ xs → all_closed cs qs ≡ false
some_to_close cs qs x xs e = closed_none cs qs ∙ ap (λ (l : List ℕ). length l == 0) e ∙ later_zero (length xs)

-- some access is at some partition
pub some_part : (parts : ℕ) (as' : List Access) → 1 ≤ parts → 1 ≤ length as' → (q : ℕ) × IsIn q (partitions_of parts as')
some_part parts [] one some = absurd (omega (arith, some))
some_part parts (a ∷ as') one some = (partition_of a.key parts, parts_in parts a.key (a ∷ as') one (go (key_eq a.key a.key) (same a.key)))
  where
    same : (k : Key) → key_eq k k ≡ true
    same k = grind (arith, nat_tests)

    go : (b : Bool) → b ≡ true → 1 ≤ cond b 1 0 + keys_in a.key as'
    go b e = rw e (omega arith)

pub none_voted : (qs : List ℕ) (q : ℕ) → IsIn q qs → all_voted [] qs ≡ false
none_voted [] q i = absurd i
none_voted (x ∷ qs) q i = refl

pub none_closed : (qs : List ℕ) (q : ℕ) → IsIn q qs → all_closed [] qs ≡ false
none_closed [] q i = absurd i
none_closed (x ∷ qs) q i = refl

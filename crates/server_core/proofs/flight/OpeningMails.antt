-- What is in flight at the start, node by node and transaction by transaction.
use Rattle.std.proofs.Common.{◌≡◌, ◌≢◌, ◌⊎◌, ℕ, zero, suc, ◌+◌, ◌-◌, ◌<◌, ◌≤◌, max, List, [], ◌∷◌, ◌++◌, length, map, filter, drop, get_or, slice_get, drop-cons, add-one, true, cond, ltb, eqb, refl, sym, ap, ◌∙◌, subst, inl, ⊎_elim, arith, Some, append_assoc}
use Rattle.std.specs.List.{flat_map}
use Rattle.std.proofs.lemmas.Bool.Decides.{eqb_tells, nat_tests}
use Rattle.std.proofs.lemmas.Option.{get_or_from_slice_get}
use Rattle.deneva_base.specs.Lists.{IsIn, greatest_by}
use Rattle.deneva_base.specs.Partitions.{partition_of}
use Rattle.deneva_base.specs.declared.config.Config.{Config}
use Rattle.deneva_base.specs.declared.keys.Access.{Access}
use Rattle.deneva_base.specs.declared.numbers.TxnId.{TxnId}
use Rattle.protocol_rules.proofs.Timestamps.{top_by}
use Rattle.deneva_base.proofs.Membership.{in_filter}
use Rattle.txn_program.specs.Serial.{all_ids, ids_from, program_of}
use Rattle.txn_program.specs.Transactions.{accesses, first_key, home_of, numbers_below}
use Rattle.txn_program.specs.Valid.{IsValid, is_valid_program}
use Rattle.txn_program.specs.declared.programs.Program.{Program}
use Rattle.txn_program.specs.declared.programs.Program.TheVariants.{Ycsb}
use Rattle.txn_program.specs.declared.programs.Workload.{Workload}
use Rattle.txn_program.proofs.ValidPrograms.{valid_program}
use Rattle.server_core.specs.Calvin as ordered
use Rattle.server_core.specs.GlobalOrder.{epochs, eights}
use Rattle.server_core.specs.Setting.{Setting, setting, home, home_in, homes, take_first}
use Rattle.server_core.specs.Voting.{first_starts}
use Rattle.server_core.specs.declared.messages.Mail.{Mail}
use Rattle.server_core.specs.declared.messages.Msg.TheVariants.{Start}
use Rattle.server_core.proofs.lists.Parts.{home_below}
use Rattle.server_core.proofs.lists.ListTests.{in_below, same_number}

-- one more node
pub map_below : {A : Type 0} (f : ℕ → A) (n : ℕ) → map f (numbers_below (suc n)) ≡ map f (numbers_below n) ++ f n ∷ []
map_below f n = more (numbers_below n)
  where
    more : (ns : List ℕ) → map f (ns ++ n ∷ []) ≡ map f ns ++ f n ∷ []
    more [] = refl
    more (m ∷ ns) = ap (λ l. f m ∷ l) (more ns)

pub flat_below : {A : Type 0} (f : ℕ → List A) (n : ℕ) → flat_map f (numbers_below (suc n)) ≡ flat_map f (numbers_below n) ++ f n
flat_below f n = more (numbers_below n)
  where
    nothing : {A : Type 0} (l : List A) → l ++ [] ≡ l
    nothing [] = refl
    nothing (x ∷ l) = ap (λ r. x ∷ r) (nothing l)

    more : (ns : List ℕ) → flat_map f (ns ++ n ∷ []) ≡ flat_map f ns ++ f n
    more [] = nothing (f n)
    more (m ∷ ns) = ap (λ l. f m ++ l) (more ns) ∙ sym (append_assoc (f m) (flat_map f ns) (f n))

pub valid_at : (w : Workload) → IsValid w → (place : ℕ) (program : Program) → place < length w.programs → slice_get w.programs place ≡ Some program → is_valid_program w.load program ≡ true
valid_at w v place program inside e =
    subst (λ p. is_valid_program w.load p ≡ true) (get_or_from_slice_get w.programs place program (Ycsb []) e) (valid_program w v place (Ycsb []) inside)

module _ (c : Config) (w : Workload) (some : 1 ≤ c.parts) where
  abbrev s : Setting
  s = setting c w

  -- the home of the transaction at a place, by its program
  pub home_at : (place : ℕ) (program : Program) → slice_get w.programs place ≡ Some program → home s (record { 0 = place + 1 }) ≡ home_of w.load program c.parts
  home_at place program e =
      let at : place + 1 - 1 ≡ place = omega arith in
      let is : program_of w (record { 0 = place + 1 }) ≡ program = ap (λ n. get_or w.programs n (Ycsb [])) at ∙ get_or_from_slice_get w.programs place program (Ycsb []) e in
      first (accesses w.load (program_of w (record { 0 = place + 1 }))) ∙ ap (λ p. home_of w.load p c.parts) is
    where
      first : (l : List Access) → home_in c.parts l ≡ partition_of (first_key l) c.parts
      first [] = omega (arith, some)
      first (a ∷ l) = refl

  -- the home transactions of a node from a place on
  abbrev pub homes_left : ℕ → ℕ → List TxnId
  homes_left node place = filter (λ x. eqb (home s x) node) (ids_from (place + 1) (drop place w.programs))

  module _ (node place : ℕ) (inside : place < length w.programs) where
    abbrev x : TxnId
    x = record { 0 = place + 1 }

    left_is : homes_left node place ≡ cond (eqb (home s x) node) (x ∷ homes_left node (place + 1)) (homes_left node (place + 1))
    left_is =
        let left : drop place w.programs ≡ get_or w.programs place (Ycsb []) ∷ drop (place + 1) w.programs = rw add-one (drop-cons w.programs place (Ycsb []) inside) in
        ap (λ (l : List Program). filter (λ y. eqb (home s y) node) (ids_from (place + 1) l)) left

    here : home s x ≡ node → homes_left node place ≡ x ∷ homes_left node (place + 1)
    here is = left_is ∙ ⊎_elim (λ t. ap (λ b. cond b (x ∷ homes_left node (place + 1)) (homes_left node (place + 1))) t.0) (λ t. absurd (t.1 is)) (eqb_tells (home s x) node)

    away : home s x ≢ node → homes_left node place ≡ homes_left node (place + 1)
    away ne = left_is ∙ ⊎_elim (λ t. absurd (ne t.1)) (λ t. ap (λ b. cond b (x ∷ homes_left node (place + 1)) (homes_left node (place + 1))) t.0) (eqb_tells (home s x) node)

    -- a transaction of this home is begun where there is room, and all others are passed
    pub begun : (mails next all : List Mail) (room less : ℕ) → home s x ≡ node → 0 < room → next ≡ mails ++ record { from = node; to = node; msg = Start (record { txn = x; turn = 1 }) } ∷ [] → less ≡ room - 1 → mails ++ first_starts node (take_first room (homes_left node place)) ≡ all → next ++ first_starts node (take_first less (homes_left node (place + 1))) ≡ all
    begun mails next all zero less is low e f g = absurd (omega arith)
    begun mails next all (suc room) less is low e f g =
        let same : less ≡ room = omega (arith, f) in
        let start : Mail = record { from = node; to = node; msg = Start (record { txn = x; turn = 1 }) } in
        let rest : List Mail = first_starts node (take_first room (homes_left node (place + 1))) in
        ap (λ l. next ++ first_starts node (take_first l (homes_left node (place + 1)))) same
        ∙ ap (λ l. l ++ rest) e
        ∙ append_assoc mails (start ∷ []) rest
        ∙ ap (λ l. mails ++ first_starts node (take_first (suc room) l)) (sym (here is))
        ∙ g

    pub passed : (mails next all : List Mail) (room left : ℕ) → (home s x ≢ node) ⊎ (room ≡ 0) → next ≡ mails → left ≡ room → mails ++ first_starts node (take_first room (homes_left node place)) ≡ all → next ++ first_starts node (take_first left (homes_left node (place + 1))) ≡ all
    passed mails next all room left why e f g =
        ap (λ l. next ++ first_starts node (take_first l (homes_left node (place + 1)))) f
        ∙ ap (λ l. l ++ first_starts node (take_first room (homes_left node (place + 1)))) e
        ∙ ap (λ l. mails ++ l) (same why)
        ∙ g
      where
        same : (home s x ≢ node) ⊎ (room ≡ 0) → first_starts node (take_first room (homes_left node (place + 1))) ≡ first_starts node (take_first room (homes_left node place))
        same y =
            ⊎_elim
            (λ ne. ap (λ l. first_starts node (take_first room l)) (sym (away ne)))
            (λ z. ap (λ r. first_starts node (take_first r (homes_left node (place + 1)))) z ∙ sym (ap (λ r. first_starts node (take_first r (homes_left node place))) z))
            y

  -- under Calvin there is an epoch exactly where there is a transaction
  no_epochs : length w.programs ≡ 0 → epochs s ≡ 0
  no_epochs none = none_of w.programs none
    where
      zeros : (ns : List ℕ) → greatest_by (λ q. eights (length (filter (λ y. eqb (home s y) q) []))) ns ≡ 0
      zeros [] = refl
      zeros (n ∷ ns) = ap (max 0) (zeros ns)

      none_of : (ps : List Program) → length ps ≡ 0 → greatest_by (λ q. eights (length (filter (λ y. eqb (home s y) q) (ids_from 1 ps)))) (numbers_below c.parts) ≡ 0
      none_of [] e = zeros (numbers_below c.parts)
      none_of (p ∷ ps) e = absurd (omega (arith, e))

  some_epochs : 1 ≤ length w.programs → 1 ≤ epochs s
  some_epochs h =
      let q : ℕ = home s first in
      let n = one_home (homes s q) (in_filter (λ y. eqb (home s y) q) first (all_ids w) (first_in w.programs h) (same_number q)) in
      most (eights (length (homes s q))) (epochs s) (least (length (homes s q)) n) (top_by (λ q. eights (length (homes s q))) q (numbers_below c.parts) (in_below q c.parts (home_below s some first)))
    where
      first : TxnId
      first = record { 0 = 1 }

      first_in : (ps : List Program) → 1 ≤ length ps → IsIn first (ids_from 1 ps)
      first_in [] l = absurd (omega (arith, l))
      first_in (p ∷ ps) l = inl refl

      one_home : (xs : List TxnId) → IsIn first xs → 1 ≤ length xs
      one_home [] i = absurd i
      one_home (x ∷ xs) i = omega arith

      least : (n : ℕ) → 1 ≤ n → 1 ≤ eights n
      least n l = omega (arith, l)

      most : (a b : ℕ) → 1 ≤ a → a ≤ b → 1 ≤ b
      most a b x y = omega (arith, x, y)

  pub opening_none : length w.programs ≡ 0 → ordered.opening s ≡ []
  opening_none none = ap (λ n. cond (ltb 0 n) (map (λ p. ordered.tick_mail p 0) (numbers_below c.parts)) []) (no_epochs none)

  pub opening_some : 1 ≤ length w.programs → ordered.opening s ≡ map (λ p. ordered.tick_mail p 0) (numbers_below c.parts)
  opening_some h = ap (λ b. cond b (map (λ p. ordered.tick_mail p 0) (numbers_below c.parts)) []) (some_below (epochs s) (some_epochs h))
    where
      some_below : (n : ℕ) → 1 ≤ n → ltb 0 n ≡ true
      some_below n l = grind (arith, nat_tests, l)

-- What a story tells is what the whole history tells.
use Rattle.std.proofs.Common.{◌≡◌, ℕ, zero, suc, ◌+◌, min, List, [], ◌∷◌, map, length, reverse, take, true, false, cond, refl, sym, ap, ◌∙◌, ◌&&◌, ap₂, arith}
use Rattle.std.proofs.lemmas.List.{length-map, length-reverse, take_min}
use Rattle.std.proofs.Math.Nat.{min_comm}
use Rattle.deneva_base.specs.Modes.{reads}
use Rattle.deneva_base.specs.Rows.{Row}
use Rattle.deneva_base.specs.declared.keys.Access.{Access}
use Rattle.deneva_base.specs.declared.numbers.Attempt.{Attempt}
use Rattle.deneva_base.specs.declared.rows.Keyed.{Keyed}
use Rattle.server_core.specs.Coordinator.{asked_partitions, told, reads_of}
use Rattle.server_core.specs.AttemptEnds as ends
use Rattle.server_core.specs.AttemptEnds.{attempt, at_home, dones_for, undones_for}
use Rattle.server_core.specs.Lines.{committed_n, decided_as, line_of}
use Rattle.server_core.specs.Received.{Reply, grants_for, refused_for, started_for, all_closed}
use Rattle.server_core.specs.Runs.{heard}
use Rattle.server_core.specs.Setting.{home, participants_for, take_first}
use Rattle.server_core.specs.declared.messages.Entry.{Entry}
use Rattle.server_core.specs.declared.messages.Msg.{Msg}
use Rattle.run_outcomes.specs.Naming.{is_about, entries_of}
use Rattle.run_outcomes.specs.GrantedRows.{reply_of}
use Rattle.server_core.specs.Roles.{setting_of}
use Rattle.run_outcomes.specs.Stories.{Tells}
use Rattle.server_core.specs.declared.role.Role.{Role}
use Rattle.run_outcomes.specs.declared.stories.Story.{Story}
use Rattle.run_outcomes.proofs.Locals.{Skips, skipped, heard_of, started_skips, refused_skips, grants_skip, dones_skip, undones_skip, number_skips}

first_ones : {A : Type 0} (n : ℕ) (xs : List A) → take_first n xs ≡ take n xs
first_ones zero xs = refl
first_ones (suc n) [] = refl
first_ones (suc n) (x ∷ xs) = ap (λ l. x ∷ l) (first_ones n xs)

-- the reads take the rows of the replies alone
reads_again : (list : List Access) (rs : List Reply) → reads_of list (map reply_of (map (λ r. r.row) rs)) ≡ reads_of list rs
reads_again [] rs = refl
reads_again (a ∷ list) [] = refl
reads_again (a ∷ list) (r ∷ rs) = ap (λ l. cond (reads a.mode) (record { key = a.key; row = r.row } ∷ l) l) (reads_again list rs)

module _ (r : Role) (H : List Entry) (t : Story) (k : Tells r H t) where
  abbrev ms : List Msg
  ms = map (λ m. m.now) t.messages.items

  pub of_messages : {B : Type 0} (f : List Msg → B) → Skips (is_about t.id) f → f ms ≡ f (heard (home (setting_of r) t.id) H)
  of_messages f s =
      let at = home (setting_of r) t.id in
      ap f (k.messages ∙ ap (λ p. heard p (entries_of t.id H)) k.home ∙ heard_of at t.id H) ∙ skipped (is_about t.id) f s (heard at H)

  pub of_entries : {B : Type 0} (f : List Entry → B) → Skips (λ (e : Entry). is_about t.id e.msg) f → f (map (λ e. e.now) t.entries.items) ≡ f H
  of_entries f s = ap f k.entries ∙ skipped (λ (e : Entry). is_about t.id e.msg) f s H

  module _ (turn : ℕ) where
    abbrev who : Attempt
    who = attempt t.id turn

    pub done_told : (started_for who ms && all_closed (dones_for who ms) t.participants) ≡ ends.all_done (setting_of r) H who
    done_told = ap₂ (λ a b. a && b) (of_messages (started_for who) (started_skips who)) (ap₂ all_closed (of_messages (dones_for who) (dones_skip who)) k.participants)

    pub refused_told : refused_for who ms ≡ refused_for who (at_home (setting_of r) H who)
    refused_told = of_messages (refused_for who) (refused_skips who)

    -- the accesses that the attempt has asked
    pub asked_told : (m n : ℕ) (list : List Access) (rows : List Row) → m ≡ min (length list) (n + 1) → n ≡ length rows → list ≡ t.accesses → rows ≡ map (λ r. r.row) (reverse (grants_for who ms)) → take m list ≡ take_first (suc (length (grants_for who (at_home (setting_of r) H who)))) ((setting_of r).accesses t.id)
    asked_told m n list rows min' count same granted =
        let replies = grants_for who ms in
        let all : n ≡ length (grants_for who (at_home (setting_of r) H who)) =
        count ∙ ap length granted ∙ length-map (reverse replies) (λ (r : Reply). r.row) ∙ length-reverse replies ∙ ap length (of_messages (grants_for who) (grants_skip who)) in
        let more : n + 1 ≡ suc (length (grants_for who (at_home (setting_of r) H who))) = omega (arith, all) in
        ap (λ k. take k list) (min' ∙ min_comm (length list) (n + 1)) ∙ take_min (n + 1) list ∙ ap₂ take more (same ∙ k.accesses) ∙ sym (first_ones (suc (length (grants_for who (at_home (setting_of r) H who)))) ((setting_of r).accesses t.id))

    -- where its end was said
    pub told_if_refused : refused_for who ms ≡ true → asked_partitions (setting_of r) (at_home (setting_of r) H who) who ≡ told (setting_of r) (at_home (setting_of r) H who) who
    told_if_refused e =
        ap (λ b. cond b (asked_partitions (setting_of r) (at_home (setting_of r) H who) who) (participants_for (setting_of r) t.id)) (sym e ∙ refused_told)

    pub told_if_voted : refused_for who ms ≡ false → t.participants ≡ told (setting_of r) (at_home (setting_of r) H who) who
    told_if_voted e =
        k.participants ∙ ap (λ b. cond b (asked_partitions (setting_of r) (at_home (setting_of r) H who) who) (participants_for (setting_of r) t.id)) (sym e ∙ refused_told)

    pub undone_told : (qs : List ℕ) → qs ≡ told (setting_of r) (at_home (setting_of r) H who) who → (started_for who ms && all_closed (undones_for who ms) qs) ≡ ends.all_undone (setting_of r) H who
    undone_told qs e = ap₂ (λ a b. a && b) (of_messages (started_for who) (started_skips who)) (ap₂ all_closed (of_messages (undones_for who) (undones_skip who)) e)

    -- its line, with these reads
    pub line_told : (n : ℕ) (rows : List Row) (reads : List Keyed) → n ≡ committed_n who (map (λ e. e.now) t.entries.items) → rows ≡ map (λ r. r.row) (reverse (grants_for who ms)) → reads ≡ reads_of t.accesses (map reply_of rows) → decided_as (setting_of r) t.id n reads ≡ line_of (setting_of r) H who
    line_told n rows reads number granted are =
        let grants = of_messages (grants_for who) (grants_skip who) in
        ap₂ (decided_as (setting_of r) t.id) (number ∙ of_entries (committed_n who) (number_skips who))
        (are ∙ ap₂ reads_of k.accesses (ap (map reply_of) granted) ∙ reads_again ((setting_of r).accesses t.id) (reverse (grants_for who ms)) ∙ ap (λ l. reads_of ((setting_of r).accesses t.id) (reverse l)) grants)

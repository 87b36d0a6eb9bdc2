-- The table tracks the history with one more Ask.
use Rattle.std.proofs.Common.{◌≡◌, ◌≢◌, ◌⊎◌, ℕ, suc, ◌-◌, List, [], ◌∷◌, ◌++◌, map, filter, reverse, Bool, true, false, ◌&&◌, ◌||◌, cond, refl, sym, ap, ◌∙◌, subst, inl, inr, ⊎_elim, Option, Some, None}
use Rattle.std.proofs.lemmas.List.{map-append, append-nil}
use Rattle.std.proofs.lemmas.List.Elements.{filter-append}
use Rattle.deneva_base.specs.declared.keys.Key.{Key}
use Rattle.deneva_base.specs.declared.keys.Mode.{Mode}
use Rattle.deneva_base.specs.declared.numbers.Attempt.{Attempt}
use Rattle.deneva_base.specs.declared.numbers.Number.{Number}
use Rattle.deneva_base.specs.declared.answers.Answer.TheVariants.{Granted}
use Rattle.deneva_base.specs.Lists.{IsIn, greatest_by}
use Rattle.deneva_base.specs.Rows.{Row, Rows}
use Rattle.deneva_base.specs.Modes.{reads}
use Rattle.deneva_base.specs.Keys.{key_eq, number_lt, loaded_version}
use Rattle.protocol_rules.specs.Conditions.{MayAsk}
use Rattle.protocol_rules.specs.History.{Ask, History, Grant, Yea, Decided, grants, yeas, decided, ended, closed}
use Rattle.protocol_rules.specs.Latest.{Version, latest, seen}
use Rattle.protocol_rules.specs.Ranged.{wrote, accessed, past_committed}
use Rattle.deneva_base.proofs.Membership.{key_decides, key_tells, attempt_tells}
use Rattle.protocol_rules.proofs.Unended.{not_ended}
use Rattle.protocol_rules.proofs.Sound.{Sound}
use Rattle.range_control.specs.declared.ends.Upper.{Upper}
use Rattle.range_control.specs.declared.table.Table.{Table}
use Rattle.range_control.specs.Ends.{upper_before, first_of, first_by}
use Rattle.range_control.specs.Seen.{Accesses}
use Rattle.range_control.specs.Accesses.{with_access}
use Rattle.range_control.specs.Tables.{accesses_at}
use Rattle.range_control.specs.Changes.{new_access, Adds, MayNote, MayVote}
use Rattle.range_control.specs.Standing.{State, state_of, is_held, held_here, window_in, under_decided, held_of, Tracks}
use Rattle.key_table.specs.Keys.{same_key}
use Rattle.key_table.proofs.Places.{same_tells, at_place}
use Rattle.shelf.proofs.Keeps.{keeps_granted, keeps_noted, keeps_reserved}
use Rattle.range_control.proofs.Lists.{greatest_same}
use Rattle.range_control.proofs.Holders.{reverse-cons, reverse_in}

first_nothing : {X A : Type 0} (before : A → A → Bool) (f : X → Option A) (best : Option A) (xs : List X) → ((x : X) → IsIn x xs → f x ≡ None) → first_by before f best xs ≡ best
first_nothing before f best [] n = refl
first_nothing before f best (x ∷ xs) n = ap (λ o. first_by before f (first_of before best o) xs) (n x (inl refl)) ∙ first_nothing before f best xs (λ y i. n y (inr i))

window_none : (ys : List Yea) (who : Attempt) (key : Key) → ((y : Yea) → IsIn y ys → y.who ≢ who) → window_in ys who key ≡ None
window_none [] who key n = refl
window_none (y ∷ ys) who key n = ⊎_elim (λ t. absurd (n y (inl refl) t.1)) (λ f. rw f.0 (window_none ys who key (λ z i. n z (inr i)))) (attempt_tells y.who who)

module _ (loaded : Rows) (h : History) (sound : Sound loaded h) (who : Attempt) (stamp : ℕ) (key : Key) (mode : Mode) (may : MayAsk loaded h who stamp key) (top : (d : Decided) → IsIn d (decided h) → wrote h d.who key ≡ true → number_lt (latest loaded h key).number d.number ≡ false) where
  module _ (row : Row) (version : Number) (bound : ℕ) (latest_is : version ≡ (seen mode (latest loaded h key)).number) where
    abbrev mine : Grant
    mine = record { who = who; stamp = stamp; key = key; mode = mode; row = row; version = version }

    abbrev after : History
    after = Ask who stamp key mode (Granted row version bound) ∷ h

    abbrev under_end : Decided → Upper
    under_end d = record { n = d.number.n - 1; by = d.who }

    -- nothing limits it yet
    unlimited : (d : Decided) → IsIn d (decided h) → under_decided h mine d ≡ None
    unlimited d i = go (reads mode) refl
      where
        below : (b : Bool) → wrote h d.who key ≡ b → reads mode ≡ true → cond (b && number_lt version d.number) (Some (under_end d)) None ≡ None
        below false w r = refl
        below true w r =
            let nothing : Version = record { number = loaded_version; row = [] } in
            let is : version ≡ (latest loaded h key).number = latest_is ∙ ap (λ b. (cond b (latest loaded h key) nothing).number) r in
            ap (λ b. cond b (Some (under_end d)) None) (ap (λ n. number_lt n d.number) is ∙ top d i w)

        go : (b : Bool) → reads mode ≡ b → cond (b && (wrote h d.who key && number_lt version d.number)) (Some (under_end d)) None ≡ None
        go false r = refl
        go true r = below (wrote h d.who key) refl r

    new_is : new_access who mode version ≡ held_of h mine
    new_is =
        let upper = first_nothing upper_before (under_decided h mine) None (reverse (decided h)) (λ d i. unlimited d (reverse_in d (decided h) i)) in
        let window = window_none (yeas h) who key (λ y i e. may.opened (subst (λ a. IsIn a (closed h)) e (sound.closes y i))) in
        λ i. record { who = who; mode = mode; version = version; upper = sym upper i; window = sym window i }

    held_more : (k : Key) → held_here after k ≡ held_here h k ++ cond (key_eq key k) (mine ∷ []) []
    held_more k =
        ap (filter (is_held h k)) (reverse-cons mine (grants h))
        ∙ filter-append (is_held h k) (reverse (grants h)) (mine ∷ [])
        ∙ ap (λ b. held_here h k ++ cond (key_eq key k && b) (mine ∷ []) []) (not_ended h who may.unended)
        ∙ ap (λ b. held_here h k ++ cond b (mine ∷ []) []) (and_yes (key_eq key k))
      where
        and_yes : (b : Bool) → (b && true) ≡ b
        and_yes true = refl
        and_yes false = refl

    -- no committed attempt is this one
    past_stays : (k : Key) → greatest_by (past_committed after k) (decided h) ≡ greatest_by (past_committed h k) (decided h)
    past_stays k = greatest_same (past_committed after k) (past_committed h k) (decided h) (λ d i. ⊎_elim
        (λ t. absurd (may.unended (subst (λ a. IsIn a (ended h)) (sym t.1) (sound.ends d i))))
        (λ f. ap (λ b. cond ((b && key_eq key k) || accessed h d.who k) (suc d.number.n) 0) f.0)
        (attempt_tells who d.who))

    pub ask_tracks : (old new : Table) → Tracks loaded (state_of old) h → Adds stamp key (new_access who mode version) old new → Tracks loaded (state_of new) after
    ask_tracks old new t c =
        let s : State = state_of old in
        let s' : State = state_of new in
        let cases : (k : Key) → ((key ≡ k) × (s'.lines k ≡ with_access (new_access who mode version) (s.lines key))) ⊎ ((key ≢ k) × (s'.lines k ≡ s.lines k)) =
        λ k. at_place same_key same_tells key k (s'.lines k) (with_access (new_access who mode version) (s.lines key)) (s.lines k) (c.lines k) in
        record {
          held = λ k. ⊎_elim
              (λ x.
              ap (λ (l : Accesses). l.held) x.1
              ∙ ap (λ l. l ++ new_access who mode version ∷ []) (t.held key)
              ∙ ap (λ a. map (held_of h) (held_here h key) ++ a ∷ []) new_is
              ∙ sym (map-append (held_of h) (held_here h key) (mine ∷ []))
              ∙ ap (λ q. map (held_of h) (held_here h q ++ mine ∷ [])) x.0
              ∙ ap (λ b. map (held_of h) (held_here h k ++ cond b (mine ∷ []) [])) (sym ((key_decides key k).1 x.0))
              ∙ ap (map (held_of h)) (sym (held_more k)))
              (λ x.
              ap (λ (l : Accesses). l.held) x.1 ∙ t.held k
              ∙ ap (map (held_of h)) (sym (append-nil (held_here h k)))
              ∙ ap (λ b. map (held_of h) (held_here h k ++ cond b (mine ∷ []) [])) (sym (apart k x.0))
              ∙ ap (map (held_of h)) (sym (held_more k)))
              (cases k);
          past = λ k. ⊎_elim
              (λ x. ap (λ (l : Accesses). l.past) x.1 ∙ ap (λ q. (s.lines q).past) x.0 ∙ t.past k ∙ sym (past_stays k))
              (λ x. ap (λ (l : Accesses). l.past) x.1 ∙ t.past k ∙ sym (past_stays k))
              (cases k);
          kept = keeps_granted t.kept c.shelf;
        }
      where
        apart : (k : Key) → key ≢ k → key_eq key k ≡ false
        apart k n = ⊎_elim (λ t. absurd (n t.1)) (λ f. f.0) (key_tells key k)

-- what is only noted, or only reserved, changes nothing that is tracked
pub reserved : (loaded : Rows) (h : History) (old new : Table) → Tracks loaded (state_of old) h → MayVote old new → Tracks loaded (state_of new) h
reserved loaded h old new t c = record {
  held = λ k. ap (λ x. (accesses_at x k).held) c.lines ∙ t.held k;
  past = λ k. ap (λ x. (accesses_at x k).past) c.lines ∙ t.past k;
  kept = keeps_reserved t.kept c.shelf;
}

pub only_noted : (loaded : Rows) (h : History) (who : Attempt) (stamp : ℕ) (key : Key) (old new : Table) → Tracks loaded (state_of old) h → MayNote who stamp key old new → Tracks loaded (state_of new) h
only_noted loaded h who stamp key old new t c = record {
  held = λ k. ap (λ (l : Accesses). l.held) (c.lines k) ∙ t.held k;
  past = λ k. ap (λ (l : Accesses). l.past) (c.lines k) ∙ t.past k;
  kept = ⊎_elim (λ r. keeps_reserved t.kept r) (λ n. keeps_noted t.kept n) c.shelf;
}

-- The first mail of several chunks that gives an entry.
use Rattle.std.proofs.Common.{◌≡◌, ℕ, ◌+◌, ◌-◌, ◌<◌, ◌≤◌, ltb, List, ◌++◌, length, take, drop, suc, slice_get, Some, Bool, true, false, refl, sym, ap, ◌∙◌, arith}
use Rattle.std.proofs.lemmas.Bool.Decides.{nat_tests}
use Rattle.server_core.specs.declared.messages.Entry.{Entry}
use Rattle.server_core.specs.declared.messages.Mail.{Mail}
use Rattle.world.specs.Chunks.{joined}
use Rattle.world.specs.Matches.{Gives}
use Rattle.world.proofs.Joined.{joined-at, get-left, get-right}

-- none in the chunks before gives it, and none before it in its own
pub none_before : (chunks : List (List Mail)) (i : ℕ) (c : List Mail) → slice_get chunks i ≡ Some c → (e : Entry) (place : ℕ) → place < length c
    → ((before : ℕ) (m : Mail) → before < place → slice_get c before ≡ Some m → Gives m e → ⊥)
    → ((before : ℕ) (m : Mail) → slice_get (joined (take i chunks)) before ≡ Some m → Gives m e → ⊥)
    → (before : ℕ) (m : Mail) → before < length (joined (take i chunks)) + place → slice_get (joined chunks) before ≡ Some m → Gives m e → ⊥
none_before chunks i c at e place within first none before m less there gives = go (ltb before (length front)) refl
  where
    front : List Mail
    front = joined (take i chunks)

    back : List Mail
    back = joined (drop (suc i) chunks)

    split : slice_get (front ++ (c ++ back)) before ≡ Some m
    split = ap (λ l. slice_get l before) (sym (joined-at chunks i c at)) ∙ there

    go : (b : Bool) → ltb before (length front) ≡ b → ⊥
    go true is = none before m (sym (get-left front (c ++ back) before (grind (arith, nat_tests, is))) ∙ split) gives
    go false is =
        let past : length front ≤ before = grind (arith, nat_tests, is) in
        let j = before - length front in
        let sum : length front + j ≡ before = omega (arith, past) in
        let below : j < place = omega (arith, past, less) in
        first j m below (sym (get-left c back j (omega (arith, below, within))) ∙ sym (get-right front (c ++ back) j) ∙ ap (slice_get (front ++ (c ++ back))) sum ∙ split) gives

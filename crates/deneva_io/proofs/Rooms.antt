-- A list with room for so many items, and what of a piece fits behind them.
use Rattle.std.proofs.Common.{◌≡◌, ℕ, ◌+◌, ◌-◌, ◌≤◌, min, List, ◌++◌, length, take, ap, sym, ◌∙◌, arith}
use Rattle.std.proofs.lemmas.List.{take_min}
use Rattle.std.proofs.Math.Seq.{take-append-add}

pub fills : (room kept : ℕ) (xs piece : List ℕ) → kept ≡ min (room - length xs) (length piece) → length xs ≤ room
    → xs ++ take kept piece ≡ take room (xs ++ piece)
fills room kept xs piece fits holds =
    let whole : length xs + (room - length xs) ≡ room = omega arith in
    ap (λ n. xs ++ take n piece) fits ∙ ap (λ ys. xs ++ ys) (take_min (room - length xs) piece)
    ∙ sym (take-append-add xs piece (room - length xs)) ∙ ap (λ n. take n (xs ++ piece)) whole

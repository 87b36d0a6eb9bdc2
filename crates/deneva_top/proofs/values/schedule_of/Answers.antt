use Rattle.std.proofs.Common.{◌≡◌, Bool, true, false, List, ℕ, Some, None, refl, rules}
use Rattle.std.specs.Prelude.{codes, if◌then◌else◌}
use Rattle.std.specs.Str.{bytes_eq}
use Rattle.deneva_top.proofs.values.schedule_of.Goals as goal

-- something follows a prefix
follows : (t : Bool) (x y : List ℕ) → Some x ≡ (if t then Some y else None) → (t ≡ true) × (x ≡ y)
follows true x y e = (refl, cc)
follows false x y e = absurd (cc)

pub returns-in-Some : goal.returns-in-Some
returns-in-Some c =
    let seed = follows _ _ _ c.in-Some.ensures in
    let not_fifo : bytes_eq c.args.word.now (codes "fifo") ≡ false = search rules in
    let not_lifo : bytes_eq c.args.word.now (codes "lifo") ≡ false = search rules in
    rw (not_fifo, not_lifo, seed.0) (rw seed.1 at c.seed_schedule.ensures)

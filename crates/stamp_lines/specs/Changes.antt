-- What the calls change.
use Rattle.std.specs.Prelude.{◌≡◌, ◌+◌, List, [], length, Option, if◌then◌else◌}
use Rattle.deneva_base.specs.declared.keys.Key.{Key}
use Rattle.deneva_base.specs.declared.numbers.Attempt.{Attempt}
use Rattle.deneva_base.specs.declared.numbers.Number.{Number}
use Rattle.deneva_base.specs.declared.rows.Keyed.{Keyed}
use Rattle.row_store.specs.Stores.{Seen}
use Rattle.shelf.specs.Shelves.{IsFresh as IsFreshShelf, Notes, Promises as PromisesRows, MayReserve, Ends as EndsRows}
use Rattle.stamp_lines.specs.declared.requests.Request.{Request}
use Rattle.stamp_lines.specs.declared.lines.Waiter.{Waiter}
use Rattle.stamp_lines.specs.declared.accesses.Accesses.{Accesses}
use Rattle.stamp_lines.specs.Requests.{put_request}
use Rattle.stamp_lines.specs.Tables.{requests_at, all_ended, all_granted, SetsLine, SameLines, part_of}

-- the rows of this store, and no accesses
pub record IsFresh (store : Seen) (a : Accesses) : Type 0 where
  pub shelf : IsFreshShelf store a.shelf
  pub lines : (key : Key) → requests_at a key ≡ []
  pub waiting : a.waiting ≡ 0

-- the same accesses: at most the store has more room
pub record Same (old new : Accesses) : Type 0 where
  pub shelf : MayReserve old.shelf new.shelf
  pub lines : SameLines old.lines new.lines
  pub waiting : new.waiting ≡ old.waiting

-- one more request
pub record Adds (key : Key) (asked : Request) (old new : Accesses) : Type 0 where
  pub shelf : Notes asked.who asked.stamp key old.shelf new.shelf
  pub lines : SetsLine old.lines key (put_request asked (requests_at old key)) new.lines
  pub waiting : new.waiting ≡ old.waiting + (if asked.waits then 1 else 0)

-- the attempt's rows are kept, those that it writes twice
pub record Promises (who : Attempt) (writes appends : List Keyed) (old new : Accesses) : Type 0 where
  pub shelf : PromisesRows who writes writes appends old.shelf new.shelf
  pub lines : SameLines old.lines new.lines
  pub waiting : new.waiting ≡ old.waiting

-- the attempt ended
pub record Ends (who : Attempt) (number : Option Number) (old new : Accesses) : Type 0 where
  pub shelf : EndsRows who number old.shelf new.shelf
  pub lines : (key : Key) → requests_at new key ≡ all_ended who (part_of old who).keys key (requests_at old key)
  pub waiting : new.waiting ≡ old.waiting

-- these requests are granted
pub record Wakes (ws : List Waiter) (old new : Accesses) : Type 0 where
  pub shelf : new.shelf ≡ old.shelf
  pub lines : (key : Key) → requests_at new key ≡ all_granted ws key (requests_at old key)
  pub waiting : new.waiting + length ws ≡ old.waiting

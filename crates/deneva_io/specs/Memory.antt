-- What the sources and sinks over memory hold, and what each call does to it.
use Rattle.std.specs.Prelude.{ℕ, Bool, ◌==◌, if◌then◌else◌, min, nat_le, Option, Some, None, List, [], ◌++◌, length, take}
use Rattle.std.specs.List.{list_any}
use Rattle.deneva_io.specs.Streams.{raised}
use Rattle.deneva_io.specs.declared.streams.Got.{Got}
use Rattle.deneva_io.specs.declared.streams.Got.TheVariants.{Bytes, End, Failed}
use Rattle.deneva_io.specs.declared.streams.Put.{Put}
use Rattle.deneva_io.specs.declared.streams.Put.TheVariants as put

-- which calls fail, by their numbers from 0, and how many calls and faults there were
pub record Script : Type 0 where
  pub fails : List ℕ
  pub calls : ℕ
  pub faults : ℕ

-- the script before the first call
abbrev pub script_of : List ℕ → Script
script_of fails = record { fails = fails; calls = 0; faults = 0 }

-- whether the next call is listed
abbrev pub fails_next : Script → Bool
fails_next script = list_any (λ number. number == script.calls) script.fails

-- the script after one more call
abbrev pub called : Script → Script
called script = record {
  fails = script.fails;
  calls = raised script.calls 1;
  faults = if fails_next script then raised script.faults 1 else script.faults;
}

-- what a read gives that does not fail: as many of the bytes left as the buffer has room for, and the end after them
abbrev pub given : List ℕ → ℕ → Got
given left room = if length left == 0 then End else Bytes (min room (length left))

-- the bytes left of a source that fails by a script
pub record Reading : Type 0 where
  pub left : List ℕ
  pub script : Script

-- what a read gives by the script
abbrev pub given_by_script : Reading → ℕ → Got
given_by_script source room = if fails_next source.script then Failed else given source.left room

-- what a sink with room for so many bytes holds: the first bytes that it took, and the number of all
pub record Held : Type 0 where
  pub room : ℕ
  pub bytes : List ℕ
  pub count : ℕ

-- nothing was taken yet
abbrev pub nothing_held : ℕ → Held
nothing_held room = record { room = room; bytes = []; count = 0 }

-- what is held after one more piece
abbrev pub held_with : Held → List ℕ → Held
held_with held piece = record {
  room = held.room;
  bytes = take held.room (held.bytes ++ piece);
  count = raised held.count (length piece);
}

-- all bytes that were taken, where all are held
abbrev pub told : Held → Option (List ℕ)
told held = if nat_le held.count held.room then Some held.bytes else None

-- what is held by a sink that fails by a script
pub record Writing : Type 0 where
  pub held : Held
  pub script : Script

-- the answer of a write that takes the whole piece unless the script lists it
abbrev pub taken_by_script : Writing → List ℕ → Put
taken_by_script sink piece = if fails_next sink.script then put.Failed else put.Took (length piece)

-- what is held after a write by the script
abbrev pub held_by_script : Writing → List ℕ → Held
held_by_script sink piece = if fails_next sink.script then sink.held else held_with sink.held piece

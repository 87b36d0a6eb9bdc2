-- What a reader of records has left.
use Rattle.std.specs.Prelude.{◌≡◌, ◌⊎◌, ◌+◌, ℕ, true, List, [], length, Option, Some, None, IsSome}
use Rattle.std.specs.Borrow.{Bor}
use Rattle.csv.specs.Reading.{Ready, default_config, has_failed, is_flexible, reader_config, reader_state, reader_trim, records_from, source_of}
use Rattle.csv.specs.declared.parser.State.{State}
use Rattle.csv.specs.declared.reader.Reader.{Reader}
use Rattle.csv.specs.declared.reader.Trim.TheVariants as trim
use Rattle.records.specs.Records.{Record}

-- a reader of bytes in memory
abbrev pub TextReader : Type 0
TextReader = Reader (Bor (List ℕ))

-- the bytes that it has left, where it has not failed
abbrev pub bytes_left : TextReader → Option (List ℕ)
bytes_left reader = source_of (λ text. Some text.now) reader

abbrev pub records_from_bytes : State → Option (List ℕ) → List Record
records_from_bytes state None = []
records_from_bytes state (Some bytes) = records_from default_config (length bytes + 1) state bytes

-- the records that it has left: none, once it has failed
abbrev pub records_left : TextReader → List Record
records_left reader = records_from_bytes (reader_state reader) (bytes_left reader)

-- it reads by the default settings, with records of any length and no header
abbrev pub Stands : TextReader → Type 0
Stands reader = (reader_trim reader ≡ trim.None) × Ready reader × (reader_config reader ≡ default_config) × (is_flexible reader ≡ true) × IsSome (bytes_left reader)

abbrev pub StandsOrFailed : TextReader → Type 0
StandsOrFailed reader = (has_failed reader ≡ true) ⊎ Stands reader

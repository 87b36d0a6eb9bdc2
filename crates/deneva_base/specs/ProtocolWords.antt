-- The words by which command lines and reports name protocols.
use Rattle.std.specs.Prelude.{ℕ, List, codes, find, Option}
use Rattle.std.specs.Str.{bytes_eq}
use Rattle.deneva_base.specs.declared.config.Protocol.{Protocol}
use Rattle.deneva_base.specs.declared.config.Protocol.TheVariants.{NoWait, WaitDie, Timestamp, Mvcc, Maat, Calvin}
use Rattle.deneva_base.specs.declared.config.TheConstants.Protocol.{ALL}

abbrev pub protocol_word : Protocol → List ℕ
protocol_word NoWait = codes "nowait"
protocol_word WaitDie = codes "waitdie"
protocol_word Timestamp = codes "timestamp"
protocol_word Mvcc = codes "mvcc"
protocol_word Maat = codes "maat"
protocol_word Calvin = codes "calvin"

-- the protocol that has a word
abbrev pub protocol_of : List ℕ → Option Protocol
protocol_of word = find (λ p. bytes_eq word (protocol_word p)) ALL

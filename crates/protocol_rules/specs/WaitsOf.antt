-- Which accesses wait under which protocol.
use Rattle.std.specs.Prelude.{⊤}
use Rattle.deneva_base.specs.declared.config.Protocol.{Protocol}
use Rattle.deneva_base.specs.declared.config.Protocol.TheVariants.{NoWait, WaitDie, Timestamp, Mvcc, Maat, Calvin}
use Rattle.protocol_rules.specs.History.{History}
use Rattle.protocol_rules.specs.Waits.{NothingWaits, WaitsForYounger, WaitsForWriter}

-- the waits law of the protocol's rule; Calvin has no rule
abbrev pub WaitsOf : Protocol → History → Type 0
WaitsOf NoWait h = NothingWaits h
WaitsOf WaitDie h = WaitsForYounger h
WaitsOf Timestamp h = WaitsForWriter h
WaitsOf Mvcc h = WaitsForWriter h
WaitsOf Maat h = NothingWaits h
WaitsOf Calvin h = ⊤

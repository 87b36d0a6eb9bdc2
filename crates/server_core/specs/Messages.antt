-- What a message is about.
use Rattle.std.specs.Prelude.{Option, Some, None}
use Rattle.deneva_base.specs.declared.numbers.TxnId.{TxnId}
use Rattle.server_core.specs.declared.messages.Msg.{Msg}
use Rattle.server_core.specs.declared.messages.Msg.TheVariants.{Start, Ask, Granted, Refused, Prepare, Yes, No, Commit, Abort, Done, Undone, Tick, Batch, Rows, Finished}

-- the transaction that a message is about
abbrev pub txn_of : Msg → Option TxnId
txn_of (Start who) = Some who.txn
txn_of (Ask who stamp key mode) = Some who.txn
txn_of (Granted who key row version bound) = Some who.txn
txn_of (Refused who key cause) = Some who.txn
txn_of (Prepare who bound writes appends) = Some who.txn
txn_of (Yes who part lo hi) = Some who.txn
txn_of (No who part cause) = Some who.txn
txn_of (Commit who number) = Some who.txn
txn_of (Abort who) = Some who.txn
txn_of (Done who part) = Some who.txn
txn_of (Undone who part) = Some who.txn
txn_of (Tick epoch) = None
txn_of (Batch epoch seq ids) = None
txn_of (Rows id part rows) = Some id
txn_of (Finished id part number) = Some id

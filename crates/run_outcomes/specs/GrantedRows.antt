-- Granted rows as replies, of which the reads take the row alone.
use Rattle.deneva_base.specs.Rows.{Row}
use Rattle.server_core.specs.Received.{Reply}

abbrev pub reply_of : Row → Reply
reply_of row = record { row = row; bound = 0; key = record { table = 0; a = 0; b = 0; c = 0 } }

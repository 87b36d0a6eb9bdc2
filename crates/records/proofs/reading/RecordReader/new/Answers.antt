use Rattle.records.proofs.Left.{records_counted}
use Rattle.records.proofs.reading.RecordReader.new.Goals as goal

pub returns-clause-bound : goal.returns-clause-bound
returns-clause-bound c = rw (c.from_reader.ensures.state, c.from_reader.ensures.source) (records_counted c.args.text.now)

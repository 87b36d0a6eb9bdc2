use Rattle.std.proofs.Common.{◌≡◌, ◌∙◌, inl, inr, sym, false}
use Rattle.csv.specs.Records.{fields_of}
use Rattle.records.proofs.Left.{failed_left, read_field, read_left}
use Rattle.records.proofs.reading.RecordReader.read.Goals as goal
use Rattle.records.proofs.reading.RecordReader.read.Goals.{in-Ok, in-Err}

pub returns-clause-found : goal.returns-clause-found
returns-clause-found c = elim c.match-read_byte_record.branch [
  | in-Ok w ↦ elim c.self.invariant [
    | inl failed ↦
        let none : w.in-Ok.found ≡ false = cc (rw w.in-Ok.is at c.read_byte_record.ensures.failed failed) in
        rw (w.result-is, none) (sym c.self.view_is ∙ failed_left c.self.inside.reader failed)
    | inr stands ↦
        let reads = rw w.in-Ok.is at c.read_byte_record.ensures.reads in
        rw w.result-is
        (sym c.self.view_is
        ∙ read_left c.self.inside.reader c.read_byte_record.new.self (fields_of c.read_byte_record.new.row) w.in-Ok.found stands (reads stands.0 stands.1))
  ]
  | in-Err w ↦ rw w.result-is tt
]

pub returns-clause-fields : goal.returns-clause-fields
returns-clause-fields c = elim c.match-read_byte_record.branch [
  | in-Ok w ↦ elim c.self.invariant [
    | inl failed ↦
        let none : w.in-Ok.found ≡ false = cc (rw w.in-Ok.is at c.read_byte_record.ensures.failed failed) in
        rw (w.result-is, none) (λ is. cc is)
    | inr stands ↦
        let reads = rw w.in-Ok.is at c.read_byte_record.ensures.reads in
        rw w.result-is
        (read_field c.self.inside.reader c.read_byte_record.new.self (fields_of c.read_byte_record.new.row) w.in-Ok.found stands (reads stands.0 stands.1))
  ]
  | in-Err w ↦ rw w.result-is tt
]

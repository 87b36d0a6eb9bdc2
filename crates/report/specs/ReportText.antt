-- The report of an outcome: its records, their text, and the brief line. A field that holds a comma, a double quote or a
-- line end is quoted, and every other stands as it is.
use Rattle.std.specs.Prelude.{ℕ, Bool, not, List, [], ◌∷◌, ◌++◌, map, length, codes, decimal, true, false}
use Rattle.std.specs.Fmt.{signed_decimal}
use Rattle.std.specs.List.{flat_map, count_by, join_with_byte}
use Rattle.deneva_base.specs.ProtocolWords.{protocol_word}
use Rattle.deneva_base.specs.declared.causes.Cause.{Cause}
use Rattle.deneva_base.specs.declared.causes.Cause.TheVariants.{Held, Younger, Written, ReadLater, EmptyRange, Apart, Trimmed}
use Rattle.deneva_base.specs.declared.keys.Key.{Key}
use Rattle.deneva_base.specs.declared.numbers.Attempt.{Attempt}
use Rattle.deneva_base.specs.declared.rows.Cell.{Cell}
use Rattle.deneva_base.specs.declared.rows.Cell.TheVariants.{Num, Text}
use Rattle.deneva_base.specs.declared.rows.Keyed.{Keyed}
use Rattle.tpcc_rules.specs.declared.effects.Reason.{Reason}
use Rattle.tpcc_rules.specs.declared.effects.Reason.TheVariants.{UnusedItem, Range}
use Rattle.tpcc_rules.specs.declared.effects.Verdict.{Verdict}
use Rattle.tpcc_rules.specs.declared.effects.Verdict.TheVariants.{Commit, Rollback}
use Rattle.server_core.specs.declared.outcomes.AbortLine.{AbortLine}
use Rattle.server_core.specs.declared.outcomes.Decided.{Decided}
use Rattle.server_core.specs.declared.outcomes.Giveup.{Giveup}
use Rattle.server_core.specs.declared.outcomes.Outcome.{Outcome}
use Rattle.server_core.specs.declared.outcomes.RunKind.{RunKind}
use Rattle.server_core.specs.declared.outcomes.RunKind.TheVariants.{Serial, Under}
use Rattle.records.specs.Records.{Record, line_of, text_of}

abbrev pub kind_word : RunKind → List ℕ
kind_word Serial = codes "serial"
kind_word (Under protocol) = protocol_word protocol

-- a key's four numbers, joined by points
abbrev pub key_text : Key → List ℕ
key_text key = decimal key.table ++ codes "." ++ decimal key.a ++ codes "." ++ decimal key.b ++ codes "." ++ decimal key.c

-- an attempt's id and turn, joined by a point
abbrev pub attempt_text : Attempt → List ℕ
attempt_text who = decimal who.txn.0 ++ codes "." ++ decimal who.turn

-- the participants, joined by points
abbrev pub participants_text : List ℕ → List ℕ
participants_text parts = join_with_byte 46 (map decimal parts)

abbrev pub cell_text : Cell → List ℕ
cell_text (Num n) = signed_decimal n
cell_text (Text text) = text

-- a word, a key and the cells of its row
abbrev pub row_record : List ℕ → Keyed → Record
row_record word r = word ∷ key_text r.key ∷ map cell_text r.row

-- why a transaction rolled itself back
abbrev pub reason_fields : Reason → Record
reason_fields (UnusedItem item) = codes "unused" ∷ decimal item ∷ []
reason_fields (Range key) = codes "range" ∷ key_text key ∷ []

-- how a decided transaction ended: its number, its answer where it committed, its participants, and else the reason
abbrev pub ending_record : Decided → Verdict → Record
ending_record d Commit = codes "commit" ∷ decimal d.number.n ∷ decimal d.number.id.0 ∷ signed_decimal d.answer ∷ participants_text d.participants ∷ []
ending_record d (Rollback reason) = codes "rollback" ∷ decimal d.number.n ∷ decimal d.number.id.0 ∷ participants_text d.participants ∷ reason_fields reason

abbrev pub decided_record : Decided → Record
decided_record d = ending_record d d.verdict

-- how it ended, and then what it read
abbrev pub decided_records : Decided → List Record
decided_records d = decided_record d ∷ map (row_record (codes "read")) d.reads

abbrev pub giveup_record : Giveup → Record
giveup_record g = codes "giveup" ∷ decimal g.id.0 ∷ decimal g.turns ∷ []

-- why an attempt was aborted
abbrev pub cause_fields : Cause → Record
cause_fields (Held key by) = codes "held" ∷ key_text key ∷ attempt_text by ∷ []
cause_fields (Younger key by age) = codes "younger" ∷ key_text key ∷ attempt_text by ∷ decimal age ∷ []
cause_fields (Written key stamp) = codes "written" ∷ key_text key ∷ decimal stamp ∷ []
cause_fields (ReadLater key stamp) = codes "readlater" ∷ key_text key ∷ decimal stamp ∷ []
cause_fields (EmptyRange lo lo_key hi hi_by) = codes "emptyrange" ∷ decimal lo ∷ key_text lo_key ∷ decimal hi ∷ attempt_text hi_by ∷ []
cause_fields (Apart lo lo_part hi hi_part) = codes "apart" ∷ decimal lo ∷ decimal lo_part ∷ decimal hi ∷ decimal hi_part ∷ []
cause_fields (Trimmed key floor) = codes "trimmed" ∷ key_text key ∷ decimal floor ∷ []

-- an aborted attempt: its id and turn, the place and node at which the cause was found, and the cause
abbrev pub abort_record : AbortLine → Record
abort_record a = codes "abort" ∷ decimal a.who.txn.0 ∷ decimal a.who.turn ∷ decimal a.place ∷ decimal a.node ∷ cause_fields a.cause

-- how the transactions were run, and over how many partitions
abbrev pub head_record : Outcome → Record
head_record o = codes "deneva-report" ∷ codes "1" ∷ kind_word o.kind ∷ decimal o.parts ∷ []

-- the head, the decided transactions with their reads, those given up, the aborted attempts, the last rows, and the end
abbrev pub report_records : Outcome → List Record
report_records o =
    head_record o
    ∷ flat_map decided_records o.decided ++ map giveup_record o.giveups ++ map abort_record o.aborts
    ++ map (row_record (codes "row")) o.rows ++ (codes "end" ∷ []) ∷ []

abbrev pub report_text : Outcome → List ℕ
report_text o = text_of (report_records o)

abbrev pub is_commit : Verdict → Bool
is_commit Commit = true
is_commit (Rollback reason) = false

-- how many transactions committed, and how many rolled themselves back
abbrev pub commits : List Decided → ℕ
commits decided = count_by (λ d. is_commit d.verdict) decided

abbrev pub rollbacks : List Decided → ℕ
rollbacks decided = count_by (λ d. not (is_commit d.verdict)) decided

-- how the transactions were run, and how many of each there are
abbrev pub brief_record : Outcome → Record
brief_record o =
    codes "brief" ∷ kind_word o.kind ∷ decimal o.parts ∷ decimal (commits o.decided) ∷ decimal (rollbacks o.decided)
    ∷ decimal (length o.giveups) ∷ decimal (length o.aborts) ∷ decimal (length o.rows) ∷ []

-- the brief line
abbrev pub brief_text : Outcome → List ℕ
brief_text o = line_of (brief_record o)

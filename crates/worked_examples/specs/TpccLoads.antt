-- Small workloads of TPC-C, and what runs over them report.
use Rattle.std.specs.Prelude.{ℕ, ◌^◌, ◌-◌, ℤ, pos, negsuc, List, [], ◌∷◌, ◌++◌, codes, replicate, true}
use Rattle.deneva_base.specs.Rows.{Row}
use Rattle.deneva_base.specs.declared.config.Protocol.{Protocol}
use Rattle.deneva_base.specs.declared.rows.Cell.TheVariants.{Num, Text}
use Rattle.deneva_base.specs.declared.rows.Keyed.{Keyed}
use Rattle.server_core.specs.declared.schedules.Schedule.TheVariants.{Fifo}
use Rattle.tpcc_rules.specs.Tables.{warehouse_key, district_key, customer_key, stock_key, history_key, order_key, new_order_key, line_key}
use Rattle.tpcc_rules.specs.declared.effects.Effect.{Effect}
use Rattle.tpcc_rules.specs.declared.effects.Verdict.TheVariants.{Commit}
use Rattle.tpcc_rules.specs.declared.programs.Line.{Line}
use Rattle.tpcc_rules.specs.declared.programs.NewOrder.{NewOrder}
use Rattle.tpcc_rules.specs.declared.programs.Payment.{Payment}
use Rattle.txn_program.specs.declared.programs.Program.{Program}
use Rattle.txn_program.specs.declared.programs.Program.TheVariants as program
use Rattle.txn_program.specs.declared.programs.WorkKind.TheVariants as kind
use Rattle.txn_program.specs.declared.programs.Workload.{Workload}
use Rattle.worked_examples.specs.Reports.{report_of}
use Rattle.worked_examples.specs.Workloads.{over}

abbrev pub reported : Protocol → Workload → List ℕ
reported protocol work = report_of (over protocol 1) work Fifo

-- a customer with this credit, balance and data
abbrev pub customer : List ℕ → ℤ → List ℕ → Row
customer credit balance data_text =
    Text (codes "ANN") ∷ Text (codes "BARBARBAR") ∷ Text credit ∷ Num (pos 2000) ∷ Num balance ∷ Num (pos 1000) ∷ Num (pos 1) ∷ Text data_text ∷ []

-- one row of each table, with this customer's, and one transaction
abbrev pub workload : Row → Program → Workload
workload row p = record {
  load = record {
    kind = kind.Tpcc;
    fields = 0;
    rows =
        record { key = warehouse_key 1; row = Text (codes "WONE") ∷ Num (pos 1000) ∷ Num (pos 30000000) ∷ [] }
        ∷ record { key = district_key 1 1; row = Text (codes "DONE") ∷ Num (pos 500) ∷ Num (pos 3000000) ∷ Num (pos 3001) ∷ [] }
        ∷ record { key = customer_key 1 1 1; row = row }
        ∷ record { key = stock_key 1 1; row = Num (pos 20) ∷ Num (pos 0) ∷ Num (pos 0) ∷ Num (pos 0) ∷ Text (codes "ORIGINAL") ∷ [] } ∷ [];
    items = record { number = 1; price = pos 250; original = true } ∷ [];
  };
  programs = p ∷ [];
}

abbrev pub line : ℕ → ℕ → Line
line item quantity = record { item = item; supplier = 1; quantity = quantity }

abbrev pub ordered : List Line → Workload
ordered lines = workload (customer (codes "GC") (negsuc 999) (codes "x")) (program.NewOrder (record { w = 1; d = 1; c = 1; lines = lines }))

abbrev pub twice : Workload
twice = ordered (line 1 5 ∷ line 1 5 ∷ [])

abbrev pub unused : Workload
unused = ordered (line 1 5 ∷ line 2 3 ∷ [])

abbrev pub paid : Row → Workload
paid row = workload row (program.Payment (record { w = 1; d = 1; cw = 1; cd = 1; c = 1; amount = pos 12345 }))

abbrev pub paid_bad : Workload
paid_bad = paid (customer (codes "BC") (negsuc 999) (replicate 500 120))

abbrev pub paid_low : Workload
paid_low = paid (customer (codes "GC") (negsuc (2 ^ 63 - 1)) (codes "x"))

-- three warehouses, the first of which has a district with a customer and the others a stock each; the order's third line
-- names an item that is not loaded
abbrev pub three_warehouses : Workload
three_warehouses = record {
  load = record {
    kind = kind.Tpcc;
    fields = 0;
    rows =
        record { key = warehouse_key 1; row = Text (codes "W") ∷ Num (pos 0) ∷ Num (pos 0) ∷ [] }
        ∷ record { key = district_key 1 1; row = Text (codes "D") ∷ Num (pos 0) ∷ Num (pos 0) ∷ Num (pos 7) ∷ [] }
        ∷ record { key = customer_key 1 1 1; row = customer (codes "GC") (pos 0) (codes "x") }
        ∷ record { key = stock_key 2 1; row = Num (pos 20) ∷ Num (pos 0) ∷ Num (pos 0) ∷ Num (pos 0) ∷ Text [] ∷ [] }
        ∷ record { key = stock_key 3 1; row = Num (pos 20) ∷ Num (pos 0) ∷ Num (pos 0) ∷ Num (pos 0) ∷ Text [] ∷ [] } ∷ [];
    items = record { number = 1; price = pos 250; original = true } ∷ [];
  };
  programs =
      program.NewOrder
      (record {
        w = 1;
        d = 1;
        c = 1;
        lines =
            record { item = 1; supplier = 2; quantity = 5 } ∷ record { item = 1; supplier = 3; quantity = 5 }
            ∷ record { item = 9; supplier = 1; quantity = 5 } ∷ [];
      })
      ∷ [];
}

-- reports

abbrev pub head : List ℕ → List ℕ
head word = codes "deneva-report,1," ++ word ++ codes ",1\n"

abbrev pub order_reads : List ℕ
order_reads = codes "read,1.1.0.0,WONE,1000,30000000\nread,2.1.1.0,DONE,500,3000000,3001\nread,3.1.1.1,ANN,BARBARBAR,GC,2000,-1000,1000,1,x\nread,4.1.1.0,20,0,0,0,ORIGINAL\n"

abbrev pub order_report : List ℕ → List ℕ
order_report word =
    head word ++ codes "commit,1,1,2300,0\n" ++ order_reads
    ++ codes "row,1.1.0.0,WONE,1000,30000000\nrow,2.1.1.0,DONE,500,3000000,3002\nrow,3.1.1.1,ANN,BARBARBAR,GC,2000,-1000,1000,1,x\nrow,4.1.1.0,10,10,2,0,ORIGINAL\nrow,6.1.1.3001,1,1,2,1\nrow,7.1.1.3001\nrow,8.1.1.48017,1,1,5,1250,B\nrow,8.1.1.48018,1,1,5,1250,B\nend\n"

abbrev pub unused_report : List ℕ → List ℕ
unused_report word =
    head word ++ codes "rollback,1,1,0,unused,2\n" ++ order_reads
    ++ codes "row,1.1.0.0,WONE,1000,30000000\nrow,2.1.1.0,DONE,500,3000000,3001\nrow,3.1.1.1,ANN,BARBARBAR,GC,2000,-1000,1000,1,x\nrow,4.1.1.0,20,0,0,0,ORIGINAL\nend\n"

abbrev pub bad_report : List ℕ → List ℕ
bad_report word =
    head word
    ++ codes "commit,1,1,-13345,0\nread,1.1.0.0,WONE,1000,30000000\nread,2.1.1.0,DONE,500,3000000,3001\nread,3.1.1.1,ANN,BARBARBAR,BC,2000,-1000,1000,1,"
    ++ replicate 500 120
    ++ codes "\nrow,1.1.0.0,WONE,1000,30012345\nrow,2.1.1.0,DONE,500,3012345,3001\nrow,3.1.1.1,ANN,BARBARBAR,BC,2000,-13345,13345,2,1 1 1 1 1 12345 "
    ++ replicate 484 120
    ++ codes "\nrow,4.1.1.0,20,0,0,0,ORIGINAL\nrow,5.1.1.0,1,1,1,1,1,1,12345,WONE    DONE\nend\n"

abbrev pub past_report : List ℕ → List ℕ
past_report word =
    head word
    ++ codes "rollback,1,1,0,range,3.1.1.1\nread,1.1.0.0,WONE,1000,30000000\nread,2.1.1.0,DONE,500,3000000,3001\nread,3.1.1.1,ANN,BARBARBAR,GC,2000,-9223372036854775808,1000,1,x\nrow,1.1.0.0,WONE,1000,30000000\nrow,2.1.1.0,DONE,500,3000000,3001\nrow,3.1.1.1,ANN,BARBARBAR,GC,2000,-9223372036854775808,1000,1,x\nrow,4.1.1.0,20,0,0,0,ORIGINAL\nend\n"

-- namesakes in one district

abbrev pub named : ℕ → List ℕ → Keyed
named c first = record {
  key = customer_key 1 1 c;
  row = Text first ∷ Text (codes "BAR") ∷ Text (codes "GC") ∷ Num (pos 0) ∷ Num (pos 0) ∷ Num (pos 0) ∷ Num (pos 0) ∷ Text [] ∷ [];
}

abbrev pub one_named : List Keyed
one_named = named 4 (codes "Z") ∷ []

abbrev pub two_named : List Keyed
two_named = named 4 (codes "Z") ∷ named 9 (codes "B") ∷ []

abbrev pub three_named : List Keyed
three_named = named 4 (codes "Z") ∷ named 9 (codes "B") ∷ named 2 (codes "A") ∷ []

-- two have one first name: the smaller number comes first
abbrev pub two_alike : List Keyed
two_alike = named 4 (codes "Z") ∷ named 10 (codes "B") ∷ named 9 (codes "B") ∷ []

abbrev pub three_report : List ℕ → List ℕ
three_report word =
    codes "deneva-report,1," ++ word
    ++ codes ",3\nrollback,1,1,0.1.2,unused,9\nread,1.1.0.0,W,0,0\nread,2.1.1.0,D,0,0,7\nread,3.1.1.1,ANN,BARBARBAR,GC,2000,0,1000,1,x\nread,4.2.1.0,20,0,0,0,\nread,4.3.1.0,20,0,0,0,\nrow,1.1.0.0,W,0,0\nrow,2.1.1.0,D,0,0,7\nrow,3.1.1.1,ANN,BARBARBAR,GC,2000,0,1000,1,x\nrow,4.2.1.0,20,0,0,0,\nrow,4.3.1.0,20,0,0,0,\nend\n"

-- a payment whose numbers all differ, and what it reads

abbrev pub payment_of_a_guest : Payment
payment_of_a_guest = record { w = 1; d = 2; cw = 3; cd = 4; c = 5; amount = pos 678 }

abbrev pub guest : List ℕ → ℤ → ℤ → ℤ → Row
guest data_text balance ytd count =
    Text (codes "ANN") ∷ Text (codes "BAR") ∷ Text (codes "BC") ∷ Num (pos 0) ∷ Num balance ∷ Num ytd ∷ Num count ∷ Text data_text ∷ []

abbrev pub read_with : ℤ → ℤ → List Keyed
read_with warehouse_ytd balance =
    record { key = warehouse_key 1; row = Text (codes "W") ∷ Num (pos 0) ∷ Num warehouse_ytd ∷ [] }
    ∷ record { key = district_key 1 2; row = Text (codes "D") ∷ Num (pos 0) ∷ Num (pos 20) ∷ Num (pos 7) ∷ [] }
    ∷ record { key = customer_key 3 4 5; row = guest (codes "x") balance (pos 30) (pos 2) } ∷ []

abbrev pub guest_effect : Effect
guest_effect = record {
  verdict = Commit;
  writes =
      record { key = warehouse_key 1; row = Text (codes "W") ∷ Num (pos 0) ∷ Num (pos 688) ∷ [] }
      ∷ record { key = district_key 1 2; row = Text (codes "D") ∷ Num (pos 0) ∷ Num (pos 698) ∷ Num (pos 7) ∷ [] }
      ∷ record { key = customer_key 3 4 5; row = guest (codes "5 4 3 2 1 678 x") (pos 22) (pos 708) (pos 3) } ∷ [];
  appends =
      record {
        key = history_key 1 9;
        row =
            Num (pos 5) ∷ Num (pos 4) ∷ Num (pos 3) ∷ Num (pos 2) ∷ Num (pos 1) ∷ Num (pos 9) ∷ Num (pos 678)
            ∷ Text (codes "W    D") ∷ [];
      }
      ∷ [];
  answer = pos 22;
}

-- an order whose first line its own warehouse supplies and whose second another one

abbrev pub order_from_two : NewOrder
order_from_two = record { w = 1; d = 1; c = 1; lines = record { item = 1; supplier = 1; quantity = 5 } ∷ record { item = 1; supplier = 2; quantity = 6 } ∷ [] }

abbrev pub stock_with : ℤ → ℤ → ℤ → ℤ → Row
stock_with quantity ytd orders remotes = Num quantity ∷ Num ytd ∷ Num orders ∷ Num remotes ∷ Text (codes "x") ∷ []

abbrev pub read_by_order : List Keyed
read_by_order =
    record { key = warehouse_key 1; row = Text (codes "W") ∷ Num (pos 1000) ∷ Num (pos 0) ∷ [] }
    ∷ record { key = district_key 1 1; row = Text (codes "D") ∷ Num (pos 500) ∷ Num (pos 0) ∷ Num (pos 7) ∷ [] }
    ∷ record { key = customer_key 1 1 1; row = customer (codes "GC") (pos 0) (codes "x") }
    ∷ record { key = stock_key 1 1; row = stock_with (pos 15) (pos 1) (pos 2) (pos 3) }
    ∷ record { key = stock_key 2 1; row = stock_with (pos 15) (pos 1) (pos 2) (pos 3) } ∷ []

-- 11 of 250 cents are 2750; less 20 percent and with 15 percent of taxes they are 2530
abbrev pub effect_from_two : Effect
effect_from_two = record {
  verdict = Commit;
  writes =
      record { key = district_key 1 1; row = Text (codes "D") ∷ Num (pos 500) ∷ Num (pos 0) ∷ Num (pos 8) ∷ [] }
      ∷ record { key = stock_key 1 1; row = stock_with (pos 10) (pos 6) (pos 3) (pos 3) }
      ∷ record { key = stock_key 2 1; row = stock_with (pos 100) (pos 7) (pos 3) (pos 4) } ∷ [];
  appends =
      record { key = order_key 1 1 7; row = Num (pos 1) ∷ Num (pos 9) ∷ Num (pos 2) ∷ Num (pos 0) ∷ [] }
      ∷ record { key = new_order_key 1 1 7; row = [] }
      ∷ record { key = line_key 1 1 7 1; row = Num (pos 1) ∷ Num (pos 1) ∷ Num (pos 5) ∷ Num (pos 1250) ∷ Text (codes "G") ∷ [] }
      ∷ record { key = line_key 1 1 7 2; row = Num (pos 1) ∷ Num (pos 2) ∷ Num (pos 6) ∷ Num (pos 1500) ∷ Text (codes "G") ∷ [] } ∷ [];
  answer = pos 2530;
}

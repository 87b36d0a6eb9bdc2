-- Reading on, one record after another.
use Rattle.std.proofs.Common.{◌≡◌, ◌∙◌, ℕ, suc, ◌+◌, List, [], ◌∷◌, take, Result, Ok, Err, ap, refl, sym, subst, arith}
use Rattle.txn_program.specs.declared.programs.Workload.{Workload}
use Rattle.workload_text.specs.declared.faults.Flaw.{Flaw}
use Rattle.workload_text.specs.declared.faults.InputFault.{InputFault}
use Rattle.workload_text.specs.declared.heads.Head.{Head}
use Rattle.workload_text.specs.declared.faults.FaultKind.TheVariants.{Trailing}
use Rattle.workload_text.specs.declared.faults.ReadError.{ReadError}
use Rattle.workload_text.specs.declared.faults.ReadError.TheVariants.{NoMemory, Fault, ReadFault}
use Rattle.workload_text.specs.declared.faults.RecordError.{RecordError}
use Rattle.workload_text.specs.declared.faults.RecordError.TheVariants as errors
use Rattle.workload_text.specs.declared.reading.Progress.{Progress}
use Rattle.workload_text.specs.declared.reading.Progress.TheVariants.{More, Ended}
use Rattle.workload_text.specs.declared.said.Said.{Said}
use Rattle.workload_text.specs.declared.said.Said.TheVariants.{Loads, Sells, Runs, Ends}
use Rattle.records.specs.Records.{Record}
use Rattle.workload_text.specs.Grammar.{Prefix, said_by, read_after, read_on, at_end, with_row, with_item, with_program, head_from, empty, prefix_on, prefix_from, read_from_head, prefix_from_head, workload_from}
use Rattle.workload_text.specs.Fields.{fault}
use Rattle.workload_text.specs.Gives.{Fails}
use Rattle.workload_text.specs.Reader.{Advances, Reads, ReadsToEnd, error_at}
use Rattle.workload_text.proofs.Bound.{same_ok}

-- more may follow
pub more_after : {A : Type 0} (n : ℕ) (old new : Workload) (ended : Result A InputFault) (rest : Workload → Result A InputFault) (s : Result Said Flaw)
    → Advances old new s More → rest new ≡ read_after n old ended rest s
more_after n old new ended rest (Ok (Loads r)) e = ap rest e
more_after n old new ended rest (Ok (Sells i)) e = ap rest e
more_after n old new ended rest (Ok (Runs p)) e = ap rest e
more_after n old new ended rest (Ok Ends) e = absurd e
more_after n old new ended rest (Err f) e = absurd e

-- the file ends
pub ended_after : {A : Type 0} (n : ℕ) (old new : Workload) (ended : Workload → Result A InputFault) (rest : Workload → Result A InputFault) (s : Result Said Flaw)
    → Advances old new s Ended → ended new ≡ read_after n old (ended old) rest s
ended_after n old new ended rest (Ok (Loads r)) e = absurd e
ended_after n old new ended rest (Ok (Sells i)) e = absurd e
ended_after n old new ended rest (Ok (Runs p)) e = absurd e
ended_after n old new ended rest (Ok Ends) e = ap ended e
ended_after n old new ended rest (Err f) e = absurd e

-- a record was read, and more may follow
pub more_read : (head h : Head) (n : ℕ) (all rs : List Record) (r : Record) (old new : Workload) (out : Result Prefix InputFault)
    → h ≡ head → all ≡ r ∷ rs → (progress : Progress) → progress ≡ More → Advances old new (said_by h old r) progress
    → prefix_on head n all old ≡ out → prefix_on head (n + 1) rs new ≡ out
more_read head h n all rs r old new out same e progress is said inv =
    let here : Advances old new (said_by head old r) More =
    subst (λ (x : Head). Advances old new (said_by x old r) More) same (subst (λ (q : Progress). Advances old new (said_by h old r) q) is said) in
    more_after n old new (Ok (record { work = old; last = n; more = rs })) (prefix_on head (n + 1) rs) (said_by head old r) here
    ∙ ap (λ (l : List Record). prefix_on head n l old) (sym e) ∙ inv

-- the end was read
pub end_read : (head h : Head) (n : ℕ) (all rs : List Record) (r : Record) (old new : Workload) (out : Result Prefix InputFault)
    → h ≡ head → all ≡ r ∷ rs → (progress : Progress) → progress ≡ Ended → Advances old new (said_by h old r) progress
    → prefix_on head n all old ≡ out → out ≡ Ok (record { work = new; last = n; more = rs })
end_read head h n all rs r old new out same e progress is said inv =
    let here : Advances old new (said_by head old r) Ended =
    subst (λ (x : Head). Advances old new (said_by x old r) Ended) same (subst (λ (q : Progress). Advances old new (said_by h old r) q) is said) in
    sym inv ∙ ap (λ (l : List Record). prefix_on head n l old) e
    ∙ sym (ended_after n old new (λ w. Ok (record { work = w; last = n; more = rs })) (prefix_on head (n + 1) rs) (said_by head old r) here)

-- a record is at fault
pub failed_read : (head h : Head) (n : ℕ) (all rs more : List Record) (r : Record) (old : Workload) (out : Result Prefix InputFault) (e : RecordError) (error : ReadError)
    → h ≡ head → all ≡ r ∷ rs → error ≡ error_at n e → Fails e (said_by h old r) → prefix_on head n all old ≡ out → ReadsToEnd (Err error) more out
failed_read head h n all rs more r old out errors.NoMemory error same next is failed inv = rw is tt
failed_read head h n all rs more r old out (errors.Flawed f) error same next is failed inv =
    rw is (sym inv ∙ ap (λ (l : List Record). prefix_on head n l old) next
    ∙ ap (read_after n old (Ok (record { work = old; last = n; more = rs })) (prefix_on head (n + 1) rs)) (subst (λ (x : Head). said_by x old r ≡ Err f) same failed))

-- a whole file is the records up to its end, and none behind it

abbrev pub none_behind : Result Prefix InputFault → Result Workload InputFault
none_behind (Ok p) = at_end p.work (p.last + 1) p.more
none_behind (Err f) = Err f

whole_after : (n : ℕ) (work : Workload) (rs : List Record) (prefix : Workload → Result Prefix InputFault) (rest : Workload → Result Workload InputFault) (s : Result Said Flaw)
    → ((w : Workload) → rest w ≡ none_behind (prefix w))
    → read_after n work (at_end work (n + 1) rs) rest s ≡ none_behind (read_after n work (Ok (record { work = work; last = n; more = rs })) prefix s)
whole_after n work rs prefix rest (Ok (Loads r)) e = e (with_row work r)
whole_after n work rs prefix rest (Ok (Sells i)) e = e (with_item work i)
whole_after n work rs prefix rest (Ok (Runs p)) e = e (with_program work p)
whole_after n work rs prefix rest (Ok Ends) e = refl
whole_after n work rs prefix rest (Err f) e = refl

whole_on : (head : Head) (n : ℕ) (rs : List Record) (work : Workload) → read_on head n rs work ≡ none_behind (prefix_on head n rs work)
whole_on head n [] work = refl
whole_on head n (r ∷ rs) work =
    whole_after n work rs (prefix_on head (n + 1) rs) (read_on head (n + 1) rs) (said_by head work r) (whole_on head (n + 1) rs)

whole_from_head : (h : Result Head Flaw) (rs : List Record) → read_from_head h rs ≡ none_behind (prefix_from_head h rs)
whole_from_head (Ok head) rs = whole_on head 2 rs (empty head)
whole_from_head (Err f) rs = refl

pub whole_from : (rs : List Record) → workload_from rs ≡ none_behind (prefix_from rs)
whole_from [] = refl
whole_from (r ∷ rs) = whole_from_head (head_from r) rs

-- the answers for a whole file, by what reading to its end answered

pub whole_failed : (all rs more : List Record) (error : ReadError) → all ≡ rs → ReadsToEnd (Err error) more (prefix_from all) → Reads (Err error) (workload_from rs)
whole_failed all rs more NoMemory same read = tt
whole_failed all rs more (Fault f) same read = sym (ap workload_from same) ∙ whole_from all ∙ ap none_behind read
whole_failed all rs more ReadFault same read = absurd read

pub whole_ended : (all rs more : List Record) (work out : Workload) (n : ℕ) → all ≡ rs → prefix_from all ≡ Ok (record { work = work; last = n; more = more }) → more ≡ [] → out ≡ work
    → workload_from rs ≡ Ok out
whole_ended all rs more work out n same read none is =
    sym (ap workload_from same) ∙ whole_from all ∙ ap none_behind read ∙ ap (at_end work (n + 1)) none ∙ sym (ap Ok is)

pub whole_trailing : (all rs more tail : List Record) (r : Record) (work : Workload) (n : ℕ) (f : InputFault) → all ≡ rs → prefix_from all ≡ Ok (record { work = work; last = n; more = more })
    → more ≡ r ∷ tail → f ≡ fault (n + 1) 0 Trailing → workload_from rs ≡ Err f
whole_trailing all rs more tail r work n f same read some is =
    sym (ap workload_from same) ∙ whole_from all ∙ ap none_behind read ∙ ap (at_end work (n + 1)) some ∙ sym (ap Err is)

-- the records up to and with the end are a file

-- a file of one record more, from record n on
record Taken (head : Head) (n : ℕ) (rs : List Record) (work : Workload) (p : Prefix) : Type 0 where
  count : ℕ
  place : p.last ≡ n + count
  whole : read_on head n (take (suc count) rs) work ≡ Ok p.work

taken_more : (head : Head) (n : ℕ) (r : Record) (rs : List Record) (work next : Workload) (s : Result Said Flaw) (p : Prefix) → said_by head work r ≡ s
    → ((ended : Result Workload InputFault) (rest : Workload → Result Workload InputFault) → rest next ≡ read_after n work ended rest s)
    → Taken head (n + 1) rs next p → Taken head n (r ∷ rs) work p
taken_more head n r rs work next s p e more t = record {
  count = suc t.count;
  place = omega (arith, t.place);
  whole = ap (read_after n work (at_end work (n + 1) (take (suc t.count) rs)) (read_on head (n + 1) (take (suc t.count) rs))) e
      ∙ sym (more (at_end work (n + 1) (take (suc t.count) rs)) (read_on head (n + 1) (take (suc t.count) rs))) ∙ t.whole;
}

taken_after : (head : Head) (n : ℕ) (r : Record) (rs : List Record) (work : Workload) (s : Result Said Flaw) (p : Prefix) → said_by head work r ≡ s
    → ((w : Workload) → prefix_on head (n + 1) rs w ≡ Ok p → Taken head (n + 1) rs w p)
    → read_after n work (Ok (record { work = work; last = n; more = rs })) (prefix_on head (n + 1) rs) s ≡ Ok p → Taken head n (r ∷ rs) work p
taken_after head n r rs work (Err f) p e later h = absurd (cc)
taken_after head n r rs work (Ok (Loads row)) p e later h =
    taken_more head n r rs work (with_row work row) (Ok (Loads row)) p e (λ ended rest. refl) (later (with_row work row) h)
taken_after head n r rs work (Ok (Sells item)) p e later h =
    taken_more head n r rs work (with_item work item) (Ok (Sells item)) p e (λ ended rest. refl) (later (with_item work item) h)
taken_after head n r rs work (Ok (Runs program)) p e later h =
    taken_more head n r rs work (with_program work program) (Ok (Runs program)) p e (λ ended rest. refl) (later (with_program work program) h)
taken_after head n r rs work (Ok Ends) p e later h =
    subst (Taken head n (r ∷ rs) work) (same_ok {E = InputFault} _ _ h) (record {
      count = 0;
      place = omega arith;
      whole = ap (read_after n work (at_end work (n + 1) []) (read_on head (n + 1) [])) e;
    })

taken_on : (head : Head) (n : ℕ) (rs : List Record) (work : Workload) (p : Prefix) → prefix_on head n rs work ≡ Ok p → Taken head n rs work p
taken_on head n [] work p h = absurd (cc)
taken_on head n (r ∷ rs) work p h = taken_after head n r rs work (said_by head work r) p refl (λ w e. taken_on head (n + 1) rs w p e) h

taken_from_head : (r : Record) (rs : List Record) (o : Result Head Flaw) (p : Prefix) → head_from r ≡ o → prefix_from_head o rs ≡ Ok p → workload_from (take p.last (r ∷ rs)) ≡ Ok p.work
taken_from_head r rs (Err f) p e h = absurd (cc)
taken_from_head r rs (Ok head) p e h =
    let t = taken_on head 2 rs (empty head) p h in
    let last : p.last ≡ suc (suc t.count) = omega (arith, t.place) in
    ap (λ n. workload_from (take n (r ∷ rs))) last ∙ ap (λ (x : Result Head Flaw). read_from_head x (take (suc t.count) rs)) e ∙ t.whole

pub taken_from : (rs : List Record) (p : Prefix) → prefix_from rs ≡ Ok p → workload_from (take p.last rs) ≡ Ok p.work
taken_from [] p h = absurd (cc)
taken_from (r ∷ rs) p h = taken_from_head r rs (head_from r) p refl h

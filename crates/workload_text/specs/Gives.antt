-- Answers of calls that may also run out of memory.
use Rattle.std.specs.Prelude.{◌≡◌, ⊤, Result, Ok, Err}
use Rattle.workload_text.specs.declared.faults.Flaw.{Flaw}
use Rattle.workload_text.specs.declared.faults.RecordError.{RecordError}
use Rattle.workload_text.specs.declared.faults.RecordError.TheVariants.{NoMemory, Flawed}

-- one definition after another, up to the first flaw
infixl 10 ◌>>=◌
abbrev pub ◌>>=◌ : {A B : Type 0} → Result A Flaw → (A → Result B Flaw) → Result B Flaw
(Ok x) >>= f = f x
(Err e) >>= f = Err e

-- the error says what the definition says, unless memory ran out
abbrev pub Fails : {X : Type 0} → RecordError → Result X Flaw → Type 0
Fails NoMemory read = ⊤
Fails (Flawed flaw) read = read ≡ Err flaw

-- the answer is what the definition gives, unless memory ran out
abbrev pub Gives : {X : Type 0} → Result X RecordError → Result X Flaw → Type 0
Gives (Ok x) read = read ≡ Ok x
Gives (Err e) read = Fails e read

-- What one read and one write do to a stream of bytes.
use Rattle.std.specs.Prelude.{◌≡◌, ℕ, ◌+◌, ◌-◌, ◌^◌, ◌≤◌, min, ⊤, Option, Some, None, List, [], ◌++◌, length, take}
use Rattle.std.specs.Io.KnownBytes.{Keeps, Appends}
use Rattle.deneva_io.specs.declared.streams.Got.{Got}
use Rattle.deneva_io.specs.declared.streams.Got.TheVariants.{Bytes, End, Failed}
use Rattle.deneva_io.specs.declared.streams.Put.{Put}
use Rattle.deneva_io.specs.declared.streams.Put.TheVariants as put

-- the count of faults rose, or stands at its type's end
abbrev pub Rose : ℕ → ℕ → Type 0
Rose before now = min (before + 1) (2 ^ 64 - 1) ≤ now

-- a count that goes up by some number, and stops at its type's end
abbrev pub raised : ℕ → ℕ → ℕ
raised count more = min (count + more) (2 ^ 64 - 1)

-- the bytes that are left, where they are told: bs is gone from the front. What was told before is told now
abbrev pub Gives : Option (List ℕ) → Option (List ℕ) → List ℕ → Type 0
Gives None now bs = ⊤
Gives (Some xs) None bs = ⊥
Gives (Some xs) (Some ys) bs = xs ≡ bs ++ ys

-- nothing is left, where it is told
abbrev pub IsOver : Option (List ℕ) → Type 0
IsOver None = ⊤
IsOver (Some xs) = xs ≡ []

-- what a read did to the bytes left, by its answer and the buffer after it
abbrev pub ReadGave : Option (List ℕ) → Option (List ℕ) → Got → List ℕ → Type 0
ReadGave before now (Bytes n) buf = (1 ≤ n) × (n ≤ length buf) × Gives before now (take n buf)
ReadGave before now End buf = Gives before now [] × IsOver now
ReadGave before now Failed buf = Gives before now []

-- the count of faults rises at a read that fails, and at no other
abbrev pub ReadCause : ℕ → ℕ → Got → Type 0
ReadCause before now (Bytes n) = now ≡ before
ReadCause before now End = now ≡ before
ReadCause before now Failed = (before ≤ now) × Rose before now

-- the count after a read that counts its fault, and nothing else
abbrev pub faults_after_read : ℕ → Got → ℕ
faults_after_read before (Bytes n) = before
faults_after_read before End = before
faults_after_read before Failed = raised before 1

-- more than this many bytes were left, where they are told
abbrev pub HasMore : Option (List ℕ) → ℕ → Type 0
HasMore None most = ⊤
HasMore (Some xs) most = most + 1 ≤ length xs

-- the bytes taken so far, where they are told: bs was put at their end. What is told now was told before
abbrev pub Grew : Option (List ℕ) → Option (List ℕ) → List ℕ → Type 0
Grew before None bs = ⊤
Grew None (Some ys) bs = ⊥
Grew (Some xs) (Some ys) bs = ys ≡ xs ++ bs

-- what a write did to the bytes taken, by its answer and the piece
abbrev pub WriteTook : Option (List ℕ) → Option (List ℕ) → Put → List ℕ → Type 0
WriteTook before now (put.Took n) piece = (1 ≤ n) × (n ≤ length piece) × Grew before now (take n piece)
WriteTook before now put.Failed piece = Grew before now []

-- the count of faults rises at a write that fails, and at no other
abbrev pub WriteCause : ℕ → ℕ → Put → Type 0
WriteCause before now (put.Took n) = now ≡ before
WriteCause before now put.Failed = (before ≤ now) × Rose before now

-- the count after a write that counts its fault, and nothing else
abbrev pub faults_after_write : ℕ → Put → ℕ
faults_after_write before (put.Took n) = before
faults_after_write before put.Failed = raised before 1

-- what a write did to the bytes that a writer of std holds, where it tells them: those that were taken are at their end
abbrev pub WroteOn : Option (List ℕ) → Option (List ℕ) → Put → List ℕ → Type 0
WroteOn before now (put.Took n) piece = Appends before now (take n piece)
WroteOn before now put.Failed piece = Keeps before now

-- what an adapter over a stream of std knows: the bytes that the stream tells, and its own count of faults
pub record Adapted : Type 0 where
  pub known : Option (List ℕ)
  pub faults : ℕ

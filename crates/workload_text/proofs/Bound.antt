-- What is known where a chain of definitions gave a value.
use Rattle.std.proofs.Common.{◌≡◌, Bool, true, false, refl, Result, Ok, Err}
use Rattle.std.specs.Prelude.{if◌then◌else◌}
use Rattle.workload_text.specs.declared.faults.Flaw.{Flaw}
use Rattle.workload_text.specs.Gives.{◌>>=◌}

-- both steps gave their value
pub bound : {A B : Type 0} (r : Result A Flaw) (f : A → Result B Flaw) (y : B) → (r >>= f) ≡ Ok y → (x : A) × (r ≡ Ok x) × (f x ≡ Ok y)
bound (Ok x) f y h = (x, refl, h)
bound (Err e) f y h = absurd (cc)

-- the test for the error failed
pub passed : {A E : Type 0} (t : Bool) (e : E) (r : Result A E) (y : A) → (if t then Err e else r) ≡ Ok y → (t ≡ false) × (r ≡ Ok y)
passed true e r y h = absurd (cc)
passed false e r y h = (refl, h)

-- the test for the value held
pub held : {A E : Type 0} (t : Bool) (e : E) (r : Result A E) (y : A) → (if t then r else Err e) ≡ Ok y → (t ≡ true) × (r ≡ Ok y)
held true e r y h = (refl, h)
held false e r y h = absurd (cc)

-- one of the two gave it
pub either_gave : {A E : Type 0} (P : Type 0) (t : Bool) (a b : Result A E) (y : A) → (if t then a else b) ≡ Ok y → (a ≡ Ok y → P) → (b ≡ Ok y → P) → P
either_gave P true a b y h f g = f h
either_gave P false a b y h f g = g h

pub same_ok : {A E : Type 0} (x y : A) → (let r : Result A E = Ok x in r ≡ Ok y) → x ≡ y
same_ok x y h = cc

-- Who is woken.
use Rattle.std.specs.Prelude.{◌≡◌, ◌≢◌, ◌⊎◌, List, [], ◌∷◌, ◌++◌, ⊤}
use Rattle.deneva_base.specs.Lists.{IsIn}
use Rattle.deneva_base.specs.declared.answers.Wake.{Wake}
use Rattle.protocol_rules.specs.History.{Call, Ask, Prepare, Commit, Abort, History, Asked, left_waiting, waits}

-- no access is woken twice
abbrev pub Once : List Wake → Type 0
Once [] = ⊤
Once (w ∷ ws) = ((x : Wake) → IsIn x ws → x.who ≡ w.who → x.key ≢ w.key) × Once ws

-- each wake is of an access that waited
pub record WakesWaiters (h : History) (woken : List Wake) : Type 0 where
  pub waited : (w : Wake) → IsIn w woken → (a : Asked) × IsIn a (waits h) × (a.who ≡ w.who) × (a.key ≡ w.key)
  pub once : Once woken

abbrev pub CallWakes : History → Call → Type 0
CallWakes h (Ask who stamp key mode answer) = ⊤
CallWakes h (Prepare who bound writes appends vote) = ⊤
CallWakes h (Commit who number woken) = WakesWaiters h woken
CallWakes h (Abort who woken) = WakesWaiters h woken

abbrev pub KeepsWakes : History → Type 0
KeepsWakes [] = ⊤
KeepsWakes (c ∷ h) = CallWakes h c × KeepsWakes h

-- the accesses whose Ask was answered Waits
abbrev pub told_to_wait : History → List Asked
told_to_wait [] = []
told_to_wait (Ask who stamp key mode answer ∷ h) = left_waiting (record { who = who; stamp = stamp; key = key; mode = mode }) answer ++ told_to_wait h
told_to_wait (Prepare who bound writes appends vote ∷ h) = told_to_wait h
told_to_wait (Commit who number woken ∷ h) = told_to_wait h
told_to_wait (Abort who woken ∷ h) = told_to_wait h

-- the wakes of all calls
abbrev pub all_wakes : History → List Wake
all_wakes [] = []
all_wakes (Ask who stamp key mode answer ∷ h) = all_wakes h
all_wakes (Prepare who bound writes appends vote ∷ h) = all_wakes h
all_wakes (Commit who number woken ∷ h) = woken ++ all_wakes h
all_wakes (Abort who woken ∷ h) = woken ++ all_wakes h

-- each access that was told to wait is woken once, or waits still; and nothing else is woken
pub record WakesOnce (h : History) : Type 0 where
  pub waited : (w : Wake) → IsIn w (all_wakes h) → (a : Asked) × IsIn a (told_to_wait h) × (a.who ≡ w.who) × (a.key ≡ w.key)
  pub once : Once (all_wakes h)
  pub rest : (a : Asked) → IsIn a (told_to_wait h) → IsIn a (waits h) ⊎ ((w : Wake) × IsIn w (all_wakes h) × (w.who ≡ a.who) × (w.key ≡ a.key))
  pub gone : (a : Asked) (w : Wake) → IsIn a (waits h) → IsIn w (all_wakes h) → w.who ≡ a.who → w.key ≢ a.key

-- The numbers of a message that stay below 2^48.
use Rattle.std.specs.Prelude.{⊤, ◌^◌, ◌<◌}
use Rattle.deneva_base.specs.declared.causes.Cause.{Cause}
use Rattle.deneva_base.specs.declared.causes.Cause.TheVariants.{Held, Younger, Written, ReadLater, EmptyRange, Apart, Trimmed}
use Rattle.server_core.specs.declared.messages.Msg.{Msg}
use Rattle.server_core.specs.declared.messages.Msg.TheVariants.{Ask, Granted, Refused, Prepare, Yes, No, Commit, Finished}

abbrev pub SmallCause : Cause → Type 0
SmallCause (Held key by) = ⊤
SmallCause (Younger key by age) = age < 2 ^ 48
SmallCause (Written key stamp) = stamp < 2 ^ 48
SmallCause (ReadLater key stamp) = stamp < 2 ^ 48
SmallCause (EmptyRange lo lo_key hi hi_by) = (lo < 2 ^ 48) × (hi < 2 ^ 48)
SmallCause (Apart lo lo_part hi hi_part) = (lo < 2 ^ 48) × (hi < 2 ^ 48)
SmallCause (Trimmed key floor) = floor < 2 ^ 48

-- all but the upper end of a Yes
abbrev pub SmallMsg : Msg → Type 0
SmallMsg (Ask who stamp key mode) = stamp < 2 ^ 48
SmallMsg (Granted who key row version bound) = (version.n < 2 ^ 48) × (bound < 2 ^ 48)
SmallMsg (Refused who key cause) = SmallCause cause
SmallMsg (Prepare who bound writes appends) = bound.n < 2 ^ 48
SmallMsg (Yes who part lo hi) = lo < 2 ^ 48
SmallMsg (No who part cause) = SmallCause cause
SmallMsg (Commit who number) = number.n < 2 ^ 48
SmallMsg (Finished id part number) = number.n < 2 ^ 48
SmallMsg m = ⊤

-- The laws are lemmas.
use Rattle.std.proofs.Common.{refl}
use Rattle.protocol_rules.proofs.Sound.{sound}
use Rattle.protocol_rules.proofs.Known.{known}
use Rattle.shelf.proofs.Closing.{commit_closes, abort_closes}
use Rattle.shelf.proofs.Keeps.{keeps_fresh, keeps_granted, keeps_waiting, keeps_noted, keeps_reserved, keeps_refused, keeps_no, keeps_promised, keeps_ended, keeps_resumed}
use Rattle.shelf.proofs.laws.keeps_rows.Goals as goal

pub returns : goal.returns
returns c = record {
  fresh = λ copied store s f l. keeps_fresh copied f l;
  granted = λ copied loaded h who stamp key s s' t n mode row version bound. keeps_granted t n;
  waiting = λ copied loaded h who stamp key s s' t n mode. keeps_waiting t n;
  noted = λ copied loaded h who stamp key s s' t n. keeps_noted t n;
  refused = λ copied loaded h s who stamp key mode cause t. keeps_refused t;
  promised = λ copied loaded h who bound writes appends lo hi s s' u t n. keeps_promised u refl t n;
  no = λ copied loaded h s who bound writes appends cause t. keeps_no t;
  reserved = λ copied loaded h s s' t n. keeps_reserved t n;
  commit = λ loaded rule h who number o may. commit_closes (known loaded rule h o) (sound loaded rule h o) may;
  abort = λ h who may. abort_closes may;
  ended = λ copied loaded h h' who number s s' a c' t e v. keeps_ended a c' t e v;
  resumed = λ copied loaded h h' s t w. keeps_resumed t w;
}

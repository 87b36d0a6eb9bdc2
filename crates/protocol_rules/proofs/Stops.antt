-- Who stops whom: by a smaller stamp alone, or by one above the version too.
use Rattle.std.proofs.Common.{◌≡◌, ◌⊎◌, ◌<◌, ◌≤◌, List, map, filter, Bool, true, false, cond, not, ltb, ◌&&◌, sym, ap, ◌∙◌, inl, inr, ⊎_elim, arith, true≢false}
use Rattle.std.proofs.lemmas.Bool.{ltb-true, lt-ltb, cases_lt, false_from_ne_true}
use Rattle.std.proofs.lemmas.Bool.Decides.{nat_tests}
use Rattle.deneva_base.specs.declared.keys.Key.{Key}
use Rattle.deneva_base.specs.Lists.{IsIn}
use Rattle.deneva_base.specs.Rows.{Rows}
use Rattle.deneva_base.specs.Keys.{key_eq}
use Rattle.deneva_base.specs.Modes.{IsWriting, writes}
use Rattle.protocol_rules.specs.History.{History, Asked, Grant, IsUnended}
use Rattle.protocol_rules.specs.Latest.{has_ended}
use Rattle.protocol_rules.specs.Order.{by_rising_stamp}
use Rattle.deneva_base.proofs.Membership.{in_map, in_map_from, in_filter, filter_in, and_true, and_parts, key_decides, writing_decides}
use Rattle.protocol_rules.proofs.Unended.{not_ended, is_unended}
use Rattle.protocol_rules.specs.Versions.{below}
use Rattle.protocol_rules.specs.Waiting.{as_asked, older_writer}
use Rattle.protocol_rules.specs.Mvcc.{writer_between}
use Rattle.protocol_rules.proofs.Belows.{below_same}

abbrev pub stops : Bool → Rows → History → Asked → Asked → Bool
stops flag loaded h a b = cond flag (writer_between loaded h a b) (older_writer a b)

pub is_older : (a b : Asked) → older_writer a b ≡ true → (b.key ≡ a.key) × IsWriting b.mode × (b.stamp < a.stamp)
is_older a b e =
    let p = and_parts (key_eq b.key a.key) (writes b.mode && ltb b.stamp a.stamp) e in
    let q = and_parts (writes b.mode) (ltb b.stamp a.stamp) p.1 in
    ((key_decides b.key a.key).0 p.0, (writing_decides b.mode).0 q.0, ltb-true b.stamp a.stamp q.1)

pub older : (a b : Asked) → b.key ≡ a.key → IsWriting b.mode → b.stamp < a.stamp → older_writer a b ≡ true
older a b k w l =
    and_true (key_eq b.key a.key) (writes b.mode && ltb b.stamp a.stamp) ((key_decides b.key a.key).1 k)
    (and_true (writes b.mode) (ltb b.stamp a.stamp) ((writing_decides b.mode).1 w) (lt-ltb b.stamp a.stamp l))

pub rising_up : (a b : Asked) → by_rising_stamp a b ≡ true → b.key ≡ a.key → a.stamp < b.stamp
rising_up a b e k =
    let k1 = ap (λ (z : Key). z.table) k in
    let k2 = ap (λ (z : Key). z.a) k in
    let k3 = ap (λ (z : Key). z.b) k in
    let k4 = ap (λ (z : Key). z.c) k in
    grind (arith, nat_tests, k1, k2, k3, k4, e)

module _ (loaded : Rows) (h : History) where
  pub stops_true : (flag : Bool) (a b : Asked) → stops flag loaded h a b ≡ true → (b.key ≡ a.key) × IsWriting b.mode × (b.stamp < a.stamp)
  stops_true true a b e = is_older a b (and_parts (older_writer a b) (ltb (below loaded h a.key a.stamp).number.n b.stamp) e).0
  stops_true false a b e = is_older a b e

  pub stops_false : (flag : Bool) (a b : Asked) → b.key ≡ a.key → IsWriting b.mode → stops flag loaded h a b ≡ false → (b.stamp ≤ (below loaded h a.key a.stamp).number.n) ⊎ (a.stamp ≤ b.stamp)
  stops_false false a b k w e = ⊎_elim (λ l. absurd (true≢false (sym (older a b k w l) ∙ e))) (λ g. inr g) (cases_lt b.stamp a.stamp)
  stops_false true a b k w e =
      ⊎_elim
      (λ l. ⊎_elim
      (λ m. absurd (true≢false (sym (and_true (older_writer a b) (ltb (below loaded h a.key a.stamp).number.n b.stamp) (older a b k w l) (lt-ltb (below loaded h a.key a.stamp).number.n b.stamp m)) ∙ e)))
      (λ g. inl g)
      (cases_lt (below loaded h a.key a.stamp).number.n b.stamp))
      (λ g. inr g)
      (cases_lt b.stamp a.stamp)

  -- who stops one between the version and the stamp of another stops that one too
  pub stops_more : (flag : Bool) (a b c : Asked) → b.key ≡ a.key → (below loaded h a.key a.stamp).number.n < b.stamp → b.stamp < a.stamp → stops flag loaded h b c ≡ true → stops flag loaded h a c ≡ true
  stops_more false a b c k l m e = let o = is_older b c e in older a c (o.0 ∙ k) o.1 (omega (arith, o.2, m))
  stops_more true a b c k l m e =
      let p = and_parts (older_writer b c) (ltb (below loaded h b.key b.stamp).number.n c.stamp) e in
      let o = is_older b c p.0 in
      let same : (below loaded h b.key b.stamp).number.n ≡ (below loaded h a.key a.stamp).number.n = ap (λ z. (below loaded h z b.stamp).number.n) k ∙ below_same loaded h a.key b.stamp a.stamp l (omega (arith, m)) in
      and_true (older_writer a c) (ltb (below loaded h a.key a.stamp).number.n c.stamp) (older a c (o.0 ∙ k) o.1 (omega (arith, o.2, m)))
      (lt-ltb (below loaded h a.key a.stamp).number.n c.stamp (omega (arith, same, ltb-true (below loaded h b.key b.stamp).number.n c.stamp p.1)))

  -- who stops one that stops another stops that other too
  pub stops_through : (flag : Bool) (a b c : Asked) → stops flag loaded h a b ≡ true → stops flag loaded h b c ≡ true → stops flag loaded h a c ≡ true
  stops_through false a b c e f = let o = is_older a b e in let p = is_older b c f in older a c (p.0 ∙ o.0) p.1 (omega (arith, p.2, o.2))
  stops_through true a b c e f =
      let p = and_parts (older_writer a b) (ltb (below loaded h a.key a.stamp).number.n b.stamp) e in
      let o = is_older a b p.0 in
      stops_more true a b c o.0 (ltb-true (below loaded h a.key a.stamp).number.n b.stamp p.1) o.2 f

  pub stops_later : (flag : Bool) (a b : Asked) → by_rising_stamp a b ≡ true → stops flag loaded h a b ≡ false
  stops_later flag a b e = false_from_ne_true (stops flag loaded h a b) (λ t. let o = stops_true flag a b t in omega (arith, o.2, rising_up a b e o.0))

  pub stops_self : (flag : Bool) (a : Asked) → stops flag loaded h a a ≡ false
  stops_self flag a = false_from_ne_true (stops flag loaded h a a) (λ t. let o = stops_true flag a a t in omega (arith, o.2))

-- those of the grants whose attempts have not ended
pub in_held : (h : History) (gs : List Grant) (g : Grant) → IsIn g gs → IsUnended h g.who → IsIn (as_asked g) (map as_asked (filter (λ (x : Grant). not (has_ended h x.who)) gs))
in_held h gs g i u = in_map as_asked g (filter (λ (x : Grant). not (has_ended h x.who)) gs) (in_filter (λ (x : Grant). not (has_ended h x.who)) g gs i (not_ended h g.who u))

pub held_from : (h : History) (gs : List Grant) (b : Asked) → IsIn b (map as_asked (filter (λ (x : Grant). not (has_ended h x.who)) gs)) → (g : Grant) × IsIn g gs × IsUnended h g.who × (b ≡ as_asked g)
held_from h gs b i =
    let g = in_map_from as_asked b (filter (λ (x : Grant). not (has_ended h x.who)) gs) i in
    let f = filter_in (λ (x : Grant). not (has_ended h x.who)) g.0 gs g.1 in
    (g.0, f.0, is_unended h g.0.who f.1, g.2)

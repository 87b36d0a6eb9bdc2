-- The serial theorem of one store.
use Rattle.std.proofs.Common.{◌≡◌, ◌≢◌, ◌⊎◌, ◌<◌, ◌≤◌, List, [], ◌∷◌, ◌++◌, cond, refl, sym, ap, ◌∙◌, subst, inl, inr, ⊎_elim, arith, Some, append_assoc}
use Rattle.deneva_base.specs.declared.keys.Key.{Key}
use Rattle.deneva_base.specs.declared.numbers.Number.{Number}
use Rattle.deneva_base.specs.Lists.{IsIn}
use Rattle.deneva_base.specs.Rows.{Row, Rows, put_row, put_rows}
use Rattle.deneva_base.specs.Keys.{NumberLt}
use Rattle.deneva_base.specs.declared.rows.Keyed.{Keyed}
use Rattle.server_core.proofs.serial.SerialWords.{Txn, after, Replays, Rising, Wrote, Found, Agrees, IsLast}
use Rattle.deneva_base.proofs.Membership.{in_left, in_right, in_cases, key_tells}

keyed_at : (w : Keyed) (k : Key) → w.key ≡ k → record { key = k; row = w.row } ≡ w
keyed_at w k e = λ i. record { key = sym e i; row = w.row }

-- a key is left alone, or holds a row that is listed for it
write_cases : (rows : Rows) (ws : List Keyed) (k : Key) → ((put_rows rows ws k ≡ rows k) × ((x : Row) → IsIn (record { key = k; row = x }) ws → ⊥)) ⊎ ((x : Row) × IsIn (record { key = k; row = x }) ws × (put_rows rows ws k ≡ Some x))
write_cases rows [] k = inl (refl, λ x i. i)
write_cases rows (w ∷ ws) k =
    ⊎_elim
    (λ (n : (put_rows (put_row rows w) ws k ≡ put_row rows w k) × ((x : Row) → IsIn (record { key = k; row = x }) ws → ⊥)).
    ⊎_elim
    (λ t. inr (w.row, inl (keyed_at w k t.1), n.0 ∙ ap (λ b. cond b (Some w.row) (rows k)) t.0))
    (λ f. inl (n.0 ∙ ap (λ b. cond b (Some w.row) (rows k)) f.0, (λ x i. ⊎_elim (λ (e : record { key = k; row = x } ≡ w). f.1 (sym (ap (λ z. z.key) e))) (λ t. n.1 x t) i)))
    (key_tells w.key k))
    (λ (y : (x : Row) × IsIn (record { key = k; row = x }) ws × (put_rows (put_row rows w) ws k ≡ Some x)). inr (y.0, inr y.1, y.2))
    (write_cases (put_row rows w) ws k)

after_none : (rows : Rows) (ts : List Txn) (k : Key) → ((u : Txn) (x : Row) → IsIn u ts → Wrote u k x → ⊥) → after rows ts k ≡ rows k
after_none rows [] k none = refl
after_none rows (t ∷ ts) k none =
    after_none (put_rows rows t.writes) ts k (λ u x i. none u x (inr i))
    ∙ ⊎_elim (λ n. n.0) (λ y. absurd (none t y.0 (inl refl) y.1)) (write_cases rows t.writes k)

after_last : (rows : Rows) (ts : List Txn) (w : Txn) (k : Key) (row : Row) → Rising ts → IsIn w ts → Wrote w k row → ((x : Row) → Wrote w k x → x ≡ row) → ((u : Txn) (x : Row) → IsIn u ts → Wrote u k x → NumberLt w.number u.number → ⊥) → after rows ts k ≡ Some row
after_last rows [] w k row rising i wrote one last = absurd i
after_last rows (t ∷ ts) w k row rising i wrote one last =
    ⊎_elim
    (λ (e : w ≡ t).
    after_none (put_rows rows t.writes) ts k (λ u x j v. last u x (inr j) v (subst (λ z. NumberLt z.number u.number) (sym e) (rising.0 u j)))
    ∙ ⊎_elim
    (λ n. absurd (n.1 row (subst (λ z. Wrote z k row) e wrote)))
    (λ y. y.2 ∙ ap (λ x. Some x) (one y.0 (subst (λ z. Wrote z k y.0) (sym e) y.1)))
    (write_cases rows t.writes k))
    (λ j. after_last (put_rows rows t.writes) ts w k row rising.1 j wrote one (λ u x l. last u x (inr l)))
    i

pub is_last : (loaded : Rows) (ts : List Txn) → Rising ts → ((t : Txn) (key : Key) (x y : Row) → IsIn t ts → Wrote t key x → Wrote t key y → x ≡ y) → IsLast loaded (after loaded ts) ts
is_last loaded ts rising one = record {
  written = λ w key row i wrote last. after_last loaded ts w key row rising i wrote (λ x v. one w key x row i v wrote) last;
  untouched = λ key none. after_none loaded ts key none;
}

after_push : (rows : Rows) (ts : List Txn) (t : Txn) → after rows (ts ++ t ∷ []) ≡ put_rows (after rows ts) t.writes
after_push rows [] t = refl
after_push rows (u ∷ ts) t = after_push (put_rows rows u.writes) ts t

rising_before : (pre : List Txn) (t : Txn) (rest : List Txn) → Rising (pre ++ t ∷ rest) → (u : Txn) → IsIn u pre → NumberLt u.number t.number
rising_before [] t rest r u i = absurd i
rising_before (v ∷ pre) t rest r u i = ⊎_elim (λ e. subst (λ z. NumberLt z.number t.number) (sym e) (r.0 t (in_right t pre (t ∷ rest) (inl refl)))) (λ j. rising_before pre t rest r.1 u j) i

rising_left : (pre rest : List Txn) → Rising (pre ++ rest) → Rising pre
rising_left [] rest r = tt
rising_left (v ∷ pre) rest r = ((λ u i. r.0 u (in_left u pre rest i)), rising_left pre rest r.1)

rising_right : (pre rest : List Txn) → Rising (pre ++ rest) → Rising rest
rising_right [] rest r = r
rising_right (v ∷ pre) rest r = rising_right pre rest r.1

module _ (loaded : Rows) (ts : List Txn) (a : Agrees loaded ts) where
  reads_right : (pre : List Txn) (t : Txn) (rest : List Txn) → pre ++ t ∷ rest ≡ ts → Rising ts → (r : Keyed) → IsIn r t.reads → after loaded pre r.key ≡ Some r.row
  reads_right pre t rest is rising r j =
      let whole : Rising (pre ++ t ∷ rest) = subst Rising (sym is) rising in
      let here : (u : Txn) → IsIn u (pre ++ t ∷ rest) → IsIn u ts = λ u. subst (IsIn u) is in
      let it : IsIn t ts = here t (in_right t pre (t ∷ rest) (inl refl)) in
      let early : (u : Txn) → IsIn u pre → IsIn u ts = λ u k. here u (in_left u pre (t ∷ rest) k) in
      let f : Found loaded ts t r = a.found t r it j in
      let before : f.version.n < t.number.n = f.earlier in
      ⊎_elim
      (λ (l : (f.version.n ≡ 0) × (loaded r.key ≡ Some r.row)).
      after_none loaded pre r.key
      (λ u x k wrote.
      let small : NumberLt u.number t.number = rising_before pre t rest whole u k in
      let some : 1 ≤ u.number.n = a.positive t r u x it j (early u k) wrote in
      let zero' : f.version.n ≡ 0 = l.0 in
      ⊎_elim
      (λ (o : u.number.n ≤ f.version.n). omega arith)
      (λ (o : t.number.n < u.number.n). omega arith)
      (f.others u x (early u k) (less_differ u.number t.number small) wrote))
      ∙ l.1)
      (λ (w : (w : Txn) × IsIn w ts × (w.number ≡ f.version) × Wrote w r.key r.row).
      let n : w.0.number.n ≡ f.version.n = ap (λ z. z.n) w.2 in
      ⊎_elim
      (λ (iw : IsIn w.0 pre).
      after_last loaded pre w.0 r.key r.row (rising_left pre (t ∷ rest) whole) iw w.3
      (λ x v. a.one_row w.0 r.key x r.row w.1 v w.3)
      (λ u x k wrote lt.
      let small : NumberLt u.number t.number = rising_before pre t rest whole u k in
      let differ : u.number.n ≢ w.0.number.n = a.apart t r u w.0 x r.row it j (early u k) w.1 wrote w.3 (λ e. less_differ w.0.number u.number lt (sym e)) in
      ⊎_elim
      (λ (o : u.number.n ≤ f.version.n). omega arith)
      (λ (o : t.number.n < u.number.n). omega arith)
      (f.others u x (early u k) (less_differ u.number t.number small) wrote)))
      (λ late. ⊎_elim
      (λ (e : w.0 ≡ t). absurd (omega (arith, ap (λ z. z.number.n) e)))
      (λ l. let more : NumberLt t.number w.0.number = (rising_right pre (t ∷ rest) whole).0 w.0 l in absurd (omega arith))
      late)
      (in_cases w.0 pre (t ∷ rest) (subst (IsIn w.0) (sym is) w.1)))
      f.source
    where
      less_differ : (x y : Number) → NumberLt x y → x ≢ y
      less_differ x y l e = omega (arith, ap (λ z. z.n) e, ap (λ z. z.id.0) e)

  replays_from : (pre rest : List Txn) → pre ++ rest ≡ ts → Rising ts → Replays (after loaded pre) rest
  replays_from pre [] is rising = tt
  replays_from pre (t ∷ rest) is rising =
      (reads_right pre t rest is rising, subst (λ rows. Replays rows rest) (after_push loaded pre t) (replays_from (pre ++ t ∷ []) rest (append_assoc pre (t ∷ []) rest ∙ is) rising))

  pub replays : Rising ts → Replays loaded ts
  replays rising = replays_from [] ts refl rising

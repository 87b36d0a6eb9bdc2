-- Versions that are dropped.
use Rattle.std.proofs.Common.{◌≡◌, ◌≢◌, ◌⊎◌, ℕ, zero, suc, ◌+◌, ◌<◌, ◌≤◌, List, [], ◌∷◌, ◌++◌, take, drop, length, get_or, Bool, true, false, not, ltb, ◌&&◌, refl, sym, ap, ◌∙◌, subst, inl, inr, ⊎_elim, arith, true≢false}
use Rattle.deneva_base.specs.declared.keys.Key.{Key}
use Rattle.deneva_base.specs.Lists.{IsIn}
use Rattle.deneva_base.proofs.Membership.{key_tells, any_at, any_found, and_true, and_parts}
use Rattle.deneva_base.specs.declared.numbers.Number.{Number}
use Rattle.deneva_base.specs.Keys.{number_lt}
use Rattle.protocol_rules.proofs.Tries.{none_passes}
use Rattle.row_store.specs.declared.versions.Version.{Version}
use Rattle.stamp_lines.specs.declared.requests.Request.{Request}
use Rattle.stamp_control.specs.Picks.{pick, is_above, is_read, is_needed}
use Rattle.stamp_control.specs.Pasts.{Kept, Trims}
use Rattle.stamp_lines.proofs.Fronts.{none_any}
use Rattle.stamp_control.proofs.Picks.{pick_removed, in_removed}

pub trims_same : (rs : List Request) (p : Kept) → Trims rs p p
trims_same rs p = record { read = refl; present = refl; spare = omega arith; less = λ v i. i; picks = λ r i w. refl }

pub trims_more : (rs : List Request) (p q r : Kept) → Trims rs p q → Trims rs q r → Trims rs p r
trims_more rs p q r a b = record {
  read = b.read ∙ a.read;
  present = b.present ∙ a.present;
  spare = omega (arith, a.spare, b.spare);
  less = λ v i. a.less v (b.less v i);
  picks = λ x i w. b.picks x i w ∙ a.picks x i w;
}

-- a key's step, where the others stay
pub trims_step : (rs : Key → List Request) (p q r : Key → Kept) (key : Key) (l : List Request) → l ≡ rs key → ((k : Key) → Trims (rs k) (p k) (q k)) → Trims l (q key) (r key) → ((k : Key) → k ≢ key → r k ≡ q k) → (k : Key) → Trims (rs k) (p k) (r k)
trims_step rs p q r key l is a here there k = ⊎_elim
    (λ t. subst (λ z. Trims (rs z) (p z) (r z)) (sym t.1) (trims_more (rs key) (p key) (q key) (r key) (a key) (subst (λ z. Trims z (q key) (r key)) is here)))
    (λ f. subst (λ z. Trims (rs k) (p k) z) (sym (there k f.1)) (a k))
    (key_tells k key)

-- one version is dropped that nobody would read
pub trims_one : (rs : List Request) (old new : Kept) (i : ℕ) (d : Version) → i < length old.versions → is_needed rs old.versions (get_or old.versions i d).number ≡ false → new.read ≡ old.read → new.present ≡ old.present → old.spare ≤ new.spare → new.versions ≡ take i old.versions ++ drop (i + 1) old.versions → Trims rs old new
trims_one rs old new i d less e read present spare versions = record {
  read = read;
  present = present;
  spare = spare;
  less = λ v j. in_removed old.versions i d v less (subst (λ l. IsIn v l) versions j);
  picks = λ r j w.
      let none : (r.waits && is_read r.stamp old.versions (get_or old.versions i d).number) ≡ false = none_passes (λ (x : Request). x.waits && is_read x.stamp old.versions (get_or old.versions i d).number) rs e r j in
      ap (pick r.stamp) versions ∙ pick_removed r.stamp old.versions i d less (ap (λ b. b && is_read r.stamp old.versions (get_or old.versions i d).number) (sym w) ∙ none);
}

-- where less is kept, what would be read would be read still
fewer_above : (stamp : ℕ) (n : Number) (xs ys : List Version) → ((v : Version) → IsIn v ys → IsIn v xs) → is_above stamp n xs ≡ false → is_above stamp n ys ≡ false
fewer_above stamp n xs ys f e = none_any (λ (v : Version). number_lt n v.number && ltb v.number.n stamp) ys (λ v i. none_passes (λ (w : Version). number_lt n w.number && ltb w.number.n stamp) xs e v (f v i))

fewer_needed : (rs : List Request) (n : Number) (xs ys : List Version) → ((v : Version) → IsIn v ys → IsIn v xs) → is_needed rs xs n ≡ true → is_needed rs ys n ≡ true
fewer_needed rs n xs ys f e =
    let r = any_found (λ (x : Request). x.waits && is_read x.stamp xs n) rs e in
    let p = and_parts r.0.waits (is_read r.0.stamp xs n) r.2 in
    let q = and_parts (ltb n.n r.0.stamp) (not (is_above r.0.stamp n xs)) p.1 in
    any_at (λ (x : Request). x.waits && is_read x.stamp ys n) r.0 rs r.1
    (and_true r.0.waits (is_read r.0.stamp ys n) p.0
    (and_true (ltb n.n r.0.stamp) (not (is_above r.0.stamp n ys)) q.0 (ap not (fewer_above r.0.stamp n xs ys f (flip (is_above r.0.stamp n xs) q.1)))))
  where
    flip : (b : Bool) → not b ≡ true → b ≡ false
    flip true s = absurd (true≢false (sym s))
    flip false s = refl

in_more : (vs : List Version) (i : ℕ) (d v : Version) → i < length vs → IsIn v (take (suc i) vs) → IsIn v (take i vs) ⊎ (v ≡ get_or vs i d)
in_more [] i d v less j = absurd (omega (arith, less))
in_more (x ∷ xs) zero d v less j = ⊎_elim (λ e. inr e) (λ k. absurd k) j
in_more (x ∷ xs) (suc i) d v less j = ⊎_elim (λ e. inl (inl e)) (λ k. ⊎_elim (λ l. inl (inr l)) (λ e. inr e) (in_more xs i d v (omega (arith, less)) k)) j

pub needed_more : (rs : List Request) (vs : List Version) (i : ℕ) (d : Version) → i < length vs → is_needed rs vs (get_or vs i d).number ≡ true → ((v : Version) → IsIn v (take i vs) → is_needed rs vs v.number ≡ true) → (v : Version) → IsIn v (take (i + 1) vs) → is_needed rs vs v.number ≡ true
needed_more rs vs i d less e f v j =
    let next : i + 1 ≡ suc i = omega arith in
    ⊎_elim (λ k. f v k) (λ s. ap (λ (x : Version). is_needed rs vs x.number) s ∙ e) (in_more vs i d v less (subst (λ n. IsIn v (take n vs)) next j))

take_front : (i : ℕ) (xs ys : List Version) → i ≤ length xs → take i (take i xs ++ ys) ≡ take i xs
take_front zero xs ys less = refl
take_front (suc i) [] ys less = absurd (omega (arith, less))
take_front (suc i) (x ∷ xs) ys less = ap (λ l. x ∷ l) (take_front i xs ys (omega (arith, less)))

pub needed_removed : (rs : List Request) (vs new : List Version) (i : ℕ) (d : Version) → i < length vs → new ≡ take i vs ++ drop (i + 1) vs → ((v : Version) → IsIn v (take i vs) → is_needed rs vs v.number ≡ true) → (v : Version) → IsIn v (take i new) → is_needed rs new v.number ≡ true
needed_removed rs vs new i d less e f v j =
    fewer_needed rs v.number vs new (λ w k. in_removed vs i d w less (subst (λ l. IsIn w l) e k))
    (f v (subst (λ l. IsIn v l) (ap (take i) e ∙ take_front i vs (drop (i + 1) vs) (omega (arith, less))) j))

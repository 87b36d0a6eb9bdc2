-- Keys in their order: one more.
use Rattle.std.proofs.Common.{◌≡◌, ◌≢◌, ◌⊎◌, List, [], ◌∷◌, true, refl, sym, ap, ◌∙◌, subst, inl, inr, ⊎_elim, arith}
use Rattle.std.proofs.lemmas.Bool.Decides.{nat_tests}
use Rattle.std.specs.Ordering.{match_ordering, is_lt}
use Rattle.std.specs.declared.cmp.Ordering.{Ordering}
use Rattle.std.specs.declared.cmp.Ordering.TheVariants.{Less, Equal, Greater}
use Rattle.deneva_base.specs.declared.keys.Key.{Key}
use Rattle.deneva_base.specs.Lists.{IsIn}
use Rattle.deneva_base.specs.Keys.{key_cmp, key_lt}
use Rattle.deneva_base.proofs.Entries.{key_cmp_same}
use Rattle.deneva_base.proofs.KeyOrder.{key_trans, key_total}
use Rattle.shelf.specs.Held.{put_key}
use Rattle.shelf.specs.Keeps.{Rising}

less : (o : Ordering) → o ≡ Less → is_lt o ≡ true
less o e = rw e refl

pub key_put_in : (key k : Key) (ks : List Key) → IsIn k (put_key key ks) → (k ≡ key) ⊎ IsIn k ks
key_put_in key k [] i = ⊎_elim (λ e. inl e) (λ b. absurd b) i
key_put_in key k (q ∷ qs) i = go (key_cmp q key) i (key_put_in key k qs)
  where
    go : (o : Ordering) → IsIn k (match_ordering o (q ∷ put_key key qs) (q ∷ qs) (key ∷ q ∷ qs)) → (IsIn k (put_key key qs) → (k ≡ key) ⊎ IsIn k qs) → (k ≡ key) ⊎ IsIn k (q ∷ qs)
    go Less j rest = ⊎_elim (λ e. inr (inl e)) (λ l. ⊎_elim (λ e. inl e) (λ m. inr (inr m)) (rest l)) j
    go Equal j rest = inr j
    go Greater j rest = ⊎_elim (λ e. inl e) (λ l. inr l) j

pub key_in_put : (key k : Key) (ks : List Key) → (k ≡ key) ⊎ IsIn k ks → IsIn k (put_key key ks)
key_in_put key k [] i = i
key_in_put key k (q ∷ qs) i = go (key_cmp q key) refl (key_in_put key k qs)
  where
    go : (o : Ordering) → key_cmp q key ≡ o → ((k ≡ key) ⊎ IsIn k qs → IsIn k (put_key key qs)) → IsIn k (match_ordering o (q ∷ put_key key qs) (q ∷ qs) (key ∷ q ∷ qs))
    go Less e rest = ⊎_elim (λ s. inr (rest (inl s))) (λ j. ⊎_elim (λ s. inl s) (λ m. inr (rest (inr m))) j) i
    go Equal e rest = ⊎_elim (λ s. inl (s ∙ sym (key_cmp_same q key e))) (λ j. j) i
    go Greater e rest = ⊎_elim (λ s. inl s) (λ j. inr j) i

pub rising_put : (key : Key) (ks : List Key) → Rising ks → Rising (put_key key ks)
rising_put key [] f = ((λ x i. absurd i), tt)
rising_put key (q ∷ qs) f = go (key_cmp q key) refl (rising_put key qs f.1)
  where
    go : (o : Ordering) → key_cmp q key ≡ o → Rising (put_key key qs) → Rising (match_ordering o (q ∷ put_key key qs) (q ∷ qs) (key ∷ q ∷ qs))
    go Less e rest = ((λ x i. ⊎_elim (λ s. rw s (less (key_cmp q key) e)) (λ j. f.0 x j) (key_put_in key x qs i)), rest)
    go Equal e rest = f
    go Greater e rest =
        let apart : q ≢ key = λ s. differs (subst (λ z. key_cmp z key ≡ Greater) s e) in
        let lt : key_lt key q ≡ true = key_total q key apart (ap is_lt e) in
        ((λ x i. ⊎_elim (λ s. subst (λ z. key_lt key z ≡ true) (sym s) lt) (λ j. key_trans key q x lt (f.0 x j)) i), f)
      where
        differs : key_cmp key key ≡ Greater → ⊥
        differs g = grind (arith, nat_tests, g)

-- A look-up of a key in a cache and a store together is that of the one which holds the key.
use Rattle.std.proofs.Common.{Bool, List, None, [], ap, eqb-true, false, filter, nat_le, refl, sym, true, ℕ, ◌&&◌, ◌∙◌, ◌∷◌, ◌≡◌}
use Rattle.str_base.proofs.Tests.{and_true_left}
use Rattle.std.specs.List.{last_or}
use Rattle.str_base.specs.declared.names.KeyId.{KeyId}
use Rattle.str_base.specs.declared.names.Version.{Version}
use Rattle.str_base.specs.Versions.{chain, is_pre, last_pre, newest, same_key, ts_or_zero, visible}
use Rattle.version_chain.specs.ChainLists.{Each, IsOrdered, merged}
use Rattle.version_chain.proofs.Each.{each_so}
use Rattle.version_chain.proofs.Keeping.{ordered_apart, ordered_filter}
use Rattle.replica_store.proofs.Commuting.{insert_in_order}
use Rattle.replica_store.proofs.Merging.{OfKeys, lists_apart, merged_seen, merged_unseen}

-- what passes the test is of the key
abbrev pub IsOfKey : KeyId → (Version → Bool) → Type 0
IsOfKey k test = (v : Version) → test v ≡ true → same_key v.key k ≡ true

-- a version of another kind of key fails the test
fails_of_key : (hosted : KeyId → Bool) (b : Bool) (k : KeyId) (test : Version → Bool) (v : Version) → IsOfKey k test → hosted v.key ≡ b → (hosted k ≡ b → ⊥) → test v ≡ false
fails_of_key hosted b k test v t h n = by_test (test v) refl
  where
    clash : test v ≡ true → ⊥
    clash p = n (sym (ap (λ (m : ℕ). hosted (record { 0 = m })) (eqb-true v.key.0 k.0 (t v p))) ∙ h)

    by_test : (c : Bool) → test v ≡ c → c ≡ false
    by_test true p = absurd (clash p)
    by_test false p = refl

-- none of a list passes
none_passes : (test : Version → Bool) (vs : List Version) → Each (λ v. test v ≡ false) vs → filter test vs ≡ []
none_passes test [] e = refl
none_passes test (v ∷ vs) e = rw e.0 (none_passes test vs e.1)

-- of a key that the store holds, the store's are seen
pub seen_in_store : (hosted : KeyId → Bool) (k : KeyId) (test : Version → Bool) (cache store : List Version) → OfKeys hosted false cache → hosted k ≡ true → IsOfKey k test
    → filter test (merged cache store) ≡ filter test store
seen_in_store hosted k test cache store c h t =
    merged_unseen test cache store (each_so (λ v. hosted v.key ≡ false) (λ v. test v ≡ false) cache (λ v e. fails_of_key hosted false k test v t e (λ q. cc (q, h))) c)

-- of a key that the store does not hold, the cache's are seen
pub seen_in_cache : (hosted : KeyId → Bool) (k : KeyId) (test : Version → Bool) (cache store : List Version) → IsOrdered cache → IsOrdered store → OfKeys hosted false cache
    → OfKeys hosted true store → hosted k ≡ false → IsOfKey k test → filter test (merged cache store) ≡ filter test cache
seen_in_cache hosted k test cache store o p c s h t =
    merged_seen test cache store (ordered_apart cache o) p (lists_apart hosted cache store c s)
    ∙ ap (λ ws. merged (filter test cache) ws) (none_passes test store (each_so (λ v. hosted v.key ≡ true) (λ v. test v ≡ false) store (λ v e. fails_of_key hosted true k test v t e (λ q. cc (q, h))) s))
    ∙ insert_in_order (filter test cache) (ordered_filter test cache o)

-- ---- a key that the store holds

module _ (hosted : KeyId → Bool) (k : KeyId) (cache store : List Version) (c : OfKeys hosted false cache) (h : hosted k ≡ true) where
  -- its versions
  pub chain_in_store : chain k (merged cache store) ≡ chain k store
  chain_in_store = seen_in_store hosted k (λ v. same_key v.key k) cache store c h (λ v e. e)

  -- its visible version
  pub visible_in_store : (r : ℕ) → visible (merged cache store) k r ≡ visible store k r
  visible_in_store r = ap (λ vs. last_or None vs) (seen_in_store hosted k (λ v. same_key v.key k && nat_le v.ts.0 r) cache store c h (λ v e. and_true_left _ _ e))

  -- its last Pre version
  pub pre_in_store : (r : ℕ) → last_pre (merged cache store) k r ≡ last_pre store k r
  pre_in_store r = ap (λ vs. last_or None vs) (seen_in_store hosted k (λ v. same_key v.key k && (nat_le v.ts.0 r && is_pre v.kind)) cache store c h (λ v e. and_true_left _ _ e))

  -- its greatest timestamp
  pub newest_in_store : newest (merged cache store) k ≡ newest store k
  newest_in_store = ap (λ vs. ts_or_zero (last_or None vs)) chain_in_store

-- ---- a key that the store does not hold

module _ (hosted : KeyId → Bool) (k : KeyId) (cache store : List Version) (o : IsOrdered cache) (p : IsOrdered store) (c : OfKeys hosted false cache)
    (s : OfKeys hosted true store) (h : hosted k ≡ false) where
  -- its versions
  pub chain_in_cache : chain k (merged cache store) ≡ chain k cache
  chain_in_cache = seen_in_cache hosted k (λ v. same_key v.key k) cache store o p c s h (λ v e. e)

  -- its visible version
  pub visible_in_cache : (r : ℕ) → visible (merged cache store) k r ≡ visible cache k r
  visible_in_cache r = ap (λ vs. last_or None vs) (seen_in_cache hosted k (λ v. same_key v.key k && nat_le v.ts.0 r) cache store o p c s h (λ v e. and_true_left _ _ e))

  -- its last Pre version
  pub pre_in_cache : (r : ℕ) → last_pre (merged cache store) k r ≡ last_pre cache k r
  pre_in_cache r =
      ap (λ vs. last_or None vs) (seen_in_cache hosted k (λ v. same_key v.key k && (nat_le v.ts.0 r && is_pre v.kind)) cache store o p c s h (λ v e. and_true_left _ _ e))

  -- its greatest timestamp
  pub newest_in_cache : newest (merged cache store) k ≡ newest cache k
  newest_in_cache = ap (λ vs. ts_or_zero (last_or None vs)) chain_in_cache

-- A cache and a store in one list: what a test lets through, and the order.
use Rattle.std.proofs.Common.{Bool, List, [], ap, false, filter, if◌then◌else◌, refl, sym, true, ℕ, ◌∙◌, ◌∷◌, ◌≡◌}
use Rattle.str_base.proofs.Order.{apart_back, before_trans, filter-insert_other, insert_after, insert_before}
use Rattle.str_base.specs.declared.names.KeyId.{KeyId}
use Rattle.str_base.specs.declared.names.Version.{Version}
use Rattle.str_base.specs.Versions.{insert_version, is_before}
pub use Rattle.replica_store.specs.StoreLists.{ListsApart}
use Rattle.version_chain.specs.ChainLists.{Apart, Each, IsOrdered, Precedes, merged}
use Rattle.version_chain.proofs.Each.{each_both, each_insert, each_kept, each_so}
use Rattle.version_chain.proofs.Keeping.{AllApart, ordered_apart, ordered_insert, ordered_insert_all}

-- the versions are of keys that pass a test, or of keys that fail it
abbrev pub OfKeys : (KeyId → Bool) → Bool → List Version → Type 0
OfKeys hosted b vs = Each (λ v. hosted v.key ≡ b) vs

-- versions of keys that a test tells apart are apart
pub keys_apart : (hosted : KeyId → Bool) (v w : Version) → hosted v.key ≡ false → hosted w.key ≡ true → Apart v w
keys_apart hosted v w a b = λ e f g. absurd (clash (ap (λ (n : ℕ). hosted (record { 0 = n })) e))
  where
    clash : hosted v.key ≡ hosted w.key → ⊥
    clash q = cc (a, b, q)

-- so are lists of such versions
pub lists_apart : (hosted : KeyId → Bool) (cache store : List Version) → OfKeys hosted false cache → OfKeys hosted true store → ListsApart cache store
lists_apart hosted cache store a b =
    each_so (λ v. hosted v.key ≡ false) (λ v. Each (Apart v) store) cache (λ v h. each_so (λ w. hosted w.key ≡ true) (Apart v) store (λ w k. keys_apart hosted v w h k) b) a

-- the list of both is in order
pub merged_ordered : (cache store : List Version) → IsOrdered cache → IsOrdered store → ListsApart cache store → IsOrdered (merged cache store)
merged_ordered cache store o p a = ordered_insert_all cache store (ordered_apart cache o) a p

-- ---- tests

-- a version that stands before all is put first
insert_first : (v : Version) (vs : List Version) → Each (λ w. is_before v w ≡ true) vs → insert_version v vs ≡ v ∷ vs
insert_first v [] e = refl
insert_first v (w ∷ ws) e = insert_before v w ws e.0

-- a version that stands before the first of an order stands before all
before_all : (v w : Version) (ws : List Version) → IsOrdered (w ∷ ws) → is_before v w ≡ true → Each (λ x. is_before v x ≡ true) (w ∷ ws)
before_all v w ws o e = (e, each_so (Precedes w) (λ x. is_before v x ≡ true) ws (λ x p. before_trans v w x e p.0) o.0)

-- what passes a test is put among those that do
pub insert_seen : (test : Version → Bool) (v : Version) (vs : List Version) → IsOrdered vs → test v ≡ true → filter test (insert_version v vs) ≡ insert_version v (filter test vs)
insert_seen test v [] o e = rw e refl
insert_seen test v (w ∷ ws) o e = by_before (is_before v w) refl (insert_seen test v ws o.1 e)
  where
    first : is_before v w ≡ true → v ∷ filter test (w ∷ ws) ≡ insert_version v (filter test (w ∷ ws))
    first p = sym (insert_first v (filter test (w ∷ ws)) (each_kept test (λ x. is_before v x ≡ true) (w ∷ ws) (before_all v w ws o p)))

    later : is_before v w ≡ false → (c : Bool) → filter test (insert_version v ws) ≡ insert_version v (filter test ws)
        → (if c then w ∷ filter test (insert_version v ws) else filter test (insert_version v ws)) ≡ insert_version v (if c then w ∷ filter test ws else filter test ws)
    later p true rec = ap (λ ys. w ∷ ys) rec ∙ sym (insert_after v w (filter test ws) p)
    later p false rec = rec

    by_before : (b : Bool) → is_before v w ≡ b → filter test (insert_version v ws) ≡ insert_version v (filter test ws)
        → filter test (if b then v ∷ w ∷ ws else w ∷ insert_version v ws) ≡ insert_version v (filter test (w ∷ ws))
    by_before true p rec = rw e (first p)
    by_before false p rec = later p (test w) rec

-- a cache none of which passes a test is not seen
pub merged_unseen : (test : Version → Bool) (cache store : List Version) → Each (λ v. test v ≡ false) cache → filter test (merged cache store) ≡ filter test store
merged_unseen test [] store e = refl
merged_unseen test (v ∷ cache) store e = merged_unseen test cache (insert_version v store) e.1 ∙ filter-insert_other test v store e.0

-- what passes a test of both is what passes it of each
pub merged_seen : (test : Version → Bool) (cache store : List Version) → AllApart cache → IsOrdered store → ListsApart cache store
    → filter test (merged cache store) ≡ merged (filter test cache) (filter test store)
merged_seen test [] store c o a = refl
merged_seen test (v ∷ cache) store c o a =
    by_test (test v) refl
    (merged_seen test cache (insert_version v store) c.1 (ordered_insert v store o a.0)
    (each_both (λ w. Each (Apart w) store) (Apart v) (λ w. Each (Apart w) (insert_version v store)) cache (λ w p q. each_insert (Apart w) v store (apart_back v w q) p) a.1 c.0))
  where
    by_test : (b : Bool) → test v ≡ b → filter test (merged cache (insert_version v store)) ≡ merged (filter test cache) (filter test (insert_version v store))
        → filter test (merged cache (insert_version v store)) ≡ merged (if b then v ∷ filter test cache else filter test cache) (filter test store)
    by_test true e rec = rec ∙ ap (λ ws. merged (filter test cache) ws) (insert_seen test v store o e)
    by_test false e rec = rec ∙ ap (λ ws. merged (filter test cache) ws) (filter-insert_other test v store e)

-- The last version that is not evicted, and which Replicate is taken.
use Rattle.std.proofs.Common.{Bool, List, None, Option, Some, [], ap, arith, false, filter, length, length-append, not, refl, sym, true, ◌&&◌, ◌++◌, ◌<◌, ◌∙◌, ◌∷◌, ◌≡◌}
use Rattle.std.proofs.Math.Bool.{and_comm}
use Rattle.std.specs.List.{last_or, list_any}
use Rattle.partition_map.specs.Maps.{PartitionMap, first_or, hosts, replicas}
use Rattle.prepare_master.proofs.Showing.{leads_first}
use Rattle.replica_apply.specs.Slaves.{is_taken}
use Rattle.str_base.specs.declared.names.KeyId.{KeyId}
use Rattle.str_base.specs.declared.names.NodeId.{NodeId}
use Rattle.str_base.specs.declared.names.PartId.{PartId}
use Rattle.str_base.specs.declared.names.TxId.{TxId}
use Rattle.str_base.specs.declared.names.Version.{Version}
use Rattle.str_base.specs.Versions.{chain, of_pair, same_key, same_node, without}
use Rattle.str_model.specs.declared.messages.Arrived.{Arrived}
use Rattle.str_model.specs.Proposals.{is_pair}
use Rattle.version_chain.proofs.Lists.{filter_alike, filter_twice, last_fails, last_passes}

-- the versions of a key that are kept
pub kept_chain : (test : Version → Bool) (k : KeyId) (vs : List Version) → filter (λ v. not (test v)) (chain k vs) ≡ chain k (without test vs)
kept_chain test k vs =
    filter_twice (λ v. same_key v.key k) (λ v. not (test v)) vs ∙ filter_alike (λ v. same_key v.key k && not (test v)) (λ v. not (test v) && same_key v.key k) vs (λ v. and_comm (same_key v.key k) (not (test v)))
    ∙ sym (filter_twice (λ v. not (test v)) (λ v. same_key v.key k) vs)

-- the next older one is kept
pub last_found : (test : Version → Bool) (xs ys : List Version) (x : Version) (r : Option Version) → last_or None (filter (λ v. not (test v)) xs) ≡ r → xs ≡ ys ++ x ∷ [] → not (test x) ≡ true → Some x ≡ r
last_found test xs ys x r h e t = sym (last_passes (λ v. not (test v)) None ys x t) ∙ sym (ap (λ zs. last_or None (filter (λ v. not (test v)) zs)) e) ∙ h

-- the next older one is not
pub last_before : (test : Version → Bool) (xs ys : List Version) (x : Version) (r : Option Version) → last_or None (filter (λ v. not (test v)) xs) ≡ r → xs ≡ ys ++ x ∷ [] → not (test x) ≡ false
    → last_or None (filter (λ v. not (test v)) ys) ≡ r
last_before test xs ys x r h e t = sym (last_fails (λ v. not (test v)) None ys x t) ∙ sym (ap (λ zs. last_or None (filter (λ v. not (test v)) zs)) e) ∙ h

-- all were looked at
pub last_none : (test : Version → Bool) (xs : List Version) (r : Option Version) → last_or None (filter (λ v. not (test v)) xs) ≡ r → xs ≡ [] → None ≡ r
last_none test xs r h e = sym (ap (λ zs. last_or None (filter (λ v. not (test v)) zs)) e) ∙ h

-- fewer are left
pub fewer_left : (xs ys : List Version) (x : Version) → xs ≡ ys ++ x ∷ [] → length ys < length xs
fewer_left xs ys x e = omega (arith, ap (λ zs. length zs) e, length-append ys (x ∷ []))

module _ (map : PartitionMap) (node : NodeId) (vs : List Version) (done : List (TxId × PartId)) (a : Arrived) (m : NodeId) (f : (n : NodeId) → m ≡ first_or n (replicas map a.part)) where
  -- the master takes no Replicate
  pub not_by_master : hosts map node a.part ≡ true → same_node m node ≡ true → is_taken map node vs done a ≡ false
  not_by_master h e = rw (h, leads_first (replicas map a.part) m node f, e) refl

  -- a slave takes a new one
  pub by_slave : (p : Bool) → hosts map node a.part ≡ true → same_node m node ≡ false → same_node a.tx.node node ≡ false → list_any (is_pair a.tx a.part) done ≡ false
      → p ≡ list_any (of_pair a.tx a.part) vs → is_taken map node vs done a ≡ not p
  by_slave p h e n d q = rw (h, leads_first (replicas map a.part) m node f, e, n, d, q) refl

-- Names of nodes, partitions, keys and transactions that a test tells to be one.
use Rattle.std.proofs.Common.{Bool, ap, eq-eqb, eqb-true, false, inl, inr, refl, true, ◌==◌, ◌≡◌, ◌≢◌, ◌⊎◌}
use Rattle.std.proofs.lemmas.Bool.{and_from, and_parts}
use Rattle.str_base.specs.declared.names.KeyId.{KeyId}
use Rattle.str_base.specs.declared.names.NodeId.{NodeId}
use Rattle.str_base.specs.declared.names.PartId.{PartId}
use Rattle.str_base.specs.declared.names.TxId.{TxId}
use Rattle.str_base.specs.Versions.{same_key, same_node, same_part, same_tx}

-- ---- one number is one name

pub node_by_number : (m n : NodeId) → m.0 ≡ n.0 → m ≡ n
node_by_number m n e = λ j. record { 0 = e j }

pub part_by_number : (p q : PartId) → p.0 ≡ q.0 → p ≡ q
part_by_number p q e = λ j. record { 0 = e j }

pub key_by_number : (k l : KeyId) → k.0 ≡ l.0 → k ≡ l
key_by_number k l e = λ j. record { 0 = e j }

pub tx_by_numbers : (t u : TxId) → t.node.0 ≡ u.node.0 → t.seq ≡ u.seq → t ≡ u
tx_by_numbers t u n s = λ j. record { node = record { 0 = n j }; seq = s j }

-- ---- the tests tell

pub same_node-is : (m n : NodeId) → same_node m n ≡ true → m ≡ n
same_node-is m n e = node_by_number m n (eqb-true m.0 n.0 e)

pub same_part-is : (p q : PartId) → same_part p q ≡ true → p ≡ q
same_part-is p q e = part_by_number p q (eqb-true p.0 q.0 e)

pub same_key-is : (k l : KeyId) → same_key k l ≡ true → k ≡ l
same_key-is k l e = key_by_number k l (eqb-true k.0 l.0 e)

pub same_tx-is : (t u : TxId) → same_tx t u ≡ true → t ≡ u
same_tx-is t u e =
    let both = and_parts (same_node t.node u.node) (t.seq == u.seq) e in
    tx_by_numbers t u (eqb-true t.node.0 u.node.0 both.0) (eqb-true t.seq u.seq both.1)

-- ---- and pass at one name

pub is-same_node : (m n : NodeId) → m ≡ n → same_node m n ≡ true
is-same_node m n e = eq-eqb m.0 n.0 (ap (λ (z : NodeId). z.0) e)

pub is-same_part : (p q : PartId) → p ≡ q → same_part p q ≡ true
is-same_part p q e = eq-eqb p.0 q.0 (ap (λ (z : PartId). z.0) e)

pub is-same_key : (k l : KeyId) → k ≡ l → same_key k l ≡ true
is-same_key k l e = eq-eqb k.0 l.0 (ap (λ (z : KeyId). z.0) e)

pub is-same_tx : (t u : TxId) → t ≡ u → same_tx t u ≡ true
is-same_tx t u e =
    and_from (same_node t.node u.node) (t.seq == u.seq) (eq-eqb t.node.0 u.node.0 (ap (λ (z : TxId). z.node.0) e)) (eq-eqb t.seq u.seq (ap (λ (z : TxId). z.seq) e))

-- ---- two names are one, or are not

pub cases_key : (k l : KeyId) → (k ≡ l) ⊎ (k ≢ l)
cases_key k l = by_test (same_key k l) refl
  where
    by_test : (b : Bool) → same_key k l ≡ b → (k ≡ l) ⊎ (k ≢ l)
    by_test true e = inl (same_key-is k l e)
    by_test false e = inr (λ q. absurd (cc (is-same_key k l q, e)))

pub cases_part : (p q : PartId) → (p ≡ q) ⊎ (p ≢ q)
cases_part p q = by_test (same_part p q) refl
  where
    by_test : (b : Bool) → same_part p q ≡ b → (p ≡ q) ⊎ (p ≢ q)
    by_test true e = inl (same_part-is p q e)
    by_test false e = inr (λ s. absurd (cc (is-same_part p q s, e)))

pub cases_tx : (t u : TxId) → (t ≡ u) ⊎ (t ≢ u)
cases_tx t u = by_test (same_tx t u) refl
  where
    by_test : (b : Bool) → same_tx t u ≡ b → (t ≡ u) ⊎ (t ≢ u)
    by_test true e = inl (same_tx-is t u e)
    by_test false e = inr (λ q. absurd (cc (is-same_tx t u q, e)))

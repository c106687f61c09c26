-- How the index of the decided pairs finds them.
use Rattle.std.specs.List.{list_any}
use Rattle.std.specs.Prelude.{Bool, List, ℕ, ◌&&◌, ◌==◌, ◌≡◌}
use Rattle.str_base.specs.declared.names.PartId.{PartId}
use Rattle.str_base.specs.declared.names.TxId.{TxId}
use Rattle.str_model.specs.Proposals.{is_pair}

-- these are the numbers of the pair's node, transaction and partition
abbrev pub are_numbers : TxId → PartId → ℕ × ℕ × ℕ → Bool
are_numbers tx part n = ((tx.node.0 == n.0) && (tx.seq == n.1)) && (part.0 == n.2)

-- the index has the numbers of exactly the pairs of the list
abbrev pub Indexes : List (ℕ × ℕ × ℕ) → List (TxId × PartId) → Type 0
Indexes keys pairs = (tx : TxId) (part : PartId) → list_any (are_numbers tx part) keys ≡ list_any (is_pair tx part) pairs

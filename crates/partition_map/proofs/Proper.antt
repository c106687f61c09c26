-- The rows of a map.
use Rattle.std.proofs.Common.{List, Some, [], arith, length, refl, slice_get, sub-one, suc, zero, ℕ, ◌-◌, ◌∷◌, ◌≡◌, ◌≤◌}
use Rattle.std.specs.Prelude.{slice_index_or}
use Rattle.str_base.proofs.Lists.{slice_get_there}
use Rattle.str_base.specs.declared.limits.TheConstants.{NODES}
use Rattle.str_base.specs.declared.names.NodeId.{NodeId}
use Rattle.str_base.specs.declared.names.PartId.{PartId}
use Rattle.partition_map.specs.Maps.{Exists, IsMap, IsRow, PartitionMap, first_or, nth, or_none, row_at}

-- the first of a row that is not empty
pub first-at : (n d : NodeId) (rs : List NodeId) → 1 ≤ length rs → slice_index_or rs 0 d ≡ first_or n rs
first-at n d [] h = absurd (omega arith)
first-at n d (r ∷ rs) h = refl

-- a row that exists is one of the rows
pub row-at : (rows : List (List NodeId)) (p : ℕ) → Exists p (length rows) → (i : ℕ) × (slice_get rows i ≡ Some (or_none (nth rows p)))
row-at rows zero h = absurd (omega (arith, h.0))
row-at rows (suc i) h =
    let g = slice_get_there rows i (omega (arith, h.1)) in
    (i, rw g.1 refl)

-- a row that exists is proper
pub proper : (m : PartitionMap) (p : PartId) → IsMap m → Exists p.0 (length m.rows) → IsRow NODES (row_at m.rows p)
proper m p is h = let r = row-at m.rows p.0 h in is.rows r.0 _ r.1

-- what stands at a place counted from 1 stands in the list
pub at_nth : {X : Type 0} (xs : List X) (p : ℕ) (x : X) → nth xs p ≡ Some x → slice_get xs (p - 1) ≡ Some x
at_nth xs zero x e = absurd (cc e)
at_nth xs (suc i) x e = rw sub-one e

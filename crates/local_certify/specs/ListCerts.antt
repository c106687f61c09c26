-- What a certification comes to by the lists that a call is given: what is told of own transactions, the marks, and the versions of both stores.
use Rattle.std.specs.Prelude.{List, None, Option, Some, [], find, flat_map, if◌then◌else◌, max, ℕ, ◌+◌, ◌∷◌}
use Rattle.dependency_set.specs.declared.snaps.OwnSnap.{OwnSnap}
use Rattle.dependency_set.specs.Snapshots.{Snap, holds, oldest}
use Rattle.local_certify.specs.Judging.{join_one, passed_by}
use Rattle.partition_map.specs.Maps.{PartitionMap}
use Rattle.snapshot_read.specs.ListReads.{name_of}
use Rattle.snapshot_read.specs.Shown.{held}
use Rattle.str_base.specs.declared.names.KeyId.{KeyId}
use Rattle.str_base.specs.declared.names.NodeId.{NodeId}
use Rattle.str_base.specs.declared.names.Version.{Version}
use Rattle.str_base.specs.declared.names.Write.{Write}
use Rattle.str_base.specs.Versions.{chain}
use Rattle.str_model.specs.Turns.{CertTurn, Certified, Conflict, WaitGate, conflicts}

-- the versions of these keys, in order of the keys
abbrev pub met_in : (KeyId → List Version) → List Write → List Version
met_in versions ws = flat_map (λ w. chain w.key (versions w.key)) ws

-- the snapshot with what it takes over from these versions
abbrev pub joined_told : List OwnSnap → List Version → Snap → Snap
joined_told own [] snap = snap
joined_told own (v ∷ vs) snap = joined_told own vs (join_one own v v.kind snap)

-- a snapshot that met no conflict is certified above what has to be passed, where its gate lets it through
abbrev pub closed_at : NodeId → ℕ → Snap → CertTurn
closed_at node past snap =
    if holds snap then Certified (1 + max snap.rs past) snap else WaitGate (name_of node (oldest snap.deps))

-- the first conflict, and else the new snapshot
abbrev pub cert_found : NodeId → ℕ → Snap → Option Version → CertTurn
cert_found node past snap (Some v) = Conflict v.tx v.key
cert_found node past snap None = closed_at node past snap

-- a certification, by the versions of the written keys in the stores that hold them
abbrev pub list_cert : NodeId → PartitionMap → List OwnSnap → List Version → List Version → List ℕ → Snap → List Write → CertTurn
list_cert node map own store cache marks snap ws =
    let versions = held map node store cache in
    let met = met_in versions ws in
    cert_found node (passed_by marks versions ws) (joined_told own met snap) (find (conflicts snap.rs) met)

-- What a read comes to by the lists that a call is given: what is told of own transactions, and the versions of both stores.
use Rattle.std.specs.Prelude.{List, None, Option, Some, if◌then◌else◌}
use Rattle.dependency_set.specs.declared.names.Dep.{Dep}
use Rattle.dependency_set.specs.declared.snaps.OwnSnap.{OwnSnap}
use Rattle.dependency_set.specs.Snapshots.{Snap, accept_final, holds, oldest}
use Rattle.partition_map.specs.Maps.{PartitionMap, first_or, hosts, part_of, replicas}
use Rattle.snapshot_read.specs.Shown.{held, taken_over, told}
use Rattle.str_base.specs.declared.names.KeyId.{KeyId}
use Rattle.str_base.specs.declared.names.Kind.{Kind}
use Rattle.str_base.specs.declared.names.Kind.TheVariants.{Final, Local, Pre}
use Rattle.str_base.specs.declared.names.NodeId.{NodeId}
use Rattle.str_base.specs.declared.names.TxId.{TxId}
use Rattle.str_base.specs.declared.names.Value.TheVariants.{Absent}
use Rattle.str_base.specs.declared.names.Version.{Version}
use Rattle.str_base.specs.Versions.{last_pre, visible}
use Rattle.str_model.specs.Turns.{Away, Plain, ReadTurn, Speculative, Wait}

-- the name of a dependency, which is a transaction of the node
abbrev pub name_of : NodeId → Option Dep → TxId
name_of node None = record { node = node; seq = 0 }
name_of node (Some d) = record { node = node; seq = d.seq }

-- the turn, where the gate lets the snapshot through
abbrev pub gated_at : NodeId → Snap → ReadTurn → ReadTurn
gated_at node snap turn = if holds snap then turn else Wait (name_of node (oldest snap.deps))

-- the read of a version, by its kind
abbrev pub kind_read : NodeId → List OwnSnap → Snap → Version → Kind → ReadTurn
kind_read node own snap v Pre = Wait v.tx
kind_read node own snap v Local =
    let taken = taken_over (told own v.tx.seq) v.tx.seq snap in
    gated_at node taken (Speculative v.value v.tx taken)
kind_read node own snap v Final =
    let raised = accept_final snap v.ts.0 in
    gated_at node raised (Plain v.value (Some v.tx) v.ts.0 raised)

-- the read of the visible version; where there is none, of nothing at a node that hosts the key, and else by the master
abbrev pub visible_read : NodeId → PartitionMap → List OwnSnap → Snap → KeyId → Option Version → ReadTurn
visible_read node map own snap k (Some v) = kind_read node own snap v v.kind
visible_read node map own snap k None =
    if hosts map node (part_of map k)
    then gated_at node snap (Plain Absent None 0 snap)
    else Away (first_or node (replicas map (part_of map k)))

-- a Pre version is waited for, and else the last of these versions at or below the snapshot is read
abbrev pub read_after : NodeId → PartitionMap → List OwnSnap → List Version → Snap → KeyId → Option Version → ReadTurn
read_after node map own versions snap k (Some v) = Wait v.tx
read_after node map own versions snap k None = visible_read node map own snap k (visible versions k snap.rs)

-- a read of a key among the versions of the store that holds it
abbrev pub list_read : NodeId → PartitionMap → List OwnSnap → List Version → List Version → Snap → KeyId → ReadTurn
list_read node map own store cache snap k =
    let versions = held map node store cache k in
    read_after node map own versions snap k (last_pre versions k snap.rs)

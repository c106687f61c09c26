-- What a node decides of reads, of a certification and of dependencies. Each is a value of plain lists.
use Rattle.std.specs.Prelude.{Bool, List, None, Option, Some, [], find, flat_map, if◌then◌else◌, map, max, nat_lt, slice_get, ℕ, ◌+◌, ◌-◌, ◌||◌, ◌∷◌}
use Rattle.dependency_set.specs.declared.names.Dep.{Dep}
use Rattle.str_base.specs.declared.names.KeyId.{KeyId}
use Rattle.str_base.specs.declared.names.Kind.{Kind}
use Rattle.str_base.specs.declared.names.Kind.TheVariants.{Final, Local, Pre}
use Rattle.str_base.specs.declared.names.NodeId.{NodeId}
use Rattle.str_base.specs.declared.names.TxId.{TxId}
use Rattle.str_base.specs.declared.names.Value.{Value}
use Rattle.str_base.specs.declared.names.Value.TheVariants.{Absent}
use Rattle.str_base.specs.declared.names.Version.{Version}
use Rattle.str_base.specs.declared.names.Write.{Write}
use Rattle.str_scene.specs.Scenes.{Here, first_or, hosts_key, part_of, replicas}
use Rattle.dependency_set.specs.Snapshots.{Snap, accept_final, accept_local, holds, oldest}
use Rattle.str_base.specs.Versions.{chain, is_pre, last_pre, last_undecided, mark_of, newest, visible}
use Rattle.str_model.specs.Views.{Aborted, Committed, Own, Phase, View}

-- ---- reads

-- what a read comes to
pub data ReadTurn : Type 0 where
  Plain : Value → Option TxId → ℕ → Snap → ReadTurn
  Speculative : Value → TxId → Snap → ReadTurn
  Wait : TxId → ReadTurn
  Away : NodeId → ReadTurn

-- the name of the dependency that a gate waits for
abbrev pub waits_for : Here → Option Dep → TxId
waits_for here None = record { node = here.node; seq = 0 }
waits_for here (Some d) = record { node = here.node; seq = d.seq }

-- the turn, where the gate lets the snapshot through
abbrev pub gated : Here → Snap → ReadTurn → ReadTurn
gated here snap turn = if holds snap then turn else Wait (waits_for here (oldest snap.deps))

-- the snapshot with what it takes over from an own transaction of this number
abbrev pub take_over : Option Own → ℕ → Snap → Snap
take_over None seq snap = snap
take_over (Some x) seq snap = accept_local snap seq x.snap

-- the read of a visible version, by its kind
abbrev pub read_kind : Here → List Own → Snap → Version → Kind → ReadTurn
read_kind here own snap v Pre = Wait v.tx
read_kind here own snap v Local =
    let snap' = take_over (slice_get own (v.tx.seq - 1)) v.tx.seq snap in
    gated here snap' (Speculative v.value v.tx snap')
read_kind here own snap v Final =
    let snap' = accept_final snap v.ts.0 in
    gated here snap' (Plain v.value (Some v.tx) v.ts.0 snap')

-- the read of the visible version, where there is one
abbrev pub read_visible : Here → List Own → Snap → KeyId → Option Version → ReadTurn
read_visible here own snap k None =
    if hosts_key here k
    then gated here snap (Plain Absent None 0 snap)
    else Away (first_or here.node (replicas here.scene (part_of here.scene k)))
read_visible here own snap k (Some v) = read_kind here own snap v v.kind

-- a Pre version at or below the snapshot is waited for
abbrev pub read_after : Here → View → Snap → KeyId → Option Version → ReadTurn
read_after here view snap k (Some v) = Wait v.tx
read_after here view snap k None = read_visible here view.own snap k (visible view.versions k snap.rs)

-- a read of an own transaction
unfoldable pub read_turn : Here → View → Snap → KeyId → ReadTurn
read_turn here view snap k = read_after here view snap k (last_pre view.versions k snap.rs)

-- a reply from a master
unfoldable pub reply_turn : Here → Snap → Value → Option TxId → ℕ → ReadTurn
reply_turn here snap v by fc = let snap' = accept_final snap fc in gated here snap' (Plain v by fc snap')

-- what a foreign read comes to
pub data ServeTurn : Type 0 where
  Give : Value → Option TxId → ℕ → ServeTurn
  ServeWait : TxId → ServeTurn

-- the visible version is given, or nothing
abbrev pub serve_visible : Option Version → ServeTurn
serve_visible None = Give Absent None 0
serve_visible (Some v) = Give v.value (Some v.tx) v.ts.0

-- an undecided version is waited for
abbrev pub serve_after : List Version → KeyId → ℕ → Option Version → ServeTurn
serve_after vs k rs (Some v) = ServeWait v.tx
serve_after vs k rs None = serve_visible (visible vs k rs)

-- a read of another node
unfoldable pub serve_turn : List Version → KeyId → ℕ → ServeTurn
serve_turn vs k rs = serve_after vs k rs (last_undecided vs k rs)

-- ---- certification

-- what a certification comes to
pub data CertTurn : Type 0 where
  Certified : ℕ → Snap → CertTurn
  Conflict : TxId → KeyId → CertTurn
  WaitGate : TxId → CertTurn

-- the versions of these keys, in order of the keys
abbrev pub met : List Write → List Version → List Version
met ws vs = flat_map (λ w. chain w.key vs) ws

-- the version is Pre or above the snapshot
abbrev pub conflicts : ℕ → Version → Bool
conflicts rs v = is_pre v.kind || nat_lt rs v.ts.0

-- a Local version is taken over into the snapshot
abbrev pub joined_one : List Own → Version → Kind → Snap → Snap
joined_one own v Local snap = take_over (slice_get own (v.tx.seq - 1)) v.tx.seq snap
joined_one own v Pre snap = snap
joined_one own v Final snap = snap

-- the snapshot with what it takes over from these versions
abbrev pub joined : List Own → List Version → Snap → Snap
joined own [] snap = snap
joined own (v ∷ vs) snap = joined own vs (joined_one own v v.kind snap)

-- the greatest of a list, 0 where it is empty
abbrev pub greatest : List ℕ → ℕ
greatest [] = 0
greatest (n ∷ ns) = max n (greatest ns)

-- what a new version of these keys has to pass
abbrev pub passed : View → List Write → ℕ
passed view ws = greatest (map (λ w. max (mark_of view.marks w.key) (newest view.versions w.key)) ws)

-- the new snapshot is certified, where the gate lets it through
abbrev pub cert_joined : Here → View → List Write → Snap → CertTurn
cert_joined here view ws snap =
    if holds snap then Certified (1 + max snap.rs (passed view ws)) snap else WaitGate (waits_for here (oldest snap.deps))

-- the first conflict, else the snapshot with what it takes over
abbrev pub cert_after : Here → View → Snap → List Write → Option Version → CertTurn
cert_after here view snap ws (Some v) = Conflict v.tx v.key
cert_after here view snap ws None = cert_joined here view ws (joined view.own (met ws view.versions) snap)

-- the certification of an own transaction
unfoldable pub cert_turn : Here → View → Snap → List Write → CertTurn
cert_turn here view snap ws = cert_after here view snap ws (find (conflicts snap.rs) (met ws view.versions))

-- ---- dependencies

-- what became of a transaction
pub data Fate : Type 0 where
  Open : Fate
  CommittedAt : ℕ → Fate
  Gone : Fate

-- the fate by the phase
abbrev pub phase_fate : Phase → Fate
phase_fate (Committed lc None) = Open
phase_fate (Committed lc (Some fc)) = CommittedAt fc
phase_fate (Aborted lc cause) = Gone
phase_fate _ = Open

-- the fate of an own transaction
abbrev pub own_fate : Option Own → Fate
own_fate None = Open
own_fate (Some x) = phase_fate x.phase

-- what the look at the dependencies comes to: this one aborted, this one committed at a final timestamp above the snapshot,
-- or none decides; each with the greatest final timestamp and the dependencies that are left
pub data DepTurn : Type 0 where
  Lost : ℕ → ℕ → List Dep → DepTurn
  Late : ℕ → ℕ → ℕ → List Dep → DepTurn
  Keep : ℕ → List Dep → DepTurn

-- one more is kept
abbrev pub keep_also : Dep → DepTurn → DepTurn
keep_also d (Lost q f es) = Lost q f (d ∷ es)
keep_also d (Late q fc f es) = Late q fc f (d ∷ es)
keep_also d (Keep f es) = Keep f (d ∷ es)

-- one dependency by its fate, and then those after it
abbrev pub by_fate : ℕ → Dep → List Dep → ℕ → (ℕ → DepTurn) → Fate → DepTurn
by_fate rs d ds ffc rest Open = keep_also d (rest ffc)
by_fate rs d ds ffc rest Gone = Lost d.seq ffc (d ∷ ds)
by_fate rs d ds ffc rest (CommittedAt fc) = if nat_lt rs fc then Late d.seq fc ffc (d ∷ ds) else rest (max ffc fc)

-- the dependencies by rising number
abbrev pub resolve_all : List Own → ℕ → List Dep → ℕ → DepTurn
resolve_all own rs [] ffc = Keep ffc []
resolve_all own rs (d ∷ ds) ffc = by_fate rs d ds ffc (λ f. resolve_all own rs ds f) (own_fate (slice_get own (d.seq - 1)))

-- the greatest final timestamp that a turn leaves
abbrev pub ffc_left : DepTurn → ℕ
ffc_left (Lost q f es) = f
ffc_left (Late q fc f es) = f
ffc_left (Keep f es) = f

-- the dependencies that a turn leaves
abbrev pub deps_left : DepTurn → List Dep
deps_left (Lost q f es) = es
deps_left (Late q fc f es) = es
deps_left (Keep f es) = es

-- the snapshot that a turn leaves
abbrev pub left_by : DepTurn → Snap → Snap
left_by t snap = record snap { ffc = ffc_left t; deps = deps_left t }

-- the look at the dependencies of a snapshot
unfoldable pub dep_turn : List Own → Snap → DepTurn
dep_turn own snap = resolve_all own snap.rs snap.deps snap.ffc

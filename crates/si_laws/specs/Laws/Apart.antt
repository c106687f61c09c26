-- The law Apart: conflicting versions do not meet.
use Rattle.std.specs.Prelude.{Some, slice_get, true, ℕ, ◌≡◌, ◌≢◌, ◌≤◌, ◌⊎◌}
use Rattle.str_base.specs.declared.names.Kind.TheVariants.{Final, Local as LocalKind, Pre}
use Rattle.str_base.specs.declared.names.NodeId.{NodeId}
use Rattle.str_base.specs.declared.names.Version.{Version}
use Rattle.str_model.specs.Owned.{OfEachState}
use Rattle.str_model.specs.Runs.{World}
use Rattle.str_scene.specs.Scenes.{Scene, is_master, nth}
use Rattle.si_laws.specs.SnapshotIsolation.{NoOverlap}
use Rattle.si_laws.specs.Standing.{Begun}
use Rattle.str_model.specs.Views.{Own, View}

-- the version stands at the view
abbrev pub IsVersion : View → Version → Type 0
IsVersion v q = (i : ℕ) × (slice_get v.versions i ≡ Some q)

-- a Pre and a Local version of one key never stand together
abbrev pub PreApartLocal : View → Type 0
PreApartLocal v = (q r : Version) → IsVersion v q → IsVersion v r → q.key ≡ r.key → q.kind ≡ Pre → r.kind ≡ LocalKind → ⊥

-- a master has at most one Pre version of a key
abbrev pub OnePre : Scene → NodeId → View → Type 0
OnePre scene n v =
    (q r : Version) → IsVersion v q → IsVersion v r → q.key ≡ r.key → q.kind ≡ Pre → r.kind ≡ Pre → is_master scene n q.part ≡ true → q ≡ r

-- of two versions of a key one is Final at or below the snapshot of the other's transaction, or both are Local
abbrev pub IsOrdered : Version → Own → Version → Own → Type 0
IsOrdered q x r y =
    ((q.kind ≡ Final) × (q.ts.0 ≤ y.snap.rs)) ⊎ (((r.kind ≡ Final) × (r.ts.0 ≤ x.snap.rs)) ⊎ ((q.kind ≡ LocalKind) × (r.kind ≡ LocalKind)))

-- versions of one key at its master, of two transactions, are in order
abbrev pub OrderAtMaster : Scene → World → Type 0
OrderAtMaster scene w =
    (n : NodeId) (v : View) (q r : Version) (x y : Own) → nth w.nodes n.0 ≡ Some v → IsVersion v q → IsVersion v r → q.key ≡ r.key → is_master scene n q.part ≡ true → q.tx ≢ r.tx
    → Begun w q.tx x → Begun w r.tx y → IsOrdered q x r y

-- the law of order at a master
abbrev pub OrderHolds : Type 0
OrderHolds = OfEachState OrderAtMaster

-- Pre and Local versions, the Pre versions at a master, and overlapping writers are kept apart
pub record Apart (scene : Scene) (w : World) : Type 0 where
  pub pre_local : (n : NodeId) (v : View) → nth w.nodes n.0 ≡ Some v → PreApartLocal v
  pub one_pre : (n : NodeId) (v : View) → nth w.nodes n.0 ≡ Some v → OnePre scene n v
  pub writers : NoOverlap scene w.answers

-- the law
abbrev pub ApartHolds : Type 0
ApartHolds = OfEachState Apart

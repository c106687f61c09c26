-- No writer that an undecided transaction has read from is aborted, and each of its dependencies is live.
use Rattle.si_laws.proofs.Isolation.WritersAnswered.{answering}
use Rattle.si_laws.proofs.Order.CertifiedVersions.{BegunAt, begun_at, begun_there, one_state}
use Rattle.si_laws.proofs.Sources.FinalsReported.{ReadOk, ro_committed, ro_gone, ro_listed}
use Rattle.si_laws.proofs.Stages.ParticipantSeats.{of_nth}
use Rattle.si_laws.specs.Standing.{Begun, DependsOn, IsAborted, IsOpen, ReadFrom}
use Rattle.spsi_laws.proofs.Dependencies.CommittedAlone.{committed_not_aborted}
use Rattle.spsi_laws.proofs.Dependencies.DependenciesHold.{dependencies_stand}
use Rattle.spsi_laws.specs.Laws.Dependencies.{DependenciesLive, StandsFor}
use Rattle.std.proofs.Common.{List, Some, ap, slice_get, sym, true, ℕ, ◌+◌, ◌<◌, ◌∙◌, ◌≡◌, ◌≤◌}
use Rattle.str_base.specs.declared.names.NodeId.{NodeId}
use Rattle.str_base.specs.declared.names.TxId.{TxId}
use Rattle.dependency_set.specs.declared.names.Dep.{Dep}
use Rattle.str_model.proofs.Principle.Everywhere.{at_place, stage_of}
use Rattle.str_model.proofs.Changes.SnapshotsGain.{Names}
use Rattle.str_model.specs.Owned.{Owns}
use Rattle.str_model.specs.Runs.{run}
use Rattle.str_model.specs.Views.{Own, View, is_decided, lc_of, name_of}
use Rattle.str_scene.specs.SceneLimits.{IsScene}
use Rattle.str_scene.specs.Scenes.{Scene}
use Rattle.str_scene.specs.declared.names.Event.{Event}
use Rattle.str_base.proofs.Members.{at_in, in_at}

-- a name by its node and its number
pub name_by : (scene : Scene) (u : TxId) (n i : ℕ) → u.node.0 ≡ n + 1 → u.seq ≡ i + 1 → u ≡ name_of (at_place scene n) i
name_by scene u n i e f = λ j. record { node = record { 0 = e j }; seq = f j }

module _ (scene : Scene) (ok : IsScene scene) (es : List Event) (n i : ℕ) (v : View) (x : Own) (there : slice_get (run scene es).nodes n ≡ Some v) (own : Owns v i x) (op : IsOpen x) where
  -- a dependency that is named stands
  pub named_stands : (seq : ℕ) → Names seq x.snap.deps → (d : Dep) × StandsFor v x d × (d.seq ≡ seq)
  named_stands seq names = let a = at_in x.snap.deps names.0 names.1 in (names.0, dependencies_stand scene ok es n v there i a.0 x names.0 own op a.1, names.2)

  -- a writer that was read from is not aborted
  pub not_gone : (u : TxId) (y : Own) → ReadFrom x u → BegunAt scene (stage_of (run scene es)) u y → IsAborted y → ⊥
  not_gone u y rf b g = by_read ((answering scene ok es).guarded_.grounds_.reported.reads n v i x rf.0 u there own (in_at x.reads rf.1.0 rf.0 rf.1.1) rf.2)
    where
      by_read : ReadOk (stage_of (run scene es)) n x u → ⊥
      by_read (ro_committed f c le) = committed_not_aborted scene (stage_of (run scene es)) u f y c b g
      by_read (ro_gone a) = let z : is_decided x.phase ≡ true = ap is_decided a.2 in cc (op, z)
      by_read (ro_listed k node seq o names) =
          let d = named_stands u.seq names in
          let at : BegunAt scene (stage_of (run scene es)) u d.1.owner = record { n = n; i = d.1.place; view = v; there = there; own = d.1.owns; name = name_by scene u n d.1.place node (sym d.2 ∙ d.1.seq) } in
          let same : d.1.owner ≡ y = one_state scene (stage_of (run scene es)) u d.1.owner y at b in
          let dec : is_decided y.phase ≡ true = ap is_decided g.2 in
          cc (ap (λ (z : Own). is_decided z.phase) same, dec, d.1.open_)

pub dependencies_live : DependenciesLive
dependencies_live scene ok es n v i x there own op = record {
  writers = λ u y rf b g. not_gone scene ok es p.0 i v x p.2 own op u y rf (begun_at scene (run scene es) u y b) g;
  deps = λ u dp. live u dp;
}
  where
    p : (j : ℕ) × (n.0 ≡ j + 1) × (slice_get (run scene es).nodes j ≡ Some v)
    p = of_nth (run scene es).nodes n.0 v there

    live : (u : TxId) → DependsOn n x u → (y : Own) × (lc : ℕ) × Begun (run scene es) u y × IsOpen y × (lc_of y.phase ≡ Some lc) × (y.snap.rs < lc) × (lc ≤ x.snap.rs)
    live u dp =
        let d = dependencies_stand scene ok es p.0 v p.2 i dp.1.0 x dp.1.1 own op dp.1.2 in
        (d.owner, d.lc, begun_there scene (run scene es) u d.owner p.0 d.place v p.2 d.owns (name_by scene u p.0 d.place (ap (λ (z : NodeId). z.0) dp.0 ∙ p.1) (sym dp.1.3 ∙ d.seq)), d.open_, d.is_lc, d.above, d.below)

-- The law Prefix: committed answers and wishes see their snapshots, and a read of committed data is the newest.
use Rattle.si_laws.proofs.Isolation.WritersAnswered.{Answering, answering}
use Rattle.si_laws.proofs.Dependencies.LocalsApart.{stand_after}
use Rattle.si_laws.proofs.Order.CertifiedVersions.{BegunAt, begun_at, begun_there}
use Rattle.si_laws.proofs.Guards.GuardGrounds.{Committer, Grounds, committed_write, committer}
use Rattle.si_laws.proofs.Isolation.IsolationHolds.{isolated_run}
use Rattle.si_laws.proofs.Guards.GuardedNewest.{newest_none, newest_some}
use Rattle.si_laws.proofs.Guards.VersionOrigins.{HasWritten}
use Rattle.str_model.proofs.OwnFacts.LocalOwners.{WeakDep}
use Rattle.si_laws.proofs.Sources.FinalsReported.{CommittedIn, ReadOk, ro_committed, ro_gone, ro_listed}
use Rattle.si_laws.proofs.Stages.ParticipantSeats.{of_nth}
use Rattle.str_model.proofs.OwnFacts.DependenciesStand.{fate_open}
use Rattle.str_model.proofs.Principle.Everywhere.{stage_of}
use Rattle.str_model.proofs.Changes.SnapshotsGain.{Names}
use Rattle.si_laws.specs.Laws.Prefix.{FinalReads, PrefixHolds}
use Rattle.si_laws.specs.SnapshotIsolation.{SI}
use Rattle.si_laws.specs.SpeculativeIsolation.{OfOpenWriter, ReadCommitted, ReadNothing}
use Rattle.si_laws.specs.Standing.{CommitOf, IsOpen}
use Rattle.std.proofs.Common.{List, None, Option, Some, add-sub_cancel, ap, false, inl, inr, length, refl, slice_get, subst, sym, true, ℕ, ◌+◌, ◌-◌, ◌∙◌, ◌≡◌, ◌≤◌, ◌⊎◌}
use Rattle.std.proofs.Math.Seq.{take-length}
use Rattle.std.proofs.lemmas.Option.{slice_get_within}
use Rattle.str_base.specs.declared.names.KeyId.{KeyId}
use Rattle.str_base.specs.declared.names.TxId.{TxId}
use Rattle.str_base.specs.declared.names.Value.{Value}
use Rattle.str_model.specs.Owned.{Owns}
use Rattle.str_model.specs.Runs.{run}
use Rattle.str_model.specs.Turns.{CommittedAt, own_fate, phase_fate}
use Rattle.str_model.specs.Turns
use Rattle.str_model.specs.Views.{Own, View, is_decided, lc_of}
use Rattle.str_model.specs.declared.names.ReadDone.{ReadDone}
use Rattle.str_scene.specs.SceneLimits.{IsScene}
use Rattle.str_scene.specs.Scenes.{Scene}
use Rattle.str_scene.specs.declared.names.Event.{Event}
use Rattle.str_base.proofs.Members.{at_in, in_at}
use Rattle.str_base.specs.Members.{In}

module _ (scene : Scene) (ok : IsScene scene) (es : List Event) where
  state : Answering scene (stage_of (run scene es))
  state = answering scene ok es

  base : Grounds scene (stage_of (run scene es))
  base = state.guarded_.grounds_

  -- a commit of a key, by its node
  commit_of : (k : KeyId) (fc : ℕ) → (c : CommitOf (run scene es) k fc) → CommittedIn (stage_of (run scene es)) c.0 fc × ((a : Value) × HasWritten scene (stage_of (run scene es)) c.0 k a)
  commit_of k fc c =
      let b : BegunAt scene (stage_of (run scene es)) c.0 c.1 = begun_at scene (run scene es) c.0 c.1 c.2 in
      let t = (base.governed_.stand b.n b.view b.there).base.times.each b.i c.1 b.own in
      let f = t.fc c.3.0 fc c.3.1 in
      let lc : lc_of c.1.phase ≡ Some f.0 = ap lc_of c.3.1 ∙ f.1 in (
        record {
          node = b.n;
          at_node = ap (λ (z : TxId). z.node.0) b.name;
          place = b.i;
          at_place_ = ap (λ (z : TxId). z.seq) b.name;
          view = b.view;
          there = b.there;
          fate = ap own_fate b.own ∙ ap phase_fate c.3.1;
        },
        (
          c.4.0,
          record {
            rs = c.1.snap.rs;
            lc = f.0;
            ws = c.1.writes;
            certified = record { n = b.n; i = b.i; view = b.view; x = c.1; there = b.there; own = b.own; name = b.name; lc_is = lc; writes = refl; rs_is = refl };
            write = in_at c.1.writes c.4.1.0 (record { key = k; value = c.4.0 }) c.4.1.1;
          },
        ),
      )

  -- a read of an undecided transaction of the n-th node
  module _ (n i : ℕ) (v : View) (x : Own) (there : slice_get (run scene es).nodes n ≡ Some v) (own : Owns v i x) (op : IsOpen x) (r : ReadDone) (mem : In r x.reads) where
    nothing : r.by ≡ None → ReadNothing (run scene es) x r
    nothing q =
        let z = newest_none scene (stage_of (run scene es)) base n x.snap.rs r (state.guarded_.reads n v i x r there own mem) q in
        (q, z.0, λ fc c. (let f = commit_of r.key fc c in z.1 c.0 fc f.1.0 f.0 f.1.1))

    from_committed : (u : TxId) (f : ℕ) → r.by ≡ Some u → CommittedIn (stage_of (run scene es)) u f → f ≤ x.snap.rs → ReadCommitted (run scene es) x r
    from_committed u f q c le =
        let z = newest_some scene (stage_of (run scene es)) base n x.snap.rs r u f (state.guarded_.reads n v i x r there own mem) q c in
        let y : Committer scene (stage_of (run scene es)) u f = committer scene (stage_of (run scene es)) u f c in
        let w = at_in y.x.writes (record { key = r.key; value = r.value }) (committed_write scene (stage_of (run scene es)) u f r.key r.value y z.0) in
        (u, y.x, f, q, begun_there scene (run scene es) u y.x y.at_.n y.at_.i y.at_.view y.at_.there y.at_.own y.at_.name, y.is, le, w, λ gc d. (let g = commit_of r.key gc d in z.1 d.0 gc g.1.0 g.0 g.1.1))

    from_open : (u : TxId) (k : ℕ) → r.by ≡ Some u → u.node.0 ≡ n + 1 → u.seq ≡ k + 1 → Names u.seq x.snap.deps → OfOpenWriter (run scene es) r
    from_open u k q node seq names =
        let sa = stand_after scene ok es n v there in
        let d : WeakDep v i x names.0 = sa.stand.base.deps i x names.0 own op names.1 in
        let fate : own_fate (slice_get v.own (names.0.seq - 1)) ≡ Turns.Open = sa.deps_open.below i x names.0 (slice_get_within v.own i x own) own op names.1 in
        let at : own_fate (slice_get v.own d.place) ≡ Turns.Open = ap (λ m. own_fate (slice_get v.own m)) (sym (ap (λ m. m - 1) d.seq ∙ add-sub_cancel d.place 1)) ∙ fate in
        let open_ : phase_fate d.owner.phase ≡ Turns.Open = sym (ap own_fate d.owns) ∙ at in
        let undecided : is_decided d.owner.phase ≡ false = fate_open v.floor d.lc d.owner (sa.stand.base.times.each d.place d.owner d.owns) d.is_lc open_ in
        let number : u.seq ≡ d.place + 1 = sym names.2 ∙ d.seq in
        (u, d.owner, q, begun_there scene (run scene es) u d.owner n d.place v there d.owns (λ t. record { node = record { 0 = node t }; seq = number t }), undecided)

    final_read : ReadNothing (run scene es) x r ⊎ (ReadCommitted (run scene es) x r ⊎ OfOpenWriter (run scene es) r)
    final_read = by_writer r.by refl
      where
        by_read : (u : TxId) → r.by ≡ Some u → ReadOk (stage_of (run scene es)) n x u → ReadNothing (run scene es) x r ⊎ (ReadCommitted (run scene es) x r ⊎ OfOpenWriter (run scene es) r)
        by_read u q (ro_committed f c le) = inr (inl (from_committed u f q c le))
        by_read u q (ro_listed k node seq o names) = inr (inr (from_open u k q node seq names))
        by_read u q (ro_gone g) = absurd (let z : is_decided x.phase ≡ true = ap is_decided g.2 in cc (op, z))

        by_writer : (o : Option TxId) → r.by ≡ o → ReadNothing (run scene es) x r ⊎ (ReadCommitted (run scene es) x r ⊎ OfOpenWriter (run scene es) r)
        by_writer None q = inl (nothing q)
        by_writer (Some u) q = by_read u q (base.reported.reads n v i x r u there own mem q)

  reads_final : FinalReads (run scene es)
  reads_final n v i x there own op r h = let p = of_nth (run scene es).nodes n.0 v there in final_read p.0 i v x p.2 own op r (in_at x.reads h.0 r h.1)

  isolated : SI scene (run scene es).answers
  isolated = subst (SI scene) (take-length (run scene es).answers) (isolated_run scene ok es (length (run scene es).answers))

-- the law
pub prefix_law : PrefixHolds
prefix_law scene ok events = record { snapshots = (isolated scene ok events).snapshots; wishes = (isolated scene ok events).wishes; reads = reads_final scene ok events }

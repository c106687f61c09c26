-- The law Newest: the Local version that an undecided transaction reads from an undecided one is the version that is visible.
use Rattle.si_laws.proofs.Isolation.WritersAnswered.{Answering, answering}
use Rattle.si_laws.proofs.Dependencies.LocalsApart.{StandAfter, around_after, stand_after}
use Rattle.si_laws.proofs.Dependencies.AroundLocal.{AroundAfter, FinalKnown, after_above, after_below, after_final, far_final, own_final, owner_at, owner_open}
use Rattle.si_laws.proofs.Order.CertifiedVersions.{BegunAt, begun_at, begun_there, one_state}
use Rattle.si_laws.proofs.Guards.GuardGrounds.{Grounds}
use Rattle.si_laws.proofs.Guards.GuardsKept.{OpenWriter, ReadGuard, fg_none, fg_some, rg_final, rg_gone, rg_open, rg_sent}
use Rattle.si_laws.proofs.Guards.ChainsInTime.{IsVisible, none_visible, visible_one}
use Rattle.si_laws.proofs.Stages.LinkedStates.{one_certified, one_of}
use Rattle.si_laws.proofs.Order.MasterFacts.{by_kind}
use Rattle.si_laws.proofs.Guards.VersionOrigins.{HasWritten}
use Rattle.si_laws.proofs.Sources.FinalsReported.{ReadOk, ro_committed, ro_gone, ro_listed}
use Rattle.si_laws.proofs.Stages.ParticipantSeats.{of_nth}
use Rattle.si_laws.specs.SpeculativeIsolation.{ReadLocal}
use Rattle.si_laws.specs.Standing.{IsOpen}
use Rattle.spsi_laws.proofs.Dependencies.CommittedAlone.{committed_not_open}
use Rattle.spsi_laws.specs.Laws.Newest.{NewestHolds}
use Rattle.std.proofs.Common.{List, None, Option, Some, ap, arith, inl, inr, refl, slice_get, subst, sym, true, ℕ, ◌+◌, ◌<◌, ◌∙◌, ◌≡◌, ◌≢◌, ◌≤◌, ◌⊎◌}
use Rattle.str_base.specs.Versions.{visible}
use Rattle.str_base.specs.declared.names.Kind.TheVariants.{Final, Local as LocalKind, Pre}
use Rattle.str_base.specs.declared.names.NodeId.{NodeId}
use Rattle.str_base.specs.declared.names.TxId.{TxId}
use Rattle.str_base.specs.declared.names.Version.{Version}
use Rattle.str_base.specs.declared.names.Write.{Write}
use Rattle.str_model.proofs.Principle.Everywhere.{at_place, stage_of}
use Rattle.str_model.specs.Acts.{local_version}
use Rattle.str_model.specs.Owned.{Owns}
use Rattle.str_model.specs.Runs.{run}
use Rattle.str_model.specs.Views.{Own, View, is_decided, lc_of}
use Rattle.str_model.specs.declared.names.ReadDone.{ReadDone}
use Rattle.str_scene.specs.SceneLimits.{IsScene}
use Rattle.str_scene.specs.Scenes.{Scene}
use Rattle.str_scene.specs.declared.names.Event.{Event}
use Rattle.str_model.proofs.OwnFacts.ScriptsCovered.{ScriptGood, scripts_after}
use Rattle.str_model.proofs.OwnFacts.LocalOwners.{LocalOwner, WeakDep, same_own}
use Rattle.str_model.proofs.Changes.MasterChanges.{one_write}
use Rattle.str_base.proofs.Members.{in_at}
use Rattle.str_base.proofs.SameNames.{cases_tx}
use Rattle.str_base.specs.Members.{In}

module _ (scene : Scene) (ok : IsScene scene) (es : List Event) where
  state : Answering scene (stage_of (run scene es))
  state = answering scene ok es

  base : Grounds scene (stage_of (run scene es))
  base = state.guarded_.grounds_

  -- a read of an undecided transaction of the n-th node from an undecided writer that the node guards
  module _ (n i : ℕ) (v : View) (x : Own) (there : slice_get (run scene es).nodes n ≡ Some v) (own : Owns v i x) (op : IsOpen x) (r : ReadDone) (mem : In r x.reads)
      (u : TxId) (by : r.by ≡ Some u) (wr : HasWritten scene (stage_of (run scene es)) u r.key r.value) (o : OpenWriter scene (stage_of (run scene es)) n u r.key x.snap.rs) where
    after : StandAfter (at_place scene n) v
    after = stand_after scene ok es n v there

    view_is : o.view ≡ v
    view_is = one_of o.view v (slice_get (run scene es).nodes n) o.there there

    owns : Owns v o.j o.x
    owns = subst (λ (z : View). Owns z o.j o.x) view_is o.owns

    -- the write and its version
    written : In (record { key = r.key; value = r.value }) o.x.writes
    written =
        let ws = one_certified scene (stage_of (run scene es)) n o.j v o.x u wr.rs wr.lc wr.ws there owns o.name wr.certified in
        subst (In (record { key = r.key; value = r.value })) (sym ws.0) wr.write

    abbrev its : Version
    its = local_version (at_place scene n) o.j o.lc (record { key = r.key; value = r.value })

    stands : In its v.versions
    stands = (base.governed_.linked_.home n v there o.j o.x owns).locals o.open_ o.lc o.is_lc (record { key = r.key; value = r.value }) written

    -- at or below the snapshot
    below : o.lc ≤ x.snap.rs
    below = by_read (base.reported.reads n v i x r u there own mem by)
      where
        by_read : ReadOk (stage_of (run scene es)) n x u → o.lc ≤ x.snap.rs
        by_read (ro_committed f c le) =
            absurd (committed_not_open scene (stage_of (run scene es)) u f o.x c (record { n = n; i = o.j; view = v; there = there; own = owns; name = o.name }) o.open_)
        by_read (ro_gone g) = absurd (let z : is_decided x.phase ≡ true = ap is_decided g.2 in cc (op, z))
        by_read (ro_listed k node seq op' names) =
            let d : WeakDep v i x names.0 = after.stand.base.deps i x names.0 own op names.1 in
            let place : d.place ≡ o.j = omega (arith, d.seq, names.2, ap (λ (t : TxId). t.seq) o.name) in
            let same : d.owner ≡ o.x = same_own v d.place o.j d.owner o.x d.owns owns place in
            let lcs : Some d.lc ≡ Some o.lc = sym d.is_lc ∙ (ap (λ (z : Own). lc_of z.phase) same ∙ o.is_lc) in
            let lc : d.lc ≡ o.lc = cc lcs in omega (arith, lc, d.below)

    rs_below : o.x.snap.rs < o.lc
    rs_below = ((after.stand.base.times.each o.j o.x owns).lc o.lc o.is_lc).0

    -- what another version of the key at or above it is
    abbrev IsIt : Version → Type 0
    IsIt q = (q.tx ≡ u) × (q.kind ≡ LocalKind) × (q.value ≡ r.value)

    around : (q : Version) → In q v.versions → q.key ≡ r.key → q.tx ≢ u → AroundAfter (at_place scene n) v o.j o.x o.lc q
    around q m key ne =
        around_after (at_place scene n) v after o.j o.x its q owns stands refl refl m key (λ z. ne (z ∙ sym o.name))

    is_it : (q : Version) → In q v.versions → q.key ≡ r.key → q.ts.0 ≤ x.snap.rs → o.lc ≤ q.ts.0 → IsIt q
    is_it q m key le ge = by_kind q.kind pre local final
      where
        po : LocalOwner (at_place scene n) v its
        po = after.stand.base.locals its stands refl

        pre : q.kind ≡ Pre → IsIt q
        pre k = absurd (after.stand.apart its q stands refl m k key)

        final : q.kind ≡ Final → IsIt q
        final k = elim (cases_tx q.tx u) [ inl e ↦ absurd (known e (after.stand.finals q m k)) | inr ne ↦ absurd (apart (around q m key ne)) ]
          where
            known : q.tx ≡ u → FinalKnown (at_place scene n) v q → ⊥
            known e (own_final node fate) =
                owner_open (at_place scene n) v its po q.tx.seq q.ts.0 (ap (λ (t : TxId). t.seq) (sym o.name ∙ sym e)) fate
            known e (far_final node done) = node (ap (λ (t : TxId). t.node.0) (e ∙ o.name))

            apart : AroundAfter (at_place scene n) v o.j o.x o.lc q → ⊥
            apart (after_final l f) = omega (arith, f, ge, rs_below)
            apart (after_below l f names) = cc (l, k)
            apart (after_above j y l t oy f names) = cc (l, k)

        local : q.kind ≡ LocalKind → IsIt q
        local k = elim (cases_tx q.tx u) [ inl e ↦ (e, k, value e) | inr ne ↦ absurd (other ne (o.clear q (subst (λ (z : View). In q z.versions) (sym view_is) m) key k)) ]
          where
            value : q.tx ≡ u → q.value ≡ r.value
            value e =
                let w = base.written n v q there m in
                let c = one_certified scene (stage_of (run scene es)) n o.j v o.x q.tx w.rs w.lc w.ws there owns (e ∙ o.name) w.certified in
                let sg : ScriptGood (at_place scene n) o.x = scripts_after scene ok es n v there o.j o.x owns in
                let two : record { key = q.key; value = q.value } ≡ record { key = r.key; value = r.value } =
                one_write o.x.writes sg.once (record { key = q.key; value = q.value }) (record { key = r.key; value = r.value }) (subst (In (record { key = q.key; value = q.value })) (sym c.0) w.write) written key in
                ap (λ (z : Write). z.value) two

            other : q.tx ≢ u → (x.snap.rs < q.ts.0) ⊎ ((q.tx ≡ u) ⊎ (q.ts.0 ≤ o.lc)) → ⊥
            other ne (inl l) = omega (arith, l, le)
            other ne (inr (inl e)) = ne e
            other ne (inr (inr l)) = apart (around q m key ne)
              where
                apart : AroundAfter (at_place scene n) v o.j o.x o.lc q → ⊥
                apart (after_final z f) = cc (z, k)
                apart (after_below z f names) = omega (arith, f, ge, rs_below)
                apart (after_above j y z t oy f names) =
                    let lc = owner_at (at_place scene n) v q (after.stand.base.locals q m k) j y oy t in
                    omega (arith, ((after.stand.base.times.each j y oy).lc q.ts.0 lc.1).0, f, l)

    visible_it : (q : Version) × (visible v.versions r.key x.snap.rs ≡ Some q) × IsIt q
    visible_it = by_visible (visible v.versions r.key x.snap.rs) refl
      where
        by_visible : (a : Option Version) → visible v.versions r.key x.snap.rs ≡ a → (q : Version) × (visible v.versions r.key x.snap.rs ≡ Some q) × IsIt q
        by_visible None e = absurd (let l = none_visible v.versions r.key x.snap.rs e its stands refl in omega (arith, l, below))
        by_visible (Some q) e =
            let z : IsVisible v.versions r.key x.snap.rs q = visible_one v.versions r.key x.snap.rs q (base.nodes n v there).timed e in
            (q, e, is_it q z.is_in z.key z.below (above (z.greatest its stands refl)))
          where
            above : {t : ℕ} → (x.snap.rs < o.lc) ⊎ (o.lc ≤ t) → o.lc ≤ t
            above (inl l) = absurd (omega (arith, l, below))
            above (inr l) = l

    local_read : (m : NodeId) → m.0 ≡ n + 1 → ReadLocal (run scene es) m v x r
    local_read m e =
        let q = visible_it in (
          u,
          o.x,
          q.0,
          by,
          (λ j. record { 0 = (ap (λ (t : TxId). t.node.0) o.name ∙ sym e) j }),
          begun_there scene (run scene es) u o.x n o.j v there owns o.name,
          o.open_,
          q.1,
          q.2.0,
          q.2.1,
          q.2.2,
        )

pub newest_holds : NewestHolds
newest_holds scene ok es n v i x there own op r h ow = by_guard ((state scene ok es).guarded_.reads p.0 v i x r p.2 own mem)
  where
    p : (j : ℕ) × (n.0 ≡ j + 1) × (slice_get (run scene es).nodes j ≡ Some v)
    p = of_nth (run scene es).nodes n.0 v there

    mem : In r x.reads
    mem = in_at x.reads h.0 r h.1

    writer : BegunAt scene (stage_of (run scene es)) ow.0 ow.1
    writer = begun_at scene (run scene es) ow.0 ow.1 ow.3

    named : (u : TxId) → r.by ≡ Some u → u ≡ ow.0
    named u e = let z : Some u ≡ Some ow.0 = sym e ∙ ow.2 in cc z

    by_guard : ReadGuard scene (stage_of (run scene es)) p.0 x.snap.rs r → ReadLocal (run scene es) n v x r
    by_guard (rg_final (fg_none q a g)) = absurd (let z : None ≡ Some ow.0 = sym q ∙ ow.2 in cc z)
    by_guard (rg_final (fg_some u f q c wr g)) =
        absurd (committed_not_open scene (stage_of (run scene es)) ow.0 f ow.1 (subst (λ (t : TxId). Rattle.si_laws.proofs.Sources.FinalsReported.CommittedIn (stage_of (run scene es)) t f) (named u q) c) writer ow.4)
    by_guard (rg_sent u f q c wr m) =
        absurd (committed_not_open scene (stage_of (run scene es)) ow.0 f ow.1 (subst (λ (t : TxId). Rattle.si_laws.proofs.Sources.FinalsReported.CommittedIn (stage_of (run scene es)) t f) (named u q) c) writer ow.4)
    by_guard (rg_gone u q g) =
        let there_ : BegunAt scene (stage_of (run scene es)) ow.0 g.x = record { n = p.0; i = g.j; view = g.view; there = g.there; own = g.owns; name = sym (named u q) ∙ g.name } in
        let same : g.x ≡ ow.1 = one_state scene (stage_of (run scene es)) ow.0 g.x ow.1 there_ writer in
        let dec : is_decided g.x.phase ≡ true = ap is_decided g.gone.2 in
        absurd (cc (ap (λ (z : Own). is_decided z.phase) same, dec, ow.4))
    by_guard (rg_open u q wr o) = local_read scene ok es p.0 i v x p.2 own op r mem u q wr o n p.1

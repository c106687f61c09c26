-- A version is decided at or above its timestamp, so that each change moves the versions of its node up.
use Rattle.si_laws.proofs.Dependencies.AroundLocal.{FinalKnown, Stand, far_final, own_final}
use Rattle.si_laws.proofs.Order.CertifiedVersions.{ArrivedAs, BegunAt, IsOf, a_final, a_pre, committed_stands}
use Rattle.str_model.proofs.Changes.PairWords.{decides_far, not_done, pair-is}
use Rattle.si_laws.proofs.Guards.ReadGuards.{AllMoved, Moved, m_local, m_new, m_old, m_pre}
use Rattle.si_laws.proofs.Stages.LinkedStates.{IsDecidedAs, Told, one_certified, one_of}
use Rattle.si_laws.proofs.Order.OrderAtMaster.{Governed}
use Rattle.si_laws.proofs.Order.MasterFacts.{by_kind}
use Rattle.si_laws.proofs.Guards.VersionOrigins.{AllWritten, HasWritten, Origin, og_came, og_commit, og_local, og_old, og_pre, origin}
use Rattle.str_model.proofs.OwnFacts.LocalOwners.{open-fate, same_own}
use Rattle.str_model.proofs.Principle.SingleChanges.{Act, Comes, Where}
use Rattle.str_model.proofs.Principle.Everywhere.{IsSeen, Sent, Stage, at_place, during}
use Rattle.si_laws.proofs.Guards.ReadGuards
use Rattle.std.proofs.Common.{List, Some, false, add-sub_cancel, ap, arith, slice_get, slice_set, subst, subst₂, sym, true, ℕ, ◌++◌, ◌+◌, ◌-◌, ◌∙◌, ◌≡◌, ◌≤◌}
use Rattle.str_base.specs.Versions.{mark_of, of_pair}
use Rattle.str_base.specs.declared.names.Kind.TheVariants.{Final, Local as LocalKind, Pre}
use Rattle.str_base.specs.declared.names.NodeId.{NodeId}
use Rattle.str_base.specs.declared.names.PartId.{PartId}
use Rattle.str_base.specs.declared.names.Ts.{Ts}
use Rattle.str_base.specs.declared.names.TxId.{TxId}
use Rattle.str_base.specs.declared.names.Version.{Version}
use Rattle.str_base.specs.declared.names.Write.{Write}
use Rattle.str_model.specs.Owned.{Owns}
use Rattle.str_model.specs.Proposals.{is_done}
use Rattle.str_model.specs.Steps.{decides}
use Rattle.str_model.specs.Turns.{CommittedAt, own_fate}
use Rattle.str_model.specs.Turns
use Rattle.str_model.specs.Views.{Doing, Own, View, is_decided, lc_of, name_of}
use Rattle.str_model.specs.declared.messages.Body.TheVariants.{Commit}
use Rattle.str_model.specs.declared.messages.Input.TheVariants.{Deliver}
use Rattle.str_model.specs.declared.messages.Input.{Input}
use Rattle.str_model.specs.declared.messages.Message.{Message}
use Rattle.str_model.specs.declared.names.KeyMark.{KeyMark}
use Rattle.str_scene.specs.Scenes.{Scene, hosts, part_of}
use Rattle.str_base.proofs.Tests.{and_true_left}
use Rattle.str_base.proofs.Lists.{get_set}
use Rattle.str_base.proofs.Members.{in_at, in_left}
use Rattle.str_base.specs.Members.{In}

module _ (scene : Scene) (s : Stage) (i : ℕ) (v : View) (input : Input) (w : Where) (d e : Doing) (is : slice_get s.nodes i ≡ Some v) (seen : IsSeen s input) (act : Act (at_place scene i) input w d e)
    (g : Governed scene (during s i d)) (vals : AllWritten scene (during s i d)) where
  at_d : slice_get (slice_set s.nodes i d.view) i ≡ Some d.view
  at_d = get_set s.nodes i v d.view is

  standing : Stand (at_place scene i) d.view
  standing = g.stand i d.view at_d

  given : (m : Message) → input ≡ Deliver m → In m (s.sent ++ d.sent)
  given m q = let t : Sent s m = subst (IsSeen s) q seen in in_left s.sent d.sent m (in_at s.sent t.0 m t.1)

  -- a version of an own undecided transaction is Local, at its local commit timestamp
  pub own_local : (n lc : ℕ) (x : Own) (p : Version) → Owns d.view n x → is_decided x.phase ≡ false → lc_of x.phase ≡ Some lc → In p d.view.versions → p.tx ≡ name_of (at_place scene i) n
      → (p.kind ≡ LocalKind) × (p.ts.0 ≡ lc)
  own_local n lc x p own o l j name = by_kind p.kind pre local final
    where
      node : p.tx.node.0 ≡ i + 1
      node = ap (λ (z : TxId). z.node.0) name

      pre : p.kind ≡ Pre → (p.kind ≡ LocalKind) × (p.ts.0 ≡ lc)
      pre k = absurd (g.masters.foreign i d.view at_d p j k node)

      local : p.kind ≡ LocalKind → (p.kind ≡ LocalKind) × (p.ts.0 ≡ lc)
      local k =
          let ow = standing.base.locals p j k in
          let same : ow.owner ≡ x = same_own d.view ow.place n ow.owner x ow.owns own (omega (arith, ow.seq, ap (λ (z : TxId). z.seq) name)) in
          let both : Some p.ts.0 ≡ Some lc = sym ow.lc ∙ (ap (λ (z : Own). lc_of z.phase) same ∙ l) in (k, cc both)

      final : p.kind ≡ Final → (p.kind ≡ LocalKind) × (p.ts.0 ≡ lc)
      final k = absurd (by_known (standing.finals p j k))
        where
          by_known : FinalKnown (at_place scene i) d.view p → ⊥
          by_known (own_final a f) =
              let t : own_fate (slice_get d.view.own (p.tx.seq - 1)) ≡ Turns.Open =
              ap (λ z. own_fate (slice_get d.view.own (z - 1))) (ap (λ (z : TxId). z.seq) name) ∙ (ap (λ z. own_fate (slice_get d.view.own z)) (add-sub_cancel n 1) ∙ (ap own_fate own ∙ open-fate x.phase o)) in
              cc (sym f ∙ t)
          by_known (far_final a f) = a node

  -- one that is Final here is done, where it is another node's
  final_done : (q : Version) → In q d.view.versions → q.kind ≡ Final → (q.tx.node.0 ≡ i + 1 → ⊥) → In (q.tx, q.part) d.view.done
  final_done q j k far = by_known (standing.finals q j k)
    where
      by_known : FinalKnown (at_place scene i) d.view q → In (q.tx, q.part) d.view.done
      by_known (own_final a f) = absurd (far a)
      by_known (far_final a f) = f

  -- a version that is decided by a Commit was Pre, at or below the final timestamp
  pub came_above : (from : NodeId) (t : TxId) (r : PartId) (fc : Ts) (ms : List KeyMark) (p : Version) → Comes (at_place scene i) input from (Commit t r fc ms) → decides (at_place scene i) t r d.view ≡ true
      → In p d.view.versions → of_pair t r p ≡ true → (p.kind ≡ Pre) × (p.ts.0 ≤ fc.0)
  came_above from t r fc ms p c dec j o = by_kind p.kind pre local final
    where
      pair : (p.tx ≡ t) × (p.part ≡ r)
      pair = pair-is t r p o

      far : (t.node.0 ≡ i + 1 → ⊥) × (is_done d.view t r ≡ false)
      far = decides_far (at_place scene i) t r d.view dec

      local : p.kind ≡ LocalKind → (p.kind ≡ Pre) × (p.ts.0 ≤ fc.0)
      local k = absurd (far.0 (ap (λ (z : TxId). z.node.0) (sym pair.0) ∙ (standing.base.locals p j k).node))

      final : p.kind ≡ Final → (p.kind ≡ Pre) × (p.ts.0 ≤ fc.0)
      final k = absurd (not_done d.view t r p far.1 o (final_done p j k (λ n. far.0 (ap (λ (z : TxId). z.node.0) (sym pair.0) ∙ n))))

      pre : p.kind ≡ Pre → (p.kind ≡ Pre) × (p.ts.0 ≤ fc.0)
      pre k = (k, by_told told)
        where
          told : Told scene (during s i d) c.0.sender c.0.receiver (Commit t r fc ms)
          told = subst (Told scene (during s i d) c.0.sender c.0.receiver) c.3 (g.linked_.told c.0 (given c.0 c.1))

          wrote : HasWritten scene (during s i d) p.tx p.key p.value
          wrote = vals i d.view p at_d j

          by_found : (q : Version) → In q d.view.versions → IsOf scene t p.key q → ArrivedAs d.view fc.0 q → p.ts.0 ≤ fc.0
          by_found q m of (a_final f e) =
              let part : q.part ≡ p.part = of.part_is ∙ sym (g.masters.parts i d.view at_d p j) in
              let done : In (q.tx, q.part) d.view.done = final_done q m f (λ n. far.0 (ap (λ (z : TxId). z.node.0) (sym of.tx_is) ∙ n)) in
              absurd (not_done d.view t r p far.1 o (subst₂ (λ (a : TxId) (b : PartId). In (a, b) d.view.done) (of.tx_is ∙ sym pair.0) part done))
          by_found q m of (a_pre f le n) =
              let same : q ≡ p = g.masters.one i d.view at_d q p m j f k (of.tx_is ∙ sym pair.0) of.key_is in omega (arith, le, ap (λ (z : Version). z.ts.0) same)

          by_told : Told scene (during s i d) c.0.sender c.0.receiver (Commit t r fc ms) → p.ts.0 ≤ fc.0
          by_told z =
              let x : Own = z.0 in
              let dd : IsDecidedAs scene (during s i d) t x = z.1 in
              let st : BegunAt scene (during s i d) t x = record { n = dd.n; i = dd.i; view = dd.view; there = dd.there; own = dd.own; name = dd.name } in
              let ce = subst (λ (u : TxId). Rattle.si_laws.proofs.Stages.LinkedStates.IsCertified scene (during s i d) u wrote.rs wrote.lc wrote.ws) pair.0 wrote.certified in
              let ws = one_certified scene (during s i d) dd.n dd.i dd.view x t wrote.rs wrote.lc wrote.ws dd.there dd.own dd.name ce in
              let wr : Write = record { key = p.key; value = p.value } in
              let inside : In wr x.writes = subst (In wr) (sym ws.0) wrote.write in
              let hosted : hosts scene (record { 0 = i + 1 }) (part_of scene p.key) ≡ true =
              subst (λ (y : PartId). hosts scene (record { 0 = i + 1 }) y ≡ true) (sym pair.1 ∙ g.masters.parts i d.view at_d p j) (and_true_left (hosts scene (record { 0 = i + 1 }) r) _ dec) in
              let f = committed_stands scene (during s i d) g.linked_ t x st fc.0 z.2 wr inside (record { 0 = i + 1 }) hosted in
              let here : f.0 ≡ i = omega (arith, ap (λ (y : NodeId). y.0) f.3) in
              let view : f.1 ≡ d.view = one_of f.1 d.view (slice_get (slice_set s.nodes i d.view) i) (subst (λ (k : ℕ). slice_get (slice_set s.nodes i d.view) k ≡ Some f.1) here f.4) at_d in
              by_found f.2 (subst (λ (y : View). In f.2 y.versions) view f.5) f.6 (subst (λ (y : View). ArrivedAs y fc.0 f.2) view f.7)

  by_origin : (q : Version) → Origin (at_place scene i) input d e q → Moved d.view q
  by_origin q (og_old j) = m_old j
  by_origin q (og_local n lc snap x y own c own' j same) =
      let l = ReadGuards.certified_above (at_place scene i) d.view x.snap snap x.writes lc y c j in
      m_new (omega (arith, l, ap (λ (z : Version). z.ts.0) same, ap (λ (z : Version). mark_of d.view.marks z.key) same))
  by_origin q (og_pre a ts y p less j same) = m_new (omega (arith, less, ap (λ (z : Version). z.ts.0) same, ap (λ (z : Version). mark_of d.view.marks z.key) same))
  by_origin q (og_commit n lc fc x p own o t none le j name hosted same) =
      let l = own_local n lc x p own o t j name in
      m_local p j (ap (λ (z : Version). z.key) (sym same)) (ap (λ (z : Version). z.tx) (sym same)) l.0 (omega (arith, l.1, le, ap (λ (z : Version). z.ts.0) same)) (ap (λ (z : Version). z.kind) same)
  by_origin q (og_came from t r fc ms p c dec f only j o same) =
      let l = came_above from t r fc ms p c dec j o in
      m_pre p j (ap (λ (z : Version). z.key) (sym same)) (ap (λ (z : Version). z.tx) (sym same)) l.0 (omega (arith, l.1, ap (λ (z : Version). z.ts.0) same)) (ap (λ (z : Version). z.kind) same)

  pub all_moved : AllMoved d.view e.view
  all_moved q j = by_origin q (origin (at_place scene i) input w d e act q j)

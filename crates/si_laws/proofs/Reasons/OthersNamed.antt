-- A conflict names another transaction than the one that aborts.
use Rattle.std.proofs.Common.{List, None, Option, Some, add-sub_cancel, ap, arith, false, inl, inr, not, refl, slice_get, subst, suc, sym, true, ℕ, ◌&&◌, ◌+◌, ◌-◌, ◌<◌, ◌∙◌, ◌≡◌, ◌≢◌}
use Rattle.std.proofs.lemmas.Bool.{not-true}
use Rattle.str_base.proofs.Lists.{get_set, got_set}
use Rattle.str_base.proofs.Tests.{and_true_left, and_true_right}
use Rattle.str_base.specs.Members.{In}
use Rattle.str_base.specs.declared.names.Kind.TheVariants.{Final}
use Rattle.str_base.specs.declared.names.NodeId.{NodeId}
use Rattle.str_base.specs.declared.names.TxId.{TxId}
use Rattle.str_base.specs.declared.names.Version.{Version}
use Rattle.str_base.specs.Versions.{same_node}
use Rattle.str_scene.specs.declared.names.Event.{Event}
use Rattle.str_scene.specs.SceneLimits.{IsScene}
use Rattle.str_scene.specs.Scenes.{Here, Scene, hosts, is_master}
use Rattle.str_model.specs.declared.messages.Arrived.{Arrived}
use Rattle.str_model.specs.declared.messages.Body.TheVariants.{Replicate}
use Rattle.str_model.specs.declared.messages.Input.{Input}
use Rattle.str_model.specs.declared.messages.Input.TheVariants.{Deliver}
use Rattle.str_model.specs.Moments
use Rattle.str_model.specs.Moments.{moments_of}
use Rattle.str_model.specs.Owned.{Owns}
use Rattle.str_model.specs.Proposals.{is_known, takes}
use Rattle.str_model.specs.Runs.{run}
use Rattle.str_model.specs.Steps
use Rattle.str_model.specs.Steps.{rule}
use Rattle.str_model.specs.Strange.{is_valid}
use Rattle.str_model.specs.Traces.{MomentAt, trace}
use Rattle.str_model.specs.Turns.{own_fate}
use Rattle.str_model.specs.Views.{Doing, Own, View, is_decided, lc_of, name_of, starts}
use Rattle.str_model.proofs.OwnFacts.LocalOwners.{same_own}
use Rattle.str_model.proofs.Principle.Everywhere.{at_place, during, stage_of}
use Rattle.str_model.proofs.Principle.LaterMoments.{Took, at_each_moment, took}
use Rattle.str_model.proofs.Principle.MomentPaths.{take_is}
use Rattle.str_model.proofs.Principle.SingleChanges.{Comes}
use Rattle.si_laws.proofs.Dependencies.AroundLocal.{FinalKnown, Stand, far_final, own_final, owner_at}
use Rattle.si_laws.proofs.Order.MasterFacts.{by_kind}
use Rattle.si_laws.proofs.Order.OrderAtMaster.{Governed, governed-keeps, governed_opening}
use Rattle.si_laws.proofs.Reasons.CommitsAfter.{committed_is, decided_later, fate_own, stood_before}
use Rattle.si_laws.proofs.Reasons.QuietRules.{by_if}
use Rattle.si_laws.proofs.Reasons.WritersFirst.{reported_moment}
use Rattle.si_laws.proofs.Stages.ParticipantSeats.{of_nth}

-- an event with a second moment is not idle
ruled : (here : Here) (input : Input) (v : View) (m : ℕ) (d : Doing) → slice_get (moments_of here input v) (suc m) ≡ Some d → (r : Doing) × (rule here input (starts v) ≡ Some r)
unfolding moments_of
ruled here input v m d = by_rule (rule here input (starts v)) refl
  where
    by_rule : (o : Option Doing) → rule here input (starts v) ≡ o → slice_get (Moments.from_rule here input (starts v) o) (suc m) ≡ Some d → (r : Doing) × (rule here input (starts v) ≡ Some r)
    by_rule None e q = absurd (cc q)
    by_rule (Some r) e q = (r, e)

-- who evicts is of another node
pub evicted_other : (here : Here) (input : Input) (v : View) (m : ℕ) (d : Doing) (from : NodeId) (a : Arrived) → slice_get (moments_of here input v) (suc m) ≡ Some d → Comes here input from (Replicate a.tx a.part a.rs a.lc a.writes)
    → same_node a.tx.node here.node ≡ false
unfolding rule takes
evicted_other here input v m d from a q c =
    let r = ruled here input v m d q in
    let run : rule here (Deliver c.0) (starts v) ≡ Some r.0 = ap (λ i. rule here i (starts v)) (sym c.1) ∙ r.1 in
    let body : Steps.body_rule here c.0.sender c.0.body (starts v) ≡ Some r.0 = (by_if (is_valid here c.0) (Steps.body_rule here c.0.sender c.0.body (starts v)) r.0 run).1 in
    let at : Steps.body_rule here c.0.sender (Replicate a.tx a.part a.rs a.lc a.writes) (starts v) ≡ Some r.0 = ap (λ b. Steps.body_rule here c.0.sender b (starts v)) (sym c.3) ∙ body in
    let t : takes here v a ≡ true = (take_is here a (starts v) r.0 at).1 in
    let k = not (same_node a.tx.node here.node) in
    not-true (same_node a.tx.node here.node) (and_true_left k (not (is_known v a.tx a.part)) (and_true_right (not (is_master here.scene here.node a.part)) (k && not (is_known v a.tx a.part))
    (and_true_right (hosts here.scene here.node a.part) (not (is_master here.scene here.node a.part) && (k && not (is_known v a.tx a.part))) t)))

module _ (scene : Scene) (ok : IsScene scene) (es : List Event) where
  -- an own transaction without a local commit timestamp has no version at its node
  pub no_version : (j m : ℕ) (n : NodeId) (d : Doing) (a : MomentAt (trace scene es) j m n d) (t : Took scene es j a.0 n) (p : ℕ) (x : Own) (q : Version) → Owns d.view p x → is_decided x.phase ≡ false → lc_of x.phase ≡ None
      → In q d.view.versions → q.tx ≡ name_of (at_place scene t.takes.place) p → ⊥
  no_version j m n d a t p x q own op none mem name =
      by_kind q.kind
      (λ pre. g.masters.foreign t.takes.place d.view there q mem pre node)
      (λ local. cc ((owner_at (at_place scene t.takes.place) d.view q (s.base.locals q mem local) p x own seq).1, none))
      (λ final. by_final (s.finals q mem final))
    where
      there : slice_get (during (stage_of (run scene t.from.early)) t.takes.place d).nodes t.takes.place ≡ Some d.view
      there = get_set (run scene t.from.early).nodes t.takes.place t.takes.view d.view t.takes.is

      g : Governed scene (during (stage_of (run scene t.from.early)) t.takes.place d)
      g = at_each_moment scene (Governed scene) (governed-keeps scene) (governed_opening scene) es j m a.0 n d t a.3

      s : Stand (at_place scene t.takes.place) d.view
      s = g.stand t.takes.place d.view there

      node : q.tx.node.0 ≡ t.takes.place + 1
      node = ap (λ (z : TxId). z.node.0) name

      seq : q.tx.seq ≡ p + 1
      seq = ap (λ (z : TxId). z.seq) name

      by_final : FinalKnown (at_place scene t.takes.place) d.view q → ⊥
      by_final (own_final at f) =
          let y = committed_is x q.ts.0 (ap own_fate (sym own) ∙ (ap (λ k. own_fate (slice_get d.view.own k)) (sym (ap (λ k. k - 1) seq ∙ add-sub_cancel p 1)) ∙ f)) in
          cc (ap is_decided y.1, op)
      by_final (far_final at k) = at node

  -- a Final version elsewhere is not of a transaction that is undecided later
  pub final_other : (j m j' m' : ℕ) (n : NodeId) (t : TxId) (there d : Doing) (x : Own) (q : Version) (a : MomentAt (trace scene es) j m n there) → MomentAt (trace scene es) j' m' t.node d → j < j'
      → In q there.view.versions → q.kind ≡ Final → q.tx ≡ t → n ≢ t.node → (p : ℕ) → t.seq ≡ p + 1 → Owns d.view p x → is_decided x.phase ≡ false → ⊥
  final_other j m j' m' n t there d x q a b less mem final name ne p seq own op =
      let k = took scene es j a.0 n a.1 a.2 in
      let c = (reported_moment scene ok es j m n there a k).finals k.takes.place there.view q (get_set (run scene k.from.early).nodes k.takes.place k.takes.view there.view k.takes.is) mem final in
      let node : t.node.0 ≡ c.node + 1 = ap (λ (z : TxId). z.node.0) (sym name) ∙ c.at_node in
      let number : t.seq ≡ c.place + 1 = ap (λ (z : TxId). z.seq) (sym name) ∙ c.at_place_ in
      elim (got_set (run scene k.from.early).nodes k.takes.place c.node there.view c.view c.there) [
        | inl r ↦ ne (k.node ∙ same_node_is (ap (λ i. i + 1) (sym r.0) ∙ sym node))
        | inr r ↦ (let y = fate_own c.view c.place q.ts.0 c.fate in
            let s = stood_before scene ok es j a.0 n k c.node c.place c.view y.0 r.1 y.1 t node number in
            let stood = of_nth s.3.0.view.own t.seq y.0 s.3.2 in
            let o : Owns s.3.0.view p y.0 = subst (λ i. Owns s.3.0.view i y.0) (omega (arith, stood.1, seq)) stood.2 in
            let o' : Owns d.view p y.0 = decided_later scene ok es s.0 s.1 j' m' t.node s.3.0 d p y.0 s.3.1 b (inl (inl (omega (arith, s.2, less)))) o (ap is_decided y.2.1) in
            cc (ap is_decided y.2.1, ap (λ (z : Own). is_decided z.phase) (same_own d.view p p y.0 x o' own refl), op))
      ]
    where
      same_node_is : {i : ℕ} → i ≡ t.node.0 → ◌≡◌ {A = NodeId} (record { 0 = i }) t.node
      same_node_is e = λ z. record { 0 = e z }

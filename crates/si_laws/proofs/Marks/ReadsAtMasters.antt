-- A read goes to the master of its key's partition, waits there and is answered there.
use Rattle.std.proofs.Common.{Bool, List, None, Option, Some, [], ap, eq-eqb, eqb-true, false, if◌then◌else◌, inl, inr, slice_get, subst, sym, true, ℕ, ◌&&◌, ◌++◌, ◌+◌, ◌-◌, ◌∙◌, ◌∷◌, ◌≡◌}
use Rattle.str_base.specs.declared.names.KeyId.{KeyId}
use Rattle.str_base.specs.declared.names.NodeId.{NodeId}
use Rattle.str_base.specs.declared.names.Ts.{Ts}
use Rattle.str_base.specs.declared.names.TxId.{TxId}
use Rattle.str_base.specs.declared.names.Value.{Value}
use Rattle.str_base.specs.declared.names.Value.TheVariants.{Absent}
use Rattle.str_base.specs.declared.names.Version.{Version}
use Rattle.str_base.specs.declared.names.Kind.{Kind}
use Rattle.str_base.specs.declared.names.Kind.TheVariants.{Final, Local as LocalKind, Pre}
use Rattle.str_base.specs.Versions.{last_pre, same_node, visible}
use Rattle.dependency_set.specs.Snapshots.{Snap, accept_final, holds, oldest}
use Rattle.str_scene.specs.declared.names.Event.{Event}
use Rattle.str_scene.specs.Scenes.{Here, Scene, first_or, hosts_key, is_master, leads, part_of, replicas}
use Rattle.partition_map.specs.Maps
use Rattle.str_model.specs.declared.messages.Body.TheVariants.{ReadReply, ReadReq}
use Rattle.str_model.specs.declared.messages.Input.{Input}
use Rattle.str_model.specs.declared.messages.Message.{Message}
use Rattle.str_model.specs.declared.messages.Waiter.{Waiter}
use Rattle.str_model.specs.declared.messages.Waiter.TheVariants.{Read}
use Rattle.str_model.specs.Runs.{opening, opening_view, run}
use Rattle.str_model.specs.Strange.{has_named, has_node}
use Rattle.str_model.specs.Turns
use Rattle.str_model.specs.Turns.{Away, ReadTurn, read_turn, take_over}
use Rattle.str_model.specs.Views.{Doing, Own, View}
use Rattle.str_model.proofs.Principle.SingleChanges.{Act, Arrives, ComesToRead, IsAsked, Where, a_prepare, a_read, asked_before, asked_now}
use Rattle.str_model.proofs.Principle.Everywhere.{IsSeen, Sent, Stage, at_place, during, everywhere, stage_of}
use Rattle.str_model.proofs.Changes.SnapshotsGain.{if_elim}
use Rattle.str_base.proofs.Tests.{and_true_left}
use Rattle.str_model.proofs.Changes.VersionChanges.{WaitStep, w_fewer, w_more, wait_step}
use Rattle.str_base.proofs.Lists.{get_set, get_set_other, got_replicate, got_set}
use Rattle.str_base.proofs.Members.{in_append, in_at, in_left, in_right}
use Rattle.str_base.specs.Members.{In}
use Rattle.si_laws.proofs.Changes.ReadLetters.{ReadLetter, is_other, letters_act, rl_commit, rl_other, rl_reply, rl_request}

-- ---- where a read goes

module _ (here : Here) (own : List Own) (k : KeyId) (n : NodeId) where
  gated_stays : (snap : Snap) (t : ReadTurn) → (t ≡ Away n → ⊥) → Turns.gated here snap t ≡ Away n → ⊥
  gated_stays snap t never = if_elim (λ u. u ≡ Away n → ⊥) (holds snap) t (Turns.Wait (Turns.waits_for here (oldest snap.deps))) (λ e. never) (λ e q. cc q)

  kind_stays : (snap : Snap) (v : Version) (kind : Kind) → Turns.read_kind here own snap v kind ≡ Away n → ⊥
  kind_stays snap v Pre q = cc q
  kind_stays snap v LocalKind q = let new : Snap = take_over (slice_get own (v.tx.seq - 1)) v.tx.seq snap in gated_stays new (Turns.Speculative v.value v.tx new) (λ e. cc e) q
  kind_stays snap v Final q = let new : Snap = accept_final snap v.ts.0 in gated_stays new (Turns.Plain v.value (Some v.tx) v.ts.0 new) (λ e. cc e) q

  visible_away : (snap : Snap) (o : Option Version) → Turns.read_visible here own snap k o ≡ Away n → n ≡ first_or here.node (replicas here.scene (part_of here.scene k))
  visible_away snap None q = by_test (hosts_key here k) q
    where
      by_test : (b : Bool) → (if b then Turns.gated here snap (Turns.Plain Absent None 0 snap) else Away (first_or here.node (replicas here.scene (part_of here.scene k)))) ≡ Away n
          → n ≡ first_or here.node (replicas here.scene (part_of here.scene k))
      by_test true e = absurd (gated_stays snap (Turns.Plain Absent None 0 snap) (λ f. cc f) e)
      by_test false e = let is : first_or here.node (replicas here.scene (part_of here.scene k)) ≡ n = cc e in sym is
  visible_away snap (Some v) q = absurd (kind_stays snap v v.kind q)

-- a read that goes away goes to the first replica of its key's partition
pub away_is : (here : Here) (v : View) (snap : Snap) (k : KeyId) (n : NodeId) → read_turn here v snap k ≡ Away n → n ≡ first_or here.node (replicas here.scene (part_of here.scene k))
unfolding read_turn
away_is here v snap k n = by_pre (last_pre v.versions k snap.rs)
  where
    by_pre : (o : Option Version) → Turns.read_after here v snap k o ≡ Away n → n ≡ first_or here.node (replicas here.scene (part_of here.scene k))
    by_pre (Some u) q = absurd (cc q)
    by_pre None q = visible_away here v.own k n snap (visible v.versions k snap.rs) q

-- a replica that is the first one is the master
leads_first : (me other : NodeId) (row : List NodeId) → Maps.has_node me row ≡ true → me ≡ first_or other row → leads me row ≡ true
leads_first me other [] h q = absurd (cc h)
leads_first me other (r ∷ rs) h q = eq-eqb r.0 me.0 (ap (λ (z : NodeId). z.0) (sym q))

-- ---- over a run

record AtMasters (scene : Scene) (s : Stage) : Type 0 where
  requests : (m : Message) → In m s.sent → (tx : TxId) (k : KeyId) (rs : Ts) → m.body ≡ ReadReq tx k rs → m.receiver ≡ first_or m.sender (replicas scene (part_of scene k))
  waiting : (n : ℕ) (v : View) → slice_get s.nodes n ≡ Some v → (tx : TxId) (k : KeyId) (rs : Ts) → In (Read tx k rs) v.waiters → is_master scene (record { 0 = n + 1 }) (part_of scene k) ≡ true
  replies : (m : Message) → In m s.sent → (tx : TxId) (k : KeyId) (a : Value) (by : Option TxId) (fc : Ts) → m.body ≡ ReadReply tx k a by fc → is_master scene m.sender (part_of scene k) ≡ true

module _ (scene : Scene) (s : Stage) (i : ℕ) (v : View) (input : Input) (w : Where) (d e : Doing) (is : slice_get s.nodes i ≡ Some v) (seen : IsSeen s input) (act : Act (at_place scene i) input w d e) (h : AtMasters scene (during s i d)) where
  come_at : (from : NodeId) (tx : TxId) (k : KeyId) (t : Ts) → ComesToRead (at_place scene i) input d from tx k t → is_master scene (record { 0 = i + 1 }) (part_of scene k) ≡ true
  come_at from tx k t c =
      let g : Sent s c.0 = subst (IsSeen s) c.1 seen in
      let there : In c.0 (s.sent ++ d.sent) = in_left s.sent d.sent c.0 (in_at s.sent g.0 c.0 g.1) in
      let to : c.0.receiver.0 ≡ i + 1 = eqb-true c.0.receiver.0 (i + 1) (and_true_left (same_node c.0.receiver (at_place scene i).node) (has_node (at_place scene i) c.0.sender && has_named (at_place scene i) c.0.body) c.4) in
      let to' : ◌≡◌ {A = NodeId} (record { 0 = i + 1 }) c.0.receiver = λ j. record { 0 = sym to j } in
      leads_first (record { 0 = i + 1 }) c.0.sender (replicas scene (part_of scene k)) c.6 (to' ∙ h.requests c.0 there tx k t c.3)

  asked_at : (tx : TxId) (k : KeyId) (rs : ℕ) → IsAsked (at_place scene i) input d tx k rs → is_master scene (record { 0 = i + 1 }) (part_of scene k) ≡ true
  asked_at tx k rs (asked_now from t q c) = come_at from tx k t c
  asked_at tx k rs (asked_before t q j) = h.waiting i d.view (get_set s.nodes i v d.view is) tx k t j

  request_at : (m : Message) → In m (s.sent ++ e.sent) → (tx : TxId) (k : KeyId) (rs : Ts) → m.body ≡ ReadReq tx k rs → m.receiver ≡ first_or m.sender (replicas scene (part_of scene k))
  request_at m j tx k rs q = elim (in_append s.sent e.sent m j) [
    | inl z ↦ h.requests m (in_left s.sent d.sent m z) tx k rs q
    | inr z ↦ (elim (letters_act (at_place scene i) input w d e act m z) [
      | inl y ↦ h.requests m (in_right s.sent d.sent m y) tx k rs q
      | inr y ↦ now y
    ])
  ]
    where
      now : ReadLetter (at_place scene i) input d e m → m.receiver ≡ first_or m.sender (replicas scene (part_of scene k))
      now (rl_request n l x own to b) =
          let key : l ≡ k = cc (b, q) in
          away_is (at_place scene i) d.view x.snap l m.receiver to.1
          ∙ (ap (λ y. first_or y (replicas scene (part_of scene l))) (sym to.0) ∙ ap (λ y. first_or m.sender (replicas scene (part_of scene y))) key)
      now (rl_reply t l r a by fc g f b z) = absurd (cc (b, q))
      now (rl_commit n lc fc x a own f g r b) = absurd (cc (b, q))
      now (rl_other b) = absurd (cc (ap is_other q, b))

  reply_at : (m : Message) → In m (s.sent ++ e.sent) → (tx : TxId) (k : KeyId) (a : Value) (by : Option TxId) (fc : Ts) → m.body ≡ ReadReply tx k a by fc → is_master scene m.sender (part_of scene k) ≡ true
  reply_at m j tx k a by fc q = elim (in_append s.sent e.sent m j) [
    | inl z ↦ h.replies m (in_left s.sent d.sent m z) tx k a by fc q
    | inr z ↦ (elim (letters_act (at_place scene i) input w d e act m z) [
      | inl y ↦ h.replies m (in_right s.sent d.sent m y) tx k a by fc q
      | inr y ↦ now y
    ])
  ]
    where
      now : ReadLetter (at_place scene i) input d e m → is_master scene m.sender (part_of scene k) ≡ true
      now (rl_request n l x own to b) = absurd (cc (b, q))
      now (rl_reply t l r c u gc g f b z) =
          let key : l ≡ k = cc (b, q) in
          ap (λ y. is_master scene y (part_of scene k)) f ∙ (ap (λ y. is_master scene (record { 0 = i + 1 }) (part_of scene y)) (sym key) ∙ asked_at t l r g.was_asked)
      now (rl_commit n lc gc x c own f g r b) = absurd (cc (b, q))
      now (rl_other b) = absurd (cc (ap is_other q, b))

  wait_at : (tx : TxId) (k : KeyId) (rs : Ts) → WaitStep (at_place scene i) input d e → In (Read tx k rs) e.view.waiters → is_master scene (record { 0 = i + 1 }) (part_of scene k) ≡ true
  wait_at tx k rs (w_fewer f) j = h.waiting i d.view (get_set s.nodes i v d.view is) tx k rs (f (Read tx k rs) j)
  wait_at tx k rs (w_more r c q) j = elim (in_append d.view.waiters (r ∷ []) (Read tx k rs) (subst (In (Read tx k rs)) q j)) [
    | inl z ↦ h.waiting i d.view (get_set s.nodes i v d.view is) tx k rs z
    | inr z ↦ (elim z [ inl y ↦ arrived r c y | inr y ↦ absurd y ])
  ]
    where
      arrived : (r : Waiter) → Arrives (at_place scene i) input d r → r ≡ Read tx k rs → is_master scene (record { 0 = i + 1 }) (part_of scene k) ≡ true
      arrived r (a_read from t l u c) y = let key : l ≡ k = cc y in ap (λ z. is_master scene (record { 0 = i + 1 }) (part_of scene z)) (sym key) ∙ come_at from t l u c
      arrived r (a_prepare from a c u z m) y = absurd (cc y)

  masters_step : AtMasters scene (during s i e)
  masters_step = record {
    requests = request_at;
    waiting = λ n u g tx k rs j. elim (got_set s.nodes i n e.view u g) [
      | inl q ↦ ap (λ z. is_master scene (record { 0 = z + 1 }) (part_of scene k)) q.0 ∙ wait_at tx k rs (wait_step (at_place scene i) input w d e act) (subst (λ (z : View). In (Read tx k rs) z.waiters) q.1 j)
      | inr q ↦ h.waiting n u (get_set_other s.nodes i n d.view q.0 ∙ q.1) tx k rs j
    ];
    replies = reply_at;
  }

masters_opening : (scene : Scene) → AtMasters scene (stage_of (opening scene))
masters_opening scene = record {
  requests = λ m k. absurd k;
  waiting = λ n v g tx k rs j. absurd (subst (λ (z : View). In (Read tx k rs) z.waiters) (got_replicate scene.nodes n (opening_view scene) v g) j);
  replies = λ m k. absurd k;
}

-- a reply was sent by the master of its key's partition
pub reply_master : (scene : Scene) (es : List Event) (m : Message) → In m (run scene es).sent → (tx : TxId) (k : KeyId) (a : Value) (by : Option TxId) (fc : Ts) → m.body ≡ ReadReply tx k a by fc → is_master scene m.sender (part_of scene k) ≡ true
reply_master scene es =
    (everywhere scene (AtMasters scene) (λ s i v input w d e is seen hs a h. masters_step scene s i v input w d e is seen a h) (masters_opening scene) es).replies

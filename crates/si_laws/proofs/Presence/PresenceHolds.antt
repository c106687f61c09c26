-- The law Presence: by done lists, and from the bound of timestamps by what was given.
use Rattle.si_laws.proofs.Order.CertifiedVersions.{ArrivedAs, IsOf, a_final, a_pre, answered_stands, begun_at, committed_stands}
use Rattle.si_laws.proofs.Presence.DecisionsValid.{Bounded, bounded_from, decisions_are_valid}
use Rattle.si_laws.proofs.Presence.DecisionsDelivered.{Delivered, delivered}
use Rattle.si_laws.proofs.Stages.LinkedStates.{one_of, pre_of}
use Rattle.si_laws.proofs.Stages.AllLinksKept.{linked}
use Rattle.si_laws.proofs.Stages.ParticipantSeats.{of_nth, to_nth}
use Rattle.str_model.proofs.Changes.PairWords.{Has, any_has}
use Rattle.str_model.proofs.Principle.Everywhere.{stage_of}
use Rattle.si_laws.specs.Laws.Presence.{AnsweredPresent, CommittedPresent, DecidedUntold, Holds, IsStanding, NeverTold, NotDone, PresenceHolds, PresenceStands}
use Rattle.si_laws.specs.Laws.Times.{TimesBounded}
use Rattle.si_laws.specs.Standing.{Begun, IsCommitted, Wrote}
use Rattle.std.proofs.Common.{Bool, List, Some, arith, false, inl, inr, refl, slice_get, subst, subst₂, sym, true, ℕ, ◌+◌, ◌∙◌, ◌≡◌}
use Rattle.std.proofs.lemmas.Option.{slice_get_within}
use Rattle.str_base.specs.declared.names.KeyId.{KeyId}
use Rattle.str_base.specs.declared.names.Kind.TheVariants.{Pre}
use Rattle.str_base.specs.declared.names.NodeId.{NodeId}
use Rattle.str_base.specs.declared.names.PartId.{PartId}
use Rattle.str_base.specs.declared.names.TxId.{TxId}
use Rattle.str_base.specs.declared.names.Version.{Version}
use Rattle.str_base.specs.declared.names.Write.{Write}
use Rattle.str_model.specs.Proposals.{is_done, is_pair}
use Rattle.str_model.specs.Runs.{run}
use Rattle.str_model.specs.Views.{Own, View}
use Rattle.str_scene.specs.SceneLimits.{IsScene}
use Rattle.str_scene.specs.Scenes.{Scene, hosts, nth, part_of}
use Rattle.str_scene.specs.declared.names.Event.{Event}
use Rattle.std.proofs.lemmas.Bool.{false_from_ne_true}
use Rattle.str_base.proofs.Members.{any_in, at_in, in_at}
use Rattle.str_base.proofs.Lists.{slice_get_there}
use Rattle.str_base.specs.Members.{In}

-- ---- by done lists

module _ (scene : Scene) (events : List Event) where
  not_done_at : (r : NodeId) (tx : TxId) (p : PartId) (n : ℕ) (v : View) → r ≡ record { 0 = n + 1 } → slice_get (run scene events).nodes n ≡ Some v → (Has (is_pair tx p) v.done → ⊥)
      → NotDone (run scene events) r tx p
  not_done_at r tx p n v is there none u g =
      let there' : nth (run scene events).nodes r.0 ≡ Some v = subst (λ (z : NodeId). nth (run scene events).nodes z.0 ≡ Some v) (sym is) (to_nth (run scene events).nodes n v there) in
      let same : v ≡ u = one_of v u (nth (run scene events).nodes r.0) there' g in
      false_from_ne_true (is_done u tx p) (λ y. none (any_has (is_pair tx p) v.done (subst (λ (z : View). is_done z tx p ≡ true) (sym same) y)))

  holds_there : (r : NodeId) (t : TxId) (k : KeyId) (q : Version) (n : ℕ) (v : View) → r ≡ record { 0 = n + 1 } → slice_get (run scene events).nodes n ≡ Some v → In q v.versions → q.tx ≡ t → q.key ≡ k
      → Holds (run scene events) r t k q
  holds_there r t k q n v is there h tx key =
      let i = at_in v.versions q h in
      (v, i.0, subst (λ (z : NodeId). nth (run scene events).nodes z.0 ≡ Some v) (sym is) (to_nth (run scene events).nodes n v there), i.1, tx, key)

  committed_by_done : (t : TxId) (x : Own) (fc : ℕ) (k : KeyId) (r : NodeId) → Begun (run scene events) t x → IsCommitted x fc → Wrote x k → hosts scene r (part_of scene k) ≡ true
      → (q : Version) × Holds (run scene events) r t k q × IsStanding (run scene events) r t (part_of scene k) fc q
  committed_by_done t x fc k r b c w hosted =
      let st = begun_at scene (run scene events) t x b in
      let wr : Write = record { key = k; value = w.0 } in
      let f = committed_stands scene (stage_of (run scene events)) (linked scene events) t x st fc c wr (in_at x.writes w.1.0 wr w.1.1) r hosted in
      (f.2, holds_there r t k f.2 f.0 f.1 f.3 f.4 f.5 f.6.tx_is f.6.key_is, by_arrival f.0 f.1 f.2 f.3 f.4 f.6 f.7)
    where
      by_arrival : (n : ℕ) (v : View) (q : Version) → r ≡ record { 0 = n + 1 } → slice_get (run scene events).nodes n ≡ Some v → IsOf scene t k q → ArrivedAs v fc q
          → IsStanding (run scene events) r t (part_of scene k) fc q
      by_arrival n v q is there o (a_final z e) = inl (z, e)
      by_arrival n v q is there o (a_pre z le none) =
          inr (z, le, not_done_at r t (part_of scene k) n v is there (λ y. none (subst₂ (λ (a : TxId) (p : PartId). Has (is_pair a p) v.done) (sym o.tx_is) (sym o.part_is) y)))

  answered_by_done : AnsweredPresent scene (run scene events)
  answered_by_done t x i a ts k b o part ack w same =
      let st = begun_at scene (run scene events) t x b in
      let wr : Write = record { key = k; value = w.0 } in
      let f = answered_stands scene (stage_of (run scene events)) (linked scene events) t x st o a (in_at x.parts i a part) ts ack wr (in_at x.writes w.1.0 wr w.1.1) same in
      (pre_of t a.part ts wr, holds_there a.node t k (pre_of t a.part ts wr) f.0 f.1 f.2 f.3 f.4 refl refl, refl, refl)

  undone_pre : (t : TxId) (r : NodeId) (k : KeyId) (q : Version) → Holds (run scene events) r t k q → q.kind ≡ Pre → NotDone (run scene events) r t q.part
  undone_pre t r k q h pre =
      let n = of_nth (run scene events).nodes r.0 h.0 h.2 in
      not_done_at r t q.part n.0 h.0 (λ j. record { 0 = n.1 j }) n.2
      (λ y. (linked scene events).pres n.0 h.0 n.2 q (in_at h.0.versions h.1 q h.3) pre (subst (λ (a : TxId). Has (is_pair a q.part) h.0.done) (sym h.4) y))

pub presence_stands : PresenceStands
presence_stands scene ok events = record { committed = committed_by_done scene events; answered = answered_by_done scene events; undone = undone_pre scene events }

-- ---- by what was given, from the bound of timestamps

module _ (bound : Bounded) (scene : Scene) (ok : IsScene scene) (events : List Event) where
  -- where the pair is not done, its decision was never given to the node
  untold_where : (r : NodeId) (tx : TxId) (p : PartId) (v : View) → nth (run scene events).nodes r.0 ≡ Some v → NotDone (run scene events) r tx p → NeverTold (run scene events) r tx p
  untold_where r tx p v there none j m sent to dec =
      let d = delivered scene (decisions_are_valid bound scene ok) events in
      let n = of_nth (run scene events).nodes r.0 v there in
      let less = slice_get_within (run scene events).sent j m sent in
      let g = slice_get_there (run scene events).given j (omega (arith, less, d.len)) in
      by_flag g.0 g.1 d n.0 (λ i. record { 0 = n.1 i }) n.2
    where
      by_flag : (b : Bool) → slice_get (run scene events).given j ≡ Some b → Delivered (run scene events) → (n : ℕ) → r ≡ record { 0 = n + 1 } → slice_get (run scene events).nodes n ≡ Some v
          → slice_get (run scene events).given j ≡ Some false
      by_flag false e d n is at_ = e
      by_flag true e d n is at_ =
          let k = d.done_ j m tx p n v sent dec e (to ∙ is) at_ in absurd (cc (any_in (is_pair tx p) v.done k.0 k.1 k.2, none v there))

  committed_present : CommittedPresent scene (run scene events)
  committed_present t x fc k r b c w hosted =
      let f = committed_by_done scene events t x fc k r b c w hosted in
      (f.0, f.1, elim f.2 [ inl z ↦ inl z | inr z ↦ inr (z.0, z.1, untold_where r t (part_of scene k) f.1.0 f.1.2 z.2) ])

  decided_untold : DecidedUntold (run scene events)
  decided_untold t x r k q b f h pre = untold_where r t q.part h.0 h.2 (undone_pre scene events t r k q h pre)

-- where no timestamp reaches the limit, no decision is strange to its receiver
pub presence_from : Bounded → PresenceHolds
presence_from bound scene ok events = record {
  committed = committed_present bound scene ok events;
  answered = answered_by_done scene events;
  untold = decided_untold bound scene ok events;
}

pub presence_by_bound : TimesBounded → PresenceHolds
presence_by_bound b = presence_from (bounded_from b)

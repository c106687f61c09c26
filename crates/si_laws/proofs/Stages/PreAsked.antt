-- Each Pre version is of a transaction whose origin has asked the version's partition.
use Rattle.std.proofs.Common.{List, Some, [], ap, append_assoc, filter, inl, inr, map, refl, slice_get, subst, subst₂, sym, ℕ, ◌++◌, ◌∙◌, ◌∷◌, ◌≡◌, ◌⊎◌}
use Rattle.str_base.specs.declared.names.Kind.TheVariants.{Pre}
use Rattle.str_base.specs.declared.names.PartId.{PartId}
use Rattle.str_base.specs.declared.names.TxId.{TxId}
use Rattle.str_base.specs.declared.names.Version.{Version}
use Rattle.str_model.specs.declared.messages.Arrived.{Arrived}
use Rattle.str_model.specs.declared.messages.Body.{Body}
use Rattle.str_model.specs.declared.messages.Body.TheVariants.{Prepare, Replicate}
use Rattle.str_model.specs.declared.messages.Input.{Input}
use Rattle.str_model.specs.declared.messages.Input.TheVariants.{Deliver}
use Rattle.str_model.specs.declared.messages.Message.{Message}
use Rattle.str_model.specs.declared.messages.Waiter.{Waiter}
use Rattle.str_model.specs.declared.messages.Waiter.TheVariants.{Held}
use Rattle.str_model.specs.Acts.{is_hosted_of, local_version, pre_version}
use Rattle.si_laws.specs.Laws.Asking.{HasAsked, PresAsked}
use Rattle.str_model.specs.Owned.{Asks}
use Rattle.str_model.specs.Runs.{opening, opening_view}
use Rattle.str_scene.specs.Scenes.{Here, Scene}
use Rattle.str_base.specs.Versions.{of_pair, of_tx, settled, without}
use Rattle.str_model.specs.Views.{Doing, View, name_of}
use Rattle.str_model.proofs.Principle.SingleChanges.{Act, Arrives, IsHere, Where, a_prepare, a_read, it_comes, it_waits}
use Rattle.str_model.proofs.Principle.Everywhere.{IsSeen, Sent, Stage, at_place, during, everywhere, stage_of}
use Rattle.str_model.proofs.Changes.VersionChanges.{Letter, Placed, SentStep, VersionStep, WaitStep, by_master, by_slave, l_ask, l_copy, l_other, sent_step, v_decided, v_finals, v_locals, v_pres, v_rests, v_without, version_step, w_fewer, w_more, wait_step}
use Rattle.str_base.proofs.Lists.{get_set, get_set_other, got_replicate, got_set}
use Rattle.str_base.proofs.Members.{at_in, in_append, in_at, in_insert_all, in_left, in_map, in_right, in_without}
use Rattle.str_base.specs.Members.{In}

-- what is kept
record Kept (s : Stage) : Type 0 where
  pres : (n : ℕ) (v : View) (x : Version) → slice_get s.nodes n ≡ Some v → In x v.versions → x.kind ≡ Pre → HasAsked s.sent x.tx x.part
  held : (n : ℕ) (v : View) (a : Arrived) → slice_get s.nodes n ≡ Some v → In (Held a) v.waiters → HasAsked s.sent a.tx a.part
  asks : (m : Message) (tx : TxId) (p : PartId) → In m s.sent → Asks tx p m.body → HasAsked s.sent tx p

asked_more : (xs ys : List Message) (tx : TxId) (p : PartId) → HasAsked xs tx p → HasAsked (xs ++ ys) tx p
asked_more xs ys tx p h = let r = at_in (xs ++ ys) h.1 (in_left xs ys h.1 (in_at xs h.0 h.1 h.2)) in (r.0, h.1, r.1, h.3, h.4)

-- a Pre version was there, or has just been placed
pub pre_from : (here : Here) (input : Input) (d e : Doing) (x : Version) → VersionStep here input d e → In x e.view.versions → x.kind ≡ Pre
    → In x d.view.versions ⊎ ((a : Arrived) × Placed here input d a × (x.tx ≡ a.tx) × (x.part ≡ a.part))
pre_from here input d e x (v_rests q) h k = inl (rw (← q) h)
pre_from here input d e x (v_locals i lc y q) h k =
    elim (in_insert_all (map (local_version here i lc) y.writes) d.view.versions x (rw (← q) h)) [
      | inl j ↦ (let r = in_map (local_version here i lc) y.writes x j in absurd (cc (ap (λ z. z.kind) r.2, k)))
      | inr j ↦ inl j
    ]
pre_from here input d e x (v_pres a ts s q) h k =
    elim (in_insert_all (map (pre_version a ts) a.writes) d.view.versions x (rw (← q) h)) [
      | inl j ↦ (let r = in_map (pre_version a ts) a.writes x j in inr (a, s, ap (λ z. z.tx) (sym r.2), ap (λ z. z.part) (sym r.2)))
      | inr j ↦ inl j
    ]
pre_from here input d e x (v_without test q) h k = inl (in_without test d.view.versions x (rw (← q) h))
pre_from here input d e x (v_decided i fc q) h k =
    elim (in_insert_all (map (settled fc) (filter (is_hosted_of here (name_of here i)) d.view.versions)) (without (of_tx (name_of here i)) d.view.versions) x (rw (← q) h)) [
      | inl j ↦ (let r = in_map (settled fc) (filter (is_hosted_of here (name_of here i)) d.view.versions) x j in absurd (cc (ap (λ z. z.kind) r.2, k)))
      | inr j ↦ inl (in_without (of_tx (name_of here i)) d.view.versions x j)
    ]
pre_from here input d e x (v_finals tx p fc q) h k =
    elim (in_insert_all (map (settled fc) (filter (of_pair tx p) d.view.versions)) (without (of_pair tx p) d.view.versions) x (rw (← q) h)) [
      | inl j ↦ (let r = in_map (settled fc) (filter (of_pair tx p) d.view.versions) x j in absurd (cc (ap (λ z. z.kind) r.2, k)))
      | inr j ↦ inl (in_without (of_pair tx p) d.view.versions x j)
    ]

module _ (scene : Scene) (s : Stage) (i : ℕ) (v : View) (input : Input) (is : slice_get s.nodes i ≡ Some v) (seen : IsSeen s input) (d : Doing) (kept : Kept (during s i d)) where
  seen_asks : (m : Message) (a : Arrived) → input ≡ Deliver m → Asks a.tx a.part m.body → HasAsked (s.sent ++ d.sent) a.tx a.part
  seen_asks m a q k =
      let t : Sent s m = subst (IsSeen s) q seen in kept.asks m a.tx a.part (in_left s.sent d.sent m (in_at s.sent t.0 m t.1)) k

  here_asked : (a : Arrived) → IsHere (at_place scene i) input d a → HasAsked (s.sent ++ d.sent) a.tx a.part
  here_asked a (it_comes from c u w m) = seen_asks c.0 a c.1 (subst (Asks a.tx a.part) (sym c.3) (refl, refl))
  here_asked a (it_waits before after w) =
      kept.held i d.view a (get_set s.nodes i v d.view is) (subst (In (Held a)) (sym w) (in_right before (Held a ∷ after) (Held a) (inl refl)))

  placed_asked : (a : Arrived) → Placed (at_place scene i) input d a → HasAsked (s.sent ++ d.sent) a.tx a.part
  placed_asked a (by_master h) = here_asked a h
  placed_asked a (by_slave from c t) = seen_asks c.0 a c.1 (subst (Asks a.tx a.part) (sym c.3) (refl, refl))

  module _ (w : Where) (e : Doing) (act : Act (at_place scene i) input w d e) where
    new : SentStep (at_place scene i) input d e
    new = sent_step (at_place scene i) input w d e act

    more : (tx : TxId) (p : PartId) → HasAsked (s.sent ++ d.sent) tx p → HasAsked (s.sent ++ e.sent) tx p
    unfolding new
    more tx p h = rw (new.are, ← append_assoc s.sent d.sent new.new) (asked_more (s.sent ++ d.sent) new.new tx p h)

    pres_here : (x : Version) → In x e.view.versions → x.kind ≡ Pre → HasAsked (s.sent ++ e.sent) x.tx x.part
    pres_here x h k =
        elim (pre_from (at_place scene i) input d e x (version_step (at_place scene i) input w d e act) h k) [
          | inl j ↦ more x.tx x.part (kept.pres i d.view x (get_set s.nodes i v d.view is) j k)
          | inr r ↦ more x.tx x.part (rw (r.2, r.3) (placed_asked r.0 r.1))
        ]

    held_here : (a : Arrived) → WaitStep (at_place scene i) input d e → In (Held a) e.view.waiters → HasAsked (s.sent ++ e.sent) a.tx a.part
    held_here a (w_fewer f) h = more a.tx a.part (kept.held i d.view a (get_set s.nodes i v d.view is) (f (Held a) h))
    held_here a (w_more w c q) h =
        elim (in_append d.view.waiters (w ∷ []) (Held a) (subst (In (Held a)) q h)) [
          | inl j ↦ more a.tx a.part (kept.held i d.view a (get_set s.nodes i v d.view is) j)
          | inr j ↦ (elim j [ inl g ↦ more a.tx a.part (arrived w c g) | inr z ↦ absurd z ])
        ]
      where
        arrived : (w : Waiter) → Arrives (at_place scene i) input d w → w ≡ Held a → HasAsked (s.sent ++ d.sent) a.tx a.part
        arrived w (a_read from tx k rs c) g = absurd (cc g)
        arrived w (a_prepare from b c u z m) g =
            let same : b ≡ a = cc g in subst (λ b. HasAsked (s.sent ++ d.sent) b.tx b.part) same (seen_asks c.0 b c.1 (subst (Asks b.tx b.part) (sym c.3) (refl, refl)))

    letter_asked : (m : Message) (tx : TxId) (p : PartId) → In m (s.sent ++ e.sent) → Letter (at_place scene i) input d m → Asks tx p m.body → HasAsked (s.sent ++ e.sent) tx p
    letter_asked m tx p h (l_ask t q from k) a =
        let r = at_in (s.sent ++ e.sent) m h in
        let same = asks_one t tx q p m.body k a in
        (r.0, m, r.1, from ∙ ap (λ z. z.node) same.0, a)
      where
        asks_one : (t tx : TxId) (q p : PartId) (b : Body) → Asks t q b → Asks tx p b → (t ≡ tx) × (q ≡ p)
        asks_one t tx q p (Prepare u r rs lc ws) x y = (sym x.0 ∙ y.0, sym x.1 ∙ y.1)
        asks_one t tx q p (Replicate u r rs lc ws) x y = (sym x.0 ∙ y.0, sym x.1 ∙ y.1)
        asks_one t tx q p _ x y = absurd x
    letter_asked m tx p h (l_copy b there k) a = more tx p (copied m.body k a)
      where
        copied : (c : Body) → Asks b.tx b.part c → Asks tx p c → HasAsked (s.sent ++ d.sent) tx p
        copied (Prepare u r rs lc ws) x y = subst₂ (λ t q. HasAsked (s.sent ++ d.sent) t q) (sym x.0 ∙ y.0) (sym x.1 ∙ y.1) (here_asked b there)
        copied (Replicate u r rs lc ws) x y = subst₂ (λ t q. HasAsked (s.sent ++ d.sent) t q) (sym x.0 ∙ y.0) (sym x.1 ∙ y.1) (here_asked b there)
        copied _ x y = absurd x
    letter_asked m tx p h (l_other never) a = absurd (never tx p a)

    asks_here : (m : Message) (tx : TxId) (p : PartId) → In m (s.sent ++ e.sent) → Asks tx p m.body → HasAsked (s.sent ++ e.sent) tx p
    unfolding new
    asks_here m tx p h a =
        elim (in_append (s.sent ++ d.sent) new.new m (subst (In m) (ap (λ z. s.sent ++ z) new.are ∙ sym (append_assoc s.sent d.sent new.new)) h)) [
          | inl j ↦ more tx p (kept.asks m tx p j a)
          | inr j ↦ letter_asked m tx p h (new.each m j) a
        ]

    kept_after : Kept (during s i e)
    kept_after = record {
      pres = λ n u x g h k. elim (got_set s.nodes i n e.view u g) [
        | inl p ↦ pres_here x (subst (λ (z : View). In x z.versions) p.1 h) k
        | inr p ↦ more x.tx x.part (kept.pres n u x (get_set_other s.nodes i n d.view p.0 ∙ p.1) h k)
      ];
      held = λ n u a g h. elim (got_set s.nodes i n e.view u g) [
        | inl p ↦ held_here a (wait_step (at_place scene i) input w d e act) (subst (λ (z : View). In (Held a) z.waiters) p.1 h)
        | inr p ↦ more a.tx a.part (kept.held n u a (get_set_other s.nodes i n d.view p.0 ∙ p.1) h)
      ];
      asks = asks_here;
    }

kept_opening : (scene : Scene) → Kept (stage_of (opening scene))
kept_opening scene = record {
  pres = λ n v x g h k. absurd (subst (λ (z : View). In x z.versions) (got_replicate scene.nodes n (opening_view scene) v g) h);
  held = λ n v a g h. absurd (subst (λ (z : View). In (Held a) z.waiters) (got_replicate scene.nodes n (opening_view scene) v g) h);
  asks = λ m tx p h a. absurd h;
}

pub pres_asked : PresAsked
pres_asked scene ok events n v g k x h e =
    (everywhere scene Kept (λ s i v input w d e is seen hs act kept. kept_after scene s i v input is seen d kept w e act) (kept_opening scene) events).pres n v x g (in_at v.versions k x h) e

-- A conflict that makes a transaction abort: both wrote the key, and it was found at home, came by a Replicate, or the master's Refuse came.
use Rattle.std.proofs.Common.{Bool, List, None, Some, [], add-sub_cancel, ap, arith, eq-eqb, eqb-true, false, if◌then◌else◌, inl, inr, refl, slice_get, slice_set, subst, suc, sym, true, ℕ, ◌&&◌, ◌+◌, ◌-◌, ◌∙◌, ◌∷◌, ◌≡◌, ◌||◌, ◌⊎◌}
use Rattle.std.specs.List.{list_any}
use Rattle.str_base.specs.declared.names.Cause.{Cause}
use Rattle.str_base.specs.declared.names.Cause.TheVariants.{Conflict as ByConflict}
use Rattle.str_base.specs.declared.names.KeyId.{KeyId}
use Rattle.str_base.specs.declared.names.NodeId.{NodeId}
use Rattle.str_base.specs.declared.names.PartId.{PartId}
use Rattle.str_base.specs.declared.names.TxId.{TxId}
use Rattle.str_base.specs.declared.names.Version.{Version}
use Rattle.str_base.specs.declared.names.Write.{Write}
use Rattle.str_base.specs.Versions.{is_local, of_tx, same_key, same_node}
use Rattle.str_scene.specs.declared.names.Event.{Event}
use Rattle.str_scene.specs.SceneLimits.{IsScene}
use Rattle.str_scene.specs.Scenes.{Here, Scene, is_master, nth}
use Rattle.str_model.specs.declared.messages.Body.TheVariants.{Refuse as Refusal}
use Rattle.str_model.specs.declared.messages.Input.{Input}
use Rattle.str_model.specs.declared.messages.Message.{Message}
use Rattle.str_model.specs.Owned.{Owns}
use Rattle.str_model.specs.Returns.{own_named}
use Rattle.str_model.specs.Runs.{World, happens, opening, run, run_from}
use Rattle.str_model.specs.Traces.{MomentAt, trace}
use Rattle.str_model.specs.Views.{Doing, Own, View, lc_of, name_of}
use Rattle.str_model.proofs.Principle.Everywhere.{AtNode, Sent, Stage, at_place, during, run-append, stage_of, stays_at}
use Rattle.str_model.proofs.Principle.LaterMoments.{Took, at_each_moment, to_end}
use Rattle.si_laws.proofs.Reasons.AbortChanges.{AbortedBy, AsksNow, ab_evicted, ab_late, ab_lost, ab_met, ab_refused, ab_stop, ab_wish, now_at_end, now_waiting}
use Rattle.si_laws.proofs.Reasons.OthersNamed.{evicted_other, no_version}
use Rattle.si_laws.proofs.Reasons.CausesTrue.{Aborts, aborts_by, asks_is, conflict_is}
use Rattle.si_laws.proofs.Reasons.CommitsAfter.{place_nth}
use Rattle.str_model.proofs.OwnFacts.LocalOwners.{same_own}
use Rattle.si_laws.proofs.Reasons.KeysWritten.{WroteIn, WroteKey, Written, wrote-act, written-act, written_opening}
use Rattle.si_laws.proofs.Scripts.ReadsEvaluate.{find_is}
use Rattle.si_laws.specs.Standing.{Begun, Wrote}
use Rattle.si_laws.specs.TrueCause.{AbortsAt, BothWrote, Delivered, Evicted, HasVersion, TrueConflict}
use Rattle.str_base.proofs.SameNames.{same_key-is, same_tx-is}
use Rattle.str_base.proofs.Tests.{and_true_left, and_true_right}
use Rattle.str_base.proofs.Lists.{get_set, got_set}
use Rattle.str_base.proofs.Members.{at_in, in_at, in_left}
use Rattle.si_laws.proofs.Stages.ParticipantSeats.{of_nth}
use Rattle.str_base.specs.Members.{In}
use Rattle.str_model.proofs.KindTests.{local_kind}

-- the own transaction of this place has written the key
abbrev pub WroteAt : ℕ → KeyId → View → Type 0
WroteAt i k v = (y : Own) × Owns v i y × WroteKey y.writes k

pub wrote_is : (y : Own) (k : KeyId) → WroteKey y.writes k → Wrote y k
wrote_is y k h =
    let r = at_in y.writes h.0 h.1 in
    (h.0.value, (r.0, r.1 ∙ ap Some (λ i. record { key = h.2 i; value = h.0.value })))

some_of : (p : Version → Bool) (xs : List Version) → list_any p xs ≡ true → (x : Version) × (In x xs) × (p x ≡ true)
some_of p [] e = absurd (cc e)
some_of p (y ∷ xs) e = by_test (p y) refl (some_of p xs) e
  where
    by_test : (b : Bool) → p y ≡ b → (list_any p xs ≡ true → (x : Version) × (In x xs) × (p x ≡ true)) → (b || list_any p xs) ≡ true → (x : Version) × (In x (y ∷ xs)) × (p x ≡ true)
    by_test true q f g = (y, inl refl, q)
    by_test false q f g = let r = f g in (r.0, inr r.1, r.2)

module _ (scene : Scene) (ok : IsScene scene) (es : List Event) where
  pub written_moment : (j m : ℕ) (n : NodeId) (d : Doing) (a : MomentAt (trace scene es) j m n d) (t : Took scene es j a.0 n) → Written (during (stage_of (run scene t.from.early)) t.takes.place d)
  written_moment j m n d a t =
      at_each_moment scene Written (λ s i v input w d e is seen hs act h. written-act scene s i v input is seen d e w act h) (written_opening scene) es j m a.0 n d t a.3

  -- what was written by a moment of the run is written at its end
  pub wrote_final : (j m : ℕ) (n : NodeId) (d : Doing) (a : MomentAt (trace scene es) j m n d) (t : Took scene es j a.0 n) (u : TxId) (k : KeyId) → WroteIn (during (stage_of (run scene t.from.early)) t.takes.place d) u k
      → (y : Own) × Begun (run scene es) u y × Wrote y k
  wrote_final j m n d a t u k c =
      elim (got_set (run scene t.from.early).nodes t.takes.place c.node d.view c.view c.there) [
        | inl r ↦ home r.0 (c.own, subst (λ (z : View). Owns z c.place c.own) r.1 c.owns, c.wrote)
        | inr r ↦ ended (run scene t.from.early) (t.from.event ∷ t.from.late) c.view r.1 (c.own, c.owns, c.wrote) (sym (ap (λ xs. run scene xs) t.from.all ∙ run-append scene (opening scene) t.from.early (t.from.event ∷ t.from.late)))
      ]
    where
      ended : (w : World) (rest : List Event) (v : View) → slice_get w.nodes c.node ≡ Some v → WroteAt c.place k v → run_from scene w rest ≡ run scene es → (y : Own) × Begun (run scene es) u y × Wrote y k
      ended w rest v there h q =
          let r = stays_at scene ok (WroteAt c.place k) (λ here good input b d e act p. wrote-act here input b d e act c.place p.0 k p.1 p.2) c.node w v rest there h in
          (r.fact.0, (r.view, place_nth (run scene es).nodes u.node.0 c.node r.view c.at_node (ap (λ z. slice_get z.nodes c.node) (sym q) ∙ r.there), place_nth r.view.own u.seq c.place r.fact.0 c.at_place_ r.fact.1), wrote_is r.fact.0 k r.fact.2)

      home : c.node ≡ t.takes.place → WroteAt c.place k d.view → (y : Own) × Begun (run scene es) u y × Wrote y k
      home q h =
          let w1 : World = happens scene (run scene t.from.early) t.from.event in
          let last = to_end scene ok (WroteAt c.place k) (λ here good input b d e act p. wrote-act here input b d e act c.place p.0 k p.1 p.2) es j m a.0 n d t a.3 h in
          let there : slice_get w1.nodes c.node ≡ Some t.takes.last.view =
          ap (λ z. slice_get w1.nodes z) q ∙ (ap (λ ns. slice_get ns t.takes.place) t.takes.after ∙ get_set (run scene t.from.early).nodes t.takes.place t.takes.view t.takes.last.view t.takes.is) in
          ended w1 t.from.late t.takes.last.view there last (sym (ap (λ xs. run scene xs) t.from.all ∙ run-append scene (opening scene) t.from.early (t.from.event ∷ t.from.late)))

  -- the Refuse of the master of the partition has come, naming the two and the key
  pub record RefuseHere (j : ℕ) (t : TxId) (u : TxId) (k : KeyId) (n : NodeId) : Type 0 where
    pub message : Message
    pub part : PartId
    pub came : Delivered (trace scene es) j message
    pub sender : message.sender ≡ n
    pub body : message.body ≡ Refusal t part u k
    pub master : is_master scene n part ≡ true

  named : (t : TxId) (p i : ℕ) → t.node.0 ≡ i + 1 → t.seq ≡ p + 1 → name_of (at_place scene i) p ≡ t
  named t p i n s = λ z. record { node = record { 0 = sym n z }; seq = sym s z }

  no_lc : {here : Here} {input : Input} (x : Own) → AsksNow here input x → lc_of x.phase ≡ None
  no_lc x (now_at_end st p e n) = ap lc_of p
  no_lc x (now_waiting p) = ap lc_of p

  apart : (i : ℕ) (u : TxId) → u.node.0 ≡ i + 1 → same_node u.node (record { 0 = i + 1 }) ≡ false → ⊥
  apart i u q f = cc (eq-eqb u.node.0 (i + 1) q, f)

  one : (i : ℕ) → suc i ≡ i + 1
  one i = omega arith

  -- both moments are of one event
  entry : (j : ℕ) (t : TxId) (d : Doing) (x : Own) (cause : Cause) (a : AbortsAt (trace scene es) j t d x cause) → a.before.0 ≡ a.after.0
  entry j t d x cause a = let same : Some a.before.0 ≡ Some a.after.0 = sym a.before.1 ∙ a.after.1 in cc same

  -- a conflict: both wrote the key, and it was found at home or came by a Replicate; or the master's Refuse has come
  pub conflict_true : (j : ℕ) (t : TxId) (d : Doing) (x : Own) (u : TxId) (k : KeyId) (n : NodeId) → AbortsAt (trace scene es) j t d x (ByConflict u k n)
      → TrueConflict scene (run scene es) (trace scene es) j t d x u k n ⊎ RefuseHere j t u k n
  conflict_true j t d x u k n a = by_kind (aborts_by scene ok es j t d x (ByConflict u k n) a) (aborts_by scene ok es j t d x (ByConflict u k n) a).by
    where
      by_kind : (b : Aborts scene ok es j t d x (ByConflict u k n) a) → AbortedBy (at_place scene b.took_.takes.place) b.took_.takes.input d b.place x (ByConflict u k n)
          → TrueConflict scene (run scene es) (trace scene es) j t d x u k n ⊎ RefuseHere j t u k n
      by_kind b (ab_met snap u' k' asks rs v vs e c) =
          let g = b.took_ in
          let eu : u' ≡ u = cc c in
          let ek : k' ≡ k = cc c in
          let en : record { 0 = g.takes.place + 1 } ≡ n = cc c in
          let r = conflict_is (at_place scene g.takes.place) v snap x.writes u' k' e in
          let mem : In r.0 d.view.versions = subst (In r.0) vs r.1 in
          let at = at_in d.view.versions r.0 mem in
          let w = (written_moment j a.moment t.node d a.before g).versions g.takes.place d.view r.0 (get_set (run scene g.from.early).nodes g.takes.place g.takes.view d.view g.takes.is) mem in
          let w' = wrote_final j a.moment t.node d a.before g r.0.tx r.0.key w in
          let tx : r.0.tx ≡ u = r.2 ∙ eu in
          let key : r.0.key ≡ k = r.3 ∙ ek in
          inl (
            (λ z. no_version scene ok es j a.moment t.node d a.before g b.place x r.0 b.owns a.was_open (no_lc x asks) mem (tx ∙ (z ∙ sym (named t b.place g.takes.place (ap (λ (z : NodeId). z.0) g.node) b.seq)))),
            (wrote_is x k (r.5.0, r.5.1, r.5.2 ∙ ek), w'.0, subst (λ z. Begun (run scene es) z w'.0) tx w'.1, subst (Wrote w'.0) key w'.2),
            inl (inl (sym en ∙ sym g.node, (asks_is scene ok es j t d x (ByConflict u k n) a b asks, (r.0, (at.0, at.1, tx, key), elim r.4 [ inl z ↦ inl z | inr z ↦ inr (omega (arith, z, rs)) ])))),
          )
      by_kind b (ab_evicted from c w m h e) =
          let g = b.took_ in
          let here = at_place scene g.takes.place in
          let s : Stage = stage_of (run scene g.from.early) in
          let eu : c.tx ≡ u = cc e in
          let ek : w.key ≡ k = cc e in
          let en : record { 0 = g.takes.place + 1 } ≡ n = cc e in
          let f = find_is (λ (z : Write). list_any (λ (y : Version). same_key y.key z.key && (of_tx (name_of here b.place) y && is_local y.kind)) d.view.versions) c.writes w h in
          let q = some_of (λ (y : Version). same_key y.key w.key && (of_tx (name_of here b.place) y && is_local y.kind)) d.view.versions f.1 in
          let qkey : q.0.key ≡ w.key = same_key-is q.0.key w.key (and_true_left (same_key q.0.key w.key) (of_tx (name_of here b.place) q.0 && is_local q.0.kind) q.2) in
          let rest = and_true_right (same_key q.0.key w.key) (of_tx (name_of here b.place) q.0 && is_local q.0.kind) q.2 in
          let qtx : q.0.tx ≡ name_of here b.place = same_tx-is q.0.tx (name_of here b.place) (and_true_left (of_tx (name_of here b.place) q.0) (is_local q.0.kind) rest) in
          let local = local_kind q.0.kind (and_true_right (of_tx (name_of here b.place) q.0) (is_local q.0.kind) rest) in
          let name : name_of here b.place ≡ t = named t b.place g.takes.place (ap (λ (z : NodeId). z.0) g.node) b.seq in
          let all = written_moment j a.moment t.node d a.before g in
          let there = get_set (run scene g.from.early).nodes g.takes.place g.takes.view d.view g.takes.is in
          let mine = all.versions g.takes.place d.view q.0 there q.1 in
          let seen : Sent s m.0 = subst (Rattle.str_model.proofs.Principle.Everywhere.IsSeen s) m.1 g.takes.seen in
          let theirs = all.messages m.0 c.tx c.writes w (in_left s.sent d.sent m.0 (in_at s.sent seen.0 m.0 seen.1)) (subst (λ z. Rattle.si_laws.proofs.Reasons.KeysWritten.AsksWrites z c.tx c.writes) (sym m.3) (refl, refl)) f.0 in
          let y = wrote_final j a.moment t.node d a.before g c.tx w.key theirs in
          let p = at_in d.view.versions q.0 q.1 in
          let i = at_in c.writes w f.0 in
          inl (
            (λ z. apart g.takes.place c.tx (ap (λ (y : TxId). y.node.0) (eu ∙ z) ∙ ap (λ (y : NodeId). y.0) g.node)
                (evicted_other here g.takes.input g.takes.view a.moment a.next from c (ap (λ xs. slice_get xs (suc a.moment)) (sym g.takes.moments) ∙ (ap (λ h. slice_get h.moments (suc a.moment)) (entry j t d x (ByConflict u k n) a) ∙ (ap (λ i. slice_get a.after.0.moments i) (one a.moment) ∙ a.after.3))) m)),
            (
              wrote_is x k (subst (λ z. WroteKey x.writes z) (qkey ∙ ek) (own_wrote s g.takes.place b.place q.0.tx q.0.key mine x (ap (λ (z : TxId). z.node.0) qtx) (ap (λ (z : TxId). z.seq) qtx) b.owns there)),
              y.0,
              subst (λ z. Begun (run scene es) z y.0) eu y.1,
              subst (Wrote y.0) ek y.2,
            ),
            inl (inr (
              sym en ∙ sym g.node,
              (
                m.0,
                q.0,
                (a.before.0, a.before.1, g.takes.given ∙ ap Some m.1),
                subst (λ z. Rattle.si_laws.specs.TrueCause.Brings z u k) (sym m.3) (eu, i.0, w, i.1, ek),
                (p.0, p.1, qtx ∙ name, qkey ∙ ek),
                local,
              ),
            )),
          )
        where
          own_wrote : (s : Stage) (i p : ℕ) (tx : TxId) (l : KeyId) (c : WroteIn (during s i d) tx l) (x : Own) → tx.node.0 ≡ i + 1 → tx.seq ≡ p + 1 → Owns d.view p x → slice_get (slice_set s.nodes i d.view) i ≡ Some d.view → WroteKey x.writes l
          own_wrote s i p tx l c x node seq own there =
              let n : c.node ≡ i = omega (arith, node, c.at_node) in
              let view : Some c.view ≡ Some d.view = sym c.there ∙ (ap (λ z. slice_get (slice_set s.nodes i d.view) z) n ∙ there) in
              let is : c.view ≡ d.view = cc view in
              let same : c.own ≡ x = same_own d.view c.place p c.own x (subst (λ (z : View). Owns z c.place c.own) is c.owns) own (omega (arith, seq, c.at_place_)) in
              subst (λ (z : Own). WroteKey z.writes l) same c.wrote
      by_kind b (ab_refused from t' q u' k' m r e f g c) =
          let eu : u' ≡ u = cc c in
          let ek : k' ≡ k = cc c in
          let en : from ≡ n = cc c in
          inr (record {
            message = m.0;
            part = q;
            came = (a.before.0, a.before.1, b.took_.takes.given ∙ ap Some m.1);
            sender = m.2 ∙ en;
            body = m.3 ∙ (ap (λ z. Refusal z q u' k') (same_name b.took_.takes.place (ap (λ (z : NodeId). z.0) b.took_.node) b.seq t' r e) ∙ (ap (λ z. Refusal t q z k') eu ∙ ap (λ z. Refusal t q u z) ek));
            master = subst (λ z. is_master scene z q ≡ true) en g;
          })
        where
          same_name : (i : ℕ) → t.node.0 ≡ i + 1 → t.seq ≡ b.place + 1 → (t' : TxId) → own_named (at_place scene i) t' d ≡ Some x → b.place ≡ t'.seq - 1 → t' ≡ t
          same_name i node seq t' r e = by_node (same_node t'.node (record { 0 = i + 1 })) refl r
            where
              by_node : (z : Bool) → same_node t'.node (record { 0 = i + 1 }) ≡ z → (if z then nth d.view.own t'.seq else None) ≡ Some x → t' ≡ t
              by_node true s g =
                  let n : t'.node.0 ≡ t.node.0 = eqb-true t'.node.0 (i + 1) s ∙ sym node in
                  let p = of_nth d.view.own t'.seq x g in
                  let at : b.place ≡ p.0 = e ∙ (ap (λ y. y - 1) p.1 ∙ add-sub_cancel p.0 1) in
                  let q : t'.seq ≡ t.seq = omega (arith, p.1, at, seq) in
                  λ y. record { node = record { 0 = n y }; seq = q y }
              by_node false s g = absurd (cc g)
      by_kind b (ab_lost q f es e c) = absurd (cc c)
      by_kind b (ab_late q fc f es e c) = absurd (cc c)
      by_kind b (ab_stop st ph e c) = absurd (cc c)
      by_kind b (ab_wish e f c) = absurd (cc c)

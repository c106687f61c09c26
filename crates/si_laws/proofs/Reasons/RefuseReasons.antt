-- A conflict by a Refuse has a true cause: the master sent it while the other's version stood there and was a reason.
use Rattle.std.proofs.Common.{Bool, List, None, Option, Some, [], ap, arith, eq-eqb, false, filter, find, if◌then◌else◌, inl, inr, length, ltb-true, nat_lt, not, refl, slice_get, subst, suc, sym, true, ℕ, ◌&&◌, ◌++◌, ◌+◌, ◌<◌, ◌∙◌, ◌∷◌, ◌≡◌, ◌≢◌, ◌||◌, ◌⊎◌}
use Rattle.str_base.specs.declared.names.Cause.{Cause}
use Rattle.str_base.specs.declared.names.Cause.TheVariants.{Conflict as ByConflict, Late as IsLate, Lost as IsLost, Wish}
use Rattle.str_base.specs.declared.names.KeyId.{KeyId}
use Rattle.str_base.specs.declared.names.Kind.{Kind}
use Rattle.str_base.specs.declared.names.Kind.TheVariants.{Final, Local as LocalKind, Pre}
use Rattle.str_base.specs.declared.names.NodeId.{NodeId}
use Rattle.str_base.specs.declared.names.TxId.{TxId}
use Rattle.str_base.specs.declared.names.Version.{Version}
use Rattle.str_base.specs.declared.names.Write.{Write}
use Rattle.str_base.specs.Versions.{chain, is_undecided, same_node}
use Rattle.str_scene.specs.declared.names.Event.{Event}
use Rattle.str_scene.specs.SceneLimits.{IsScene}
use Rattle.str_scene.specs.Scenes.{Here, Scene, in_part, is_master, part_of}
use Rattle.str_model.specs.declared.messages.Arrived.{Arrived}
use Rattle.str_model.specs.declared.messages.Body.TheVariants.{Refuse as Refusal}
use Rattle.str_model.specs.declared.messages.Input.{Input}
use Rattle.str_model.specs.declared.messages.Input.TheVariants.{Deliver}
use Rattle.str_model.specs.declared.messages.Message.{Message}
use Rattle.str_model.specs.declared.messages.Waiter.TheVariants.{Held}
use Rattle.str_model.specs.Owned.{Owns}
use Rattle.str_model.specs.Proposals.{MasterTurn, Refuse, master_parks, master_refuses, master_turn, refuses}
use Rattle.str_model.specs.Runs.{World, opening, run}
use Rattle.str_model.specs.Traces.{Happening, MomentAt, trace}
use Rattle.str_model.specs.Turns.{met}
use Rattle.str_model.specs.Views.{Doing, Own, View, lc_of, name_of}
use Rattle.str_model.proofs.Principle.SingleChanges.{Act, IsHere, IsMasters, Where, it_comes, it_waits}
use Rattle.str_model.proofs.Principle.Everywhere.{IsSeen, Sent, Stage, at_place, during, run-append, stage_of, stays_at}
use Rattle.str_model.proofs.Principle.LaterMoments.{Took, at_each_moment, moment_of, took, trace_prefix}
use Rattle.str_model.proofs.Principle.TraceEvents.{ends_slice}
use Rattle.si_laws.proofs.Reasons.CausesTrue.{Aborts, aborts_by, late_true, lost_true, wish_true}
use Rattle.si_laws.proofs.Reasons.ConflictReasons.{RefuseHere, conflict_true, wrote_final, wrote_is, written_moment}
use Rattle.si_laws.proofs.Stages.LinkedStates.{AreWrites, IsCertified, Linked, certified-lasts}
use Rattle.si_laws.proofs.Stages.AllLinksKept.{linked, linked_step}
use Rattle.str_model.proofs.OwnFacts.LocalOwners.{same_own}
use Rattle.si_laws.proofs.Reasons.MessagesSent.{SentBy, Sending, sending, sent_by}
use Rattle.str_model.proofs.Changes.OwnTurns.{own_change}
use Rattle.si_laws.proofs.Reasons.OthersNamed.{final_other}
use Rattle.si_laws.proofs.Reasons.WritersFirst.{gate_law}
use Rattle.si_laws.proofs.Scripts.ReadsEvaluate.{find_is}
use Rattle.si_laws.specs.Laws.Reasons.{ReasonsHold}
use Rattle.si_laws.specs.TrueCause.{AbortsAt, IsReason, IsTrue, TrueConflict}
use Rattle.str_base.proofs.SameNames.{same_key-is, same_part-is}
use Rattle.str_base.proofs.Lists.{get_set, got_set}
use Rattle.str_base.proofs.Members.{at_in, in_at, in_filter, in_flat_map, in_left, in_right}
use Rattle.str_base.specs.Members.{In}

-- ---- what the master has found

-- the version for which a Prepare is refused, and the write that it meets
pub record Found (v : View) (a : Arrived) (u : TxId) (k : KeyId) : Type 0 where
  pub version : Version
  pub member : In version v.versions
  pub tx : version.tx ≡ u
  pub key : version.key ≡ k
  pub reason : refuses a version ≡ true
  pub write : Write
  pub written : In write a.writes
  pub of_key : write.key ≡ k

refused_found : (v : View) (a : Arrived) (u : TxId) (k : KeyId) → master_turn v a ≡ Refuse u k → Found v a u k
unfolding master_turn
refused_found v a u k e = by_found (find (refuses a) (met a.writes v.versions)) refl e
  where
    by_limit : (b : Bool) (n : ℕ) → (if b then Rattle.str_model.specs.Proposals.Accept n else Rattle.str_model.specs.Proposals.Ignore) ≡ Refuse u k → ⊥
    by_limit true n q = cc q
    by_limit false n q = cc q

    by_parked : (o : Option Version) → master_parks v a o ≡ Refuse u k → ⊥
    by_parked (Some q) f = cc f
    by_parked None f = by_limit _ _ f

    by_found : (o : Option Version) → find (refuses a) (met a.writes v.versions) ≡ o → master_refuses v a o ≡ Refuse u k → Found v a u k
    by_found None f q = absurd (by_parked _ q)
    by_found (Some x) f q =
        let tx : x.tx ≡ u = cc q in
        let key : x.key ≡ k = cc q in
        let g = find_is (refuses a) (met a.writes v.versions) x f in
        let r = in_flat_map (λ (w : Write). chain w.key v.versions) a.writes x g.0 in
        let c = in_filter (λ (y : Version). Rattle.str_base.specs.Versions.same_key y.key r.0.key) v.versions x r.2 in
        record { version = x; member = c.0; tx = tx; key = key; reason = g.1; write = r.0; written = r.1; of_key = sym (same_key-is x.key r.0.key c.1) ∙ key }

-- it is a reason
reason_is : (t : TxId) (x : Own) (a : Arrived) (q : Version) → a.tx ≡ t → a.rs.0 ≡ x.snap.rs → refuses a q ≡ true → IsReason t x q
reason_is t x a q tx rs e = by_kind q.kind refl e
  where
    other : (b : Bool) → (not b || false) ≡ true → b ≡ false
    other false z = refl
    other true z = absurd (cc z)

    apart : same_node q.tx.node a.tx.node ≡ false → q.tx.node ≢ t.node
    apart f z = cc (eq-eqb q.tx.node.0 a.tx.node.0 (ap (λ (n : NodeId). n.0) z ∙ ap (λ (y : TxId). y.node.0) (sym tx)), f)

    by_kind : (k : Kind) → q.kind ≡ k → ((is_undecided k && not (same_node q.tx.node a.tx.node)) || (not (is_undecided k) && nat_lt a.rs.0 q.ts.0)) ≡ true → IsReason t x q
    by_kind Pre s f = inl ((λ z. cc (sym s ∙ z)), apart (other (same_node q.tx.node a.tx.node) f))
    by_kind LocalKind s f = inl ((λ z. cc (sym s ∙ z)), apart (other (same_node q.tx.node a.tx.node) f))
    by_kind Final s f = let lt : a.rs.0 < q.ts.0 = ltb-true a.rs.0 q.ts.0 f in inr (s, omega (arith, lt, rs))

-- ---- a certified transaction at its place

-- with these writes and this snapshot timestamp
abbrev pub CertAt : ℕ → ℕ → ℕ → List Write → View → Type 0
CertAt i rs lc ws v = (y : Own) × Owns v i y × (lc_of y.phase ≡ Some lc) × (y.writes ≡ ws) × (y.snap.rs ≡ rs)

cert-act : (i rs lc : ℕ) (ws : List Write) (here : Here) (input : Input) (w : Where) (d e : Doing) → Act here input w d e → CertAt i rs lc ws d.view → CertAt i rs lc ws e.view
cert-act i rs lc ws here input w d e act h =
    let r = certified-lasts here input d.view e.view i lc h.0 h.1 h.2 (own_change here input w d e act) in
    (r.y, r.own, r.lc_is, r.writes ∙ h.3, r.rs ∙ h.4)

-- what is told of a Prepare that is here
arrived_told : (scene : Scene) (s : Stage) (i : ℕ) (v : View) (input : Input) (d : Doing) (a : Arrived) → slice_get s.nodes i ≡ Some v → IsSeen s input → Linked scene (during s i d) → IsHere (at_place scene i) input d a
    → AreWrites scene (during s i d) a.tx a.part a.rs.0 a.lc.0 a.writes × IsMasters (at_place scene i) a
arrived_told scene s i v input d a is seen h (it_comes from c u p ms) =
    let t : Sent s c.0 = subst (IsSeen s) c.1 seen in
    let mem : In c.0 (s.sent ++ d.sent) = in_left s.sent d.sent c.0 (in_at s.sent t.0 c.0 t.1) in
    (subst (λ b. Rattle.si_laws.proofs.Stages.LinkedStates.Told scene (during s i d) c.0.sender c.0.receiver b) c.3 (h.told c.0 mem), ms)
arrived_told scene s i v input d a is seen h (it_waits before after q) =
    let there = get_set s.nodes i v d.view is in
    let mem : In (Held a) d.view.waiters = subst (In (Held a)) (sym q) (in_right before (Held a ∷ after) (Held a) (inl refl)) in
    ((h.held i d.view there a mem).0, h.master i d.view there a mem)

module _ (scene : Scene) (ok : IsScene scene) (es : List Event) where
  -- at the moment of a Refuse the transaction stands certified at its own node, not at the master
  pub record Asker (early : List Event) (j : ℕ) (h : Happening) (n : NodeId) (w : Took scene early j h n) (a : Arrived) : Type 0 where
    pub node : ℕ
    pub place : ℕ
    pub all : List Write
    pub view : View
    pub name : a.tx ≡ name_of (at_place scene node) place
    pub other : a.tx.node ≢ n
    pub writes : a.writes ≡ filter (in_part scene a.part) all
    pub there : slice_get (run scene early).nodes node ≡ Some view
    pub stands : CertAt place a.rs.0 a.lc.0 all view

  asker : (early : List Event) (j m : ℕ) (h : Happening) (n : NodeId) (w : Took scene early j h n) (d : Doing) (a : Arrived) → slice_get h.moments m ≡ Some d → IsHere (at_place scene w.takes.place) w.takes.input d a → Asker early j h n w a
  asker early j m h n w d a q p =
      let s : Stage = stage_of (run scene w.from.early) in
      let i = w.takes.place in
      let l : Linked scene (during s i d) =
      at_each_moment scene (Linked scene) (λ s i v input u d e is seen hs act k. linked_step scene s i v input u d e is seen act k) (linked scene []) early j m h n d w q in
      let t = arrived_told scene s i w.takes.view w.takes.input d a w.takes.is w.takes.seen l p in
      let c = t.0.1 in
      let foreign : a.tx.node ≢ n = λ z. cc (eq-eqb a.tx.node.0 (i + 1) (ap (λ (y : NodeId). y.0) (z ∙ w.node)), t.1.foreign) in
      by_place s i t.0.0 c t.0.2 foreign (ap (λ (y : NodeId). y.0) w.node) refl (got_set s.nodes i c.n d.view c.view c.there)
    where
      by_place : (s : Stage) (i : ℕ) (all : List Write) (c : IsCertified scene (during s i d) a.tx a.rs.0 a.lc.0 all) → a.writes ≡ filter (in_part scene a.part) all → a.tx.node ≢ n → n.0 ≡ i + 1 → s ≡ stage_of (run scene w.from.early)
          → ((c.n ≡ i) × (c.view ≡ d.view)) ⊎ ((c.n ≢ i) × (slice_get s.nodes c.n ≡ Some c.view)) → Asker early j h n w a
      by_place s i all c ws f at is (inl r) = absurd (f (λ z. record { 0 = (ap (λ (y : TxId). y.node.0) c.name ∙ (ap (λ k. k + 1) r.0 ∙ sym at)) z }))
      by_place s i all c ws f at is (inr r) =
          let back = stays_at scene ok (CertAt c.i a.rs.0 a.lc.0 all) (λ here good input u d e act k. cert-act c.i a.rs.0 a.lc.0 all here input u d e act k) c.n (run scene w.from.early) c.view (w.from.event ∷ w.from.late)
          (ap (λ (z : Stage). slice_get z.nodes c.n) (sym is) ∙ r.1) (c.x, c.own, c.lc_is, c.writes, c.rs_is) in
          record {
            node = c.n;
            place = c.i;
            all = all;
            view = back.view;
            name = c.name;
            other = f;
            writes = ws;
            there = ap (λ xs. slice_get (run scene xs).nodes c.n) w.from.all ∙ (ap (λ (z : World). slice_get z.nodes c.n) (run-append scene (opening scene) w.from.early (w.from.event ∷ w.from.late)) ∙ back.there);
            stands = back.fact;
          }

  -- a conflict by a Refuse
  refuse_true : (j : ℕ) (t : TxId) (d : Doing) (x : Own) (u : TxId) (k : KeyId) (n : NodeId) → AbortsAt (trace scene es) j t d x (ByConflict u k n) → RefuseHere scene ok es j t u k n
      → TrueConflict scene (run scene es) (trace scene es) j t d x u k n
  refuse_true j t d x u k n a r = by_sent (sent_by scene (opening scene) g.from.early r.message seen)
    where
      b : Aborts scene ok es j t d x (ByConflict u k n) a
      b = aborts_by scene ok es j t d x (ByConflict u k n) a

      g : Took scene es j a.before.0 t.node
      g = b.took_

      same : Some r.came.0 ≡ Some a.before.0
      same = sym r.came.1 ∙ a.before.1

      is_entry : r.came.0 ≡ a.before.0
      is_entry = cc same

      both : Some g.takes.input ≡ Some (Deliver r.message)
      both = sym g.takes.given ∙ (ap (λ (z : Happening). z.input) (sym is_entry) ∙ r.came.2)

      is_input : g.takes.input ≡ Deliver r.message
      is_input = cc both

      seen : In r.message (run scene g.from.early).sent
      seen = let s : Sent (stage_of (run scene g.from.early)) r.message = subst (IsSeen (stage_of (run scene g.from.early))) is_input g.takes.seen in in_at (run scene g.from.early).sent s.0 r.message s.1

      is_refusal : Rattle.si_laws.proofs.Reasons.WithoutRefuse.IsRefusal r.message.body
      is_refusal = subst Rattle.si_laws.proofs.Reasons.WithoutRefuse.IsRefusal (sym r.body) tt

      by_sent : SentBy scene (opening scene) g.from.early r.message ⊎ In r.message [] → TrueConflict scene (run scene es) (trace scene es) j t d x u k n
      by_sent (inr z) = absurd z
      by_sent (inl w) =
          let m : NodeId = record { 0 = w.place + 1 } in
          let e = took scene g.from.early w.event w.entry m w.there w.node in
          let z = sending scene g.from.early w.event w.entry m e r.message is_refusal (length w.ends.0) w.last (ends_slice w.entry.moments w.last w.ends) w.member in
          by_judge w e z
        where
          by_judge : (w : SentBy scene (opening scene) g.from.early r.message) (e : Took scene g.from.early w.event w.entry (record { 0 = w.place + 1 })) → Sending scene g.from.early w.event w.entry (record { 0 = w.place + 1 }) e r.message
              → TrueConflict scene (run scene es) (trace scene es) j t d x u k n
          by_judge w e z =
              let m : NodeId = record { 0 = w.place + 1 } in
              let c = z.judges in
              let p = asker g.from.early w.event z.moment w.entry m e z.there c.arrived z.first c.present in
              let f = refused_found z.there.view c.arrived c.by c.key c.turn in
              let body : Refusal c.arrived.tx c.arrived.part c.by c.key ≡ Refusal t r.part u k = ap (λ (y : Message). y.body) c.is ∙ r.body in
              let tx : c.arrived.tx ≡ t = cc body in
              let part : c.arrived.part ≡ r.part = cc body in
              let by : c.by ≡ u = cc body in
              let key : c.key ≡ k = cc body in
              let node : m ≡ n = e.node ∙ (ap (λ (y : Message). y.sender) c.is ∙ r.sender) in
              let full : slice_get (trace scene es) w.event ≡ Some w.entry =
              ap (λ xs. slice_get (trace scene xs) w.event) g.from.all ∙ trace_prefix scene (opening scene) g.from.early (g.from.event ∷ g.from.late) w.event w.entry w.there in
              let before : MomentAt (trace scene es) w.event z.moment m z.there = (w.entry, full, w.node, z.first) in
              let after : MomentAt (trace scene es) w.event (z.moment + 1) m z.next = (w.entry, full, w.node, ap (λ i. slice_get w.entry.moments i) (one z.moment) ∙ z.second) in
              let home : p.node ≡ g.takes.place = omega (arith, ap (λ (y : TxId). y.node.0) p.name, ap (λ (y : TxId). y.node.0) tx, ap (λ (y : NodeId). y.0) g.node) in
              let seq : p.place ≡ b.place = omega (arith, ap (λ (y : TxId). y.seq) p.name, ap (λ (y : TxId). y.seq) tx, b.seq) in
              let view : Some p.view ≡ Some g.takes.view = sym p.there ∙ (ap (λ i. slice_get (run scene g.from.early).nodes i) home ∙ g.takes.is) in
              let is : p.view ≡ g.takes.view = cc view in
              let now : CertAt p.place c.arrived.rs.0 c.arrived.lc.0 p.all d.view =
              moment_of scene es j a.moment a.before.0 t.node d g a.before.3 (λ y. CertAt p.place c.arrived.rs.0 c.arrived.lc.0 p.all y.view)
              (λ v y z act. cert-act p.place c.arrived.rs.0 c.arrived.lc.0 p.all (at_place scene g.takes.place) g.takes.input v y z act) (subst (CertAt p.place c.arrived.rs.0 c.arrived.lc.0 p.all) is p.stands) in
              let own : now.0 ≡ x = same_own d.view p.place b.place now.0 x now.1 b.owns seq in
              let rs : c.arrived.rs.0 ≡ x.snap.rs = sym now.4 ∙ ap (λ (y : Own). y.snap.rs) own in
              let all : p.all ≡ x.writes = sym now.3 ∙ ap (λ (y : Own). y.writes) own in
              let w' = in_filter (in_part scene c.arrived.part) p.all f.write (subst (In f.write) p.writes f.written) in
              let mine : In f.write x.writes = subst (In f.write) all w'.0 in
              let at : r.part ≡ part_of scene k = sym part ∙ (sym (same_part-is (part_of scene f.write.key) c.arrived.part w'.1) ∙ ap (part_of scene) (f.of_key ∙ key)) in
              let s = took scene es w.event w.entry m full w.node in
              let wrote = (written_moment scene ok es w.event z.moment m z.there before s).versions s.takes.place z.there.view f.version (get_set (run scene s.from.early).nodes s.takes.place s.takes.view z.there.view s.takes.is) f.member in
              let theirs = wrote_final scene ok es w.event z.moment m z.there before s f.version.tx f.version.key wrote in
              let place = at_in z.there.view.versions f.version f.member in
              let new = at_in z.new r.message z.member in
              let reason = reason_is t x c.arrived f.version tx rs f.reason in
              let vtx : f.version.tx ≡ u = f.tx ∙ by in
              let vkey : f.version.key ≡ k = f.key ∙ key in (
                (λ y. elim reason [
                  | inl o ↦ o.1 (ap (λ (q : TxId). q.node) (vtx ∙ y))
                  | inr o ↦ final_other scene ok es w.event z.moment j a.moment m t z.there d x f.version before a.before (subst (λ i. w.event < i) g.from.number w.earlier) f.member o.0 (vtx ∙ y)
                      (λ q. p.other (ap (λ (v : TxId). v.node) tx ∙ sym q)) b.place b.seq b.owns a.was_open
                ]),
                (wrote_is x k (f.write, mine, f.of_key ∙ key), theirs.0, subst (λ y. Rattle.si_laws.specs.Standing.Begun (run scene es) y theirs.0) vtx theirs.1, subst (Rattle.si_laws.specs.Standing.Wrote theirs.0) vkey theirs.2),
                inr (record {
                  master = subst (λ q. is_master scene n q ≡ true) at r.master;
                  elsewhere = λ y. p.other (ap (λ (q : TxId). q.node) tx ∙ (sym y ∙ sym node));
                  message = r.message;
                  came = r.came;
                  sender = r.sender;
                  body = r.body ∙ ap (λ q. Refusal t q u k) at;
                  sending = w.event;
                  earlier = subst (λ i. w.event < i) g.from.number w.earlier;
                  there = z.there;
                  sends = record {
                    moment = z.moment;
                    next = z.next;
                    new = z.new;
                    place = new.0;
                    before = subst (λ q. MomentAt (trace scene es) w.event z.moment q z.there) node before;
                    after = subst (λ q. MomentAt (trace scene es) w.event (z.moment + 1) q z.next) node after;
                    sent = z.are;
                    is_new = new.1;
                  };
                  version = f.version;
                  stood = (place.0, place.1, vtx, vkey);
                  reason = reason;
                }),
              )
            where
              one : (i : ℕ) → i + 1 ≡ suc i
              one i = omega arith

  -- each abort has the cause that its answer names
  cause_true : (j : ℕ) (t : TxId) (d : Doing) (x : Own) (cause : Cause) → AbortsAt (trace scene es) j t d x cause → IsTrue scene (run scene es) (trace scene es) j t d x cause
  cause_true j t d x (ByConflict u k n) a = elim (conflict_true scene ok es j t d x u k n a) [ inl c ↦ c | inr r ↦ refuse_true j t d x u k n a r ]
  cause_true j t d x (IsLost u) a = lost_true scene ok es j t d x u a
  cause_true j t d x (IsLate u ts) a = late_true scene ok es j t d x u ts a
  cause_true j t d x Wish a = wish_true scene ok es j t d x a

-- the law
pub reasons_hold : ReasonsHold
reasons_hold scene ok es = (gate_law scene ok es, cause_true scene ok es)

-- Where a reply was sent, its sender has the mark.
use Rattle.si_laws.proofs.Stages.LinkedStates.{one_of}
use Rattle.str_model.proofs.ViewFacts.MarksRise.{Rises, marked_now}
use Rattle.str_model.proofs.Changes.VersionChanges.{WaitStep, w_fewer, w_more, wait_step}
use Rattle.si_laws.proofs.Changes.ReadLetters.{ReadLetter, is_other, letters_act, marks_act, rl_commit, rl_other, rl_reply, rl_request}
use Rattle.si_laws.proofs.Stages.ParticipantSeats.{to_nth}
use Rattle.si_laws.proofs.Sessions.SessionHolds.{length_copies}
use Rattle.str_model.proofs.OwnFacts.PlacesInOrder.{get_set_cases}
use Rattle.str_model.proofs.Principle.SingleChanges.{Act, Arrives, ComesToRead, IsAsked, Where, a_prepare, a_read, asked_before, asked_now}
use Rattle.str_model.proofs.Principle.Everywhere.{IsSeen, Sent, Stage, at_place, during, everywhere, stage_of}
use Rattle.str_model.proofs.Changes.AnswerChanges.{TellStep, t_begins, t_decides, t_goes, t_rests, tell_step}
use Rattle.si_laws.proofs.Marks.ReadsAtMasters.{reply_master}
use Rattle.si_laws.specs.Laws.Marks.{IsReplyTo, MarkedByReply}
use Rattle.si_laws.specs.Standing.{Begun}
use Rattle.std.proofs.Common.{List, Option, Some, [], ap, arith, inl, inr, length, ltb-true, refl, replicate, slice_get, slice_set, subst, subst₂, sym, true, ℕ, ◌&&◌, ◌++◌, ◌+◌, ◌<◌, ◌∙◌, ◌∷◌, ◌≡◌, ◌≤◌}
use Rattle.str_base.specs.declared.names.KeyId.{KeyId}
use Rattle.str_base.specs.declared.names.NodeId.{NodeId}
use Rattle.str_base.specs.declared.names.Ts.{Ts}
use Rattle.str_base.specs.declared.names.TxId.{TxId}
use Rattle.str_base.specs.declared.names.Value.{Value}
use Rattle.str_base.specs.Versions.{mark_of, same_node, stamp}
use Rattle.str_model.specs.Acts.{decided_as, fresh}
use Rattle.str_model.specs.declared.messages.Body.{Body}
use Rattle.str_model.specs.declared.messages.Body.TheVariants.{Abort, Ack, Commit, Prepare, ReadReply, ReadReq, Refuse as Refusal, Replicate}
use Rattle.str_model.specs.declared.messages.Input.{Input}
use Rattle.str_model.specs.declared.messages.Message.{Message}
use Rattle.str_model.specs.declared.messages.Waiter.{Waiter}
use Rattle.str_model.specs.declared.messages.Waiter.TheVariants.{Read}
use Rattle.str_model.specs.Owned.{Owns}
use Rattle.str_model.specs.Runs.{World, opening, opening_view, run}
use Rattle.str_model.specs.Strange.{has_key, has_named, has_node}
use Rattle.str_model.specs.Strange
use Rattle.str_model.specs.Views.{Doing, Own, View, name_of}
use Rattle.str_scene.specs.declared.names.Event.{Event}
use Rattle.str_scene.specs.Scenes.{Here, Scene, is_master, nth, part_of}
use Rattle.str_base.proofs.Tests.{and_true_left, and_true_right}
use Rattle.str_base.proofs.Lists.{get_push, get_set, get_set_other, got_replicate, got_set}
use Rattle.str_base.proofs.Members.{in_append, in_at, in_left, in_right}
use Rattle.str_base.specs.Members.{In}

-- the transaction began with this timestamp
pub record HasRs (scene : Scene) (s : Stage) (tx : TxId) (rs : ℕ) : Type 0 where
  pub n : ℕ
  pub i : ℕ
  pub view : View
  pub x : Own
  pub there : slice_get s.nodes n ≡ Some view
  pub own : Owns view i x
  pub name : tx ≡ name_of (at_place scene n) i
  pub rs_is : x.snap.rs ≡ rs

-- the node has the mark for a read of the transaction
pub record Left (scene : Scene) (s : Stage) (from : NodeId) (tx : TxId) (k : KeyId) : Type 0 where
  pub rs : ℕ
  pub reader : HasRs scene s tx rs
  pub n : ℕ
  pub view : View
  pub node : from ≡ record { 0 = n + 1 }
  pub there : slice_get s.nodes n ≡ Some view
  pub mark : rs ≤ mark_of view.marks k

-- reads at other nodes
pub record FarReads (scene : Scene) (s : Stage) : Type 0 where
  pub marks : (n : ℕ) (v : View) → slice_get s.nodes n ≡ Some v → length v.marks ≡ length scene.keys.names
  pub requests : (m : Message) → In m s.sent → (tx : TxId) (k : KeyId) (rs : Ts) → m.body ≡ ReadReq tx k rs → HasRs scene s tx rs.0
  pub waiting : (n : ℕ) (v : View) → slice_get s.nodes n ≡ Some v → (tx : TxId) (k : KeyId) (rs : Ts) → In (Read tx k rs) v.waiters → HasRs scene s tx rs.0 × (rs.0 ≤ mark_of v.marks k)
  pub replies : (m : Message) → In m s.sent → (tx : TxId) (k : KeyId) (v : Value) (by : Option TxId) (fc : Ts) → m.body ≡ ReadReply tx k v by fc → Left scene s m.sender tx k

rs_set : (old new : List Own) (i j : ℕ) (x z y : Own) → slice_get old j ≡ Some z → y.snap.rs ≡ z.snap.rs → new ≡ slice_set old j y → slice_get old i ≡ Some x
    → (u : Own) × (slice_get new i ≡ Some u) × (u.snap.rs ≡ x.snap.rs)
rs_set old new i j x z y is q o own = elim (get_set_cases old j i y x own) [
  | inl h ↦ (let same : z ≡ x = one_of z x (slice_get old i) (ap (λ k. slice_get old k) h.0 ∙ is) own in
      (y, subst (λ (xs : List Own). slice_get xs i ≡ Some y) (sym o) h.1, q ∙ ap (λ (u : Own). u.snap.rs) same))
  | inr h ↦ (x, subst (λ (xs : List Own). slice_get xs i ≡ Some x) (sym o) h.1, refl)
]

-- an own transaction keeps its timestamp
pub rs_stays : (here : Here) (d e : Doing) (i : ℕ) (x : Own) → TellStep here d e → Owns d.view i x → (y : Own) × Owns e.view i y × (y.snap.rs ≡ x.snap.rs)
rs_stays here d e i x (t_rests o r) own = (x, subst (λ (xs : List Own). slice_get xs i ≡ Some x) (sym o) own, refl)
rs_stays here d e i x (t_begins place rs b o r) own = (x, subst (λ (xs : List Own). slice_get xs i ≡ Some x) (sym o) (get_push d.view.own i (fresh place rs) x own), refl)
rs_stays here d e i x (t_goes j z y is f g p q o r) own = rs_set d.view.own e.view.own i j x z y is q o own
rs_stays here d e i x (t_decides j z p is f g o r) own = rs_set d.view.own e.view.own i j x z (decided_as p z) is refl o own

module _ (scene : Scene) (s : Stage) (i : ℕ) (v : View) (input : Input) (w : Where) (d e : Doing) (is : slice_get s.nodes i ≡ Some v) (seen : IsSeen s input) (act : Act (at_place scene i) input w d e) where
  pub has_rs_stays : (tx : TxId) (rs : ℕ) → HasRs scene (during s i d) tx rs → HasRs scene (during s i e) tx rs
  has_rs_stays tx rs c = elim (got_set s.nodes i c.n d.view c.view c.there) [
    | inl p ↦ (let own : Owns d.view c.i c.x = subst (λ (u : View). Owns u c.i c.x) p.1 c.own in
        let r = rs_stays (at_place scene i) d e c.i c.x (tell_step (at_place scene i) input w d e act) own in
        record {
          n = c.n;
          i = c.i;
          view = e.view;
          x = r.0;
          there = subst (λ (k : ℕ). slice_get (slice_set s.nodes i e.view) k ≡ Some e.view) (sym p.0) (get_set s.nodes i v e.view is);
          own = r.1;
          name = c.name;
          rs_is = r.2 ∙ c.rs_is;
        })
    | inr q ↦ record { n = c.n; i = c.i; view = c.view; x = c.x; there = get_set_other s.nodes i c.n e.view q.0 ∙ q.1; own = c.own; name = c.name; rs_is = c.rs_is }
  ]

  left_stays : (from : NodeId) (tx : TxId) (k : KeyId) → Left scene (during s i d) from tx k → Left scene (during s i e) from tx k
  left_stays from tx k c = elim (got_set s.nodes i c.n d.view c.view c.there) [
    | inl p ↦ (let up = (marks_act (at_place scene i) input w d e act).above k in
        let old : c.rs ≤ mark_of d.view.marks k = subst (λ (u : View). c.rs ≤ mark_of u.marks k) p.1 c.mark in
        record {
          rs = c.rs;
          reader = has_rs_stays tx c.rs c.reader;
          n = c.n;
          view = e.view;
          node = c.node;
          there = subst (λ (k : ℕ). slice_get (slice_set s.nodes i e.view) k ≡ Some e.view) (sym p.0) (get_set s.nodes i v e.view is);
          mark = omega (arith, old, up);
        })
    | inr q ↦ record { rs = c.rs; reader = has_rs_stays tx c.rs c.reader; n = c.n; view = c.view; node = c.node; there = get_set_other s.nodes i c.n e.view q.0 ∙ q.1; mark = c.mark }
  ]

  module _ (h : FarReads scene (during s i d)) where
    there_d : slice_get (slice_set s.nodes i d.view) i ≡ Some d.view
    there_d = get_set s.nodes i v d.view is

    there_e : slice_get (slice_set s.nodes i e.view) i ≡ Some e.view
    there_e = get_set s.nodes i v e.view is

    up : Rises d.view.marks e.view.marks
    up = marks_act (at_place scene i) input w d e act

    -- a read that has come is of a transaction with this timestamp, and its key is one of the scene
    come_rs : (from : NodeId) (tx : TxId) (k : KeyId) (t : Ts) → ComesToRead (at_place scene i) input d from tx k t → HasRs scene (during s i d) tx t.0 × (t.0 ≤ mark_of d.view.marks k)
    come_rs from tx k t c =
        let g : Sent s c.0 = subst (IsSeen s) c.1 seen in
        let there : In c.0 s.sent = in_at s.sent g.0 c.0 g.1 in
        let named : has_named (at_place scene i) c.0.body ≡ true = and_true_right (has_node (at_place scene i) c.0.sender) (has_named (at_place scene i) c.0.body)
        (and_true_right (same_node c.0.receiver (at_place scene i).node) (has_node (at_place scene i) c.0.sender && has_named (at_place scene i) c.0.body) c.4) in
        let named' : has_named (at_place scene i) (ReadReq tx k t) ≡ true = ap (has_named (at_place scene i)) (sym c.3) ∙ named in
        let key : has_key (at_place scene i) k ≡ true = and_true_left (has_key (at_place scene i) k) (Strange.below_limit t) (and_true_right (has_node (at_place scene i) tx.node) (has_key (at_place scene i) k && Strange.below_limit t) named') in
        let less : k.0 < length scene.keys.names = ltb-true k.0 (length scene.keys.names) key in
        (h.requests c.0 (in_left s.sent d.sent c.0 there) tx k t c.3, marked_now d.view k t.0 (omega (arith, less, h.marks i d.view there_d)) c.5)

    asked_rs : (tx : TxId) (k : KeyId) (rs : ℕ) → IsAsked (at_place scene i) input d tx k rs → HasRs scene (during s i d) tx rs × (rs ≤ mark_of d.view.marks k)
    asked_rs tx k rs (asked_now from t q c) = subst (λ (r : ℕ). HasRs scene (during s i d) tx r × (r ≤ mark_of d.view.marks k)) q (come_rs from tx k t c)
    asked_rs tx k rs (asked_before t q j) = subst (λ (r : ℕ). HasRs scene (during s i d) tx r × (r ≤ mark_of d.view.marks k)) q (h.waiting i d.view there_d tx k t j)

    request_e : (m : Message) → In m (s.sent ++ e.sent) → (tx : TxId) (k : KeyId) (rs : Ts) → m.body ≡ ReadReq tx k rs → HasRs scene (during s i e) tx rs.0
    request_e m j tx k rs q = elim (in_append s.sent e.sent m j) [
      | inl z ↦ has_rs_stays tx rs.0 (h.requests m (in_left s.sent d.sent m z) tx k rs q)
      | inr z ↦ (elim (letters_act (at_place scene i) input w d e act m z) [
        | inl y ↦ has_rs_stays tx rs.0 (h.requests m (in_right s.sent d.sent m y) tx k rs q)
        | inr y ↦ fresh_ y
      ])
    ]
      where
        fresh_ : ReadLetter (at_place scene i) input d e m → HasRs scene (during s i e) tx rs.0
        fresh_ (rl_request n l x own to b) =
            let same : ReadReq (name_of (at_place scene i) n) l (stamp x.snap.rs) ≡ ReadReq tx k rs = sym b ∙ q in
            let name : name_of (at_place scene i) n ≡ tx = cc same in
            let time : x.snap.rs ≡ rs.0 = cc same in
            has_rs_stays tx rs.0 (record { n = i; i = n; view = d.view; x = x; there = there_d; own = own; name = sym name; rs_is = time })
        fresh_ (rl_reply t l r a by fc g f b z) = absurd (cc (b, q))
        fresh_ (rl_commit n lc fc x a own f g r b) = absurd (cc (b, q))
        fresh_ (rl_other b) = absurd (cc (ap is_other q, b))

    reply_e : (m : Message) → In m (s.sent ++ e.sent) → (tx : TxId) (k : KeyId) (a : Value) (by : Option TxId) (fc : Ts) → m.body ≡ ReadReply tx k a by fc → Left scene (during s i e) m.sender tx k
    reply_e m j tx k a by fc q = elim (in_append s.sent e.sent m j) [
      | inl z ↦ left_stays m.sender tx k (h.replies m (in_left s.sent d.sent m z) tx k a by fc q)
      | inr z ↦ (elim (letters_act (at_place scene i) input w d e act m z) [
        | inl y ↦ left_stays m.sender tx k (h.replies m (in_right s.sent d.sent m y) tx k a by fc q)
        | inr y ↦ fresh_ y
      ])
    ]
      where
        fresh_ : ReadLetter (at_place scene i) input d e m → Left scene (during s i e) m.sender tx k
        fresh_ (rl_request n l x own to b) = absurd (cc (b, q))
        fresh_ (rl_reply t l r c u gc g f b z) =
            let same : ReadReply t l c u (stamp gc) ≡ ReadReply tx k a by fc = sym b ∙ q in
            let tx_is : t ≡ tx = cc same in
            let key_is : l ≡ k = cc same in
            let x = asked_rs t l r g.was_asked in
            let old : Left scene (during s i d) m.sender t l = record { rs = r; reader = x.0; n = i; view = d.view; node = f; there = there_d; mark = x.1 } in
            left_stays m.sender tx k (subst₂ (λ (y : TxId) (z : KeyId). Left scene (during s i d) m.sender y z) tx_is key_is old)
        fresh_ (rl_commit n lc gc x c own f g r b) = absurd (cc (b, q))
        fresh_ (rl_other b) = absurd (cc (ap is_other q, b))

    wait_e : (tx : TxId) (k : KeyId) (rs : Ts) → WaitStep (at_place scene i) input d e → In (Read tx k rs) e.view.waiters → HasRs scene (during s i e) tx rs.0 × (rs.0 ≤ mark_of e.view.marks k)
    wait_e tx k rs (w_fewer f) j = kept_ (h.waiting i d.view there_d tx k rs (f (Read tx k rs) j))
      where
        kept_ : HasRs scene (during s i d) tx rs.0 × (rs.0 ≤ mark_of d.view.marks k) → HasRs scene (during s i e) tx rs.0 × (rs.0 ≤ mark_of e.view.marks k)
        kept_ r = let a = up.above k in (has_rs_stays tx rs.0 r.0, omega (arith, a, r.1))
    wait_e tx k rs (w_more r c q) j = elim (in_append d.view.waiters (r ∷ []) (Read tx k rs) (subst (In (Read tx k rs)) q j)) [
      | inl z ↦ kept_ (h.waiting i d.view there_d tx k rs z)
      | inr z ↦ (elim z [ inl y ↦ arrived r c y | inr y ↦ absurd y ])
    ]
      where
        kept_ : HasRs scene (during s i d) tx rs.0 × (rs.0 ≤ mark_of d.view.marks k) → HasRs scene (during s i e) tx rs.0 × (rs.0 ≤ mark_of e.view.marks k)
        kept_ r = let a = up.above k in (has_rs_stays tx rs.0 r.0, omega (arith, a, r.1))

        arrived : (r : Waiter) → Arrives (at_place scene i) input d r → r ≡ Read tx k rs → HasRs scene (during s i e) tx rs.0 × (rs.0 ≤ mark_of e.view.marks k)
        arrived r (a_read from t l u c) y =
            let tx_is : t ≡ tx = cc y in
            let key_is : l ≡ k = cc y in
            let rs_is : u.0 ≡ rs.0 = cc y in
            let g = come_rs from t l u c in
            let g' : HasRs scene (during s i d) tx u.0 × (u.0 ≤ mark_of d.view.marks k) = subst₂ (λ (a : TxId) (b : KeyId). HasRs scene (during s i d) a u.0 × (u.0 ≤ mark_of d.view.marks b)) tx_is key_is g in
            kept_ (subst (λ (r : ℕ). HasRs scene (during s i d) tx r × (r ≤ mark_of d.view.marks k)) rs_is g')
        arrived r (a_prepare from a c u z m) y = absurd (cc y)

    pub far_step : FarReads scene (during s i e)
    far_step = record {
      marks = λ n u g. elim (got_set s.nodes i n e.view u g) [
        | inl q ↦ (let l = h.marks i d.view there_d in omega (arith, ap (λ (z : View). length z.marks) q.1, up.same_length, l))
        | inr q ↦ h.marks n u (get_set_other s.nodes i n d.view q.0 ∙ q.1)
      ];
      requests = request_e;
      waiting = λ n u g tx k rs j. elim (got_set s.nodes i n e.view u g) [
        | inl q ↦ subst (λ (z : View). HasRs scene (during s i e) tx rs.0 × (rs.0 ≤ mark_of z.marks k)) (sym q.1)
            (wait_e tx k rs (wait_step (at_place scene i) input w d e act) (subst (λ (z : View). In (Read tx k rs) z.waiters) q.1 j))
        | inr q ↦ (let r = h.waiting n u (get_set_other s.nodes i n d.view q.0 ∙ q.1) tx k rs j in (has_rs_stays tx rs.0 r.0, r.1))
      ];
      replies = reply_e;
    }

pub far_opening : (scene : Scene) → FarReads scene (stage_of (opening scene))
far_opening scene = record {
  marks = λ n v g. ap (λ (z : View). length z.marks) (empty n v g) ∙ length_copies (length scene.keys.names) 0;
  requests = λ m k. absurd k;
  waiting = λ n v g tx k rs j. absurd (subst (λ (z : View). In (Read tx k rs) z.waiters) (empty n v g) j);
  replies = λ m k. absurd k;
}
  where
    empty : (n : ℕ) (v : View) → slice_get (replicate scene.nodes (opening_view scene)) n ≡ Some v → v ≡ opening_view scene
    empty n v g = got_replicate scene.nodes n (opening_view scene) v g

pub far_reads : (scene : Scene) (es : List Event) → FarReads scene (stage_of (run scene es))
far_reads scene es = everywhere scene (FarReads scene) (λ s i v input w d e is seen hs a h. far_step scene s i v input w d e is seen a h) (far_opening scene) es

-- the timestamp of a transaction that began
pub rs_of : (scene : Scene) (w : World) (t : TxId) (x : Own) (rs : ℕ) → Begun w t x → HasRs scene (stage_of w) t rs → x.snap.rs ≡ rs
rs_of scene w t x rs b h =
    let at : nth w.nodes (h.n + 1) ≡ Some b.0 = ap (λ (z : TxId). nth w.nodes z.node.0) (sym h.name) ∙ b.1 in
    let view : b.0 ≡ h.view = one_of b.0 h.view (nth w.nodes (h.n + 1)) at (to_nth w.nodes h.n h.view h.there) in
    let own : nth h.view.own (h.i + 1) ≡ Some x = subst₂ (λ (u : View) (k : ℕ). nth u.own k ≡ Some x) view (ap (λ (z : TxId). z.seq) h.name) b.2 in
    let same : x ≡ h.x = one_of x h.x (nth h.view.own (h.i + 1)) own (to_nth h.view.own h.i h.x h.own) in
    ap (λ (z : Own). z.snap.rs) same ∙ h.rs_is

pub marked_by_reply : (scene : Scene) (es : List Event) → MarkedByReply scene (run scene es)
marked_by_reply scene es i m t x k sent is b = by_body m.body refl is
  where
    by_left : Left scene (stage_of (run scene es)) m.sender t k → (v : View) × (nth (run scene es).nodes m.sender.0 ≡ Some v) × (x.snap.rs ≤ mark_of v.marks k)
    by_left l =
        let r = rs_of scene (run scene es) t x l.rs b l.reader in
        let there : nth (run scene es).nodes m.sender.0 ≡ Some l.view = ap (λ (z : NodeId). nth (run scene es).nodes z.0) l.node ∙ to_nth (run scene es).nodes l.n l.view l.there in
        (l.view, there, omega (arith, r, l.mark))

    by_body : (body : Body) → m.body ≡ body → IsReplyTo body t k → (is_master scene m.sender (part_of scene k) ≡ true) × ((v : View) × (nth (run scene es).nodes m.sender.0 ≡ Some v) × (x.snap.rs ≤ mark_of v.marks k))
    by_body (ReadReply u l a by fc) q (e, f) = (
      subst (λ z. is_master scene m.sender (part_of scene z) ≡ true) f (reply_master scene es m (in_at (run scene es).sent i m sent) u l a by fc q),
      by_left (subst₂ (λ (y : TxId) (z : KeyId). Left scene (stage_of (run scene es)) m.sender y z) e f ((far_reads scene es).replies m (in_at (run scene es).sent i m sent) u l a by fc q)),
    )
    by_body (ReadReq u l rs) q z = absurd z
    by_body (Prepare u p rs lc ws) q z = absurd z
    by_body (Refusal u p by l) q z = absurd z
    by_body (Replicate u p rs lc ws) q z = absurd z
    by_body (Ack u p ts) q z = absurd z
    by_body (Commit u p fc ms) q z = absurd z
    by_body (Abort u p) q z = absurd z

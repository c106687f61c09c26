-- Each single change keeps what messages, replicas and origins have to do with one another: parked Prepares, answers and Pre versions, and all of it.
use Rattle.partition_map.specs.declared.rows.Asked.{Asked}
use Rattle.si_laws.proofs.Stages.AcksKnown.{comes_some}
use Rattle.si_laws.proofs.Stages.PreAsked.{pre_from}
use Rattle.str_model.proofs.OwnFacts.HomeFinals.{finals-step}
use Rattle.str_model.specs.NodeFacts.{AllHaveFinals}
use Rattle.str_model.proofs.OwnFacts.AtHome.{AckStep, AtHome, a_new, a_old, acked_parts, asked_part, home-step}
use Rattle.si_laws.proofs.Stages.LinkedStates.{AckSent, AreWrites, Linked}
use Rattle.si_laws.proofs.Stages.LinksKept.{came, came_told, known_by_commit, node_e, placed_unknown, sent_more, there_d, told_e, writes_stay}
use Rattle.str_model.proofs.Changes.PairWords.{unasked_none, Has, same_pair}
use Rattle.str_model.proofs.Changes.PairChanges.{AtMaster, DoneNow, Knows, Quiet, d_aborts, d_commits, d_refused, d_was, done_back, one_pair, quiet_step}
use Rattle.str_model.proofs.Changes.VersionChanges.{WaitStep, by_master, version_step, w_fewer, w_more, wait_step}
use Rattle.str_model.proofs.Changes.OwnTurns.{OwnChange, o_aborts, o_acks, o_asks, o_begins, o_certifies, o_closes, o_commits, o_puts, o_rests, own_change}
use Rattle.str_model.proofs.Principle.SingleChanges.{Act, Arrives, IsMasters, Where, a_prepare, a_read}
use Rattle.str_model.proofs.Principle.Everywhere.{IsSeen, Stage, at_place, during, everywhere, stage_of}
use Rattle.std.proofs.Common.{List, Some, [], ap, arith, eqb-true, filter, inl, inr, map, not, refl, replicate, slice_get, slice_set, subst, subst₂, sym, true, ℕ, ◌&&◌, ◌+◌, ◌∙◌, ◌∷◌, ◌≡◌, ◌≢◌}
use Rattle.str_base.specs.Versions.{of_pair, same_part, same_tx, settled, without}
use Rattle.str_base.specs.declared.names.Kind.TheVariants.{Pre}
use Rattle.str_base.specs.declared.names.NodeId.{NodeId}
use Rattle.str_base.specs.declared.names.PartId.{PartId}
use Rattle.str_base.specs.declared.names.Ts.{Ts}
use Rattle.str_base.specs.declared.names.TxId.{TxId}
use Rattle.str_base.specs.declared.names.Version.{Version}
use Rattle.str_base.specs.declared.names.Write.{Write}
use Rattle.str_model.specs.Acts.{fresh, with_asked}
use Rattle.str_model.specs.Owned.{Owns}
use Rattle.str_model.specs.Proposals.{is_pair}
use Rattle.str_model.specs.Runs.{opening, opening_view, run}
use Rattle.str_model.specs.Views.{Doing, Global, Own, View, name_of}
use Rattle.str_model.specs.declared.messages.Arrived.{Arrived}
use Rattle.str_model.specs.declared.messages.Body.TheVariants.{Ack, Prepare}
use Rattle.str_model.specs.declared.messages.Input.{Input}
use Rattle.str_model.specs.declared.messages.Waiter.TheVariants.{Held}
use Rattle.str_model.specs.declared.messages.Waiter.{Waiter}
use Rattle.str_scene.specs.Scenes.{Scene}
use Rattle.str_scene.specs.declared.names.Event.{Event}
use Rattle.str_base.proofs.Lists.{got_push, got_replicate, got_set}
use Rattle.str_base.proofs.Members.{in_append, in_filter, in_insert_all, in_left, in_map}
use Rattle.str_base.specs.Members.{In}

module _ (scene : Scene) (s : Stage) (i : ℕ) (v : View) (input : Input) (w : Where) (d e : Doing) (is : slice_get s.nodes i ≡ Some v) (seen : IsSeen s input) (act : Act (at_place scene i) input w d e)
    (h : Linked scene (during s i d)) where
  -- ---- parked Prepares

  AreHeld : Arrived → Type 0
  AreHeld a = AreWrites scene (during s i e) a.tx a.part a.rs.0 a.lc.0 a.writes × ((x : Write) × In x a.writes)

  held_e : (a : Arrived) → WaitStep (at_place scene i) input d e → In (Held a) e.view.waiters → AreHeld a × IsMasters (at_place scene i) a
  unfolding AreHeld
  held_e a (w_fewer f) k =
      let r = h.held i d.view (there_d scene s i v input w d e is seen act h) a (f (Held a) k) in ((writes_stay scene s i v input w d e is seen act h a.tx a.part a.rs.0 a.lc.0 a.writes r.0, r.1), h.master i d.view (there_d scene s i v input w d e is seen act h) a (f (Held a) k))
  held_e a (w_more r c q) k = elim (in_append d.view.waiters (r ∷ []) (Held a) (subst (In (Held a)) q k)) [
    | inl j ↦ (let z = h.held i d.view (there_d scene s i v input w d e is seen act h) a j in ((writes_stay scene s i v input w d e is seen act h a.tx a.part a.rs.0 a.lc.0 a.writes z.0, z.1), h.master i d.view (there_d scene s i v input w d e is seen act h) a j))
    | inr j ↦ (elim j [ inl g ↦ arrived r c g | inr z ↦ absurd z ])
  ]
    where
      arrived : (r : Waiter) → Arrives (at_place scene i) input d r → r ≡ Held a → AreHeld a × IsMasters (at_place scene i) a
      arrived r (a_read from tx k rs c) g = absurd (cc g)
      arrived r (a_prepare from b c u z m) g =
          let same : b ≡ a = cc g in
          let ws = writes_stay scene s i v input w d e is seen act h b.tx b.part b.rs.0 b.lc.0 b.writes (came_told scene s i v input w d e is seen act h from (Prepare b.tx b.part b.rs b.lc b.writes) c) in
          let some = comes_some (at_place scene i) input w from b (Prepare b.tx b.part b.rs b.lc b.writes) c refl in
          subst (λ (y : Arrived). (AreWrites scene (during s i e) y.tx y.part y.rs.0 y.lc.0 y.writes × ((x : Write) × In x y.writes)) × IsMasters (at_place scene i) y) same ((ws, some), m)

  -- ---- answers

  ack_more : (tx : TxId) (p : PartId) (from : NodeId) (ts : Ts) → AckSent (during s i d) tx p from ts → AckSent (during s i e) tx p from ts
  ack_more tx p from ts k = record { message = k.message; sent = sent_more scene s i v input w d e is seen act h k.message k.sent; sender = k.sender; body = k.body }

  -- the answers of an own transaction were sent
  AreSent : ℕ → List Asked → Type 0
  AreSent j parts = (a : Asked) → In a parts → (ts : Ts) → a.ack ≡ Some ts → AckSent (during s i e) (name_of (at_place scene i) j) a.part a.node ts

  old_acks : (j : ℕ) (x : Own) → Owns d.view j x → AreSent j x.parts
  unfolding AreSent
  old_acks j x own a k ts q = ack_more (name_of (at_place scene i) j) a.part a.node ts (h.acks i d.view (there_d scene s i v input w d e is seen act h) j x own a k ts q)

  set_acks : (k : ℕ) (y : Own) → e.view.own ≡ slice_set d.view.own k y → AreSent k y.parts → (j : ℕ) (z : Own) → Owns e.view j z → AreSent j z.parts
  set_acks k y q new j z own = elim (got_set d.view.own k j y z (subst (λ (xs : List Own). slice_get xs j ≡ Some z) q own)) [
    | inl p ↦ subst₂ (λ (n : ℕ) (u : Own). AreSent n u.parts) (sym p.0) (sym p.1) new
    | inr p ↦ old_acks j z p.1
  ]

  acks_e : OwnChange (at_place scene i) input d.view e.view → (j : ℕ) (z : Own) → Owns e.view j z → AreSent j z.parts
  unfolding AreSent
  acks_e (o_rests q) j z own = old_acks j z (subst (λ (xs : List Own). slice_get xs j ≡ Some z) q own)
  acks_e (o_begins place rs q) j z own = elim (got_push d.view.own j (fresh place rs) z (subst (λ (xs : List Own). slice_get xs j ≡ Some z) q own)) [
    | inl p ↦ (λ a k ts r. absurd (subst (λ (u : Own). In a u.parts) p.1 k))
    | inr p ↦ old_acks j z p
  ]
  acks_e (o_puts k x y o g q) j z own = set_acks k y q (subst (λ (ps : List Asked). AreSent k ps) (sym g.same_parts) (old_acks k x o)) j z own
  acks_e (o_certifies k lc snap x o f n r q t) j z own =
      set_acks k _ q (λ a m ts u. absurd (unasked_none scene (at_place scene i).node x.writes a ts m u)) j z own
  acks_e (o_asks k lc p x o f l q) j z own =
      set_acks k (record x { parts = with_asked p x.parts; phase = Global lc }) q (λ a m ts u. let b = asked_part p x.parts a m in
      subst₂ (λ (r : PartId) (n : NodeId). AckSent (during s i e) (name_of (at_place scene i) k) r n ts) (sym b.2) (sym b.3) (old_acks k x o b.0 b.1 ts (sym b.4 ∙ u))) j z own
  acks_e (o_acks k lc from tx p ts parts x o c g b q) j z own = set_acks k (record x { parts = parts }) q (λ a m t u. by_new a ((acked_parts x.parts p from ts.0 parts b.parts_are).each a m) t u) j z own
    where
      by_new : (a : Asked) → AckStep from p ts.0 x.parts a → (t : Ts) → a.ack ≡ Some t → AckSent (during s i e) (name_of (at_place scene i) k) a.part a.node t
      by_new a (a_old m) t u = old_acks k x o a m t u
      by_new a (a_new y m sp sn r) t u =
          let part : a.part ≡ p = ap (λ (z : Asked). z.part) r ∙ (λ j. record { 0 = eqb-true y.part.0 p.0 sp j }) in
          let node : a.node ≡ from = ap (λ (z : Asked). z.node) r ∙ (λ j. record { 0 = eqb-true y.node.0 from.0 sn j }) in
          let both : Some ts ≡ Some t = sym (ap (λ (z : Asked). z.ack) r) ∙ u in
          let time : ts ≡ t = cc both in
          record {
            message = c.0;
            sent = in_left s.sent e.sent c.0 (came scene s i v input w d e is seen act h c.0 c.1);
            sender = c.2 ∙ sym node;
            body = c.3 ∙ (λ j. Ack (b.named j) (sym part j) (time j));
          }
  acks_e (o_aborts k cause x o f q) j z own = set_acks k _ q (old_acks k x o) j z own
  acks_e (o_commits k lc fc x o f l gate q t) j z own = set_acks k _ q (old_acks k x o) j z own
  acks_e (o_closes k x o p q) j z own = set_acks k _ q (old_acks k x o) j z own

  -- ---- Pre versions

  pres_e : (q : Version) → In q e.view.versions → q.kind ≡ Pre → Has (is_pair q.tx q.part) e.view.done → ⊥
  pres_e q k pre dn = by_done (done_back (at_place scene i) input w q.tx q.part d e act dn)
    where
      self : (t : TxId) (r : PartId) → (same_tx t q.tx && same_part r q.part) ≡ true → of_pair t r q ≡ true
      self t r same = let o = one_pair t q.tx r q.part same in
          subst₂ (λ a b. of_pair a b q ≡ true) (sym o.0) (sym o.1) (same_pair q.tx q.tx q.part q.part (record { node = refl; seq = refl; part = refl }))

      not_left : (t : TxId) (r : PartId) → (same_tx t q.tx && same_part r q.part) ≡ true → In q (without (of_pair t r) d.view.versions) → ⊥
      not_left t r same j = let f = (in_filter (λ (x : Version). not (of_pair t r x)) d.view.versions q j).1 in absurd (cc (ap not (self t r same), f))

      knows_of : (a : Arrived) → (same_tx a.tx q.tx && same_part a.part q.part) ≡ true → Knows q.tx q.part d.view → Knows a.tx a.part d.view
      knows_of a same n = let o = one_pair a.tx q.tx a.part q.part same in subst₂ (λ t r. Knows t r d.view) (sym o.0) (sym o.1) n

      by_done : DoneNow (at_place scene i) input w q.tx q.part d.view e.view d → ⊥
      by_done (d_was n) = elim (pre_from (at_place scene i) input d e q (version_step (at_place scene i) input w d e act) k pre) [
        | inl j ↦ h.pres i d.view (there_d scene s i v input w d e is seen act h) q j pre n
        | inr r ↦ placed_unknown scene s i v input w d e is seen act h r.0 r.1 (subst₂ (λ t u. Knows t u d.view) r.2 r.3 (inl n))
      ]
      by_done (d_refused a hh same r) =
          let j : In q d.view.versions = subst (λ (vs : List Version). In q vs) r k in
          placed_unknown scene s i v input w d e is seen act h a (by_master hh) (knows_of a same (inr (q, j, same_pair q.tx q.tx q.part q.part (record { node = refl; seq = refl; part = refl }))))
      by_done (d_commits t u fc same r) =
          elim (in_insert_all (map (settled fc) (filter (of_pair t u) d.view.versions)) (without (of_pair t u) d.view.versions) q (subst (λ (vs : List Version). In q vs) r k)) [
            | inl j ↦ (let m = in_map (settled fc) (filter (of_pair t u) d.view.versions) q j in absurd (cc (ap (λ (z : Version). z.kind) m.2, pre)))
            | inr j ↦ not_left t u same j
          ]
      by_done (d_aborts t u same r) = not_left t u same (subst (λ (vs : List Version). In q vs) r k)

  -- ---- all of it

  pub linked_step : Linked scene (during s i e)
  unfolding AreSent AreHeld
  linked_step = record {
    home = λ n u g. elim (node_e scene s i v input w d e is seen act h n u g) [
      | inl q ↦ subst₂ (λ (k : ℕ) (z : View). AtHome (at_place scene k) z) (sym q.0) (sym q.1) (home-step (at_place scene i) input w d e act (h.home i d.view (there_d scene s i v input w d e is seen act h)))
      | inr q ↦ h.home n u q.1
    ];
    home_finals = λ n u g. elim (node_e scene s i v input w d e is seen act h n u g) [
      | inl q ↦ (let there = there_d scene s i v input w d e is seen act h in
          subst₂ (λ (k : ℕ) (z : View). AllHaveFinals (at_place scene k) z) (sym q.0) (sym q.1) (finals-step (at_place scene i) input w d e act (h.home i d.view there) (h.home_finals i d.view there)))
      | inr q ↦ h.home_finals n u q.1
    ];
    master = λ n u g. elim (node_e scene s i v input w d e is seen act h n u g) [
      | inl q ↦ subst₂ (λ (k : ℕ) (z : View). AtMaster (at_place scene k) z) (sym q.0) (sym q.1) (λ a k. (held_e a (wait_step (at_place scene i) input w d e act) k).1)
      | inr q ↦ h.master n u q.1
    ];
    quiet = λ n u g tx p other. elim (node_e scene s i v input w d e is seen act h n u g) [
      | inl q ↦ (let other_i : tx.node.0 ≢ i + 1 = λ z. other (z ∙ ap (λ (k : ℕ). k + 1) (sym q.0)) in
          subst (λ (z : View). Quiet tx p z) (sym q.1) (quiet_step (at_place scene i) input w tx p other_i d e act (h.master i d.view (there_d scene s i v input w d e is seen act h))
          (λ from t r fc ms c same. let o = one_pair t tx r p same in subst₂ (λ a b. Knows a b d.view) o.0 o.1 (known_by_commit scene s i v input w d e is seen act h from t r fc ms c)) (h.quiet i d.view (there_d scene s i v input w d e is seen act h) tx p other_i)))
      | inr q ↦ h.quiet n u q.1 tx p other
    ];
    told = told_e scene s i v input w d e is seen act h;
    held = λ n u g a k. elim (node_e scene s i v input w d e is seen act h n u g) [
      | inl q ↦ (held_e a (wait_step (at_place scene i) input w d e act) (subst (λ (z : View). In (Held a) z.waiters) q.1 k)).0
      | inr q ↦ (let r = h.held n u q.1 a k in (writes_stay scene s i v input w d e is seen act h a.tx a.part a.rs.0 a.lc.0 a.writes r.0, r.1))
    ];
    acks = λ n u g j x own a k ts r. elim (node_e scene s i v input w d e is seen act h n u g) [
      | inl q ↦ subst (λ (m : ℕ). AckSent (during s i e) (name_of (at_place scene m) j) a.part a.node ts) (sym q.0)
          (acks_e (own_change (at_place scene i) input w d e act) j x (subst (λ (z : View). Owns z j x) q.1 own) a k ts r)
      | inr q ↦ ack_more (name_of (at_place scene n) j) a.part a.node ts (h.acks n u q.1 j x own a k ts r)
    ];
    pres = λ n u g q k pre dn. elim (node_e scene s i v input w d e is seen act h n u g) [
      | inl z ↦ pres_e q (subst (λ (y : View). In q y.versions) z.1 k) pre (subst (λ (y : View). Has (is_pair q.tx q.part) y.done) z.1 dn)
      | inr z ↦ h.pres n u z.1 q k pre dn
    ];
  }

-- ---- over every run

pub linked_opening : (scene : Scene) → Linked scene (stage_of (opening scene))
linked_opening scene = record {
  home = λ n v g i x own. absurd (cc (ap (λ (z : View). slice_get z.own i) (sym (empty n v g)), own));
  home_finals = λ n v g i x own. absurd (cc (ap (λ (z : View). slice_get z.own i) (sym (empty n v g)), own));
  master = λ n v g a k. absurd (subst (λ (z : View). In (Held a) z.waiters) (empty n v g) k);
  quiet = λ n v g tx p other. subst (λ (z : View). Quiet tx p z) (sym (empty n v g)) (record { few = omega arith; apart = λ k. refl });
  told = λ m k. absurd k;
  held = λ n v g a k. absurd (subst (λ (z : View). In (Held a) z.waiters) (empty n v g) k);
  acks = λ n v g i x own a k ts q. absurd (cc (ap (λ (z : View). slice_get z.own i) (sym (empty n v g)), own));
  pres = λ n v g q k pre dn. absurd (subst (λ (z : View). In q z.versions) (empty n v g) k);
}
  where
    empty : (n : ℕ) (v : View) → slice_get (replicate scene.nodes (opening_view scene)) n ≡ Some v → v ≡ opening_view scene
    empty n v g = got_replicate scene.nodes n (opening_view scene) v g

pub linked : (scene : Scene) (es : List Event) → Linked scene (stage_of (run scene es))
linked scene es = everywhere scene (Linked scene) (λ s i v input w d e is seen hs a h. linked_step scene s i v input w d e is seen a h) (linked_opening scene) es

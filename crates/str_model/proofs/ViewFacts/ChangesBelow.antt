-- A single change keeps times below a bound, which rises by one where it proposes a timestamp.
use Rattle.dependency_set.specs.Snapshots.{Snap}
use Rattle.partition_map.specs.declared.rows.Asked.{Asked}
use Rattle.str_model.proofs.ViewFacts.PartsBelow.{Keeps, all_below, asked_ack, extends_below, finish-keeps, gate_below, in_dropped, in_set, insert_below, next-keeps, raised_below, settled_below, without_below}
use Rattle.str_model.proofs.ViewFacts.TimesBelow.{BodyBelow, CertBelow, DepBelow, OwnBelow, TurnBelow, VersionsBelow, ViewBelow, WaiterBelow, cert_below, dep_below, own_at, own_higher, passed_below, read_below, reply_below, view_higher, waiter_higher}
use Rattle.str_model.proofs.Changes.PairWords.{unasked_none}
use Rattle.str_model.proofs.OwnFacts.AtHome.{AckStep, a_new, a_old, acked_parts}
use Rattle.str_model.proofs.Principle.SingleChanges.{Act, Arrives, Change, Comes, Goes, IsHere, IsReading, ReadsTo, Where, a_prepare, a_read, act_abort, act_abort_came, act_accept, act_ack, act_ask, act_begin, act_certify, act_close, act_commit, act_commit_came, act_mark, act_put, act_refuse, act_reply, act_request, act_take, act_unwait, act_wait, ch_away, ch_blind, ch_close, ch_gate, ch_known, ch_read, ch_reply, ch_resolve, ch_take, ch_wait, far_reading, it_comes, it_waits, left_waiting, own_reading, to_final, to_local}
use Rattle.str_model.proofs.Changes.SnapshotsGain.{CertGood, cert_turn-good, if_elim}
use Rattle.str_model.proofs.Changes.OwnGoesOn.{puts_on}
use Rattle.str_model.specs.Owned.{final_times}
use Rattle.std.proofs.Common.{true, List, None, Option, Some, [], ap, arith, filter, find, inl, inr, map, nat_lt, refl, slice_set, subst, sym, ℕ, ◌+◌, ◌<◌, ◌∙◌, ◌∷◌, ◌≡◌, ◌≤◌}
use Rattle.str_base.specs.declared.names.KeyId.{KeyId}
use Rattle.str_base.specs.declared.names.NodeId.{NodeId}
use Rattle.str_base.specs.declared.names.Ts.{Ts}
use Rattle.str_base.specs.declared.names.TxId.{TxId}
use Rattle.str_base.specs.declared.names.Value.{Value}
use Rattle.str_base.specs.declared.names.Version.{Version}
use Rattle.str_base.specs.declared.names.Write.{Write}
use Rattle.str_base.specs.Versions.{of_pair, of_tx, settled, stamp, without}
use Rattle.str_model.specs.Strange.{is_valid}
use Rattle.str_model.specs.Acts.{abort_came, aborted, accepted, acked, asked, begun, certified, closed, commit_came, committed, decided_as, fresh, in_phase, is_hosted_of, local_version, marked, pre_version, refused, replied, requested, taken, waits, with_asked}
use Rattle.str_model.specs.Clients.{reading_limit}
use Rattle.str_model.specs.declared.messages.Arrived.{Arrived}
use Rattle.str_model.specs.declared.messages.Body.{Body}
use Rattle.str_model.specs.declared.messages.Body.TheVariants.{Ack, Commit, Prepare, ReadReply, ReadReq, Replicate}
use Rattle.str_model.specs.declared.messages.Input.{Input}
use Rattle.str_model.specs.declared.messages.Input.TheVariants.{Deliver}
use Rattle.str_model.specs.declared.messages.Message.{Message}
use Rattle.str_model.specs.declared.messages.Waiter.{Waiter}
use Rattle.str_model.specs.declared.messages.Waiter.TheVariants.{Held}
use Rattle.str_model.specs.Proposals.{Accept, MasterTurn, Refuse, holds_pair, master_turn, proposed, ts_limit}
use Rattle.str_model.specs.Proposals
use Rattle.str_model.specs.Scripts.{finish, finish_next, noted, own_op}
use Rattle.str_model.specs.Steps.{drop_held}
use Rattle.str_model.specs.Turns.{Certified, met}
use Rattle.str_model.specs.Views.{Aborted, Committed, Doing, Global, Local, Own, Phase, Remote, View, lc_of, name_of, put}
use Rattle.str_scene.specs.declared.names.TxPlace.{TxPlace}
use Rattle.str_scene.specs.Scenes.{Here, participants}
use Rattle.str_base.proofs.Members.{in_append, in_left, in_map, in_right}
use Rattle.str_base.specs.Members.{In}

module _ (here : Here) (input : Input) (w : Where) where
  -- how many timestamps the change proposes
  abbrev pub rise : (d e : Doing) → Act here input w d e → ℕ
  rise d e (act_certify i lc snap x d' own f n c) = 1
  rise d e (act_accept a ts d' h m) = 1
  rise d e (act_take from a d' c l) = 1
  rise d e _ = 0

  module _ (b : ℕ) (big : reading_limit < b) (comes : (m : Message) → input ≡ Deliver m → is_valid here m ≡ true → BodyBelow b m.body) where
    pub came_below : (from : NodeId) (body : Body) → Comes here input from body → BodyBelow b body
    came_below from body c = subst (BodyBelow b) c.3 (comes c.0 c.1 c.4)

    pub arrived_below : (d : Doing) (a : Arrived) → ViewBelow b d.view → IsHere here input d a → (a.rs.0 < b) × (a.lc.0 < b)
    arrived_below d a h (it_comes from c u z m) = came_below from (Prepare a.tx a.part a.rs a.lc a.writes) c
    arrived_below d a h (it_waits kept rest q) = h.waiters (Held a) (subst (In (Held a)) (sym q) (in_right kept (Held a ∷ rest) (Held a) (inl refl)))

    -- what is new in a change: the final timestamps taken over, and those of the phase
    record New (x y : Own) : Type 0 where
      ffc : y.snap.ffc < b
      finals : (t : ℕ) → In t (final_times y.phase) → t < b

    kept_new : (x z y : Own) → Keeps z y → z.snap.ffc < b → ((t : ℕ) → In t (final_times z.phase) → t < b) → New x y
    kept_new x z y k f g = record { ffc = subst (λ (s : Snap). s.ffc < b) (sym k.snap) f; finals = λ t h. g t (k.finals t h) }

    read_new : (v : View) (snap : Snap) (k : KeyId) (a : Value) (by : Option TxId) (new : Snap) → ViewBelow b v → snap.ffc < b → ReadsTo here v snap k a by new → new.ffc < b
    read_new v snap k a by new h f (to_final fc q) = subst (λ t. TurnBelow b t) q (read_below b v h here snap k f)
    read_new v snap k a by new h f (to_local u s q) = subst (λ t. TurnBelow b t) q (read_below b v h here snap k f)

    change_new : (d : Doing) (i : ℕ) (x y : Own) → ViewBelow b d.view → OwnBelow b x → Change here input d i x y → New x y
    change_new d i x y h o (ch_resolve t e) = record { ffc = subst (DepBelow b) e (dep_below b d.view h x.snap o.ffc); finals = o.finals }
    change_new d i x y h o (ch_known op k a e p n q) = kept_new x x (finish op a x) (finish-keeps op a x) o.ffc o.finals
    change_new d i x y h o (ch_blind op a e p n) = kept_new x x (finish op a x) (finish-keeps op a x) o.ffc o.finals
    change_new d i x y h o (ch_read k a by snap r m t) =
        kept_new x (noted k a by snap x) (finish_next (own_op here x) a (noted k a by snap x)) (next-keeps (own_op here x) a (noted k a by snap x)) (read_new d.view x.snap k a by snap h o.ffc t) o.finals
    change_new d i x y h o (ch_wait k by r m t) = record { ffc = o.ffc; finals = λ t j. absurd j }
    change_new d i x y h o (ch_away k n r m t) = record { ffc = o.ffc; finals = λ t j. absurd j }
    change_new d i x y h o (ch_reply from tx l k a by fc c n q e s) =
        let f : fc.0 < b = came_below from (ReadReply tx k a by fc) c in
        record { ffc = o.ffc; finals = λ t j. elim j [ inl z ↦ omega (arith, f, z) | inr z ↦ absurd z ] }
    change_new d i x y h o (ch_take k a c by of fc gc snap e q) =
        let f : fc < b = o.finals fc (subst (λ (p : Phase). In fc (final_times p)) (sym e) (inl refl)) in
        let g : snap.ffc < b = subst (λ t. TurnBelow b t) q (reply_below b d.view h here x.snap a by fc o.ffc f) in
        kept_new x (noted k c of snap x) (finish_next (own_op here x) c (noted k c of snap x)) (next-keeps (own_op here x) c (noted k c of snap x)) g o.finals
    change_new d i x y h o (ch_close a p e) = record { ffc = o.ffc; finals = λ t j. absurd j }
    change_new d i x y h o (ch_gate a) = record { ffc = o.ffc; finals = λ t j. absurd j }

    goes_below : (d : Doing) (i : ℕ) (x y : Own) → ViewBelow b d.view → OwnBelow b x → Goes here input d i x y → OwnBelow b y
    goes_below d i x y h o g =
        let n = change_new d i x y h o g.change in
        let p = puts_on here input d i x y g in
        record {
          rs = omega (arith, o.rs, g.goes.snap.rs);
          ffc = n.ffc;
          deps = extends_below b d.view x.snap y.snap h g.goes.snap o.deps;
          lc = λ lc k. o.lc lc (sym g.goes.same_lc ∙ k);
          finals = n.finals;
          acks = λ a ts k q. o.acks a ts (subst (In a) p.same_parts k) q;
        }

    -- ---- the view

    module _ (c : ℕ) (le : b ≤ c) where
      set_below : (v : View) (i : ℕ) (y : Own) → ViewBelow b v → OwnBelow c y → (x : Own) → In x (slice_set v.own i y) → OwnBelow c x
      set_below v i y h g x k = elim (in_set v.own i y x k) [ inl e ↦ subst (OwnBelow c) (sym e) g | inr j ↦ own_higher b c x le (h.own x j) ]

      put_below : (d : Doing) (i : ℕ) (y : Own) → ViewBelow b d.view → OwnBelow c y → ViewBelow c (put i y d).view
      put_below d i y h g =
          let u = view_higher b c d.view le h in
          record { floor = u.floor; marks = u.marks; versions = u.versions; own = set_below d.view i y h g; waiters = u.waiters }

      fewer_below : (v : View) (ws : List Waiter) → ViewBelow b v → ((r : Waiter) → In r ws → In r v.waiters) → (r : Waiter) → In r ws → WaiterBelow c r
      fewer_below v ws h f r k = waiter_higher b c r le (h.waiters r (f r k))

      left_fewer : (d : Doing) (a : Arrived) (g : IsHere here input d a) (r : Waiter) → In r (left_waiting g) → In r d.view.waiters
      left_fewer d a (it_comes from c u z m) r k = k
      left_fewer d a (it_waits kept rest q) r k = subst (In r) (sym q) (elim (in_append kept rest r k) [ inl j ↦ in_left kept (Held a ∷ rest) r j | inr j ↦ in_right kept (Held a ∷ rest) r (inr j) ])

      pres_below : (a : Arrived) (ts : ℕ) → ts < c → VersionsBelow c (map (pre_version a ts) a.writes)
      pres_below a ts less q h = let r = in_map (pre_version a ts) a.writes q h in omega (arith, less, ap (λ (z : Version). z.ts.0) r.2)

      locals_below : (i lc : ℕ) (ws : List Write) → lc < c → VersionsBelow c (map (local_version here i lc) ws)
      locals_below i lc ws less q h = let r = in_map (local_version here i lc) ws q h in omega (arith, less, ap (λ (z : Version). z.ts.0) r.2)

      pub accept_is : (v : View) (a : Arrived) (ts : ℕ) → master_turn v a ≡ Accept ts → proposed v a ≡ ts
      unfolding master_turn
      accept_is v a ts e = by_refuse (find (Proposals.refuses a) (met a.writes v.versions)) e
        where
          by_park : (o : Option Version) → Proposals.master_parks v a o ≡ Accept ts → proposed v a ≡ ts
          by_park (Some q) e = absurd (cc e)
          by_park None e = (if_elim (λ t. t ≡ Accept ts → proposed v a ≡ ts) (nat_lt (proposed v a) ts_limit) (Accept (proposed v a)) Proposals.Ignore (λ g k. cc k) (λ g k. absurd (cc k))) e

          by_refuse : (o : Option Version) → Proposals.master_refuses v a o ≡ Accept ts → proposed v a ≡ ts
          by_refuse (Some q) e = absurd (cc e)
          by_refuse None e = by_park (find (Proposals.parks a) (met a.writes v.versions)) e

      pub proposed_below : (v : View) (a : Arrived) → ViewBelow b v → a.lc.0 < b → b + 1 ≤ c → proposed v a < c
      proposed_below v a h l k = let p = passed_below b v a.writes h in omega (arith, p, l, k)

      -- what a change leaves of a view
      pub view_act : (d e : Doing) (a : Act here input w d e) → b + rise d e a ≤ c → ViewBelow b d.view → ViewBelow c e.view
      unfolding begun marked aborted committed closed certified asked acked requested accepted taken refused waits replied commit_came abort_came
      view_act d e (act_begin place rs d' r g) k h =
          let u = view_higher b c d'.view le h in
          let f = h.floor in
          record {
            floor = omega (arith, big, le, g.most, f);
            marks = u.marks;
            versions = u.versions;
            own = λ x j. elim (in_append d'.view.own (fresh place rs ∷ []) x j) [
              | inl z ↦ u.own x z
              | inr z ↦ (elim z [ inl q ↦ subst (OwnBelow c) q (new place rs (omega (arith, big, le, g.most, f))) | inr q ↦ absurd q ])
            ];
            waiters = u.waiters;
          }
        where
          new : (place : TxPlace) (rs : ℕ) → rs < c → OwnBelow c (fresh place rs)
          new place rs less = record { rs = less; ffc = omega (arith, less); deps = λ d k. absurd k; lc = λ lc k. absurd (cc k); finals = λ t k. absurd k; acks = λ a ts k q. absurd k }
      view_act d e (act_mark m t d' rd) k h =
          let u = view_higher b c d'.view le h in
          let f = u.floor in
          record { floor = u.floor; marks = raised_below c d'.view.marks m t (read_time rd) (omega (arith, f)) u.marks; versions = u.versions; own = u.own; waiters = u.waiters }
        where
          read_time : IsReading here input d' m t → t < c
          read_time (own_reading i x o q) = let r = (own_at b d'.view h i x o).rs in omega (arith, r, q, le)
          read_time (far_reading from tx rs q z) = let r = came_below from (ReadReq tx m rs) z in omega (arith, r, q, le)
      view_act d e (act_put i x y d' own g) k h = put_below d' i y h (own_higher b c y le (goes_below d' i x y h (own_at b d'.view h i x own.0) g))
      view_act d e (act_request i m n x d' own g) k h =
          put_below d' i (in_phase (Remote m) x) h (own_higher b c (in_phase (Remote m) x) le (goes_below d' i x (in_phase (Remote m) x) h (own_at b d'.view h i x own.0) (record { goes = g.goes; change = g.change })))
      view_act d e (act_certify i lc snap x d' own f n q) k h =
          let k' : b + 1 ≤ c = k in
          let u = view_higher b c d'.view le h in
          let o = own_at b d'.view h i x own.0 in
          let t : CertBelow b (Certified lc snap) = subst (CertBelow b) q (cert_below b d'.view h here x.snap x.writes o.ffc o.rs) in
          let good : CertGood d'.view x.snap (Certified lc snap) = subst (CertGood d'.view x.snap) q (cert_turn-good here d'.view x.snap x.writes) in
          let less : lc < c = omega (arith, k', t.0) in
          record {
            floor = omega (arith, less, u.floor);
            marks = u.marks;
            versions = insert_below c (map (local_version here i lc) x.writes) d'.view.versions (locals_below i lc x.writes less) u.versions;
            own = set_below d'.view i (record x { snap = snap; parts = participants here.scene here.node x.writes; phase = Local lc }) h (record {
              rs = omega (arith, o.rs, good.0.rs, le);
              ffc = omega (arith, t.1, le);
              deps = λ z j. (let r = extends_below b d'.view x.snap snap h good.0 o.deps z j in omega (arith, r, le));
              lc = λ m j. (let is : lc ≡ m = cc j in omega (arith, less, is));
              finals = λ z j. absurd j;
              acks = λ a ts j z. absurd (unasked_none here.scene here.node x.writes a ts j z);
            });
            waiters = u.waiters;
          }
      view_act d e (act_ask i lc p x d' own f l g) k h =
          let o = own_higher b c x le (own_at b d'.view h i x own.0) in
          put_below d' i (record x { parts = with_asked p x.parts; phase = Global lc }) h (record {
            rs = o.rs;
            ffc = o.ffc;
            deps = o.deps;
            lc = λ m j. o.lc m (l ∙ j);
            finals = λ t j. absurd j;
            acks = λ a ts j q. (let r = asked_ack p x.parts a j in o.acks r.0 ts r.1 (r.2 ∙ q));
          })
      view_act d e (act_ack i lc from tx p ts parts x d' own m q g) k h =
          let o = own_higher b c x le (own_at b d'.view h i x own.0) in
          let t : ts.0 < b = came_below from (Ack tx p ts) m in
          put_below d' i (record x { parts = parts }) h (record {
            rs = o.rs;
            ffc = o.ffc;
            deps = o.deps;
            lc = o.lc;
            finals = o.finals;
            acks = λ a z j y. new_ack o t a z y ((acked_parts x.parts p from ts.0 parts g.parts_are).each a j);
          })
        where
          new_ack : OwnBelow c x → ts.0 < b → (a : Asked) (z : Ts) → a.ack ≡ Some z → AckStep from p ts.0 x.parts a → z.0 < c
          new_ack o t a z y (a_old j) = o.acks a z j y
          new_ack o t a z y (a_new r j u v is) = let same : Some (stamp ts.0) ≡ Some z = sym (ap (λ (n : Asked). n.ack) is) ∙ y in let n : ts.0 ≡ z.0 = cc same in omega (arith, t, n, le)
      view_act d e (act_abort i cause x d' own f y) k h =
          let u = view_higher b c d'.view le h in
          let o = own_higher b c x le (own_at b d'.view h i x own.0) in
          record {
            floor = u.floor;
            marks = u.marks;
            versions = without_below c (of_tx (name_of here i)) d'.view.versions u.versions;
            own = set_below d'.view i (decided_as (Aborted (lc_of x.phase) cause) x) h (record { rs = o.rs; ffc = o.ffc; deps = o.deps; lc = o.lc; finals = λ t j. absurd j; acks = o.acks });
            waiters = u.waiters;
          }
      view_act d e (act_commit i lc fc x d' own l n m f g) k h =
          let u = view_higher b c d'.view le h in
          let o' = own_at b d'.view h i x own.0 in
          let o = own_higher b c x le o' in
          let less' = gate_below b here d'.view lc fc x o' l g in
          let less : fc < c = omega (arith, less', le) in
          record {
            floor = omega (arith, less, u.floor);
            marks = u.marks;
            versions = insert_below c (map (settled fc) (filter (is_hosted_of here (name_of here i)) d'.view.versions)) (without (of_tx (name_of here i)) d'.view.versions)
                (settled_below c fc (filter (is_hosted_of here (name_of here i)) d'.view.versions) less) (without_below c (of_tx (name_of here i)) d'.view.versions u.versions);
            own = set_below d'.view i (decided_as (Committed (Some lc) (Some fc)) x) h (record {
              rs = o.rs;
              ffc = o.ffc;
              deps = o.deps;
              lc = λ z j. o.lc z (l ∙ j);
              finals = λ t j. elim j [ inl z ↦ omega (arith, less, z) | inr z ↦ absurd z ];
              acks = o.acks;
            });
            waiters = u.waiters;
          }
      view_act d e (act_close i x d' own p n) k h =
          let o = own_higher b c x le (own_at b d'.view h i x own.0) in
          put_below d' i (decided_as (Committed None None) x) h (record { rs = o.rs; ffc = o.ffc; deps = o.deps; lc = λ z j. absurd (cc j); finals = λ t j. absurd j; acks = o.acks })
      view_act d e (act_accept a ts d' g m) k h =
          let k' : b + 1 ≤ c = k in
          let u = view_higher b c d'.view le h in
          let l = (arrived_below d' a h g).1 in
          let p = proposed_below d'.view a h l k' in
          let less : ts < c = omega (arith, p, accept_is d'.view a ts m) in
          record {
            floor = u.floor;
            marks = u.marks;
            versions = insert_below c (map (pre_version a ts) a.writes) d'.view.versions (pres_below a ts less) u.versions;
            own = u.own;
            waiters = fewer_below d'.view (left_waiting g) h (left_fewer d' a g);
          }
      view_act d e (act_refuse a u m d' g q) k h =
          let z = view_higher b c d'.view le h in
          record { floor = z.floor; marks = z.marks; versions = z.versions; own = z.own; waiters = fewer_below d'.view (left_waiting g) h (left_fewer d' a g) }
      view_act d e (act_take from a d' m t) k h =
          let k' : b + 1 ≤ c = k in
          let u = view_higher b c d'.view le h in
          let l : a.lc.0 < b = (came_below from (Replicate a.tx a.part a.rs a.lc a.writes) m).1 in
          record {
            floor = u.floor;
            marks = u.marks;
            versions = insert_below c (map (pre_version a (proposed d'.view a)) a.writes) d'.view.versions (pres_below a (proposed d'.view a) (proposed_below d'.view a h l k')) u.versions;
            own = u.own;
            waiters = u.waiters;
          }
      view_act d e (act_wait r d' g) k h =
          let u = view_higher b c d'.view le h in
          record {
            floor = u.floor;
            marks = u.marks;
            versions = u.versions;
            own = u.own;
            waiters = λ z j. elim (in_append d'.view.waiters (r ∷ []) z j) [ inl i ↦ u.waiters z i | inr i ↦ (elim i [ inl q ↦ subst (WaiterBelow c) q (arrived r g) | inr q ↦ absurd q ]) ];
          }
        where
          arrived : (r : Waiter) → Arrives here input d' r → WaiterBelow c r
          arrived r (a_read from tx m rs g) = let q = came_below from (ReadReq tx m rs) (g.0, g.1, g.2, g.3, g.4) in omega (arith, q, le)
          arrived r (a_prepare from a g x y z) = let q = came_below from (Prepare a.tx a.part a.rs a.lc a.writes) g in (omega (arith, q.0, le), omega (arith, q.1, le))
      view_act d e (act_unwait kept rest r d' g) k h =
          let z = view_higher b c d'.view le h in
          record {
            floor = z.floor;
            marks = z.marks;
            versions = z.versions;
            own = z.own;
            waiters = λ q j. z.waiters q (subst (In q) (sym g.waiters) (elim (in_append kept rest q j) [ inl i ↦ in_left kept (r ∷ rest) q i | inr i ↦ in_right kept (r ∷ rest) q (inr i) ]));
          }
      view_act d e (act_reply tx m rs v u fc d' g) k h = view_higher b c d'.view le h
      view_act d e (act_commit_came from tx p fc ms d' m g) k h =
          let u = view_higher b c d'.view le h in
          let t = came_below from (Commit tx p fc ms) m in
          let f = u.floor in
          let less : fc.0 < c = omega (arith, t.0, le) in
          record {
            floor = u.floor;
            marks = all_below c ms d'.view.marks (λ z j. (let y = t.1 z j in omega (arith, y, le))) (omega (arith, f)) u.marks;
            versions = insert_below c (map (settled fc.0) (filter (of_pair tx p) d'.view.versions)) (without (of_pair tx p) d'.view.versions)
                (settled_below c fc.0 (filter (of_pair tx p) d'.view.versions) less) (without_below c (of_pair tx p) d'.view.versions u.versions);
            own = u.own;
            waiters = u.waiters;
          }
      view_act d e (act_abort_came from tx p d' m g) k h =
          let u = view_higher b c d'.view le h in
          record {
            floor = u.floor;
            marks = u.marks;
            versions = without_below c (of_pair tx p) d'.view.versions u.versions;
            own = u.own;
            waiters = fewer_below d'.view (drop_held tx p d'.view.waiters) h (in_dropped tx p d'.view.waiters);
          }

-- What an undecided transaction waits for from other nodes is under way.
use Rattle.std.proofs.Common.{Bool, List, None, Some, ap, arith, eqb-true, false, inl, inr, is_some, not, refl, slice_get, subst, subst₂, sym, true, ℕ, ◌+◌, ◌<◌, ◌∙◌, ◌≡◌, ◌≢◌, ◌⊎◌}
use Rattle.std.proofs.lemmas.Option.{slice_get_within}
use Rattle.partition_map.specs.Maps.{Exists}
use Rattle.partition_map.specs.declared.rows.Asked.{Asked}
use Rattle.si_laws.proofs.Presence.DecisionsDelivered.{delivered}
use Rattle.si_laws.proofs.Presence.DecisionsValid.{bounded_from, decisions_are_valid}
use Rattle.si_laws.proofs.Stages.AllLinksKept.{linked}
use Rattle.si_laws.proofs.Stages.LinkedStates.{IsDecidedAs, Told, one_of, one_place}
use Rattle.si_laws.proofs.Stages.ParticipantSeats.{own_seat}
use Rattle.si_laws.proofs.Times.ProposalsFew.{times_bounded}
use Rattle.si_laws.specs.Laws.Presence.{Decides}
use Rattle.spsi_laws.proofs.UnderWay.Followed.{Acks, AskSent, Prepares, Refuses, Replicates, Sends, followed}
use Rattle.spsi_laws.proofs.UnderWay.GivenAt.{given_at}
use Rattle.spsi_laws.proofs.UnderWay.Judged.{ack_judged, prepare_judged, refuse_judged, replicate_judged, reply_judged, request_judged}
use Rattle.spsi_laws.proofs.UnderWay.NamedMessages.{Addressed}
use Rattle.spsi_laws.proofs.UnderWay.PastReads.{past_not}
use Rattle.spsi_laws.proofs.UnderWay.ReadsWaiting.{Replies, requests_sent}
use Rattle.spsi_laws.proofs.UnderWay.SeatsOnce.{seat_one}
use Rattle.spsi_laws.proofs.UnderWay.ValidMessages.{host_exists, posted, to_place}
use Rattle.spsi_laws.specs.Laws.UnderWay.{AnswerUnderWay, IsOfPair, IsOfRead, ReadUnderWay, UnderWayHolds, ru_message, ru_waits, u_message, u_parked}
use Rattle.str_base.specs.Versions.{of_pair, same_node, same_part, same_tx}
use Rattle.str_base.specs.declared.names.KeyId.{KeyId}
use Rattle.str_base.specs.declared.names.NodeId.{NodeId}
use Rattle.str_base.specs.declared.names.PartId.{PartId}
use Rattle.str_base.specs.declared.names.TxId.{TxId}
use Rattle.str_model.proofs.Changes.PairWords.{Has, pair-is}
use Rattle.str_model.proofs.Principle.Everywhere.{at_place, stage_of}
use Rattle.str_model.proofs.ViewFacts.VersionsKept.{master_hosts}
use Rattle.str_model.specs.Owned.{IsView, Owns}
use Rattle.str_model.specs.Proposals.{holds_pair, is_pair}
use Rattle.str_model.specs.Runs.{run}
use Rattle.str_model.specs.Views.{Own, Remote, View, is_decided, lc_of, letter, name_of}
use Rattle.str_model.specs.declared.messages.Body.{Body}
use Rattle.str_model.specs.declared.messages.Body.TheVariants.{Abort, Ack, Commit, Prepare, ReadReply, ReadReq, Refuse as Refusal, Replicate}
use Rattle.str_model.specs.declared.messages.Message.{Message}
use Rattle.str_model.specs.declared.messages.Waiter.{Waiter}
use Rattle.str_model.specs.declared.messages.Waiter.TheVariants.{Held, Read}
use Rattle.str_scene.specs.SceneLimits.{IsScene}
use Rattle.str_scene.specs.Scenes.{Scene, hosts, hosts_key, is_master, others, part_of, replicas}
use Rattle.str_scene.specs.declared.names.Event.{Event}
use Rattle.std.proofs.lemmas.Bool.{cases_eq, false_from_ne_true}
use Rattle.str_base.proofs.SameNames.{same_part-is, same_tx-is}
use Rattle.str_base.proofs.Tests.{and_true_left, and_true_right}
use Rattle.str_base.proofs.Members.{at_in, filter_in, in_at}
use Rattle.str_base.proofs.Lists.{slice_get_there}
use Rattle.str_base.specs.Members.{In}

module _ (scene : Scene) (ok : IsScene scene) (es : List Event) where
  -- a message was given, or not
  flag : (j : ℕ) (m : Message) → slice_get (run scene es).sent j ≡ Some m → (slice_get (run scene es).given j ≡ Some false) ⊎ (slice_get (run scene es).given j ≡ Some true)
  flag j m e =
      let len = (delivered scene (λ xs. decisions_are_valid (bounded_from times_bounded) scene ok xs) es).len in
      let less = slice_get_within (run scene es).sent j m e in
      let g = slice_get_there (run scene es).given j (omega (arith, less, len)) in by_flag g.0 g.1
    where
      by_flag : (b : Bool) → slice_get (run scene es).given j ≡ Some b → (slice_get (run scene es).given j ≡ Some false) ⊎ (slice_get (run scene es).given j ≡ Some true)
      by_flag false q = inl q
      by_flag true q = inr q

  addressed : (m : Message) → In m (run scene es).sent → (b : Body) → m.body ≡ b → Addressed scene m.sender m.receiver b
  addressed m h b e = subst (Addressed scene m.sender m.receiver) e ((posted scene ok es).each m h).addressed

  -- the view of a node
  view_of : (n : ℕ) → n < scene.nodes → (u : View) × IsView scene es n u
  view_of n less = let len = (posted scene ok es).count in slice_get_there (run scene es).nodes n (omega (arith, less, len))

  place_of : (r : NodeId) → Exists r.0 scene.nodes → (n : ℕ) × (r ≡ record { 0 = n + 1 }) × (n < scene.nodes)
  place_of r e = let p = to_place scene ok es r e in let z = ap (λ (y : NodeId). y.0) p.1 in let l = e.1 in (p.0, p.1, omega (arith, z, l))

  module _ (n i : ℕ) (v : View) (x : Own) (there : IsView scene es n v) (own : Owns v i x) where
    tx : TxId
    tx = name_of (at_place scene n) i

    same_x : (y : Own) → Owns v i y → y ≡ x
    same_x y o = one_of y x (slice_get v.own i) o own

    within : n < scene.nodes
    within = (let l = slice_get_within (run scene es).nodes n v there in let len = (posted scene ok es).count in omega (arith, l, len))

    -- ---- the answers of participants

    module _ (lc : ℕ) (l : lc_of x.phase ≡ Some lc) (op : is_decided x.phase ≡ false) (a : Asked) (ina : In a x.parts) (asked_ : a.asked ≡ true) (none : a.ack ≡ None) where
      Goal : Type 0
      Goal = AnswerUnderWay scene (run scene es) (name_of (at_place scene n) i) a.part

      under : (j : ℕ) (m : Message) → slice_get (run scene es).sent j ≡ Some m → slice_get (run scene es).given j ≡ Some false → IsOfPair (name_of (at_place scene n) i) a.part m.body → Goal
      unfolding Goal
      under j m e f p = u_message (j, m, e, f, p)

      decided_not : (y : Own) → IsDecidedAs scene (stage_of (run scene es)) (name_of (at_place scene n) i) y → ⊥
      decided_not y c =
          let o = one_place scene n c.n i c.i c.name in
          let at : slice_get (run scene es).nodes n ≡ Some c.view = ap (λ (k : ℕ). slice_get (run scene es).nodes k) o.0 ∙ c.there in
          let view : c.view ≡ v = one_of c.view v (slice_get (run scene es).nodes n) at there in
          let own' : Owns v i y = subst₂ (λ (z : View) (k : ℕ). Owns z k y) view (sym o.1) c.own in
          cc (c.decided, ap (λ (z : Own). is_decided z.phase) (same_x y own'), op)

      told_not : Sends (run scene es).sent (λ m. Decides (name_of (at_place scene n) i) a.part m.body) → ⊥
      told_not h = by_body h.0.sender h.0.receiver h.0.body h.2 ((linked scene es).told h.0 h.1)
        where
          by_body : (from to : NodeId) (b : Body) → Decides (name_of (at_place scene n) i) a.part b → Told scene (stage_of (run scene es)) from to b → ⊥
          by_body from to (Commit t q fc ms) d k = decided_not k.0 (subst (λ (z : TxId). IsDecidedAs scene (stage_of (run scene es)) z k.0) d.0 k.1)
          by_body from to (Abort t q) d k = decided_not k.0 (subst (λ (z : TxId). IsDecidedAs scene (stage_of (run scene es)) z k.0) d.0 k.1)
          by_body from to (ReadReq t k rs) d z = d
          by_body from to (ReadReply t k u by fc) d z = d
          by_body from to (Prepare t q rs lc ws) d z = d
          by_body from to (Refusal t q by k) d z = d
          by_body from to (Replicate t q rs lc ws) d z = d
          by_body from to (Ack t q ts) d z = d

      refused : Sends (run scene es).sent (λ m. Refuses (name_of (at_place scene n) i) a.part m.body) → Goal
      unfolding Goal
      refused h = by_body h.0.body refl h.2
        where
          by_body : (b : Body) → h.0.body ≡ b → Refuses (name_of (at_place scene n) i) a.part b → AnswerUnderWay scene (run scene es) (name_of (at_place scene n) i) a.part
          by_body (Refusal t q by k) e d =
              let at = at_in (run scene es).sent h.0 h.1 in
              let b : h.0.body ≡ Refusal (name_of (at_place scene n) i) a.part by k = e ∙ (λ j. Refusal (d.0 j) (d.1 j) by k) in
              let ad = addressed h.0 h.1 (Refusal (name_of (at_place scene n) i) a.part by k) b in
              elim (flag at.0 h.0 at.1) [
                | inl f ↦ u_message (at.0, h.0, at.1, f, subst (IsOfPair (name_of (at_place scene n) i) a.part) (sym b) (refl, refl))
                | inr f ↦ (let g = given_at scene ok es at.0 n h.0 f at.1 ad.0 within in
                    let r = refuse_judged scene ok es at.0 n h.0 g ad.0 i a.part by k b v there in
                    absurd (cc (r.2, ap (λ (z : Own). is_decided z.phase) (same_x r.0 r.1), op)))
              ]
          by_body (ReadReq t k rs) e d = absurd d
          by_body (ReadReply t k u by fc) e d = absurd d
          by_body (Prepare t q rs lc ws) e d = absurd d
          by_body (Replicate t q rs lc ws) e d = absurd d
          by_body (Ack t q ts) e d = absurd d
          by_body (Commit t q fc ms) e d = absurd d
          by_body (Abort t q) e d = absurd d

      acked : (r : NodeId) → a.node ≡ r → Sends (run scene es).sent (λ m. (m.sender ≡ r) × Acks (name_of (at_place scene n) i) a.part m.body) → Goal
      unfolding Goal
      acked r node h = by_body h.0.body refl h.2.1
        where
          by_body : (b : Body) → h.0.body ≡ b → Acks (name_of (at_place scene n) i) a.part b → AnswerUnderWay scene (run scene es) (name_of (at_place scene n) i) a.part
          by_body (Ack t q ts) e d =
              let at = at_in (run scene es).sent h.0 h.1 in
              let b : h.0.body ≡ Ack (name_of (at_place scene n) i) a.part ts = e ∙ (λ j. Ack (d.0 j) (d.1 j) ts) in
              let ad = addressed h.0 h.1 (Ack (name_of (at_place scene n) i) a.part ts) b in
              elim (flag at.0 h.0 at.1) [
                | inl f ↦ u_message (at.0, h.0, at.1, f, subst (IsOfPair (name_of (at_place scene n) i) a.part) (sym b) (refl, refl))
                | inr f ↦ (let g = given_at scene ok es at.0 n h.0 f at.1 ad.0 within in
                    let k = ack_judged scene ok es at.0 n h.0 g ad.0 i a.part ts b v there in
                    let same = same_x k.0 k.1 in
                    elim k.2 [
                      | inl z ↦ absurd (cc (z, ap (λ (y : Own). is_decided y.phase) same, op))
                      | inr z ↦ (let good = ((posted scene ok es).facts n v there).homes i x own in
                          let c = z.1 in
                          let inc : In c.0 x.parts = subst (λ (y : Own). In c.0 y.parts) same c.1 in
                          let one : c.0 ≡ a = seat_one (at_place scene n) ok v.versions i lc x good l c.0 a inc ina c.2 (c.3 ∙ (h.2.0 ∙ sym node)) in
                          absurd (cc (ap (λ (y : Asked). is_some y.ack) one, c.4, ap is_some none)))
                    ])
              ]
          by_body (ReadReq t k rs) e d = absurd d
          by_body (ReadReply t k u by fc) e d = absurd d
          by_body (Prepare t q rs lc ws) e d = absurd d
          by_body (Refusal t q by k) e d = absurd d
          by_body (Replicate t q rs lc ws) e d = absurd d
          by_body (Commit t q fc ms) e d = absurd d
          by_body (Abort t q) e d = absurd d

      -- the pair is done at some node
      done_goal : (r : ℕ) (u : View) → IsView scene es r u → Has (is_pair (name_of (at_place scene n) i) a.part) u.done → Goal
      done_goal r u is h =
          let t : h.0.0 ≡ name_of (at_place scene n) i = same_tx-is h.0.0 (name_of (at_place scene n) i) (and_true_left (same_tx h.0.0 (name_of (at_place scene n) i)) (same_part h.0.1 a.part) h.2) in
          let p : h.0.1 ≡ a.part = same_part-is h.0.1 a.part (and_true_right (same_tx h.0.0 (name_of (at_place scene n) i)) (same_part h.0.1 a.part) h.2) in
          let m : In (name_of (at_place scene n) i, a.part) u.done = subst₂ (λ (y : TxId) (z : PartId). In (y, z) u.done) t p h.1 in
          elim ((followed scene ok es).done_ r u (name_of (at_place scene n) i) a.part is m) [ inl z ↦ absurd (told_not z) | inr z ↦ refused z ]

      -- a Replicate was sent to the participant
      replicated : Sends (run scene es).sent (λ m. (m.receiver ≡ a.node) × Replicates (name_of (at_place scene n) i) a.part m.body) → Goal
      unfolding Goal
      replicated h = by_body h.0.body refl h.2.1
        where
          by_body : (b : Body) → h.0.body ≡ b → Replicates (name_of (at_place scene n) i) a.part b → AnswerUnderWay scene (run scene es) (name_of (at_place scene n) i) a.part
          by_body (Replicate t q rs lc ws) e d =
              let at = at_in (run scene es).sent h.0 h.1 in
              let b : h.0.body ≡ Replicate (name_of (at_place scene n) i) a.part rs lc ws = e ∙ (λ j. Replicate (d.0 j) (d.1 j) rs lc ws) in
              let ad = addressed h.0 h.1 (Replicate (name_of (at_place scene n) i) a.part rs lc ws) b in
              let pl = place_of h.0.receiver (host_exists scene ok h.0.receiver a.part ad.0) in
              elim (flag at.0 h.0 at.1) [
                | inl f ↦ u_message (at.0, h.0, at.1, f, subst (IsOfPair (name_of (at_place scene n) i) a.part) (sym b) (refl, refl))
                | inr f ↦ (let g = given_at scene ok es at.0 pl.0 h.0 f at.1 pl.1 pl.2 in
                    let u = view_of pl.0 pl.2 in
                    elim (replicate_judged scene ok es at.0 pl.0 h.0 g pl.1 (name_of (at_place scene n) i) a.part rs lc ws b u.0 u.1) [
                      | inl z ↦ done_goal pl.0 u.0 u.1 z
                      | inr z ↦ (let k = pair-is (name_of (at_place scene n) i) a.part z.0 z.2 in
                          let st = (followed scene ok es).stands pl.0 u.0 z.0 u.1 z.1 (λ y. ad.2 (ap (λ (s : TxId). s.node.0) (sym k.0) ∙ (ap (λ (s : NodeId). s.0) y ∙ ap (λ (s : NodeId). s.0) (sym pl.1)))) in
                          acked (record { 0 = pl.0 + 1 }) (sym h.2.0 ∙ pl.1) (st.ack.0, st.ack.1, (st.ack.2.0, subst₂ (λ (y : TxId) (s : PartId). Acks y s st.ack.0.body) k.0 k.1 st.ack.2.1)))
                    ])
              ]
          by_body (ReadReq t k rs) e d = absurd d
          by_body (ReadReply t k u by fc) e d = absurd d
          by_body (Prepare t q rs lc ws) e d = absurd d
          by_body (Refusal t q by k) e d = absurd d
          by_body (Ack t q ts) e d = absurd d
          by_body (Commit t q fc ms) e d = absurd d
          by_body (Abort t q) e d = absurd d

      parked_goal : (r : ℕ) (u : View) → IsView scene es r u → is_master scene (record { 0 = r + 1 }) a.part ≡ true → Has (holds_pair (name_of (at_place scene n) i) a.part) u.waiters → Goal
      unfolding Goal
      parked_goal r u is ms h = by_waiter h.0 h.1 h.2
        where
          by_waiter : (w : Waiter) → In w u.waiters → holds_pair (name_of (at_place scene n) i) a.part w ≡ true → AnswerUnderWay scene (run scene es) (name_of (at_place scene n) i) a.part
          by_waiter (Read t k rs) m e = absurd (cc e)
          by_waiter (Held b) m e =
              let at = at_in u.waiters (Held b) m in
              u_parked r at.0 u b ms is at.1 (same_tx-is b.tx (name_of (at_place scene n) i) (and_true_left (same_tx b.tx (name_of (at_place scene n) i)) (same_part b.part a.part) e))
              (same_part-is b.part a.part (and_true_right (same_tx b.tx (name_of (at_place scene n) i)) (same_part b.part a.part) e))

      -- the pair stands at the master
      stands_goal : (r : ℕ) (u : View) → IsView scene es r u → is_master scene (record { 0 = r + 1 }) a.part ≡ true → n + 1 ≢ r + 1 → Has (of_pair (name_of (at_place scene n) i) a.part) u.versions → Goal
      stands_goal r u is ms other z =
          let k = pair-is (name_of (at_place scene n) i) a.part z.0 z.2 in
          let st = (followed scene ok es).stands r u z.0 is z.1 (λ y. other (ap (λ (s : TxId). s.node.0) (sym k.0) ∙ ap (λ (s : NodeId). s.0) y)) in
          elim (cases_eq a.node.0 (r + 1)) [
            | inl q ↦ acked (record { 0 = r + 1 }) (λ j. record { 0 = q j }) (st.ack.0, st.ack.1, (st.ack.2.0, subst₂ (λ (y : TxId) (s : PartId). Acks y s st.ack.0.body) k.0 k.1 st.ack.2.1))
            | inr q ↦ (let seat = own_seat (at_place scene n) v.versions i x (((posted scene ok es).facts n v there).homes i x own) a ina in
                let apart : In a.node (others (record { 0 = r + 1 }) (replicas scene a.part)) =
                filter_in (λ (y : NodeId). not (same_node y (record { 0 = r + 1 }))) (replicas scene a.part) a.node seat.replica (ap not (false_from_ne_true (same_node a.node (record { 0 = r + 1 })) (λ y. q (eqb-true a.node.0 (r + 1) y)))) in
                let far : In a.node (others (record { 0 = n + 1 }) (others (record { 0 = r + 1 }) (replicas scene a.part))) =
                filter_in (λ (y : NodeId). not (same_node y (record { 0 = n + 1 }))) (others (record { 0 = r + 1 }) (replicas scene a.part)) a.node apart (ap not (false_from_ne_true (same_node a.node (record { 0 = n + 1 })) (λ y. seat.other (eqb-true a.node.0 (n + 1) y)))) in
                let c = st.copies (subst (λ (s : PartId). is_master scene (record { 0 = r + 1 }) s ≡ true) (sym k.1) ms) a.node
                (subst₂ (λ (y : TxId) (s : PartId). In a.node (others y.node (others (record { 0 = r + 1 }) (replicas scene s)))) (sym k.0) (sym k.1) far) in
                replicated (c.0, c.1, (c.2.0, subst₂ (λ (y : TxId) (s : PartId). Replicates y s c.0.body) k.0 k.1 c.2.1)))
          ]

      -- a Prepare was sent to the master
      prepared : Sends (run scene es).sent (λ m. Prepares (name_of (at_place scene n) i) a.part m.body) → Goal
      unfolding Goal
      prepared h = by_body h.0.body refl h.2
        where
          by_body : (b : Body) → h.0.body ≡ b → Prepares (name_of (at_place scene n) i) a.part b → AnswerUnderWay scene (run scene es) (name_of (at_place scene n) i) a.part
          by_body (Prepare t q rs lc ws) e d =
              let at = at_in (run scene es).sent h.0 h.1 in
              let b : h.0.body ≡ Prepare (name_of (at_place scene n) i) a.part rs lc ws = e ∙ (λ j. Prepare (d.0 j) (d.1 j) rs lc ws) in
              let ad = addressed h.0 h.1 (Prepare (name_of (at_place scene n) i) a.part rs lc ws) b in
              let pl = place_of h.0.receiver (host_exists scene ok h.0.receiver a.part (master_hosts (record { scene = scene; node = h.0.receiver }) a.part ad.1)) in
              let ms : is_master scene (record { 0 = pl.0 + 1 }) a.part ≡ true = subst (λ (s : NodeId). is_master scene s a.part ≡ true) pl.1 ad.1 in
              elim (flag at.0 h.0 at.1) [
                | inl f ↦ u_message (at.0, h.0, at.1, f, subst (IsOfPair (name_of (at_place scene n) i) a.part) (sym b) (refl, refl))
                | inr f ↦ (let g = given_at scene ok es at.0 pl.0 h.0 f at.1 pl.1 pl.2 in
                    let u = view_of pl.0 pl.2 in
                    elim ((prepare_judged scene ok es at.0 pl.0 h.0 g pl.1 (name_of (at_place scene n) i) a.part rs lc ws b u.0 u.1).1) [
                      | inl z ↦ done_goal pl.0 u.0 u.1 z
                      | inr z ↦ (elim z [
                        | inl y ↦ stands_goal pl.0 u.0 u.1 ms (λ q. ad.2 (q ∙ ap (λ (s : NodeId). s.0) (sym pl.1))) y
                        | inr y ↦ parked_goal pl.0 u.0 u.1 ms y
                      ])
                    ])
              ]
          by_body (ReadReq t k rs) e d = absurd d
          by_body (ReadReply t k u by fc) e d = absurd d
          by_body (Replicate t q rs lc ws) e d = absurd d
          by_body (Refusal t q by k) e d = absurd d
          by_body (Ack t q ts) e d = absurd d
          by_body (Commit t q fc ms) e d = absurd d
          by_body (Abort t q) e d = absurd d

      answer_under_way : AnswerUnderWay scene (run scene es) (name_of (at_place scene n) i) a.part
      unfolding Goal
      answer_under_way = by ((followed scene ok es).asked n i v x a there own ina asked_)
        where
          by : AskSent (run scene es).sent (name_of (at_place scene n) i) a → AnswerUnderWay scene (run scene es) (name_of (at_place scene n) i) a.part
          by (inl h) = prepared h
          by (inr h) = replicated h

    -- ---- the value of a key

    module _ (k : KeyId) (e : x.phase ≡ Remote k) where
      -- a reply that was sent was never given
      replied : Sends (run scene es).sent (λ m. Replies (name_of (at_place scene n) i) k m.body) → ReadUnderWay scene (run scene es) (name_of (at_place scene n) i) k
      replied h = by_body h.0.body refl h.2
        where
          by_body : (b : Body) → h.0.body ≡ b → Replies (name_of (at_place scene n) i) k b → ReadUnderWay scene (run scene es) (name_of (at_place scene n) i) k
          by_body (ReadReply t l a by fc) q d =
              let at = at_in (run scene es).sent h.0 h.1 in
              let b : h.0.body ≡ ReadReply (name_of (at_place scene n) i) k a by fc = q ∙ (λ j. ReadReply (d.0 j) (d.1 j) a by fc) in
              let to = addressed h.0 h.1 (ReadReply (name_of (at_place scene n) i) k a by fc) b in
              elim (flag at.0 h.0 at.1) [
                | inl f ↦ ru_message (at.0, h.0, at.1, f, subst (IsOfRead (name_of (at_place scene n) i) k) (sym b) (refl, refl))
                | inr f ↦ (let g = given_at scene ok es at.0 n h.0 f at.1 to within in
                    let r = reply_judged scene ok es at.0 n h.0 g to i k a by fc b v there in
                    let same = same_x r.0 r.1 in
                    absurd (past_not (at_place scene n) r.0 k (((posted scene ok es).facts n v there).needy i r.0 r.1) (ap (λ (z : Own). z.phase) same ∙ e) r.2))
              ]
          by_body (ReadReq t l rs) q d = absurd d
          by_body (Prepare t p rs lc ws) q d = absurd d
          by_body (Replicate t p rs lc ws) q d = absurd d
          by_body (Refusal t p by l) q d = absurd d
          by_body (Ack t p ts) q d = absurd d
          by_body (Commit t p fc ms) q d = absurd d
          by_body (Abort t p) q d = absurd d

      read_under_way : ReadUnderWay scene (run scene es) (name_of (at_place scene n) i) k
      read_under_way =
          let rq = requests_sent scene es n i v x k there own e in
          let m : Message = letter (at_place scene n) rq.0 (ReadReq (name_of (at_place scene n) i) k rq.1) in
          let at = at_in (run scene es).sent m rq.2 in
          let ad = addressed m rq.2 (ReadReq (name_of (at_place scene n) i) k rq.1) refl in
          let hs : hosts scene rq.0 (part_of scene k) ≡ true = master_hosts (record { scene = scene; node = rq.0 }) (part_of scene k) ad.1 in
          let pl = place_of rq.0 (host_exists scene ok rq.0 (part_of scene k) hs) in
          let hs' : hosts_key (at_place scene pl.0) k ≡ true = subst (λ (s : NodeId). hosts scene s (part_of scene k) ≡ true) pl.1 hs in
          let ms : is_master scene (record { 0 = pl.0 + 1 }) (part_of scene k) ≡ true = subst (λ (s : NodeId). is_master scene s (part_of scene k) ≡ true) pl.1 ad.1 in
          let other : n + 1 ≢ pl.0 + 1 = (λ q. cc (ad.2, subst (λ (s : ℕ). hosts scene (record { 0 = s }) (part_of scene k) ≡ true) (sym q) hs')) in
          elim (flag at.0 m at.1) [
            | inl f ↦ ru_message (at.0, m, at.1, f, (refl, refl))
            | inr f ↦ (let g = given_at scene ok es at.0 pl.0 m f at.1 pl.1 pl.2 in
                let w = request_judged scene ok es at.0 pl.0 m g pl.1 (name_of (at_place scene n) i) k rq.1 refl hs' other in
                elim w.fact [
                  | inl z ↦ (let c = at_in w.view.waiters (Read (name_of (at_place scene n) i) k z.0) z.1 in ru_waits pl.0 c.0 w.view z.0 ms w.there c.1)
                  | inr z ↦ replied z
                ])
          ]

pub under_way : UnderWayHolds
under_way scene ok es =
    record {
      answer = λ n i k lc v x a there own l op at asked_ none. answer_under_way scene ok es n i v x there own lc l op a (in_at x.parts k a at) asked_ none;
      reading = λ n i v x k there own e. read_under_way scene ok es n i v x there own k e;
    }

-- What was sent, in every state of a run: each partition that is asked was asked by a message, each version and each done pair of another node's transaction was
-- answered for, and each message follows one that asks for it.
use Rattle.std.proofs.Common.{List, Some, [], ap, arith, eqb-true, filter, inl, inr, map, not, refl, slice_get, slice_set, subst, subst₂, sym, true, ℕ, ◌++◌, ◌+◌, ◌∙◌, ◌∷◌, ◌≡◌, ◌≢◌, ◌⊎◌}
use Rattle.partition_map.specs.declared.rows.Asked.{Asked}
use Rattle.si_laws.proofs.Stages.ParticipantSeats.{own_seat}
use Rattle.si_laws.specs.Laws.Presence.{Decides}
use Rattle.spsi_laws.proofs.UnderWay.NewMessages.{IsDecision, Post, p_ack, p_copy, p_decision, p_prepare, p_refuse, p_replicate, p_reply, p_request, posts}
use Rattle.spsi_laws.proofs.UnderWay.OneOwn.{OneHas, one-act}
use Rattle.spsi_laws.proofs.UnderWay.PastReads.{Requested, keeps_requested}
use Rattle.spsi_laws.proofs.UnderWay.SentFor.{AskedFrom, DoneFrom, StandsFrom, asked_act, asked_before, asked_now, dn_came, dn_old, dn_refused, done_act, st_accept, st_old, st_own, st_take, stands_act}
use Rattle.spsi_laws.proofs.UnderWay.ValidMessages.{Posted, posted_keeps, posted_opening}
use Rattle.str_base.specs.Versions.{same_node, stamp}
use Rattle.str_base.specs.declared.names.KeyId.{KeyId}
use Rattle.str_base.specs.declared.names.NodeId.{NodeId}
use Rattle.str_base.specs.declared.names.PartId.{PartId}
use Rattle.str_base.specs.declared.names.Ts.{Ts}
use Rattle.str_base.specs.declared.names.TxId.{TxId}
use Rattle.str_base.specs.declared.names.Version.{Version}
use Rattle.str_model.proofs.Changes.SnapshotsGain.{if_elim}
use Rattle.str_model.proofs.Changes.VersionChanges.{Placed, WaitStep, by_master, by_slave, sent_step, w_fewer, w_more, wait_step}
use Rattle.str_model.proofs.Principle.Everywhere.{IsSeen, Sent, Stage, at_place, during, everywhere, stage_of}
use Rattle.str_model.proofs.Principle.SingleChanges.{Act, Arrives, IsAsked, IsHere, Where, a_prepare, a_read, asked_before as read_before, asked_now as read_now, it_comes, it_waits}
use Rattle.str_model.specs.Acts
use Rattle.str_model.specs.Owned.{Asks, Owns}
use Rattle.str_model.specs.Runs.{opening, opening_view, run}
use Rattle.str_model.specs.Views.{Doing, Own, Remote, View, letter, name_of}
use Rattle.str_model.specs.declared.messages.Arrived.{Arrived}
use Rattle.str_model.specs.declared.messages.Body.{Body}
use Rattle.str_model.specs.declared.messages.Body.TheVariants.{Abort, Ack, Commit, Prepare, ReadReply, ReadReq, Refuse as Refusal, Replicate}
use Rattle.str_model.specs.declared.messages.Input.{Input}
use Rattle.str_model.specs.declared.messages.Input.TheVariants.{Deliver}
use Rattle.str_model.specs.declared.messages.Message.{Message}
use Rattle.str_model.specs.declared.messages.Waiter.{Waiter}
use Rattle.str_model.specs.declared.messages.Waiter.TheVariants.{Held, Read}
use Rattle.str_scene.specs.SceneLimits.{IsScene}
use Rattle.str_scene.specs.Scenes.{Here, Scene, first_or, in_part, is_master, leads, others, replicas}
use Rattle.str_scene.specs.declared.names.Event.{Event}
use Rattle.std.proofs.lemmas.Bool.{false_from_ne_true}
use Rattle.str_base.proofs.Members.{filter_in, in_append, in_at, in_left, in_right, map_in}
use Rattle.str_base.proofs.Lists.{get_set, get_set_other, got_replicate, got_set}
use Rattle.str_base.specs.Members.{In}

-- such a message was sent
abbrev pub Sends : List Message → (Message → Type 0) → Type 0
Sends ms P = (m : Message) × In m ms × P m

-- ---- kinds of messages

abbrev pub Prepares : TxId → PartId → Body → Type 0
Prepares tx p (Prepare t q rs lc ws) = (t ≡ tx) × (q ≡ p)
Prepares tx p _ = ⊥

abbrev pub Replicates : TxId → PartId → Body → Type 0
Replicates tx p (Replicate t q rs lc ws) = (t ≡ tx) × (q ≡ p)
Replicates tx p _ = ⊥

abbrev pub Acks : TxId → PartId → Body → Type 0
Acks tx p (Ack t q ts) = (t ≡ tx) × (q ≡ p)
Acks tx p _ = ⊥

abbrev pub Refuses : TxId → PartId → Body → Type 0
Refuses tx p (Refusal t q by k) = (t ≡ tx) × (q ≡ p)
Refuses tx p _ = ⊥

abbrev pub Requests : TxId → KeyId → Body → Type 0
Requests tx k (ReadReq t l rs) = (t ≡ tx) × (l ≡ k)
Requests tx k _ = ⊥

-- the transaction's node has asked the partition
abbrev pub AskedBy : TxId → PartId → Message → Type 0
AskedBy tx p m = (m.sender ≡ tx.node) × Asks tx p m.body

-- which message a message follows
abbrev pub Follows : List Message → Body → Type 0
Follows ms (ReadReply tx k v by fc) = Sends ms (λ m. Requests tx k m.body)
Follows ms (Prepare tx p rs lc ws) = Sends ms (AskedBy tx p)
Follows ms (Refusal tx p by k) = Sends ms (AskedBy tx p)
Follows ms (Replicate tx p rs lc ws) = Sends ms (AskedBy tx p)
Follows ms (Ack tx p ts) = Sends ms (AskedBy tx p)
Follows ms _ = Unit {0}

-- the participant was sent what asks it, or its master was
abbrev pub AskSent : List Message → TxId → Asked → Type 0
AskSent ms tx a = Sends ms (λ m. Prepares tx a.part m.body) ⊎ Sends ms (λ m. (m.receiver ≡ a.node) × Replicates tx a.part m.body)

-- a pair that stands at a node: its Ack was sent, and by the master the Replicates to the other slaves
pub record AnsweredFor (scene : Scene) (ms : List Message) (r : NodeId) (tx : TxId) (p : PartId) : Type 0 where
  pub ack : Sends ms (λ m. (m.sender ≡ r) × Acks tx p m.body)
  pub copies : is_master scene r p ≡ true → (s : NodeId) → In s (others tx.node (others r (replicas scene p))) → Sends ms (λ m. (m.receiver ≡ s) × Replicates tx p m.body)

pub record Followed (scene : Scene) (s : Stage) : Type 0 where
  pub posted_ : Posted scene s
  pub asked : (n i : ℕ) (v : View) (x : Own) (a : Asked) → slice_get s.nodes n ≡ Some v → Owns v i x → In a x.parts → a.asked ≡ true → AskSent s.sent (name_of (at_place scene n) i) a
  pub stands : (n : ℕ) (v : View) (q : Version) → slice_get s.nodes n ≡ Some v → In q v.versions → q.tx.node ≢ record { 0 = n + 1 } → AnsweredFor scene s.sent (record { 0 = n + 1 }) q.tx q.part
  pub done_ : (n : ℕ) (v : View) (tx : TxId) (p : PartId) → slice_get s.nodes n ≡ Some v → In (tx, p) v.done → Sends s.sent (λ m. Decides tx p m.body) ⊎ Sends s.sent (λ m. Refuses tx p m.body)
  pub held : (n : ℕ) (v : View) (a : Arrived) → slice_get s.nodes n ≡ Some v → In (Held a) v.waiters → Sends s.sent (AskedBy a.tx a.part)
  pub reading : (n : ℕ) (v : View) (tx : TxId) (k : KeyId) (rs : Ts) → slice_get s.nodes n ≡ Some v → In (Read tx k rs) v.waiters → Sends s.sent (λ m. Requests tx k m.body)
  pub each : (m : Message) → In m s.sent → Follows s.sent m.body
  pub requested : (m : Message) (n i : ℕ) (v : View) (k : KeyId) → In m s.sent → slice_get s.nodes n ≡ Some v → Requests (name_of (at_place scene n) i) k m.body → OneHas (λ x. Requested x k) i v

-- ---- more messages

more : {P : Message → Type 0} (xs ys : List Message) → ((m : Message) → In m xs → In m ys) → Sends xs P → Sends ys P
more xs ys f h = (h.0, f h.0 h.1, h.2)

follows_more : (xs ys : List Message) → ((m : Message) → In m xs → In m ys) → (b : Body) → Follows xs b → Follows ys b
follows_more xs ys f (ReadReq tx k rs) h = tt
follows_more xs ys f (ReadReply tx k v by fc) h = (h.0, f h.0 h.1, h.2)
follows_more xs ys f (Prepare tx p rs lc ws) h = (h.0, f h.0 h.1, h.2)
follows_more xs ys f (Refusal tx p by k) h = (h.0, f h.0 h.1, h.2)
follows_more xs ys f (Replicate tx p rs lc ws) h = (h.0, f h.0 h.1, h.2)
follows_more xs ys f (Ack tx p ts) h = (h.0, f h.0 h.1, h.2)
follows_more xs ys f (Commit tx p fc ms) h = tt
follows_more xs ys f (Abort tx p) h = tt

module _ (scene : Scene) (s : Stage) (i : ℕ) (v : View) (input : Input) (w : Where) (d e : Doing) (is : slice_get s.nodes i ≡ Some v) (seen : IsSeen s input) (act : Act (at_place scene i) input w d e)
    (h : Followed scene (during s i d)) (after : Posted scene (during s i e)) where
  here : Here
  here = at_place scene i

  there : slice_get (slice_set s.nodes i d.view) i ≡ Some d.view
  there = get_set s.nodes i v d.view is

  older : (m : Message) → In m (s.sent ++ d.sent) → In m (s.sent ++ e.sent)
  older m k =
      let new = sent_step (at_place scene i) input w d e act in
      elim (in_append s.sent d.sent m k) [
        | inl j ↦ in_left s.sent e.sent m j
        | inr j ↦ in_right s.sent e.sent m (subst (In m) (sym new.are) (in_left d.sent new.new m j))
      ]

  newer : (m : Message) → In m e.sent → In m (s.sent ++ e.sent)
  newer m k = in_right s.sent e.sent m k

  lift : {P : Message → Type 0} → Sends (s.sent ++ d.sent) P → Sends (s.sent ++ e.sent) P
  lift k = (k.0, older k.0 k.1, k.2)

  -- a message that has come was sent
  came : (m : Message) → input ≡ Deliver m → In m (s.sent ++ d.sent)
  came m q = let t : Sent s m = subst (IsSeen s) q seen in in_left s.sent d.sent m (in_at s.sent t.0 m t.1)

  here_asked : (a : Arrived) → IsHere (at_place scene i) input d a → Sends (s.sent ++ d.sent) (AskedBy a.tx a.part)
  here_asked a (it_comes from c u z m) = subst (Follows (s.sent ++ d.sent)) c.3 (h.each c.0 (came c.0 c.1))
  here_asked a (it_waits kept rest q) = h.held i d.view a there (subst (In (Held a)) (sym q) (in_right kept (Held a ∷ rest) (Held a) (inl refl)))

  placed_asked : (a : Arrived) → Placed (at_place scene i) input d a → Sends (s.sent ++ d.sent) (AskedBy a.tx a.part)
  placed_asked a (by_master g) = here_asked a g
  placed_asked a (by_slave from c t) = subst (Follows (s.sent ++ d.sent)) c.3 (h.each c.0 (came c.0 c.1))

  read_asked : (tx : TxId) (k : KeyId) (rs : ℕ) → IsAsked (at_place scene i) input d tx k rs → Sends (s.sent ++ d.sent) (λ m. Requests tx k m.body)
  read_asked tx k rs (read_now from t q c) = (c.0, came c.0 c.1, subst (Requests tx k) (sym c.3) (refl, refl))
  read_asked tx k rs (read_before t q j) = h.reading i d.view tx k t there j

  -- ---- each field

  post_follows : (m : Message) → In m e.sent → Post (at_place scene i) input d e m → Follows (s.sent ++ e.sent) m.body
  post_follows m k (p_request j l to x own own' aw) = tt
  post_follows m k (p_prepare j lc p x own l g t) = (m, newer m k, (refl, (refl, refl)))
  post_follows m k (p_replicate j lc p x r own l g t z) = (m, newer m k, (refl, (refl, refl)))
  post_follows m k (p_ack a ts pl) = lift (placed_asked a pl)
  post_follows m k (p_copy a r g j) = lift (here_asked a g)
  post_follows m k (p_refuse a by l g t) = lift (here_asked a g)
  post_follows m k (p_reply tx l rs u by fc g) = lift (read_asked tx l rs g.was_asked)
  post_follows m k (p_decision to (Commit tx p fc ms) z) = tt
  post_follows m k (p_decision to (Abort tx p) z) = tt
  post_follows m k (p_decision to (ReadReq tx l rs) z) = absurd z
  post_follows m k (p_decision to (ReadReply tx l u by fc) z) = absurd z
  post_follows m k (p_decision to (Prepare tx p rs lc ws) z) = absurd z
  post_follows m k (p_decision to (Replicate tx p rs lc ws) z) = absurd z
  post_follows m k (p_decision to (Refusal tx p by l) z) = absurd z
  post_follows m k (p_decision to (Ack tx p ts) z) = absurd z

  each_e : (m : Message) → In m (s.sent ++ e.sent) → Follows (s.sent ++ e.sent) m.body
  each_e m k = elim (in_append s.sent e.sent m k) [
    | inl j ↦ follows_more (s.sent ++ d.sent) (s.sent ++ e.sent) older m.body (h.each m (in_left s.sent d.sent m j))
    | inr j ↦ (elim (posts (at_place scene i) input w d e act m j) [
      | inl o ↦ follows_more (s.sent ++ d.sent) (s.sent ++ e.sent) older m.body (h.each m (in_right s.sent d.sent m o))
      | inr p ↦ post_follows m j p
    ])
  ]

  ask_more : (tx : TxId) (a : Asked) → AskSent (s.sent ++ d.sent) tx a → AskSent (s.sent ++ e.sent) tx a
  ask_more tx a (inl k) = inl (lift k)
  ask_more tx a (inr k) = inr (lift k)

  asked_here : (j : ℕ) (x : Own) (a : Asked) → Owns e.view j x → In a x.parts → a.asked ≡ true → AskSent (s.sent ++ e.sent) (name_of (at_place scene i) j) a
  asked_here j x a own m t = by (asked_act (at_place scene i) input w d e act j x a own m t)
    where
      by : AskedFrom (at_place scene i) d e j a → AskSent (s.sent ++ e.sent) (name_of (at_place scene i) j) a
      by (asked_before y b o k part node q) =
          ask_more (name_of (at_place scene i) j) a (subst₂ (λ (p : PartId) (n : NodeId). AskSent (s.sent ++ d.sent) (name_of (at_place scene i) j) (record a { part = p; node = n })) part node (h.asked i j d.view y b there o k q))
      by (asked_now lc y b o k part node f) =
          let seat = own_seat (at_place scene i) d.view.versions j y ((h.posted_.facts i d.view there).homes j y o) b k in
          let rs = replicas scene a.part in
          let me : NodeId = record { 0 = i + 1 } in
          let ws = filter (in_part scene a.part) y.writes in
          let inrow : In a.node (replicas scene a.part) = subst₂ (λ (p : PartId) (n : NodeId). In n (replicas scene p)) part node seat.replica in
          let other : a.node.0 ≢ i + 1 = (λ q. seat.other (ap (λ (n : NodeId). n.0) node ∙ q)) in
          let letters : (m : Message) → In m (Acts.ask_letters (at_place scene i) j lc y a.part rs) → In m e.sent = f in
          (if_elim (λ (ms : List Message). ((m : Message) → In m ms → In m e.sent) → AskSent (s.sent ++ e.sent) (name_of (at_place scene i) j) a) (leads me rs)
          (map (λ (r : NodeId). letter (at_place scene i) r (Replicate (name_of (at_place scene i) j) a.part (stamp y.snap.rs) (stamp lc) ws)) (others me rs))
          (letter (at_place scene i) (first_or me rs) (Prepare (name_of (at_place scene i) j) a.part (stamp y.snap.rs) (stamp lc) ws) ∷ [])
          (λ t g. inr (
            letter (at_place scene i) a.node (Replicate (name_of (at_place scene i) j) a.part (stamp y.snap.rs) (stamp lc) ws),
            newer _ (g _ (map_in (λ (r : NodeId). letter (at_place scene i) r (Replicate (name_of (at_place scene i) j) a.part (stamp y.snap.rs) (stamp lc) ws)) (others me rs) a.node
                (filter_in (λ (r : NodeId). not (same_node r me)) rs a.node inrow (ap not (false_from_ne_true (same_node a.node me) (λ q. other (eqb-true a.node.0 me.0 q))))))),
            (refl, (refl, refl)),
          ))
          (λ t g. inl (letter (at_place scene i) (first_or me rs) (Prepare (name_of (at_place scene i) j) a.part (stamp y.snap.rs) (stamp lc) ws), newer _ (g _ (inl refl)), (refl, refl)))) letters

  stands_here : (q : Version) → In q e.view.versions → q.tx.node ≢ record { 0 = i + 1 } → AnsweredFor scene (s.sent ++ e.sent) (record { 0 = i + 1 }) q.tx q.part
  stands_here q m other = by (stands_act (at_place scene i) input w d e act q m)
    where
      pair : (t u : TxId) (p r : PartId) → t ≡ u → p ≡ r → AnsweredFor scene (s.sent ++ e.sent) (record { 0 = i + 1 }) t p → AnsweredFor scene (s.sent ++ e.sent) (record { 0 = i + 1 }) u r
      pair t u p r a b k = subst₂ (λ (x : TxId) (y : PartId). AnsweredFor scene (s.sent ++ e.sent) (record { 0 = i + 1 }) x y) a b k

      by : StandsFrom (at_place scene i) input d e q → AnsweredFor scene (s.sent ++ e.sent) (record { 0 = i + 1 }) q.tx q.part
      by (st_old p k t r) =
          let o = h.stands i d.view p there k (λ z. other (ap (λ (x : TxId). x.node) (sym t) ∙ z)) in
          pair p.tx q.tx p.part q.part t r (record { ack = lift o.ack; copies = λ z n j. lift (o.copies z n j) })
      by (st_own z) = absurd (other z)
      by (st_accept a ts t r g k c) =
          pair a.tx q.tx a.part q.part (sym t) (sym r)
          (record { ack = (letter (at_place scene i) a.tx.node (Ack a.tx a.part (stamp ts)), newer _ k, (refl, (refl, refl))); copies = λ z n j. (letter (at_place scene i) n (Replicate a.tx a.part a.rs a.lc a.writes), newer _ (c n j), (refl, (refl, refl))) })
      by (st_take a ts t r z k) =
          pair a.tx q.tx a.part q.part (sym t) (sym r)
          (record { ack = (letter (at_place scene i) a.tx.node (Ack a.tx a.part (stamp ts)), newer _ k, (refl, (refl, refl))); copies = λ y n j. absurd (cc (y, z)) })

  done_here : (tx : TxId) (p : PartId) → In (tx, p) e.view.done → Sends (s.sent ++ e.sent) (λ m. Decides tx p m.body) ⊎ Sends (s.sent ++ e.sent) (λ m. Refuses tx p m.body)
  done_here tx p m = by (done_act (at_place scene i) input w d e act tx p m)
    where
      by : DoneFrom (at_place scene i) input d e tx p → Sends (s.sent ++ e.sent) (λ m. Decides tx p m.body) ⊎ Sends (s.sent ++ e.sent) (λ m. Refuses tx p m.body)
      by (dn_old k) = elim (h.done_ i d.view tx p there k) [ inl z ↦ inl (lift z) | inr z ↦ inr (lift z) ]
      by (dn_came l q k) = inl (l, older l (came l q), k)
      by (dn_refused to u k z) = inr (letter (at_place scene i) to (Refusal tx p u k), newer _ z, (refl, refl))

  arrived_held : (a : Arrived) (r : Waiter) → Arrives (at_place scene i) input d r → r ≡ Held a → Sends (s.sent ++ d.sent) (AskedBy a.tx a.part)
  arrived_held a r (a_read from tx k rs c) q = absurd (cc q)
  arrived_held a r (a_prepare from b c u z m) q =
      let same : b ≡ a = cc q in subst (λ (x : Arrived). Sends (s.sent ++ d.sent) (AskedBy x.tx x.part)) same (subst (Follows (s.sent ++ d.sent)) c.3 (h.each c.0 (came c.0 c.1)))

  held_here : (a : Arrived) → WaitStep (at_place scene i) input d e → In (Held a) e.view.waiters → Sends (s.sent ++ e.sent) (AskedBy a.tx a.part)
  held_here a (w_fewer f) k = lift (h.held i d.view a there (f (Held a) k))
  held_here a (w_more r c q) k = elim (in_append d.view.waiters (r ∷ []) (Held a) (subst (In (Held a)) q k)) [
    | inl j ↦ lift (h.held i d.view a there j)
    | inr j ↦ (elim j [ inl z ↦ lift (arrived_held a r c z) | inr z ↦ absurd z ])
  ]

  arrived_read : (tx : TxId) (k : KeyId) (rs : Ts) (r : Waiter) → Arrives (at_place scene i) input d r → r ≡ Read tx k rs → Sends (s.sent ++ d.sent) (λ m. Requests tx k m.body)
  arrived_read tx k rs r (a_read from t l ts c) q =
      let a : t ≡ tx = cc q in let b : l ≡ k = cc q in (c.0, came c.0 c.1, subst (Requests tx k) (sym c.3) (a, b))
  arrived_read tx k rs r (a_prepare from b c u z m) q = absurd (cc q)

  reading_here : (tx : TxId) (k : KeyId) (rs : Ts) → WaitStep (at_place scene i) input d e → In (Read tx k rs) e.view.waiters → Sends (s.sent ++ e.sent) (λ m. Requests tx k m.body)
  reading_here tx k rs (w_fewer f) m = lift (h.reading i d.view tx k rs there (f (Read tx k rs) m))
  reading_here tx k rs (w_more r c q) m = elim (in_append d.view.waiters (r ∷ []) (Read tx k rs) (subst (In (Read tx k rs)) q m)) [
    | inl j ↦ lift (h.reading i d.view tx k rs there j)
    | inr j ↦ (elim j [ inl z ↦ lift (arrived_read tx k rs r c z) | inr z ↦ absurd z ])
  ]

  -- the transaction of a request waits for it, or that is past
  old_requested : (m : Message) (n j : ℕ) (u : View) (k : KeyId) → In m (s.sent ++ d.sent) → slice_get (slice_set s.nodes i e.view) n ≡ Some u → Requests (name_of (at_place scene n) j) k m.body → OneHas (λ x. Requested x k) j u
  old_requested m n j u k o g r = elim (got_set s.nodes i n e.view u g) [
    | inl q ↦ subst (OneHas (λ x. Requested x k) j) (sym q.1)
        (one-act (at_place scene i) input (λ x. Requested x k) w d e (keeps_requested (at_place scene i) input d k) act j
        (h.requested m i j d.view k o there (subst (λ (z : ℕ). Requests (name_of (at_place scene z) j) k m.body) q.0 r)))
    | inr q ↦ h.requested m n j u k o (get_set_other s.nodes i n d.view q.0 ∙ q.1) r
  ]

  no_request : {A : Type 0} (tx : TxId) (k : KeyId) (b : Body) → IsDecision b → Requests tx k b → A
  no_request tx k (Commit t p fc ms) z r = absurd r
  no_request tx k (Abort t p) z r = absurd r
  no_request tx k (ReadReq t l rs) z r = absurd z
  no_request tx k (ReadReply t l u by fc) z r = absurd z
  no_request tx k (Prepare t p rs lc ws) z r = absurd z
  no_request tx k (Replicate t p rs lc ws) z r = absurd z
  no_request tx k (Refusal t p by l) z r = absurd z
  no_request tx k (Ack t p ts) z r = absurd z

  new_requested : (m : Message) (n j : ℕ) (u : View) (k : KeyId) → Post (at_place scene i) input d e m → slice_get (slice_set s.nodes i e.view) n ≡ Some u → Requests (name_of (at_place scene n) j) k m.body → OneHas (λ x. Requested x k) j u
  new_requested m n j u k (p_request c l to x own own' aw) g r =
      let node : i + 1 ≡ n + 1 = ap (λ (z : TxId). z.node.0) r.0 in
      let place : c + 1 ≡ j + 1 = ap (λ (z : TxId). z.seq) r.0 in
      let at : c ≡ j = omega (arith, place) in
      let same : i ≡ n = omega (arith, node) in
      let view : e.view ≡ u = (let both : Some e.view ≡ Some u = sym (get_set s.nodes i v e.view is) ∙ (ap (λ (z : ℕ). slice_get (slice_set s.nodes i e.view) z) same ∙ g) in cc both) in
      (Acts.in_phase (Remote l) x, subst₂ (λ (z : View) (y : ℕ). Owns z y (Acts.in_phase (Remote l) x)) view at own', inl (ap (λ (z : KeyId). Remote z) r.1))
  new_requested m n j u k (p_prepare c lc p x own l z t) g r = absurd r
  new_requested m n j u k (p_replicate c lc p x q own l z t y) g r = absurd r
  new_requested m n j u k (p_ack a ts pl) g r = absurd r
  new_requested m n j u k (p_copy a q z y) g r = absurd r
  new_requested m n j u k (p_refuse a by l z t) g r = absurd r
  new_requested m n j u k (p_reply tx l rs b by fc z) g r = absurd r
  new_requested m n j u k (p_decision to b z) g r = no_request (name_of (at_place scene n) j) k b z r

  requested_e : (m : Message) (n j : ℕ) (u : View) (k : KeyId) → In m (s.sent ++ e.sent) → slice_get (slice_set s.nodes i e.view) n ≡ Some u → Requests (name_of (at_place scene n) j) k m.body → OneHas (λ x. Requested x k) j u
  requested_e m n j u k o g r = elim (in_append s.sent e.sent m o) [
    | inl z ↦ old_requested m n j u k (in_left s.sent d.sent m z) g r
    | inr z ↦ (elim (posts (at_place scene i) input w d e act m z) [
      | inl y ↦ old_requested m n j u k (in_right s.sent d.sent m y) g r
      | inr p ↦ new_requested m n j u k p g r
    ])
  ]

  pub followed_step : Followed scene (during s i e)
  followed_step = record {
    posted_ = after;
    asked = λ n j u x a g own m t. elim (got_set s.nodes i n e.view u g) [
      | inl q ↦ subst (λ (k : ℕ). AskSent (s.sent ++ e.sent) (name_of (at_place scene k) j) a) (sym q.0) (asked_here j x a (subst (λ (z : View). Owns z j x) q.1 own) m t)
      | inr q ↦ ask_more (name_of (at_place scene n) j) a (h.asked n j u x a (get_set_other s.nodes i n d.view q.0 ∙ q.1) own m t)
    ];
    stands = λ n u q g m o. elim (got_set s.nodes i n e.view u g) [
      | inl r ↦ subst (λ (k : ℕ). AnsweredFor scene (s.sent ++ e.sent) (record { 0 = k + 1 }) q.tx q.part) (sym r.0)
          (stands_here q (subst (λ (z : View). In q z.versions) r.1 m) (subst (λ (k : ℕ). q.tx.node ≢ record { 0 = k + 1 }) r.0 o))
      | inr r ↦ (let k = h.stands n u q (get_set_other s.nodes i n d.view r.0 ∙ r.1) m o in record { ack = lift k.ack; copies = λ z y j. lift (k.copies z y j) })
    ];
    done_ = λ n u tx p g m. elim (got_set s.nodes i n e.view u g) [
      | inl r ↦ done_here tx p (subst (λ (z : View). In (tx, p) z.done) r.1 m)
      | inr r ↦ (elim (h.done_ n u tx p (get_set_other s.nodes i n d.view r.0 ∙ r.1) m) [ inl z ↦ inl (lift z) | inr z ↦ inr (lift z) ])
    ];
    held = λ n u a g m. elim (got_set s.nodes i n e.view u g) [
      | inl r ↦ held_here a (wait_step (at_place scene i) input w d e act) (subst (λ (z : View). In (Held a) z.waiters) r.1 m)
      | inr r ↦ lift (h.held n u a (get_set_other s.nodes i n d.view r.0 ∙ r.1) m)
    ];
    reading = λ n u tx k rs g m. elim (got_set s.nodes i n e.view u g) [
      | inl r ↦ reading_here tx k rs (wait_step (at_place scene i) input w d e act) (subst (λ (z : View). In (Read tx k rs) z.waiters) r.1 m)
      | inr r ↦ lift (h.reading n u tx k rs (get_set_other s.nodes i n d.view r.0 ∙ r.1) m)
    ];
    each = each_e;
    requested = λ m n j u k o g r. requested_e m n j u k o g r;
  }

pub followed_opening : (scene : Scene) → Posted scene (stage_of (opening scene)) → Followed scene (stage_of (opening scene))
followed_opening scene p =
    record {
      posted_ = p;
      asked = λ n i v x a g own m t. absurd (cc (ap (λ (z : View). slice_get z.own i) (sym (empty n v g)), own));
      stands = λ n v q g m o. absurd (subst (λ (z : View). In q z.versions) (empty n v g) m);
      done_ = λ n v tx q g m. absurd (subst (λ (z : View). In (tx, q) z.done) (empty n v g) m);
      held = λ n v a g m. absurd (subst (λ (z : View). In (Held a) z.waiters) (empty n v g) m);
      reading = λ n v tx k rs g m. absurd (subst (λ (z : View). In (Read tx k rs) z.waiters) (empty n v g) m);
      each = λ m k. absurd k;
      requested = λ m n i v k o g r. absurd o;
    }
  where
    empty : (n : ℕ) (v : View) → slice_get (opening scene).nodes n ≡ Some v → v ≡ opening_view scene
    empty n v g = got_replicate scene.nodes n (opening_view scene) v g

pub followed : (scene : Scene) → IsScene scene → (es : List Event) → Followed scene (stage_of (run scene es))
followed scene ok es =
    everywhere scene (Followed scene)
    (λ s i v input w d e is seen hs act h. followed_step scene s i v input w d e is seen act h (posted_keeps scene ok s i v input w d e is seen hs.posted_ act h.posted_))
    (followed_opening scene (posted_opening scene)) es

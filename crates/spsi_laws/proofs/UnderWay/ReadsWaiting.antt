-- A waiting read waits on until its reply is sent, and who waits for another node has sent its request, in every state of a run.
use Rattle.std.proofs.Common.{List, None, Option, Some, [], add-one, ap, inl, inr, length, option_map, refl, slice_get, slice_set, sub-one, subst, suc, sym, zero, ℕ, ◌++◌, ◌-◌, ◌∙◌, ◌∷◌, ◌≡◌, ◌≢◌, ◌⊎◌}
use Rattle.spsi_laws.proofs.UnderWay.Followed.{Sends}
use Rattle.spsi_laws.proofs.UnderWay.RequestsKept.{AllRequested, KeepsRequests, KeepsTo, pass_, rule_}
use Rattle.str_base.specs.declared.names.KeyId.{KeyId}
use Rattle.str_base.specs.declared.names.NodeId.{NodeId}
use Rattle.str_base.specs.declared.names.Ts.{Ts}
use Rattle.str_base.specs.declared.names.TxId.{TxId}
use Rattle.str_model.proofs.Principle.Everywhere.{IsSeen, Sent, Stage, at_place, during, stage_of}
use Rattle.str_model.proofs.Principle.StepPaths.{waiter_turn-waited}
use Rattle.str_model.proofs.Principle.SingleChanges.{InWait}
use Rattle.str_model.specs.Acts
use Rattle.str_model.specs.Acts.{accepted, refused, replied, with_waiters}
use Rattle.str_model.specs.Owned.{Owns}
use Rattle.str_model.specs.Pass
use Rattle.str_model.specs.Proposals.{Accept, Ignore, MasterTurn, Park, Refuse, master_turn}
use Rattle.str_model.specs.Runs
use Rattle.str_model.specs.Runs.{World, give, happens, opening, opening_view, run, run_from}
use Rattle.str_model.specs.Steps
use Rattle.str_model.specs.Steps.{step}
use Rattle.str_model.specs.Turns.{Give, ServeTurn, ServeWait, serve_turn}
use Rattle.str_model.specs.Views.{Doing, Own, Remote, View, letter, name_of, starts}
use Rattle.str_model.specs.Waiters
use Rattle.str_model.specs.declared.messages.Arrived.{Arrived}
use Rattle.str_model.specs.declared.messages.Body.{Body}
use Rattle.str_model.specs.declared.messages.Body.TheVariants.{Ack, ReadReply, ReadReq, Refuse as Refusal}
use Rattle.str_model.specs.declared.messages.Input.{Input}
use Rattle.str_model.specs.declared.messages.Input.TheVariants.{Client, Deliver}
use Rattle.str_model.specs.declared.messages.Message.{Message}
use Rattle.str_model.specs.declared.messages.Waiter.{Waiter}
use Rattle.str_model.specs.declared.messages.Waiter.TheVariants.{Held, Read}
use Rattle.str_scene.specs.Scenes.{Here, Scene, Session, nth, replicas}
use Rattle.str_scene.specs.declared.names.Event.{Event}
use Rattle.str_scene.specs.declared.names.Event.TheVariants.{Client as ClientEvent, Deliver as DeliverEvent}
use Rattle.str_base.proofs.Lists.{get_set, get_set_other, got_replicate, got_set}
use Rattle.std.proofs.lemmas.Bool.{cases_eq}
use Rattle.str_base.proofs.Members.{in_append, in_left, in_right}
use Rattle.str_base.specs.Members.{In}

abbrev pub Replies : TxId → KeyId → Body → Type 0
Replies tx k (ReadReply t l v by fc) = (t ≡ tx) × (l ≡ k)
Replies tx k _ = ⊥

-- one of the list is this one, or stands without it
in_removed : (kept rest : List Waiter) (w x : Waiter) → In x (kept ++ w ∷ rest) → (w ≡ x) ⊎ In x (kept ++ rest)
in_removed [] rest w x h = h
in_removed (y ∷ kept) rest w x (inl e) = inr (inl e)
in_removed (y ∷ kept) rest w x (inr h) = elim (in_removed kept rest w x h) [ inl e ↦ inl e | inr k ↦ inr (inr k) ]

module _ (here : Here) where
  -- nothing that was sent is taken back, own transactions stay, and a waiting read waits on or is answered
  record Sweeps (d e : Doing) : Type 0 where
    own : e.view.own ≡ d.view.own
    sent : (m : Message) → In m d.sent → In m e.sent
    reads : (tx : TxId) (k : KeyId) (rs : Ts) → In (Read tx k rs) d.view.waiters → In (Read tx k rs) e.view.waiters ⊎ Sends e.sent (λ m. Replies tx k m.body)

  stays : (d : Doing) → Sweeps d d
  stays d = record { own = refl; sent = λ m h. h; reads = λ tx k rs h. inl h }

  and_on : (c d e : Doing) → Sweeps c d → Sweeps d e → Sweeps c e
  and_on c d e p q = record {
    own = q.own ∙ p.own;
    sent = λ m h. q.sent m (p.sent m h);
    reads = λ tx k rs h. elim (p.reads tx k rs h) [ inl j ↦ q.reads tx k rs j | inr j ↦ inr (j.0, q.sent j.0 j.1, j.2) ];
  }

  -- one of those who wait leaves; if it is a read, its reply is sent
  leaves_ : (kept rest : List Waiter) (w : Waiter) (d e : Doing) (ms : List Message) → d.view.waiters ≡ kept ++ w ∷ rest → e.view.own ≡ d.view.own → e.view.waiters ≡ kept ++ rest → e.sent ≡ d.sent ++ ms
      → ((tx : TxId) (k : KeyId) (rs : Ts) → w ≡ Read tx k rs → Sends ms (λ m. Replies tx k m.body)) → Sweeps d e
  leaves_ kept rest w d e ms q o z s f = record {
    own = o;
    sent = λ m h. subst (In m) (sym s) (in_left d.sent ms m h);
    reads = λ tx k rs h. elim (in_removed kept rest w (Read tx k rs) (subst (In (Read tx k rs)) q h)) [
      | inl j ↦ (let r = f tx k rs j in inr (r.0, subst (In r.0) (sym s) (in_right d.sent ms r.0 r.1), r.2))
      | inr j ↦ inl (subst (In (Read tx k rs)) (sym z) j)
    ];
  }

  read_swept : (kept rest : List Waiter) (tx : TxId) (k : KeyId) (rs : Ts) (t : ServeTurn) (d : Doing) → d.view.waiters ≡ kept ++ Read tx k rs ∷ rest → Sweeps d (Waiters.waiter_read here kept rest tx k rs t d).1
  unfolding replied
  read_swept kept rest tx k rs (Give v by fc) d q =
      let l : Message = letter here tx.node (ReadReply tx k v by (record { 0 = fc })) in
      leaves_ kept rest (Read tx k rs) d (replied here tx k v by fc (with_waiters (kept ++ rest) d)) (l ∷ []) q refl refl refl
      (λ t l' ts e. (letter here tx.node (ReadReply tx k v by (record { 0 = fc })), inl refl, ((let a : tx ≡ t = cc e in a), (let b : k ≡ l' = cc e in b))))
  read_swept kept rest tx k rs (ServeWait by) d q = stays d

  held_swept : (kept rest : List Waiter) (a : Arrived) (t : MasterTurn) (d : Doing) → d.view.waiters ≡ kept ++ Held a ∷ rest → Sweeps d (Waiters.waiter_held here kept rest a t d).1
  unfolding accepted refused
  held_swept kept rest a (Accept ts) d q =
      leaves_ kept rest (Held a) d (accepted here a ts (with_waiters (kept ++ rest) d)) (letter here a.tx.node (Ack a.tx a.part (record { 0 = ts })) ∷ Acts.copies here a (replicas here.scene a.part)) q refl refl refl (λ t l ts e. absurd (cc e))
  held_swept kept rest a (Refuse by k) d q = leaves_ kept rest (Held a) d (refused here a by k (with_waiters (kept ++ rest) d)) (letter here a.tx.node (Refusal a.tx a.part by k) ∷ []) q refl refl refl (λ t l ts e. absurd (cc e))
  held_swept kept rest a (Park by) d q = stays d
  held_swept kept rest a Ignore d q = stays d

  turn_swept : (kept rest : List Waiter) (w : Waiter) (d : Doing) → d.view.waiters ≡ kept ++ w ∷ rest → Sweeps d (Waiters.waiter_turn here kept rest w d).1
  turn_swept kept rest (Read tx k rs) d q = read_swept kept rest tx k rs (serve_turn d.view.versions k rs.0) d q
  turn_swept kept rest (Held a) d q = held_swept kept rest a (master_turn d.view a) d q

  sweep : (input : Input) (kept ws : List Waiter) (d : Doing) → d.view.waiters ≡ kept ++ ws → Sweeps d (Waiters.wait_turns here kept ws d)
  sweep input kept [] d q = stays d
  sweep input kept (w ∷ rest) d q =
      let r = Waiters.waiter_turn here kept rest w d in
      and_on d r.1 (Waiters.wait_turns here r.0 rest r.1) (turn_swept kept rest w d q) (sweep input r.0 rest r.1 (waiter_turn-waited here input InWait kept rest w d q).same)

  -- what follows a rule
  pub after_reads : (input : Input) (r : Doing) (tx : TxId) (k : KeyId) → ((rs : Ts) × In (Read tx k rs) r.view.waiters) ⊎ Sends r.sent (λ m. Replies tx k m.body)
      → ((rs : Ts) × In (Read tx k rs) (Steps.after_rule here r).view.waiters) ⊎ Sends (Steps.after_rule here r).sent (λ m. Replies tx k m.body)
  unfolding Steps.after_rule
  after_reads input r tx k h =
      let m : Doing = Pass.pass_to here (length r.view.own) r in
      let a : KeepsRequests here [] r m = pass_ here [] (length r.view.own) r in
      let s : Sweeps m (Waiters.wait_turns here [] m.view.waiters m) = sweep input [] m.view.waiters m refl in
      elim h [
        | inl z ↦ (elim (s.reads tx k z.0 (a.reads tx k z.0 z.1)) [ inl j ↦ inl (z.0, j) | inr j ↦ inr j ])
        | inr z ↦ inr (z.0, s.sent z.0 (a.sent z.0 z.1), z.2)
      ]

  -- ---- a whole step

  pub record StepKeeps (old : List Message) (v : View) (e : Doing) : Type 0 where
    pub remote : AllRequested here old (starts v) → AllRequested here old e
    pub reads : (tx : TxId) (k : KeyId) (rs : Ts) → In (Read tx k rs) v.waiters → In (Read tx k rs) e.view.waiters ⊎ Sends e.sent (λ m. Replies tx k m.body)

  swept_requests : (old : List Message) (d e : Doing) → Sweeps d e → AllRequested here old d → AllRequested here old e
  swept_requests old d e s h i x k o p =
      let r = h i x k (subst (λ (xs : List Own). slice_get xs i ≡ Some x) s.own o) p in
      (r.0, r.1, elim (in_append old d.sent (letter here r.0 (ReadReq (name_of here i) k r.1)) r.2) [ inl j ↦ in_left old e.sent _ j | inr j ↦ in_right old e.sent _ (s.sent _ j) ])

  ruled_keeps : (old : List Message) (input : Input) (v : View) (o : Option Doing) (e : Doing) → KeepsTo here old (starts v) o → option_map (Steps.after_rule here) o ≡ Some e → StepKeeps old v e
  unfolding Steps.after_rule
  ruled_keeps old input v None e p q = absurd (cc q)
  ruled_keeps old input v (Some r) e p q =
      let m : Doing = Pass.pass_to here (length r.view.own) r in
      let is : Steps.after_rule here r ≡ e = cc q in
      let a : KeepsRequests here old r m = pass_ here old (length r.view.own) r in
      let s : Sweeps m (Waiters.wait_turns here [] m.view.waiters m) = sweep input [] m.view.waiters m refl in
      subst (StepKeeps old v) is (record {
        remote = λ h. swept_requests old m (Waiters.wait_turns here [] m.view.waiters m) s (a.remote (p.remote h));
        reads = λ tx k rs h. s.reads tx k rs (a.reads tx k rs (p.reads tx k rs h));
      })

  pub step_keeps : (old : List Message) (input : Input) (v : View) (e : Doing) → step here input v ≡ Some e → StepKeeps old v e
  unfolding step
  step_keeps old input v e q = ruled_keeps old input v (Steps.rule here input (starts v)) e (rule_ here old input (starts v)) q

-- ---- what whole steps keep, as functions

module _ (scene : Scene) (I : Stage → Type 0)
    (keeps : (s : Stage) (i : ℕ) (v : View) (input : Input) (e : Doing) → slice_get s.nodes i ≡ Some v → IsSeen s input → step (at_place scene i) input v ≡ Some e → I s → I (during s i e)) where
  stepped-keeps : (e : Event) (i : ℕ) (w : World) (v : View) (input : Input) (o : Option Doing) → slice_get w.nodes i ≡ Some v → IsSeen (stage_of w) input → step (at_place scene i) input v ≡ o → I (stage_of w) → I (stage_of (Runs.stepped e i w o))
  stepped-keeps e i w v input None is seen p h = h
  stepped-keeps e i w v input (Some d) is seen p h = keeps (stage_of w) i v input d is seen p h

  step_at-keeps : (e : Event) (n : NodeId) (input : Input) (w : World) (o : Option View) → nth w.nodes n.0 ≡ o → IsSeen (stage_of w) input → I (stage_of w) → I (stage_of (Runs.step_at scene e n input w o))
  step_at-keeps e n input w None is seen h = h
  step_at-keeps e n input w (Some v) is seen h = by_place n.0 is
    where
      by_place : (k : ℕ) → nth w.nodes k ≡ Some v → I (stage_of (Runs.stepped e (k - 1) w (step (record { scene = scene; node = record { 0 = k } }) input v)))
      by_place zero q = absurd (cc q)
      by_place (suc i) q = rw (sub-one, ← add-one i) (stepped-keeps e i w v input (step (at_place scene i) input v) q seen refl h)

  event-keeps : (w : World) (e : Event) → I (stage_of w) → I (stage_of (happens scene w e))
  unfolding happens
  event-keeps w (ClientEvent s t) h = client-keeps (nth scene.sessions s.0)
    where
      client-keeps : (o : Option Session) → I (stage_of (Runs.client_event scene (ClientEvent s t) s t w o))
      client-keeps None = h
      client-keeps (Some text) = step_at-keeps (ClientEvent s t) text.node (Client s t) w (nth w.nodes text.node.0) refl tt h
  event-keeps w (DeliverEvent i) h = deliver-keeps (nth w.sent i) refl
    where
      nth-sent : (k : ℕ) (m : Message) → nth w.sent k ≡ Some m → Sent (stage_of w) m
      nth-sent zero m e = absurd (cc e)
      nth-sent (suc j) m e = (j, e)

      deliver-keeps : (o : Option Message) → nth w.sent i ≡ o → I (stage_of (Runs.deliver_event scene (DeliverEvent i) i w o))
      deliver-keeps None q = h
      deliver-keeps (Some m) q = step_at-keeps (DeliverEvent i) m.receiver (Deliver m) (give i w) (nth w.nodes m.receiver.0) refl (nth-sent i m q) h

  pub by_steps : (w : World) (es : List Event) → I (stage_of w) → I (stage_of (run_from scene w es))
  by_steps w [] h = h
  by_steps w (e ∷ es) h = by_steps (happens scene w e) es (event-keeps w e h)

-- ---- over every run

-- each own transaction that waits for another node has sent its request
abbrev RequestsSent : Scene → Stage → Type 0
RequestsSent scene s =
    (n i : ℕ) (v : View) (x : Own) (k : KeyId) → slice_get s.nodes n ≡ Some v → Owns v i x → x.phase ≡ Remote k
    → (to : NodeId) × (rs : Ts) × In (letter (at_place scene n) to (ReadReq (name_of (at_place scene n) i) k rs)) s.sent

requests_kept : (scene : Scene) (s : Stage) (i : ℕ) (v : View) (input : Input) (e : Doing) → slice_get s.nodes i ≡ Some v → IsSeen s input → step (at_place scene i) input v ≡ Some e → RequestsSent scene s
    → RequestsSent scene (during s i e)
requests_kept scene s i v input e is seen q h n j u x k g o p = elim (got_set s.nodes i n e.view u g) [
  | inl r ↦ (let a = (step_keeps (at_place scene i) s.sent input v e q).remote (λ c y l own ph. let b = h i c v y l is own ph in (b.0, b.1, in_left s.sent [] _ b.2)) j x k (subst (λ (z : View). Owns z j x) r.1 o) p in (
    a.0,
    a.1,
    subst (λ (z : ℕ). In (letter (at_place scene z) a.0 (ReadReq (name_of (at_place scene z) j) k a.1)) (s.sent ++ e.sent)) (sym r.0) a.2,
  ))
  | inr r ↦ (let a = h n j u x k r.1 o p in (a.0, a.1, in_left s.sent e.sent _ a.2))
]

pub requests_sent : (scene : Scene) (es : List Event) → RequestsSent scene (stage_of (run scene es))
requests_sent scene es =
    by_steps scene (RequestsSent scene) (requests_kept scene) (opening scene) es
    (λ n i v x k g o p. absurd (cc (ap (λ (z : View). slice_get z.own i) (sym (got_replicate scene.nodes n (opening_view scene) v g)), o)))

-- the read waits at the node, or its reply was sent
pub record WaitsOrAnswered (n : ℕ) (tx : TxId) (k : KeyId) (s : Stage) : Type 0 where
  pub view : View
  pub there : slice_get s.nodes n ≡ Some view
  pub fact : ((rs : Ts) × In (Read tx k rs) view.waiters) ⊎ Sends s.sent (λ m. Replies tx k m.body)

reads_kept : (scene : Scene) (n : ℕ) (tx : TxId) (k : KeyId) (s : Stage) (i : ℕ) (v : View) (input : Input) (e : Doing) → slice_get s.nodes i ≡ Some v → IsSeen s input → step (at_place scene i) input v ≡ Some e
    → WaitsOrAnswered n tx k s → WaitsOrAnswered n tx k (during s i e)
reads_kept scene n tx k s i v input e is seen q h = by_place (cases_eq n i)
  where
    sent_ : Sends s.sent (λ m. Replies tx k m.body) → Sends (s.sent ++ e.sent) (λ m. Replies tx k m.body)
    sent_ r = (r.0, in_left s.sent e.sent r.0 r.1, r.2)

    here_ : h.view ≡ v → ((rs : Ts) × In (Read tx k rs) e.view.waiters) ⊎ Sends (s.sent ++ e.sent) (λ m. Replies tx k m.body)
    here_ same = elim h.fact [
      | inr r ↦ inr (sent_ r)
      | inl r ↦ (elim ((step_keeps (at_place scene i) s.sent input v e q).reads tx k r.0 (subst (λ (z : View). In (Read tx k r.0) z.waiters) same r.1)) [
        | inl j ↦ inl (r.0, j)
        | inr j ↦ inr (j.0, in_right s.sent e.sent j.0 j.1, j.2)
      ])
    ]

    by_place : (n ≡ i) ⊎ (n ≢ i) → WaitsOrAnswered n tx k (during s i e)
    by_place (inl r) =
        let both : Some h.view ≡ Some v = sym h.there ∙ (ap (λ (z : ℕ). slice_get s.nodes z) r ∙ is) in
        let same : h.view ≡ v = cc both in
        record { view = e.view; there = subst (λ (z : ℕ). slice_get (slice_set s.nodes i e.view) z ≡ Some e.view) (sym r) (get_set s.nodes i v e.view is); fact = here_ same }
    by_place (inr r) =
        record {
          view = h.view;
          there = get_set_other s.nodes i n e.view r ∙ h.there;
          fact = elim h.fact [ inl z ↦ inl z | inr z ↦ inr (sent_ z) ];
        }

pub reads_wait : (scene : Scene) (n : ℕ) (tx : TxId) (k : KeyId) (w : World) (es : List Event) → WaitsOrAnswered n tx k (stage_of w) → WaitsOrAnswered n tx k (stage_of (run_from scene w es))
reads_wait scene n tx k w es h = by_steps scene (WaitsOrAnswered n tx k) (reads_kept scene n tx k) w es h

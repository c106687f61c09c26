-- Every message of a run is valid at its receiver.
use Rattle.std.proofs.Common.{List, None, Option, Some, arith, eq-eqb, eqb-true, flat_map, inl, inr, le-leb, leb-true, length, lt-ltb, ltb-true, nat_le, nat_lt, refl, slice_get, slice_set, subst, subst₂, sym, true, ℕ, ◌+◌, ◌-◌, ◌<◌, ◌∙◌, ◌≡◌}
use Rattle.std.specs.List.{list_any}
use Rattle.std.proofs.lemmas.List.{length-replicate, length-set}
use Rattle.std.proofs.lemmas.Option.{slice_get_within}
use Rattle.partition_map.specs.Maps.{Exists}
use Rattle.si_laws.proofs.Presence.DecisionsValid.{bounded_from, decisions_are_valid}
use Rattle.si_laws.proofs.Stages.AllLinksKept.{linked}
use Rattle.si_laws.proofs.Stages.LinkedStates.{IsDecidedAs, IsSeat, Told}
use Rattle.si_laws.proofs.Stages.ParticipantSeats.{flat_map_in, of_nth, own_seat}
use Rattle.si_laws.proofs.Times.ProposalsFew.{times_bounded}
use Rattle.si_laws.specs.Laws.Presence.{Decides}
use Rattle.si_laws.specs.Numbers.{body_times, view_times}
use Rattle.spsi_laws.proofs.UnderWay.NamedMessages.{Addressed, Names, NamesWrites, post_addressed, post_names}
use Rattle.spsi_laws.proofs.UnderWay.NewMessages.{Post, p_ack, p_copy, p_decision, p_prepare, p_refuse, p_replicate, p_reply, p_request, posts}
use Rattle.spsi_laws.specs.Laws.Valid.{MessagesValid}
use Rattle.str_base.specs.Versions.{same_node}
use Rattle.str_base.specs.declared.names.NodeId.{NodeId}
use Rattle.str_base.specs.declared.names.PartId.{PartId}
use Rattle.str_base.specs.declared.names.TxId.{TxId}
use Rattle.str_base.specs.declared.names.Ts.{Ts}
use Rattle.str_base.specs.declared.names.Write.{Write}
use Rattle.str_model.proofs.Changes.PairWords.{any_has}
use Rattle.str_model.proofs.Principle.Everywhere.{IsSeen, Stage, at_place, during, everywhere, place_exists, stage_of}
use Rattle.str_model.proofs.Principle.SingleChanges.{Act, Where}
use Rattle.str_model.proofs.ViewFacts.MomentKept.{moment-act, moment_opening}
use Rattle.str_model.specs.NodeFacts.{MomentFacts}
use Rattle.str_model.specs.Proposals.{ts_limit}
use Rattle.str_model.specs.Runs.{opening, opening_view, run}
use Rattle.str_model.specs.Strange.{below_limit, has_named, has_named_writes, has_node, is_valid}
use Rattle.str_model.specs.Views.{Doing, View}
use Rattle.str_model.specs.declared.messages.Body.{Body}
use Rattle.str_model.specs.declared.messages.Body.TheVariants.{Abort, Ack, Commit, Prepare, ReadReply, ReadReq, Refuse as Refusal, Replicate}
use Rattle.str_model.specs.declared.messages.Input.{Input}
use Rattle.str_model.specs.declared.messages.Message.{Message}
use Rattle.str_scene.specs.SceneLimits.{IsScene}
use Rattle.str_scene.specs.Scenes.{Here, Scene, hosts, is_master, nth, or_none, part_of}
use Rattle.str_scene.specs.declared.names.Event.{Event}
use Rattle.std.proofs.lemmas.Bool.{and_from}
use Rattle.str_base.proofs.Tests.{and_true_left, and_true_right}
use Rattle.str_model.proofs.ViewFacts.VersionsKept.{master_hosts}
use Rattle.str_base.proofs.Lists.{get_set, get_set_other, got_replicate, got_set}
use Rattle.str_base.proofs.Members.{at_in, in_append, in_at, in_left, in_right}
use Rattle.str_base.specs.Members.{In}

-- a message that was sent: its sender exists, and so does what it names
pub record IsPosted (scene : Scene) (m : Message) : Type 0 where
  pub n : ℕ
  pub sender : m.sender ≡ record { 0 = n + 1 }
  pub below : n < scene.nodes
  pub names : Names (at_place scene n) m.body
  pub addressed : Addressed scene m.sender m.receiver m.body

-- what holds of every state: the facts of each node's view at each moment, and what is known of each message
pub record Posted (scene : Scene) (s : Stage) : Type 0 where
  pub facts : (n : ℕ) (v : View) → slice_get s.nodes n ≡ Some v → MomentFacts (at_place scene n) v
  pub count : length s.nodes ≡ scene.nodes
  pub each : (m : Message) → In m s.sent → IsPosted scene m

pub posted_keeps : (scene : Scene) → IsScene scene → (s : Stage) (i : ℕ) (v : View) (input : Input) (w : Where) (d e : Doing) → slice_get s.nodes i ≡ Some v → IsSeen s input → Posted scene s
    → Act (at_place scene i) input w d e → Posted scene (during s i d) → Posted scene (during s i e)
posted_keeps scene ok s i v input w d e is seen hs act h =
    let there : slice_get (slice_set s.nodes i d.view) i ≡ Some d.view = get_set s.nodes i v d.view is in
    let same : length (slice_set s.nodes i e.view) ≡ length (slice_set s.nodes i d.view) = length-set s.nodes i e.view ∙ sym (length-set s.nodes i d.view) in
    let less : i < scene.nodes = (let k = slice_get_within (slice_set s.nodes i d.view) i d.view there in let c = h.count in omega (arith, k, c)) in
    let exists = place_exists scene i less in
    let before = h.facts i d.view there in
    let after = moment-act (at_place scene i) ok exists input w d e act before in
    record {
      facts = λ n u g. elim (got_set s.nodes i n e.view u g) [
        | inl q ↦ subst₂ (λ (k : ℕ) (z : View). MomentFacts (at_place scene k) z) (sym q.0) (sym q.1) after
        | inr q ↦ h.facts n u (get_set_other s.nodes i n d.view q.0 ∙ q.1)
      ];
      count = same ∙ h.count;
      each = λ m k. elim (in_append s.sent e.sent m k) [
        | inl j ↦ h.each m (in_left s.sent d.sent m j)
        | inr j ↦ (elim (posts (at_place scene i) input w d e act m j) [
          | inl o ↦ h.each m (in_right s.sent d.sent m o)
          | inr p ↦ record {
            n = i;
            sender = by_here (at_place scene i) input d e m p;
            below = less;
            names = post_names (at_place scene i) ok exists input d e before after m p;
            addressed = post_addressed (at_place scene i) ok exists input d e before after m p;
          }
        ])
      ];
    }
  where
    by_here : (here : Here) (input : Input) (d e : Doing) (m : Message) → Post here input d e m → m.sender ≡ here.node
    by_here here input d e m (p_request i k to x own own' aw) = refl
    by_here here input d e m (p_prepare i lc p x own l g t) = refl
    by_here here input d e m (p_replicate i lc p x r own l g t j) = refl
    by_here here input d e m (p_ack a ts pl) = refl
    by_here here input d e m (p_copy a r g j) = refl
    by_here here input d e m (p_refuse a by k g t) = refl
    by_here here input d e m (p_reply tx k rs v by fc g) = refl
    by_here here input d e m (p_decision to b z) = refl

pub posted_opening : (scene : Scene) → Posted scene (stage_of (opening scene))
posted_opening scene = record {
  facts = λ n v g. subst (MomentFacts (at_place scene n)) (sym (got_replicate scene.nodes n (opening_view scene) v g)) (moment_opening (at_place scene n));
  count = length-replicate scene.nodes (opening_view scene);
  each = λ m h. absurd h;
}

pub posted : (scene : Scene) → IsScene scene → (es : List Event) → Posted scene (stage_of (run scene es))
posted scene ok es = everywhere scene (Posted scene) (posted_keeps scene ok) (posted_opening scene) es

-- ---- validity

-- a node that has a partition is one of the scene
pub host_exists : (scene : Scene) → IsScene scene → (r : NodeId) (p : PartId) → hosts scene r p ≡ true → Exists r.0 scene.nodes
host_exists scene ok r p h = by_row (nth scene.parts p.0) refl h
  where
    by_row : (o : Option (List NodeId)) → nth scene.parts p.0 ≡ o → list_any (λ (n : NodeId). same_node n r) (or_none o) ≡ true → Exists r.0 scene.nodes
    by_row None e k = absurd (cc k)
    by_row (Some row) e k =
        let f = of_nth scene.parts p.0 row e in
        let g = any_has (λ (n : NodeId). same_node n r) row k in
        let a = at_in row g.0 g.1 in
        let x = (ok.rows f.0 row f.2).exist a.0 g.0 a.1 in
        let same : g.0.0 ≡ r.0 = eqb-true g.0.0 r.0 g.2 in
        (omega (arith, x.0, same), omega (arith, x.1, same))

writes_named : (here : Here) (tx : TxId) (p : PartId) (rs lc : Ts) (ws : List Write) → NamesWrites here tx p ws → below_limit rs ≡ true → below_limit lc ≡ true → has_named_writes here tx p rs lc ws ≡ true
writes_named here tx p rs lc ws n r l = and_from _ _ n.0 (and_from _ _ n.1 (and_from _ _ r (and_from _ _ l (and_from _ _ n.2 n.3))))

module _ (scene : Scene) (ok : IsScene scene) (es : List Event) where
  -- a time of a message is below the limit
  time_below : (m : Message) (t : Ts) → In m (run scene es).sent → In t.0 (body_times m.body) → below_limit t ≡ true
  time_below m t h k =
      lt-ltb t.0 ts_limit (bounded_from times_bounded scene ok es t.0 (in_right (flat_map view_times (run scene es).nodes) (flat_map (λ (z : Message). body_times z.body) (run scene es).sent) t.0
      (flat_map_in (λ (z : Message). body_times z.body) (run scene es).sent m t.0 h k)))

  -- a decision goes to a node of the scene
  decision_goes : (m : Message) (t : TxId) (p : PartId) (x : _) → IsDecidedAs scene (stage_of (run scene es)) t x → IsSeat x p m.receiver → Exists m.receiver.0 scene.nodes
  decision_goes m t p x dec seat =
      let g = (linked scene es).home dec.n dec.view dec.there dec.i x dec.own in
      let k = own_seat (at_place scene dec.n) dec.view.versions dec.i x g seat.0 seat.1 in
      host_exists scene ok m.receiver p (subst₂ (λ (q : PartId) (r : NodeId). hosts scene r q ≡ true) seat.2 seat.3 k.hosted)

  pub to_place : (r : NodeId) → Exists r.0 scene.nodes → (n : ℕ) × (r ≡ record { 0 = n + 1 })
  to_place r e = (r.0 - 1, λ j. record { 0 = is j })
    where
      is : r.0 ≡ r.0 - 1 + 1
      is = (let l = e.0 in omega (arith, l))

  module _ (m : Message) (h : In m (run scene es).sent) (k : IsPosted scene m) where
    here : Here
    here = record { scene = scene; node = m.receiver }

    sender_there : has_node (record { scene = scene; node = m.receiver }) m.sender ≡ true
    sender_there = subst (λ (z : NodeId). has_node (record { scene = scene; node = m.receiver }) z ≡ true) (sym k.sender) (place_exists scene k.n k.below)

    from_names : has_named (record { scene = scene; node = m.receiver }) m.body ≡ true → is_valid (record { scene = scene; node = m.receiver }) m ≡ true
    from_names e = and_from (same_node m.receiver m.receiver) _ (eq-eqb m.receiver.0 m.receiver.0 refl) (and_from (has_node (record { scene = scene; node = m.receiver }) m.sender) _ sender_there e)

    decided : (t : TxId) (p : PartId) → Exists m.receiver.0 scene.nodes → Decides t p m.body → is_valid (record { scene = scene; node = m.receiver }) m ≡ true
    decided t p ex dec =
        let r = to_place m.receiver ex in
        subst (λ (z : NodeId). is_valid (record { scene = scene; node = z }) m ≡ true) (sym r.1) (decisions_are_valid (bounded_from times_bounded) scene ok es m t p r.0 h dec r.1).0

    by_body : (b : Body) → m.body ≡ b → Names (record { scene = scene; node = m.receiver }) b → ((t : Ts) → In t.0 (body_times b) → below_limit t ≡ true) → is_valid (record { scene = scene; node = m.receiver }) m ≡ true
    by_body (ReadReq tx l rs) e n t = from_names (subst (λ (z : Body). has_named (record { scene = scene; node = m.receiver }) z ≡ true) (sym e) (and_from _ _ n.0 (and_from _ _ n.1 (t rs (inl refl)))))
    by_body (ReadReply tx l v by fc) e n t =
        from_names (subst (λ (z : Body). has_named (record { scene = scene; node = m.receiver }) z ≡ true) (sym e) (and_from _ _ n.0 (and_from _ _ n.1 (and_from _ _ n.2 (and_from _ _ n.3 (t fc (inl refl)))))))
    by_body (Prepare tx p rs lc ws) e n t =
        from_names (subst (λ (z : Body). has_named (record { scene = scene; node = m.receiver }) z ≡ true) (sym e) (writes_named (record { scene = scene; node = m.receiver }) tx p rs lc ws n (t rs (inl refl)) (t lc (inr (inl refl)))))
    by_body (Replicate tx p rs lc ws) e n t =
        from_names (subst (λ (z : Body). has_named (record { scene = scene; node = m.receiver }) z ≡ true) (sym e) (writes_named (record { scene = scene; node = m.receiver }) tx p rs lc ws n (t rs (inl refl)) (t lc (inr (inl refl)))))
    by_body (Refusal tx p by l) e n t = from_names (subst (λ (z : Body). has_named (record { scene = scene; node = m.receiver }) z ≡ true) (sym e) (and_from _ _ n.0 (and_from _ _ n.1 (and_from _ _ n.2 n.3))))
    by_body (Ack tx p ts) e n t = from_names (subst (λ (z : Body). has_named (record { scene = scene; node = m.receiver }) z ≡ true) (sym e) (and_from _ _ n.0 (and_from _ _ n.1 (t ts (inl refl)))))
    by_body (Commit tx p fc ms) e n t =
        let told = subst (λ (z : Body). Told scene (stage_of (run scene es)) m.sender m.receiver z) e ((linked scene es).told m h) in
        decided tx p (decision_goes m tx p told.0 told.1 told.3) (subst (Decides tx p) (sym e) (refl, refl))
    by_body (Abort tx p) e n t =
        let told = subst (λ (z : Body). Told scene (stage_of (run scene es)) m.sender m.receiver z) e ((linked scene es).told m h) in
        decided tx p (decision_goes m tx p told.0 told.1 told.3) (subst (Decides tx p) (sym e) (refl, refl))

    valid_ : is_valid (record { scene = scene; node = m.receiver }) m ≡ true
    valid_ = by_body m.body refl k.names (λ t j. time_below m t h j)

  node_there : (n : NodeId) → has_node (at_place scene 0) n ≡ true → Exists n.0 scene.nodes
  node_there n e = (ltb-true 0 n.0 (and_true_left (nat_lt 0 n.0) (nat_le n.0 scene.nodes) e), leb-true n.0 scene.nodes (and_true_right (nat_lt 0 n.0) (nat_le n.0 scene.nodes) e))

  hosts_it : (r : NodeId) (p : PartId) → is_master scene r p ≡ true → Exists r.0 scene.nodes
  hosts_it r p e = host_exists scene ok r p (master_hosts (record { scene = scene; node = r }) p e)

  -- each message goes to a node of the scene
  goes_there : (m : Message) → In m (run scene es).sent → (b : Body) → m.body ≡ b → Names (at_place scene 0) b → Addressed scene m.sender m.receiver b → Exists m.receiver.0 scene.nodes
  goes_there m h (ReadReq tx k rs) e n a = hosts_it m.receiver (part_of scene k) a.1
  goes_there m h (ReadReply tx k v by fc) e n a = node_there m.receiver (subst (λ (z : NodeId). has_node (at_place scene 0) z ≡ true) (sym a) n.0)
  goes_there m h (Prepare tx p rs lc ws) e n a = hosts_it m.receiver p a.1
  goes_there m h (Refusal tx p by k) e n a = node_there m.receiver (subst (λ (z : NodeId). has_node (at_place scene 0) z ≡ true) (sym a.0) n.0)
  goes_there m h (Replicate tx p rs lc ws) e n a = host_exists scene ok m.receiver p a.0
  goes_there m h (Ack tx p ts) e n a = node_there m.receiver (subst (λ (z : NodeId). has_node (at_place scene 0) z ≡ true) (sym a.0) n.0)
  goes_there m h (Commit tx p fc ms) e n a =
      let told = subst (λ (z : Body). Told scene (stage_of (run scene es)) m.sender m.receiver z) e ((linked scene es).told m h) in decision_goes m tx p told.0 told.1 told.3
  goes_there m h (Abort tx p) e n a =
      let told = subst (λ (z : Body). Told scene (stage_of (run scene es)) m.sender m.receiver z) e ((linked scene es).told m h) in decision_goes m tx p told.0 told.1 told.3

  pub sent_goes : (m : Message) → In m (run scene es).sent → Exists m.receiver.0 scene.nodes
  sent_goes m h = let k = (posted scene ok es).each m h in goes_there m h m.body refl k.names k.addressed

  pub sent_valid : (m : Message) → In m (run scene es).sent → is_valid (record { scene = scene; node = m.receiver }) m ≡ true
  sent_valid m h = valid_ m h ((posted scene ok es).each m h)

pub messages_valid : MessagesValid
messages_valid scene ok es i m e = let h = in_at (run scene es).sent i m e in (sent_goes scene ok es m h, sent_valid scene ok es m h)

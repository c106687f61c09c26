-- What a new message names exists, and to whom it goes.
use Rattle.std.proofs.Common.{Bool, List, None, Option, Some, [], ap, arith, eq-eqb, eqb-true, false, find, if◌then◌else◌, inl, inr, le-leb, length, lt-ltb, map, nat_le, nat_lt, not, refl, slice_get, subst, suc, sym, true, zero, ℕ, ◌&&◌, ◌-◌, ◌<◌, ◌∙◌, ◌∷◌, ◌≡◌, ◌≢◌, ◌≤◌, ◌⊎◌}
use Rattle.std.specs.List.{list_any}
use Rattle.partition_map.specs.Maps.{Exists}
use Rattle.str_base.proofs.Lists.{slice_get_there}
use Rattle.str_base.specs.declared.names.Kind.{Kind}
use Rattle.str_base.specs.declared.names.Kind.TheVariants.{Final, Local as LocalKind, Pre}
use Rattle.dependency_set.specs.Snapshots.{Snap, accept_final, holds}
use Rattle.partition_map.specs.declared.rows.Asked.{Asked}
use Rattle.si_laws.proofs.Presence.DecisionsValid.{all_from, filter_distinct}
use Rattle.si_laws.proofs.Stages.ParticipantSeats.{own_seat, part_exists}
use Rattle.spsi_laws.proofs.Rest.RestStages.{find_is}
use Rattle.spsi_laws.proofs.UnderWay.NewMessages.{Post, p_ack, p_copy, p_decision, p_prepare, p_refuse, p_replicate, p_reply, p_request, writes_in}
use Rattle.str_base.specs.Versions.{chain, last_pre, last_undecided, same_key, same_node, same_part, visible}
use Rattle.str_base.specs.declared.names.KeyId.{KeyId}
use Rattle.str_base.specs.declared.names.NodeId.{NodeId}
use Rattle.str_base.specs.declared.names.PartId.{PartId}
use Rattle.str_base.specs.declared.names.TxId.{TxId}
use Rattle.str_base.specs.declared.names.Ts.{Ts}
use Rattle.str_base.specs.declared.names.Value.{Value}
use Rattle.str_base.specs.declared.names.Value.TheVariants.{Absent}
use Rattle.str_base.specs.declared.names.Version.{Version}
use Rattle.str_base.specs.declared.names.Write.{Write}
use Rattle.str_model.proofs.Changes.PairWords.{any_has}
use Rattle.str_model.proofs.Changes.SnapshotsGain.{if_elim, visible-is}
use Rattle.str_model.proofs.Changes.VersionChanges.{Placed, by_master, by_slave}
use Rattle.str_model.proofs.OwnFacts.AskedParts.{gate_ask}
use Rattle.str_model.proofs.Principle.SingleChanges.{IsAsked, IsHere, asked_before, asked_now, it_comes, it_waits}
use Rattle.str_model.proofs.ViewFacts.MarksRise.{script_op}
use Rattle.str_model.proofs.ViewFacts.ValidMessages.{came_named, valid_named}
use Rattle.str_model.proofs.ViewFacts.VersionsKept.{here_named, master_hosts, write_key}
use Rattle.str_model.specs.Gates.{Ask, gate_of}
use Rattle.str_model.specs.NodeFacts.{MomentFacts, Needs, OwnGood}
use Rattle.str_model.specs.NodeFacts
use Rattle.str_model.specs.Owned.{Owns}
use Rattle.str_model.specs.Proposals.{Accept, Ignore, MasterTurn, Park, Refuse, master_turn, parks, proposed, refuses, ts_limit}
use Rattle.str_model.specs.Proposals
use Rattle.str_model.specs.Strange.{has_key, has_named, has_named_writes, has_node, has_part, has_value, has_values, has_writer, keys_in, some_keys_in}
use Rattle.str_model.specs.Strange
use Rattle.str_model.specs.Turns.{Away, Give, Plain, ReadTurn, ServeTurn, Speculative, Wait, met, read_turn, serve_turn}
use Rattle.str_model.specs.Turns
use Rattle.str_model.specs.Views.{Doing, Own, Remote, View, lc_of, name_of}
use Rattle.str_model.specs.Acts.{in_phase}
use Rattle.str_model.specs.declared.messages.Arrived.{Arrived}
use Rattle.str_model.specs.declared.messages.Body.{Body}
use Rattle.str_model.specs.declared.messages.Body.TheVariants.{Abort, Ack, Commit, Prepare, ReadReply, ReadReq, Refuse as Refusal, Replicate}
use Rattle.str_model.specs.declared.messages.Input.{Input}
use Rattle.str_model.specs.declared.messages.Message.{Message}
use Rattle.str_model.specs.declared.messages.Waiter.TheVariants.{Held, Read}
use Rattle.str_scene.specs.SceneLimits.{IsOp, IsScene}
use Rattle.str_scene.specs.Scenes.{Here, Scene, all_parts, first_or, hosts, hosts_key, in_part, is_master, leads, named_part, nth, or_none, others, part_of, participants, replicas, unasked, written_parts}
use Rattle.str_scene.specs.declared.names.Op.{Op}
use Rattle.str_scene.specs.declared.names.Op.TheVariants.{Abort as Stop, Add, Del, Get, Need, Put, Puts}
use Rattle.std.proofs.lemmas.Bool.{and_from, false_from_ne_true}
use Rattle.str_base.proofs.Members.{any_in, filter_in, in_filter, in_flat_map, in_map, in_right, map_in}
use Rattle.str_base.proofs.Tests.{and_true_left, and_true_right}
use Rattle.str_base.specs.Members.{In}

-- ---- what a message names, without its times

abbrev pub NamesWrites : Here → TxId → PartId → List Write → Type 0
NamesWrites here tx p ws =
    (has_node here tx.node ≡ true) × (has_part here p ≡ true) × (some_keys_in here p (map (λ (w : Write). w.key) ws) ≡ true) × (has_values here ws ≡ true)

abbrev pub Names : Here → Body → Type 0
Names here (ReadReq tx k rs) = (has_node here tx.node ≡ true) × (has_key here k ≡ true)
Names here (ReadReply tx k v by fc) = (has_node here tx.node ≡ true) × (has_key here k ≡ true) × (has_value here v ≡ true) × (has_writer here by ≡ true)
Names here (Prepare tx p rs lc ws) = NamesWrites here tx p ws
Names here (Refusal tx p by k) = (has_node here tx.node ≡ true) × (has_part here p ≡ true) × (has_node here by.node ≡ true) × (has_key here k ≡ true)
Names here (Replicate tx p rs lc ws) = NamesWrites here tx p ws
Names here (Ack tx p ts) = (has_node here tx.node ≡ true) × (has_part here p ≡ true)
Names here (Commit tx p fc ms) = Unit {0}
Names here (Abort tx p) = Unit {0}

-- to whom a message goes: a request to the key's master from a node that doesn't host the key, a Prepare to the master of its partition, a Replicate to a slave, neither to the transaction's node, and what answers them back from there
abbrev pub Addressed : Scene → NodeId → NodeId → Body → Type 0
Addressed scene from to (ReadReq tx k rs) = (tx.node ≡ from) × (is_master scene to (part_of scene k) ≡ true) × (hosts scene from (part_of scene k) ≡ false)
Addressed scene from to (ReadReply tx k v by fc) = to ≡ tx.node
Addressed scene from to (Prepare tx p rs lc ws) = (tx.node ≡ from) × (is_master scene to p ≡ true) × (tx.node.0 ≢ to.0)
Addressed scene from to (Refusal tx p by k) = (to ≡ tx.node) × (is_master scene from p ≡ true) × (tx.node.0 ≢ from.0)
Addressed scene from to (Replicate tx p rs lc ws) = (hosts scene to p ≡ true) × (is_master scene to p ≡ false) × (tx.node.0 ≢ to.0)
Addressed scene from to (Ack tx p ts) = (to ≡ tx.node) × (hosts scene from p ≡ true) × (tx.node.0 ≢ from.0)
Addressed scene from to (Commit tx p fc ms) = Unit {0}
Addressed scene from to (Abort tx p) = Unit {0}

-- ---- reads that go elsewhere

-- the master of a key
abbrev master_of : Here → KeyId → NodeId
master_of here k = first_or here.node (replicas here.scene (part_of here.scene k))

-- where a read goes elsewhere it goes to the master, and the key isn't hosted here
away_is : (here : Here) (v : View) (snap : Snap) (k : KeyId) (n : NodeId) → read_turn here v snap k ≡ Away n → (n ≡ master_of here k) × (hosts_key here k ≡ false)
unfolding read_turn
away_is here v snap k n e = by_pre (last_pre v.versions k snap.rs) e
  where
    by_gate : (b : Bool) (t : ReadTurn) (u : TxId) → (t ≡ Away n → ⊥) → (if b then t else Wait u) ≡ Away n → ⊥
    by_gate true t u f q = f q
    by_gate false t u f q = cc q

    by_kind : (q : Version) (kind : Kind) → Turns.read_kind here v.own snap q kind ≡ Away n → ⊥
    by_kind q Pre e = cc e
    by_kind q LocalKind e =
        let new : Snap = Turns.take_over (slice_get v.own (q.tx.seq - 1)) q.tx.seq snap in by_gate (holds new) (Speculative q.value q.tx new) (Turns.waits_for here _) (λ z. cc z) e
    by_kind q Final e =
        let new : Snap = accept_final snap q.ts.0 in by_gate (holds new) (Plain q.value (Some q.tx) q.ts.0 new) (Turns.waits_for here _) (λ z. cc z) e

    by_visible : (o : Option Version) → Turns.read_visible here v.own snap k o ≡ Away n → (n ≡ master_of here k) × (hosts_key here k ≡ false)
    by_visible (Some q) e = absurd (by_kind q q.kind e)
    by_visible None e = by_host (hosts_key here k) refl e
      where
        by_host : (b : Bool) → hosts_key here k ≡ b → (if b then Turns.gated here snap (Plain Absent None 0 snap) else Away (master_of here k)) ≡ Away n → (n ≡ master_of here k) × (hosts_key here k ≡ false)
        by_host true h e = absurd (by_gate (holds snap) (Plain Absent None 0 snap) (Turns.waits_for here _) (λ z. cc z) e)
        by_host false h e = let s : master_of here k ≡ n = cc e in (sym s, h)

    by_pre : (o : Option Version) → Turns.read_after here v snap k o ≡ Away n → (n ≡ master_of here k) × (hosts_key here k ≡ false)
    by_pre (Some q) e = absurd (cc e)
    by_pre None e = by_visible (visible v.versions k snap.rs) e

-- ---- keys

needs_key : (scene : Scene) (op : Op) (k : KeyId) → IsOp scene.version scene.keys op → Needs op k → k.0 < length scene.keys.names
needs_key scene (Get l) k h q = subst (λ (z : KeyId). z.0 < length scene.keys.names) q h
needs_key scene (Add l m) k h q = subst (λ (z : KeyId). z.0 < length scene.keys.names) q h.0
needs_key scene (Need l m) k h q = subst (λ (z : KeyId). z.0 < length scene.keys.names) q h.0
needs_key scene (Put l m) k h q = absurd q
needs_key scene (Puts l t) k h q = absurd q
needs_key scene (Del l) k h q = absurd q
needs_key scene Stop k h q = absurd q

some_keys : (here : Here) (p : PartId) (ws : List Write) → ((w : Write) × In w ws) → keys_in here p (map (λ (w : Write). w.key) ws) ≡ true → some_keys_in here p (map (λ (w : Write). w.key) ws) ≡ true
some_keys here p [] h e = absurd h.1
some_keys here p (w ∷ ws) h e = e

-- ---- rows

first_leads : (n r : NodeId) (rs : List NodeId) → In r rs → leads (first_or n rs) rs ≡ true
first_leads n r [] h = absurd h
first_leads n r (f ∷ rs) h = eq-eqb f.0 f.0 refl

first_other : (n r : NodeId) (rs : List NodeId) → In r rs → leads n rs ≡ false → n.0 ≢ (first_or n rs).0
first_other n r [] h e = absurd h
first_other n r (f ∷ rs) h e = λ q. cc (eq-eqb f.0 n.0 (sym q), e)

other_follows : (n r : NodeId) (rs : List NodeId) → leads n rs ≡ true → r.0 ≢ n.0 → leads r rs ≡ false
other_follows n r [] e f = absurd (cc e)
other_follows n r (g ∷ rs) e f = false_from_ne_true (same_node g r) (λ q. f (sym (eqb-true g.0 r.0 q) ∙ eqb-true g.0 n.0 e))

-- the first of a partition's row is its master
row_first : (scene : Scene) → IsScene scene → (p : PartId) → Exists p.0 (length scene.parts) → (d : NodeId) → is_master scene (first_or d (replicas scene p)) p ≡ true
row_first scene ok p e d = by_place p.0 refl
  where
    by_row : (row : List NodeId) → 1 ≤ length row → leads (first_or d row) row ≡ true
    by_row [] l = absurd (omega (arith, l))
    by_row (f ∷ fs) l = eq-eqb f.0 f.0 refl

    by_place : (k : ℕ) → p.0 ≡ k → leads (first_or d (or_none (nth scene.parts p.0))) (or_none (nth scene.parts p.0)) ≡ true
    by_place zero q = absurd (let l = e.0 in omega (arith, l, q))
    by_place (suc c) q =
        let l = e.1 in
        let row = slice_get_there scene.parts c (omega (arith, l, q)) in
        let is : nth scene.parts p.0 ≡ Some row.0 = ap (λ (z : ℕ). nth scene.parts z) q ∙ row.1 in
        subst (λ o. leads (first_or d (or_none o)) (or_none o) ≡ true) (sym is) (by_row row.0 (ok.rows c row.0 row.1).some)

-- the first of a key's row is its master
key_master : (scene : Scene) → IsScene scene → (k : KeyId) → k.0 < length scene.keys.names → (d : NodeId) → is_master scene (first_or d (replicas scene (part_of scene k))) (part_of scene k) ≡ true
key_master scene ok k less d =
    let name = slice_get_there scene.keys.names k.0 less in
    let part : part_of scene k ≡ name.0.1 = ap (λ o. named_part o) name.1 in
    row_first scene ok (part_of scene k) (subst (λ (p : PartId). Exists p.0 (length scene.parts)) (sym part) (ok.table.keys k.0 name.0 name.1).part) d

-- one of the others is in the row, and is another one
pub other_one : (n r : NodeId) (rs : List NodeId) → In r (others n rs) → In r rs × (r.0 ≢ n.0)
other_one n r rs h =
    let f = in_filter (λ (z : NodeId). not (same_node z n)) rs r h in
    (f.0, λ q. cc (ap not (eq-eqb r.0 n.0 q), f.1))

pub row_hosts : (scene : Scene) (r : NodeId) (p : PartId) → In r (replicas scene p) → hosts scene r p ≡ true
row_hosts scene r p h = any_in (λ (z : NodeId). same_node z r) (replicas scene p) r h (eq-eqb r.0 r.0 refl)

part_there : (here : Here) (r : NodeId) (p : PartId) → hosts here.scene r p ≡ true → has_part here p ≡ true
part_there here r p h =
    let e = part_exists here.scene r p h in
    and_from (nat_lt 0 p.0) (nat_le p.0 (length here.scene.parts)) (lt-ltb 0 p.0 (omega (arith, e.0))) (le-leb p.0 (length here.scene.parts) (omega (arith, e.1)))

-- ---- what a replica answers

-- it is a version's, or there is none
serve_is : (vs : List Version) (k : KeyId) (rs : ℕ) (a : Value) (by : Option TxId) (fc : ℕ) → serve_turn vs k rs ≡ Give a by fc
    → ((a ≡ Absent) × (by ≡ None)) ⊎ ((q : Version) × In q vs × (a ≡ q.value) × (by ≡ Some q.tx))
unfolding serve_turn
serve_is vs k rs a by fc e = by_undecided (last_undecided vs k rs) e
  where
    by_visible : (o : Option Version) → ((q : Version) → o ≡ Some q → In q vs) → Turns.serve_visible o ≡ Give a by fc
        → ((a ≡ Absent) × (by ≡ None)) ⊎ ((q : Version) × In q vs × (a ≡ q.value) × (by ≡ Some q.tx))
    by_visible None f q = let s : Absent ≡ a = cc q in let t : None ≡ by = cc q in inl (sym s, sym t)
    by_visible (Some v) f q = let s : v.value ≡ a = cc q in let t : Some v.tx ≡ by = cc q in inr (v, f v refl, sym s, sym t)

    by_undecided : (o : Option Version) → Turns.serve_after vs k rs o ≡ Give a by fc → ((a ≡ Absent) × (by ≡ None)) ⊎ ((q : Version) × In q vs × (a ≡ q.value) × (by ≡ Some q.tx))
    by_undecided (Some v) q = absurd (cc q)
    by_undecided None q = by_visible (visible vs k rs) (λ v p. (visible-is vs k rs v p).0) q

-- a refusal names a version that stands there
refuse_is : (v : View) (a : Arrived) (by : TxId) (k : KeyId) → master_turn v a ≡ Refuse by k → (q : Version) × In q v.versions × (by ≡ q.tx) × (k ≡ q.key)
unfolding master_turn
refuse_is v a by k e = by_found (find (refuses a) (met a.writes v.versions)) refl e
  where
    by_park : (o : Option Version) → Proposals.master_parks v a o ≡ Refuse by k → ⊥
    by_park (Some q) e = cc e
    by_park None e = (if_elim (λ t. t ≡ Refuse by k → ⊥) (nat_lt (proposed v a) ts_limit) (Accept (proposed v a)) Ignore (λ g z. cc z) (λ g z. cc z)) e

    by_found : (o : Option Version) → find (refuses a) (met a.writes v.versions) ≡ o → Proposals.master_refuses v a o ≡ Refuse by k → (q : Version) × In q v.versions × (by ≡ q.tx) × (k ≡ q.key)
    by_found (Some q) f e =
        let m = (find_is (refuses a) (met a.writes v.versions) q f).0 in
        let r = in_flat_map (λ (w : Write). chain w.key v.versions) a.writes q m in
        let s : q.tx ≡ by = cc e in
        let t : q.key ≡ k = cc e in
        (q, (in_filter (λ (u : Version). same_key u.key r.0.key) v.versions q r.2).0, sym s, sym t)
    by_found None f e = absurd (by_park (find (parks a) (met a.writes v.versions)) e)

-- ---- new messages

-- what a Prepare and a Replicate name
names_of : (here : Here) (tx : TxId) (p : PartId) (rs lc : Ts) (ws : List Write) → has_named_writes here tx p rs lc ws ≡ true → NamesWrites here tx p ws
names_of here tx p rs lc ws e =
    let a = and_true_right (has_node here tx.node) (has_part here p && (Strange.below_limit rs && (Strange.below_limit lc && (some_keys_in here p (map (λ w. w.key) ws) && has_values here ws)))) e in
    let b = and_true_right (has_part here p) (Strange.below_limit rs && (Strange.below_limit lc && (some_keys_in here p (map (λ w. w.key) ws) && has_values here ws))) a in
    let c = and_true_right (Strange.below_limit rs) (Strange.below_limit lc && (some_keys_in here p (map (λ w. w.key) ws) && has_values here ws)) b in
    let d = and_true_right (Strange.below_limit lc) (some_keys_in here p (map (λ w. w.key) ws) && has_values here ws) c in
    (and_true_left (has_node here tx.node) _ e, and_true_left (has_part here p) _ a, and_true_left (some_keys_in here p (map (λ (w : Write). w.key) ws)) (has_values here ws) d, and_true_right (some_keys_in here p (map (λ (w : Write). w.key) ws)) (has_values here ws) d)

-- a participant of an own transaction is of a partition that it wrote in
pub written_seat : (here : Here) (vs : List Version) (i lc : ℕ) (x : Own) → OwnGood here vs i x → lc_of x.phase ≡ Some lc → (a : Asked) → In a x.parts → (w : Write) × In w x.writes × (in_part here.scene a.part w ≡ true)
written_seat here vs i lc x g l a h =
    let k : In (a.part, a.node) (NodeFacts.seats (participants here.scene here.node x.writes)) =
    subst (λ (zs : List (PartId × NodeId)). In (a.part, a.node) zs) (g.seats_are lc l) (map_in {A = Asked} {B = PartId × NodeId} (λ (b : Asked). (b.part, b.node)) x.parts a h) in
    let r = in_map {A = Asked} {B = PartId × NodeId} (λ (b : Asked). (b.part, b.node)) (participants here.scene here.node x.writes) (a.part, a.node) k in
    let q = in_flat_map (λ (p : PartId). map (unasked p) (others here.node (replicas here.scene p))) (written_parts here.scene x.writes) r.0 r.1 in
    let m = in_map (unasked q.0) (others here.node (replicas here.scene q.0)) r.0 q.2 in
    let t = (in_filter (λ (p : PartId). list_any (in_part here.scene p) x.writes) (all_parts here.scene) q.0 q.1).1 in
    let w = any_has (in_part here.scene q.0) x.writes t in
    let same : q.0 ≡ a.part = ap (λ (z : Asked). z.part) m.2 ∙ ap (λ (z : PartId × NodeId). z.0) r.2 in
    (w.0, w.1, subst (λ (p : PartId). in_part here.scene p w.0 ≡ true) same w.2)

module _ (here : Here) (ok : IsScene here.scene) (exists : has_node here here.node ≡ true) (input : Input) (d e : Doing) (h : MomentFacts here d.view) (after : MomentFacts here e.view) where
  here_bool : (a : Arrived) → IsHere here input d a → has_named_writes here a.tx a.part a.rs a.lc a.writes ≡ true
  here_bool a (it_comes from c u z m) = came_named here input from (Prepare a.tx a.part a.rs a.lc a.writes) c
  here_bool a (it_waits kept rest q) = (h.waiters (Held a) (subst (In (Held a)) (sym q) (in_right kept (Held a ∷ rest) (Held a) (inl refl)))).named

  placed_bool : (a : Arrived) → Placed here input d a → has_named_writes here a.tx a.part a.rs a.lc a.writes ≡ true
  placed_bool a (by_master g) = here_bool a g
  placed_bool a (by_slave from c t) = came_named here input from (Replicate a.tx a.part a.rs a.lc a.writes) c

  own_names : (i lc : ℕ) (p : PartId) (x : Own) → Owns d.view i x → lc_of x.phase ≡ Some lc → gate_of here d.view lc x ≡ Ask p → NamesWrites here (name_of here i) p (writes_in here p x)
  own_names i lc p x own l g =
      let a = gate_ask x.snap lc x.parts _ p g in
      let seat = own_seat here d.view.versions i x (h.homes i x own) a.0 a.1 in
      let wr = written_seat here d.view.versions i lc x (h.homes i x own) l a.0 a.1 in
      let good = h.scripts i x own in
      let some : (w : Write) × In w (writes_in here p x) = (wr.0, filter_in (in_part here.scene p) x.writes wr.0 wr.1 (subst (λ (q : PartId). in_part here.scene q wr.0 ≡ true) a.2 wr.2)) in
      let keys : keys_in here p (map (λ (w : Write). w.key) (writes_in here p x)) ≡ true =
      and_from (Strange.distinct_keys (map (λ (w : Write). w.key) (writes_in here p x))) _ (filter_distinct (in_part here.scene p) x.writes good.once)
      (all_from _ (map (λ (w : Write). w.key) (writes_in here p x)) (λ k m.
      let r = in_map (λ (w : Write). w.key) (writes_in here p x) k m in
      let f = in_filter (in_part here.scene p) x.writes r.0 r.1 in
      subst (λ (z : KeyId). (has_key here z && same_part (part_of here.scene z) p) ≡ true) r.2 (and_from (has_key here r.0.key) (in_part here.scene p r.0) (write_key here ok x good r.0 f.0) f.1))) in (
        exists,
        subst (λ (q : PartId). has_part here q ≡ true) a.2 (part_there here a.0.node a.0.part seat.hosted),
        some_keys here p (writes_in here p x) some keys,
        all_from (λ (w : Write). has_value here w.value) (writes_in here p x) (λ w m. (h.values i x own).writes w (in_filter (in_part here.scene p) x.writes w m).0),
      )

  asked_names : (tx : TxId) (k : KeyId) (rs : ℕ) → IsAsked here input d tx k rs → (has_node here tx.node ≡ true) × (has_key here k ≡ true)
  asked_names tx k rs (asked_now from t q c) =
      let n : has_named here (ReadReq tx k t) ≡ true = subst (λ (z : Body). has_named here z ≡ true) c.3 (valid_named here c.0 c.4) in
      (and_true_left (has_node here tx.node) (has_key here k && Strange.below_limit t) n, and_true_left (has_key here k) (Strange.below_limit t) (and_true_right (has_node here tx.node) (has_key here k && Strange.below_limit t) n))
  asked_names tx k rs (asked_before t q j) = let r = h.waiters (Read tx k t) j in (r.node, r.key)

  pub post_names : (m : Message) → Post here input d e m → Names here m.body
  post_names m (p_request i k to x own own' aw) =
      let n = (after.needy i (in_phase (Remote k) x) own').waits k refl in
      (exists, lt-ltb k.0 (length here.scene.keys.names) (needs_key here.scene n.0 k (script_op here.scene ok x.place x.next n.0 n.1) n.2))
  post_names m (p_prepare i lc p x own l g t) = own_names i lc p x own l g
  post_names m (p_replicate i lc p x r own l g t j) = own_names i lc p x own l g
  post_names m (p_ack a ts pl) = let n = names_of here a.tx a.part a.rs a.lc a.writes (placed_bool a pl) in (n.0, n.1)
  post_names m (p_copy a r g j) = names_of here a.tx a.part a.rs a.lc a.writes (here_bool a g)
  post_names m (p_refuse a by k g t) =
      let n = names_of here a.tx a.part a.rs a.lc a.writes (here_bool a g) in
      let q = refuse_is d.view a by k t in
      let f = h.versions q.0 q.1 in
      (n.0, n.1, subst (λ (z : TxId). has_node here z.node ≡ true) (sym q.2) f.node, subst (λ (z : KeyId). has_key here z ≡ true) (sym q.3) f.key)
  post_names m (p_reply tx k rs v by fc g) =
      let n = asked_names tx k rs g.was_asked in
      elim (serve_is d.view.versions k rs v by fc g.gives) [
        | inl q ↦ (n.0, n.1, subst (λ (z : Value). has_value here z ≡ true) (sym q.0) refl, subst (λ (z : Option TxId). has_writer here z ≡ true) (sym q.1) refl)
        | inr q ↦ (let f = h.versions q.0 q.1 in (n.0, n.1, subst (λ (z : Value). has_value here z ≡ true) (sym q.2) f.value, subst (λ (z : Option TxId). has_writer here z ≡ true) (sym q.3) f.node))
      ]
  post_names m (p_decision to (Commit tx p fc ms) z) = tt
  post_names m (p_decision to (Abort tx p) z) = tt
  post_names m (p_decision to (ReadReq tx k rs) z) = absurd z
  post_names m (p_decision to (ReadReply tx k v by fc) z) = absurd z
  post_names m (p_decision to (Prepare tx p rs lc ws) z) = absurd z
  post_names m (p_decision to (Replicate tx p rs lc ws) z) = absurd z
  post_names m (p_decision to (Refusal tx p by k) z) = absurd z
  post_names m (p_decision to (Ack tx p ts) z) = absurd z

  seat_row : (i lc : ℕ) (p : PartId) (x : Own) → Owns d.view i x → gate_of here d.view lc x ≡ Ask p → (r : NodeId) × In r (replicas here.scene p)
  seat_row i lc p x own g =
      let a = gate_ask x.snap lc x.parts _ p g in
      let seat = own_seat here d.view.versions i x (h.homes i x own) a.0 a.1 in
      (a.0.node, subst (λ (q : PartId). In a.0.node (replicas here.scene q)) a.2 seat.replica)

  not_same : (n : NodeId) → same_node n here.node ≡ false → n.0 ≢ here.node.0
  not_same n e = λ q. cc (eq-eqb n.0 here.node.0 q, e)

  pub post_addressed : (m : Message) → Post here input d e m → Addressed here.scene m.sender m.receiver m.body
  post_addressed m (p_request i k to x own own' aw) =
      let a = away_is here d.view x.snap k to aw in
      let n = (after.needy i (in_phase (Remote k) x) own').waits k refl in
      (refl, subst (λ (z : NodeId). is_master here.scene z (part_of here.scene k) ≡ true) (sym a.0) (key_master here.scene ok k (needs_key here.scene n.0 k (script_op here.scene ok x.place x.next n.0 n.1) n.2) here.node), a.1)
  post_addressed m (p_prepare i lc p x own l g t) =
      let r = seat_row i lc p x own g in (refl, first_leads here.node r.0 (replicas here.scene p) r.1, first_other here.node r.0 (replicas here.scene p) r.1 t)
  post_addressed m (p_replicate i lc p x r own l g t j) =
      let o = other_one here.node r (replicas here.scene p) j in (row_hosts here.scene r p o.0, other_follows here.node r (replicas here.scene p) t o.1, λ q. o.1 (sym q))
  post_addressed m (p_ack a ts (by_master g)) =
      let k = (here_named here input d a h.waiters g).1 in (refl, master_hosts here a.part k.master, not_same a.tx.node k.foreign)
  post_addressed m (p_ack a ts (by_slave from c t)) = (refl, t.hosted, not_same a.tx.node t.foreign)
  post_addressed m (p_copy a r g j) =
      let f = other_one a.tx.node r (others here.node (replicas here.scene a.part)) j in
      let o = other_one here.node r (replicas here.scene a.part) f.0 in
      let k = (here_named here input d a h.waiters g).1 in
      (row_hosts here.scene r a.part o.0, other_follows here.node r (replicas here.scene a.part) k.master o.1, λ q. f.1 (sym q))
  post_addressed m (p_refuse a by k g t) = let z = (here_named here input d a h.waiters g).1 in (refl, z.master, not_same a.tx.node z.foreign)
  post_addressed m (p_reply tx k rs v by fc g) = refl
  post_addressed m (p_decision to (Commit tx p fc ms) z) = tt
  post_addressed m (p_decision to (Abort tx p) z) = tt
  post_addressed m (p_decision to (ReadReq tx k rs) z) = absurd z
  post_addressed m (p_decision to (ReadReply tx k v by fc) z) = absurd z
  post_addressed m (p_decision to (Prepare tx p rs lc ws) z) = absurd z
  post_addressed m (p_decision to (Replicate tx p rs lc ws) z) = absurd z
  post_addressed m (p_decision to (Refusal tx p by k) z) = absurd z
  post_addressed m (p_decision to (Ack tx p ts) z) = absurd z

-- A transaction has at most 112 participants: at most 16 written partitions, each with at most 7 replicas beside the origin.
use Rattle.partition_map.specs.declared.rows.Asked.{Asked}
use Rattle.si_laws.proofs.Times.NoRepeats.{Once, fits, map_length, once_filter, once_map, once_places, once_range}
use Rattle.str_model.proofs.OwnFacts.AtHome.{OwnGood, seats}
use Rattle.str_model.proofs.OwnFacts.ScriptsCovered.{ScriptGood, WritesKey}
use Rattle.str_model.proofs.ListFacts.{range_in}
use Rattle.si_laws.proofs.Stages.ParticipantSeats.{flat_map_in}
use Rattle.str_model.proofs.Changes.PairWords.{any_has}
use Rattle.str_model.specs.Owned.{wrote_key}
use Rattle.std.proofs.Common.{List, None, Option, Some, [], ap, arith, eq-eqb, eqb-true, flat_map, inl, inr, length, length-append, map, not, refl, subst, suc, sym, true, zero, ℕ, ◌*◌, ◌∷◌, ◌≡◌, ◌≤◌}
use Rattle.std.specs.List.{list_any, range_with_len}
use Rattle.str_base.specs.declared.names.KeyId.{KeyId}
use Rattle.str_base.specs.declared.names.NodeId.{NodeId}
use Rattle.str_base.specs.declared.names.PartId.{PartId}
use Rattle.str_base.specs.declared.names.Version.{Version}
use Rattle.str_base.specs.declared.names.Write.{Write}
use Rattle.str_base.specs.Versions.{same_key, same_node}
use Rattle.str_model.specs.Strange
use Rattle.str_model.specs.Views.{Own, lc_of}
use Rattle.str_scene.specs.declared.names.Op.{Op}
use Rattle.str_scene.specs.declared.names.Op.TheVariants.{Abort as Stop, Add, Del, Get, Need, Put, Puts}
use Rattle.str_scene.specs.SceneLimits.{Exists, IsRow, IsScene, key_of}
use Rattle.str_scene.specs.Scenes.{Here, Scene, all_parts, in_part, nth, or_none, others, part_of, participants, replicas, script_at, unasked, written_parts}
use Rattle.std.proofs.lemmas.List.FromFn.{length-range_with_len}
use Rattle.str_base.proofs.Members.{any_in, at_in, in_at, in_filter, in_map, map_in}
use Rattle.str_base.proofs.Tests.{and_true_left, and_true_right}
use Rattle.str_base.proofs.SameNames.{node_by_number, part_by_number}
use Rattle.str_base.specs.Members.{In}
use Rattle.str_model.proofs.Room.SmallNumbers.{script_few}

-- ---- writes

ops_few : (ops : List Op) → length (flat_map key_of ops) ≤ length ops
ops_few [] = omega arith
ops_few (op ∷ ops) =
    let rec = ops_few ops in
    let a = length-append (key_of op) (flat_map key_of ops) in
    let b = one_at_most op in omega (arith, rec, a, b)
  where
    one_at_most : (op : Op) → length (key_of op) ≤ 1
    one_at_most (Get k) = omega arith
    one_at_most (Put k n) = omega arith
    one_at_most (Puts k t) = omega arith
    one_at_most (Add k n) = omega arith
    one_at_most (Del k) = omega arith
    one_at_most (Need k n) = omega arith
    one_at_most Stop = omega arith

writes_of : (op : Op) (k : KeyId) → WritesKey op k → In k.0 (key_of op)
writes_of (Get l) k h = absurd h
writes_of (Put l n) k h = inl (ap (λ (z : KeyId). z.0) h)
writes_of (Puts l t) k h = inl (ap (λ (z : KeyId). z.0) h)
writes_of (Add l n) k h = inl (ap (λ (z : KeyId). z.0) h)
writes_of (Del l) k h = inl (ap (λ (z : KeyId). z.0) h)
writes_of (Need l n) k h = absurd h
writes_of Stop k h = absurd h

keys_once : (ks : List KeyId) → Strange.distinct_keys ks ≡ true → Once (map (λ (k : KeyId). k.0) ks)
keys_once [] e = tt
keys_once (k ∷ ks) e = (
  λ h. (let r = in_map (λ (z : KeyId). z.0) ks k.0 h in
      let t : list_any (same_key k) ks ≡ true = any_in (same_key k) ks r.0 r.1 (eq-eqb k.0 r.0.0 (sym r.2)) in
      let f : not (list_any (same_key k) ks) ≡ true = and_true_left (not (list_any (same_key k) ks)) (Strange.distinct_keys ks) e in absurd (cc (ap not t, f))),
  keys_once ks (and_true_right (not (list_any (same_key k) ks)) (Strange.distinct_keys ks) e),
)

-- the buffer is no longer than the script
writes_few : (here : Here) (x : Own) → ScriptGood here x → length x.writes ≤ length (script_at here.scene x.place)
writes_few here x g =
    let ops : List Op = script_at here.scene x.place in
    let keys : List KeyId = map (λ (w : Write). w.key) x.writes in
    let nums : List ℕ = map (λ (k : KeyId). k.0) keys in
    let fit = fits nums (flat_map key_of ops) (keys_once keys g.once) (λ n h. in_ops n h) in
    let a : length nums ≡ length keys = map_length (λ (k : KeyId). k.0) keys in
    let b : length keys ≡ length x.writes = map_length (λ (w : Write). w.key) x.writes in
    let c = ops_few ops in omega (arith, fit, a, b, c)
  where
    in_ops : (n : ℕ) → In n (map (λ (k : KeyId). k.0) (map (λ (w : Write). w.key) x.writes)) → In n (flat_map key_of (script_at here.scene x.place))
    in_ops n h =
        let r = in_map (λ (k : KeyId). k.0) (map (λ (w : Write). w.key) x.writes) n h in
        let s = in_map (λ (w : Write). w.key) x.writes r.0 r.1 in
        let t : wrote_key r.0 x.writes ≡ true = any_in (λ (w : Write). same_key w.key r.0) x.writes s.0 s.1 (eq-eqb s.0.key.0 r.0.0 (ap (λ (z : KeyId). z.0) s.2)) in
        let o = g.inside r.0 t in
        subst (λ (m : ℕ). In m (flat_map key_of (script_at here.scene x.place))) r.2 (flat_map_in key_of (script_at here.scene x.place) o.1 r.0.0 (in_at (script_at here.scene x.place) o.0 o.1 o.2) (writes_of o.1 r.0 o.3))

-- ---- partitions and replicas

parts_few : (scene : Scene) (ws : List Write) → length (written_parts scene ws) ≤ length ws
parts_few scene ws =
    let once : Once (all_parts scene) = once_map (λ (n : ℕ). record { 0 = n }) (range_with_len 1 (length scene.parts)) (λ m n e. ap (λ (p : PartId). p.0) e) (once_range 1 (length scene.parts)) in
    let fit = fits (written_parts scene ws) (map (λ (w : Write). part_of scene w.key) ws) (once_filter (λ (p : PartId). list_any (in_part scene p) ws) (all_parts scene) once) (λ p h. (
    let f = in_filter (λ (p : PartId). list_any (in_part scene p) ws) (all_parts scene) p h in
    let r = any_has (in_part scene p) ws f.1 in
    subst (λ (q : PartId). In q (map (λ (w : Write). part_of scene w.key) ws)) (part_by_number (part_of scene r.0.key) p (eqb-true (part_of scene r.0.key).0 p.0 r.2)) (map_in (λ (w : Write). part_of scene w.key) ws r.0 r.1))) in
    let m : length (map (λ (w : Write). part_of scene w.key) ws) ≡ length ws = map_length (λ (w : Write). part_of scene w.key) ws in
    omega (arith, fit, m)

others_few : (scene : Scene) → IsScene scene → (origin : NodeId) → Exists origin.0 scene.nodes → (p : PartId) → length (others origin (replicas scene p)) ≤ 7
others_few scene ok origin here p = by_row p.0 (nth scene.parts p.0) refl
  where
    of_row : (row : List NodeId) → IsRow scene.nodes row → length (others origin row) ≤ 7
    of_row row r =
        let beside : List NodeId = others origin row in
        let all : List ℕ = map (λ (n : NodeId). n.0) (origin ∷ beside) in
        let once : Once (origin ∷ beside) = (
          λ h. (let f = in_filter (λ (n : NodeId). not (same_node n origin)) row origin h in absurd (cc (ap not (eq-eqb origin.0 origin.0 refl), f.1))),
          once_filter (λ (n : NodeId). not (same_node n origin)) row (once_places row r.distinct),
        ) in
        let fit = fits all (range_with_len 1 scene.nodes) (once_map (λ (n : NodeId). n.0) (origin ∷ beside) node_by_number once) (λ k h. in_nodes k (in_map (λ (n : NodeId). n.0) (origin ∷ beside) k h)) in
        let a : length all ≡ length (origin ∷ beside) = map_length (λ (n : NodeId). n.0) (origin ∷ beside) in
        let b = length-range_with_len 1 scene.nodes in
        let c = ok.nodes.1 in omega (arith, fit, a, b, c)
      where
        in_nodes : (k : ℕ) → (n : NodeId) × In n (origin ∷ others origin row) × (n.0 ≡ k) → In k (range_with_len 1 scene.nodes)
        in_nodes k (n, inl e, q) = let s = ap (λ (z : NodeId). z.0) e in range_in 1 scene.nodes k (omega (arith, here.0, s, q)) (omega (arith, here.1, s, q))
        in_nodes k (n, inr h, q) =
            let f = in_filter (λ (n : NodeId). not (same_node n origin)) row n h in
            let i = at_in row n f.0 in
            let x = r.exist i.0 n i.1 in range_in 1 scene.nodes k (omega (arith, x.0, q)) (omega (arith, x.1, q))

    by_row : (n : ℕ) (o : Option (List NodeId)) → nth scene.parts n ≡ o → length (others origin (or_none o)) ≤ 7
    by_row n None e = omega arith
    by_row zero (Some row) e = absurd (cc e)
    by_row (suc n) (Some row) e = of_row row (ok.rows n row e)

participants_few : (scene : Scene) → IsScene scene → (origin : NodeId) → Exists origin.0 scene.nodes → (ps : List PartId)
    → length (flat_map (λ (p : PartId). map (unasked p) (others origin (replicas scene p))) ps) ≤ length ps * 7
participants_few scene ok origin here [] = omega arith
participants_few scene ok origin here (p ∷ ps) =
    let rec = participants_few scene ok origin here ps in
    let a = length-append (map (unasked p) (others origin (replicas scene p))) (flat_map (λ (p : PartId). map (unasked p) (others origin (replicas scene p))) ps) in
    let b : length (map (unasked p) (others origin (replicas scene p))) ≡ length (others origin (replicas scene p)) = map_length (unasked p) (others origin (replicas scene p)) in
    let c = others_few scene ok origin here p in omega (arith, rec, a, b, c)

-- a transaction has at most 112 participants
pub few_parts : (here : Here) → IsScene here.scene → Exists here.node.0 here.scene.nodes → (vs : List Version) (i : ℕ) (x : Own) → OwnGood here vs i x → ScriptGood here x → length x.parts ≤ 112
few_parts here ok there vs i x g s = by_lc (lc_of x.phase) refl
  where
    by_lc : (o : Option ℕ) → lc_of x.phase ≡ o → length x.parts ≤ 112
    by_lc None e = omega (arith, ap (λ (ps : List Asked). length ps) (g.none e))
    by_lc (Some lc) e =
        let a : length (seats x.parts) ≡ length x.parts = map_length (λ (a : Asked). (a.part, a.node)) x.parts in
        let b : length (seats (participants here.scene here.node x.writes)) ≡ length (participants here.scene here.node x.writes) = map_length (λ (a : Asked). (a.part, a.node)) (participants here.scene here.node x.writes) in
        let c = ap (λ (zs : List (PartId × NodeId)). length zs) (g.seats_are lc e) in
        let d = participants_few here.scene ok here.node there (written_parts here.scene x.writes) in
        let f = parts_few here.scene x.writes in
        let h = writes_few here x s in
        let k = script_few here.scene ok x.place in omega (arith, a, b, c, d, f, h, k)

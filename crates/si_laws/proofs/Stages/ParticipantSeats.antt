-- Who takes part in a transaction: the replicas, but its origin, of each partition that it wrote in.
use Rattle.str_model.proofs.ListFacts.{range_in}
use Rattle.partition_map.specs.declared.rows.Asked.{Asked}
use Rattle.str_model.proofs.OwnFacts.AtHome.{OwnGood, seats}
use Rattle.str_model.proofs.Changes.PairWords.{any_has}
use Rattle.std.proofs.Common.{List, None, Option, Some, [], add-one, ap, arith, eq-eqb, eqb-true, flat_map, inl, inr, length, map, not, refl, slice_get, subst, subst₂, suc, sym, true, zero, ℕ, ◌+◌, ◌<◌, ◌∙◌, ◌∷◌, ◌≡◌, ◌≢◌, ◌≤◌}
use Rattle.std.proofs.lemmas.Option.{slice_get_within}
use Rattle.std.specs.List.{list_any, range_with_len}
use Rattle.str_base.specs.Versions.{same_node}
use Rattle.str_base.specs.declared.names.NodeId.{NodeId}
use Rattle.str_base.specs.declared.names.PartId.{PartId}
use Rattle.str_base.specs.declared.names.Version.{Version}
use Rattle.str_base.specs.declared.names.Write.{Write}
use Rattle.str_model.specs.Views.{Own, lc_of}
use Rattle.str_scene.specs.Scenes.{Here, Scene, all_parts, hosts, in_part, nth, or_none, others, part_of, participants, replicas, unasked, written_parts}
use Rattle.std.proofs.lemmas.Bool.{false_from_ne_true}
use Rattle.str_base.proofs.Members.{any_in, filter_in, in_filter, in_flat_map, in_left, in_map, in_right, map_in}
use Rattle.str_base.specs.Members.{In}

pub of_nth : {A : Type 0} (xs : List A) (n : ℕ) (x : A) → nth xs n ≡ Some x → (i : ℕ) × (n ≡ i + 1) × (slice_get xs i ≡ Some x)
of_nth xs zero x e = absurd (cc e)
of_nth xs (suc i) x e = (i, omega arith, e)

pub to_nth : {A : Type 0} (xs : List A) (i : ℕ) (x : A) → slice_get xs i ≡ Some x → nth xs (i + 1) ≡ Some x
to_nth xs i x e = rw add-one e

pub flat_map_in : {A B : Type 0} (f : A → List B) (xs : List A) (x : A) (y : B) → In x xs → In y (f x) → In y (flat_map f xs)
flat_map_in f [] x y h k = absurd h
flat_map_in {B = B} f (z ∷ xs) x y (inl e) k = in_left (f z) (flat_map f xs) y (subst (λ u. In y (f u)) (sym e) k)
flat_map_in f (z ∷ xs) x y (inr h) k = in_right (f z) (flat_map f xs) y (flat_map_in f xs x y h k)

-- a hosted partition exists
pub part_exists : (scene : Scene) (r : NodeId) (p : PartId) → hosts scene r p ≡ true → (1 ≤ p.0) × (p.0 < 1 + length scene.parts)
part_exists scene r p h = by_row (nth scene.parts p.0) refl h
  where
    by_row : (o : Option (List NodeId)) → nth scene.parts p.0 ≡ o → list_any (λ n. same_node n r) (or_none o) ≡ true → (1 ≤ p.0) × (p.0 < 1 + length scene.parts)
    by_row None e k = absurd (cc k)
    by_row (Some row) e k = let f = of_nth scene.parts p.0 row e in let l = slice_get_within scene.parts f.0 row f.2 in (omega (arith, f.1), omega (arith, f.1, l))

-- a replica, but the origin, of what was written takes part
pub takes_part : (scene : Scene) (origin r : NodeId) (ws : List Write) (w : Write) → In w ws → hosts scene r (part_of scene w.key) ≡ true → r.0 ≢ origin.0
    → (a : Asked) × In a (participants scene origin ws) × (a.part ≡ part_of scene w.key) × (a.node ≡ r)
takes_part scene origin r ws w h k other =
    let p : PartId = part_of scene w.key in
    let e = part_exists scene r p k in
    let all : In p (all_parts scene) = map_in (λ (n : ℕ). record { 0 = n }) (range_with_len 1 (length scene.parts)) p.0 (range_in 1 (length scene.parts) p.0 e.0 e.1) in
    let own : list_any (in_part scene p) ws ≡ true = any_in (in_part scene p) ws w h (eq-eqb p.0 p.0 refl) in
    let written : In p (written_parts scene ws) = filter_in (λ (q : PartId). list_any (in_part scene q) ws) (all_parts scene) p all own in
    let host = any_has (λ (n : NodeId). same_node n r) (replicas scene p) k in
    let is : host.0 ≡ r = λ j. record { 0 = eqb-true host.0.0 r.0 host.2 j } in
    let not_origin : not (same_node host.0 origin) ≡ true = ap not (false_from_ne_true (same_node host.0 origin) (λ q. other (ap (λ (z : NodeId). z.0) (sym is) ∙ eqb-true host.0.0 origin.0 q))) in
    let there : In host.0 (others origin (replicas scene p)) = filter_in (λ (n : NodeId). not (same_node n origin)) (replicas scene p) host.0 host.1 not_origin in (
      unasked p host.0,
      flat_map_in (λ (q : PartId). map (unasked q) (others origin (replicas scene q))) (written_parts scene ws) p (unasked p host.0) written (map_in (unasked p) (others origin (replicas scene p)) host.0 there),
      refl,
      is,
    )

-- what is known of one who takes part
pub record SeatKnown (scene : Scene) (origin : NodeId) (p : PartId) (n : NodeId) : Type 0 where
  pub hosted : hosts scene n p ≡ true
  pub other : n.0 ≢ origin.0
  pub replica : In n (replicas scene p)

pub seat_known : (scene : Scene) (origin : NodeId) (ws : List Write) (a : Asked) → In a (participants scene origin ws) → SeatKnown scene origin a.part a.node
seat_known scene origin ws a h =
    let r = in_flat_map (λ (q : PartId). map (unasked q) (others origin (replicas scene q))) (written_parts scene ws) a h in
    let m = in_map (unasked r.0) (others origin (replicas scene r.0)) a r.2 in
    let f = in_filter (λ (n : NodeId). not (same_node n origin)) (replicas scene r.0) m.0 m.1 in
    subst (λ (z : Asked). SeatKnown scene origin z.part z.node) m.2 (record {
      hosted = any_in (λ (n : NodeId). same_node n m.0) (replicas scene r.0) m.0 f.0 (eq-eqb m.0.0 m.0.0 refl);
      other = λ e. cc (ap not (eq-eqb m.0.0 origin.0 e), f.1);
      replica = f.0;
    })

-- a participant of an own transaction is one of its writes
pub own_seat : (here : Here) (vs : List Version) (i : ℕ) (x : Own) → OwnGood here vs i x → (a : Asked) → In a x.parts → SeatKnown here.scene here.node a.part a.node
own_seat here vs i x g a h = by_lc (lc_of x.phase) refl
  where
    by_lc : (o : Option ℕ) → lc_of x.phase ≡ o → SeatKnown here.scene here.node a.part a.node
    by_lc None e = absurd (subst (λ (ps : List Asked). In a ps) (g.none e) h)
    by_lc (Some lc) e =
        let k : In (a.part, a.node) (seats (participants here.scene here.node x.writes)) = subst (λ (zs : List (PartId × NodeId)). In (a.part, a.node) zs) (g.seats_are lc e) (map_in {A = Asked} {B = PartId × NodeId} (λ (b : Asked). (b.part, b.node)) x.parts a h) in
        let r = in_map {A = Asked} {B = PartId × NodeId} (λ (b : Asked). (b.part, b.node)) (participants here.scene here.node x.writes) (a.part, a.node) k in
        subst₂ (λ (p : PartId) (n : NodeId). SeatKnown here.scene here.node p n) (ap (λ (z : PartId × NodeId). z.0) r.2) (ap (λ (z : PartId × NodeId). z.1) r.2) (seat_known here.scene here.node x.writes r.0 r.1)

-- and each replica of what it wrote is one of its participants
pub seat_of : (here : Here) (vs : List Version) (i lc : ℕ) (x : Own) → OwnGood here vs i x → lc_of x.phase ≡ Some lc → (w : Write) → In w x.writes → (r : NodeId) → hosts here.scene r (part_of here.scene w.key) ≡ true
    → r.0 ≢ here.node.0 → (a : Asked) × In a x.parts × (a.part ≡ part_of here.scene w.key) × (a.node ≡ r)
seat_of here vs i lc x g l w h r k other =
    let t = takes_part here.scene here.node r x.writes w h k other in
    let s : In (t.0.part, t.0.node) (seats x.parts) = subst (λ (zs : List (PartId × NodeId)). In (t.0.part, t.0.node) zs) (sym (g.seats_are lc l)) (map_in {A = Asked} {B = PartId × NodeId} (λ (b : Asked). (b.part, b.node)) (participants here.scene here.node x.writes) t.0 t.1) in
    let m = in_map {A = Asked} {B = PartId × NodeId} (λ (b : Asked). (b.part, b.node)) x.parts (t.0.part, t.0.node) s in
    (m.0, m.1, ap (λ (z : PartId × NodeId). z.0) m.2 ∙ t.2, ap (λ (z : PartId × NodeId). z.1) m.2 ∙ t.3)

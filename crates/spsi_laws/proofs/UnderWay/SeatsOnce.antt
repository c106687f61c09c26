-- No participant of a transaction stands twice.
use Rattle.std.proofs.Common.{List, None, Option, Some, [], ap, flat_map, inl, inr, length, map, refl, subst, sym, ℕ, ◌++◌, ◌∙◌, ◌∷◌, ◌≡◌}
use Rattle.partition_map.specs.declared.rows.Asked.{Asked}
use Rattle.si_laws.proofs.Stages.ParticipantSeats.{of_nth}
use Rattle.si_laws.proofs.Times.NoRepeats.{Once, once_append, once_filter, once_map, once_places, once_range}
use Rattle.std.specs.List.{list_any}
use Rattle.std.specs.List.{range_with_len}
use Rattle.str_base.specs.Versions.{same_node}
use Rattle.str_base.specs.declared.names.NodeId.{NodeId}
use Rattle.str_base.specs.declared.names.PartId.{PartId}
use Rattle.str_base.specs.declared.names.Version.{Version}
use Rattle.str_base.specs.declared.names.Write.{Write}
use Rattle.str_model.specs.NodeFacts.{OwnGood, seats}
use Rattle.str_model.specs.Views.{Own, lc_of}
use Rattle.str_scene.specs.SceneLimits.{IsScene}
use Rattle.str_scene.specs.Scenes.{Here, Scene, all_parts, in_part, nth, or_none, others, participants, replicas, unasked, written_parts}
use Rattle.std.proofs.Common.{not}
use Rattle.str_base.proofs.Members.{in_flat_map, in_map, map_in}
use Rattle.str_base.specs.Members.{In}

seats_append : (xs ys : List Asked) → seats (xs ++ ys) ≡ seats xs ++ seats ys
seats_append [] ys = refl
seats_append (x ∷ xs) ys = ap (λ zs. (x.part, x.node) ∷ zs) (seats_append xs ys)

seats_row : (p : PartId) (rs : List NodeId) → seats (map (unasked p) rs) ≡ map {A = NodeId} {B = PartId × NodeId} (λ (r : NodeId). (p, r)) rs
seats_row p [] = refl
seats_row p (r ∷ rs) = ap (λ zs. (p, r) ∷ zs) (seats_row p rs)

row_once : (scene : Scene) → IsScene scene → (p : PartId) → Once (replicas scene p)
row_once scene ok p = by (nth scene.parts p.0) refl
  where
    by : (o : Option (List NodeId)) → nth scene.parts p.0 ≡ o → Once (or_none o)
    by None e = tt
    by (Some row) e = let f = of_nth scene.parts p.0 row e in once_places row (ok.rows f.0 row f.2).distinct

module _ (scene : Scene) (ok : IsScene scene) (origin : NodeId) where
  -- the participants of these partitions
  abbrev of_parts : List PartId → List Asked
  of_parts ps = flat_map (λ (p : PartId). map (unasked p) (others origin (replicas scene p))) ps

  in_parts : (ps : List PartId) (z : PartId × NodeId) → In z (seats (of_parts ps)) → In z.0 ps
  in_parts ps z h =
      let r = in_map {A = Asked} {B = PartId × NodeId} (λ (b : Asked). (b.part, b.node)) (of_parts ps) z h in
      let q = in_flat_map (λ (p : PartId). map (unasked p) (others origin (replicas scene p))) ps r.0 r.1 in
      let m = in_map (unasked q.0) (others origin (replicas scene q.0)) r.0 q.2 in
      subst (λ (p : PartId). In p ps) (ap (λ (a : Asked). a.part) m.2 ∙ ap (λ (y : PartId × NodeId). y.0) r.2) q.1

  parts_once : (ps : List PartId) → Once ps → Once (seats (of_parts ps))
  parts_once [] o = tt
  parts_once (p ∷ ps) o =
      let rs = others origin (replicas scene p) in
      let first : Once (map {A = NodeId} {B = PartId × NodeId} (λ (r : NodeId). (p, r)) rs) =
      once_map {A = NodeId} {B = PartId × NodeId} (λ (r : NodeId). (p, r)) rs (λ x y e. ap (λ (z : PartId × NodeId). z.1) e) (once_filter (λ (r : NodeId). not (same_node r origin)) (replicas scene p) (row_once scene ok p)) in
      let whole : Once (map {A = NodeId} {B = PartId × NodeId} (λ (r : NodeId). (p, r)) rs ++ seats (of_parts ps)) =
      once_append (map {A = NodeId} {B = PartId × NodeId} (λ (r : NodeId). (p, r)) rs) (seats (of_parts ps)) first (parts_once ps o.1)
      (λ z a b. let m = in_map {A = NodeId} {B = PartId × NodeId} (λ (r : NodeId). (p, r)) rs z a in o.0 (subst (λ (q : PartId). In q ps) (ap (λ (y : PartId × NodeId). y.0) (sym m.2)) (in_parts ps z b))) in
      let is : seats (map (unasked p) rs ++ of_parts ps) ≡ map {A = NodeId} {B = PartId × NodeId} (λ (r : NodeId). (p, r)) rs ++ seats (of_parts ps) =
      seats_append (map (unasked p) rs) (of_parts ps) ∙ ap (λ zs. zs ++ seats (of_parts ps)) (seats_row p rs) in
      subst Once (sym is) whole

  pub participants_once : (ws : List Write) → Once (seats (participants scene origin ws))
  participants_once ws =
      parts_once (written_parts scene ws)
      (once_filter (λ (p : PartId). list_any (in_part scene p) ws) (all_parts scene)
      (once_map {A = ℕ} {B = PartId} (λ (k : ℕ). record { 0 = k }) (range_with_len 1 (length scene.parts)) (λ x y e. ap (λ (p : PartId). p.0) e) (once_range 1 (length scene.parts))))

one_seat : (parts : List Asked) (a b : Asked) → Once (seats parts) → In a parts → In b parts → (a.part ≡ b.part) → (a.node ≡ b.node) → a ≡ b
one_seat [] a b o h k p n = absurd h
one_seat (c ∷ parts) a b o (inl h) (inl k) p n = sym h ∙ k
one_seat (c ∷ parts) a b o (inl h) (inr k) p n =
    absurd (o.0 (subst (λ (z : PartId × NodeId). In z (seats parts)) (λ j. ((sym p ∙ ap (λ (x : Asked). x.part) (sym h)) j, (sym n ∙ ap (λ (x : Asked). x.node) (sym h)) j)) (map_in {A = Asked} {B = PartId × NodeId} (λ (x : Asked). (x.part, x.node)) parts b k)))
one_seat (c ∷ parts) a b o (inr h) (inl k) p n =
    absurd (o.0 (subst (λ (z : PartId × NodeId). In z (seats parts)) (λ j. ((p ∙ ap (λ (x : Asked). x.part) (sym k)) j, (n ∙ ap (λ (x : Asked). x.node) (sym k)) j)) (map_in {A = Asked} {B = PartId × NodeId} (λ (x : Asked). (x.part, x.node)) parts a h)))
one_seat (c ∷ parts) a b o (inr h) (inr k) p n = one_seat parts a b o.1 h k p n

-- two participants of an own transaction, for one partition at one node, are one
pub seat_one : (here : Here) → IsScene here.scene → (vs : List Version) (i lc : ℕ) (x : Own) → OwnGood here vs i x → lc_of x.phase ≡ Some lc → (a b : Asked) → In a x.parts → In b x.parts → a.part ≡ b.part → a.node ≡ b.node → a ≡ b
seat_one here ok vs i lc x g l a b h k p n = one_seat x.parts a b (subst Once (sym (g.seats_are lc l)) (participants_once here.scene ok here.node x.writes)) h k p n

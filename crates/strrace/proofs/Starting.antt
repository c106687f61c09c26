-- The nodes of a race as they are made, one after the other.
use Rattle.std.proofs.Common.{List, Some, [], ap, append-nil, append_assoc, arith, inl, inr, length, length-append, map, refl, slice_get, slice_index_or, subst, suc, sym, ℕ, ◌++◌, ◌+◌, ◌<◌, ◌∙◌, ◌∷◌, ◌≡◌}
use Rattle.commit_gate.proofs.Gating.{at_map}
use Rattle.race_round.specs.Nodes.{seat_of, seats_of}
use Rattle.race_round.specs.Races.{AreFresh}
use Rattle.race_round.specs.Seats.{Seat}
use Rattle.race_round.specs.declared.nodes.RaceNode.{RaceNode}
use Rattle.ring_links.specs.Ends.{AreEnds, Ends}
use Rattle.std.proofs.lemmas.List.{length-map, length_push, map-append}
use Rattle.std.proofs.lemmas.Simd.{map-map}
use Rattle.std.specs.List.{remove}
use Rattle.str_base.proofs.Lists.{got_push}
use Rattle.str_model.specs.Runs.{opening_view}
use Rattle.str_scene.specs.SceneLimits.{IsScene}
use Rattle.str_scene.specs.Scenes.{Scene}
use Rattle.strrace.specs.Starting.{AreOfScene}

-- the first of a list that is not empty, and the others
first_and_others : {A : Type 0} (xs ys : List A) (x : A) → 0 < length xs → x ≡ slice_index_or xs 0 x → ys ≡ remove xs 0 → xs ≡ x ∷ ys
first_and_others [] ys x some first others = absurd (omega (arith, some))
first_and_others (y ∷ xs) ys x some first others = λ j. sym first j ∷ sym others j

module _ {C G : Type 0} where
  -- the node at a place is fresh
  pub record IsFreshAt (scene : Scene) (i : ℕ) (n : RaceNode C G) : Type 0 where
    pub scene_ : n.node.scene ≡ scene
    pub id_ : n.node.id ≡ record { 0 = suc i }
    pub view_ : n.node.view ≡ opening_view scene
    pub log_ : n.log.node ≡ n.node.id
    pub entries : n.log.entries ≡ []
    pub messages : n.log.messages ≡ []
    pub answers : n.log.released ≡ []
    pub stamp_ : n.stamp ≡ 0

  -- the ends of these nodes
  abbrev pub ends_of : List (RaceNode C G) → List Ends
  ends_of ns = map (λ (n : RaceNode C G). n.ends) ns

  -- so many nodes are made, with the first of the ends
  pub record AreMade (scene : Scene) (count : ℕ) (all rest : List Ends) (ns : List (RaceNode C G)) : Type 0 where
    pub long : length ns ≡ count
    pub fresh : (i : ℕ) (n : RaceNode C G) → slice_get ns i ≡ Some n → IsFreshAt scene i n
    pub ends_ : all ≡ ends_of ns ++ rest

  pub none_made : (scene : Scene) (all : List Ends) → AreMade scene 0 all all []
  none_made scene all = record { long = refl; fresh = λ i n e. absurd cc; ends_ = refl }

  -- the nodes that are made are of the scene
  pub made_of_scene : (scene : Scene) (count : ℕ) (all rest : List Ends) (ns : List (RaceNode C G)) → AreMade scene count all rest ns → AreOfScene scene ns
  made_of_scene scene count all rest ns made = record { scene_ = λ i n e. (made.fresh i n e).scene_ }

  -- where nodes are still to be made, ends are left
  pub ends_left : (scene : Scene) (count : ℕ) (all rest : List Ends) (ns : List (RaceNode C G)) → AreMade scene count all rest ns → count < length all → 0 < length rest
  ends_left scene count all rest ns made less =
      let whole : length all ≡ length (ends_of ns) + length rest = ap length made.ends_ ∙ length-append (ends_of ns) rest in
      let same = length-map ns (λ (n : RaceNode C G). n.ends) in
      omega (arith, whole, same, less, made.long)

  -- one node more
  pub one_made : (scene : Scene) (count : ℕ) (all rest rest' : List Ends) (ns ms : List (RaceNode C G)) (n : RaceNode C G) (e : Ends) → AreMade scene count all rest ns → IsFreshAt scene count n
      → 0 < length rest → e ≡ slice_index_or rest 0 e → rest' ≡ remove rest 0 → n.ends ≡ e → ms ≡ ns ++ n ∷ [] → AreMade scene (count + 1) all rest' ms
  one_made scene count all rest rest' ns ms n e made fresh some first others ends grown =
      record {
        long = (let l = ap length grown in let p = length_push ns n in omega (arith, l, p, made.long));
        fresh = λ i m h. elim (got_push ns i n m (subst (λ (xs : List (RaceNode C G)). slice_get xs i ≡ Some m) grown h)) [
          | inl p ↦ subst (λ (k : ℕ). IsFreshAt scene k m) (sym (p.0 ∙ made.long)) (subst (λ (x : RaceNode C G). IsFreshAt scene count x) (sym p.1) fresh)
          | inr p ↦ made.fresh i m p
        ];
        ends_ =
            made.ends_
            ∙ (ap (λ (xs : List Ends). ends_of ns ++ xs) (first_and_others rest rest' n.ends some (ends ∙ (first ∙ ap (slice_index_or rest 0) (sym ends))) others)
            ∙ (sym (append_assoc (ends_of ns) (n.ends ∷ []) rest')
            ∙ ap (λ (xs : List Ends). xs ++ rest') (sym (ap ends_of grown ∙ map-append (λ (x : RaceNode C G). x.ends) ns (n ∷ [])))));
      }

  -- the node at a place of the list, as a race sees it
  of_seat : (P : Seat → ℕ → Type 0) (ns : List (RaceNode C G)) → ((i : ℕ) (n : RaceNode C G) → slice_get ns i ≡ Some n → P (seat_of n) i)
      → (i : ℕ) (s : Seat) → slice_get (seats_of ns) i ≡ Some s → P s i
  of_seat P ns h i s e = let p = at_map (λ (n : RaceNode C G). seat_of n) ns i s e in subst (λ (x : Seat). P x i) p.2 (h i p.0 p.1)

  -- all nodes of the scene are made
  pub all_made : (scene : Scene) (all rest : List Ends) (ns : List (RaceNode C G)) → IsScene scene → AreEnds all scene.nodes → AreMade scene scene.nodes all rest ns → AreFresh scene (seats_of ns)
  all_made scene all rest ns limits ends made =
      record {
        limits = limits;
        scenes = of_seat (λ s i. s.scene ≡ scene) ns (λ i n e. (made.fresh i n e).scene_);
        ids = of_seat (λ s i. s.id ≡ record { 0 = suc i }) ns (λ i n e. (made.fresh i n e).id_);
        views = of_seat (λ s i. s.view ≡ opening_view scene) ns (λ i n e. (made.fresh i n e).view_);
        logs = of_seat (λ s i. s.log.node ≡ s.id) ns (λ i n e. (made.fresh i n e).log_);
        entries = of_seat (λ s i. s.log.entries ≡ []) ns (λ i n e. (made.fresh i n e).entries);
        messages = of_seat (λ s i. s.log.messages ≡ []) ns (λ i n e. (made.fresh i n e).messages);
        answers = of_seat (λ s i. s.log.released ≡ []) ns (λ i n e. (made.fresh i n e).answers);
        stamps = of_seat (λ s i. s.stamp ≡ 0) ns (λ i n e. (made.fresh i n e).stamp_);
        ends_ = subst (λ (es : List Ends). AreEnds es scene.nodes) these ends;
      }
    where
      none_left : (xs : List Ends) → length xs ≡ 0 → xs ≡ []
      none_left [] e = refl
      none_left (x ∷ xs) e = absurd (omega (arith, e))

      these : all ≡ map (λ (s : Seat). s.ends) (seats_of ns)
      these =
          let whole : length all ≡ length (ends_of ns) + length rest = ap length made.ends_ ∙ length-append (ends_of ns) rest in
          let same = length-map ns (λ (n : RaceNode C G). n.ends) in
          let none = none_left rest (omega (arith, whole, same, made.long, ends.count)) in
          made.ends_ ∙ (ap (λ (xs : List Ends). ends_of ns ++ xs) none ∙ (append-nil (ends_of ns) ∙ sym (map-map (λ (s : Seat). s.ends) (λ (n : RaceNode C G). seat_of n) ns)))

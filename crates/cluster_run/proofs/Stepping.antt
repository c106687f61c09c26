-- An event at a node as the code does it: a step of the node, with its flags and its journal entry.
use Rattle.std.proofs.Common.{Bool, List, None, Option, Some, [], ap, append-nil, arith, false, inl, inr, length, length-append, map, not, option_map, refl, replicate, slice_get, slice_set, subst, suc, sym, true, zero, ℕ, ◌++◌, ◌+◌, ◌-◌, ◌∙◌, ◌∷◌, ◌≡◌, ◌≤◌}
use Rattle.std.proofs.lemmas.List.{map-set}
use Rattle.std.proofs.lemmas.Option.{slice_get-map}
use Rattle.node_parts.specs.Sending.{OutState}
use Rattle.node_core.specs.Working.{NodeState, Steps, here_of}
use Rattle.partition_map.proofs.Proper.{at_nth}
use Rattle.si_laws.proofs.Stages.LinkedStates.{one_of}
use Rattle.si_laws.proofs.Stages.ParticipantSeats.{of_nth}
use Rattle.cluster_run.specs.Clusters.{ArePlaced, DidAt, HasRoom, IsIdle, PrunedAt, SameNodes, StepsAt, views_of}
use Rattle.str_base.proofs.Lists.{got_set, set_got}
use Rattle.str_base.specs.declared.names.NodeId.{NodeId}
use Rattle.str_model.specs.declared.messages.Input.{Input}
use Rattle.str_model.specs.declared.names.Done.{Done}
use Rattle.str_model.specs.Pruning.{pruned}
use Rattle.str_model.specs.Runs.{World, at_node, step_at, stepped}
use Rattle.str_model.specs.Steps.{count_of, need, step}
use Rattle.str_model.specs.Views.{Doing}
use Rattle.str_scene.specs.declared.names.Event.{Event}
use Rattle.str_scene.specs.Scenes.{Here, Scene, nth}
use Rattle.std.specs.Prelude.{MatchOption}

-- the world of these lists
abbrev pub world_with : List NodeState → OutState → List Bool → List Done → World
world_with ns out flags journal = record { nodes = views_of ns; sent = out.messages; given = flags; journal = journal; answers = out.answers }

-- the journal entry of a step
abbrev pub entry_of : Event → Bool → ℕ → Done
entry_of e moves answers = record { event = e; idle = not moves; answers = answers }

pub nth-map : {A B : Type 0} (f : A → B) (xs : List A) (k : ℕ) → nth (map f xs) k ≡ option_map f (nth xs k)
nth-map f xs zero = refl
nth-map f xs (suc k) = slice_get-map f xs k

-- the place at which the node steps
pub here_is : (scene : Scene) (n : NodeState) (node : NodeId) (i : ℕ) → n.scene ≡ scene → n.id ≡ record { 0 = i + 1 } → node.0 ≡ i + 1 → record { scene = scene; node = node } ≡ here_of n
here_is scene n node i s e q =
    let same : node ≡ record { 0 = i + 1 } = λ j. record { 0 = q j } in
    let id : node ≡ n.id = same ∙ sym e in
    λ j. record { scene = sym s j; node = id j }

-- a node that is put in another's place is placed like that one
pub placed_set : (scene : Scene) (ns : List NodeState) (i : ℕ) (n m : NodeState) → slice_get ns i ≡ Some n → m.scene ≡ n.scene → m.id ≡ n.id → ArePlaced scene ns → ArePlaced scene (slice_set ns i m)
placed_set scene ns i n m g s e h =
    record {
      scene_ = λ j x k. elim (got_set ns i j m x k) [
        | inl p ↦ ap (λ (z : NodeState). z.scene) p.1 ∙ (s ∙ h.scene_ i n g)
        | inr p ↦ h.scene_ j x p.1
      ];
      id = λ j x k. elim (got_set ns i j m x k) [
        | inl p ↦ (let at : i ≡ j = sym p.0 in ap (λ (z : NodeState). z.id) p.1 ∙ (e ∙ (h.id i n g ∙ number i j at)))
        | inr p ↦ h.id j x p.1
      ];
    }
  where
    number : (i j : ℕ) → i ≡ j → (let a : NodeId = record { 0 = i + 1 } in a) ≡ record { 0 = j + 1 }
    number i j q = λ k. record { 0 = q k + 1 }

-- what a node that has taken another's place shows, where it has the same scene, number and view
pub same_set : (ns : List NodeState) (i : ℕ) (n m : NodeState) → slice_get ns i ≡ Some n → m.scene ≡ n.scene → m.id ≡ n.id → m.view ≡ n.view → SameNodes ns (slice_set ns i m)
same_set ns i n m g s e v =
    record {
      views = map-set (λ (z : NodeState). z.view) ns i m ∙ (ap (slice_set (views_of ns) i) v ∙ set_got (views_of ns) i n.view (slice_get-map (λ (z : NodeState). z.view) ns i ∙ ap (option_map (λ (z : NodeState). z.view)) g));
      placed = λ scene h. placed_set scene ns i n m g s e h;
    }

-- what stands after the step, with the new flags and the journal entry
pub record StepShown (scene : Scene) (e : Event) (node : NodeId) (input : Input) (old new : List NodeState) (before after : OutState) (flags : List Bool) (journal : List Done) (moves : Bool) : Type 0 where
  pub placed : ArePlaced scene new
  pub sent : length before.messages ≤ length after.messages
  pub answered : length before.answers ≤ length after.answers
  pub fits : (room : ℕ) → HasRoom room input (nth old node.0) → length after.messages - length before.messages ≤ room
  pub world : world_with new after (flags ++ replicate (length after.messages - length before.messages) false) (journal ++ entry_of e moves (length after.answers - length before.answers) ∷ [])
      ≡ at_node scene e node input (world_with old before flags journal)

pub step_shown : (scene : Scene) (e : Event) (node : NodeId) (input : Input) (old new : List NodeState) (before after : OutState) (flags : List Bool) (journal : List Done) (moves : Bool) → ArePlaced scene old
    → StepsAt input old new (node.0 - 1) (nth old node.0) before after moves → StepShown scene e node input old new before after flags journal moves
unfolding need
step_shown scene e node input old new before after flags journal moves p says = by_node (nth old node.0) refl says
  where
    w : World
    w = world_with old before flags journal

    at : (o : Option NodeState) → nth old node.0 ≡ o → at_node scene e node input w ≡ step_at scene e node input w (option_map (λ (n : NodeState). n.view) o)
    at o q = ap (step_at scene e node input w) (nth-map (λ (n : NodeState). n.view) old node.0 ∙ ap (option_map (λ (n : NodeState). n.view)) q)

    idle : IsIdle old new before after moves → at_node scene e node input w ≡ stepped e 0 w None → StepShown scene e node input old new before after flags journal moves
    idle h k =
        let m : after.messages ≡ before.messages = ap (λ (o : OutState). o.messages) h.out in
        let a : after.answers ≡ before.answers = ap (λ (o : OutState). o.answers) h.out in
        let lm : length after.messages ≡ length before.messages = ap length m in
        let la : length after.answers ≡ length before.answers = ap length a in
        let zm : length after.messages - length before.messages ≡ 0 = omega (arith, lm) in
        let za : length after.answers - length before.answers ≡ 0 = omega (arith, la) in
        let down : not moves ≡ true = ap not h.moves_ in
        let given : flags ++ replicate (length after.messages - length before.messages) false ≡ flags = ap (λ z. flags ++ replicate z false) zm ∙ append-nil flags in
        let path : world_with new after (flags ++ replicate (length after.messages - length before.messages) false) (journal ++ entry_of e moves (length after.answers - length before.answers) ∷ []) ≡ stepped e 0 w None =
        λ j. record { nodes = views_of (h.nodes j); sent = m j; given = given j; journal = journal ++ record { event = e; idle = down j; answers = za j } ∷ []; answers = a j } in
        record {
          placed = subst (ArePlaced scene) (sym h.nodes) p;
          sent = omega (arith, lm);
          answered = omega (arith, la);
          fits = λ room r. omega (arith, zm);
          world = path ∙ sym k;
        }

    by_node : (o : Option NodeState) → nth old node.0 ≡ o → StepsAt input old new (node.0 - 1) o before after moves → StepShown scene e node input old new before after flags journal moves
    by_node None q h = idle h (at None q)
    by_node (Some n) q h = by_step (step (here_of n) input n.view) refl h
      where
        place : (i : ℕ) × (node.0 ≡ i + 1) × (slice_get old i ≡ Some n)
        place = of_nth old node.0 n q

        steps : step (record { scene = scene; node = node }) input n.view ≡ step (here_of n) input n.view
        steps = ap (λ (h : Here). step h input n.view) (here_is scene n node place.0 (p.scene_ place.0 n place.2) (p.id place.0 n place.2) place.1)

        comes : (o : Option Doing) → step (here_of n) input n.view ≡ o → at_node scene e node input w ≡ stepped e (node.0 - 1) w o
        comes o k = at (Some n) q ∙ ap (stepped e (node.0 - 1) w) (steps ∙ k)

        by_step : (o : Option Doing) → step (here_of n) input n.view ≡ o
            → MatchOption o (IsIdle old new before after moves) (λ d. (moves ≡ true) × DidAt old new (node.0 - 1) n before after d)
            → StepShown scene e node input old new before after flags journal moves
        by_step None k h = idle h (comes None k)
        by_step (Some d) k h =
            let m : NodeState = h.1.0 in
            let s : Steps n m before after d = h.1.2 in
            let lm = ap length s.messages ∙ length-append before.messages d.sent in
            let la = ap length s.answers ∙ length-append before.answers d.released in
            let sent : length after.messages - length before.messages ≡ length d.sent = omega (arith, lm) in
            let told : length after.answers - length before.answers ≡ length d.released = omega (arith, la) in
            let up : not moves ≡ false = ap not h.0 in
            let views : views_of new ≡ slice_set (views_of old) (node.0 - 1) d.view =
            ap views_of h.1.1 ∙ (map-set (λ (z : NodeState). z.view) old (node.0 - 1) m ∙ ap (slice_set (views_of old) (node.0 - 1)) s.view) in
            let path : world_with new after (flags ++ replicate (length after.messages - length before.messages) false) (journal ++ entry_of e moves (length after.answers - length before.answers) ∷ []) ≡ stepped e (node.0 - 1) w (Some d) =
            λ j. record { nodes = views j; sent = s.messages j; given = flags ++ replicate (sent j) false; journal = journal ++ record { event = e; idle = up j; answers = told j } ∷ []; answers = s.answers j } in
            record {
              placed = subst (ArePlaced scene) (sym h.1.1) (placed_set scene old (node.0 - 1) n m (at_nth old node.0 n q) s.scene s.id p);
              sent = omega (arith, lm);
              answered = omega (arith, la);
              fits = λ room r. fits room d k (subst (HasRoom room input) q r) (length after.messages - length before.messages) sent;
              world = path ∙ sym (comes (Some d) k);
            }
          where
            fits : (room : ℕ) (d : Doing) → step (here_of n) input n.view ≡ Some d → need (here_of n) input n.view ≤ room → (k : ℕ) → k ≡ length d.sent → k ≤ room
            fits room d k r c q = let a = ap count_of k in omega (arith, r, a, q)

-- a node that has pruned stands in its place
pub pruned_set : (ns : List NodeState) (i g : ℕ) (n m : NodeState) → slice_get ns i ≡ Some n → m.scene ≡ n.scene → m.id ≡ n.id → m.view ≡ pruned g n.view → PrunedAt g i ns (slice_set ns i m)
pruned_set ns i g n m at s e v =
    record {
      views = λ u q.
          let there : slice_get (views_of ns) i ≡ Some n.view = slice_get-map (λ (z : NodeState). z.view) ns i ∙ ap (option_map (λ (z : NodeState). z.view)) at in
          let same : n.view ≡ u = one_of n.view u (slice_get (views_of ns) i) there q in
          map-set (λ (z : NodeState). z.view) ns i m ∙ ap (slice_set (views_of ns) i) (v ∙ ap (pruned g) same);
      placed = λ scene h. placed_set scene ns i n m at s e h;
    }

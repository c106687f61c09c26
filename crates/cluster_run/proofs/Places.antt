-- A node that stands at its place in a list, and takes a step there.
use Rattle.std.proofs.Common.{Bool, List, None, Option, Some, [], ap, arith, false, inl, inr, length, replicate, slice_get, slice_set, subst, sym, true, ℕ, ◌++◌, ◌+◌, ◌-◌, ◌∙◌, ◌∷◌, ◌≡◌, ◌≤◌}
use Rattle.std.specs.Prelude.{Err, IfOk, MatchOption, Ok, Result}
use Rattle.std.proofs.lemmas.List.{map-append, replicate_more}
use Rattle.node_parts.specs.Sending.{OutState}
use Rattle.node_core.specs.Working.{NodeState, SameNode, Steps, here_of}
use Rattle.node_core.proofs.Whole.Readying.{need_same}
use Rattle.cluster_run.specs.Clusters.{ArePlaced, DidAt, HasRoom, IsIdle, IsReady, StepsAt, views_of}
use Rattle.si_laws.proofs.Reasons.CommitsAfter.{place_nth}
use Rattle.str_base.proofs.Lists.{get_set, got_push, set_got}
use Rattle.str_base.specs.declared.names.NodeId.{NodeId}
use Rattle.str_model.specs.declared.messages.Input.{Input}
use Rattle.str_model.specs.Steps.{need, step}
use Rattle.str_model.specs.Views.{Doing}
use Rattle.str_model.specs.Runs.{opening_view}
use Rattle.str_scene.specs.Scenes.{Scene, nth}

-- what holds of both is had of a result
pub ok_both : {X Y : Type 0} (r : Result X Y) (P Q R : X → Type 0) → ((x : X) → P x → Q x → R x) → IfOk r P → IfOk r Q → IfOk r R
ok_both (Ok x) P Q R f p q = f x p q
ok_both (Err e) P Q R f p q = tt

-- the room that a node was given is room for its step where it stands
pub room_at : (ns : List NodeState) (k i : ℕ) (n m : NodeState) (input : Input) (room : ℕ) → k ≡ i + 1 → slice_get ns i ≡ Some n → SameNode n m → need (here_of n) input n.view ≤ room
    → HasRoom room input (nth (slice_set ns i m) k)
room_at ns k i n m input room q g s l =
    let e = need_same n m input s in
    let there : nth (slice_set ns i m) k ≡ Some m = place_nth (slice_set ns i m) k i m q (get_set ns i n m g) in
    let enough : need (here_of m) input m.view ≤ room = omega (arith, e, l) in
    subst (HasRoom room input) (sym there) enough

pub ready_there : (ns : List NodeState) (k i : ℕ) (n m : NodeState) (input : Input) → k ≡ i + 1 → slice_get ns i ≡ Some n → SameNode n m → need (here_of n) input n.view ≤ m.room
    → IsReady input (nth (slice_set ns i m) k)
ready_there ns k i n m input q g s l =
    let e = need_same n m input s in
    let there : nth (slice_set ns i m) k ≡ Some m = place_nth (slice_set ns i m) k i m q (get_set ns i n m g) in
    let enough : need (here_of m) input m.view ≤ m.room = omega (arith, e, l) in
    subst (IsReady input) (sym there) enough

-- the step of the node at the place
pub steps_at : (old : List NodeState) (k i : ℕ) (n m : NodeState) (input : Input) (before after : OutState) (moves : Bool) → k ≡ i + 1 → slice_get old i ≡ Some n
    → MatchOption (step (here_of n) input n.view) ((moves ≡ false) × (m ≡ n) × (after ≡ before)) (λ d. (moves ≡ true) × Steps n m before after d)
    → StepsAt input old (slice_set old i m) (k - 1) (nth old k) before after moves
steps_at old k i n m input before after moves q g says =
    subst (λ o. StepsAt input old (slice_set old i m) (k - 1) o before after moves) (sym (place_nth old k i n q g)) (by_step (step (here_of n) input n.view) says)
  where
    by_step : (o : Option Doing) → MatchOption o ((moves ≡ false) × (m ≡ n) × (after ≡ before)) (λ d. (moves ≡ true) × Steps n m before after d)
        → MatchOption o (IsIdle old (slice_set old i m) before after moves) (λ d. (moves ≡ true) × DidAt old (slice_set old i m) (k - 1) n before after d)
    by_step None h = record { moves_ = h.0; nodes = ap (slice_set old i) h.1 ∙ set_got old i n g; out = h.2 }
    by_step (Some d) h = (h.0, (m, (let at : i ≡ k - 1 = omega (arith, q) in ap (λ z. slice_set old z m) at), h.1))

-- one more node stands at its place
pub placed_more : (scene : Scene) (ns : List NodeState) (n : NodeState) (i : ℕ) → length ns ≡ i → n.scene ≡ scene → n.id ≡ record { 0 = i + 1 } → ArePlaced scene ns → ArePlaced scene (ns ++ n ∷ [])
placed_more scene ns n i l s e h =
    record {
      scene_ = λ j m g. elim (got_push ns j n m g) [
        | inl p ↦ ap (λ (z : NodeState). z.scene) p.1 ∙ s
        | inr p ↦ h.scene_ j m p
      ];
      id = λ j m g. elim (got_push ns j n m g) [
        | inl p ↦ ap (λ (z : NodeState). z.id) p.1 ∙ (e ∙ number j (omega (arith, l, p.0)))
        | inr p ↦ h.id j m p
      ];
    }
  where
    number : (j : ℕ) → i ≡ j → (let a : NodeId = record { 0 = i + 1 } in a) ≡ record { 0 = j + 1 }
    number j q = λ k. record { 0 = q k + 1 }

-- and so the views are those of one more node at the beginning
pub views_more : (scene : Scene) (ns : List NodeState) (n : NodeState) (i : ℕ) → n.view ≡ opening_view scene → views_of ns ≡ replicate i (opening_view scene) → views_of (ns ++ n ∷ []) ≡ replicate (i + 1) (opening_view scene)
views_more scene ns n i v h =
    map-append (λ (z : NodeState). z.view) ns (n ∷ []) ∙ ((λ j. h j ++ v j ∷ []) ∙ replicate_more i (opening_view scene))

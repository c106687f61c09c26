-- What a cluster keeps of its parts holds again after an event, and after one for which memory was wanting.
use Rattle.std.proofs.Common.{Bool, List, None, Option, Some, [], ap, arith, false, length, replicate, slice_set, subst, sym, true, ℕ, ◌++◌, ◌-◌, ◌∙◌, ◌∷◌, ◌≡◌, ◌≤◌}
use Rattle.std.proofs.lemmas.Option.{slice_get_within}
use Rattle.std.proofs.Math.ListN.{length-set}
use Rattle.std.specs.Prelude.{Err, OnErr, OnOk, Ok, Result}
use Rattle.cluster_run.specs.declared.parts.Parts.{Parts}
use Rattle.node_core.specs.Working.{NodeState}
use Rattle.cluster_run.specs.Clusters.{ArePlaced, ClusterState, Comes, HasRoom, IsCluster, IsRun, MayHappen, SameParts, StepsAt, events_of, world_of}
use Rattle.cluster_run.specs.Flags.{FlagState}
use Rattle.cluster_run.proofs.Happening.{deliver_to}
use Rattle.cluster_run.proofs.Stepping.{entry_of, step_shown, world_with}
use Rattle.node_parts.specs.Sending.{OutState}
use Rattle.cluster_run.proofs.RunOf.{answers_few, run_even, run_kept}
use Rattle.si_laws.proofs.Stages.ParticipantSeats.{of_nth}
use Rattle.str_base.specs.declared.names.NodeId.{NodeId}
use Rattle.str_model.specs.declared.messages.Input.{Input}
use Rattle.str_model.specs.declared.messages.Input.TheVariants.{Deliver}
use Rattle.str_model.specs.declared.messages.Message.{Message}
use Rattle.str_model.specs.Runs.{World, at_node, give, happens, run}
use Rattle.str_scene.specs.declared.names.Event.{Event}
use Rattle.str_scene.specs.declared.names.Event.TheVariants.{Deliver as DeliverEvent}
use Rattle.str_scene.specs.SceneLimits.{IsScene}
use Rattle.str_scene.specs.Scenes.{Scene, nth}

-- parts whose world is a run's are a cluster's
pub comes_run : (w : World) (old new : Parts) → IsCluster old → IsRun old.scene w → Comes w old new → IsCluster new
comes_run w old new is r c =
    record {
      limits = subst IsScene (sym c.scene_) is.limits;
      placed = c.placed;
      run_ = subst (λ (v : World). v ≡ run new.scene (events_of v.journal)) (sym c.world) (subst (λ (s : Scene). w ≡ run s (events_of w.journal)) (sym c.scene_) r);
    }

-- so they are after an event, whether it was done or not
pub event_keeps : {X E : Type 0} (r : Result X E) (old new : Parts) (e : Event) → IsCluster old → OnOk r (Comes (happens old.scene (world_of old) e) old new) → OnErr r (Comes (world_of old) old new) → IsCluster new
event_keeps (Ok x) old new e is ok err = comes_run (happens old.scene (world_of old) e) old new is (run_kept old.scene (world_of old) e is.run_) ok
event_keeps (Err x) old new e is ok err = comes_run (world_of old) old new is is.run_ err

-- an event may happen to a cluster
pub may_happen : (p : Parts) (e : Event) → IsCluster p → MayHappen p e
may_happen p e is =
    record {
      placed = is.placed;
      even = run_even p.scene (world_of p) is.run_;
      few = answers_few p.scene (happens p.scene (world_of p) e) is.limits (run_kept p.scene (world_of p) e is.run_);
    }

-- and so where there was room made
pub may_still : (old mid : Parts) (e : Event) → MayHappen old e → SameParts old mid → MayHappen mid e
may_still old mid e may same =
    record {
      placed = subst (λ (s : Scene). ArePlaced s mid.nodes.items) (sym same.scene_) (same.placed old.scene may.placed);
      even = ap (λ (w : World). length w.given) same.world ∙ (may.even ∙ sym (ap (λ (w : World). length w.sent) same.world));
      few = (let a : length (happens mid.scene (world_of mid) e).answers ≡ length (happens old.scene (world_of old) e).answers = λ j. length (happens (same.scene_ j) (same.world j) e).answers in
          let f = may.few in omega (arith, a, f));
    }

-- what a cluster shows then
abbrev pub shown : Parts → ClusterState
shown p = record { scene = p.scene; world = world_of p }

pub same_scene : {X E : Type 0} (r : Result X E) (old new : Parts) (w v : World) → OnOk r (Comes w old new) → OnErr r (Comes v old new) → new.scene ≡ old.scene
same_scene (Ok x) old new w v ok err = ok.scene_
same_scene (Err x) old new w v ok err = err.scene_

pub comes_world : {X E : Type 0} (r : Result X E) (old new : Parts) (w : World) → OnOk r (Comes w old new) → OnOk r (world_of new ≡ w)
comes_world (Ok x) old new w ok = ok.world
comes_world (Err x) old new w ok = tt

pub comes_back : {X E : Type 0} (r : Result X E) (old new : Parts) → OnErr r (Comes (world_of old) old new) → OnErr r (shown new ≡ shown old)
comes_back (Ok x) old new err = tt
comes_back (Err x) old new err = λ j. record { scene = err.scene_ j; world = err.world j }

-- ---- before and after a step

-- the parts are ready for the step by an event, which comes to what the event is
pub record StepReady (old mid : Parts) (e : Event) (node : NodeId) (input : Input) : Type 0 where
  pub placed : ArePlaced mid.scene mid.nodes.items
  pub even : length mid.given.flags ≡ length mid.out.messages
  pub few : length (at_node mid.scene e node input (world_of mid)).answers ≤ 1024
  pub is : at_node mid.scene e node input (world_of mid) ≡ happens old.scene (world_of old) e

pub step_ready : (old mid : Parts) (v : World) (e : Event) (node : NodeId) (input : Input) → MayHappen old e → mid.scene ≡ old.scene → ArePlaced mid.scene mid.nodes.items → world_of mid ≡ v → length v.given ≡ length v.sent
    → happens old.scene (world_of old) e ≡ at_node old.scene e node input v → StepReady old mid e node input
step_ready old mid v e node input is s p w even h =
    let path : at_node mid.scene e node input (world_of mid) ≡ at_node old.scene e node input v = λ j. at_node (s j) e node input (w j) in
    let same : at_node mid.scene e node input (world_of mid) ≡ happens old.scene (world_of old) e = path ∙ sym h in
    let few = is.few in
    record {
      placed = p;
      even = ap (λ (x : World). length x.given) w ∙ (even ∙ sym (ap (λ (x : World). length x.sent) w));
      few = (let a = ap (λ (x : World). length x.answers) same in omega (arith, few, a));
      is = same;
    }

-- what makes room leaves the parts ready for a step by an event of this kind
pub room_ready : (old mid : Parts) (e : Event) (node : NodeId) (input : Input) → MayHappen old e → SameParts old mid → happens old.scene (world_of old) e ≡ at_node old.scene e node input (world_of old) → StepReady old mid e node input
room_ready old mid e node input is same h =
    step_ready old mid (world_of old) e node input is same.scene_ (subst (λ (s : Scene). ArePlaced s mid.nodes.items) (sym same.scene_) (same.placed old.scene is.placed)) same.world is.even h

-- the step done, the event has happened
pub step_comes : (old mid new : Parts) (e : Event) (node : NodeId) (input : Input) → mid.scene ≡ old.scene → StepReady old mid e node input → Comes (at_node mid.scene e node input (world_of mid)) mid new → Comes (happens old.scene (world_of old) e) old new
step_comes old mid new e node input s r c = record { scene_ = c.scene_ ∙ s; placed = c.placed; world = c.world ∙ r.is }

-- the parts after a step of the node, with a flag for each message that it sent and a journal entry for the answers that it released
pub step_done : (e : Event) (node : NodeId) (input : Input) (old new : Parts) (moves : Bool) (sent answers : ℕ) → ArePlaced old.scene old.nodes.items → new.scene ≡ old.scene
    → StepsAt input old.nodes.items new.nodes.items (node.0 - 1) (nth old.nodes.items node.0) old.out new.out moves
    → sent ≡ length new.out.messages - length old.out.messages → answers ≡ length new.out.answers - length old.out.answers
    → new.given.flags ≡ old.given.flags ++ replicate sent false → new.journal.items ≡ old.journal.items ++ entry_of e moves answers ∷ []
    → Comes (at_node old.scene e node input (world_of old)) old new
step_done e node input old new moves sent answers p same says m a flags journal =
    let shown = step_shown old.scene e node input old.nodes.items new.nodes.items old.out new.out old.given.flags old.journal.items moves p says in
    let given : new.given.flags ≡ old.given.flags ++ replicate (length new.out.messages - length old.out.messages) false = flags ∙ ap (λ z. old.given.flags ++ replicate z false) m in
    let entries : new.journal.items ≡ old.journal.items ++ entry_of e moves (length new.out.answers - length old.out.answers) ∷ [] = journal ∙ ap (λ z. old.journal.items ++ entry_of e moves z ∷ []) a in
    let now : world_of new ≡ world_with new.nodes.items new.out (old.given.flags ++ replicate (length new.out.messages - length old.out.messages) false)
    (old.journal.items ++ entry_of e moves (length new.out.answers - length old.out.answers) ∷ []) = λ j. record (world_of new) { given = given j; journal = entries j } in
    record {
      scene_ = same;
      placed = subst (λ (s : Scene). ArePlaced s new.nodes.items) (sym same) shown.placed;
      world = now ∙ shown.world;
    }

-- the flags of the messages that a step sent fit where there is room for the step
pub flags_fit : (e : Event) (node : NodeId) (input : Input) (old : Parts) (ns : List NodeState) (after : OutState) (moves : Bool) (room : ℕ) → ArePlaced old.scene old.nodes.items
    → StepsAt input old.nodes.items ns (node.0 - 1) (nth old.nodes.items node.0) old.out after moves → HasRoom room input (nth old.nodes.items node.0)
    → length after.messages - length old.out.messages ≤ room
flags_fit e node input old ns after moves room p says r =
    (step_shown old.scene e node input old.nodes.items ns old.out after old.given.flags old.journal.items moves p says).fits room r

-- a step releases no more answers than the world has after it
pub answers_fit : (e : Event) (node : NodeId) (input : Input) (old : Parts) (ns : List NodeState) (after : OutState) (moves : Bool) → ArePlaced old.scene old.nodes.items
    → StepsAt input old.nodes.items ns (node.0 - 1) (nth old.nodes.items node.0) old.out after moves → length after.answers ≡ length (at_node old.scene e node input (world_of old)).answers
answers_fit e node input old ns after moves p says =
    ap (λ (w : World). length w.answers) (step_shown old.scene e node input old.nodes.items ns old.out after old.given.flags old.journal.items moves p says).world

-- room for a step is room for it where there is more
pub more_room : (a b : ℕ) (input : Input) (o : Option NodeState) → a ≤ b → HasRoom a input o → HasRoom b input o
more_room a b input None l h = tt
more_room a b input (Some n) l h = omega (arith, l, h)

-- a message that was sent has a flag
pub sent_flag : (old : Parts) (i : ℕ) (m : Message) → MayHappen old (DeliverEvent i) → Some m ≡ nth old.out.messages i → (1 ≤ i) × (i ≤ length old.given.flags)
sent_flag old i m is e =
    let p = of_nth old.out.messages i m (sym e) in
    let l = slice_get_within old.out.messages p.0 m p.2 in
    let even = is.even in (omega (arith, p.1), omega (arith, p.1, l, even))

-- the parts with a message given are ready for the step by its delivery
pub given_ready : (old made : Parts) (flags : FlagState) (i : ℕ) (m : Message) → MayHappen old (DeliverEvent i) → SameParts old made → flags.flags ≡ slice_set made.given.flags (i - 1) true → Some m ≡ nth old.out.messages i
    → StepReady old (record made { given = flags }) (DeliverEvent i) m.receiver (Deliver m)
given_ready old made flags i m is same f e =
    let raised : world_of (record made { given = flags }) ≡ give i (world_of made) = λ j. record (world_of made) { given = f j } in
    let w : world_of (record made { given = flags }) ≡ give i (world_of old) = raised ∙ ap (give i) same.world in
    let even : length (slice_set old.given.flags (i - 1) true) ≡ length old.out.messages = length-set old.given.flags (i - 1) true ∙ is.even in
    step_ready old (record made { given = flags }) (give i (world_of old)) (DeliverEvent i) m.receiver (Deliver m) is same.scene_
    (subst (λ (s : Scene). ArePlaced s made.nodes.items) (sym same.scene_) (same.placed old.scene is.placed)) w even (deliver_to old.scene (world_of old) i m e)

-- What the rounds leave: the nodes at their places, and the logs of a race.
use Rattle.std.proofs.Common.{List, Some, ap, arith, map, slice_get, subst, suc, sym, ℕ, ◌+◌, ◌∙◌, ◌≡◌, ◌≤◌}
use Rattle.cluster_run.specs.Clusters.{ArePlaced, views_of as node_views}
use Rattle.commit_gate.proofs.Gating.{at_map}
use Rattle.lamport_log.specs.Closed.{Closed}
use Rattle.lamport_log.specs.Logs.{Log}
use Rattle.lamport_log.specs.Replays.{AllReplay, AreLogs}
use Rattle.lamport_log.specs.Rounds.{Rounds}
use Rattle.node_core.specs.Working.{NodeState}
use Rattle.race_round.proofs.Places.{get_map}
use Rattle.race_round.proofs.RaceBegins.{race_begins, race_stands}
use Rattle.race_round.specs.Nodes.{CanGoOn, HasGoneOn, seat_of, seats_of}
use Rattle.race_round.specs.Races.{AreFresh, IsRace, logs_of, views_of}
use Rattle.race_round.specs.Seats.{Seat}
use Rattle.race_round.specs.declared.nodes.RaceNode.{RaceNode}
use Rattle.std.proofs.lemmas.Simd.{map-map}
use Rattle.str_model.specs.Views.{View}
use Rattle.str_scene.specs.Scenes.{Scene}
use Rattle.strrace.specs.RaceRuns.{AreRaceLogs}

module _ {C G : Type 0} where
  -- fresh nodes can make so many rounds
  pub can_begin : (scene : Scene) (ns : List (RaceNode C G)) (count : ℕ) → AreFresh scene (seats_of ns) → count ≤ 256 → CanGoOn count ns
  can_begin scene ns count fresh few = (scene, 0, race_begins scene (seats_of ns) fresh, omega (arith, few))

  -- and are then those of a race of so many rounds
  pub have_raced : (scene : Scene) (ns ms : List (RaceNode C G)) (count : ℕ) → AreFresh scene (seats_of ns) → count ≤ 256 → HasGoneOn count ns ms → IsRace scene count (seats_of ms)
  have_raced scene ns ms count fresh few gone =
      subst (λ (k : ℕ). IsRace scene k (seats_of ms)) (omega arith) (gone scene 0 (race_begins scene (seats_of ns) fresh) (omega (arith, few)))

  -- ---- the nodes and the logs by themselves

  module _ (scene : Scene) (count : ℕ) (ns : List (RaceNode C G)) (race : IsRace scene count (seats_of ns)) (nodes : List NodeState) (logs : List Log)
      (nodes_are : nodes ≡ map (λ (n : RaceNode C G). n.node) ns) (logs_are : logs ≡ map (λ (n : RaceNode C G). n.log) ns) where
    same_logs : logs_of (seats_of ns) ≡ logs
    same_logs = map-map (λ (s : Seat). s.log) (λ (n : RaceNode C G). seat_of n) ns ∙ sym logs_are

    same_views : views_of (seats_of ns) ≡ node_views nodes
    same_views =
        map-map (λ (s : Seat). s.view) (λ (n : RaceNode C G). seat_of n) ns
        ∙ (sym (map-map (λ (m : NodeState). m.view) (λ (n : RaceNode C G). n.node) ns) ∙ ap node_views (sym nodes_are))

    pub placed : ArePlaced scene nodes
    placed = subst (ArePlaced scene) (sym nodes_are) (record { scene_ = λ i m e. (at_place i m e).0; id = λ i m e. (at_place i m e).1 })
      where
        at_place : (i : ℕ) (m : NodeState) → slice_get (map (λ (n : RaceNode C G). n.node) ns) i ≡ Some m → (m.scene ≡ scene) × (m.id ≡ record { 0 = i + 1 })
        at_place i m e =
            let p = at_map (λ (n : RaceNode C G). n.node) ns i m e in
            let is = race.placed i (seat_of p.0) (get_map (λ (n : RaceNode C G). seat_of n) ns i p.0 p.1) in
            let number : suc i ≡ i + 1 = omega arith in
            subst (λ (x : NodeState). (x.scene ≡ scene) × (x.id ≡ record { 0 = i + 1 })) p.2 (is.scene_, is.id_ ∙ (λ j. record { 0 = number j }))

    pub logs_stand : AreLogs scene logs
    logs_stand = subst (AreLogs scene) same_logs (race_stands scene count (seats_of ns) race).are

    pub logs_replay : AllReplay scene logs (node_views nodes)
    logs_replay =
        subst (λ (ls : List Log). AllReplay scene ls (node_views nodes)) same_logs
        (subst (λ (vs : List View). AllReplay scene (logs_of (seats_of ns)) vs) same_views (race_stands scene count (seats_of ns) race).replay)

    pub logs_closed : Closed logs
    logs_closed = subst Closed same_logs (race_stands scene count (seats_of ns) race).closed

    pub race_logs : AreRaceLogs scene count logs
    race_logs = record {
      are = logs_stand;
      views = node_views nodes;
      replay = logs_replay;
      closed = logs_closed;
      rounds = subst (λ (ls : List Log). Rounds scene ls count) same_logs race.rounds;
    }

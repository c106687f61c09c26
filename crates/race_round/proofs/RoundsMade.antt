-- A round of all nodes, and several of them.
use Rattle.std.proofs.Common.{◌≡◌, ◌<◌, ◌+◌, ◌++◌, ◌∙◌, ℕ, Bool, true, false, List, [], Option, Some, ap, append-nil, append_assoc, arith, length, refl, slice_get, slice_index_or, subst, suc, sym}
use Rattle.lamport_log.specs.declared.logs.LogEntry.{LogEntry}
use Rattle.race_round.proofs.ClientSteps.{gave_none, gave_on, readings_append, since_grown}
use Rattle.race_round.proofs.LogsReplay.{before, turn_is}
use Rattle.commit_gate.proofs.Gating.{at_map}
use Rattle.race_round.proofs.Places.{beside}
use Rattle.race_round.proofs.RaceBegins.{race_stands}
use Rattle.race_round.proofs.RaceGoesOn.{order, race_now, still_holds, whole}
use Rattle.race_round.proofs.SeatsSettled.{all_settled, node_there, seat_there, turned_meet, turns_are, turns_told}
use Rattle.race_round.specs.Nodes.{AreReadings, CanGoOn, HasGoneOn, StillHolds, Went, seat_of, seats_of}
use Rattle.race_round.specs.Races.{AllSettled, IsRace, Turns}
use Rattle.race_round.specs.Seats.{Seat}
use Rattle.race_round.specs.Settling.{AreMet, EverySettled}
use Rattle.race_round.specs.Turns.{Gave, readings_since}
use Rattle.race_round.specs.declared.nodes.RaceNode.{RaceNode}
use Rattle.std.proofs.lemmas.Option.{get_or_from_slice_get, slice_get_within}
use Rattle.std.specs.List.{list_any}
use Rattle.str_base.proofs.Lists.{fails_at}
use Rattle.str_base.specs.declared.names.NodeId.{NodeId}
use Rattle.str_scene.specs.Scenes.{Scene}

module _ {C G : Type 0} (given : C → Option (List ℕ)) (ns ms os : List (RaceNode C G)) (len : length ms ≡ length ns)
    (went : (i : ℕ) (d : RaceNode C G) → i < length ns → Went given (slice_index_or ns i d) (slice_index_or ms i d)) where
  abbrev turned : Turns (seats_of ns) (seats_of ms)
  turned = turns_are given ns ms len went

  -- the nodes can be settled
  pub can_settle_all : CanGoOn 1 ns → AreMet ms
  can_settle_all race = turned_meet race.0 race.1 ns ms race.2 turned

  module _ (ok : Bool) (settled : EverySettled ok ms os) where
    ids : (scene : Scene) (done : ℕ) → IsRace scene done (seats_of ns) → (i : ℕ) (d : RaceNode C G) → i < length ms → ◌≡◌ {A = NodeId} (slice_index_or ms i d).node.id (record { 0 = suc i })
    ids scene done race i d h =
        let em = seat_there ms i d h in
        let n = beside (seats_of ms) (seats_of ns) i (seat_of (slice_index_or ms i d)) (sym turned.count) em in
        let t = turned.turn i n.0 (seat_of (slice_index_or ms i d)) n.1 em in
        t.stretch.id_ ∙ (race.placed i n.0 n.1).id_

    all : (scene : Scene) (done : ℕ) → IsRace scene done (seats_of ns) → AllSettled ok (seats_of ms) (seats_of os)
    all scene done race = all_settled ok ms os (ids scene done race) settled

    -- whatever was refused
    pub round_holds : StillHolds 1 ns os
    round_holds scene done race bound = still_holds scene done (seats_of ns) (seats_of ms) (seats_of os) ok race turned (all scene done race)

    -- where no growth was refused
    module _ (good : ok ≡ true) (calm : list_any (λ (n : RaceNode C G). n.wanting) os ≡ false) where
      calm_at : (i : ℕ) (m : Seat) → slice_get (seats_of ms) i ≡ Some m → m.wanting ≡ false
      calm_at i m em =
          let p = at_map (λ (n : RaceNode C G). seat_of n) ms i m em in
          let d = p.0 in
          let w = slice_get_within ms i p.0 p.1 in
          let is : slice_index_or ms i d ≡ p.0 = get_or_from_slice_get ms i p.0 d p.1 in
          let there = node_there os i d (let c = settled.count in omega (arith, w, c)) in
          let no : (slice_index_or os i d).wanting ≡ false = fails_at (λ (n : RaceNode C G). n.wanting) os i (slice_index_or os i d) calm there in
          sym (ap (λ (x : Seat). x.wanting) p.2)
          ∙ (sym (ap (λ (x : RaceNode C G). x.wanting) is)
          ∙ (sym (ap (λ (x : RaceNode C G). x.wanting) (settled.each i d w).same) ∙ no))

      pub round_goes_on : HasGoneOn 1 ns os
      round_goes_on scene done race bound =
          race_now scene done (seats_of ns) (seats_of ms) (seats_of os) ok race turned (all scene done race) good (omega (arith, bound)) calm_at

      pub round_readings : CanGoOn 1 ns → AreReadings given ns os
      round_readings race = (
        settled.count ∙ len,
        λ i d h.
            let scene = race.0 in
            let done = race.1 in
            let within : i < length ms = omega (arith, h, len) in
            let m = seat_of (slice_index_or ms i d) in
            let em = seat_there ms i d within in
            let settled_all = all scene done race.2 in
            let in_order = order scene done (seats_of ns) (seats_of ms) (seats_of os) ok race.2 turned settled_all in
            let b = before scene done (seats_of ns) (seats_of ms) race.2 turned in_order i m em in
            let w : b.turn.whole ≡ true = whole scene done (seats_of ns) (seats_of ms) (seats_of os) ok race.2 turned settled_all good (let x = race.3 in omega (arith, x)) calm_at i m em in
            let u = sym (turn_is scene done (seats_of ns) (seats_of ms) race.2 turned in_order i m em) ∙ w in
            let g = turns_told given ns ms len went i b.seat m b.there em u d in
            let same = (settled.each i d within).same in
            record {
              joined = g.joined;
              grown = ap (λ (x : RaceNode C G). x.log.entries) same ∙ g.grown;
              gave =
                  subst (λ (x : RaceNode C G). Gave (given (slice_index_or ns i d).clock) (given x.clock) (readings_since (slice_index_or ns i d).log x.log)) (sym same) g.gave;
            },
      )

-- ---- several rounds

module _ {C G : Type 0} where
  pub none_gone : (ns : List (RaceNode C G)) → HasGoneOn 0 ns ns
  none_gone ns scene done race bound = let e : done ≡ done + 0 = omega arith in subst (λ (x : ℕ). IsRace scene x (seats_of ns)) e race

  pub gone_end : (j k : ℕ) (ns ms : List (RaceNode C G)) → j ≡ k → HasGoneOn j ns ms → HasGoneOn k ns ms
  gone_end j k ns ms e a = subst (λ (x : ℕ). HasGoneOn x ns ms) e a

  pub gone_on : (j k : ℕ) (ns ms os : List (RaceNode C G)) → HasGoneOn j ns ms → HasGoneOn k ms os → HasGoneOn (j + k) ns os
  gone_on j k ns ms os a b scene done race bound =
      let e : (done + j) + k ≡ done + (j + k) = omega arith in
      subst (λ (x : ℕ). IsRace scene x (seats_of os)) e (b scene (done + j) (a scene done race (omega (arith, bound))) (omega (arith, bound)))

  pub can_still : (count j : ℕ) (ns ms : List (RaceNode C G)) → CanGoOn count ns → HasGoneOn j ns ms → j < count → CanGoOn 1 ms
  can_still count j ns ms race gone less =
      let b = race.3 in
      (race.0, race.1 + j, gone race.0 race.1 race.2 (omega (arith, b, less)), omega (arith, b, less))

  -- a round that was broken off after others
  pub holds_after : (count j : ℕ) (ns ms os : List (RaceNode C G)) → j < count → HasGoneOn j ns ms → StillHolds 1 ms os → StillHolds count ns os
  holds_after count j ns ms os less a b scene done race bound = b scene (done + j) (a scene done race (omega (arith, bound, less))) (omega (arith, bound, less))

  pub holds_whole : (count : ℕ) (ns os : List (RaceNode C G)) → HasGoneOn count ns os → StillHolds count ns os
  holds_whole count ns os a scene done race bound = race_stands scene (done + count) (seats_of os) (a scene done race bound)

  pub none_read : (given : C → Option (List ℕ)) (ns : List (RaceNode C G)) → AreReadings given ns ns
  none_read given ns = (
    refl,
    λ i d h.
        let n = slice_index_or ns i d in
        let same : n.log.entries ≡ n.log.entries ++ [] = sym (append-nil n.log.entries) in
        record {
          joined = [];
          grown = same;
          gave = subst (λ (l : List ℕ). Gave (given n.clock) (given n.clock) l) (sym (since_grown n.log n.log [] same)) (gave_none (given n.clock));
        },
  )

  pub read_on : (given : C → Option (List ℕ)) (ns ms os : List (RaceNode C G)) → AreReadings given ns ms → AreReadings given ms os → AreReadings given ns os
  read_on given ns ms os a b = (
    b.0 ∙ a.0,
    λ i d h.
        let n = slice_index_or ns i d in
        let m = slice_index_or ms i d in
        let o = slice_index_or os i d in
        let f = a.1 i d h in
        let g = b.1 i d (let l = a.0 in omega (arith, h, l)) in
        let grown : o.log.entries ≡ n.log.entries ++ (f.joined ++ g.joined) = g.grown ∙ (ap (λ (l : List LogEntry). l ++ g.joined) f.grown ∙ append_assoc n.log.entries f.joined g.joined) in
        let parts : readings_since n.log o.log ≡ readings_since n.log m.log ++ readings_since m.log o.log =
        since_grown n.log o.log (f.joined ++ g.joined) grown
        ∙ (readings_append f.joined g.joined
        ∙ sym (λ j. since_grown n.log m.log f.joined f.grown j ++ since_grown m.log o.log g.joined g.grown j)) in
        record {
          joined = f.joined ++ g.joined;
          grown = grown;
          gave =
              subst (λ (l : List ℕ). Gave (given n.clock) (given o.clock) l) (sym parts)
              (gave_on (given n.clock) (given m.clock) (given o.clock) (readings_since n.log m.log) (readings_since m.log o.log) f.gave g.gave);
        },
  )

-- After a round and its settling the nodes are those of a race, with one round more where all turns were whole.
use Rattle.std.proofs.Common.{◌≡◌, ◌≢◌, ◌≤◌, ◌<◌, ◌+◌, ◌*◌, ◌++◌, ◌∙◌, ◌∷◌, ℕ, Bool, true, false, List, [], Some, ap, arith, inl, inr, length, map, refl, slice_get, subst, suc, sym}
use Rattle.lamport_log.specs.Closed.{Closed, sent_to, taken_from}
use Rattle.lamport_log.specs.Logs.{Log, messages_in}
use Rattle.lamport_log.specs.Replays.{AllReplay, AreLogs}
use Rattle.lamport_log.specs.Rounds.{Rounds}
use Rattle.lamport_log.specs.declared.logs.LogEntry.{LogEntry}
use Rattle.race_round.proofs.LinkMoves.{moves_same}
use Rattle.race_round.proofs.LogsReplay.{before, reached_at, still_now}
use Rattle.race_round.proofs.Places.{beside, other_place}
use Rattle.race_round.proofs.RoundsGrow.{rounds_now}
use Rattle.race_round.proofs.Sequences.{last_on}
use Rattle.race_round.proofs.WholeTurns.{few_now, turn_whole}
use Rattle.race_round.specs.Races.{AllSettled, IsPair, IsPlaced, IsRace, Reaches, SameSeat, SettledPair, StillReplay, Turns, logs_of, most_entries, views_of}
use Rattle.race_round.specs.Seats.{IsSent, Seat, last_stamp, numbers}
use Rattle.race_round.specs.Stretches.{Logged, entries_in}
use Rattle.ring_links.proofs.Flowing.{arrival_holds, flow_holds}
use Rattle.ring_links.proofs.Meeting.{linked_on, same_on}
use Rattle.ring_links.specs.Ends.{link_to}
use Rattle.ring_links.specs.Flows.{Flows, under_way}
use Rattle.ring_links.specs.Links.{AreLinked, InOrder, SameLink, arrived}
use Rattle.ring_links.specs.declared.link.Link.{Link}
use Rattle.std.specs.List.{sum_by}
use Rattle.str_base.proofs.Members.{in_append}
use Rattle.str_base.specs.Members.{In}
use Rattle.str_base.specs.declared.names.NodeId.{NodeId}
use Rattle.str_model.specs.Views.{View}
use Rattle.str_model.specs.declared.messages.Message.{Message}
use Rattle.str_scene.specs.Scenes.{Scene}

-- two lists that are alike at each place, as far as a function sees
same_map : {A B : Type 0} (f : A → B) (xs ys : List A) → length ys ≡ length xs → ((i : ℕ) (x y : A) → slice_get xs i ≡ Some x → slice_get ys i ≡ Some y → f y ≡ f x) → map f ys ≡ map f xs
same_map f [] [] len h = refl
same_map f [] (y ∷ ys) len h = absurd (omega (arith, len))
same_map f (x ∷ xs) [] len h = absurd (omega (arith, len))
same_map f (x ∷ xs) (y ∷ ys) len h =
    let rest = same_map f xs ys (omega (arith, len)) (λ i a b p q. h (suc i) a b p q) in
    λ j. h 0 x y refl refl j ∷ rest j

module _ (scene : Scene) (done : ℕ) (ns ms os : List Seat) (ok : Bool) (race : IsRace scene done ns) (turns : Turns ns ms) (settled : AllSettled ok ms os) where
  same_logs : logs_of os ≡ logs_of ms
  same_logs = same_map (λ (n : Seat). n.log) ms os settled.count (λ i m o em eo. (settled.same i m o em eo).log_)

  same_views : views_of os ≡ views_of ms
  same_views = same_map (λ (n : Seat). n.view) ms os settled.count (λ i m o em eo. (settled.same i m o em eo).view_)

  pub order : (i j : ℕ) (a b : Seat) → slice_get ms i ≡ Some a → slice_get ms j ≡ Some b → i ≢ j → (d : Link) → InOrder (link_to a.ends b.id.0 d) (link_to b.ends a.id.0 d)
  order i j a b ea eb apart d =
      let a' = beside ms os i a settled.count ea in
      let b' = beside ms os j b settled.count eb in
      (settled.pairs i j a b a'.0 b'.0 ea eb a'.1 b'.1 apart).order d

  -- whatever was refused
  pub still_holds : StillReplay scene os
  still_holds =
      let s = still_now scene done ns ms race turns order in
      record {
        are = subst (λ (l : List Log). AreLogs scene l) (sym same_logs) s.are;
        replay = subst (λ (l : List Log). AllReplay scene l (views_of os)) (sym same_logs) (subst (λ (v : List View). AllReplay scene (logs_of ms) v) (sym same_views) s.replay);
        closed = subst (λ (l : List Log). Closed l) (sym same_logs) s.closed;
      }

  -- ---- where nothing was refused

  module _ (all : ok ≡ true) (bound : done < 256) (calm : (i : ℕ) (m : Seat) → slice_get ms i ≡ Some m → m.wanting ≡ false) where
    pub whole : (i : ℕ) (m : Seat) → (em : slice_get ms i ≡ Some m) → (before scene done ns ms race turns order i m em).turn.whole ≡ true
    whole i m em = turn_whole scene done ns ms race turns order bound i m em (calm i m em)

    placed_now : (i : ℕ) (o : Seat) → slice_get os i ≡ Some o → IsPlaced scene (done + 1) i o
    placed_now i o eo =
        let m = beside os ms i o (sym settled.count) eo in
        let s = settled.same i m.0 o m.1 eo in
        let b = before scene done ns ms race turns order i m.0 m.1 in
        let t = b.turn.stretch in
        let last : m.0.stamp ≡ last_stamp 0 m.0.log.entries =
        t.last
        ∙ (ap (λ (x : ℕ). last_stamp x (entries_in (b.turn.taken ++ b.turn.moved))) b.placed.stamp_
        ∙ (sym (last_on 0 b.seat.log.entries (entries_in (b.turn.taken ++ b.turn.moved)))
        ∙ ap (λ (l : List LogEntry). last_stamp 0 l) (sym t.entries))) in
        record {
          scene_ = s.scene_ ∙ (t.scene_ ∙ b.placed.scene_);
          id_ = s.id_ ∙ (t.id_ ∙ b.placed.id_);
          seat = record {
            log_ = ap (λ (l : Log). l.node) s.log_ ∙ (t.seat.log_ ∙ sym s.id_);
            ends_ = s.node_ ∙ (t.seat.ends_ ∙ ap (λ (x : NodeId). x.0) (sym s.id_));
            width = ap (λ (x : ℕ). x + 1) s.width ∙ (t.seat.width ∙ ap (λ (x : Scene). x.nodes) (sym s.scene_));
            counted = subst (λ (l : Log). sum_by (λ (e : LogEntry). e.sent) l.entries ≡ length l.messages) (sym s.log_) t.seat.counted;
            number = subst (λ (x : NodeId). 1 ≤ x.0) (sym s.id_) t.seat.number;
            most = subst (λ (x : NodeId). x.0 ≤ o.scene.nodes) (sym s.id_) (subst (λ (x : Scene). m.0.id.0 ≤ x.nodes) (sym s.scene_) t.seat.most);
          };
          stamp_ = s.stamp_ ∙ (last ∙ ap (λ (l : Log). last_stamp 0 l.entries) (sym s.log_));
          few = subst (λ (l : Log). length l.entries ≤ (done + 1) * most_entries scene) (sym s.log_) (few_now scene done ns ms race turns order i m.0 m.1);
          away = λ x h q.
              let at : In x (b.seat.log.messages ++ messages_in (b.turn.taken ++ b.turn.moved)) = subst (λ (l : List Message). In x l) (ap (λ (l : Log). l.messages) s.log_ ∙ t.messages) h in
              let own : x.receiver ≡ b.seat.id = q ∙ (s.id_ ∙ t.id_) in
              elim (in_append b.seat.log.messages (messages_in (b.turn.taken ++ b.turn.moved)) x at) [
                | inl k ↦ b.placed.away x k own
                | inr k ↦ t.away (whole i m.0 m.1) x k own
              ];
        }

    module _ (i j : ℕ) (a b a' b' : Seat) (ea : slice_get ms i ≡ Some a) (eb : slice_get ms j ≡ Some b) (ea' : slice_get os i ≡ Some a') (eb' : slice_get os j ≡ Some b') (apart : i ≢ j) where
      sa : SameSeat a a'
      sa = settled.same i a a' ea ea'

      sb : SameSeat b b'
      sb = settled.same j b b' eb eb'

      pair : SettledPair ok a b a' b'
      pair = settled.pairs i j a b a' b' ea eb ea' eb' apart

      -- the link of a to b is of the same rings as before the round
      same_link : (d : Link) → SameLink (link_to (before scene done ns ms race turns order i a ea).seat.ends (suc j) d) (link_to a'.ends (suc j) d)
      same_link d =
          let p = before scene done ns ms race turns order i a ea in
          let q = before scene done ns ms race turns order j b eb in
          let o = other_place scene done i p.seat p.placed p.within j apart q.within in
          let id : b.id ≡ record { 0 = suc j } = q.turn.stretch.id_ ∙ q.placed.id_ in
          same_on (link_to p.seat.ends (suc j) d) (link_to a.ends (suc j) d) (link_to a'.ends (suc j) d)
          (moves_same (p.turn.moves (suc j)) (link_to p.seat.ends (suc j) d) (link_to a.ends (suc j) d) (p.turn.stretch.moved.links_ (suc j) d o))
          (subst (λ (x : NodeId). SameLink (link_to a.ends x.0 d) (link_to a'.ends x.0 d)) id (pair.same d))

      pub id_after : a'.id ≡ record { 0 = suc i }
      id_after = let p = before scene done ns ms race turns order i a ea in sa.id_ ∙ (p.turn.stretch.id_ ∙ p.placed.id_)

      pub node_after : a'.ends.node ≡ suc i
      node_after =
          let p = before scene done ns ms race turns order i a ea in
          sa.node_ ∙ (p.turn.stretch.seat.ends_ ∙ ap (λ (x : NodeId). x.0) (p.turn.stretch.id_ ∙ p.placed.id_))

      settled_at : (d : Link) → Flows (reached_at scene done ns ms race turns order i j a b ea eb apart).all (reached_at scene done ns ms race turns order i j a b ea eb apart).taken (link_to a'.ends b.id.0 d) (link_to b'.ends a.id.0 d)
      settled_at d =
          let r = reached_at scene done ns ms race turns order i j a b ea eb apart in
          flow_holds.settled r.all r.taken (link_to a.ends b.id.0 d) (link_to b.ends a.id.0 d) (link_to a'.ends b.id.0 d) (link_to b'.ends a.id.0 d) (r.flows d) (pair.settled all d)

      reaches_now : Reaches a' b'
      reaches_now =
          let r = reached_at scene done ns ms race turns order i j a b ea eb apart in
          let took : numbers r.taken ≡ taken_from a.id b.log.entries = subst (λ (w : Bool). Logged w (taken_from a.id b.log.entries) (numbers r.taken)) (whole j b eb) r.took in
          record {
            all = r.all;
            taken = r.taken;
            flows = λ d.
                subst (λ (x : NodeId). Flows r.all r.taken (link_to a'.ends x.0 d) (link_to b'.ends a'.id.0 d)) (sym sb.id_)
                (subst (λ (x : NodeId). Flows r.all r.taken (link_to a'.ends b.id.0 d) (link_to b'.ends x.0 d)) (sym sa.id_) (settled_at d));
            numbers_ = r.numbers_ ∙ (ap (λ (x : NodeId). sent_to x 1 a.log.messages) (sym sb.id_) ∙ ap (λ (l : Log). sent_to b'.id 1 l.messages) (sym sa.log_));
            sent = λ p h. subst (λ (l : Log). IsSent l p) (sym sa.log_) (r.sent p h);
            took = took ∙ (ap (λ (x : NodeId). taken_from x b.log.entries) (sym sa.id_) ∙ ap (λ (l : Log). taken_from a'.id l.entries) (sym sb.log_));
          }

      arrived_now : (d : Link) → under_way (link_to a'.ends b'.id.0 d) (link_to b'.ends a'.id.0 d) ≡ arrived (link_to b'.ends a'.id.0 d)
      arrived_now d =
          subst (λ (x : NodeId). under_way (link_to a'.ends x.0 d) (link_to b'.ends a'.id.0 d) ≡ arrived (link_to b'.ends a'.id.0 d)) (sym sb.id_)
          (subst (λ (x : NodeId). under_way (link_to a'.ends b.id.0 d) (link_to b'.ends x.0 d) ≡ arrived (link_to b'.ends x.0 d)) (sym sa.id_)
          (arrival_holds.whole (link_to a.ends b.id.0 d) (link_to b.ends a.id.0 d) (link_to a'.ends b.id.0 d) (link_to b'.ends a.id.0 d) (pair.settled all d)))

    pair_now : (i j : ℕ) (a' b' : Seat) → slice_get os i ≡ Some a' → slice_get os j ≡ Some b' → i ≢ j → IsPair a' b'
    pair_now i j a' b' ea' eb' apart =
        let a = beside os ms i a' (sym settled.count) ea' in
        let b = beside os ms j b' (sym settled.count) eb' in
        let back : j ≢ i = (λ q. apart (sym q)) in
        let p = before scene done ns ms race turns order i a.0 a.1 in
        let q = before scene done ns ms race turns order j b.0 b.1 in
        let na = node_after i j a.0 b.0 a' b' a.1 b.1 ea' eb' apart in
        let nb = node_after j i b.0 a.0 b' a' b.1 a.1 eb' ea' back in
        let pn : p.seat.ends.node ≡ suc i = p.placed.seat.ends_ ∙ ap (λ (x : NodeId). x.0) p.placed.id_ in
        let qn : q.seat.ends.node ≡ suc j = q.placed.seat.ends_ ∙ ap (λ (x : NodeId). x.0) q.placed.id_ in
        record {
          meet = λ d.
              subst (λ (x : ℕ). AreLinked (link_to a'.ends x d) (link_to b'.ends a'.ends.node d)) (sym nb)
              (subst (λ (x : ℕ). AreLinked (link_to a'.ends (suc j) d) (link_to b'.ends x d)) (sym na)
              (linked_on (link_to p.seat.ends (suc j) d) (link_to q.seat.ends (suc i) d) (link_to a'.ends (suc j) d) (link_to b'.ends (suc i) d)
              (subst (λ (x : ℕ). AreLinked (link_to p.seat.ends (suc j) d) (link_to q.seat.ends x d)) pn
              (subst (λ (x : ℕ). AreLinked (link_to p.seat.ends x d) (link_to q.seat.ends p.seat.ends.node d)) qn
              ((race.pairs i j p.seat q.seat p.there q.there apart).meet d)))
              (same_link i j a.0 b.0 a' b' a.1 b.1 ea' eb' apart d)
              (same_link j i b.0 a.0 b' a' b.1 a.1 eb' ea' back d)));
          reaches = reaches_now i j a.0 b.0 a' b' a.1 b.1 ea' eb' apart;
          arrived_ = arrived_now i j a.0 b.0 a' b' a.1 b.1 ea' eb' apart;
        }

    pub race_now : IsRace scene (done + 1) os
    race_now =
        record {
          limits = race.limits;
          count = settled.count ∙ (turns.count ∙ race.count);
          placed = placed_now;
          pairs = pair_now;
          replay = still_holds.replay;
          closed = still_holds.closed;
          rounds = subst (λ (l : List Log). Rounds scene l (done + 1)) (sym same_logs) (rounds_now scene done ns ms race turns order whole);
        }

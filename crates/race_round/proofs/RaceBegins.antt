-- Fresh nodes are those of a race of no round.
use Rattle.std.proofs.Common.{◌≡◌, ◌≢◌, ◌<◌, ◌+◌, ◌++◌, ◌∙◌, ◌∷◌, ℕ, List, [], Some, ap, arith, inl, inr, length, map, slice_get, slice_index_or, subst, suc, sym}
use Rattle.lamport_log.proofs.NodeLogs.EntryPlaces.{nth_get}
use Rattle.lamport_log.specs.Closed.{Closed, Stamped, sent_to, taken_from}
use Rattle.lamport_log.specs.Logs.{Item, Log, answers_in, cut, items, messages_in}
use Rattle.lamport_log.specs.Replays.{AllReplay, Replays, StepsLead}
use Rattle.lamport_log.specs.Rounds.{Piece, Rounds, entries_of}
use Rattle.lamport_log.specs.declared.logs.LogEntry.{LogEntry}
use Rattle.commit_gate.proofs.Gating.{at_map}
use Rattle.race_round.proofs.Places.{get_map, id_at, log_at, other_place}
use Rattle.race_round.specs.Races.{AreFresh, IsPair, IsPlaced, IsRace, StillReplay, logs_of, views_of}
use Rattle.race_round.specs.Seats.{Seat, last_stamp}
use Rattle.ring_links.proofs.Flowing.{flow_holds}
use Rattle.ring_links.specs.Ends.{Ends, Meet, link_to, place_of}
use Rattle.ring_links.specs.Links.{IsFresh}
use Rattle.ring_links.specs.declared.link.Link.{Link}
use Rattle.std.proofs.lemmas.Bool.{cases_lt}
use Rattle.std.proofs.lemmas.List.{length-map}
use Rattle.std.proofs.lemmas.Option.{get_or_from_slice_get, slice_get_within}
use Rattle.std.specs.List.{sum_by}
use Rattle.str_base.specs.Members.{In}
use Rattle.str_base.specs.declared.names.NodeId.{NodeId}
use Rattle.str_model.specs.Runs.{opening_view}
use Rattle.str_model.specs.Views.{View}
use Rattle.str_model.specs.declared.messages.Message.{Message}
use Rattle.str_scene.specs.Scenes.{Scene, nth}

nothing_at : {A : Type 0} (xs : List A) (i : ℕ) (x : A) → xs ≡ [] → slice_get xs i ≡ Some x → ⊥
nothing_at [] i x e f = cc
nothing_at (y ∷ xs) i x e f = cc

meet_back : (a b : Ends) → Meet a b → Meet b a
meet_back a b h d = ((h d).1, (h d).0)

same_value : {A : Type 0} (x y : A) → Some x ≡ Some y → x ≡ y
same_value x y e = cc

module _ (scene : Scene) (ns : List Seat) (fresh : AreFresh scene ns) where
  inside : (i : ℕ) (n : Seat) → slice_get ns i ≡ Some n → i < scene.nodes
  inside i n e = let w = slice_get_within ns i n e in let c = fresh.ends_.count in let l = length-map ns (λ (x : Seat). x.ends) in omega (arith, w, c, l)

  ends_at : (i : ℕ) (n : Seat) → slice_get ns i ≡ Some n → (d : Ends) → slice_index_or (map (λ (x : Seat). x.ends) ns) i d ≡ n.ends
  ends_at i n e d = get_or_from_slice_get (map (λ (x : Seat). x.ends) ns) i n.ends d (get_map (λ (x : Seat). x.ends) ns i n e)

  node_at : (i : ℕ) (n : Seat) → slice_get ns i ≡ Some n → n.ends.node ≡ i + 1
  node_at i n e = ap (λ (x : Ends). x.node) (sym (ends_at i n e n.ends)) ∙ fresh.ends_.node i n.ends (inside i n e)

  placed : (i : ℕ) (n : Seat) → slice_get ns i ≡ Some n → IsPlaced scene 0 i n
  placed i n e =
      record {
        scene_ = fresh.scenes i n e;
        id_ = fresh.ids i n e;
        seat = record {
          log_ = fresh.logs i n e;
          ends_ = (let a = node_at i n e in let b = ap (λ (x : NodeId). x.0) (fresh.ids i n e) in omega (arith, a, b));
          width =
              ap (λ (x : Ends). length x.links + 1) (sym (ends_at i n e n.ends))
              ∙ (fresh.ends_.width i n.ends (inside i n e) ∙ ap (λ (x : Scene). x.nodes) (sym (fresh.scenes i n e)));
          counted = ap (λ (l : List LogEntry). sum_by (λ (x : LogEntry). x.sent) l) (fresh.entries i n e) ∙ sym (ap (λ (l : List Message). length l) (fresh.messages i n e));
          number = (let b = ap (λ (x : NodeId). x.0) (fresh.ids i n e) in omega (arith, b));
          most = (let b = ap (λ (x : NodeId). x.0) (fresh.ids i n e) in let c = ap (λ (x : Scene). x.nodes) (fresh.scenes i n e) in let w = inside i n e in omega (arith, b, c, w));
        };
        stamp_ = fresh.stamps i n e ∙ sym (ap (λ (l : List LogEntry). last_stamp 0 l) (fresh.entries i n e));
        few = (let z : length n.log.entries ≡ 0 = ap (λ (l : List LogEntry). length l) (fresh.entries i n e) in omega (arith, z));
        away = λ x h. absurd (subst (λ (l : List Message). In x l) (fresh.messages i n e) h);
      }

  module _ (i j : ℕ) (a b : Seat) (ea : slice_get ns i ≡ Some a) (eb : slice_get ns j ≡ Some b) (apart : i ≢ j) where
    meet : Meet a.ends b.ends
    meet = elim (cases_lt i j) [
      | inl lt ↦ pair_meets i j a b ea eb lt
      | inr le ↦ meet_back b.ends a.ends (pair_meets j i b a eb ea (omega (arith, le, apart)))
    ]
      where
        pair_meets : (k l : ℕ) (x y : Seat) → slice_get ns k ≡ Some x → slice_get ns l ≡ Some y → k < l → Meet x.ends y.ends
        pair_meets k l x y ek el lt =
            let w = inside l y el in
            let c = fresh.ends_.count in
            subst (λ (z : Ends). Meet z y.ends) (ends_at k x ek x.ends)
            (subst (λ (z : Ends). Meet (slice_index_or (map (λ (s : Seat). s.ends) ns) k x.ends) z) (ends_at l y el x.ends)
            (fresh.ends_.meet k l x.ends lt (omega (arith, w, c))))

    link_fresh : (d : Link) → IsFresh (link_to a.ends b.id.0 d)
    link_fresh d =
        let o = other_place scene 0 i a (placed i a ea) (inside i a ea) j apart (inside j b eb) in
        let all = fresh.ends_.fresh i a.ends (inside i a ea) in
        subst (λ (x : NodeId). IsFresh (link_to a.ends x.0 d)) (sym (fresh.ids j b eb))
        (subst (λ (e : Ends). (k : ℕ) (l : Link) → k < length e.links → IsFresh (slice_index_or e.links k l)) (ends_at i a ea a.ends) all (place_of a.ends.node (suc j)) d o.2)

  pair : (i j : ℕ) (a b : Seat) → slice_get ns i ≡ Some a → slice_get ns j ≡ Some b → i ≢ j → IsPair a b
  pair i j a b ea eb apart =
      let fa = link_fresh i j a b ea eb apart in
      let fb = link_fresh j i b a eb ea (λ q. apart (sym q)) in
      record {
        meet = meet i j a b ea eb apart;
        reaches = record {
          all = [];
          taken = [];
          flows = λ d. flow_holds.first (link_to a.ends b.id.0 d) (link_to b.ends a.id.0 d) (fa d) (fb d);
          numbers_ = sym (ap (λ (l : List Message). sent_to b.id 1 l) (fresh.messages i a ea));
          sent = λ p h. absurd h;
          took = sym (ap (λ (l : List LogEntry). taken_from a.id l) (fresh.entries j b eb));
        };
        arrived_ = λ d. sym (flow_holds.first (link_to a.ends b.id.0 d) (link_to b.ends a.id.0 d) (fa d) (fb d)).flow ∙ sym (fb d).3;
      }

  -- ---- logs

  no_items : (i : ℕ) (n : Seat) → slice_get ns i ≡ Some n → items n.log ≡ []
  no_items i n e = ap (λ (l : List LogEntry). cut n.log.node l n.log.messages n.log.released) (fresh.entries i n e)

  no_entries : (k : NodeId) (log : Log) → nth (logs_of ns) k.0 ≡ Some log → log.entries ≡ []
  no_entries k log el = let at = log_at ns k log el in ap (λ (x : Log). x.entries) (sym at.log_) ∙ fresh.entries at.place at.seat at.there

  replays : (i : ℕ) (n : Seat) → slice_get ns i ≡ Some n → Replays scene (logs_of ns) n.log n.view
  replays i n e =
      record {
        steps = subst (λ (l : List Item). StepsLead (record { scene = scene; node = n.log.node }) (logs_of ns) (opening_view scene) l n.view) (sym (no_items i n e)) (sym (fresh.views i n e));
        messages = ap messages_in (no_items i n e) ∙ sym (fresh.messages i n e);
        released = ap answers_in (no_items i n e) ∙ sym (fresh.answers i n e);
      }

  replay : AllReplay scene (logs_of ns) (views_of ns)
  replay = (
    length-map ns (λ (n : Seat). n.view) ∙ sym (length-map ns (λ (n : Seat). n.log)),
    λ n log view el ev.
        let at = log_at ns n log el in
        let there : Some at.seat.view ≡ Some view = sym (get_map (λ (x : Seat). x.view) ns at.place at.seat at.there) ∙ (ap (λ (y : ℕ). nth (views_of ns) y) (sym at.number) ∙ ev) in
        subst (λ (x : View). Replays scene (logs_of ns) log x) (same_value at.seat.view view there)
        (subst (λ (x : Log). Replays scene (logs_of ns) x at.seat.view) at.log_ (replays at.place at.seat at.there)),
  )

  closed : Closed (logs_of ns)
  closed =
      record {
        others = λ n log i e el ee. absurd (let p = nth_get log.entries i e ee in nothing_at log.entries p.0 e (no_entries n log el) p.1);
        orders = λ n m log from el ef. (sent_to n 1 from.messages, ap (λ (l : List LogEntry). taken_from m l ++ sent_to n 1 from.messages) (no_entries n log el));
        stamps = λ n log el. subst (λ (l : List LogEntry). Stamped (logs_of ns) 0 l) (sym (no_entries n log el)) tt;
      }

  abbrev no_pieces : List (List Piece)
  no_pieces = map (λ (n : Seat). []) ns

  rounds : Rounds scene (logs_of ns) 0
  rounds = (
    no_pieces,
    length-map ns (λ (n : Seat). []) ∙ sym (length-map ns (λ (n : Seat). n.log)),
    λ here log ps el ep.
        let q = nth_get no_pieces here.0 ps ep in
        let none : ps ≡ [] = sym (at_map (λ (n : Seat). []) ns q.0 ps q.1).2 in
        let at = log_at ns here log el in
        record {
          count = ap (λ (l : List Piece). length l) none;
          whole = ap entries_of none ∙ (sym (no_items at.place at.seat at.there) ∙ ap items at.log_);
          rounds = λ r p e. absurd (nothing_at ps r p none e);
        },
  )

  pub begins : IsRace scene 0 ns
  begins =
      record {
        limits = fresh.limits;
        count = sym (length-map ns (λ (n : Seat). n.ends)) ∙ fresh.ends_.count;
        placed = placed;
        pairs = pair;
        replay = replay;
        closed = closed;
        rounds = rounds;
      }

pub race_begins : (scene : Scene) (ns : List Seat) → AreFresh scene ns → IsRace scene 0 ns
race_begins scene ns fresh = begins scene ns fresh

-- the logs of a race replay to its nodes and are closed
pub race_stands : (scene : Scene) (done : ℕ) (ns : List Seat) → IsRace scene done ns → StillReplay scene ns
race_stands scene done ns race =
    record {
      are = (
        length-map ns (λ (n : Seat). n.log) ∙ race.count,
        λ n log el.
            let at = log_at ns n log el in
            let p = race.placed at.place at.seat at.there in
            ap (λ (x : Log). x.node) (sym at.log_) ∙ (p.seat.log_ ∙ (p.id_ ∙ id_at at.place n at.number)),
      );
      replay = race.replay;
      closed = race.closed;
    }

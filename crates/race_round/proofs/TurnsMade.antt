-- The turn of a node, from what it took and how its sessions moved.
use Rattle.std.proofs.lemmas.Bool.{true≢false}
use Rattle.std.proofs.Common.{◌≡◌, ◌*◌, ◌++◌, ◌∷◌, ◌∙◌, ℕ, Bool, true, false, List, [], Option, ap, append-nil, arith, length, refl, subst, suc, sym, zero, inl, inr}
use Rattle.lamport_log.specs.Logs.{Item}
use Rattle.lamport_log.specs.Rounds.{SessionsMove, is_from}
use Rattle.lamport_log.specs.declared.logs.LogEntry.{LogEntry}
use Rattle.lamport_log.specs.declared.logs.LogInput.{LogInput}
use Rattle.lamport_log.specs.declared.logs.LogInput.TheVariants.{Client, Taken}
use Rattle.race_round.proofs.ClientSteps.{readings_in, readings_on, session_of, since_grown}
use Rattle.race_round.proofs.LinkMoves.{then_moves}
use Rattle.race_round.proofs.Stretching.{known_first, stopped_on, stretch_on}
use Rattle.race_round.specs.Nodes.{BrokenOff, Moved, TookUpTo, Went, seat_of}
use Rattle.race_round.specs.Seats.{IsSeat, Seat, here_at}
use Rattle.race_round.specs.Stretches.{Stretch, entries_in}
use Rattle.race_round.specs.Turns.{AllFrom, Gave, Grouped, Turn, first_sessions, reading_of, readings_since}
use Rattle.race_round.specs.declared.nodes.RaceNode.{RaceNode}
use Rattle.ring_links.specs.Flows.{Move}
use Rattle.std.proofs.lemmas.List.{length-map, map-append}
use Rattle.std.proofs.lemmas.List.FromFn.{length-range_with_len}
use Rattle.std.proofs.lemmas.List.Elements.{filter_map-append}
use Rattle.std.specs.List.{cons_option, range_with_len}
use Rattle.str_base.specs.declared.names.NodeId.{NodeId}
use Rattle.str_base.specs.declared.names.SessionId.{SessionId}
use Rattle.str_scene.specs.Scenes.{Here, Scene}

-- ---- what is taken is read of no clock

not_read : (s : NodeId) (x : LogInput) (rest : List ℕ) → is_from s x ≡ true → cons_option (reading_of x) rest ≡ rest
not_read s (Client k t) rest e = absurd (true≢false (sym e))
not_read s (Taken m k) rest e = refl

part_unread : (s : NodeId) (part : List Item) → AllFrom s part → readings_in (entries_in part) ≡ []
part_unread s [] h = refl
part_unread s (it ∷ part) h = not_read s it.entry.input (readings_in (entries_in part)) (h it (inl refl)) ∙ part_unread s part (λ x i. h x (inr i))

unread : (n : Seat) (k : ℕ) (its : List Item) → Grouped n k its → readings_in (entries_in its) ≡ []
unread n zero its g = ap (λ (l : List Item). readings_in (entries_in l)) g
unread n (suc k) its g =
    ap (λ (l : List Item). readings_in (entries_in l)) g.2
    ∙ (ap readings_in (map-append (λ (it : Item). it.entry) g.0 g.1)
    ∙ (filter_map-append (λ (e : LogEntry). reading_of e.input) (entries_in g.0) (entries_in g.1)
    ∙ (λ j. unread n k g.0 g.3 j ++ part_unread (record { 0 = suc k }) g.1 g.4.from j)))

-- ---- whether a growth was refused before

-- a stretch from a node that forgot whether a growth was refused
rewanted : (w b : Bool) (n m : Seat) (its : List Item) (ms : ℕ → List Move) → Stretch w (record n { wanting = b }) m its ms → Stretch w n m its ms
rewanted w b n m its ms h =
    record {
      scene_ = h.scene_;
      id_ = h.id_;
      seat = h.seat;
      entries = h.entries;
      messages = h.messages;
      answers = h.answers;
      moved = h.moved;
      last = h.last;
      made = h.made;
      steps = h.steps;
      stamps = h.stamps;
      took = h.took;
      sent = h.sent;
      parcels = h.parcels;
      away = h.away;
    }

-- the groups are of the same links
regrouped : (b : Bool) (n : Seat) (k : ℕ) (its : List Item) → Grouped (record n { wanting = b }) k its → Grouped n k its
regrouped b n zero its g = g
regrouped b n (suc k) its g = (g.0, g.1, g.2, regrouped b n k g.0 g.3, record { from = g.4.from; most = g.4.most; least = g.4.least })

-- ---- the turn

-- broken off while it took
pub broken_taking : (b : Bool) (n m : Seat) → BrokenOff (8 * n.scene.nodes) (record n { wanting = b }) m → (t : Turn n m) × (t.whole ≡ false)
broken_taking b n m h = (
  record {
    whole = false;
    taken = h.its;
    moved = [];
    moves = h.moves;
    stretch = subst (λ (l : List Item). Stretch false n m l h.moves) (sym (append-nil h.its)) (rewanted false b n m h.its h.moves h.stretch);
    few = (let f = h.few in omega (arith, f));
    stopped = λ w. h.stopped;
    piece = λ w. absurd (true≢false (sym w));
  },
  refl,
)

-- broken off while its sessions moved
pub broken_moving : (b : Bool) (n o m : Seat) → TookUpTo n.scene.nodes (record n { wanting = b }) o → BrokenOff (length o.scene.sessions) o m → (t : Turn n m) × (t.whole ≡ false)
broken_moving b n o m a broken =
    let h : BrokenOff (length n.scene.sessions) o m = subst (λ (x : Scene). BrokenOff (length x.sessions) o m) a.stretch.scene_ broken in (
      record {
        whole = false;
        taken = a.its;
        moved = h.its;
        moves = then_moves a.moves h.moves;
        stretch = rewanted false b n m (a.its ++ h.its) (then_moves a.moves h.moves) (stretch_on false (record n { wanting = b }) o m a.its h.its a.moves h.moves a.stretch h.stretch);
        few = (let f = a.few in let g = h.few in omega (arith, f, g));
        stopped = λ w. stopped_on m n.ends o.ends a.moves h.moves a.stretch.moved h.stopped;
        piece = λ w. absurd (true≢false (sym w));
      },
      refl,
    )

-- whole
pub whole_turn : (b : Bool) (n o m : Seat) → TookUpTo n.scene.nodes (record n { wanting = b }) o → Moved (first_sessions (length o.scene.sessions)) o m → (t : Turn n m) × (t.whole ≡ true)
whole_turn b n o m a moved =
    let h : Moved (first_sessions (length n.scene.sessions)) o m = subst (λ (x : Scene). Moved (first_sessions (length x.sessions)) o m) a.stretch.scene_ moved in
    let long = length-map (range_with_len 1 (length n.scene.sessions)) (λ (s : ℕ). session_of s) in
    let count = length-range_with_len 1 (length n.scene.sessions) in
    let at : here_at o ≡ here_at n = (λ j. record { scene = a.stretch.scene_ j; node = a.stretch.id_ j }) in (
      record {
        whole = true;
        taken = a.its;
        moved = h.its;
        moves = then_moves a.moves h.moves;
        stretch = rewanted true b n m (a.its ++ h.its) (then_moves a.moves h.moves) (stretch_on true (record n { wanting = b }) o m a.its h.its a.moves h.moves a.stretch h.stretch);
        few = (let f = a.few in let g = h.few in omega (arith, f, g, long, count));
        stopped = λ w. absurd (true≢false w);
        piece = λ w. record {
          groups = regrouped b n n.scene.nodes a.its a.groups;
          view = o.view;
          reached = λ logs known. a.stretch.steps logs (known_first a.moves h.moves logs n.ends known);
          clients =
              subst (λ (l : List SessionId). SessionsMove (here_at n) o.view l h.its) (append-nil (first_sessions (length n.scene.sessions)))
              (subst (λ (l : List Item). SessionsMove (here_at n) o.view (first_sessions (length n.scene.sessions) ++ []) l) (append-nil h.its)
              (subst (λ (x : Here). SessionsMove x o.view (first_sessions (length n.scene.sessions) ++ []) (h.its ++ [])) at (h.follows [] [] refl)));
        };
      },
      refl,
    )

-- what the clock gave in a whole turn
pub readings_whole : (old new : Option (List ℕ)) (n o m : Seat) (b : Bool) → TookUpTo n.scene.nodes (record n { wanting = b }) o → (ss : List SessionId) → Moved ss o m → Gave old new (readings_since o.log m.log) → Gave old new (readings_since n.log m.log)
readings_whole old new n o m b a ss h g =
    let none : readings_since n.log o.log ≡ [] = since_grown n.log o.log (entries_in a.its) a.stretch.entries ∙ unread (record n { wanting = b }) n.scene.nodes a.its a.groups in
    subst (λ (l : List ℕ). Gave old new l)
    (sym (readings_on (record n { wanting = b }) o m a.its h.its true true a.moves h.moves a.stretch h.stretch ∙ ap (λ (l : List ℕ). l ++ readings_since o.log m.log) none)) g

-- ---- the node

pub seat_rewanted : (b : Bool) (n : Seat) → IsSeat n → IsSeat (record n { wanting = b })
seat_rewanted b n h = record { log_ = h.log_; ends_ = h.ends_; width = h.width; counted = h.counted; number = h.number; most = h.most }

module _ {C G : Type 0} (given : C → Option (List ℕ)) where
  pub went_taking : (b : Bool) (n m : RaceNode C G) → BrokenOff (8 * n.node.scene.nodes) (record (seat_of n) { wanting = b }) (seat_of m) → Went given n m
  went_taking b n m h = let t = broken_taking b (seat_of n) (seat_of m) h in record { turn = t.0; readings = λ w. absurd (true≢false (sym w ∙ t.1)) }

  pub went_moving : (b r : Bool) (n o m : RaceNode C G) → TookUpTo n.node.scene.nodes (record (seat_of n) { wanting = b }) (seat_of o) → o.clock ≡ n.clock
      → (r ≡ true → Moved (first_sessions (length o.node.scene.sessions)) (seat_of o) (seat_of m)) → (r ≡ false → BrokenOff (length o.node.scene.sessions) (seat_of o) (seat_of m))
      → (r ≡ true → Gave (given o.clock) (given m.clock) (readings_since o.log m.log)) → Went given n m
  went_moving b true n o m a same moved broken gave =
      let t = whole_turn b (seat_of n) (seat_of o) (seat_of m) a (moved refl) in
      let g : Gave (given n.clock) (given m.clock) (readings_since o.log m.log) = subst (λ (x : C). Gave (given x) (given m.clock) (readings_since o.log m.log)) same (gave refl) in
      record {
        turn = t.0;
        readings = λ w. readings_whole (given n.clock) (given m.clock) (seat_of n) (seat_of o) (seat_of m) b a (first_sessions (length o.node.scene.sessions)) (moved refl) g;
      }
  went_moving b false n o m a same moved broken gave =
      let t = broken_moving b (seat_of n) (seat_of o) (seat_of m) a (broken refl) in record { turn = t.0; readings = λ w. absurd (true≢false (sym w ∙ t.1)) }

-- After a round of whole turns the logs are a round more.
use Rattle.std.proofs.Common.{◌≡◌, ◌≢◌, ◌≤◌, ◌<◌, ◌+◌, ◌-◌, ◌++◌, ◌∙◌, ◌∷◌, ℕ, Bool, true, false, List, [], Some, None, ap, append-nil, arith, filter, if◌then◌else◌, inl, inr, length, length-append, map, min, refl, slice_get, subst, suc, sym, take, zero}
use Rattle.lamport_log.proofs.NodeLogs.EntryPlaces.{nth_get}
use Rattle.lamport_log.proofs.NodeLogs.LogsGrow.{steps_stay, take_more}
use Rattle.lamport_log.proofs.Stamps.StampOrder.{entries_cut}
use Rattle.lamport_log.specs.Closed.{sent_to, taken_from, taken_of}
use Rattle.lamport_log.specs.Logs.{Item, Log, items}
use Rattle.lamport_log.specs.Replays.{StepsLead}
use Rattle.lamport_log.specs.Rounds.{AreRounds, IsRound, Piece, Rounds, SessionsMove, entries_of, from_node, is_from, sessions_of, to_node, waiting}
use Rattle.lamport_log.specs.declared.logs.LogEntry.{LogEntry}
use Rattle.lamport_log.specs.declared.logs.LogInput.{LogInput}
use Rattle.lamport_log.specs.declared.logs.LogInput.TheVariants.{Client, Taken}
use Rattle.race_round.proofs.Groups.{few_of_each, group_at, groups_are, node_of}
use Rattle.race_round.proofs.LogsReplay.{all_known, before, items_now, keeps, old, steps_before}
use Rattle.race_round.proofs.Places.{at_log, id_at, log_at, other_place}
use Rattle.race_round.proofs.Sequences.{steps_on, take_front}
use Rattle.race_round.specs.Races.{IsPair, IsRace, Turns, logs_of}
use Rattle.race_round.specs.Seats.{Seat}
use Rattle.race_round.specs.Turns.{Grouped, IsPiece, first_sessions}
use Rattle.ring_links.specs.Ends.{link_to, place_of}
use Rattle.ring_links.specs.Flows.{under_way}
use Rattle.ring_links.specs.Links.{InOrder, arrived}
use Rattle.ring_links.specs.declared.link.Link.{Link}
use Rattle.ring_links.specs.declared.parcel.Parcel.{Parcel}
use Rattle.std.proofs.lemmas.Bool.{cases_eq}
use Rattle.std.proofs.lemmas.Grind.{flat_map-append}
use Rattle.std.proofs.lemmas.List.{length-map}
use Rattle.std.proofs.lemmas.Option.{slice_get_within}
use Rattle.std.specs.List.{cons_option}
use Rattle.str_base.proofs.Lists.{got_push, slice_get_there}
use Rattle.str_base.proofs.SameNames.{same_node-is}
use Rattle.str_base.specs.Members.{In}
use Rattle.str_base.specs.Versions.{same_node}
use Rattle.str_base.specs.declared.names.NodeId.{NodeId}
use Rattle.str_model.specs.Runs.{opening_view}
use Rattle.str_model.specs.declared.messages.Message.{Message}
use Rattle.str_scene.specs.Scenes.{Here, Scene, nth}

-- ---- a list with an element for each of another

at_one : {A B : Type 0} (P : ℕ → A → B → Type 0) (x : A) (xs : List A) (y : B) (ys : List B) → P zero x y
    → ((i : ℕ) (z : B) → slice_get ys i ≡ Some z → (w : A) × (slice_get xs i ≡ Some w) × P (suc i) w z)
    → (i : ℕ) (z : B) → slice_get (y ∷ ys) i ≡ Some z → (w : A) × (slice_get (x ∷ xs) i ≡ Some w) × P i w z
at_one P x xs y ys p rest zero z e = let q : y ≡ z = cc in (x, refl, subst (λ w. P zero x w) q p)
at_one P x xs y ys p rest (suc i) z e = rest i z e

none_chosen : {A B : Type 0} (P : ℕ → A → B → Type 0) (xs : List A) (ys : List B) → ys ≡ [] → (i : ℕ) (z : B) → slice_get ys i ≡ Some z → (w : A) × (slice_get xs i ≡ Some w) × P i w z
none_chosen P xs [] e i z f = absurd cc
none_chosen P xs (y ∷ ys) e i z f = absurd cc

choose : {A B : Type 0} (P : ℕ → A → B → Type 0) (xs : List A) → ((i : ℕ) (x : A) → slice_get xs i ≡ Some x → (y : B) × P i x y)
    → (ys : List B) × (length ys ≡ length xs) × ((i : ℕ) (y : B) → slice_get ys i ≡ Some y → (x : A) × (slice_get xs i ≡ Some x) × P i x y)
choose P [] h = ([], refl, none_chosen P [] [] refl)
choose P (x ∷ xs) h =
    let one = h zero x refl in
    let rest = choose (λ i. P (suc i)) xs (λ i y e. h (suc i) y e) in
    (one.0 ∷ rest.0, ap suc rest.1, at_one P x xs one.0 rest.0 one.1 rest.2)

-- ---- what is counted

to_node_sent : (here : NodeId) (i : ℕ) (ms : List Message) → length (filter (λ (m : Message). same_node m.receiver here) ms) ≡ length (sent_to here i ms)
to_node_sent here i [] = refl
to_node_sent here i (m ∷ ms) = by_test (same_node m.receiver here) (to_node_sent here (i + 1) ms)
  where
    by_test : (b : Bool) → length (filter (λ (x : Message). same_node x.receiver here) ms) ≡ length (sent_to here (i + 1) ms)
        → length (if b then m ∷ filter (λ (x : Message). same_node x.receiver here) ms else filter (λ (x : Message). same_node x.receiver here) ms)
        ≡ length (if b then i ∷ sent_to here (i + 1) ms else sent_to here (i + 1) ms)
    by_test true rest = ap suc rest
    by_test false rest = rest

pub from_node_taken : (n : NodeId) (its : List Item) → length (from_node n its) ≡ length (taken_from n (map (λ (it : Item). it.entry) its))
from_node_taken n [] = refl
from_node_taken n (it ∷ its) = by_input it.entry.input (from_node_taken n its)
  where
    by_input : (x : LogInput) → length (from_node n its) ≡ length (taken_from n (map (λ (y : Item). y.entry) its))
        → length (if is_from n x then it ∷ from_node n its else from_node n its) ≡ length (cons_option (taken_of n x) (taken_from n (map (λ (y : Item). y.entry) its)))
    by_input (Client s t) rest = rest
    by_input (Taken m k) rest = by_test (same_node m n)
      where
        by_test : (b : Bool) → length (if b then it ∷ from_node n its else from_node n its) ≡ length (cons_option (if b then Some k else None) (taken_from n (map (λ (y : Item). y.entry) its)))
        by_test true = ap suc rest
        by_test false = rest

none_to : (here : NodeId) (ms : List Message) → ((x : Message) → In x ms → x.receiver ≢ here) → length (filter (λ (m : Message). same_node m.receiver here) ms) ≡ 0
none_to here [] h = refl
none_to here (m ∷ ms) h = by_test (same_node m.receiver here) refl (none_to here ms (λ x i. h x (inr i)))
  where
    by_test : (b : Bool) → same_node m.receiver here ≡ b → length (filter (λ (x : Message). same_node x.receiver here) ms) ≡ 0
        → length (if b then m ∷ filter (λ (x : Message). same_node x.receiver here) ms else filter (λ (x : Message). same_node x.receiver here) ms) ≡ 0
    by_test true q rest = absurd (h m (inl refl) (same_node-is m.receiver here q))
    by_test false q rest = rest

-- what a node has not taken yet lies in its inbox
inbox_waits : (a b : Seat) → IsPair a b → (d : Link) → length (arrived (link_to b.ends a.id.0 d)) ≡ length (sent_to b.id 1 a.log.messages) - length (taken_from a.id b.log.entries)
inbox_waits a b pair d =
    let r = pair.reaches in
    let flow = ap (λ (l : List Parcel). length l) (r.flows d).flow in
    let parts = length-append r.taken (under_way (link_to a.ends b.id.0 d) (link_to b.ends a.id.0 d)) in
    let inbox = ap (λ (l : List Parcel). length l) (pair.arrived_ d) in
    let sent = sym (length-map r.all (λ (p : Parcel). p.number)) ∙ ap (λ (l : List ℕ). length l) r.numbers_ in
    let took = sym (length-map r.taken (λ (p : Parcel). p.number)) ∙ ap (λ (l : List ℕ). length l) r.took in
    omega (arith, flow, parts, inbox, sent, took)

module _ (scene : Scene) (done : ℕ) (ns ms : List Seat) (race : IsRace scene done ns) (turns : Turns ns ms)
    (order : (i j : ℕ) (a b : Seat) → slice_get ms i ≡ Some a → slice_get ms j ≡ Some b → i ≢ j → (d : Link) → InOrder (link_to a.ends b.id.0 d) (link_to b.ends a.id.0 d))
    (whole : (i : ℕ) (m : Seat) → (em : slice_get ms i ≡ Some m) → (before scene done ns ms race turns order i m em).turn.whole ≡ true) where
  -- the piece of a node's turn
  abbrev piece_at : (i : ℕ) (m : Seat) → slice_get ms i ≡ Some m → Piece
  piece_at i m em = record { taken = (before scene done ns ms race turns order i m em).turn.taken; moved = (before scene done ns ms race turns order i m em).turn.moved }

  -- the pieces of a node: those that it had, and one more
  record OneMore (i : ℕ) (m : Seat) (ps : List Piece) : Type 0 where
    em : slice_get ms i ≡ Some m
    had : List Piece
    there : slice_get race.rounds.0 i ≡ Some had
    all : ps ≡ had ++ piece_at i m em ∷ []

  news : (pieces : List (List Piece)) × (length pieces ≡ length ms) × ((i : ℕ) (ps : List Piece) → slice_get pieces i ≡ Some ps → (m : Seat) × (slice_get ms i ≡ Some m) × OneMore i m ps)
  news =
      choose OneMore ms (λ i m em.
      let b = before scene done ns ms race turns order i m em in
      let w = slice_get_within ns i b.seat b.there in
      let had = slice_get_there race.rounds.0 i (omega (arith, w, race.rounds.1, length-map ns (λ (n : Seat). n.log))) in
      (had.0 ++ piece_at i m em ∷ [], record { em = em; had = had.0; there = had.1; all = refl }))

  -- the pieces that a node had
  were : (i : ℕ) (m : Seat) (ps : List Piece) → (h : OneMore i m ps)
      → AreRounds scene (logs_of ns) race.rounds.0 done (record { 0 = suc i }) (before scene done ns ms race turns order i m h.em).seat.log h.had
  were i m ps h =
      let b = before scene done ns ms race turns order i m h.em in
      race.rounds.2 (record { 0 = suc i }) b.seat.log h.had (at_log ns i b.seat b.there) h.there

  -- the first pieces of a node are those that it had
  first_ones : (i : ℕ) (m : Seat) (ps : List Piece) → OneMore i m ps → (r : ℕ) → r ≤ done → (had : List Piece) × (slice_get race.rounds.0 i ≡ Some had) × (take r ps ≡ take r had)
  first_ones i m ps h r less =
      let w = were i m ps h in
      (h.had, h.there, ap (λ (l : List Piece). take r l) h.all ∙ take_more r h.had (piece_at i m h.em ∷ []) (omega (arith, less, w.count)))

  -- ---- a round that was one

  stays : (i r : ℕ) (m : Seat) (ps : List Piece) (p : Piece) → (h : OneMore i m ps) → slice_get h.had r ≡ Some p → IsRound scene (logs_of ms) news.0 r (record { 0 = suc i }) (take r ps) p
  stays i r m ps p h e =
      let w = were i m ps h in
      let less : r < done = (let a = slice_get_within h.had r p e in omega (arith, a, w.count)) in
      let o = w.rounds r p e in
      let same : take r ps ≡ take r h.had = ap (λ (l : List Piece). take r l) h.all ∙ take_more r h.had (piece_at i m h.em ∷ []) (omega (arith, less, w.count)) in
      subst (λ (l : List Piece). IsRound scene (logs_of ms) news.0 r (record { 0 = suc i }) l p) (sym same)
      (record {
        upwards = o.upwards;
        most = o.most;
        least = λ n theirs there.
            let k = nth_get news.0 n.0 theirs there in
            let c = news.2 k.0 theirs k.1 in
            let f = first_ones k.0 c.0 theirs c.2 r (omega (arith, less)) in
            subst (λ (l : List Piece). min 8 (waiting (record { 0 = suc i }) (take r h.had) n l) ≤ length (from_node n p.taken)) (sym f.2)
            (o.least n f.0 (ap (λ (y : ℕ). nth race.rounds.0 y) k.2 ∙ f.1));
        view = o.view;
        reached = steps_stay (record { scene = scene; node = record { 0 = suc i } }) (logs_of ns) (logs_of ms) (keeps scene done ns ms race turns order) (opening_view scene) (entries_of (take r h.had) ++ p.taken) o.view o.reached;
        clients = o.clients;
      })

  -- ---- the new round

  module _ (i : ℕ) (m : Seat) (ps : List Piece) (h : OneMore i m ps) where
    abbrev n : Seat
    n = (before scene done ns ms race turns order i m h.em).seat

    abbrev taken : List Item
    taken = (before scene done ns ms race turns order i m h.em).turn.taken

    abbrev moved : List Item
    moved = (before scene done ns ms race turns order i m h.em).turn.moved

    abbrev here : NodeId
    here = record { 0 = suc i }

    scene_at : n.scene ≡ scene
    scene_at = (before scene done ns ms race turns order i m h.em).placed.scene_

    id_is : n.id ≡ record { 0 = suc i }
    id_is = (before scene done ns ms race turns order i m h.em).placed.id_

    piece : IsPiece n taken moved (before scene done ns ms race turns order i m h.em).turn.moves
    piece = (before scene done ns ms race turns order i m h.em).turn.piece (whole i m h.em)

    groups : Grouped n scene.nodes taken
    groups = subst (λ (x : Scene). Grouped n x.nodes taken) scene_at piece.groups

    had_items : entries_of h.had ≡ items n.log
    had_items = (were i m ps h).whole

    -- what the node has taken of another so far
    taken_count : (k : NodeId) → length (from_node k (entries_of h.had)) ≡ length (taken_from k n.log.entries)
    taken_count k =
        ap (λ (l : List Item). length (from_node k l)) had_items
        ∙ (from_node_taken k (items n.log)
        ∙ ap (λ (l : List LogEntry). length (taken_from k l)) (entries_cut n.log.node n.log.entries n.log.messages n.log.released))

    module _ (j : ℕ) (m' : Seat) (theirs : List Piece) (g : OneMore j m' theirs) where
      abbrev n' : Seat
      n' = (before scene done ns ms race turns order j m' g.em).seat

      sent_count : length (to_node here (entries_of g.had)) ≡ length (filter (λ (x : Message). same_node x.receiver here) n'.log.messages)
      sent_count =
          ap (λ (l : List Item). length (to_node here l)) (were j m' theirs g).whole
          ∙ ap (λ (l : List Message). length (filter (λ (x : Message). same_node x.receiver here) l)) (old scene done ns ms race turns order j m' g.em).messages

      own_waits : j ≡ i → length (to_node here (entries_of g.had)) ≡ 0
      own_waits same =
          sent_count
          ∙ none_to here n'.log.messages (λ x k q. (before scene done ns ms race turns order j m' g.em).placed.away x k
          (q ∙ (ap (λ (y : ℕ). node_of (suc y)) (sym same) ∙ sym (before scene done ns ms race turns order j m' g.em).placed.id_)))

      other_waits : j ≢ i → min 8 (length (to_node here (entries_of g.had)) - length (from_node (node_of (suc j)) (entries_of h.had))) ≤ length (from_node (node_of (suc j)) taken)
      other_waits apart =
          let bi = before scene done ns ms race turns order i m h.em in
          let bj = before scene done ns ms race turns order j m' g.em in
          let pair = race.pairs j i n' n bj.there bi.there apart in
          let other = other_place scene done i n bi.placed bi.within j (λ q. apart (sym q)) bj.within in
          let d = (slice_get_there n.ends.links (place_of n.ends.node (suc j)) other.2).0 in
          let inbox = inbox_waits n' n pair d in
          let at : length (arrived (link_to n.ends n'.id.0 d)) ≡ length (arrived (link_to n.ends (suc j) d)) = ap (λ (x : NodeId). length (arrived (link_to n.ends x.0 d))) bj.placed.id_ in
          let sent : length (to_node here (entries_of g.had)) ≡ length (sent_to n.id 1 n'.log.messages) =
          sent_count ∙ (to_node_sent here 1 n'.log.messages ∙ ap (λ (x : NodeId). length (sent_to x 1 n'.log.messages)) (sym id_is)) in
          let took : length (from_node (node_of (suc j)) (entries_of h.had)) ≡ length (taken_from n'.id n.log.entries) =
          taken_count (node_of (suc j)) ∙ ap (λ (x : NodeId). length (taken_from x n.log.entries)) (sym bj.placed.id_) in
          let least = (group_at n scene.nodes taken groups (suc j) (omega arith) (let w = bj.within in omega (arith, w))).least other d in
          least_of (length (arrived (link_to n.ends (suc j) d))) (length (to_node here (entries_of g.had)) - length (from_node (node_of (suc j)) (entries_of h.had))) (length (from_node (node_of (suc j)) taken))
          (omega (arith, inbox, at, sent, took)) least
        where
          least_of : (a c k : ℕ) → c ≡ a → min 8 a ≤ k → min 8 c ≤ k
          least_of a c k e le = subst (λ (x : ℕ). min 8 x ≤ k) (sym e) le

    least_now : (k : NodeId) (theirs : List Piece) → nth news.0 k.0 ≡ Some theirs → min 8 (waiting here h.had k (take done theirs)) ≤ length (from_node k taken)
    least_now k theirs e =
        let p = nth_get news.0 k.0 theirs e in
        let c = news.2 p.0 theirs p.1 in
        let g = c.2 in
        let w = were p.0 c.0 theirs g in
        let cut : take done theirs ≡ g.had = ap (λ (l : List Piece). take done l) g.all ∙ take_front done g.had (piece_at p.0 c.0 g.em ∷ []) (sym w.count) in
        subst (λ (l : List Piece). min 8 (waiting here h.had k l) ≤ length (from_node k taken)) (sym cut)
        (subst (λ (x : NodeId). min 8 (waiting here h.had x g.had) ≤ length (from_node x taken)) (id_at p.0 k p.2)
        (elim (cases_eq p.0 i) [
          | inl same ↦ (let none = own_waits p.0 c.0 theirs g same in omega (arith, none))
          | inr apart ↦ other_waits p.0 c.0 theirs g apart
        ]))

    reached_now : StepsLead (record { scene = scene; node = here }) (logs_of ms) (opening_view scene) (entries_of h.had ++ taken) piece.view
    reached_now =
        let at : Here = record { scene = scene; node = n.id } in
        let first : StepsLead at (logs_of ms) (opening_view scene) (items n.log) n.view = steps_before scene done ns ms race turns order i m h.em in
        let later : StepsLead at (logs_of ms) n.view taken piece.view =
        subst (λ (x : Scene). StepsLead (record { scene = x; node = n.id }) (logs_of ms) n.view taken piece.view) scene_at (piece.reached (logs_of ms) (all_known scene done ns ms race turns order i m h.em)) in
        subst (λ (x : NodeId). StepsLead (record { scene = scene; node = x }) (logs_of ms) (opening_view scene) (entries_of h.had ++ taken) piece.view) id_is
        (subst (λ (l : List Item). StepsLead at (logs_of ms) (opening_view scene) (l ++ taken) piece.view) (sym had_items)
        (steps_on at (logs_of ms) (opening_view scene) (items n.log) n.view taken piece.view first later))

    clients_now : SessionsMove (record { scene = scene; node = here }) piece.view (sessions_of scene) moved
    clients_now =
        subst (λ (x : NodeId). SessionsMove (record { scene = scene; node = x }) piece.view (sessions_of scene) moved) id_is
        (subst (λ (x : Scene). SessionsMove (record { scene = x; node = n.id }) piece.view (first_sessions (length x.sessions)) moved) scene_at piece.clients)

    last_round : IsRound scene (logs_of ms) news.0 done here h.had (piece_at i m h.em)
    last_round =
        record {
          upwards = groups_are n scene.nodes taken groups;
          most = few_of_each n scene.nodes taken groups;
          least = least_now;
          view = piece.view;
          reached = reached_now;
          clients = clients_now;
        }

    is_round : (r : ℕ) (p : Piece) → slice_get ps r ≡ Some p → IsRound scene (logs_of ms) news.0 r here (take r ps) p
    is_round r p e = elim (got_push h.had r (piece_at i m h.em) p (subst (λ (l : List Piece). slice_get l r ≡ Some p) h.all e)) [
      | inl q ↦ (let w = were i m ps h in
          let cut : take done ps ≡ h.had = ap (λ (l : List Piece). take done l) h.all ∙ take_front done h.had (piece_at i m h.em ∷ []) (sym w.count) in
          subst (λ (x : ℕ). IsRound scene (logs_of ms) news.0 x here (take x ps) p) (sym (q.0 ∙ w.count))
          (subst (λ (x : Piece). IsRound scene (logs_of ms) news.0 done here (take done ps) x) (sym q.1)
          (subst (λ (l : List Piece). IsRound scene (logs_of ms) news.0 done here l (piece_at i m h.em)) (sym cut) last_round)))
      | inr q ↦ stays i r m ps p h q
    ]

    are_now : AreRounds scene (logs_of ms) news.0 (done + 1) here m.log ps
    are_now =
        record {
          count = (let w = were i m ps h in let a = ap (λ (l : List Piece). length l) h.all in let c = length-append h.had (piece_at i m h.em ∷ []) in omega (arith, w.count, a, c));
          whole =
              ap entries_of h.all
              ∙ (flat_map-append (λ (p : Piece). p.taken ++ p.moved) h.had (piece_at i m h.em ∷ [])
              ∙ ((λ j. had_items j ++ append-nil (taken ++ moved) j)
              ∙ sym (items_now scene done ns ms race turns order i m h.em)));
          rounds = is_round;
        }

  same_seat : (a b : Seat) → Some a ≡ Some b → a ≡ b
  same_seat a b e = cc

  pub rounds_now : Rounds scene (logs_of ms) (done + 1)
  rounds_now = (
    news.0,
    news.1 ∙ sym (length-map ms (λ (n : Seat). n.log)),
    λ here log ps el ep.
        let at = log_at ms here log el in
        let c = news.2 at.place ps (ap (λ (y : ℕ). nth news.0 y) (sym at.number) ∙ ep) in
        let same : c.0 ≡ at.seat = same_seat c.0 at.seat (sym c.1 ∙ at.there) in
        subst (λ (x : NodeId). AreRounds scene (logs_of ms) news.0 (done + 1) x log ps) (id_at at.place here at.number)
        (subst (λ (x : Log). AreRounds scene (logs_of ms) news.0 (done + 1) (record { 0 = suc at.place }) x ps) (ap (λ (z : Seat). z.log) same ∙ at.log_)
        (are_now at.place c.0 ps c.2)),
  )

-- After a round of turns the logs replay to the nodes and are closed.
use Rattle.std.proofs.Common.{◌≡◌, ◌≢◌, ◌<◌, ◌++◌, ◌∙◌, ◌∷◌, ℕ, Bool, true, false, List, [], Some, None, Option, ap, append-nil, append_assoc, arith, if◌then◌else◌, inl, inr, refl, slice_get, subst, suc, sym}
use Rattle.lamport_log.proofs.NodeLogs.EntryPlaces.{nth_get, nth_left, nth_within}
use Rattle.lamport_log.proofs.NodeLogs.LogsGrow.{Keeps, KeepsStamps, stamped_stays, steps_stay, under_more, exact_from}
use Rattle.lamport_log.specs.Closed.{Begins, Closed, IsOfOther, Stamped, sent_to, sent_under, stamp_in, taken_from, taken_of}
use Rattle.lamport_log.specs.Logs.{Item, Log, answers_in, cut, items, message_in, message_of, messages_in}
use Rattle.lamport_log.specs.Replays.{AllReplay, Replays, StepsLead}
use Rattle.lamport_log.specs.declared.logs.LogEntry.{LogEntry}
use Rattle.lamport_log.specs.declared.logs.LogInput.{LogInput}
use Rattle.lamport_log.specs.declared.logs.LogInput.TheVariants.{Client, Taken}
use Rattle.race_round.proofs.Places.{at_log, beside, get_map, id_at, log_at, other_place, place_other}
use Rattle.race_round.proofs.Sequences.{items_grown, stamped_on, steps_on}
use Rattle.race_round.proofs.TurnsReach.{Reached, reached, took_sent}
use Rattle.race_round.specs.Races.{IsPlaced, IsRace, StillReplay, Turns, logs_of, views_of}
use Rattle.race_round.specs.Seats.{IsSent, Seat, numbers}
use Rattle.race_round.specs.Stretches.{Known, Logged, Stretch, entries_in}
use Rattle.race_round.specs.Turns.{Turn}
use Rattle.ring_links.specs.Ends.{Other, link_to}
use Rattle.ring_links.specs.Flows.{Move, taken_in}
use Rattle.ring_links.specs.Links.{InOrder}
use Rattle.ring_links.specs.declared.link.Link.{Link}
use Rattle.ring_links.specs.declared.parcel.Parcel.{Parcel}
use Rattle.std.proofs.lemmas.Bool.{cases_eq}
use Rattle.std.proofs.lemmas.Grind.{flat_map-append}
use Rattle.std.proofs.lemmas.List.{length-map}
use Rattle.std.proofs.lemmas.Option.{slice_get_within}
use Rattle.std.specs.List.{cons_option}
use Rattle.str_base.proofs.Lists.{slice_get_there}
use Rattle.str_base.proofs.Members.{at_in, in_append, in_at, in_map}
use Rattle.str_base.proofs.SameNames.{same_node-is}
use Rattle.str_base.specs.Members.{In}
use Rattle.str_base.specs.Versions.{same_node}
use Rattle.str_base.specs.declared.names.NodeId.{NodeId}
use Rattle.str_model.specs.Runs.{opening_view}
use Rattle.str_model.specs.Views.{View}
use Rattle.str_model.specs.declared.messages.Message.{Message}
use Rattle.str_scene.specs.Scenes.{Here, Scene, nth}

-- ---- one log

-- the items of a log that grew in a turn
pub turn_items : (scene : Scene) (logs : List Log) (w : Bool) (n m : Seat) (its : List Item) (moves : ℕ → List Move) → Replays scene logs n.log n.view → n.log.node ≡ n.id → m.log.node ≡ n.id
    → Stretch w n m its moves → items m.log ≡ items n.log ++ its
turn_items scene logs w n m its moves rep node node' s =
    (λ j. cut (node' j) (s.entries j) (s.messages j) (s.answers j))
    ∙ (items_grown n.id n.log.entries n.log.messages n.log.released its
    (exact_from (record { scene = scene; node = n.log.node }) logs (opening_view scene) n.view n.log.node n.log.entries n.log.messages n.log.released rep.steps rep.messages rep.released) s.made
    ∙ ap (λ (x : NodeId). cut x n.log.entries n.log.messages n.log.released ++ its) (sym node))

-- no entry takes a message of the node itself
none_own : (n : NodeId) (es : List LogEntry) → ((e : LogEntry) → In e es → IsOfOther n e.input) → taken_from n es ≡ []
none_own n [] h = refl
none_own n (e ∷ es) h = by_input e.input (h e (inl refl)) ∙ none_own n es (λ x i. h x (inr i))
  where
    by_input : (x : LogInput) → IsOfOther n x → cons_option (taken_of n x) (taken_from n es) ≡ taken_from n es
    by_input (Client s t) o = refl
    by_input (Taken m k) o = by_test (same_node m n) refl
      where
        by_test : (b : Bool) → same_node m n ≡ b → cons_option (if b then Some k else None) (taken_from n es) ≡ taken_from n es
        by_test true q = absurd (o (same_node-is m n q))
        by_test false q = refl

logged_begins : (w : Bool) (xs ys : List ℕ) → Logged w xs ys → Begins xs ys
logged_begins true xs ys h = ([], append-nil xs ∙ sym h)
logged_begins false xs ys h = h

begins_on : (xs ys zs : List ℕ) → Begins xs ys → Begins ys zs → Begins xs zs
begins_on xs ys zs a b = (a.0 ++ b.0, sym (append_assoc xs a.0 b.0) ∙ (ap (λ l. l ++ b.0) a.1 ∙ b.1))

-- ---- all logs

module _ (scene : Scene) (done : ℕ) (ns ms : List Seat) (race : IsRace scene done ns) (turns : Turns ns ms)
    (order : (i j : ℕ) (a b : Seat) → slice_get ms i ≡ Some a → slice_get ms j ≡ Some b → i ≢ j → (d : Link) → InOrder (link_to a.ends b.id.0 d) (link_to b.ends a.id.0 d)) where
  -- the node before its turn
  pub record Before (i : ℕ) (m : Seat) : Type 0 where
    pub seat : Seat
    pub there : slice_get ns i ≡ Some seat
    pub placed : IsPlaced scene done i seat
    pub within : i < scene.nodes
    pub turn : Turn seat m

  pub before : (i : ℕ) (m : Seat) → slice_get ms i ≡ Some m → Before i m
  before i m e =
      let n = beside ms ns i m (sym turns.count) e in
      let w = slice_get_within ns i n.0 n.1 in
      record { seat = n.0; there = n.1; placed = race.placed i n.0 n.1; within = (let c = race.count in omega (arith, w, c)); turn = turns.turn i n.0 m n.1 e }

  -- its turn is the one that was made at its place
  pub turn_is : (i : ℕ) (m : Seat) → (em : slice_get ms i ≡ Some m) → (before i m em).turn.whole ≡ (turns.turn i (before i m em).seat m (before i m em).there em).whole
  unfolding before
  turn_is i m em = refl

  module _ (i j : ℕ) (a b : Seat) (ea : slice_get ms i ≡ Some a) (eb : slice_get ms j ≡ Some b) (apart : i ≢ j) where
    abbrev p : Before i a
    p = before i a ea

    abbrev q : Before j b
    q = before j b eb

    oa : Other p.seat.ends q.seat.id.0
    oa = subst (λ (x : NodeId). Other p.seat.ends x.0) (sym q.placed.id_) (other_place scene done i p.seat p.placed p.within j apart q.within)

    ob : Other q.seat.ends p.seat.id.0
    ob = subst (λ (x : NodeId). Other q.seat.ends x.0) (sym p.placed.id_) (other_place scene done j q.seat q.placed q.within i (λ z. apart (sym z)) p.within)

    order_at : (d : Link) → InOrder (link_to a.ends q.seat.id.0 d) (link_to b.ends p.seat.id.0 d)
    order_at d =
        subst (λ (x : NodeId). InOrder (link_to a.ends x.0 d) (link_to b.ends p.seat.id.0 d)) q.turn.stretch.id_
        (subst (λ (x : NodeId). InOrder (link_to a.ends b.id.0 d) (link_to b.ends x.0 d)) p.turn.stretch.id_ (order i j a b ea eb apart d))

    pub reached_at : Reached q.turn.whole a b
    reached_at = reached p.seat q.seat a b (race.pairs i j p.seat q.seat p.there q.there apart).reaches p.turn q.turn oa ob order_at

    pub taken_at : (x : Parcel) → In x (taken_in (q.turn.moves (suc i))) → IsSent a.log x
    taken_at x h =
        took_sent p.seat q.seat a b (race.pairs i j p.seat q.seat p.there q.there apart).reaches p.turn q.turn oa ob order_at x
        (subst (λ (y : NodeId). In x (taken_in (q.turn.moves y.0))) (sym p.placed.id_) h)

  -- what was taken stands in the logs as they are now
  pub all_known : (j : ℕ) (b : Seat) → (eb : slice_get ms j ≡ Some b) → Known (logs_of ms) (before j b eb).seat.ends (before j b eb).turn.moves
  all_known j b eb k x o h =
      let q = before j b eb in
      let at = place_other scene done j q.seat q.placed q.within k.0 o in
      let a = slice_get_there ms at.0 (let c = race.count in let t = turns.count in let l = at.2 in omega (arith, c, t, l)) in
      let sent = taken_at at.0 j a.0 b a.1 eb (λ z. at.3 (sym z)) x (subst (λ (y : ℕ). In x (taken_in (q.turn.moves y))) at.1 h) in
      let there : nth (logs_of ms) k.0 ≡ Some a.0.log = ap (λ (y : ℕ). nth (logs_of ms) y) at.1 ∙ at_log ms at.0 a.0 a.1 in (
        ap (λ (y : Option Log). message_in y x.number) there ∙ sent.message_,
        ap (λ (y : Option Log). stamp_in y x.number) there ∙ sent.stamp_,
      )

  pub keeps : Keeps (logs_of ns) (logs_of ms)
  keeps n k x e = by_log (nth (logs_of ns) n.0) refl e
    where
      by_log : (o : Option Log) → nth (logs_of ns) n.0 ≡ o → message_in o k ≡ Some x → message_of (logs_of ms) n k ≡ Some x
      by_log None q f = absurd cc
      by_log (Some l) q f =
          let at = log_at ns n l q in
          let m = beside ns ms at.place at.seat turns.count at.there in
          let t = turns.turn at.place at.seat m.0 at.there m.1 in
          let g : nth at.seat.log.messages k ≡ Some x = ap (λ (z : Log). nth z.messages k) at.log_ ∙ f in
          ap (λ (o : Option Log). message_in o k) (ap (λ (y : ℕ). nth (logs_of ms) y) at.number ∙ at_log ms at.place m.0 m.1)
          ∙ (ap (λ (z : List Message). nth z k) t.stretch.messages
          ∙ (nth_left at.seat.log.messages (messages_in (t.taken ++ t.moved)) k (nth_within at.seat.log.messages k x g).1 ∙ g))

  keeps_stamps : KeepsStamps (logs_of ns) (logs_of ms)
  keeps_stamps n k s e = by_log (nth (logs_of ns) n.0) refl e
    where
      by_log : (o : Option Log) → nth (logs_of ns) n.0 ≡ o → stamp_in o k ≡ Some s → stamp_in (nth (logs_of ms) n.0) k ≡ Some s
      by_log None q f = absurd cc
      by_log (Some l) q f =
          let at = log_at ns n l q in
          let m = beside ns ms at.place at.seat turns.count at.there in
          let t = turns.turn at.place at.seat m.0 at.there m.1 in
          let g : sent_under at.seat.log.entries k ≡ Some s = ap (λ (z : Log). sent_under z.entries k) at.log_ ∙ f in
          ap (λ (o : Option Log). stamp_in o k) (ap (λ (y : ℕ). nth (logs_of ms) y) at.number ∙ at_log ms at.place m.0 m.1)
          ∙ (ap (λ (z : List LogEntry). sent_under z k) t.stretch.entries ∙ under_more at.seat.log.entries (entries_in (t.taken ++ t.moved)) k s g)

  -- ---- one node after its turn

  module _ (i : ℕ) (m : Seat) (em : slice_get ms i ≡ Some m) where
    abbrev b : Before i m
    b = before i m em

    abbrev its : List Item
    its = b.turn.taken ++ b.turn.moved

    abbrev s : Stretch b.turn.whole b.seat m its b.turn.moves
    s = b.turn.stretch

    abbrev here : Here
    here = record { scene = scene; node = b.seat.id }

    pub id_now : m.id ≡ record { 0 = suc i }
    id_now = s.id_ ∙ b.placed.id_

    pub log_now : m.log.node ≡ record { 0 = suc i }
    log_now = s.seat.log_ ∙ id_now

    pub old : Replays scene (logs_of ns) b.seat.log b.seat.view
    old = race.replay.1 (record { 0 = suc i }) b.seat.log b.seat.view (at_log ns i b.seat b.there) (get_map (λ (x : Seat). x.view) ns i b.seat b.there)

    pub items_now : items m.log ≡ items b.seat.log ++ its
    items_now = turn_items scene (logs_of ns) b.turn.whole b.seat m its b.turn.moves old b.placed.seat.log_ (s.seat.log_ ∙ s.id_) s

    pub steps_before : StepsLead here (logs_of ms) (opening_view scene) (items b.seat.log) b.seat.view
    steps_before =
        steps_stay here (logs_of ns) (logs_of ms) keeps (opening_view scene) (items b.seat.log) b.seat.view
        (subst (λ (x : NodeId). StepsLead (record { scene = scene; node = x }) (logs_of ns) (opening_view scene) (items b.seat.log) b.seat.view) b.placed.seat.log_ old.steps)

    replays_now : Replays scene (logs_of ms) m.log m.view
    replays_now =
        record {
          steps =
              subst (λ (x : NodeId). StepsLead (record { scene = scene; node = x }) (logs_of ms) (opening_view scene) (items m.log) m.view) (sym (s.seat.log_ ∙ s.id_))
              (subst (λ (l : List Item). StepsLead here (logs_of ms) (opening_view scene) l m.view) (sym items_now)
              (steps_on here (logs_of ms) (opening_view scene) (items b.seat.log) b.seat.view its m.view steps_before
              (subst (λ (x : Scene). StepsLead (record { scene = x; node = b.seat.id }) (logs_of ms) b.seat.view its m.view) b.placed.scene_ (s.steps (logs_of ms) (all_known i m em)))));
          messages = ap messages_in items_now ∙ (flat_map-append (λ (it : Item). it.sent) (items b.seat.log) its ∙ ((λ j. old.messages j ++ messages_in its) ∙ sym s.messages));
          released = ap answers_in items_now ∙ (flat_map-append (λ (it : Item). it.released) (items b.seat.log) its ∙ ((λ j. old.released j ++ answers_in its) ∙ sym s.answers));
        }

    -- no entry is of a message of the node itself
    own_entries : (e : LogEntry) → In e m.log.entries → IsOfOther (record { 0 = suc i }) e.input
    own_entries e h = elim (in_append b.seat.log.entries (entries_in its) e (subst (λ (l : List LogEntry). In e l) s.entries h)) [
      | inl x ↦ (let k = at_in b.seat.log.entries e x in race.closed.others (record { 0 = suc i }) b.seat.log (suc k.0) e (at_log ns i b.seat b.there) k.1)
      | inr x ↦ (let it = in_map (λ (y : Item). y.entry) its e x in
          subst (λ (y : NodeId). IsOfOther y e.input) b.placed.id_ (subst (λ (y : LogEntry). IsOfOther b.seat.id y.input) it.2 (s.made it.0 it.1).other))
    ]

    stamps_now : Stamped (logs_of ms) 0 m.log.entries
    stamps_now =
        subst (λ (l : List LogEntry). Stamped (logs_of ms) 0 l) (sym s.entries)
        (stamped_on (logs_of ms) 0 b.seat.log.entries (entries_in its)
        (stamped_stays (logs_of ns) (logs_of ms) keeps_stamps 0 b.seat.log.entries (race.closed.stamps (record { 0 = suc i }) b.seat.log (at_log ns i b.seat b.there)))
        (subst (λ (x : ℕ). Stamped (logs_of ms) x (entries_in its)) b.placed.stamp_ (s.stamps (logs_of ms) (all_known i m em))))

  -- ---- all of them

  same_view : (i : ℕ) (m : Seat) (n : NodeId) (view : View) → slice_get ms i ≡ Some m → n.0 ≡ suc i → nth (views_of ms) n.0 ≡ Some view → m.view ≡ view
  same_view i m n view em q e =
      let at : Some m.view ≡ Some view = sym (get_map (λ (x : Seat). x.view) ms i m em) ∙ (ap (λ (y : ℕ). nth (views_of ms) y) (sym q) ∙ e) in cc at

  replay_now : AllReplay scene (logs_of ms) (views_of ms)
  replay_now = (
    length-map ms (λ (n : Seat). n.view) ∙ sym (length-map ms (λ (n : Seat). n.log)),
    λ n log view el ev.
        let at = log_at ms n log el in
        subst (λ (x : View). Replays scene (logs_of ms) log x) (same_view at.place at.seat n view at.there at.number ev)
        (subst (λ (x : Log). Replays scene (logs_of ms) x at.seat.view) at.log_ (replays_now at.place at.seat at.there)),
  )

  orders_now : (i j : ℕ) (b a : Seat) → slice_get ms i ≡ Some b → slice_get ms j ≡ Some a → Begins (taken_from (record { 0 = suc j }) b.log.entries) (sent_to (record { 0 = suc i }) 1 a.log.messages)
  orders_now i j b a eb ea = elim (cases_eq i j) [
    | inl same ↦ (
        let none : taken_from (record { 0 = suc j }) b.log.entries ≡ [] =
        none_own (record { 0 = suc j }) b.log.entries (λ e h. subst (λ (x : ℕ). IsOfOther (record { 0 = suc x }) e.input) same (own_entries i b eb e h)) in
        subst (λ (l : List ℕ). Begins l (sent_to (record { 0 = suc i }) 1 a.log.messages)) (sym none) (sent_to (record { 0 = suc i }) 1 a.log.messages, refl)
        )
    | inr apart ↦ (
        let r = reached_at j i a b ea eb (λ z. apart (sym z)) in
        let q = begins_on (taken_from a.id b.log.entries) (numbers r.taken) (numbers r.all) (logged_begins (before i b eb).turn.whole (taken_from a.id b.log.entries) (numbers r.taken) r.took) r.begins in
        subst (λ (x : NodeId). Begins (taken_from x b.log.entries) (sent_to (record { 0 = suc i }) 1 a.log.messages)) (id_now j a ea)
        (subst (λ (x : NodeId). Begins (taken_from a.id b.log.entries) (sent_to x 1 a.log.messages)) (id_now i b eb)
        (subst (λ (l : List ℕ). Begins (taken_from a.id b.log.entries) l) r.numbers_ q))
        )
  ]

  closed_now : Closed (logs_of ms)
  closed_now =
      record {
        others = λ n log i e el ee.
            let at = log_at ms n log el in
            let k = nth_get log.entries i e ee in
            subst (λ (x : NodeId). IsOfOther x e.input) (id_at at.place n at.number)
            (own_entries at.place at.seat at.there e (subst (λ (x : Log). In e x.entries) (sym at.log_) (in_at log.entries k.0 e k.1)));
        orders = λ n k log from el ef.
            let b = log_at ms n log el in
            let a = log_at ms k from ef in
            subst (λ (x : NodeId). Begins (taken_from k log.entries) (sent_to x 1 from.messages)) (id_at b.place n b.number)
            (subst (λ (x : NodeId). Begins (taken_from x log.entries) (sent_to (record { 0 = suc b.place }) 1 from.messages)) (id_at a.place k a.number)
            (subst (λ (x : Log). Begins (taken_from (record { 0 = suc a.place }) x.entries) (sent_to (record { 0 = suc b.place }) 1 from.messages)) b.log_
            (subst (λ (x : Log). Begins (taken_from (record { 0 = suc a.place }) b.seat.log.entries) (sent_to (record { 0 = suc b.place }) 1 x.messages)) a.log_
            (orders_now b.place a.place b.seat a.seat b.there a.there))));
        stamps = λ n log el.
            let at = log_at ms n log el in
            subst (λ (x : Log). Stamped (logs_of ms) 0 x.entries) at.log_ (stamps_now at.place at.seat at.there);
      }

  pub still_now : StillReplay scene ms
  still_now =
      record {
        are = (
          length-map ms (λ (n : Seat). n.log) ∙ (turns.count ∙ race.count),
          λ n log el. let at = log_at ms n log el in
              ap (λ (x : Log). x.node) (sym at.log_) ∙ (log_now at.place at.seat at.there ∙ id_at at.place n at.number),
        );
        replay = replay_now;
        closed = closed_now;
      }

-- Stretches of a turn, one after another, and the stretch of one step.
use Rattle.std.proofs.Common.{◌≡◌, ◌≢◌, ◌≤◌, ◌+◌, ◌++◌, ◌∷◌, ◌∙◌, ℕ, Bool, true, List, [], Option, Some, None, append-nil, append_assoc, arith, ap, inl, inr, length, length-append, option_to_list, refl, subst, sym}
use Rattle.lamport_log.proofs.NodeLogs.LogsGrow.{sent_to_more}
use Rattle.lamport_log.specs.Closed.{IsOfOther, IsStamp, Stamped, sent_to, taken_from, taken_of}
use Rattle.lamport_log.specs.Logs.{IsSameLog, Item, Log, answers_in, messages_in}
use Rattle.lamport_log.specs.Replays.{MayBeIdle, StepsLead, came, input_of}
use Rattle.lamport_log.specs.declared.logs.LogEntry.{LogEntry}
use Rattle.lamport_log.specs.declared.logs.LogInput.{LogInput}
use Rattle.race_round.proofs.LinkMoves.{ends_on, moved_back, moved_other, sent_in_on, taken_in_on, then_moves}
use Rattle.race_round.proofs.Sequences.{last_on, letter_sent, logged_on, logged_same, sent_stays, stamped_on, steps_on, taken_on}
use Rattle.race_round.specs.Seats.{EndsMoved, IsSeat, Seat, here_at, last_stamp, numbers}
use Rattle.race_round.specs.Stretches.{IsMade, IsStopped, Known, Logged, Made, Stretch, Unmade, entries_in}
use Rattle.ring_links.specs.Ends.{Ends, Other}
use Rattle.ring_links.specs.Flows.{Move, sent_in, taken_in}
use Rattle.ring_links.specs.declared.parcel.Parcel.{Parcel}
use Rattle.std.proofs.lemmas.Grind.{flat_map-append}
use Rattle.std.proofs.lemmas.List.{map-append}
use Rattle.std.proofs.lemmas.List.Sums.{sum_by-append, sum_by-cons}
use Rattle.std.specs.List.{cons_option, sum_by}
use Rattle.str_base.proofs.Members.{in_append, in_left, in_right}
use Rattle.str_base.specs.Members.{In}
use Rattle.str_base.specs.declared.names.NodeId.{NodeId}
use Rattle.str_model.specs.Steps.{step}
use Rattle.str_model.specs.declared.messages.Input.{Input}
use Rattle.str_model.specs.declared.messages.Message.{Message}
use Rattle.str_scene.specs.Scenes.{Here, Scene}

-- ---- two stretches

module _ (ms ns : ℕ → List Move) where
  pub known_first : (logs : List Log) (e : Ends) → Known logs e (then_moves ms ns) → Known logs e ms
  known_first logs e h k p o i =
      h k p o (subst (λ (l : List Parcel). In p l) (sym (taken_in_on (ms k.0) (ns k.0))) (in_left (taken_in (ms k.0)) (taken_in (ns k.0)) p i))

  known_then : (logs : List Log) (e f : Ends) → EndsMoved ms e f → Known logs e (then_moves ms ns) → Known logs f ns
  known_then logs e f moved h k p o i =
      h k p (moved_back ms e f moved k.0 o) (subst (λ (l : List Parcel). In p l) (sym (taken_in_on (ms k.0) (ns k.0))) (in_right (taken_in (ms k.0)) (taken_in (ns k.0)) p i))

  taken_numbers : (k : ℕ) → numbers (taken_in (then_moves ms ns k)) ≡ numbers (taken_in (ms k)) ++ numbers (taken_in (ns k))
  taken_numbers k = ap numbers (taken_in_on (ms k) (ns k)) ∙ map-append (λ (p : Parcel). p.number) (taken_in (ms k)) (taken_in (ns k))

  sent_numbers : (k : ℕ) → numbers (sent_in (then_moves ms ns k)) ≡ numbers (sent_in (ms k)) ++ numbers (sent_in (ns k))
  sent_numbers k = ap numbers (sent_in_on (ms k) (ns k)) ∙ map-append (λ (p : Parcel). p.number) (sent_in (ms k)) (sent_in (ns k))

pub stretch_on : (w : Bool) (n m o : Seat) (a b : List Item) (ms ns : ℕ → List Move) → Stretch true n m a ms → Stretch w m o b ns → Stretch w n o (a ++ b) (then_moves ms ns)
stretch_on w n m o a b ms ns f g =
    record {
      scene_ = g.scene_ ∙ f.scene_;
      id_ = g.id_ ∙ f.id_;
      seat = g.seat;
      entries = g.entries ∙ (ap (λ (l : List LogEntry). l ++ entries_in b) f.entries ∙ (append_assoc n.log.entries (entries_in a) (entries_in b) ∙ ap (λ (l : List LogEntry). n.log.entries ++ l) (sym both_entries)));
      messages = g.messages ∙ (ap (λ (l : List Message). l ++ messages_in b) f.messages ∙ (append_assoc n.log.messages (messages_in a) (messages_in b) ∙ ap (λ (l : List Message). n.log.messages ++ l) (sym both_messages)));
      answers = g.answers ∙ (ap (λ l. l ++ answers_in b) f.answers ∙ (append_assoc n.log.released (answers_in a) (answers_in b) ∙ ap (λ l. n.log.released ++ l) (sym (flat_map-append (λ (it : Item). it.released) a b))));
      moved = ends_on ms ns n.ends m.ends o.ends f.moved g.moved;
      last = g.last ∙ (ap (λ (x : ℕ). last_stamp x (entries_in b)) f.last ∙ (sym (last_on n.stamp (entries_in a) (entries_in b)) ∙ ap (λ (l : List LogEntry). last_stamp n.stamp l) (sym both_entries)));
      made = λ it h. elim (in_append a b it h) [ inl i ↦ f.made it i | inr i ↦ subst (λ (x : NodeId). IsMade x it) f.id_ (g.made it i) ];
      steps = λ logs h. steps_on (here_at n) logs n.view a m.view b o.view (f.steps logs (known_first ms ns logs n.ends h))
          (subst (λ (x : Here). StepsLead x logs m.view b o.view) (λ j. record { scene = f.scene_ j; node = f.id_ j }) (g.steps logs (known_then ms ns logs n.ends m.ends f.moved h)));
      stamps = λ logs h. subst (λ (l : List LogEntry). Stamped logs n.stamp l) (sym both_entries)
          (stamped_on logs n.stamp (entries_in a) (entries_in b) (f.stamps logs (known_first ms ns logs n.ends h))
          (subst (λ (x : ℕ). Stamped logs x (entries_in b)) f.last (g.stamps logs (known_then ms ns logs n.ends m.ends f.moved h))));
      took = λ k other.
          let l : List ℕ = taken_from k (entries_in a ++ entries_in b) in
          let q : Logged w (taken_from k (entries_in a) ++ taken_from k (entries_in b)) (numbers (taken_in (ms k.0)) ++ numbers (taken_in (ns k.0))) =
          logged_on w (taken_from k (entries_in a)) (numbers (taken_in (ms k.0))) (taken_from k (entries_in b)) (numbers (taken_in (ns k.0))) (f.took k other) (g.took k (moved_other ms n.ends m.ends f.moved k.0 other)) in
          subst (λ (x : List ℕ). Logged w x (numbers (taken_in (then_moves ms ns k.0)))) (sym (ap (taken_from k) both_entries ∙ taken_on k (entries_in a) (entries_in b)))
          (subst (λ (x : List ℕ). Logged w (taken_from k (entries_in a) ++ taken_from k (entries_in b)) x) (sym (taken_numbers ms ns k.0)) q);
      sent = λ k other.
          let at : (length n.log.messages + 1) + length (messages_in a) ≡ length m.log.messages + 1 =
          (let e : length m.log.messages ≡ length n.log.messages + length (messages_in a) = ap (λ (l : List Message). length l) f.messages ∙ length-append n.log.messages (messages_in a) in omega (arith, e)) in
          sent_numbers ms ns k.0
          ∙ ((λ j. f.sent k other j ++ g.sent k (moved_other ms n.ends m.ends f.moved k.0 other) j)
          ∙ sym (ap (λ (l : List Message). sent_to k (length n.log.messages + 1) l) both_messages
          ∙ (sent_to_more k (length n.log.messages + 1) (messages_in a) (messages_in b)
          ∙ ap (λ (x : ℕ). sent_to k (length n.log.messages + 1) (messages_in a) ++ sent_to k x (messages_in b)) at)));
      parcels = λ k p other h. elim (in_append (sent_in (ms k.0)) (sent_in (ns k.0)) p (subst (λ (l : List Parcel). In p l) (sent_in_on (ms k.0) (ns k.0)) h)) [
        | inl i ↦ sent_stays m.log o.log p (entries_in b) (messages_in b) g.entries g.messages (f.parcels k p other i)
        | inr i ↦ g.parcels k p (moved_other ms n.ends m.ends f.moved k.0 other) i
      ];
      away = λ whole x h. elim (in_append (messages_in a) (messages_in b) x (subst (λ (l : List Message). In x l) both_messages h)) [
        | inl i ↦ f.away refl x i
        | inr i ↦ (λ q. g.away whole x i (q ∙ sym f.id_))
      ];
    }
  where
    both_entries : entries_in (a ++ b) ≡ entries_in a ++ entries_in b
    both_entries = map-append (λ (it : Item). it.entry) a b

    both_messages : messages_in (a ++ b) ≡ messages_in a ++ messages_in b
    both_messages = flat_map-append (λ (it : Item). it.sent) a b

-- a node that stopped later stopped
pub stopped_on : (o : Seat) (e f : Ends) (ms ns : ℕ → List Move) → EndsMoved ms e f → IsStopped o f ns → IsStopped o e (then_moves ms ns)
stopped_on o e f ms ns moved (inl h) = inl h
stopped_on o e f ms ns moved (inr (inl h)) = inr (inl h)
stopped_on o e f ms ns moved (inr (inr h)) =
    inr (inr (
      h.0,
      h.1,
      moved_back ms e f moved h.0.0 h.2,
      subst (λ (l : List Parcel). In h.1 l) (sym (taken_in_on (ms h.0.0) (ns h.0.0))) (in_right (taken_in (ms h.0.0)) (taken_in (ns h.0.0)) h.1 h.3),
      h.4,
    ))

-- ---- no step

-- nothing was done; what was taken isn't in the log
pub still : (w : Bool) (n m : Seat) (moves : ℕ → List Move) → IsSeat n → m.scene ≡ n.scene → m.id ≡ n.id → m.view ≡ n.view → IsSameLog n.log m.log → m.stamp ≡ n.stamp → EndsMoved moves n.ends m.ends
    → ((k : ℕ) → sent_in (moves k) ≡ []) → ((k : NodeId) → Logged w [] (numbers (taken_in (moves k.0)))) → Stretch w n m [] moves
still w n m moves seat scene_ id_ view_ log_ stamp_ moved sent took =
    record {
      scene_ = scene_;
      id_ = id_;
      seat = record {
        log_ = log_.node ∙ (seat.log_ ∙ sym id_);
        ends_ = moved.node_ ∙ (seat.ends_ ∙ ap (λ (x : NodeId). x.0) (sym id_));
        width = ap (λ (x : ℕ). x + 1) moved.width ∙ (seat.width ∙ ap (λ x. x.nodes) (sym scene_));
        counted = ap (λ (l : List LogEntry). sum_by (λ (e : LogEntry). e.sent) l) log_.entries ∙ (seat.counted ∙ ap (λ (l : List Message). length l) (sym log_.messages));
        number = subst (λ (x : NodeId). 1 ≤ x.0) (sym id_) seat.number;
        most = subst (λ (x : NodeId). x.0 ≤ m.scene.nodes) (sym id_) (subst (λ (x : Scene). n.id.0 ≤ x.nodes) (sym scene_) seat.most);
      };
      entries = log_.entries ∙ sym (append-nil n.log.entries);
      messages = log_.messages ∙ sym (append-nil n.log.messages);
      answers = log_.released ∙ sym (append-nil n.log.released);
      moved = moved;
      last = stamp_;
      made = λ it h. absurd h;
      steps = λ logs h. sym view_;
      stamps = λ logs h. tt;
      took = λ k o. took k;
      sent = λ k o. ap numbers (sent k.0);
      parcels = λ k p o h. absurd (subst (λ (l : List Parcel). In p l) (sent k.0) h);
      away = λ whole x h. absurd h;
    }

pub unmade_still : (n m : Seat) → IsSeat n → Unmade n m → (moves : ℕ → List Move) × Stretch true n m [] moves
unmade_still n m seat h =
    (h.rested.moves, still true n m h.rested.moves seat h.scene_ h.id_ h.view_ h.log_ h.stamp_ h.rested.moved h.rested.sent (λ k. ap numbers (h.rested.taken k.0)))

-- ---- one step

-- after some moves of the links a step was made, on what these moves took
pub one_step : (w : Bool) (n m : Seat) (e : Ends) (moves : ℕ → List Move) (input : Input) (logged : LogInput) (stamp : ℕ) (it : Item) → IsSeat n → EndsMoved moves n.ends e → ((k : ℕ) → sent_in (moves k) ≡ [])
    → (made : Made (record n { ends = e }) m input logged stamp it)
    → ((logs : List Log) → Known logs n.ends moves → (input_of logs logged ≡ Some input) × IsStamp logs n.stamp logged stamp)
    → MayBeIdle logged (came n.view (step (here_at n) input n.view)).idle → IsOfOther n.id logged
    → ((k : NodeId) → Other n.ends k.0 → numbers (taken_in (moves k.0)) ≡ option_to_list (taken_of k logged))
    → (w ≡ true → (x : Message) → In x it.sent → x.receiver ≢ n.id)
    → Stretch w n m (it ∷ []) (then_moves moves made.out.moves)
one_step w n m e moves input logged stamp it seat moved quiet made told idle other took away =
    record {
      scene_ = made.scene_;
      id_ = made.id_;
      seat = record {
        log_ = made.log_ ∙ (seat.log_ ∙ sym made.id_);
        ends_ = made.out.moved.node_ ∙ (moved.node_ ∙ (seat.ends_ ∙ ap (λ (x : NodeId). x.0) (sym made.id_)));
        width = ap (λ (x : ℕ). x + 1) (made.out.moved.width ∙ moved.width) ∙ (seat.width ∙ ap (λ x. x.nodes) (sym made.scene_));
        counted =
            ap (λ (l : List LogEntry). sum_by (λ (x : LogEntry). x.sent) l) made.entries
            ∙ (sum_by-append (λ (x : LogEntry). x.sent) n.log.entries (it.entry ∷ [])
            ∙ (ap (λ (x : ℕ). sum_by (λ (y : LogEntry). y.sent) n.log.entries + x) (sum_by-cons (λ (y : LogEntry). y.sent) it.entry [])
            ∙ (sums ∙ sym (ap (λ (l : List Message). length l) made.messages ∙ length-append n.log.messages it.sent))));
        number = subst (λ (x : NodeId). 1 ≤ x.0) (sym made.id_) seat.number;
        most = subst (λ (x : NodeId). x.0 ≤ m.scene.nodes) (sym made.id_) (subst (λ (x : Scene). n.id.0 ≤ x.nodes) (sym made.scene_) seat.most);
      };
      entries = made.entries;
      messages = made.messages ∙ ap (λ (l : List Message). n.log.messages ++ l) (sym (append-nil it.sent));
      answers = made.answers ∙ ap (λ l. n.log.released ++ l) (sym (append-nil it.released));
      moved = ends_on moves made.out.moves n.ends e m.ends moved made.out.moved;
      last = made.last ∙ sym made.stamp_;
      made = λ x h. elim h [
        | inl q ↦ subst (λ (y : Item). IsMade n.id y) q is_made
        | inr z ↦ absurd z
      ];
      steps = λ logs h. (
        input,
        ap (input_of logs) made.input_ ∙ (told logs (known_first moves made.out.moves logs n.ends h)).0,
        record {
          idle = made.idle_;
          moved = subst (λ (x : LogInput). MayBeIdle x (came n.view (step (here_at n) input n.view)).idle) (sym made.input_) idle;
          sent = made.sent_;
          count = made.count_ ∙ ap (λ (l : List Message). length l) made.sent_;
          released = made.released_;
          answers = made.answers_ ∙ ap (λ l. length l) made.released_;
        },
        sym made.view_,
      );
      stamps = λ logs h. (
        subst (λ (x : ℕ). IsStamp logs n.stamp it.entry.input x) (sym made.stamp_)
            (subst (λ (x : LogInput). IsStamp logs n.stamp x stamp) (sym made.input_) (told logs (known_first moves made.out.moves logs n.ends h)).1),
        tt,
      );
      took = λ k o. logged_same w (taken_from k (it.entry ∷ [])) (numbers (taken_in (then_moves moves made.out.moves k.0)))
          (taken_numbers moves made.out.moves k.0
          ∙ ((λ j. took k o j ++ numbers (made.out.taken k.0 j))
          ∙ (append-nil (option_to_list (taken_of k logged))
          ∙ (ap (λ (x : LogInput). option_to_list (taken_of k x)) (sym made.input_) ∙ one_taken (taken_of k it.entry.input)))));
      sent = λ k o.
          sent_numbers moves made.out.moves k.0
          ∙ ((λ j. numbers (quiet k.0 j) ++ numbers (sent_in (made.out.moves k.0)))
          ∙ (made.out.sent k (moved_other moves n.ends e moved k.0 o)
          ∙ ap (λ (l : List Message). sent_to k (length n.log.messages + 1) l) (sym (append-nil it.sent))));
      parcels = λ k p o h.
          let late : In p (sent_in (made.out.moves k.0)) = subst (λ (l : List Parcel). In p l) (sent_in_on (moves k.0) (made.out.moves k.0) ∙ (λ j. quiet k.0 j ++ sent_in (made.out.moves k.0))) h in
          let letter = made.out.letters k p (moved_other moves n.ends e moved k.0 o) late in
          letter_sent n.log m.log it.entry it.sent p made.entries made.messages seat.counted made.count_
          (record { place = letter.place; there = letter.there; number_ = letter.number_; stamp_ = letter.stamp_ ∙ sym made.stamp_ });
      away = λ whole x h. away whole x (subst (λ (l : List Message). In x l) (append-nil it.sent) h);
    }
  where
    sums : sum_by (λ (x : LogEntry). x.sent) n.log.entries + (it.entry.sent + 0) ≡ length n.log.messages + length it.sent
    sums = let a = seat.counted in let b = made.count_ in omega (arith, a, b)

    one_taken : (o : Option ℕ) → option_to_list o ≡ cons_option o []
    one_taken None = refl
    one_taken (Some k) = refl

    is_made : IsMade n.id it
    is_made = record { node_ = made.node_; sent_ = made.count_; answers_ = made.answers_; other = subst (λ (x : LogInput). IsOfOther n.id x) (sym made.input_) other }

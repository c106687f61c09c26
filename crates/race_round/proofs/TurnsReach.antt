-- What flows between two nodes after a round of turns.
use Rattle.std.proofs.Common.{◌≡◌, ◌+◌, ◌++◌, ◌∙◌, ℕ, Bool, List, ap, arith, inl, inr, length, subst, sym}
use Rattle.lamport_log.proofs.NodeLogs.LogsGrow.{sent_to_more}
use Rattle.lamport_log.specs.Closed.{Begins, sent_to, taken_from}
use Rattle.lamport_log.specs.Logs.{messages_in}
use Rattle.race_round.proofs.Sequences.{logged_on, sent_stays, taken_on}
use Rattle.race_round.specs.Races.{Reaches}
use Rattle.race_round.specs.Seats.{IsSent, Seat, numbers}
use Rattle.race_round.specs.Stretches.{Logged, entries_in}
use Rattle.race_round.specs.Turns.{Turn}
use Rattle.ring_links.proofs.Flowing.{flow_holds}
use Rattle.ring_links.specs.Ends.{Other, link_to, place_of}
use Rattle.str_base.proofs.Lists.{slice_get_there}
use Rattle.ring_links.specs.Flows.{Flows, sent_in, taken_in, under_way}
use Rattle.ring_links.specs.Links.{InOrder}
use Rattle.ring_links.specs.declared.link.Link.{Link}
use Rattle.ring_links.specs.declared.parcel.Parcel.{Parcel}
use Rattle.std.proofs.lemmas.List.{map-append}
use Rattle.str_base.proofs.Members.{in_append, in_left, in_right}
use Rattle.str_base.specs.Members.{In}
use Rattle.str_base.specs.declared.names.NodeId.{NodeId}
use Rattle.str_model.specs.declared.messages.Message.{Message}

-- as `Reaches`; where b's turn was broken off, b's log may lack the last of what b took
pub record Reached (w : Bool) (a b : Seat) : Type 0 where
  pub all : List Parcel
  pub taken : List Parcel
  pub flows : (d : Link) → Flows all taken (link_to a.ends b.id.0 d) (link_to b.ends a.id.0 d)
  pub numbers_ : numbers all ≡ sent_to b.id 1 a.log.messages
  pub sent : (p : Parcel) → In p all → IsSent a.log p
  pub took : Logged w (taken_from a.id b.log.entries) (numbers taken)
  pub begins : Begins (numbers taken) (numbers all)

module _ (a b a' b' : Seat) (r : Reaches a b) (ta : Turn a a') (tb : Turn b b') (oa : Other a.ends b.id.0) (ob : Other b.ends a.id.0)
    (order : (d : Link) → InOrder (link_to a'.ends b.id.0 d) (link_to b'.ends a.id.0 d)) where
  abbrev all_now : List Parcel
  all_now = r.all ++ sent_in (ta.moves b.id.0)

  abbrev taken_now : List Parcel
  taken_now = r.taken ++ taken_in (tb.moves a.id.0)

  -- one of the links
  some : Link
  some = (slice_get_there b.ends.links (place_of b.ends.node a.id.0) ob.2).0

  flows_now : (d : Link) → Flows all_now taken_now (link_to a'.ends b.id.0 d) (link_to b'.ends a.id.0 d)
  flows_now d =
      flow_holds.moved r.all r.taken (link_to a.ends b.id.0 d) (link_to b.ends a.id.0 d) (link_to a'.ends b.id.0 d) (link_to b'.ends a.id.0 d) (ta.moves b.id.0) (tb.moves a.id.0)
      (r.flows d) (ta.stretch.moved.links_ b.id.0 d oa) (tb.stretch.moved.links_ a.id.0 d ob) (order d)

  sent_now : (p : Parcel) → In p all_now → IsSent a'.log p
  sent_now p h =
      elim (in_append r.all (sent_in (ta.moves b.id.0)) p h) [
        | inl i ↦ sent_stays a.log a'.log p (entries_in (ta.taken ++ ta.moved)) (messages_in (ta.taken ++ ta.moved)) ta.stretch.entries ta.stretch.messages (r.sent p i)
        | inr i ↦ ta.stretch.parcels b.id p oa i
      ]

  pub reached : Reached tb.whole a' b'
  reached =
      record {
        all = all_now;
        taken = taken_now;
        flows = λ d.
            subst (λ (x : NodeId). Flows all_now taken_now (link_to a'.ends x.0 d) (link_to b'.ends a'.id.0 d)) (sym tb.stretch.id_)
            (subst (λ (x : NodeId). Flows all_now taken_now (link_to a'.ends b.id.0 d) (link_to b'.ends x.0 d)) (sym ta.stretch.id_) (flows_now d));
        numbers_ =
            map-append (λ (p : Parcel). p.number) r.all (sent_in (ta.moves b.id.0))
            ∙ ((λ j. r.numbers_ j ++ ta.stretch.sent b.id oa j)
            ∙ (ap (λ (x : ℕ). sent_to b.id 1 a.log.messages ++ sent_to b.id x (messages_in (ta.taken ++ ta.moved))) from
            ∙ (sym (sent_to_more b.id 1 a.log.messages (messages_in (ta.taken ++ ta.moved)))
            ∙ (ap (λ (l : List Message). sent_to b.id 1 l) (sym ta.stretch.messages)
            ∙ ap (λ (x : NodeId). sent_to x 1 a'.log.messages) (sym tb.stretch.id_)))));
        sent = sent_now;
        took =
            subst (λ (l : List ℕ). Logged tb.whole (taken_from a'.id b'.log.entries) l) (sym (map-append (λ (p : Parcel). p.number) r.taken (taken_in (tb.moves a.id.0))))
            (subst (λ (l : List ℕ). Logged tb.whole l (numbers r.taken ++ numbers (taken_in (tb.moves a.id.0)))) (sym logs)
            (logged_on tb.whole (taken_from a.id b.log.entries) (numbers r.taken) (taken_from a.id (entries_in (tb.taken ++ tb.moved))) (numbers (taken_in (tb.moves a.id.0))) r.took (tb.stretch.took a.id ob)));
        begins = (
          numbers (under_way (link_to a'.ends b.id.0 some) (link_to b'.ends a.id.0 some)),
          sym (map-append (λ (p : Parcel). p.number) taken_now (under_way (link_to a'.ends b.id.0 some) (link_to b'.ends a.id.0 some))) ∙ ap numbers (sym (flows_now some).flow),
        );
      }
    where
      from : length a.log.messages + 1 ≡ 1 + length a.log.messages
      from = omega arith

      logs : taken_from a'.id b'.log.entries ≡ taken_from a.id b.log.entries ++ taken_from a.id (entries_in (tb.taken ++ tb.moved))
      logs =
          ap (λ (x : NodeId). taken_from x b'.log.entries) ta.stretch.id_
          ∙ (ap (taken_from a.id) tb.stretch.entries
          ∙ taken_on a.id b.log.entries (entries_in (tb.taken ++ tb.moved)))

  -- what b took in its turn are messages of a's log as it is now
  pub took_sent : (p : Parcel) → In p (taken_in (tb.moves a.id.0)) → IsSent a'.log p
  took_sent p h =
      let in_taken : In p taken_now = in_right r.taken (taken_in (tb.moves a.id.0)) p h in
      sent_now p (subst (λ (l : List Parcel). In p l) (sym (flows_now some).flow) (in_left taken_now (under_way (link_to a'.ends b.id.0 some) (link_to b'.ends a.id.0 some)) p in_taken))

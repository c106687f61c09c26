-- What flows from one node to another keeps its order.
use Rattle.std.proofs.Common.{◌≡◌, ◌<◌, List, [], ◌∷◌, ◌++◌, length, drop, Option, Some, None, option_to_list, refl, ap, sym, ◌∙◌, arith, inl, inr, append-nil, append_assoc}
use Rattle.std.proofs.lemmas.List.{append_cancel_left, drop_at}
use Rattle.std.proofs.Math.ListN.{drop_of_length-le}
use mathlib.Core.List.{IsPrefix}
use Rattle.ring_links.specs.declared.link.Link.{Link}
use Rattle.ring_links.specs.declared.parcel.Parcel.{Parcel}
use Rattle.ring_links.specs.Links.{put, got, waiting, arrived, in_ring, IsFresh, InOrder, Sends, Takes, Stays, Settled, Unmoved}
use Rattle.ring_links.specs.Flows.{under_way, Flows, Move, Moves, sent_in, taken_in, FlowHolds, ArrivalHolds}
use Rattle.ring_links.specs.Flows.Move.{Sent, Took, Readied}

-- ---- lists

module _ {X : Type 0} where
  -- a list is a beginning of it and what is left without that
  prefix_rest : (xs ys : List X) → IsPrefix xs ys → ys ≡ xs ++ drop (length xs) ys
  prefix_rest xs ys h =
      let rest : drop (length xs) ys ≡ h.0 = ap (λ (zs : List X). drop (length xs) zs) (sym h.1) ∙ drop_at xs h.0 (length xs) refl in
      sym h.1 ∙ ap (λ (zs : List X). xs ++ zs) (sym rest)

  four : (a b c d : List X) → ((a ++ b) ++ c) ++ d ≡ a ++ (b ++ (c ++ d))
  four a b c d = append_assoc (a ++ b) c d ∙ append_assoc a b (c ++ d)

  -- what was in the ring and waited, with what was sent since, is what was got since, what is in the ring and what waits
  cut : (pa pa' gb gb' ri ri' wa wa' k g : List X) → pa ≡ gb ++ ri → pa' ≡ gb' ++ ri' → pa' ++ wa' ≡ (pa ++ wa) ++ k → gb' ≡ gb ++ g
      → ri ++ (wa ++ k) ≡ g ++ (ri' ++ wa')
  cut pa pa' gb gb' ri ri' wa wa' k g p p' s q =
      append_cancel_left gb (ri ++ (wa ++ k)) (g ++ (ri' ++ wa'))
      (sym (four gb ri wa k)
      ∙ (ap (λ (x : List X). (x ++ wa) ++ k) (sym p)
      ∙ (sym s
      ∙ (ap (λ (x : List X). x ++ wa') p'
      ∙ (ap (λ (x : List X). (x ++ ri') ++ wa') q
      ∙ four gb g ri' wa')))))

  -- the flow after that, where the inbox and what was got since became what was taken and the inbox
  joined : (all taken ar ar' ri ri' wa wa' k g tk : List X) → all ≡ taken ++ (ar ++ (ri ++ wa)) → ri ++ (wa ++ k) ≡ g ++ (ri' ++ wa') → tk ++ ar' ≡ ar ++ g
      → all ++ k ≡ (taken ++ tk) ++ (ar' ++ (ri' ++ wa'))
  joined all taken ar ar' ri ri' wa wa' k g tk f e t =
      ap (λ (x : List X). x ++ k) f
      ∙ (append_assoc taken (ar ++ (ri ++ wa)) k
      ∙ (ap (λ (x : List X). taken ++ x) (append_assoc ar (ri ++ wa) k)
      ∙ (ap (λ (x : List X). taken ++ (ar ++ x)) (append_assoc ri wa k)
      ∙ (ap (λ (x : List X). taken ++ (ar ++ x)) e
      ∙ (ap (λ (x : List X). taken ++ x) (sym (append_assoc ar g (ri' ++ wa')))
      ∙ (ap (λ (x : List X). taken ++ (x ++ (ri' ++ wa'))) (sym t)
      ∙ (ap (λ (x : List X). taken ++ x) (append_assoc tk ar' (ri' ++ wa'))
      ∙ sym (append_assoc taken tk (ar' ++ (ri' ++ wa'))))))))))

-- ---- one side

-- what was put into the ring and what waits grow by the parcel
sends_one : (p : Parcel) (l m : Link) → Sends p l m → put m ++ waiting m ≡ (put l ++ waiting l) ++ p ∷ []
sends_one p l m s = by_backlog (waiting l) refl
  where
    by_backlog : (ws : List Parcel) → waiting l ≡ ws → put m ++ waiting m ≡ (put l ++ waiting l) ++ p ∷ []
    by_backlog [] e =
        let none : put l ++ waiting l ≡ put l = ap (λ (x : List Parcel). put l ++ x) e ∙ append-nil (put l) in
        elim (s.2 (ap (λ (x : List Parcel). length x) e)) [
          | inl h ↦ ap (λ (x : List Parcel). put m ++ x) h.1 ∙ (append-nil (put m) ∙ (h.0 ∙ ap (λ (x : List Parcel). x ++ p ∷ []) (sym none)))
          | inr h ↦ ap (λ (x : List Parcel). x ++ waiting m) h.0 ∙ (ap (λ (x : List Parcel). put l ++ x) h.1 ∙ ap (λ (x : List Parcel). x ++ p ∷ []) (sym none))
        ]
    by_backlog (w ∷ ws) e =
        let some : 0 < length (waiting l) = omega (arith, ap (λ (x : List Parcel). length x) e) in
        let h = s.1 some in
        ap (λ (x : List Parcel). x ++ waiting m) h.0 ∙ (ap (λ (x : List Parcel). put l ++ x) h.1 ∙ sym (append_assoc (put l) (waiting l) (p ∷ [])))

-- what a side sent in some moves joins what it put and what waits
sent_more : (ms : List Move) (l l' : Link) → Moves ms l l' → put l' ++ waiting l' ≡ (put l ++ waiting l) ++ sent_in ms
sent_more [] l l' e = ap (λ (x : Link). put x ++ waiting x) e ∙ sym (append-nil (put l ++ waiting l))
sent_more (Sent p ∷ ms) l l' h =
    sent_more ms h.0 l' h.2
    ∙ (ap (λ (x : List Parcel). x ++ sent_in ms) (sends_one p l h.0 h.1)
    ∙ append_assoc (put l ++ waiting l) (p ∷ []) (sent_in ms))
sent_more (Took r ∷ ms) l l' h =
    let t : Takes r l h.0 = h.1 in
    sent_more ms h.0 l' h.2
    ∙ (ap (λ (x : List Parcel). (x ++ waiting h.0) ++ sent_in ms) t.4
    ∙ ap (λ (x : List Parcel). (put l ++ x) ++ sent_in ms) t.5)
sent_more (Readied ∷ ms) l l' h =
    let t : Stays l h.0 = h.1 in
    sent_more ms h.0 l' h.2
    ∙ (ap (λ (x : List Parcel). (x ++ waiting h.0) ++ sent_in ms) t.1
    ∙ ap (λ (x : List Parcel). (put l ++ x) ++ sent_in ms) t.3)

-- what a side got, taken and inbox together
record Came (taken : List Parcel) (l l' : Link) : Type 0 where
  more : List Parcel
  got_more : got l' ≡ got l ++ more
  in_turn : taken ++ arrived l' ≡ arrived l ++ more

takes_one : (r : Option Parcel) (l m : Link) → Takes r l m → Came (option_to_list r) l m
takes_one r l m t = by_inbox r t (arrived l) refl
  where
    by_inbox : (r : Option Parcel) → Takes r l m → (ws : List Parcel) → arrived l ≡ ws → Came (option_to_list r) l m
    by_inbox (Some p) t [] e =
        let h = t.2 (ap (λ (x : List Parcel). length x) e) in
        record {
          more = p ∷ [];
          got_more = h.1;
          in_turn = ap (λ (x : List Parcel). p ∷ x) h.0 ∙ sym (ap (λ (x : List Parcel). x ++ p ∷ []) e);
        }
    by_inbox None t [] e =
        let h = t.2 (ap (λ (x : List Parcel). length x) e) in
        record {
          more = [];
          got_more = t.3.3 ∙ sym (append-nil (got l));
          in_turn = h.0 ∙ sym (append-nil (arrived l) ∙ e);
        }
    by_inbox (Some p) t (w ∷ ws) e =
        let some : 0 < length (arrived l) = omega (arith, ap (λ (x : List Parcel). length x) e) in
        let h = t.1 some in
        record {
          more = [];
          got_more = h.1 ∙ sym (append-nil (got l));
          in_turn = sym h.0 ∙ sym (append-nil (arrived l));
        }
    by_inbox None t (w ∷ ws) e =
        let long = ap (λ (x : List Parcel). length x) e in
        let short = ap (λ (x : List Parcel). length x) t.3.0 in
        absurd (omega (arith, long, short))

came_more : (ms : List Move) (l l' : Link) → Moves ms l l' → Came (taken_in ms) l l'
came_more [] l l' e = record {
  more = [];
  got_more = ap (λ (x : Link). got x) e ∙ sym (append-nil (got l));
  in_turn = ap (λ (x : Link). arrived x) e ∙ sym (append-nil (arrived l));
}
came_more (Sent p ∷ ms) l l' h =
    let s : Sends p l h.0 = h.1 in
    let c = came_more ms h.0 l' h.2 in
    record {
      more = c.more;
      got_more = c.got_more ∙ ap (λ (x : List Parcel). x ++ c.more) s.3;
      in_turn = c.in_turn ∙ ap (λ (x : List Parcel). x ++ c.more) s.4;
    }
came_more (Took r ∷ ms) l l' h =
    let o = takes_one r l h.0 h.1 in
    let c = came_more ms h.0 l' h.2 in
    record {
      more = o.more ++ c.more;
      got_more = c.got_more ∙ (ap (λ (x : List Parcel). x ++ c.more) o.got_more ∙ append_assoc (got l) o.more c.more);
      in_turn = append_assoc (option_to_list r) (taken_in ms) (arrived l')
          ∙ (ap (λ (x : List Parcel). option_to_list r ++ x) c.in_turn
          ∙ (sym (append_assoc (option_to_list r) (arrived h.0) c.more)
          ∙ (ap (λ (x : List Parcel). x ++ c.more) o.in_turn
          ∙ append_assoc (arrived l) o.more c.more)));
    }
came_more (Readied ∷ ms) l l' h =
    let s : Stays l h.0 = h.1 in
    let c = came_more ms h.0 l' h.2 in
    record {
      more = c.more;
      got_more = c.got_more ∙ ap (λ (x : List Parcel). x ++ c.more) s.2;
      in_turn = c.in_turn ∙ ap (λ (x : List Parcel). x ++ c.more) s.4;
    }

-- ---- the two sides

first : (a b : Link) → IsFresh a → IsFresh b → Flows [] [] a b
first a b fa fb =
    let short = ap (λ (x : List Parcel). length x) fa.0 in
    let none : in_ring a b ≡ [] = drop_of_length-le (put a) (omega (arith, short)) in
    record {
      in_order = ([], append-nil (got b) ∙ (fb.1 ∙ sym fa.0));
      flow = sym (ap (λ (x : List Parcel). x ++ (in_ring a b ++ waiting a)) fb.3
          ∙ (ap (λ (x : List Parcel). x ++ waiting a) none
          ∙ fa.2));
    }

moved : (all taken : List Parcel) (a b a' b' : Link) (ms ns : List Move) → Flows all taken a b → Moves ms a a' → Moves ns b b' → InOrder a' b'
    → Flows (all ++ sent_in ms) (taken ++ taken_in ns) a' b'
moved all taken a b a' b' ms ns f m n o =
    let c = came_more ns b b' n in
    let ring = prefix_rest (got b) (put a) f.in_order in
    let ring' = prefix_rest (got b') (put a') o in
    let e = cut (put a) (put a') (got b) (got b') (in_ring a b) (in_ring a' b') (waiting a) (waiting a') (sent_in ms) c.more ring ring' (sent_more ms a a' m) c.got_more in
    record {
      in_order = o;
      flow = joined all taken (arrived b) (arrived b') (in_ring a b) (in_ring a' b') (waiting a) (waiting a') (sent_in ms) c.more (taken_in ns) f.flow e c.in_turn;
    }

arrives : (a b a' b' : Link) → Settled a b a' b' → arrived b' ≡ under_way a b
arrives a b a' b' s = s.2 ∙ append_assoc (arrived b) (in_ring a b) (waiting a)

whole : (a b a' b' : Link) → Settled a b a' b' → under_way a' b' ≡ arrived b'
whole a b a' b' s =
    let long = ap (λ (x : List Parcel). length x) (s.0 ∙ sym s.1) in
    let none : in_ring a' b' ≡ [] = drop_of_length-le (put a') (omega (arith, long)) in
    ap (λ (x : List Parcel). arrived b' ++ (x ++ waiting a')) none
    ∙ (ap (λ (x : List Parcel). arrived b' ++ x) s.3
    ∙ append-nil (arrived b'))

settled : (all taken : List Parcel) (a b a' b' : Link) → Flows all taken a b → Settled a b a' b' → Flows all taken a' b'
settled all taken a b a' b' f s = record {
  in_order = ([], append-nil (got b') ∙ (s.0 ∙ sym s.1));
  flow = f.flow ∙ ap (λ (x : List Parcel). taken ++ x) (sym (whole a b a' b' s ∙ arrives a b a' b' s));
}

stays : (a b a' b' : Link) → Unmoved a b a' b' → under_way a' b' ≡ under_way a b
stays a b a' b' u =
    let ring : in_ring a' b' ≡ in_ring a b = ap (λ (x : List Parcel). drop (length x) (put a')) u.0 ∙ ap (λ (x : List Parcel). drop (length (got b)) x) u.1 in
    ap (λ (x : List Parcel). x ++ (in_ring a' b' ++ waiting a')) u.2
    ∙ (ap (λ (x : List Parcel). arrived b ++ (x ++ waiting a')) ring
    ∙ ap (λ (x : List Parcel). arrived b ++ (in_ring a b ++ x)) u.3)

unmoved : (all taken : List Parcel) (a b a' b' : Link) → Flows all taken a b → Unmoved a b a' b' → Flows all taken a' b'
unmoved all taken a b a' b' f u = record {
  in_order = (f.in_order.0, ap (λ (x : List Parcel). x ++ f.in_order.0) u.0 ∙ (f.in_order.1 ∙ sym u.1));
  flow = f.flow ∙ ap (λ (x : List Parcel). taken ++ x) (sym (stays a b a' b' u));
}

pub flow_holds : FlowHolds
flow_holds = record { first = first; moved = moved; settled = settled; unmoved = unmoved }

pub arrival_holds : ArrivalHolds
arrival_holds = record { arrives = arrives; whole = whole; stays = stays }

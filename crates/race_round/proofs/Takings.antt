-- What a node takes of another node, one message after another.
use Rattle.std.proofs.Common.{◌≡◌, ◌≢◌, ◌≤◌, ◌<◌, ◌+◌, ◌++◌, ◌∷◌, ◌∙◌, ◌==◌, ◌*◌, ◌^◌, ◌⊎◌, ℕ, Bool, true, false, List, [], None, Option, Some, ap, append-nil, arith, eq-eqb, if◌then◌else◌, inl, inr, length, length-append, max, min, option_map, option_to_list, refl, subst, suc, sym}
use Rattle.lamport_log.specs.Closed.{IsStamp, taken_of}
use Rattle.lamport_log.specs.Logs.{IsSameLog, Item, Log}
use Rattle.lamport_log.specs.Replays.{input_of}
use Rattle.lamport_log.specs.Rounds.{from_node, is_from}
use Rattle.lamport_log.specs.declared.logs.LogInput.{LogInput}
use Rattle.lamport_log.specs.declared.logs.LogInput.TheVariants.{Taken as TakenInput}
use Rattle.race_round.proofs.Groups.{from_all, node_of, past_groups}
use Rattle.race_round.proofs.Letters.{not_same}
use Rattle.race_round.proofs.LinkMoves.{ends_on, ends_stay, inbox_falls, moved_other, no_moves, one_moved, only, sent_in_on, then_moves}
use Rattle.race_round.proofs.RoundsGrow.{from_node_taken}
use Rattle.race_round.proofs.Stretching.{one_step, still, stopped_on, stretch_on}
use Rattle.race_round.specs.Nodes.{BrokenOff, TookOne, TookSome, TookUpTo}
use Rattle.race_round.specs.Seats.{EndsMoved, IsSeat, Seat, numbers}
use Rattle.race_round.specs.Stretches.{Known, Stretch, Tried}
use Rattle.race_round.specs.Stretches.Tried.{was_made, was_unmade, was_wrong}
use Rattle.race_round.specs.Turns.{AllFrom, Grouped, IsGroup}
use Rattle.race_round.specs.declared.takes.Taking.TheVariants.{Nothing, Stopped, Taken}
use Rattle.ring_links.specs.Ends.{Ends, OnlyLink, Other, link_to}
use Rattle.ring_links.specs.Flows.{Move, sent_in, taken_in}
use Rattle.ring_links.specs.Flows.Move.{Took}
use Rattle.ring_links.specs.Links.{Takes, arrived}
use Rattle.ring_links.specs.declared.link.Link.{Link}
use Rattle.ring_links.specs.declared.parcel.Parcel.{Parcel}
use Rattle.std.proofs.lemmas.Bool.{cases_lt, true≢false}
use Rattle.std.proofs.lemmas.List.{length-map}
use Rattle.str_base.proofs.Members.{in_append}
use Rattle.str_base.proofs.SameNames.{is-same_node, same_node-is}
use Rattle.str_base.specs.Members.{In}
use Rattle.str_base.specs.declared.names.NodeId.{NodeId}
use Rattle.str_model.specs.declared.messages.Input.TheVariants.{Deliver}
use Rattle.str_model.specs.declared.messages.Message.{Message}

-- the moves of a try to take
abbrev pub took_moves : NodeId → Option Parcel → ℕ → List Move
took_moves s r = only s.0 (Took r ∷ [])

module _ (n : Seat) (e : Ends) (s : NodeId) (r : Option Parcel) (seat : IsSeat n) (o : Other n.ends s.0) (same : OnlyLink n.ends e s.0)
    (takes : (d : Link) → Takes r (link_to n.ends s.0 d) (link_to e s.0 d)) where
  taking_moved : EndsMoved (took_moves s r) n.ends e
  taking_moved = one_moved n.ends e s.0 (Took r) (let a = seat.ends_ in let b = seat.number in omega (arith, a, b)) o same takes

  taking_quiet : (k : ℕ) → sent_in (took_moves s r k) ≡ []
  taking_quiet k = by_test (k == s.0)
    where
      by_test : (b : Bool) → sent_in (if b then Took r ∷ [] else []) ≡ []
      by_test true = refl
      by_test false = refl

  -- the node with its ends after the try
  abbrev after_take : Seat
  after_take = record n { ends = e }

  pub seat_after : IsSeat after_take
  seat_after = record { log_ = seat.log_; ends_ = same.0 ∙ seat.ends_; width = ap (λ (x : ℕ). x + 1) same.1 ∙ seat.width; counted = seat.counted; number = seat.number; most = seat.most }

same_log : (l : Log) → IsSameLog l l
same_log l = record { node = refl; entries = refl; messages = refl; released = refl }

-- ---- one try

-- nothing was there
pub took_nothing : (n : Seat) (e : Ends) (s : NodeId) → IsSeat n → Other n.ends s.0 → OnlyLink n.ends e s.0 → ((d : Link) → Takes None (link_to n.ends s.0 d) (link_to e s.0 d))
    → TookOne Nothing s n (record n { ends = e })
took_nothing n e s seat o same takes = (
  took_moves s None,
  still true n (record n { ends = e }) (took_moves s None) seat refl refl refl (same_log n.log) refl (taking_moved n e s None seat o same takes) (taking_quiet n e s None seat o same takes) (λ k. none_numbers (k.0 == s.0)),
  λ d. ((takes d).2 (ap (λ (l : List Parcel). length l) (takes d).3.0)).0,
)
  where
    none_numbers : (b : Bool) → numbers (taken_in (if b then Took None ∷ [] else [])) ≡ []
    none_numbers true = refl
    none_numbers false = refl

-- what a step on a taken message leads to
abbrev pub TookTried : Bool → NodeId → Seat → Seat → Type 0
TookTried true s n m = TookOne Taken s n m
TookTried false s n m = TookOne Stopped s n m

module _ (n : Seat) (e : Ends) (s : NodeId) (p : Parcel) (seat : IsSeat n) (o : Other n.ends s.0) (same : OnlyLink n.ends e s.0)
    (takes : (d : Link) → Takes (Some p) (link_to n.ends s.0 d) (link_to e s.0 d)) where
  abbrev ms : ℕ → List Move
  ms = took_moves s (Some p)

  abbrev logged : LogInput
  logged = TakenInput s p.number

  abbrev stamp : ℕ
  stamp = max n.stamp p.stamp + 1

  taken_there : taken_in (took_moves s (Some p) s.0) ≡ p ∷ []
  taken_there = ap (λ (b : Bool). taken_in (if b then Took (Some p) ∷ [] else [])) (eq-eqb s.0 s.0 refl)

  told : (logs : List Log) → Known logs n.ends (took_moves s (Some p)) → (input_of logs (TakenInput s p.number) ≡ Some (Deliver p.message)) × IsStamp logs n.stamp (TakenInput s p.number) (max n.stamp p.stamp + 1)
  told logs known =
      let k = known s p o (subst (λ (l : List Parcel). In p l) (sym taken_there) (inl refl)) in
      (ap (λ (x : Option Message). option_map (λ m. Deliver m) x) k.0, (p.stamp, k.1, refl))

  took : (k : NodeId) → Other n.ends k.0 → numbers (taken_in (took_moves s (Some p) k.0)) ≡ option_to_list (taken_of k (TakenInput s p.number))
  took k other = by_test (k.0 == s.0) refl
    where
      by_test : (b : Bool) → (k.0 == s.0) ≡ b → numbers (taken_in (if b then Took (Some p) ∷ [] else [])) ≡ option_to_list (taken_of k (TakenInput s p.number))
      by_test true q =
          let is : s ≡ k = sym (same_node-is k s q) in
          sym (ap (λ (b : Bool). option_to_list (if b then Some p.number else None)) (is-same_node s k is))
      by_test false q =
          let apart : s ≢ k = (λ z. true≢false (sym (is-same_node k s (sym z)) ∙ q)) in
          sym (ap (λ (b : Bool). option_to_list (if b then Some p.number else None)) (not_same s k apart))

  other_node : s ≢ n.id
  other_node q = o.0 (ap (λ (x : NodeId). x.0) q ∙ sym seat.ends_)

  -- a stamp was the last one
  pub took_late : 2 ^ 62 ≤ max n.stamp p.stamp → TookOne Stopped s n (record n { ends = e })
  took_late late = (
    [],
    took_moves s (Some p),
    still false n (record n { ends = e }) (took_moves s (Some p)) seat refl refl refl (same_log n.log) refl (taking_moved n e s (Some p) seat o same takes) (taking_quiet n e s (Some p) seat o same takes)
        (λ k. (numbers (taken_in (took_moves s (Some p) k.0)), refl)),
    omega arith,
    inr (by_size (cases_lt n.stamp p.stamp)),
  )
    where
      by_size : (n.stamp < p.stamp) ⊎ (p.stamp ≤ n.stamp) → (2 ^ 62 ≤ n.stamp) ⊎ ((k : NodeId) × (x : Parcel) × Other n.ends k.0 × In x (taken_in (took_moves s (Some p) k.0)) × (2 ^ 62 ≤ x.stamp))
      by_size (inl less) = inr (s, p, o, subst (λ (l : List Parcel). In p l) (sym taken_there) (inl refl), omega (arith, less, late))
      by_size (inr less) = inl (omega (arith, less, late))

  -- a step was tried on it
  pub took_tried : (b : Bool) (m : Seat) → Tried (record n { ends = e }) m (Deliver p.message) (TakenInput s p.number) (max n.stamp p.stamp + 1) b → TookTried b s n m
  took_tried true m (was_made it made away) = (
    it,
    then_moves (took_moves s (Some p)) made.out.moves,
    one_step true n m e (took_moves s (Some p)) (Deliver p.message) (TakenInput s p.number) (max n.stamp p.stamp + 1) it seat (taking_moved n e s (Some p) seat o same takes) (taking_quiet n e s (Some p) seat o same takes)
        made told tt other_node took (λ w. away),
    ap (is_from s) made.input_ ∙ is-same_node s s refl,
  )
  took_tried false m (was_wrong it made wants) = (
    it ∷ [],
    then_moves (took_moves s (Some p)) made.out.moves,
    one_step false n m e (took_moves s (Some p)) (Deliver p.message) (TakenInput s p.number) (max n.stamp p.stamp + 1) it seat (taking_moved n e s (Some p) seat o same takes) (taking_quiet n e s (Some p) seat o same takes)
        made told tt other_node took (λ w. absurd (true≢false (sym w))),
    omega arith,
    inl wants,
  )
  took_tried false m (was_unmade u wants) = (
    [],
    then_moves (took_moves s (Some p)) u.rested.moves,
    still false n m (then_moves (took_moves s (Some p)) u.rested.moves) seat u.scene_ u.id_ u.view_ u.log_ u.stamp_
        (ends_on (took_moves s (Some p)) u.rested.moves n.ends e m.ends (taking_moved n e s (Some p) seat o same takes) u.rested.moved)
        (λ k. sent_in_on (took_moves s (Some p) k) (u.rested.moves k) ∙ (λ j. taking_quiet n e s (Some p) seat o same takes k j ++ u.rested.sent k j))
        (λ k. (numbers (taken_in (then_moves (took_moves s (Some p)) u.rested.moves k.0)), refl)),
    omega arith,
    inl wants,
  )

pub took_step : (n : Seat) (e : Ends) (s : NodeId) (p : Parcel) → IsSeat n → Other n.ends s.0 → OnlyLink n.ends e s.0 → ((d : Link) → Takes (Some p) (link_to n.ends s.0 d) (link_to e s.0 d)) → (st : ℕ) → st ≡ max n.stamp p.stamp
    → (b : Bool) (m : Seat) → Tried (record n { ends = e }) m (Deliver p.message) (TakenInput s p.number) (st + 1) b → TookTried b s n m
took_step n e s p seat o same takes st is b m h =
    took_tried n e s p seat o same takes b m (subst (λ (x : ℕ). Tried (record n { ends = e }) m (Deliver p.message) (TakenInput s p.number) (x + 1) b) is h)

pub took_true : (b : Bool) (s : NodeId) (n m : Seat) → b ≡ true → TookTried b s n m → TookOne Taken s n m
took_true true s n m e h = h
took_true false s n m e h = absurd (true≢false (sym e))

pub took_false : (b : Bool) (s : NodeId) (n m : Seat) → b ≡ false → TookTried b s n m → TookOne Stopped s n m
took_false true s n m e h = absurd (true≢false e)
took_false false s n m e h = h

-- ---- several of one node

-- so many messages of the node were taken
pub record TakesSo (k : ℕ) (s : NodeId) (n m : Seat) : Type 0 where
  pub part : List Item
  pub moves : ℕ → List Move
  pub stretch : Stretch true n m part moves
  pub from : AllFrom s part
  pub count : length part ≡ k

pub none_yet : (n : Seat) → IsSeat n → Stretch true n n [] no_moves
none_yet n seat = still true n n no_moves seat refl refl refl (same_log n.log) refl (ends_stay n.ends) (λ k. refl) (λ k. refl)

pub takes_first : (s : NodeId) (n : Seat) → IsSeat n → TakesSo 0 s n n
takes_first s n seat = record { part = []; moves = no_moves; stretch = none_yet n seat; from = λ it h. absurd h; count = refl }

pub takes_next : (k : ℕ) (s : NodeId) (n m o : Seat) → TakesSo k s n m → TookOne Taken s m o → TakesSo (k + 1) s n o
takes_next k s n m o a b =
    record {
      part = a.part ++ b.0 ∷ [];
      moves = then_moves a.moves b.1;
      stretch = stretch_on true n m o a.part (b.0 ∷ []) a.moves b.1 a.stretch b.2;
      from = λ it h. elim (in_append a.part (b.0 ∷ []) it h) [
        | inl i ↦ a.from it i
        | inr i ↦ elim i [ inl q ↦ subst (λ (x : Item). is_from s x.entry.input ≡ true) q b.3 | inr z ↦ absurd z ]
      ];
      count = (let l = length-append a.part (b.0 ∷ []) in let c = a.count in omega (arith, l, c));
    }

pub takes_all : (s : NodeId) (n m : Seat) → TakesSo 8 s n m → TookSome s n m
takes_all s n m a =
    record {
      part = a.part;
      moves = a.moves;
      stretch = a.stretch;
      group = record { from = a.from; most = (let c = a.count in omega (arith, c)); least = λ o d. (let c = a.count in omega (arith, c)) };
    }

-- how many were taken, as the links tell
taken_long : (s : NodeId) (n m : Seat) (its : List Item) (moves : ℕ → List Move) → Stretch true n m its moves → Other n.ends s.0 → length (taken_in (moves s.0)) ≡ length (from_node s its)
taken_long s n m its moves st o =
    sym (length-map (taken_in (moves s.0)) (λ (p : Parcel). p.number))
    ∙ (ap (λ (l : List ℕ). length l) (st.took s o)
    ∙ sym (from_node_taken s its))

-- the inbox at first is no longer than what was taken and the inbox now
inbox_at : (s : NodeId) (n m : Seat) (its : List Item) (moves : ℕ → List Move) → Stretch true n m its moves → Other n.ends s.0 → (d : Link)
    → length (arrived (link_to n.ends s.0 d)) ≤ length (arrived (link_to m.ends s.0 d)) + length (from_node s its)
inbox_at s n m its moves st o d =
    let falls = inbox_falls (moves s.0) (link_to n.ends s.0 d) (link_to m.ends s.0 d) (st.moved.links_ s.0 d o) in
    let long = taken_long s n m its moves st o in
    omega (arith, falls, long)

pub takes_nothing : (k : ℕ) (s : NodeId) (n m o : Seat) → k ≤ 8 → TakesSo k s n m → TookOne Nothing s m o → TookSome s n o
takes_nothing k s n m o few a b =
    let st = stretch_on true n m o a.part [] a.moves b.0 a.stretch b.1 in
    let same : a.part ++ [] ≡ a.part = append-nil a.part in
    record {
      part = a.part ++ [];
      moves = then_moves a.moves b.0;
      stretch = st;
      group = record {
        from = subst (λ (l : List Item). AllFrom s l) (sym same) a.from;
        most = (let c = a.count in let l = ap (λ (x : List Item). length x) same in omega (arith, c, l, few));
        least = λ other d.
            let falls = inbox_at s n o (a.part ++ []) (then_moves a.moves b.0) st other d in
            let none = ap (λ (l : List Parcel). length l) (b.2 d) in
            let all = ap (λ (l : List Item). length l) (ap (from_node s) same ∙ (from_all s a.part a.from ∙ sym same)) in
            omega (arith, falls, none, all);
      };
    }

pub takes_stopped : (k : ℕ) (s : NodeId) (n m o : Seat) → k < 8 → TakesSo k s n m → TookOne Stopped s m o → BrokenOff 8 n o
takes_stopped k s n m o less a b =
    record {
      its = a.part ++ b.0;
      moves = then_moves a.moves b.1;
      stretch = stretch_on false n m o a.part b.0 a.moves b.1 a.stretch b.2;
      few = (let l = length-append a.part b.0 in let c = a.count in let f = b.3 in omega (arith, l, c, f, less));
      stopped = stopped_on o n.ends m.ends a.moves b.1 a.stretch.moved b.4;
    }

-- ---- of each node upwards

pub takes_none : (n : Seat) → IsSeat n → TookUpTo 0 n n
takes_none n seat = record { its = []; moves = no_moves; stretch = none_yet n seat; groups = refl; few = omega arith }

-- the next group, of a node of which nothing was taken yet
next_group : (k : ℕ) (n m : Seat) (its part : List Item) (moves : ℕ → List Move) → Stretch true n m its moves → Grouped n k its → IsGroup m (node_of (suc k)) part → IsGroup n (node_of (suc k)) part
next_group k n m its part moves st groups g =
    record {
      from = g.from;
      most = g.most;
      least = λ o d.
          let falls = inbox_at (node_of (suc k)) n m its moves st o d in
          let none = ap (λ (l : List Item). length l) (past_groups n k its groups (suc k) (omega arith)) in
          let least = g.least (moved_other moves n.ends m.ends st.moved (suc k) o) d in
          at_least (length (arrived (link_to n.ends (suc k) d))) (length (arrived (link_to m.ends (suc k) d))) (length part) (omega (arith, falls, none)) least;
    }
  where
    at_least : (a c x : ℕ) → a ≤ c → min 8 c ≤ x → min 8 a ≤ x
    at_least a c x le h = omega (arith, le, h)

pub takes_more : (k : ℕ) (n m o : Seat) → TookUpTo k n m → TookSome (node_of (k + 1)) m o → TookUpTo (k + 1) n o
takes_more k n m o a b =
    let up : k + 1 ≡ suc k = omega arith in
    let g : IsGroup n (node_of (suc k)) b.part = next_group k n m a.its b.part a.moves a.stretch a.groups (subst (λ (x : ℕ). IsGroup m (node_of x) b.part) up b.group) in
    record {
      its = a.its ++ b.part;
      moves = then_moves a.moves b.moves;
      stretch = stretch_on true n m o a.its b.part a.moves b.moves a.stretch b.stretch;
      groups = subst (λ (x : ℕ). Grouped n x (a.its ++ b.part)) (sym up) (a.its, b.part, refl, a.groups, g);
      few = (let l = length-append a.its b.part in let f = a.few in let e = g.most in omega (arith, l, f, e));
    }

-- of the node itself nothing is taken
pub takes_own : (k : ℕ) (n m : Seat) → TookUpTo k n m → n.ends.node ≡ k + 1 → TookUpTo (k + 1) n m
takes_own k n m a own =
    let up : k + 1 ≡ suc k = omega arith in
    let g : IsGroup n (node_of (suc k)) [] = record { from = λ it h. absurd h; most = omega arith; least = λ o d. absurd (o.0 (sym (own ∙ up))) } in
    record {
      its = a.its;
      moves = a.moves;
      stretch = a.stretch;
      groups = subst (λ (x : ℕ). Grouped n x a.its) (sym up) (a.its, [], sym (append-nil a.its), a.groups, g);
      few = (let f = a.few in omega (arith, f));
    }

pub takes_broken : (k nodes : ℕ) (n m o : Seat) → k < nodes → TookUpTo k n m → BrokenOff 8 m o → BrokenOff (8 * nodes) n o
takes_broken k nodes n m o less a b =
    record {
      its = a.its ++ b.its;
      moves = then_moves a.moves b.moves;
      stretch = stretch_on false n m o a.its b.its a.moves b.moves a.stretch b.stretch;
      few = (let l = length-append a.its b.its in let f = a.few in let g = b.few in omega (arith, l, f, g, less));
      stopped = stopped_on o n.ends m.ends a.moves b.moves a.stretch.moved b.stopped;
    }

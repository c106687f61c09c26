-- The messages of a step, sent one after another.
use Rattle.std.proofs.Common.{◌≡◌, ◌≢◌, ◌≤◌, ◌<◌, ◌+◌, ◌++◌, ◌∷◌, ◌∙◌, ◌==◌, ◌&&◌, ◌-◌, ◌⊎◌, ℕ, Bool, true, false, List, [], Some, ap, arith, cond, if◌then◌else◌, inl, inr, length, ltb-false, nat_lt, refl, slice_get, slice_index_or, subst, suc, sym, take, zero}
use Rattle.lamport_log.proofs.NodeLogs.LogsGrow.{sent_to_more}
use Rattle.lamport_log.specs.Closed.{sent_to}
use Rattle.race_round.proofs.LinkMoves.{ends_on, ends_stay, moved_other, no_moves, one_moved, only, only_stays, sent_in_on, taken_in_on, then_moves}
use Rattle.race_round.proofs.Places.{place_within}
use Rattle.race_round.specs.Seats.{Rested, numbers}
use Rattle.race_round.specs.Sending.{Loses}
use Rattle.race_round.specs.Stretches.{IsLetter, SentAll}
use Rattle.ring_links.specs.Ends.{Ends, OnlyLink, Other, link_to}
use Rattle.ring_links.specs.Flows.{Move, sent_in, taken_in}
use Rattle.ring_links.specs.Flows.Move.{Sent}
use Rattle.ring_links.specs.Links.{Sends, spare}
use Rattle.ring_links.specs.declared.link.Link.{Link}
use Rattle.ring_links.specs.declared.parcel.Parcel.{Parcel}
use Rattle.std.proofs.lemmas.Bool.{and_parts, cases_eq}
use Rattle.std.proofs.lemmas.List.{map-append}
use Rattle.str_base.proofs.Lists.{get_append_left, get_append_right, slice_get_there}
use Rattle.str_base.proofs.Members.{in_append}
use Rattle.str_base.proofs.SameNames.{is-same_node, same_node-is}
use Rattle.str_base.specs.Members.{In}
use Rattle.str_base.specs.Versions.{same_node}
use Rattle.str_base.specs.declared.names.NodeId.{NodeId}
use Rattle.str_model.specs.declared.messages.Message.{Message}
use Rattle.std.proofs.lemmas.Option.{get_or_from_slice_get, slice_get_within}

-- ---- one after another

letter_left : (before stamp : ℕ) (ms ns : List Message) (p : Parcel) → IsLetter before stamp ms p → IsLetter before stamp (ms ++ ns) p
letter_left before stamp ms ns p h =
    record { place = h.place; there = get_append_left ms ns h.place (slice_get_within ms h.place p.message h.there) ∙ h.there; number_ = h.number_; stamp_ = h.stamp_ }

letter_right : (before stamp : ℕ) (ms ns : List Message) (p : Parcel) → IsLetter (before + length ms) stamp ns p → IsLetter before stamp (ms ++ ns) p
letter_right before stamp ms ns p h =
    record { place = length ms + h.place; there = get_append_right ms ns h.place ∙ h.there; number_ = (let e = h.number_ in omega (arith, e)); stamp_ = h.stamp_ }

pub sent_on : (e f g : Ends) (ms ns : List Message) (before stamp : ℕ) → SentAll e f ms before stamp → SentAll f g ns (before + length ms) stamp → SentAll e g (ms ++ ns) before stamp
sent_on e f g ms ns before stamp a b =
    record {
      moves = then_moves a.moves b.moves;
      moved = ends_on a.moves b.moves e f g a.moved b.moved;
      taken = λ k. taken_in_on (a.moves k) (b.moves k) ∙ (λ j. a.taken k j ++ b.taken k j);
      sent = λ k o.
          let at : (before + length ms) + 1 ≡ (before + 1) + length ms = omega arith in
          ap numbers (sent_in_on (a.moves k.0) (b.moves k.0))
          ∙ (map-append (λ (p : Parcel). p.number) (sent_in (a.moves k.0)) (sent_in (b.moves k.0))
          ∙ ((λ j. a.sent k o j ++ b.sent k (moved_other a.moves e f a.moved k.0 o) j)
          ∙ (ap (λ (x : ℕ). sent_to k (before + 1) ms ++ sent_to k x ns) at
          ∙ sym (sent_to_more k (before + 1) ms ns))));
      letters = λ k p o h. elim (in_append (sent_in (a.moves k.0)) (sent_in (b.moves k.0)) p (subst (λ (l : List Parcel). In p l) (sent_in_on (a.moves k.0) (b.moves k.0)) h)) [
        | inl i ↦ letter_left before stamp ms ns p (a.letters k p o i)
        | inr i ↦ letter_right before stamp ms ns p (b.letters k p (moved_other a.moves e f a.moved k.0 o) i)
      ];
    }

-- room was made, and then messages were sent
pub rested_sent : (e f g : Ends) (ms : List Message) (before stamp : ℕ) → Rested e f → SentAll f g ms before stamp → SentAll e g ms before stamp
rested_sent e f g ms before stamp a b =
    record {
      moves = then_moves a.moves b.moves;
      moved = ends_on a.moves b.moves e f g a.moved b.moved;
      taken = λ k. taken_in_on (a.moves k) (b.moves k) ∙ (λ j. a.taken k j ++ b.taken k j);
      sent = λ k o.
          ap numbers (sent_in_on (a.moves k.0) (b.moves k.0) ∙ (λ j. a.sent k.0 j ++ sent_in (b.moves k.0)))
          ∙ b.sent k (moved_other a.moves e f a.moved k.0 o);
      letters = λ k p o h.
          b.letters k p (moved_other a.moves e f a.moved k.0 o)
          (subst (λ (l : List Parcel). In p l) (sent_in_on (a.moves k.0) (b.moves k.0) ∙ (λ j. a.sent k.0 j ++ sent_in (b.moves k.0))) h);
    }

pub none_sent : (e : Ends) (before stamp : ℕ) → SentAll e e [] before stamp
none_sent e before stamp = record { moves = no_moves; moved = ends_stay e; taken = λ k. refl; sent = λ k o. refl; letters = λ k p o h. absurd h }

-- ---- one message

pub not_same : (m n : NodeId) → m ≢ n → same_node m n ≡ false
not_same m n apart = by_test (same_node m n) refl
  where
    by_test : (b : Bool) → same_node m n ≡ b → same_node m n ≡ false
    by_test false q = q
    by_test true q = absurd (apart (same_node-is m n q))

no_number : (m : Message) (k : NodeId) (i : ℕ) → m.receiver ≢ k → sent_to k i (m ∷ []) ≡ []
no_number m k i apart = ap (λ (b : Bool). if b then i ∷ [] else []) (not_same m.receiver k apart)

its_number : (m : Message) (k : NodeId) (i : ℕ) → m.receiver ≡ k → sent_to k i (m ∷ []) ≡ i ∷ []
its_number m k i same = ap (λ (b : Bool). if b then i ∷ [] else []) (is-same_node m.receiver k same)

-- a message for no other node is not sent
pub unsent : (e : Ends) (m : Message) (before stamp : ℕ) → ((k : NodeId) → Other e k.0 → m.receiver ≢ k) → SentAll e e (m ∷ []) before stamp
unsent e m before stamp none =
    record {
      moves = no_moves;
      moved = ends_stay e;
      taken = λ k. refl;
      sent = λ k o. sym (no_number m k (before + 1) (none k o));
      letters = λ k p o h. absurd h;
    }

-- another node of the scene
pub other_within : (e : Ends) (k nodes : ℕ) → 1 ≤ e.node → length e.links + 1 ≡ nodes → Other e k → k ≤ nodes
other_within e k nodes some wide o = by_test (nat_lt k e.node) refl o.2
  where
    by_test : (b : Bool) → nat_lt k e.node ≡ b → cond b (k - 1) (k - 2) < length e.links → k ≤ nodes
    by_test true q l = (let a = o.1 in omega (arith, a, l, wide))
    by_test false q l = (let a = ltb-false k e.node q in let b = o.0 in omega (arith, a, b, l, wide, some))

pub other_number : (e : Ends) (k nodes : ℕ) → 1 ≤ e.node → e.node ≤ nodes → length e.links + 1 ≡ nodes → k ≢ e.node → 1 ≤ k → k ≤ nodes → Other e k
other_number e k nodes some most wide apart low high =
    let at = place_within e.node k nodes apart low high some most in (apart, low, omega (arith, at, wide))

pub own_unsent : (e : Ends) (m : Message) (before stamp : ℕ) → m.receiver.0 ≡ e.node → SentAll e e (m ∷ []) before stamp
own_unsent e m before stamp own = unsent e m before stamp (λ k o q. o.0 (ap (λ (x : NodeId). x.0) (sym q) ∙ own))

pub strange_unsent : (e : Ends) (m : Message) (before stamp nodes : ℕ) → 1 ≤ e.node → length e.links + 1 ≡ nodes → (m.receiver.0 < 1) ⊎ (nodes < m.receiver.0) → SentAll e e (m ∷ []) before stamp
strange_unsent e m before stamp nodes some wide strange = unsent e m before stamp (λ k o q. no_node k o (ap (λ (x : NodeId). x.0) q) strange)
  where
    no_node : (k : NodeId) → Other e k.0 → m.receiver.0 ≡ k.0 → (m.receiver.0 < 1) ⊎ (nodes < m.receiver.0) → ⊥
    no_node k o q (inl less) = let a = o.1 in omega (arith, a, q, less)
    no_node k o q (inr less) = let a = other_within e k.0 nodes some wide o in omega (arith, a, q, less)

-- a send takes room for one parcel in its own backlog alone
pub loses_one : (e f : Ends) (r : ℕ) (p : Parcel) → 1 ≤ e.node → Other e r → OnlyLink e f r → ((d : Link) → Sends p (link_to e r d) (link_to f r d)) → Loses 1 e f
loses_one e f r p some at same sends k d o = elim (cases_eq k r) [
  | inl is ↦ subst (λ (x : ℕ). spare (link_to e x d) ≤ spare (link_to f x d) + 1) (sym is) (sends d).6
  | inr apart ↦ (let stay = ap (λ (l : Link). spare l) (only_stays e f r k some same o.0 at.0 o.1 at.1 apart d) in omega (arith, stay))
]

module _ (e f : Ends) (m : Message) (p : Parcel) (before stamp : ℕ) (some : 1 ≤ e.node) (at : Other e m.receiver.0) (same : OnlyLink e f m.receiver.0)
    (sends : (d : Link) → Sends p (link_to e m.receiver.0 d) (link_to f m.receiver.0 d)) (is_message : p.message ≡ m) (is_number : p.number ≡ before + 1) (is_stamp : p.stamp ≡ stamp) where
  abbrev its_moves : ℕ → List Move
  its_moves = only m.receiver.0 (Sent p ∷ [])

  none_taken : (k : ℕ) → taken_in (its_moves k) ≡ []
  none_taken k = by_test (k == m.receiver.0)
    where
      by_test : (b : Bool) → taken_in (if b then Sent p ∷ [] else []) ≡ []
      by_test true = refl
      by_test false = refl

  its_sent : (k : NodeId) → numbers (sent_in (its_moves k.0)) ≡ sent_to k (before + 1) (m ∷ [])
  its_sent k = by_test (k.0 == m.receiver.0) refl
    where
      by_test : (b : Bool) → (k.0 == m.receiver.0) ≡ b → numbers (sent_in (if b then Sent p ∷ [] else [])) ≡ sent_to k (before + 1) (m ∷ [])
      by_test true q =
          let is : m.receiver ≡ k = sym (same_node-is k m.receiver q) in
          ap (λ (n : ℕ). n ∷ []) is_number ∙ sym (its_number m k (before + 1) is)
      by_test false q =
          let apart : m.receiver ≢ k = (λ s. true_not_false (sym (is-same_node k m.receiver (sym s)) ∙ q)) in
          sym (no_number m k (before + 1) apart)
        where
          true_not_false : true ≡ false → ⊥
          true_not_false e = cc

  its_letter : (k : ℕ) (x : Parcel) → In x (sent_in (its_moves k)) → IsLetter before stamp (m ∷ []) x
  its_letter k x = by_test (k == m.receiver.0)
    where
      by_test : (b : Bool) → In x (sent_in (if b then Sent p ∷ [] else [])) → IsLetter before stamp (m ∷ []) x
      by_test true (inl q) =
          subst (λ (y : Parcel). IsLetter before stamp (m ∷ []) y) q
          (record { place = 0; there = ap (λ (y : Message). Some y) (sym is_message); number_ = is_number; stamp_ = is_stamp })
      by_test true (inr z) = absurd z
      by_test false z = absurd z

  pub sent_one : SentAll e f (m ∷ []) before stamp
  sent_one =
      record {
        moves = its_moves;
        moved = one_moved e f m.receiver.0 (Sent p) some at same sends;
        taken = none_taken;
        sent = λ k o. its_sent k;
        letters = λ k x o h. its_letter k.0 x h;
      }

-- ---- room

pub loses_none : (e : Ends) (n : ℕ) → Loses n e e
loses_none e n k d o = omega arith

-- ---- the first of several messages

pub record SentSome (e f : Ends) (ms : List Message) (before stamp place : ℕ) (away : Bool) : Type 0 where
  pub sent : SentAll e f (take place ms) before stamp
  pub room : Loses place e f
  pub other : away ≡ true → (m : Message) → In m (take place ms) → m.receiver.0 ≢ e.node

take_next : (ms : List Message) (i : ℕ) (m : Message) → slice_get ms i ≡ Some m → take (i + 1) ms ≡ take i ms ++ m ∷ []
take_next ms i m e = let q : i + 1 ≡ suc i = omega arith in ap (λ (n : ℕ). take n ms) q ∙ next ms i m e
  where
    next : (xs : List Message) (k : ℕ) (x : Message) → slice_get xs k ≡ Some x → take (suc k) xs ≡ take k xs ++ x ∷ []
    next [] k x e = absurd cc
    next (y ∷ xs) zero x e = let q : y ≡ x = cc in ap (λ z. z ∷ []) q
    next (y ∷ xs) (suc k) x e = ap (λ l. y ∷ l) (next xs k x e)

take_long : (ms : List Message) (i : ℕ) → i ≤ length ms → length (take i ms) ≡ i
take_long ms zero h = refl
take_long [] (suc i) h = absurd (omega (arith, h))
take_long (m ∷ ms) (suc i) h = ap suc (take_long ms i (omega (arith, h)))

pub sent_first : (e : Ends) (ms : List Message) (before stamp : ℕ) → SentSome e e ms before stamp 0 true
sent_first e ms before stamp = record { sent = none_sent e before stamp; room = loses_none e 0; other = λ w m h. absurd h }

pub sent_next : (e f g : Ends) (ms : List Message) (before stamp place : ℕ) (away r away' : Bool) (m : Message) → SentSome e f ms before stamp place away → slice_get ms place ≡ Some m
    → SentAll f g (m ∷ []) (before + place) stamp → Loses 1 f g → (r ≡ true → m.receiver.0 ≢ f.node) → (away' ≡ true → (away ≡ true) × (r ≡ true)) → SentSome e g ms before stamp (place + 1) away'
sent_next e f g ms before stamp place away r away' m a there b loses other both =
    let cut = take_next ms place m there in
    let long = take_long ms place (let w = slice_get_within ms place m there in omega (arith, w)) in
    record {
      sent =
          subst (λ (l : List Message). SentAll e g l before stamp) (sym cut)
          (sent_on e f g (take place ms) (m ∷ []) before stamp a.sent (subst (λ (n : ℕ). SentAll f g (m ∷ []) (before + n) stamp) (sym long) b));
      room = λ k d o. let x = a.room k d o in let y = loses k d (moved_other a.sent.moves e f a.sent.moved k o) in omega (arith, x, y);
      other = λ w x h.
          elim (in_append (take place ms) (m ∷ []) x (subst (λ (l : List Message). In x l) cut h)) [
            | inl i ↦ a.other (both w).0 x i
            | inr i ↦ elim i [
              | inl q ↦ (λ z. other (both w).1 (ap (λ (y : Message). y.receiver.0) q ∙ (z ∙ sym a.sent.moved.node_)))
              | inr z ↦ absurd z
            ]
          ];
    }

-- all of them
pub sent_last : (e f : Ends) (ms : List Message) (before stamp place : ℕ) (away : Bool) → length ms ≤ place → SentSome e f ms before stamp place away
    → SentAll e f ms before stamp × (away ≡ true → (m : Message) → In m ms → m.receiver.0 ≢ e.node)
sent_last e f ms before stamp place away long h =
    let all : take place ms ≡ ms = whole ms place long in (
      subst (λ (l : List Message). SentAll e f l before stamp) all h.sent,
      λ w m i. h.other w m (subst (λ (l : List Message). In m l) (sym all) i),
    )
  where
    whole : (xs : List Message) (n : ℕ) → length xs ≤ n → take n xs ≡ xs
    whole [] zero q = refl
    whole [] (suc n) q = refl
    whole (x ∷ xs) zero q = absurd (omega (arith, q))
    whole (x ∷ xs) (suc n) q = ap (λ l. x ∷ l) (whole xs n (omega (arith, q)))

-- as the loop has it
pub sent_more : (e f g : Ends) (ms : List Message) (before stamp place : ℕ) (away r : Bool) (m : Message) → SentSome e f ms before stamp place away → slice_get ms place ≡ Some m
    → SentAll f g (m ∷ []) (before + place) stamp → Loses 1 f g → (r ≡ true → m.receiver.0 ≢ f.node) → SentSome e g ms before stamp (place + 1) (away && r)
sent_more e f g ms before stamp place away r m a there b loses other =
    sent_next e f g ms before stamp place away r (away && r) m a there b loses other (λ w. and_parts away r w)

-- ---- as the code has it

-- a copy of the message was sent
pub sent_copy : (e f : Ends) (m : Message) (p : Parcel) (before stamp : ℕ) → 1 ≤ e.node → Other e m.receiver.0 → OnlyLink e f p.message.receiver.0
    → ((d : Link) → Sends p (link_to e p.message.receiver.0 d) (link_to f p.message.receiver.0 d)) → p.message ≡ m → p.number ≡ before + 1 → p.stamp ≡ stamp → SentAll e f (m ∷ []) before stamp
sent_copy e f m p before stamp some at same sends is_message is_number is_stamp =
    subst (λ (x : Message). SentAll e f (x ∷ []) before stamp) is_message
    (sent_one e f p.message p before stamp some (subst (λ (x : Message). Other e x.receiver.0) (sym is_message) at) same sends refl is_number is_stamp)

pub loses_copy : (e f : Ends) (m : Message) (p : Parcel) → 1 ≤ e.node → Other e m.receiver.0 → OnlyLink e f p.message.receiver.0
    → ((d : Link) → Sends p (link_to e p.message.receiver.0 d) (link_to f p.message.receiver.0 d)) → p.message ≡ m → Loses 1 e f
loses_copy e f m p some at same sends is_message =
    loses_one e f p.message.receiver.0 p some (subst (λ (x : Message). Other e x.receiver.0) (sym is_message) at) same sends

-- what is read at a place stands there
pub read_there : (ms : List Message) (i : ℕ) (m : Message) → i < length ms → m ≡ slice_index_or ms i m → slice_get ms i ≡ Some m
read_there ms i m h e = let w = slice_get_there ms i h in w.1 ∙ ap (λ (x : Message). Some x) (sym (e ∙ get_or_from_slice_get ms i w.0 m w.1))

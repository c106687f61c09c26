-- Moves of links, one after another, and what the calls on a node's ends move.
use Rattle.std.proofs.Common.{◌≡◌, ◌≢◌, ◌≤◌, ◌<◌, ◌+◌, ◌-◌, ◌==◌, ◌++◌, ◌∷◌, ◌∙◌, ℕ, Bool, true, false, List, [], Option, Some, None, if◌then◌else◌, append_assoc, arith, ap, cond, eqb-true, length, nat_lt, option_to_list, refl, slice_index_or, subst, sym, ltb-true, ltb-false}
use Rattle.race_round.specs.Seats.{EndsMoved, Rested}
use Rattle.ring_links.proofs.Meeting.{same_on}
use Rattle.ring_links.specs.Ends.{AllStay, Ends, OnlyLink, Other, link_to, place_of}
use Rattle.ring_links.specs.Flows.{Move, Moved, Moves, sent_in, taken_in}
use Rattle.ring_links.specs.Flows.Move.{Readied, Sent, Took}
use Rattle.ring_links.specs.Links.{SameLink, Sends, Stays, Takes, arrived}
use Rattle.ring_links.specs.declared.link.Link.{Link}
use Rattle.ring_links.specs.declared.parcel.Parcel.{Parcel}
use Rattle.std.proofs.lemmas.Bool.{eqb-false}
use Rattle.std.proofs.lemmas.List.{get_or-set_other}

-- ---- one link

pub taken_in_on : (ms ns : List Move) → taken_in (ms ++ ns) ≡ taken_in ms ++ taken_in ns
taken_in_on [] ns = refl
taken_in_on (Sent p ∷ ms) ns = taken_in_on ms ns
taken_in_on (Took r ∷ ms) ns =
    ap (λ (l : List Parcel). option_to_list r ++ l) (taken_in_on ms ns) ∙ sym (append_assoc (option_to_list r) (taken_in ms) (taken_in ns))
taken_in_on (Readied ∷ ms) ns = taken_in_on ms ns

pub sent_in_on : (ms ns : List Move) → sent_in (ms ++ ns) ≡ sent_in ms ++ sent_in ns
sent_in_on [] ns = refl
sent_in_on (Sent p ∷ ms) ns = ap (λ (l : List Parcel). p ∷ l) (sent_in_on ms ns)
sent_in_on (Took r ∷ ms) ns = sent_in_on ms ns
sent_in_on (Readied ∷ ms) ns = sent_in_on ms ns

pub moves_on : (ms ns : List Move) (l k m : Link) → Moves ms l k → Moves ns k m → Moves (ms ++ ns) l m
moves_on [] ns l k m h g = subst (λ (z : Link). Moves ns z m) h g
moves_on (x ∷ ms) ns l k m h g = (h.0, h.1, moves_on ms ns h.0 k m h.2 g)

same_self : (l : Link) → SameLink l l
same_self l = (((refl, refl, refl, refl), refl), ((refl, refl, refl, refl), refl))

-- the links are of the same rings after any moves
pub moves_same : (ms : List Move) (l m : Link) → Moves ms l m → SameLink l m
moves_same [] l m h = subst (λ (z : Link). SameLink l z) (sym h) (same_self l)
moves_same (Sent p ∷ ms) l m h = let t : Sends p l h.0 = h.1 in same_on l h.0 m t.0 (moves_same ms h.0 m h.2)
moves_same (Took r ∷ ms) l m h = let t : Takes r l h.0 = h.1 in same_on l h.0 m t.0 (moves_same ms h.0 m h.2)
moves_same (Readied ∷ ms) l m h = let t : Stays l h.0 = h.1 in same_on l h.0 m t.0 (moves_same ms h.0 m h.2)

takes_one : (r : Option Parcel) (l m : Link) → Takes r l m → length (arrived l) ≤ length (arrived m) + length (option_to_list r)
takes_one None l m t = omega (arith, ap (λ (x : List Parcel). length x) t.3.0)
takes_one (Some p) l m t = by_inbox (arrived l) refl
  where
    by_inbox : (xs : List Parcel) → arrived l ≡ xs → length (arrived l) ≤ length (arrived m) + 1
    by_inbox [] e = omega (arith, ap (λ (x : List Parcel). length x) e)
    by_inbox (x ∷ xs) e =
        let some : 0 < length (arrived l) = omega (arith, ap (λ (x : List Parcel). length x) e) in
        omega (arith, ap (λ (x : List Parcel). length x) (t.1 some).0)

-- the inbox loses no more than what is taken
pub inbox_falls : (ms : List Move) (l m : Link) → Moves ms l m → length (arrived l) ≤ length (arrived m) + length (taken_in ms)
inbox_falls [] l m h = omega (arith, ap (λ (z : Link). length (arrived z)) h)
inbox_falls (Sent p ∷ ms) l m h =
    let t : Sends p l h.0 = h.1 in omega (arith, ap (λ (x : List Parcel). length x) t.4, inbox_falls ms h.0 m h.2)
inbox_falls (Took r ∷ ms) l m h =
    by_one r (takes_one r l h.0 h.1) (inbox_falls ms h.0 m h.2)
  where
    by_one : (o : Option Parcel) → length (arrived l) ≤ length (arrived h.0) + length (option_to_list o) → length (arrived h.0) ≤ length (arrived m) + length (taken_in ms)
        → length (arrived l) ≤ length (arrived m) + length (option_to_list o ++ taken_in ms)
    by_one None q rest = omega (arith, q, rest)
    by_one (Some p) q rest = omega (arith, q, rest)
inbox_falls (Readied ∷ ms) l m h =
    let t : Stays l h.0 = h.1 in omega (arith, ap (λ (x : List Parcel). length x) t.4, inbox_falls ms h.0 m h.2)

-- ---- all links of a node

pub other_on : (e f : Ends) (k : ℕ) → f.node ≡ e.node → length f.links ≡ length e.links → Other e k → Other f k
other_on e f k n w o =
    (λ q. o.0 (q ∙ n), o.1, subst (λ (x : ℕ). place_of x k < length f.links) (sym n) (subst (λ (y : ℕ). place_of e.node k < y) (sym w) o.2))

pub moved_other : (ms : ℕ → List Move) (e f : Ends) → EndsMoved ms e f → (k : ℕ) → Other e k → Other f k
moved_other ms e f h k o = other_on e f k h.node_ h.width o

pub moved_back : (ms : ℕ → List Move) (e f : Ends) → EndsMoved ms e f → (k : ℕ) → Other f k → Other e k
moved_back ms e f h k o = other_on f e k (sym h.node_) (sym h.width) o

-- the one moves and then the other
abbrev pub then_moves : (ℕ → List Move) → (ℕ → List Move) → ℕ → List Move
then_moves ms ns k = ms k ++ ns k

pub ends_on : (ms ns : ℕ → List Move) (e f g : Ends) → EndsMoved ms e f → EndsMoved ns f g → EndsMoved (then_moves ms ns) e g
ends_on ms ns e f g a b =
    record {
      node_ = b.node_ ∙ a.node_;
      width = b.width ∙ a.width;
      links_ = λ k d o. moves_on (ms k) (ns k) (link_to e k d) (link_to f k d) (link_to g k d) (a.links_ k d o) (b.links_ k d (moved_other ms e f a k o));
    }

-- no moves
abbrev pub no_moves : ℕ → List Move
no_moves k = []

pub ends_stay : (e : Ends) → EndsMoved no_moves e e
ends_stay e = record { node_ = refl; width = refl; links_ = λ k d o. refl }

-- moves of one link
abbrev pub only : ℕ → List Move → ℕ → List Move
only s ms k = if k == s then ms else []

pub place_apart : (node k s : ℕ) → 1 ≤ node → k ≢ node → s ≢ node → 1 ≤ k → 1 ≤ s → k ≢ s → place_of node k ≢ place_of node s
place_apart node k s some kn sn k1 s1 ks = by_test (nat_lt k node) refl (nat_lt s node) refl
  where
    by_test : (x : Bool) → nat_lt k node ≡ x → (y : Bool) → nat_lt s node ≡ y → cond x (k - 1) (k - 2) ≢ cond y (s - 1) (s - 2)
    by_test true p true q e = ks (omega (arith, e, k1, s1))
    by_test true p false q e = let a = ltb-true k node p in let b = ltb-false s node q in absurd (omega (arith, e, a, b, sn, k1, s1, some))
    by_test false p true q e = let a = ltb-false k node p in let b = ltb-true s node q in absurd (omega (arith, e, a, b, kn, k1, s1, some))
    by_test false p false q e = let a = ltb-false k node p in let b = ltb-false s node q in ks (omega (arith, e, a, b, kn, sn, k1, s1, some))

-- a link that is not the one that has changed
pub only_stays : (e f : Ends) (o k : ℕ) → 1 ≤ e.node → OnlyLink e f o → k ≢ e.node → o ≢ e.node → 1 ≤ k → 1 ≤ o → k ≢ o → (d : Link) → link_to f k d ≡ link_to e k d
only_stays e f o k some h kn on k1 o1 apart d =
    ap (λ (n : ℕ). slice_index_or f.links (place_of n k) d) h.0
    ∙ (ap (λ (l : List Link). slice_index_or l (place_of e.node k) d) (h.2 d)
    ∙ get_or-set_other e.links (place_of e.node o) (place_of e.node k) (link_to f o d) d (place_apart e.node k o some kn on k1 o1 apart))

-- one link made one move
pub one_moved : (e f : Ends) (s : ℕ) (m : Move) → 1 ≤ e.node → Other e s → OnlyLink e f s → ((d : Link) → Moved m (link_to e s d) (link_to f s d)) → EndsMoved (only s (m ∷ [])) e f
one_moved e f s m some at same did =
    record { node_ = same.0; width = same.1; links_ = λ k d o. by_test k d o (k == s) refl }
  where
    by_test : (k : ℕ) (d : Link) → Other e k → (b : Bool) → (k == s) ≡ b → Moves (if b then m ∷ [] else []) (link_to e k d) (link_to f k d)
    by_test k d o true q =
        let is : k ≡ s = eqb-true k s q in
        subst (λ (x : ℕ). Moves (m ∷ []) (link_to e x d) (link_to f x d)) (sym is) (link_to f s d, did d, refl)
    by_test k d o false q =
        let apart : k ≢ s = eqb-false k s q in
        let there : place_of f.node k ≡ place_of e.node k = ap (λ (x : ℕ). place_of x k) same.0 in
        ap (λ (x : ℕ). slice_index_or f.links x d) there
        ∙ (ap (λ (xs : List Link). slice_index_or xs (place_of e.node k) d) (same.2 d)
        ∙ get_or-set_other e.links (place_of e.node s) (place_of e.node k) (link_to f s d) d (place_apart e.node k s some o.0 at.0 o.1 at.1 apart))

-- room was made in all links
pub all_readied : (e f : Ends) → f.node ≡ e.node → AllStay e.links f.links → EndsMoved (λ k. Readied ∷ []) e f
all_readied e f n h =
    record {
      node_ = n;
      width = h.width;
      links_ = λ k d o.
          let at : link_to f k d ≡ slice_index_or f.links (place_of e.node k) d = ap (λ (x : ℕ). slice_index_or f.links (place_of x k) d) n in
          (slice_index_or f.links (place_of e.node k) d, h.each (place_of e.node k) d o.2, at);
    }

pub rested_on : (e f g : Ends) → Rested e f → Rested f g → Rested e g
rested_on e f g a b =
    record {
      moves = then_moves a.moves b.moves;
      moved = ends_on a.moves b.moves e f g a.moved b.moved;
      taken = λ k. taken_in_on (a.moves k) (b.moves k) ∙ (λ j. a.taken k j ++ b.taken k j);
      sent = λ k. sent_in_on (a.moves k) (b.moves k) ∙ (λ j. a.sent k j ++ b.sent k j);
    }

pub rests : (e : Ends) → Rested e e
rests e = record { moves = no_moves; moved = ends_stay e; taken = λ k. refl; sent = λ k. refl }

pub readied_rests : (e f : Ends) → f.node ≡ e.node → AllStay e.links f.links → Rested e f
readied_rests e f n h = record { moves = λ k. Readied ∷ []; moved = all_readied e f n h; taken = λ k. refl; sent = λ k. refl }

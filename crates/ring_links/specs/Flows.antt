-- What flows from one node to another: what was taken, and what is under way, in the order in which it was sent.
use Rattle.std.specs.Prelude.{◌≡◌, List, [], ◌∷◌, ◌++◌, Option, option_to_list}
use Rattle.ring_links.specs.declared.link.Link.{Link}
use Rattle.ring_links.specs.declared.parcel.Parcel.{Parcel}
use Rattle.ring_links.specs.Links.{arrived, in_ring, waiting, IsFresh, InOrder, Sends, Takes, Stays, Settled, Unmoved}

-- what is under way from a to b: the inbox, then what is in the ring, then the backlog
abbrev pub under_way : Link → Link → List Parcel
under_way a b = arrived b ++ (in_ring a b ++ waiting a)

-- all that a sent to b is what b took and then what is under way, in order
pub record Flows (all taken : List Parcel) (a b : Link) : Type 0 where
  pub in_order : InOrder a b
  pub flow : all ≡ taken ++ under_way a b

-- what one side of two rings does: it sends, takes, or makes room
pub data Move : Type 0 where
  Sent : Parcel → Move
  Took : Option Parcel → Move
  Readied : Move

-- one move of a side
abbrev pub Moved : Move → Link → Link → Type 0
Moved (Sent p) l l' = Sends p l l'
Moved (Took r) l l' = Takes r l l'
Moved Readied l l' = Stays l l'

-- these moves, one after another
abbrev pub Moves : List Move → Link → Link → Type 0
Moves [] l l' = l' ≡ l
Moves (m ∷ ms) l l' = (k : Link) × Moved m l k × Moves ms k l'

-- the parcels that were sent in these moves
abbrev pub sent_in : List Move → List Parcel
sent_in [] = []
sent_in (Sent p ∷ ms) = p ∷ sent_in ms
sent_in (Took r ∷ ms) = sent_in ms
sent_in (Readied ∷ ms) = sent_in ms

-- the parcels that were taken in these moves
abbrev pub taken_in : List Move → List Parcel
taken_in [] = []
taken_in (Sent p ∷ ms) = taken_in ms
taken_in (Took r ∷ ms) = option_to_list r ++ taken_in ms
taken_in (Readied ∷ ms) = taken_in ms

-- the flow is in order at first, after any moves of the two sides that end in order, and after a settle
pub record FlowHolds : Type 0 where
  pub first : (a b : Link) → IsFresh a → IsFresh b → Flows [] [] a b
  pub moved : (all taken : List Parcel) (a b a' b' : Link) (ms ns : List Move) → Flows all taken a b → Moves ms a a' → Moves ns b b' → InOrder a' b'
      → Flows (all ++ sent_in ms) (taken ++ taken_in ns) a' b'
  pub settled : (all taken : List Parcel) (a b a' b' : Link) → Flows all taken a b → Settled a b a' b' → Flows all taken a' b'
  pub unmoved : (all taken : List Parcel) (a b a' b' : Link) → Flows all taken a b → Unmoved a b a' b' → Flows all taken a' b'

-- after a settle all that was under way has arrived, and nothing else is under way; after one that failed nothing has moved
pub record ArrivalHolds : Type 0 where
  pub arrives : (a b a' b' : Link) → Settled a b a' b' → arrived b' ≡ under_way a b
  pub whole : (a b a' b' : Link) → Settled a b a' b' → under_way a' b' ≡ arrived b'
  pub stays : (a b a' b' : Link) → Unmoved a b a' b' → under_way a' b' ≡ under_way a b

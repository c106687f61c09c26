-- The settling of all ends after a round.
use Rattle.std.specs.Prelude.{◌≡◌, ◌≢◌, ◌<◌, ◌+◌, ℕ, Bool, true, List, length, slice_index_or}
use Rattle.race_round.specs.declared.nodes.RaceNode.{RaceNode}
use Rattle.ring_links.specs.Ends.{Ends, Meet, Other, OnlyLink, link_to}
use Rattle.ring_links.specs.Links.{InOrder, SameLink, Settled}
use Rattle.ring_links.specs.declared.link.Link.{Link}

-- between two nodes with these numbers: the order held, the links are of the same rings, and all has arrived where nothing was refused
pub record LinksSettled (ok : Bool) (x y : ℕ) (a b a' b' : Ends) : Type 0 where
  pub order_there : (d : Link) → InOrder (link_to a y d) (link_to b x d)
  pub order_here : (d : Link) → InOrder (link_to b x d) (link_to a y d)
  pub same_here : (d : Link) → SameLink (link_to a y d) (link_to a' y d)
  pub same_there : (d : Link) → SameLink (link_to b x d) (link_to b' x d)
  pub settled_there : ok ≡ true → (d : Link) → Settled (link_to a y d) (link_to b x d) (link_to a' y d) (link_to b' x d)
  pub settled_here : ok ≡ true → (d : Link) → Settled (link_to b x d) (link_to a y d) (link_to b' x d) (link_to a' y d)

-- the ends of two nodes were settled, and no other link has changed
pub record EndsSettled (ok : Bool) (a b a' b' : Ends) : Type 0 where
  pub links_ : LinksSettled ok a.node b.node a b a' b'
  pub only_here : OnlyLink a a' b.node
  pub only_there : OnlyLink b b' a.node

-- the links of two nodes are as they were
pub record LinksStay (x y : ℕ) (a b a' b' : Ends) : Type 0 where
  pub here : (d : Link) → link_to a' y d ≡ link_to a y d
  pub there : (d : Link) → link_to b' x d ≡ link_to b x d

module _ {C G : Type 0} where
  -- the two may be settled
  pub record CanSettle (n m : RaceNode C G) : Type 0 where
    pub here : Other n.ends m.ends.node
    pub there : Other m.ends n.ends.node
    pub meet : Meet n.ends m.ends

  -- the ends of two nodes were settled, and nothing else has changed
  pub record TwoSettled (ok : Bool) (n m n' m' : RaceNode C G) : Type 0 where
    pub ends_ : EndsSettled ok n.ends m.ends n'.ends m'.ends
    pub here : n' ≡ record n { ends = n'.ends }
    pub there : m' ≡ record m { ends = m'.ends }

  -- two of the nodes were settled, and nothing else has changed
  pub record PlacesSettled (ok : Bool) (low high : ℕ) (ns ms : List (RaceNode C G)) : Type 0 where
    pub count : length ms ≡ length ns
    pub two : (d : RaceNode C G) → TwoSettled ok (slice_index_or ns low d) (slice_index_or ns high d) (slice_index_or ms low d) (slice_index_or ms high d)
    pub rest : (i : ℕ) (d : RaceNode C G) → i ≢ low → i ≢ high → slice_index_or ms i d ≡ slice_index_or ns i d

  -- the nodes stand in order of their numbers, each with a link to each other one, and every two meet
  pub record AreMet (ns : List (RaceNode C G)) : Type 0 where
    pub numbered : (i : ℕ) (d : RaceNode C G) → i < length ns → (slice_index_or ns i d).ends.node ≡ i + 1
    pub width : (i : ℕ) (d : RaceNode C G) → i < length ns → length (slice_index_or ns i d).ends.links + 1 ≡ length ns
    pub meet : (i j : ℕ) (d : RaceNode C G) → i < j → j < length ns → Meet (slice_index_or ns i d).ends (slice_index_or ns j d).ends

  -- all but the ends is as it was
  pub record SameButEnds (n m : RaceNode C G) : Type 0 where
    pub same : m ≡ record n { ends = m.ends }
    pub node_ : m.ends.node ≡ n.ends.node
    pub width : length m.ends.links ≡ length n.ends.links

  -- the pairs of places that are told, the lower first, were settled, and no other
  pub record SettledWhere (ok : Bool) (which : ℕ → ℕ → Type 0) (ns ms : List (RaceNode C G)) : Type 0 where
    pub count : length ms ≡ length ns
    pub each : (i : ℕ) (d : RaceNode C G) → i < length ns → SameButEnds (slice_index_or ns i d) (slice_index_or ms i d)
    pub done : (i j : ℕ) (d : RaceNode C G) → i < j → j < length ns → which i j
        → LinksSettled ok (i + 1) (j + 1) (slice_index_or ns i d).ends (slice_index_or ns j d).ends (slice_index_or ms i d).ends (slice_index_or ms j d).ends
    pub left : (i j : ℕ) (d : RaceNode C G) → i < j → j < length ns → (which i j → ⊥)
        → LinksStay (i + 1) (j + 1) (slice_index_or ns i d).ends (slice_index_or ns j d).ends (slice_index_or ms i d).ends (slice_index_or ms j d).ends

  -- a node was settled with the nodes before `low`
  abbrev pub RowSettled : Bool → ℕ → ℕ → List (RaceNode C G) → List (RaceNode C G) → Type 0
  RowSettled ok low high ns ms = SettledWhere ok (λ i j. (j ≡ high) × (i < low)) ns ms

  -- every two nodes before `high` were settled
  abbrev pub SettledTo : Bool → ℕ → List (RaceNode C G) → List (RaceNode C G) → Type 0
  SettledTo ok high ns ms = SettledWhere ok (λ i j. j < high) ns ms

  -- every two nodes were settled
  abbrev pub EverySettled : Bool → List (RaceNode C G) → List (RaceNode C G) → Type 0
  EverySettled ok ns ms = SettledTo ok (length ns) ns ms

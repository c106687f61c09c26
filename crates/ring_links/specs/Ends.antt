-- What a contract sees of a node's ends: the node, and a link to each other node, in order of node.
use Rattle.std.specs.Prelude.{◌≡◌, ◌≢◌, ℕ, ◌+◌, ◌-◌, ◌<◌, ◌≤◌, nat_lt, List, [], ◌∷◌, ◌++◌, length, All, AllPairs, cond, slice_index_or, slice_set}
use Rattle.ring_links.specs.declared.link.Link.{Link}
use Rattle.ring_links.specs.Links.{AreLinked, IsFresh, spare, Stays}

pub record Ends : Type 0 where
  pub node : ℕ
  pub links : List Link

-- where a node's link to another node stands
abbrev pub place_of : ℕ → ℕ → ℕ
place_of node other = cond (nat_lt other node) (other - 1) (other - 2)

-- this is another node of the same call of `links`
abbrev pub Other : Ends → ℕ → Type 0
Other e other = (other ≢ e.node) × (1 ≤ other) × (place_of e.node other < length e.links)

-- the link to another node
abbrev pub link_to : Ends → ℕ → Link → Link
link_to e other d = slice_index_or e.links (place_of e.node other) d

-- there is room for a parcel to another node
abbrev pub CanSend : Ends → ℕ → Type 0
CanSend e other = (d : Link) → 0 < spare (link_to e other d)

-- only this link has changed
abbrev pub OnlyLink : Ends → Ends → ℕ → Type 0
OnlyLink e e' other =
    (e'.node ≡ e.node)
    × (length e'.links ≡ length e.links)
    × ((d : Link) → e'.links ≡ slice_set e.links (place_of e.node other) (link_to e' other d))

-- the two ends are of one call of `links`
abbrev pub Meet : Ends → Ends → Type 0
Meet a b = (d : Link) → AreLinked (link_to a b.node d) (link_to b a.node d)

-- no parcel of these links has moved
pub record AllStay (links links' : List Link) : Type 0 where
  pub width : length links' ≡ length links
  pub each : (i : ℕ) (d : Link) → i < length links → Stays (slice_index_or links i d) (slice_index_or links' i d)

-- each backlog has room for n more parcels
abbrev pub AllHaveRoom : List Link → ℕ → Type 0
AllHaveRoom links n = All (λ l. n ≤ spare l) links

-- these are the ends of the nodes from 1 to `nodes`, as one call of `links` makes them
pub record AreEnds (all : List Ends) (nodes : ℕ) : Type 0 where
  pub count : length all ≡ nodes
  pub node : (i : ℕ) (d : Ends) → i < nodes → (slice_index_or all i d).node ≡ i + 1
  pub width : (i : ℕ) (d : Ends) → i < nodes → length (slice_index_or all i d).links + 1 ≡ nodes
  pub fresh : (i : ℕ) (d : Ends) → i < nodes → All IsFresh (slice_index_or all i d).links
  pub meet : AllPairs Meet all

-- two new rings stand at the end of the links of two nodes
pub record Joins (e e' later later' : Ends) : Type 0 where
  pub mine : Link
  pub theirs : Link
  pub links : e'.links ≡ e.links ++ mine ∷ []
  pub others : later'.links ≡ later.links ++ theirs ∷ []
  pub linked : AreLinked mine theirs
  pub fresh : IsFresh mine
  pub fresh_too : IsFresh theirs

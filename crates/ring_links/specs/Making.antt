-- How the ends of nodes are made: each new node is joined to those before it.
use Rattle.std.specs.Prelude.{◌≡◌, ℕ, ◌<◌, ◌≤◌, List, [], ◌∷◌, ◌++◌, length, slice_index_or}
use Rattle.ring_links.specs.declared.link.Link.{Link}
use Rattle.ring_links.specs.Links.{AreLinked, IsFresh}
use Rattle.ring_links.specs.Ends.{Ends}

-- the links of a node have grown by a new one, whose other side is the later node's i-th
pub record IsJoined (e e' later : Ends) (i : ℕ) : Type 0 where
  pub node : e'.node ≡ e.node
  pub mine : Link
  pub theirs : Link
  pub links : e'.links ≡ e.links ++ mine ∷ []
  pub there : (f : Link) → slice_index_or later.links i f ≡ theirs
  pub linked : AreLinked mine theirs
  pub fresh : IsFresh mine
  pub fresh_too : IsFresh theirs

-- the first n of these nodes are joined to a later one, and the rest are as they were
pub record AreJoined (n : ℕ) (es es' : List Ends) (later : Ends) : Type 0 where
  pub count : length es' ≡ length es
  pub width : length later.links ≡ n
  pub joined : (i : ℕ) (d : Ends) → i < n → IsJoined (slice_index_or es i d) (slice_index_or es' i d) later i
  pub rest : (i : ℕ) (d : Ends) → n ≤ i → slice_index_or es' i d ≡ slice_index_or es i d

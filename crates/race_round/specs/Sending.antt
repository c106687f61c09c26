-- Room in the backlogs of a node.
use Rattle.std.specs.Prelude.{◌≤◌, ◌+◌, ℕ}
use Rattle.ring_links.specs.Ends.{Ends, Other, link_to}
use Rattle.ring_links.specs.Links.{spare}
use Rattle.ring_links.specs.declared.link.Link.{Link}

-- each backlog has room for so many parcels
abbrev pub Slack : ℕ → Ends → Type 0
Slack n e = (k : ℕ) (d : Link) → Other e k → n ≤ spare (link_to e k d)

-- no backlog has lost more room than for so many
abbrev pub Loses : ℕ → Ends → Ends → Type 0
Loses n e f = (k : ℕ) (d : Link) → Other e k → spare (link_to e k d) ≤ spare (link_to f k d) + n

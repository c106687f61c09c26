use Rattle.std.proofs.Common.{◌≡◌, ◌≤◌, All, length, take}
use Rattle.ring_links.specs.Links.{spare}
use Rattle.ring_links.specs.Ends.{AllStay}
use Rattle.ring_links.proofs.ends.ready_all.Given as goal

abbrev pub invariant-loop-place : goal.invariant-loop-place
invariant-loop-place l =
    AllStay l.initial.links.items l.links.items
    × All (λ x. l.n ≤ spare x) (take l.place l.links.items)
    × (l.place-end ≡ length l.links.items)

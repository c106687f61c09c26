use Rattle.std.specs.List.{list_any}
use Rattle.std.specs.Prelude.{◌≡◌, false, take}
use Rattle.race_round.proofs.races.wants.Given as goal

abbrev pub invariant-loop-node : goal.invariant-loop-node
invariant-loop-node g l = list_any (λ n. n.wanting) (take l.node-index l.nodes) ≡ false

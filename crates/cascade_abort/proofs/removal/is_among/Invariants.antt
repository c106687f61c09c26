use Rattle.std.proofs.Common.{drop, ◌≡◌}
use Rattle.version_chain.specs.ChainLists.{is_among}
use Rattle.cascade_abort.proofs.removal.is_among.Given as goal

abbrev pub invariant-loop-other : goal.invariant-loop-other
invariant-loop-other l = is_among (drop l.other-index l.other-items) l.part ≡ is_among l.parts l.part

use Rattle.std.proofs.Common.{drop}
use Rattle.node_parts.proofs.Posting.{SendsRest}
use Rattle.node_parts.specs.Letters.{aborts}
use Rattle.node_parts.proofs.letters.send_aborts.Given as goal

abbrev pub invariant-loop-other : goal.invariant-loop-other
invariant-loop-other l = SendsRest (aborts l.site l.tx (drop l.other-index l.other-items)) (aborts l.site l.tx l.parts) l.fn.out l.out

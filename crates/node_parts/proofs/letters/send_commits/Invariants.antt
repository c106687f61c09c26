use Rattle.std.proofs.Common.{drop}
use Rattle.node_parts.proofs.Posting.{SendsRest}
use Rattle.node_parts.specs.Letters.{commits}
use Rattle.node_parts.proofs.letters.send_commits.Given as goal

abbrev pub invariant-loop-other : goal.invariant-loop-other
invariant-loop-other l =
    SendsRest (commits l.site l.tx l.fc l.marks l.writes (drop l.other-index l.other-items)) (commits l.site l.tx l.fc l.marks l.writes l.parts) l.fn.out l.out

use Rattle.std.proofs.Common.{drop}
use Rattle.node_parts.proofs.Posting.{SendsRest}
use Rattle.str_model.specs.Acts.{copies}
use Rattle.str_scene.specs.Scenes.{replicas}
use Rattle.node_parts.proofs.letters.send_copies.Given as goal

abbrev pub invariant-loop-replica : goal.invariant-loop-replica
invariant-loop-replica l =
    SendsRest (copies l.site l.a (drop l.replica-index l.replica-items)) (copies l.site l.a (replicas l.site.scene l.a.part)) l.fn.out l.out

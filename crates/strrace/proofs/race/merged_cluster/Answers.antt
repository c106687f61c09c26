use Rattle.lamport_log.specs.Merging.{lists_of}
use Rattle.strrace.proofs.Merged.{resumes, resumes_run, world_is}
use Rattle.strrace.proofs.race.merged_cluster.Goals as goal

pub resume-requires-clause-run : goal.resume-requires-clause-run
resume-requires-clause-run c =
    resumes_run c.args.scene c.args.nodes.items c.args.logs.now.items c.requires.are c.requires.replay c.requires.closed (lists_of c.in_ok-merged.merged) c.in_ok-merged.ensures.run

pub returns-clause-world : goal.returns-clause-world
returns-clause-world c =
    world_is c.resume.result _ _
    (resumes c.args.scene c.args.nodes.items c.args.logs.now.items c.requires.are c.requires.replay c.requires.closed (lists_of c.in_ok-merged.merged) c.in_ok-merged.ensures.run)
    c.resume.ensures.world

use Rattle.cluster_run.proofs.Looking.{next_is_client, next_is_message, next_is_none}
use Rattle.cluster_run.proofs.parts.Parts.next_event.Goals as goal
use Rattle.cluster_run.specs.Clusters.{world_of}
use Rattle.str_model.specs.Drains.{next_message}

pub returns-in-Some : goal.returns-in-Some
unfolding next_message
returns-in-Some c = next_is_message c.args.self.now.scene (world_of c.args.self.now) c.in-Some.index c.in-Some.ensures

pub returns-in-Some-lowest_session : goal.returns-in-Some-lowest_session
unfolding next_message
returns-in-Some-lowest_session c = next_is_client c.args.self.now.scene (world_of c.args.self.now) c.in-Some-lowest_session.session c.in-None.ensures c.in-Some-lowest_session.ensures

pub returns-in-None-lowest_session : goal.returns-in-None-lowest_session
unfolding next_message
returns-in-None-lowest_session c = next_is_none c.args.self.now.scene (world_of c.args.self.now) c.in-None.ensures c.in-None-lowest_session.ensures

use Rattle.cluster_run.proofs.clusters.Cluster.next_message.Goals as goal
use Rattle.str_model.specs.Drains.{next_message}

pub returns : goal.returns
unfolding next_message
returns c = rw (← c.self.view_is) c.next.ensures

use Rattle.cluster_run.proofs.pruned.PrunedCluster.next_event.Goals as goal

pub next_event-requires : goal.next_event-requires
next_event-requires c = c.self.invariant.placed

pub returns-clause-event : goal.returns-clause-event
returns-clause-event c = rw (← c.self.view_is) c.next_event.ensures

-- The times at a node, over every run.
use Rattle.si_laws.specs.Laws.Times.{TimesHold}
use Rattle.str_model.specs.Owned.{AreTimed}
use Rattle.str_model.proofs.Principle.Everywhere.{at_each_node}
use Rattle.str_model.proofs.Changes.OwnChanges.{own_step}
use Rattle.str_model.proofs.OwnFacts.NodeTimes.{timed-step, timed_opening}

pub times_hold : TimesHold
times_hold scene is =
    at_each_node scene is AreTimed (timed_opening scene) (λ here ok input w d e a t. timed-step d.view e.view (own_step here input w d e a) t)

use Rattle.std.proofs.Common.{None, subst, ◌∙◌, ◌≡◌}
use Rattle.cluster_run.specs.Clusters.{drained_from}
use Rattle.str_model.specs.Drains.{next_event}
use Rattle.str_scene.specs.Scenes.{Scene}
use Rattle.strrace.proofs.Merged.{raced}
use Rattle.strrace.proofs.Raced.{can_begin, have_raced, logs_closed, logs_replay, logs_stand, placed, race_logs}
use Rattle.strrace.proofs.race.race.Goals as goal

pub rounds-requires-clause-race : goal.rounds-requires-clause-race
rounds-requires-clause-race g c κs within = can_begin c.args.scene c.in_ok-nodes.nodes.items c.args.count c.in_ok-nodes.ensures.fresh c.requires.count

pub merged_cluster-requires-clause-placed : goal.merged_cluster-requires-clause-placed
merged_cluster-requires-clause-placed g c =
    let ms = c.rounds.new.nodes.items in
    placed c.args.scene c.args.count ms (have_raced c.args.scene c.in_ok-nodes.nodes.items ms c.args.count c.in_ok-nodes.ensures.fresh c.requires.count c.in_ok-rounds.ensures.rounds)
    c.in_ok-nodes-2.nodes.items c.in_ok-nodes-2.logs.items c.in_ok-nodes-2.ensures.nodes c.in_ok-nodes-2.ensures.logs

pub merged_cluster-requires-clause-are : goal.merged_cluster-requires-clause-are
merged_cluster-requires-clause-are g c =
    let ms = c.rounds.new.nodes.items in
    logs_stand c.args.scene c.args.count ms (have_raced c.args.scene c.in_ok-nodes.nodes.items ms c.args.count c.in_ok-nodes.ensures.fresh c.requires.count c.in_ok-rounds.ensures.rounds)
    c.in_ok-nodes-2.nodes.items c.in_ok-nodes-2.logs.items c.in_ok-nodes-2.ensures.nodes c.in_ok-nodes-2.ensures.logs

pub merged_cluster-requires-clause-replay : goal.merged_cluster-requires-clause-replay
merged_cluster-requires-clause-replay g c =
    let ms = c.rounds.new.nodes.items in
    logs_replay c.args.scene c.args.count ms (have_raced c.args.scene c.in_ok-nodes.nodes.items ms c.args.count c.in_ok-nodes.ensures.fresh c.requires.count c.in_ok-rounds.ensures.rounds)
    c.in_ok-nodes-2.nodes.items c.in_ok-nodes-2.logs.items c.in_ok-nodes-2.ensures.nodes c.in_ok-nodes-2.ensures.logs

pub merged_cluster-requires-clause-closed : goal.merged_cluster-requires-clause-closed
merged_cluster-requires-clause-closed g c =
    let ms = c.rounds.new.nodes.items in
    logs_closed c.args.scene c.args.count ms (have_raced c.args.scene c.in_ok-nodes.nodes.items ms c.args.count c.in_ok-nodes.ensures.fresh c.requires.count c.in_ok-rounds.ensures.rounds)
    c.in_ok-nodes-2.nodes.items c.in_ok-nodes-2.logs.items c.in_ok-nodes-2.ensures.nodes c.in_ok-nodes-2.ensures.logs

pub returns-clause-raced : goal.returns-clause-raced
returns-clause-raced g c =
    let ms = c.rounds.new.nodes.items in
    let logs = c.in_ok-nodes-2.logs.items in
    raced c.args.scene c.args.count logs c.in_ok-cluster.cluster.world c.drain.new.self.world
    (race_logs c.args.scene c.args.count ms (have_raced c.args.scene c.in_ok-nodes.nodes.items ms c.args.count c.in_ok-nodes.ensures.fresh c.requires.count c.in_ok-rounds.ensures.rounds)
    c.in_ok-nodes-2.nodes.items logs c.in_ok-nodes-2.ensures.nodes c.in_ok-nodes-2.ensures.logs)
    c.in_ok-cluster.ensures.world
    (subst (λ (s : Scene). c.drain.new.self.world ≡ drained_from s c.in_ok-cluster.cluster.world) c.in_ok-cluster.ensures.scene c.in_ok-drain.ensures.ok)
    (subst (λ (s : Scene). next_event s c.drain.new.self.world ≡ None) (c.in_ok-drain.ensures.scene ∙ c.in_ok-cluster.ensures.scene) c.in_ok-drain.ensures.stop)

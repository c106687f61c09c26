use Rattle.std.proofs.Common.{OnOk, rules, subst}
use Rattle.race_round.proofs.TwoParts.{refilled}
use Rattle.race_round.specs.Nodes.{HasGoneOn, StillHolds}
use Rattle.race_round.proofs.races.rounds.Goals as goal

pub returns-clause-rounds : goal.returns-clause-rounds
returns-clause-rounds g c =
    rw (refilled c.args.nodes.now.len c.args.nodes.now.items c.all_rounds.new.nodes (search rules) (search rules))
    (subst (λ xs. OnOk c.all_rounds.result (HasGoneOn c.args.count xs c.all_rounds.new.nodes)) c.as_mut_slice.ensures.value c.all_rounds.ensures.rounds)

pub returns-clause-replays : goal.returns-clause-replays
returns-clause-replays g c =
    rw (refilled c.args.nodes.now.len c.args.nodes.now.items c.all_rounds.new.nodes (search rules) (search rules))
    (subst (λ xs. StillHolds c.args.count xs c.all_rounds.new.nodes) c.as_mut_slice.ensures.value c.all_rounds.ensures.replays)

use Rattle.std.proofs.Common.{arith, length, ◌≤◌}
use Rattle.std.proofs.lemmas.Grind.{common_steps}
use Rattle.history_reading.proofs.Spelled.PartsRead.{index_small}
use Rattle.history_reading.proofs.parts.known_place.Goals as goal

pub overflow_cast-result : goal.overflow_cast-result
overflow_cast-result c =
    let within : c.args.index ≤ length c.in_ok-text.text.now.txs = grind (arith, common_steps) in
    record { fits = index_small c.args.scene.now.sessions c.args.session c.in_ok-text.text.now c.args.index c.sessions-sessions.ensures.limits.few_transactions c.in_ok-text.ensures within }

use Rattle.std.proofs.Common.{ap, arith, false, length, sym, ◌+◌, ◌<◌, ◌∙◌, ◌≡◌}
use Rattle.cluster_run.proofs.Looking.{find_go, find_start}
use Rattle.cluster_run.proofs.parts.Parts.lowest_session.Goals as goal
use Rattle.cluster_run.specs.Clusters.{world_of}
use Rattle.str_model.specs.Drains.{moves, next_session}

pub loop-i-init : goal.loop-i-init
loop-i-init c = find_start c.args.self.now.scene (world_of c.args.self.now)

pub loop-i-preserved : goal.loop-i-preserved
loop-i-preserved c =
    let p = c.args.self.now in
    let w = world_of p in
    let idle : moves p.scene w (c.loop-i.i + 1) ≡ false = sym c.moves.ensures ∙ c.if-moves.false in
    let all = ap length c.sessions-i-end.ensures.value in
    let within : c.loop-i.i < length p.scene.sessions = omega (arith, c.loop-i-test.true, all) in
    find_go (moves p.scene w) c.loop-i.i (length p.scene.sessions) (next_session p.scene w) within idle c.loop-i.invariant

use Rattle.std.proofs.Common.{ap, arith, length, ◌∙◌, ◌≡◌}
use Rattle.cluster_run.proofs.Kept.{may_still}
use Rattle.cluster_run.proofs.RoomFor.{happens_keeps}
use Rattle.cluster_run.proofs.Settling.{event_rests, event_settles}
use Rattle.cluster_run.proofs.pruned_parts.PrunedParts.event.Goals as goal
use Rattle.cluster_run.specs.Clusters.{world_of}
use Rattle.str_model.specs.Runs.{World}

pub room_for-requires : goal.room_for-requires
room_for-requires c = c.requires.placed

pub event-requires : goal.event-requires
event-requires c = may_still c.args.self.now.cluster c.room_for.new.self c.args.event c.requires c.room_for.ensures.same

pub settle-requires-clause-sent : goal.settle-requires-clause-sent
settle-requires-clause-sent c =
    let mid = c.room_for.new.self in
    let sent : c.len-sent.result ≡ length mid.out.messages = c.len-sent.ensures ∙ (c.messages.result.now.ok.0 ∙ ap length c.messages.ensures) in
    let keeps = happens_keeps mid.scene (world_of mid) c.args.event in
    let now = ap (λ (w : World). length w.sent) c.in_ok-moves.ensures.ok.world in
    omega (arith, sent, keeps, now)

pub returns-then-moves-clause-ok : goal.returns-then-moves-clause-ok
returns-then-moves-clause-ok c =
    let mid = c.room_for.new.self in
    let sent : c.len-sent.result ≡ length mid.out.messages = c.len-sent.ensures ∙ (c.messages.result.now.ok.0 ∙ ap length c.messages.ensures) in
    event_settles c.args.self.now mid c.event.new.self c.reserve.new.self c.settle.new.self c.args.event c.in_ok-moves.moves c.taker-place.result c.told-news.result c.len-sent.result c.room_for.ensures.same
    c.reserve.ensures.marks c.in_ok-moves.ensures.ok c.in_ok-moves.ensures.idle c.if-moves.true c.taker-place.ensures c.told-news.ensures sent c.settle.ensures

pub returns-clause-ok : goal.returns-clause-ok
returns-clause-ok c =
    event_rests c.args.self.now c.room_for.new.self c.event.new.self c.reserve.new.self c.args.event c.in_ok-moves.moves c.room_for.ensures.same c.reserve.ensures.marks c.in_ok-moves.ensures.ok
    c.in_ok-moves.ensures.idle c.if-moves.false

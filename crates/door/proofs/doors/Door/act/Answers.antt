use Rattle.door.proofs.EventsDone.{entered_ends}
use Rattle.door.specs.Following.{run_entries}
use Rattle.std.proofs.Common.{◌≡◌}
use Rattle.door.proofs.doors.Door.act.Goals as goal

pub returns-in-Ok-clause-last : goal.returns-in-Ok-clause-last
returns-in-Ok-clause-last g c =
    let list : c.in-Ok.shown.list ≡ run_entries c.act.new.self.world = cc (c.in-Ok.ensures.list, c.deref_mut-2.ensures.value, c.in_ok-moves.ensures.shown) in
    entered_ends c.args.event _ c.deref_mut.result.now.world c.act.new.self.world c.in-Ok.shown.list c.in_ok-moves.ensures.idle list

use Rattle.std.proofs.Common.{drop}
use Rattle.left_right.specs.Sides.{view as known}
use Rattle.answer_board.proofs.Standing.{err_first, err_only, err_second, ok_knows, ok_second, ready_turns, shown_all}
use Rattle.answer_board.proofs.writer.show.Goals as goal

pub publish_as-requires : goal.publish_as-requires
publish_as-requires g c next is = let d = c.args.desk in ready_turns _ _ d.desk.shown.value next (drop d.behind d.log.items) c.requires is

pub returns-clause-shown : goal.returns-clause-shown
returns-clause-shown g c =
    let d = c.args.desk in
    let r = c.publish_as.result in
    shown_all r.1 d.desk.shown.value r.0.desk.shown.value (drop d.behind d.log.items) (drop r.0.behind r.0.log.items) _ c.requires.follow c.publish_as.ensures.values

pub returns-clause-none : goal.returns-clause-none
returns-clause-none g c = ok_second _ _ c.publish_as.result.1 _ c.publish_as.ensures.values

pub returns-clause-seen : goal.returns-clause-seen
returns-clause-seen g c =
    let r = c.publish_as.result in ok_knows r.1 c.args.desk.desk.shown.value r.0.desk.shown.value (known c.args.desk.desk.place) (known r.0.desk.place) _ c.publish_as.ensures.rule

pub returns-clause-same : goal.returns-clause-same
returns-clause-same g c = err_first _ _ c.publish_as.result.1 _ c.publish_as.ensures.values

pub returns-clause-kept : goal.returns-clause-kept
returns-clause-kept g c = err_second _ _ c.publish_as.result.1 _ c.publish_as.ensures.values

pub returns-clause-told : goal.returns-clause-told
returns-clause-told g c = err_only _ c.publish_as.result.1 _ c.publish_as.ensures.rule

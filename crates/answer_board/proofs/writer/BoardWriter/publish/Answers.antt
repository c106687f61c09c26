use Rattle.std.proofs.Common.{rules, drop, sym, ap, ◌∙◌}
use Rattle.left_right.specs.Sides.{view as known}
use Rattle.answer_board.specs.Changes.{puts}
use Rattle.answer_board.specs.History.{head_of}
use Rattle.answer_board.proofs.Standing.{shown_stands}
use Rattle.answer_board.proofs.writer.BoardWriter.publish.Goals as goal

pub invariant_of-self-2 : goal.invariant_of-self-2
invariant_of-self-2 g c =
    let s = c.self.invariant in
    let a = c.self.inside.desk in
    let b = c.prepare.new.desk in
    let d = c.replace_with.new.dest in
    let p = drop b.behind b.log.items in (
      shown_stands c.replace_with.result a.desk.shown.value d.desk.shown.value (puts (drop a.behind a.log.items)) (drop d.behind d.log.items) p (known a.desk.place) (known d.desk.place) c.prepare.new.front
          (search rules) (search rules) (search rules) (search rules) (search rules) (search rules) c.prepare.ensures.held c.in_ok-prepare.ensures.marked c.in_ok-prepare.ensures.ready c.prepare.ensures.stands,
      s.1 ∙ ap head_of (sym c.prepare.ensures.book),
    )

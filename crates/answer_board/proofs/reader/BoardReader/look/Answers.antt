use Rattle.std.proofs.Common.{rules, subst}
use mathlib.Core.List.{IsPrefix}
use Rattle.answer_board.specs.History.{front_of}
use Rattle.left_right.specs.Sides.{view as known}
use Rattle.answer_board.specs.Views.{ReaderView}
use Rattle.answer_board.proofs.Keeping.{entered_grows}
use Rattle.answer_board.proofs.reader.BoardReader.look.Goals as goal

pub returns-in-Some-clause-grows : goal.returns-in-Some-clause-grows
returns-in-Some-clause-grows c = subst (λ (r : ReaderView). IsPrefix r.list (front_of c.in-Some.front.log)) c.self.view_is (entered_grows c.args.place (known c.self.inside.seat.place) (known c.replace_with.new.dest.place) c.self.inside.front c.in-Some.front c.in-Some.found c.self.invariant (search rules))

use Rattle.std.proofs.Common.{rules}
use Rattle.answer_board.proofs.Standing.{stands_added}
use Rattle.answer_board.proofs.writer.prepare.Goals as goal

pub returns-clause-stands : goal.returns-clause-stands
returns-clause-stands c = stands_added _ _ _ _ c.add.new.self c.requires.stands c.add.ensures.book (search rules)

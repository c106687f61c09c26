use Rattle.std.proofs.Common.{append_assoc}
use Rattle.held_answer.proofs.lines.push_commit.Goals as goal

pub returns-clause-ok : goal.returns-clause-ok
returns-clause-ok c =
    rw (c.in_ok-push_gets.ensures.ok, c.in_ok-push_fc.ensures.ok, c.in_ok-extend_from_slice.ensures.items, c.in_ok-push_field.ensures.ok)
    (simp append_assoc)

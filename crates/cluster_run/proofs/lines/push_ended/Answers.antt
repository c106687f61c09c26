use Rattle.std.proofs.Common.{append_assoc}
use Rattle.cluster_run.proofs.lines.push_ended.Goals as goal

pub returns-clause-ok : goal.returns-clause-ok
returns-clause-ok c =
    rw (c.in_ok-push_field-3.ensures.ok, c.in_ok-push_field-2.ensures.ok, c.in_ok-push_field.ensures.ok) (simp append_assoc)

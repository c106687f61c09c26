use Rattle.std.proofs.Common.{arith}
use Rattle.str_model.proofs.OwnFacts.ScriptsCovered.{set_once}
use Rattle.tx_script.proofs.runs.ScriptRun.write.Goals as goal

pub invariant_of-self : goal.invariant_of-self
invariant_of-self c = (
  omega arith,
  rw c.with_write-self-inside.ensures.list (set_once (record { key = c.args.key; value = c.args.value }) c.self.inside.writes c.self.invariant.1),
)

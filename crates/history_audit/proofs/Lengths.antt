-- The length of a list of writes with one more.
use Rattle.str_model.proofs.OwnFacts.ScriptCounts.{set_write-length}

-- one more at most
pub ruleset set_write_length = set_write-length

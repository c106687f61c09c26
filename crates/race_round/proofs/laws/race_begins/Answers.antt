use Rattle.race_round.proofs.laws.race_begins.Goals as goal
use Rattle.race_round.proofs.RaceBegins.{race_begins}

pub returns : goal.returns
returns c = race_begins

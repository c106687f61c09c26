use Rattle.race_round.proofs.laws.race_stands.Goals as goal
use Rattle.race_round.proofs.RaceBegins.{race_stands}

pub returns : goal.returns
returns c = race_stands

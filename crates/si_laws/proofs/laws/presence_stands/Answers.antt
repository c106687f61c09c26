use Rattle.si_laws.proofs.laws.presence_stands.Goals as goal
use Rattle.si_laws.proofs.Presence.PresenceHolds.{presence_stands}

pub returns : goal.returns
returns c = presence_stands

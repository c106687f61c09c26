use Rattle.si_laws.proofs.laws.presence_holds.Goals as goal
use Rattle.si_laws.proofs.Times.ProposalsFew.{times_bounded}
use Rattle.si_laws.proofs.Presence.PresenceHolds.{presence_by_bound}

pub returns : goal.returns
returns c = presence_by_bound times_bounded

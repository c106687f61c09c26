-- The turns of this crate in the words of the model.
use Rattle.local_certify.specs.declared.certs.CertTurn.{CertTurn}
use Rattle.local_certify.specs.declared.certs.CertTurn.TheVariants.{Certified, Conflict, WaitGate}
use Rattle.str_model.specs.Turns

-- what a certification comes to
abbrev pub turn_of : CertTurn → Turns.CertTurn
turn_of (Certified lc snap) = Turns.Certified lc.0 snap
turn_of (Conflict by key) = Turns.Conflict by key
turn_of (WaitGate by) = Turns.WaitGate by

-- The phases of an own transaction in the words of the model.
use Rattle.std.specs.Prelude.{None, Option, Some, ℕ}
use Rattle.node_parts.specs.declared.phases.Phase.{Phase}
use Rattle.node_parts.specs.declared.phases.Phase.TheVariants.{Aborted, Active, CertWait, Closing, Committed, Global, Local, ReadWait, Remote, Reply}
use Rattle.str_base.specs.declared.names.Ts.{Ts}
use Rattle.str_model.specs.Views

-- the number of a timestamp, where there is one
abbrev pub number_if : Option Ts → Option ℕ
number_if None = None
number_if (Some t) = Some t.0

-- the phase
abbrev pub phase_of : Phase → Views.Phase
phase_of Active = Views.Active
phase_of (ReadWait k) = Views.ReadWait k
phase_of (Remote k) = Views.Remote k
phase_of (Reply k v by fc) = Views.Reply k v by fc.0
phase_of CertWait = Views.CertWait
phase_of (Closing wish) = Views.Closing wish
phase_of (Local lc) = Views.Local lc.0
phase_of (Global lc) = Views.Global lc.0
phase_of (Committed lc fc) = Views.Committed (number_if lc) (number_if fc)
phase_of (Aborted lc cause) = Views.Aborted (number_if lc) cause

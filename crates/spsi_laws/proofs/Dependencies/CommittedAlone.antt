-- One that has committed is neither undecided nor aborted.
use Rattle.si_laws.proofs.Order.CertifiedVersions.{BegunAt, one_state}
use Rattle.si_laws.proofs.Guards.GuardGrounds.{committer}
use Rattle.si_laws.proofs.Sources.FinalsReported.{CommittedIn}
use Rattle.si_laws.specs.Standing.{IsAborted}
use Rattle.std.proofs.Common.{ap, sym, true, false, ℕ, ◌∙◌, ◌≡◌}
use Rattle.str_base.specs.declared.names.TxId.{TxId}
use Rattle.str_model.proofs.Principle.Everywhere.{Stage}
use Rattle.str_model.specs.Views.{Own, is_decided}
use Rattle.str_scene.specs.Scenes.{Scene}

-- one that has committed is not undecided
pub committed_not_open : (scene : Scene) (s : Stage) (u : TxId) (f : ℕ) (y : Own) → CommittedIn s u f → BegunAt scene s u y → is_decided y.phase ≡ false → ⊥
committed_not_open scene s u f y c b op =
    let z = committer scene s u f c in
    let same : z.x ≡ y = one_state scene s u z.x y z.at_ b in
    let dec : is_decided z.x.phase ≡ true = ap is_decided z.is.1 in
    cc (ap (λ (k : Own). is_decided k.phase) same, dec, op)

-- nor has it aborted
pub committed_not_aborted : (scene : Scene) (s : Stage) (u : TxId) (f : ℕ) (y : Own) → CommittedIn s u f → BegunAt scene s u y → IsAborted y → ⊥
committed_not_aborted scene s u f y c b g =
    let z = committer scene s u f c in
    let same : z.x ≡ y = one_state scene s u z.x y z.at_ b in
    cc (sym z.is.1 ∙ (ap (λ (k : Own). k.phase) same ∙ g.2))

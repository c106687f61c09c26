use Rattle.std.proofs.Common.{sym, ◌∙◌}
use Rattle.std.proofs.lemmas.Slice.Eq.{slice_eq-Decides}
use Rattle.history_audit.proofs.SameGots.{same_got}
use Rattle.history_audit.proofs.snapshots.same_gets.Goals as goal

pub returns : goal.returns
returns c =
    let d = slice_eq-Decides same_got c.as_slice.result.now c.as_slice-2.result.now c.eq.result c.eq.ensures in
    (λ t. sym c.as_slice.ensures.items ∙ (d.0 t ∙ c.as_slice-2.ensures.items), λ e. d.1 (c.as_slice.ensures.items ∙ (e ∙ sym c.as_slice-2.ensures.items)))

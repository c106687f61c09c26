-- A spelling that the source tells is not refused, and what spells nothing is not read.
use Rattle.run_io.proofs.Refusing.{not_refused}
use Rattle.run_io.specs.Inputs.{HasHistory, HasRead, HasRefused, IsSpelled, TellsNoSpelling, TellsSpelling}
use Rattle.run_io.specs.declared.inputs.Form.{Form}
use Rattle.run_io.specs.declared.inputs.Form.TheVariants.{History}
use Rattle.std.proofs.Common.{List, Option, inr, subst, sym, ℕ, ◌≡◌}
use Rattle.str_model.specs.declared.messages.Answer.{Answer}
use Rattle.str_scene.specs.Scenes.{Scene}
use Rattle.top_status.proofs.Whole.{all_read, all_told}

-- bytes that are told and spell a scene, or a history, are not refused
pub spelled_not_refused : (form : Form) (left left' : Option (List ℕ)) (said : List ℕ) → TellsSpelling form left → HasRefused form left left' said → ⊥
spelled_not_refused form left left' said o g =
    let same : o.0 ≡ g.bytes = all_told left left' o.0 g.bytes o.2 g.consumed g.whole o.3.short in
    not_refused form g.bytes said o.1 (subst (λ (xs : List ℕ). IsSpelled form xs o.1) same o.3) g.refusal

-- no scene is read where what is told spells none
pub unspelled_not_read : (form : Form) (left left' : Option (List ℕ)) (scene : Scene) → TellsNoSpelling form left → HasRead form left left' scene → ⊥
unspelled_not_read form left left' scene o h =
    let same : o.0 ≡ h.bytes = all_read left left' o.0 h.bytes o.1 h.consumed (inr h.ended) h.spelled.short in
    o.2 scene (subst (λ (xs : List ℕ). IsSpelled form xs scene) (sym same) h.spelled)

-- and no history
pub no_history_not_read : (left left' : Option (List ℕ)) (scene : Scene) (answers : List Answer) → TellsNoSpelling History left → HasHistory left left' scene answers → ⊥
no_history_not_read left left' scene answers o h =
    let same : o.0 ≡ h.bytes = all_read left left' o.0 h.bytes o.1 h.consumed (inr h.ended) h.short in
    let spelled : IsSpelled History h.bytes scene = record { short = h.short; scene_ = h.spelled.is_history.is_scene; spelled = (answers, h.spelled) } in
    o.2 scene (subst (λ (xs : List ℕ). IsSpelled History xs scene) (sym same) spelled)

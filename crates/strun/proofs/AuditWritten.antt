-- What has been written of a history.
use Rattle.history_audit.specs.declared.verdicts.Verdict.{Verdict}
use Rattle.std.proofs.Common.{List, [], ap, ℕ, ◌++◌, ◌∙◌, ◌≡◌}
use Rattle.str_model.specs.declared.messages.Answer.{Answer}
use Rattle.strun.specs.Audits.{verdict_line}

-- what was appended to nothing
pub is_alone : (first lines text piece : List ℕ) → first ≡ [] → lines ≡ first ++ piece → text ≡ lines → text ≡ piece
is_alone first lines text piece f l t = t ∙ (l ∙ ap (λ (xs : List ℕ). xs ++ piece) f)

-- the verdict on these answers
pub verdict_is : (given answers : List Answer) (v : Verdict) → given ≡ answers → verdict_line given v ≡ verdict_line answers v
verdict_is given answers v e = ap (λ (xs : List Answer). verdict_line xs v) e

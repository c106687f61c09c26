-- The lines of statuses and failures.
use Rattle.std.proofs.Common.{List, ap, refl, ℕ, ◌≡◌}
use Rattle.top_status.specs.declared.failure.Failure.{Failure}
use Rattle.top_status.specs.declared.failure.Failure.TheVariants.{Memory, Read, Refused, Usage, Write}
use Rattle.top_status.specs.declared.status.Status.{Status}
use Rattle.top_status.specs.declared.status.Status.TheVariants.{NoMemory, Ok as StatusOk, ReadFault, Refused as StatusRefused, Usage as StatusUsage, WriteFault}
use Rattle.top_status.specs.Failures.{refusal_in, status_of_failure, text_of}
use Rattle.top_status.specs.Statuses.{line, line_of}

-- the line of a failure is that of its status
pub line-failure : (name : List ℕ) (failure : Failure) → line name (text_of failure) ≡ line_of name (refusal_in failure) (status_of_failure failure)
line-failure name Usage = refl
line-failure name (Refused text) = refl
line-failure name Read = refl
line-failure name Write = refl
line-failure name Memory = refl

-- only a refusal's line has the text
pub line-text : (name t u : List ℕ) (status : Status) → (status ≡ StatusRefused → t ≡ u) → line_of name t status ≡ line_of name u status
line-text name t u StatusOk e = refl
line-text name t u StatusUsage e = refl
line-text name t u StatusRefused e = ap (line name) (e refl)
line-text name t u ReadFault e = refl
line-text name t u WriteFault e = refl
line-text name t u NoMemory e = refl

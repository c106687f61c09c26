-- What a failure says, its status, and when it comes.
use Rattle.std.specs.Prelude.{Err, List, Ok, Result, [], codes, ℕ, ⊤, ◌≡◌}
use Rattle.str_outer.specs.Causes.{Rose}
use Rattle.top_status.specs.declared.failure.Failure.{Failure}
use Rattle.top_status.specs.declared.failure.Failure.TheVariants.{Memory, Read, Refused, Usage, Write}
use Rattle.top_status.specs.declared.status.Status.{Status}
use Rattle.top_status.specs.declared.status.Status.TheVariants.{NoMemory, Ok as StatusOk, ReadFault, Refused as StatusRefused, Usage as StatusUsage, WriteFault}

-- the text behind the program's name
abbrev pub text_of : Failure → List ℕ
text_of Usage = codes "usage"
text_of (Refused text) = text.items
text_of Read = codes "read fault"
text_of Write = codes "write fault"
text_of Memory = codes "out of memory"

-- the status of a failure
abbrev pub status_of_failure : Failure → Status
status_of_failure Usage = StatusUsage
status_of_failure (Refused text) = StatusRefused
status_of_failure Read = ReadFault
status_of_failure Write = WriteFault
status_of_failure Memory = NoMemory

-- the status of what was done
abbrev pub status_of : {T : Type 0} → Result T Failure → Status
status_of (Ok x) = StatusOk
status_of (Err failure) = status_of_failure failure

-- the text of a refusal; of anything else none
abbrev pub refusal_in : Failure → List ℕ
refusal_in (Refused text) = text.items
refusal_in _ = []

-- the text of a refusal, where what was done is one
abbrev pub refusal_of : {T : Type 0} → Result T Failure → List ℕ
refusal_of (Ok x) = []
refusal_of (Err failure) = refusal_in failure

-- reading failed: the source's count rose, or memory was wanting
abbrev pub HasReadCause : ℕ → ℕ → Failure → Type 0
HasReadCause faults faults' Read = Rose faults faults'
HasReadCause faults faults' Memory = ⊤
HasReadCause faults faults' _ = ⊥

-- writing failed: the sink's count rose, or memory was wanting
abbrev pub HasWriteCause : ℕ → ℕ → Failure → Type 0
HasWriteCause faults faults' Write = Rose faults faults'
HasWriteCause faults faults' Memory = ⊤
HasWriteCause faults faults' _ = ⊥

-- a refusal with this text, or want of memory
abbrev pub RefusesWith : List ℕ → Failure → Type 0
RefusesWith text (Refused said) = said.items ≡ text
RefusesWith text Memory = ⊤
RefusesWith text _ = ⊥

-- no words came: one is no UTF-8, or memory was wanting
abbrev pub IsWithoutWords : Failure → Type 0
IsWithoutWords Usage = ⊤
IsWithoutWords Memory = ⊤
IsWithoutWords _ = ⊥

-- The numbers and lines of the statuses.
use Rattle.std.specs.Prelude.{List, [], codes, ℕ, ⊤, ◌++◌}
use Rattle.top_status.specs.declared.status.Status.{Status}
use Rattle.top_status.specs.declared.status.Status.TheVariants.{NoMemory, Ok as StatusOk, ReadFault, Refused, Usage, WriteFault}

-- the number with which a program ends
abbrev pub code_of : Status → ℕ
code_of StatusOk = 0
code_of Usage = 2
code_of Refused = 3
code_of ReadFault = 4
code_of WriteFault = 5
code_of NoMemory = 6

-- a line that a program of this name says
abbrev pub line : List ℕ → List ℕ → List ℕ
line name text = name ++ (codes ": " ++ (text ++ codes "\n"))

-- what a program of this name says of a status; the text is that of a refusal
abbrev pub line_of : List ℕ → List ℕ → Status → List ℕ
line_of name text StatusOk = []
line_of name text Usage = line name (codes "usage")
line_of name text Refused = line name text
line_of name text ReadFault = line name (codes "read fault")
line_of name text WriteFault = line name (codes "write fault")
line_of name text NoMemory = line name (codes "out of memory")

-- the status is one with which nothing is written on the output
abbrev pub IsQuiet : Status → Type 0
IsQuiet Usage = ⊤
IsQuiet Refused = ⊤
IsQuiet ReadFault = ⊤
IsQuiet _ = ⊥

-- the status is one with which a part may have been written
abbrev pub IsStopped : Status → Type 0
IsStopped WriteFault = ⊤
IsStopped NoMemory = ⊤
IsStopped _ = ⊥

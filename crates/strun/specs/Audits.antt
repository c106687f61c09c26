-- What `audit` and `at` write of a history, and what is promised of that.
use Rattle.history_audit.specs.Values.{values_at}
use Rattle.history_audit.specs.declared.verdicts.Verdict.{Verdict}
use Rattle.history_audit.specs.declared.verdicts.Verdict.TheVariants.{No, Yes}
use Rattle.si_laws.specs.SnapshotIsolation.{SIRun}
use Rattle.std.specs.Prelude.{List, codes, decimal, flat_map, length, ℕ, ◌++◌, ◌↔◌, ◌≡◌}
use Rattle.str_model.specs.declared.messages.Answer.{Answer}
use Rattle.str_model.specs.declared.names.Got.{Got}
use Rattle.str_scene.specs.Scenes.{KeyTable, Scene}
use Rattle.strun.specs.Banks.{pair_spelled}

-- a history, and what the audit finds of its answers
pub record Audited : Type 0 where
  pub scene : Scene
  pub answers : List Answer
  pub verdict : Verdict

-- the line of a yes to so many answers, and of a no: the first answer and the first clause where snapshot isolation fails
abbrev pub yes_line : ℕ → List ℕ
yes_line count = codes "si yes answers=" ++ decimal count ++ codes "\n"

abbrev pub no_line : ℕ → ℕ → List ℕ
no_line answer clause = codes "si no answer=" ++ decimal answer ++ codes " clause=I" ++ decimal clause ++ codes "\n"

-- the line of a verdict on answers
abbrev pub verdict_line : List Answer → Verdict → List ℕ
verdict_line answers Yes = yes_line (length answers)
verdict_line answers (No answer clause) = no_line answer clause

-- the line of a key with its value
abbrev pub pair_line : KeyTable → Got → List ℕ
pair_line keys g = pair_spelled keys g ++ codes "\n"

-- the line of the number of keys that have a value at a timestamp
abbrev pub keys_line : ℕ → ℕ → List ℕ
keys_line time count = codes "at " ++ decimal time ++ codes " keys=" ++ decimal count ++ codes "\n"

-- the lines of values at a timestamp, and of their number
abbrev pub value_lines : KeyTable → ℕ → List Got → List ℕ
value_lines keys time gots = flat_map (pair_line keys) gots ++ keys_line time (length gots)

-- what `at` writes: the lines of the values that stood, or the verdict where it is a no
abbrev pub at_lines : ℕ → Scene → List Answer → Verdict → List ℕ
at_lines time scene answers Yes = value_lines scene.keys time (values_at scene answers time)
at_lines time scene answers (No answer clause) = no_line answer clause

-- the verdict is a yes exactly where the answers are a run of the snapshot isolation machine
abbrev pub TellsIsolation : Audited → Type 0
TellsIsolation a = (a.verdict ≡ Yes) ↔ SIRun a.scene a.answers

-- What an operation of a script comes to.
use Rattle.std.specs.Prelude.{List, None, Option, Some, [], if◌then◌else◌, ◌++◌, ◌∷◌, ◌≡◌}
use Rattle.history_audit.specs.declared.evaluations.Ending.{Ending}
use Rattle.history_audit.specs.declared.evaluations.Ending.TheVariants.{AtEnd as EndsAtEnd, Unmet as EndsUnmet, Wished as EndsWished}
use Rattle.history_audit.specs.declared.evaluations.Step.{Step}
use Rattle.history_audit.specs.declared.evaluations.Step.TheVariants.{Gave, Passed, Stopped, Wrote}
use Rattle.str_base.specs.declared.names.KeyId.{KeyId}
use Rattle.str_base.specs.declared.names.Value.{Value}
use Rattle.str_base.specs.declared.names.Value.TheVariants.{Absent, Num, Text}
use Rattle.str_base.specs.declared.names.Write.{Write}
use Rattle.str_base.specs.Values.{is_below, set_write, sum_with}
use Rattle.str_model.specs.Evaluation.{AtEnd, Evaluated, Stop, Unmet, Wished, eval_from, value_at}
use Rattle.str_model.specs.declared.names.Got.{Got}
use Rattle.str_scene.specs.declared.names.Op.{Op}
use Rattle.str_scene.specs.declared.names.Op.TheVariants.{Abort, Add, Del, Get, Need, Put, Puts}

-- how a script stops
abbrev pub stop_of : Ending → Stop
stop_of EndsAtEnd = AtEnd
stop_of EndsUnmet = Unmet
stop_of EndsWished = Wished

-- what an operation comes to, after these writes
abbrev pub step_of : (KeyId → Value) → List Write → Op → Step
step_of look ws (Get k) = Gave (record { key = k; value = value_at look ws k })
step_of look ws (Put k n) = Wrote (record { key = k; value = Num n })
step_of look ws (Puts k t) = Wrote (record { key = k; value = Text t })
step_of look ws (Add k n) = Wrote (record { key = k; value = sum_with (value_at look ws k) n })
step_of look ws (Del k) = Wrote (record { key = k; value = Absent })
step_of look ws (Need k n) = if is_below (value_at look ws k) n then Stopped EndsUnmet else Passed
step_of look ws Abort = Stopped EndsWished

-- what the operations that follow give after it
abbrev pub after_step : (KeyId → Value) → List Op → List Write → List Got → Step → Evaluated
after_step look ops ws gs (Gave g) = eval_from look ops ws (gs ++ g ∷ [])
after_step look ops ws gs (Wrote w) = eval_from look ops (set_write w ws) gs
after_step look ops ws gs Passed = eval_from look ops ws gs
after_step look ops ws gs (Stopped e) = record { gets = gs; writes = ws; stop = stop_of e }

-- the operations that follow give this after these gets and writes, or the script stops so
abbrev pub IsAfter : (KeyId → Value) → List Op → List Got → List Write → Option Ending → Evaluated → Type 0
IsAfter look ops gs ws None e = eval_from look ops ws gs ≡ e
IsAfter look ops gs ws (Some ending) e = record { gets = gs; writes = ws; stop = stop_of ending } ≡ e

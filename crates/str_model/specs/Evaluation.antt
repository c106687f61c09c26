-- The evaluation of a script, in words that know no phase, wait or dependency.
use Rattle.std.specs.Prelude.{List, None, Option, Some, [], find, if◌then◌else◌, ◌++◌, ◌∷◌}
use Rattle.str_model.specs.declared.names.Got.{Got}
use Rattle.str_base.specs.declared.names.KeyId.{KeyId}
use Rattle.str_scene.specs.declared.names.Op.{Op}
use Rattle.str_scene.specs.declared.names.Op.TheVariants.{Abort, Add, Del, Get, Need, Put, Puts}
use Rattle.str_base.specs.declared.names.Value.{Value}
use Rattle.str_base.specs.declared.names.Value.TheVariants.{Absent, Num, Text}
use Rattle.str_base.specs.declared.names.Write.{Write}
use Rattle.str_base.specs.Values.{is_below, set_write, sum_with}
use Rattle.str_base.specs.Versions.{same_key}

-- how a script stops: at its end, at a need that is not met, or at an abort
pub data Stop : Type 0 where
  AtEnd : Stop
  Unmet : Stop
  Wished : Stop

-- the gets, the writes in order of first write, and how it stopped
pub record Evaluated : Type 0 where
  pub gets : List Got
  pub writes : List Write
  pub stop : Stop

-- the value of a write, where there is one
abbrev pub write_or : Option Write → Value → Value
write_or None v = v
write_or (Some w) v = w.value

-- the buffered value, else what look gives
abbrev pub value_at : (KeyId → Value) → List Write → KeyId → Value
value_at look ws k = write_or (find (λ w. same_key w.key k) ws) (look k)

-- the writes with one more
abbrev pub with_write : KeyId → Value → List Write → List Write
with_write k v ws = set_write (record { key = k; value = v }) ws

-- the operations one after the other
abbrev pub eval_from : (KeyId → Value) → List Op → List Write → List Got → Evaluated
eval_from look [] ws gs = record { gets = gs; writes = ws; stop = AtEnd }
eval_from look (Get k ∷ ops) ws gs = eval_from look ops ws (gs ++ record { key = k; value = value_at look ws k } ∷ [])
eval_from look (Put k n ∷ ops) ws gs = eval_from look ops (with_write k (Num n) ws) gs
eval_from look (Puts k t ∷ ops) ws gs = eval_from look ops (with_write k (Text t) ws) gs
eval_from look (Add k n ∷ ops) ws gs = eval_from look ops (with_write k (sum_with (value_at look ws k) n) ws) gs
eval_from look (Del k ∷ ops) ws gs = eval_from look ops (with_write k Absent ws) gs
eval_from look (Need k n ∷ ops) ws gs =
    let rest = eval_from look ops ws gs in
    if is_below (value_at look ws k) n then record { gets = gs; writes = ws; stop = Unmet } else rest
eval_from look (Abort ∷ ops) ws gs = record { gets = gs; writes = ws; stop = Wished }

-- a script with an empty write buffer
abbrev pub eval : List Op → (KeyId → Value) → Evaluated
eval ops look = eval_from look ops [] []

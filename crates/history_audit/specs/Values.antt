-- What stood at a timestamp.
use Rattle.std.specs.List.{range_with_len}
use Rattle.std.specs.Prelude.{List, [], flat_map, length, ℕ, ◌∷◌}
use Rattle.si_laws.specs.Commits.{look_up, members}
use Rattle.str_base.specs.declared.names.KeyId.{KeyId}
use Rattle.str_base.specs.declared.names.Value.{Value}
use Rattle.str_base.specs.declared.names.Value.TheVariants.{Absent, Num, Text}
use Rattle.str_model.specs.declared.messages.Answer.{Answer}
use Rattle.str_model.specs.declared.names.Got.{Got}
use Rattle.str_scene.specs.Scenes.{Scene}

-- the key with its value, where it has one
abbrev pub listed : KeyId → Value → List Got
listed k Absent = []
listed k (Num n) = record { key = k; value = Num n } ∷ []
listed k (Text t) = record { key = k; value = Text t } ∷ []

-- the n-th key of a table with its value, where look gives it one
abbrev pub listed_by : (KeyId → Value) → ℕ → List Got
listed_by look n = listed (record { 0 = n }) (look (record { 0 = n }))

-- each of the first n keys with its value, where look gives it one
abbrev pub values_by : (KeyId → Value) → ℕ → List Got
values_by look n = flat_map (listed_by look) (range_with_len 0 n)

-- each key of the scene with the value that the last commit with a final timestamp of at most t gave it, in the order of the table
abbrev pub values_at : Scene → List Answer → ℕ → List Got
values_at scene all t = values_by (look_up (members scene all) t) (length scene.keys.names)

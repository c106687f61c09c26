-- At which calls a source or a sink in memory fails, and how many bytes it moves a call.
use Rattle.std.specs.List.{list_any}
use Rattle.std.specs.Prelude.{Bool, List, min, ℕ, ◌+◌, ◌-◌, ◌^◌, ◌==◌}

pub record Plan : Type 0 where
  pub failing : List ℕ  -- the numbers of the calls that are to fail
  pub most : ℕ  -- the greatest size of a call

-- a plan of these calls and this size
abbrev pub planned : List ℕ → ℕ → Plan
planned failing most = record { failing = failing; most = most }

-- the number of the next call, which stays at the last value of a counter
abbrev pub next_call : ℕ → ℕ
next_call calls = min (calls + 1) (2 ^ 64 - 1)

-- the call of this number is to fail
abbrev pub is_failing : Plan → ℕ → Bool
is_failing plan call = list_any (λ n. n == call) plan.failing

-- Why a source or a sink refuses: each refusal has a count that rose.
use Rattle.std.specs.Prelude.{ℕ, ◌+◌, ◌-◌, ◌^◌, ◌≤◌, min, Result, OnErr, IsErrOf}
use Rattle.str_outer.specs.declared.outside.Stopped.{Stopped}
use Rattle.str_outer.specs.declared.outside.Stopped.TheVariants.{Failed, Memory}

-- a count has risen, or stands at the last value of a counter
abbrev pub Rose : ℕ → ℕ → Type 0
Rose before now = min (before + 1) (2 ^ 64 - 1) ≤ now

-- a source's count of faults didn't fall, and rose where the read failed
pub record HasCause {T E : Type 0} (before now : ℕ) (result : Result T E) : Type 0 where
  pub later : before ≤ now
  pub failed : OnErr result (Rose before now)

-- a sink's counts of faults and of wants didn't fall, and each refusal has its count
pub record HasCauses {T : Type 0} (faults faults' wants wants' : ℕ) (result : Result T Stopped) : Type 0 where
  pub faults_later : faults ≤ faults'
  pub wants_later : wants ≤ wants'
  pub failed : IsErrOf result Failed → Rose faults faults'
  pub memory : IsErrOf result Memory → Rose wants wants'

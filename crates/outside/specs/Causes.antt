-- When a call may answer that it failed.
use Rattle.std.specs.Prelude.{◌≡◌, ◌≤◌, ◌+◌, ◌-◌, ◌^◌, ℕ, min, Result, IsErrOf, OnOk, OnErr}
use Rattle.outside.specs.declared.error.Failed as failed
use Rattle.outside.specs.declared.error.FileErr as file_err
use Rattle.outside.specs.declared.error.SpawnErr as spawn_err

-- the count rose, or stands at its last value
abbrev pub Rose : ℕ → ℕ → Type 0
Rose before now = min (before + 1) (2 ^ 64 - 1) ≤ now

-- the count of faults never falls, and the call fails only where it rose
pub record HasCause {T : Type 0} (before now : ℕ) (result : Result T file_err.FileErr) : Type 0 where
  pub later : before ≤ now
  pub failed : IsErrOf result file_err.TheVariants.Failed → Rose before now

-- the count of calls that had no memory never falls, and a call has none only where it rose
pub record HasShortage {T : Type 0} (before now : ℕ) (result : Result T file_err.FileErr) : Type 0 where
  pub later : before ≤ now
  pub short : IsErrOf result file_err.TheVariants.Memory → Rose before now

-- the same as `HasCause` of a call that takes no memory
pub record HasLinkCause {T : Type 0} (before now : ℕ) (result : Result T failed.Failed) : Type 0 where
  pub later : before ≤ now
  pub failed : OnErr result (Rose before now)

-- the same of a call on other programs
pub record HasSpawnCause {T : Type 0} (before now : ℕ) (result : Result T spawn_err.SpawnErr) : Type 0 where
  pub later : before ≤ now
  pub failed : IsErrOf result spawn_err.TheVariants.Failed → Rose before now

-- a call of a steady object: it fails only where this holds, and else counts nothing
pub record IsSteady {T : Type 0} (before now : ℕ) (result : Result T file_err.FileErr) (excuse : Type 0) : Type 0 where
  pub failed : IsErrOf result file_err.TheVariants.Failed → excuse
  pub ok : OnOk result (now ≡ before)
  pub memory : IsErrOf result file_err.TheVariants.Memory → now ≡ before

-- the same of a call that takes no memory
pub record IsSteadyLink {T : Type 0} (before now : ℕ) (result : Result T failed.Failed) (excuse : Type 0) : Type 0 where
  pub failed : OnErr result excuse
  pub ok : OnOk result (now ≡ before)

-- the same of a call on other programs
pub record IsSteadySpawn {T : Type 0} (before now : ℕ) (result : Result T spawn_err.SpawnErr) (excuse : Type 0) : Type 0 where
  pub failed : IsErrOf result spawn_err.TheVariants.Failed → excuse
  pub ok : OnOk result (now ≡ before)
  pub memory : IsErrOf result spawn_err.TheVariants.Memory → now ≡ before

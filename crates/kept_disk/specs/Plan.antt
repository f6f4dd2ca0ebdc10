-- Which calls of a disk in memory are to fail.
use Rattle.std.specs.Prelude.{◌≤◌, ◌⊎◌, ℕ, List, [], ◌∷◌, Bool, true, false, Option, Some, None, Contains, IsSomeAnd, Vec}
use Rattle.std.specs.declared.alloc.Global.{Global}
use Rattle.kept_disk.specs.declared.disk_plan.DiskPlan.{DiskPlan}

-- no call is to fail
abbrev pub none_fails : List ℕ → Option ℕ → Bool
none_fails [] None = true
none_fails [] (Some k) = false
none_fails (n ∷ ns) dead_from = false

abbrev pub is_steady : DiskPlan → Bool
is_steady plan = none_fails plan.fails.items plan.dead_from

-- the next call is one of those that are listed, or it comes after the last one that can succeed
abbrev pub NextFails : DiskPlan → Type 0
NextFails plan = Contains plan.fails.items plan.calls ⊎ IsSomeAnd plan.dead_from (λ first. first ≤ plan.calls)

-- before the first call
abbrev pub fresh_plan : Vec ℕ Global → Option ℕ → DiskPlan
fresh_plan fails dead_from = record { fails = fails; dead_from = dead_from; calls = 0; faults = 0 }

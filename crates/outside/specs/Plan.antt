-- Which calls of an object in memory are to fail.
use Rattle.std.specs.Prelude.{◌≡◌, ◌≤◌, ◌↔◌, ℕ, ◌+◌, ◌-◌, ◌^◌, min, List, [], ◌∷◌, Bool, true, false, Vec, IsTrue, Contains}
use Rattle.std.specs.declared.alloc.Global.{Global}
use Rattle.outside.specs.declared.fault_plan.FaultPlan.{FaultPlan}

-- a count of 64 bits that has risen, or stands at its last value
abbrev pub one_more : ℕ → ℕ
one_more n = min (n + 1) (2 ^ 64 - 1)

-- no call is to fail
abbrev pub none_fails : List ℕ → Bool
none_fails [] = true
none_fails (x ∷ xs) = false

abbrev pub is_steady : FaultPlan → Bool
is_steady plan = none_fails plan.fails.items

-- before the first call
abbrev pub fresh_plan : Vec ℕ Global → FaultPlan
fresh_plan fails = record { fails = fails; calls = 0; faults = 0 }

-- one more call was counted, and a fault where it was to fail
pub record Went (old new : FaultPlan) (failing : Bool) : Type 0 where
  pub listed : IsTrue failing ↔ Contains old.fails.items old.calls
  pub call : new.calls ≡ one_more old.calls
  pub fault : failing ≡ true → new.faults ≡ one_more old.faults
  pub none : failing ≡ false → new.faults ≡ old.faults
  pub later : old.faults ≤ new.faults
  pub fails : new.fails ≡ old.fails
  pub steady : is_steady old ≡ true → failing ≡ false

-- What a spawner in memory means.
use Rattle.std.specs.Prelude.{ℕ, ℤ, List, true}
use Rattle.outside.specs.Plan.{is_steady}
use Rattle.outside.specs.SpawnCall.{calls_of, held_of, status_in}
use Rattle.outside.specs.Spawner.{SpawnerState, ChildCall}
use Rattle.outside.specs.declared.fault_plan.FaultPlan.{FaultPlan}
use Rattle.outside.specs.declared.mem_spawner.MemSpawner.{MemSpawner}

abbrev pub status_by_child : MemSpawner → ℕ → ℤ
status_by_child m = status_in m.statuses.items

abbrev pub calls_in : MemSpawner → List ChildCall
calls_in m = calls_of m.calls.items

-- which of its calls are to fail
abbrev pub plan_in : MemSpawner → FaultPlan
plan_in m = m.plan

abbrev pub spawner_state : MemSpawner → SpawnerState
spawner_state m = record {
  told = true;
  calls = calls_in m;
  held = held_of m.calls.items;
  status = status_by_child m;
  faults = m.plan.faults;
  steady = is_steady m.plan;
}

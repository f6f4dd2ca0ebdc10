-- What a sink in memory means.
use Rattle.std.specs.Prelude.{ℕ, List, true}
use Rattle.outside.specs.Sink.{SinkState}
use Rattle.outside.specs.Plan.{is_steady}
use Rattle.outside.specs.declared.fault_plan.FaultPlan.{FaultPlan}
use Rattle.outside.specs.declared.mem_sink.MemSink.{MemSink}

abbrev pub bytes_in : MemSink → List ℕ
bytes_in m = m.bytes.items

-- which of its calls are to fail
abbrev pub plan_in : MemSink → FaultPlan
plan_in m = m.plan

abbrev pub sink_state : MemSink → SinkState
sink_state m = record {
  told = true;
  written = bytes_in m;
  lost = m.lost.items;
  faults = m.plan.faults;
  shortages = m.shortages;
  steady = is_steady m.plan;
}

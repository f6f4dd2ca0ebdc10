-- What links in memory mean.
use Rattle.std.specs.Prelude.{ℕ, List, [], ◌==◌, if◌then◌else◌, true}
use Rattle.outside.specs.LinkCall.{moves_of}
use Rattle.outside.specs.Links.{LinkMove, LinksState}
use Rattle.outside.specs.MemPeer.{sent_to, coming_from}
use Rattle.outside.specs.Plan.{is_steady}
use Rattle.outside.specs.declared.fault_plan.FaultPlan.{FaultPlan}
use Rattle.outside.specs.declared.mem_links.MemLinks.{MemLinks}

-- of peers 1, 2 and 3, in this order; no other peer has any byte
unfoldable pub by_peer : List ℕ → List ℕ → List ℕ → ℕ → List ℕ
by_peer first second third peer =
    if peer == 1 then first else if peer == 2 then second else if peer == 3 then third else []

abbrev pub links_sent : MemLinks → ℕ → List ℕ
links_sent m = by_peer (sent_to m.first) (sent_to m.second) (sent_to m.third)

abbrev pub links_coming : MemLinks → ℕ → List ℕ
links_coming m = by_peer (coming_from m.first) (coming_from m.second) (coming_from m.third)

-- its calls that moved bytes, in order
abbrev pub links_moves : MemLinks → List LinkMove
links_moves m = moves_of m.moves.items

-- which of its calls are to fail
abbrev pub plan_in : MemLinks → FaultPlan
plan_in m = m.plan

abbrev pub links_state : MemLinks → LinksState
links_state m = record {
  told = true;
  moves = links_moves m;
  sent = links_sent m;
  coming = links_coming m;
  faults = m.plan.faults;
  steady = is_steady m.plan;
}

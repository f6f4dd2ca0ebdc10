-- Gates on what is dealt are run part by part.
use Rattle.std.proofs.Common.{[], ◌++◌, refl, sym, ap, ◌∙◌}
use Rattle.protocol_model.specs.Gates.{sizes_of}
use Rattle.gate_laws.specs.Model.{run_gates, sizes_after}
use Rattle.gate_laws.proofs.GatesBehind.{gates-then, sizes-then}
use Rattle.driven_nodes.proofs.NodeRuns.{RunsJoin}
use Rattle.gate_laws.specs.Dealt.{Dealt}
use Rattle.code_places.specs.Places.{run_dealt}

pub run_dealt_joins : (d : Dealt) → RunsJoin (run_dealt d)
run_dealt_joins d =
    record {
      none = λ before. refl;
      joins = λ before xs ys.
          gates-then d.shares (sizes_of d.inputs) (sizes_after (sizes_of d.inputs) [] before) xs ys
          ∙ ap (λ sizes. run_dealt d before xs ++ run_gates d.shares (sizes_of d.inputs) sizes ys) (sym (sizes-then (sizes_of d.inputs) [] before xs));
    }

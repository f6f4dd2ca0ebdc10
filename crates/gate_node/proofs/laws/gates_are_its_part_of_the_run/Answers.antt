use Rattle.std.proofs.Common.{◌≡◌, ◌≤◌, length, drop, sym, subst}
use Rattle.proto_core.specs.Strand.{Ends, then_do}
use Rattle.protocol_model.specs.Gates.{needed, gates_strand}
use Rattle.gate_node.specs.OwnGates.{Whole, own_gates}
use Rattle.gate_node.proofs.OwnGates.{its-part}
use Rattle.gate_node.proofs.laws.gates_are_its_part_of_the_run.Goals as goal

pub returns : goal.returns
returns c =
    λ i dealt all_dealt gates values tape run own suit is reach.
    subst
    (λ r. needed r i ≤ length tape
    → own_gates i dealt gates values tape ≡ then_do (gates_strand i r values tape) (λ all. Ends (Whole all (drop (needed r i) tape))))
    (sym is) (its-part i dealt all_dealt own gates values tape suit) reach

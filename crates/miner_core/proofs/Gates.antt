-- What a miner's gates have come to, after that what is left after them.
use Rattle.std.proofs.Common.{◌≡◌, ◌++◌, map, refl, ◌∙◌, ap}
use Rattle.proto_core.specs.declared.party.Number.{Number}
use Rattle.proto_core.specs.Strand.{run, then_do, told_in}
use Rattle.gates.specs.Clear.{Values}
use Rattle.driven_nodes.specs.Driven.{telling}
use Rattle.driven_nodes.specs.Steps.{stand_of, last_of}
use Rattle.own_code.specs.Places.{Place, step_told}
use Rattle.miner_core.specs.TurnViews.{went_to}
use Rattle.block_steps.specs.Outcomes.{outcome_of, mail_left}
use Rattle.block_steps.proofs.Behind.{outcome-then}
use Rattle.gate_node.specs.OwnGates.{GatesEnd, Whole, Stuck}
use Rattle.gate_node.specs.Nodes as node
use Rattle.gate_node.specs.declared.engine.Engine as gates
use Rattle.gate_node.proofs.Always.{then-all}
use Rattle.miner_core.specs.declared.engine.At.{At}
use Rattle.miner_core.specs.declared.engine.At.TheVariants as at
use Rattle.miner_core.specs.declared.engine.Engine.{Engine}
use Rattle.own_code.specs.OwnCode.{From, own_code, go_on, tell_and_go_on}
use Rattle.miner_core.specs.Views.{notice_seen, told_since, task_world, task_code}
use Rattle.miner_core.specs.Engines.{place_at, behind_node, engine_left, engine_outcome, engine_told, IsQuiet}
use Rattle.miner_core.proofs.Quiet.{told_then}

module _ {P : Type 0} (i : Number) (e : Engine P) (n : gates.Engine P) where
  abbrev with_node : Engine P
  with_node = record e { node = n }

  abbrev code_by : Values → From Place
  code_by d = own_code (task_world e.task) (task_code e.task) i d e.fuel

  -- what is after asks of the gates only what the miner was dealt
  behind_same : n.dealt ≡ e.node.dealt → (a : At) (h : GatesEnd) → behind_node i with_node a h ≡ behind_node i e a h
  behind_same dealt a Stuck = refl
  behind_same dealt at.Ready (Whole values tape) = ap (λ d. code_by d (place_at i e) values tape) dealt
  behind_same dealt at.Again (Whole values tape) =
      ap (λ d. tell_and_go_on (code_by d) (place_at i e) (step_told (task_world e.task) (task_code e.task) (place_at i e) (last_of values)) values tape) dealt
  behind_same dealt (at.Acts t speech before) (Whole values tape) =
      ap (λ d. telling (told_since speech before e.stage (last_of values))
      (go_on (code_by d) (stand_of (went_to e.task.code t e.machine e.stage)) values tape)) dealt
  behind_same dealt (at.Over ending) (Whole values tape) = refl
  behind_same dealt at.Short (Whole values tape) = refl

  left_is : n.dealt ≡ e.node.dealt → engine_left i with_node ≡ then_do (node.engine_left i n) (behind_node i e e.at)
  left_is dealt = then-all (node.engine_left i n) (behind_node i with_node e.at) (behind_node i e e.at) (behind_same dealt e.at)

  pub left_same : node.engine_left i n ≡ node.engine_left i e.node → n.dealt ≡ e.node.dealt → engine_left i with_node ≡ engine_left i e
  left_same same dealt = left_is dealt ∙ ap (λ s. then_do s (behind_node i e e.at)) same

  pub node_same : node.engine_outcome i n ≡ node.engine_outcome i e.node → n.dealt ≡ e.node.dealt → engine_outcome i with_node ≡ engine_outcome i e
  node_same same dealt =
      let l = n.links in
      let k = e.node.links in
      ap (outcome_of i l) (left_is dealt)
      ∙ outcome-then i (behind_node i e e.at) l.to_next l.to_previous k.to_next k.to_previous l.opened.items k.opened.items
      (node.engine_left i n) (node.engine_left i e.node) (mail_left i l) (mail_left i k) same

  pub node_told :
      node.engine_outcome i n ≡ node.engine_outcome i e.node → n.dealt ≡ e.node.dealt → IsQuiet i e.node → IsQuiet i n →
      engine_told i with_node ≡ engine_told i e
  node_told same dealt quiet quiet2 =
      ap (λ s. map notice_seen e.notices.items ++ told_in (run s (mail_left i n.links)).acts) (left_is dealt)
      ∙ ap (λ ns. map notice_seen e.notices.items ++ ns)
      (told_then i e.node.links n.links (node.engine_left i e.node) (node.engine_left i n) (behind_node i e e.at) same quiet quiet2)

use Rattle.std.proofs.Common.{◌≡◌, ◌+◌, [], ◌∷◌, ◌++◌, length, drop, sym, ◌∙◌, ap, subst}
use Rattle.std.proofs.lemmas.List.{drop_all}
use Rattle.std.specs.List.{repeat}
use Rattle.shared_gates.proofs.GatesBehind.{next-gate}
use Rattle.proto_core.specs.declared.party.Number.TheVariants.{One, Two, Three}
use Rattle.gates.specs.Blocks.{block_sizes}
use Rattle.counted_net.specs.Scripts.{moves_of}
use Rattle.view_simulator.specs.Blocks.{block_moves}
use Rattle.view_simulator.specs.Sizes.{exchanged, AreKept}
use Rattle.view_simulator.proofs.Walking.{Walked, begun, passed, ended}
use Rattle.view_simulator.proofs.gate_by_gate.scripts.Goals as goal

pub loop-gate-init : goal.loop-gate-init
loop-gate-init c =
    begun c.args.dealt.now c.args.gates.now c.new-sizes.result.items
    (moves_of (record { one = c.new.result; two = c.new-2.result; three = c.new-3.result })) c.requires c.new-sizes.ensures.items
    (elim [ One ↦ c.new.ensures.items | Two ↦ c.new-2.ensures.items | Three ↦ c.new-3.ensures.items ])

pub loop-gate-preserved : goal.loop-gate-preserved
loop-gate-preserved c =
    let dealt = c.args.dealt.now in
    let gates = c.args.gates.now in
    let kept = c.loop-gate.sizes.items in
    let moves = moves_of c.loop-gate.scripts in
    let gate = c.gate-item.result in
    let later = drop (c.loop-gate.gate-index + 1) gates in
    let next : drop c.loop-gate.gate-index gates ≡ gate ∷ later =
    next-gate gates c.loop-gate.gate-index gate c.loop-gate-test.true c.gate-item.is in
    let walked : Walked dealt gates (gate ∷ later) kept moves = subst (λ l. Walked dealt gates l kept moves) next c.loop-gate.invariant in
    let size : c.in-Some.size ≡ exchanged walked.sizes gate =
    c.in-Some.ensures walked.sizes (subst (λ k. AreKept walked.sizes k) (sym c.deref.ensures.value) walked.are) in
    passed dealt gates gate later kept moves walked c.push_sizes.new.sizes.items (moves_of c.add_gate.new.scripts)
    (λ all are. c.in_ok-push_sizes.ensures all are)
    (λ i. c.in_ok-add_gate.ensures i ∙ ap (λ n. moves i ++ repeat (length (block_sizes n)) (block_moves gate i)) size)

pub returns : goal.returns
returns c =
    let dealt = c.args.dealt.now in
    let gates = c.args.gates.now in
    let kept = c.loop-gate.sizes.items in
    let moves = moves_of c.loop-gate.scripts in
    let all : drop c.loop-gate.gate-index gates ≡ [] = drop_all c.loop-gate.gate-index gates c.loop-gate-test.false in
    ended dealt gates kept moves (subst (λ l. Walked dealt gates l kept moves) all c.loop-gate.invariant)

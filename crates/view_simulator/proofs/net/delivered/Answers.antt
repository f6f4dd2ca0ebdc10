use Rattle.std.proofs.Common.{◌≡◌, ℕ, List, [], ap, ◌∙◌, sym, subst}
use Rattle.proto_core.specs.declared.party.Number.{Number}
use Rattle.protocol_model.specs.Gates.{gates_script}
use Rattle.gates.specs.Clear.{Values}
use Rattle.shared_gates.specs.Model.{run_gates}
use Rattle.counted_net.specs.Scripts.{AreScripts}
use Rattle.view_simulator.specs.Sizes.{SizesFit}
use Rattle.view_model.specs.Dealing.{private_shares, hidden_sizes, made_entries}
use Rattle.view_simulator.specs.Simulating.{scripts_made}
use Rattle.view_simulator.proofs.net.delivered.Goals as goal

pub scripts-requires : goal.scripts-requires
scripts-requires c =
    let sizes : hidden_sizes c.args.part.now ≡ c.deref.result.now = sym (c.deref.ensures.value ∙ c.in_ok-sizes.ensures ∙ ap hidden_sizes c.entries.ensures) in
    subst (λ (ns : List ℕ). SizesFit ns [] c.args.gates.now) sizes c.requires

pub returns : goal.returns
returns c =
    let part = c.args.part.now in
    let gates = c.args.gates.now in
    let sizes : c.deref.result.now ≡ hidden_sizes part = c.deref.ensures.value ∙ c.in_ok-sizes.ensures ∙ ap hidden_sizes c.entries.ensures in
    λ i dealer.
    let shares : Number → Values = λ k. private_shares (made_entries i part dealer) in
    c.deliver_counts.ensures (scripts_made i part dealer gates)
    (subst (λ (ns : List ℕ). AreScripts (λ k. gates_script k (run_gates shares ns [] gates)) c.in_ok-scripts.scripts) sizes
    (c.in_ok-scripts.ensures shares))

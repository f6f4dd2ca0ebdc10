use Rattle.std.proofs.Common.{ℕ, List, Option, subst}
use Rattle.shared_gates.specs.Model.{size_made}
use Rattle.view_simulator.specs.Sizes.{IsKept, AreKept}
use Rattle.view_simulator.proofs.Kept.{one-kept, two-kept}
use Rattle.view_simulator.proofs.script_sizes.push_sizes.Goals as goal

pub returns-in_ok-push-2 : goal.returns-in_ok-push-2
returns-in_ok-push-2 c =
    let size = c.in_ok-size.size in
    let is =
    subst (λ (k : List (Option ℕ)). (all : List ℕ) → AreKept all k → IsKept (size_made c.args.dealt.now all c.args.gate.now) size)
    c.deref.ensures.value c.in_ok-size.ensures in
    two-kept c.args.dealt.now c.args.gate.now c.args.sizes.now.items c.push.new.self.items size c.in_ok-push.ensures.items is
    c.in-Split.operand c.in-Split.negated c.in-Split.is c.push-in-Split.new.self.items c.in_ok-push-2.ensures.items

pub returns-in_default : goal.returns-in_default
returns-in_default c =
    let size = c.in_ok-size.size in
    let is =
    subst (λ (k : List (Option ℕ)). (all : List ℕ) → AreKept all k → IsKept (size_made c.args.dealt.now all c.args.gate.now) size)
    c.deref.ensures.value c.in_ok-size.ensures in
    one-kept c.args.dealt.now c.args.gate.now c.args.sizes.now.items c.push.new.self.items size c.in_ok-push.ensures.items is
    (λ u negated e. c.in_default.not-Split u negated e)

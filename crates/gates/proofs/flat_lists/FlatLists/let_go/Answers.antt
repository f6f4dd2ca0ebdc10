use Rattle.std.proofs.Common.{rules, ◌≡◌, ◌≢◌, ℕ, ◌+◌, Some, None, arith}
use Rattle.std.proofs.lemmas.Grind.{common_steps}
use Rattle.gates.specs.inner.Spans.{found, live_words}
use Rattle.gates.proofs.Spans.{fewer_found, live_removed, spans_fewer}
use Rattle.gates.proofs.flat_lists.FlatLists.let_go.Goals as goal

pub overflow_sub-self : goal.overflow_sub-self
overflow_sub-self c =
    let es = c.self.inside.spans.entries in
    let new = c.remove.new.self.entries in
    let span = c.in-Some.span in
    let was : found es c.args.number ≡ Some span = search rules in
    let removed : live_words new + span.len ≡ live_words es = live_removed es new c.args.number span c.remove.ensures.entries was in
    omega (arith, removed, c.self.invariant.1)

pub invariant_of-self : goal.invariant_of-self
invariant_of-self c =
    let words = c.self.inside.words.items in
    let es = c.self.inside.spans.entries in
    let new = c.remove.new.self.entries in
    let number = c.args.number in
    let span = c.in-Some.span in
    let was : found es number ≡ Some span = search rules in
    let none : found new number ≡ None = grind (arith, common_steps) in
    let others : (k : ℕ) → k ≢ number → found new k ≡ found es k = λ k apart. grind (arith, common_steps, apart) in
    let removed : live_words new + span.len ≡ live_words es = live_removed es new number span c.remove.ensures.entries was in (
      spans_fewer words (found es) (found new) (fewer_found (found es) (found new) number none others) c.self.invariant.0,
      omega (arith, removed, c.self.invariant.1),
      omega (arith, removed, c.self.invariant.1, c.self.invariant.2),
    )

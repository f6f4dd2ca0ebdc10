use Rattle.std.proofs.Common.{rules, ◌≡◌, ◌≢◌, ℕ, ◌+◌, ◌<◌, length, Some, None, sym, ap, subst, ◌∙◌, arith}
use Rattle.std.specs.Prelude.{set}
use Rattle.std.proofs.lemmas.Grind.{common_steps}
use Rattle.std.proofs.lemmas.List.{length-set}
use Rattle.gates.specs.inner.Spans.{found, words_at, list_at, live_words, HasMoved}
use Rattle.gates.proofs.Spans.{at_some, length-within, moved_has, moved_spans, nothing_there, live_put, live_removed}
use Rattle.gates.proofs.flat_lists.FlatLists.move_with.Goals as goal

pub invariant_of-self-2 : goal.invariant_of-self-2
invariant_of-self-2 c =
    let words = c.self.inside.words.items in
    let es = c.self.inside.spans.entries in
    let mid = c.insert.new.self.entries in
    let new = c.remove.new.self.entries in
    let from = c.args.from in
    let to = c.args.to in
    let span = c.in-Some.span.now in
    let was : found es from ≡ Some span = search rules in
    let mid_own : found mid to ≡ Some span = grind (arith, common_steps) in
    let mid_others : (k : ℕ) → k ≢ to → found mid k ≡ found es k = λ k apart. grind (arith, common_steps, apart) in
    let none : found new from ≡ None = grind (arith, common_steps) in
    let new_others : (k : ℕ) → k ≢ from → found new k ≡ found mid k = λ k apart. grind (arith, common_steps, apart) in
    let nothing = nothing_there words (found es) c.self.invariant.0 to (ap (λ lists. list_at lists to) c.self.view_is ∙ c.requires.free) in
    let put : live_words mid ≡ live_words es + span.len = live_put es mid to span c.insert.ensures.was_ordered c.in_ok-insert.ensures.entries nothing in
    let there : found mid from ≡ Some span = mid_others from (λ is. c.requires.other (sym is)) ∙ was in
    let removed : live_words new + span.len ≡ live_words mid = live_removed mid new from span c.remove.ensures.entries there in (
      moved_spans words (found es) (found new) from to c.args.index c.args.word span was (new_others to c.requires.other ∙ mid_own) none
          (λ k a b. new_others k b ∙ mid_others k a) c.self.invariant.0,
      omega (arith, put, removed, c.self.invariant.1),
      omega (arith, c.self.invariant.2, length-set words (span.place + c.args.index) c.args.word),
    )

pub returns-clause-ok : goal.returns-clause-ok
returns-clause-ok c =
    let words = c.self.inside.words.items in
    let es = c.self.inside.spans.entries in
    let mid = c.insert.new.self.entries in
    let new = c.remove.new.self.entries in
    let from = c.args.from in
    let to = c.args.to in
    let span = c.in-Some.span.now in
    let was : found es from ≡ Some span = search rules in
    let mid_own : found mid to ≡ Some span = grind (arith, common_steps) in
    let mid_others : (k : ℕ) → k ≢ to → found mid k ≡ found es k = λ k apart. grind (arith, common_steps, apart) in
    let none : found new from ≡ None = grind (arith, common_steps) in
    let new_others : (k : ℕ) → k ≢ from → found new k ≡ found mid k = λ k apart. grind (arith, common_steps, apart) in
    let size : length (list_at c.args.self.now from) ≡ span.len =
    ap (λ lists. length (list_at lists from)) (sym c.self.view_is) ∙ ap length (at_some words (found es) from span was)
    ∙ length-within words span (c.self.invariant.0.end from span was) in
    let there : c.args.index < span.len = omega (arith, c.requires.there, size) in
    let all = set words (span.place + c.args.index) c.args.word in
    subst (λ lists. HasMoved (list_at lists) (words_at all (found new)) from to c.args.index c.args.word) c.self.view_is
    (moved_has words (found es) (found new) from to c.args.index c.args.word span was (new_others to c.requires.other ∙ mid_own) none
    (λ k a b. new_others k b ∙ mid_others k a) c.self.invariant.0 there)

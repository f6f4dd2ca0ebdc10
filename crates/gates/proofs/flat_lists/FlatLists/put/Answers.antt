use Rattle.std.proofs.Common.{rules, ◌≡◌, ◌≢◌, ℕ, ◌+◌, ◌++◌, length, Some, sym, ap, subst, ◌∙◌, arith, length-append}
use Rattle.std.proofs.lemmas.Grind.{common_steps}
use Rattle.gates.specs.declared.span.Span.{Span}
use Rattle.gates.specs.inner.Spans.{found, words_at, list_at, AreSpans, live_words, HasPut}
use Rattle.gates.proofs.Spans.{at_more, spans_more, put_has, put_spans, nothing_there, live_put}
use Rattle.gates.proofs.flat_lists.FlatLists.put.Goals as goal

pub invariant_of-self-in_err-insert : goal.invariant_of-self-in_err-insert
invariant_of-self-in_err-insert c =
    let before = c.self.inside.words.items in
    let more = c.args.words.now in
    let es = c.self.inside.spans.entries in
    let now = c.extend_from_slice.new.self.items in
    let grown : now ≡ before ++ more = search rules in
    let same : c.insert.new.self.entries ≡ es = search rules in (
      subst (λ fs. AreSpans now (found fs)) (sym same)
          (subst (λ ws. AreSpans ws (found es)) (sym grown) (spans_more before more (found es) c.self.invariant.0)),
      c.self.invariant.1 ∙ ap live_words (sym same),
      omega (arith, c.self.invariant.2, ap length grown, length-append before more),
    )

pub returns-in_err-insert-clause-err : goal.returns-in_err-insert-clause-err
returns-in_err-insert-clause-err c =
    let before = c.self.inside.words.items in
    let more = c.args.words.now in
    let es = c.self.inside.spans.entries in
    let now = c.extend_from_slice.new.self.items in
    let grown : now ≡ before ++ more = search rules in
    let same : c.insert.new.self.entries ≡ es = search rules in
    let all : (k : ℕ) → words_at now (found c.insert.new.self.entries) k ≡ list_at c.args.self.now k =
    λ k. ap (λ fs. words_at now (found fs) k) same ∙ ap (λ ws. words_at ws (found es) k) grown ∙ at_more before more (found es) c.self.invariant.0 k
    ∙ ap (λ lists. list_at lists k) c.self.view_is in
    search (rules, all)

pub invariant_of-self-2 : goal.invariant_of-self-2
invariant_of-self-2 c =
    let before = c.self.inside.words.items in
    let more = c.args.words.now in
    let es = c.self.inside.spans.entries in
    let new = c.insert.new.self.entries in
    let number = c.args.number in
    let now = c.extend_from_slice.new.self.items in
    let span : Span = record { place = c.len-place.result; len = length more } in
    let grown : now ≡ before ++ more = search rules in
    let own : found new number ≡ Some span = grind (arith, common_steps) in
    let others : (k : ℕ) → k ≢ number → found new k ≡ found es k = λ k apart. grind (arith, common_steps, apart) in
    let none = nothing_there before (found es) c.self.invariant.0 number (ap (λ lists. list_at lists number) c.self.view_is ∙ c.requires.free) in
    let live : live_words new ≡ live_words es + length more = live_put es new number span c.insert.ensures.was_ordered c.in_ok-insert.ensures.entries none in
    let spans : AreSpans (before ++ more) (found new) =
    put_spans before more (found es) (found new) number span own others (omega arith) (omega arith) c.self.invariant.0 in (
      subst (λ ws. AreSpans ws (found new)) (sym grown) spans,
      omega (arith, live, c.self.invariant.1),
      omega (arith, c.self.invariant.2, ap length grown, length-append before more),
    )

pub returns-clause-ok : goal.returns-clause-ok
returns-clause-ok c =
    let before = c.self.inside.words.items in
    let more = c.args.words.now in
    let es = c.self.inside.spans.entries in
    let new = c.insert.new.self.entries in
    let number = c.args.number in
    let now = c.extend_from_slice.new.self.items in
    let span : Span = record { place = c.len-place.result; len = length more } in
    let grown : now ≡ before ++ more = search rules in
    let own : found new number ≡ Some span = grind (arith, common_steps) in
    let others : (k : ℕ) → k ≢ number → found new k ≡ found es k = λ k apart. grind (arith, common_steps, apart) in
    let has : HasPut (words_at before (found es)) (words_at (before ++ more) (found new)) number more =
    put_has before more (found es) (found new) number span own others (omega arith) (omega arith) c.self.invariant.0 in
    subst (λ lists. HasPut (list_at lists) (words_at now (found new)) number more) c.self.view_is
    (subst (λ ws. HasPut (words_at before (found es)) (words_at ws (found new)) number more) (sym grown) has)

use Rattle.std.proofs.Common.{rules, ◌≡◌, sym, ap, subst, refl, ◌∙◌, arith}
use Rattle.std.specs.List.{filter}
use Rattle.std.specs.Ordering.{nat_cmp}
use Rattle.std.specs.BTreeSet.{contains}
use Rattle.std.proofs.lemmas.Map.Entries.{filter_from_retain_pairs}
use Rattle.gates.specs.Held.{if_kept}
use Rattle.gates.specs.inner.Spans.{found, words_at, list_at, AreSpans, live_words}
use Rattle.gates.proofs.Spans.{spans_kept, at_kept, live_filter}
use Rattle.gates.proofs.flat_lists.FlatLists.keep_only.Goals as goal

pub live_words-self-inside-requires : goal.live_words-self-inside-requires
live_words-self-inside-requires c =
    let numbers = c.args.numbers.now in
    let es = c.self.inside.spans.entries in
    let filtered : c.retain.new.self.entries ≡ filter (λ e. contains nat_cmp numbers e.0) es =
    filter_from_retain_pairs _ (λ f. f.0.now ≡ numbers) (λ e. contains nat_cmp numbers e.0) (λ g k v b w g' i t. search rules) _ es
    c.retain.new.self.entries refl c.retain.ensures.filtered in
    let same : live_words c.retain.new.self.entries ≡ live_words (filter (λ e. contains nat_cmp numbers e.0) es) = ap live_words filtered in
    omega (arith, same, live_filter (λ e. contains nat_cmp numbers e.0) es, c.self.invariant.1, c.self.invariant.2)

pub invariant_of-self : goal.invariant_of-self
invariant_of-self c =
    let numbers = c.args.numbers.now in
    let words = c.self.inside.words.items in
    let es = c.self.inside.spans.entries in
    let filtered : c.retain.new.self.entries ≡ filter (λ e. contains nat_cmp numbers e.0) es =
    filter_from_retain_pairs _ (λ f. f.0.now ≡ numbers) (λ e. contains nat_cmp numbers e.0) (λ g k v b w g' i t. search rules) _ es
    c.retain.new.self.entries refl c.retain.ensures.filtered in
    let same : live_words c.retain.new.self.entries ≡ live_words (filter (λ e. contains nat_cmp numbers e.0) es) = ap live_words filtered in (
      subst (λ fs. AreSpans words (found fs)) (sym filtered) (spans_kept words numbers es c.self.invariant.0),
      c.live_words-self-inside.ensures,
      omega (arith, c.live_words-self-inside.ensures, same, live_filter (λ e. contains nat_cmp numbers e.0) es, c.self.invariant.1, c.self.invariant.2),
    )

pub returns : goal.returns
returns c = λ k.
    let numbers = c.args.numbers.now in
    let words = c.self.inside.words.items in
    let es = c.self.inside.spans.entries in
    let filtered : c.retain.new.self.entries ≡ filter (λ e. contains nat_cmp numbers e.0) es =
    filter_from_retain_pairs _ (λ f. f.0.now ≡ numbers) (λ e. contains nat_cmp numbers e.0) (λ g k v b w g' i t. search rules) _ es
    c.retain.new.self.entries refl c.retain.ensures.filtered in
    c.close_up.ensures k
    ∙ ap (λ fs. words_at words (found fs) k) filtered
    ∙ at_kept words numbers es k
    ∙ ap (λ lists. if_kept numbers k (list_at lists k)) c.self.view_is

use Rattle.std.proofs.Common.{rules, ◌≡◌, ◌∷◌, sym, subst, ◌∙◌}
use Rattle.std.specs.Ordering.{nat_cmp}
use Rattle.std.specs.Cmp.{nat_cmp_total}
use Rattle.std.specs.Map.Iter.{deref_pair}
use Rattle.std.specs.BTreeMap.{IsOrdered}
use Rattle.std.proofs.lemmas.Map.Iter.{rest_more, btree_map_turn}
use Rattle.gates.specs.inner.Spans.{found, words_at, list_at, HasPut}
use Rattle.gates.proofs.Spans.{at_some, sorted_rest, all_but_rest}
use Rattle.gates.proofs.flat_lists.closed_up.Goals as goal

pub of-requires : goal.of-requires
of-requires c =
    let spans = c.args.spans.now in
    let ordered : IsOrdered nat_cmp spans = search rules in
    let start : c.into_iter-number-iterator.result ≡ spans.entries = search rules in
    let turn = btree_map_turn deref_pair c.loop-number.yielded c.into_iter-number-iterator.result c.loop-number.number-iterator c.next.new.self c.next.result
    (c.in-Some.number, c.in-Some.span)
    c.loop-number.yielded_by c.in-Some.is c.next.ensures.steps nat_cmp_total spans start ordered in
    c.requires.end c.in-Some.number.now c.in-Some.span.now turn.1

pub loop-number-preserved : goal.loop-number-preserved
loop-number-preserved c =
    let words = c.args.words.now in
    let spans = c.args.spans.now in
    let n = c.in-Some.number.now in
    let s = c.in-Some.span.now in
    let t = c.loop-number.number-iterator in
    let u = c.next.new.self in
    let ordered : IsOrdered nat_cmp spans = search rules in
    let start : c.into_iter-number-iterator.result ≡ spans.entries = search rules in
    let turn = btree_map_turn deref_pair c.loop-number.yielded c.into_iter-number-iterator.result t u c.next.result (c.in-Some.number, c.in-Some.span)
    c.loop-number.yielded_by c.in-Some.is c.next.ensures.steps nat_cmp_total spans start ordered in
    let left : t ≡ (n, s) ∷ u = rest_more deref_pair t u c.next.result (c.in-Some.number, c.in-Some.span) c.in-Some.is c.next.ensures.steps in
    let own : c.of.result.now ≡ words_at words (found spans.entries) n = c.of.ensures ∙ sym (at_some words (found spans.entries) n s turn.1) in
    let put : HasPut (list_at c.loop-number.lists) (list_at c.put.new.self) n (words_at words (found spans.entries) n) =
    subst (λ ws. HasPut (list_at c.loop-number.lists) (list_at c.put.new.self) n ws) own c.in_ok-put.ensures.ok in
    record {
      sorted = sorted_rest n s t u left c.loop-number.invariant.sorted;
      moved = all_but_rest (words_at words (found spans.entries)) (list_at c.loop-number.lists) (list_at c.put.new.self) n s t u left
          c.loop-number.invariant.sorted c.loop-number.invariant.moved put;
    }

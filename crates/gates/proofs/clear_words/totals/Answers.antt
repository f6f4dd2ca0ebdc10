use Rattle.std.proofs.Common.{◌≡◌, ◌++◌, ◌∷◌, [], ◌∙◌, ◌%◌, ◌^◌, sym, ap, sum, take, drop, map, rules}
use Rattle.std.specs.List.{range_with_len}
use Rattle.gates.proofs.WordSteps.{next_from, total_at, total_of_part, totals_more}
use Rattle.gates.proofs.clear_words.totals.Goals as goal

pub loop-part-preserved : goal.loop-part-preserved
loop-part-preserved c =
    let xs = c.args.xs.now in
    let size = c.args.size in
    let k = c.loop-part._part in
    let from = c.loop-part.from in
    let len = c.min-len.result in
    let is : c.total.result ≡ sum (take len (drop from xs)) % 2 ^ 64 = search rules in
    let whole : c.total.result ≡ total_at size xs k = is ∙ total_of_part size k len from xs c.loop-part.invariant.from c.min-len.ensures in
    record {
      words =
          c.in_ok-push.ensures.items
          ∙ ap (λ l. l ++ c.total.result ∷ []) c.loop-part.invariant.words
          ∙ ap (λ n. map (total_at size xs) (range_with_len 0 k) ++ n ∷ []) whole
          ∙ sym (totals_more size xs k);
      from = next_from size k len from _ c.loop-part.invariant.from c.min-len.ensures;
    }

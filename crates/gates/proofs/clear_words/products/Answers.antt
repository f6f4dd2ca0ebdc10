use Rattle.std.proofs.Common.{rules, ◌∙◌, take, ap}
use Rattle.std.proofs.lemmas.List.{with_items_is}
use Rattle.lane_kernel.specs.Lanewise.{placewise}
use Rattle.gates.proofs.WordSteps.{each_two_by_kernel}
use Rattle.gates.proofs.clear_words.products.Goals as goal

pub returns : goal.returns
returns g c =
    let op = g.R.ShareRing.ring.mul in
    let n = c.min-count.result in
    c.new.ensures
    ∙ with_items_is c.in_ok-words.words c.mul_into.new.acc (search rules)
    ∙ c.mul_into.ensures
    ∙ ap (λ w. placewise op w (take n c.args.ys.now)) (c.deref_mut.ensures.value ∙ c.in_ok-words.ensures.items)
    ∙ each_two_by_kernel op c.args.xs.now c.args.ys.now n c.min-count.ensures

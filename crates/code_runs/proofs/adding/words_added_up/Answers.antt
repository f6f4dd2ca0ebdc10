use Rattle.std.proofs.Common.{◌++◌, sym, ◌∙◌, ap, append-nil, arith}
use Rattle.gates.specs.Clear.{ring_of}
use Rattle.language_model.specs.Values.{ring_for}
use Rattle.code_runs.proofs.Sums.{none_left}
use Rattle.code_runs.proofs.adding.words_added_up.Goals as goal

pub returns : goal.returns
returns c =
    let words = c.loop-k.words.items in
    let none = none_left (ring_of (ring_for c.args.element)) c.args.first.now c.args.second.now c.args.third.now c.loop-k.k (omega arith) in
    sym (append-nil words) ∙ ap (λ rest. words ++ rest) (sym none) ∙ c.loop-k.invariant

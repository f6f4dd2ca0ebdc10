use Rattle.std.proofs.Common.{◌-◌, length, sym, ◌∙◌, ap}
use Rattle.gates.specs.Clear.{value}
use Rattle.own_code.proofs.Models.{nth_value-value}
use Rattle.miner_core.proofs.telling.last_words.Goals as goal

pub returns : goal.returns
returns c =
    let values = c.args.values.now in
    c.value.ensures ∙ ap (value values) (c.saturating_sub.ensures ∙ ap (λ n. n - 1) c.len.ensures) ∙ sym (nth_value-value values (length values - 1))

use Rattle.std.proofs.Common.{◌≤◌, length, get_or, subst, sym, ap, ◌∙◌, arith}
use Rattle.value_file.specs.Values.{count_of}
use Rattle.value_file.specs.declared.inputs.Entry.{Entry}
use Rattle.clear_eval.proofs.Inputs.{each_short}
use Rattle.clear_eval.proofs.offering.inputs_given.Goals as goal

pub input_given-requires : goal.input_given-requires
input_given-requires c =
    let same = c.entries-entry-items.ensures in
    let i = c.loop-entry.entry-index in
    let x = c.entry-item.result in
    subst (λ (y : Entry). count_of y.value ≤ 65536) (sym (c.entry-item.is ∙ ap (λ l. get_or l i x) same))
    (each_short c.args.inputs.now i x c.requires (omega (arith, ap length same)))

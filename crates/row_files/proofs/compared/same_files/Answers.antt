use Rattle.std.proofs.Common.{List, ◌∙◌, ap, arith, get_or}
use Rattle.outside.specs.MemFiles.{files_in}
use Rattle.row_files.proofs.Once.{one_more}
use Rattle.row_files.proofs.compared.same_files.Goals as goal
use Rattle.row_files.specs.declared.row.Text.{Text}

pub loop-index-preserved : goal.loop-index-preserved
loop-index-preserved c =
    let text = c.text-item.result in
    one_more c.args.row.now.texts.items (files_in c.args.outcome.now.files) c.loop-index.index text c.loop-index.all c.same_text-all.result
    (omega arith)
    (c.text-item.is ∙ ap (λ (texts : List Text). get_or texts c.loop-index.index text) c.deref-text-items.ensures.value)
    c.loop-index.invariant
    c.same_text-all.ensures

use Rattle.std.proofs.Common.{◌++◌, ap, ◌∙◌}
use Rattle.gather_command.proofs.Steps.{entries_in-more}
use Rattle.gather_command.proofs.gathering.all_entries.Goals as goal

pub loop-file-preserved : goal.loop-file-preserved
loop-file-preserved c =
    entries_in-more c.args.first.now.entries c.args.more.now c.loop-file.file-index c.file-item.result c.loop-file.all.items _ c.loop-file-test.true
    c.file-item.is c.loop-file.invariant
    (c.in_ok-add_entries-2.ensures ∙ ap (λ es. c.loop-file.all.items ++ es) c.entries-in-loop-file.ensures)

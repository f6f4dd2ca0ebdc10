use Rattle.std.proofs.Common.{ap, ◌∙◌}
use Rattle.serde_json.specs.View.{view}
use Rattle.value_file.specs.Public.{entry_data}
use Rattle.value_file.proofs.Loops.{shown-more}
use Rattle.value_file.proofs.public_writing.entries_json.Goals as goal

pub loop-entry-preserved : goal.loop-entry-preserved
loop-entry-preserved c =
    shown-more view entry_data _ _ _ c.args.entries.now c.loop-entry.entry-index c.entry-item.result
    c.loop-entry-test.true c.loop-entry.invariant c.in_ok-push.ensures.items
    (c.in_ok-entry_json.ensures ∙ ap entry_data c.entry-item.is)

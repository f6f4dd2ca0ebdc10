use Rattle.std.proofs.Common.{ap, ◌∙◌}
use Rattle.serde_json.specs.Data.{array}
use Rattle.serde_json.specs.View.{view, items_of}
use Rattle.value_file.proofs.Loops.{built-all, shown-more, view-list}
use Rattle.input_share.specs.Written.{entry_data}
use Rattle.input_share.proofs.writing.entries_json.Goals as goal

pub loop-entry-preserved : goal.loop-entry-preserved
loop-entry-preserved c =
    shown-more view entry_data _ _ _ c.args.entries.now c.loop-entry.entry-index c.entry-item.result
    c.loop-entry-test.true c.loop-entry.invariant c.in_ok-push.ensures.items
    (c.in_ok-entry_json.ensures ∙ ap entry_data c.entry-item.is)

pub returns : goal.returns
returns c =
    view-list _ ∙ ap (λ ds. array (items_of ds))
    (built-all entry_data _ c.args.entries.now c.loop-entry.entry-index c.loop-entry-test.false c.loop-entry.invariant)

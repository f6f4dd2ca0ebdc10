use Rattle.std.proofs.Common.{◌∙◌, rules}
use Rattle.sc_text.specs.Name.{is_name}
use Rattle.workload.proofs.Forms.{entries_are}
use Rattle.workload.proofs.inputs.load_inputs.Goals as goal

pub private_words-requires : goal.private_words-requires
unfolding is_name
private_words-requires c = search rules

pub private_words-requires-2 : goal.private_words-requires-2
unfolding is_name
private_words-requires-2 c = search rules

pub returns : goal.returns
returns c =
    c.new.ensures
    ∙ entries_are c.args.number c.new-entries.result.items _ _ _ _ c.in_ok-left.left.items c.in_ok-right.right.items c.new-entries.ensures.items
    c.in_ok-push.ensures.items c.in_ok-push-2.ensures.items c.in_ok-private_words.ensures c.in_ok-private_words-2.ensures c.in_ok-left.ensures
    c.in_ok-right.ensures

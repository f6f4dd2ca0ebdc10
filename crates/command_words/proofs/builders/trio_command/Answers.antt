use Rattle.std.proofs.Common.{codes}
use Rattle.clap.specs.Words.{new_app}
use Rattle.command_words.specs.Shapes.{command_app, trio_app}
use Rattle.command_words.specs.inner.Parts.{trio_required}
use Rattle.command_words.proofs.builders.trio_command.Goals as goal

pub returns : goal.returns
unfolding trio_app command_app trio_required
returns c =
    let worded = c.with_word-command.ensures (new_app (codes "trio")) (record { shape = c.new.ensures.app; local = c.new.ensures.local }) in
    let needed = rw c.trio_required.ensures at (c.with_options-command.ensures _ worded) in
    rw c.eval_options.ensures at (c.with_options.ensures _ needed)

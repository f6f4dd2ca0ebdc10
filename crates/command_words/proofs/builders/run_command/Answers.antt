use Rattle.std.proofs.Common.{codes}
use Rattle.clap.specs.Words.{new_app}
use Rattle.command_words.specs.Shapes.{command_app, run_app}
use Rattle.command_words.specs.inner.Parts.{run_options}
use Rattle.command_words.proofs.builders.run_command.Goals as goal

pub returns : goal.returns
unfolding run_app command_app run_options
returns c =
    let worded = c.with_word-command.ensures (new_app (codes "run")) (record { shape = c.new.ensures.app; local = c.new.ensures.local }) in
    let needed = rw c.as_slice.ensures at (c.with_options-command.ensures _ worded) in
    rw c.run_options.ensures at (c.with_options.ensures _ needed)

use Rattle.std.proofs.Common.{codes}
use Rattle.clap.specs.Words.{new_app}
use Rattle.command_words.specs.Shapes.{command_app, miner_app}
use Rattle.command_words.specs.inner.Parts.{miner_required}
use Rattle.command_words.proofs.builders.miner_command.Goals as goal

pub returns : goal.returns
unfolding miner_app command_app miner_required
returns c =
    let worded = c.with_word-command.ensures (new_app (codes "miner")) (record { shape = c.new.ensures.app; local = c.new.ensures.local }) in
    let needed = rw c.miner_required.ensures at (c.with_options-command.ensures _ worded) in
    rw c.eval_options.ensures at (c.with_options.ensures _ needed)
